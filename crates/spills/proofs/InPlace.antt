-- Notes become spills in place: below b spills stand, from b on notes. A note says a lesser label, so what is stored at b changes no
-- spill below b.
-- Assumes nothing.
use mathlib.Core.List.{List}
use mathlib.Core.Logic.{inl, inr, ◌⊎◌}
use mathlib.Core.Path.{ap, refl, sym, ◌∙◌, ◌≡◌}
use Prim.Native.Nat.{max, ℕ, ◌%◌, ◌+◌, ◌/◌, ◌<◌, ◌≤◌}
use native.Mathlib.Omega.{arith}
use lib.ListN.{length, length-set, set}
use lib.Seq.{get_or-set_other, get_or-set_same}
use Rattle.lists.proofs.Tests.{eq_or_ne}
use Rattle.lists.specs.Lists.{at}
use Rattle.pairs.specs.Pairs.{pair_height}
use Rattle.spills.proofs.Spilled.{read_some, spill-none, spill_some}
use Rattle.spills.specs.Noting.{no_note, Readable, spill_by, SpillsBy}

pub record InPlace (w : ℕ) (heights old : List ℕ) (b : ℕ) (new : List ℕ) : Type 0 where
  pub long : length new ≡ length old
  pub spills : (k : ℕ) → k < b → at new k ≡ spill_by w heights new (at old k)
  pub notes : (k : ℕ) → b ≤ k → at new k ≡ at old k

pub in_place-none : (w : ℕ) (heights old : List ℕ) → InPlace w heights old 0 old
in_place-none w heights old = record { long = refl; spills = λ k h. absurd (omega arith); notes = λ k h. refl }

-- a note says one spill, in lists that agree below its label
spill_same : (w : ℕ) (heights s t : List ℕ) (n b note : ℕ) → Readable w n b note → ((q : ℕ) → q < b → at s q ≡ at t q)
    → spill_by w heights s note ≡ spill_by w heights t note
spill_same w heights s t n b note r f = go (eq_or_ne note no_note)
  where
    go : (note ≡ no_note) ⊎ (note ≡ no_note → ⊥) → spill_by w heights s note ≡ spill_by w heights t note
    go (inl e) = spill-none w heights s note e ∙ sym (spill-none w heights t note e)
    go (inr z) =
        spill_some w heights s note z
        ∙ ap (max (pair_height w heights (note / 65536))) (f (note % 65536) (read_some w n b note r z).1)
        ∙ sym (spill_some w heights t note z)

module _ {w : ℕ} {heights old : List ℕ} {b : ℕ} {new : List ℕ} (I : InPlace w heights old b new)
    (r : (k : ℕ) → k ≤ 4096 → Readable w (length heights) k (at old k)) where
  -- the note at b, that can be read in a list that reaches past b
  pub read_here : b ≤ 4096 → b < length new → Readable w (length heights) (length new) (at new b)
  read_here h l = rw (I.notes b (omega arith)) (go (r b h))
    where
      go : Readable w (length heights) b (at old b) → Readable w (length heights) (length new) (at old b)
      go (inl e) = inl e
      go (inr (x, y)) = inr (x, omega arith)

  pub in_place-next : (v : ℕ) → b ≤ 4096 → b < length new → v ≡ spill_by w heights new (at new b) → InPlace w heights old (b + 1) (set new b v)
  in_place-next v h l e =
      record {
        long = length-set new b v ∙ I.long;
        spills = λ k j. stored k j (eq_or_ne k b) ∙ unmoved k j;
        notes = λ k j. get_or-set_other new b k v 0 (λ z. omega arith) ∙ I.notes k (omega arith);
      }
    where
      stored : (k : ℕ) → k < b + 1 → (k ≡ b) ⊎ (k ≡ b → ⊥) → at (set new b v) k ≡ spill_by w heights new (at old k)
      stored k j (inl z) =
          ap (at (set new b v)) z
          ∙ get_or-set_same new b v 0 l
          ∙ e
          ∙ ap (spill_by w heights new) (I.notes b (omega arith))
          ∙ ap (λ (x : ℕ). spill_by w heights new (at old x)) (sym z)
      stored k j (inr z) = get_or-set_other new b k v 0 z ∙ I.spills k (omega (arith, z))

      unmoved : (k : ℕ) → k < b + 1 → spill_by w heights new (at old k) ≡ spill_by w heights (set new b v) (at old k)
      unmoved k j =
          spill_same w heights new (set new b v) (length heights) k (at old k) (r k (omega arith))
          (λ q i. sym (get_or-set_other new b q v 0 (λ z. omega arith)))

pub in_place-all : {w : ℕ} {heights old : List ℕ} {b : ℕ} {new : List ℕ} → InPlace w heights old b new → SpillsBy w heights old b new
in_place-all I k h = I.spills k h
