-- What one pair leaves of the notes: nothing new where its labels are in one group, a note at the greater root where they are in two.
-- Assumes nothing.
use mathlib.Core.List.{List}
use mathlib.Core.Logic.{inl, inr, ◌⊎◌}
use mathlib.Core.Path.{ap, sym, ◌∙◌, ◌≡◌}
use Prim.Native.Nat.{max, min, ℕ}
use lib.ListN.{length, length-set}
use borrow.Author.Tests.{eq-eqb, ne_eqb}
use Rattle.groups.proofs.Merging.{Searched}
use Rattle.groups.specs.Groups.{root_of, SameGroups}
use Rattle.lists.proofs.Tests.{eq_or_ne}
use Rattle.lists.specs.Lists.{at}
use Rattle.spills.specs.Noting.{noted, noted_at, note_of}

-- what was found for the label of cell c, where c is cell d
pub found_at : (g h labels : List ℕ) (c d r : ℕ) → c ≡ d → (r ≡ root_of g (at labels c)) × SameGroups g h
    → (r ≡ root_of g (at labels d)) × SameGroups g h
found_at g h labels c d r e f = (f.0 ∙ ap (λ (x : ℕ). root_of g (at labels x)) e, f.1)

module _ (g : List ℕ) (a b p : ℕ) (notes : List ℕ) where
  pub noted_one : root_of g a ≡ root_of g b → noted g a b p notes ≡ notes
  unfolding noted
  noted_one e = rw (eq-eqb (root_of g a) (root_of g b) e)

  pub noted-two : (root_of g a ≡ root_of g b → ⊥) → noted g a b p notes ≡ noted_at p (root_of g a) (root_of g b) notes
  unfolding noted
  noted-two n = rw (ne_eqb (root_of g a) (root_of g b) n)

  pub noted-length : length (noted g a b p notes) ≡ length notes
  noted-length = go (eq_or_ne (root_of g a) (root_of g b))
    where
      go : (root_of g a ≡ root_of g b) ⊎ (root_of g a ≡ root_of g b → ⊥) → length (noted g a b p notes) ≡ length notes
      go (inl e) = ap length (noted_one e)
      go (inr n) = ap length (noted-two n) ∙ length-set notes (max (root_of g a) (root_of g b)) (note_of p (min (root_of g a) (root_of g b)))

  -- the same by what two searches found
  module _ {h : List ℕ} {r s : ℕ} (F : Searched g a b h r s) where
    pub found_one : r ≡ s → notes ≡ noted g a b p notes
    found_one e = sym (noted_one (sym F.one ∙ e ∙ F.other))

    pub found_two : {after : List ℕ} → (r ≡ s → ⊥) → after ≡ noted_at p r s notes → after ≡ noted g a b p notes
    found_two n e =
        e
        ∙ ap (λ (x : ℕ). noted_at p x s notes) F.one
        ∙ ap (λ (x : ℕ). noted_at p (root_of g a) x notes) F.other
        ∙ sym (noted-two (λ q. n (F.one ∙ q ∙ sym F.other)))
