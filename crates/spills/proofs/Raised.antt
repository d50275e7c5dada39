-- Heights raised to spills: what the last loop leaves is what is promised, and no other list is.
-- Assumes nothing.
use mathlib.Core.List.{List}
use mathlib.Core.Path.{ap, sym, ◌∙◌, ◌≡◌}
use Prim.Native.Nat.{max, ℕ, ◌<◌, ◌≤◌}
use native.Mathlib.Nat.{le_refl}
use native.Mathlib.Omega.{arith}
use lib.ListN.{length}
use lib.Seq.{ext_get_or}
use Rattle.lists.proofs.Filled.{filled_at, filled-length}
use Rattle.lists.specs.Lists.{at, filled}
use Rattle.spills.proofs.Spilled.{cell_spill}
use Rattle.spills.specs.Noting.{Noting, SpillsBy}
use Rattle.spills.specs.Spills.{Raised, Spill, Spilling}

module _ {w : ℕ} {heights labels list : List ℕ} where
  pub raised_by : (spills : List ℕ) {g notes after : List ℕ} → Spilling w heights labels list → Noting w heights labels list g notes
      → {top : ℕ} → top ≤ 4097 → ((c : ℕ) → at labels c < top) → SpillsBy w heights notes top spills
      → after ≡ filled (λ c. max (at heights c) (at spills (at labels c))) (length heights) heights → Raised w heights labels list after
  raised_by ss S Q few below B e =
      record {
        long = ap length e ∙ filled-length (λ c. max (at heights c) (at ss (at labels c))) (length heights) heights (le_refl (length heights));
        raised = λ c h. (
          at ss (at labels c),
          cell_spill S Q ss few B c (omega (arith, S.labelled)) (below c),
          ap (λ (l : List ℕ). at l c) e ∙ filled_at (λ c. max (at heights c) (at ss (at labels c))) (length heights) heights c h,
        );
      }

  -- a label has one spill
  pub spill_one : {b s t : ℕ} → Spill w heights labels list b s → Spill w heights labels list b t → s ≡ t
  spill_one {b} {s} {t} A B =
      let x : s ≤ t = A.least t B.enough in
      let y : t ≤ s = B.least s A.enough in
      omega arith

  pub raised_one : {one other : List ℕ} → Raised w heights labels list one → Raised w heights labels list other → one ≡ other
  raised_one {one} {other} A B =
      ext_get_or 0 one other (A.long ∙ sym B.long) (λ c h.
      let k : c < length heights = omega (arith, A.long) in
      let (s, S, e) = A.raised c k in
      let (t, T, f) = B.raised c k in
      e ∙ ap (max (at heights c)) (spill_one S T) ∙ sym f)
