-- There is room for all passes after a cell's own weight, as the whole is a mask of eight bits; and what they leave are the masks of the links.
-- Assumes nothing.
use mathlib.Core.List.{List}
use mathlib.Core.Path.{ap, ◌∙◌, ◌≡◌}
use Prim.Native.Nat.{ℕ, ◌+◌, ◌-◌, ◌≤◌}
use native.Mathlib.Omega.{arith}
use lib.ListN.{length}
use Rattle.grid.proofs.Masks.{mask_small}
use Rattle.grid.proofs.Rules.{around_rule}
use Rattle.grid.specs.Masks.{joined, mask_of}
use Rattle.grid.specs.Window.{around}
use Rattle.links.proofs.FlatPasses.{both_past}
use Rattle.links.proofs.Leads.{added_all, all_links}
use Rattle.links.specs.Leads.{Added, Fits, Leading}
use Rattle.lists.proofs.Filled.{filled_at, filled-by, filled-length, filled_past}
use Rattle.lists.specs.Lists.{at, filled}
use Rattle.grid.specs.declared.Neighbours.{Neighbours}

module _ {N : Neighbours} {w n : ℕ} {f : ℕ → ℕ} {weights : List ℕ} (K : Leading N w n f weights) where
  pub own_fits : (old l : List ℕ) → l ≡ filled (at weights) n old → Fits (added_all w n weights) n l
  own_fits old l e i h =
      let q : at l i ≡ at weights i = ap (λ (z : List ℕ). at z i) e ∙ filled_at (at weights) n old i h in
      let a = all_links K i h in
      let s = mask_small K.grid.rows around_rule i (joined f) in
      omega arith

  pub all-passes : (old l new : List ℕ) → n ≤ length old → l ≡ filled (at weights) n old → Added (added_all w n weights) l new
      → new ≡ filled (mask_of around w n (joined f)) n old
  all-passes old l new h e A =
      filled-by (mask_of around w n (joined f)) n old new h
      (A.size ∙ ap length e ∙ filled-length (at weights) n old h)
      (λ i b. let q : at l i ≡ at weights i = ap (λ (z : List ℕ). at z i) e ∙ filled_at (at weights) n old i b in
      let a = A.sums i in let t = all_links K i b in omega arith)
      (λ i b. let q : at l i ≡ at old i = ap (λ (z : List ℕ). at z i) e ∙ filled_past (at weights) n old i b in
      let a = A.sums i in
      let z₁ = both_past 1 weights 8 16 n i b in let z₂ = both_past w weights 2 64 n i b in
      let z₃ = both_past (w - 1) weights 4 32 n i b in let z₄ = both_past (w + 1) weights 1 128 n i b in omega arith)
