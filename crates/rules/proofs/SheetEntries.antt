-- W-205, case by case: the entries of sheet flow's receivers, over any levels of a land; and a cell with a neighbour that is strictly lower
-- receives to the lowest.
-- Assumes nothing.
use mathlib.Core.Bool.{false, true}
use mathlib.Core.List.Memᴰ.{not-nil as in-none}
use mathlib.Core.List.{[], List, ◌∷◌}
use mathlib.Core.Logic.{inl, inr, ◌⊎◌}
use mathlib.Core.Path.{subst, ◌∙◌, ◌≡◌}
use Prim.Native.Nat.{suc, zero, ℕ, ◌-◌, ◌<◌, ◌≤◌}
use native.Mathlib.Omega.{arith}
use lib.Dec.{ltb}
use borrow.Author.Tests.{lt-ltb, ltb-true}
use Rattle.lists.proofs.Any.{any_holds, any_member}
use Rattle.lists.proofs.Keep.{keep_holds, keep_member}
use Rattle.lists.proofs.Range.{upto-below, upto_holds}
use Rattle.lists.proofs.Tab.{tab-at}
use Rattle.lists.proofs.Tests.{lt_or_ge, same_ltb}
use Rattle.lists.specs.Greatest.{greatest}
use Rattle.lists.specs.Lists.{at, tab, upto, ◌∈◌}
use Rattle.rules.proofs.Steepest.{first_steepest}
use Rattle.rules.specs.FirstWays.{first_receiver, lower_neighbours, neighbours, no_cell}
use Rattle.rules.specs.Land.{Land}
use Rattle.rules.specs.Sheet.{count, ends_count, falls, level_land, level_step, sheet_receiver, sheet_receivers}
use Rattle.rules.specs.SheetLaw.{ToLowest}
use Rattle.rules.specs.Steepest.{Steepest}

at-greatest : (l : List ℕ) (k : ℕ) → at l k ≤ greatest l
at-greatest [] k = omega arith
at-greatest (x ∷ xs) zero = omega arith
at-greatest (x ∷ xs) (suc k) = let h = at-greatest xs k in omega arith

-- a neighbour is a member of the list of neighbours, both ways
pub neighbours_holds : (L : Land) (c d : ℕ) → d < L.cells → L.beside c d ≡ true → d ∈ neighbours L c
unfolding neighbours
neighbours_holds L c d h b = keep_holds (L.beside c) (upto_holds h) b

pub neighbours_member : (L : Land) (c d : ℕ) → d ∈ neighbours L c → (d < L.cells) × (L.beside c d ≡ true)
unfolding neighbours
neighbours_member L c d m = let (i, b) = keep_member (L.beside c) (upto L.cells) m in (upto-below i, b)

module _ (L : Land) (levels : List ℕ) where
  -- a cell falls exactly if a neighbour is strictly lower
  pub falls-to : (c d : ℕ) → d ∈ neighbours L c → at levels d < at levels c → falls L levels c ≡ true
  unfolding falls
  falls-to c d m l = any_holds (λ e. ltb (at levels e) (at levels c)) m (lt-ltb _ _ l)

  pub lower-one : (c : ℕ) → falls L levels c ≡ true → (d : ℕ) × (d ∈ neighbours L c) × (at levels d < at levels c)
  unfolding falls
  lower-one c f =
      let (d, m, t) = any_member (λ e. ltb (at levels e) (at levels c)) (neighbours L c) f in
      (d, m, ltb-true _ _ t)

  -- where it doesn't, and is no outlet, the count doesn't end
  pub ends-not : (c : ℕ) → L.outlet c ≡ false → falls L levels c ≡ false → ends_count L levels c ≡ false
  unfolding ends_count
  ends-not c o f = rw (o, f)

  -- one that falls receives to the lowest: by rule 1, with the drop from the highest level for steepness
  depth : ℕ → ℕ
  depth d = greatest levels - at levels d

  lower_holds : (c d : ℕ) → d ∈ neighbours L c → at levels d < at levels c → d ∈ lower_neighbours (level_land L levels) c
  unfolding lower_neighbours neighbours
  lower_holds c d m l = keep_holds (λ e. ltb (at levels e) (at levels c)) m (lt-ltb _ _ l)

  lower_member : (c d : ℕ) → d ∈ lower_neighbours (level_land L levels) c → (d ∈ neighbours L c) × (at levels d < at levels c)
  unfolding lower_neighbours neighbours
  lower_member c d m =
      let (i, t) = keep_member (λ e. ltb (at levels e) (at levels c)) (neighbours L c) m in
      (i, ltb-true _ _ t)

  pub to-lowest : (c d : ℕ) → L.outlet c ≡ false → d ∈ neighbours L c → at levels d < at levels c
      → ToLowest L levels c (first_receiver (level_land L levels) c)
  unfolding depth
  to-lowest c d o m l = go (first_steepest (level_land L levels) c depth deeper o)
    where
      deeper : (a b : ℕ) → ltb (at levels a) (at levels b) ≡ ltb (depth b) (depth a)
      deeper a b =
          let x = at-greatest levels a in
          let y = at-greatest levels b in
          same_ltb (at levels a) (at levels b) (depth b) (depth a) (λ h. omega arith) (λ h. omega arith)

      go : ((lower_neighbours (level_land L levels) c ≡ []) × (first_receiver (level_land L levels) c ≡ c))
          ⊎ Steepest (level_land L levels) depth c (first_receiver (level_land L levels) c)
          → ToLowest L levels c (first_receiver (level_land L levels) c)
      go (inl (e, q)) = absurd (in-none (subst (λ (k : List ℕ). d ∈ k) e (lower_holds c d m l)))
      go (inr S) =
          record {
            neighbour = (lower_member c _ S.lower).0;
            lower = (lower_member c _ S.lower).1;
            lowest = λ e i. at_most e i (lt_or_ge (at levels e) (at levels c));
            first = λ e i q. not_before e i q (lt_or_ge e (first_receiver (level_land L levels) c));
          }
        where
          best : ℕ
          best = first_receiver (level_land L levels) c

          below : at levels best < at levels c
          below = (lower_member c _ S.lower).1

          at_most : (e : ℕ) → e ∈ neighbours L c → (at levels e < at levels c) ⊎ (at levels c ≤ at levels e) → at levels best ≤ at levels e
          at_most e i (inl h) =
              let x = S.most e (lower_holds c e i h) in
              let y = at-greatest levels e in
              let z = at-greatest levels best in
              omega arith
          at_most e i (inr h) = omega (arith, below)

          not_before : (e : ℕ) → e ∈ neighbours L c → at levels e ≡ at levels best → (e < best) ⊎ (best ≤ e) → best ≤ e
          not_before e i q (inl h) = let x = S.first e (lower_holds c e i (omega (arith, below))) h in absurd (omega arith)
          not_before e i q (inr h) = h

  -- the entries of the receivers, case by case
  module _ (c : ℕ) (h : c < L.cells) where
    entry : at (sheet_receivers L levels) c ≡ sheet_receiver L levels (tab L.cells (count L levels)) c
    unfolding sheet_receivers
    entry = tab-at (sheet_receiver L levels (tab L.cells (count L levels))) L.cells c 0 h

    pub entry_hole : L.solid c ≡ false → at (sheet_receivers L levels) c ≡ no_cell
    unfolding sheet_receiver
    entry_hole s = entry ∙ rw s

    pub entry_outlet : L.solid c ≡ true → L.outlet c ≡ true → at (sheet_receivers L levels) c ≡ c
    unfolding sheet_receiver
    entry_outlet s o = entry ∙ rw (s, o)

    pub entry_falling : L.solid c ≡ true → L.outlet c ≡ false → falls L levels c ≡ true
        → at (sheet_receivers L levels) c ≡ first_receiver (level_land L levels) c
    unfolding sheet_receiver
    entry_falling s o f = entry ∙ rw (s, o, f)

    pub entry_level : L.solid c ≡ true → L.outlet c ≡ false → falls L levels c ≡ false
        → at (sheet_receivers L levels) c ≡ level_step L levels (tab L.cells (count L levels)) c
    unfolding sheet_receiver
    entry_level s o f = entry ∙ rw (s, o, f)
