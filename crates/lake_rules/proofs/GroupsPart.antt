-- The groups of a set part it: the laws of groups by labels, for the labels of cells joined through neighbours.
-- Assumes nothing.
use mathlib.Core.List.{List, map}
use mathlib.Core.Path.{◌≡◌}
use Prim.Native.Nat.{ℕ, ◌<◌, ◌≤◌}
use lib.ListN.{length}
use Rattle.lake_rules.proofs.Partition.{by_label_ascending, by_label_cell, by_label-firsts, by_label_lengths, by_label-not_empty}
use Rattle.lake_rules.proofs.Partition.{by_label_once, by_label_only, by_label_some, by_label-sum}
use Rattle.lake_rules.specs.Groups.{groups, least_of, touches, touching}
use Rattle.lists.proofs.Ascending.{ascending_first, ascending_keep}
use Rattle.lists.specs.Ascending.{Ascending}
use Rattle.lists.specs.Lists.{at, Once, sum, ◌∈◌}
use Rattle.rules.specs.Chain.{labels}
use Rattle.rules.specs.Land.{Land}

module _ (L : Land) (s : List ℕ) (u : Ascending s) where
  abbrev ls : List ℕ
  ls = labels touching L.cells (touches L s)

  pub groups_cell : {g : List ℕ} → g ∈ groups L s → {a : ℕ} → a ∈ g → a ∈ s
  unfolding groups
  groups_cell m i = by_label_cell ls s u m i

  pub groups-not_empty : {g : List ℕ} → g ∈ groups L s → 0 < length g
  unfolding groups
  groups-not_empty m = by_label-not_empty ls s u m

  pub groups_ascending : {g : List ℕ} → g ∈ groups L s → Ascending g
  unfolding groups
  groups_ascending m = by_label_ascending ls s u m

  -- the first cell of a group is its least
  pub groups-first : {g : List ℕ} → g ∈ groups L s → {a : ℕ} → a ∈ g → at g 0 ≤ a
  groups-first {g} m i = ascending_first g (groups_ascending m) i

  -- smaller least cell first
  pub groups-by-least : Ascending (map (λ g. at g 0) (groups L s))
  unfolding groups
  groups-by-least = rw (by_label-firsts ls s u) (ascending_keep (least_of ls s) s u)

  -- every cell is in a group, and in no other
  pub groups_some : {a : ℕ} → a ∈ s → (g : List ℕ) × (g ∈ groups L s) × (a ∈ g)
  unfolding groups
  groups_some m = by_label_some ls s u m

  pub groups_only : {g g' : List ℕ} {a : ℕ} → g ∈ groups L s → g' ∈ groups L s → a ∈ g → a ∈ g' → g ≡ g'
  unfolding groups
  groups_only m n i j = by_label_only ls s u m n i j

  -- and no group is listed twice
  pub groups_once : Once (groups L s)
  unfolding groups
  groups_once = by_label_once ls s u

  -- sums over the groups add up, and so do their numbers of cells
  pub groups-sum : (f : ℕ → ℕ) → sum (map (λ g. sum (map f g)) (groups L s)) ≡ sum (map f s)
  unfolding groups
  groups-sum f = by_label-sum ls s u f

  pub groups_lengths : sum (map length (groups L s)) ≡ length s
  unfolding groups
  groups_lengths = by_label_lengths ls s u
