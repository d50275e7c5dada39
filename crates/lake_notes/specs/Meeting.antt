-- What one pair of neighbouring cells changes in the lists of the pass, and what these lists say after any number of pairs.
-- Assumes nothing.
use Rattle.std.specs.Prelude.{cond, ◌&&◌, List, ◌≡◌, max, min, ℕ, ◌<◌, ◌≤◌, ltb, length, set}
use Rattle.groups.specs.Groups.{Follows, Joined, root_of, SameGroup, SameGroups}
use Rattle.lake_notes.specs.WetPairs.{met_touches}
use Rattle.lake_rules.specs.Groups.{Touch, touching}
use Rattle.lake_rules.specs.Notes.{highest, up_from}
use Rattle.lake_rules.specs.Passing.{pairs_below, Passed}
use Rattle.lists.specs.Lists.{at, tab, upto, ◌∈◌}
use Rattle.rules.proofs.Labels.{Within}
use Rattle.rules.specs.Land.{Land, rule4}
use Rattle.rules.specs.Tile.{tile_land}

-- the groups so far; the least height of each, at its root; what is flagged; and where each cell was hung, at what height
pub record Lists : Type 0 where
  pub group : List ℕ
  pub lows : List ℕ
  pub flags : List ℕ
  pub parents : List ℕ
  pub joins : List ℕ

abbrev pub lists_of : (group lows flags parents joins : List ℕ) → Lists
lists_of group lows flags parents joins = record { group = group; lows = lows; flags = flags; parents = parents; joins = joins }

-- a pair of the cells a and b
module _ (height : ℕ → ℕ) (a b : ℕ) where
  abbrev pub pair_top : ℕ
  pair_top = max (height a) (height b)

  abbrev pub higher : ℕ
  higher = cond (ltb (height a) (height b)) b a

  -- the flags once the groups with the roots r and s meet: where each has a cell lower than the pair, the pair's higher cell is flagged
  abbrev pub flags_met : (lows : List ℕ) (r s : ℕ) (flags : List ℕ) → List ℕ
  flags_met lows r s flags = cond (ltb (at lows r) pair_top && ltb (at lows s) pair_top) (set flags higher 1) flags

  -- the lists before and after the pair
  pub data Met (old new : Lists) : Type 0 where
    -- its cells are in one group already
    within_one : SameGroup old.group a b → SameGroups old.group new.group → new.lows ≡ old.lows → new.flags ≡ old.flags
        → new.parents ≡ old.parents → new.joins ≡ old.joins → Met old new
    -- it joins two: the greater root is hung under the lesser at the pair's height
    between_two : (r s : ℕ) → r ≡ root_of old.group a → s ≡ root_of old.group b → (r ≡ s → ⊥) → Joined old.group a b new.group
        → new.lows ≡ set old.lows (min r s) (min (at old.lows r) (at old.lows s))
        → new.flags ≡ flags_met old.lows r s old.flags → new.parents ≡ set old.parents (max r s) (min r s)
        → new.joins ≡ set old.joins (max r s) pair_top → Met old new

-- each list has an entry for each of n cells, and the groups no more
pub record Sized (n : ℕ) (l : Lists) : Type 0 where
  pub group_sized : length l.group ≡ n
  pub lows_fit : n ≤ length l.lows
  pub flags_fit : n ≤ length l.flags
  pub parents_fit : n ≤ length l.parents
  pub joins_fit : n ≤ length l.joins

-- where each of n cells leads at height h
abbrev pub cut : (n : ℕ) (parents joins : List ℕ) (h : ℕ) → List ℕ
cut n parents joins h = tab n (up_from parents joins h)

-- the least height of each group, at its root
pub record LowsTell (n : ℕ) (height : ℕ → ℕ) (group lows : List ℕ) : Type 0 where
  pub least : (c : ℕ) → c < n → at lows (root_of group c) ≤ height c
  pub met : (c : ℕ) → c < n → (d : ℕ) × (d < n) × SameGroup group d c × (height d ≡ at lows (root_of group c))

module _ (L : Land) (es : List Touch) where
  -- what is flagged are the cells that a pass over the pairs flags
  pub record FlagsTell (flags : List ℕ) : Type 0 where
    pub flagged : List ℕ
    pub passed : Passed L es flagged
    pub only : (c : ℕ) → c < L.cells → at flags c ≡ 1 → c ∈ flagged
    pub all : (c : ℕ) → c ∈ flagged → at flags c ≡ 1

  -- the lists after the pairs es: the groups are those of all these pairs, and cut at any height h those of the pairs below h
  pub record SoFar (l : Lists) : Type 0 where
    pub on_land : Within touching L.cells es
    pub groups : Follows touching (upto L.cells) es l.group
    pub cuts : (h : ℕ) → Follows touching (upto L.cells) (pairs_below L h es) (cut L.cells l.parents l.joins h)
    pub parent_less : (c : ℕ) → c < L.cells → at l.joins c < highest → at l.parents c < c
    pub lows_tell : LowsTell L.cells L.height l.group l.lows
    pub flags_tell : FlagsTell l.flags

-- after all pairs of a list, whatever the marks of the tile; the groups and the lows are work space
pub record Ended (w : ℕ) (heights list flags parents joins : List ℕ) : Type 0 where
  pub group : List ℕ
  pub lows : List ℕ
  pub sized : Sized (length heights) (lists_of group lows flags parents joins)
  pub so_far : (marks : List ℕ) → SoFar (tile_land rule4 w heights marks) (met_touches w list (length list))
      (lists_of group lows flags parents joins)
