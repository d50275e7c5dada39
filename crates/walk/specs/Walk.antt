-- The walk from the outlets along the links: what it is given, and what it leaves.
-- Assumes nothing.
use Rattle.std.specs.Prelude.{◌≡◌, ℕ, ◌+◌, ◌≤◌, List, length, drop}
use Rattle.lists.specs.Lists.{at, filled, overwrite}
use Rattle.lists.specs.Stores.{Noted}
use Rattle.rules.specs.Land.{Land, Rule}
use Rattle.rules.specs.Links.{Linkage}
use Rattle.rules.specs.Network.{level, order, wet}
use Rattle.rules.specs.Tile.{tile_land}

-- the five lent lists: the walk fills four, and the stack is its work space
pub record Lent : Type 0 where
  pub stack : List ℕ
  pub order : List ℕ
  pub receivers : List ℕ
  pub levels : List ℕ
  pub wets : List ℕ

abbrev pub lent : (stack order receivers levels wets : List ℕ) → Lent
lent s o r l v = record { stack = s; order = o; receivers = r; levels = l; wets = v }

-- each has a place for each of n cells
pub record LentHolds (n : ℕ) (s : Lent) : Type 0 where
  pub fits_stack : n ≤ length s.stack
  pub fits_order : n ≤ length s.order
  pub fits_receivers : n ≤ length s.receivers
  pub fits_levels : n ≤ length s.levels
  pub fits_wets : n ≤ length s.wets

-- links of receivers r, with a margin of 65 entries on both sides of them, so that every cell has entries beside it
pub record Margin (R : Rule) (w : ℕ) (heights marks links r : List ℕ) : Type 0 where
  pub inside : Linkage R w heights marks (drop 65 links) r
  pub wide : length heights + 130 ≤ length links

-- what the walk leaves: the order of rule 8, for its cells the receivers and the wetness of rule 10, and the levels of rule 7;
-- all else is as it was, and so is what is past the cells' places on the stack
pub record Walked (L : Land) (r : List ℕ) (s s' : Lent) : Type 0 where
  pub order_is : s'.order ≡ overwrite (order L r) s.order
  pub receivers_are : Noted (at r) (order L r) s.receivers s'.receivers
  pub levels_are : s'.levels ≡ filled (level L r) L.cells s.levels
  pub wets_are : Noted (wet L r) (order L r) s.wets s'.wets
  pub past : drop L.cells s'.stack ≡ drop L.cells s.stack

-- what `walk_links` promises, of whatever receivers the links are
abbrev pub LinksWalked : Rule → (w : ℕ) (heights marks links : List ℕ) (before after : Lent) → Type 0
LinksWalked R w heights marks links before after =
    (r : List ℕ) → Margin R w heights marks links r → Walked (tile_land R w heights marks) r before after

-- what that is where no cell is a hole: every cell stands in the order, and each list has every cell's entry
pub record WalkedWhole (L : Land) (r : List ℕ) (s s' : Lent) : Type 0 where
  pub order_is : s'.order ≡ overwrite (order L r) s.order
  pub receivers_are : s'.receivers ≡ overwrite r s.receivers
  pub levels_are : s'.levels ≡ filled (level L r) L.cells s.levels
  pub wets_are : s'.wets ≡ filled (wet L r) L.cells s.wets
  pub past : drop L.cells s'.stack ≡ drop L.cells s.stack
