-- The square that begins at a cell: its six pairs stand on the tile, are neighbours where they are asked for, and have keys.
-- Assumes nothing.
use mathlib.Core.Bool.{true}
use mathlib.Core.List.{List}
use mathlib.Core.Path.{refl, ◌≡◌}
use Prim.Native.Nat.{ℕ, ◌%◌, ◌+◌, ◌<◌, ◌^◌}
use native.Mathlib.Omega.{arith}
use lib.ListN.{length}
use lib.Pow.{pow-lt}
use Rattle.grid.proofs.Rules.{rule_by_lem}
use Rattle.grid.proofs.Window.{beside_mutual, stands_beside}
use Rattle.grid.specs.Neighbours.{places_by}
use Rattle.lists.specs.Lists.{at, ◌∈◌}
use Rattle.rules.specs.Land.{Land, rule_by}
use Rattle.rules.specs.NodeLabels.{Labelled}
use Rattle.rules.specs.Passes.{node}
use Rattle.rules.specs.Tile.{Tile, tile_land}
use Rattle.squares.proofs.SquareKeys.{Differ, greater_at, Keyed, keyed, key_of, last_on, lesser_at, pair_on, place_at, six}
use Rattle.grid.specs.declared.Neighbours.{Neighbours}

-- a tile with labels, and a cell at which a square begins: neither the last of its row nor in the last row
pub record Square (N : Neighbours) (w : ℕ) (heights marks labels : List ℕ) (c : ℕ) : Type 0 where
  pub tile : Tile w heights marks
  pub labelled : Labelled (tile_land (rule_by N) w heights marks) labels
  pub column : c % w + 1 < w
  pub above : c + w < length heights

module _ {N : Neighbours} {w : ℕ} {heights marks labels : List ℕ} {c : ℕ} (S : Square N w heights marks labels c) where
  abbrev pub land : Land
  land = tile_land (rule_by N) w heights marks

  abbrev n : ℕ
  n = length heights

  pub wide : 1 < w
  wide = omega (arith, S.column)

  -- its last cell is on the tile
  pub last : c + w + 1 < length heights
  last = last_on S.tile.grid.rows c S.column S.above

  pub both : (a b : ℕ) → land.beside a b ≡ true → land.beside b a ≡ true
  both a b t = beside_mutual (places_by N) w a b (rule_by_lem N) t

  -- the pair of number i is one of neighbours that are asked for
  abbrev pub Asked : ℕ → Type 0
  Asked i = place_at w c i ∈ places_by N

  pub next-to : (i : ℕ) → i < 6 → Asked i → land.beside (lesser_at w c i) (greater_at w c i) ≡ true
  next-to i h m = stands_beside (pair_on S.tile.grid.rows c S.column S.above i h) m

  abbrev pub Differs : ℕ → Type 0
  Differs i = Differ land w heights labels (λ a. refl) c wide i

  abbrev pub key : ℕ → ℕ
  key i = key_of land w heights labels (λ a. refl) c wide i

  -- cells in different nodes have different labels
  pub labels_differ : (a b : ℕ) → a < n → b < n → (node land a ≡ node land b → ⊥) → at labels a ≡ at labels b → ⊥
  labels_differ a b h k z e = z (S.labelled.same a b h k e)

  pub on_tile_fact : (i : ℕ) → i < 6 → (lesser_at w c i < n) × (greater_at w c i < n)
  on_tile_fact =
      let l = last in
      six (λ i. (lesser_at w c i < n) × (greater_at w c i < n))
      (omega arith, omega arith) (omega arith, omega arith) (omega arith, omega arith) (omega arith, omega arith) (omega arith, omega arith)
      (omega arith, omega arith)

  pub key_tells : (i : ℕ) → i < 6 → Keyed (key i) (2 ^ i)
  key_tells i h =
      keyed (at labels (lesser_at w c i)) (at labels (greater_at w c i)) (at heights (lesser_at w c i)) (at heights (greater_at w c i)) (2 ^ i) (pow-lt h)
