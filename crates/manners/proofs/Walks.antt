-- What a walk along the links of any receivers leaves on a tile without holes, that carving's leaves its levels, and two walks.
-- Assumes nothing.
use mathlib.Core.Bool.{true≢false}
use mathlib.Core.List.{List}
use mathlib.Core.Path.{sym, ◌∙◌}
use Prim.Native.Nat.{ℕ}
use lib.ListN.{length, take}
use Rattle.lists.proofs.Filled.{filled-take}
use Rattle.rules.proofs.Manners.{manner_drains}
use Rattle.rules.specs.Carving.{receivers}
use Rattle.rules.specs.Land.{Rule, rule_by}
use Rattle.rules.specs.Network.{level, receivers_by}
use Rattle.rules.specs.Tile.{LawfulTile, tile_land}
use Rattle.rules.specs.Way.{Drains}
use Rattle.sheet.specs.SheetLinks.{Carved}
use Rattle.walk.proofs.Wholes.{walked_again, walked_whole}
use Rattle.walk.specs.Walk.{Lent, LentHolds, Margin, Walked, WalkedWhole}
use Rattle.grid.specs.declared.Neighbours.{Neighbours}
use Rattle.rules.specs.declared.Manner.{Manner}
use Rattle.rules.specs.declared.Manner.TheVariants.{Carve}

module _ {R : Rule} {w : ℕ} {heights marks : List ℕ} (T : LawfulTile R w heights marks) where
  pub tile_walked : {links r : List ℕ} {s s' : Lent} → Margin R w heights marks links r → LentHolds (length heights) s
      → Walked (tile_land R w heights marks) r s s' → WalkedWhole (tile_land R w heights marks) r s s'
  tile_walked {r = r} K P v = walked_whole (tile_land R w heights marks) r K.inside.drains (λ c h. T.whole c) P v

  pub tile_drains : (M : Manner) → Drains (tile_land R w heights marks) (receivers_by M (tile_land R w heights marks))
  tile_drains M = manner_drains M (tile_land R w heights marks) T.lawful (λ c s. absurd (true≢false (sym (T.whole c) ∙ s)))

  -- first carving's walk, then that of a manner
  pub tile_again : (M : Manner) {s s' s'' : Lent} → let L = tile_land R w heights marks in
      WalkedWhole L (receivers L) s s' → WalkedWhole L (receivers_by M L) s' s'' → WalkedWhole L (receivers_by M L) s s''
  tile_again M u v =
      let L = tile_land R w heights marks in
      walked_again L (receivers L) (receivers_by M L) (tile_drains Carve) (tile_drains M) (λ c h. T.whole c) u v

-- after carving's walk its levels stand in the list
pub levels-carved : (N : Neighbours) {w : ℕ} {heights marks : List ℕ} → LawfulTile (rule_by N) w heights marks → {s s' : Lent}
    → let L = tile_land (rule_by N) w heights marks in WalkedWhole L (receivers L) s s' → Carved N w heights (take (length heights) s'.levels) marks
levels-carved N {w} {heights} {marks} T {s} v =
    let L = tile_land (rule_by N) w heights marks in
    record { tile = T; levels_are = filled-take (level L (receivers L)) (length heights) s.levels v.levels_are }
