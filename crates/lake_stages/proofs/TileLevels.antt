-- The levels of a lawful tile are what the listing of lakes asks for.
-- Assumes nothing.
use mathlib.Core.Bool.{true≢false}
use mathlib.Core.List.{List}
use mathlib.Core.Logic.{inl, inr, ◌⊎◌}
use mathlib.Core.Path.{sym, ◌∙◌, ◌≡◌}
use Prim.Native.Nat.{ℕ, ◌<◌, ◌≤◌}
use native.Mathlib.Omega.{arith}
use lib.ListN.{length, get_or-eq_default}
use Rattle.lake_notes.specs.Noting.{Levelled}
use Rattle.lake_rules.proofs.OneLevel.{levels_local}
use Rattle.lake_rules.specs.LocalLevels.{Local}
use Rattle.lake_stages.specs.Levels.{levels_on}
use Rattle.lists.proofs.Tab.{tab-at, tab-length}
use Rattle.lists.proofs.Tests.{lt_or_ge}
use Rattle.lists.specs.Lists.{at}
use Rattle.rules.proofs.Bounds.{level-most}
use Rattle.rules.proofs.Draining.{receivers_drain}
use Rattle.rules.specs.Carving.{receivers}
use Rattle.rules.specs.Land.{Land, rule4}
use Rattle.rules.specs.Network.{level}
use Rattle.rules.specs.Tile.{LawfulTile, tile_land}

module _ (w : ℕ) (heights marks : List ℕ) (T : LawfulTile rule4 w heights marks) where
  abbrev L : Land
  L = tile_land rule4 w heights marks

  abbrev level_at : ℕ → ℕ
  level_at = level L (receivers L)

  pub levels_many : length (levels_on (tile_land rule4 w heights marks)) ≡ length heights
  unfolding levels_on
  levels_many = tab-length level_at (length heights)

  -- every level is a lifted height
  level-lifted : (c : ℕ) → c < length heights → level_at c ≤ 16000000
  level-lifted c h =
      level-most L (receivers L) (receivers_drain L T.lawful (λ d s. absurd (true≢false (sym (T.whole d) ∙ s)))) c h (T.whole c) 16000000
      (λ d k. T.tile.lifted d)

  levels-lifted : (c : ℕ) → at (levels_on L) c ≤ 16000000
  unfolding levels_on
  levels-lifted c = go (lt_or_ge c (length heights))
    where
      go : (c < length heights) ⊎ (length heights ≤ c) → at (levels_on L) c ≤ 16000000
      go (inl h) = rw (tab-at level_at (length heights) c 0 h) (level-lifted c h)
      go (inr h) =
          let l : length (levels_on L) ≤ c = rw levels_many h in
          rw (get_or-eq_default (levels_on L) 0 l) (omega arith)

  pub tile_levelled : Levelled w heights (levels_on (tile_land rule4 w heights marks))
  tile_levelled =
      record {
        grid = T.tile.grid;
        heights_lifted = T.tile.lifted;
        levels_hold = levels_many;
        levels-lifted = levels-lifted;
      }

  pub tile_local : Local (tile_land rule4 w heights marks) (levels_on (tile_land rule4 w heights marks))
  unfolding levels_on
  tile_local = levels_local L T.lawful
