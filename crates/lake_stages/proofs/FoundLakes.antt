-- What is found on an accepted ground is read out of the rows as it was: its lakes are few, and their numbers fit.
-- Assumes nothing.
use mathlib.Core.List.{List}
use mathlib.Core.Path.{refl}
use Prim.Native.Nat.{ℕ, ◌<◌, ◌≤◌}
use native.Mathlib.Omega.{arith}
use lib.ListN.{length}
use Rattle.ground.proofs.Acceptance.{good_few}
use Rattle.ground.specs.Good.{Good}
use Rattle.lake_list.specs.Rows.{FoundIn}
use Rattle.lake_rows.proofs.Rows.{lakes_read}
use Rattle.lake_rules.proofs.Counts.{lakes_at-most-cells}
use Rattle.lake_rules.proofs.Fitting.{fits_more, lakes_fit}
use Rattle.lake_rules.specs.Fits.{LakesFit}
use Rattle.lake_rules.specs.Notes.{highest}
use Rattle.lake_stages.specs.LakesOn.{lakes_on, too_deep_on}
use Rattle.lake_stages.specs.ReadFound.{ReadFound}
use Rattle.lists.specs.Lists.{at}
use Rattle.network.proofs.Networks.{levels_droppable, network_full}
use Rattle.rules.specs.Ground.{cells_of, Ground}
use Rattle.rules.specs.Land.{land4}
use Rattle.rules.specs.Network.{lifted_network_of}
use Rattle.grid.specs.declared.Neighbours.TheVariants.{Four}
use Rattle.std.specs.Prelude.{Result}
use Rattle.lake_list.specs.declared.Row.{Row}
use Rattle.lake_list.specs.declared.TooDeep.{TooDeep}
use Rattle.rules.specs.declared.Manner.TheVariants.{Carve}

module _ (g : Ground) (G : Good g) where
  levels-low : (c : ℕ) → c < cells_of g → at (lifted_network_of g).levels c ≤ highest
  levels-low c h = levels_droppable Four Carve g G refl c (let e = (network_full Four Carve g G).levels_full in omega arith)

  -- a tile has no more lakes than cells
  pub lakes_on_few : length (lakes_on g) ≤ cells_of g
  unfolding lakes_on
  lakes_on_few = lakes_at-most-cells (land4 g) (lifted_network_of g).levels

  pub lakes_on_fit : LakesFit (cells_of g) (lakes_on g)
  unfolding lakes_on
  lakes_on_fit = lakes_fit (land4 g) (lifted_network_of g).levels levels-low

  pub found_read : {found : Result ℕ TooDeep} (rows : List Row) → cells_of g ≤ length rows → FoundIn (land4 g) (lifted_network_of g).levels found rows
      → ReadFound (too_deep_on g) (lakes_on g) found rows
  unfolding lakes_on too_deep_on
  found_read rows long F =
      let few = good_few g G in
      record {
        found_is = F.found_is;
        few = omega (arith, lakes_on_few);
        fit = fits_more few lakes_on_fit;
        read = λ e. lakes_read rows (lakes_on g) (F.rows_are e);
      }
