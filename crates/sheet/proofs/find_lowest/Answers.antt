-- `sheet::find_lowest` meets its contract: the first n masks and the levels with a margin are what both passes ask for (Lowering).
-- Assumes nothing.
use Rattle.std.proofs.Common.{ℕ, length, take, replicate, sym, arith}
use lib.ListN.{length-replicate}
use Rattle.lists.proofs.Filled.{filled-take}
use Rattle.sheet.proofs.Lowering.{Laid, levelled, likes_are, lowest_are, masks_length}
use Rattle.sheet.proofs.find_lowest.Goals as goal
use Rattle.sheet.proofs.find_lowest.Goals.{After-copy_levels}

laid : (c : After-copy_levels) → let a = c.args in
    Laid a.neighbours a.w a.levels.now a.marks.now
    (take (length a.levels.now) c.neighbour_masks.new.out) c.copy_levels.new.labels
laid c =
    record {
      tile = c.requires.0;
      masks_are = filled-take _ _ _ c.neighbour_masks.ensures;
      old = replicate 4226 0;
      room = omega (arith, c.requires.0.grid.few, length-replicate {A = ℕ} 4226 0);
      labels_are = c.copy_levels.ensures;
    }

pub slice_bounds-lowest_weights-end : goal.slice_bounds-lowest_weights-end
slice_bounds-lowest_weights-end c = sym (masks_length (laid (goal.at.slice_bounds-lowest_weights-end c).After-copy_levels))

pub lowest_weights-requires : goal.lowest_weights-requires
lowest_weights-requires c =
    let at-place = (goal.at.lowest_weights-requires c).After-copy_levels in
    (levelled (laid at-place), omega (arith, masks_length (laid at-place), c.requires.1))

pub slice_bounds-like_masks-end : goal.slice_bounds-like_masks-end
slice_bounds-like_masks-end c = sym (masks_length (laid (goal.at.slice_bounds-like_masks-end c).After-copy_levels))

pub like_masks-requires : goal.like_masks-requires
like_masks-requires c =
    let K = levelled (laid (goal.at.like_masks-requires c).After-copy_levels) in
    record {
      grid = (K.grid, K.neighbours);
      masks_in_bounds = (K.margin, omega (arith, masks_length (laid (goal.at.like_masks-requires c).After-copy_levels), c.requires.2));
    }

pub returns : goal.returns
returns c =
    let at-place = (goal.at.returns c).After-copy_levels in
    (lowest_are (laid at-place) _ c.lowest_weights.ensures, likes_are (laid at-place) _ c.like_masks.ensures)
