-- `sheet::step_levels` meets its contract: spreading gives each cell's count (Counted), and the weights by counts are those of sheet flow (Led).
-- Assumes nothing.
use Rattle.std.proofs.Common.{ℕ, ◌+◌, ◌≤◌, List, length, replicate, arith}
use lib.ListN.{length-replicate}
use Rattle.sheet.proofs.Counted.{counted, spreadable, level}
use Rattle.sheet.proofs.Led.{leads-filled}
use Rattle.sheet.specs.SheetLinks.{Lowered}
use Rattle.spread.specs.Spread.{Spreadable}
use Rattle.sheet.proofs.step_levels.Goals as goal
use Rattle.sheet.proofs.step_levels.Goals.{After-first_counts}

-- for whatever levels the masks say
abbrev Levels : After-first_counts → List ℕ → Type 0
Levels c levels = let a = c.args in Lowered a.neighbours a.w levels a.marks.now a.weights.now a.likes.now

room : (c : After-first_counts) (levels : List ℕ) → Levels c levels → length levels + 130 ≤ length (replicate {A = ℕ} 4226 0)
room c levels K = omega (arith, K.tile.grid.few, length-replicate {A = ℕ} 4226 0)

spreads : (c : After-first_counts) (levels : List ℕ) (K : Levels c levels)
    → let a = c.args in
    Spreadable a.neighbours a.w (level K) a.likes.now c.first_counts.new.counts (replicate 4097 0)
spreads c levels K =
    spreadable K (replicate 4226 0) (room c levels K) c.first_counts.ensures (replicate 4097 0)
    (omega (arith, K.tile.grid.few, length-replicate {A = ℕ} 4097 0))

pub spread-requires : goal.spread-requires
spread-requires c =
    let (levels, K) = c.requires in
    (level K, spreads (goal.at.spread-requires c).After-first_counts levels K)

pub returns : goal.returns
returns c =
    let at-place = (goal.at.returns c).After-first_counts in
    λ levels K.
    let are = counted K (replicate 4226 0) (room at-place levels K) c.first_counts.ensures (c.spread.ensures (level K) (spreads at-place levels K)) in
    leads-filled K c.spread.new.counts are c.args.weights.now c.step_weights.ensures
