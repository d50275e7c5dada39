-- Sheet flow: any two lists of links that the contract in src/ allows have the same masks for the cells, whatever heights the levels are of. What
-- stands beside them in the list is not told.
-- Assumes nothing.
use Rattle.std.proofs.Common.{length, drop, refl, arith}
use Rattle.lists.proofs.Determined.{one_answer}
use Rattle.lists.proofs.Tab.{tab_same}
use Rattle.lists.specs.Contract.{OneOutcome}
use Rattle.lists.specs.Lists.{at, tab}
use Rattle.sheet.proofs.Linked.{levels-length}
use Rattle.sheet.proofs.link_sheet.Kinds as link-sheet-kinds
use Rattle.sheet.proofs.link_sheet.Reads as link-sheet

pub link_sheet_one : OneOutcome 3 link-sheet-kinds.ps link-sheet-kinds.r link-sheet.Asked link-sheet.Learnt
    (λ κs a r e. tab (length a.1.1.0.now) (at (drop 65 e.1.1.1.1.0.now)))
link_sheet_one κs a p r r' e e' x y =
    let (heights, K) = p.0 in
    let cells = levels-length K in
    let masks = tab_same (at (drop 65 e.1.1.1.1.0.now)) (at (drop 65 e'.1.1.1.1.0.now)) (length a.1.1.0.now)
    (λ c h. one_answer ((x heights K).inside.masks c (omega arith)) ((y heights K).inside.masks c (omega arith))) in
    (refl, masks)
