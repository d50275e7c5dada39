-- Noting: any two outcomes that the contract in src/ allows have one count and one list of cells. Flags, parents and joins are work space, of
-- which the contract says what is read from them: the splits and the groups, and these are those of the definitions (lake_rules).
-- Assumes nothing.
use mathlib.Core.List.{[]}
use Rattle.lists.proofs.Determined.{one_answer}
use Rattle.lists.specs.Contract.{OneOutcome}
use Rattle.lake_notes.proofs.note_lakes.Kinds as note-lakes-kinds
use Rattle.lake_notes.proofs.note_lakes.Reads as note-lakes

pub note_lakes-one : OneOutcome 6 note-lakes-kinds.ps note-lakes-kinds.r note-lakes.Asked note-lakes.Learnt
    (λ κs a r e. e.1.1.1.0.now)
note_lakes-one κs a p r r' e e' x y = (one_answer (x []).count_is (y []).count_is, one_answer (x []).cells_are (y []).cells_are)
