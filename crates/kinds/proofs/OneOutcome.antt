-- Any two answers that a contract allows are equal: the number as an index, of every kind of number and so of each of the three; and for each
-- of the three its number, and the kind made of a number. The contracts are those in src/.
-- Assumes nothing.
use denote.Param.Laws.{IsCopy, Laws}
use denote.RattleType.{RattleType}
use mir.Syntax.{Dict}
use Rattle.lists.proofs.Determined.{one_answer}
use Rattle.lists.specs.Contract.{OneAnswer}
use Rattle.std.specs.declared.clone.Clone
use Rattle.kinds.specs.declared.Numbered
use Rattle.kinds.specs.contracts.Basin as basin
use Rattle.kinds.specs.contracts.BasinNumbered.TheImpl as basin-numbered
use Rattle.kinds.specs.contracts.Cell as cell
use Rattle.kinds.specs.contracts.CellNumbered.TheImpl as cell-numbered
use Rattle.kinds.specs.contracts.Place as place
use Rattle.kinds.specs.contracts.PlaceNumbered.TheImpl as place-numbered
use Rattle.kinds.proofs.BasinNumbered.number.Kinds as basin-number-kinds
use Rattle.kinds.proofs.BasinNumbered.number.Reads as basin-number
use Rattle.kinds.proofs.BasinNumbered.of.Kinds as basin-of-kinds
use Rattle.kinds.proofs.BasinNumbered.of.Reads as basin-of
use Rattle.kinds.proofs.CellNumbered.number.Kinds as cell-number-kinds
use Rattle.kinds.proofs.CellNumbered.number.Reads as cell-number
use Rattle.kinds.proofs.CellNumbered.of.Kinds as cell-of-kinds
use Rattle.kinds.proofs.CellNumbered.of.Reads as cell-of
use Rattle.kinds.proofs.PlaceNumbered.number.Kinds as place-number-kinds
use Rattle.kinds.proofs.PlaceNumbered.number.Reads as place-number
use Rattle.kinds.proofs.PlaceNumbered.of.Kinds as place-of-kinds
use Rattle.kinds.proofs.PlaceNumbered.of.Reads as place-of
use Rattle.kinds.proofs.Numbered.index.Kinds as index-kinds
use Rattle.kinds.proofs.Numbered.index.Reads as index

-- one answer for a kind T whose numbers are N's, however its copies are made
abbrev pub OneIndex : (T : RattleType) → Numbered.Ghosts T.Denot → Type 2
OneIndex T N =
    (L : Laws T) (C : IsCopy T) (D : Dict) (K : Clone.Ghosts T.Denot) (E : Dict)
    → OneAnswer 1 (index-kinds.ps T L C) (index-kinds.r T L C) (index.Asked T L C N D K E) (index.Learnt T L C N D K E)

pub index_one : (T : RattleType) (N : Numbered.Ghosts T.Denot) → OneIndex T N
index_one T N L C D K E κs a p r r' e e' x y = one_answer x.0 y.0

pub cell_index_one : OneIndex cell.the_row cell-numbered.ghosts
cell_index_one = index_one cell.the_row cell-numbered.ghosts

pub basin_index_one : OneIndex basin.the_row basin-numbered.ghosts
basin_index_one = index_one basin.the_row basin-numbered.ghosts

pub place_index_one : OneIndex place.the_row place-numbered.ghosts
place_index_one = index_one place.the_row place-numbered.ghosts

pub cell_number_one : OneAnswer 0 cell-number-kinds.ps cell-number-kinds.r cell-number.Asked cell-number.Learnt
cell_number_one κs a p r r' e e' x y = one_answer x y

pub cell_of_one : OneAnswer 0 cell-of-kinds.ps cell-of-kinds.r cell-of.Asked cell-of.Learnt
cell_of_one κs a p r r' e e' x y i = record { 0 = one_answer x y i }

pub basin_number_one : OneAnswer 0 basin-number-kinds.ps basin-number-kinds.r basin-number.Asked basin-number.Learnt
basin_number_one κs a p r r' e e' x y = one_answer x y

pub basin_of_one : OneAnswer 0 basin-of-kinds.ps basin-of-kinds.r basin-of.Asked basin-of.Learnt
basin_of_one κs a p r r' e e' x y i = record { 0 = one_answer x y i }

pub place_number_one : OneAnswer 0 place-number-kinds.ps place-number-kinds.r place-number.Asked place-number.Learnt
place_number_one κs a p r r' e e' x y = one_answer x y

pub place_of_one : OneAnswer 0 place-of-kinds.ps place-of-kinds.r place-of.Asked place-of.Learnt
place_of_one κs a p r r' e e' x y i = record { 0 = one_answer x y i }
