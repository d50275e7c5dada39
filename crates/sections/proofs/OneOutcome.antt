-- Any two outcomes that a contract allows are equal, at each type that stands in a record. The contracts are those in src/.
-- Assumes nothing.
use Rattle.std.specs.Prelude.{List, ℕ}
use mathlib.Core.Path.{refl}
use borrow.Fn.Kinds.{Dens, ended_of, In, Out, ParamKind, res_t, ResultKind}
use contract.Lifetimes.{Lfts}
use denote.Param.Laws.{IsCopy, Laws}
use denote.RattleType.{RattleType}
use denote.Triple.Clauses.{AtExit}
use mir.Syntax.{Dict}
use Rattle.lists.proofs.Determined.{one_answer}
use Rattle.lists.specs.Contract.{OneAnswer, OneOutcome}
use Rattle.std.specs.declared.clone.Clone as clone
use Rattle.sections.specs.declared.little_endian.LittleEndian as little-endian
use Rattle.sections.proofs.little_endian.U8LittleEndian.read.Kinds as u8-read-kinds
use Rattle.sections.proofs.little_endian.U8LittleEndian.read.Reads as u8-read
use Rattle.sections.proofs.little_endian.U8LittleEndian.write.Kinds as u8-write-kinds
use Rattle.sections.proofs.little_endian.U8LittleEndian.write.Reads as u8-write
use Rattle.sections.proofs.little_endian.U16LittleEndian.read.Kinds as u16-read-kinds
use Rattle.sections.proofs.little_endian.U16LittleEndian.read.Reads as u16-read
use Rattle.sections.proofs.little_endian.U16LittleEndian.write.Kinds as u16-write-kinds
use Rattle.sections.proofs.little_endian.U16LittleEndian.write.Reads as u16-write
use Rattle.sections.proofs.little_endian.U32LittleEndian.read.Kinds as u32-read-kinds
use Rattle.sections.proofs.little_endian.U32LittleEndian.read.Reads as u32-read
use Rattle.sections.proofs.little_endian.U32LittleEndian.write.Kinds as u32-write-kinds
use Rattle.sections.proofs.little_endian.U32LittleEndian.write.Reads as u32-write
use Rattle.sections.proofs.little_endian.U64LittleEndian.read.Kinds as u64-read-kinds
use Rattle.sections.proofs.little_endian.U64LittleEndian.read.Reads as u64-read
use Rattle.sections.proofs.little_endian.U64LittleEndian.write.Kinds as u64-write-kinds
use Rattle.sections.proofs.little_endian.U64LittleEndian.write.Reads as u64-write
use Rattle.sections.proofs.little_endian.I32LittleEndian.read.Kinds as i32-read-kinds
use Rattle.sections.proofs.little_endian.I32LittleEndian.read.Reads as i32-read
use Rattle.sections.proofs.little_endian.I32LittleEndian.write.Kinds as i32-write-kinds
use Rattle.sections.proofs.little_endian.I32LittleEndian.write.Reads as i32-write
use Rattle.sections.proofs.read.Kinds as read-kinds
use Rattle.sections.proofs.read.Reads as read
use Rattle.sections.proofs.write.Kinds as write-kinds
use Rattle.sections.proofs.write.Reads as write
use Rattle.sections.proofs.write_section.Kinds as write-section-kinds
use Rattle.sections.proofs.write_section.Reads as write-section
use Rattle.sections.proofs.read_section.Kinds as read-section-kinds
use Rattle.sections.proofs.read_section.Reads as read-section

module _
    (n : ℕ)
    (ps : (T : RattleType) → Laws T → IsCopy T → List (ParamKind n))
    (result : (T : RattleType) → Laws T → IsCopy T → ResultKind n)
    (asked : (T : RattleType) (l : Laws T) (c : IsCopy T) → little-endian.Ghosts T.Denot → Dict → clone.Ghosts T.Denot → Dict → In n (ps T l c))
    (learnt : (T : RattleType) (l : Laws T) (c : IsCopy T) → little-endian.Ghosts T.Denot → Dict → clone.Ghosts T.Denot → Dict
    → Out n (ps T l c) (result T l c))
  where
    -- at each type, with any numbers and any methods for them
    abbrev pub OneAnswerAtEach : Type 2
    OneAnswerAtEach =
        (T : RattleType) (l : Laws T) (c : IsCopy T) (numbers : little-endian.Ghosts T.Denot) (d : Dict) (clones : clone.Ghosts T.Denot) (e : Dict)
        → OneAnswer n (ps T l c) (result T l c) (asked T l c numbers d clones e) (learnt T l c numbers d clones e)

    -- the same with what is left
    abbrev pub OneOutcomeAtEach : {B : RattleType → Type 0}
        → ((T : RattleType) (l : Laws T) (c : IsCopy T) (κs : Lfts n) → Dens κs (ps T l c) → (res_t (result T l c) κs).Denot
        → AtExit (ended_of n (ps T l c) (result T l c)) κs → B T) → Type 2
    OneOutcomeAtEach left =
        (T : RattleType) (l : Laws T) (c : IsCopy T) (numbers : little-endian.Ghosts T.Denot) (d : Dict) (clones : clone.Ghosts T.Denot) (e : Dict)
        → OneOutcome n (ps T l c) (result T l c) (asked T l c numbers d clones e) (learnt T l c numbers d clones e) (left T l c)

pub read_one : OneAnswerAtEach 2 read-kinds.ps read-kinds.r read.Asked read.Learnt
read_one T l c numbers d clones e κs a p r r' x x' y y' = one_answer y y'

pub write_one : OneOutcomeAtEach 2 write-kinds.ps write-kinds.r write.Asked write.Learnt {B = λ T. List ℕ} (λ T l c κs a r e. e.0.now)
write_one T l c numbers d clones e κs a p r r' x x' y y' = (refl, one_answer y y')

pub write_section_one : OneOutcomeAtEach 3 write-section-kinds.ps write-section-kinds.r write-section.Asked write-section.Learnt
    {B = λ T. List ℕ} (λ T l c κs a r e. e.0.now)
write_section_one T l c numbers d clones e κs a p r r' x x' y y' = (refl, one_answer y y')

pub read_section_one : OneOutcomeAtEach 3 read-section-kinds.ps read-section-kinds.r read-section.Asked read-section.Learnt
    {B = λ T. List T.Denot} (λ T l c κs a r e. e.1.1.1.0.now)
read_section_one T l c numbers d clones e κs a p r r' x x' y y' = (refl, one_answer y y')

pub u8_read_one : OneAnswer 1 u8-read-kinds.ps u8-read-kinds.r u8-read.Asked u8-read.Learnt
u8_read_one κs a p r r' e e' x y = one_answer x y

pub u8_write_one : OneOutcome 1 u8-write-kinds.ps u8-write-kinds.r u8-write.Asked u8-write.Learnt (λ κs a r e. e.1.0.now)
u8_write_one κs a p r r' e e' x y = (refl, one_answer x y)

pub u16_read_one : OneAnswer 1 u16-read-kinds.ps u16-read-kinds.r u16-read.Asked u16-read.Learnt
u16_read_one κs a p r r' e e' x y = one_answer x y

pub u16_write_one : OneOutcome 1 u16-write-kinds.ps u16-write-kinds.r u16-write.Asked u16-write.Learnt (λ κs a r e. e.1.0.now)
u16_write_one κs a p r r' e e' x y = (refl, one_answer x y)

pub u32_read_one : OneAnswer 1 u32-read-kinds.ps u32-read-kinds.r u32-read.Asked u32-read.Learnt
u32_read_one κs a p r r' e e' x y = one_answer x y

pub u32_write_one : OneOutcome 1 u32-write-kinds.ps u32-write-kinds.r u32-write.Asked u32-write.Learnt (λ κs a r e. e.1.0.now)
u32_write_one κs a p r r' e e' x y = (refl, one_answer x y)

pub u64_read_one : OneAnswer 1 u64-read-kinds.ps u64-read-kinds.r u64-read.Asked u64-read.Learnt
u64_read_one κs a p r r' e e' x y = one_answer x y

pub u64_write_one : OneOutcome 1 u64-write-kinds.ps u64-write-kinds.r u64-write.Asked u64-write.Learnt (λ κs a r e. e.1.0.now)
u64_write_one κs a p r r' e e' x y = (refl, one_answer x y)

pub i32_read_one : OneAnswer 1 i32-read-kinds.ps i32-read-kinds.r i32-read.Asked i32-read.Learnt
i32_read_one κs a p r r' e e' x y = one_answer x y

pub i32_write_one : OneOutcome 1 i32-write-kinds.ps i32-write-kinds.r i32-write.Asked i32-write.Learnt (λ κs a r e. e.1.0.now)
i32_write_one κs a p r r' e e' x y = (refl, one_answer x y)
