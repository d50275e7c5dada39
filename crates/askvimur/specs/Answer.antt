-- Document 01, "Numbers given back": what the console's call gives back and leaves. It is the record call with 4 neighbours,
-- carved.
-- Assumes nothing.
use Rattle.std.specs.Prelude.{List, ℕ}
use Rattle.ground.specs.Judge.{Judged}
use Rattle.network_record.specs.RecordCall.{CalledBy, CalledFromCBy}
use Rattle.grid.specs.declared.Neighbours.TheVariants.{Four}
use Rattle.rules.specs.declared.Manner.TheVariants.{Carve}

-- the record call: the judgement, and the lent record as it leaves it
abbrev pub Called : (bytes before : List ℕ) (r : Judged) (after : List ℕ) → Type 0
Called = CalledBy Four Carve

-- the same for C: the judgement as one number
abbrev pub CalledFromC : (bytes before : List ℕ) (r : ℕ) (after : List ℕ) → Type 0
CalledFromC = CalledFromCBy Four Carve
