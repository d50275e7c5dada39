-- What include/askvimur.h reads from the answer of the C call.
-- Assumes nothing.
use Rattle.std.specs.Prelude.{cond, Err, Ok, ◌≡◌, ℕ, ◌%◌, ◌*◌, ◌/◌, eqb}
use Rattle.network_record.specs.RecordCall.{answer_to}
use Rattle.ground.specs.Judge.{Judged, number_of, place_of}
use Rattle.network_bytes.specs.NetworkRecord.{network_bytes}

-- the number, 0 for an accepted ground
abbrev pub number_read : ℕ → ℕ
number_read answer = answer / 65536

-- the place, 0 for an accepted ground
abbrev pub place_read : ℕ → ℕ
place_read answer = cond (eqb (number_read answer) 0) 0 (answer % 65536)

-- the length written, 0 for a refused ground
abbrev pub length_read : ℕ → ℕ
length_read answer = cond (eqb (number_read answer) 0) answer 0

-- the length written for a judgement
abbrev pub length_of : Judged → ℕ
length_of (Ok size) = network_bytes (size.height * size.width)
length_of (Err why) = 0

-- what is read from the answer to a judgement is what was judged
pub record ReadBack (judged : Judged) : Type 0 where
  pub number_back : number_read (answer_to judged) ≡ number_of judged
  pub place_back : place_read (answer_to judged) ≡ place_of judged
  pub length_back : length_read (answer_to judged) ≡ length_of judged
