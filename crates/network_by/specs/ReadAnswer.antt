-- What include/askvimur_service.h reads from the answer of the C call with a count and a manner.
-- Assumes nothing.
use Rattle.std.specs.Prelude.{Err, ◌≡◌, ℕ, Ok}
use Rattle.network_by.specs.Calls.{network_answer_to}
use Rattle.network_by.specs.Counted.{network_number, network_place, NetworkAnswer}
use Rattle.network_record.specs.ReadAnswer.{length_of, length_read, number_read, place_read}

-- the length written, 0 for a refusal
abbrev pub network_length : NetworkAnswer → ℕ
network_length (Ok size) = length_of (Ok size)
network_length (Err why) = 0

-- what is read from the number for an answer is the answer's
pub record CountedReadBack (r : NetworkAnswer) : Type 0 where
  pub number_back : number_read (network_answer_to r) ≡ network_number r
  pub place_back : place_read (network_answer_to r) ≡ network_place r
  pub length_back : length_read (network_answer_to r) ≡ network_length r
