-- A text that is printed into a lent list: any two outcomes that a contract allows are equal. The contracts are those in src/.
-- Assumes nothing.
use mathlib.Core.List.{List}
use mathlib.Core.Path.{◌≡◌}
use Prim.Native.Nat.{ℕ}
use Rattle.lists.proofs.Determined.{one_answer}
use Rattle.lists.specs.Contract.{OneOutcome}
use Rattle.text.specs.Writing.{Printed, Wrote}
use Rattle.text.proofs.write_number.Kinds as write-number-kinds
use Rattle.text.proofs.write_number.Reads as write-number
use Rattle.text.proofs.write_level.Kinds as write-level-kinds
use Rattle.text.proofs.write_level.Reads as write-level
use Rattle.text.proofs.write_word.Kinds as write-word-kinds
use Rattle.text.proofs.write_word.Reads as write_word
use Rattle.text.proofs.write_tile.Kinds as write-tile-kinds
use Rattle.text.proofs.write_tile.Reads as write-tile
use Rattle.text.proofs.write_pair.Kinds as write-pair-kinds
use Rattle.text.proofs.write_pair.Reads as write-pair
use Rattle.text.proofs.write_refused.Kinds as write-refused-kinds
use Rattle.text.proofs.write_refused.Reads as write-refused

-- a text, and how many bytes it takes
pub printed_one : (new old : List ℕ) {text text' : List ℕ} {n n' : ℕ} → Printed new old text n → Printed new old text' n' → (n ≡ n') × (text ≡ text')
printed_one new old a b = (one_answer a.counted b.counted, one_answer a.bytes b.bytes)

-- a text written into the middle of a list, and where it ends
wrote_one : (from : ℕ) (new old : List ℕ) {text text' : List ℕ} {to to' : ℕ} → Wrote from new old text to → Wrote from new old text' to'
    → (to ≡ to') × (text ≡ text')
wrote_one from new old a b = (one_answer a.end b.end, one_answer a.bytes b.bytes)

pub write_number_one : OneOutcome 1 write-number-kinds.ps write-number-kinds.r write-number.Asked write-number.Learnt
    (λ κs a r e. e.0.now)
write_number_one κs a p r r' e e' x y = wrote_one _ _ _ x y

pub write_level-one : OneOutcome 1 write-level-kinds.ps write-level-kinds.r write-level.Asked write-level.Learnt
    (λ κs a r e. e.0.now)
write_level-one κs a p r r' e e' x y = wrote_one _ _ _ x y

pub write_word_one : OneOutcome 2 write-word-kinds.ps write-word-kinds.r write_word.Asked write_word.Learnt
    (λ κs a r e. e.0.now)
write_word_one κs a p r r' e e' x y = wrote_one _ _ _ x y

pub write_tile-one : OneOutcome 6 write-tile-kinds.ps write-tile-kinds.r write-tile.Asked write-tile.Learnt
    (λ κs a r e. e.0.now)
write_tile-one κs a p r r' e e' x y = printed_one _ _ x y

pub write_pair-one : OneOutcome 2 write-pair-kinds.ps write-pair-kinds.r write-pair.Asked write-pair.Learnt
    (λ κs a r e. e.0.now)
write_pair-one κs a p r r' e e' x y = printed_one _ _ x y

pub write_refused_one : OneOutcome 1 write-refused-kinds.ps write-refused-kinds.r write-refused.Asked write-refused.Learnt
    (λ κs a r e. e.0.now)
write_refused_one κs a p r r' e e' x y = printed_one _ _ x y
