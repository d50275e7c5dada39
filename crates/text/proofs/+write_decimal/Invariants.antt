-- The number falls at each call of `text::write_decimal`.
-- Assumes nothing.
use Rattle.text.proofs.+write_decimal.Given as goal

abbrev pub decreases-write_decimal : goal.decreases-write_decimal
decreases-write_decimal l = l.n
