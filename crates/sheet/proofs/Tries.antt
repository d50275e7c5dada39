-- Places tried from the last to the first: what is found is the bit of the first that passes.
-- Assumes nothing.
use Rattle.std.proofs.Common.{◌≡◌, ℕ, ◌+◌, ◌/◌, ◌%◌, ◌<◌, cond, ◌&&◌, eqb, List, ◌∷◌, ◌∙◌, arith}
use Rattle.grid.specs.Masks.{bit_of}
use Rattle.grid.specs.Window.{around}
use Rattle.lists.specs.Lists.{at}
use Rattle.lowest.specs.Lowest.{entry_at}
use Rattle.sheet.specs.LevelSteps.{first_bit, one_less, steps_to}

-- the count that is asked for around cell c: a difference that wraps
pub record Asked (w : ℕ) (counts : List ℕ) (c mask less : ℕ) : Type 0 where
  pub is : less ≡ one_less (at counts (c + 65))

pub asked : (w : ℕ) (counts : List ℕ) (c mask less : ℕ) → at counts (c + 65) < 65536 → less < 65536 → (less + 1) % 65536 ≡ at counts (c + 65)
    → Asked w counts c mask less
asked w counts c mask less h k e = record { is = omega arith }

-- one place more, before those that were tried
pub tried : {w c mask less : ℕ} {counts : List ℕ} → Asked w counts c mask less → (p : ℕ) (ps : List ℕ) {has i later r : ℕ}
    → r ≡ cond (eqb has 1 && eqb (at counts i) less) (bit_of around p) later → has ≡ mask / bit_of around p % 2 → i ≡ entry_at w (c + 65) p
    → later ≡ first_bit (steps_to w counts c mask) ps → r ≡ first_bit (steps_to w counts c mask) (p ∷ ps)
tried A p ps e h q l = e ∙ rw (h, q, A.is, l)
