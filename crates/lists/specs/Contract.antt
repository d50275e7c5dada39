-- A contract as it stands in src/, and that it allows one outcome only. A caller shows what is asked of the arguments, and learns what is
-- promised of them, of the answer, and of the parameters afterwards: `Asked` and `Learnt` of the module `Reads` that the prover makes of
-- each function's contract.
-- Assumes nothing.
use Rattle.std.specs.Prelude.{List, ◌≡◌, ℕ}
use borrow.Fn.Kinds.{Dens, ended_of, In, Out, ParamKind, res_t, ResultKind}
use contract.Lifetimes.{Lfts}
use denote.Triple.Clauses.{AtExit}

module _ (n : ℕ) (ps : List (ParamKind n)) (result : ResultKind n) (asked : In n ps) (learnt : Out n ps result) where
  -- any two answers that are learnt of a call whose arguments meet what is asked are equal
  abbrev pub OneAnswer : Type 0
  OneAnswer =
      (κs : Lfts n) (a : Dens κs ps) → asked κs a → (r r' : (res_t result κs).Denot) (e e' : AtExit (ended_of n ps result) κs)
      → learnt κs a r e → learnt κs a r' e' → r ≡ r'

  -- and so are what two calls leave, as far as `left` tells it of the parameters afterwards
  abbrev pub OneOutcome : {B : Type 0} → ((κs : Lfts n) → Dens κs ps → (res_t result κs).Denot → AtExit (ended_of n ps result) κs → B) → Type 0
  OneOutcome left =
      (κs : Lfts n) (a : Dens κs ps) → asked κs a → (r r' : (res_t result κs).Denot) (e e' : AtExit (ended_of n ps result) κs)
      → learnt κs a r e → learnt κs a r' e' → (r ≡ r') × (left κs a r e ≡ left κs a r' e')
