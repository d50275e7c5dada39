-- The contract fixes the call's answer: on a list of receivers that drains it is the outlet, and on one that runs in a ring it is stopped.
-- Assumes nothing.
use mathlib.Core.Bool.{cond, true}
use mathlib.Core.List.{List}
use mathlib.Core.Path.{ap, refl, sym, ◌∙◌, ◌≡◌}
use Prim.Native.Nat.{ℕ, ◌<◌, ◌≤◌}
use native.Mathlib.Omega.{arith}
use lib.Dec.{eqb}
use lib.IntN.{ℤ}
use lib.ListN.{length, take}
use Rattle.kinds.specs.Kinds.{as_cell}
use Rattle.lists.specs.Lists.{at, repeat}
use Rattle.rules.proofs.Demand3Holds.{ends-at_outlet}
use Rattle.rules.proofs.Draining.{receivers_drain}
use Rattle.rules.proofs.Steps.{few_steps}
use Rattle.rules.proofs.TraceRings.{ring_stopped}
use Rattle.rules.proofs.Traces.{trace_reaches, trace_same}
use Rattle.rules.specs.Carving.{receivers}
use Rattle.rules.specs.Demand3.{inner_cells}
use Rattle.rules.specs.Ground.{cells_of, Ground}
use Rattle.rules.specs.Land.{Land, land_by}
use Rattle.rules.specs.Left.{LeftDemand3}
use Rattle.rules.specs.Network.{Network}
use Rattle.rules.specs.Trace.{reached, refused, RunsInRing, stopped, trace, Traced}
use Rattle.rules.specs.Way.{Drains, Lawful}
use Rattle.trace.specs.Answer.{answer_of, AtOutlet}
use Rattle.grid.specs.declared.Neighbours.{Neighbours}
use Rattle.trace.specs.declared.TraceEnd.{TraceEnd}
use Rattle.trace.specs.declared.TraceEnd.TheVariants.{Outlet, Stopped}
use Rattle.trace.specs.declared.TraceRefusal.{TraceRefusal}
use Rattle.trace.specs.declared.TraceRefusal.TheVariants.{BadCell, BadEntry, BadList}
use Rattle.std.specs.Prelude.{Ok, Err}
use Rattle.std.specs.declared.result.Result.{Result}

-- the answer that says what the trace comes to
answer_for : Traced → Result TraceEnd TraceRefusal
answer_for (reached o s) = Ok (Outlet (as_cell o) s)
answer_for (stopped c s) = Ok (Stopped (as_cell c) s)
answer_for (refused n p) = Err (cond (eqb n 2) BadList (cond (eqb n 8) BadCell (BadEntry (as_cell p))))

said : (a : Result TraceEnd TraceRefusal) → answer_for (answer_of a) ≡ a
unfolding answer_for
said (Ok (Outlet c s)) = refl
said (Ok (Stopped c s)) = refl
said (Err BadList) = refl
said (Err BadCell) = refl
said (Err (BadEntry c)) = refl

-- two answers that the contract allows are one
pub trace-one : (a b : Result TraceEnd TraceRefusal) → answer_of a ≡ answer_of b → a ≡ b
trace-one a b e = sym (said a) ∙ ap answer_for e ∙ said b

module _ (L : Land) (r : List ℕ) (D : Drains L r) (small : L.cells ≤ 4096) (c : ℕ) (h : c < L.cells) (s : L.solid c ≡ true) where
  -- on receivers that drain, a budget of at least the count of cells that aren't outlets makes the call answer the outlet
  pub answers_outlet : (budget : ℕ) → length (inner_cells L) ≤ budget → (a : Result TraceEnd TraceRefusal) → answer_of a ≡ trace r c budget → AtOutlet L r c a
  unfolding answer_for
  answers_outlet budget enough a e =
      let w = D.ways c h s in
      record {
        steps = w.0;
        answer = sym (said a) ∙ ap answer_for (e ∙ trace_reaches L r D small c h s w.1 budget enough);
        outlet = ends-at_outlet L (at r) w.1;
        few = few_steps L (at r) w.1;
      }

  -- and a larger budget gives the same answer
  pub larger_budget : (budget larger : ℕ) → length (inner_cells L) ≤ budget → length (inner_cells L) ≤ larger
      → (a b : Result TraceEnd TraceRefusal) → answer_of a ≡ trace r c budget → answer_of b ≡ trace r c larger → a ≡ b
  larger_budget budget larger l k a b e f = trace-one a b (e ∙ trace_same L r D small c h s budget larger l k ∙ sym f)

-- a network's receivers are such a list
pub network_answers_outlet : (L : Land) → Lawful L → L.cells ≤ 4096 → (c : ℕ) → c < L.cells → L.solid c ≡ true
    → (budget : ℕ) → length (inner_cells L) ≤ budget → (a : Result TraceEnd TraceRefusal) → answer_of a ≡ trace (receivers L) c budget
    → AtOutlet L (receivers L) c a
network_answers_outlet L W small = answers_outlet L (receivers L) (receivers_drain L W (λ d t. omega arith)) small

-- and so are the receivers of six lists that have demand 3, over the neighbours asked for, wherever they stand
module _ (N : Neighbours) (g : Ground) (s : Network ℤ) (D : LeftDemand3 N g s) (few : cells_of g ≤ 4096) (c : ℕ) (h : c < cells_of g) where
  abbrev left : List ℕ
  left = take (cells_of g) s.receivers

  pub left_answers_outlet : (budget : ℕ) → length (inner_cells (land_by N g)) ≤ budget → (a : Result TraceEnd TraceRefusal) → answer_of a ≡ trace left c budget
      → AtOutlet (land_by N g) left c a
  left_answers_outlet = answers_outlet (land_by N g) left D.drains few c h refl

  pub left_larger_budget : (budget larger : ℕ) → length (inner_cells (land_by N g)) ≤ budget → length (inner_cells (land_by N g)) ≤ larger
      → (a b : Result TraceEnd TraceRefusal) → answer_of a ≡ trace left c budget → answer_of b ≡ trace left c larger → a ≡ b
  left_larger_budget = larger_budget (land_by N g) left D.drains few c h refl

-- on a list that runs in a ring the call answers stopped, at the cell that the budget leads to, and the steps are the whole budget
pub ring_answers_stopped : (r : List ℕ) (c : ℕ) → RunsInRing r c → length r ≤ 4096 → c < length r
    → (budget : ℕ) (a : Result TraceEnd TraceRefusal) → answer_of a ≡ trace r c budget → a ≡ Ok (Stopped (as_cell (repeat budget (at r) c)) budget)
unfolding answer_for
ring_answers_stopped r c R few h budget a e = sym (said a) ∙ ap answer_for (e ∙ ring_stopped r c R few h budget)
