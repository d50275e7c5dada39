-- What the call's answer says, in the words of document 01's trace (crate rules): the number and the values of each case.
-- Assumes nothing.
use Rattle.std.specs.Prelude.{true, List, ◌≡◌, ℕ, ◌≤◌, length, Ok, Err}
use Rattle.std.specs.declared.result.Result.{Result}
use Rattle.kinds.specs.Kinds.{as_cell}
use Rattle.lists.specs.Lists.{at, repeat}
use Rattle.rules.specs.Demand3.{inner_cells}
use Rattle.rules.specs.Land.{Land}
use Rattle.rules.specs.Trace.{reached, refused, stopped, Traced}
use Rattle.trace.specs.declared.TraceEnd.{TraceEnd}
use Rattle.trace.specs.declared.TraceEnd.TheVariants.{Outlet, Stopped}
use Rattle.trace.specs.declared.TraceRefusal.{TraceRefusal}
use Rattle.trace.specs.declared.TraceRefusal.TheVariants.{BadCell, BadEntry, BadList}

-- an outlet or a stop with the steps taken, or a refusal's number and place
abbrev pub answer_of : Result TraceEnd TraceRefusal → Traced
answer_of (Ok (Outlet c s)) = reached c.0 s
answer_of (Ok (Stopped c s)) = stopped c.0 s
answer_of (Err BadList) = refused 2 0
answer_of (Err BadCell) = refused 8 0
answer_of (Err (BadEntry c)) = refused 9 c.0

-- an outlet that was reached, and the steps of the way to it
pub record AtOutlet (L : Land) (r : List ℕ) (c : ℕ) (a : Result TraceEnd TraceRefusal) : Type 0 where
  pub steps : ℕ
  pub answer : a ≡ Ok (Outlet (as_cell (repeat steps (at r) c)) steps)
  pub outlet : L.outlet (repeat steps (at r) c) ≡ true
  pub few : steps ≤ length (inner_cells L)
