-- `alike::store_row` meets its contract: before column x is stored the columns before it are.
-- Assumes nothing.
use Prim.Native.Nat.{◌+◌, ◌-◌}
use Rattle.alike.specs.Columns.{in_column}
use Rattle.lists.specs.Stores.{Puts}
use Rattle.alike.proofs.store_row.Given as goal

abbrev pub invariant-loop-x : goal.invariant-loop-x
invariant-loop-x l = Puts (λ k. in_column l.w l.left l.middle l.right (k - l.b)) l.b (l.b + l.x) l.initial.out l.out
