-- `drainage::drain` meets its contract. The cells' own water is written, and then each gives backwards through the order.
-- Assumes nothing.
use mathlib.Core.List.{List}
use mathlib.Core.Path.{ap, ◌∙◌, ◌≡◌}
use Prim.Native.Nat.{ℕ}
use native.Mathlib.Omega.{arith}
use lib.ListN.{length}
use Rattle.drainage.proofs.Backwards.{drained_own}
use Rattle.lists.proofs.Filled.{filled_at}
use Rattle.lists.specs.Lists.{at}
use Rattle.drainage.proofs.drain.Goals as goal

pub give_all-requires : goal.give_all-requires
give_all-requires at-goal =
    let own = at-goal.own_water in
    let n = length at-goal.args.water.now in
    let same = own.auto.drainage in
    let room = at-goal.requires.water_in_bounds in record {
      by_index = at-goal.requires.by_index;
      n_in_bounds = (
        omega arith,
        λ c h. let e : at own.new.drainage c ≡ at at-goal.args.water.now c =
            ap (λ (l : List ℕ). at l c) own.ensures ∙ filled_at (at at-goal.args.water.now) n at-goal.args.drainage.now c h in
            omega (arith, at-goal.shared_slice_known-1.given c),
      );
    }

pub returns : goal.returns
returns c =
    let own = c.own_water in
    let gave = c.give_all in
    λ L r G. drained_own L r c.args.water.now c.args.drainage.now own.new.drainage gave.new.drainage
    (length c.args.water.now)
    G.cells own.ensures (gave.ensures L r G)
