-- `drainage::drain_section` meets its contract. The cells' own water is written, and then each gives backwards through the order.
-- Assumes nothing.
use mathlib.Core.List.{List}
use mathlib.Core.Path.{ap, sym, ◌∙◌, ◌≡◌}
use Prim.Native.Nat.{ℕ, ◌*◌, ◌+◌, ◌<◌}
use native.Mathlib.Omega.{arith}
use Rattle.drainage.proofs.Backwards.{drained_own}
use Rattle.lists.proofs.Filled.{filled_at, filled_same}
use Rattle.lists.proofs.Tab.{tab-at}
use Rattle.lists.specs.Lists.{at, tab}
use Rattle.sections.proofs.Numbers.{number_at-below}
use Rattle.sections.specs.LittleEndian.{number_at, numbers_at}
use Rattle.drainage.proofs.drain_section.Goals as goal

pub give_all-requires : goal.give_all-requires
give_all-requires at-goal =
    let own = at-goal.section_water in
    let s = at-goal.args.bytes.now in
    let from = at-goal.args.from in
    let n = at-goal.args.n in
    let same = own.auto.drainage in
    let room = at-goal.requires.n_in_bounds in record {
      by_index = at-goal.requires.by_index;
      n_in_bounds = (
        omega arith,
        λ c h. let e : at own.new.drainage c ≡ number_at 2 s (from + 2 * c) =
            ap (λ (l : List ℕ). at l c) own.ensures ∙ filled_at (λ k. number_at 2 s (from + 2 * k)) n at-goal.args.drainage.now c h in
            let small : number_at 2 s (from + 2 * c) < 65536 =
            number_at-below 2 s (from + 2 * c)
            (λ k l. omega (arith, at-goal.shared_slice_known-1.given k)) (omega arith) in
            omega arith,
      );
    }

pub returns : goal.returns
returns c =
    let own = c.section_water in
    let gave = c.give_all in
    let n = c.args.n in
    let water : ℕ → ℕ = λ k. number_at 2 c.args.bytes.now (c.args.from + 2 * k) in
    let listed = filled_same water (at (tab n water)) n c.args.drainage.now (λ k h. sym (tab-at water n k 0 h)) in
    λ L r G. drained_own L r (numbers_at 2 c.args.bytes.now c.args.from n) c.args.drainage.now own.new.drainage
    gave.new.drainage n G.cells (own.ensures ∙ listed) (gave.ensures L r G)
