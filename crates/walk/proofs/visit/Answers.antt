-- `walk::visit` meets its contract: the entries of the places around (Besides), the last one first, each pushed where its bit is 1, those of
-- the rows above and below in one step (InRow).
-- Assumes nothing.
use Rattle.std.proofs.Common.{ℕ, ◌+◌, ◌/◌, ◌%◌, [], ◌∷◌, length, drop, sym, refl, ap, ◌∙◌, arith, rules}
use native.Mathlib.Nat.{mod-mod}
use Rattle.walk.proofs.Besides as entries
use Rattle.walk.proofs.InRow.{halved, kept_of-row}
use Rattle.walk.proofs.Pushing.{kept_of_push}
use Rattle.walk.proofs.Room.{moved_all, room_above, room_below, room_left_lem, room_right}
use Rattle.walk.specs.Climb.{beside_entry, pushes}
use Rattle.walk.proofs.visit.Goals as goal

pub overflow_sub-here-5 : goal.overflow_sub-here-5
overflow_sub-here-5 c = omega (arith, c.requires.w_nonzero)

pub bounds-links-here-7 : goal.bounds-links-here-7
bounds-links-here-7 c = omega (arith, c.requires.w_nonzero)

pub overflow_sub-here-6 : goal.overflow_sub-here-6
overflow_sub-here-6 c = omega (arith, c.requires.w_nonzero)

pub overflow_add-here-7 : goal.overflow_add-here-7
overflow_add-here-7 c = let room = c.requires.w_nonzero in record { fits = omega (arith, room) }

pub bounds-links-here-8 : goal.bounds-links-here-8
bounds-links-here-8 c = omega (arith, c.requires.w_nonzero)

pub overflow_add-top : goal.overflow_add-top
overflow_add-top c = let room = c.requires.mask_bound in record { fits = omega (arith, room) }

pub push_row-top1-requires : goal.push_row-top1-requires
push_row-top1-requires c =
    let r = room_below c.args.mask c.args.top.0 (length c.args.stack.now) c.requires.mask_bound.0 c.requires.mask_bound.1 in
    (r.0, r.1, c.requires.w_nonzero.4.1)

pub push-top2-requires : goal.push-top2-requires
push-top2-requires c =
    room_right c.args.mask c.args.top.0 (length c.args.stack.now) c.requires.mask_bound.0 c.requires.mask_bound.1
    c.push_row-top1.ensures.0 c.push_row-top1.auto.stack

pub push-top3-requires : goal.push-top3-requires
push-top3-requires c =
    room_left_lem c.args.mask c.args.top.0 (length c.args.stack.now) c.requires.mask_bound.0 c.requires.mask_bound.1
    c.push_row-top1.ensures.0 c.push_row-top1.auto.stack c.push-top2.ensures.0 c.push-top2.auto.stack

pub push_row-requires : goal.push_row-requires
push_row-requires c =
    let r = room_above c.args.mask c.args.top.0 (length c.args.stack.now) c.requires.mask_bound.0 c.requires.mask_bound.1
    c.push_row-top1.ensures.0 c.push_row-top1.auto.stack c.push-top2.ensures.0 c.push-top2.auto.stack
    c.push-top3.ensures.0 c.push-top3.auto.stack in
    (r.0, r.1, c.requires.w_nonzero.4.0)

pub shape_of-stack : goal.shape_of-stack
shape_of-stack c =
    c.push_row.auto.stack ∙ c.push-top3.auto.stack ∙ c.push-top2.auto.stack ∙ c.push_row-top1.auto.stack

pub returns : goal.returns
unfolding pushes
returns at-goal =
    let a = at-goal.args in
    let ls = a.links.now in let c = a.c.0 in let m = a.mask in let w = a.w in
    let old = drop (a.top.0 + 1) a.stack.now in
    let f = beside_entry w ls c in
    let H = halved m in
    let p1 = at-goal.push_row-top1 in let p2 = at-goal.push-top2 in let p3 = at-goal.push-top3 in let p4 = at-goal.push_row in
    let wide = at-goal.requires.w_nonzero.0 in let narrow = at-goal.requires.w_nonzero.1 in
    let sub6 = at-goal.wrapping_sub_u32 in let sub2 = at-goal.wrapping_sub_u32-2 in
    let e6 = entries.below_left w ls c wide narrow (search rules) sub6.ensures.value at-goal.beside-below_left.ensures in
    let e7 = entries.below w ls c wide narrow at-goal.beside-below.ensures in
    let e8 = entries.below_right w ls c wide narrow at-goal.beside-below_right.ensures in
    let e5 = entries.right w ls c wide narrow at-goal.beside-right.ensures in
    let e3 = entries.left w ls c wide narrow at-goal.beside-left.ensures in
    let e0 = entries.above-left w ls c wide narrow at-goal.beside-above_left.ensures in
    let e1 = entries.above w ls c wide narrow at-goal.beside-above.ensures in
    let e2 = entries.above-right w ls c wide narrow (search rules) sub2.ensures.value at-goal.beside-above_right.ensures in
    let k6 = kept_of-row f 6 7 8 [] (m / 32) (m / 2 / 2 / 2 / 2 / 2) old p1.ensures.1 (ap (λ (x : ℕ). x % 8) (sym H.five_times))
    e6 e7 e8 refl in
    let k5 = kept_of_push f 5 (6 ∷ 7 ∷ 8 ∷ []) (m / 2 / 2 / 2 / 2) old p2.ensures.1 (ap (λ (x : ℕ). x % 2) (sym H.four_times)) e5 k6 in
    let k3 = kept_of_push f 3 (5 ∷ 6 ∷ 7 ∷ 8 ∷ []) (m / 2 / 2 / 2) old p3.ensures.1 (ap (λ (x : ℕ). x % 2) (sym H.thrice)) e3 k5 in
    let k0 = kept_of-row f 0 1 2 (3 ∷ 5 ∷ 6 ∷ 7 ∷ 8 ∷ []) (m % 8) m old p4.ensures.1 (mod-mod m 8) e0 e1 e2 k3 in
    let moved = moved_all m a.top.0 (length a.stack.now) at-goal.requires.mask_bound.0 at-goal.requires.mask_bound.1 p1.ensures.0 p1.auto.stack
    p2.ensures.0 p2.auto.stack p3.ensures.0 p3.auto.stack p4.result.0 p4.ensures.0 in
    (moved, k0)
