-- `walk::push_row` meets its contract: three entries, the last one first, each pushed where its bit is 1; of four neighbours the corners' bits
-- are 0, and the one in the middle is pushed alone.
-- Assumes nothing.
use Rattle.std.proofs.Common.{ℕ, ◌/◌, ◌%◌, List, [], ◌∷◌, ◌++◌, drop, sym, refl, ap, ◌∙◌, subst, arith}
use Rattle.walk.proofs.InRow.{halved, ones-row, row_middle}
use Rattle.walk.proofs.Pushing.{kept_of_push}
use Rattle.walk.specs.Climb.{one_of, RowAsked}
use Rattle.grid.specs.declared.Neighbours.{Neighbours}
use Rattle.walk.proofs.push_row.Goals as goal

pub push-top2-requires : goal.push-top2-requires
push-top2-requires c =
    let size = c.push-top1.auto.stack in let t = c.push-top1.ensures.0 in let bits = ones-row c.args.mask in let room = c.requires in
    (omega arith, omega arith, omega arith)

pub push-requires-in-Eight : goal.push-requires-in-Eight
push-requires-in-Eight c =
    let size = c.push-top2.auto.stack ∙ c.push-top1.auto.stack in let t = c.push-top1.ensures.0 in let u = c.push-top2.ensures.0 in
    let bits = ones-row c.args.mask in let room = c.requires in
    (omega arith, omega arith, omega arith)

pub returns-in-Four : goal.returns-in-Four
returns-in-Four c =
    let a = c.args in
    let p = c.push in
    let asked = subst (λ (N : Neighbours). RowAsked N a.mask) c.in-Four.is c.requires.2 in
    let low = asked.0 in let high = asked.1 in let bits = ones-row a.mask in let t = p.ensures.0 in (
      omega arith,
      p.ensures.1
          ∙ ap (λ (l : List ℕ). l ++ drop a.top.0 a.stack.now) (sym (row_middle a.left.0 a.middle.0 a.right.0 a.mask asked)),
    )

pub returns-in-Eight : goal.returns-in-Eight
returns-in-Eight c =
    let a = c.args in
    let m = a.mask in
    let f = one_of a.left.0 a.middle.0 a.right.0 in
    let old = drop a.top.0 a.stack.now in
    let p1 = c.push-top1 in let p2 = c.push-top2 in let p3 = c.push-in-Eight in
    let right = kept_of_push f 2 [] (m / 2 / 2) old p1.ensures.1 (ap (λ (x : ℕ). x % 2) (sym (halved m).twice)) refl refl in
    let middle = kept_of_push f 1 (2 ∷ []) (m / 2) old p2.ensures.1 refl refl right in
    let left = kept_of_push f 0 (1 ∷ 2 ∷ []) m old p3.ensures.1 refl refl middle in
    let bits = ones-row m in let t = p1.ensures.0 in let u = p2.ensures.0 in let v = p3.ensures.0 in
    (omega arith, left)
