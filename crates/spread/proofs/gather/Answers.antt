-- `spread::gather` meets its contract: between turns the places of those before cell c are packed into the queue (Begins).
-- Assumes nothing.
use mathlib.Core.Bool.{Bool, cond}
use mathlib.Core.Path.{ap, subst, ◌∙◌, ◌≡◌}
use Prim.Native.Nat.{ℕ, ◌≤◌}
use native.Mathlib.Omega.{arith}
use lib.ListN.{length}
use borrow.Author.Rules.{rules}
use Rattle.lists.proofs.Bytes.{byte_of, byte_small}
use Rattle.lists.proofs.Packs.{packs_none}
use Rattle.lists.specs.Stores.{Packs}
use Rattle.spread.proofs.Begins.{gather_few, gather_next}
use Rattle.spread.specs.Wave.{beginnings}
use Rattle.spread.proofs.gather.Goals as goal
use Rattle.spread.proofs.gather.Goals.{At-loop-c}

-- the tail is at most c
tail_few : (l : At-loop-c) → l.loop-c.tail.0 ≤ l.loop-c.c
tail_few l =
    let a = l.args in
    let e = l.loop-c.invariant.count in
    let k = gather_few a.masks.now a.counts.now l.loop-c.c in
    omega arith

pub loop-c-init : goal.loop-c-init
loop-c-init c = packs_none c.args.queue.now

pub bounds-queue-tail : goal.bounds-queue-tail
bounds-queue-tail c =
    let k = tail_few (goal.at.bounds-queue-tail c).At-loop-c in let room = c.requires in let t = c.loop-c-test.true in
    omega arith

pub overflow_add-tail : goal.overflow_add-tail
overflow_add-tail c =
    let k = tail_few (goal.at.overflow_add-tail c).At-loop-c in let room = c.requires in let t = c.loop-c-test.true in
    let b : c.from.result ≤ 1 = rw c.from.ensures (byte_small c.is_start.result) in
    record { fits = omega arith }

pub loop-c-preserved : goal.loop-c-preserved
loop-c-preserved c =
    let k = tail_few (goal.at.loop-c-preserved c).At-loop-c in let room = c.requires in let t = c.loop-c-test.true in
    gather_next c.args.masks.now c.args.counts.now c.loop-c.c c.from.result
    (c.from.ensures ∙ byte_of c.is_start.result ∙ ap (λ (t : Bool). cond t 1 0) c.is_start.ensures)
    (omega arith) c.loop-c.invariant

pub returns : goal.returns
returns c =
    let all : c.loop-c.c ≡ length c.args.masks.now = search rules in
    subst (λ (k : ℕ). Packs (beginnings c.args.masks.now c.args.counts.now k) c.loop-c.queue c.loop-c.tail.0) all c.loop-c.invariant
