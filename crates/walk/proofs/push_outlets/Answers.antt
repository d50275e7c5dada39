-- `walk::push_outlets` meets its contract.
-- Between turns the outlets from cell c on are pushed (Begins): the top is no lower than c, so there is room for one more.
-- Assumes nothing.
use Rattle.std.proofs.Common.{◌≡◌, ℕ, ◌+◌, ◌-◌, ◌*◌, Bool, cond, List, ◌++◌, map, length, drop, sym, ap, ◌∙◌, arith}
use Rattle.lists.proofs.Bytes.{byte_of, byte_small}
use Rattle.lists.specs.Lists.{keep, upto}
use Rattle.rules.specs.Ground.{is_outlet}
use Rattle.walk.proofs.Begins.{begun_next}
use Rattle.walk.proofs.Outlets.{outlets-all, outlets_few, outlets-none, outlets_from}
use Rattle.walk.specs.Climb.{outlet_entry}
use Rattle.walk.proofs.push_outlets.Goals as goal

pub loop-c-init : goal.loop-c-init
loop-c-init c =
    let ms = c.args.marks.now in
    let e = outlets-none ms (length ms) in
    let l : length (outlets_from ms (length ms) (length ms)) ≡ 0 = ap length e in
    record { count = omega arith; from_top = rw e }

pub push-top-requires : goal.push-top-requires
push-top-requires c =
    let ms = c.args.marks.now in
    let count = c.loop-c.invariant.count in let room = c.requires in
    let few = outlets_few ms (length ms) c.loop-c.c in
    (omega arith, omega arith, rw c.from-in-loop-c.ensures (byte_small c.is_outlet.result))

pub loop-c-preserved : goal.loop-c-preserved
loop-c-preserved c =
    let a = c.args in
    let ms = a.marks.now in
    let p = c.push-top in
    let bit = c.from-in-loop-c in
    let outlet = c.is_outlet in
    let links = c.from in
    begun_next (outlet_entry a.links.now) ms a.stack.now c.loop-c.stack p.new.stack (length ms) c.loop-c.c c.loop-c.top.0
    p.result.0 bit.result (1048832 * (c.loop-c.c - 1) + links.result) c.loop-c-test.true c.loop-c.auto.c c.loop-c.invariant
    (bit.ensures ∙ byte_of outlet.result ∙ ap (λ (t : Bool). cond t 1 0) outlet.ensures)
    (omega (arith, links.ensures)) p.ensures.0 p.ensures.1

pub returns : goal.returns
returns c =
    let a = c.args in
    let ms = a.marks.now in
    let I = c.loop-c.invariant in
    let z : c.loop-c.c ≡ 0 = omega (arith, c.loop-c-test.false) in
    let e : outlets_from ms (length ms) c.loop-c.c ≡ keep (is_outlet ms) (upto (length ms)) = outlets-all ms (length ms) c.loop-c.c z in (
      ap (λ (l : List ℕ). c.loop-c.top.0 + length l) (sym e) ∙ I.count,
      I.from_top ∙ ap (λ (l : List ℕ). map (outlet_entry a.links.now) l ++ drop (length ms) a.stack.now) e,
    )
