-- The text of what was read is written, and it is the text of the whole input, as the bytes that are read decide it.
-- Assumes nothing.
use Rattle.std.proofs.Common.{arith, subst, take, IfSome, ◌≡◌, ◌≤◌}
use Rattle.std.proofs.lemmas.List.{length-replicate}
use Rattle.inputs.proofs.Answering.{answered}
use Rattle.inputs.proofs.answer.Goals as goal

pub whole_as_slice-read_full : goal.whole_as_slice-read_full
whole_as_slice-read_full g c = omega (arith, c.requires.sizes)

pub shared_whole_as_front-make : goal.shared_whole_as_front-make
shared_whole_as_front-make g c = (omega (arith, c.in_ok-got.ensures.within, c.read_full.auto.room), omega (arith, c.requires.sizes))

pub whole_as_slice-make : goal.whole_as_slice-make
whole_as_slice-make g c = omega (arith, c.requires.sizes)

pub shared_whole_as_front-write_all : goal.shared_whole_as_front-write_all
shared_whole_as_front-write_all g c =
    let held : c.make-len.result ≤ g.row.ROOM = c.requires.fits _ _ (length-replicate g.row.ROOM 0) _ _ c.make-len.ensures in
    (omega (arith, held), omega (arith, c.requires.sizes))

pub returns : goal.returns
returns g c text_of enough makes =
    let bytes = subst (λ n. IfSome (g.R.Read.remaining c.args.input.now) (λ s. take c.in_ok-got.got c.read_full.new.room ≡ take n s))
    (length-replicate g.row.MOST 0) c.in_ok-got.ensures.bytes in
    answered text_of g.row.MOST enough _ _ _ c.write_all.result bytes (makes _ _ _ _ c.make-len.ensures) c.write_all.ensures.bytes
