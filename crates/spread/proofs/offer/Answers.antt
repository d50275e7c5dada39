-- `spread::offer` meets its contract: the place is written past the tail, and counts where the tail moves (Offers).
-- Assumes nothing.
use Rattle.spread.proofs.Offers.{offer_made}
use Rattle.spread.proofs.offer.Goals as goal

pub returns : goal.returns
returns c =
    let a = c.args in
    offer_made a.counts.now a.queue.now a.tail.0 a.place a.bit a.count c.taken-takes.result c.counted.result
    c.requires.4 c.requires.2 c.taken-takes.ensures.0 c.counted.ensures
