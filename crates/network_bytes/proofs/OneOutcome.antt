-- Writing a network record: any two records that the contract in src/ allows are equal.
-- Assumes nothing.
use mathlib.Core.Path.{refl}
use Rattle.lists.proofs.Determined.{one_answer}
use Rattle.lists.specs.Contract.{OneOutcome}
use Rattle.network_bytes.proofs.write_network.Kinds as write-network-kinds
use Rattle.network_bytes.proofs.write_network.Reads as write-network

pub write_network-one : OneOutcome 7 write-network-kinds.ps write-network-kinds.r write-network.Asked write-network.Learnt
    (λ κs a r e. e.1.1.1.1.1.1.1.1.0.now)
write_network-one κs a p r r' e e' x y = (refl, one_answer x y)
