-- The network record of sample F, 58 bytes by document 01's "Records", both ways.
-- Assumes nothing.
use Rattle.std.specs.Prelude.{[], List, ◌∷◌, refl, ◌≡◌, ℕ}
use Rattle.std.proofs.Common.{ap, ◌∙◌}
use Rattle.network_bytes.specs.NetworkRecord.{distances, network_record, network_trailer}
use Rattle.network_bytes.specs.ReadNetwork.{network_of_record}
use Rattle.rules.specs.Network.{network}
use Rattle.rules.specs.Samples.{F_right, ground_f, network_f}

-- receivers, basins and order; levels; drainage and wet; width and height; the six distances
abbrev pub network_record_f : List ℕ
network_record_f =
    0x01 ∷ 0x00 ∷ 0x01 ∷ 0x00 ∷ 0x00 ∷ 0x00 ∷ 0x01 ∷ 0x00 ∷ 0x01 ∷ 0x00 ∷ 0x00 ∷ 0x00
    ∷ 0x04 ∷ 0x00 ∷ 0x00 ∷ 0x00 ∷ 0x04 ∷ 0x00 ∷ 0x00 ∷ 0x00
    ∷ 0x02 ∷ 0x00 ∷ 0x00 ∷ 0x00 ∷ 0x05 ∷ 0x00 ∷ 0x00 ∷ 0x00 ∷ 0x01 ∷ 0x00
    ∷ 0x02 ∷ 0x00 ∷ 0x01 ∷ 0x00
    ∷ 0x1E ∷ 0x00 ∷ 0x00 ∷ 0x00 ∷ 0x1A ∷ 0x00 ∷ 0x00 ∷ 0x00 ∷ 0x16 ∷ 0x00 ∷ 0x00 ∷ 0x00
    ∷ 0x12 ∷ 0x00 ∷ 0x00 ∷ 0x00 ∷ 0x0A ∷ 0x00 ∷ 0x00 ∷ 0x00 ∷ 0x02 ∷ 0x00 ∷ 0x00 ∷ 0x00 ∷ []

-- written from the six lists of F
pub writes_F : network_record 2 1 network_f ≡ network_record_f
unfolding network_record network_trailer distances
writes_F = refl

-- and read as them
pub reads_F : network_of_record network_record_f ≡ network_f
unfolding network_of_record
reads_F = refl

-- which are those that the rules give for its ground
pub ground_F_record : network_record 2 1 (network ground_f) ≡ network_record_f
ground_F_record = ap (network_record 2 1) F_right ∙ writes_F
