-- The record of a network is bytes throughout, if its wet entries are.
-- Assumes nothing.
use mathlib.Core.List.{[], List, map, ◌++◌, ◌∷◌}
use Prim.Native.Nat.{ℕ, ◌*◌}
use lib.IntN.{ℤ}
use Rattle.heights.specs.Bits.{bits_of, height_section}
use Rattle.lists.proofs.Below.{below_append}
use Rattle.lists.specs.Lists.{Below}
use Rattle.sections.proofs.Sections.{section_of-below}
use Rattle.sections.specs.LittleEndian.{section_of}
use Rattle.network_bytes.specs.NetworkRecord.{distances, network_record, network_trailer}
use Rattle.rules.specs.Network.{Network}

-- a trailer is two numbers of 2 bytes and six of 4
trailer_bytes : (w h : ℕ) → Below 256 (network_trailer w h)
unfolding network_trailer distances
trailer_bytes w h =
    let n = h * w in
    let sizes : List ℕ = w ∷ h ∷ [] in
    let back : List ℕ = 15 * n ∷ 13 * n ∷ 11 * n ∷ 9 * n ∷ 5 * n ∷ n ∷ [] in
    below_append 256 (section_of 2 sizes) (section_of 4 back) (section_of-below 2 sizes) (section_of-below 4 back)

-- the sections are bytes but for wet, which is written as it is
pub record_bytes : (w h : ℕ) (net : Network ℤ) → Below 256 net.wet → Below 256 (network_record w h net)
unfolding network_record
record_bytes w h net f =
    let rs = section_of 2 net.receivers in
    let bs = section_of 2 net.basins in
    let os = section_of 2 net.order in
    let ls = height_section net.levels in
    let ds = section_of 4 net.drainage in
    let b = below_append 256 rs bs (section_of-below 2 net.receivers) (section_of-below 2 net.basins) in
    let o = below_append 256 (rs ++ bs) os b (section_of-below 2 net.order) in
    let l = below_append 256 (rs ++ bs ++ os) ls o (section_of-below 4 (map bits_of net.levels)) in
    let d = below_append 256 (rs ++ bs ++ os ++ ls) ds l (section_of-below 4 net.drainage) in
    let t = below_append 256 (rs ++ bs ++ os ++ ls ++ ds) net.wet d f in
    below_append 256 (rs ++ bs ++ os ++ ls ++ ds ++ net.wet) (network_trailer w h) t (trailer_bytes w h)
