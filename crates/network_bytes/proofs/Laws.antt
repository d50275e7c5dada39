-- Sections of a network record: lifted levels dropped on the way, and a stretch put together from its sections.
-- Assumes nothing.
use mathlib.Core.List.{[], append_assoc, List, map, ◌++◌, ◌∷◌}
use mathlib.Core.Path.{ap, refl, ◌∙◌, ◌≡◌}
use Prim.Native.Nat.{suc, ℕ, ◌*◌}
use native.Mathlib.Omega.{arith}
use lib.IntN.{ℤ}
use lib.ListN.{length, length-append, length-map, length-take, take}
use Rattle.heights.proofs.Heights.{dropped_bits-dropped}
use Rattle.heights.specs.Bits.{bits_of, dropped_bits, height_section}
use Rattle.lists.proofs.Overwrite.{overwrite-next}
use Rattle.lists.specs.Lists.{flat, overwrite, stored}
use Rattle.sections.proofs.Sections.{length-section_of}
use Rattle.sections.specs.LittleEndian.{bytes_of}
use Rattle.network_bytes.specs.NetworkRecord.{distances, flow_sections, network_bytes, network_record, network_trailer}
use Rattle.network_bytes.specs.NetworkRecord.{water_sections, Writable}
use Rattle.rules.specs.Ground.{dropped, Lifted}
use Rattle.rules.specs.Network.{drop_levels, Network}
use Rattle.rules.specs.SixLists.{first_of, Full}

-- lifted levels that are written one by one, by their bits, are the section of the signed ones
pub levels_written : (l : List ℕ) → Lifted l → flat (λ x. bytes_of 4 (dropped_bits x)) l ≡ height_section (map dropped l)
levels_written [] f = refl
levels_written (x ∷ xs) f =
    let a : dropped_bits x ≡ bits_of (dropped x) = dropped_bits-dropped x (f 0 (omega arith)) in
    rw (a, levels_written xs (λ k h. f (suc k) (omega arith)))

pub length-distances : (n : ℕ) → length (distances n) ≡ 24
unfolding distances
length-distances n = refl

-- 15N + 28 bytes
pub length-network_record : (w h : ℕ) (net : Network ℤ) → Full (h * w) net → length (network_record w h net) ≡ network_bytes (h * w)
unfolding network_record network_trailer
length-network_record w h net F = simp (length-append, length-section_of, length-map, length-distances) (omega arith)

-- the two halves and the trailer, written one after the other, are the record
pub record_written : {x y z : List ℕ} (w h n : ℕ) → n ≡ h * w → (s : Network ℕ) (bytes : List ℕ) → Writable w h s bytes
    → x ≡ overwrite (flow_sections (take n s.receivers) (take n s.basins) (take n s.order)) bytes
    → y ≡ stored (6 * n) (water_sections (take n s.levels) (take n s.drainage) (take n s.wet)) x
    → z ≡ stored (15 * n) (network_trailer w h) y
    → z ≡ overwrite (network_record w h (drop_levels (first_of (h * w) s))) bytes
unfolding flow_sections water_sections network_record
record_written {x} {y} w h n e s bytes p e1 e2 e3 =
    let H = p.holds in
    let f : List ℕ = flow_sections (take n s.receivers) (take n s.basins) (take n s.order) in
    let g : List ℕ = water_sections (take n s.levels) (take n s.drainage) (take n s.wet) in
    let t : List ℕ = network_trailer w h in
    let lf : length f ≡ 6 * n = simp (length-append, length-section_of, length-take) (omega arith) in
    let lg : length g ≡ 9 * n = simp (length-append, length-section_of, length-map, length-take) (omega arith) in
    let lfg : length (f ++ g) ≡ 15 * n = length-append f g ∙ omega arith in
    let whole : (f ++ g) ++ t ≡ network_record w h (drop_levels (first_of n s)) = simp append_assoc in
    overwrite-next (f ++ g) t bytes (15 * n) lfg (overwrite-next f g bytes (6 * n) lf e1 e2) e3
    ∙ ap (λ (q : List ℕ). overwrite q bytes) whole
    ∙ ap (λ (k : ℕ). overwrite (network_record w h (drop_levels (first_of k s))) bytes) e
