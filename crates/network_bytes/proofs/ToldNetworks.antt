-- The record of a network tells it: read again, alone or at the start of a longer one, it is the six lists that it was written from.
-- Assumes nothing.
use mathlib.Core.List.{[], append_assoc, append-nil, List, ◌++◌}
use mathlib.Core.Path.{ap, refl, sym, ◌∙◌, ◌≡◌}
use Prim.Native.Nat.{ℕ, ◌*◌, ◌+◌}
use native.Mathlib.Nat.{add-zero}
use native.Mathlib.Omega.{arith}
use lib.IntN.{ℤ}
use lib.ListN.{drop, length, length-append}
use Rattle.heights.proofs.HeightSections.{heights_at-height_section, length-height_section}
use Rattle.heights.specs.Bits.{heights_at, height_section}
use Rattle.lists.proofs.Stretch.{stretch-at}
use Rattle.lists.specs.Lists.{overwrite, stretch}
use Rattle.sections.proofs.Numbers.{number_at_skip}
use Rattle.sections.proofs.Sections.{length-section_of, numbers_at-section_of}
use Rattle.sections.specs.LittleEndian.{number_at, numbers_at, section_of}
use Rattle.network_bytes.proofs.Laws.{length-network_record}
use Rattle.network_bytes.specs.NetworkRecord.{network_record, network_trailer}
use Rattle.network_bytes.specs.ReadNetwork.{network_height_in, network_in, network_of_record, network_trailer_at, network_width_in}
use Rattle.network_bytes.specs.Tellable.{Tellable}
use Rattle.rules.proofs.SixLists.{six_lists_same}
use Rattle.rules.specs.Network.{Network}

module _ (w h : ℕ) (net : Network ℤ) (T : Tellable w h net) where
  abbrev n : ℕ
  n = h * w

  -- the six sections
  abbrev rs : List ℕ
  rs = section_of 2 net.receivers

  abbrev bs : List ℕ
  bs = section_of 2 net.basins

  abbrev os : List ℕ
  os = section_of 2 net.order

  abbrev ls : List ℕ
  ls = height_section net.levels

  abbrev ds : List ℕ
  ds = section_of 4 net.drainage

  abbrev ts : List ℕ
  ts = network_trailer w h

  -- where each section starts, and where the record ends
  basins_start : length rs ≡ 2 * n
  basins_start = length-section_of 2 net.receivers ∙ rw T.full.receivers_full

  order-start : length (rs ++ bs) ≡ 4 * n
  order-start = length-append rs bs ∙ omega (arith, basins_start, length-section_of 2 net.basins, T.full.basins_full)

  levels-start : length (rs ++ bs ++ os) ≡ 6 * n
  levels-start = length-append (rs ++ bs) os ∙ omega (arith, order-start, length-section_of 2 net.order, T.full.order_full)

  drainage-start : length (rs ++ bs ++ os ++ ls) ≡ 10 * n
  drainage-start = length-append (rs ++ bs ++ os) ls ∙ omega (arith, levels-start, length-height_section net.levels, T.full.levels_full)

  wet-start : length (rs ++ bs ++ os ++ ls ++ ds) ≡ 14 * n
  wet-start = length-append (rs ++ bs ++ os ++ ls) ds ∙ omega (arith, drainage-start, length-section_of 4 net.drainage, T.full.drainage_full)

  trailer_start_lem : length (rs ++ bs ++ os ++ ls ++ ds ++ net.wet) ≡ 15 * n
  trailer_start_lem = length-append (rs ++ bs ++ os ++ ls ++ ds) net.wet ∙ omega (arith, wet-start, T.full.wet_full)

  -- the record at the start of a longer one, with what stands before and after each section
  module _ (rest : List ℕ) where
    abbrev s : List ℕ
    s = network_record w h net ++ rest

    receivers-told : numbers_at 2 s 0 n ≡ net.receivers
    unfolding network_record
    receivers-told =
        let q = bs ++ (os ++ (ls ++ (ds ++ (net.wet ++ (ts ++ rest))))) in
        let e : s ≡ rs ++ q = simp append_assoc in
        rw e (numbers_at-section_of 2 [] net.receivers q 0 n refl T.full.receivers_full T.receivers_fit)

    basins_told : numbers_at 2 s (2 * n) n ≡ net.basins
    unfolding network_record
    basins_told =
        let q = os ++ (ls ++ (ds ++ (net.wet ++ (ts ++ rest)))) in
        let e : s ≡ rs ++ (bs ++ q) = simp append_assoc in
        rw e (numbers_at-section_of 2 rs net.basins q (2 * n) n basins_start T.full.basins_full T.basins_fit)

    order-told : numbers_at 2 s (4 * n) n ≡ net.order
    unfolding network_record
    order-told =
        let q = ls ++ (ds ++ (net.wet ++ (ts ++ rest))) in
        let e : s ≡ (rs ++ bs) ++ (os ++ q) = simp append_assoc in
        rw e (numbers_at-section_of 2 (rs ++ bs) net.order q (4 * n) n order-start T.full.order_full T.order_fits)

    levels-told : heights_at s (6 * n) n ≡ net.levels
    unfolding network_record
    levels-told =
        let q = ds ++ (net.wet ++ (ts ++ rest)) in
        let e : s ≡ (rs ++ bs ++ os) ++ (ls ++ q) = simp append_assoc in
        rw e (heights_at-height_section (rs ++ bs ++ os) net.levels q (6 * n) n levels-start T.full.levels_full T.levels_in_range)

    drainage-told : numbers_at 4 s (10 * n) n ≡ net.drainage
    unfolding network_record
    drainage-told =
        let q = net.wet ++ (ts ++ rest) in
        let e : s ≡ (rs ++ bs ++ os ++ ls) ++ (ds ++ q) = simp append_assoc in
        rw e (numbers_at-section_of 4 (rs ++ bs ++ os ++ ls) net.drainage q (10 * n) n drainage-start T.full.drainage_full T.drainage_fits)

    wet-told : stretch (14 * n) n s ≡ net.wet
    unfolding network_record
    wet-told =
        let e : s ≡ (rs ++ bs ++ os ++ ls ++ ds) ++ (net.wet ++ (ts ++ rest)) = simp append_assoc in
        rw e (stretch-at (rs ++ bs ++ os ++ ls ++ ds) net.wet (ts ++ rest) (14 * n) n wet-start T.full.wet_full)

    -- whatever follows the record, the network is read from it
    network-told_before : network_in (network_record w h net ++ rest) w h ≡ net
    network-told_before = six_lists_same receivers-told basins_told order-told levels-told drainage-told wet-told

  -- as a call leaves it, at the start of a lent record
  pub network-left : (old : List ℕ) → network_in (overwrite (network_record w h net) old) w h ≡ net
  network-left old = network-told_before (drop (length (network_record w h net)) old)

  -- alone
  network_in_lem : network_in (network_record w h net) w h ≡ net
  network_in_lem = ap (λ (l : List ℕ). network_in l w h) (sym (append-nil (network_record w h net))) ∙ network-told_before []

  -- the trailer
  trailer_at_lem : network_trailer_at (network_record w h net) ≡ 15 * n
  trailer_at_lem = rw (length-network_record w h net T.full) (omega arith)

  number_at_lem : (each k : ℕ) → number_at each (network_record w h net) (15 * n + k) ≡ number_at each (network_trailer w h) k
  unfolding network_record
  number_at_lem each k = rw (← trailer_start_lem) (number_at_skip each (rs ++ bs ++ os ++ ls ++ ds ++ net.wet) ts k)

  width_told : network_width_in (network_record w h net) ≡ w
  unfolding network_trailer
  width_told =
      let l = T.width_fits in
      rw (trailer_at_lem, ← add-zero (15 * n)) (number_at_lem 2 0 ∙ omega arith)

  height-told : network_height_in (network_record w h net) ≡ h
  unfolding network_trailer
  height-told =
      let l = T.height_fits in
      rw trailer_at_lem (number_at_lem 2 2 ∙ omega arith)

  -- with the width and the height that the record itself names
  pub network-told : network_of_record (network_record w h net) ≡ net
  unfolding network_of_record
  network-told = rw (width_told, height-told) network_in_lem

-- a record determines its network: two networks that their records tell and that have one record are one network
pub record_determines_network : (w h : ℕ) (net : Network ℤ) (u v : ℕ) (other : Network ℤ) → Tellable w h net → Tellable u v other
    → network_record w h net ≡ network_record u v other → net ≡ other
record_determines_network w h net u v other T U same =
    sym (network-told w h net T) ∙ ap network_of_record same ∙ network-told u v other U
