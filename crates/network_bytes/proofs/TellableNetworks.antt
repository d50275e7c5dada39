-- Every number of a network fits its bytes: on any land of at most 4,096 cells without holes, with heights in range and water of 16 bits, for any
-- receivers that drain it.
-- Assumes nothing.
use mathlib.Core.Bool.{true}
use mathlib.Core.List.{List}
use mathlib.Core.Path.{subst, sym, ◌≡◌}
use Prim.Native.Nat.{ℕ, ◌*◌, ◌<◌, ◌≤◌}
use native.Mathlib.Omega.{arith}
use lib.IntN.{pos}
use lib.ListN.{get_or}
use Rattle.heights.proofs.Heights.{dropped_in_range}
use Rattle.lists.proofs.Tab.{tab-below}
use Rattle.lists.specs.Lists.{at}
use Rattle.network_bytes.specs.Tellable.{Tellable}
use Rattle.rules.proofs.BasinNumbers.{basin-below}
use Rattle.rules.proofs.Bounds.{drainage-most, level-most, order_below, receiver_cell}
use Rattle.rules.proofs.SixLists.{network_of_full, network_of-level}
use Rattle.rules.proofs.WetCells.{wet-most}
use Rattle.rules.specs.FirstWays.{basin}
use Rattle.rules.specs.Ground.{height_in_range}
use Rattle.rules.specs.Land.{Land}
use Rattle.rules.specs.Network.{drainage, level, lifted_network, network_of, wet}
use Rattle.rules.specs.SixLists.{Full}
use Rattle.rules.specs.Way.{Drains}

module _ (L : Land) (water r : List ℕ) (D : Drains L r) (whole : (c : ℕ) → c < L.cells → L.solid c ≡ true) (few : L.cells ≤ 4096)
    (low : (c : ℕ) → c < L.cells → L.height c ≤ 16000000) (small : (c : ℕ) → c < L.cells → at water c ≤ 65535) where
  levels_in_range : (k : ℕ) → k < L.cells → height_in_range (get_or (network_of L water r).levels k (pos 0)) ≡ true
  levels_in_range k l =
      rw (network_of-level L water r k l) (dropped_in_range (level L r k) (level-most L r D k l (whole k l) 16000000 low))

  pub network_of_tellable : (w h : ℕ) → h * w ≡ L.cells → w < 65536 → h < 65536 → Tellable w h (network_of L water r)
  unfolding network_of lifted_network
  network_of_tellable w h e a b =
      record {
        width_fits = a;
        height_fits = b;
        full = subst (λ (n : ℕ). Full n (network_of L water r)) (sym e) (network_of_full L water r D whole);
        receivers_fit = λ k l. let i : k < L.cells = omega (arith, D.full) in omega (arith, receiver_cell L r D (D.ways k i (whole k i)).1);
        basins_fit = tab-below (basin L) L.cells 65536 (λ k l. omega (arith, basin-below L k l (whole k l)));
        order_fits = λ k l. omega (arith, order_below L r D k l);
        levels_in_range = λ k l. levels_in_range k (rw (← e) l);
        drainage_fits = tab-below (drainage L water r) L.cells 4294967296 (λ k l. omega (arith, drainage-most L r D k l (whole k l) water small));
        wet_fits = tab-below (wet L r) L.cells 256 (λ k l. omega (arith, wet-most L r k));
      }
