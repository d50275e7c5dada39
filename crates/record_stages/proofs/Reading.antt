-- What is read from an accepted record is its ground.
-- Assumes nothing.
use mathlib.Core.Bool.{true}
use mathlib.Core.List.{List, map, map-map}
use mathlib.Core.Path.{ap, sym, ◌∙◌, ◌≡◌}
use Prim.Native.Nat.{ℕ, ◌*◌, ◌+◌, ◌-◌, ◌<◌}
use native.Mathlib.Nat.{zero-add}
use native.Mathlib.Omega.{arith}
use lib.ListN.{take}
use Rattle.ground.specs.Good.{Good}
use Rattle.ground.specs.Record.{ground_in}
use Rattle.heights.proofs.Bits.{bits_of-signed_of}
use Rattle.heights.proofs.HeightSections.{get_d_heights_at}
use Rattle.heights.proofs.Heights.{lifted_bits-bits_of}
use Rattle.heights.specs.Bits.{lifted_bits, signed_of}
use Rattle.lists.proofs.Filled.{filled-take}
use Rattle.lists.proofs.Overwrite.{overwrite-take}
use Rattle.lists.proofs.Tab.{tab-length, tab-map, tab_same}
use Rattle.lists.specs.Lists.{filled, overwrite, stretch, tab}
use Rattle.sections.specs.LittleEndian.{number_at, numbers_at}
use Rattle.record_stages.specs.Lifted.{InRangeAt, lifted_at}
use Rattle.rules.specs.Ground.{Ground, height_in_range, lifted}

-- lifted bits are the lifted height, where that is a height
pub lifted_bits_lem : (x : ℕ) → x < 4294967296 → height_in_range (signed_of x) ≡ true → lifted_bits x ≡ lifted (signed_of x)
lifted_bits_lem x l h = ap lifted_bits (sym (bits_of-signed_of x l)) ∙ lifted_bits-bits_of (signed_of x) h

module _ (s : List ℕ) (w h : ℕ) (G : Good (ground_in s w h)) where
  abbrev g : Ground
  g = ground_in s w h

  -- the heights that were read, lifted, are those of the ground
  lifted-heights : tab (h * w) (lifted_at s) ≡ map lifted g.heights
  lifted-heights =
      tab_same (lifted_at s) (λ k. lifted (signed_of (number_at 4 s (0 + 4 * k)))) (h * w)
      (λ k l. ap (λ (i : ℕ). lifted (signed_of (number_at 4 s i))) (sym (zero-add (4 * k))))
      ∙ sym (tab-map (λ x. lifted (signed_of x)) (λ k. number_at 4 s (0 + 4 * k)) (h * w))
      ∙ sym (map-map lifted signed_of (numbers_at 4 s 0 (h * w)))

  pub in_range-at : (n : ℕ) → n ≡ h * w → InRangeAt s n
  in_range-at n z k l =
      let b : k < h * w = omega arith in
      ap height_in_range (sym (get_d_heights_at s 0 (h * w) k b ∙ ap (λ (i : ℕ). signed_of (number_at 4 s i)) (zero-add (4 * k)))) ∙ G.heights_in_range k b

  pub heights_are : {out : List ℕ} (zeros : List ℕ) (n : ℕ) → n ≡ h * w → out ≡ filled (lifted_at s) n zeros → take n out ≡ map lifted g.heights
  heights_are {out} zeros n z e =
      filled-take (lifted_at s) n zeros e ∙ ap (λ (k : ℕ). tab k (lifted_at s)) z ∙ lifted-heights

  -- and so is the water, where it stands
  pub water-here : (n : ℕ) → n ≡ h * w → numbers_at 2 s (5 * n) n ≡ g.water
  water-here n z = ap (λ (k : ℕ). numbers_at 2 s (5 * k) k) z

  -- and as a list
  pub water_are : {out : List ℕ} (old : List ℕ) (n : ℕ) → n ≡ h * w → out ≡ overwrite (numbers_at 2 s (5 * n) n) old → take n out ≡ g.water
  water_are {out} old n z e =
      overwrite-take (numbers_at 2 s (5 * n) n) old n (tab-length (λ k. number_at 2 s (5 * n + 2 * k)) n) e ∙ water-here n z

  -- the marks stand in the record
  pub marks_are : (n : ℕ) → n ≡ h * w → stretch (4 * n) (5 * n - 4 * n) s ≡ g.marks
  marks_are n z =
      let d : 5 * n - 4 * n ≡ n = omega arith in
      ap (λ (k : ℕ). stretch (4 * n) k s) d ∙ ap (λ (k : ℕ). stretch (4 * k) k s) z
