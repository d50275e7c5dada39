-- Rule 10 as W-201 has it, over any land and any receivers. A wet cell is no outlet and no hole, and a dry cell has its height as its level.
-- What document 01's rule 10 alone calls wet are the meadows; where the way meets an outlet, it called every wet cell wet.
-- Where demand 3 holds, a cell is wet exactly when every way out climbs above its ground.
-- Assumes nothing.
use mathlib.Core.Bool.{Bool, false, not, true, ◌&&◌}
use mathlib.Core.List.{List}
use mathlib.Core.Logic.{inl, inr, ◌⊎◌}
use mathlib.Core.Path.{◌≡◌}
use Prim.Native.Nat.{ℕ, ◌<◌, ◌≤◌}
use native.Mathlib.Omega.{arith}
use lib.Dec.{eqb}
use borrow.Author.Tests.{eq-eqb, eqb-true, le-ltb, lt-ltb, ltb-false, ltb-true, not-true}
use Rattle.lists.proofs.Tests.{and_left, and_right, is, isnt, Known, known, lt_or_ge, never, one_holds, zero_fails}
use Rattle.lists.specs.Lists.{at}
use Rattle.rules.proofs.Levels.{level_at-least-height, level_hole, level_outlet, level-receiver}
use Rattle.rules.specs.Demand3.{Followed}
use Rattle.rules.specs.Land.{Land}
use Rattle.rules.specs.Meadow.{Meadow, wet_by_document01}
use Rattle.rules.specs.Network.{is_wet, level, wet}
use Rattle.rules.specs.Way.{Runs, Way}

module _ (L : Land) (r : List ℕ) (c : ℕ) where
  -- the rule as it is said
  pub wet-above : wet L r c ≡ 1 → L.height c < level L r c
  unfolding wet
  wet-above e = ltb-true _ _ (one_holds (is_wet (L.height c) (level L r c)) e)

  pub above-wet : L.height c < level L r c → wet L r c ≡ 1
  unfolding wet
  above-wet l = rw (lt-ltb (L.height c) (level L r c) l)

  pub dry-level : wet L r c ≡ 0 → level L r c ≡ L.height c
  unfolding wet
  dry-level e =
      let l : level L r c ≤ L.height c = ltb-false _ _ (zero_fails (is_wet (L.height c) (level L r c)) e) in
      omega (arith, level_at-least-height L r c)

  pub level-dry : level L r c ≤ L.height c → wet L r c ≡ 0
  unfolding wet
  level-dry l = rw (le-ltb (L.height c) (level L r c) l)

  -- a wetness is 0 or 1
  pub wet-most : wet L r c ≤ 1
  wet-most = go (lt_or_ge (L.height c) (level L r c))
    where
      go : (L.height c < level L r c) ⊎ (level L r c ≤ L.height c) → wet L r c ≤ 1
      go (inl l) = omega (arith, above-wet l)
      go (inr l) = omega (arith, level-dry l)

  -- a wet cell is no outlet, and no hole
  pub wet_inner : wet L r c ≡ 1 → L.outlet c ≡ false
  wet_inner e = never (L.outlet c) (λ o. omega (arith, wet-above e, level_outlet L r c o))

  pub wet_solid : wet L r c ≡ 1 → L.solid c ≡ true
  wet_solid e = go (known (L.solid c))
    where
      go : Known (L.solid c) → L.solid c ≡ true
      go (is s) = s
      go (isnt s) = absurd (omega (arith, wet-above e, level_hole L r c s))

  -- no meadow becomes a lake
  pub wet-was-wet : {j : ℕ} → Runs L (at r) c j → wet L r c ≡ 1 → wet_by_document01 L r c ≡ 1
  unfolding wet_by_document01
  wet-was-wet w e =
      let one-level : level L r c ≡ level L r (at r c) = omega (arith, wet-above e, level-receiver L r w (wet_inner e)) in
      rw (wet_solid e, wet_inner e, eq-eqb (level L r c) (level L r (at r c)) one-level)

  -- and what changed are the meadows, no more and no less
  pub changed_meadow : wet_by_document01 L r c ≡ 1 → wet L r c ≡ 0 → Meadow L r c
  unfolding wet_by_document01
  changed_meadow e d =
      let inner : Bool = not (L.outlet c) in
      let same : Bool = eqb (level L r c) (level L r (at r c)) in
      let all = one_holds (L.solid c && inner && same) e in
      let two = and_left (L.solid c && inner) same all in
      let no_water = dry-level d in
      let one-level = eqb-true (level L r c) (level L r (at r c)) (and_right (L.solid c && inner) same all) in
      record {
        solid = and_left (L.solid c) inner two;
        inner = not-true (L.outlet c) (and_right (L.solid c) inner two);
        no_water = no_water;
        receiver_level = omega (arith, no_water, one-level);
      }

  pub meadow_changed : Meadow L r c → (wet_by_document01 L r c ≡ 1) × (wet L r c ≡ 0)
  unfolding wet_by_document01
  meadow_changed M =
      let one-level : level L r c ≡ level L r (at r c) = omega (arith, M.no_water, M.receiver_level) in
      (rw (M.solid, M.inner, eq-eqb (level L r c) (level L r (at r c)) one-level), level-dry (omega (arith, M.no_water)))

  -- in the words of demand 3
  pub wet_climbs : Followed L r c → wet L r c ≡ 1 → (m : ℕ) → Way L c m → L.height c < m
  wet_climbs F e m w = omega (arith, wet-above e, F.level_is_peak, F.lowest_peak m w)

  pub climbs_wet : Followed L r c → ((m : ℕ) → Way L c m → L.height c < m) → wet L r c ≡ 1
  climbs_wet F climbs = above-wet (omega (arith, climbs _ F.peak_attained, F.level_is_peak))
