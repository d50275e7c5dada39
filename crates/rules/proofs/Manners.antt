-- What both manners have in common, shown once (W-205): their receivers lead to outlets over neighbours, and levels stay those of carving. So
-- rule 7 over them gives carving's levels, they are sound, and demand 3 holds. They drain, each by its own file.
-- Assumes nothing.
use mathlib.Core.Bool.{false, true}
use mathlib.Core.List.{List}
use mathlib.Core.Path.{ap, refl, sym, ◌∙◌, ◌≡◌}
use Prim.Native.Nat.{max, ℕ, ◌<◌, ◌≤◌}
use native.Mathlib.Omega.{arith}
use Rattle.lists.proofs.Tab.{tab_same}
use Rattle.lists.proofs.Tests.{is, isnt, Known, known}
use Rattle.lists.specs.Lists.{at}
use Rattle.rules.proofs.Draining.{receivers_drain}
use Rattle.rules.proofs.Levels.{level_hole, level_outlet, level-receiver}
use Rattle.rules.proofs.Lowest.{arrives, level_local, receivers-beside}
use Rattle.rules.proofs.SheetLevels.{sheet_arrives, sheet_beside, sheet_drains, sheet_levels}
use Rattle.rules.proofs.SixLists.{six_lists_same}
use Rattle.rules.specs.Carving.{receivers}
use Rattle.rules.specs.Demand3.{Sound}
use Rattle.rules.specs.Land.{Land}
use Rattle.rules.specs.Network.{level, lifted_network, lifted_network_in, receivers_by, wet}
use Rattle.rules.specs.Way.{done, Drains, Lawful, more, Runs}
use Rattle.rules.specs.declared.Manner.{Manner}
use Rattle.rules.specs.declared.Manner.TheVariants.{Carve, Sheet}

-- receivers that lead each cell to an outlet, over neighbours, and over which carving's levels are rule 7's
record LevelsStay (L : Land) (r : List ℕ) : Type 0 where
  pub ways : (c : ℕ) → c < L.cells → L.solid c ≡ true → (j : ℕ) × Runs L (at r) c j
  pub over_neighbours : (c : ℕ) → c < L.cells → L.solid c ≡ true → L.outlet c ≡ false → L.beside c (at r c) ≡ true
  pub rule_7 : (c : ℕ) → c < L.cells → L.solid c ≡ true → L.outlet c ≡ false
      → level L (receivers L) c ≡ max (L.height c) (level L (receivers L) (at r c))

manner_stays : (M : Manner) (L : Land) → Lawful L → LevelsStay L (receivers_by M L)
manner_stays Carve L W =
    record {
      ways = arrives L W;
      over_neighbours = receivers-beside L W;
      rule_7 = λ c h s o. let (j, w) = arrives L W c h s in level-receiver L (receivers L) w o;
    }
manner_stays Sheet L W = record { ways = sheet_arrives L W; over_neighbours = sheet_beside L W; rule_7 = sheet_levels L W }

module _ (L : Land) (r : List ℕ) (S : LevelsStay L r) where
  -- by the way that is followed
  level_along : {c j : ℕ} → Runs L (at r) c j → level L r c ≡ level L (receivers L) c
  level_along (done {c = a} h o) = level_outlet L r a o ∙ sym (level_outlet L (receivers L) a o)
  level_along (more {c = a} h s o w) =
      level-receiver L r (more h s o w) o ∙ ap (max (L.height a)) (level_along w) ∙ sym (S.rule_7 a h s o)

  level_stays : (c : ℕ) → c < L.cells → level L r c ≡ level L (receivers L) c
  level_stays c h = go (known (L.solid c))
    where
      go : Known (L.solid c) → level L r c ≡ level L (receivers L) c
      go (is s) = let (j, w) = S.ways c h s in level_along w
      go (isnt s) = level_hole L r c s ∙ sym (level_hole L (receivers L) c s)

  wet_stays : (c : ℕ) → c < L.cells → wet L r c ≡ wet L (receivers L) c
  unfolding wet
  wet_stays c h = rw (level_stays c h)

  stays_sound : Lawful L → Sound L r
  stays_sound W =
      record {
        ways = S.ways;
        over_neighbours = S.over_neighbours;
        local = λ c d h k b. let l = level_local L W c d h k b in omega (arith, level_stays c h, level_stays d k);
      }

-- either manner is sound
pub manner_sound : (M : Manner) (L : Land) → Lawful L → Sound L (receivers_by M L)
manner_sound M L W = stays_sound L (receivers_by M L) (manner_stays M L W) W

-- and drains; a hole's entry has to be no cell's number
pub manner_drains : (M : Manner) (L : Land) → Lawful L → ((c : ℕ) → L.solid c ≡ false → L.cells ≤ 65535) → Drains L (receivers_by M L)
manner_drains Carve L W few = receivers_drain L W few
manner_drains Sheet L W few = sheet_drains L W few

-- the network in either manner is what rules 7 to 10 give over its receivers
pub manner_network : (M : Manner) (L : Land) → Lawful L → (water : List ℕ) → lifted_network_in M L water ≡ lifted_network L water (receivers_by M L)
unfolding lifted_network_in lifted_network
manner_network M L W water =
    let S = manner_stays M L W in
    six_lists_same refl refl refl
    (tab_same (level L (receivers L)) (level L (receivers_by M L)) L.cells (λ c h. sym (level_stays L (receivers_by M L) S c h)))
    refl
    (tab_same (wet L (receivers L)) (wet L (receivers_by M L)) L.cells (λ c h. sym (wet_stays L (receivers_by M L) S c h)))
