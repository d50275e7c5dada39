-- More neighbours, never higher water: where one land has the neighbours of another and perhaps more, no level is above the other's. So levels
-- with 8 neighbours are nowhere above those with 4 (W-203).
-- Assumes nothing.
use mathlib.Core.Bool.{true}
use mathlib.Core.List.{List}
use mathlib.Core.Path.{refl, subst, sym, ◌∙◌, ◌≡◌}
use Prim.Native.Nat.{max, ℕ, ◌<◌, ◌≤◌}
use native.Mathlib.Omega.{arith}
use Rattle.grid.proofs.Rules.{beside-around, sides_rule}
use Rattle.rules.proofs.Demand3Holds.{carving_sound, demand_3, ground_lawful}
use Rattle.rules.specs.Carving.{receivers}
use Rattle.rules.specs.Demand3.{Sound}
use Rattle.rules.specs.Ground.{cells_of, Drainable, Ground}
use Rattle.rules.specs.Land.{Land, land_by}
use Rattle.rules.specs.MoreNeighbours.{MoreNeighbours}
use Rattle.rules.specs.Network.{level}
use Rattle.rules.specs.Way.{arrive, step, Way}
use Rattle.grid.specs.declared.Neighbours.TheVariants.{Eight, Four}

module _ (K L : Land) (M : MoreNeighbours K L) where
  -- every way of the one is a way of the other, over the same ground
  wider_way : {c m : ℕ} → Way K c m → Way L c m
  wider_way (arrive {c = a} h o) = subst (Way L a) (sym (M.height a)) (arrive (subst (λ (n : ℕ). a < n) M.cells h) (sym (M.outlet a) ∙ o))
  wider_way (step {c = a} {d = b} {m = k} h t w) =
      subst (λ (g : ℕ). Way L a (max g k)) (sym (M.height a)) (step (subst (λ (n : ℕ). a < n) M.cells h) (M.beside a b t) (wider_way w))

  -- so no level is above
  pub more_never_higher : (r s : List ℕ) → Sound K r → Sound L s → (c : ℕ) → c < K.cells → K.solid c ≡ true → L.solid c ≡ true
      → level L s c ≤ level K r c
  more_never_higher r s A B c h k l =
      let F = (demand_3 K r A r).followed c h k in
      let G = (demand_3 L s B s).followed c (subst (λ (n : ℕ). c < n) M.cells h) l in
      let lowest = G.lowest_peak _ (wider_way F.peak_attained) in
      omega (arith, F.level_is_peak, G.level_is_peak)

-- 8 neighbours are the 4 and more
eight_more : (g : Ground) → MoreNeighbours (land_by Four g) (land_by Eight g)
eight_more g =
    record { cells = refl; height = λ c. refl; outlet = λ c. refl; beside = λ a b t. beside-around sides_rule g.width a b t }

pub eight_never_higher : (g : Ground) → Drainable g → (c : ℕ) → c < cells_of g
    → level (land_by Eight g) (receivers (land_by Eight g)) c ≤ level (land_by Four g) (receivers (land_by Four g)) c
eight_never_higher g D c h =
    more_never_higher (land_by Four g) (land_by Eight g) (eight_more g) (receivers (land_by Four g)) (receivers (land_by Eight g))
    (carving_sound (land_by Four g) (ground_lawful Four g D)) (carving_sound (land_by Eight g) (ground_lawful Eight g D)) c h refl refl
