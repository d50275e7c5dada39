-- W-202: "neighbouring wet cells always have one level, and we want that shown". So all cells of a lake have its level.
-- It is shown of any levels that keep the local law, and those of a network do.
-- Assumes nothing.
use mathlib.Core.Bool.{true}
use mathlib.Core.List.Memᴰ.{head as in_head}
use mathlib.Core.List.Memᴰ.{not-nil as in-none}
use mathlib.Core.List.{[], List, ◌∷◌}
use mathlib.Core.Path.{ap, refl, subst, sym, ◌∙◌, ◌≡◌}
use Prim.Native.Nat.{max, ℕ, ◌<◌, ◌≤◌}
use native.Mathlib.Omega.{arith}
use Rattle.lake_rules.proofs.Joining.{group_chain, group_is, touch_is}
use Rattle.lake_rules.proofs.WetCells.{wet_cell, wet_on_land}
use Rattle.lake_rules.specs.Groups.{Touch, touches, touching}
use Rattle.lake_rules.specs.Lakes.{level_of, outermost, wet_cells}
use Rattle.lake_rules.specs.LocalLevels.{Local}
use Rattle.lists.proofs.Tab.{tab-at}
use Rattle.lists.specs.Lists.{at, tab, ◌∈◌}
use Rattle.rules.proofs.Demand3Holds.{carving_sound, ground_lawful}
use Rattle.rules.specs.Carving.{receivers}
use Rattle.rules.specs.Chain.{back, Chain, forth, here}
use Rattle.rules.specs.Demand3.{Sound}
use Rattle.rules.specs.Ground.{Drainable, Ground}
use Rattle.rules.specs.Land.{Land, land4}
use Rattle.rules.specs.Network.{level, lifted_network_in, lifted_network_of}
use Rattle.rules.specs.Way.{Lawful}
use Rattle.grid.specs.declared.Neighbours.TheVariants.{Four}

module _ (L : Land) where
  -- the levels of a network with sound receivers, carved or another manner's, keep the local law
  pub sound_levels_local : Lawful L → (r : List ℕ) → Sound L r → Local L (tab L.cells (level L r))
  sound_levels_local W r S =
      record {
        both_ways = W.mutual_neighbours;
        low = λ c d h k e.
            let a : at (tab L.cells (level L r)) c ≡ level L r c = tab-at (level L r) L.cells c 0 h in
            let b : at (tab L.cells (level L r)) d ≡ level L r d = tab-at (level L r) L.cells d 0 k in
            let q : level L r c ≤ max (L.height c) (level L r d) = S.local c d h k e in
            omega arith;
      }

  pub levels_local : Lawful L → Local L (tab L.cells (level L (receivers L)))
  levels_local W = sound_levels_local W (receivers L) (carving_sound L W)

  -- so neighbouring wet cells of such a network have one level
  pub network_wet_neighbours : Lawful L → (r : List ℕ) → Sound L r → (c d : ℕ) → c < L.cells → d < L.cells → L.beside c d ≡ true
      → L.height c < level L r c
      → L.height d < level L r d
      → level L r c ≡ level L r d
  network_wet_neighbours W r S c d h k e v w =
      let a : level L r c ≤ max (L.height c) (level L r d) = S.local c d h k e in
      let b : level L r d ≤ max (L.height d) (level L r c) = S.local d c k h (W.mutual_neighbours c d e) in
      omega arith

  module _ (levels : List ℕ) (K : Local L levels) where
    -- of any levels that keep the local law: neighbouring wet cells have one
    pub wet_neighbours : (c d : ℕ) → c < L.cells → d < L.cells → L.beside c d ≡ true → L.height c < at levels c
        → L.height d < at levels d
        → at levels c ≡ at levels d
    wet_neighbours c d h k e v w =
        let a : at levels c ≤ max (L.height c) (at levels d) = K.low c d h k e in
        let b : at levels d ≤ max (L.height d) (at levels c) = K.low d c k h (K.both_ways c d e) in
        omega arith

    pub wet_touch : (x : Touch) → x ∈ touches L (wet_cells L levels) → at levels x.lesser ≡ at levels x.greater
    wet_touch x m =
        let t = touch_is L (wet_cells L levels) m in
        let a = wet_cell L levels t.one_in in
        let b = wet_cell L levels t.other_in in
        wet_neighbours x.lesser x.greater a.0 b.0 t.beside a.1 b.1

    -- so do wet cells that a chain of wet neighbours joins
    wet_chain : {a b : ℕ} → Chain touching (touches L (wet_cells L levels)) a b → at levels a ≡ at levels b
    wet_chain (here e) = ap (at levels) e
    wet_chain (forth x m e c) = ap (at levels) (sym e) ∙ wet_touch x m ∙ wet_chain c
    wet_chain (back x m e c) = ap (at levels) (sym e) ∙ sym (wet_touch x m) ∙ wet_chain c

    -- every cell of an outermost lake has the lake's level
    pub lake_level : {s : List ℕ} → s ∈ outermost L levels → {c : ℕ} → c ∈ s → at levels c ≡ level_of levels s
    unfolding outermost
    lake_level {s} m {c} i = go s refl i
      where
        go : (z : List ℕ) → s ≡ z → c ∈ z → at levels c ≡ at levels (at z 0)
        go [] e j = absurd (in-none j)
        go (x ∷ xs) e j =
            wet_chain (group_chain L (wet_cells L levels) (wet_on_land L levels) (group_is L (wet_cells L levels) m) i
            (subst (λ (z : List ℕ). x ∈ z) (sym e) (in_head refl)))

-- the levels of a ground's network keep the local law
pub ground-levels_local : (g : Ground) → Drainable g → Local (land4 g) (lifted_network_of g).levels
unfolding lifted_network_in
ground-levels_local g o = levels_local (land4 g) (ground_lawful Four g o)
