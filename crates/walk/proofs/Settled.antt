-- What `settle` notes for the top cell is its level by rule 7, and so its wetness by rule 10: what it finds at its receiver is the
-- receiver's level, and the cell's own height where it is an outlet.
-- Assumes nothing.
use Rattle.std.proofs.Common.{◌≡◌, ℕ, max, true, false, cond, eqb, List, sym, refl, ap, ◌∙◌, subst, arith, eq-eqb, eqb-true}
use mathlib.Core.Bool.{false≢true}
use mathlib.Core.List.Memᴰ.{head as in_head}
use Rattle.lists.proofs.Any.{any_holds, any_member}
use Rattle.lists.proofs.Tests.{is, isnt, Known, known}
use Rattle.lists.specs.Lists.{any, at, ◌∈◌}
use Rattle.rules.proofs.Levels.{level_outlet, level-receiver}
use Rattle.rules.specs.Land.{Land, Rule}
use Rattle.rules.specs.Network.{is_wet, level, wet}
use Rattle.rules.specs.Tile.{tile_land}
use Rattle.rules.specs.Way.{Drains}
use Rattle.walk.proofs.Midst.{Midst}
use Rattle.walk.proofs.Tops.{Top}
use Rattle.walk.specs.Walk.{Lent, Margin}

module _ {R : Rule} {w : ℕ} {heights marks links r : List ℕ} (M : Margin R w heights marks links r) {s₀ s : Lent} {k t : ℕ}
    {I : Midst w (tile_land R w heights marks) r s₀ s k t} (T : Top I) where
  abbrev L : Land
  L = tile_land R w heights marks

  abbrev D : Drains L r
  D = M.inside.drains

  abbrev x : ℕ
  x = T.x

  -- what stands at its receiver
  abbrev below : ℕ
  below = at s.levels (at r x)

  below_outlet : L.outlet x ≡ true → below ≡ at heights x
  below_outlet o = rw (D.own x T.on o) (go (known (any (eqb x) I.written)))
    where
      go : Known (any (eqb x) I.written) → at s.levels x ≡ at heights x
      go (is a) =
          let (y, m, e) = any_member (eqb x) I.written a in
          I.noted_levels.there x (subst (λ (z : ℕ). z ∈ I.written) (sym (eqb-true _ _ e)) m) ∙ level_outlet L r x o
      go (isnt a) =
          I.noted_levels.elsewhere x (λ m. false≢true (sym a ∙ any_holds (eqb x) m (eq-eqb x x refl))) ∙ I.heights-noted x T.on

  below_inner : L.outlet x ≡ false → below ≡ level L r (at r x)
  below_inner o = I.noted_levels.there (at r x) (I.behind x (subst (λ (l : List ℕ). x ∈ l) (sym T.is_top) (in_head refl)) o)

  pub level-is : max (at heights x) below ≡ level L r x
  level-is = go (known (L.outlet x))
    where
      go : Known (L.outlet x) → max (at heights x) below ≡ level L r x
      go (is o) =
          let e : level L r x ≡ at heights x = level_outlet L r x o in
          let b : below ≡ at heights x = below_outlet o in
          omega arith
      go (isnt o) = ap (max (at heights x)) (below_inner o) ∙ sym (level-receiver L r T.runs.1 o)

  pub wet-is : ◌≡◌ {A = ℕ} (cond (is_wet (at heights x) (max (at heights x) below)) 1 0) (wet L r x)
  unfolding wet
  wet-is = ap (λ (l : ℕ). cond (is_wet (at heights x) l) 1 0) level-is
