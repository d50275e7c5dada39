-- With four neighbours no weight is a corner's, so that the passes for the corners would add nothing.
-- Assumes nothing.
use mathlib.Core.Bool.{Bool, cond, false≢true, true}
use mathlib.Core.List.Memᴰ.{head as in_head}
use mathlib.Core.List.Memᴰ.{tail as in_Tail}
use mathlib.Core.List.{List}
use mathlib.Core.Logic.{inl, inr, ◌⊎◌}
use mathlib.Core.Path.{ap, refl, subst, sym, ◌∙◌, ◌≡◌}
use Prim.Native.Nat.{ℕ, ◌+◌, ◌-◌, ◌<◌}
use native.Mathlib.Omega.{arith}
use Rattle.grid.proofs.Corners.{corner-around, corner_diagonal, side_straight}
use Rattle.grid.proofs.Rules.{around_rule, rule_by_lem}
use Rattle.grid.proofs.Window.{beside_stands, stands_itself, stands_place}
use Rattle.grid.specs.Masks.{bit_of}
use Rattle.grid.specs.Neighbours.{places_by}
use Rattle.grid.specs.Window.{around, beside, corners, Stands}
use Rattle.links.proofs.Added.{added_none}
use Rattle.links.proofs.Leads.{test_found, weight_stands}
use Rattle.links.specs.Leads.{Added, added_corners, added_to, Leading}
use Rattle.lists.proofs.Tests.{never}
use Rattle.lists.specs.Lists.{at, ◌∈◌}
use Rattle.grid.specs.declared.Neighbours.{Neighbours}
use Rattle.grid.specs.declared.Neighbours.TheVariants.{Four}

module _ {N : Neighbours} {w n : ℕ} {f : ℕ → ℕ} {weights : List ℕ} (K : Leading N w n f weights) where
  -- a weight's place is one of those that are asked for
  weight-asked : (x q : ℕ) → x < n → q ∈ around → at weights x ≡ bit_of around q → q ∈ places_by N
  weight-asked x q h m e = go (K.near x h)
    where
      S : Stands w n x q (f x)
      S = weight_stands K x q h m e

      go : (f x ≡ x) ⊎ (beside (places_by N) w x (f x) ≡ true) → q ∈ places_by N
      go (inl z) = absurd (around_rule.no_middle (subst (λ (p : ℕ). p ∈ around) (stands_itself S (sym z)) m))
      go (inr t) =
          let (p, i, T) = beside_stands (places_by N) w n x (f x) (rule_by_lem N) S.on t in
          subst (λ (p : ℕ). p ∈ places_by N) (sym (stands_place T) ∙ stands_place S) i

  -- so nothing is added for any other
  none_added : (q : ℕ) → q ∈ around → (q ∈ places_by N → ⊥) → (after before m i : ℕ) → added_to after before n weights (bit_of around q) m i ≡ 0
  none_added q k z after before m i =
      ap (λ (b : Bool). cond b m 0)
      (never _ (λ t. let (h, l, e) = test_found after before n weights (bit_of around q) i t in
      z (weight-asked (i + after - before) q (omega arith) k e)))

module _ {w n : ℕ} {f : ℕ → ℕ} {weights : List ℕ} (K : Leading Four w n f weights) where
  no_corner : (q : ℕ) → q ∈ corners → (after before m i : ℕ) → added_to after before n weights (bit_of around q) m i ≡ 0
  no_corner q k = none_added K q (corner-around q k) (λ s. false≢true (sym (side_straight q s) ∙ corner_diagonal q k))

  pub no_corners : (l : List ℕ) → Added (added_corners w n weights) l l
  no_corners l =
      added_none (added_corners w n weights) l
      (λ i. let a = no_corner 0 (in_head refl) (w + 1) 0 128 i in
      let b = no_corner 2 (in_Tail (in_head refl)) (w - 1) 0 32 i in
      let c = no_corner 6 (in_Tail (in_Tail (in_head refl))) 0 (w - 1) 4 i in
      let d = no_corner 8 (in_Tail (in_Tail (in_Tail (in_head refl)))) 0 (w + 1) 1 i in
      omega arith)
