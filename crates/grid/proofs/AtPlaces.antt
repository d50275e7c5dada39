-- The neighbours of a cell, ascending, are what stands at the rule's places; and so are the cells that pass a test which only neighbours pass.
-- Assumes nothing.
use mathlib.Core.Bool.{Bool, cond, false, false≢true, true, ◌&&◌}
use mathlib.Core.List.Memᴰ
use mathlib.Core.List.Memᴰ.{head as in_head}
use mathlib.Core.List.Memᴰ.{not-nil as in-none}
use mathlib.Core.List.Memᴰ.{tail as in_Tail}
use mathlib.Core.List.{[], List}
use mathlib.Core.List.{◌++◌, ◌∷◌}
use mathlib.Core.Path.{ap, refl, subst, sym, ◌∙◌, ◌≡◌}
use Prim.Native.Nat.{suc, ℕ, ◌<◌, ◌≤◌}
use native.Mathlib.Omega.{arith}
use Rattle.grid.proofs.Window.{beside_stands, on_stands, stands_beside, stands_cell, stands_less, stands_on}
use Rattle.grid.specs.Masks.{joins_at}
use Rattle.grid.specs.Window.{beside, cell_at, IsRule, on_tile, Rows}
use Rattle.lists.proofs.Flat.{flat_holds, flat_member, flat_same}
use Rattle.lists.proofs.Keep.{keep_holds, keep_member}
use Rattle.lists.proofs.Range.{upto-below, upto_holds}
use Rattle.lists.proofs.Sorted.{sorted_keep, sorted_member, sorted_range, sorted_same}
use Rattle.lists.proofs.Tests.{and_both, and_left, and_right, is, isnt, Known, known}
use Rattle.lists.specs.Ascending.{Sorted, sorted_next, sorted_none}
use Rattle.lists.specs.Lists.{flat, keep, upto, ◌∈◌}

-- x alone, where t holds
abbrev pub one : Bool → ℕ → List ℕ
one t x = cond t (x ∷ []) []

mem_one : (t : Bool) (x : ℕ) {y : ℕ} → y ∈ one t x → (t ≡ true) × (y ≡ x)
mem_one true x m = (refl, Memᴰ.eq_of_singleton m)
mem_one false x m = absurd (in-none m)

one_mem : (t : Bool) (x : ℕ) {y : ℕ} → t ≡ true → y ≡ x → y ∈ one t x
one_mem true x e q = in_head q
one_mem false x e q = absurd (false≢true e)

module _ (w n : ℕ) (E : ℕ → ℕ → Bool) (c : ℕ) where
  -- what stands at a place and is joined to c
  abbrev pub joined_at : ℕ → List ℕ
  joined_at p = one (joins_at w n E c p) (cell_at w c p)

  module _ (G : Rows w n) where
    sorted_places : (ps : List ℕ) (j k : ℕ) → Sorted j ps → ((p : ℕ) → p ∈ ps → p < 9)
        → ((p : ℕ) → p ∈ ps → on_tile w n c p ≡ true → k ≤ cell_at w c p) → Sorted k (flat joined_at ps)
    sorted_places [] j k s b f = sorted_none
    sorted_places (p ∷ ps) j k (sorted_next h s) b f =
        go (known (joins_at w n E c p)) (λ i g. sorted_places ps (suc p) i s (λ q m. b q (in_Tail m)) g)
      where
        go : Known (joins_at w n E c p)
            → ((i : ℕ) → ((q : ℕ) → q ∈ ps → on_tile w n c q ≡ true → i ≤ cell_at w c q) → Sorted i (flat joined_at ps))
            → Sorted k (one (joins_at w n E c p) (cell_at w c p) ++ flat joined_at ps)
        go (isnt t) rest = rw t (rest k (λ q m. f q (in_Tail m)))
        go (is t) rest =
            let o : on_tile w n c p ≡ true = and_left (on_tile w n c p) _ t in
            let S = on_stands w n c p (b p (in_head refl)) G.wide o in
            rw t (sorted_next (f p (in_head refl) o) (rest (suc (cell_at w c p)) (λ q m u.
            let l : suc p ≤ q = sorted_member s m in
            let T = on_stands w n c q (b q (in_Tail m)) G.wide u in
            stands_less S G.wide T (omega arith))))

    module _ {places : List ℕ} (R : IsRule places) (on : c < n) (only : (x : ℕ) → x < n → E c x ≡ true → beside places w c x ≡ true) where
      to-places : (x : ℕ) → x ∈ keep (E c) (upto n) → x ∈ flat joined_at places
      to-places x m =
          let i = keep_member (E c) (upto n) m in
          let h : x < n = upto-below i.0 in
          let (p, k, S) = beside_stands places w n c x R h (only x h i.1) in
          let e : cell_at w c p ≡ x = stands_cell S in
          flat_holds joined_at k
          (one_mem (joins_at w n E c p) (cell_at w c p)
          (and_both _ _ (stands_on S G) (subst (λ (y : ℕ). E c y ≡ true) (sym e) i.1)) (sym e))

      from_places : (x : ℕ) → x ∈ flat joined_at places → x ∈ keep (E c) (upto n)
      from_places x m =
          let (p, k, i) = flat_member joined_at places m in
          let (t, e) = mem_one (joins_at w n E c p) (cell_at w c p) i in
          let S = on_stands w n c p (R.within p k) G.wide (and_left (on_tile w n c p) _ t) in
          subst (λ (y : ℕ). y ∈ keep (E c) (upto n)) (sym e)
          (keep_holds (E c) (upto_holds S.on) (and_right (on_tile w n c p) _ t))

      -- the cells that E joins to c, if it joins neighbours only
      pub joined-places : keep (E c) (upto n) ≡ flat joined_at places
      joined-places =
          sorted_same (sorted_keep (E c) (sorted_range n 0))
          (sorted_places places 0 0 R.ascending R.within (λ p m t. omega arith)) to-places from_places

-- the neighbours themselves
pub neighbours-places : (places : List ℕ) (w n c : ℕ) → IsRule places → Rows w n → c < n
    → keep (beside places w c) (upto n) ≡ flat (λ p. one (on_tile w n c p) (cell_at w c p)) places
neighbours-places places w n c R G on =
    joined-places w n (beside places w) c G R on (λ x h t. t)
    ∙ flat_same _ _ places (λ p m. ap (λ (t : Bool). one t (cell_at w c p)) (here p m (known (on_tile w n c p))))
  where
    here : (p : ℕ) → p ∈ places → Known (on_tile w n c p) → on_tile w n c p && beside places w c (cell_at w c p) ≡ on_tile w n c p
    here p m (is t) = rw (t, stands_beside (on_stands w n c p (R.within p m) G.wide t) m)
    here p m (isnt t) = rw t
