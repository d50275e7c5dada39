-- The window around a cell: what stands at a place, by number and by the computed forms; opposite places; neighbours are what stands at a
-- rule's places.
-- Assumes nothing.
use mathlib.Core.Bool.{true, ◌&&◌}
use mathlib.Core.List.{List}
use mathlib.Core.Logic.{inl, inr, ◌⊎◌}
use mathlib.Core.Path.{ap, sym, ◌∙◌, ◌≡◌}
use Prim.Native.Nat.{suc, ℕ, ◌%◌, ◌*◌, ◌+◌, ◌-◌, ◌/◌, ◌<◌, ◌≤◌}
use native.Mathlib.Nat.{add-mul, div-add-mod', div-zero, mod-lt, mod-zero, mul-le-mul_right, mul-mod_left, suc-mul}
use native.Mathlib.Numerals.{add-one}
use native.Mathlib.Omega.{arith}
use lib.Dec.{eqb, leb}
use borrow.Author.Tests.{eq-eqb, eqb-true, le-leb, leb-true}
use Rattle.grid.proofs.Rows.{column_of, row_fits, row_of}
use Rattle.grid.specs.Window.{beside, cell_at, IsRule, near, on_tile, place_of, Rows, Stands}
use Rattle.lists.proofs.Any.{any_holds, any_member}
use Rattle.lists.proofs.Tests.{and_both, and_left, and_right, lt_or_ge}
use Rattle.lists.specs.Lists.{◌∈◌}

-- rows or columns at most one apart
near-true : (a b : ℕ) → a ≤ suc b → b ≤ suc a → near a b ≡ true
near-true a b h k = and_both (leb a (suc b)) (leb b (suc a)) (le-leb a (suc b) h) (le-leb b (suc a) k)

true-near : (a b : ℕ) → near a b ≡ true → (a ≤ suc b) × (b ≤ suc a)
true-near a b t = (leb-true a (suc b) (and_left (leb a (suc b)) _ t), leb-true b (suc a) (and_right (leb a (suc b)) _ t))

-- a cell is determined by its row and its column
pub same_cell : (w a b : ℕ) → a / w ≡ b / w → a % w ≡ b % w → a ≡ b
same_cell w a b e f =
    sym (div-add-mod' a w) ∙ ap (λ (x : ℕ). x * w + a % w) e ∙ ap (λ (x : ℕ). b / w * w + x) f ∙ div-add-mod' b w

module _ {w n c p d : ℕ} (S : Stands w n c p d) where
  -- what stands at the opposite place is the cell itself
  pub stands_back : c < n → Stands w n d (8 - p) c
  stands_back h =
      let k = S.place in let r = S.row in let m = S.column in
      record { place = omega arith; row = omega arith; column = omega arith; on = h }

  -- by number
  pub stands_number : d + (w + 1) ≡ c + p / 3 * w + p % 3
  stands_number =
      let a : (d / w + 1) * w ≡ (c / w + p / 3) * w = ap (λ (x : ℕ). x * w) S.row in
      let b = add-mul (d / w) 1 w in
      let e = add-mul (c / w) (p / 3) w in
      let f = div-add-mod' c w in
      let g = div-add-mod' d w in
      let m = S.column in
      omega arith

  -- only the middle is the cell's own place
  pub stands_itself : c ≡ d → p ≡ 4
  stands_itself e =
      let k = S.place in
      let r : c / w + 1 ≡ c / w + p / 3 = ap (λ (x : ℕ). x / w + 1) e ∙ S.row in
      let m : c % w + 1 ≡ c % w + p % 3 = ap (λ (x : ℕ). x % w + 1) e ∙ S.column in
      omega arith

  -- its place
  pub stands_place : place_of w c d ≡ p
  stands_place = let r = S.row in let m = S.column in let k = S.place in omega arith

  -- ascending places are ascending cells
  pub stands_less : {q e : ℕ} → 0 < w → Stands w n c q e → p < q → d < e
  stands_less {q} {e} wide T h = go (lt_or_ge (d / w) (e / w))
    where
      go : (d / w < e / w) ⊎ (e / w ≤ d / w) → d < e
      go (inl l) =
          let a : (d / w + 1) * w ≤ e / w * w = mul-le-mul_right w (omega arith) in
          let b = add-mul (d / w) 1 w in
          let f = div-add-mod' d w in
          let g = div-add-mod' e w in
          let m : d % w < w = mod-lt d wide in
          omega arith
      go (inr l) =
          let a = S.row in let b = T.row in let f = S.column in let g = T.column in
          let r : d / w ≡ e / w = omega arith in
          let k : d / w * w ≡ e / w * w = ap (λ (x : ℕ). x * w) r in
          let x = div-add-mod' d w in
          let y = div-add-mod' e w in
          omega arith

  -- the computed forms
  pub stands_cell : cell_at w c p ≡ d
  unfolding cell_at
  stands_cell =
      let a : c / w + p / 3 - 1 ≡ d / w = let r = S.row in omega arith in
      let b : c % w + p % 3 - 1 ≡ d % w = let m = S.column in omega arith in
      ap (λ (x : ℕ). x * w + (c % w + p % 3 - 1)) a ∙ ap (λ (x : ℕ). d / w * w + x) b ∙ div-add-mod' d w

  pub stands_on : Rows w n → on_tile w n c p ≡ true
  unfolding on_tile
  stands_on G =
      let r = S.row in let m = S.column in
      let k : d % w < w = mod-lt d G.wide in
      let s : d / w * w + w ≤ n =
      row_fits w n (d / w * w) (mul-mod_left (d / w) w) G.whole (let x = div-add-mod' d w in let o = S.on in omega arith) in
      let t : (c / w + p / 3) * w ≡ d / w * w + w = ap (λ (x : ℕ). x * w) (sym r) ∙ ap (λ (x : ℕ). x * w) (add-one (d / w)) ∙ suc-mul (d / w) w in
      and_both (leb 1 (c / w + p / 3) && leb ((c / w + p / 3) * w) n) _
      (and_both _ _ (le-leb 1 (c / w + p / 3) (omega arith)) (le-leb ((c / w + p / 3) * w) n (omega arith)))
      (and_both _ _ (le-leb 1 (c % w + p % 3) (omega arith)) (le-leb (c % w + p % 3) w (omega arith)))

  -- it is a neighbour where the rule has the place
  pub stands_beside : {places : List ℕ} → p ∈ places → beside places w c d ≡ true
  stands_beside {places} i =
      let r = S.row in let m = S.column in let k = S.place in
      and_both (near (c / w) (d / w)) _ (near-true (c / w) (d / w) (omega arith) (omega arith))
      (and_both (near (c % w) (d % w)) _ (near-true (c % w) (d % w) (omega arith) (omega arith))
      (any_holds (eqb (place_of w c d)) i (eq-eqb _ _ stands_place)))

-- what the computed forms say
pub on_stands : (w n c p : ℕ) → p < 9 → 0 < w → on_tile w n c p ≡ true → Stands w n c p (cell_at w c p)
unfolding on_tile cell_at
on_stands w n c p h wide t =
    let a = and_left (leb 1 (c / w + p / 3) && leb ((c / w + p / 3) * w) n) _ t in
    let b = and_right (leb 1 (c / w + p / 3) && leb ((c / w + p / 3) * w) n) _ t in
    let r : 1 ≤ c / w + p / 3 = leb-true _ _ (and_left (leb 1 (c / w + p / 3)) _ a) in
    let f : (c / w + p / 3) * w ≤ n = leb-true _ _ (and_right (leb 1 (c / w + p / 3)) _ a) in
    let m : 1 ≤ c % w + p % 3 = leb-true _ _ (and_left (leb 1 (c % w + p % 3)) _ b) in
    let k : c % w + p % 3 ≤ w = leb-true _ _ (and_right (leb 1 (c % w + p % 3)) _ b) in
    let row : ℕ = c / w + p / 3 - 1 in
    let col : ℕ = c % w + p % 3 - 1 in
    let l : col < w = omega arith in
    let x = row_of w row col l in
    let y = column_of w row col l in
    let s : (row + 1) * w ≡ (c / w + p / 3) * w = ap (λ (z : ℕ). z * w) (let e : row + 1 ≡ c / w + p / 3 = omega arith in e) in
    let u = add-mul row 1 w in
    record { place = h; row = omega arith; column = omega arith; on = omega arith }

-- a neighbour stands at one of the rule's places
pub beside_stands : (places : List ℕ) (w n c d : ℕ) → IsRule places → d < n → beside places w c d ≡ true
    → (p : ℕ) × (p ∈ places) × Stands w n c p d
beside_stands places w n c d R h t =
    let (a₁, a₂) = true-near (c / w) (d / w) (and_left (near (c / w) (d / w)) _ t) in
    let b = and_right (near (c / w) (d / w)) _ t in
    let (e₁, e₂) = true-near (c % w) (d % w) (and_left (near (c % w) (d % w)) _ b) in
    let (q, i, f) = any_member (eqb (place_of w c d)) places (and_right (near (c % w) (d % w)) _ b) in
    let g : place_of w c d ≡ q = eqb-true _ _ f in
    (q, i, record { place = R.within q i; row = omega arith; column = omega arith; on = h })

-- neighbours are mutual
pub beside_mutual : (places : List ℕ) (w a b : ℕ) → IsRule places → beside places w a b ≡ true → beside places w b a ≡ true
beside_mutual places w a b R t =
    let n : ℕ = suc (a + b) in
    let (p, i, S) = beside_stands places w n a b R (omega arith) t in
    let B : Stands w n b (8 - p) a = stands_back S (omega arith) in
    stands_beside B (R.opposite p i)

-- what stands at a later place is greater
pub stands_greater : {w n c q d : ℕ} → 4 < q → Stands w n c q d → c < d
stands_greater {w} {n} {c} {q} {d} h S = go (lt_or_ge 0 w)
  where
    go : (0 < w) ⊎ (w ≤ 0) → c < d
    go (inl wide) =
        let itself : Stands w (suc (c + d)) c 4 c = record { place = omega arith; row = omega arith; column = omega arith; on = omega arith } in
        let other : Stands w (suc (c + d)) c q d = record { place = S.place; row = S.row; column = S.column; on = omega arith } in
        stands_less itself wide other h
    go (inr l) =
        let z : w ≡ 0 = omega arith in
        let r = S.row in let m = S.column in
        let a = ap (λ (x : ℕ). c / x) z ∙ div-zero c in let b = ap (λ (x : ℕ). d / x) z ∙ div-zero d in
        let f = ap (λ (x : ℕ). c % x) z ∙ mod-zero c in let g = ap (λ (x : ℕ). d % x) z ∙ mod-zero d in
        omega arith

-- and what is greater stands at a later one
pub stands_later : {w n c q d : ℕ} → c < d → Stands w n c q d → 4 < q
stands_later {w} {n} {c} {q} {d} h S = go (lt_or_ge 4 q) (lt_or_ge q 4)
  where
    go : (4 < q) ⊎ (q ≤ 4) → (q < 4) ⊎ (4 ≤ q) → 4 < q
    go (inl l) b = l
    go (inr l) (inl b) = let o = S.on in let k = stands_greater (omega arith) (stands_back S (omega arith)) in absurd (omega arith)
    go (inr l) (inr b) =
        let r = S.row in let m = S.column in
        let e : c ≡ d = same_cell w c d (omega arith) (omega arith) in
        absurd (omega arith)

-- by number, within a row: the other way round
pub number_stands : {w n c p d : ℕ} → p < 9 → 0 < c / w + p / 3 → 0 < c % w + p % 3 → c % w + p % 3 ≤ w → d + (w + 1) ≡ c + p / 3 * w + p % 3 → d < n
    → Stands w n c p d
number_stands {w} {n} {c} {p} {d} k v l m e h =
    let r : ℕ = c / w + p / 3 - 1 in
    let q : ℕ = c % w + p % 3 - 1 in
    let a : (r + 1) * w ≡ r * w + 1 * w = add-mul r 1 w in
    let b : (c / w + p / 3) * w ≡ c / w * w + p / 3 * w = add-mul (c / w) (p / 3) w in
    let f : r + 1 ≡ c / w + p / 3 = omega arith in
    let g : (r + 1) * w ≡ (c / w + p / 3) * w = ap (λ (x : ℕ). x * w) f in
    let i = div-add-mod' c w in
    let j : r * w + q ≡ d = omega arith in
    let o = row_of w r q (omega arith) in
    let t = column_of w r q (omega arith) in
    let x : d / w ≡ r = ap (λ (y : ℕ). y / w) (sym j) ∙ o in
    let y : d % w ≡ q = ap (λ (y : ℕ). y % w) (sym j) ∙ t in
    record { place = k; row = omega arith; column = omega arith; on = h }
