-- Rule 1 as it is said: the first receiver is the steepest of the lower neighbours, of equally steep ones that of the least number; and with
-- document 01's neighbours the steepest is the lowest.
-- Assumes nothing.
use mathlib.Core.Bool.{Bool, cond, false, true}
use mathlib.Core.List.Memᴰ.{cases_cons as in-cases}
use mathlib.Core.List.Memᴰ.{head as in_head}
use mathlib.Core.List.Memᴰ.{not-nil as in-none}
use mathlib.Core.List.{[], List}
use mathlib.Core.List.Memᴰ.{tail as in_Tail}
use mathlib.Core.List.{◌∷◌}
use mathlib.Core.Logic.{inl, inr, ◌⊎◌}
use mathlib.Core.Path.{ap, refl, subst, sym, ◌∙◌, ◌≡◌}
use Prim.Native.Nat.{suc, ℕ, ◌-◌, ◌<◌, ◌≤◌}
use native.Mathlib.Omega.{arith}
use lib.Dec.{ltb}
use borrow.Author.Tests.{ltb-false, ltb-true}
use Rattle.grid.proofs.Rules.{sides_rule}
use Rattle.grid.proofs.Sides.{each_side}
use Rattle.grid.proofs.Steepness.{one_kind}
use Rattle.grid.proofs.Window.{beside_stands, stands_place}
use Rattle.grid.specs.Neighbours.{is_corner}
use Rattle.grid.specs.Window.{beside, place_of, sides}
use Rattle.lists.proofs.Rising.{rising_keep, rising_range}
use Rattle.lists.proofs.Tests.{eq, gt, is, isnt, Known, known, lt, same_ltb, Three, three}
use Rattle.lists.specs.Ascending.{Rising, rising_next}
use Rattle.lists.specs.Lists.{at, fold, ◌∈◌}
use Rattle.rules.specs.FirstWays.{first_receiver, lower_neighbours, neighbours, steepest_of}
use Rattle.rules.specs.Land.{Land, rule4}
use Rattle.rules.specs.Steepest.{Steepest}

-- the first of the greatest, by the numbers S
module _ (S : ℕ → ℕ) where
  abbrev prefer : ℕ → ℕ → ℕ
  prefer best e = cond (ltb (S best) (S e)) e best

  record Greatest (l : List ℕ) (d : ℕ) : Type 0 where
    pub member : d ∈ l
    pub most : (e : ℕ) → e ∈ l → S e ≤ S d
    pub first : (e : ℕ) → e ∈ l → e < d → S e < S d

  fold_greatest : (x : ℕ) (xs : List ℕ) → Rising (λ y. y) (x ∷ xs) → Greatest (x ∷ xs) (fold prefer x xs)
  fold_greatest x [] r =
      record {
        member = in_head refl;
        most = λ e m. alone (λ d. S d ≤ S x) (omega arith) e (in-cases m);
        first = λ e m. alone (λ d. d < x → S d < S x) (λ l. absurd (omega arith)) e (in-cases m);
      }
    where
      alone : (P : ℕ → Type 0) → P x → (e : ℕ) → (e ≡ x) ⊎ (e ∈ []) → P e
      alone P p e (inl q) = subst P (sym q) p
      alone P p e (inr m) = absurd (in-none m)
  fold_greatest x (y ∷ ys) (rising_next u (rising_next v r)) =
      go (known (ltb (S x) (S y))) (fold_greatest x ys (rising_next (λ z m. u z (in_Tail m)) r)) (fold_greatest y ys (rising_next v r))
    where
      go : Known (ltb (S x) (S y)) → Greatest (x ∷ ys) (fold prefer x ys) → Greatest (y ∷ ys) (fold prefer y ys)
          → Greatest (x ∷ y ∷ ys) (fold prefer (cond (ltb (S x) (S y)) y x) ys)
      go (is t) G H = rw t (record {
        member = in_Tail H.member;
        most = λ e m. (pick e (in-cases m)).0;
        first = λ e m. (pick e (in-cases m)).1;
      })
        where
          more : S x < S y
          more = ltb-true _ _ t

          pick : (e : ℕ) → (e ≡ x) ⊎ (e ∈ y ∷ ys) → (S e ≤ S (fold prefer y ys)) × (e < fold prefer y ys → S e < S (fold prefer y ys))
          pick e (inl q) = let h = H.most y (in_head refl) in rw q (omega (arith, more), λ l. omega (arith, more))
          pick e (inr i) = (H.most e i, H.first e i)
      go (isnt t) G H = rw t (record {
        member = placed (in-cases G.member);
        most = λ e m. (pick e (in-cases m)).0;
        first = λ e m. (pick e (in-cases m)).1;
      })
        where
          best : ℕ
          best = fold prefer x ys

          no_more : S y ≤ S x
          no_more = ltb-false _ _ t

          placed : (best ≡ x) ⊎ (best ∈ ys) → best ∈ x ∷ y ∷ ys
          placed (inl q) = in_head q
          placed (inr i) = in_Tail (in_Tail i)

          later : (e : ℕ) → (e ≡ y) ⊎ (e ∈ ys) → (S e ≤ S best) × (e < best → S e < S best)
          later e (inl q) =
              let h = G.most x (in_head refl) in
              let below : x < y = u y (in_head refl) in
              rw q (omega (arith, no_more), λ l. let f = G.first x (in_head refl) (omega arith) in omega (arith, no_more))
          later e (inr i) = (G.most e (in_Tail i), G.first e (in_Tail i))

          pick : (e : ℕ) → (e ≡ x) ⊎ (e ∈ y ∷ ys) → (S e ≤ S best) × (e < best → S e < S best)
          pick e (inl q) = (G.most e (in_head q), G.first e (in_head q))
          pick e (inr i) = later e (in-cases i)

  greatest_one : {l : List ℕ} {d e : ℕ} → Greatest l d → Greatest l e → d ≡ e
  greatest_one {d = d} {e = e} D E = go (three d e)
    where
      go : Three d e → d ≡ e
      go (lt l) = let a = E.first d D.member l in let b = D.most e E.member in absurd (omega arith)
      go (eq q) = q
      go (gt l) = let a = D.first e E.member l in let b = E.most d D.member in absurd (omega arith)

module _ (L : Land) (c : ℕ) (S : ℕ → ℕ) (by : (a b : ℕ) → L.steeper c a b ≡ ltb (S b) (S a)) where
  lower_rises : Rising (λ x. x) (lower_neighbours L c)
  unfolding lower_neighbours neighbours
  lower_rises =
      rising_keep (λ x. x) (λ x. x) _ (λ x y s t l. l) (rising_keep (λ x. x) (λ x. x) _ (λ x y s t l. l) (rising_range L.cells 0))

  same_fold : (d : ℕ) (ds : List ℕ) → fold (λ best e. cond (L.steeper c e best) e best) d ds ≡ fold (prefer S) d ds
  same_fold d [] = refl
  same_fold d (e ∷ es) =
      ap (λ (b : Bool). fold (λ best x. cond (L.steeper c x best) x best) (cond b e d) es) (by e d) ∙ same_fold (prefer S d e) es

  -- the steepest of ascending cells
  steepest_greatest : (x : ℕ) (xs : List ℕ) → Rising (λ y. y) (x ∷ xs) → Greatest S (x ∷ xs) (steepest_of L c (x ∷ xs))
  unfolding steepest_of
  steepest_greatest x xs r = subst (Greatest S (x ∷ xs)) (sym (same_fold x xs)) (fold_greatest S x xs r)

  none_steepest : (l : List ℕ) → l ≡ [] → steepest_of L c l ≡ c
  unfolding steepest_of
  none_steepest l e = rw e

  -- rule 1: a cell that isn't an outlet has no lower neighbour and is a pit, or takes the steepest
  pub first_steepest : L.outlet c ≡ false → ((lower_neighbours L c ≡ []) × (first_receiver L c ≡ c)) ⊎ Steepest L S c (first_receiver L c)
  unfolding first_receiver
  first_steepest o = rw o (go (lower_neighbours L c) refl lower_rises)
    where
      go : (l : List ℕ) → lower_neighbours L c ≡ l → Rising (λ x. x) l
          → ((lower_neighbours L c ≡ []) × (steepest_of L c (lower_neighbours L c) ≡ c)) ⊎ Steepest L S c (steepest_of L c (lower_neighbours L c))
      go [] e r = inl (e, none_steepest (lower_neighbours L c) e)
      go (x ∷ xs) e r =
          let G = steepest_greatest x xs r in
          inr (rw e (record { lower = rw e G.member; most = λ d m. G.most d (rw e at m); first = λ d m. G.first d (rw e at m) }))

  -- and no other cell is that
  pub steepest_first : (d : ℕ) → L.outlet c ≡ false → Steepest L S c d → first_receiver L c ≡ d
  steepest_first d o T = go (first_steepest o)
    where
      greatest : {e : ℕ} → Steepest L S c e → Greatest S (lower_neighbours L c) e
      greatest U = record { member = U.lower; most = U.most; first = U.first }

      go : ((lower_neighbours L c ≡ []) × (first_receiver L c ≡ c)) ⊎ Steepest L S c (first_receiver L c) → first_receiver L c ≡ d
      go (inl (e, q)) = absurd (in-none (subst (λ (l : List ℕ). d ∈ l) e T.lower))
      go (inr U) = greatest_one S (greatest U) (greatest T)

-- document 01's words: of two lower neighbours that share a side with the cell the lower is steeper
pub sides-steeper : (w : ℕ) (heights : List ℕ) (c a b : ℕ) → beside sides w c a ≡ true → beside sides w c b ≡ true
    → at heights a < at heights c → at heights b < at heights c → rule4.steeper w heights c a b ≡ ltb (at heights a) (at heights b)
sides-steeper w heights c a b x y h k =
    one_kind (place_of w c a) (at heights c - at heights a) (place_of w c b) (at heights c - at heights b) (straight a x ∙ sym (straight b y))
    ∙ same_ltb (at heights c - at heights b) (at heights c - at heights a) (at heights a) (at heights b) (λ l. omega arith) (λ l. omega arith)
  where
    straight : (d : ℕ) → beside sides w c d ≡ true → is_corner (place_of w c d) ≡ false
    straight d t =
        let (p, i, S) = beside_stands sides w (suc d) c d sides_rule (omega arith) t in
        ap is_corner (stands_place S) ∙ each_side (λ q. is_corner q ≡ false) refl refl refl refl p i
