-- Sides are a rule, and so are sides and corners: a computed test says what is asked of a rule's places. Every rule's places are among these.
-- Assumes nothing.
use mathlib.Core.Bool.{Bool, false≢true, not, true, ◌&&◌}
use mathlib.Core.List.Memᴰ.{cases_cons as in-cases}
use mathlib.Core.List.Memᴰ.{head as in_head}
use mathlib.Core.List.Memᴰ.{not-nil as in-none}
use mathlib.Core.List.{[], List}
use mathlib.Core.List.Memᴰ.{tail as in_Tail}
use mathlib.Core.List.{◌∷◌}
use mathlib.Core.Logic.{inl, inr, ◌⊎◌}
use mathlib.Core.Path.{refl, subst, sym, ◌≡◌}
use Prim.Native.Nat.{suc, zero, ℕ, ◌%◌, ◌+◌, ◌-◌, ◌/◌, ◌<◌}
use native.Mathlib.Omega.{arith}
use lib.Dec.{eqb, leb, ltb}
use borrow.Author.Tests.{eq-eqb, eqb-true, leb-true, ltb-true}
use Rattle.grid.proofs.Sides.{each_side}
use Rattle.grid.proofs.Window.{beside_stands, stands_beside}
use Rattle.grid.specs.Neighbours.{places_by}
use Rattle.grid.specs.Window.{around, beside, IsRule, one_apart, share_side, sides, Stands}
use Rattle.lists.proofs.Any.{any_in}
use Rattle.lists.proofs.Tests.{and_both, and_left, and_right, or_cases, or_left, or_right, same_test}
use Rattle.lists.specs.Ascending.{Sorted, sorted_next, sorted_none}
use Rattle.lists.specs.Lists.{any, ◌∈◌}
use Rattle.grid.specs.declared.Neighbours.{Neighbours}
use Rattle.grid.specs.declared.Neighbours.TheVariants.{Eight, Four}

abbrev ascends : ℕ → List ℕ → Bool
ascends k [] = true
ascends k (p ∷ ps) = leb k p && ascends (suc p) ps

ascends_sorted : (k : ℕ) (ps : List ℕ) → ascends k ps ≡ true → Sorted k ps
ascends_sorted k [] t = sorted_none
ascends_sorted k (p ∷ ps) t =
    sorted_next (leb-true k p (and_left (leb k p) _ t)) (ascends_sorted (suc p) ps (and_right (leb k p) _ t))

-- below 9, not the middle, and with its opposite
abbrev allowed : List ℕ → ℕ → Bool
allowed places p = ltb p 9 && (not (eqb p 4) && any (eqb (8 - p)) places)

abbrev all_allowed : List ℕ → List ℕ → Bool
all_allowed places [] = true
all_allowed places (p ∷ ps) = allowed places p && all_allowed places ps

each_allowed : (places ps : List ℕ) → all_allowed places ps ≡ true → (p : ℕ) → p ∈ ps → allowed places p ≡ true
each_allowed places [] t p m = absurd (in-none m)
each_allowed places (q ∷ qs) t p m = go (in-cases m) (each_allowed places qs (and_right (allowed places q) _ t) p)
  where
    go : (p ≡ q) ⊎ (p ∈ qs) → (p ∈ qs → allowed places p ≡ true) → allowed places p ≡ true
    go (inl e) ih = subst (λ (x : ℕ). allowed places x ≡ true) (sym e) (and_left (allowed places q) _ t)
    go (inr i) ih = ih i

checked : (places : List ℕ) → ascends 0 places ≡ true → all_allowed places places ≡ true → IsRule places
checked places s t =
    record {
      ascending = ascends_sorted 0 places s;
      within = λ p m. ltb-true p 9 (and_left (ltb p 9) _ (each p m));
      no_middle = λ m. false≢true (each 4 m);
      opposite = λ p m. any_in (and_right (not (eqb p 4)) _ (and_right (ltb p 9) _ (each p m)));
    }
  where
    each : (p : ℕ) → p ∈ places → allowed places p ≡ true
    each = each_allowed places places t

pub sides_rule : IsRule sides
sides_rule = checked sides refl refl

pub around_rule : IsRule around
around_rule = checked around refl refl

-- the neighbours that a caller may ask for
pub rule_by_lem : (N : Neighbours) → IsRule (places_by N)
rule_by_lem Four = sides_rule
rule_by_lem Eight = around_rule

-- all places but the middle are around
pub around-all : (p : ℕ) → p < 9 → (p ≡ 4 → ⊥) → p ∈ around
around-all p h z = any_in (found p h z)
  where
    found : (p : ℕ) → p < 9 → (p ≡ 4 → ⊥) → any (eqb p) around ≡ true
    found zero h z = refl
    found (suc zero) h z = refl
    found (suc (suc zero)) h z = refl
    found (suc (suc (suc zero))) h z = refl
    found (suc (suc (suc (suc zero)))) h z = absurd (z refl)
    found (suc (suc (suc (suc (suc zero))))) h z = refl
    found (suc (suc (suc (suc (suc (suc zero)))))) h z = refl
    found (suc (suc (suc (suc (suc (suc (suc zero))))))) h z = refl
    found (suc (suc (suc (suc (suc (suc (suc (suc zero)))))))) h z = refl
    found (suc (suc (suc (suc (suc (suc (suc (suc (suc p))))))))) h z = absurd (omega arith)

pub places-around : {places : List ℕ} → IsRule places → (p : ℕ) → p ∈ places → p ∈ around
places-around {places} R p m = around-all p (R.within p m) (λ e. R.no_middle (subst (λ (q : ℕ). q ∈ places) e m))

-- so neighbours by any rule are neighbours by this one, and those at the sides are neighbours whatever is asked for
pub beside-around : {places : List ℕ} → IsRule places → (w a b : ℕ) → beside places w a b ≡ true → beside around w a b ≡ true
beside-around {places} R w a b t =
    let (p, i, S) = beside_stands places w (suc b) a b R (omega arith) t in
    stands_beside S (places-around R p i)

pub sides-asked : (N : Neighbours) (p : ℕ) → p ∈ sides → p ∈ places_by N
sides-asked Four p m = m
sides-asked Eight p m = places-around sides_rule p m

-- the sides are those of document 01's words
pub sides_share : (w a b : ℕ) → beside sides w a b ≡ share_side w a b
sides_share w a b = same_test _ _ to from
  where
    apart : (x y : ℕ) → (suc x ≡ y) ⊎ (suc y ≡ x) → one_apart x y ≡ true
    apart x y (inl e) = or_left (eqb (suc x) y) (eqb (suc y) x) (eq-eqb (suc x) y e)
    apart x y (inr e) = or_right (eqb (suc x) y) (eqb (suc y) x) (eq-eqb (suc y) x e)

    in_row : a / w ≡ b / w → (suc (a % w) ≡ b % w) ⊎ (suc (b % w) ≡ a % w) → share_side w a b ≡ true
    in_row e f = or_left (eqb (a / w) (b / w) && one_apart (a % w) (b % w)) _ (and_both _ _ (eq-eqb (a / w) (b / w) e) (apart (a % w) (b % w) f))

    in_column_lem : a % w ≡ b % w → (suc (a / w) ≡ b / w) ⊎ (suc (b / w) ≡ a / w) → share_side w a b ≡ true
    in_column_lem e f = or_right (eqb (a / w) (b / w) && one_apart (a % w) (b % w)) _ (and_both _ _ (eq-eqb (a % w) (b % w) e) (apart (a / w) (b / w) f))

    at_place : (p : ℕ) → p ∈ sides → Stands w (suc b) a p b → share_side w a b ≡ true
    at_place =
        each_side (λ p. Stands w (suc b) a p b → share_side w a b ≡ true)
        (λ S. let r = S.row in let m = S.column in in_column_lem (omega arith) (inr (omega arith)))
        (λ S. let r = S.row in let m = S.column in in_row (omega arith) (inr (omega arith)))
        (λ S. let r = S.row in let m = S.column in in_row (omega arith) (inl (omega arith)))
        (λ S. let r = S.row in let m = S.column in in_column_lem (omega arith) (inl (omega arith)))

    to : beside sides w a b ≡ true → share_side w a b ≡ true
    to t = let (p, i, S) = beside_stands sides w (suc b) a b sides_rule (omega arith) t in at_place p i S

    stood : (p : ℕ) → p ∈ sides → p < 9 → b / w + 1 ≡ a / w + p / 3 → b % w + 1 ≡ a % w + p % 3 → beside sides w a b ≡ true
    stood p i h r m = let S : Stands w (suc b) a p b = record { place = h; row = r; column = m; on = omega arith } in stands_beside S i

    apart_cases : (x y : ℕ) → one_apart x y ≡ true → (suc x ≡ y) ⊎ (suc y ≡ x)
    apart_cases x y t = go (or_cases (eqb (suc x) y) (eqb (suc y) x) t)
      where
        go : (eqb (suc x) y ≡ true) ⊎ (eqb (suc y) x ≡ true) → (suc x ≡ y) ⊎ (suc y ≡ x)
        go (inl e) = inl (eqb-true (suc x) y e)
        go (inr e) = inr (eqb-true (suc y) x e)

    from_row : a / w ≡ b / w → (suc (a % w) ≡ b % w) ⊎ (suc (b % w) ≡ a % w) → beside sides w a b ≡ true
    from_row e (inl f) = stood 5 (in_Tail (in_Tail (in_head refl))) (omega arith) (omega arith) (omega arith)
    from_row e (inr f) = stood 3 (in_Tail (in_head refl)) (omega arith) (omega arith) (omega arith)

    from_column : a % w ≡ b % w → (suc (a / w) ≡ b / w) ⊎ (suc (b / w) ≡ a / w) → beside sides w a b ≡ true
    from_column e (inl f) = stood 7 (in_Tail (in_Tail (in_Tail (in_head refl)))) (omega arith) (omega arith) (omega arith)
    from_column e (inr f) = stood 1 (in_head refl) (omega arith) (omega arith) (omega arith)

    from : share_side w a b ≡ true → beside sides w a b ≡ true
    from t = go (or_cases (eqb (a / w) (b / w) && one_apart (a % w) (b % w)) _ t)
      where
        go : (eqb (a / w) (b / w) && one_apart (a % w) (b % w) ≡ true) ⊎ (eqb (a % w) (b % w) && one_apart (a / w) (b / w) ≡ true)
            → beside sides w a b ≡ true
        go (inl u) =
            from_row (eqb-true _ _ (and_left (eqb (a / w) (b / w)) _ u)) (apart_cases _ _ (and_right (eqb (a / w) (b / w)) _ u))
        go (inr u) =
            from_column (eqb-true _ _ (and_left (eqb (a % w) (b % w)) _ u)) (apart_cases _ _ (and_right (eqb (a % w) (b % w)) _ u))
