-- A sample: one row of five cells with the heights 0, 5, 2, 7, 3 and the labels 0, 0, 1, 1, 2. The pair of the cells 1 and 2 joins the
-- labels 0 and 1 at 5, that of the cells 3 and 4 the labels 1 and 2 at 7. So label 1 spills at 5 and label 2 at 7, over label 1.
-- Assumes nothing.
use mathlib.Core.List.Memᴰ.{cases_cons as in-cases}
use mathlib.Core.List.Memᴰ.{eq_of_singleton as in-only}
use mathlib.Core.List.Memᴰ.{head as in_head}
use mathlib.Core.List.{[], List}
use mathlib.Core.List.Memᴰ.{tail as in_Tail}
use mathlib.Core.List.{◌∷◌}
use mathlib.Core.Logic.{inl, inr, ◌⊎◌}
use mathlib.Core.Path.{ap, refl, sym, ◌∙◌, ◌≡◌}
use Prim.Native.Nat.{max, suc, zero, ℕ, ◌<◌, ◌≤◌}
use native.Mathlib.Omega.{arith}
use Rattle.lists.proofs.Tests.{lt_or_ge}
use Rattle.lists.specs.Lists.{at, ◌∈◌}
use Rattle.pairs.specs.Pairs.{pair_height}
use Rattle.rules.specs.Chain.{back, Chain, Edges, forth, here}
use Rattle.spills.proofs.Under.{under_holds, under_member}
use Rattle.spills.specs.Spills.{label_edges, Raised, Spill, under}

abbrev heights : List ℕ
heights = 0 ∷ 5 ∷ 2 ∷ 7 ∷ 3 ∷ []

abbrev labels : List ℕ
labels = 0 ∷ 0 ∷ 1 ∷ 1 ∷ 2 ∷ []

abbrev list : List ℕ
list = 4 ∷ 12 ∷ []

abbrev G : Edges ℕ
G = label_edges 5 labels

which : {x : ℕ} → x ∈ list → (x ≡ 4) ⊎ (x ≡ 12)
which {x} m = go (in-cases m)
  where
    go : (x ≡ 4) ⊎ (x ∈ 12 ∷ []) → (x ≡ 4) ⊎ (x ≡ 12)
    go (inl e) = inl e
    go (inr n) = inr (in-only n)

module _ (m : ℕ) where
  -- pairs lower than 7 lead nowhere from label 2
  two_stays : m < 7 → Chain G (under 5 heights list m) 2 0 → ⊥
  two_stays h (here e) = omega arith
  two_stays h (forth x i e c) = go (which (under_member 5 heights list m i).0)
    where
      go : (x ≡ 4) ⊎ (x ≡ 12) → ⊥
      go (inl q) = let f : G.one 4 ≡ 2 = ap G.one (sym q) ∙ e in omega arith
      go (inr q) = let f : G.one 12 ≡ 2 = ap G.one (sym q) ∙ e in omega arith
  two_stays h (back x i e c) = go (which (under_member 5 heights list m i).0)
    where
      go : (x ≡ 4) ⊎ (x ≡ 12) → ⊥
      go (inl q) = let f : G.other 4 ≡ 2 = ap G.other (sym q) ∙ e in omega arith
      go (inr q) = let f : pair_height 5 heights x ≡ 7 = ap (pair_height 5 heights) q in omega (arith, (under_member 5 heights list m i).1)

  two-least : (m < 7) ⊎ (7 ≤ m) → Chain G (under 5 heights list m) 2 0 → 7 ≤ m
  two-least (inl h) c = absurd (two_stays h c)
  two-least (inr h) c = h

  -- there are no pairs lower than 5
  at-least-five : {x : ℕ} → x ∈ under 5 heights list m → 5 ≤ m
  at-least-five {x} i = go (which (under_member 5 heights list m i).0)
    where
      go : (x ≡ 4) ⊎ (x ≡ 12) → 5 ≤ m
      go (inl q) = let f : pair_height 5 heights x ≡ 5 = ap (pair_height 5 heights) q in omega (arith, (under_member 5 heights list m i).1)
      go (inr q) = let f : pair_height 5 heights x ≡ 7 = ap (pair_height 5 heights) q in omega (arith, (under_member 5 heights list m i).1)

  one-least : Chain G (under 5 heights list m) 1 0 → 5 ≤ m
  one-least (here e) = absurd (omega arith)
  one-least (forth x i e c) = at-least-five i
  one-least (back x i e c) = at-least-five i

pub zero_spills : Spill 5 heights labels list 0 0
zero_spills = record { enough = here refl; least = λ m c. omega arith }

pub one_spills : Spill 5 heights labels list 1 5
one_spills =
    record {
      enough = back 4 (under_holds 5 heights list 5 (in_head refl) (omega arith)) refl (here refl);
      least = one-least;
    }

pub two_spills : Spill 5 heights labels list 2 7
two_spills =
    record {
      enough =
          back 12 (under_holds 5 heights list 7 (in_Tail (in_head refl)) (omega arith)) refl
          (back 4 (under_holds 5 heights list 7 (in_head refl) (omega arith)) refl (here refl));
      least = λ m c. two-least m (lt_or_ge m 7) c;
    }

-- the levels: cell 3 keeps its height, which is above its label's spill
pub row_raised : Raised 5 heights labels list (0 ∷ 5 ∷ 5 ∷ 7 ∷ 7 ∷ [])
row_raised = record { long = refl; raised = level }
  where
    level : (c : ℕ) → c < 5 → (s : ℕ) × Spill 5 heights labels list (at labels c) s × (at (0 ∷ 5 ∷ 5 ∷ 7 ∷ 7 ∷ []) c ≡ max (at heights c) s)
    level zero h = (0, zero_spills, refl)
    level (suc zero) h = (0, zero_spills, refl)
    level (suc (suc zero)) h = (5, one_spills, refl)
    level (suc (suc (suc zero))) h = (5, one_spills, refl)
    level (suc (suc (suc (suc zero)))) h = (7, two_spills, refl)
    level (suc (suc (suc (suc (suc c))))) h = absurd (omega arith)
