-- One link more: the masks of its two cells get a bit each, which they didn't have, and then all masks say the relation with this link.
-- Assumes nothing.
use mathlib.Core.Bool.{Bool, false, true, ◌&&◌, ◌||◌}
use mathlib.Core.List.{List}
use mathlib.Core.Logic.{inl, inr, ◌⊎◌}
use mathlib.Core.Path.{ap, refl, sym, ◌∙◌, ◌≡◌}
use Prim.Native.Nat.{ℕ, ◌+◌, ◌-◌, ◌<◌, ◌≤◌}
use native.Mathlib.Omega.{arith}
use lib.Dec.{eqb}
use lib.ListN.{length, length-set, set}
use lib.Seq.{get_or-set_other, get_or-set_same}
use borrow.Author.Tests.{eq-eqb, eqb-true}
use Rattle.grid.proofs.Masks.{mask_more, mask_same}
use Rattle.grid.proofs.Rules.{around-all, around_rule}
use Rattle.grid.proofs.Window.{stands_back}
use Rattle.grid.specs.Masks.{mask_of, Masks}
use Rattle.grid.specs.Window.{around, Grid}
use Rattle.links.specs.PairLinks.{added_in, are_cells, greater_bit, lesser_bit}
use Rattle.lists.proofs.Filled.{filled-by}
use Rattle.lists.proofs.Tests.{and_both, and_left, and_right, eq_or_ne, never, or_cases, or_left, or_right}
use Rattle.lists.specs.Lists.{at, filled, ◌∈◌}
use Rattle.pairs.proofs.Pairs.{pair-lesser, pair_rises}
use Rattle.pairs.specs.Pairs.{greater_of, IsPair, lesser_of, place_in}

-- c and d are a and b, in one order or the other
abbrev pub Ends : (a b c d : ℕ) → Type 0
Ends a b c d = ((a ≡ c) × (b ≡ d)) ⊎ ((b ≡ c) × (a ≡ d))

pub cells-ends : (a b c d : ℕ) → are_cells a b c d ≡ true → Ends a b c d
cells-ends a b c d t = go (or_cases _ _ t)
  where
    go : (eqb a c && eqb b d ≡ true) ⊎ (eqb b c && eqb a d ≡ true) → Ends a b c d
    go (inl u) = inl (eqb-true _ _ (and_left (eqb a c) _ u), eqb-true _ _ (and_right (eqb a c) _ u))
    go (inr u) = inr (eqb-true _ _ (and_left (eqb b c) _ u), eqb-true _ _ (and_right (eqb b c) _ u))

pub ends-cells : (a b c d : ℕ) → Ends a b c d → are_cells a b c d ≡ true
ends-cells a b c d (inl (e, f)) = or_left (eqb a c && eqb b d) _ (and_both _ _ (eq-eqb a c e) (eq-eqb b d f))
ends-cells a b c d (inr (e, f)) = or_right (eqb a c && eqb b d) _ (and_both _ _ (eq-eqb b c e) (eq-eqb a d f))

cells-not : (a b c d : ℕ) → (Ends a b c d → ⊥) → are_cells a b c d ≡ false
cells-not a b c d f = never _ (λ t. f (cells-ends a b c d t))

-- a disjunct that can't be
or_none_lem : (e m : Bool) → m ≡ false → e ≡ e || m
or_none_lem true m q = refl
or_none_lem false m q = sym q

-- the relation with the link between a and b
abbrev pub linked_too : ℕ → ℕ → (ℕ → ℕ → Bool) → ℕ → ℕ → Bool
linked_too a b E c d = E c d || are_cells a b c d

module _ (E : ℕ → ℕ → Bool) (a b : ℕ) (apart : a ≡ b → ⊥) where
  -- a cell c that is one of the two has one other end, o
  other_end : {c o d : ℕ} → Ends a b c o → Ends a b c d → d ≡ o
  other_end (inl (e, f)) (inl (p, q)) = sym q ∙ f
  other_end (inl (e, f)) (inr (p, q)) = absurd (apart (e ∙ sym p))
  other_end (inr (e, f)) (inl (p, q)) = absurd (apart (p ∙ sym e))
  other_end (inr (e, f)) (inr (p, q)) = sym q ∙ f

-- the masks of a pair's two cells once it is linked, and so all masks
module _ {w n : ℕ} (p : ℕ) (E : ℕ → ℕ → Bool) (G : Grid w n) (P : IsPair w n p) where
  abbrev a : ℕ
  a = lesser_of p

  abbrev b : ℕ
  b = greater_of w p

  abbrev F : ℕ → ℕ → Bool
  F = linked_too a b E

  less : a < b
  less = pair_rises w n p P

  apart : a ≡ b → ⊥
  apart e = let l = less in omega arith

  place : place_in p ∈ around
  place = around-all (place_in p) (omega arith) (λ e. omega arith)

  new_link : (c o : ℕ) → Ends a b c o → F c o ≡ true
  new_link c o z = or_right (E c o) _ (ends-cells a b c o z)

  -- no other cell is linked to c
  same : (c o : ℕ) → Ends a b c o → (d : ℕ) → (d ≡ o → ⊥) → E c d ≡ F c d
  same c o z d n = or_none_lem (E c d) _ (cells-not a b c d (λ x. n (other_end E a b apart z x)))

  pub lesser-mask : (E a b ≡ true → ⊥) → mask_of around w n E a + lesser_bit p ≡ mask_of around w n F a
  lesser-mask new =
      mask_more G.rows around_rule a E F (place_in p) b place P (new_link a b (inl (refl, refl))) (never _ new)
      (λ q d m S. same a b (inl (refl, refl)) d)

  pub greater-mask : (E b a ≡ true → ⊥) → mask_of around w n E b + greater_bit p ≡ mask_of around w n F b
  greater-mask new =
      mask_more G.rows around_rule b E F (8 - place_in p) a (around_rule.opposite _ place) (stands_back P (pair-lesser w n p P))
      (new_link b a (inr (refl, refl))) (never _ new) (λ q d m S. same b a (inr (refl, refl)) d)

  -- a cell that is neither keeps its mask
  mask_other : (c : ℕ) → (c ≡ a → ⊥) → (c ≡ b → ⊥) → mask_of around w n E c ≡ mask_of around w n F c
  mask_other c x y = mask_same G.rows around_rule c E F (λ q d m S. or_none_lem (E c d) _ (cells-not a b c d (neither d)))
    where
      neither : (d : ℕ) → Ends a b c d → ⊥
      neither d (inl (e, f)) = x (sym e)
      neither d (inr (e, f)) = y (sym e)

  pub added_masks : (links : List ℕ) → n ≤ length links → Masks around w n E links → (E a b ≡ true → ⊥) → (E b a ≡ true → ⊥)
      → added_in w p links ≡ filled (mask_of around w n F) n links
  added_masks links room M new new-back =
      filled-by (mask_of around w n F) n links (added_in w p links) room (length-set (set links a x) b y ∙ length-set links a x)
      (λ c h. there c h (eq_or_ne c b) (eq_or_ne c a))
      (λ c h. get_or-set_other (set links a x) b c y 0 (λ e. let o = P.on in omega arith)
      ∙ get_or-set_other links a c x 0 (λ e. let o = P.on in let l = less in omega arith))
    where
      x : ℕ
      x = at links a + lesser_bit p

      y : ℕ
      y = at links b + greater_bit p

      there : (c : ℕ) → c < n → (c ≡ b) ⊎ (c ≡ b → ⊥) → (c ≡ a) ⊎ (c ≡ a → ⊥)
          → at (set (set links a x) b y) c ≡ mask_of around w n F c
      there c h (inl e) q =
          let s = length-set links a x in
          ap (at (set (set links a x) b y)) e ∙ get_or-set_same (set links a x) b y 0 (let o = P.on in omega arith)
          ∙ ap (λ (m : ℕ). m + greater_bit p) (M b P.on) ∙ greater-mask new-back ∙ ap (mask_of around w n F) (sym e)
      there c h (inr q) (inl e) =
          get_or-set_other (set links a x) b c y 0 q ∙ ap (at (set links a x)) e ∙ get_or-set_same links a x 0 (omega arith)
          ∙ ap (λ (m : ℕ). m + lesser_bit p) (M a (omega arith)) ∙ lesser-mask new ∙ ap (mask_of around w n F) (sym e)
      there c h (inr q) (inr r) =
          get_or-set_other (set links a x) b c y 0 q ∙ get_or-set_other links a c x 0 r ∙ M c h
          ∙ mask_other c r q
