-- The links of pairs, one after the other. No pair before has the same two cells, and no link that was there joins them: so the two bits
-- are not there, and adding their weights sets them.
-- Assumes nothing.
use mathlib.Core.Bool.{Bool, false, or-false, true, ◌||◌}
use mathlib.Core.List.{[], List, ◌∷◌}
use mathlib.Core.Logic.{inl, inr, ◌⊎◌}
use mathlib.Core.Path.{ap, refl, subst, sym, ◌∙◌, ◌≡◌}
use Prim.Native.Nat.{ℕ, ◌+◌, ◌<◌, ◌≤◌}
use native.Mathlib.Numerals.{add-one}
use native.Mathlib.Omega.{arith}
use lib.ListN.{length, take}
use lib.Seq.{take-suc}
use Rattle.grid.proofs.Masks.{mask_same, mask_small, masks_filled}
use Rattle.grid.proofs.Rules.{around_rule}
use Rattle.grid.specs.Masks.{mask_of}
use Rattle.grid.specs.Window.{around}
use Rattle.lists.proofs.Any.{any_append, any_member}
use Rattle.lists.proofs.At.{at_member, at-place-take}
use Rattle.lists.proofs.Filled.{filled_again, filled-by, filled-length, filled_same}
use Rattle.lists.proofs.Tests.{or_cases}
use Rattle.lists.specs.Lists.{any, at, filled, ◌∈◌}
use Rattle.pairs.proofs.Pairs.{pair_rises}
use Rattle.pairs.specs.Pairs.{greater_of, IsPair, lesser_of}
use Rattle.links.proofs.OneLink.{added_masks, cells-ends, Ends, greater-mask, lesser-mask, linked_too}
use Rattle.links.specs.PairLinks.{Addable, added_in, are_cells, greater_bit, lesser_bit, with_pairs}

or_more : (e a b : Bool) → (e || a) || b ≡ e || (a || (b || false))
or_more true a b = refl
or_more false true b = refl
or_more false false true = refl
or_more false false false = refl

turned : (x y a b : ℕ) → x < y → a < b → x ≡ b → y ≡ a → ⊥
turned x y a b h k e f = omega arith

module _ {w n : ℕ} {E : ℕ → ℕ → Bool} {pairs links : List ℕ} (A : Addable w n E pairs links) where
  -- the relation with the first i pairs
  abbrev up_to : ℕ → ℕ → ℕ → Bool
  up_to i = with_pairs w (take i pairs) E

  -- the two cells of the pair at place i
  abbrev lo : ℕ → ℕ
  lo i = lesser_of (at pairs i)

  abbrev hi : ℕ → ℕ
  hi i = greater_of w (at pairs i)

  pair : (i : ℕ) → i < length pairs → IsPair w n (at pairs i)
  pair i h = A.neighbours (at pairs i) (at_member pairs i h)

  rises : (i : ℕ) → i < length pairs → lo i < hi i
  rises i h = pair_rises w n (at pairs i) (pair i h)

  -- no link before is this one
  other : (i : ℕ) → i < length pairs → (c d : ℕ) → Ends (lo i) (hi i) c d → (E c d ≡ true → ⊥) → up_to i c d ≡ true → ⊥
  unfolding with_pairs
  other i h c d s new t = go (or_cases (E c d) _ t)
    where
      clash : (j : ℕ) → j < i → j < length pairs → Ends (lo j) (hi j) c d → Ends (lo i) (hi i) c d → ⊥
      clash j l m (inl (x, y)) (inl (u, v)) = A.once j i l h (x ∙ sym u) (y ∙ sym v)
      clash j l m (inr (x, y)) (inr (u, v)) = A.once j i l h (y ∙ sym v) (x ∙ sym u)
      clash j l m (inl (x, y)) (inr (u, v)) = turned (lo j) (hi j) (lo i) (hi i) (rises j m) (rises i h) (x ∙ sym u) (y ∙ sym v)
      clash j l m (inr (x, y)) (inl (u, v)) = turned (lo j) (hi j) (lo i) (hi i) (rises j m) (rises i h) (y ∙ sym v) (x ∙ sym u)

      met : (q : ℕ) × (q ∈ take i pairs) × (are_cells (lesser_of q) (greater_of w q) c d ≡ true) → ⊥
      met (q, m, e) =
          let (j, l, k, f) = at-place-take i pairs m in
          clash j l k (cells-ends (lo j) (hi j) c d (subst (λ (z : ℕ). are_cells (lesser_of z) (greater_of w z) c d ≡ true) f e)) s

      go : (E c d ≡ true) ⊎ (any (λ q. are_cells (lesser_of q) (greater_of w q) c d) (take i pairs) ≡ true) → ⊥
      go (inl e) = new e
      go (inr e) = met (any_member _ (take i pairs) e)

  new_link : (i : ℕ) → i < length pairs → up_to i (lo i) (hi i) ≡ true → ⊥
  new_link i h = other i h (lo i) (hi i) (inl (refl, refl)) (A.new (at pairs i) (at_member pairs i h))

  new-back : (i : ℕ) → i < length pairs → up_to i (hi i) (lo i) ≡ true → ⊥
  new-back i h =
      other i h (hi i) (lo i) (inr (refl, refl)) (λ t. A.new (at pairs i) (at_member pairs i h) (A.both_ways (lo i) (hi i) ∙ t))

  -- relations that agree have the same masks
  agree : (F G : ℕ → ℕ → Bool) → ((c d : ℕ) → F c d ≡ G c d) → filled (mask_of around w n F) n links ≡ filled (mask_of around w n G) n links
  agree F G h = filled_same (mask_of around w n F) (mask_of around w n G) n links (λ c k. mask_same A.grid.rows around_rule c F G (λ q d m S. h c d))

  pub none_yet : links ≡ filled (mask_of around w n (with_pairs w [] E)) n links
  unfolding with_pairs
  none_yet = filled-by (mask_of around w n E) n links links A.room refl A.masks (λ c k. refl) ∙ agree E (up_to 0) (λ c d. sym (or-false (E c d)))

  pub one_more : (i : ℕ) → i < length pairs → (l : List ℕ) → l ≡ filled (mask_of around w n (with_pairs w (take i pairs) E)) n links
      → added_in w (at pairs i) l ≡ filled (mask_of around w n (with_pairs w (take (i + 1) pairs) E)) n links
  unfolding with_pairs
  one_more i h l e =
      added_masks (at pairs i) (up_to i) A.grid (pair i h) l size (masks_filled around w n (up_to i) links l e) (new_link i h) (new-back i h)
      ∙ ap (filled (mask_of around w n F) n) e ∙ filled_again (mask_of around w n F) (mask_of around w n (up_to i)) n links
      ∙ agree F (up_to (i + 1)) (λ c d. or_more (E c d) _ _ ∙ ap (λ (t : Bool). E c d || t) (longer c d))
    where
      F : ℕ → ℕ → Bool
      F = linked_too (lo i) (hi i) (up_to i)

      size : n ≤ length l
      size = let r = A.room in let s = ap length e ∙ filled-length (mask_of around w n (up_to i)) n links r in omega arith

      longer : (c d : ℕ) → any (λ q. are_cells (lesser_of q) (greater_of w q) c d) (take i pairs) || (are_cells (lo i) (hi i) c d || false)
          ≡ any (λ q. are_cells (lesser_of q) (greater_of w q) c d) (take (i + 1) pairs)
      longer c d =
          sym (any_append (λ q. are_cells (lesser_of q) (greater_of w q) c d) (take i pairs) (at pairs i ∷ []))
          ∙ ap (any (λ q. are_cells (lesser_of q) (greater_of w q) c d))
          (sym (ap (λ (k : ℕ). take k pairs) (add-one i) ∙ take-suc pairs i 0 h))

  -- what `link_pair` asks of the next pair: it is on the tile, and its two masks have room for its bits
  pub record Next (i : ℕ) (l : List ℕ) : Type 0 where
    pub few : greater_of w (at pairs i) < 4096
    pub on : greater_of w (at pairs i) < length l
    pub lesser_fits : at l (lesser_of (at pairs i)) + lesser_bit (at pairs i) < 256
    pub greater_fits : at l (greater_of w (at pairs i)) + greater_bit (at pairs i) < 256

  pub next_pair : (i : ℕ) → i < length pairs → (l : List ℕ) → l ≡ filled (mask_of around w n (with_pairs w (take i pairs) E)) n links → Next i l
  next_pair i h l e =
      let r = A.room in
      let on = (pair i h).on in
      let up = rises i h in
      let f = A.grid.few in
      let s : length l ≡ length links = ap length e ∙ filled-length (mask_of around w n (up_to i)) n links r in
      record {
        few = omega arith;
        on = omega arith;
        lesser_fits = fits (lo i) (lesser_bit (at pairs i)) (omega arith) (lesser-mask (at pairs i) (up_to i) A.grid (pair i h) (new_link i h));
        greater_fits = fits (hi i) (greater_bit (at pairs i)) on (greater-mask (at pairs i) (up_to i) A.grid (pair i h) (new-back i h));
      }
    where
      F : ℕ → ℕ → Bool
      F = linked_too (lo i) (hi i) (up_to i)

      -- with its bit a mask is one of these
      fits : (c b : ℕ) → c < n → mask_of around w n (up_to i) c + b ≡ mask_of around w n F c → at l c + b < 256
      fits c b k q =
          let m = masks_filled around w n (up_to i) links l e c k in
          let s = mask_small A.grid.rows around_rule c F in
          omega arith
