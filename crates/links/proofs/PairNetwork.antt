-- Masks of first receivers with the chosen pairs carved in say the links of the network (rules 5 and 6): the walk may be given them.
-- Assumes nothing.
use mathlib.Core.Bool.{Bool, false, true, ◌||◌}
use mathlib.Core.List.{[], List, map, ◌∷◌}
use mathlib.Core.Logic.{inl, inr, ◌⊎◌}
use mathlib.Core.Path.{ap, refl, subst, sym, ◌∙◌, ◌≡◌}
use Prim.Native.Nat.{suc, zero, ℕ, ◌<◌, ◌≤◌}
use native.Mathlib.Omega.{arith}
use lib.Dec.{eqb}
use lib.ListN.{length}
use borrow.Author.Tests.{eq-eqb, eqb-true}
use Rattle.grid.proofs.Masks.{mask_same, masks_filled}
use Rattle.grid.proofs.Rules.{around_rule}
use Rattle.grid.proofs.Window.{stands_itself}
use Rattle.grid.specs.Masks.{joined, mask_of}
use Rattle.grid.specs.Window.{around, IsRule, Stands}
use Rattle.lists.proofs.Any.{any_holds, any_member}
use Rattle.lists.proofs.At.{at_member}
use Rattle.lists.proofs.Filled.{filled_at, filled-length}
use Rattle.lists.proofs.Map.{map_holds, map_member}
use Rattle.lists.proofs.Tests.{or_cases, or_left, or_right, same_test}
use Rattle.lists.specs.Lists.{any, at, filled, ◌∈◌}
use Rattle.pairs.specs.Pairs.{crossing_of, greater_of, lesser_of, Pairs}
use Rattle.links.proofs.OneLink.{cells-ends, Ends, ends-cells}
use Rattle.links.specs.PairLinks.{Addable, are_cells, with_pairs}
use Rattle.rules.proofs.ChosenPasses.{chosen_pass, pass_crossing}
use Rattle.rules.proofs.Crossings.{Crosses, crosses, strictly}
use Rattle.rules.proofs.FirstReceivers.{singular_of-first}
use Rattle.rules.proofs.Linkages.{either_linked, linked_either, network_linkage}
use Rattle.rules.specs.Carving.{receivers}
use Rattle.rules.specs.Enough.{AllChosen, first, InOrder}
use Rattle.rules.specs.FirstWays.{first_receiver, singular_of}
use Rattle.rules.specs.Land.{Land, Rule}
use Rattle.rules.specs.Links.{down, Linkage, Linked, pass, pass_back, receives_either, up}
use Rattle.rules.specs.Passes.{chosen, Crossing, less}
use Rattle.rules.specs.Tile.{Tile, tile_land}
use Rattle.rules.specs.Way.{Lawful}

-- pairs in order, by their places
in_order-at : (L : Land) (f : ℕ → Crossing) (l : List ℕ) → InOrder L (map f l) → (i j : ℕ) → i < j → j < length l
    → less L (f (at l i)) (f (at l j)) ≡ true
in_order-at L f [] o i j h k = absurd (omega arith)
in_order-at L f (x ∷ xs) (first g o) zero zero h k = absurd (omega arith)
in_order-at L f (x ∷ xs) (first g o) zero (suc j) h k = g (f (at xs j)) (map_holds f (at_member xs j (omega arith)))
in_order-at L f (x ∷ xs) (first g o) (suc i) zero h k = absurd (omega arith)
in_order-at L f (x ∷ xs) (first g o) (suc i) (suc j) h k = in_order-at L f xs o i j (omega arith) (omega arith)

-- first receivers are links both ways
joined-both : (f : ℕ → ℕ) (c d : ℕ) → joined f c d ≡ joined f d c
joined-both f c d = go (eqb (f c) d) (eqb (f d) c)
  where
    go : (x y : Bool) → x || y ≡ y || x
    go true true = refl
    go true false = refl
    go false true = refl
    go false false = refl

module _ (R : Rule) (I : IsRule R.places) (w : ℕ) (heights marks : List ℕ) (T : Tile w heights marks) (pairs : List ℕ)
    (C : AllChosen (tile_land R w heights marks) (map (crossing_of w) pairs))
    (N : Pairs w (length heights) pairs) where
  abbrev L : Land
  L = tile_land R w heights marks

  abbrev cross : ℕ → Crossing
  cross = crossing_of w

  abbrev lo : ℕ → ℕ
  lo = lesser_of

  abbrev hi : ℕ → ℕ
  hi = greater_of w

  abbrev n : ℕ
  n = length heights

  pair-chosen : (p : ℕ) → p ∈ pairs → cross p ∈ chosen L
  pair-chosen p m = C.only (cross p) (map_holds cross m)

  pair_crosses : (p : ℕ) → p ∈ pairs → Crosses L (cross p)
  pair_crosses p m = crosses L (cross p) (pass_crossing L (chosen_pass L (pair-chosen p m)))

  module _ (f : ℕ → ℕ) (first-are : (c : ℕ) → c < n → f c ≡ first_receiver L c) where
    -- the two cells of a chosen pair don't lead to each other
    apart : (a b : ℕ) → a < n → b < n → (singular_of L a ≡ singular_of L b → ⊥) → joined f a b ≡ true → ⊥
    apart a b h k differ t = go (or_cases (eqb (f a) b) _ t)
      where
        go : (eqb (f a) b ≡ true) ⊎ (eqb (f b) a ≡ true) → ⊥
        go (inl e) = differ (sym (singular_of-first L a) ∙ ap (singular_of L) (sym (first-are a h) ∙ eqb-true _ _ e))
        go (inr e) = differ (ap (singular_of L) (sym (eqb-true _ _ e) ∙ first-are b k) ∙ singular_of-first L b)

    -- with the masks of first receivers all is there that linking the pairs asks for
    pub tile_addable : (old links : List ℕ) → n ≤ length old → links ≡ filled (mask_of around w n (joined f)) n old
        → Addable w n (joined f) pairs links
    tile_addable old links room e =
        record {
          grid = T.grid;
          room = let s : length links ≡ length old = ap length e ∙ filled-length (mask_of around w n (joined f)) n old room in omega arith;
          neighbours = N;
          both_ways = joined-both f;
          new = λ p m. let k = pair_crosses p m in apart _ _ k.on_lo k.on_hi k.differ;
          once = once;
          masks = masks_filled around w n (joined f) old links e;
        }
      where
        once : (i j : ℕ) → i < j → j < length pairs → lo (at pairs i) ≡ lo (at pairs j)
            → hi (at pairs i) ≡ hi (at pairs j) → ⊥
        once i j h k x y =
            (strictly L).irr (cross (at pairs j))
            (subst (λ (z : Crossing). less L z (cross (at pairs j)) ≡ true) (same x y) (in_order-at L cross pairs C.ordered i j h k))
          where
            same : lo (at pairs i) ≡ lo (at pairs j) → hi (at pairs i) ≡ hi (at pairs j)
                → cross (at pairs i) ≡ cross (at pairs j)
            same u v =
                ap (λ (k : ℕ). record { lesser = k; greater = hi (at pairs i) }) u
                ∙ ap (λ (k : ℕ). record { lesser = lo (at pairs j); greater = k }) v

    module _ (W : Lawful L) (whole : (c : ℕ) → L.solid c ≡ true) where
      abbrev said : ℕ → ℕ → Bool
      said = with_pairs w pairs (joined f)

      said_linked : (c d : ℕ) → c < n → d < n → (c ≡ d → ⊥) → said c d ≡ true → Linked L c d
      unfolding with_pairs
      said_linked c d h k z t = go (or_cases (joined f c d) _ t)
        where
          own : (eqb (f c) d ≡ true) ⊎ (eqb (f d) c ≡ true) → Linked L c d
          own (inl e) = down (sym (first-are c h) ∙ eqb-true _ _ e) z
          own (inr e) = up (sym (first-are d k) ∙ eqb-true _ _ e) (λ q. z (sym q))

          passed : (p : ℕ) → cross p ∈ chosen L → Ends (lo p) (hi p) c d → Linked L c d
          passed p m (inl (e, q)) = pass (cross p) m e q
          passed p m (inr (e, q)) = pass_back (cross p) m q e

          met : (p : ℕ) × (p ∈ pairs) × (are_cells (lo p) (hi p) c d ≡ true) → Linked L c d
          met (p, m, e) = passed p (pair-chosen p m) (cells-ends (lo p) (hi p) c d e)

          go : (joined f c d ≡ true) ⊎ (any (λ p. are_cells (lo p) (hi p) c d) pairs ≡ true) → Linked L c d
          go (inl e) = own (or_cases _ _ e)
          go (inr e) = met (any_member _ pairs e)

      linked_said : (c d : ℕ) → c < n → d < n → Linked L c d → said c d ≡ true
      unfolding with_pairs
      linked_said c d h k l = go l
        where
          chosen_said : (x : Crossing) → x ∈ chosen L
              → ((p : ℕ) → lo p ≡ x.lesser → hi p ≡ x.greater → are_cells (lo p) (hi p) c d ≡ true)
              → said c d ≡ true
          chosen_said x m g =
              let (p, i, e) = map_member cross pairs (C.all x m) in
              or_right (joined f c d) _
              (any_holds (λ q. are_cells (lo q) (hi q) c d) i
              (g p (ap (λ (y : Crossing). y.lesser) (sym e)) (ap (λ (y : Crossing). y.greater) (sym e))))

          go : Linked L c d → said c d ≡ true
          go (down e z) = or_left (joined f c d) _ (or_left (eqb (f c) d) _ (eq-eqb _ _ (first-are c h ∙ e)))
          go (up e z) = or_left (joined f c d) _ (or_right (eqb (f c) d) _ (eq-eqb _ _ (first-are d k ∙ e)))
          go (pass x m p q) = chosen_said x m (λ j e g. ends-cells _ _ c d (inl (e ∙ p, g ∙ q)))
          go (pass_back x m p q) = chosen_said x m (λ j e g. ends-cells _ _ c d (inr (g ∙ q, e ∙ p)))

      -- what the walk asks for
      pub pairs_linkage : (old links : List ℕ) → n ≤ length old → links ≡ filled (mask_of around w n (with_pairs w pairs (joined f))) n old
          → Linkage R w heights marks links (receivers L)
      pairs_linkage old links room e =
          network_linkage R I w heights marks T W links
          (let s : length links ≡ length old = ap length e ∙ filled-length (mask_of around w n said) n old room in omega arith)
          (λ c h. ap (λ (l : List ℕ). at l c) e ∙ filled_at (mask_of around w n said) n old c h
          ∙ mask_same T.grid.rows around_rule c said (receives_either L (receivers L)) (λ p d m S. agrees c d h S.on (apart_at S m)))
        where
          apart_at : {c p d : ℕ} → Stands w n c p d → p ∈ around → c ≡ d → ⊥
          apart_at S m e = around_rule.no_middle (subst (λ (q : ℕ). q ∈ around) (stands_itself S e) m)

          agrees : (c d : ℕ) → c < n → d < n → (c ≡ d → ⊥) → said c d ≡ receives_either L (receivers L) c d
          agrees c d h k z =
              same_test _ _ (λ t. linked_either L W c d h k (said_linked c d h k z t))
              (λ t. linked_said c d h k (either_linked L W c d h k (whole c) (whole d) t))
