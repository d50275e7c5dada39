-- The loop that picks pairs in place: after i of them the picked ones stand at the front, the groups follow all i, and from i on the
-- list is as it was. No more are picked than were met, so that the next is written no later than where it stood.
-- Assumes nothing.
use mathlib.Core.Bool.{Bool, cond}
use mathlib.Core.List.{[], List, ◌++◌, ◌∷◌}
use mathlib.Core.Path.{ap, refl, subst, sym, ◌∙◌, ◌≡◌}
use Prim.Native.Nat.{ℕ, ◌+◌, ◌<◌, ◌≤◌}
use native.Mathlib.Numerals.{add-one}
use native.Mathlib.Omega.{arith}
use lib.Dec.{eqb}
use lib.ListN.{length, length-set, set, take}
use lib.Seq.{get_or-set_other, take-length, take-suc}
use Rattle.groups.proofs.Following.{follows_next, follows_none}
use Rattle.groups.proofs.Roots.{alone_down}
use Rattle.groups.specs.Groups.{Follows, Joined, two_groups}
use Rattle.lists.proofs.Keep.{keep_append}
use Rattle.lists.proofs.Packs.{packs_take}
use Rattle.lists.proofs.Range.{range_length}
use Rattle.lists.specs.Lists.{at, keep, upto}
use Rattle.passes.proofs.JoinsChosen.{joins_chosen, label_in_lem, label_edges, next_on}
use Rattle.passes.specs.Picking.{is_chosen, Pickable, Picked}
use Rattle.rules.specs.Land.{Land}
use Rattle.rules.specs.Passes.{Crossing}

pub record Picking (cross : ℕ → Crossing) (labels list₀ : List ℕ) (m i : ℕ) (g list : List ℕ) : Type 0 where
  pub long : length list ≡ length list₀
  pub sized : length g ≡ 4097
  pub behind : m ≤ i
  pub groups : Follows (label_edges cross labels) (upto 4097) (take i list₀) g
  pub rest : (k : ℕ) → i ≤ k → at list k ≡ at list₀ k
  pub picked : (L : Land) → Pickable cross L labels list₀ → take m list ≡ keep (λ p. is_chosen L (cross p)) (take i list₀)

pub picking_none : (cross : ℕ → Crossing) (labels list₀ g : List ℕ) → g ≡ upto 4097 → Picking cross labels list₀ 0 0 g list₀
picking_none cross labels list₀ g e =
    record {
      long = refl;
      sized = ap length e ∙ range_length 4097 0;
      behind = omega arith;
      groups = rw e (follows_none (label_edges cross labels) (upto 4097) (alone_down 4097));
      rest = λ k h. refl;
      picked = λ L P. refl;
    }

module _ {cross : ℕ → Crossing} {labels list₀ : List ℕ} {m i : ℕ} {g list : List ℕ} (Q : Picking cross labels list₀ m i g list) where
  module _ (pickable : (L : Land) × Pickable cross L labels list₀) (l : i < length list₀) where
    same : at list i ≡ at list₀ i
    same = Q.rest i (omega arith)

    -- the next pair's greater cell has a label, and labels have groups
    pub greater_on : (cross (at list i)).greater < length labels
    greater_on = rw same (next_on pickable.1 i l).1

    pub labels_in : (c : ℕ) → c < length labels → at labels c < length g
    labels_in c h = omega (arith, pickable.1.small c h, Q.sized)

    more : take (i + 1) list₀ ≡ take i list₀ ++ (at list₀ i ∷ [])
    more = ap (λ (n : ℕ). take n list₀) (add-one i) ∙ take-suc list₀ i 0 l

    abbrev Next : (r : ℕ) (h : List ℕ) (p : ℕ) → Type 0
    Next r h p =
        r ≡ two_groups g (at labels (cross p).lesser) (at labels (cross p).greater)
        → Joined g (at labels (cross p).lesser) (at labels (cross p).greater) h → length h ≡ length g
        → Picking cross labels list₀ (m + r) (i + 1) h (set list m p)

    next : (r : ℕ) (h : List ℕ) → Next r h (at list₀ i)
    next r h e j k =
        record {
          long = length-set list m (at list₀ i) ∙ Q.long;
          sized = k ∙ Q.sized;
          behind = omega (arith, Q.behind, (answer pickable.0 pickable.1).0);
          groups =
              rw more
              (follows_next (label_edges cross labels) (upto 4097) g h (at list₀ i) (take i list₀)
              (label_in_lem pickable.1 _ (next_on pickable.1 i l).0) (label_in_lem pickable.1 _ (next_on pickable.1 i l).1) j Q.groups);
          rest = λ b a. get_or-set_other list m b (at list₀ i) 0 (λ z. omega (arith, Q.behind)) ∙ Q.rest b (omega arith);
          picked = λ L P.
              let s = answer L P in
              let before = keep (λ p. is_chosen L (cross p)) (take i list₀) in
              packs_take list before m (at list₀ i) r (Q.picked L P) (omega (arith, Q.behind, Q.long)) s.0
              ∙ ap (λ (t : Bool). before ++ cond t (at list₀ i ∷ []) []) (sym s.1)
              ∙ sym (keep_append (λ p. is_chosen L (cross p)) (take i list₀) (at list₀ i ∷ []))
              ∙ ap (keep (λ p. is_chosen L (cross p))) (sym more);
        }
      where
        answer : (L : Land) → Pickable cross L labels list₀ → (r ≤ 1) × (is_chosen L (cross (at list₀ i)) ≡ eqb r 1)
        answer L P = joins_chosen P i l g Q.groups r e

    -- one pair more
    pub picking_next : (r : ℕ) (h : List ℕ) → Next r h (at list i)
    picking_next r h = subst (Next r h) (sym same) (next r h)

  -- all pairs
  pub picking_all : i ≡ length list₀ → (L : Land) → Pickable cross L labels list₀ → Picked cross L list₀ list m
  picking_all e L P =
      record {
        within = omega (arith, Q.behind);
        kept = Q.picked L P ∙ ap (keep (λ p. is_chosen L (cross p))) (ap (λ (n : ℕ). take n list₀) e ∙ take-length list₀);
      }
