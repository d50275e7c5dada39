-- Basin numbers and labels: the singular cells below a cell are counted, and each cell takes the count at its singular cell.
-- Assumes nothing.
use mathlib.Core.Bool.{Bool, cond, false, true, ◌&&◌}
use mathlib.Core.List.{[], List, ◌∷◌}
use mathlib.Core.Path.{ap, refl, subst, sym, ◌∙◌, ◌≡◌}
use Prim.Native.Nat.{ℕ, ◌+◌, ◌<◌, ◌≤◌}
use native.Mathlib.Nat.{lt_trans, zero-add}
use native.Mathlib.Omega.{arith}
use lib.Dec.{eqb}
use lib.ListN.{length, length-append}
use Rattle.basins.specs.Jumps.{FirstReceivers, one_if, singular_below, Within}
use Rattle.basins.specs.Labels.{label_by, Marked}
use Rattle.basins.specs.Numbering.{label_in}
use Rattle.lists.proofs.Filled.{filled_again, filled_at, filled_same}
use Rattle.lists.proofs.Keep.{keep_append, keep_same}
use Rattle.lists.proofs.Range.{range_split, upto-below}
use Rattle.lists.specs.Lists.{at, filled, keep, range, upto, ◌∈◌}
use Rattle.rules.proofs.FirstReceivers.{singular_of-below}
use Rattle.rules.specs.FirstWays.{basin, first_receiver, singular, singular_of}
use Rattle.rules.specs.Ground.{is_outlet}
use Rattle.rules.specs.Land.{Land}
use Rattle.rules.specs.NodeLabels.{label_of}

pub one-or_none : (b : Bool) → one_if b ≤ 1
one-or_none true = omega arith
one-or_none false = omega arith

pub below_none : (receivers : List ℕ) → singular_below receivers 0 ≡ 0
unfolding singular_below
below_none receivers = refl

pub below_next : (receivers : List ℕ) (c : ℕ) → singular_below receivers (c + 1) ≡ singular_below receivers c + one_if (eqb (at receivers c) c)
unfolding singular_below
below_next receivers c =
    ap (λ (l : List ℕ). length (keep own l)) (range_split 0 c 1) ∙ ap length (keep_append own (upto c) (range (0 + c) 1))
    ∙ length-append (keep own (upto c)) (keep own (range (0 + c) 1))
    ∙ ap (λ (k : ℕ). length (keep own (upto c)) + length (keep own (k ∷ []))) (zero-add c)
    ∙ ap (λ (k : ℕ). length (keep own (upto c)) + k) (go (eqb (at receivers c) c))
  where
    own : ℕ → Bool
    own d = eqb (at receivers d) d

    go : (b : Bool) → length (cond b (c ∷ []) []) ≡ cond b 1 0
    go true = refl
    go false = refl

module _ (L : Land) (n : ℕ) (entries : List ℕ) (F : FirstReceivers L n entries) where
  singular_in : (c : ℕ) → c < n → singular_of L c < n
  singular_in c h = subst (λ (k : ℕ). singular_of L c < k) F.cells (singular_of-below L c (subst (λ (k : ℕ). c < k) (sym F.cells) h))

  below-basin : (c : ℕ) → c < n → singular_below entries (singular_of L c) ≡ basin L c
  unfolding singular_below basin singular
  below-basin c h =
      ap length (keep_same (λ d. eqb (at entries d) d) (λ d. L.solid d && eqb (first_receiver L d) d) (upto (singular_of L c)) same)
      ∙ sym (rw (F.whole c h))
    where
      same : (x : ℕ) → x ∈ upto (singular_of L c) → eqb (at entries x) x ≡ L.solid x && eqb (first_receiver L x) x
      same x m = let l : x < n = lt_trans (upto-below m) (singular_in c h) in rw (F.whole x l, F.firsts x l)

  pub singular-within : (q : List ℕ) → q ≡ filled (singular_of L) n entries → Within n q
  singular-within q e c h =
      subst (λ (k : ℕ). k < n) (sym (ap (λ (l : List ℕ). at l c) e ∙ filled_at (singular_of L) n entries c h)) (singular_in c h)

  cell_found : (q : List ℕ) → q ≡ filled (singular_of L) n entries → (c : ℕ) → c < n → at q c ≡ singular_of L c
  cell_found q b c h = ap (λ (l : List ℕ). at l c) b ∙ filled_at (singular_of L) n entries c h

  number_found : (numbers q old : List ℕ) → numbers ≡ filled (singular_below entries) n old → q ≡ filled (singular_of L) n entries
      → (c : ℕ) → c < n → at numbers (at q c) ≡ basin L c
  number_found numbers q old a b c h =
      ap (at numbers) (cell_found q b c h)
      ∙ ap (λ (l : List ℕ). at l (singular_of L c)) a ∙ filled_at (singular_below entries) n old (singular_of L c) (singular_in c h)
      ∙ below-basin c h

  -- counted, led to the singular cells, looked up
  pub numbered : (numbers q out old : List ℕ) → numbers ≡ filled (singular_below entries) n old → q ≡ filled (singular_of L) n entries
      → out ≡ filled (λ c. at numbers (at q c)) n q → out ≡ filled (basin L) n entries
  numbered numbers q out old a b e =
      e ∙ filled_same (λ c. at numbers (at q c)) (basin L) n q (number_found numbers q old a b)
      ∙ ap (filled (basin L) n) b ∙ filled_again (basin L) (singular_of L) n entries

  -- and labelled
  pub labelled : (marks numbers q out old labels : List ℕ) → numbers ≡ filled (singular_below entries) n old
      → q ≡ filled (singular_of L) n entries → out ≡ filled (λ c. label_by n (is_outlet marks (at q c)) (at numbers (at q c))) n labels
      → out ≡ filled (label_in L n marks) n labels
  labelled marks numbers q out old labels a b e =
      e ∙ filled_same (λ c. label_by n (is_outlet marks (at q c)) (at numbers (at q c))) (label_in L n marks) n labels found
    where
      found : (c : ℕ) → c < n → label_by n (is_outlet marks (at q c)) (at numbers (at q c)) ≡ label_in L n marks c
      found c h =
          ap (λ (d : ℕ). label_by n (is_outlet marks d) (at numbers (at q c))) (cell_found q b c h)
          ∙ ap (label_by n (is_outlet marks (singular_of L c))) (number_found numbers q old a b c h)

  -- by the land's own marks these are the labels of rule 4's nodes
  pub labels_marked : (marks labels : List ℕ) → Marked L n marks → filled (label_in L n marks) n labels ≡ filled (label_of L) n labels
  unfolding label_of
  labels_marked marks labels M = filled_same (label_in L n marks) (label_of L) n labels same
    where
      same : (c : ℕ) → c < n → label_in L n marks c ≡ label_of L c
      same c h =
          ap (λ (t : Bool). cond t n (basin L c)) (sym (M (singular_of L c) (singular_in c h)))
          ∙ ap (λ (k : ℕ). cond (L.outlet (singular_of L c)) k (basin L c)) (sym F.cells)
