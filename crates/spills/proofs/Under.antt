-- Pairs no higher than a height, the labels of a tile's pairs, and groups that follow pairs: two labels are in one group exactly if a chain
-- of the pairs joins them.
-- Assumes nothing.
use mathlib.Core.List.{List}
use mathlib.Core.Path.{ap, refl, subst, sym, ◌∙◌}
use Prim.Native.Nat.{ℕ, ◌<◌, ◌≤◌}
use native.Mathlib.Omega.{arith}
use lib.Dec.{leb}
use lib.ListN.{length, take}
use borrow.Author.Tests.{le-leb, leb-true}
use Rattle.groups.proofs.Renamed.{renamed}
use Rattle.groups.proofs.Roots.{alone-root}
use Rattle.groups.specs.Groups.{Follows, root_of, SameGroup}
use Rattle.lists.proofs.At.{at_member, at-place-take}
use Rattle.lists.proofs.Keep.{keep_holds, keep_member}
use Rattle.lists.proofs.Range.{range_length}
use Rattle.lists.specs.Lists.{upto, ◌∈◌}
use Rattle.pairs.proofs.Pairs.{pair-lesser}
use Rattle.pairs.specs.Pairs.{greater_of, pair_height}
use Rattle.rules.proofs.Chains.{mono}
use Rattle.rules.specs.Chain.{Chain, Edges}
use Rattle.spills.specs.Spills.{label_edges, Spilling, under}

module _ (w : ℕ) (heights : List ℕ) where
  pub under_member : (list : List ℕ) (m : ℕ) {p : ℕ} → p ∈ under w heights list m → (p ∈ list) × (pair_height w heights p ≤ m)
  unfolding under
  under_member list m {p} i =
      let (j, t) = keep_member (λ q. leb (pair_height w heights q) m) list i in
      (j, leb-true (pair_height w heights p) m t)

  pub under_holds : (list : List ℕ) (m : ℕ) {p : ℕ} → p ∈ list → pair_height w heights p ≤ m → p ∈ under w heights list m
  unfolding under
  under_holds list m {p} i h = keep_holds (λ q. leb (pair_height w heights q) m) i (le-leb (pair_height w heights p) m h)

  -- a chain of pairs no higher than k is one of pairs no higher than m
  pub under_more : {G : Edges ℕ} (list : List ℕ) (k m : ℕ) {a b : ℕ} → k ≤ m → Chain G (under w heights list k) a b
      → Chain G (under w heights list m) a b
  under_more list k m h =
      mono (λ p i. let (j, l) = under_member list k i in under_holds list m j (let l' : pair_height w heights p ≤ k = l in omega arith))

  -- and one of all pairs
  pub under_all : {G : Edges ℕ} (list : List ℕ) (m : ℕ) {a b : ℕ} → Chain G (under w heights list m) a b → Chain G list a b
  under_all list m = mono (λ p i. (under_member list m i).0)

-- a pair of the first i stands in the list
pub take_member : (i : ℕ) (list : List ℕ) {p : ℕ} → p ∈ take i list → p ∈ list
take_member i list {p} m = let (j, k, l, e) = at-place-take i list m in subst (λ (q : ℕ). q ∈ list) (sym e) (at_member list j l)

-- labels are below 4,097
pub label_in_lem : (b : ℕ) → b ≤ 4096 → b < length (upto 4097)
label_in_lem b h = omega (arith, range_length 4097 0)

-- every pair of a list joins two labels
abbrev pub Small : (w : ℕ) (labels list : List ℕ) → Type 0
Small w labels list = (p : ℕ) → p ∈ list → ((label_edges w labels).one p ≤ 4096) × ((label_edges w labels).other p ≤ 4096)

module _ {w : ℕ} {heights labels list : List ℕ} (S : Spilling w heights labels list) where
  pub greater_on : (p : ℕ) → p ∈ list → greater_of w p < length labels
  greater_on p m = let P = S.pairs p m in omega (arith, P.on, S.labelled)

  pub labels_small : Small w labels list
  labels_small p m =
      let P = S.pairs p m in
      (S.small _ (omega (arith, pair-lesser w (length heights) p P, S.labelled)), S.small _ (greater_on p m))

module _ (w : ℕ) (labels list : List ℕ) (small : Small w labels list) {g : List ℕ}
    (f : Follows (label_edges w labels) (upto 4097) list g) (a b : ℕ) (la : a ≤ 4096) (lb : b ≤ 4096) where
  abbrev G : Edges ℕ
  G = label_edges w labels

  pub group_joins : SameGroup g a b → Chain (label_edges w labels) list a b
  group_joins s =
      renamed G G (root_of (upto 4097)) (λ c. c) (λ c. c ≤ 4096)
      (λ c d i j e. sym (alone-root 4097 c (omega arith)) ∙ e ∙ alone-root 4097 d (omega arith)) small
      (λ x m. record { edge = x; isin = m; one = refl; other = refl })
      (f.chained a b (label_in_lem a la) (label_in_lem b lb) s) a b la lb refl refl

  pub joins_group : Chain (label_edges w labels) list a b → SameGroup g a b
  joins_group c =
      f.grouped a b (label_in_lem a la) (label_in_lem b lb)
      (renamed G G (λ c. c) (root_of (upto 4097)) (λ c. c ≤ 4096) (λ c d i j e. ap (root_of (upto 4097)) e) small
      (λ x m. record { edge = x; isin = m; one = refl; other = refl })
      c a b la lb refl refl)
