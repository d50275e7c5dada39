-- A basin's number, with one number for all outlet basins, tells the nodes of rule 4 apart.
-- Assumes nothing.
use mathlib.Core.Bool.{Bool, cond, false, true}
use mathlib.Core.List.{List}
use mathlib.Core.Path.{ap, sym, ◌∙◌, ◌≡◌}
use Prim.Native.Nat.{ℕ, ◌<◌, ◌≤◌}
use native.Mathlib.Omega.{arith}
use Rattle.lists.proofs.Tab.{tab-at}
use Rattle.lists.proofs.Tests.{is, isnt, Known, known}
use Rattle.lists.specs.Lists.{at, tab}
use Rattle.rules.proofs.BasinNumbers.{basin-below, basin_same, same_basin}
use Rattle.rules.proofs.Crossings.{node-root, node_same}
use Rattle.rules.proofs.FirstReceivers.{singular_of-below}
use Rattle.rules.specs.FirstWays.{basin, singular_of}
use Rattle.rules.specs.Land.{Land}
use Rattle.rules.specs.Passes.{node}
use Rattle.rules.specs.Way.{Lawful}
use Rattle.rules.specs.NodeLabels.{label_of, Labelled}

module _ (L : Land) (W : Lawful L) where
  inner_node : (c : ℕ) → L.outlet (singular_of L c) ≡ false → node L c ≡ singular_of L c
  unfolding node
  inner_node c o = rw o

  outer_label : (c : ℕ) → L.outlet (singular_of L c) ≡ true → label_of L c ≡ L.cells
  unfolding label_of
  outer_label c o = rw o

  inner_label : (c : ℕ) → L.outlet (singular_of L c) ≡ false → label_of L c ≡ basin L c
  unfolding label_of
  inner_label c o = rw o

  module _ (c d : ℕ) (h : c < L.cells) (k : d < L.cells) (s : L.solid c ≡ true) (t : L.solid d ≡ true) where
    pub label_node : label_of L c ≡ label_of L d → node L c ≡ node L d
    label_node e = go (known (L.outlet (singular_of L c))) (known (L.outlet (singular_of L d)))
      where
        go : Known (L.outlet (singular_of L c)) → Known (L.outlet (singular_of L d)) → node L c ≡ node L d
        go (is o) (is p) = node-root L c o ∙ sym (node-root L d p)
        go (is o) (isnt p) = let q = sym (outer_label c o) ∙ e ∙ inner_label d p in absurd (omega (arith, q, basin-below L d k t))
        go (isnt o) (is p) = let q = sym (inner_label c o) ∙ e ∙ outer_label d p in absurd (omega (arith, q, basin-below L c h s))
        go (isnt o) (isnt p) = node_same L c d (basin_same L W c d s t (sym (inner_label c o) ∙ e ∙ inner_label d p))

    pub node_label : node L c ≡ node L d → label_of L c ≡ label_of L d
    node_label e = go (known (L.outlet (singular_of L c))) (known (L.outlet (singular_of L d)))
      where
        go : Known (L.outlet (singular_of L c)) → Known (L.outlet (singular_of L d)) → label_of L c ≡ label_of L d
        go (is o) (is p) = outer_label c o ∙ sym (outer_label d p)
        go (is o) (isnt p) =
            let q = sym (node-root L c o) ∙ e ∙ inner_node d p in
            let b : singular_of L d < L.cells = singular_of-below L d k in
            absurd (omega arith)
        go (isnt o) (is p) =
            let q = sym (inner_node c o) ∙ e ∙ node-root L d p in
            let b : singular_of L c < L.cells = singular_of-below L c h in
            absurd (omega arith)
        go (isnt o) (isnt p) =
            inner_label c o ∙ same_basin L W c d s t (sym (inner_node c o) ∙ e ∙ inner_node d p) ∙ sym (inner_label d p)

  -- a label is at most the count of cells
  pub label_small : (c : ℕ) → c < L.cells → L.solid c ≡ true → label_of L c ≤ L.cells
  unfolding label_of
  label_small c h s = go (L.outlet (singular_of L c))
    where
      go : (t : Bool) → cond t L.cells (basin L c) ≤ L.cells
      go true = omega arith
      go false = let b = basin-below L c h s in omega arith

  -- labels that are the land's, of a land without holes
  pub labels_tell : (labels : List ℕ) → ((c : ℕ) → c < L.cells → L.solid c ≡ true) → labels ≡ tab L.cells (label_of L) → Labelled L labels
  labels_tell labels whole e =
      record {
        same = λ c d h k q. label_node c d h k (whole c h) (whole d k) (sym (label_at c h) ∙ q ∙ label_at d k);
        told = λ c d h k q. label_at c h ∙ node_label c d h k (whole c h) (whole d k) q ∙ sym (label_at d k);
      }
    where
      label_at : (c : ℕ) → c < L.cells → at labels c ≡ label_of L c
      label_at c h = ap (λ (l : List ℕ). at l c) e ∙ tab-at (label_of L) L.cells c 0 h
