-- A pair joins two groups of labels exactly if its crossing is a chosen pass. Groups that follow the pairs before it are chains of these
-- pairs between labels; since labels tell the nodes of rule 4 apart, they are chains of the crossings before it between nodes.
-- Assumes nothing.
use mathlib.Core.List.Memᴰ.{append_left as in_left}
use mathlib.Core.List.Memᴰ.{append_right as in_right}
use mathlib.Core.List.Memᴰ.{head as in_head}
use mathlib.Core.List.{List, map, map-append}
use mathlib.Core.List.{◌++◌, ◌∷◌}
use mathlib.Core.Path.{ap, refl, subst, sym, ◌∙◌, ◌≡◌}
use Prim.Native.Nat.{suc, ℕ, ◌<◌, ◌≤◌}
use native.Mathlib.Omega.{arith}
use lib.Dec.{eqb}
use lib.ListN.{drop, length, take}
use lib.Seq.{split_at}
use borrow.Author.Tests.{eqb-false, eqb-true}
use Rattle.groups.proofs.Renamed.{renamed}
use Rattle.groups.proofs.Roots.{alone-root}
use Rattle.groups.specs.Groups.{Follows, root_of, seen_by, two_groups}
use Rattle.lists.proofs.Map.{map_holds, map_member}
use Rattle.lists.proofs.Range.{range_length}
use Rattle.lists.proofs.Tests.{is, isnt, Known, known, never}
use Rattle.lists.specs.Lists.{at, upto, ◌∈◌}
use Rattle.passes.proofs.IsChosen.{chosen_is, is_chosen_fact}
use Rattle.passes.specs.Picking.{is_chosen, Pickable}
use Rattle.rules.proofs.Crossings.{crosses}
use Rattle.rules.proofs.EnoughCrossings.{apart_met, met_apart}
use Rattle.rules.specs.Chain.{Chain, Edges}
use Rattle.rules.specs.Enough.{Enough}
use Rattle.rules.specs.Land.{Land}
use Rattle.rules.specs.Passes.{Crossing, crossings, edges, node}

-- what is read as a crossing, as an edge between its two cells, and between their labels
abbrev cell_edges : {A : Type 0} → (A → Crossing) → Edges A
cell_edges cross = record { one = λ p. (cross p).lesser; other = λ p. (cross p).greater }

abbrev pub label_edges : (ℕ → Crossing) → List ℕ → Edges ℕ
label_edges cross labels = record { one = λ p. at labels (cross p).lesser; other = λ p. at labels (cross p).greater }

-- what a chain of pairs calls a cell
abbrev name : List ℕ → ℕ → ℕ
name labels c = root_of (upto 4097) (at labels c)

module _ {cross : ℕ → Crossing} {L : Land} {labels list : List ℕ} (P : Pickable cross L labels list) where
  abbrev On : ℕ → Type 0
  On c = c < length labels

  -- the two cells of a crossing
  ends_on : (x : Crossing) → x ∈ crossings L → On x.lesser × On x.greater
  ends_on x m = let C = crosses L x m in rw P.cells (C.on_lo, C.on_hi)

  pub label_in_lem : (c : ℕ) → On c → at labels c < length (upto 4097)
  label_in_lem c h = omega (arith, P.small c h, range_length 4097 0)

  name-is : (c : ℕ) → On c → name labels c ≡ at labels c
  name-is c h = alone-root 4097 (at labels c) (omega (arith, P.small c h))

  on_land : (c : ℕ) → On c → c < L.cells
  on_land c h = subst (λ (n : ℕ). c < n) P.cells h

  nodes : (c d : ℕ) → On c → On d → name labels c ≡ name labels d → node L c ≡ node L d
  nodes c d h k e = P.labelled.same c d (on_land c h) (on_land d k) (sym (name-is c h) ∙ e ∙ name-is d k)

  names : (c d : ℕ) → On c → On d → node L c ≡ node L d → name labels c ≡ name labels d
  names c d h k e = ap (root_of (upto 4097)) (P.labelled.told c d (on_land c h) (on_land d k) e)

  module _ (i : ℕ) (h : i < length list) where
    abbrev x : Crossing
    x = cross (at list i)

    -- the crossings before it, and after it
    abbrev met : List Crossing
    met = map cross (take i list)

    abbrev unmet : List Crossing
    unmet = map cross (drop (suc i) list)

    split : Enough L (met ++ (x ∷ unmet))
    split =
        subst (Enough L) (ap (map cross) (split_at list i 0 h) ∙ map-append cross (take i list) (at list i ∷ drop (suc i) list)) P.enough

    pub next_on : On x.lesser × On x.greater
    next_on = ends_on x (split.suffices.only x (in_right met (in_head refl)))

    met_on : (y : Crossing) → y ∈ met → On y.lesser × On y.greater
    met_on y m = ends_on y (split.suffices.only y (in_left (x ∷ unmet) m))

    to_nodes : Chain (seen_by (name labels) (cell_edges cross)) (take i list) (name labels x.lesser) (name labels x.greater)
        → Chain (edges L) met (node L x.lesser) (node L x.greater)
    to_nodes c =
        renamed (cell_edges cross) (cell_edges (λ y. y)) (name labels) (node L) On nodes (λ q m. met_on (cross q) (map_holds cross m))
        (λ q m. record { edge = cross q; isin = map_holds cross m; one = refl; other = refl })
        c x.lesser x.greater next_on.0 next_on.1 refl refl

    to_names : Chain (edges L) met (node L x.lesser) (node L x.greater)
        → Chain (seen_by (name labels) (cell_edges cross)) (take i list) (name labels x.lesser) (name labels x.greater)
    to_names c =
        renamed (cell_edges (λ y. y)) (cell_edges cross) (node L) (name labels) On names met_on
        (λ y m.
        let (q, k, e) = map_member cross (take i list) m in
        record { edge = q; isin = k; one = ap (λ (z : Crossing). z.lesser) (sym e); other = ap (λ (z : Crossing). z.greater) (sym e) })
        c x.lesser x.greater next_on.0 next_on.1 refl refl

    -- groups that follow the pairs before tell whether this one is chosen
    pub joins_chosen : (g : List ℕ) → Follows (label_edges cross labels) (upto 4097) (take i list) g → (r : ℕ)
        → r ≡ two_groups g (at labels x.lesser) (at labels x.greater) → (r ≤ 1) × (is_chosen L x ≡ eqb r 1)
    unfolding two_groups
    joins_chosen g f r e = go (known (eqb (root_of g (at labels x.lesser)) (root_of g (at labels x.greater))))
      where
        go : Known (eqb (root_of g (at labels x.lesser)) (root_of g (at labels x.greater))) → (r ≤ 1) × (is_chosen L x ≡ eqb r 1)
        go (is t) =
            let z : r ≡ 0 = rw t at e in
            let c = to_nodes (f.chained _ _ (label_in_lem _ next_on.0) (label_in_lem _ next_on.1) (eqb-true _ _ t)) in
            (omega arith, never (is_chosen L x) (λ q. met_apart L met unmet x split (chosen_is L x q) c) ∙ ap (λ (k : ℕ). eqb k 1) (sym z))
        go (isnt t) =
            let z : r ≡ 1 = rw t at e in
            let m = apart_met L met unmet x split (λ c.
            eqb-false _ _ t (f.grouped _ _ (label_in_lem _ next_on.0) (label_in_lem _ next_on.1) (to_names c))) in
            (omega arith, is_chosen_fact L x m ∙ ap (λ (k : ℕ). eqb k 1) (sym z))
