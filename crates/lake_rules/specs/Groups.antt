-- W-202: groups of cells joined through neighbours, over any land. A set of cells is the list of them, ascending.
-- Assumes nothing.
use Rattle.std.specs.Prelude.{Bool, not, ◌&&◌, List, map, ℕ, eqb, ltb}
use Rattle.lists.specs.Lists.{any, at, flat, keep}
use Rattle.rules.specs.Chain.{Edges, labels}
use Rattle.rules.specs.Land.{Land}

-- two neighbouring cells, the lesser number and the greater
pub record Touch : Type 0 where
  pub lesser : ℕ
  pub greater : ℕ

abbrev pub touching : Edges Touch
touching = record { one = λ x. x.lesser; other = λ x. x.greater }

-- the neighbouring cells of a set whose lesser is a
unfoldable pub touches_at : Land → List ℕ → ℕ → List Touch
touches_at L s a = map (λ b. record { lesser = a; greater = b }) (keep (λ b. ltb a b && L.beside a b) s)

-- the neighbouring cells of a set, each two once
unfoldable pub touches : Land → List ℕ → List Touch
touches L s = flat (touches_at L s) s

-- the cells of a set that have c's label
unfoldable pub labelled : List ℕ → List ℕ → ℕ → List ℕ
labelled ls s c = keep (λ d. eqb (at ls d) (at ls c)) s

-- no lesser cell of the set has c's label
unfoldable pub least_of : List ℕ → List ℕ → ℕ → Bool
least_of ls s c = not (any (λ d. ltb d c) (labelled ls s c))

-- the cells of a set by their labels, smaller least cell first
unfoldable pub by_label : List ℕ → List ℕ → List (List ℕ)
by_label ls s = map (labelled ls s) (keep (least_of ls s) s)

-- the groups of a set: its cells joined through neighbours in it, smaller least cell first
unfoldable pub groups : Land → List ℕ → List (List ℕ)
groups L s = by_label (labels touching L.cells (touches L s)) s

-- the cells of a set that are lower than h
unfoldable pub lower : Land → ℕ → List ℕ → List ℕ
lower L h s = keep (λ c. ltb (L.height c) h) s
