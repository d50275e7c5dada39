-- Groups of basins as a list: each entry names a basin no greater, and following the entries ends at the root of the group.
-- Two basins are in one group exactly if they have one root.
-- Assumes nothing.
use Rattle.std.specs.Prelude.{cond, ◌||◌, List, ◌≡◌, min, ℕ, ◌<◌, ◌≤◌, eqb, length}
use Rattle.lists.specs.Lists.{at, repeat, ◌∈◌}
use Rattle.rules.specs.Chain.{Chain, Edges}

-- no entry is above its own place
abbrev pub Down : List ℕ → Type 0
Down g = (b : ℕ) → at g b ≤ b

-- where following the entries from b ends
unfoldable pub root_of : List ℕ → ℕ → ℕ
root_of g b = repeat b (at g) b

-- b is a root: it names itself
abbrev pub Root : List ℕ → ℕ → Type 0
Root g b = (b < length g) × (at g b ≡ b)

-- a and b are in one group
abbrev pub SameGroup : List ℕ → ℕ → ℕ → Type 0
SameGroup g a b = root_of g a ≡ root_of g b

-- 1 where a and b are in two groups, 0 where they are in one
unfoldable pub two_groups : List ℕ → ℕ → ℕ → ℕ
two_groups g a b = cond (eqb (root_of g a) (root_of g b)) 0 1

-- h has the groups of g
pub record SameGroups (g h : List ℕ) : Type 0 where
  pub down : Down h
  pub roots : (x : ℕ) → root_of h x ≡ root_of g x

-- the root r, once the groups with the roots p and q are one: the lesser of the two names it
unfoldable pub merged : ℕ → ℕ → ℕ → ℕ
merged p q r = cond (eqb r p || eqb r q) (min p q) r

-- h has the groups of g, but those of a and b are one
pub record Joined (g : List ℕ) (a b : ℕ) (h : List ℕ) : Type 0 where
  pub down : Down h
  pub roots : (x : ℕ) → root_of h x ≡ merged (root_of g a) (root_of g b) (root_of g x)

module _ {E : Type 0} where
  -- edges between basins, as edges between what a chain calls these basins: it calls basin b node b
  abbrev pub seen_by : (ℕ → ℕ) → Edges E → Edges E
  seen_by node G = record { one = λ x. node (G.one x); other = λ x. node (G.other x) }

  -- a chain of edges between basins from basin a to basin b, where basins of one group of old count as one
  abbrev pub BasinChain : Edges E → List ℕ → List E → ℕ → ℕ → Type 0
  BasinChain G old es a b = Chain (seen_by (root_of old) G) es (root_of old a) (root_of old b)

  -- g has the groups of old, joined along a list of edges: two basins are in one group exactly if a chain of these edges joins them
  pub record Follows (G : Edges E) (old : List ℕ) (es : List E) (g : List ℕ) : Type 0 where
    pub down : Down g
    pub chained : (a b : ℕ) → a < length old → b < length old → SameGroup g a b → BasinChain G old es a b
    pub grouped : (a b : ℕ) → a < length old → b < length old → BasinChain G old es a b → SameGroup g a b

  -- an edge of a list between the cells a and b
  pub record Between (G : Edges E) (es : List E) (a b : ℕ) : Type 0 where
    pub edge : E
    pub isin : edge ∈ es
    pub one : G.one edge ≡ a
    pub other : G.other edge ≡ b
