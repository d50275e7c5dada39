-- What one pass over all neighbouring wet cells, by ascending height of the higher of the two, notes for the lakes: flags, from which
-- every lake's split is read, and a forest, from which the groups at every height are.
-- Assumes nothing.
use Rattle.std.specs.Prelude.{Bool, cond, true, List, ◌≡◌, suc, ℕ, ◌<◌, ◌≤◌, eqb, ltb, length}
use Rattle.lake_rules.specs.Groups.{lower, touches, touching}
use Rattle.lists.specs.Lists.{at, repeat, tab, ◌∈◌}
use Rattle.rules.specs.Chain.{Chain}
use Rattle.rules.specs.Land.{Land}

-- a chain of neighbouring cells of a set, all lower than h
abbrev pub Under : Land → List ℕ → (h a b : ℕ) → Type 0
Under L s h a b = Chain touching (touches L (lower L h s)) a b

module _ (L : Land) (S : List ℕ) where
  -- a flagged cell joins two groups of lower cells, each of which has a cell lower than it; and where two lower cells are joined below t
  -- and not below h, a cell between these heights that is joined with them is flagged
  pub record Flagged (flag : ℕ → Bool) : Type 0 where
    pub sound : (c : ℕ) → c ∈ S → flag c ≡ true
        → (a : ℕ) × (b : ℕ) × (a ∈ lower L (L.height c) S) × (b ∈ lower L (L.height c) S) × (Under L S (L.height c) a b → ⊥)
        × Under L S (suc (L.height c)) a c × Under L S (suc (L.height c)) b c
    pub complete : (h t a b : ℕ) → h ≤ t → a ∈ lower L h S → b ∈ lower L h S → Under L S t a b → (Under L S h a b → ⊥)
        → (c : ℕ) × (c ∈ lower L t S) × (flag c ≡ true) × (h ≤ L.height c) × Under L S t a c

  -- s is a lake of level t in S: a largest group of the cells lower than t
  pub record LakeIn (t : ℕ) (s : List ℕ) : Type 0 where
    pub sub : (c : ℕ) → c ∈ s → c ∈ lower L t S
    pub joined : (a b : ℕ) → a ∈ s → b ∈ s → Under L S t a b
    pub whole : (a b : ℕ) → a ∈ s → b ∈ lower L t S → Under L S t a b → b ∈ s

-- where cell c leads at height h: to its parent, if it joined it lower than h
abbrev pub up_from : (parents joins : List ℕ) (h c : ℕ) → ℕ
up_from parents joins h c = cond (ltb (at joins c) h) (at parents c) c

-- where these ways end
unfoldable pub root_at : (parents joins : List ℕ) (h c : ℕ) → ℕ
root_at parents joins h c = repeat c (up_from parents joins h) c

-- the ends of n cells' ways, as labels
abbrev pub roots_at : (n : ℕ) (parents joins : List ℕ) (h : ℕ) → List ℕ
roots_at n parents joins h = tab n (root_at parents joins h)

-- no height or level is above this, and no wet cell is as high
abbrev pub highest : ℕ
highest = 16000000

module _ (L : Land) (S : List ℕ) where
  -- at every height h the ways of two lower cells end at one cell exactly if a chain of lower cells joins the two. A cell that joined its
  -- parent lower than h has a lesser one, lower than h too
  pub record Forest (parents joins : List ℕ) : Type 0 where
    pub parent_less : (c : ℕ) → c ∈ S → at joins c < highest → at parents c < c
    pub parent_lower : (h c : ℕ) → h ≤ highest → c ∈ lower L h S → at joins c < h → at parents c ∈ lower L h S
    pub chained : (h a b : ℕ) → h ≤ highest → a ∈ lower L h S → b ∈ lower L h S → root_at parents joins h a ≡ root_at parents joins h b → Under L S h a b
    pub grouped : (h a b : ℕ) → h ≤ highest → a ∈ lower L h S → b ∈ lower L h S → Under L S h a b → root_at parents joins h a ≡ root_at parents joins h b

  -- the notes of the set S of wet cells, in lists with an entry for each cell
  pub record Notes (heights flags parents joins : List ℕ) : Type 0 where
    pub few : length heights ≤ 4096
    pub cells : L.cells ≡ length heights
    pub ground : (c : ℕ) → L.height c ≡ at heights c
    pub on_land : (c : ℕ) → c ∈ S → c < L.cells
    pub flags_fit : length heights ≤ length flags
    pub parents_fit : length heights ≤ length parents
    pub joins_fit : length heights ≤ length joins
    pub flagged : Flagged L S (λ c. eqb (at flags c) 1)
    pub forest : Forest parents joins
