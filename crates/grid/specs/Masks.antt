-- Masks of a relation between neighbours: for each cell a bit for each place of its window that the rule has, the first place's bit is 1,
-- the next one's 2, and so on. Where a cell's first receiver stands, its links and the cells that receive to it are such masks.
-- Assumes nothing.
use Rattle.std.specs.Prelude.{Bool, cond, ◌&&◌, ◌||◌, [], List, map, ◌∷◌, ◌≡◌, ℕ, ◌*◌, ◌+◌, ◌<◌, eqb}
use Rattle.grid.specs.Window.{cell_at, on_tile}
use Rattle.lists.specs.Lists.{at}

-- tests as the bits of a number, the first one lowest
abbrev pub bits : List Bool → ℕ
bits [] = 0
bits (t ∷ ts) = cond t 1 0 + 2 * bits ts

-- the bit of place p
abbrev pub bit_of : List ℕ → ℕ → ℕ
bit_of [] p = 0
bit_of (q ∷ qs) p = cond (eqb p q) 1 (2 * bit_of qs p)

-- the tile has a cell at place p of c's window, and E joins c to it
abbrev pub joins_at : (w n : ℕ) → (ℕ → ℕ → Bool) → ℕ → ℕ → Bool
joins_at w n E c p = on_tile w n c p && E c (cell_at w c p)

-- the mask of cell c, on a tile of n cells in rows of w
unfoldable pub mask_of : (places : List ℕ) (w n : ℕ) → (ℕ → ℕ → Bool) → ℕ → ℕ
mask_of places w n E c = bits (map (joins_at w n E c) places)

-- the masks of all n cells say E
abbrev pub Masks : (places : List ℕ) (w n : ℕ) → (ℕ → ℕ → Bool) → List ℕ → Type 0
Masks places w n E masks = (c : ℕ) → c < n → at masks c ≡ mask_of places w n E c

-- d is where c leads to
abbrev pub leads : (ℕ → ℕ) → ℕ → ℕ → Bool
leads f c d = eqb (f c) d

-- one of the two leads to the other
abbrev pub joined : (ℕ → ℕ) → ℕ → ℕ → Bool
joined f c d = eqb (f c) d || eqb (f d) c
