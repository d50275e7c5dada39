-- The spill of a label: the least height such that pairs no higher join it with label 0, the outlets'. The level of a
-- cell in the manner Carve (rule 7) is the greater of its height and of its label's spill.
-- Assumes nothing.
use Rattle.std.specs.Prelude.{List, ◌≡◌, max, ℕ, ◌<◌, ◌≤◌, leb, length}
use Rattle.lists.specs.Lists.{at, keep}
use Rattle.pairs.specs.Pairs.{greater_of, lesser_of, pair_height, Pairs}
use Rattle.rules.specs.Chain.{Chain, Edges}

-- pairs as edges between the labels of their cells
abbrev pub label_edges : (w : ℕ) (labels : List ℕ) → Edges ℕ
label_edges w labels = record { one = λ p. at labels (lesser_of p); other = λ p. at labels (greater_of w p) }

-- of a list of pairs those no higher than m
unfoldable pub under : (w : ℕ) (heights list : List ℕ) (m : ℕ) → List ℕ
under w heights list m = keep (λ p. leb (pair_height w heights p) m) list

-- s is the spill of label b: pairs no higher than s join it with 0, and s is the least such height
pub record Spill (w : ℕ) (heights labels list : List ℕ) (b s : ℕ) : Type 0 where
  pub enough : Chain (label_edges w labels) (under w heights list s) b 0
  pub least : (m : ℕ) → Chain (label_edges w labels) (under w heights list m) b 0 → s ≤ m

-- a tile's heights and labels, and pairs of it by ascending height that join each label with 0
pub record Spilling (w : ℕ) (heights labels list : List ℕ) : Type 0 where
  pub wide : 0 < w
  pub narrow : w ≤ 64
  pub few : length heights ≤ 4096
  pub labelled : length labels ≡ length heights
  pub small : (c : ℕ) → c < length labels → at labels c ≤ 4096
  pub pairs : Pairs w (length heights) list
  pub climbs : (i j : ℕ) → i < j → j < length list → pair_height w heights (at list i) ≤ pair_height w heights (at list j)
  pub reached : (c : ℕ) → c < length labels → Chain (label_edges w labels) list (at labels c) 0

-- each height raised to its label's spill
pub record Raised (w : ℕ) (heights labels list after : List ℕ) : Type 0 where
  pub long : length after ≡ length heights
  pub raised : (c : ℕ) → c < length heights → (s : ℕ) × Spill w heights labels list (at labels c) s × (at after c ≡ max (at heights c) s)
