-- Notes on the way to the spills. Where a pair joins two groups of labels, the greater root is hung under the lesser, and both the pair and
-- the lesser root are noted at the greater. A spill is read from its label's note and from the spill of a lesser label.
-- Assumes nothing.
use Rattle.std.specs.Prelude.{cond, List, ◌⊎◌, ◌≡◌, max, min, ℕ, ◌%◌, ◌*◌, ◌+◌, ◌/◌, ◌<◌, ◌≤◌, eqb, length, set}
use Rattle.groups.specs.Groups.{Follows, root_of}
use Rattle.lists.specs.Lists.{at, upto, ◌∈◌}
use Rattle.pairs.specs.Pairs.{greater_of, pair_height}
use Rattle.rules.specs.Chain.{Chain}
use Rattle.spills.specs.Spills.{label_edges, under}

-- what stands at a label that was never hung
abbrev pub no_note : ℕ
no_note = 4294967295

-- pair p and label q in one number
abbrev pub note_of : (p q : ℕ) → ℕ
note_of p q = 65536 * p + q

-- the roots r and s are joined by pair p: it is noted at the greater, with the lesser
abbrev pub noted_at : (p r s : ℕ) → List ℕ → List ℕ
noted_at p r s notes = set notes (max r s) (note_of p (min r s))

-- the notes once pair p has joined the labels a and b, in groups that were g
unfoldable pub noted : List ℕ → (a b p : ℕ) → List ℕ → List ℕ
noted g a b p notes = cond (eqb (root_of g a) (root_of g b)) notes (noted_at p (root_of g a) (root_of g b) notes)

-- label b was hung under a lesser label by a pair of the list: pairs no higher join it with that label, and no lower pairs join it with 0
pub record Hung (w : ℕ) (heights labels list : List ℕ) (b note : ℕ) : Type 0 where
  pub pair : ℕ
  pub parent : ℕ
  pub says : note ≡ note_of pair parent
  pub met : pair ∈ list
  pub lesser : parent < b
  pub way : Chain (label_edges w labels) (under w heights list (pair_height w heights pair)) b parent
  pub apart : (m : ℕ) → m < pair_height w heights pair → Chain (label_edges w labels) (under w heights list m) b 0 → ⊥

-- groups of labels joined along a list of pairs, and the notes that this left
pub record Noting (w : ℕ) (heights labels list g notes : List ℕ) : Type 0 where
  pub sized : length g ≡ 4097
  pub room : 4097 ≤ length notes
  pub groups : Follows (label_edges w labels) (upto 4097) list g
  pub roots : (b : ℕ) → b ≤ 4096 → root_of g b ≡ b → at notes b ≡ no_note
  pub hung : (b : ℕ) → b ≤ 4096 → (root_of g b ≡ b → ⊥) → Hung w heights labels list b (at notes b)

-- the spill that a note says, by spills of lesser labels: the greater of the pair's height and of the noted label's spill
unfoldable pub spill_by : (w : ℕ) (heights spills : List ℕ) (note : ℕ) → ℕ
spill_by w heights spills note = cond (eqb note no_note) 0 (max (pair_height w heights (note / 65536)) (at spills (note % 65536)))

-- a note below b that can be read: there is none, or it is a pair of the tile and a label below b
abbrev pub Readable : (w n b note : ℕ) → Type 0
Readable w n b note = (note ≡ no_note) ⊎ ((greater_of w (note / 65536) < n) × (note % 65536 < b))

-- the spills of all labels below `top`, each by its note
abbrev pub SpillsBy : (w : ℕ) (heights notes : List ℕ) (top : ℕ) (spills : List ℕ) → Type 0
SpillsBy w heights notes top spills = (b : ℕ) → b < top → at spills b ≡ spill_by w heights spills (at notes b)
