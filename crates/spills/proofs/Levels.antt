-- From ordered pairs to levels: a label's spill over these pairs is that of its node over the crossings, so that each height raised to its
-- label's spill is carving's level.
-- Assumes nothing.
use mathlib.Core.Bool.{true}
use mathlib.Core.List.{List, map}
use mathlib.Core.Logic.{inl, inr, ◌⊎◌}
use mathlib.Core.Path.{ap, refl, subst, sym, ◌∙◌, ◌≡◌}
use Prim.Native.Nat.{ℕ, ◌<◌, ◌≤◌}
use native.Mathlib.Omega.{arith}
use lib.Arith.{digits_lt}
use lib.ListN.{length}
use Rattle.groups.proofs.Renamed.{renamed}
use Rattle.lists.proofs.At.{at_member}
use Rattle.lists.proofs.Map.{map_holds, map_member}
use Rattle.lists.proofs.Tab.{tab-is}
use Rattle.lists.proofs.Tests.{lt_or_ge}
use Rattle.lists.specs.Ascending.{AscendingBy}
use Rattle.lists.specs.Lists.{at, ◌∈◌}
use Rattle.pairs.proofs.Pairs.{pair_small}
use Rattle.pairs.specs.Pairs.{crossing_of, greater_of, lesser_of, pair_height, pair_key, Pairs}
use Rattle.rules.proofs.ChosenPasses.{to-outlets, under-chosen, under-m}
use Rattle.rules.proofs.Crossings.{crosses, node-root}
use Rattle.rules.proofs.FirstReceivers.{first_outlet, singular_of_self}
use Rattle.rules.specs.Carving.{receivers}
use Rattle.rules.specs.Chain.{Chain, Edges}
use Rattle.rules.specs.Land.{Land, rule_by}
use Rattle.rules.specs.Network.{carved_levels, level}
use Rattle.rules.specs.Passes.{chosen, Crossing, crossing_height, crossings, edges, node}
use Rattle.rules.specs.Tile.{tile_land}
use Rattle.rules.specs.Way.{arrive, step, Way}
use Rattle.spills.proofs.Under.{under_holds, under_member}
use Rattle.spills.proofs.Ways.{spill_level}
use Rattle.spills.specs.Levels.{Levelling}
use Rattle.spills.specs.Spills.{label_edges, Raised, Spilling, under}
use Rattle.grid.specs.declared.Neighbours.{Neighbours}

-- a way ends at an outlet
way_end : {L : Land} {c m : ℕ} → Way L c m → (o : ℕ) × (o < L.cells) × (L.outlet o ≡ true)
way_end (arrive {c = o} h t) = (o, h, t)
way_end (step h b w) = way_end w

-- an outlet's node is the outlets'
node_outlet : (L : Land) (o : ℕ) → L.outlet o ≡ true → node L o ≡ L.cells
node_outlet L o t =
    node-root L o (subst (λ (a : ℕ). L.outlet a ≡ true) (sym (singular_of_self L o (first_outlet L o t))) t)

-- what is read as a crossing, as an edge between its two cells
abbrev cell_edges : {A : Type 0} → (A → Crossing) → Edges A
cell_edges cross = record { one = λ p. (cross p).lesser; other = λ p. (cross p).greater }

-- pairs that ascend by height and number never fall
pairs_climb : (w : ℕ) (heights s : List ℕ) → length heights ≤ 4096 → Pairs w (length heights) s → AscendingBy (pair_key w heights) s
    → (i j : ℕ) → i < j → j < length s → pair_height w heights (at s i) ≤ pair_height w heights (at s j)
pairs_climb w heights s few near a i j l k = go (lt_or_ge (pair_height w heights (at s j)) (pair_height w heights (at s i)))
  where
    go : (pair_height w heights (at s j) < pair_height w heights (at s i)) ⊎ (pair_height w heights (at s i) ≤ pair_height w heights (at s j))
        → pair_height w heights (at s i) ≤ pair_height w heights (at s j)
    go (inl h) =
        let small = pair_small w (length heights) (at s j) (near (at s j) (at_member s j k)) few in
        absurd (omega (arith, a i j l k, digits_lt h small))
    go (inr h) = h

module _ {N : Neighbours} {w : ℕ} {heights marks labels pairs : List ℕ} (O : Levelling N w heights marks labels pairs) where
  abbrev L : Land
  L = tile_land (rule_by N) w heights marks

  abbrev On : ℕ → Type 0
  On c = c < length labels

  -- pairs and their crossings
  ends : (p : ℕ) → p ∈ pairs → On (lesser_of p) × On (greater_of w p)
  ends p m =
      let C = crosses L (crossing_of w p) (O.enough.only (crossing_of w p) (map_holds (crossing_of w) m)) in
      (omega (arith, C.on_lo, O.sized), omega (arith, C.on_hi, O.sized))

  -- some of the pairs join a cell's label with 0, and so their crossings join its node with the outlets
  to_nodes : (es : List ℕ) → ((p : ℕ) → p ∈ es → p ∈ pairs) → (c : ℕ) → On c → Chain (label_edges w labels) es (at labels c) 0
      → Chain (edges L) (map (crossing_of w) es) (node L c) L.cells
  to_nodes es inside c h chain =
      let (o, k, t) = way_end (O.lawful.some_way c (omega (arith, O.sized)) refl).1 in
      let on : On o = omega (arith, O.sized) in
      subst (Chain (edges L) (map (crossing_of w) es) (node L c)) (node_outlet L o t)
      (renamed (cell_edges (crossing_of w)) (cell_edges (λ y. y)) (at labels) (node L) On
      (λ a b i j e. O.labelled.same a b (omega (arith, O.sized)) (omega (arith, O.sized)) e)
      (λ p m. ends p (inside p m))
      (λ p m. record { edge = crossing_of w p; isin = map_holds (crossing_of w) m; one = refl; other = refl })
      chain c o h on refl (O.outlets o on t))

  -- the other way round, for crossings that are those of some of the pairs
  to-labels : (K : List Crossing) (es : List ℕ) → ((x : Crossing) → x ∈ K → (p : ℕ) × (p ∈ es) × (x ≡ crossing_of w p))
      → ((p : ℕ) → p ∈ es → p ∈ pairs) → (c : ℕ) → On c → Chain (edges L) K (node L c) L.cells → Chain (label_edges w labels) es (at labels c) 0
  to-labels K es found inside c h chain =
      let (o, k, t) = way_end (O.lawful.some_way c (omega (arith, O.sized)) refl).1 in
      let on : On o = omega (arith, O.sized) in
      subst (Chain (label_edges w labels) es (at labels c)) (O.outlets o on t)
      (renamed (cell_edges (λ y. y)) (cell_edges (crossing_of w)) (node L) (at labels) On
      (λ a b i j e. O.labelled.told a b (omega (arith, O.sized)) (omega (arith, O.sized)) e)
      (λ x m. let (p, i, e) = found x m in subst (λ (z : Crossing). On z.lesser × On z.greater) (sym e) (ends p (inside p i)))
      (λ x m. let (p, i, e) = found x m in record {
        edge = p;
        isin = i;
        one = ap (λ (z : Crossing). z.lesser) (sym e);
        other = ap (λ (z : Crossing). z.greater) (sym e);
      })
      chain c o h on refl (node_outlet L o t))

  -- a chosen pass is the crossing of one of the pairs
  pair_of : (x : Crossing) → x ∈ chosen L → (p : ℕ) × (p ∈ pairs) × (x ≡ crossing_of w p)
  pair_of x m = let (p, i, e) = map_member (crossing_of w) pairs (O.enough.all x m) in (p, i, e)

  -- such labels and pairs are what raising by spills asks for
  pub spilling : Spilling w heights labels pairs
  spilling =
      record {
        wide = O.tile.grid.rows.wide;
        narrow = O.tile.grid.narrow;
        few = O.tile.grid.few;
        labelled = O.sized;
        small = O.small;
        pairs = O.neighbours;
        climbs = pairs_climb w heights pairs O.tile.grid.few O.neighbours O.ascending;
        reached = λ c h. to-labels (chosen L) pairs pair_of (λ p m. m) c h (to-outlets L O.lawful c (omega (arith, O.sized)) refl);
      }

  low_pair : (m : ℕ) (x : Crossing) → x ∈ under-m L m → (p : ℕ) × (p ∈ under w heights pairs m) × (x ≡ crossing_of w p)
  unfolding crossing_height
  low_pair m x i =
      let (j, h) = under-chosen L i in
      let (p, k, e) = pair_of x j in
      (p, under_holds w heights pairs m k (subst (λ (z : Crossing). crossing_height L z ≤ m) e h), e)

  inside_under : (m p : ℕ) → p ∈ under w heights pairs m → p ∈ pairs
  inside_under m p i = (under_member w heights pairs m i).0

  low_crossing : (m : ℕ) (x : Crossing) → x ∈ map (crossing_of w) (under w heights pairs m) → (x ∈ crossings L) × (crossing_height L x ≤ m)
  unfolding crossing_height
  low_crossing m x i =
      let (p, k, e) = map_member (crossing_of w) (under w heights pairs m) i in
      let (j, t) = under_member w heights pairs m k in (
        O.enough.only x (subst (λ (z : Crossing). z ∈ map (crossing_of w) pairs) (sym e) (map_holds (crossing_of w) j)),
        subst (λ (z : Crossing). crossing_height L z ≤ m) (sym e) t,
      )

  -- each height raised to its label's spill is carving's level
  pub raised_levels : (after : List ℕ) → Raised w heights labels pairs after → after ≡ carved_levels L
  raised_levels after R = sym (tab-is (level L (receivers L)) after (length heights) 0 R.long (λ c h. sym (level_at_fact c h)))
    where
      level_at_fact : (c : ℕ) → c < length heights → at after c ≡ level L (receivers L) c
      level_at_fact c h =
          let (s, S, e) = R.raised c h in
          let on : On c = omega (arith, O.sized) in
          e ∙ sym (spill_level L O.lawful c h refl s (map (crossing_of w) (under w heights pairs s)) (low_crossing s)
          (to_nodes (under w heights pairs s) (inside_under s) c on S.enough)
          (λ m chain. S.least m (to-labels (under-m L m) (under w heights pairs m) (low_pair m) (inside_under m) c on chain)))
