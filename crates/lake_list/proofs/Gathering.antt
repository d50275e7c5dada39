-- The cells of a lake gathered at a height: the groups by where the ways of the forest end are the groups of neighbours, so what is
-- gathered are lakes that stand one after the other.
-- Assumes nothing.
use mathlib.Core.List.Memᴰ.{cases_cons as in-cases}
use mathlib.Core.List.Memᴰ.{head as in_head}
use mathlib.Core.List.Memᴰ.{not-nil as in-none}
use mathlib.Core.List.{[], append_assoc, List}
use mathlib.Core.List.Memᴰ.{tail as in_Tail}
use mathlib.Core.List.{◌++◌, ◌∷◌}
use mathlib.Core.Logic.{inl, inr, ◌⊎◌}
use mathlib.Core.Path.{ap, refl, subst, sym, ◌∙◌, ◌≡◌}
use Prim.Native.Nat.{ℕ, ◌*◌, ◌+◌, ◌<◌, ◌≤◌}
use native.Mathlib.Omega.{arith}
use lib.Dec.{eqb, ltb}
use lib.ListN.{drop, length, length-append, length-drop}
use lib.Seq.{drop_at}
use borrow.Author.Tests.{eq-eqb, eqb-true}
use Rattle.lake_groups.proofs.Ways.{root_parent}
use Rattle.lake_groups.specs.Gathering.{dry, Ends, Gatherable, Gathered, gathered}
use Rattle.lake_list.specs.Listing.{LakeOf, NotedLakes}
use Rattle.lake_rules.proofs.Joining.{touches_within}
use Rattle.lake_rules.proofs.Labelling.{by_label_same}
use Rattle.lake_rules.proofs.Lower.{lower_mem, mem_lower, under_more}
use Rattle.lake_rules.specs.Groups.{by_label, groups, lower, touches, touching}
use Rattle.lake_rules.specs.Notes.{highest, Notes, root_at, roots_at, Under}
use Rattle.lists.proofs.At.{member_some}
use Rattle.lists.proofs.Keep.{keep_same}
use Rattle.lists.proofs.Tab.{tab-at}
use Rattle.lists.proofs.Tests.{same_test}
use Rattle.lists.specs.Ascending.{Ascending}
use Rattle.lists.specs.Lists.{at, flat, overwrite, ◌∈◌}
use Rattle.rules.proofs.Labels.{chained, labelled as one_Label}
use Rattle.rules.specs.Chain.{labels}
use Rattle.rules.specs.Land.{Land}

-- a part of the wet cells that no chain of cells lower than h leaves
pub record Closed (L : Land) (S : List ℕ) (h : ℕ) (s : List ℕ) : Type 0 where
  pub sub : (c : ℕ) → c ∈ s → c ∈ S
  pub whole : (a b : ℕ) → a ∈ s → b ∈ lower L h S → Under L S h a b → b ∈ s
  pub stays : {a b : ℕ} → a ∈ s → Under L S h a b → Under L s h a b

-- lists that are not empty: there are no more of them than entries
no_more : (gs : List (List ℕ)) → ((g : List ℕ) → g ∈ gs → 0 < length g) → length gs ≤ length (flat (λ g. g) gs)
no_more [] some = omega arith
no_more (g ∷ gs) some =
    omega (arith, some g (in_head refl), no_more gs (λ z m. some z (in_Tail m)), length-append g (flat (λ g. g) gs))

-- and each has no more entries than they all have, less one for each of the others
pub room_left_lem : (gs : List (List ℕ)) → ((g : List ℕ) → g ∈ gs → 0 < length g) → {g : List ℕ} → g ∈ gs
    → length g + length gs ≤ length (flat (λ g. g) gs) + 1
room_left_lem [] some m = absurd (in-none m)
room_left_lem (z ∷ gs) some {g} m = go (in-cases m) (room_left_lem gs (λ y i. some y (in_Tail i)))
  where
    all : length (z ++ flat (λ g. g) gs) ≡ length z + length (flat (λ g. g) gs)
    all = length-append z (flat (λ g. g) gs)

    go : (g ≡ z) ⊎ (g ∈ gs) → (g ∈ gs → length g + length gs ≤ length (flat (λ g. g) gs) + 1)
        → length g + length (z ∷ gs) ≤ length (flat (λ g. g) (z ∷ gs)) + 1
    go (inl e) ih = omega (arith, ap length e, no_more gs (λ y i. some y (in_Tail i)), all)
    go (inr i) ih = omega (arith, ih i, some z (in_head refl), all)

module _ {L : Land} {S heights flags parents joins : List ℕ} (N : Notes L S heights flags parents joins) (u : Ascending S) (h : ℕ) (top : h ≤ highest) where
  low : {c : ℕ} → c ∈ S → at heights c < h → c ∈ lower L h S
  low {c} m l = lower_mem L h m (rw (N.ground c) l)

  abbrev up : ℕ → ℕ
  up c = at parents c

  parent_in : (c : ℕ) → c ∈ S → at heights c < h → at joins c < h → up c ∈ lower L h S
  parent_in c m l j = N.forest.parent_lower h c top (low m l) j

  parent_less : (c : ℕ) → c ∈ S → at joins c < h → up c < c
  parent_less c m j = N.forest.parent_less c m (omega arith)

  parent_lower : (c : ℕ) → c ∈ S → at heights c < h → at joins c < h → at heights (up c) < h
  parent_lower c m l j = omega (arith, (mem_lower L h S (parent_in c m l j)).1, N.ground (up c))

  on_tile_fact : (c : ℕ) → c ∈ S → c < length heights
  on_tile_fact c m = omega (arith, N.on_land c m, N.cells)

  all_gatherable : Gatherable heights parents joins h S
  all_gatherable =
      record {
        few = N.few;
        parents_fit = N.parents_fit;
        joins_fit = N.joins_fit;
        on_tile_fact = on_tile_fact;
        ascending = u;
        parent_in = λ c m l j. (mem_lower L h S (parent_in c m l j)).0;
        parent_lower = parent_lower;
        parent_less = λ c m l j. parent_less c m j;
      }

  module _ {s : List ℕ} (C : Closed L S h s) (v : Ascending s) where
    pub gatherable : Gatherable heights parents joins h s
    gatherable =
        record {
          few = N.few;
          parents_fit = N.parents_fit;
          joins_fit = N.joins_fit;
          on_tile_fact = λ c m. on_tile_fact c (C.sub c m);
          ascending = v;
          parent_in = λ c m l j.
              let i = C.sub c m in
              let p = parent_in c i l j in
              C.whole c (up c) m p (N.forest.chained h c (up c) top (low i l) p (root_parent all_gatherable c i l j));
          parent_lower = λ c m l j. parent_lower c (C.sub c m) l j;
          parent_less = λ c m l j. parent_less c (C.sub c m) j;
        }

    abbrev wet : List ℕ
    wet = lower L h s

    abbrev roots : List ℕ
    roots = roots_at (length heights) parents joins h

    abbrev ls : List ℕ
    ls = labels touching L.cells (touches L wet)

    in_all : {c : ℕ} → c ∈ wet → c ∈ lower L h S
    in_all m = let k = mem_lower L h s m in lower_mem L h (C.sub _ k.0) k.1

    on_land : (c : ℕ) → c ∈ wet → c < L.cells
    on_land c m = N.on_land c (mem_lower L h S (in_all m)).0

    root_is : (c : ℕ) → c ∈ wet → at roots c ≡ root_at parents joins h c
    root_is c m = tab-at (root_at parents joins h) (length heights) c 0 (on_tile_fact c (mem_lower L h S (in_all m)).0)

    -- the ways of the forest tell the same cells apart as the labels of the groups
    same : (a b : ℕ) → a ∈ wet → b ∈ wet → eqb (at roots a) (at roots b) ≡ eqb (at ls a) (at ls b)
    same a b m n =
        same_test (eqb (at roots a) (at roots b)) (eqb (at ls a) (at ls b))
        (λ t.
        let e : root_at parents joins h a ≡ root_at parents joins h b = sym (root_is a m) ∙ eqb-true (at roots a) (at roots b) t ∙ root_is b n in
        let c = C.stays (mem_lower L h s m).0 (N.forest.chained h a b top (in_all m) (in_all n) e) in
        eq-eqb (at ls a) (at ls b) (one_Label touching L.cells (touches L wet) (touches_within L wet on_land) c))
        (λ t.
        let c = chained touching L.cells (touches L wet) a b (touches_within L wet on_land) (on_land a m) (on_land b n) (eqb-true (at ls a) (at ls b) t) in
        eq-eqb (at roots a) (at roots b)
        (root_is a m ∙ N.forest.grouped h a b top (in_all m) (in_all n) (under_more L C.sub (omega arith) c) ∙ sym (root_is b n)))

    pub gathered_groups : gathered heights parents joins h s ≡ groups L (lower L h s)
    unfolding gathered groups lower
    gathered_groups =
        ap (by_label roots) (keep_same (λ c. ltb (at heights c) h) (λ c. ltb (L.height c) h) s (λ c m. ap (λ (z : ℕ). ltb z h) (sym (N.ground c))))
        ∙ by_label_same wet roots ls same

    module _ {before cells ends : List ℕ} {count : ℕ} (G : Gathered heights parents joins h s before cells ends count)
        (full : length cells ≡ length before) (fits : length before ≡ length s) where
      abbrev gs : List (List ℕ)
      gs = groups L (lower L h s)

      abbrev high : List ℕ
      high = dry heights h s

      pub gathered_cells : cells ≡ (high ++ flat (λ g. g) gs) ++ drop (length (high ++ flat (λ g. g) gs)) before
      gathered_cells = G.cells_are ∙ ap (λ (z : List (List ℕ)). overwrite (high ++ flat (λ g. g) z) before) gathered_groups

      -- the cells of the groups and the others are no more than the set's
      pub gathered_few : length high + length (flat (λ g. g) gs) ≤ length s
      gathered_few =
          omega (
            arith,
            ap length gathered_cells,
            length-append (high ++ flat (λ g. g) gs) (drop (length (high ++ flat (λ g. g) gs)) before),
            length-drop (length (high ++ flat (λ g. g) gs)) before,
            length-append high (flat (λ g. g) gs),
          )

      -- what is gathered are lakes, where each group is one
      unfoldable pub gathered_lakes : (level_of : List ℕ → ℕ) → ((g : List ℕ) → g ∈ gs → LakeOf L S (level_of g) g)
          → 2 * length s + 2 ≤ length ends + 2 * length high
          → NotedLakes heights flags parents joins level_of cells ends count
      gathered_lakes level_of lakes room =
          record {
            land = L;
            wet = S;
            wet_ascending = u;
            notes = N;
            gs = gs;
            rest = drop (length (high ++ flat (λ g. g) gs)) before;
            count_is = G.count_is ∙ ap length gathered_groups;
            cells_are =
                ap (λ (i : ℕ). drop i cells) G.first_is_fact
                ∙ ap (drop (length high)) (gathered_cells ∙ append_assoc high (flat (λ g. g) gs) (drop (length (high ++ flat (λ g. g) gs)) before))
                ∙ drop_at high (flat (λ g. g) gs ++ drop (length (high ++ flat (λ g. g) gs)) before) (length high) refl;
            ends_are = rw G.first_is_fact (subst (λ (z : List (List ℕ)). Ends z (length high) 1 ends) gathered_groups G.ends_are);
            lakes = lakes;
            ends_fit = λ g m.
                omega (arith, member_some m, room_left_lem gs (λ z i. (lakes z i).some) m, gathered_few, G.count_is ∙ ap length gathered_groups);
          }

      pub gathered_count : ((g : List ℕ) → g ∈ gs → 0 < length g) → count ≤ length s
      gathered_count some = omega (arith, no_more gs some, gathered_few, G.count_is ∙ ap length gathered_groups)
