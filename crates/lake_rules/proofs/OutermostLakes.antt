-- Outermost lakes, for any levels that keep the local law: "a lake is a largest group of wet cells joined through neighbours". Each wet cell is
-- in exactly one; each is a lake in the set of wet cells, as the pass over them has lakes; and each is a largest group of all the cells
-- lower than its level, wet or not, so that one notion serves for outermost lakes and for those inside.
-- Assumes nothing.
use mathlib.Core.Bool.{true}
use mathlib.Core.List.{List, map}
use mathlib.Core.Path.{ap, subst, sym, ◌∙◌, ◌≡◌}
use Prim.Native.Nat.{max, ℕ, ◌<◌, ◌≤◌}
use native.Mathlib.Omega.{arith}
use Rattle.lake_rules.proofs.GroupsPart.{groups-by-least, groups_cell, groups_only, groups_some}
use Rattle.lake_rules.proofs.Joining.{beside_chain, group_chain, group_is, group_whole, touch_in, touch_is, touches_more}
use Rattle.lake_rules.proofs.Lower.{lower-all, lower_mem, mem_lower, under_more}
use Rattle.lake_rules.proofs.OneLevel.{lake_level, wet_touch}
use Rattle.lake_rules.proofs.WetCells.{wet_ascending, wet_cell, wet_holds, wet_on_land}
use Rattle.lake_rules.specs.Groups.{groups, lower, touches, touching}
use Rattle.lake_rules.specs.Lakes.{level_of, outermost, wet_cells}
use Rattle.lake_rules.specs.LocalLevels.{Local}
use Rattle.lake_rules.specs.Notes.{highest, LakeIn, Under}
use Rattle.lists.proofs.Range.{upto-below, upto_holds}
use Rattle.lists.specs.Ascending.{Ascending}
use Rattle.lists.specs.Lists.{at, upto, ◌∈◌}
use Rattle.rules.proofs.Chains.{mono}
use Rattle.rules.specs.Chain.{back, Chain, forth, here}
use Rattle.rules.specs.Land.{Land}

module _ (L : Land) (levels : List ℕ) where
  abbrev S : List ℕ
  S = wet_cells L levels

  -- each wet cell is in an outermost lake, and in no other
  pub wet-cell_in-one-lake : {c : ℕ} → c < L.cells → L.height c < at levels c
      → (s : List ℕ) × (s ∈ outermost L levels) × (c ∈ s) × ((z : List ℕ) → z ∈ outermost L levels → c ∈ z → z ≡ s)
  unfolding outermost
  wet-cell_in-one-lake h l =
      let r = groups_some L S (wet_ascending L levels) (wet_holds L levels h l) in
      (r.0, r.1, r.2, λ z m i. groups_only L S (wet_ascending L levels) m r.1 i r.2)

  -- and no other cell is in one
  pub lake_cell_wet : {s : List ℕ} → s ∈ outermost L levels → {c : ℕ} → c ∈ s → (c < L.cells) × (L.height c < at levels c)
  unfolding outermost
  lake_cell_wet m i = wet_cell L levels (groups_cell L S (wet_ascending L levels) m i)

  -- "outermost lakes in ascending order of that number", the least cell
  pub outermost-by-least : Ascending (map (λ s. at s 0) (outermost L levels))
  unfolding outermost
  outermost-by-least = groups-by-least L S (wet_ascending L levels)

  -- where no level is above 16,000,000, every wet cell is lower than that: the outermost lakes are the groups below it
  pub outermost-below-highest : ((c : ℕ) → c < L.cells → at levels c ≤ highest) → groups L (lower L highest S) ≡ outermost L levels
  unfolding outermost
  outermost-below-highest b = ap (groups L) (lower-all L highest S (λ c m.
      let k = wet_cell L levels m in
      let l : L.height c < at levels c = k.1 in
      let t : at levels c ≤ highest = b c k.0 in
      omega arith))

  module _ (K : Local L levels) where
    -- every cell of an outermost lake lies below the lake's level
    pub lake_cell_below : {s : List ℕ} → s ∈ outermost L levels → {c : ℕ} → c ∈ s → L.height c < level_of levels s
    lake_cell_below {s} m {c} i =
        let l : L.height c < at levels c = (lake_cell_wet m i).1 in
        let e : at levels c ≡ level_of levels s = lake_level L levels K m i in
        omega arith

    -- a chain of wet cells from one whose level is t is a chain of wet cells lower than t
    chain_below : {a b t : ℕ} → at levels a ≡ t → Chain touching (touches L S) a b → Under L S t a b
    chain_below l (here e) = here e
    chain_below {t = t} l (forth x m e c) =
        let T = touch_is L S m in
        let p : at levels x.lesser ≡ t = ap (at levels) e ∙ l in
        let q : at levels x.greater ≡ t = sym (wet_touch L levels K x m) ∙ p in
        let u = (wet_cell L levels T.one_in).1 in
        let v = (wet_cell L levels T.other_in).1 in
        forth x
        (touch_in L (lower L t S) x.lesser x.greater (lower_mem L t T.one_in (omega arith)) (lower_mem L t T.other_in (omega arith))
        T.ordered T.beside) e
        (chain_below q c)
    chain_below {t = t} l (back x m e c) =
        let T = touch_is L S m in
        let q : at levels x.greater ≡ t = ap (at levels) e ∙ l in
        let p : at levels x.lesser ≡ t = wet_touch L levels K x m ∙ q in
        let u = (wet_cell L levels T.one_in).1 in
        let v = (wet_cell L levels T.other_in).1 in
        back x
        (touch_in L (lower L t S) x.lesser x.greater (lower_mem L t T.one_in (omega arith)) (lower_mem L t T.other_in (omega arith))
        T.ordered T.beside) e
        (chain_below p c)

    -- an outermost lake is a lake in the set of wet cells
    pub outermost-lake : {s : List ℕ} → s ∈ outermost L levels → LakeIn L S (level_of levels s) s
    unfolding outermost
    outermost-lake {s} m =
        let G = group_is L S m in
        let on = wet_on_land L levels in
        let t = level_of levels s in
        record {
          sub = λ c i. lower_mem L t (groups_cell L S (wet_ascending L levels) m i) (lake_cell_below m i);
          joined = λ a b i j. chain_below (lake_level L levels K m i) (group_chain L S on G i j);
          whole = λ a b i j c. group_whole L S on G i (mem_lower L t S j).0 (mono (touches_more L (λ d k. (mem_lower L t S k).0)) c);
        }

    -- a neighbour of a lake's cell that is lower than the lake's level is wet, and in the lake
    pub lower_neighbour_in : {s : List ℕ} → s ∈ outermost L levels → {c d : ℕ} → c ∈ s → d < L.cells → L.beside c d ≡ true
        → L.height d < level_of levels s
        → d ∈ s
    unfolding outermost
    lower_neighbour_in {s} m {c} {d} i h b l =
        let w = lake_cell_wet m i in
        let e : at levels c ≡ level_of levels s = lake_level L levels K m i in
        let u : L.height c < at levels c = w.1 in
        let v : at levels c ≤ max (L.height c) (at levels d) = K.low c d w.0 h b in
        let n : d ∈ S = wet_holds L levels h (omega arith) in
        group_whole L S (wet_on_land L levels) (group_is L S m) i n
        (beside_chain L K.both_ways S (groups_cell L S (wet_ascending L levels) m i) n b)

    -- so are all that a chain of such cells joins to it
    lower_chain_in : {s : List ℕ} → s ∈ outermost L levels → {a b : ℕ} → a ∈ s → Under L (upto L.cells) (level_of levels s) a b → b ∈ s
    lower_chain_in {s} m i (here e) = subst (λ (z : ℕ). z ∈ s) e i
    lower_chain_in {s} m i (forth x j e c) =
        let T = touch_is L (lower L (level_of levels s) (upto L.cells)) j in
        let d = mem_lower L (level_of levels s) (upto L.cells) T.other_in in
        lower_chain_in m
        (lower_neighbour_in m (subst (λ (z : ℕ). z ∈ s) (sym e) i) (upto-below d.0) T.beside d.1) c
    lower_chain_in {s} m i (back x j e c) =
        let T = touch_is L (lower L (level_of levels s) (upto L.cells)) j in
        let d = mem_lower L (level_of levels s) (upto L.cells) T.one_in in
        lower_chain_in m
        (lower_neighbour_in m (subst (λ (z : ℕ). z ∈ s) (sym e) i) (upto-below d.0) (K.both_ways x.lesser x.greater T.beside) d.1) c

    -- an outermost lake is a largest group of all cells lower than its level
    pub outermost_largest : {s : List ℕ} → s ∈ outermost L levels → LakeIn L (upto L.cells) (level_of levels s) s
    outermost_largest {s} m =
        let t = level_of levels s in
        record {
          sub = λ c i. lower_mem L t (upto_holds (lake_cell_wet m i).0) (lake_cell_below m i);
          joined = λ a b i j. under_more L (λ c k. upto_holds (wet_on_land L levels c k)) (omega arith) ((outermost-lake m).joined a b i j);
          whole = λ a b i j c. lower_chain_in m i c;
        }
