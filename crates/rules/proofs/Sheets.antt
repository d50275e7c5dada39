-- W-205: the receivers of sheet flow, over any levels with which each solid cell has a count. A cell receives to a neighbour that is strictly
-- lower, or to one of its level whose count is one less. Carving's levels are such: carving's own receivers lead each cell to where a count ends.
-- Assumes nothing.
use mathlib.Core.Bool.{Bool, false, true, true≢false, ◌&&◌}
use mathlib.Core.List.{List}
use mathlib.Core.Logic.{inl, inr, ◌⊎◌}
use mathlib.Core.Path.{ap, refl, subst, sym, ◌∙◌, ◌≡◌}
use Prim.Native.Nat.{suc, zero, ℕ, ◌<◌, ◌≤◌}
use native.Mathlib.Omega.{arith}
use lib.Dec.{eqb}
use borrow.Author.Tests.{eq-eqb, eqb-true}
use Rattle.lists.proofs.Find.{find_before, find-below, find_found}
use Rattle.lists.proofs.Tab.{tab-at}
use Rattle.lists.proofs.Tests.{and_both, and_left, and_right, is, isnt, Known, known, lt_or_ge, or_left, or_right}
use Rattle.lists.specs.Find.{find}
use Rattle.lists.specs.Lists.{at, tab, ◌∈◌}
use Rattle.rules.proofs.Levels.{level-receiver}
use Rattle.rules.proofs.Lowest.{arrives, receivers-beside}
use Rattle.rules.proofs.Orders.{runs_on}
use Rattle.rules.proofs.SheetEntries.{ends-not, entry_falling, entry_level, falls-to, lower-one, neighbours_holds, neighbours_member}
use Rattle.rules.proofs.SheetEntries.{to-lowest}
use Rattle.rules.specs.Carving.{receivers}
use Rattle.rules.specs.FirstWays.{neighbours}
use Rattle.rules.specs.Land.{Land}
use Rattle.rules.specs.Network.{carved_levels, level, receivers_by}
use Rattle.rules.specs.Sheet.{count, ends_count, falls, level_step, sheet_receivers}
use Rattle.rules.specs.SheetLaw.{FewestSteps, ToOneLess}
use Rattle.rules.specs.Way.{done, Lawful, more, Runs}
use Rattle.spread.proofs.Fewest.{fewest_any, steps_on}
use Rattle.spread.specs.Steps.{alike, arrived, Fewest, onward, Steps}
use Rattle.rules.specs.declared.Manner.TheVariants.{Sheet}

-- the fewest number of steps is one number
pub fewest-one : {n : ℕ} {E : ℕ → ℕ → Bool} {marked : ℕ → Bool} {c j k : ℕ} → Fewest n E marked c j → Fewest n E marked c k → j ≡ k
fewest-one {j = j} {k = k} F G = let a = F.least k G.way in let b = G.least j F.way in omega arith

module _ (L : Land) (levels : List ℕ) where
  -- a way of k steps to where a count ends
  abbrev pub Counts : ℕ → ℕ → Type 0
  Counts c k = Steps L.cells (alike L.beside (at levels)) (ends_count L levels) c k

  -- a cell receives to a neighbour that is strictly lower, or to one of its level whose count is one less
  pub data Goes (c e : ℕ) : Type 0 where
    goes_down : e < L.cells → L.beside c e ≡ true → at levels e < at levels c → Goes c e
    goes_level : e < L.cells → L.beside c e ≡ true → at levels e ≡ at levels c → suc (count L levels e) ≡ count L levels c → Goes c e

  -- where each solid cell has a count
  module _ (W : Lawful L) (some : (c : ℕ) → c < L.cells → L.solid c ≡ true → (k : ℕ) × Counts c k) where
    pub counted : (c : ℕ) → c < L.cells → L.solid c ≡ true → FewestSteps L levels c (count L levels c)
    unfolding count
    counted c h s =
        let (k, w) = some c h s in (fewest_any L.cells (alike L.beside (at levels)) (ends_count L levels) c k w).1

    pub neighbour_counted : (c d : ℕ) → d ∈ neighbours L c → FewestSteps L levels d (count L levels d)
    neighbour_counted c d m =
        let (h, b) = neighbours_member L c d m in counted d h (W.neighbour_solid d c (W.mutual_neighbours c d b))

    -- a cell where the count doesn't end has a neighbour of its level whose count is one less
    record OneLess (c d : ℕ) : Type 0 where
      pub neighbour : d ∈ neighbours L c
      pub same_level : at levels d ≡ at levels c
      pub less : suc (count L levels d) ≡ count L levels c

    some_less : (c : ℕ) → c < L.cells → L.solid c ≡ true → ends_count L levels c ≡ false → (d : ℕ) × OneLess c d
    some_less c h s n = go (count L levels c) refl (counted c h s).way
      where
        -- the next cell on the way
        next : (d k : ℕ) → alike L.beside (at levels) c d ≡ true → Counts d k → count L levels c ≡ suc k → (d : ℕ) × OneLess c d
        next d k e w q =
            let m = neighbours_holds L c d (steps_on L.cells (alike L.beside (at levels)) (ends_count L levels) w) (and_left _ _ e) in
            let D = neighbour_counted c d m in
            let x = D.least k w in
            let y = (counted c h s).least (suc (count L levels d)) (onward h e D.way) in
            (d, record { neighbour = m; same_level = eqb-true _ _ (and_right (L.beside c d) _ e); less = omega arith })

        go : (m : ℕ) → count L levels c ≡ m → Counts c m → (d : ℕ) × OneLess c d
        go zero q (arrived l t) = absurd (true≢false (sym t ∙ n))
        go (suc k) q (onward {d = d} l e w) = next d k e w q

    -- the test that finds it, by the list of all counts
    abbrev counts : List ℕ
    counts = tab L.cells (count L levels)

    one_less_fact : (c d : ℕ) → Bool
    one_less_fact c d = alike L.beside (at levels) c d && eqb (suc (at counts d)) (at counts c)

    less-test : (c d : ℕ) → c < L.cells → OneLess c d → one_less_fact c d ≡ true
    unfolding one_less_fact
    less-test c d h l =
        let (i, b) = neighbours_member L c d l.neighbour in
        and_both _ _ (and_both _ _ b (eq-eqb _ _ l.same_level))
        (eq-eqb _ _ (ap suc (tab-at (count L levels) L.cells d 0 i) ∙ l.less ∙ sym (tab-at (count L levels) L.cells c 0 h)))

    test_less : (c d : ℕ) → c < L.cells → d < L.cells → one_less_fact c d ≡ true → OneLess c d
    unfolding one_less_fact
    test_less c d h i t =
        let a = and_left (alike L.beside (at levels) c d) _ t in
        let e = eqb-true _ _ (and_right (alike L.beside (at levels) c d) _ t) in
        record {
          neighbour = neighbours_holds L c d i (and_left _ _ a);
          same_level = eqb-true _ _ (and_right (L.beside c d) _ a);
          less = ap suc (sym (tab-at (count L levels) L.cells d 0 i)) ∙ e ∙ tab-at (count L levels) L.cells c 0 h;
        }

    step_less : (c : ℕ) → c < L.cells → L.solid c ≡ true → ends_count L levels c ≡ false
        → OneLess c (level_step L levels counts c)
    unfolding level_step one_less_fact
    step_less c h s n =
        let (d, l) = some_less c h s n in
        let f = find-below (one_less_fact c) L.cells d (neighbours_member L c d l.neighbour).0 (less-test c d h l) in
        test_less c (find (one_less_fact c) L.cells) h f (find_found (one_less_fact c) L.cells f)

    step_first : (c d : ℕ) → c < L.cells → OneLess c d → level_step L levels counts c ≤ d
    unfolding level_step one_less_fact
    step_first c d h l = go (lt_or_ge d (find (one_less_fact c) L.cells))
      where
        go : (d < find (one_less_fact c) L.cells) ⊎ (find (one_less_fact c) L.cells ≤ d) → find (one_less_fact c) L.cells ≤ d
        go (inl b) = absurd (true≢false (sym (less-test c d h l) ∙ find_before (one_less_fact c) L.cells d b))
        go (inr b) = b

    -- the least number with such a count
    pub to_one_less : (c : ℕ) → c < L.cells → L.solid c ≡ true → ends_count L levels c ≡ false
        → ToOneLess L levels c (level_step L levels counts c)
    to_one_less c h s n =
        record {
          neighbour = l.neighbour;
          same_level = l.same_level;
          steps = count L levels d;
          counts = neighbour_counted c d l.neighbour;
          one_more = subst (FewestSteps L levels c) (sym l.less) (counted c h s);
          first = λ e m q F. step_first c e h
              (record { neighbour = m; same_level = q; less = ap suc (fewest-one (neighbour_counted c e m) F) ∙ l.less });
        }
      where
        d : ℕ
        d = level_step L levels counts c

        l : OneLess c d
        l = step_less c h s n

    pub receiver_goes : (c : ℕ) → c < L.cells → L.solid c ≡ true → L.outlet c ≡ false → Goes c (at (sheet_receivers L levels) c)
    receiver_goes c h s o = go (known (falls L levels c))
      where
        go : Known (falls L levels c) → Goes c (at (sheet_receivers L levels) c)
        go (is f) =
            let (d, m, l) = lower-one L levels c f in
            let T = to-lowest L levels c d o m l in
            let (i, b) = neighbours_member L c _ T.neighbour in
            subst (Goes c) (sym (entry_falling L levels c h s o f)) (goes_down i b T.lower)
        go (isnt f) =
            let l = step_less c h s (ends-not L levels c o f) in
            let (i, b) = neighbours_member L c _ l.neighbour in
            subst (Goes c) (sym (entry_level L levels c h s o f)) (goes_level i b l.same_level l.less)

-- ---- carving's levels
pub carved-at : (L : Land) (c : ℕ) → c < L.cells → at (carved_levels L) c ≡ level L (receivers L) c
carved-at L c h = tab-at (level L (receivers L)) L.cells c 0 h

module _ (L : Land) (W : Lawful L) where
  -- along carving's receivers no level rises: they lead to an outlet of the cell's level, or to a cell with a strictly lower neighbour
  runs_count : {c j : ℕ} → Runs L (at (receivers L)) c j → (k : ℕ) × Counts L (carved_levels L) c k
  unfolding ends_count
  runs_count (done h o) = (0, arrived h (or_left _ _ o))
  runs_count (more {c = a} h s o w) = go (lt_or_ge (at (carved_levels L) b) (at (carved_levels L) a)) (runs_count w)
    where
      b : ℕ
      b = at (receivers L) a

      no_rise : at (carved_levels L) b ≤ at (carved_levels L) a
      no_rise =
          let e = level-receiver L (receivers L) (more h s o w) o in
          omega (arith, carved-at L a h, carved-at L b (runs_on L (receivers L) w))

      go : (at (carved_levels L) b < at (carved_levels L) a) ⊎ (at (carved_levels L) a ≤ at (carved_levels L) b)
          → (k : ℕ) × Counts L (carved_levels L) b k → (k : ℕ) × Counts L (carved_levels L) a k
      go (inl l) n =
          let m = neighbours_holds L a b (runs_on L (receivers L) w) (receivers-beside L W a h s o) in
          (0, arrived h (or_right (L.outlet a) _ (falls-to L (carved_levels L) a b m l)))
      go (inr l) (k, v) =
          let e : at (carved_levels L) b ≡ at (carved_levels L) a = omega (arith, no_rise) in
          (suc k, onward h (and_both _ _ (receivers-beside L W a h s o) (eq-eqb _ _ e)) v)

  pub some_count : (c : ℕ) → c < L.cells → L.solid c ≡ true → (k : ℕ) × Counts L (carved_levels L) c k
  some_count c h s = let (j, w) = arrives L W c h s in runs_count w

  -- each solid cell has a count
  pub sheet_counted : (c : ℕ) → c < L.cells → L.solid c ≡ true → FewestSteps L (carved_levels L) c (count L (carved_levels L) c)
  sheet_counted = counted L (carved_levels L) W some_count

  -- and any that isn't an outlet receives to a neighbour that is strictly lower, or level with it and one step nearer
  pub sheet_goes : (c : ℕ) → c < L.cells → L.solid c ≡ true → L.outlet c ≡ false → Goes L (carved_levels L) c (at (receivers_by Sheet L) c)
  sheet_goes = receiver_goes L (carved_levels L) W some_count
