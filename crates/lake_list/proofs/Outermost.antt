-- The walk over the outermost lakes: each has the level of its first cell, and what is found is told by the first that is too deep, or by
-- all of them.
-- Assumes nothing.
use mathlib.Core.List.{[], List, map, ◌++◌, ◌∷◌}
use mathlib.Core.Path.{ap, subst, sym, ◌∙◌, ◌≡◌}
use Prim.Native.Nat.{ℕ, ◌+◌, ◌-◌, ◌<◌, ◌≤◌}
use native.Mathlib.Nat.{add-zero}
use native.Mathlib.Omega.{arith}
use lib.ListN.{drop, length, length-append, length-drop, length-map, take}
use lib.Seq.{get_or-drop, get_or-take, sets, sets-eq, take_at}
use borrow.Author.Tests.{le-ltb, lt-ltb}
use Rattle.lake_list.proofs.Splitting.{on_tile_fact}
use Rattle.lake_list.proofs.Turns.{turn_lake}
use Rattle.lake_list.proofs.Walking.{deep_at, Turn, walk_all, Walked}
use Rattle.lake_list.specs.Listing.{NotedLake, NotedLakes, Listed, Room}
use Rattle.lake_list.specs.Outermost.{FoundAmong, is_deep, lakes_in}
use Rattle.lake_list.specs.Rows.{found_of, row_of, too_deep_at}
use Rattle.std.specs.Prelude.{Err, Ok, Option, Result}
use Rattle.lake_list.specs.declared.Row.{Row}
use Rattle.lake_list.specs.declared.TooDeep.{TooDeep}
use Rattle.lake_rules.specs.Lakes.{depth, Lake, lakes_of, level_of}
use Rattle.lists.proofs.At.{at_member}
use Rattle.lists.proofs.Flat.{flat_append}
use Rattle.lists.proofs.Keep.{keep_append, keep-none}
use Rattle.lists.specs.Lists.{at, flat, keep, ◌∈◌}
use Rattle.rules.specs.Land.{Land}

-- rows stored at the start of a list
rows-first : {new : List Row} (old : List Row) (ls : List Lake) → new ≡ sets old 0 (map row_of ls) → length ls ≤ length old
    → take (length ls) new ≡ map row_of ls
rows-first {new} old ls e h =
    let n : length (map row_of ls) ≡ length ls = length-map ls row_of in
    ap (take (length ls)) (e ∙ sets-eq (map row_of ls) old 0 (omega arith))
    ∙ take_at (map row_of ls) (drop (0 + length (map row_of ls)) old) (length ls) n

module _ (levels : List ℕ) {heights flags parents joins cells₀ ends₀ : List ℕ} {count : ℕ}
    (K : NotedLakes heights flags parents joins (level_of levels) cells₀ ends₀ count) (old : List Row) where
  abbrev L : Land
  L = K.land

  abbrev deep_of : List ℕ → ℕ
  deep_of s = depth L (level_of levels s) s

  -- the cells of the lakes stand in the list
  cells_few : length (flat (λ g. g) K.gs) ≤ length cells₀
  cells_few =
      omega (arith, sym (length-drop (at ends₀ 0) cells₀) ∙ ap length K.cells_are ∙ length-append (flat (λ g. g) K.gs) K.rest)

  module _ {cells ends : List ℕ} {new : List Row} {x next : ℕ} (W : Walked K 64 0 old cells ends new x next) where
    -- so no more lakes are listed than a tile has cells
    pub next_small : {spare index : List ℕ} → Room heights cells₀ spare index old 0 → next ≤ 4096
    next_small R =
        let e : length (flat (λ g. g) K.gs) ≡ length (flat (λ g. g) W.behind) + length (flat (λ g. g) W.ahead) =
        ap length (ap (flat (λ g. g)) W.all ∙ flat_append (λ g. g) W.behind W.ahead)
        ∙ length-append (flat (λ g. g) W.behind) (flat (λ g. g) W.ahead) in
        omega (arith, cells_few, W.next_fits, R.few)

    no_deep : keep (is_deep L levels) W.behind ≡ []
    no_deep = keep-none (is_deep L levels) W.behind (λ g m. le-ltb 64 (deep_of g) (W.shallow g m))

    module _ (T : Turn K 64 0 old W) where
      abbrev part : List ℕ
      part = take (at ends (x + 1) - at ends x) (drop (at ends x) cells)

      abbrev first : ℕ
      first = at cells (at ends x)

      -- the first cell of the turn's lake
      first_is_fact : first ≡ at T.g 0
      first_is_fact =
          sym
          (ap (λ (l : List ℕ). at l 0) (sym T.part_is)
          ∙ get_or-take (at ends (x + 1) - at ends x) (drop (at ends x) cells) 0 0 (omega (arith, T.end_is, T.some))
          ∙ get_or-drop (at ends x) cells 0 0
          ∙ ap (at cells) (add-zero (at ends x)))

      -- it is a cell of the tile, and has the level
      pub first-lake : NotedLake heights flags parents joins (at levels first) part
      first-lake =
          subst (λ (c : ℕ). NotedLake heights flags parents joins (at levels c) part) (sym first_is_fact) (turn_lake K 64 0 old W T)

      pub first-on_tile : first < length heights
      first-on_tile =
          on_tile_fact first-lake first
          (subst (λ (c : ℕ). c ∈ part) (ap (λ (l : List ℕ). at l 0) T.part_is ∙ sym first_is_fact)
          (at_member part 0 first-lake.is.some))

      pub first-told : {new' : List Row} {next' : Option ℕ}
          → ((J : NotedLake heights flags parents joins (at levels first) part)
          → Listed 64 (depth J.land (at levels first) part) next (length part) (lakes_of J.land (at levels first) part) new new' next')
          → (J : NotedLake heights flags parents joins (level_of levels T.g) part)
          → Listed 64 (depth J.land (level_of levels T.g) part) next (length part) (lakes_of J.land (level_of levels T.g) part) new new' next'
      first-told {new'} {next'} =
          subst (λ (c : ℕ). (J : NotedLake heights flags parents joins (at levels c) part)
          → Listed 64 (depth J.land (at levels c) part) next (length part) (lakes_of J.land (at levels c) part) new new' next')
          first_is_fact

      -- it is the first that is too deep
      pub found_deep : {rows : List Row} {found : Result ℕ TooDeep} → found ≡ Err (too_deep_at first) → 64 < deep_at K 64 0 old T.g
          → FoundAmong L levels K.gs found rows
      found_deep e h =
          record {
            found_is = e ∙ ap (λ (c : ℕ). Err (too_deep_at c)) first_is_fact ∙ ap (λ (l : List (List ℕ)). found_of l (lakes_in L levels K.gs)) (sym kept);
            rows_are = λ e. absurd (never (sym kept ∙ e));
            lakes_few = λ e. absurd (never (sym kept ∙ e));
          }
        where
          kept : keep (is_deep L levels) K.gs ≡ T.g ∷ keep (is_deep L levels) T.more
          kept =
              ap (keep (is_deep L levels)) (W.all ∙ ap (λ (l : List (List ℕ)). W.behind ++ l) T.is)
              ∙ keep_append (is_deep L levels) W.behind (T.g ∷ T.more)
              ∙ rw (no_deep, lt-ltb 64 (deep_of T.g) h)

          never : T.g ∷ keep (is_deep L levels) T.more ≡ [] → ⊥
          never e = let z : ◌≡◌ {A = ℕ} 0 1 = cc in omega arith

    -- none is too deep
    pub found_all : {spare index : List ℕ} → Room heights cells₀ spare index old 0 → count ≤ x
        → FoundAmong L levels K.gs (Ok next) new
    found_all R h =
        record {
          found_is =
              ap Ok count_is ∙ ap (λ (l : List (List ℕ)). found_of l (lakes_in L levels K.gs)) (sym none);
          rows_are = λ e. rows-first old (lakes_in L levels K.gs) written (omega (arith, few, cells_few, R.rows_fit));
          lakes_few = λ e. few;
        }
      where
        all : K.gs ≡ W.behind
        all = walk_all K 64 0 old W h

        none : keep (is_deep L levels) K.gs ≡ []
        none = ap (keep (is_deep L levels)) all ∙ no_deep

        count_is : next ≡ length (lakes_in L levels K.gs)
        count_is = omega (arith, W.next_is, ap (λ (l : List (List ℕ)). length (lakes_in L levels l)) all)

        few : length (lakes_in L levels K.gs) ≤ length (flat (λ g. g) K.gs)
        few = omega (arith, count_is, W.next_fits, ap (λ (l : List (List ℕ)). length (flat (λ g. g) l)) all)

        written : new ≡ sets old 0 (map row_of (lakes_in L levels K.gs))
        written = W.written ∙ ap (λ (l : List (List ℕ)). sets old 0 (map row_of (lakes_in L levels l))) (sym all)
