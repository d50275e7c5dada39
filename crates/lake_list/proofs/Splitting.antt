-- A lake at its split: the height that the flags tell, the lakes inside it, and its listing after them.
-- Assumes nothing.
use mathlib.Core.Bool.{false, not}
use mathlib.Core.List.{[], List, map, ◌++◌, ◌∷◌}
use mathlib.Core.Logic.{inl, inr, ◌⊎◌}
use mathlib.Core.Path.{ap, refl, sym, ◌∙◌, ◌≡◌}
use Prim.Native.Nat.{suc, ℕ, ◌*◌, ◌+◌, ◌-◌, ◌<◌, ◌≤◌}
use native.Mathlib.Omega.{arith}
use lib.Dec.{eqb, ltb}
use lib.ListN.{length, length-append, set}
use lib.Seq.{sets}
use borrow.Author.Tests.{le-ltb}
use Rattle.lake_groups.specs.Gathering.{dry, Gatherable, Gathered}
use Rattle.lake_list.proofs.Gathering.{Closed, gatherable, gathered_count, gathered_few, gathered_lakes}
use Rattle.lake_list.proofs.Storing.{stored_next}
use Rattle.lake_list.specs.Listing.{LakeOf, NotedLake, NotedLakes, Listed, listed, too_deep_fact}
use Rattle.lake_list.specs.Measured.{row_in}
use Rattle.lake_list.specs.Rows.{row_of}
use Rattle.lake_rules.proofs.Flags.{flag_split, lake-inside, stay}
use Rattle.lake_rules.proofs.GroupsPart.{groups_ascending, groups-not_empty}
use Rattle.lake_rules.proofs.Lower.{lower_ascending, lower_mem, mem_lower, under_more}
use Rattle.lake_rules.proofs.Splits.{depth_of, lakes_of_lem}
use Rattle.lake_rules.specs.Groups.{groups, lower}
use Rattle.lake_rules.specs.Lakes.{depth, inside, Lake, lake_of, lakes_of, split_height, volume_of}
use Rattle.lake_rules.specs.Notes.{highest}
use Rattle.lists.proofs.At.{at_member, member_some}
use Rattle.lists.proofs.Greatest.{greatest_mem}
use Rattle.lists.proofs.Keep.{keep_holds, keep_member}
use Rattle.lists.proofs.Map.{map_member, map_same}
use Rattle.lists.proofs.Tests.{so_not}
use Rattle.lists.specs.Greatest.{greatest}
use Rattle.lists.specs.Lists.{at, flat, keep, sum, ◌∈◌}
use Rattle.rules.specs.Land.{Land}
use Rattle.std.specs.Prelude.{None, Option, Some}
use Rattle.lake_list.specs.declared.Row.{Row}

module _ {heights flags parents joins : List ℕ} {level : ℕ} {s : List ℕ} (K : NotedLake heights flags parents joins level s) where
  abbrev L : Land
  L = K.land

  abbrev S : List ℕ
  S = K.wet

  pub in_wet : (c : ℕ) → c ∈ s → c ∈ S
  in_wet c m = (mem_lower L level S (K.is.lake.sub c m)).0

  pub on_tile_fact : (c : ℕ) → c ∈ s → c < length heights
  on_tile_fact c m = omega (arith, K.notes.on_land c (in_wet c m), K.notes.cells)

  pub below : (c : ℕ) → c ∈ s → at heights c < level
  below c m = omega (arith, (mem_lower L level S (K.is.lake.sub c m)).1, K.notes.ground c)

  -- its row
  row_here : row_in heights level s ≡ row_of (lake_of L level s)
  unfolding lake_of volume_of
  row_here =
      ap (λ (z : ℕ). row_of (record { level = level; count = length s; volume = z; least = at s 0 }))
      (ap sum (map_same (λ c. level - at heights c) (λ c. level - L.height c) s (λ c m. ap (λ (z : ℕ). level - z) (sym (K.notes.ground c)))))

  -- no lake has depth 0
  pub lake-none : {left from room : ℕ} {old new : List Row} → left ≡ 0 → Listed left (depth L level s) from room (lakes_of L level s) old new None
  lake-none e = too_deep_fact (omega (arith, depth_of L level s)) refl

  module _ {h : ℕ} (told : h ≡ greatest (map (at heights) (keep (λ c. eqb (at flags c) 1) s))) where
    pub split_is : h ≡ split_height L level s
    split_is =
        told
        ∙ ap greatest (map_same (at heights) L.height (keep (λ c. eqb (at flags c) 1) s) (λ c m. sym (K.notes.ground c)))
        ∙ sym (flag_split L S K.notes.on_land K.is.lake K.is.ascending (λ c. eqb (at flags c) 1) K.notes.flagged)

    -- a lake and its depth, by those of the lakes inside it
    lakes-here : lakes_of L level s ≡ flat (lakes_of L h) (groups L (lower L h s)) ++ (lake_of L level s ∷ [])
    unfolding inside
    lakes-here = lakes_of_lem L level s ∙ ap (λ (z : ℕ). flat (lakes_of L z) (groups L (lower L z s)) ++ (lake_of L level s ∷ [])) (sym split_is)

    depth-here : depth L level s ≡ suc (greatest (map (depth L h) (groups L (lower L h s))))
    unfolding inside
    depth-here = depth_of L level s ∙ ap (λ (z : ℕ). suc (greatest (map (depth L z) (groups L (lower L z s))))) (sym split_is)

    -- a cell of the lake isn't lower than its split, and the split is lower than the level
    pub record Highest : Type 0 where
      pub cell : ℕ
      pub member : cell ∈ s
      pub high : h ≤ at heights cell
      pub low : h ≤ level

    highest_cell : Highest
    highest_cell = go (greatest_mem (map (at heights) (keep (λ c. eqb (at flags c) 1) s)))
      where
        flagged : List ℕ
        flagged = keep (λ c. eqb (at flags c) 1) s

        go : (greatest (map (at heights) flagged) ≡ 0) ⊎ (greatest (map (at heights) flagged) ∈ map (at heights) flagged) → Highest
        go (inl e) =
            record { cell = at s 0; member = at_member s 0 K.is.some; high = omega arith; low = omega arith }
        go (inr m) =
            let k = map_member (at heights) flagged m in
            let i : k.0 ∈ s = (keep_member (λ c. eqb (at flags c) 1) s k.1).0 in
            record { cell = k.0; member = i; high = omega (arith, k.2); low = omega (arith, k.2, below k.0 i) }

    pub dry_some : 0 < length (dry heights h s)
    dry_some =
        let t = highest_cell in
        let e : ltb (at heights t.cell) h ≡ false = le-ltb (at heights t.cell) h t.high in
        member_some (keep_holds (λ c. not (ltb (at heights c) h)) t.member (so_not (ltb (at heights t.cell) h) e))

    abbrev low : h ≤ level
    low = highest_cell.low

    top : h ≤ highest
    top = omega (arith, low, K.is.lifted)

    closed : Closed L S h s
    closed =
        record {
          sub = in_wet;
          whole = λ a b m n c.
              let k = mem_lower L h S n in
              let l = k.1 in
              K.is.lake.whole a b m (lower_mem L level k.0 (omega (arith, low))) (under_more L (λ d i. i) low c);
          stays = λ m c. stay L S K.notes.on_land K.is.lake low m c;
        }

    pub can_gather : Gatherable heights parents joins h s
    can_gather = gatherable K.notes K.wet_ascending h top closed K.is.ascending

    -- the lakes inside, at the split
    pub inner_lake : (g : List ℕ) → g ∈ groups L (lower L h s) → LakeOf L S h g
    inner_lake g m =
        record {
          lake = lake-inside L S K.notes.on_land K.is.lake h low m;
          ascending = groups_ascending L (lower L h s) (lower_ascending L h s K.is.ascending) m;
          some = groups-not_empty L (lower L h s) (lower_ascending L h s K.is.ascending) m;
          lifted = top;
        }

    module _ {before cells ends : List ℕ} {count : ℕ} (G : Gathered heights parents joins h s before cells ends count)
        (full : length cells ≡ length before) (fits : length before ≡ length s) (room : 2 * length s ≤ length ends) where
      pub inner : NotedLakes heights flags parents joins (λ g. h) cells ends count
      inner =
          gathered_lakes K.notes K.wet_ascending h top closed K.is.ascending G full fits (λ g. h) inner_lake (omega (arith, dry_some))

      -- there is a cell before the first of them, and they are no more than cells
      pub inner_first : 0 < at ends 0
      inner_first = omega (arith, G.first_is_fact, dry_some)

      pub inner_count : count ≤ length cells
      inner_count =
          omega (arith, K.is.some, gathered_count K.notes K.wet_ascending h top closed K.is.ascending G full fits (λ g m. (inner_lake g m).some))

      -- the lakes inside were listed, and it comes after them
      module _ {left from : ℕ} {old mid : List Row} {inner_next : Option ℕ} (fine : 0 < left)
          (E : (J : NotedLakes heights flags parents joins (λ g. h) cells ends count)
          → Listed (left - 1) (greatest (map (depth J.land h) J.gs)) from (length (flat (λ g. g) J.gs))
          (flat (lakes_of J.land h) J.gs) old mid inner_next) where
        abbrev InnerListed : Type 0
        InnerListed =
            Listed (left - 1) (greatest (map (depth L h) (groups L (lower L h s)))) from (length (flat (λ g. g) (groups L (lower L h s))))
            (flat (lakes_of L h) (groups L (lower L h s))) old mid inner_next

        D : InnerListed
        unfolding inner gathered_lakes
        D = E inner

        few : length (flat (λ g. g) (groups L (lower L h s))) < length s
        few = omega (arith, dry_some, gathered_few K.notes K.wet_ascending h top closed K.is.ascending G full fits)

        -- one of them was too deep
        pub lake_over : {new : List Row} {r : Option ℕ} → inner_next ≡ None → r ≡ None
            → Listed left (depth L level s) from (length s) (lakes_of L level s) old new r
        lake_over {new} {r} e f = go D
          where
            go : InnerListed → Listed left (depth L level s) from (length s) (lakes_of L level s) old new r
            go (listed d n f w) = let z : ◌≡◌ {A = ℕ} 0 1 = cc in absurd (omega arith)
            go (too_deep_fact d n) = too_deep_fact (omega (arith, depth-here)) f

        module _ {next : ℕ} (given : inner_next ≡ Some next) where
          pub next_few : next < from + length s
          next_few = go D
            where
              go : InnerListed → next < from + length s
              go (listed d n f w) =
                  let q : next ≡ from + length (flat (lakes_of L h) (groups L (lower L h s))) = (cc) in
                  omega (arith, few)
              go (too_deep_fact d n) = let z : ◌≡◌ {A = ℕ} 0 1 = cc in absurd (omega arith)

          pub lake_listed : {row : Row} → row ≡ row_in heights level s
              → Listed left (depth L level s) from (length s) (lakes_of L level s) old (set mid next row) (Some (next + 1))
          lake_listed {row} e = go D
            where
              go : InnerListed → Listed left (depth L level s) from (length s) (lakes_of L level s) old (set mid next row) (Some (next + 1))
              go (listed d n f w) =
                  let q : next ≡ from + length (flat (lakes_of L h) (groups L (lower L h s))) = (cc) in
                  let b : length (lakes_of L level s) ≡ length (flat (lakes_of L h) (groups L (lower L h s))) + 1 =
                  ap length lakes-here ∙ length-append (flat (lakes_of L h) (groups L (lower L h s))) (lake_of L level s ∷ []) in
                  listed (omega (arith, depth-here)) (ap Some (let z = b in omega arith)) (omega (arith, few))
                  (ap (set mid next) (e ∙ row_here)
                  ∙ stored_next old from (flat (lakes_of L h) (groups L (lower L h s))) (lake_of L level s ∷ []) w q
                  ∙ ap (λ (z : List Lake). sets old from (map row_of z)) (sym lakes-here))
              go (too_deep_fact d n) = let z : ◌≡◌ {A = ℕ} 0 1 = cc in absurd (omega arith)
