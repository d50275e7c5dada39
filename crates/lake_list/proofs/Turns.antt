-- A turn of the walk: its lake is the part that is lent, what the call asks of the parts is there, and what it answers is a turn done,
-- or that a lake is too deep.
-- Assumes nothing.
use mathlib.Core.List.{List, map, ◌++◌}
use mathlib.Core.Logic.{inl, inr, ◌⊎◌}
use mathlib.Core.Path.{ap, refl, subst, sym, ◌∙◌, ◌≡◌}
use Prim.Native.Nat.{ℕ, ◌*◌, ◌+◌, ◌-◌, ◌<◌, ◌≤◌}
use native.Mathlib.Omega.{arith}
use lib.ListN.{drop, length, length-drop, take}
use lib.Seq.{length-take-le}
use borrow.Rule.Slice.PartMut.{mid_of, put_mid, same_len_mid}
use Rattle.lake_list.proofs.Walking.{deep_at, lakes_at, Turn, turn_done, walk_all, Walked}
use Rattle.lake_list.specs.Listing.{LakeOf, NotedLake, NotedLakes, Listed, listed, Room, too_deep_fact}
use Rattle.lake_rules.specs.Lakes.{depth, lakes_of}
use Rattle.lists.proofs.Greatest.{greatest_mem, greatest-most}
use Rattle.lists.proofs.Map.{map_holds, map_member}
use Rattle.lists.specs.Greatest.{greatest}
use Rattle.lists.specs.Lists.{at, flat, ◌∈◌}
use Rattle.std.specs.Prelude.{None, Option, Some}
use Rattle.lake_list.specs.declared.Row.{Row}

-- what a walk keeps of five lent lists: their lengths
pub record Kept (cells₀ cells spare₀ spare ends₀ ends index₀ index : List ℕ) (rows₀ rows : List Row) : Type 0 where
  pub cells_kept : length cells ≡ length cells₀
  pub spare_kept : length spare ≡ length spare₀
  pub ends_kept : length ends ≡ length ends₀
  pub index_kept : length index ≡ length index₀
  pub rows_kept : length rows ≡ length rows₀

-- what is known of a turn's numbers
pub record Bounds (cells spare ends : List ℕ) (x count : ℕ) : Type 0 where
  pub turn_on : x < count
  pub count_few : count ≤ 4096
  pub ends_there : count + 1 < length ends
  pub ordered : at ends x < at ends (x + 1)
  pub cells_there : at ends (x + 1) ≤ length cells
  pub spare_there : length spare ≡ length cells
  pub cells_few : length cells ≤ 4096

-- parts of three of them came back, and two whole lists
pub kept_on : {cells₀ cells spare₀ spare ends₀ ends index₀ index : List ℕ} {rows₀ rows : List Row} (a k rest : ℕ)
    (cells' spare' ends' index' : List ℕ) (rows' : List Row)
    → Kept cells₀ cells spare₀ spare ends₀ ends index₀ index rows₀ rows
    → length cells' ≡ length (mid_of a k cells)
    → length spare' ≡ length (mid_of a k spare)
    → length ends' ≡ length (mid_of rest (length ends - rest) ends)
    → length index' ≡ length index
    → length rows' ≡ length rows
    → Kept cells₀ (put_mid a k cells cells') spare₀ (put_mid a k spare spare') ends₀ (put_mid rest (length ends - rest) ends ends') index₀ index' rows₀ rows'
kept_on {cells = cells} {spare = spare} {ends = ends} a k rest cells' spare' ends' index' rows' K p q r i j =
    record {
      cells_kept = same_len_mid a k cells cells' p ∙ K.cells_kept;
      spare_kept = same_len_mid a k spare spare' q ∙ K.spare_kept;
      ends_kept = same_len_mid rest (length ends - rest) ends ends' r ∙ K.ends_kept;
      index_kept = i ∙ K.index_kept;
      rows_kept = j ∙ K.rows_kept;
    }

module _ {heights flags parents joins : List ℕ} {level_of : List ℕ → ℕ} {cells₀ ends₀ : List ℕ} {count : ℕ}
    (K : NotedLakes heights flags parents joins level_of cells₀ ends₀ count) (left from : ℕ) (old : List Row) where
  module _ {cells ends : List ℕ} {new : List Row} {x next : ℕ} (W : Walked K left from old cells ends new x next) (T : Turn K left from old W) where
    -- the part of the turn's lake, of any list
    abbrev part : List ℕ → List ℕ
    part l = take (at ends (x + 1) - at ends x) (drop (at ends x) l)

    pub turn_lake : NotedLake heights flags parents joins (level_of T.g) (part cells)
    turn_lake =
        record {
          land = K.land;
          wet = K.wet;
          wet_ascending = K.wet_ascending;
          notes = K.notes;
          is = subst (LakeOf K.land K.wet (level_of T.g)) (sym T.part_is) (K.lakes T.g T.member);
        }

    part_length : (l : List ℕ) → length l ≡ length cells → length (part l) ≡ length T.g
    part_length l e =
        let n : length (drop (at ends x) l) ≡ length l - at ends x = length-drop (at ends x) l in
        length-take-le (at ends (x + 1) - at ends x) (drop (at ends x) l) (omega (arith, T.end_is, T.end_fits))
        ∙ (let e : at ends (x + 1) - at ends x ≡ length T.g = omega (arith, T.end_is) in e)

    module _ {spare₀ spare index₀ index : List ℕ} {rows₀ rows : List Row} (S : Kept cells₀ cells spare₀ spare ends₀ ends index₀ index rows₀ rows)
        (R : Room heights cells₀ spare₀ index₀ rows₀ from) where
      pub turn_room : Room heights (part cells) (part spare) index rows next
      turn_room =
          let a : length (part cells) ≡ length T.g = part_length cells refl in
          let b : length (part spare) ≡ length T.g = part_length spare (omega (arith, S.cells_kept, S.spare_kept, R.spare_fits)) in
          let c = T.end_fits in
          let d = T.start_fits in
          let e = S.cells_kept in
          record {
            spare_fits = omega arith;
            index_fits = omega (arith, S.index_kept, R.index_fits);
            few = omega (arith, R.few);
            rows_fit = omega (arith, S.rows_kept, R.rows_fit);
          }

      pub turn_ends : {rest : ℕ} → rest ≡ count + 1 → 2 * length (part cells) ≤ length (take (length ends - rest) (drop rest ends))
      turn_ends {rest} r =
          let a : length (part cells) ≡ length T.g = part_length cells refl in
          let b : length (drop rest ends) ≡ length ends - rest = length-drop rest ends in
          let c : length (take (length ends - rest) (drop rest ends)) ≡ length ends - rest =
          length-take-le (length ends - rest) (drop rest ends) (omega arith) in
          omega (arith, T.ends_fit, S.ends_kept)

      pub turn_bounds : x < count → count ≤ length cells₀ → Bounds cells spare ends x count
      turn_bounds h n =
          let T' = T in
          let S' = S in
          let R' = R in
          record {
            turn_on = h;
            count_few = omega arith;
            ends_there = omega arith;
            ordered = omega arith;
            cells_there = omega arith;
            spare_there = omega arith;
            cells_few = omega arith;
          }

      -- fewer cells than all
      pub turn_fewer : 0 < at ends₀ 0 → length (part cells) < length cells₀
      turn_fewer h =
          let a : length (part cells) ≡ length T.g = part_length cells refl in
          omega (arith, T.end_fits, W.start_is, S.cells_kept)

      -- what is told of the part, for whatever land it is a lake of
      module _ {new' : List Row} {next' : Option ℕ}
          (E : (J : NotedLake heights flags parents joins (level_of T.g) (part cells))
          → Listed left (depth J.land (level_of T.g) (part cells)) next (length (part cells))
          (lakes_of J.land (level_of T.g) (part cells)) new new' next') where
        D' : Listed left (deep_at K left from old T.g) next (length T.g) (lakes_at K left from old T.g) new new' next'
        unfolding turn_lake
        D' =
            subst (λ (z : List ℕ). Listed left (depth K.land (level_of T.g) z) next (length z) (lakes_of K.land (level_of T.g) z) new new' next')
            T.part_is (E turn_lake)

        pub turn_over : next' ≡ None → left < deep_at K left from old T.g
        turn_over e = go D'
          where
            go : Listed left (deep_at K left from old T.g) next (length T.g) (lakes_at K left from old T.g) new new' next'
                → left < deep_at K left from old T.g
            go (listed d n f w) = let z : ◌≡◌ {A = ℕ} 0 1 = cc in absurd (omega arith)
            go (too_deep_fact d n) = d

        pub turn_again : {m : ℕ} → next' ≡ Some m → (back z : List ℕ) {rest : ℕ} → rest ≡ count + 1 → length back ≡ length (part cells)
            → Walked K left from old (take (at ends x) cells ++ (back ++ drop (at ends (x + 1) - at ends x) (drop (at ends x) cells)))
            (take rest ends ++ z) new' (x + 1) m
        turn_again {m} e back z {rest} r p = go D'
          where
            go : Listed left (deep_at K left from old T.g) next (length T.g) (lakes_at K left from old T.g) new new' next'
                → Walked K left from old (take (at ends x) cells ++ (back ++ drop (at ends (x + 1) - at ends x) (drop (at ends x) cells)))
                (take rest ends ++ z) new' (x + 1) m
            go (listed d n f w) =
                let q : m ≡ next + length (lakes_at K left from old T.g) = (cc) in
                turn_done K left from old W T back z r (omega (arith, T.ends_fit, S.ends_kept)) (p ∙ ap length T.part_is) d q f w
            go (too_deep_fact d n) = let z : ◌≡◌ {A = ℕ} 0 1 = cc in absurd (omega arith)

    -- where a lake is too deep, so are they all
    pub all_over : {new' : List Row} {room : ℕ} {next' : Option ℕ} → next' ≡ None → left < deep_at K left from old T.g
        → Listed left (greatest (map (deep_at K left from old) K.gs)) from room (flat (lakes_at K left from old) K.gs) old new' next'
    all_over e d =
        let m : deep_at K left from old T.g ≤ greatest (map (deep_at K left from old) K.gs) =
        greatest-most (map (deep_at K left from old) K.gs) (map_holds (deep_at K left from old) T.member) in
        too_deep_fact (omega arith) e

  -- after the last turn all are listed, and none is too deep
  pub all_listed : {cells ends : List ℕ} {new : List Row} {x next : ℕ} → Walked K left from old cells ends new x next → count ≤ x
      → Listed left (greatest (map (deep_at K left from old) K.gs)) from (length (flat (λ g. g) K.gs))
      (flat (lakes_at K left from old) K.gs) old new (Some next)
  all_listed {cells} {ends} {new} {x} {next} W h =
      subst (λ (z : List (List ℕ)). Listed left (greatest (map (deep_at K left from old) z)) from (length (flat (λ g. g) z))
      (flat (lakes_at K left from old) z) old new (Some next))
      (sym (walk_all K left from old W h))
      (listed (shallow (greatest_mem (map (deep_at K left from old) W.behind))) (ap Some W.next_is) (omega (arith, W.next_is, W.next_fits)) W.written)
    where
      deepest : ℕ
      deepest = greatest (map (deep_at K left from old) W.behind)

      shallow : (deepest ≡ 0) ⊎ (deepest ∈ map (deep_at K left from old) W.behind) → deepest ≤ left
      shallow (inl e) = omega arith
      shallow (inr m) =
          let k = map_member (deep_at K left from old) W.behind m in
          omega (arith, W.shallow k.0 k.1, k.2)
