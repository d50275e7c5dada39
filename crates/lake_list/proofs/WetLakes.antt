-- The wet cells gathered at the greatest height are the outermost lakes, one after the other.
-- Assumes nothing.
use mathlib.Core.List.{List}
use mathlib.Core.Path.{ap, subst, sym, ◌∙◌, ◌≡◌}
use Prim.Native.Nat.{ℕ, ◌*◌, ◌+◌, ◌≤◌}
use native.Mathlib.Nat.{le_refl}
use native.Mathlib.Omega.{arith}
use lib.ListN.{length, take}
use Rattle.lake_groups.specs.Gathering.{Gatherable, Gathered}
use Rattle.lake_list.proofs.Gathering.{Closed, gatherable, gathered_count, gathered_few, gathered_lakes}
use Rattle.lake_list.specs.Listing.{LakeOf, NotedLakes}
use Rattle.lake_list.specs.Outermost.{FoundAmong, NotedWet}
use Rattle.lake_list.specs.Rows.{FoundIn}
use Rattle.std.specs.Prelude.{Result}
use Rattle.lake_list.specs.declared.Row.{Row}
use Rattle.lake_list.specs.declared.TooDeep.{TooDeep}
use Rattle.lake_notes.specs.Noting.{Levelled, Noted}
use Rattle.lake_rules.proofs.GroupsPart.{groups_ascending, groups-not_empty}
use Rattle.lake_rules.proofs.Lower.{mem_lower}
use Rattle.lake_rules.proofs.OutermostLakes.{outermost-below-highest, outermost-lake}
use Rattle.lake_rules.proofs.WetCells.{wet_ascending}
use Rattle.lake_rules.specs.Groups.{groups, lower}
use Rattle.lake_rules.specs.Lakes.{lakes, level_of, outermost, too_deep, wet_cells}
use Rattle.lake_rules.specs.LocalLevels.{Local}
use Rattle.lake_rules.specs.Notes.{highest}
use Rattle.lists.proofs.Keep.{keep-length}
use Rattle.lists.proofs.Overwrite.{overwrite-take}
use Rattle.lists.proofs.Range.{range_length}
use Rattle.lists.specs.Lists.{at, flat, upto, ◌∈◌}
use Rattle.rules.specs.Land.{Land}
use Rattle.rules.specs.Network.{is_wet}

wet_few : (L : Land) (levels : List ℕ) → length (wet_cells L levels) ≤ L.cells
unfolding wet_cells
wet_few L levels = omega (arith, keep-length (λ c. is_wet (L.height c) (at levels c)) (upto L.cells), range_length L.cells 0)

module _ {heights flags parents joins cells : List ℕ} (levels : List ℕ) (K : NotedWet heights levels flags parents joins cells) where
  abbrev L : Land
  L = K.land

  abbrev S : List ℕ
  S = wet_cells L levels

  closed : Closed L S highest S
  closed = record { sub = λ c m. m; whole = λ a b m n c. (mem_lower L highest S n).0; stays = λ m c. c }

  pub can_gather : Gatherable heights parents joins highest cells
  can_gather =
      subst (Gatherable heights parents joins highest) (sym K.cells_are)
      (gatherable K.notes (wet_ascending L levels) highest (le_refl highest) closed (wet_ascending L levels))

  outer_are : groups L (lower L highest S) ≡ outermost L levels
  outer_are = outermost-below-highest L levels (λ c h. K.lifted c)

  outer_lake : (g : List ℕ) → g ∈ groups L (lower L highest S) → LakeOf L S (level_of levels g) g
  unfolding outermost
  outer_lake g m =
      let i : g ∈ outermost L levels = subst (λ (l : List (List ℕ)). g ∈ l) outer_are m in
      record {
        lake = outermost-lake L levels K.local i;
        ascending = groups_ascending L S (wet_ascending L levels) i;
        some = groups-not_empty L S (wet_ascending L levels) i;
        lifted = K.lifted (at g 0);
      }

  module _ {before out ends : List ℕ} {count : ℕ} (G : Gathered heights parents joins highest cells before out ends count)
      (full : length out ≡ length before) (fits : length before ≡ length cells) (room : 2 * length cells + 2 ≤ length ends) where
    G' : Gathered heights parents joins highest S before out ends count
    G' = subst (λ (s : List ℕ). Gathered heights parents joins highest s before out ends count) K.cells_are G

    fits' : length before ≡ length S
    fits' = fits ∙ ap length K.cells_are

    pub outer : NotedLakes heights flags parents joins (level_of levels) out ends count
    outer =
        gathered_lakes K.notes (wet_ascending L levels) highest (le_refl highest) closed (wet_ascending L levels) G' full fits' (level_of levels) outer_lake
        (omega (arith, ap length K.cells_are))

    pub outer_count : count ≤ length out
    outer_count =
        omega (
          arith,
          fits',
          full,
          gathered_count K.notes (wet_ascending L levels) highest (le_refl highest) closed (wet_ascending L levels) G' full fits'
              (λ g m. (outer_lake g m).some),
        )

    -- what is found among them is found on the land
    pub found_in : {found : Result ℕ TooDeep} {rows : List Row}
        → ((J : NotedLakes heights flags parents joins (level_of levels) out ends count) → FoundAmong J.land levels J.gs found rows)
        → FoundIn L levels found rows
    unfolding outer gathered_lakes lakes too_deep
    found_in {found} {rows} E =
        let F : FoundAmong L levels (outermost L levels) found rows =
        subst (λ (gs : List (List ℕ)). FoundAmong L levels gs found rows) outer_are (E outer) in
        record {
          found_is = F.found_is;
          rows_are = F.rows_are;
          lakes_few = λ e.
              omega (
                arith,
                F.lakes_few e,
                ap (λ (gs : List (List ℕ)). length (flat (λ g. g) gs)) outer_are,
                wet_few L levels,
                gathered_few K.notes (wet_ascending L levels) highest (le_refl highest) closed (wet_ascending L levels) G' full fits',
              );
        }

-- the wet cells as they were noted
module _ (L : Land) {w : ℕ} {heights levels before cells flags parents joins : List ℕ} {count : ℕ} (T : Levelled w heights levels)
    (N : Noted L heights levels before cells flags parents joins count) where
  pub noted-wet : Local L levels → NotedWet heights levels flags parents joins (take count cells)
  noted-wet K =
      record {
        land = L;
        local = K;
        notes = N.notes;
        cells_are = overwrite-take (wet_cells L levels) before count (sym N.count_is) N.cells_are;
        levels_hold = T.levels_hold;
        lifted = T.levels-lifted;
      }

  pub noted_few : (count ≤ length heights) × (length heights ≤ 4096)
  noted_few = (omega (arith, N.count_is, wet_few L levels, N.notes.cells), N.notes.few)

  -- what is found on the land of the wet cells
  pub found_noted : {found : Result ℕ TooDeep} {rows : List Row}
      → ((K : NotedWet heights levels flags parents joins (take count cells)) → FoundIn K.land levels found rows)
      → Local L levels → FoundIn L levels found rows
  unfolding noted-wet
  found_noted E K = E (noted-wet K)
