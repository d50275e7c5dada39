-- Lakes are read out of their rows as they were.
-- Assumes nothing.
use mathlib.Core.List.{List, map}
use mathlib.Core.Path.{ap, refl, sym, ◌∙◌, ◌≡◌}
use Prim.Native.Nat.{ℕ, ◌<◌, ◌≤◌}
use lib.ListN.{get_or, length, take}
use lib.Seq.{get_or-take}
use Rattle.std.proofs.lemmas.List.{get_or-map}
use Rattle.lake_list.specs.Rows.{row_of}
use Rattle.lake_rows.specs.Reading.{count_in, lake_in, least_in, level_in, no_row, read_lake, read_lakes, volume_in}
use Rattle.lake_rules.specs.Fits.{LakesFit}
use Rattle.lake_rules.specs.Lakes.{Lake}
use Rattle.lists.proofs.Map.{map_holds}
use Rattle.lists.proofs.Range.{upto_holds}
use Rattle.lists.proofs.Tab.{tab-is, tab-map}
use Rattle.lists.specs.Lists.{tab}
use Rattle.lake_list.specs.declared.Row.{Row}

-- what stands past a list's end, for lookups
no_lake : Lake
no_lake = record { level = 0; count = 0; volume = 0; least = 0 }

module _ (rows : List Row) (ls : List Lake) (are : take (length ls) rows ≡ map row_of ls) where
  -- a lake is read as it was
  row_reads : (i : ℕ) → i < length ls → read_lake rows i ≡ get_or ls i no_lake
  row_reads i h =
      ap lake_in (sym (get_or-take (length ls) rows i no_row h) ∙ ap (λ (z : List Row). get_or z i no_row) are ∙ get_or-map row_of ls i no_lake no_row h)

  -- all lakes of the rows
  pub lakes_read : read_lakes rows (length ls) ≡ ls
  lakes_read = tab-is (read_lake rows) ls (length ls) no_lake refl row_reads

  -- and each of their numbers as a list
  pub levels_read : tab (length ls) (level_in rows) ≡ map (λ x. x.level) ls
  levels_read = sym (tab-map (λ x. x.level) (read_lake rows) (length ls)) ∙ ap (map (λ x. x.level)) lakes_read

  pub counts_read : tab (length ls) (count_in rows) ≡ map (λ x. x.count) ls
  counts_read = sym (tab-map (λ x. x.count) (read_lake rows) (length ls)) ∙ ap (map (λ x. x.count)) lakes_read

  pub volumes_read : tab (length ls) (volume_in rows) ≡ map (λ x. x.volume) ls
  volumes_read = sym (tab-map (λ x. x.volume) (read_lake rows) (length ls)) ∙ ap (map (λ x. x.volume)) lakes_read

  pub leasts_read : tab (length ls) (least_in rows) ≡ map (λ x. x.least) ls
  leasts_read = sym (tab-map (λ x. x.least) (read_lake rows) (length ls)) ∙ ap (map (λ x. x.least)) lakes_read

-- a level that is read of lakes that fit is a lifted height
pub level_read : (rows : List Row) (n : ℕ) → LakesFit 4096 (read_lakes rows n) → (i : ℕ) → i < n → level_in rows i ≤ 16000000
level_read rows n fit i h = (fit (read_lake rows i) (map_holds (read_lake rows) (upto_holds h))).level_fits
