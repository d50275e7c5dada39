-- Lakes read out of the rows that they were listed into.
-- Assumes nothing.
use Rattle.std.specs.Prelude.{List, ℕ, get_or}
use Rattle.lake_list.specs.Rows.{row_of}
use Rattle.lake_rules.specs.Lakes.{Lake}
use Rattle.lists.specs.Lists.{tab}
use Rattle.lake_list.specs.declared.Row.{Row}

-- what stands past a list's end, for lookups
abbrev pub no_row : Row
no_row = row_of (record { level = 0; count = 0; volume = 0; least = 0 })

-- row i
abbrev pub row_at : List Row → ℕ → Row
row_at rows i = get_or rows i no_row

abbrev pub level_in : List Row → ℕ → ℕ
level_in rows i = (row_at rows i).level

abbrev pub count_in : List Row → ℕ → ℕ
count_in rows i = (row_at rows i).count

abbrev pub least_in : List Row → ℕ → ℕ
least_in rows i = (row_at rows i).least.0

abbrev pub volume_in : List Row → ℕ → ℕ
volume_in rows i = (row_at rows i).volume

-- the lake of a row
abbrev pub lake_in : Row → Lake
lake_in row = record { level = row.level; count = row.count; volume = row.volume; least = row.least.0 }

-- the lake of row i
abbrev pub read_lake : List Row → ℕ → Lake
read_lake rows i = lake_in (row_at rows i)

-- the lakes of the first n rows
abbrev pub read_lakes : List Row → ℕ → List Lake
read_lakes rows n = tab n (read_lake rows)
