-- W-202, the program `lakes`: the bytes that it prints for the lakes of a tile.
-- Assumes nothing.
use Rattle.std.specs.Prelude.{[], List, ◌++◌, ◌∷◌, ℕ, length}
use Rattle.lake_rules.specs.Lakes.{Lake}
use Rattle.lists.specs.Lists.{flat}
use Rattle.rules.specs.Ground.{dropped}
use Rattle.text.specs.Text.{decimal, line, signed_decimal}

-- the word "lakes"
abbrev pub lakes_word : List ℕ
lakes_word = 108 ∷ 97 ∷ 107 ∷ 101 ∷ 115 ∷ []

-- the first line: how many lakes
unfoldable pub lakes_line : ℕ → List ℕ
lakes_line n = line lakes_word (decimal n ∷ [])

-- the line of a lake: level, number of cells, volume, least cell
unfoldable pub lake_line : Lake → List ℕ
lake_line x = line (signed_decimal (dropped x.level)) (decimal x.count ∷ decimal x.volume ∷ decimal x.least ∷ [])

-- the text of a list of lakes
unfoldable pub lakes_text : List Lake → List ℕ
lakes_text ls = lakes_line (length ls) ++ flat lake_line ls

-- the most bytes that it can take: 11 for the first line, and 31 for each of 4,096 lakes
abbrev pub most_lakes_text : ℕ
most_lakes_text = 126987
