-- W-202, the program `lakes`: what it prints, for every input.
-- Assumes nothing.
use Rattle.std.specs.Prelude.{[], List, ◌∷◌, ℕ}
use Rattle.lake_rules.specs.Lakes.{Lake}
use Rattle.lake_stages.specs.LakesOn.{lakes_on, too_deep_on}
use Rattle.lake_text.specs.LakeText.{lakes_text}
use Rattle.lists.specs.Lists.{at}
use Rattle.record_text.specs.RecordText.{record_text}
use Rattle.rules.specs.Ground.{Ground}
use Rattle.text.specs.Text.{refused_text}

-- the lakes, unless an outermost one is too deep: 10, with the least cell of the first such lake
abbrev pub found_text : List (List ℕ) → List Lake → List ℕ
found_text [] ls = lakes_text ls
found_text (s ∷ ss) ls = refused_text 10 (at s 0)

-- a ground that judges well
unfoldable pub ground_lakes_text : Ground → List ℕ
ground_lakes_text g = found_text (too_deep_on g) (lakes_on g)

-- and number and place of any other refusal. There is no 3: the program has room for all lakes
unfoldable pub lakes_program_text : List ℕ → List ℕ
lakes_program_text = record_text ground_lakes_text
