-- Document 01, the program `drain`: what it prints, for every input.
-- Assumes nothing.
use Rattle.std.specs.Prelude.{List, ℕ}
use Rattle.record_text.specs.RecordText.{record_text}
use Rattle.text.specs.Text.{ground_text}

-- the network of a ground that is accepted, and number and place of a refusal
unfoldable pub drain_text : List ℕ → List ℕ
drain_text = record_text ground_text
