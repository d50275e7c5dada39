-- Document 01, number 3: whether the outputs of a call have room for n cells.
-- Assumes nothing.
use Rattle.std.specs.Prelude.{Bool, List, min, ℕ, ◌*◌, ◌+◌, leb, ℤ, length}

-- an output of `len` entries or bytes, of which each cell takes `each`, and `fixed` are taken besides
abbrev pub room_for : (each fixed len : ℕ) → ℕ → Bool
room_for each fixed len n = leb (each * n + fixed) len

-- a call with no outputs
abbrev pub any_room : ℕ → Bool
any_room = room_for 0 0 0

-- three lent lists, an entry for each cell: the shortest decides
abbrev pub lists_hold : List ℤ → List ℕ → List ℕ → ℕ → Bool
lists_hold heights marks water = room_for 1 0 (min (length heights) (min (length marks) (length water)))

-- a lent ground record
abbrev pub record_holds : List ℕ → ℕ → Bool
record_holds s = room_for 7 16 (length s)
