-- Document 01, the program `drain`: the bytes that it prints for a network, and those for a refusal; `follow` takes its lines from here too.
-- Assumes nothing.
use Rattle.std.specs.Prelude.{cond, [], List, map, ◌++◌, ◌∷◌, suc, zero, ℕ, ◌%◌, ◌*◌, ◌+◌, ◌/◌, eqb, ltb, negsuc, pos, ℤ, get_or}
use Rattle.lists.specs.Lists.{at, flat, keep, sum, upto}
use Rattle.rules.specs.Ground.{Ground}
use Rattle.rules.specs.Network.{network}

-- a number's decimal digits without leading zeros, in at most k steps: 0 to 9 are the bytes 48 to 57
unfoldable pub decimal_within : ℕ → ℕ → List ℕ
decimal_within zero n = []
decimal_within (suc k) n = let front = decimal_within k (n / 10) in cond (ltb n 10) ((48 + n) ∷ []) (front ++ ((48 + n % 10) ∷ []))

unfoldable pub decimal : ℕ → List ℕ
decimal n = decimal_within (suc n) n

-- a signed number: byte 45 is the minus sign, and negsuc n is -(n + 1)
unfoldable pub signed_decimal : ℤ → List ℕ
signed_decimal (pos n) = decimal n
signed_decimal (negsuc n) = 45 ∷ decimal (suc n)

-- a line: fields separated by one space (byte 32), ended by one newline (byte 10)
abbrev pub further_fields : List (List ℕ) → List ℕ
further_fields [] = 10 ∷ []
further_fields (f ∷ fs) = 32 ∷ (f ++ further_fields fs)

abbrev pub line : List ℕ → List (List ℕ) → List ℕ
line f fs = f ++ further_fields fs

-- a word, with the space that follows it, and two numbers
abbrev pub pair_line : List ℕ → ℕ → ℕ → List ℕ
pair_line word first second = word ++ line (decimal first) (decimal second ∷ [])

-- the words "tile", "out", "of" and "refused"
abbrev pub tile_word : List ℕ
tile_word = 116 ∷ 105 ∷ 108 ∷ 101 ∷ []

abbrev pub out_word : List ℕ
out_word = 111 ∷ 117 ∷ 116 ∷ []

abbrev pub of_word : List ℕ
of_word = 111 ∷ 102 ∷ []

abbrev pub refused_word : List ℕ
refused_word = 114 ∷ 101 ∷ 102 ∷ 117 ∷ 115 ∷ 101 ∷ 100 ∷ []

-- the first line: width, height
unfoldable pub size_line : ℕ → ℕ → List ℕ
size_line w h = line tile_word (decimal w ∷ decimal h ∷ [])

-- the line of a cell: number, receiver, level, drainage
unfoldable pub cell_line : ℕ → ℕ → ℤ → ℕ → List ℕ
cell_line c receiver level drainage = line (decimal c) (decimal receiver ∷ signed_decimal level ∷ decimal drainage ∷ [])

-- the lines of the first n cells
unfoldable pub cell_lines : List ℕ → List ℤ → List ℕ → ℕ → List ℕ
cell_lines receivers levels drainage n = flat (λ c. cell_line c (at receivers c) (get_or levels c (pos 0)) (at drainage c)) (upto n)

-- the sum of the outlets' drainage
unfoldable pub outlet_drainage : List ℕ → List ℕ → ℕ → ℕ
outlet_drainage drainage marks n = sum (map (at drainage) (keep (λ c. eqb (at marks c) 1) (upto n)))

-- the last line: the sum of the outlets' drainage, the sum of the water
unfoldable pub sums_line : ℕ → ℕ → List ℕ
sums_line out water = line out_word (decimal out ∷ of_word ∷ decimal water ∷ [])

-- the text of a tile, w by h cells
unfoldable pub tile_text : (w h : ℕ) (receivers : List ℕ) (levels : List ℤ) (drainage marks water : List ℕ) → List ℕ
tile_text w h receivers levels drainage marks water =
    size_line w h
    ++ (cell_lines receivers levels drainage (h * w)
    ++ sums_line (outlet_drainage drainage marks (h * w)) (sum water))

-- what `drain` prints for a ground that is accepted
unfoldable pub ground_text : Ground → List ℕ
ground_text g =
    let n = network g in
    tile_text g.width g.height n.receivers n.levels n.drainage g.marks g.water

-- and for a refusal: number, place
unfoldable pub refused_text : ℕ → ℕ → List ℕ
refused_text number place = line refused_word (decimal number ∷ decimal place ∷ [])
