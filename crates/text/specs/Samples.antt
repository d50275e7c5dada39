-- The text that document 01 shows: of sample F, and of a refusal.
-- Assumes nothing.
use Rattle.std.specs.Prelude.{[], ◌∷◌, refl, ◌≡◌, negsuc, pos}
use Rattle.grid.specs.Neighbours.{steepness}
use Rattle.rules.specs.Carving.{all_but, carved, far_cell, first_way, leads_out, near_cell, outflows, previous, receiver, receivers}
use Rattle.rules.specs.Chain.{join, joined, labels}
use Rattle.rules.specs.FirstWays.{basin, first_receiver, lower_neighbours, neighbours, singular, singular_of, solid_cells, steepest_of}
use Rattle.rules.specs.Network.{above, drainage, givers, level, level_within, lifted_network_in, network_by, order}
use Rattle.rules.specs.Network.{outlets, through, wet}
use Rattle.rules.specs.Passes.{chosen, crossing_height, crossings, crossings_at, divides, less, less_than, linked, node, passes}
use Rattle.rules.specs.Passes.{same_basins}
use Rattle.rules.specs.Samples.{ground_f}
use Rattle.text.specs.Text.{cell_line, cell_lines, decimal, decimal_within, ground_text, outlet_drainage, refused_text}
use Rattle.text.specs.Text.{signed_decimal, size_line, sums_line, tile_text}

-- "tile 2 1", "0 1 4 2", "1 1 4 5", "out 5 of 5"
pub text-F :
    ground_text ground_f
    ≡ 116 ∷ 105 ∷ 108 ∷ 101 ∷ 32 ∷ 50 ∷ 32 ∷ 49 ∷ 10
    ∷ 48 ∷ 32 ∷ 49 ∷ 32 ∷ 52 ∷ 32 ∷ 50 ∷ 10
    ∷ 49 ∷ 32 ∷ 49 ∷ 32 ∷ 52 ∷ 32 ∷ 53 ∷ 10
    ∷ 111 ∷ 117 ∷ 116 ∷ 32 ∷ 53 ∷ 32 ∷ 111 ∷ 102 ∷ 32 ∷ 53 ∷ 10 ∷ []
unfolding network_by lifted_network_in solid_cells neighbours lower_neighbours steepness steepest_of first_receiver singular
    singular_of basin divides crossings_at crossings crossing_height less same_basins passes node linked join labels
    joined less_than chosen all_but far_cell near_cell leads_out outflows first_way previous carved receiver receivers
    level_within level givers above outlets order through drainage wet
    decimal_within decimal signed_decimal size_line cell_line cell_lines outlet_drainage sums_line tile_text ground_text
text-F = refl

-- "refused 2 0"
pub text_refused : refused_text 2 0 ≡ 114 ∷ 101 ∷ 102 ∷ 117 ∷ 115 ∷ 101 ∷ 100 ∷ 32 ∷ 50 ∷ 32 ∷ 48 ∷ 10 ∷ []
unfolding decimal_within decimal refused_text
text_refused = refl

-- signs, zero and long numbers: "-8000000", "0", "4294967295"
pub text-numbers :
    (signed_decimal (negsuc 7999999) ≡ 45 ∷ 56 ∷ 48 ∷ 48 ∷ 48 ∷ 48 ∷ 48 ∷ 48 ∷ [])
    × (signed_decimal (pos 0) ≡ 48 ∷ [])
    × (decimal 4294967295 ≡ 52 ∷ 50 ∷ 57 ∷ 52 ∷ 57 ∷ 54 ∷ 55 ∷ 50 ∷ 57 ∷ 53 ∷ [])
unfolding decimal_within decimal signed_decimal
text-numbers = (refl, refl, refl)
