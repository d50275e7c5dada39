-- An accepted ground as the stages take it: lifted, it is a lawful tile.
-- Assumes nothing.
use mathlib.Core.List.{List, map}
use mathlib.Core.Logic.{inl, inr, ◌⊎◌}
use mathlib.Core.Path.{ap, refl, sym, ◌∙◌, ◌≡◌}
use Prim.Native.Nat.{ℕ, ◌%◌, ◌<◌, ◌≤◌}
use native.Mathlib.Nat.{mul-mod_left}
use native.Mathlib.Omega.{arith}
use lib.IntN.{pos}
use lib.ListN.{get_or, length, length-map, get_or-eq_default, take}
use Rattle.grid.proofs.Rules.{rule_by_lem}
use Rattle.grid.specs.Window.{Grid}
use Rattle.ground.proofs.Acceptance.{good_few}
use Rattle.ground.specs.Good.{Good}
use Rattle.heights.proofs.Heights.{lifted-below}
use Rattle.lists.proofs.Map.{map_at}
use Rattle.lists.proofs.Overwrite.{overwrite-take}
use Rattle.lists.proofs.Tests.{lt_or_ge}
use Rattle.lists.specs.Lists.{at, overwrite}
use Rattle.rules.proofs.TileLawful.{tile-by_lawful}
use Rattle.rules.specs.Ground.{cells_of, Drainable, Ground, lifted}
use Rattle.rules.specs.Land.{rule_by}
use Rattle.rules.specs.Tile.{LawfulTile}
use Rattle.grid.specs.declared.Neighbours.{Neighbours}

module _ (g : Ground) (G : Good g) where
  pub lifted_full : length (map lifted g.heights) ≡ cells_of g
  lifted_full = length-map g.heights lifted ∙ G.heights_full

  -- lifted heights are at most 16,000,000
  pub lifted-low : (c : ℕ) → at (map lifted g.heights) c ≤ 16000000
  lifted-low c = go (lt_or_ge c (length g.heights))
    where
      go : (c < length g.heights) ⊎ (length g.heights ≤ c) → at (map lifted g.heights) c ≤ 16000000
      go (inl h) =
          let k : c < cells_of g = omega (arith, G.heights_full) in
          rw (map_at lifted g.heights c (pos 0) 0 h) (lifted-below (get_or g.heights c (pos 0)) (G.heights_in_range c k))
      go (inr h) =
          let l : length (map lifted g.heights) ≤ c = rw (length-map g.heights lifted) h in
          rw (get_or-eq_default (map lifted g.heights) 0 l) (omega arith)

  -- so it is a lawful tile, whatever neighbours are asked for
  pub good_tile : (N : Neighbours) → LawfulTile (rule_by N) g.width (map lifted g.heights) g.marks
  good_tile N =
      record {
        is_rule = rule_by_lem N;
        tile = record { grid = grid; marked = G.marks_full ∙ sym lifted_full; lifted = lifted-low };
        lawful =
            tile-by_lawful N g.width (length (map lifted g.heights)) (map lifted g.heights) g.marks grid.rows G.outlet
            (rw lifted_full G.outlet_below) G.outlet_marked;
        whole = λ c. refl;
      }
    where
      grid : Grid g.width (length (map lifted g.heights))
      grid =
          record {
            rows =
                record { wide = G.wide; whole = ap (λ (n : ℕ). n % g.width) lifted_full ∙ mul-mod_left g.height g.width };
            narrow = G.narrow;
            few = rw lifted_full (good_few g G);
          }

  pub good_drainable : Drainable g
  good_drainable = record { wide = G.wide; outlet = G.outlet; on = G.outlet_below; marked = G.outlet_marked }

  -- what was lifted, up to N
  pub lifted_taken : {out : List ℕ} (zeros : List ℕ) (n : ℕ) → n ≡ cells_of g → out ≡ overwrite (map lifted g.heights) zeros
      → take n out ≡ map lifted g.heights
  lifted_taken zeros n z e = overwrite-take (map lifted g.heights) zeros n (lifted_full ∙ sym z) e
