-- A record's lifted heights and its marks, read, are a tile whose land is that of its ground: what the stages leave of the one is
-- said of the other.
-- Assumes nothing.
use mathlib.Core.List.{List, map}
use mathlib.Core.Path.{ap, subst, sym, ◌∙◌, ◌≡◌}
use Prim.Native.Nat.{ℕ, ◌*◌, ◌-◌}
use lib.ListN.{length, take}
use Rattle.ground.specs.Good.{Good}
use Rattle.ground.specs.Record.{ground_in}
use Rattle.lists.specs.Lists.{filled, overwrite, stretch}
use Rattle.network.proofs.Grounds.{good_tile, lifted_full}
use Rattle.network.proofs.Networks.{tile-is-land}
use Rattle.record_stages.proofs.Reading.{marks_are, water-here}
use Rattle.record_stages.specs.LinkedRecord.{LinkedRecord}
use Rattle.rules.specs.FirstWays.{basin}
use Rattle.rules.specs.Ground.{Ground, lifted}
use Rattle.rules.specs.Land.{Land, land_by, rule_by}
use Rattle.rules.specs.Network.{lifted_network_by, lifted_network_in}
use Rattle.rules.specs.Tile.{LawfulTile, tile_land}
use Rattle.sections.specs.LittleEndian.{numbers_at}
use Rattle.stages.specs.Linking.{Linked}
use Rattle.grid.specs.declared.Neighbours.{Neighbours}
use Rattle.rules.specs.declared.Manner.{Manner}
use Rattle.rules.specs.declared.Manner.TheVariants.{Carve}

module _ (N : Neighbours) (s : List ℕ) (w h : ℕ) (G : Good (ground_in s w h)) (n : ℕ) (z : n ≡ h * w) where
  abbrev g : Ground
  g = ground_in s w h

  -- the marks where they stand
  abbrev marks : List ℕ
  marks = stretch (4 * n) (5 * n - 4 * n) s

  module _ (heights : List ℕ) (t : take n heights ≡ map lifted (ground_in s w h).heights) where
    pub read_tile : LawfulTile (rule_by N) w (take n heights) (stretch (4 * n) (5 * n - 4 * n) s)
    read_tile =
        subst (λ (l : List ℕ). LawfulTile (rule_by N) w l marks) (sym t)
        (subst (LawfulTile (rule_by N) w (map lifted g.heights)) (sym (marks_are s w h G n z)) (good_tile g G N))

    pub read_full : length (take n heights) ≡ h * w
    read_full = ap length t ∙ lifted_full g G

    pub read_land : tile_land (rule_by N) w (take n heights) (stretch (4 * n) (5 * n - 4 * n) s) ≡ land_by N (ground_in s w h)
    read_land =
        ap (λ (l : List ℕ). tile_land (rule_by N) w l marks) t
        ∙ ap (tile_land (rule_by N) w (map lifted g.heights)) (marks_are s w h G n z)
        ∙ tile-is-land N g G

    -- and the network of the one is that of the other
    pub read_network : (M : Manner) →
        let L = tile_land (rule_by N) w (take n heights) (stretch (4 * n) (5 * n - 4 * n) s) in
        lifted_network_in M L (numbers_at 2 s (5 * n) n) ≡ lifted_network_by N M (ground_in s w h)
    read_network M =
        ap (λ (L : Land). lifted_network_in M L (numbers_at 2 s (5 * n) n)) read_land
        ∙ ap (lifted_network_in M (land_by N g)) (water-here s w h G n z)

    -- its basins, in a list
    pub read_basins : {b : List ℕ} (basins : List ℕ)
        → b ≡ filled (basin (tile_land (rule_by N) w (take n heights) (stretch (4 * n) (5 * n - 4 * n) s))) (length (take n heights)) basins
        → b ≡ overwrite (lifted_network_by N Carve (ground_in s w h)).basins basins
    unfolding lifted_network_in filled
    read_basins {b} basins e = subst (λ (L : Land). b ≡ filled (basin L) L.cells basins) read_land e

    -- links of the tile are links of the record
    pub linked_record : {links : List ℕ} → Linked (rule_by N) w (take n heights) (stretch (4 * n) (5 * n - 4 * n) s) links → LinkedRecord N s w h heights links
    linked_record {links} K =
        record {
          heights_are = subst (λ (k : ℕ). take k heights ≡ map lifted g.heights) z t;
          linked =
              subst (λ (l : List ℕ). Linked (rule_by N) w (map lifted g.heights) l links) (marks_are s w h G n z)
              (subst (λ (l : List ℕ). Linked (rule_by N) w l marks links) t K);
        }

  -- and back
  module _ {heights links : List ℕ} (R : LinkedRecord N s w h heights links) where
    pub heights_here : take n heights ≡ map lifted (ground_in s w h).heights
    heights_here = subst (λ (k : ℕ). take k heights ≡ map lifted g.heights) (sym z) R.heights_are

    pub linked_here : Linked (rule_by N) w (take n heights) (stretch (4 * n) (5 * n - 4 * n) s) links
    linked_here =
        subst (λ (l : List ℕ). Linked (rule_by N) w l marks links) (sym heights_here)
        (subst (λ (l : List ℕ). Linked (rule_by N) w (map lifted g.heights) l links) (sym (marks_are s w h G n z)) R.linked)
