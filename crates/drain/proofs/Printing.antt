-- A network that stands at the start of longer lists can be printed, and its text is that of the ground.
-- Assumes nothing.
use mathlib.Core.List.{List, map}
use mathlib.Core.Path.{ap, refl, subst, sym, ◌∙◌, ◌≡◌}
use Prim.Native.Nat.{ℕ, ◌≤◌}
use native.Mathlib.Omega.{arith}
use lib.ListN.{length, take}
use lib.Seq.{take_all}
use Rattle.ground.specs.Good.{Good}
use Rattle.network.proofs.Networks.{levels_droppable, network_full}
use Rattle.rules.proofs.SixLists.{take_holds}
use Rattle.rules.specs.Ground.{cells_of, dropped, Ground}
use Rattle.rules.specs.Network.{lifted_network_of, network_by}
use Rattle.text.specs.Text.{ground_text, tile_text}
use Rattle.text.specs.Writing.{most_text, Printable}
use Rattle.grid.specs.declared.Neighbours.TheVariants.{Four}
use Rattle.rules.specs.declared.Manner.TheVariants.{Carve}

-- the first entries of a list, and that it has as many
record First (n : ℕ) (l first : List ℕ) : Type 0 where
  taken : take n l ≡ first
  holds : n ≤ length l

first : (n k : ℕ) (l : List ℕ) {new : List ℕ} → n ≡ k → take k l ≡ new → length new ≡ k → First n l new
first n k l {new} z e f =
    let t : take n l ≡ new = subst (λ (i : ℕ). take i l ≡ new) (sym z) e in
    record { taken = t; holds = take_holds n l t (f ∙ sym z) }

-- receivers, levels and drainage of a ground stand at the start of lists, and so do its marks and its water
module _ (g : Ground) (G : Good g) (n : ℕ) (z : n ≡ cells_of g) (r l d marks water : List ℕ)
    (er : take (cells_of g) r ≡ (lifted_network_of g).receivers) (el : take (cells_of g) l ≡ (lifted_network_of g).levels)
    (ed : take (cells_of g) d ≡ (lifted_network_of g).drainage) (em : marks ≡ g.marks) (ew : take n water ≡ g.water) where
  receivers : First n r (lifted_network_of g).receivers
  receivers = first n (cells_of g) r z er (network_full Four Carve g G).receivers_full

  levels : First n l (lifted_network_of g).levels
  levels = first n (cells_of g) l z el (network_full Four Carve g G).levels_full

  drainage : First n d (lifted_network_of g).drainage
  drainage = first n (cells_of g) d z ed (network_full Four Carve g G).drainage_full

  outlets : First n marks g.marks
  outlets = let f = ap length em ∙ G.marks_full in first n n marks refl (take_all n marks (omega arith) ∙ em) (G.marks_full ∙ sym z)

  rain : First n water g.water
  rain = first n n water refl ew (G.water_full ∙ sym z)

  pub printable : {text : List ℕ} → most_text ≤ length text → Printable g.width g.height n r l d marks water text
  printable room =
      record {
        narrow = G.narrow;
        low = G.low;
        cells = z;
        receivers_hold = receivers.holds;
        levels_hold = levels.holds;
        drainage_holds = drainage.holds;
        marks_hold = outlets.holds;
        water_holds = rain.holds;
        levels-lifted = levels_droppable Four Carve g G levels.taken;
        room = room;
      }

  pub text_is : tile_text g.width g.height (take n r) (map dropped (take n l)) (take n d) (take n marks) (take n water) ≡ ground_text g
  unfolding ground_text network_by
  text_is = rw (receivers.taken, levels.taken, drainage.taken, outlets.taken, rain.taken)
