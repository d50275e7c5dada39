-- The weights of a tile's first receivers are what the flat passes ask for: a first receiver is the cell itself or a lower neighbour, so no
-- two cells are each other's.
-- Assumes nothing.
use mathlib.Core.Bool.{true}
use mathlib.Core.List.{List}
use mathlib.Core.Logic.{inl, inr, ◌⊎◌}
use mathlib.Core.Path.{subst, sym, ◌∙◌, ◌≡◌}
use Prim.Native.Nat.{ℕ, ◌<◌, ◌≤◌}
use native.Mathlib.Omega.{arith}
use lib.ListN.{length}
use Rattle.first_receivers.specs.Weights.{Weighed}
use Rattle.grid.specs.Neighbours.{places_by}
use Rattle.grid.specs.Window.{beside}
use Rattle.links.specs.Leads.{Leading}
use Rattle.lists.specs.Lists.{at}
use Rattle.rules.proofs.FirstReceivers.{Falls, first-falls}
use Rattle.rules.specs.FirstWays.{first_receiver}
use Rattle.rules.specs.Land.{Land, rule_by}
use Rattle.rules.specs.Tile.{Tile, tile_land}
use Rattle.grid.specs.declared.Neighbours.{Neighbours}

module _ (N : Neighbours) (w : ℕ) (heights marks : List ℕ) (T : Tile w heights marks) where
  abbrev L : Land
  L = tile_land (rule_by N) w heights marks

  -- no two cells are each other's first receiver
  one_way : (c d : ℕ) → first_receiver L c ≡ d → first_receiver L d ≡ c → c ≡ d
  one_way c d e f = go (first-falls L c) (first-falls L d)
    where
      go : (first_receiver L c ≡ c) ⊎ Falls L c (first_receiver L c) → (first_receiver L d ≡ d) ⊎ Falls L d (first_receiver L d) → c ≡ d
      go (inl a) b = sym a ∙ e
      go (inr a) (inl b) = sym f ∙ b
      go (inr a) (inr b) =
          let p : at heights d < at heights c = subst (λ (x : ℕ). at heights x < at heights c) e a.down in
          let q : at heights c < at heights d = subst (λ (x : ℕ). at heights x < at heights d) f b.down in
          absurd (omega arith)

  near : (c : ℕ) → (first_receiver L c ≡ c) ⊎ (beside (places_by N) w c (first_receiver L c) ≡ true)
  near c = go (first-falls L c)
    where
      go : (first_receiver L c ≡ c) ⊎ Falls L c (first_receiver L c) → (first_receiver L c ≡ c) ⊎ (beside (places_by N) w c (first_receiver L c) ≡ true)
      go (inl e) = inl e
      go (inr f) = inr f.beside

  pub weights_leading : (weights : List ℕ) → length heights ≤ length weights → Weighed N w (length heights) heights marks weights
      → Leading N w (length heights) (first_receiver L) weights
  weights_leading weights room W =
      record { grid = T.grid; room = room; masks = W.masks; one_way = λ c d h k e f. one_way c d e f; near = λ c h. near c }
