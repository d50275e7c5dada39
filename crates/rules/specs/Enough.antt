-- Crossings that are enough to find the chosen passes by (rules 3 and 4): a listing may leave out crossings that aren't chosen.
-- Assumes nothing.
use Rattle.std.specs.Prelude.{true, [], List, ◌∷◌, ◌≡◌}
use Rattle.lists.specs.Lists.{◌∈◌}
use Rattle.rules.specs.Land.{Land}
use Rattle.rules.specs.Passes.{chosen, Crossing, crossings, less}

-- crossings only, and every chosen pass among them
pub record Suffices (L : Land) (K : List Crossing) : Type 0 where
  pub only : (x : Crossing) → x ∈ K → x ∈ crossings L
  pub all : (x : Crossing) → x ∈ chosen L → x ∈ K

-- each is less than all that follow it
pub data InOrder (L : Land) : List Crossing → Type 0 where
  none : InOrder L []
  first : {x : Crossing} {xs : List Crossing} → ((y : Crossing) → y ∈ xs → less L x y ≡ true) → InOrder L xs → InOrder L (x ∷ xs)

-- enough crossings, in the order of rule 3
pub record Enough (L : Land) (K : List Crossing) : Type 0 where
  pub suffices : Suffices L K
  pub ordered : InOrder L K

-- K is the list of the chosen passes in the order of rule 3: only they, all of them, each once
pub record AllChosen (L : Land) (K : List Crossing) : Type 0 where
  pub only : (x : Crossing) → x ∈ K → x ∈ chosen L
  pub all : (x : Crossing) → x ∈ chosen L → x ∈ K
  pub ordered : InOrder L K
