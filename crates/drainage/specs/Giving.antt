-- What rule 9 is worked out from, the order and the receivers of a land without holes, and what is promised for it.
-- Assumes nothing.
use Rattle.std.specs.Prelude.{cond, true, List, ◌≡◌, ℕ, ◌+◌, ◌<◌, ◌≤◌, eqb, length, set, take}
use Rattle.lists.specs.Lists.{at, filled}
use Rattle.rules.specs.Land.{Land}
use Rattle.rules.specs.Network.{drainage, order}
use Rattle.rules.specs.Way.{Drains}

-- the first n entries are the order and the receivers r of a land of n cells that drains
pub record Ordered (L : Land) (r : List ℕ) (n : ℕ) (ordered receivers : List ℕ) : Type 0 where
  pub cells : L.cells ≡ n
  pub few : n ≤ 4096
  pub whole : (c : ℕ) → c < n → L.solid c ≡ true
  pub drains : Drains L r
  pub fits_order : n ≤ length ordered
  pub fits_receivers : n ≤ length receivers
  pub order_is : take n ordered ≡ order L r
  pub receivers_are : (c : ℕ) → c < n → at receivers c ≡ at r c

-- what draining promises: the drainage of the first n cells, of whatever land the order and the receivers are
abbrev pub Drained : (n : ℕ) (water ordered receivers before after : List ℕ) → Type 0
Drained n water ordered receivers before after =
    (L : Land) (r : List ℕ) → Ordered L r n ordered receivers → after ≡ filled (drainage L water r) n before

-- c has given all it has to its receiver; an outlet, its own receiver, keeps it
abbrev pub given : List ℕ → ℕ → ℕ → List ℕ
given d c receiver = cond (eqb receiver c) d (set d receiver (at d receiver + at d c))
