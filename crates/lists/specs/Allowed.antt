-- What a contract allows of a call that answers and writes into what it is lent.
-- Assumes nothing.
use Rattle.std.specs.Prelude.{◌≡◌}

module _ {A B : Type 0} where
  -- the answer is the one that is said, and the lent lists are left as that answer leaves them
  pub record Allowed (said : A) (left : A → B) (r : A) (after : B) : Type 0 where
    pub answer : r ≡ said
    pub lists : after ≡ left r
