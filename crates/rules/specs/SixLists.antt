-- Six lists of a network, wherever they stand: whole, lent and longer than the network, or their first entries.
-- Assumes nothing.
use Rattle.std.specs.Prelude.{List, ◌≡◌, min, ℕ, ◌≤◌, length, take}
use Rattle.lists.specs.Lists.{overwrite}
use Rattle.rules.specs.Network.{Network}

module _ {Level : Type 0} where
  abbrev pub six_lists : (receivers basins order : List ℕ) (levels : List Level) (drainage wet : List ℕ) → Network Level
  six_lists r b o l d t = record { receivers = r; basins = b; order = o; levels = l; drainage = d; wet = t }

  -- a network at the start of six lent lists: what is past it is as it was
  abbrev pub onto : (new old : Network Level) → Network Level
  onto new old =
      record {
        receivers = overwrite new.receivers old.receivers;
        basins = overwrite new.basins old.basins;
        order = overwrite new.order old.order;
        levels = overwrite new.levels old.levels;
        drainage = overwrite new.drainage old.drainage;
        wet = overwrite new.wet old.wet;
      }

  -- the first n entries of each
  abbrev pub first_of : ℕ → Network Level → Network Level
  first_of n s =
      record {
        receivers = take n s.receivers;
        basins = take n s.basins;
        order = take n s.order;
        levels = take n s.levels;
        drainage = take n s.drainage;
        wet = take n s.wet;
      }

  -- the length of the shortest
  abbrev pub shortest : Network Level → ℕ
  shortest s =
      min (length s.receivers)
      (min (length s.basins) (min (length s.order) (min (length s.levels) (min (length s.drainage) (length s.wet)))))

  -- each has at least n entries
  pub record Holds (n : ℕ) (s : Network Level) : Type 0 where
    pub receivers_hold : n ≤ length s.receivers
    pub basins_hold : n ≤ length s.basins
    pub order_holds : n ≤ length s.order
    pub levels_hold : n ≤ length s.levels
    pub drainage_holds : n ≤ length s.drainage
    pub wet_holds : n ≤ length s.wet

  -- each has n entries
  pub record Full (n : ℕ) (s : Network Level) : Type 0 where
    pub receivers_full : length s.receivers ≡ n
    pub basins_full : length s.basins ≡ n
    pub order_full : length s.order ≡ n
    pub levels_full : length s.levels ≡ n
    pub drainage_full : length s.drainage ≡ n
    pub wet_full : length s.wet ≡ n
