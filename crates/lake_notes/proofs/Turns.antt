-- The functions of the pass, put together: what a pair's two searches and its joining make of the lists, the loop over the pairs, and what it
-- begins with.
-- Assumes nothing.
use mathlib.Core.List.{List}
use mathlib.Core.Path.{refl, sym, ◌∙◌, ◌≡◌}
use Prim.Native.Nat.{max, min, ℕ, ◌+◌, ◌<◌}
use native.Mathlib.Omega.{arith}
use lib.ListN.{length, set}
use Rattle.groups.proofs.Merging.{one-root, other_root, Searched, two_joined}
use Rattle.groups.specs.Groups.{Joined}
use Rattle.lake_notes.proofs.Climbs.{so_far_climbs}
use Rattle.lake_notes.proofs.Steps.{so_far_none}
use Rattle.lake_notes.specs.Meeting.{between_two, flags_met, Lists, lists_of, Met, pair_top, Sized, SoFar, within_one}
use Rattle.lake_notes.specs.WetPairs.{Climbing, met_touches}
use Rattle.lake_rules.specs.Notes.{highest}
use Rattle.lists.proofs.Filled.{filled_at}
use Rattle.lists.specs.Lists.{at, filled, upto}
use Rattle.pairs.specs.Pairs.{greater_of, lesser_of}
use Rattle.rules.specs.Land.{rule4}
use Rattle.rules.specs.Tile.{tile_land}

-- two searches found r and s, and left the list of groups h
module _ {height : ℕ → ℕ} {a b : ℕ} {old : Lists} {h : List ℕ} {r s : ℕ} (F : Searched old.group a b h r s) where
  pub met-one : r ≡ s
      → Met height a b old (lists_of h old.lows old.flags old.parents old.joins)
  met-one e = within_one (sym F.one ∙ e ∙ F.other) F.groups refl refl refl refl

  pub met-two : {new : Lists} → (r ≡ s → ⊥) → a < length h → b < length h → Joined h r s new.group
      → new.lows ≡ set old.lows (min r s) (min (at old.lows r) (at old.lows s))
      → new.flags ≡ flags_met height a b old.lows r s old.flags → new.parents ≡ set old.parents (max r s) (min r s)
      → new.joins ≡ set old.joins (max r s) (pair_top height a b) → Met height a b old new
  met-two {new} z la lb j lows flags parents joins =
      between_two r s F.one F.other z (two_joined F new.group (one-root F la) (other_root F lb) z j).1 lows flags parents joins

-- each list is as long as it was
pub record AsLong (old new : Lists) : Type 0 where
  pub group_long : length new.group ≡ length old.group
  pub lows_long : length new.lows ≡ length old.lows
  pub flags_long : length new.flags ≡ length old.flags
  pub parents_long : length new.parents ≡ length old.parents
  pub joins_long : length new.joins ≡ length old.joins

pub as_long_none : (l : Lists) → AsLong l l
as_long_none l = record { group_long = refl; lows_long = refl; flags_long = refl; parents_long = refl; joins_long = refl }

pub as_long_then : {a b c : Lists} → AsLong a b → AsLong b c → AsLong a c
as_long_then p q =
    record {
      group_long = q.group_long ∙ p.group_long;
      lows_long = q.lows_long ∙ p.lows_long;
      flags_long = q.flags_long ∙ p.flags_long;
      parents_long = q.parents_long ∙ p.parents_long;
      joins_long = q.joins_long ∙ p.joins_long;
    }

pub as_long_sized : {n : ℕ} {old new : Lists} → AsLong old new → Sized n old → Sized n new
as_long_sized p s =
    record {
      group_sized = p.group_long ∙ s.group_sized;
      lows_fit = omega (arith, p.lows_long, s.lows_fit);
      flags_fit = omega (arith, p.flags_long, s.flags_fit);
      parents_fit = omega (arith, p.parents_long, s.parents_fit);
      joins_fit = omega (arith, p.joins_long, s.joins_fit);
    }

-- after i pairs
pub record Turned (w : ℕ) (heights list : List ℕ) (old new : Lists) (i : ℕ) : Type 0 where
  pub long : AsLong old new
  pub size : Sized (length heights) new
  pub so_far : (marks : List ℕ) → SoFar (tile_land rule4 w heights marks) (met_touches w list i) new

pub turned_next : {w : ℕ} {heights list : List ℕ} {old l new : Lists} {i : ℕ} → Climbing w heights list → Turned w heights list old l i
    → i < length list → Met (at heights) (lesser_of (at list i)) (greater_of w (at list i)) l new → AsLong l new
    → Turned w heights list old new (i + 1)
turned_next {i = i} C T h m k =
    record {
      long = as_long_then T.long k;
      size = as_long_sized k T.size;
      so_far = λ marks. so_far_climbs C marks i h (T.so_far marks) T.size m;
    }

-- before the first pair
pub so_far_begun : (w : ℕ) (heights marks : List ℕ) (old l : Lists) → l.group ≡ upto (length heights)
    → l.lows ≡ filled (at heights) (length heights) old.lows → l.flags ≡ filled (λ c. 0) (length heights) old.flags
    → l.parents ≡ filled (λ c. c) (length heights) old.parents → l.joins ≡ filled (λ c. highest) (length heights) old.joins
    → (list : List ℕ) → SoFar (tile_land rule4 w heights marks) (met_touches w list 0) l
so_far_begun w heights marks old l group lows flags parents joins list =
    so_far_none (tile_land rule4 w heights marks) l group
    (λ c i. rw lows (filled_at (at heights) (length heights) old.lows c i))
    (λ c i. rw flags (filled_at (λ c. 0) (length heights) old.flags c i))
    (λ c i. rw parents (filled_at (λ c. c) (length heights) old.parents c i))
    (λ c i. rw joins (filled_at (λ c. highest) (length heights) old.joins c i))
