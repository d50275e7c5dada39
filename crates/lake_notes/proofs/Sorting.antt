-- The pairs of neighbouring wet cells can be sorted, and once they are, none is lower than one before it.
-- Assumes nothing.
use mathlib.Core.List.{List}
use mathlib.Core.Logic.{inl, inr, ◌⊎◌}
use mathlib.Core.Path.{subst, sym, ◌≡◌}
use Prim.Native.Nat.{ℕ, ◌<◌, ◌≤◌}
use native.Mathlib.Omega.{arith}
use lib.Arith.{digits_lt}
use lib.ListN.{length}
use Rattle.lake_notes.proofs.WetPairs.{pairs_ascend, pairs-most, pairs-neighbours}
use Rattle.lake_notes.specs.Noting.{Levelled}
use Rattle.lake_notes.specs.WetPairs.{WetClimbing, wet_pairs}
use Rattle.lists.proofs.At.{at_member}
use Rattle.lists.proofs.Tests.{lt_or_ge}
use Rattle.lists.specs.Lists.{at, ◌∈◌}
use Rattle.pairs.proofs.Pairs.{pair_small}
use Rattle.pairs.specs.Pairs.{pair_height, Pairs}
use Rattle.sorting.specs.SortedPairs.{Sortable, SortedPairs}

module _ {w : ℕ} {heights levels : List ℕ} (T : Levelled w heights levels) where
  abbrev n : ℕ
  n = length heights

  abbrev pairs : List ℕ
  pairs = wet_pairs w heights levels n

  pub wet_sortable : {l : List ℕ} → l ≡ wet_pairs w heights levels (length heights) → Sortable w heights l
  wet_sortable e =
      subst (Sortable w heights) (sym e)
      (record {
        wide = T.grid.rows.wide;
        narrow = T.grid.narrow;
        few = T.grid.few;
        lifted = T.heights_lifted;
        neighbours = pairs-neighbours w heights levels T.grid;
        short = omega (arith, pairs-most w heights levels n, T.grid.few);
        ascending = pairs_ascend w heights levels n;
      })

  pub wet_climbing : {l s : List ℕ} → l ≡ wet_pairs w heights levels (length heights) → SortedPairs w heights l s → WetClimbing w heights levels s
  wet_climbing {l} {s} e S =
      record {
        climbing = record { wide = T.grid.rows.wide; narrow = T.grid.narrow; few = T.grid.few; neighbours = near; climbs = climbs };
        only = only;
        all = λ p m. S.all p (subst (λ (z : List ℕ). p ∈ z) (sym e) m);
      }
    where
      only : (p : ℕ) → p ∈ s → p ∈ pairs
      only p m = subst (λ (z : List ℕ). p ∈ z) e (S.only p m)

      near : Pairs w n s
      near p m = pairs-neighbours w heights levels T.grid p (only p m)

      high : ℕ → ℕ
      high i = pair_height w heights (at s i)

      climbs : (i j : ℕ) → i < j → j < length s → high i ≤ high j
      climbs i j l k = go (lt_or_ge (high j) (high i))
        where
          go : (high j < high i) ⊎ (high i ≤ high j) → high i ≤ high j
          go (inl h) =
              let d = digits_lt h (pair_small w n (at s j) (near (at s j) (at_member s j k)) T.grid.few) in
              let a = S.ascending i j l k in
              absurd (omega arith)
          go (inr h) = h
