-- What the parts of the listing give together: the squares, the flags, and the pairs.
-- Assumes nothing.
use mathlib.Core.List.{List, map, ◌++◌}
use mathlib.Core.Logic.{inl, inr, ◌⊎◌}
use mathlib.Core.Path.{ap, subst, sym, ◌∙◌, ◌≡◌}
use Prim.Native.Nat.{ℕ, ◌%◌, ◌*◌, ◌+◌, ◌-◌, ◌/◌, ◌<◌, ◌≤◌}
use native.Mathlib.Nat.{add-mod_right}
use native.Mathlib.Omega.{arith}
use lib.Dec.{eqb}
use lib.ListN.{drop, length, get_or-append, take}
use lib.Seq.{get_or-append-add, get_or-drop, get_or-take, length-take-le}
use borrow.Author.Tests.{le-ltb, lt-ltb}
use Rattle.grid.proofs.Rows.{right_on}
use Rattle.grid.specs.Window.{Grid}
use Rattle.lists.proofs.Filled.{filled_at, filled-by, filled-length}
use Rattle.lists.proofs.Keep.{keep_same}
use Rattle.lists.proofs.Range.{upto-below}
use Rattle.lists.proofs.Stretch.{stretch-length}
use Rattle.lists.proofs.Tests.{lt_or_ge}
use Rattle.lists.specs.Ascending.{Ascending}
use Rattle.lists.specs.Lists.{at, filled, stretch, upto}
use Rattle.lists.specs.Stores.{Packs, Puts}
use Rattle.pairs.specs.Pairs.{crossing_of, Pairs}
use Rattle.rules.specs.Enough.{Suffices}
use Rattle.rules.specs.Land.{rule_by}
use Rattle.rules.specs.Tile.{tile_land}
use Rattle.squares.proofs.Flags.{flags_same}
use Rattle.squares.proofs.KeptPairs.{flag_of, kept_pairs, pairs_ascend, pairs-kept, tile_squares}
use Rattle.squares.proofs.Sufficing.{pairs-neighbours, pairs_suffice}
use Rattle.squares.specs.Listing.{Listed, pairs_for}
use Rattle.squares.specs.Squares.{bit_at, Ends, flag_by, flagged, pairs_of, square, square_at}
use Rattle.grid.specs.declared.Neighbours.{Neighbours}

module _ (N : Neighbours) (w : ℕ) (heights labels : List ℕ) where
  abbrev n : ℕ
  n = length heights

  -- the squares are all there: first those of all rows but the last, then the ends of the rows
  pub squares_filled : Grid w (length heights) → {s₀ s₁ s₂ : List ℕ} → n ≤ length s₀ → ((k : ℕ) → k < n → at s₀ k ≡ 8)
      → Puts (square N w heights labels) 0 (n - (w + 1)) s₀ s₁ → Ends w n s₁ s₂ → s₂ ≡ filled (square_at N w heights labels) n s₀
  unfolding square_at
  squares_filled G {s₀} {s₁} {s₂} room eights A E =
      filled-by (square_at N w heights labels) n s₀ s₂ room (E.long ∙ A.long)
      (λ k h. go k h (lt_or_ge (k % w + 1) w) (lt_or_ge (k + w) n))
      (λ k h. E.rest k (inl h) ∙ A.outside k (inr (omega arith)))
    where
      go : (k : ℕ) → k < n → (k % w + 1 < w) ⊎ (w ≤ k % w + 1) → (k + w < n) ⊎ (n ≤ k + w) → at s₂ k ≡ square_at N w heights labels k
      go k h (inl c) (inl l) =
          let d : (k + w) % w + 1 < w = subst (λ (m : ℕ). m + 1 < w) (sym (add-mod_right k w)) c in
          let o : k + w + 1 < n = right_on n w (k + w) G.rows.whole l d in
          E.rest k (inr c) ∙ A.inside k (omega arith) (omega arith) ∙ rw (lt-ltb (k % w + 1) w c, lt-ltb (k + w) n l)
      go k h (inl c) (inr l) =
          E.rest k (inr c) ∙ A.outside k (inr (omega arith)) ∙ eights k h ∙ rw (lt-ltb (k % w + 1) w c, le-ltb (k + w) n l)
      go k h (inr c) l = E.last k h c ∙ rw (le-ltb (k % w + 1) w c)

  -- the part of a list after its margin: all 8s, and then the squares; the margin is as it was
  module _ (l : List ℕ) (room : n + 64 ≤ length l) (eights : (i : ℕ) → i < n + 64 → at l i ≡ 8) where
    abbrev part : List ℕ
    part = stretch 64 (length l - 64) l

    part_long : length part ≡ length l - 64
    part_long = stretch-length 64 (length l - 64) l (omega arith)

    pub part_room : n ≤ length part
    part_room = omega (arith, part_long)

    pub part_eights : (k : ℕ) → k < n → at part k ≡ 8
    part_eights k h = get_or-take (length l - 64) (drop 64 l) k 0 (omega arith) ∙ get_or-drop 64 l k 0 ∙ eights (64 + k) (omega arith)

    pub squares_margined : {p : List ℕ} (rest : List ℕ) → p ≡ filled (square_at N w heights labels) n part
        → (i : ℕ) → i < n + 64 → at (take 64 l ++ (p ++ rest)) i ≡ tile_squares N w heights labels i
    squares_margined {p} rest f i h = go (lt_or_ge i 64)
      where
        margin : length (take 64 l) ≡ 64
        margin = length-take-le 64 l (omega arith)

        long : length p ≡ length l - 64
        long = ap length f ∙ filled-length (square_at N w heights labels) n part part_room ∙ part_long

        go : (i < 64) ⊎ (64 ≤ i) → at (take 64 l ++ (p ++ rest)) i ≡ tile_squares N w heights labels i
        go (inl b) =
            get_or-append (take 64 l) (p ++ rest) 0 i (omega (arith, margin)) ∙ get_or-take 64 l i 0 b ∙ eights i h ∙ rw (lt-ltb i 64 b)
        go (inr b) =
            let k : length (take 64 l) + (i - 64) ≡ i = omega (arith, margin) in
            ap (at (take 64 l ++ (p ++ rest))) (sym k)
            ∙ get_or-append-add (take 64 l) (p ++ rest) (i - 64) 0
            ∙ get_or-append p rest 0 (i - 64) (omega (arith, long))
            ∙ ap (λ (z : List ℕ). at z (i - 64)) f
            ∙ filled_at (square_at N w heights labels) n part (i - 64) (omega arith)
            ∙ rw (le-ltb i 64 b)

-- the lists one after the other: squares q after their margin, and flags f
module _ (N : Neighbours) (w : ℕ) (heights labels q f : List ℕ)
    (Q : (i : ℕ) → i < length heights + 64 → at q i ≡ tile_squares N w heights labels i)
    (F : (c : ℕ) → c < length heights → at f c ≡ flag_by N w (length heights) labels (at q) c) where
  abbrev m : ℕ
  m = length heights

  pairs_are : pairs_of m (at f) ≡ kept_pairs N w heights labels
  unfolding pairs_of
  pairs_are =
      keep_same (flagged (at f)) (flagged (flag_of N w heights labels)) (upto (4 * m))
      (λ p i.
      let h : p < 4 * m = upto-below i in
      let k : p / 4 < m = omega arith in
      ap (λ (z : ℕ). eqb (bit_at (p % 4) z) 1) (F (p / 4) k ∙ flags_same N w m labels (at q) (tile_squares N w heights labels) Q (p / 4) k))
      ∙ pairs-kept N w heights labels

  -- the pairs are listed
  pub listed : Grid w (length heights) → {list' : List ℕ} {r : ℕ} → Packs (pairs_of m (at f)) list' r → r ≤ pairs_for N m
      → Listed N w heights labels list' r
  listed K {list'} {r} P h =
      record {
        within = h;
        neighbours = subst (Pairs w m) (sym e) (pairs-neighbours N w heights labels K.rows.wide);
        ascending = subst Ascending (sym e) (pairs_ascend N w heights labels);
        suffices = λ marks T B.
            subst (λ (l : List ℕ). Suffices (tile_land (rule_by N) w heights marks) (map (crossing_of w) l)) (sym e)
            (pairs_suffice N w heights labels marks T B);
      }
    where
      e : take r list' ≡ kept_pairs N w heights labels
      e = P.first ∙ pairs_are
