-- The kept pairs are enough crossings: each is a crossing, and every chosen pass is kept, as no square leaves it out.
-- Assumes nothing.
use mathlib.Core.Bool.{false, not, true, true≢false}
use mathlib.Core.List.{List, map}
use mathlib.Core.Logic.{inl, inr, ◌⊎◌}
use mathlib.Core.Path.{ap, refl, subst, sym, ◌∙◌, ◌≡◌}
use Prim.Native.Nat.{ℕ, ◌%◌, ◌*◌, ◌+◌, ◌-◌, ◌/◌, ◌<◌, ◌≤◌, ◌^◌}
use native.Mathlib.Nat.{mod-lt}
use native.Mathlib.Omega.{arith}
use lib.Dec.{eqb, ltb}
use lib.ListN.{length}
use borrow.Author.Tests.{eqb-false, eqb-true, eq-eqb, le-ltb, lt-ltb, ltb-true, not-true}
use Rattle.grid.proofs.Rows.{next_column}
use Rattle.grid.proofs.Rules.{rule_by_lem}
use Rattle.grid.proofs.Window.{beside_stands, stands_beside, stands_later}
use Rattle.grid.specs.Neighbours.{places_by}
use Rattle.grid.specs.Window.{Stands}
use Rattle.lists.proofs.Any.{any_holds, any_in}
use Rattle.lists.proofs.Keep.{keep_member}
use Rattle.lists.proofs.Map.{map_holds, map_member}
use Rattle.lists.proofs.Tests.{and_both, and_left, and_right, lt_or_ge, not_never}
use Rattle.lists.specs.Lists.{at, upto, ◌∈◌}
use Rattle.pairs.proofs.Pairs.{pair_crossing, pair-lesser, pair_rises, pair_stands}
use Rattle.pairs.specs.Pairs.{crossing_of, IsPair}
use Rattle.rules.proofs.Crossings.{Crosses, crosses, crossing, node_same}
use Rattle.rules.proofs.EnoughCrossings.{chosen_crossing}
use Rattle.rules.proofs.Kruskal.{chosen_apart}
use Rattle.rules.specs.Chain.{here}
use Rattle.rules.specs.Enough.{Suffices}
use Rattle.rules.specs.Land.{Land, rule_by}
use Rattle.rules.specs.NodeLabels.{Labelled}
use Rattle.rules.specs.Passes.{chosen, Crossing, crossings}
use Rattle.rules.specs.Tile.{Tile, tile_land}
use Rattle.squares.proofs.InSquares.{in_first, in_second, InRow, InSquare, pair_stands_there, stands_there}
use Rattle.squares.proofs.KeptPairs.{asked, each_four, kept_pair, kept_at, kept_pairs, tile_squares}
use Rattle.squares.proofs.LeftOut.{left_out_never}
use Rattle.squares.proofs.SquareKeys.{bit_told, pair}
use Rattle.squares.specs.declared.Side.{Side}
use Rattle.squares.specs.Squares.{has_bit, keeps, margined, side_at, square, square_at}
use Rattle.grid.specs.declared.Neighbours.{Neighbours}

-- a square by its place after the margin
module _ (square : ℕ → ℕ) where
  margin_back : (c b : ℕ) → b ≤ c → margined square (c + 64 - b) ≡ square (c - b)
  margin_back c b h = let e : c + 64 - b - 64 ≡ c - b = omega arith in rw (le-ltb (c + 64 - b) 64 (omega arith)) (ap square e)

  margin_none : (c b : ℕ) → c < b → margined square (c + 64 - b) ≡ 8
  margin_none c b h = rw (lt-ltb (c + 64 - b) 64 (omega arith))

module _ (N : Neighbours) (w : ℕ) (heights labels : List ℕ) where
  abbrev n : ℕ
  n = length heights

  abbrev sq : ℕ → ℕ
  sq = square_at N w heights labels

  abbrev Kept : (i c : ℕ) → Type 0
  Kept i c = kept_at N w heights labels i c ≡ true

  -- where no square begins
  ends-row : (c : ℕ) → w ≤ c % w + 1 → sq c ≡ 13
  unfolding square_at
  ends-row c h = rw (le-ltb (c % w + 1) w h)

  in_last-row : (c : ℕ) → c % w + 1 < w → n ≤ c + w → sq c ≡ 8
  unfolding square_at
  in_last-row c h k = rw (lt-ltb (c % w + 1) w h, le-ltb (c + w) n k)

  begins : (c : ℕ) → c % w + 1 < w → c + w < n → sq c ≡ square N w heights labels c
  unfolding square_at
  begins c h k = rw (lt-ltb (c % w + 1) w h, lt-ltb (c + w) n k)

  -- a pair that its first square doesn't leave out goes on in the row
  module _ (wide : 0 < w) (c : ℕ) where
    abbrev FirstKeeps : ℕ → Type 0
    FirstKeeps i = has_bit (margined sq (c + 64 - (side_at w i).first)) (side_at w i).here ≡ false

    goes_on : (bit : ℕ) → has_bit 13 bit ≡ true → has_bit (margined sq (c + 64 - 0)) bit ≡ false → c % w + 2 ≤ w
    goes_on bit t z = go (lt_or_ge (c % w + 1) w)
      where
        go : (c % w + 1 < w) ⊎ (w ≤ c % w + 1) → c % w + 2 ≤ w
        go (inl h) = omega arith
        go (inr h) =
            let e : c - 0 ≡ c = omega arith in
            let q : margined sq (c + 64 - 0) ≡ 13 = margin_back sq c 0 (omega arith) ∙ ap sq e ∙ ends-row c h in
            absurd (true≢false (sym t ∙ ap (λ (x : ℕ). has_bit x bit) (sym q) ∙ z))

    not_first : has_bit (margined sq (c + 64 - 1)) 8 ≡ false → 0 < c % w
    not_first z = go (lt_or_ge 0 (c % w)) (lt_or_ge c 1)
      where
        out : {x : ℕ} → margined sq (c + 64 - 1) ≡ x → has_bit x 8 ≡ true → ⊥
        out e t = true≢false (sym t ∙ ap (λ (x : ℕ). has_bit x 8) (sym e) ∙ z)

        go : (0 < c % w) ⊎ (c % w ≤ 0) → (c < 1) ⊎ (1 ≤ c) → 0 < c % w
        go (inl h) b = h
        go (inr h) (inl b) = absurd (out (margin_none sq c 1 b) refl)
        go (inr h) (inr b) = absurd (out (margin_back sq c 1 b ∙ ends-row (c - 1) (last (lt_or_ge ((c - 1) % w + 1) w))) refl)
          where
            last : ((c - 1) % w + 1 < w) ⊎ (w ≤ (c - 1) % w + 1) → w ≤ (c - 1) % w + 1
            last (inl k) =
                let e = next_column (c - 1) w k in
                let f : (c - 1 + 1) % w ≡ c % w = ap (λ (x : ℕ). x % w) (let y : c - 1 + 1 ≡ c = omega arith in y) in
                absurd (omega arith)
            last (inr k) = k

    kept_row : (i : ℕ) → i < 4 → FirstKeeps i → InRow w i c
    kept_row =
        let m = mod-lt c wide in
        each_four (λ i. FirstKeeps i → InRow w i c)
        (λ z. (omega arith, goes_on 1 refl z))
        (λ z. let h = not_first z in (omega arith, omega arith))
        (λ z. (omega arith, omega arith))
        (λ z. (omega arith, goes_on 4 refl z))

  -- what is kept is asked for, on the tile, between two labels, and not left out by its first square
  module _ (i c : ℕ) (t : Kept i c) where
    abbrev S : Side
    S = side_at w i

    abbrev first : ℕ
    first = margined sq (c + 64 - S.first)

    keeps_it : keeps S n labels (tile_squares N w heights labels) c ≡ true
    keeps_it = and_right (asked N w heights labels i) _ t

    kept-asked : 5 + i ∈ places_by N
    kept-asked = any_in (and_left (asked N w heights labels i) _ t)

    kept_says : (c + S.on < n) × (at labels c ≡ at labels (c + S.on) → ⊥) × (has_bit first S.here ≡ false)
    unfolding keeps
    kept_says =
        let a = and_right (ltb (c + S.on) n) _ keeps_it in
        let b = and_right (not (eqb (at labels c) (at labels (c + S.on)))) _ a in (
          ltb-true _ _ (and_left (ltb (c + S.on) n) _ keeps_it),
          eqb-false (at labels c) (at labels (c + S.on)) (not-true _ (and_left (not (eqb (at labels c) (at labels (c + S.on)))) _ a)),
          not-true _ (and_left (not (has_bit first S.here)) _ b),
        )

    kept_stands : 0 < w → i < 4 → Stands w n c (5 + i) (c + S.on)
    kept_stands wide few = let (k, d, z) = kept_says in pair_stands_there w wide few (kept_row wide c i few z) k

  module _ (wide : 0 < w) (p : ℕ) (m : p ∈ kept_pairs N w heights labels) where
    is-kept : Kept (p % 4) (p / 4)
    is-kept = (keep_member (λ q. kept_at N w heights labels (q % 4) (q / 4)) (upto (4 * n)) m).1

    stands : Stands w n (p / 4) (5 + p % 4) (p / 4 + (side_at w (p % 4)).on)
    stands = kept_stands (p % 4) (p / 4) is-kept wide (omega arith)

    pub pairs-neighbours : IsPair w (length heights) p
    pairs-neighbours = pair_stands p (p % 4) (omega arith) (omega arith) stands

  module _ (marks : List ℕ) (T : Tile w heights marks) (B : Labelled (tile_land (rule_by N) w heights marks) labels) where
    abbrev L : Land
    L = tile_land (rule_by N) w heights marks

    wide : 0 < w
    wide = T.grid.rows.wide

    -- a kept pair is a crossing
    kept_crossing : (p : ℕ) → p ∈ kept_pairs N w heights labels → crossing_of w p ∈ crossings L
    kept_crossing p m =
        let P = pairs-neighbours wide p m in
        let (k, d, z) = kept_says (p % 4) (p / 4) (is-kept wide p m) in
        let e = pair_crossing p (p % 4) (omega arith) (omega arith) (stands wide p m) in
        crossing L (crossing_of w p)
        (record {
          less = pair_rises w n p P;
          on_lo = pair-lesser w n p P;
          on_hi = P.on;
          beside = stands_beside P (kept-asked (p % 4) (p / 4) (is-kept wide p m));
          differ = λ q. d (B.told _ _ (pair-lesser w n p P) P.on (node_same L _ _ q) ∙ ap (λ (x : Crossing). at labels x.greater) e);
        })

    only : (x : Crossing) → x ∈ map (crossing_of w) (kept_pairs N w heights labels) → x ∈ crossings L
    only x m =
        let (p, i, e) = map_member (crossing_of w) (kept_pairs N w heights labels) m in
        subst (λ (y : Crossing). y ∈ crossings L) (sym e) (kept_crossing p i)

    -- no square leaves out a chosen pass
    module _ (i c : ℕ) (few : i < 4) (a : 5 + i ∈ places_by N) (r : InRow w i c) (k : c + (side_at w i).on < n)
        (m : pair c (c + (side_at w i).on) ∈ chosen L) where
      apart : at labels c ≡ at labels (c + (side_at w i).on) → ⊥
      apart e = chosen_apart L (pair c (c + (side_at w i).on)) m (here (B.same c (c + (side_at w i).on) (omega arith) k e))

      never_out : {back bit : ℕ} → InSquare w i back bit → has_bit (margined sq (c + 64 - back)) bit ≡ true → ⊥
      never_out {back} {bit} Q t = go (lt_or_ge c back)
        where
          says : {x : ℕ} → margined sq (c + 64 - back) ≡ x → has_bit x (2 ^ Q.number) ≡ true
          says e = subst (λ (x : ℕ). has_bit x (2 ^ Q.number) ≡ true) e (subst (λ (b : ℕ). has_bit (margined sq (c + 64 - back)) b ≡ true) Q.bit_is t)

          third : has_bit 8 (2 ^ Q.number) ≡ true → 3 ≡ Q.number
          third u = bit_told 3 Q.number u

          out : back ≤ c → (s : ℕ) → s + back ≡ c → margined sq (c + 64 - back) ≡ sq s → (s % w + 1 < w) ⊎ (w ≤ s % w + 1)
              → (s + w < n) ⊎ (n ≤ s + w) → ⊥
          out l s e q (inr h) v = omega (arith, Q.row_end s c e (says (q ∙ ends-row s h)) r)
          out l s e q (inl h) (inr v) = omega (arith, Q.last_row n s c e (third (says (q ∙ in_last-row s h v))) k)
          out l s e q (inl h) (inl v) =
              let f = Q.is s c e in
              left_out_never N w heights marks labels s (record { tile = T; labelled = B; column = h; above = v }) Q.number Q.small
              (subst (λ (p : ℕ). p ∈ places_by N) (sym (Q.place s)) a)
              (says (q ∙ begins s h v))
              (λ z. apart (ap (λ (x : Crossing). at labels x.lesser) (sym f) ∙ z ∙ ap (λ (x : Crossing). at labels x.greater) f))
              (subst (λ (x : Crossing). x ∈ chosen L) (sym f) m)

          go : (c < back) ⊎ (back ≤ c) → ⊥
          go (inl l) = omega (arith, Q.margin c (third (says (margin_none sq c back l))) r)
          go (inr l) = out l (c - back) (omega arith) (margin_back sq c back l) (lt_or_ge ((c - back) % w + 1) w) (lt_or_ge (c - back + w) n)

      -- so it is kept
      chosen-kept : Kept i c
      unfolding keeps
      chosen-kept =
          and_both _ _ (any_holds (eqb (5 + i)) a (eq-eqb (5 + i) (5 + i) refl))
          (and_both _ _ (lt-ltb _ _ k)
          (and_both _ _ (not_never _ (λ t. apart (eqb-true _ _ t)))
          (and_both _ _ (not_never _ (never_out (in_first w wide i few))) (not_never _ (never_out (in_second w wide i few))))))

    all : (x : Crossing) → x ∈ chosen L → x ∈ map (crossing_of w) (kept_pairs N w heights labels)
    all x m =
        let C = crosses L x (chosen_crossing L x m) in
        let (q, a, P) = beside_stands (places_by N) w n x.lesser x.greater (rule_by_lem N) C.on_hi C.beside in
        let l : 4 < q = stands_later C.less P in
        put C (q - 5) (omega (arith, P.place)) (subst (λ (p : ℕ). p ∈ places_by N) (let e : q ≡ 5 + (q - 5) = omega arith in e) a)
        (subst (λ (p : ℕ). Stands w n x.lesser p x.greater) (let e : q ≡ 5 + (q - 5) = omega arith in e) P)
      where
        put : Crosses L x → (i : ℕ) → i < 4 → 5 + i ∈ places_by N → Stands w n x.lesser (5 + i) x.greater
            → x ∈ map (crossing_of w) (kept_pairs N w heights labels)
        put C i few a P =
            let (e, r) = stands_there w wide few P in
            let s : x ≡ pair x.lesser (x.lesser + (side_at w i).on) = ap (pair x.lesser) e in
            let k = chosen-kept i x.lesser few a r (omega (arith, C.on_hi)) (subst (λ (y : Crossing). y ∈ chosen L) s m) in
            subst (λ (y : Crossing). y ∈ map (crossing_of w) (kept_pairs N w heights labels))
            (pair_crossing (x.lesser * 4 + i) i (omega arith) few P)
            (map_holds (crossing_of w) (kept_pair N w heights labels i x.lesser few C.on_lo k))

    -- the pairs that are kept are enough
    pub pairs_suffice : Suffices (tile_land (rule_by N) w heights marks) (map (crossing_of w) (kept_pairs N w heights labels))
    pairs_suffice = record { only = only; all = all }
