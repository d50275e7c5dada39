-- The beginning: the marked cells that have a neighbour to go on to are gathered into the queue, by ascending number.
-- Assumes nothing.
use mathlib.Core.Bool.{Bool, cond, false, true}
use mathlib.Core.List.{[], List, map, map-append, ◌++◌, ◌∷◌}
use mathlib.Core.Logic.{inl, inr, ◌⊎◌}
use mathlib.Core.Path.{ap, refl, subst, sym, ◌∙◌, ◌≡◌}
use Prim.Native.Nat.{ℕ, ◌+◌, ◌<◌, ◌≤◌}
use native.Mathlib.Omega.{arith}
use lib.Dec.{eqb}
use lib.ListN.{length, length-map, set}
use borrow.Author.Tests.{eq-eqb, eqb-true}
use Rattle.lists.proofs.At.{at_member, at_place}
use Rattle.lists.proofs.Keep.{keep_holds, keep-length, keep_member}
use Rattle.lists.proofs.Map.{map_holds, map_member}
use Rattle.lists.proofs.Packs.{keep-next, packs_bit}
use Rattle.lists.proofs.Range.{range_length, upto-below, upto_holds}
use Rattle.lists.proofs.Tests.{and_both, and_left, cond-one, cond_small, is, isnt, Known, known, so_not}
use Rattle.lists.specs.Lists.{at, keep, upto}
use Rattle.lists.specs.Stores.{Packs}
use Rattle.spread.proofs.Breadth.{alone, blanks, count_at, count_of, queued, Spreading, uncounted, Whereabouts}
use Rattle.spread.proofs.Places.{no_steps}
use Rattle.spread.specs.Spread.{marked_in, Spreadable}
use Rattle.spread.specs.Steps.{arrived, none, Steps}
use Rattle.spread.specs.Wave.{beginnings, begins, wave, Wave}
use Rattle.grid.specs.declared.Neighbours.{Neighbours}

-- one cell more
pub gather_next : (masks counts : List ℕ) {queue : List ℕ} {tail : ℕ} (c b : ℕ) → b ≡ cond (begins masks counts c) 1 0 → tail < length queue
    → Packs (beginnings masks counts c) queue tail → Packs (beginnings masks counts (c + 1)) (set queue tail (c + 65)) (tail + b)
gather_next masks counts {queue} {tail} c b e fits P =
    subst (λ (p : List ℕ). Packs p (set queue tail (c + 65)) (tail + b)) (sym more)
    (packs_bit (c + 65) b P fits (subst (λ (x : ℕ). x ≤ 1) (sym e) (cond_small (begins masks counts c))))
  where
    t : ℕ → Bool
    t = begins masks counts

    test : t c ≡ eqb b 1
    test = sym (ap (λ (x : ℕ). eqb x 1) e ∙ cond-one (t c))

    one : (q : Bool) → map (λ c. c + 65) (cond q (c ∷ []) []) ≡ cond q ((c + 65) ∷ []) []
    one true = refl
    one false = refl

    more : beginnings masks counts (c + 1) ≡ beginnings masks counts c ++ cond (eqb b 1) ((c + 65) ∷ []) []
    more =
        ap (map (λ c. c + 65)) (keep-next t c b test)
        ∙ map-append (λ c. c + 65) (keep t (upto c)) (cond (eqb b 1) (c ∷ []) [])
        ∙ ap (λ (l : List ℕ). beginnings masks counts c ++ l) (one (eqb b 1))

-- at most one place for each cell
pub gather_few : (masks counts : List ℕ) (c : ℕ) → length (beginnings masks counts c) ≤ c
gather_few masks counts c =
    let a = length-map (keep (begins masks counts) (upto c)) (λ c. c + 65) in
    let b = keep-length (begins masks counts) (upto c) in
    let e = range_length c 0 in
    omega arith

-- tests that are never both met: no more pass than there are
keep_apart : (p q : ℕ → Bool) (l : List ℕ) → ((x : ℕ) → p x ≡ true → q x ≡ true → ⊥) → length (keep p l) + length (keep q l) ≤ length l
keep_apart p q [] f = omega arith
keep_apart p q (x ∷ xs) f = go (known (p x)) (known (q x)) (keep_apart p q xs f)
  where
    go : Known (p x) → Known (q x) → length (keep p xs) + length (keep q xs) ≤ length xs → length (keep p (x ∷ xs)) + length (keep q (x ∷ xs)) ≤ length (x ∷ xs)
    go (is a) (is b) ih = absurd (f x a b)
    go (is a) (isnt b) ih = rw (a, b) (omega (arith, ih))
    go (isnt a) (is b) ih = rw (a, b) (omega (arith, ih))
    go (isnt a) (isnt b) ih = rw (a, b) (omega (arith, ih))

module _ {N : Neighbours} {w : ℕ} {E : ℕ → ℕ → Bool} {masks counts queue : List ℕ} (P : Spreadable N w E masks counts queue) where
  abbrev n : ℕ
  n = length masks

  abbrev t : ℕ → Bool
  t = begins masks counts

  abbrev cells : List ℕ
  cells = keep t (upto n)

  abbrev s : Wave
  s = record { counts = counts; queue = beginnings masks counts n; tail = length (beginnings masks counts n) }

  -- what stands in the queue
  record Begun (i c : ℕ) : Type 0 where
    pub on : c < n
    pub zero : count_of s c ≡ 0
    pub is_at : at s.queue i ≡ c + 65

  begun : (i : ℕ) → i < s.tail → (c : ℕ) × Begun i c
  begun i l =
      let (c, m, e) = map_member (λ c. c + 65) cells (at_member s.queue i l) in
      let (on, b) = keep_member t (upto n) m in
      (c, record { on = upto-below on; zero = eqb-true _ _ (and_left (eqb (count_of s c) 0) _ b); is_at = e })

  zero_at : (i : ℕ) → i < s.tail → count_at s i ≡ 0
  zero_at i l = let (c, B) = begun i l in ap (at counts) B.is_at ∙ B.zero

  stands : (c : ℕ) → c < n → Whereabouts n E (marked_in counts) counts s c
  stands c l = go (P.first c l) (known (eqb (at masks c) 0))
    where
      go : (count_of s c ≡ 0) ⊎ (count_of s c ≡ none) → Known (eqb (at masks c) 0) → Whereabouts n E (marked_in counts) counts s c
      go (inl z) (is k) = alone z (no_steps P c l (eqb-true _ _ k))
      go (inl z) (isnt k) =
          let b : t c ≡ true = and_both _ _ (eq-eqb (count_of s c) 0 z) (so_not _ k) in
          let (j, h, e) = at_place s.queue (map_holds (λ c. c + 65) (keep_holds t (upto_holds l) b)) in
          queued (record { place = j; before = h; is = sym e })
      go (inr z) k = uncounted z

  way : (c : ℕ) → c < n → count_of s c < none → Steps n E (marked_in counts) c (count_of s c)
  way c l k = go (P.first c l)
    where
      go : (count_of s c ≡ 0) ⊎ (count_of s c ≡ none) → Steps n E (marked_in counts) c (count_of s c)
      go (inl z) = subst (Steps n E (marked_in counts) c) (sym z) (arrived l (eq-eqb (count_of s c) 0 z))
      go (inr z) = absurd (omega arith)

  roomy : blanks n s + s.tail ≤ n
  roomy =
      let a : length s.queue ≡ length cells = length-map cells (λ c. c + 65) in
      let b : blanks n s + length cells ≤ length (upto n) =
      keep_apart (λ c. eqb (count_of s c) none) t (upto n) (λ c x y.
      let u : count_of s c ≡ none = eqb-true _ _ x in
      let v : count_of s c ≡ 0 = eqb-true _ _ (and_left (eqb (count_of s c) 0) _ y) in
      omega arith) in
      let e = range_length n 0 in
      omega arith

  begin_at : Spreading n E (marked_in counts) counts 0 s
  begin_at =
      record {
        few = P.grid.few;
        fits = let r = P.room in omega arith;
        size = refl;
        roomy = roomy;
        taken = omega arith;
        on = λ i l. let (c, B) = begun i l in let h = B.on in let e = B.is_at in (omega arith, omega arith);
        stands = stands;
        way = way;
        early = λ i l. let z = zero_at i l in omega arith;
        rising = λ i j l k. let y = zero_at i (omega arith) in let z = zero_at j k in omega arith;
        close = λ i j l u v. let y = zero_at i u in let z = zero_at j v in omega arith;
        zeros = λ c l q. eqb-true (count_of s c) 0 q;
        spread = λ i c d l q k e. absurd (omega arith);
        same_length = refl;
        margin = λ i o. refl;
      }

  -- where they were gathered, nothing is taken out yet
  pub begin : {list : List ℕ} {tail : ℕ} → Packs (beginnings masks counts (length masks)) list tail
      → Spreading (length masks) E (marked_in counts) counts 0 (wave counts list tail)
  begin {list} {tail} G =
      subst (Spreading n E (marked_in counts) counts 0) (λ i. record { counts = counts; queue = sym G.first i; tail = sym G.count i }) begin_at
