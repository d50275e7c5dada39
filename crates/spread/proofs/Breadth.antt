-- Breadth first, over any relation E: cells are taken out of a queue in the order in which they entered it, and each gives those that may step
-- to it a count one more than its own. No grid here, but for the margin: cell c is counted at place c + 65, and the queue holds such places.
-- Assumes nothing.
use mathlib.Core.Bool.{Bool, true}
use mathlib.Core.List.{[], List, ◌∷◌}
use mathlib.Core.Logic.{inl, inr, ◌⊎◌}
use mathlib.Core.Path.{ap, subst, sym, ◌∙◌, ◌≡◌}
use Prim.Native.Nat.{suc, ℕ, ◌+◌, ◌<◌, ◌≤◌}
use native.Mathlib.Omega.{arith}
use lib.Dec.{eqb}
use lib.ListN.{length, length-append, length-set, get_or-append}
use lib.Seq.{get_or_at, get_or-set_other, get_or-set_same}
use borrow.Author.Tests.{eq-eqb, eqb-true, ne_eqb}
use Rattle.lists.proofs.Keep.{keep-length_lt}
use Rattle.lists.proofs.Range.{upto_holds}
use Rattle.lists.proofs.Tests.{eq_or_ne, lt_or_ge}
use Rattle.lists.specs.Lists.{at, keep, upto}
use Rattle.spread.specs.Steps.{none, onward, Steps}
use Rattle.spread.specs.Wave.{entered, Wave}

-- a number below k + 1 is below k, or k
pub last_or : (i k : ℕ) → i < k + 1 → (i < k) ⊎ (i ≡ k)
last_or i k h = go (lt_or_ge i k)
  where
    go : (i < k) ⊎ (k ≤ i) → (i < k) ⊎ (i ≡ k)
    go (inl l) = inl l
    go (inr l) = inr (omega arith)

-- the count of a cell, and of what stands at a place of the queue
abbrev pub count_of : Wave → ℕ → ℕ
count_of s c = at s.counts (c + 65)

abbrev pub count_at : Wave → ℕ → ℕ
count_at s i = at s.counts (at s.queue i)

-- a cell stands in the queue
pub record Queued (s : Wave) (c : ℕ) : Type 0 where
  pub place : ℕ
  pub before : place < s.tail
  pub is : at s.queue place ≡ c + 65

-- how many of n cells have no count
abbrev pub blanks : ℕ → Wave → ℕ
blanks n s = length (keep (λ c. eqb (count_of s c) none) (upto n))

module _ (n : ℕ) (E : ℕ → ℕ → Bool) (marked : ℕ → Bool) (old : List ℕ) where
  -- where a cell may be: it has no count, or it stands in the queue, or it is marked and nothing may step to it
  pub data Whereabouts (s : Wave) (c : ℕ) : Type 0 where
    uncounted : count_of s c ≡ none → Whereabouts s c
    queued : Queued s c → Whereabouts s c
    alone : count_of s c ≡ 0 → ((d : ℕ) → d < n → E d c ≡ true → ⊥) → Whereabouts s c

  -- the cells before place h of the queue were taken out
  pub record Spreading (h : ℕ) (s : Wave) : Type 0 where
    pub few : n ≤ 4096
    pub fits : n + 65 ≤ length s.counts
    pub size : length s.queue ≡ s.tail
    -- no cell entered the queue twice
    pub roomy : blanks n s + s.tail ≤ n
    pub taken : h ≤ s.tail
    pub on : (i : ℕ) → i < s.tail → (65 ≤ at s.queue i) × (at s.queue i < n + 65)
    pub stands : (c : ℕ) → c < n → Whereabouts s c
    -- a count is a number of steps, and at most its place
    pub way : (c : ℕ) → c < n → count_of s c < none → Steps n E marked c (count_of s c)
    pub early : (i : ℕ) → i < s.tail → count_at s i ≤ i
    -- counts ascend along the queue, and what still waits in it is at most one less than its last
    pub rising : (i j : ℕ) → i ≤ j → j < s.tail → count_at s i ≤ count_at s j
    pub close : (i j : ℕ) → h ≤ i → i < s.tail → j < s.tail → count_at s j ≤ suc (count_at s i)
    pub zeros : (c : ℕ) → c < n → marked c ≡ true → count_of s c ≡ 0
    -- what may step to a cell that was taken out has a count, at most one more
    pub spread : (i c d : ℕ) → i < h → at s.queue i ≡ c + 65 → d < n → E d c ≡ true → count_of s d ≤ suc (count_of s c)
    -- the margin is as it was
    pub same_length : length s.counts ≡ length old
    pub margin : (i : ℕ) → (i < 65) ⊎ (n + 65 ≤ i) → at s.counts i ≡ at old i

  -- cell c, of count m, is at place h, the next to be taken out
  pub record Visiting (h c m : ℕ) (s : Wave) : Type 0 where
    pub so_far : Spreading h s
    pub waits : h < s.tail
    pub cell : at s.queue h ≡ c + 65
    pub count : count_of s c ≡ m

  -- cell d enters
  module _ (h c m : ℕ) (s : Wave) (I : Visiting h c m s) (d : ℕ) (d-on : d < n) (blank : count_of s d ≡ none) (e : E d c ≡ true) where
    abbrev S : Spreading h s
    S = I.so_far

    abbrev t : ℕ
    t = s.tail

    abbrev s' : Wave
    s' = entered (m + 1) (d + 65) s

    count_here : count_at s h ≡ m
    count_here = ap (at s.counts) I.cell ∙ I.count

    small : m + 1 ≤ n
    small = let a = S.early h I.waits in let b = count_here in let r = S.roomy in let o = I.waits in omega arith

    queue_old : (i : ℕ) → i < t → at s'.queue i ≡ at s.queue i
    queue_old i l = get_or-append s.queue ((d + 65) ∷ []) 0 i (omega (arith, S.size))

    queue_new : at s'.queue t ≡ d + 65
    queue_new = get_or_at s.queue (d + 65) [] 0 t S.size

    count_elsewhere : (x : ℕ) → (x ≡ d + 65 → ⊥) → at s'.counts x ≡ at s.counts x
    count_elsewhere x q = get_or-set_other s.counts (d + 65) x (m + 1) 0 q

    count_other : (x : ℕ) → (x ≡ d → ⊥) → count_of s' x ≡ count_of s x
    count_other x q = count_elsewhere (x + 65) (λ z. q (omega arith))

    count-new : count_of s' d ≡ m + 1
    count-new = get_or-set_same s.counts (d + 65) (m + 1) 0 (omega (arith, S.fits))

    -- one cell without a count less
    fewer : blanks n s' < blanks n s
    fewer =
        keep-length_lt (λ c. eqb (count_of s' c) none) (λ c. eqb (count_of s c) none) (λ y q. still y q (eq_or_ne y d)) (upto_holds d-on)
        (ne_eqb (count_of s' d) none (λ q. let a = count-new in let b = small in let f = S.few in omega arith)) (eq-eqb (count_of s d) none blank)
      where
        still : (y : ℕ) → eqb (count_of s' y) none ≡ true → (y ≡ d) ⊎ (y ≡ d → ⊥) → eqb (count_of s y) none ≡ true
        still y q (inl z) = eq-eqb (count_of s y) none (ap (count_of s) z ∙ blank)
        still y q (inr z) = eq-eqb (count_of s y) none (sym (count_other y z) ∙ eqb-true _ _ q)

    -- no place of the queue is d's
    not_d : (i : ℕ) → i < t → at s.queue i ≡ d + 65 → ⊥
    not_d i l q =
        let a = S.early i l in let b = S.roomy in let f = S.few in let k : count_at s i ≡ none = ap (at s.counts) q ∙ blank in omega arith

    kept : (i : ℕ) → i < t → count_at s' i ≡ count_at s i
    kept i l = ap (at s'.counts) (queue_old i l) ∙ count_elsewhere (at s.queue i) (not_d i l)

    new : (i : ℕ) → i ≡ t → count_at s' i ≡ m + 1
    new i q = ap (count_at s') q ∙ ap (at s'.counts) queue_new ∙ count-new

    -- no count rises
    pub enter_less : (x : ℕ) → count_of s' x ≤ count_of s x
    enter_less x = go (eq_or_ne x d)
      where
        go : (x ≡ d) ⊎ (x ≡ d → ⊥) → count_of s' x ≤ count_of s x
        go (inl q) =
            let a : count_of s' x ≡ m + 1 = ap (count_of s') q ∙ count-new in
            let b : count_of s x ≡ none = ap (count_of s) q ∙ blank in
            let k = small in let f = S.few in omega arith
        go (inr q) = let a = count_other x q in omega arith

    pub enter_count : count_of s' d ≤ suc m
    enter_count = let a = count-new in omega arith

    way' : (x : ℕ) → x < n → count_of s' x < none → Steps n E marked x (count_of s' x)
    way' x l b = go (eq_or_ne x d)
      where
        go : (x ≡ d) ⊎ (x ≡ d → ⊥) → Steps n E marked x (count_of s' x)
        go (inl q) =
            let k : count_of s' x ≡ suc m = ap (count_of s') q ∙ count-new ∙ omega arith in
            let c-on : c < n = let o = S.on h I.waits in let p = I.cell in omega arith in
            let z : count_of s c < none = let a = I.count in let b = small in let f = S.few in omega arith in
            let w : Steps n E marked c m = subst (Steps n E marked c) I.count (S.way c c-on z) in
            subst (Steps n E marked x) (sym k) (onward l (subst (λ (y : ℕ). E y c ≡ true) (sym q) e) w)
        go (inr q) =
            let a : count_of s' x ≡ count_of s x = count_other x q in
            subst (Steps n E marked x) (sym a) (S.way x l (omega arith))

    stands' : (x : ℕ) → x < n → Whereabouts s' x
    stands' x l = go (eq_or_ne x d) (S.stands x l)
      where
        go : (x ≡ d) ⊎ (x ≡ d → ⊥) → Whereabouts s x → Whereabouts s' x
        go (inl q) r = queued (record { place = t; before = omega arith; is = queue_new ∙ ap (λ (y : ℕ). y + 65) (sym q) })
        go (inr q) (uncounted r) = uncounted (count_other x q ∙ r)
        go (inr q) (queued r) =
            let b = r.before in queued (record { place = r.place; before = omega arith; is = queue_old r.place b ∙ r.is })
        go (inr q) (alone z f) = alone (count_other x q ∙ z) f

    on' : (i : ℕ) → i < t + 1 → (65 ≤ at s'.queue i) × (at s'.queue i < n + 65)
    on' i l = go (last_or i t l)
      where
        go : (i < t) ⊎ (i ≡ t) → (65 ≤ at s'.queue i) × (at s'.queue i < n + 65)
        go (inl b) = let a = queue_old i b in let o = S.on i b in (omega arith, omega arith)
        go (inr q) = let a : at s'.queue i ≡ d + 65 = ap (at s'.queue) q ∙ queue_new in (omega arith, omega arith)

    early' : (i : ℕ) → i < t + 1 → count_at s' i ≤ i
    early' i l = go (last_or i t l)
      where
        go : (i < t) ⊎ (i ≡ t) → count_at s' i ≤ i
        go (inl b) = let a = kept i b in let o = S.early i b in omega arith
        go (inr q) = let a = new i q in let o = S.early h I.waits in let k = count_here in let b = I.waits in omega arith

    rising' : (i j : ℕ) → i ≤ j → j < t + 1 → count_at s' i ≤ count_at s' j
    rising' i j l b = go (last_or j t b) (last_or i t (omega arith))
      where
        go : (j < t) ⊎ (j ≡ t) → (i < t) ⊎ (i ≡ t) → count_at s' i ≤ count_at s' j
        go (inl y) (inl x) = let a = kept i x in let b = kept j y in let r = S.rising i j l y in omega arith
        go (inl y) (inr x) = absurd (omega arith)
        go (inr y) (inl x) =
            let a = kept i x in let b = new j y in let k = count_here in
            let r = S.close h i (omega arith) I.waits x in omega arith
        go (inr y) (inr x) = let a = new i x in let b = new j y in omega arith

    close' : (i j : ℕ) → h ≤ i → i < t + 1 → j < t + 1 → count_at s' j ≤ suc (count_at s' i)
    close' i j l x y = go (last_or i t x) (last_or j t y)
      where
        go : (i < t) ⊎ (i ≡ t) → (j < t) ⊎ (j ≡ t) → count_at s' j ≤ suc (count_at s' i)
        go (inl u) (inl v) = let a = kept i u in let b = kept j v in let r = S.close i j l u v in omega arith
        go (inl u) (inr v) = let a = kept i u in let b = new j v in let k = count_here in let r = S.rising h i l u in omega arith
        go (inr u) (inl v) =
            let a = new i u in let b = kept j v in let k = count_here in let r = S.close h j (omega arith) I.waits v in omega arith
        go (inr u) (inr v) = let a = new i u in let b = new j v in omega arith

    spread' : (i x y : ℕ) → i < h → at s'.queue i ≡ x + 65 → y < n → E y x ≡ true → count_of s' y ≤ suc (count_of s' x)
    spread' i x y l p b q =
        let u : i < t = let o = I.waits in omega arith in
        let o = queue_old i u in
        let p₀ : at s.queue i ≡ x + 65 = sym (queue_old i u) ∙ p in
        let r = S.spread i x y l p₀ b q in
        let z = enter_less y in
        let a : count_of s' x ≡ count_of s x = count_other x (λ f. not_d i u (p₀ ∙ ap (λ (k : ℕ). k + 65) f)) in
        omega arith

    outside : (i : ℕ) → (i < 65) ⊎ (n + 65 ≤ i) → i ≡ d + 65 → ⊥
    outside i (inl l) q = omega arith
    outside i (inr l) q = omega arith

    pub entering : Visiting h c m s'
    entering =
        record {
          so_far =
              record {
                few = S.few;
                fits = let a = length-set s.counts (d + 65) (m + 1) in let f = S.fits in omega arith;
                size = length-append s.queue ((d + 65) ∷ []) ∙ ap (λ (k : ℕ). k + 1) S.size;
                roomy = let a = fewer in let r = S.roomy in omega arith;
                taken = let a = S.taken in omega arith;
                on = on';
                stands = stands';
                way = way';
                early = early';
                rising = rising';
                close = close';
                zeros = λ x l q. let a = S.zeros x l q in let b = enter_less x in omega arith;
                spread = spread';
                same_length = length-set s.counts (d + 65) (m + 1) ∙ S.same_length;
                margin = λ i o. count_elsewhere i (outside i o) ∙ S.margin i o;
              };
          waits = let a = I.waits in omega arith;
          cell = queue_old h I.waits ∙ I.cell;
          count = count_other c (λ q. not_d h I.waits (I.cell ∙ ap (λ (k : ℕ). k + 65) q)) ∙ I.count;
        }
