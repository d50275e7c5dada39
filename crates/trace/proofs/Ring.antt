-- A walk of as many moves as the list has entries is on a ring for good: two of its cells are one.
-- Assumes nothing.
use mathlib.Core.Bool.{Bool, false, true, true≢false}
use mathlib.Core.List.{List, map}
use mathlib.Core.Logic.{inl, inr, ◌⊎◌}
use mathlib.Core.Path.{ap, subst, sym, ◌∙◌, ◌≡◌}
use Prim.Native.Nat.{suc, zero, ℕ, ◌%◌, ◌*◌, ◌+◌, ◌-◌, ◌/◌, ◌<◌, ◌≤◌}
use native.Mathlib.Nat.{div-add-mod', suc-mul, zero-add, zero-mul}
use native.Mathlib.Omega.{arith}
use lib.Dec.{eqb, ltb}
use lib.ListN.{length, length-map}
use borrow.Author.Tests.{eq-eqb, eqb-false, eqb-true, ltb-false, ltb-true}
use Rattle.lists.proofs.Find.{find_found, find-left, find_none}
use Rattle.lists.proofs.Map.{map_member}
use Rattle.lists.proofs.Once.{once_le, once_map, once_range}
use Rattle.lists.proofs.Range.{range_length, upto-below, upto_holds}
use Rattle.lists.proofs.Repeat.{repeat_add, repeat-last, repeat_round}
use Rattle.lists.proofs.Tests.{eq, gt, lt, lt_or_ge, Three, three}
use Rattle.lists.specs.Find.{find, NoneBelow}
use Rattle.lists.specs.Lists.{at, Once, repeat, upto, ◌∈◌}
use Rattle.rules.proofs.TraceRings.{ring_endless}
use Rattle.rules.proofs.TraceSteps.{Onward, trace-allowed, trace_from_endless, trace_from_stopped}
use Rattle.rules.specs.Trace.{RunsInRing, stopped, trace, trace_from}
use Rattle.trace.specs.Ring.{back_after, OnRing, ring_length}

-- f takes n + 1 numbers to numbers below n, so it takes two of them to one
pigeonhole : (f : ℕ → ℕ) (n : ℕ) → ((j : ℕ) → j ≤ n → f j < n) → (i : ℕ) × (j : ℕ) × (i < j) × (j ≤ n) × (f i ≡ f j)
pigeonhole f n below = go (lt_or_ge (find met (suc n)) (suc n))
  where
    earlier : ℕ → ℕ
    earlier j = find (λ i. eqb (f i) (f j)) j

    met : ℕ → Bool
    met j = ltb (earlier j) j

    -- where none was met before, no two are one
    apart : ((j : ℕ) → j < suc n → met j ≡ false) → (i j : ℕ) → i < j → j ≤ n → f i ≡ f j → ⊥
    apart h i j l k e =
        eqb-false (f i) (f j) (find-left (λ i. eqb (f i) (f j)) j (ltb-false (earlier j) j (h j (omega arith))) i l) e

    one : ((j : ℕ) → j < suc n → met j ≡ false) → (i j : ℕ) → i ≤ n → j ≤ n → f i ≡ f j → Three i j → i ≡ j
    one h i j a b e (lt l) = absurd (apart h i j l b e)
    one h i j a b e (eq q) = q
    one h i j a b e (gt l) = absurd (apart h j i l a (sym e))

    go : (find met (suc n) < suc n) ⊎ (suc n ≤ find met (suc n)) → (i : ℕ) × (j : ℕ) × (i < j) × (j ≤ n) × (f i ≡ f j)
    go (inl h) =
        let j = find met (suc n) in
        let l : earlier j < j = ltb-true (earlier j) j (find_found met (suc n) h) in
        (earlier j, j, l, omega arith, eqb-true (f (earlier j)) (f j) (find_found (λ i. eqb (f i) (f j)) j l))
    go (inr h) =
        let fresh = find-left met (suc n) h in
        let o : Once (map f (upto (suc n))) =
        once_map f (upto (suc n)) (once_range (suc n) 0)
        (λ i j a b e. let x : i < suc n = upto-below a in let y : j < suc n = upto-below b in one fresh i j (omega arith) (omega arith) e (three i j)) in
        let l : length (map f (upto (suc n))) ≤ length (upto n) =
        once_le (map f (upto (suc n))) (upto n) o (λ x m. small x (map_member f (upto (suc n)) m)) in
        let a : length (map f (upto (suc n))) ≡ suc n = simp length-map (range_length (suc n) 0) in
        let b : length (upto n) ≡ n = range_length n 0 in
        absurd (omega arith)
      where
        small : (x : ℕ) → (j : ℕ) × (j ∈ upto (suc n)) × (x ≡ f j) → x ∈ upto n
        small x (j, m, e) =
            let a : j < suc n = upto-below m in
            let b : f j < n = below j (omega arith) in
            let l : x < n = omega arith in
            upto_holds l

module _ {A : Type 0} (f : A → A) where
  -- p steps lead back to x: whole rounds don't count
  rounds : (p q : ℕ) (x : A) → repeat p f x ≡ x → repeat (q * p) f x ≡ x
  rounds p zero x e = ap (λ (m : ℕ). repeat m f x) (zero-mul p)
  rounds p (suc q) x e =
      ap (λ (m : ℕ). repeat m f x) (suc-mul q p)
      ∙ repeat_add f (q * p) p x
      ∙ ap (repeat p f) (rounds p q x e)
      ∙ e

  pub repeat_modulo : (p k : ℕ) (x : A) → repeat p f x ≡ x → repeat k f x ≡ repeat (k % p) f x
  repeat_modulo p k x e =
      ap (λ (m : ℕ). repeat m f x) (sym (div-add-mod' k p))
      ∙ repeat_add f (k / p * p) (k % p) x
      ∙ ap (repeat (k % p) f) (rounds p (k / p) x e)

-- the trace from c goes on at each of its first n moves, n the list's length
module _ (r : List ℕ) (c : ℕ) (h : c < length r) (goes : (j : ℕ) → j ≤ length r → Onward r (repeat j (at r) c)) where
  -- the cell after j moves
  after : ℕ → ℕ
  after j = repeat j (at r) c

  -- it is a cell of the list
  on_list : (j : ℕ) → j ≤ length r → after j < length r
  unfolding after
  on_list zero l = h
  on_list (suc j) l = rw (repeat-last (at r) j c) (goes j (omega arith)).inside

  -- two of the cells are one, a round apart
  met_twice : (i : ℕ) × (j : ℕ) × (i < j) × (j ≤ length r) × (after i ≡ after j)
  met_twice = pigeonhole after (length r) on_list

  round : ℕ
  round = met_twice.1 - met_twice.0

  -- so the list runs in a ring
  runs_in_ring : RunsInRing r c
  unfolding after
  runs_in_ring =
      record {
        first = met_twice.0;
        again = met_twice.1;
        later = met_twice.2;
        met_again = met_twice.4;
        no_outlet = let a : met_twice.0 < met_twice.1 = met_twice.2 in let b : met_twice.1 ≤ length r = met_twice.3 in
            (goes met_twice.0 (omega arith)).moves;
        on_list = λ k l. let b : met_twice.1 ≤ length r = met_twice.3 in (goes k (omega arith)).inside;
      }

  -- and it goes on for good
  pub endless : (j : ℕ) → Onward r (repeat j (at r) c)
  endless = ring_endless r c runs_in_ring

  -- on cells of the list only
  stays : (j : ℕ) → after j < length r
  unfolding after
  stays zero = h
  stays (suc j) = rw (repeat-last (at r) j c) (endless j).inside

  -- the cell after as many moves as the list has entries: it is on a ring, since a round later it is met again
  home : ℕ
  home = after (length r)

  comes_back : back_after r home (round - 1) ≡ true
  unfolding after home round
  comes_back =
      let a : met_twice.0 < met_twice.1 = met_twice.2 in
      let b : met_twice.1 ≤ length r = met_twice.3 in
      let e : suc (round - 1) ≡ round = omega arith in
      eq-eqb (repeat (suc (round - 1)) (at r) home) home
      (ap (λ (k : ℕ). repeat k (at r) home) e
      ∙ sym (repeat_add (at r) (length r) round c)
      ∙ repeat_round (at r) met_twice.0 met_twice.1 c a met_twice.4 (length r) (omega arith))

  ring_back : length r ≤ 4096 → OnRing r (repeat (length r) (at r) c)
  unfolding after home round
  ring_back few =
      record {
        stays = λ j. rw (← repeat_add (at r) (length r) j c) (stays (length r + j));
        short = found (lt_or_ge (find (back_after r home) (length r)) (length r));
        few = few;
      }
    where
      found : (find (back_after r home) (length r) < length r) ⊎ (length r ≤ find (back_after r home) (length r)) → ring_length r home ≤ length r
      found (inl l) = l
      found (inr l) =
          let a : met_twice.0 < met_twice.1 = met_twice.2 in
          let b : met_twice.1 ≤ length r = met_twice.3 in
          absurd (true≢false (sym comes_back ∙ find-left (back_after r home) (length r) l (round - 1) (omega arith)))

-- a cell on a ring is back after the ring's length
pub round_trip : (r : List ℕ) (c : ℕ) → OnRing r c → repeat (ring_length r c) (at r) c ≡ c
round_trip r c o = eqb-true (repeat (ring_length r c) (at r) c) c (find_found (back_after r c) (length r) o.short)

-- it is not back yet, so there are moves left
pub not_yet : (r : List ℕ) (c k : ℕ) → OnRing r c → NoneBelow (back_after r c) k → k < length r
not_yet r c k o away = go (lt_or_ge k (length r))
  where
    go : (k < length r) ⊎ (length r ≤ k) → k < length r
    go (inl l) = l
    go (inr l) =
        let e : find (back_after r c) (length r) ≡ length r = find_none (back_after r c) (length r) (λ j m. away j (omega arith)) in
        let s : ring_length r c ≤ length r = o.short in
        absurd (omega arith)

-- a trace that stopped at d after as many steps as the list has entries
module _ (r : List ℕ) (c : ℕ) {d t : ℕ} (h : c < length r) (e : trace_from r (length r) 0 c ≡ stopped d t) where
  -- is on a ring
  pub stopped_on_ring : length r ≤ 4096 → OnRing r d
  stopped_on_ring few =
      let w = trace_from_stopped r (length r) 0 c e in
      subst (OnRing r) (sym w.0) (ring_back r c h w.1 few)

  -- and with a larger budget it stops too, at the cell that the rest of the budget leads to
  pub stopped_later : (budget last : ℕ) → length r ≤ budget → last ≡ repeat (budget - length r) (at r) d
      → stopped last budget ≡ trace_from r budget 0 c
  stopped_later budget last l q =
      let w = trace_from_stopped r (length r) 0 c e in
      let n : length r + (budget - length r) ≡ budget = omega arith in
      let s : last ≡ repeat budget (at r) c =
      q ∙ ap (repeat (budget - length r) (at r)) w.0 ∙ sym (repeat_add (at r) (length r) (budget - length r) c)
      ∙ ap (λ (k : ℕ). repeat k (at r) c) n in
      sym (trace_from_endless r budget 0 c (endless r c h w.1) ∙ rw (zero-add budget, ← s))

-- only a ring stops a budget of as many steps as the list has entries, or more
pub stopped_in_ring : (r : List ℕ) (c budget : ℕ) {d t : ℕ} → length r ≤ 4096 → c < length r → length r ≤ budget
    → trace r c budget ≡ stopped d t → RunsInRing r c
stopped_in_ring r c budget few h l e =
    let w = trace_from_stopped r budget 0 c (sym (trace-allowed r c budget few h) ∙ e) in
    runs_in_ring r c h (λ j k. w.1 j (omega arith))
