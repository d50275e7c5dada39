-- What the trace does at a cell, in its four cases, and what a trace that stopped or ended tells of a larger budget; and a trace of a list and
-- a cell that are not refused.
-- Assumes nothing.
use mathlib.Core.List.{List}
use mathlib.Core.Logic.{inl, inr, ◌⊎◌}
use mathlib.Core.Path.{ap, subst, sym, ◌∙◌, ◌≡◌}
use Prim.Native.Nat.{suc, zero, ℕ, ◌+◌, ◌<◌, ◌≤◌}
use native.Mathlib.Nat.{add-zero, suc-add, zero-add}
use native.Mathlib.Omega.{arith}
use lib.ListN.{length}
use borrow.Author.Tests.{eq-eqb, le-leb, le-ltb, lt-ltb, ne_eqb}
use Rattle.lists.proofs.Tests.{eq_or_ne, lt_or_ge}
use Rattle.lists.specs.Lists.{at, repeat}
use Rattle.rules.specs.Trace.{reached, refused, stopped, trace, Traced, trace_from}

-- a cell from which the trace goes on: its entry is on the list, and another cell
pub record Onward (r : List ℕ) (c : ℕ) : Type 0 where
  pub inside : at r c < length r
  pub moves : at r c ≡ c → ⊥

-- what the trace meets at c: an entry outside the list, an outlet, or a way on
data Arrival (r : List ℕ) (c : ℕ) : Type 0 where
  outside : length r ≤ at r c → Arrival r c
  outlet : at r c < length r → at r c ≡ c → Arrival r c
  onward : Onward r c → Arrival r c

arrival : (r : List ℕ) (c : ℕ) → Arrival r c
arrival r c = go (lt_or_ge (at r c) (length r)) (eq_or_ne (at r c) c)
  where
    go : (at r c < length r) ⊎ (length r ≤ at r c) → (at r c ≡ c) ⊎ (at r c ≡ c → ⊥) → Arrival r c
    go (inr h) e = outside h
    go (inl h) (inl e) = outlet h e
    go (inl h) (inr n) = onward (record { inside = h; moves = n })

-- an answer is of one kind, and names one cell
not_refused : {a : Traced} {d t n p : ℕ} → a ≡ stopped d t → a ≡ refused n p → ⊥
not_refused {a} e f = let z : ◌≡◌ {A = ℕ} 0 1 = cc in omega arith

not_reached : {a : Traced} {d t o s : ℕ} → a ≡ stopped d t → a ≡ reached o s → ⊥
not_reached {a} e f = let z : ◌≡◌ {A = ℕ} 0 1 = cc in omega arith

same_cell : {a : Traced} {d t c s : ℕ} → a ≡ stopped d t → a ≡ stopped c s → d ≡ c
same_cell e f = cc

-- how many steps are left matters only where the trace goes on
module _ (r : List ℕ) where
  pub trace_from_outside : (k s c : ℕ) → length r ≤ at r c → trace_from r k s c ≡ refused 9 c
  unfolding trace_from
  trace_from_outside zero s c h = rw (le-ltb (at r c) (length r) h)
  trace_from_outside (suc k) s c h = rw (le-ltb (at r c) (length r) h)

  pub trace_from_outlet : (k s c : ℕ) → at r c < length r → at r c ≡ c → trace_from r k s c ≡ reached c s
  unfolding trace_from
  trace_from_outlet zero s c h e = rw (lt-ltb (at r c) (length r) h, eq-eqb (at r c) c e)
  trace_from_outlet (suc k) s c h e = rw (lt-ltb (at r c) (length r) h, eq-eqb (at r c) c e)

  pub trace_from_spent : (s c : ℕ) → Onward r c → trace_from r 0 s c ≡ stopped c s
  unfolding trace_from
  trace_from_spent s c o = rw (lt-ltb (at r c) (length r) o.inside, ne_eqb (at r c) c o.moves)

  pub trace_from_step : (k s c : ℕ) → Onward r c → trace_from r (suc k) s c ≡ trace_from r k (suc s) (at r c)
  unfolding trace_from
  trace_from_step k s c o = rw (lt-ltb (at r c) (length r) o.inside, ne_eqb (at r c) c o.moves)

  -- a trace that ended is the same under any larger budget
  pub trace_from_ended : (k m s c : ℕ) → ((d t : ℕ) → trace_from r k s c ≡ stopped d t → ⊥) → trace_from r (k + m) s c ≡ trace_from r k s c
  trace_from_ended zero m s c n = go (arrival r c)
    where
      go : Arrival r c → trace_from r (0 + m) s c ≡ trace_from r 0 s c
      go (outside h) = trace_from_outside (0 + m) s c h ∙ sym (trace_from_outside 0 s c h)
      go (outlet h e) = trace_from_outlet (0 + m) s c h e ∙ sym (trace_from_outlet 0 s c h e)
      go (onward o) = absurd (n c s (trace_from_spent s c o))
  trace_from_ended (suc k) m s c n = go (arrival r c) (trace_from_ended k m (suc s) (at r c))
    where
      go : Arrival r c
          → (((d t : ℕ) → trace_from r k (suc s) (at r c) ≡ stopped d t → ⊥) → trace_from r (k + m) (suc s) (at r c) ≡ trace_from r k (suc s) (at r c))
          → trace_from r (suc k + m) s c ≡ trace_from r (suc k) s c
      go (outside h) ih = trace_from_outside (suc k + m) s c h ∙ sym (trace_from_outside (suc k) s c h)
      go (outlet h e) ih = trace_from_outlet (suc k + m) s c h e ∙ sym (trace_from_outlet (suc k) s c h e)
      go (onward o) ih =
          ap (λ (j : ℕ). trace_from r j s c) (suc-add k m)
          ∙ trace_from_step (k + m) s c o
          ∙ ih (λ d t e. n d t (trace_from_step k s c o ∙ e))
          ∙ sym (trace_from_step k s c o)

  -- a trace that stopped has made all its steps, and would have gone on at each cell
  pub trace_from_stopped : (k s c : ℕ) {d t : ℕ} → trace_from r k s c ≡ stopped d t
      → (d ≡ repeat k (at r) c) × ((j : ℕ) → j ≤ k → Onward r (repeat j (at r) c))
  trace_from_stopped zero s c {d} {t} e = go (arrival r c)
    where
      go : Arrival r c → (d ≡ c) × ((j : ℕ) → j ≤ 0 → Onward r (repeat j (at r) c))
      go (outside h) = absurd (not_refused e (trace_from_outside 0 s c h))
      go (outlet h q) = absurd (not_reached e (trace_from_outlet 0 s c h q))
      go (onward o) =
          (same_cell e (trace_from_spent s c o), λ j l. let z : 0 ≡ j = omega arith in subst (λ (i : ℕ). Onward r (repeat i (at r) c)) z o)
  trace_from_stopped (suc k) s c {d} {t} e = go (arrival r c) (λ d t. trace_from_stopped k (suc s) (at r c))
    where
      go : Arrival r c
          → ((d t : ℕ) → trace_from r k (suc s) (at r c) ≡ stopped d t
          → (d ≡ repeat k (at r) (at r c)) × ((j : ℕ) → j ≤ k → Onward r (repeat j (at r) (at r c))))
          → (d ≡ repeat k (at r) (at r c)) × ((j : ℕ) → j ≤ suc k → Onward r (repeat j (at r) c))
      go (outside h) ih = absurd (not_refused e (trace_from_outside (suc k) s c h))
      go (outlet h q) ih = absurd (not_reached e (trace_from_outlet (suc k) s c h q))
      go (onward o) ih = let w = ih d t (sym (trace_from_step k s c o) ∙ e) in (w.0, each o w.1)
        where
          each : Onward r c → ((j : ℕ) → j ≤ k → Onward r (repeat j (at r) (at r c))) → (j : ℕ) → j ≤ suc k → Onward r (repeat j (at r) c)
          each o f zero l = o
          each o f (suc j) l = f j (omega arith)

  -- where it never ends, it takes all its steps
  pub trace_from_endless : (k s c : ℕ) → ((j : ℕ) → Onward r (repeat j (at r) c)) → trace_from r k s c ≡ stopped (repeat k (at r) c) (s + k)
  trace_from_endless zero s c f = trace_from_spent s c (f 0) ∙ ap (stopped c) (sym (add-zero s))
  trace_from_endless (suc k) s c f =
      trace_from_step k s c (f 0)
      ∙ trace_from_endless k (suc s) (at r c) (λ j. f (suc j))
      ∙ ap (stopped (repeat k (at r) (at r c))) (let e : suc s + k ≡ s + suc k = omega arith in e)

  -- neither the list nor the cell is refused
  pub trace-allowed : (c budget : ℕ) → length r ≤ 4096 → c < length r → trace r c budget ≡ trace_from r budget 0 c
  unfolding trace
  trace-allowed c budget few h = rw (le-leb 1 (length r) (omega arith), le-leb (length r) 4096 few, lt-ltb c (length r) h)

  pub trace_endless : (c : ℕ) → length r ≤ 4096 → c < length r → ((j : ℕ) → Onward r (repeat j (at r) c))
      → (budget : ℕ) → trace r c budget ≡ stopped (repeat budget (at r) c) budget
  trace_endless c few h goes budget =
      trace-allowed c budget few h ∙ trace_from_endless budget 0 c goes ∙ ap (stopped (repeat budget (at r) c)) (zero-add budget)
