-- A list that runs in a ring ends as stopped, with every budget: once a cell is met again, the trace never ends.
-- Assumes nothing.
use mathlib.Core.List.{List}
use mathlib.Core.Logic.{inl, inr, ◌⊎◌}
use mathlib.Core.Path.{ap, subst, sym, ◌∙◌, ◌≡◌}
use Prim.Native.Nat.{suc, zero, ℕ, ◌+◌, ◌-◌, ◌<◌, ◌≤◌}
use native.Mathlib.Omega.{arith}
use lib.ListN.{length}
use Rattle.lists.proofs.Repeat.{repeat_add, repeat_fixed, repeat_round}
use Rattle.lists.proofs.Tests.{lt_or_ge}
use Rattle.lists.specs.Lists.{at, repeat}
use Rattle.rules.proofs.TraceSteps.{Onward, trace_endless}
use Rattle.rules.specs.Trace.{RunsInRing, stopped, trace}

module _ (r : List ℕ) (c : ℕ) (R : RunsInRing r c) where
  -- an outlet leads to itself only, so none is met before a cell that is no outlet is met again
  ring_goes : (k : ℕ) → k < R.again → Onward r (repeat k (at r) c)
  ring_goes k h = record { inside = R.on_list k h; moves = λ e. R.no_outlet (ap (at r) (is_outlet_lem e) ∙ e ∙ sym (is_outlet_lem e)) }
    where
      is_outlet_lem : at r (repeat k (at r) c) ≡ repeat k (at r) c → repeat R.first (at r) c ≡ repeat k (at r) c
      is_outlet_lem e =
          let n : R.again ≡ k + (R.again - k) = omega arith in
          R.met_again
          ∙ ap (λ (m : ℕ). repeat m (at r) c) n
          ∙ repeat_add (at r) k (R.again - k) c
          ∙ repeat_fixed (at r) (R.again - k) (repeat k (at r) c) e

  -- past the cell that is met again, a round earlier was the same cell
  goes_on : (b k : ℕ) → k ≤ b → Onward r (repeat k (at r) c)
  goes_on zero k h = let l = R.later in ring_goes k (omega arith)
  goes_on (suc b) k h = go (lt_or_ge k R.again) (goes_on b (k - (R.again - R.first)))
    where
      go : (k < R.again) ⊎ (R.again ≤ k)
          → (k - (R.again - R.first) ≤ b → Onward r (repeat (k - (R.again - R.first)) (at r) c)) → Onward r (repeat k (at r) c)
      go (inl n) ih = ring_goes k n
      go (inr n) ih =
          let l = R.later in
          let e : k - (R.again - R.first) + (R.again - R.first) ≡ k = omega arith in
          let same = repeat_round (at r) R.first R.again c l R.met_again (k - (R.again - R.first)) (omega arith) in
          subst (Onward r) (sym same ∙ ap (λ (m : ℕ). repeat m (at r) c) e) (ih (omega arith))

  -- so the trace goes on for good
  pub ring_endless : (k : ℕ) → Onward r (repeat k (at r) c)
  ring_endless k = goes_on k k (omega arith)

  -- a list that runs in a ring ends as stopped, where the budget leads to, and the steps are the whole budget
  pub ring_stopped : length r ≤ 4096 → c < length r → (budget : ℕ) → trace r c budget ≡ stopped (repeat budget (at r) c) budget
  ring_stopped few h = trace_endless r c few h ring_endless
