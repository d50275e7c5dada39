-- The end: nothing waits in the queue any more, and each count is the fewest number of steps.
-- Assumes nothing.
use mathlib.Core.Bool.{Bool}
use mathlib.Core.List.{List, ◌++◌}
use mathlib.Core.Logic.{inl, inr, ◌⊎◌}
use mathlib.Core.Path.{ap, sym, ◌∙◌, ◌≡◌}
use Prim.Native.Nat.{suc, ℕ, ◌+◌, ◌<◌, ◌≤◌}
use native.Mathlib.Omega.{arith}
use lib.ListN.{drop, length, length-drop, take, take-append-drop}
use lib.Seq.{drop-drop, ext_get_or, get_or-drop, get_or-take, length-take-le}
use Rattle.lists.proofs.Filled.{filled-by}
use Rattle.lists.specs.Lists.{at, filled, stored, tab}
use Rattle.spread.proofs.Breadth.{alone, count_at, count_of, queued, Spreading, uncounted, Whereabouts}
use Rattle.spread.proofs.Fewest.{fewest_is, fewest_none, steps_on}
use Rattle.spread.specs.Steps.{arrived, fewest, none, onward, Steps}
use Rattle.spread.specs.Wave.{Wave}

-- n numbers between margins: a list that has f's numbers there, and is as it was elsewhere
stored-by : (f : ℕ → ℕ) (from n : ℕ) (old l : List ℕ) → from + n ≤ length old → length l ≡ length old
    → ((i : ℕ) → i < n → at l (from + i) ≡ f i) → ((i : ℕ) → (i < from) ⊎ (from + n ≤ i) → at l i ≡ at old i)
    → l ≡ stored from (tab n f) old
unfolding filled
stored-by f from n old l h s v u =
    sym (take-append-drop from l)
    ∙ ap (λ (x : List ℕ). x ++ drop from l) front
    ∙ ap (λ (x : List ℕ). take from old ++ x) rest
    ∙ ap (λ (x : List ℕ). take from old ++ (tab n f ++ x)) (drop-drop (length (tab n f)) from old)
  where
    front : take from l ≡ take from old
    front =
        let a = length-take-le from l (omega arith) in let b = length-take-le from old (omega arith) in
        ext_get_or 0 (take from l) (take from old) (a ∙ sym b)
        (λ i k. let j : i < from = omega arith in get_or-take from l i 0 j ∙ u i (inl j) ∙ sym (get_or-take from old i 0 j))

    rest : drop from l ≡ filled f n (drop from old)
    rest =
        let a = length-drop from old in let b = length-drop from l in
        filled-by f n (drop from old) (drop from l) (omega arith) (omega arith)
        (λ i k. get_or-drop from l i 0 ∙ v i k)
        (λ i k. get_or-drop from l i 0 ∙ u (from + i) (inr (omega arith)) ∙ sym (get_or-drop from old i 0))

module _ (n : ℕ) (E : ℕ → ℕ → Bool) (marked : ℕ → Bool) (old : List ℕ) (h : ℕ) (s : Wave) (S : Spreading n E marked old h s)
    (empty : s.tail ≤ h) where
  -- a cell with a way is counted, with no more than its steps
  reached : {c k : ℕ} → Steps n E marked c k → (count_of s c ≤ k) × (count_of s c < none)
  reached (arrived {c = c} l q) = let a = S.zeros c l q in (omega arith, omega arith)
  reached (onward {c = c} {d = d} {k = k} l e w) = go (reached w) (S.stands d (steps_on n E marked w))
    where
      go : (count_of s d ≤ k) × (count_of s d < none) → Whereabouts n E marked old s d → (count_of s c ≤ suc k) × (count_of s c < none)
      go r (uncounted q) = absurd (omega arith)
      go r (queued q) =
          let b = q.before in
          let u : count_at s q.place ≡ count_of s d = ap (at s.counts) q.is in
          let z = S.spread q.place d c (omega arith) q.is l e in
          let y = S.early q.place b in
          let x = S.roomy in let f = S.few in
          (omega arith, omega arith)
      go r (alone z none-steps) = absurd (none-steps c l e)

  fewest-here : (c : ℕ) → c < n → count_of s c ≡ fewest n E marked c
  fewest-here c l = go (S.stands c l)
    where
      counted : count_of s c < n → count_of s c ≡ fewest n E marked c
      counted b =
          let f = S.few in
          sym (fewest_is n E marked c (count_of s c) b (record { way = S.way c l (omega arith); least = λ j w. (reached w).0 }))

      go : Whereabouts n E marked old s c → count_of s c ≡ fewest n E marked c
      go (uncounted q) = q ∙ sym (fewest_none n E marked c l (λ j w. let r = reached w in omega arith))
      go (queued q) =
          let b = q.before in
          let u : count_at s q.place ≡ count_of s c = ap (at s.counts) q.is in
          let y = S.early q.place b in
          let x = S.roomy in
          counted (omega arith)
      go (alone z none-steps) = counted (omega arith)

  pub spread_all : s.counts ≡ stored 65 (tab n (fewest n E marked)) old
  spread_all =
      let a = S.fits in let b = S.same_length in
      stored-by (fewest n E marked) 65 n old s.counts (omega arith) b
      (λ i k. let e : 65 + i ≡ i + 65 = omega arith in ap (at s.counts) e ∙ fewest-here i k)
      (λ i o. S.margin i (outer i o))
    where
      outer : (i : ℕ) → (i < 65) ⊎ (65 + n ≤ i) → (i < 65) ⊎ (n + 65 ≤ i)
      outer i (inl o) = inl o
      outer i (inr o) = inr (omega arith)
