-- The computed number of steps is the fewest number of steps of any way, and relations with the same ways give the same.
-- Assumes nothing.
use mathlib.Core.Bool.{Bool, cond, false, false≢true, true, true≢false, ◌&&◌}
use mathlib.Core.List.Memᴰ.{cases_cons as in-cases}
use mathlib.Core.List.Memᴰ.{not-nil as in-none}
use mathlib.Core.List.{[], List, ◌∷◌}
use mathlib.Core.Logic.{inl, inr, ◌⊎◌}
use mathlib.Core.Path.{ap, refl, subst, sym, ◌∙◌, ◌≡◌}
use Prim.Native.Nat.{suc, zero, ℕ, ◌<◌, ◌≤◌}
use native.Mathlib.Omega.{arith}
use lib.Dec.{eqb}
use lib.ListN.{length}
use borrow.Author.Tests.{eq-eqb, eqb-true, le-ltb, lt-ltb}
use Rattle.lists.proofs.Find.{find_at, find_before, find-below, find_found, find_none, find_same}
use Rattle.lists.proofs.Any.{any_holds, any_member}
use Rattle.lists.proofs.Once.{once_le}
use Rattle.lists.proofs.Range.{range_length, upto-below, upto_holds}
use Rattle.lists.proofs.Tab.{tab-at}
use Rattle.lists.proofs.Tests.{and_both, and_left, and_right, lt_or_ge, never, or_cases, or_left, or_right}
use Rattle.lists.specs.Find.{find}
use Rattle.lists.specs.Lists.{any, at, Once, once_next, once_none, upto, ◌∈◌}
use Rattle.spread.specs.Steps.{arrived, fewest, Fewest, none, onward, or_none, Steps, within}

one : (b : Bool) → b ≡ true → cond b 1 0 ≡ suc zero
one true e = refl
one false e = absurd (false≢true e)

was-one : (b : Bool) → cond b 1 0 ≡ suc zero → b ≡ true
was-one true e = refl
was-one false e = absurd (omega arith)

module _ (n : ℕ) (E : ℕ → ℕ → Bool) (marked : ℕ → Bool) where
  pub steps_on : {c k : ℕ} → Steps n E marked c k → c < n
  steps_on (arrived h s) = h
  steps_on (onward h e w) = h

  abbrev Near : ℕ → ℕ → Type 0
  Near k c = at (within n E marked k) c ≡ 1

  near_more : (k c : ℕ) → c < n → Near k c → Near (suc k) c
  unfolding within
  near_more k c h e = tab-at _ n c 0 h ∙ one _ (or_left _ _ (eq-eqb _ _ e))

  near-later : (k j c : ℕ) → c < n → Near 0 c → Near j c
  near-later k zero c h e = e
  near-later k (suc j) c h e = near_more j c h (near-later k j c h e)

  near_onward : (k c d : ℕ) → c < n → d < n → E c d ≡ true → Near k d → Near (suc k) c
  unfolding within
  near_onward k c d h g b e =
      tab-at _ n c 0 h
      ∙ one _ (or_right (eqb (at (within n E marked k) c) 1) _
      (any_holds (λ d. E c d && eqb (at (within n E marked k) d) 1) (upto_holds g) (and_both _ _ b (eq-eqb _ _ e))))

  -- a way of at most k steps is seen
  steps-near : {c j : ℕ} (k : ℕ) → j ≤ k → Steps n E marked c j → Near k c
  unfolding within
  steps-near {c} k l (arrived h s) = near-later k k c h (tab-at _ n c 0 h ∙ one _ s)
  steps-near zero l (onward h e w) = absurd (omega arith)
  steps-near {c} (suc k) l (onward {d = d} h e w) = near_onward k c d h (steps_on w) e (steps-near k (omega arith) w)

  -- and what is seen is such a way
  record Way (k c : ℕ) : Type 0 where
    pub size : ℕ
    pub most : size ≤ k
    pub steps : Steps n E marked c size

  near_steps : (k c : ℕ) → c < n → Near k c → Way k c
  unfolding within
  near_steps zero c h e =
      record { size = 0; most = omega arith; steps = arrived h (was-one _ (sym (tab-at (λ c. cond (marked c) 1 0) n c 0 h) ∙ e)) }
  near_steps (suc k) c h e =
      go (near_steps k) (or_cases _ _ (was-one _ (sym (tab-at _ n c 0 h) ∙ e)))
    where
      longer : Way k c → Way (suc k) c
      longer w = let l = w.most in record { size = w.size; most = omega arith; steps = w.steps }

      beyond : (d : ℕ) → E c d ≡ true → Way k d → Way (suc k) c
      beyond d b w = let l = w.most in record { size = suc w.size; most = omega arith; steps = onward h b w.steps }

      go : ((d : ℕ) → d < n → Near k d → Way k d)
          → (eqb (at (within n E marked k) c) 1 ≡ true) ⊎ (any (λ d. E c d && eqb (at (within n E marked k) d) 1) (upto n) ≡ true) → Way (suc k) c
      go ih (inl t) = longer (ih c h (eqb-true _ _ t))
      go ih (inr t) =
          let a = any_member (λ d. E c d && eqb (at (within n E marked k) d) 1) (upto n) t in
          beyond a.0 (and_left _ _ a.2) (ih a.0 (upto-below a.1) (eqb-true _ _ (and_right (E c a.0) _ a.2)))

  -- the fewest steps
  pub fewest_is : (c k : ℕ) → k < n → Fewest n E marked c k → fewest n E marked c ≡ k
  unfolding fewest
  fewest_is c k l F =
      let e = find_at (λ k. eqb (at (within n E marked k) c) 1) n k l
      (λ j b. never _ (λ t. let w = near_steps j c (steps_on F.way) (eqb-true _ _ t) in
      let x = F.least w.size w.steps in let y = w.most in omega arith))
      (eq-eqb _ _ (steps-near k (omega arith) F.way)) in
      rw (e, lt-ltb k n l)

  pub fewest_none : (c : ℕ) → c < n → ((j : ℕ) → Steps n E marked c j → ⊥) → fewest n E marked c ≡ none
  unfolding fewest
  fewest_none c h f =
      let e = find_none (λ k. eqb (at (within n E marked k) c) 1) n
      (λ j b. never _ (λ t. let w = near_steps j c h (eqb-true _ _ t) in f w.size w.steps)) in
      rw (e, le-ltb n n (omega arith))

  -- a search that goes on past a way's steps finds the fewest
  module _ (m c k : ℕ) (l : k < m) (w : Steps n E marked c k) where
    abbrev first : ℕ
    first = find (λ k. eqb (at (within n E marked k) c) 1) m

    first_below : first < m
    first_below = find-below (λ k. eqb (at (within n E marked k) c) 1) m k l (eq-eqb _ _ (steps-near k (omega arith) w))

    first_least : (j : ℕ) → Steps n E marked c j → first ≤ j
    first_least j v = at_most (lt_or_ge j first)
      where
        at_most : (j < first) ⊎ (first ≤ j) → first ≤ j
        at_most (inl b) =
            absurd (true≢false (sym (eq-eqb _ _ (steps-near j (omega arith) v))
            ∙ find_before (λ k. eqb (at (within n E marked k) c) 1) m j b))
        at_most (inr b) = b

    first_fewest : Fewest n E marked c first
    first_fewest = go (near_steps first c (steps_on w) (eqb-true _ _ (find_found (λ k. eqb (at (within n E marked k) c) 1) m first_below)))
      where
        go : Way first c → Fewest n E marked c first
        go W =
            let x = first_least W.size W.steps in
            let y = W.most in
            let e : W.size ≡ first = omega arith in
            record { way = subst (Steps n E marked c) e W.steps; least = first_least }

  -- one way of fewer than n steps: the computed number is the fewest
  pub fewest_found : (c k : ℕ) → k < n → Steps n E marked c k → (fewest n E marked c < n) × Fewest n E marked c (fewest n E marked c)
  unfolding fewest
  fewest_found c k l w = rw (lt-ltb (first n c k l w) n (first_below n c k l w)) (first_below n c k l w, first_fewest n c k l w)

  -- ---- on a way of fewest steps no cell is met twice, so it has fewer than n
  record Trail (c k : ℕ) : Type 0 where
    pub cells : List ℕ
    pub size : length cells ≡ suc k
    pub once : Once cells
    pub on : (x : ℕ) → x ∈ cells → x < n
    pub fewer : (x : ℕ) → x ∈ cells → (i : ℕ) × (i ≤ k) × Fewest n E marked x i

  trail : (k c : ℕ) → Fewest n E marked c k → Trail c k
  trail zero c F =
      record {
        cells = c ∷ [];
        size = refl;
        once = once_next (λ m. in-none m) once_none;
        on = λ x m. subst (λ (y : ℕ). y < n) (sym (only x (in-cases m))) (steps_on F.way);
        fewer = λ x m. (0, omega arith, subst (λ (y : ℕ). Fewest n E marked y 0) (sym (only x (in-cases m))) F);
      }
    where
      only : (x : ℕ) → (x ≡ c) ⊎ (x ∈ []) → x ≡ c
      only x (inl q) = q
      only x (inr i) = absurd (in-none i)
  trail (suc k) c F = go F.way (trail k)
    where
      longer : (d : ℕ) → Trail d k → Trail c (suc k)
      longer d T =
          record {
            cells = c ∷ T.cells;
            size = ap suc T.size;
            once = once_next new T.once;
            on = λ x m. on' x (in-cases m);
            fewer = λ x m. fewer' x (in-cases m);
          }
        where
          -- c is farther than all that follow
          new : c ∈ T.cells → ⊥
          new m = let t = T.fewer c m in let a = F.least t.0 t.2.way in let b = t.1 in omega arith

          on' : (x : ℕ) → (x ≡ c) ⊎ (x ∈ T.cells) → x < n
          on' x (inl q) = subst (λ (y : ℕ). y < n) (sym q) (steps_on F.way)
          on' x (inr m) = T.on x m

          fewer' : (x : ℕ) → (x ≡ c) ⊎ (x ∈ T.cells) → (i : ℕ) × (i ≤ suc k) × Fewest n E marked x i
          fewer' x (inl q) = (suc k, omega arith, subst (λ (y : ℕ). Fewest n E marked y (suc k)) (sym q) F)
          fewer' x (inr m) = let t = T.fewer x m in let b = t.1 in (t.0, omega arith, t.2)

      go : Steps n E marked c (suc k) → ((d : ℕ) → Fewest n E marked d k → Trail d k) → Trail c (suc k)
      go (onward {d = d} h e w) f =
          longer d (f d (record { way = w; least = λ j v. let a = F.least (suc j) (onward h e v) in omega arith }))

  pub fewest_short : (c k : ℕ) → Fewest n E marked c k → k < n
  fewest_short c k F =
      let T = trail k c F in
      let a : length T.cells ≤ length (upto n) = once_le T.cells (upto n) T.once (λ x m. upto_holds (T.on x m)) in
      let b : length (upto n) ≡ n = range_length n 0 in
      let s = T.size in
      omega arith

  -- any way: the computed number is the fewest
  pub fewest_any : (c j : ℕ) → Steps n E marked c j → (fewest n E marked c < n) × Fewest n E marked c (fewest n E marked c)
  fewest_any c j w =
      let F = first_fewest (suc j) c j (omega arith) w in
      fewest_found c (first (suc j) c j (omega arith) w) (fewest_short c _ F) F.way

  -- so where it is none there is no way
  pub none_fewest : (c : ℕ) → n ≤ none → fewest n E marked c ≡ none → (j : ℕ) → Steps n E marked c j → ⊥
  none_fewest c h e j w = let a = (fewest_any c j w).0 in omega arith

  -- and where it is not, there is one
  pub some_fewest : (c : ℕ) → c < n → (fewest n E marked c ≡ none → ⊥) → Steps n E marked c (fewest n E marked c)
  unfolding fewest
  some_fewest c h f = go (lt_or_ge (find (λ k. eqb (at (within n E marked k) c) 1) n) n)
    where
      go : (find (λ k. eqb (at (within n E marked k) c) 1) n < n) ⊎ (n ≤ find (λ k. eqb (at (within n E marked k) c) 1) n)
          → Steps n E marked c (or_none n (find (λ k. eqb (at (within n E marked k) c) 1) n))
      go (inr l) = absurd (f (rw (le-ltb (find (λ k. eqb (at (within n E marked k) c) 1) n) n l)))
      go (inl l) =
          let W = near_steps (find (λ k. eqb (at (within n E marked k) c) 1) n) c h (eqb-true _ _ (find_found (λ k. eqb (at (within n E marked k) c) 1) n l)) in
          let m = W.most in
          subst (Steps n E marked c) (fewest_is' W.size (omega arith) W.steps) (fewest_found c W.size (omega arith) W.steps).1.way
        where
          fewest_is' : (k : ℕ) → k < n → Steps n E marked c k → fewest n E marked c ≡ or_none n (find (λ k. eqb (at (within n E marked k) c) 1) n)
          fewest_is' k b w = refl

-- relations with the same ways from c
module _ (n : ℕ) (E F : ℕ → ℕ → Bool) (marked first : ℕ → Bool) (c : ℕ) (on : c < n) where
  pub fewest_agree : ((j : ℕ) → Steps n E marked c j → Steps n F first c j) → ((j : ℕ) → Steps n F first c j → Steps n E marked c j)
      → fewest n E marked c ≡ fewest n F first c
  unfolding fewest
  fewest_agree to fro =
      ap (or_none n)
      (find_same (λ k. eqb (at (within n E marked k) c) 1) (λ k. eqb (at (within n F first k) c) 1) n
      (λ k h. same_test _ _
      (λ t. let w = near_steps n E marked k c on (eqb-true _ _ t) in eq-eqb _ _ (steps-near n F first k w.most (to w.size w.steps)))
      (λ t. let w = near_steps n F first k c on (eqb-true _ _ t) in eq-eqb _ _ (steps-near n E marked k w.most (fro w.size w.steps)))))
    where
      same_test : (a b : Bool) → (a ≡ true → b ≡ true) → (b ≡ true → a ≡ true) → a ≡ b
      same_test true b f g = sym (f refl)
      same_test false true f g = g refl
      same_test false false f g = refl

-- marked cells that agree
module _ (n : ℕ) (E : ℕ → ℕ → Bool) where
  steps_marked : (marked first : ℕ → Bool) → ((c : ℕ) → c < n → marked c ≡ first c) → {c k : ℕ} → Steps n E marked c k → Steps n E first c k
  steps_marked marked first f (arrived {c = c} h s) = arrived h (sym (f c h) ∙ s)
  steps_marked marked first f (onward h e w) = onward h e (steps_marked marked first f w)

  pub fewest_starts : (marked first : ℕ → Bool) → ((c : ℕ) → c < n → marked c ≡ first c) → (c : ℕ) → c < n
      → fewest n E marked c ≡ fewest n E first c
  fewest_starts marked first f c h =
      fewest_agree n E E marked first c h (λ j w. steps_marked marked first f w) (λ j w. steps_marked first marked (λ d k. sym (f d k)) w)
