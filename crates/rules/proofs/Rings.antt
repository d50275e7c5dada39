-- Rings of neighbours: the greatest crossing on a ring is no chosen pass, as the rest of the ring joins its two basins.
-- Assumes nothing.
use mathlib.Core.Bool.{true}
use mathlib.Core.Logic.{inl, inr, ◌⊎◌}
use mathlib.Core.Path.{ap, refl, subst, sym, ◌∙◌, ◌≡◌}
use Prim.Native.Nat.{max, min, suc, zero, ℕ, ◌+◌, ◌-◌, ◌<◌, ◌≤◌}
use native.Mathlib.Omega.{arith}
use Rattle.lists.proofs.Keep.{keep_holds}
use Rattle.lists.proofs.Tests.{eq_or_ne, lt_or_ge}
use Rattle.lists.specs.Lists.{◌∈◌}
use Rattle.rules.proofs.Chains.{by_edge, turned, ◌then◌}
use Rattle.rules.proofs.Crossings.{crossing, node_same}
use Rattle.rules.proofs.Kruskal.{chosen_apart}
use Rattle.rules.specs.Chain.{Chain, here}
use Rattle.rules.specs.FirstWays.{singular_of}
use Rattle.rules.specs.Land.{Land}
use Rattle.rules.specs.Passes.{chosen, Crossing, crossings, edges, less, less_than, node}

-- two cells, the lesser first
abbrev pub pair_of : ℕ → ℕ → Crossing
pair_of a b = record { lesser = min a b; greater = max a b }

pub pair_of-less : (a b : ℕ) → a < b → pair_of a b ≡ record { lesser = a; greater = b }
pair_of-less a b h =
    let e : min a b ≡ a = omega arith in
    let f : max a b ≡ b = omega arith in
    λ i. record { lesser = e i; greater = f i }

pub pair_of-greater : (a b : ℕ) → b < a → pair_of a b ≡ record { lesser = b; greater = a }
pair_of-greater a b h =
    let e : min a b ≡ b = omega arith in
    let f : max a b ≡ a = omega arith in
    λ i. record { lesser = e i; greater = f i }

module _ (L : Land) (both : (a b : ℕ) → L.beside a b ≡ true → L.beside b a ≡ true) where
  -- the cells c and d are neighbours that lesser crossings than x join: they have one node, or they are a lesser pair
  record Step (x : Crossing) (c d : ℕ) : Type 0 where
    pub on_one : c < L.cells
    pub on_other : d < L.cells
    pub beside : L.beside c d ≡ true
    pub lesser : (node L c ≡ node L d) ⊎ (less L (pair_of c d) x ≡ true)

  step_chain : (x : Crossing) {c d : ℕ} → Step x c d → Chain (edges L) (less_than L x (crossings L)) (node L c) (node L d)
  unfolding less_than
  step_chain x {c} {d} s = go s.lesser (eq_or_ne (singular_of L c) (singular_of L d)) (lt_or_ge c d) (lt_or_ge d c)
    where
      go : (node L c ≡ node L d) ⊎ (less L (pair_of c d) x ≡ true)
          → (singular_of L c ≡ singular_of L d) ⊎ (singular_of L c ≡ singular_of L d → ⊥) → (c < d) ⊎ (d ≤ c) → (d < c) ⊎ (c ≤ d)
          → Chain (edges L) (less_than L x (crossings L)) (node L c) (node L d)
      go (inl e) n l g = here e
      go (inr t) (inl e) l g = here (node_same L c d e)
      go (inr t) (inr n) (inl l) g =
          by_edge (record { lesser = c; greater = d })
          (keep_holds _ (crossing L (record { lesser = c; greater = d }) (record {
            less = l;
            on_lo = s.on_one;
            on_hi = s.on_other;
            beside = s.beside;
            differ = n;
          })) (subst (λ (y : Crossing). less L y x ≡ true) (pair_of-less c d l) t))
      go (inr t) (inr n) (inr l) (inl g) =
          turned
          (by_edge (record { lesser = d; greater = c })
          (keep_holds _ (crossing L (record { lesser = d; greater = c }) (record {
            less = g;
            on_lo = s.on_other;
            on_hi = s.on_one;
            beside = both c d s.beside;
            differ = λ e. n (sym e);
          })) (subst (λ (y : Crossing). less L y x ≡ true) (pair_of-greater c d g) t)))
      go (inr t) (inr n) (inr l) (inr g) = let e : c ≡ d = omega arith in here (ap (node L) e)

  -- a ring of the cells c 0, c 1, .., c k, each a neighbour of the next, and the last of the first
  pub record Ring (c : ℕ → ℕ) (k : ℕ) : Type 0 where
    pub closed : c (suc k) ≡ c 0
    pub on : (j : ℕ) → j ≤ k → c j < L.cells
    pub next : (j : ℕ) → j ≤ k → L.beside (c j) (c (suc j)) ≡ true

  module _ (c : ℕ → ℕ) (k : ℕ) (R : Ring c k) where
    -- the pair at place j of the ring
    abbrev pub ring_pair : ℕ → Crossing
    ring_pair j = pair_of (c j) (c (suc j))

    on_all : (j : ℕ) → j ≤ suc k → c j < L.cells
    on_all j h = go (lt_or_ge k j)
      where
        go : (k < j) ⊎ (j ≤ k) → c j < L.cells
        go (inl l) =
            let e : j ≡ suc k = omega arith in
            subst (λ (i : ℕ). i < L.cells) (sym (ap c e ∙ R.closed)) (R.on 0 (omega arith))
        go (inr l) = R.on j l

    -- the pair at place i is greater than every other pair of the ring whose cells lie in different nodes
    module _ (i : ℕ) (h : i ≤ k)
        (greatest : (j : ℕ) → j ≤ k → (j ≡ i → ⊥) → (node L (c j) ≡ node L (c (suc j)) → ⊥) → less L (ring_pair j) (ring_pair i) ≡ true) where
      one_step : (j : ℕ) → j ≤ k → (j ≡ i → ⊥) → Step (ring_pair i) (c j) (c (suc j))
      one_step j l n =
          record {
            on_one = R.on j l;
            on_other = on_all (suc j) (omega arith);
            beside = R.next j l;
            lesser = go (eq_or_ne (node L (c j)) (node L (c (suc j))));
          }
        where
          go : (node L (c j) ≡ node L (c (suc j))) ⊎ (node L (c j) ≡ node L (c (suc j)) → ⊥)
              → (node L (c j) ≡ node L (c (suc j))) ⊎ (less L (ring_pair j) (ring_pair i) ≡ true)
          go (inl e) = inl e
          go (inr d) = inr (greatest j l n d)

      -- along the ring from place p, m steps that don't meet place i
      along : (p m : ℕ) → p + m ≤ suc k → ((j : ℕ) → p ≤ j → j < p + m → j ≡ i → ⊥)
          → Chain (edges L) (less_than L (ring_pair i) (crossings L)) (node L (c p)) (node L (c (p + m)))
      along p zero l n = let e : p ≡ p + zero = omega arith in here (ap (λ (j : ℕ). node L (c j)) e)
      along p (suc m) l n =
          let e : suc (p + m) ≡ p + suc m = omega arith in
          along p m (omega arith) (λ j a b. n j a (omega arith)) then
          (step_chain (ring_pair i) (one_step (p + m) (omega arith) (n (p + m) (omega arith) (omega arith))) then
          here (ap (λ (j : ℕ). node L (c j)) e))

      -- the rest of the ring: from the next cell round to this one
      rest : Chain (edges L) (less_than L (ring_pair i) (crossings L)) (node L (c (suc i))) (node L (c i))
      rest =
          let e : suc i + (k - i) ≡ suc k = omega arith in
          let z : 0 + i ≡ i = omega arith in
          along (suc i) (k - i) (omega arith) (λ j a b q. omega arith) then
          (here (ap (λ (j : ℕ). node L (c j)) e ∙ ap (node L) R.closed) then
          (along 0 i (omega arith) (λ j a b q. omega arith) then here (ap (λ (j : ℕ). node L (c j)) z)))

      -- so it is no chosen pass
      pub ring_greatest : ring_pair i ∈ chosen L → ⊥
      ring_greatest m = go (lt_or_ge (c i) (c (suc i)))
        where
          go : (c i < c (suc i)) ⊎ (c (suc i) ≤ c i) → ⊥
          go (inl l) =
              let e : min (c i) (c (suc i)) ≡ c i = omega arith in
              let f : max (c i) (c (suc i)) ≡ c (suc i) = omega arith in
              chosen_apart L (ring_pair i) m (here (ap (node L) e) then (turned rest then here (ap (node L) (sym f))))
          go (inr l) =
              let e : min (c i) (c (suc i)) ≡ c (suc i) = omega arith in
              let f : max (c i) (c (suc i)) ≡ c i = omega arith in
              chosen_apart L (ring_pair i) m (here (ap (node L) e) then (rest then here (ap (node L) (sym f))))

  -- a triangle of neighbours: a pair that is greater than the other two, as far as they lie in different nodes, is no chosen pass
  module _ (x y z : ℕ) (on-x : x < L.cells) (on-y : y < L.cells) (on-z : z < L.cells)
      (xy : L.beside x y ≡ true) (yz : L.beside y z ≡ true) (zx : L.beside z x ≡ true) where
    abbrev in_turn : ℕ → ℕ
    in_turn zero = x
    in_turn (suc zero) = y
    in_turn (suc (suc zero)) = z
    in_turn (suc (suc (suc j))) = x

    triangle : Ring in_turn 2
    triangle = record { closed = refl; on = on_each; next = next_each }
      where
        on_each : (j : ℕ) → j ≤ 2 → in_turn j < L.cells
        on_each zero h = on-x
        on_each (suc zero) h = on-y
        on_each (suc (suc zero)) h = on-z
        on_each (suc (suc (suc j))) h = absurd (omega arith)

        next_each : (j : ℕ) → j ≤ 2 → L.beside (in_turn j) (in_turn (suc j)) ≡ true
        next_each zero h = xy
        next_each (suc zero) h = yz
        next_each (suc (suc zero)) h = zx
        next_each (suc (suc (suc j))) h = absurd (omega arith)

    pub triangle_greatest : ((node L y ≡ node L z → ⊥) → less L (pair_of y z) (pair_of x y) ≡ true)
        → ((node L x ≡ node L z → ⊥) → less L (pair_of x z) (pair_of x y) ≡ true) → pair_of x y ∈ chosen L → ⊥
    triangle_greatest f g = ring_greatest in_turn 2 triangle 0 (omega arith) greatest
      where
        turned_pair : pair_of z x ≡ pair_of x z
        turned_pair =
            let e : min z x ≡ min x z = omega arith in
            let h : max z x ≡ max x z = omega arith in
            λ i. record { lesser = e i; greater = h i }

        greatest : (j : ℕ) → j ≤ 2 → (j ≡ 0 → ⊥) → (node L (in_turn j) ≡ node L (in_turn (suc j)) → ⊥)
            → less L (pair_of (in_turn j) (in_turn (suc j))) (pair_of x y) ≡ true
        greatest zero h n d = absurd (n refl)
        greatest (suc zero) h n d = f d
        greatest (suc (suc zero)) h n d = subst (λ (p : Crossing). less L p (pair_of x y) ≡ true) (sym turned_pair) (g (λ e. d (sym e)))
        greatest (suc (suc (suc j))) h n d = absurd (omega arith)
