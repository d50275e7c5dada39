-- A turn: a cell's count and one more is offered to places around it, those whose bit is set are the cells that may step to it, and it is taken
-- out of the queue.
-- Assumes nothing.
use mathlib.Core.Bool.{Bool, cond, true, true≢false, ◌&&◌}
use mathlib.Core.List.Memᴰ.{cases_cons as in-cases}
use mathlib.Core.List.Memᴰ.{head as in_head}
use mathlib.Core.List.Memᴰ.{not-nil as in-none}
use mathlib.Core.List.{[], List}
use mathlib.Core.List.Memᴰ.{tail as in_Tail}
use mathlib.Core.List.{◌∷◌}
use mathlib.Core.Logic.{inl, inr, ◌⊎◌}
use mathlib.Core.Path.{ap, refl, subst, sym, ◌∙◌, ◌≡◌}
use Prim.Native.Nat.{suc, ℕ, ◌+◌, ◌<◌, ◌≤◌}
use native.Mathlib.Omega.{arith}
use lib.Dec.{eqb}
use borrow.Author.Tests.{eq-eqb, eqb-true, ne_eqb}
use Rattle.lists.proofs.Tests.{eq_or_ne, is, isnt, Known, known}
use Rattle.lists.specs.Lists.{at, ◌∈◌}
use Rattle.spread.proofs.Breadth.{alone, count_at, count_of, enter_count, entering, enter_less, last_or, queued, Spreading, uncounted}
use Rattle.spread.proofs.Breadth.{Visiting, Whereabouts}
use Rattle.spread.specs.Steps.{none}
use Rattle.spread.specs.Wave.{bit_at, entered, offered, offers, place_at, Wave}

-- cell d, which may step to c, is counted at place i
pub record StepsTo (n : ℕ) (E : ℕ → ℕ → Bool) (c i d : ℕ) : Type 0 where
  pub on : d < n
  pub step : E d c ≡ true
  pub back : E c d ≡ true
  pub place : i ≡ d + 65

module _ (n : ℕ) (E : ℕ → ℕ → Bool) (marked : ℕ → Bool) (old : List ℕ) (h c m : ℕ) where
  -- what offers from c leave: c is still visited, and no count rose
  record Offered (s s' : Wave) : Type 0 where
    pub visiting : Visiting n E marked old h c m s'
    pub less : (x : ℕ) → count_of s' x ≤ count_of s x

  same : (s : Wave) → Visiting n E marked old h c m s → Offered s s
  same s I = record { visiting = I; less = λ x. omega arith }

  -- a cell that may step to c and is counted stands in the queue, so its count is at most one more
  seen : (s : Wave) → Visiting n E marked old h c m s → (d i : ℕ) → StepsTo n E c i d → (count_of s d ≡ none → ⊥) → Whereabouts n E marked old s d
      → count_of s d ≤ suc m
  seen s I d i T f (uncounted q) = absurd (f q)
  seen s I d i T f (queued r) =
      let k : count_at s r.place ≡ count_of s d = ap (at s.counts) r.is in
      let q : count_at s h ≡ m = ap (at s.counts) I.cell ∙ I.count in
      let z = I.so_far.close h r.place (omega arith) I.waits r.before in
      omega arith
  seen s I d i T f (alone z none-steps) =
      absurd (none-steps c (let o = I.so_far.on h I.waits in let p = I.cell in omega arith) T.back)

  record One (bit i : ℕ) (s s' : Wave) : Type 0 where
    pub offered_one : Offered s s'
    pub reached : bit ≡ 1 → (d : ℕ) → StepsTo n E c i d → count_of s' d ≤ suc m

  -- one place is offered
  offer : (bit i : ℕ) (s : Wave) → Visiting n E marked old h c m s → (bit ≡ 1 → (d : ℕ) × StepsTo n E c i d) → One bit i s (offered bit (m + 1) i s)
  unfolding offered
  offer bit i s I near = go (eq_or_ne bit 1) (known (eqb (at s.counts i) none))
    where
      there : (d : ℕ) → StepsTo n E c i d → at s.counts i ≡ count_of s d
      there d T = ap (at s.counts) T.place

      enters : at s.counts i ≡ none → (d : ℕ) → StepsTo n E c i d → One bit i s (entered (m + 1) i s)
      enters k d T =
          let blank : count_of s d ≡ none = sym (there d T) ∙ k in
          subst (λ (j : ℕ). One bit i s (entered (m + 1) j s)) (sym T.place)
          (record {
            offered_one =
                record {
                  visiting = entering n E marked old h c m s I d T.on blank T.step;
                  less = enter_less n E marked old h c m s I d T.on blank T.step;
                };
            reached = λ b x X.
                let x-is : x ≡ d = let p = X.place in let q = T.place in omega arith in
                subst (λ (y : ℕ). count_of (entered (m + 1) (d + 65) s) y ≤ suc m) (sym x-is)
                (enter_count n E marked old h c m s I d T.on blank T.step);
          })

      go : (bit ≡ 1) ⊎ (bit ≡ 1 → ⊥) → Known (eqb (at s.counts i) none)
          → One bit i s (cond (eqb bit 1 && eqb (at s.counts i) none) (entered (m + 1) i s) s)
      go (inl b) (is k) = let (d, T) = near b in rw (eq-eqb bit 1 b, k) (enters (eqb-true _ _ k) d T)
      go (inl b) (isnt k) =
          rw (eq-eqb bit 1 b, k) (record {
            offered_one = same s I;
            reached = λ z d T.
                seen s I d i T (λ q. true≢false (sym (eq-eqb _ none (there d T ∙ q)) ∙ k)) (I.so_far.stands d T.on);
          })
      go (inr z) k = rw (ne_eqb bit 1 z) (record { offered_one = same s I; reached = λ b. absurd (z b) })

  -- and places one after the other
  module _ (w mask : ℕ) where
    abbrev after : List ℕ → Wave → Wave
    after ps s = offers w (c + 65) mask (m + 1) ps s

    abbrev place : ℕ → ℕ
    place p = place_at w (c + 65) p

    record Many (ps : List ℕ) (s s' : Wave) : Type 0 where
      pub offered_all : Offered s s'
      pub reached : (p d : ℕ) → p ∈ ps → bit_at mask p ≡ 1 → StepsTo n E c (place p) d → count_of s' d ≤ suc m

    offer_all : (ps : List ℕ) (s : Wave) → Visiting n E marked old h c m s
        → ((p : ℕ) → p ∈ ps → bit_at mask p ≡ 1 → (d : ℕ) × StepsTo n E c (place p) d) → Many ps s (after ps s)
    unfolding offers
    offer_all [] s I near = record { offered_all = same s I; reached = λ p d i. absurd (in-none i) }
    offer_all (p ∷ ps) s I near =
        go (offer (bit_at mask p) (place p) s I (near p (in_head refl)))
        (λ J. offer_all ps (offered (bit_at mask p) (m + 1) (place p) s) J (λ q i. near q (in_Tail i)))
      where
        s₁ : Wave
        s₁ = offered (bit_at mask p) (m + 1) (place p) s

        go : One (bit_at mask p) (place p) s s₁ → (Visiting n E marked old h c m s₁ → Many ps s₁ (after ps s₁)) → Many (p ∷ ps) s (after ps s₁)
        go A f = joined (f A.offered_one.visiting)
          where
            joined : Many ps s₁ (after ps s₁) → Many (p ∷ ps) s (after ps s₁)
            joined B =
                record {
                  offered_all =
                      record {
                        visiting = B.offered_all.visiting;
                        less = λ x. let a = A.offered_one.less x in let b = B.offered_all.less x in omega arith;
                      };
                  reached = λ q d i bit T. found q d bit T (in-cases i);
                }
              where
                found : (q d : ℕ) → bit_at mask q ≡ 1 → StepsTo n E c (place q) d → (q ≡ p) ⊎ (q ∈ ps) → count_of (after ps s₁) d ≤ suc m
                found q d bit T (inl e) =
                    let a = A.reached (subst (λ (r : ℕ). bit_at mask r ≡ 1) e bit) d (subst (λ (r : ℕ). StepsTo n E c (place r) d) e T) in
                    let b = B.offered_all.less d in
                    omega arith
                found q d bit T (inr i) = B.reached q d i bit T

    -- all cells that may step to c are offered, and c is taken out
    turn_all : (ps : List ℕ) (s : Wave) → Visiting n E marked old h c m s
        → ((p : ℕ) → p ∈ ps → bit_at mask p ≡ 1 → (d : ℕ) × StepsTo n E c (place p) d)
        → ((d : ℕ) → d < n → E d c ≡ true → (p : ℕ) × (p ∈ ps) × (bit_at mask p ≡ 1) × StepsTo n E c (place p) d)
        → Spreading n E marked old (h + 1) (after ps s)
    turn_all ps s I near all = go (offer_all ps s I near)
      where
        go : Many ps s (after ps s) → Spreading n E marked old (h + 1) (after ps s)
        go A =
            let S = J.so_far in
            record {
              few = S.few;
              fits = S.fits;
              size = S.size;
              roomy = S.roomy;
              taken = let o = J.waits in omega arith;
              on = S.on;
              stands = S.stands;
              way = S.way;
              early = S.early;
              rising = S.rising;
              close = λ i j l u v. S.close i j (omega arith) u v;
              zeros = S.zeros;
              spread = λ i x d l q b e. taken_out i x d q b e (last_or i h l);
              same_length = S.same_length;
              margin = S.margin;
            }
          where
            J : Visiting n E marked old h c m (after ps s)
            J = A.offered_all.visiting

            taken_out : (i x d : ℕ) → at (after ps s).queue i ≡ x + 65 → d < n → E d x ≡ true → (i < h) ⊎ (i ≡ h)
                → count_of (after ps s) d ≤ suc (count_of (after ps s) x)
            taken_out i x d q b e (inl l) = J.so_far.spread i x d l q b e
            taken_out i x d q b e (inr l) =
                let y : x + 65 ≡ c + 65 = sym q ∙ ap (at (after ps s).queue) l ∙ J.cell in
                let x-is : x ≡ c = omega arith in
                let k : count_of (after ps s) x ≡ m = ap (count_of (after ps s)) x-is ∙ J.count in
                let (p, i, bit, T) = all d b (subst (λ (z : ℕ). E d z ≡ true) x-is e) in
                let r = A.reached p d i bit T in
                omega arith

-- the next cell of the queue has its turn
pub turn : (n : ℕ) (E : ℕ → ℕ → Bool) (marked : ℕ → Bool) (old : List ℕ) (w mask h c : ℕ) (ps : List ℕ) (s : Wave) → Spreading n E marked old h s → h < s.tail
    → at s.queue h ≡ c + 65
    → ((p : ℕ) → p ∈ ps → bit_at mask p ≡ 1 → (d : ℕ) × StepsTo n E c (place_at w (c + 65) p) d)
    → ((d : ℕ) → d < n → E d c ≡ true → (p : ℕ) × (p ∈ ps) × (bit_at mask p ≡ 1) × StepsTo n E c (place_at w (c + 65) p) d)
    → Spreading n E marked old (h + 1) (offers w (c + 65) mask (count_of s c + 1) ps s)
turn n E marked old w mask h c ps s S waits cell near all =
    turn_all n E marked old h c (count_of s c) w mask ps s (record { so_far = S; waits = waits; cell = cell; count = refl }) near all
