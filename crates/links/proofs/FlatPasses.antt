-- A flat pass that adds to each entry, one entry at a time: at turn c the cells before c - after are done, and the others have their room yet.
-- Assumes nothing.
use mathlib.Core.Bool.{Bool, cond, false, true, ◌&&◌}
use mathlib.Core.List.{List}
use mathlib.Core.Path.{ap, refl, sym, ◌∙◌, ◌≡◌}
use Prim.Native.Nat.{max, ℕ, ◌+◌, ◌-◌, ◌<◌, ◌≤◌}
use native.Mathlib.Omega.{arith}
use lib.Dec.{eqb, leb}
use lib.ListN.{length, set}
use borrow.Author.Tests.{le-leb, le-ltb, leb-true, lt-ltb}
use Rattle.links.proofs.Added.{added_none, added_one, added_same}
use Rattle.links.specs.Leads.{Added, added_both, added_to, Fits}
use Rattle.lists.proofs.Tests.{is, isnt, known, Known, same_ltb}
use Rattle.lists.specs.Lists.{at}

-- `links::add`, turn by turn
module _ (after before : ℕ) (weights : List ℕ) (k m : ℕ) where
  -- what is added to cell i where c says whether its turn has come
  abbrev told : ℕ → Bool → ℕ
  told i come = cond (leb before i && (come && eqb (at weights (i + after - before)) k)) m 0

  told_none : (i : ℕ) → told i false ≡ 0
  told_none i = go (leb before i)
    where
      go : (t : Bool) → ◌≡◌ {A = ℕ} (cond (t && false) m 0) 0
      go true = refl
      go false = refl

  to_none : (i : ℕ) → added_to after before (after + before) weights k m i ≡ 0
  to_none i = go (known (leb before i))
    where
      go : Known (leb before i) → added_to after before (after + before) weights k m i ≡ 0
      go (is t) =
          let q : before ≤ i = leb-true before i t in
          ap (told i) (le-ltb (i + after) (after + before) (omega arith)) ∙ told_none i
      go (isnt t) = rw t

  to-new : (c n : ℕ) → after + before ≤ c → c < n → added_to after before n weights k m (c - after) ≡ cond (eqb (at weights (c - before)) k) m 0
  to-new c n h l =
      let e : c - after + after ≡ c = omega arith in
      rw (e, le-leb before (c - after) (omega arith), lt-ltb c n l)

  to-not_yet : (c : ℕ) → after ≤ c → added_to after before c weights k m (c - after) ≡ 0
  to-not_yet c h = ap (told (c - after)) (le-ltb (c - after + after) c (omega arith)) ∙ told_none (c - after)

  to_other : (c i : ℕ) → after ≤ c → (i ≡ c - after → ⊥) → added_to after before (c + 1) weights k m i ≡ added_to after before c weights k m i
  to_other c i h z = ap (told i) (same_ltb (i + after) (c + 1) (i + after) c (λ l. omega (arith, z)) (λ l. omega arith))

  -- the loop's end: c is n, or no turn came
  to-all : (c n : ℕ) → c ≡ max (after + before) n → (i : ℕ) → added_to after before c weights k m i ≡ added_to after before n weights k m i
  to-all c n e i = go (known (leb before i))
    where
      go : Known (leb before i) → added_to after before c weights k m i ≡ added_to after before n weights k m i
      go (is t) =
          let q : before ≤ i = leb-true before i t in
          ap (told i) (same_ltb (i + after) c (i + after) n (λ l. omega arith) (λ l. omega arith))
      go (isnt t) = rw t

  pub pass_none : (l : List ℕ) → Added (added_to after before (after + before) weights k m) l l
  pass_none l = added_none _ l to_none

  -- the entry whose turn it is has not grown yet, so there is room for what is added now
  pub pass_fits : (c n : ℕ) (l new : List ℕ) {v : ℕ} → after + before ≤ c → c < n → Fits (added_to after before n weights k m) n l
      → Added (added_to after before c weights k m) l new → v ≡ cond (eqb (at weights (c - before)) k) m 0
      → at new (c - after) + v < 256
  pass_fits c n l new h b F A e =
      let s = A.sums (c - after) in
      let z = to-not_yet c (omega arith) in
      let t = to-new c n h b in
      let r = F (c - after) (omega arith) in
      omega arith

  pub pass_next : (c : ℕ) (l new : List ℕ) {v : ℕ} → after + before ≤ c → c - after < length l
      → Added (added_to after before c weights k m) l new → v ≡ cond (eqb (at weights (c - before)) k) m 0
      → Added (added_to after before (c + 1) weights k m) l (set new (c - after) (at new (c - after) + v))
  pass_next c l new h b A e =
      added_one (added_to after before c weights k m) (added_to after before (c + 1) weights k m) l new (c - after) _ b A
      (to-not_yet c (omega arith)) (ap (λ (y : ℕ). at new (c - after) + y) (e ∙ sym (to-new c (c + 1) h (omega arith))))
      (λ i z. to_other c i (omega arith) z)

  pub pass_all : (c n : ℕ) (l new : List ℕ) → c ≡ max (after + before) n → Added (added_to after before c weights k m) l new
      → Added (added_to after before n weights k m) l new
  pass_all c n l new e A = added_same _ _ l new (to-all c n e) A

  -- none past the tile grows
  pass_past : (n i : ℕ) → n ≤ i → added_to after before n weights k m i ≡ 0
  pass_past n i h = ap (told i) (le-ltb (i + after) n (omega arith)) ∙ told_none i

-- nor does it by a pass each way
pub both_past : (step : ℕ) (weights : List ℕ) (back on n i : ℕ) → n ≤ i → added_both step n weights back on i ≡ 0
both_past step weights back on n i h =
    let a = pass_past 0 step weights on back n i h in
    let b = pass_past step 0 weights back on n i h in
    omega arith
