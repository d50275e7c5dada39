-- A round of jumping: every entry leads at least twice as far along the way as before, and where none moved each leads to one that stays.
-- Assumes nothing.
use mathlib.Core.Bool.{Bool, cond, false, not, true, true≢false, ◌||◌}
use mathlib.Core.List.{List}
use mathlib.Core.Logic.{inl, inr, ◌⊎◌}
use mathlib.Core.Path.{ap, refl, subst, sym, ◌∙◌, ◌≡◌}
use Prim.Native.Nat.{suc, zero, ℕ, ◌+◌, ◌<◌, ◌≤◌}
use native.Mathlib.Numerals.{add-one}
use native.Mathlib.Omega.{arith}
use lib.Dec.{eqb}
use lib.ListN.{length, length-set, set}
use lib.Seq.{get_or-set_other, get_or-set_same, set-get_or}
use borrow.Author.Tests.{eqb-true}
use Rattle.basins.specs.Jumps.{any_moved, jumped, moved_on, Within}
use Rattle.lists.proofs.Repeat.{repeat_add}
use Rattle.lists.proofs.Tests.{eq_or_ne, is, isnt, known, Known}
use Rattle.lists.specs.Lists.{at, repeat}

-- c's entry is at least m steps of f from c
abbrev pub Ahead : (ℕ → ℕ) → ℕ → List ℕ → ℕ → Type 0
Ahead f m entries c = (j : ℕ) × (m ≤ j) × (at entries c ≡ repeat j f c)

abbrev pub Leads : (ℕ → ℕ) → ℕ → ℕ → List ℕ → Type 0
Leads f n m entries = (c : ℕ) → c < n → Ahead f m entries c

pub jumped-next : (i : ℕ) (entries : List ℕ)
    → jumped (i + 1) entries ≡ set (jumped i entries) i (at (jumped i entries) (at (jumped i entries) i))
unfolding jumped
jumped-next i entries = rw add-one

pub moved_next : (i : ℕ) (entries : List ℕ)
    → any_moved (i + 1) entries ≡ moved_on (any_moved i entries) (at (jumped i entries) i) (at (jumped i entries) (at (jumped i entries) i))
unfolding any_moved
moved_next i entries = rw add-one

-- moved before, or two cells differ
pub moved_or : (before : Bool) (a b : ℕ) → before || not (eqb a b) ≡ moved_on before a b
moved_or before a b = go before (eqb a b)
  where
    go : (x y : Bool) → x || not y ≡ cond y x true
    go true true = refl
    go true false = refl
    go false true = refl
    go false false = refl

pub jumped-none : (entries : List ℕ) → jumped 0 entries ≡ entries
unfolding jumped
jumped-none entries = refl

pub moved_none : (entries : List ℕ) → any_moved 0 entries ≡ false
unfolding any_moved
moved_none entries = refl

none_moved : (before : Bool) (a b : ℕ) → moved_on before a b ≡ false → (before ≡ false) × (a ≡ b)
none_moved before a b e = go (known (eqb a b))
  where
    go : Known (eqb a b) → (before ≡ false) × (a ≡ b)
    go (is t) = (sym (ap (λ (z : Bool). cond z before true) t) ∙ e, eqb-true a b t)
    go (isnt t) = absurd (true≢false (sym (ap (λ (z : Bool). cond z before true) t) ∙ e))

-- what is known after i turns
pub record Turned (n : ℕ) (old entries : List ℕ) (moved : Bool) (i : ℕ) : Type 0 where
  pub size : length entries ≡ length old
  pub inside : Within n entries
  pub as_far : (f : ℕ → ℕ) (m : ℕ) → Leads f n m old → Leads f n m entries
  pub twice : (f : ℕ → ℕ) (m : ℕ) → Leads f n m old → (c : ℕ) → c < i → Ahead f (m + m) entries c
  pub same : moved ≡ false → entries ≡ old
  pub still : moved ≡ false → (c : ℕ) → c < i → at entries (at entries c) ≡ at entries c
  pub past : (c : ℕ) → n ≤ c → at entries c ≡ at old c

module _ (n : ℕ) (old p : List ℕ) (moved : Bool) (i : ℕ) (T : Turned n old p moved i) (h : i < n) (room : n ≤ length p) where
  abbrev d : ℕ
  d = at p i

  abbrev e : ℕ
  e = at p d

  abbrev q : List ℕ
  q = set p i e

  by_place : (A : ℕ → Type 0) (c : ℕ) → ((c ≡ i → ⊥) → A (at p c)) → (c ≡ i → A e) → A (at q c)
  by_place A c f g = go (eq_or_ne c i)
    where
      go : (c ≡ i) ⊎ (c ≡ i → ⊥) → A (at q c)
      go (inl z) = subst A (sym (ap (at q) z ∙ get_or-set_same p i e 0 (omega arith))) (g z)
      go (inr z) = subst A (sym (get_or-set_other p i c e 0 z)) (f z)

  -- two jumps in a row
  far : (f : ℕ → ℕ) (m : ℕ) → Leads f n m p → (j : ℕ) × (m + m ≤ j) × (e ≡ repeat j f i)
  far f m H =
      let a = H i h in
      let b = H d (T.inside i h) in
      (a.0 + b.0, omega (arith, a.1, b.1), b.2 ∙ ap (repeat b.0 f) a.2 ∙ sym (repeat_add f a.0 b.0 i))

  ahead : (f : ℕ → ℕ) (m l c : ℕ) → l ≤ m + m → Leads f n m p → ((c ≡ i → ⊥) → Ahead f l p c) → Ahead f l q c
  ahead f m l c u H g = by_place (λ (x : ℕ). (j : ℕ) × (l ≤ j) × (x ≡ repeat j f c)) c g
      (λ z. let y = far f m H in (y.0, omega (arith, y.1), y.2 ∙ ap (repeat y.0 f) (sym z)))

  unmoved : moved_on moved d e ≡ false → q ≡ p
  unmoved s = ap (set p i) (sym (none_moved moved d e s).1) ∙ set-get_or p i 0

  stays : moved_on moved d e ≡ false → (c : ℕ) → c < i + 1 → (c ≡ i) ⊎ (c ≡ i → ⊥) → at p (at p c) ≡ at p c
  stays s c l (inl z) = subst (λ (x : ℕ). at p (at p x) ≡ at p x) (sym z) (sym (none_moved moved d e s).1)
  stays s c l (inr z) = T.still (none_moved moved d e s).0 c (omega (arith, z))

  turned_next : Turned n old q (moved_on moved d e) (i + 1)
  turned_next =
      record {
        size = length-set p i e ∙ T.size;
        inside = λ c l. by_place (λ (x : ℕ). x < n) c (λ z. T.inside c l) (λ z. T.inside d (T.inside i h));
        as_far = λ f m H c l. ahead f m m c (omega arith) (T.as_far f m H) (λ z. T.as_far f m H c l);
        twice = λ f m H c l. ahead f m (m + m) c (omega arith) (T.as_far f m H) (λ z. T.twice f m H c (omega (arith, z)));
        same = λ s. unmoved s ∙ T.same (none_moved moved d e s).0;
        still = λ s c l. subst (λ (x : List ℕ). at x (at x c) ≡ at x c) (sym (unmoved s)) (stays s c l (eq_or_ne c i));
        past = λ c l. get_or-set_other p i c e 0 (λ z. let y : c ≡ i = z in omega arith) ∙ T.past c l;
      }

-- i turns of a round over entries that stay within the first n
pub turned : (n : ℕ) (old : List ℕ) (i : ℕ) → n ≤ length old → Within n old → i ≤ n → Turned n old (jumped i old) (any_moved i old) i
unfolding jumped any_moved
turned n old zero room inside l =
    record {
      size = refl;
      inside = inside;
      as_far = λ f m H. H;
      twice = λ f m H c k. absurd (omega arith);
      same = λ e. refl;
      still = λ e c k. absurd (omega arith);
      past = λ c k. refl;
    }
turned n old (suc i) room inside l =
    let T = turned n old i room inside (omega arith) in
    let s : length (jumped i old) ≡ length old = T.size in
    subst (λ (k : ℕ). Turned n old (set (jumped i old) i (at (jumped i old) (at (jumped i old) i)))
    (moved_on (any_moved i old) (at (jumped i old) i) (at (jumped i old) (at (jumped i old) i))) k)
    (add-one i) (turned_next n old (jumped i old) (any_moved i old) i T (omega arith) (omega arith))
