-- Lists whose entries grow: by nothing, at one place more, by functions that agree, and by two parts one after the other. Where the whole
-- fits into a byte, each part does in its turn.
-- Assumes nothing.
use mathlib.Core.List.{List}
use mathlib.Core.Logic.{inl, inr, ◌⊎◌}
use mathlib.Core.Path.{ap, refl, sym, ◌∙◌, ◌≡◌}
use Prim.Native.Nat.{ℕ, ◌+◌, ◌<◌}
use native.Mathlib.Omega.{arith}
use lib.ListN.{length, length-set, set}
use lib.Seq.{get_or-set_other, get_or-set_same}
use Rattle.links.specs.Leads.{Added, Fits}
use Rattle.lists.proofs.Tests.{eq_or_ne}
use Rattle.lists.specs.Lists.{at}

pub added_none : (f : ℕ → ℕ) (l : List ℕ) → ((i : ℕ) → f i ≡ 0) → Added f l l
added_none f l z = record { size = refl; sums = λ i. let e = z i in omega arith }

pub added_one : (f g : ℕ → ℕ) (l m : List ℕ) (p v : ℕ) → p < length l → Added f l m → f p ≡ 0 → v ≡ at m p + g p
    → ((i : ℕ) → (i ≡ p → ⊥) → g i ≡ f i) → Added g l (set m p v)
added_one f g l m p v h A z e o =
    record { size = length-set m p v ∙ A.size; sums = λ i. go i (eq_or_ne i p) }
  where
    go : (i : ℕ) → (i ≡ p) ⊎ (i ≡ p → ⊥) → at (set m p v) i ≡ at l i + g i
    go i (inl q) =
        let s = A.size in let k = A.sums p in
        rw q (get_or-set_same m p v 0 (omega arith) ∙ e ∙ omega arith)
    go i (inr q) = get_or-set_other m p i v 0 q ∙ A.sums i ∙ ap (λ (y : ℕ). at l i + y) (sym (o i q))

pub added_same : (f g : ℕ → ℕ) (l m : List ℕ) → ((i : ℕ) → f i ≡ g i) → Added f l m → Added g l m
added_same f g l m e A = record { size = A.size; sums = λ i. A.sums i ∙ ap (λ (y : ℕ). at l i + y) (e i) }

-- f, and then g
module _ (f g : ℕ → ℕ) {l m : List ℕ} where
  pub added_both_lem : {new : List ℕ} → Added f l m → Added g m new → Added (λ i. f i + g i) l new
  added_both_lem A B = record { size = B.size ∙ A.size; sums = λ i. let a = A.sums i in let b = B.sums i in omega arith }

  pub fits_second : {n : ℕ} → Fits (λ i. f i + g i) n l → Added f l m → Fits g n m
  fits_second F A i h = let s = F i h in let a = A.sums i in omega arith

pub fits_first : (f g : ℕ → ℕ) {n : ℕ} (l : List ℕ) → Fits (λ i. f i + g i) n l → Fits f n l
fits_first f g l F i h = let s = F i h in omega arith
