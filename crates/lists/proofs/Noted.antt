-- What is noted at some places of a list: a function's numbers there, and the list as it was elsewhere.
-- Assumes nothing.
use mathlib.Core.List.Memᴰ
use mathlib.Core.List.Memᴰ.{append_cases as in-append}
use mathlib.Core.List.Memᴰ.{head as in_head}
use mathlib.Core.List.{[], List}
use mathlib.Core.List.Memᴰ.{append_left as in_left}
use mathlib.Core.List.Memᴰ.{append_right as in_right}
use mathlib.Core.List.Memᴰ.{not-nil as in-none}
use mathlib.Core.List.{◌++◌, ◌∷◌}
use mathlib.Core.Logic.{inl, inr, ◌⊎◌}
use mathlib.Core.Path.{refl, sym, ◌∙◌, ◌≡◌}
use Prim.Native.Nat.{ℕ, ◌<◌, ◌≤◌}
use native.Mathlib.Omega.{arith}
use lib.ListN.{length, length-set, set}
use lib.Seq.{ext_get_or, get_or-set_other, get_or-set_same}
use Rattle.lists.proofs.Determined.{one_answer}
use Rattle.lists.proofs.Filled.{filled-by}
use Rattle.lists.proofs.Tests.{eq_or_ne}
use Rattle.lists.specs.Lists.{at, filled, ◌∈◌}
use Rattle.lists.specs.Stores.{Noted}

-- nowhere
pub noted-none : (f : ℕ → ℕ) (l : List ℕ) → Noted f [] l l
noted-none f l = record { size = refl; there = λ x m. absurd (in-none m); elsewhere = λ x m. refl }

-- at one place more
pub noted-next : (f : ℕ → ℕ) (places old l : List ℕ) (x v : ℕ) → Noted f places old l → x < length old → v ≡ f x
    → Noted f (places ++ (x ∷ [])) old (set l x v)
noted-next f places old l x v N h e =
    record {
      size = length-set l x v ∙ N.size;
      there = λ y m. found y (eq_or_ne y x) (in-append places m);
      elsewhere = λ y z. get_or-set_other l x y v 0 (λ q. z (in_right places (in_head q))) ∙ N.elsewhere y (λ m. z (in_left (x ∷ []) m));
    }
  where
    found : (y : ℕ) → (y ≡ x) ⊎ (y ≡ x → ⊥) → (y ∈ places) ⊎ (y ∈ x ∷ []) → at (set l x v) y ≡ f y
    found y (inl q) i = let s = N.size in rw q (get_or-set_same l x v 0 (omega arith) ∙ e)
    found y (inr z) (inl i) = get_or-set_other l x y v 0 z ∙ N.there y i
    found y (inr z) (inr i) = absurd (z (Memᴰ.eq_of_singleton i))

-- at all n places
pub noted-all : (f : ℕ → ℕ) (n : ℕ) (places old l : List ℕ) → n ≤ length old → ((x : ℕ) → x < n → x ∈ places)
    → ((x : ℕ) → x ∈ places → x < n) → Noted f places old l → l ≡ filled f n old
noted-all f n places old l h all only k =
    filled-by f n old l h k.size (λ x i. k.there x (all x i)) (λ x i. k.elsewhere x (λ m. let u : x < n = only x m in omega arith))

-- no other list has the same numbers noted: where the two differed, the place would be none of the places, and not be elsewhere
pub noted_one : {f : ℕ → ℕ} {places old l l' : List ℕ} → Noted f places old l → Noted f places old l' → l ≡ l'
noted_one {f} {places} {old} {l} {l'} N M = ext_get_or 0 l l' (N.size ∙ sym M.size) (λ x h. go x (eq_or_ne (at l x) (at l' x)))
  where
    go : (x : ℕ) → (at l x ≡ at l' x) ⊎ (at l x ≡ at l' x → ⊥) → at l x ≡ at l' x
    go x (inl e) = e
    go x (inr z) = absurd (z (one_answer (N.elsewhere x out) (M.elsewhere x out)))
      where
        out : x ∈ places → ⊥
        out m = z (one_answer (N.there x m) (M.there x m))
