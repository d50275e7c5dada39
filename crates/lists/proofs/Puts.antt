-- Loops that store at one place a turn: nothing is stored yet, and one store more.
-- Assumes nothing.
use mathlib.Core.List.{List}
use mathlib.Core.Logic.{inl, inr, ◌⊎◌}
use mathlib.Core.Path.{refl, subst, sym, ◌∙◌, ◌≡◌}
use Prim.Native.Nat.{ℕ, ◌+◌, ◌<◌, ◌≤◌}
use native.Mathlib.Omega.{arith}
use lib.ListN.{length, length-set, set}
use lib.Seq.{get_or-set_other, get_or-set_same}
use Rattle.lists.proofs.Tests.{eq_or_ne}
use Rattle.lists.specs.Lists.{at}
use Rattle.lists.specs.Stores.{Puts}

module _ (f : ℕ → ℕ) where
  pub puts_none : (a b : ℕ) (old : List ℕ) → b ≡ a → Puts f a b old old
  puts_none a b old e = record { long = refl; inside = λ k h l. absurd (omega arith); outside = λ k o. refl }

  pub puts_next : {a b : ℕ} {old new : List ℕ} (v : ℕ) → Puts f a b old new → a ≤ b → b < length old → v ≡ f b
      → Puts f a (b + 1) old (set new b v)
  puts_next {a} {b} {old} {new} v P h l e =
      record {
        long = length-set new b v ∙ P.long;
        inside = λ k i j. in_next k i j (eq_or_ne k b);
        outside = λ k o. get_or-set_other new b k v 0 (apart k o) ∙ P.outside k (wider k o);
      }
    where
      in_next : (k : ℕ) → a ≤ k → k < b + 1 → (k ≡ b) ⊎ (k ≡ b → ⊥) → at (set new b v) k ≡ f k
      in_next k i j (inl q) =
          subst (λ (z : ℕ). at (set new b v) z ≡ f z) (sym q) (get_or-set_same new b v 0 (omega (arith, P.long)) ∙ e)
      in_next k i j (inr n) = get_or-set_other new b k v 0 n ∙ P.inside k i (omega arith)

      apart : (k : ℕ) → (k < a) ⊎ (b + 1 ≤ k) → k ≡ b → ⊥
      apart k (inl o) q = omega arith
      apart k (inr o) q = omega arith

      wider : (k : ℕ) → (k < a) ⊎ (b + 1 ≤ k) → (k < a) ⊎ (b ≤ k)
      wider k (inl o) = inl o
      wider k (inr o) = inr (omega arith)

  pub puts_to : {a b c : ℕ} {old new : List ℕ} → b ≡ c → Puts f a b old new → Puts f a c old new
  puts_to {a} {b} {c} {old} {new} e P = subst (λ (z : ℕ). Puts f a z old new) e P
