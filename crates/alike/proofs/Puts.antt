-- Entries stored one after the other, by functions that agree, and right after those that are filled already.
-- Assumes nothing.
use mathlib.Core.List.{List}
use mathlib.Core.Logic.{inl, inr, ◌⊎◌}
use mathlib.Core.Path.{ap, ◌∙◌, ◌≡◌}
use Prim.Native.Nat.{ℕ, ◌<◌, ◌≤◌}
use native.Mathlib.Omega.{arith}
use lib.ListN.{length}
use Rattle.lists.proofs.Filled.{filled_at, filled-by, filled-length, filled_past}
use Rattle.lists.proofs.Tests.{lt_or_ge}
use Rattle.lists.specs.Lists.{at, filled}
use Rattle.lists.specs.Stores.{Puts}

pub puts_same : (f g : ℕ → ℕ) {a b : ℕ} {old new : List ℕ} → ((k : ℕ) → a ≤ k → k < b → f k ≡ g k) → Puts f a b old new → Puts g a b old new
puts_same f g agree P = record { long = P.long; inside = λ k h l. P.inside k h l ∙ agree k h l; outside = P.outside }

pub filled_puts : (f : ℕ → ℕ) {a b : ℕ} {mid new : List ℕ} (old : List ℕ) → a ≤ b → b ≤ length old → mid ≡ filled f a old → Puts f a b mid new
    → new ≡ filled f b old
filled_puts f {a} {b} {mid} {new} old h room e P =
    filled-by f b old new room (P.long ∙ ap length e ∙ filled-length f a old (omega arith)) (λ i l. before i l (lt_or_ge i a))
    (λ i l. P.outside i (inr l) ∙ ap (λ (m : List ℕ). at m i) e ∙ filled_past f a old i (omega arith))
  where
    before : (i : ℕ) → i < b → (i < a) ⊎ (a ≤ i) → at new i ≡ f i
    before i l (inl k) = P.outside i (inl k) ∙ ap (λ (m : List ℕ). at m i) e ∙ filled_at f a old i k
    before i l (inr k) = P.inside i k l
