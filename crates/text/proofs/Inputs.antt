-- How much of an input has to be read: where one text is printed for every input that is too long, one byte more than the longest is enough.
-- Assumes nothing.
use mathlib.Core.List.{List}
use mathlib.Core.Logic.{inl, inr, ◌⊎◌}
use mathlib.Core.Path.{ap, sym, ◌∙◌, ◌≡◌}
use Prim.Native.Nat.{ℕ, ◌+◌, ◌<◌, ◌≤◌}
use native.Mathlib.Omega.{arith}
use lib.ListN.{length, take}
use lib.Seq.{length-take-le, take_all}
use Rattle.lists.proofs.Tests.{lt_or_ge}

pub enough_read : (text_of : List ℕ → List ℕ) (most : ℕ) (refusal : List ℕ) → ((s : List ℕ) → most < length s → text_of s ≡ refusal)
    → (s : List ℕ) → text_of (take (most + 1) s) ≡ text_of s
enough_read text_of most refusal too_long s = go (lt_or_ge most (length s))
  where
    go : (most < length s) ⊎ (length s ≤ most) → text_of (take (most + 1) s) ≡ text_of s
    go (inl h) =
        let e = length-take-le (most + 1) s (omega arith) in
        too_long (take (most + 1) s) (omega arith) ∙ sym (too_long s h)
    go (inr h) = ap text_of (take_all (most + 1) s (omega arith))
