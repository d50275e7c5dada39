-- The roots once two groups become one: the lesser of their two roots names both, the greater is a root no more, and all others stay.
-- Assumes nothing.
use mathlib.Core.List.{List}
use mathlib.Core.Logic.{inl, inr, ◌⊎◌}
use mathlib.Core.Path.{ap, sym, ◌∙◌, ◌≡◌}
use Prim.Native.Nat.{max, min, ℕ, ◌<◌, ◌≤◌}
use native.Mathlib.Omega.{arith}
use Rattle.groups.proofs.Merging.{first, merged-left, merged-right, other, Place, place, second}
use Rattle.groups.proofs.Roots.{root_is, root_self}
use Rattle.groups.specs.Groups.{Down, Joined, merged, root_of}
use Rattle.lists.proofs.Tests.{lt_or_ge}

merged_stays : (r s b : ℕ) → (b ≡ max r s → ⊥) → merged r s b ≡ b
merged_stays r s b n = go (place r s b)
  where
    go : Place r s b → merged r s b ≡ b
    go (first e) = ap (merged r s) e ∙ merged-left r s ∙ (omega (arith, n))
    go (second e) = ap (merged r s) e ∙ merged-right r s ∙ (omega (arith, n))
    go (other m x y) = m

merged-one : (r s b : ℕ) → r ≡ s → merged r s b ≡ b
merged-one r s b e = go (place r s b)
  where
    go : Place r s b → merged r s b ≡ b
    go (first q) = ap (merged r s) q ∙ merged-left r s ∙ (omega arith)
    go (second q) = ap (merged r s) q ∙ merged-right r s ∙ (omega arith)
    go (other m x y) = m

merged-was : (r s b x : ℕ) → merged r s x ≡ b → (x ≡ b) ⊎ (b ≡ min r s)
merged-was r s b x e = go (place r s x)
  where
    go : Place r s x → (x ≡ b) ⊎ (b ≡ min r s)
    go (first f) = inr (sym e ∙ ap (merged r s) f ∙ merged-left r s)
    go (second f) = inr (sym e ∙ ap (merged r s) f ∙ merged-right r s)
    go (other m y z) = inl (sym m ∙ e)

merged-greater : (r s : ℕ) → merged r s (max r s) ≡ min r s
merged-greater r s = go (lt_or_ge r s)
  where
    go : (r < s) ⊎ (s ≤ r) → merged r s (max r s) ≡ min r s
    go (inl h) = let m : max r s ≡ s = omega arith in ap (merged r s) m ∙ merged-right r s
    go (inr h) = let m : max r s ≡ r = omega arith in ap (merged r s) m ∙ merged-left r s

module _ (g : List ℕ) (d : Down g) where
  pub root_again : (a : ℕ) → root_of g (root_of g a) ≡ root_of g a
  root_again a = root_self g d (root_of g a) (root_is g d a)

  module _ (a b : ℕ) where
    abbrev r : ℕ
    r = root_of g a

    abbrev s : ℕ
    s = root_of g b

    pub greater-root : root_of g (max (root_of g a) (root_of g b)) ≡ max (root_of g a) (root_of g b)
    greater-root = go (lt_or_ge r s)
      where
        go : (r < s) ⊎ (s ≤ r) → root_of g (max r s) ≡ max r s
        go (inl h) = let m : max r s ≡ s = omega arith in rw m (root_again b)
        go (inr h) = let m : max r s ≡ r = omega arith in rw m (root_again a)

    lesser-root : root_of g (min r s) ≡ min r s
    lesser-root = go (lt_or_ge r s)
      where
        go : (r < s) ⊎ (s ≤ r) → root_of g (min r s) ≡ min r s
        go (inl h) = let m : min r s ≡ r = omega arith in rw m (root_again a)
        go (inr h) = let m : min r s ≡ s = omega arith in rw m (root_again b)

    module _ {h : List ℕ} (J : Joined g a b h) where
      -- a root was one before
      pub root-was : (x : ℕ) → root_of h x ≡ x → root_of g x ≡ x
      root-was x e = go (merged-was r s x (root_of g x) (sym (J.roots x) ∙ e))
        where
          go : (root_of g x ≡ x) ⊎ (x ≡ min r s) → root_of g x ≡ x
          go (inl f) = f
          go (inr f) = ap (root_of g) f ∙ lesser-root ∙ sym f

      -- and stays one, unless it is the greater of the two
      pub root_stays : (x : ℕ) → (x ≡ max (root_of g a) (root_of g b) → ⊥) → root_of g x ≡ x → root_of h x ≡ x
      root_stays x n e = J.roots x ∙ ap (merged r s) e ∙ merged_stays r s x n

      -- or there is one group only
      pub root_stays_one : root_of g a ≡ root_of g b → (x : ℕ) → root_of g x ≡ x → root_of h x ≡ x
      root_stays_one e x f = J.roots x ∙ ap (merged r s) f ∙ merged-one r s x e

      pub greater_hung : root_of h (max (root_of g a) (root_of g b)) ≡ min (root_of g a) (root_of g b)
      greater_hung = J.roots (max r s) ∙ ap (merged r s) greater-root ∙ merged-greater r s
