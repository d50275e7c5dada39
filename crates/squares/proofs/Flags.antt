-- A pair's bit in its cell's flag: what adding the bits of one side leaves, and how great flags are. The squares before the tile and on it
-- determine them.
-- Assumes nothing.
use mathlib.Core.Bool.{Bool, cond, false, true}
use mathlib.Core.List.{List}
use mathlib.Core.Logic.{inl, inr, ◌⊎◌}
use mathlib.Core.Path.{ap, sym, ◌∙◌, ◌≡◌}
use Prim.Native.Nat.{ℕ, ◌+◌, ◌-◌, ◌<◌, ◌≤◌}
use native.Mathlib.Nat.{add-zero}
use native.Mathlib.Omega.{arith}
use borrow.Author.Tests.{le-ltb, lt-ltb}
use Rattle.lists.proofs.Tests.{lt_or_ge}
use Rattle.lists.specs.Lists.{at}
use Rattle.lists.specs.Stores.{Puts}
use Rattle.squares.specs.declared.Side.{Side}
use Rattle.squares.specs.Squares.{flag, flag_by, keeps, kept_by, side_at}
use Rattle.grid.specs.declared.Neighbours.{Neighbours}
use Rattle.grid.specs.declared.Neighbours.TheVariants.{Eight, Four}

bit_by : (t : Bool) (bit : ℕ) → cond t bit 0 ≤ bit
bit_by true bit = omega arith
bit_by false bit = omega arith

module _ (S : Side) (n : ℕ) (labels : List ℕ) where
  module _ (squares : ℕ → ℕ) (c : ℕ) where
    pub flag_in : c + S.on < n
        → cond
        (kept_by (at labels c) (at labels (c + S.on)) (squares (c + 64 - S.first)) S.here (squares (c + 64 - S.second)) S.there)
        S.bit 0
        ≡ flag S n labels squares c
    unfolding keeps
    flag_in h = rw (lt-ltb (c + S.on) n h)

    flag-out : n ≤ c + S.on → flag S n labels squares c ≡ 0
    unfolding keeps
    flag-out h = rw (le-ltb (c + S.on) n h)

    pub flag-most : flag S n labels squares c ≤ S.bit
    flag-most = bit_by (keeps S n labels squares c) S.bit

    -- past the last cell that has such a pair nothing was added
    pub flag_added : {old new : List ℕ} → Puts (λ i. at old i + flag S n labels squares i) 0 (n - S.on) old new
        → at new c ≡ at old c + flag S n labels squares c
    flag_added {old} {new} P = go (lt_or_ge c (n - S.on))
      where
        go : (c < n - S.on) ⊎ (n - S.on ≤ c) → at new c ≡ at old c + flag S n labels squares c
        go (inl l) = P.inside c (omega arith) l
        go (inr l) = P.outside c (inr l) ∙ sym (add-zero (at old c)) ∙ ap (λ (i : ℕ). at old c + i) (sym (flag-out (omega arith)))

  -- flags ask the squares only of the margin and the tile
  pub flag_same : (a b : ℕ → ℕ) → ((i : ℕ) → i < n + 64 → a i ≡ b i) → (c : ℕ) → c < n → flag S n labels a c ≡ flag S n labels b c
  unfolding keeps
  flag_same a b same c h = rw (same (c + 64 - S.first) (omega arith), same (c + 64 - S.second) (omega arith))

pub flags_same : (N : Neighbours) (w n : ℕ) (labels : List ℕ) (a b : ℕ → ℕ) → ((i : ℕ) → i < n + 64 → a i ≡ b i) → (c : ℕ) → c < n
    → flag_by N w n labels a c ≡ flag_by N w n labels b c
flags_same Four w n labels a b same c h =
    rw (flag_same (side_at w 0) n labels a b same c h, flag_same (side_at w 2) n labels a b same c h)
flags_same Eight w n labels a b same c h =
    rw (
      flag_same (side_at w 0) n labels a b same c h,
      flag_same (side_at w 1) n labels a b same c h,
      flag_same (side_at w 2) n labels a b same c h,
      flag_same (side_at w 3) n labels a b same c h,
    )
