-- What holds of each element of a list holds of its members.
-- Assumes nothing.
use mathlib.Core.List.Memᴰ.{cases_cons as in-cases}
use mathlib.Core.List.Memᴰ.{not-nil as in-none}
use mathlib.Core.List.{[], List, ◌∷◌}
use mathlib.Core.Logic.{inl, inr, ◌⊎◌}
use mathlib.Core.Path.{subst, sym, ◌≡◌}
use Rattle.lists.specs.Lists.{Each, ◌∈◌}

module _ {A : Type 0} (P : A → Type 0) where
  pub each_member : (l : List A) → Each P l → (x : A) → x ∈ l → P x
  each_member [] all x m = absurd (in-none m)
  each_member (y ∷ ys) all x m = go (in-cases m) (each_member ys all.1 x)
    where
      go : (x ≡ y) ⊎ (x ∈ ys) → (x ∈ ys → P x) → P x
      go (inl e) rest = subst P (sym e) all.0
      go (inr i) rest = rest i
