-- The least height of each group, at its root: at the start each cell's own, and what joining two groups makes of it.
-- Assumes nothing.
use mathlib.Core.List.{List}
use mathlib.Core.Logic.{inl, inr, ◌⊎◌}
use mathlib.Core.Path.{ap, refl, sym, ◌∙◌, ◌≡◌}
use Prim.Native.Nat.{min, ℕ, ◌<◌, ◌≤◌}
use native.Mathlib.Omega.{arith}
use lib.ListN.{length, set}
use lib.Seq.{get_or-set_other, get_or-set_same}
use Rattle.groups.proofs.Merging.{first, merged-left, merged-right, min-one, other, Place, place, second}
use Rattle.groups.proofs.Roots.{alone-root}
use Rattle.groups.specs.Groups.{Joined, merged, root_of, SameGroup, SameGroups}
use Rattle.lake_notes.specs.Meeting.{LowsTell}
use Rattle.lists.proofs.Tests.{lt_or_ge}
use Rattle.lists.specs.Lists.{at, upto}

-- each cell alone
pub lows_none : (n : ℕ) (height : ℕ → ℕ) (lows : List ℕ) → ((c : ℕ) → c < n → at lows c ≡ height c) → LowsTell n height (upto n) lows
lows_none n height lows own =
    record {
      least = λ c l. let e = own_low c l in omega arith;
      met = λ c l. (c, l, refl, sym (own_low c l));
    }
  where
    own_low : (c : ℕ) → c < n → at lows (root_of (upto n) c) ≡ height c
    own_low c l = ap (at lows) (alone-root n c l) ∙ own c l

module _ {n : ℕ} {height : ℕ → ℕ} {g lows : List ℕ} (T : LowsTell n height g lows) where
  -- the groups stay
  pub lows_same : {h : List ℕ} → SameGroups g h → LowsTell n height h lows
  lows_same {h} s =
      record {
        least = λ c l. let e = ap (at lows) (s.roots c) in let t = T.least c l in omega arith;
        met = λ c l.
            let (d, on, same, is) = T.met c l in
            (d, on, s.roots d ∙ same ∙ sym (s.roots c), is ∙ ap (at lows) (sym (s.roots c)));
      }

  -- two groups become one, with the lesser of their heights
  module _ {a b : ℕ} (la : a < n) (lb : b < n) {h : List ℕ} (j : Joined g a b h) (r s : ℕ) (er : r ≡ root_of g a) (es : s ≡ root_of g b)
      (room : min r s < length lows) where
    abbrev low : ℕ
    low = min (at lows r) (at lows s)

    abbrev new : List ℕ
    new = set lows (min r s) low

    root_new : (c : ℕ) → root_of h c ≡ merged r s (root_of g c)
    root_new c = j.roots c ∙ ap (λ (x : ℕ). merged x (root_of g b) (root_of g c)) (sym er) ∙ ap (λ (x : ℕ). merged r x (root_of g c)) (sym es)

    joined_root : (c : ℕ) → merged r s (root_of g c) ≡ min r s → root_of h c ≡ min r s
    joined_root c e = root_new c ∙ e

    joined_low : (c : ℕ) → root_of h c ≡ min r s → at new (root_of h c) ≡ low
    joined_low c e = ap (at new) e ∙ get_or-set_same lows (min r s) low 0 room

    of_first : (c : ℕ) → root_of g c ≡ r → root_of h c ≡ min r s
    of_first c e = joined_root c (ap (merged r s) e ∙ merged-left r s)

    of_second : (c : ℕ) → root_of g c ≡ s → root_of h c ≡ min r s
    of_second c e = joined_root c (ap (merged r s) e ∙ merged-right r s)

    -- another group
    of_other : (c : ℕ) → merged r s (root_of g c) ≡ root_of g c → (root_of g c ≡ r → ⊥) → (root_of g c ≡ s → ⊥)
        → (root_of h c ≡ root_of g c) × (at new (root_of h c) ≡ at lows (root_of g c))
    of_other c m x y = go (min-one r s)
      where
        e : root_of h c ≡ root_of g c
        e = root_new c ∙ m

        go : (min r s ≡ r) ⊎ (min r s ≡ s) → (root_of h c ≡ root_of g c) × (at new (root_of h c) ≡ at lows (root_of g c))
        go (inl f) = (e, ap (at new) e ∙ get_or-set_other lows (min r s) (root_of g c) low 0 (λ z. x (z ∙ f)))
        go (inr f) = (e, ap (at new) e ∙ get_or-set_other lows (min r s) (root_of g c) low 0 (λ z. y (z ∙ f)))

    abbrev Least : ℕ → Type 0
    Least c = at new (root_of h c) ≤ height c

    abbrev Has : ℕ → Type 0
    Has c = (d : ℕ) × (d < n) × SameGroup h d c × (height d ≡ at new (root_of h c))

    least_new : (c : ℕ) → c < n → Place r s (root_of g c) → Least c
    least_new c l (first e) =
        let f : at new (root_of h c) ≡ low = joined_low c (of_first c e) in
        let t : at lows (root_of g c) ≤ height c = T.least c l in
        let q : at lows (root_of g c) ≡ at lows r = ap (at lows) e in
        omega arith
    least_new c l (second e) =
        let f : at new (root_of h c) ≡ low = joined_low c (of_second c e) in
        let t : at lows (root_of g c) ≤ height c = T.least c l in
        let q : at lows (root_of g c) ≡ at lows s = ap (at lows) e in
        omega arith
    least_new c l (other m x y) =
        let f = (of_other c m x y).1 in
        let t : at lows (root_of g c) ≤ height c = T.least c l in
        omega arith

    -- the lower of the two groups has the cell
    joined_has : (c : ℕ) → root_of h c ≡ min r s → Has c
    joined_has c e = go (lt_or_ge (at lows r) (at lows s))
      where
        go : (at lows r < at lows s) ⊎ (at lows s ≤ at lows r) → Has c
        go (inl l) =
            let (d, on, same, is) = T.met a la in
            let f : at lows (root_of g a) ≡ at lows r = ap (at lows) (sym er) in
            let k = joined_low c e in
            (d, on, of_first d (same ∙ sym er) ∙ sym e, omega arith)
        go (inr l) =
            let (d, on, same, is) = T.met b lb in
            let f : at lows (root_of g b) ≡ at lows s = ap (at lows) (sym es) in
            let k = joined_low c e in
            (d, on, of_second d (same ∙ sym es) ∙ sym e, omega arith)

    has_new : (c : ℕ) → c < n → Place r s (root_of g c) → Has c
    has_new c l (first e) = joined_has c (of_first c e)
    has_new c l (second e) = joined_has c (of_second c e)
    has_new c l (other m x y) =
        let (d, on, same, is) = T.met c l in
        let (e, f) = of_other c m x y in
        (d, on, root_new d ∙ ap (merged r s) same ∙ m ∙ sym e, is ∙ sym f)

    pub lows_joined : LowsTell n height h new
    lows_joined =
        record {
          least = λ c l. least_new c l (place r s (root_of g c));
          met = λ c l. has_new c l (place r s (root_of g c));
        }
