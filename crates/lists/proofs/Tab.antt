-- Tables: a function's values at 0, 1, .., n - 1.
-- Assumes nothing.
use mathlib.Core.List.{[], List, map, map-append, map-map, ◌++◌, ◌∷◌}
use mathlib.Core.Path.{ap, refl, sym, ◌∙◌, ◌≡◌}
use Prim.Native.Nat.{suc, zero, ℕ, ◌+◌, ◌<◌}
use native.Mathlib.Nat.{zero-add}
use native.Mathlib.Numerals.{add-one}
use native.Mathlib.Omega.{arith}
use lib.ListN.{get_or, length, length-map}
use lib.Seq.{ext_get_or}
use Rattle.lists.proofs.Map.{map_at}
use Rattle.lists.proofs.Range.{range_length, range_split, upto-at}
use Rattle.lists.specs.Lists.{at, Below, range, tab, upto}

module _ {A : Type 0} where
  pub tab-length : (f : ℕ → A) (n : ℕ) → length (tab n f) ≡ n
  tab-length f n = simp length-map (range_length n 0)

  -- the entry at a place
  pub tab-at : (f : ℕ → A) (n i : ℕ) (d : A) → i < n → get_or (tab n f) i d ≡ f i
  tab-at f n i d h = map_at f (upto n) i 0 d (rw (range_length n 0) h) ∙ ap f (upto-at n i h)

  -- one entry more
  pub tab-suc : (f : ℕ → A) (n : ℕ) → tab (suc n) f ≡ tab n f ++ (f n ∷ [])
  tab-suc f n =
      ap (λ (k : ℕ). tab k f) (sym (add-one n)) ∙ ap (map f) (range_split 0 n 1) ∙ map-append f (upto n) (range (0 + n) 1)
      ∙ ap (λ (m : ℕ). tab n f ++ (f m ∷ [])) (zero-add n)

  -- a table of a list's own entries is the list
  pub tab-is : (f : ℕ → A) (l : List A) (n : ℕ) (d : A) → length l ≡ n → ((k : ℕ) → k < n → f k ≡ get_or l k d) → tab n f ≡ l
  tab-is f l n d e h =
      ext_get_or d (tab n f) l (tab-length f n ∙ sym e)
      (λ i b. let c : i < n = rw (tab-length f n) at b in tab-at f n i d c ∙ h i c)

  -- functions that agree below n have one table
  pub tab_same : (f g : ℕ → A) (n : ℕ) → ((k : ℕ) → k < n → f k ≡ g k) → tab n f ≡ tab n g
  tab_same f g zero h = refl
  tab_same f g (suc n) h = rw (tab-suc f n, tab-suc g n, tab_same f g n (λ k l. h k (omega arith)), h n (omega arith))

-- a function of every entry
pub tab-map : {A B : Type 0} (f : A → B) (g : ℕ → A) (n : ℕ) → map f (tab n g) ≡ tab n (λ k. f (g k))
tab-map f g n = map-map f g (upto n)

-- the entries of a list, by their places
pub tab_entries : (f : ℕ → ℕ) (l : List ℕ) {n : ℕ} → n ≡ length l → tab n (λ k. f (at l k)) ≡ map f l
tab_entries f l {n} e = sym (tab-map f (at l) n) ∙ ap (map f) (tab-is (at l) l n 0 (sym e) (λ k h. refl))

-- a function that stays below b
pub tab-below : (f : ℕ → ℕ) (n b : ℕ) → ((k : ℕ) → k < n → f k < b) → Below b (tab n f)
tab-below f n b h k l = let i : k < n = rw (tab-length f n) at l in rw (tab-at f n k 0 i) (h k i)
