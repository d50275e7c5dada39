-- Lists that are filled with what a function makes of another list's entries.
-- Assumes nothing.
use mathlib.Core.List.{List, map}
use mathlib.Core.Path.{ap, sym, ◌∙◌, ◌≡◌}
use Prim.Native.Nat.{ℕ, ◌≤◌}
use lib.ListN.{get_or, length, length-map, take}
use lib.Seq.{get_or-take, length-take-le}
use Rattle.lists.proofs.Map.{map_at}
use Rattle.lists.proofs.Tab.{tab-is}
use Rattle.lists.specs.Lists.{filled, overwrite, tab}

module _ {A B : Type 0} (f : A → B) (d : A) (e : B) where
  -- with what it makes of all entries
  tab_map : (l : List A) → tab (length l) (λ k. f (get_or l k d)) ≡ map f l
  tab_map l = tab-is (λ k. f (get_or l k d)) (map f l) (length l) e (length-map l f) (λ k h. sym (map_at f l k d e h))

  pub filled_map : (l : List A) (old : List B) → filled (λ k. f (get_or l k d)) (length l) old ≡ overwrite (map f l) old
  unfolding filled
  filled_map l old = ap (λ (t : List B). overwrite t old) (tab_map l)

  -- with what it makes of the first n
  pub filled_map_take : (l : List A) (old : List B) (n : ℕ) → n ≤ length l
      → filled (λ k. f (get_or l k d)) n old ≡ overwrite (map f (take n l)) old
  unfolding filled
  filled_map_take l old n h =
      let m = length-take-le n l h in
      ap (λ (t : List B). overwrite t old)
      (tab-is (λ k. f (get_or l k d)) (map f (take n l)) n e (length-map (take n l) f ∙ m)
      (λ k b. ap f (sym (get_or-take n l k d b)) ∙ sym (map_at f (take n l) k d e (rw m b))))
