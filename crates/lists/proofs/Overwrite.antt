-- Entries stored from a list's start on, and the rest as it was.
-- Assumes nothing.
use mathlib.Core.List.{[], append-nil, List, map, map-append, ◌++◌, ◌∷◌}
use mathlib.Core.Path.{ap, sym, ◌∙◌, ◌≡◌}
use Prim.Native.Nat.{suc, ℕ, ◌+◌, ◌-◌, ◌<◌, ◌≤◌}
use native.Mathlib.Numerals.{add-one}
use native.Mathlib.Omega.{arith}
use lib.ListN.{drop, get_or, length, length-append, length-drop, length-map, get_or-append, set, take}
use lib.Seq.{append_snoc, drop-append_seam, drop-cons, drop-length, get_or-append-add, get_or-drop, length-take-le, set_at, take_at, take-suc}
use Rattle.lists.proofs.Stored.{stored_next}
use Rattle.lists.proofs.Tab.{tab-length, tab-suc}
use Rattle.lists.specs.Lists.{overwrite, stored, tab}

module _ {A : Type 0} where
  -- n new entries in front of what is past n
  pub overwrite-is : {x : List A} (new old : List A) (n : ℕ) → length new ≡ n → x ≡ new ++ drop n old → x ≡ overwrite new old
  overwrite-is new old n e f = f ∙ ap (λ (k : ℕ). new ++ drop k old) (sym e)

  pub overwrite-length : (new old : List A) → length new ≤ length old → length (overwrite new old) ≡ length old
  overwrite-length new old h = simp (length-append, length-drop) (omega arith)

  -- the new entries, together and one by one
  pub overwrite-take : {x : List A} (new old : List A) (n : ℕ) → length new ≡ n → x ≡ overwrite new old → take n x ≡ new
  overwrite-take new old n e f = ap (take n) f ∙ take_at new (drop (length new) old) n e

  pub overwrite-at : (new old : List A) (i : ℕ) (d : A) → i < length new → get_or (overwrite new old) i d ≡ get_or new i d
  overwrite-at new old i d h = get_or-append new (drop (length new) old) d i h

  -- an entry past them
  pub overwrite_past : (new old : List A) (i : ℕ) (d : A) → length new ≤ i → get_or (overwrite new old) i d ≡ get_or old i d
  overwrite_past new old i d h =
      let z : length new + (i - length new) ≡ i = omega arith in
      ap (λ (k : ℕ). get_or (overwrite new old) k d) (sym z)
      ∙ get_or-append-add new (drop (length new) old) (i - length new) d
      ∙ get_or-drop (length new) old (i - length new) d
      ∙ ap (λ (k : ℕ). get_or old k d) z

  -- nothing is left as it was
  pub overwrite-all : (new old : List A) → length new ≡ length old → overwrite new old ≡ new
  overwrite-all new old e = rw (e, drop-length, append-nil)

  -- twice
  pub overwrite_again : (new mid old : List A) → length mid ≡ length new → overwrite new (overwrite mid old) ≡ overwrite new old
  overwrite_again new mid old e = rw (← e, drop-append_seam)

  -- a stretch that is stored right after what stands at the start
  pub overwrite-next : {l m : List A} (p new old : List A) (from : ℕ) → length p ≡ from → l ≡ overwrite p old → m ≡ stored from new l
      → m ≡ overwrite (p ++ new) old
  overwrite-next p new old from e f g = stored_next p new old from (length (p ++ new)) e (rw (length-append, e)) (f ∙ rw e) g

  -- a turn of a loop: one entry more, where n are stored
  pub overwrite_put : (p old : List A) (n : ℕ) (v : A) → length p ≡ n → n < length old
      → set (p ++ drop n old) n v ≡ (p ++ (v ∷ [])) ++ drop (n + 1) old
  overwrite_put p old n v e h =
      let d : A = v in
      rw (add-one, drop-cons old n d h, set_at p (get_or old n d) (drop (suc n) old) v n e, append_snoc)

  -- a turn of a copy
  pub overwrite_copy : (l old : List A) (n : ℕ) (d : A) → n < length l → n < length old
      → set (take n l ++ drop n old) n (get_or l n d) ≡ take (n + 1) l ++ drop (n + 1) old
  overwrite_copy l old n d h k =
      overwrite_put (take n l) old n (get_or l n d) (length-take-le n l (omega arith)) k ∙ rw (add-one, take-suc l n d)

  -- and of a table
  pub overwrite-tab : (f : ℕ → A) (old : List A) (n : ℕ) → n < length old
      → set (tab n f ++ drop n old) n (f n) ≡ tab (n + 1) f ++ drop (n + 1) old
  overwrite-tab f old n h = overwrite_put (tab n f) old n (f n) (tab-length f n) h ∙ rw (add-one, ← tab-suc f n)

-- and of a copy through a function
pub overwrite-map : {A B : Type 0} (f : A → B) (xs : List A) (old : List B) (n : ℕ) (d : A) → n < length xs → n < length old
    → set (map f (take n xs) ++ drop n old) n (f (get_or xs n d)) ≡ map f (take (n + 1) xs) ++ drop (n + 1) old
overwrite-map f xs old n d h k =
    overwrite_put (map f (take n xs)) old n (f (get_or xs n d)) (length-map (take n xs) f ∙ length-take-le n xs (omega arith)) k
    ∙ rw (add-one, take-suc xs n d, map-append)
