-- Stretches stored in a list, and the rest as it was.
-- Assumes nothing.
use mathlib.Core.List.{append_assoc, List, ◌++◌}
use mathlib.Core.Path.{◌∙◌, ◌≡◌}
use Prim.Native.Nat.{ℕ, ◌+◌, ◌-◌, ◌≤◌}
use native.Mathlib.Nat.{add-sub_of_le, zero-add}
use native.Mathlib.Omega.{arith}
use lib.ListN.{drop, length, length-append, take}
use lib.Seq.{drop-append-add, drop-drop, length-take-le, sets, sets-eq, take_at}
use Rattle.lists.specs.Lists.{overwrite, stored}

module _ {A : Type 0} where
  -- from the start on
  pub stored-start : (new old : List A) → stored 0 new old ≡ overwrite new old
  stored-start new old = rw zero-add

  -- a run of stores
  pub stored-sets : (l : List A) (from : ℕ) (new : List A) → from + length new ≤ length l → sets l from new ≡ stored from new l
  stored-sets l from new h = sets-eq new l from h ∙ append_assoc (take from l) new (drop (from + length new) l)

  -- a part `&mut l[from..to]` that was lent and came back as `new`
  pub stored-part : (l : List A) (from to : ℕ) {back new : List A} → from + length new ≡ to → back ≡ new
      → take from l ++ (back ++ drop (to - from) (drop from l)) ≡ stored from new l
  stored-part l from to {back} {new} h e =
      let k : from ≤ to = omega arith in
      rw (e, drop-drop, add-sub_of_le, h)

  -- a list that is filled from its start, stretch after stretch: p is what stands there, and `new` is stored next to it
  pub stored_next : {l m : List A} (p new old : List A) (from to : ℕ) → length p ≡ from → from + length new ≡ to
      → l ≡ p ++ drop from old → m ≡ stored from new l → m ≡ (p ++ new) ++ drop to old
  stored_next p new old from to e f g h =
      h ∙ rw (g, take_at p (drop from old) from e, ← f, ← e, drop-append-add, drop-drop, append_assoc)

  -- a stretch that is stored right after another one
  pub stored_on : {l m : List A} (p new old : List A) (from mid : ℕ) → from + length p ≡ mid → mid + length new ≤ length old
      → l ≡ stored from p old → m ≡ stored mid new l → m ≡ stored from (p ++ new) old
  stored_on {l} p new old from mid e h f g =
      let a : length (take from old) ≡ from = length-take-le from old (omega arith) in
      let b : length (take from old ++ p) ≡ mid = simp length-append (omega arith) in
      let k : mid + length new ≡ from + length (p ++ new) = simp length-append (omega arith) in
      stored_next (take from old ++ p) new old mid (from + length (p ++ new)) b k (f ∙ rw (append_assoc, e)) g
      ∙ simp append_assoc
