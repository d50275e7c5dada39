-- Rows stored one lake after the other, and a part of a list that was lent and came back.
-- Assumes nothing.
use mathlib.Core.List.{[], append_assoc, List, map, map-append, ◌++◌, ◌∷◌}
use mathlib.Core.Path.{ap, sym, ◌∙◌, ◌≡◌}
use Prim.Native.Nat.{suc, ℕ, ◌+◌, ◌-◌, ◌<◌, ◌≤◌}
use native.Mathlib.Nat.{add-zero}
use native.Mathlib.Omega.{arith}
use lib.ListN.{drop, length, length-append, length-map, get_or-append, set, take}
use lib.Seq.{drop_at, drop-drop, get_or-take, length-take-le, sets}
use Rattle.lake_list.specs.Rows.{row_of}
use Rattle.lake_rules.specs.Lakes.{Lake}
use Rattle.lists.specs.Lists.{at}
use Rattle.lake_list.specs.declared.Row.{Row}

sets_append : {A : Type 0} (l : List A) (i : ℕ) (a b : List A) → sets l i (a ++ b) ≡ sets (sets l i a) (i + length a) b
sets_append l i [] b = ap (λ (k : ℕ). sets l k b) (sym (add-zero i))
sets_append l i (x ∷ xs) b =
    let e : suc i + length xs ≡ i + suc (length xs) = omega arith in
    sets_append (set l i x) (suc i) xs b ∙ ap (λ (k : ℕ). sets (sets l i (x ∷ xs)) k b) e

-- lakes stored after others
pub stored_next : {new : List Row} {next : ℕ} (old : List Row) (from : ℕ) (p q : List Lake) → new ≡ sets old from (map row_of p) → next ≡ from + length p
    → sets new next (map row_of q) ≡ sets old from (map row_of (p ++ q))
stored_next {new} {next} old from p q e f =
    let k : next ≡ from + length (map row_of p) = f ∙ ap (λ (i : ℕ). from + i) (sym (length-map p row_of)) in
    ap (λ (z : List Row). sets z next (map row_of q)) e
    ∙ ap (λ (i : ℕ). sets (sets old from (map row_of p)) i (map row_of q)) k
    ∙ sym (sets_append old from (map row_of p) (map row_of q))
    ∙ ap (sets old from) (sym (map-append row_of p q))

-- what stands after a part that came back is as it was
pub back-drop : (l : List ℕ) (a b : ℕ) (back : List ℕ) → a ≤ b → b ≤ length l → length back ≡ b - a
    → drop b (take a l ++ (back ++ drop (b - a) (drop a l))) ≡ drop b l
back-drop l a b back up fits kept =
    let n : length (take a l) ≡ a = length-take-le a l (omega arith) in
    let m : length (take a l ++ back) ≡ b = length-append (take a l) back ∙ (let q = n in omega arith) in
    ap (drop b) (sym (append_assoc (take a l) back (drop (b - a) (drop a l))))
    ∙ drop_at (take a l ++ back) (drop (b - a) (drop a l)) b m
    ∙ drop-drop (b - a) a l
    ∙ ap (λ (i : ℕ). drop i l) (let e : a + (b - a) ≡ b = omega arith in e)

-- and so is what stands before it
pub back_at : (l : List ℕ) (a : ℕ) (z : List ℕ) → a ≤ length l → (i : ℕ) → i < a → at (take a l ++ z) i ≡ at l i
back_at l a z fits i h =
    let n : length (take a l) ≡ a = length-take-le a l fits in
    get_or-append (take a l) z 0 i (omega arith) ∙ get_or-take a l i 0 h
