-- Lists with a margin: entries stored after the first 65, and what stands at a cell's place.
-- Assumes nothing.
use mathlib.Core.List.{append-nil}
use Rattle.std.proofs.Common.{◌≡◌, ℕ, ◌+◌, ◌-◌, ◌<◌, ◌≤◌, List, [], ◌++◌, length, take, drop, sym, ap, ◌∙◌, arith, length-append, length-drop}
use Rattle.std.proofs.Common.{length-take-le, get_or-append-add}
use Rattle.std.proofs.lemmas.List.{drop-drop}
use lib.ListN.{drop_of_length-le, get_or-append}
use lib.Seq.{take-length}
use Rattle.lists.specs.Lists.{at, filled, stored, tab}

-- a list filled from the margin on, where what is past the margin was lent
pub stored_filled : (f : ℕ → ℕ) (n : ℕ) (old : List ℕ) {back : List ℕ} → back ≡ filled f n (take (length old - 65) (drop 65 old))
    → take 65 old ++ (back ++ drop (length old - 65) (drop 65 old)) ≡ stored 65 (tab n f) old
unfolding filled
stored_filled f n old e =
    let none : drop (length old - 65) (drop 65 old) ≡ [] = drop_of_length-le (drop 65 old) (omega (arith, length-drop 65 old)) in
    let whole : take (length old - 65) (drop 65 old) ≡ drop 65 old =
    ap (λ (m : ℕ). take m (drop 65 old)) (sym (length-drop 65 old)) ∙ take-length (drop 65 old) in
    rw (e, whole, none, append-nil, drop-drop)

-- the entry of a cell
pub stored_at : (new old : List ℕ) (c : ℕ) → 65 ≤ length old → c < length new → at (stored 65 new old) (c + 65) ≡ at new c
stored_at new old c h k =
    let e : length (take 65 old) ≡ 65 = length-take-le 65 old h in
    let i : c + 65 ≡ length (take 65 old) + c = omega arith in
    ap (at (stored 65 new old)) i ∙ get_or-append-add (take 65 old) (new ++ drop (65 + length new) old) c 0
    ∙ get_or-append new (drop (65 + length new) old) 0 c k

pub stored-length : (new old : List ℕ) → 65 + length new ≤ length old → length (stored 65 new old) ≡ length old
stored-length new old h =
    let a = length-append (take 65 old) (new ++ drop (65 + length new) old) in
    let b = length-append new (drop (65 + length new) old) in
    let e = length-take-le 65 old (omega arith) in
    let d = length-drop (65 + length new) old in
    omega arith
