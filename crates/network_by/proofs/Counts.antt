-- A call with a count and a manner, and the call over the neighbours and in the manner that they ask for: from either outcome to the other.
-- And 11 is given back exactly where the count is neither 4 nor 8, 12 exactly where the count is one of them and the manner neither 1 nor 2.
-- Assumes nothing.
use mathlib.Core.Bool.{Bool, cond, false, true}
use mathlib.Core.Path.{ap, refl, subst, sym, ◌∙◌, ◌≡◌}
use Prim.Native.Nat.{ℕ, ◌+◌}
use native.Mathlib.Omega.{arith}
use lib.Dec.{eqb}
use borrow.Author.Tests.{eqb-true}
use Rattle.std.specs.Prelude.{Err, Ok, Result}
use Rattle.grid.specs.Neighbours.{count_by, neighbours_for}
use Rattle.ground.proofs.Numbers.{refusal_number_lem}
use Rattle.ground.specs.Judge.{Judged, number_of}
use Rattle.lists.specs.Allowed.{Allowed}
use Rattle.network_by.specs.Counted.{asked_for, Asking, Counted, For, judged_by, left_by, manner_for, manner_number, network_number, NetworkAnswer}
use Rattle.network_by.specs.Counted.{NoCount, NoManner, Tile}
use Rattle.grid.specs.declared.Neighbours.{Neighbours}
use Rattle.grid.specs.declared.Neighbours.TheVariants.{Eight, Four}
use Rattle.grid.specs.declared.UnknownCount.{UnknownCount}
use Rattle.network_by.specs.declared.NetworkRefusal.TheVariants.{BadCount, BadManner, Ground}
use Rattle.rules.specs.Named.{manner_named}
use Rattle.rules.specs.declared.Manner.{Manner}
use Rattle.rules.specs.declared.Manner.TheVariants.{Carve, Sheet}
use Rattle.rules.specs.declared.UnknownManner.{UnknownManner}

-- what is asked for, by what the count and then the manner are taken for
abbrev pub then_manner : Result Neighbours UnknownCount → ℕ → Asking
then_manner (Ok N) manner = manner_for N manner
then_manner (Err e) manner = NoCount

abbrev pub then_both : Neighbours → Result Manner UnknownManner → Asking
then_both N (Ok M) = For N M
then_both N (Err e) = NoManner

pub asked_then : (count manner : ℕ) → asked_for count manner ≡ then_manner (neighbours_for count) manner
asked_then count manner = go (eqb count 4) (eqb count 8)
  where
    go : (four eight : Bool)
        → cond four (manner_for Four manner) (cond eight (manner_for Eight manner) NoCount)
        ≡ then_manner (cond four (Ok Four) (cond eight (Ok Eight) (Err (record { 0 = count })))) manner
    go true eight = refl
    go false true = refl
    go false false = refl

pub manner_then : (N : Neighbours) (manner : ℕ) → manner_for N manner ≡ then_both N (manner_named manner)
manner_then N manner = go (eqb manner 1) (eqb manner 2)
  where
    go : (one two : Bool)
        → cond one (For N Carve) (cond two (For N Sheet) NoManner)
        ≡ then_both N (cond one (Ok Carve) (cond two (Ok Sheet) (Err (record { 0 = manner }))))
    go true two = refl
    go false true = refl
    go false false = refl

-- no refusal of a tile is ever asked for
abbrev pub ground_asked : Asking → ℕ
ground_asked (Ok a) = 0
ground_asked (Err BadCount) = 0
ground_asked (Err BadManner) = 0
ground_asked (Err (Ground why)) = 1

pub none_asked : (count manner : ℕ) → ground_asked (asked_for count manner) ≡ 0
none_asked count manner = ap ground_asked (asked_then count manner) ∙ counted (neighbours_for count)
  where
    both : (N : Neighbours) (r : Result Manner UnknownManner) → ground_asked (then_both N r) ≡ 0
    both N (Ok M) = refl
    both N (Err e) = refl

    counted : (r : Result Neighbours UnknownCount) → ground_asked (then_manner r manner) ≡ 0
    counted (Ok N) = ap ground_asked (manner_then N manner) ∙ both N (manner_named manner)
    counted (Err e) = refl

-- what is judged of a tile, out of an answer
tile_number : (j : Judged) → network_number (Tile j) ≡ number_of j
tile_number (Ok size) = refl
tile_number (Err why) = refl

module _ {B : Type 0} (count manner : ℕ) (judged : Judged) (left : Neighbours → Manner → Judged → B) (before : B) where
  abbrev Outcome : Asking → NetworkAnswer → B → Type 0
  Outcome asked = Allowed (judged_by asked judged) (left_by asked left before)

  pub count_refused : NoCount ≡ asked_for count manner → Counted count manner judged left before (Err BadCount) before
  count_refused e = subst (λ (a : Asking). Outcome a (Err BadCount) before) e (record { answer = refl; lists = refl })

  pub manner_refused : NoManner ≡ asked_for count manner → Counted count manner judged left before (Err BadManner) before
  manner_refused e = subst (λ (a : Asking). Outcome a (Err BadManner) before) e (record { answer = refl; lists = refl })

  left_tile : (N : Neighbours) (M : Manner) (j : Judged) → left_by (For N M) left before (Tile j) ≡ left N M j
  left_tile N M (Ok size) = refl
  left_tile N M (Err why) = refl

  pub asked-taken : (N : Neighbours) (M : Manner) {j : Judged} {after : B} → For N M ≡ asked_for count manner → Allowed judged (left N M) j after
      → Counted count manner judged left before (Tile j) after
  asked-taken N M {j} {after} e o =
      subst (λ (a : Asking). Outcome a (Tile j) after) e (record { answer = ap Tile o.answer; lists = o.lists ∙ sym (left_tile N M j) })

  -- and back
  abbrev judged_in : NetworkAnswer → Judged
  judged_in (Ok size) = Ok size
  judged_in (Err BadCount) = judged
  judged_in (Err BadManner) = judged
  judged_in (Err (Ground why)) = Err why

  tile_judged : (j : Judged) → judged_in (Tile j) ≡ j
  tile_judged (Ok size) = refl
  tile_judged (Err why) = refl

  pub tile_over : (N : Neighbours) (M : Manner) {j : Judged} {after : B} → asked_for count manner ≡ For N M
      → Counted count manner judged left before (Tile j) after → Allowed judged (left N M) j after
  tile_over N M {j} {after} e o =
      let p : Outcome (For N M) (Tile j) after = subst (λ (a : Asking). Outcome a (Tile j) after) e o in
      record { answer = sym (tile_judged j) ∙ ap judged_in p.answer ∙ tile_judged judged; lists = p.lists ∙ left_tile N M j }

-- 4 and 8 ask for their neighbours, 1 and 2 for their manner
pub asked_numbers : (N : Neighbours) (M : Manner) → asked_for (count_by N) (manner_number M) ≡ For N M
asked_numbers Four Carve = refl
asked_numbers Four Sheet = refl
asked_numbers Eight Carve = refl
asked_numbers Eight Sheet = refl

-- and nothing else does: what is asked for has the numbers that asked for it
record Named (count manner : ℕ) (a : Asking) : Type 0 where
  pub count_is : (N : Neighbours) (M : Manner) → a ≡ For N M → count ≡ count_by N
  pub manner_is : (N : Neighbours) (M : Manner) → a ≡ For N M → manner ≡ manner_number M

abbrev count_in : Asking → ℕ
count_in (Ok a) = count_by a.neighbours
count_in (Err why) = 0

abbrev manner_in : Asking → ℕ
manner_in (Ok a) = manner_number a.manner
manner_in (Err why) = 0

some_count : (N : Neighbours) → 0 ≡ count_by N → ⊥
some_count Four e = omega arith
some_count Eight e = omega arith

named : (K : Neighbours) (count manner : ℕ) → count ≡ count_by K → Named count manner (manner_for K manner)
named K count manner is = go (eqb manner 1) refl (eqb manner 2) refl
  where
    go : (one : Bool) → eqb manner 1 ≡ one → (two : Bool) → eqb manner 2 ≡ two
        → Named count manner (cond one (For K Carve) (cond two (For K Sheet) NoManner))
    go true e b f = record { count_is = λ N M h. is ∙ ap count_in h; manner_is = λ N M h. eqb-true manner 1 e ∙ ap manner_in h }
    go false e true f = record { count_is = λ N M h. is ∙ ap count_in h; manner_is = λ N M h. eqb-true manner 2 f ∙ ap manner_in h }
    go false e false f =
        record { count_is = λ N M h. absurd (some_count N (ap count_in h)); manner_is = λ N M h. absurd (some_count N (ap count_in h)) }

pub numbers_asked : (count manner : ℕ) (N : Neighbours) (M : Manner) → asked_for count manner ≡ For N M
    → (count ≡ count_by N) × (manner ≡ manner_number M)
numbers_asked count manner N M h = let K = go (eqb count 4) refl (eqb count 8) refl in (K.count_is N M h, K.manner_is N M h)
  where
    go : (four : Bool) → eqb count 4 ≡ four → (eight : Bool) → eqb count 8 ≡ eight
        → Named count manner (cond four (manner_for Four manner) (cond eight (manner_for Eight manner) NoCount))
    go true e b f = named Four count manner (eqb-true count 4 e)
    go false e true f = named Eight count manner (eqb-true count 8 f)
    go false e false f =
        record { count_is = λ N M h. absurd (some_count N (ap count_in h)); manner_is = λ N M h. absurd (some_count N (ap count_in h)) }

-- no tile is refused with 11 or 12
low : (j : Judged) (n : ℕ) → number_of j ≡ 11 + n → ⊥
low (Ok size) n e = omega arith
low (Err why) n e = omega (arith, refusal_number_lem why)

-- 11 is given back exactly where the count asks for nothing known, whatever the manner and the tile are
pub eleven_unknown : (count manner : ℕ) (j : Judged) → network_number (judged_by (asked_for count manner) j) ≡ 11 → asked_for count manner ≡ NoCount
eleven_unknown count manner j = go (asked_for count manner) refl
  where
    go : (a : Asking) → asked_for count manner ≡ a → network_number (judged_by a j) ≡ 11 → asked_for count manner ≡ NoCount
    go (Err BadCount) e n = e
    go (Err BadManner) e n = absurd (omega arith)
    go (Err (Ground why)) e n = absurd (low (Err why) 0 n)
    go (Ok a) e n = absurd (low j 0 (sym (tile_number j) ∙ n))

pub unknown_eleven : (count manner : ℕ) (j : Judged) → asked_for count manner ≡ NoCount → network_number (judged_by (asked_for count manner) j) ≡ 11
unknown_eleven count manner j e = ap (λ (a : Asking). network_number (judged_by a j)) e

-- 12 exactly where the count is known and the manner isn't, whatever the tile is
pub twelve_unknown : (count manner : ℕ) (j : Judged) → network_number (judged_by (asked_for count manner) j) ≡ 12 → asked_for count manner ≡ NoManner
twelve_unknown count manner j = go (asked_for count manner) refl
  where
    go : (a : Asking) → asked_for count manner ≡ a → network_number (judged_by a j) ≡ 12 → asked_for count manner ≡ NoManner
    go (Err BadCount) e n = absurd (omega arith)
    go (Err BadManner) e n = e
    go (Err (Ground why)) e n = absurd (low (Err why) 1 n)
    go (Ok a) e n = absurd (low j 1 (sym (tile_number j) ∙ n))

pub unknown_twelve : (count manner : ℕ) (j : Judged) → asked_for count manner ≡ NoManner → network_number (judged_by (asked_for count manner) j) ≡ 12
unknown_twelve count manner j e = ap (λ (a : Asking). network_number (judged_by a j)) e
