-- The two ways of a ground record. Bytes are below 256 and water below 65,536: a caller has that from the types of its slices.
-- Assumes nothing.
use mathlib.Core.Bool.{Bool, true}
use mathlib.Core.List.{List}
use mathlib.Core.Path.{ap, sym, ◌∙◌, ◌≡◌}
use Prim.Native.Nat.{ℕ}
use native.Mathlib.Nat.{zero-mul}
use Rattle.ground.proofs.Acceptance.{accept_lists, lists_accepted, record_accepted}
use Rattle.ground.specs.Judge.{judge_lists, judge_record}
use Rattle.ground.specs.Record.{ground_of_record, record_of}
use Rattle.ground.specs.Rooms.{any_room}
use Rattle.lists.specs.Lists.{Below}
use Rattle.records.proofs.WhatWasRead.{record_read}
use Rattle.records.proofs.WhatWasWritten.{ground-written, written_accepted}
use Rattle.rules.specs.Ground.{cells_of, Ground}
use Rattle.ground.specs.Judge.{Accepted}

-- reading what was written gives the same lists, for all lists that the writer accepts
pub reading_what_was-written : (out room : ℕ → Bool) (g : Ground) {w h : ℕ} → Below 65536 g.water
    → judge_lists out g ≡ Accepted w h → room (cells_of g) ≡ true
    → (judge_record room (record_of g) ≡ Accepted w h) × (ground_of_record (record_of g) ≡ g)
reading_what_was-written out room g small e r =
    let a = lists_accepted out g e in (
      written_accepted g a.good small room r ∙ rw (a.width_is, a.height_is),
      ground-written g a.good small,
    )

-- writing what was read gives the same bytes, for all records that the reader accepts
pub writing_what_was_read : (room out : ℕ → Bool) (s : List ℕ) {w h : ℕ} → Below 256 s
    → judge_record room s ≡ Accepted w h → out (cells_of (ground_of_record s)) ≡ true
    → (judge_lists out (ground_of_record s) ≡ Accepted w h) × (record_of (ground_of_record s) ≡ s)
writing_what_was_read room out s bytes e r =
    let a = record_accepted room s e in (
      accept_lists out (ground_of_record s) a.good r ∙ rw (a.width_is, a.height_is),
      record_read room s bytes a,
    )

-- a call without outputs has room for any tile
any_room_lem : (n : ℕ) → any_room n ≡ true
any_room_lem n = rw zero-mul

-- a record determines its lists: two grounds that are accepted and have one record are one ground
pub record_determines_lists : (p q : ℕ → Bool) (g k : Ground) {a b c d : ℕ} → Below 65536 g.water → Below 65536 k.water
    → judge_lists p g ≡ Accepted a b → judge_lists q k ≡ Accepted c d → record_of g ≡ record_of k → g ≡ k
record_determines_lists p q g k small small' e f same =
    sym (reading_what_was-written p any_room g small e (any_room_lem (cells_of g))).1
    ∙ ap ground_of_record same
    ∙ (reading_what_was-written q any_room k small' f (any_room_lem (cells_of k))).1

-- and the lists their record: a record that is accepted and read as these lists is the record that is written from them
pub lists_determine_record : (p : ℕ → Bool) (s : List ℕ) (g : Ground) {a b : ℕ} → Below 256 s → judge_record p s ≡ Accepted a b
    → ground_of_record s ≡ g → s ≡ record_of g
lists_determine_record p s g bytes e same = sym (writing_what_was_read p any_room s bytes e (any_room_lem (cells_of (ground_of_record s)))).1 ∙ ap record_of
    same

-- no two different records are accepted as the same ground
pub no_two_records_one-ground : (p q : ℕ → Bool) (s t : List ℕ) {a b c d : ℕ} → Below 256 s → Below 256 t
    → judge_record p s ≡ Accepted a b → judge_record q t ≡ Accepted c d → ground_of_record s ≡ ground_of_record t → s ≡ t
no_two_records_one-ground p q s t bytes bytes' e f same =
    lists_determine_record p s (ground_of_record t) bytes e same
    ∙ (writing_what_was_read q any_room t bytes' f (any_room_lem (cells_of (ground_of_record t)))).1
