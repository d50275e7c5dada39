-- What a read puts behind the bytes that are there is what the input loses by it.
-- Assumes nothing.
use Rattle.std.proofs.Common.{◌≡◌, ℕ, List, ◌+◌, ◌-◌, ◌≤◌, ◌++◌, rules, length, take, sym, ap, ◌∙◌, subst, le_refl, drop_at, length-take-le}
use Rattle.std.proofs.lemmas.Slice.{take-put_mid_below}
use Rattle.std.proofs.KnownBytes.{Consumes-trans}
use Rattle.std.specs.Io.KnownBytes.{Consumes}
use borrow.Rule.Slice.PartMut.{put_mid, post_of}
use lib.ListN.{drop}
use lib.Seq.{take-add, take-append-le}
use Rattle.inputs.proofs.read_full.Goals as goal

-- the first a + n entries, where the first n entries of ys stand behind the first a of xs
take-put_mid_more : (a k n : ℕ) (xs ys : List ℕ) → a ≤ length xs → n ≤ length ys → take (a + n) (put_mid a k xs ys) ≡ take a xs ++ take n ys
take-put_mid_more a k n xs ys within fits =
    let rest = drop_at (take a xs) (ys ++ post_of a k xs) a (length-take-le a xs within) in
    take-add a n (put_mid a k xs ys)
    ∙ ap (λ l. l ++ take n (drop a (put_mid a k xs ys))) (take-put_mid_below a k xs ys a (le_refl a) within)
    ∙ ap (λ l. take a xs ++ take n l) rest
    ∙ ap (λ l. take a xs ++ l) (take-append-le n ys (post_of a k xs) fits)

pub loop-done-preserved : goal.loop-done-preserved
loop-done-preserved g c =
    let old = c.loop-done.room in
    let held = c.loop-done.invariant in
    let read = c.in_ok-got.ensures in
    let joined = take-put_mid_more c.loop-done.done (length old - c.loop-done.done) c.in_ok-got.got old c.read.new.buf held.1 read.bound.0 in
    (search rules, search rules, subst (Consumes _ _) (sym joined) (Consumes-trans _ _ _ _ _ held.2 read.bytes.0))
