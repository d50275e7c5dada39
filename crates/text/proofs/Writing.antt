-- Texts written one after the other.
-- Assumes nothing.
use mathlib.Core.List.{[], List, ◌++◌, ◌∷◌}
use mathlib.Core.Path.{ap, refl, subst, sym, ◌∙◌, ◌≡◌}
use Prim.Native.Nat.{ℕ, ◌+◌, ◌<◌, ◌≤◌}
use native.Mathlib.Nat.{add-zero, zero-add}
use native.Mathlib.Omega.{arith}
use lib.ListN.{length, length-append, length-drop, set, take, take-append-drop}
use Rattle.lists.proofs.Overwrite.{overwrite-take}
use lib.Seq.{length-take-le}
use Rattle.lists.proofs.Stored.{stored_on, stored-sets}
use Rattle.lists.specs.Lists.{stored}
use Rattle.text.specs.Writing.{Printed, Fits, Wrote}

-- a list is as long as it was
length-stored : (from : ℕ) (new old : List ℕ) → Fits from new old → length (stored from new old) ≡ length old
length-stored from new old h =
    let l : from ≤ length old = omega arith in
    simp (length-append, length-take-le from old l, length-drop) (omega arith)

-- nothing
pub wrote_none : (old : List ℕ) (from : ℕ) → from ≤ length old → Wrote from [] old old from
wrote_none old from h = record { bytes = sym (rw (add-zero, take-append-drop)); end = sym (add-zero from); within = h }

-- one byte
pub wrote_byte : (old : List ℕ) (from b : ℕ) → from < length old → Wrote from (b ∷ []) old (set old from b) (from + 1)
wrote_byte old from b h = record { bytes = stored-sets old from (b ∷ []) (omega arith); end = refl; within = omega arith }

-- a text, and another right after it
pub wrote_then : {from middle to : ℕ} {a b new old mid text : List ℕ} → Wrote from a old mid middle → Wrote middle b mid text to
    → a ++ b ≡ new → Wrote from new old text to
wrote_then {from} {middle} {to} {a} {b} {new} {old} {mid} {text} v w e =
    let m : middle ≡ from + length a = v.end in
    let room : from + length a ≤ length old = omega (arith, v.within) in
    let l : from ≤ length old = omega arith in
    let n : length new ≡ length a + length b = ap length (sym e) ∙ length-append a b in
    let q : middle + length b ≡ from + length new = omega arith in
    let k : length mid ≡ length old = ap length v.bytes ∙ length-stored from a old room in
    record {
      bytes =
          stored_on a b old from middle (sym m) (omega (arith, w.within, w.end)) v.bytes w.bytes
          ∙ ap (λ (z : List ℕ). stored from z old) e;
      end = w.end ∙ q;
      within = omega (arith, w.within);
    }

-- a text from the start on
pub printed : {new old text : List ℕ} {to : ℕ} → Wrote 0 new old text to → Printed new old text to
printed {new} w = record { bytes = w.bytes ∙ rw zero-add; counted = w.end ∙ zero-add (length new); within = w.within }

-- what was printed was written from the start on
pub wrote : {new old text : List ℕ} {to : ℕ} → Printed new old text to → Wrote 0 new old text to
wrote {new} p = record { bytes = p.bytes ∙ rw zero-add; end = p.counted ∙ sym (zero-add (length new)); within = p.within }

-- the same text by another name
pub printed_same : {new same old text : List ℕ} {n : ℕ} → Printed new old text n → new ≡ same → Printed same old text n
printed_same {new} {same} {old} {text} {n} p e = subst (λ (t : List ℕ). Printed t old text n) e p

-- the first bytes are what was printed
pub printed_text : {new old text : List ℕ} {n : ℕ} → Printed new old text n → take n text ≡ new
printed_text {new} {old} {text} {n} p = overwrite-take new old n (sym p.counted) p.bytes
