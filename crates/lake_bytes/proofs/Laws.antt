-- Lakes as bytes: 16 for each, and one more behind those that are written.
-- Assumes nothing.
use mathlib.Core.List.{[], append-nil, List, ◌++◌, ◌∷◌}
use mathlib.Core.Path.{ap, refl, sym, ◌∙◌, ◌≡◌}
use Prim.Native.Nat.{ℕ, ◌*◌, ◌+◌, ◌≤◌}
use native.Mathlib.Numerals.{add-one}
use native.Mathlib.Omega.{arith}
use lib.ListN.{length, length-append}
use Rattle.heights.proofs.Heights.{dropped_bits-dropped}
use Rattle.heights.specs.Bits.{bits_of, dropped_bits}
use Rattle.lake_bytes.specs.LakeBytes.{lake_bytes, lakes_bytes}
use Rattle.lake_list.specs.declared.Row.{Row}
use Rattle.lake_rows.specs.Reading.{count_in, least_in, level_in, read_lake, read_lakes, volume_in}
use Rattle.lake_rules.specs.Lakes.{Lake}
use Rattle.lists.proofs.Flat.{flat_append}
use Rattle.lists.proofs.Overwrite.{overwrite-next}
use Rattle.lists.proofs.Stored.{stored_on}
use Rattle.lists.proofs.Tab.{tab-length, tab-suc}
use Rattle.lists.specs.Lists.{flat, overwrite, stored}
use Rattle.rules.specs.Ground.{dropped}
use Rattle.sections.specs.LittleEndian.{bytes_of}

pub length-lake_bytes : (x : Lake) → length (lake_bytes x) ≡ 16
unfolding lake_bytes
length-lake_bytes x = refl

pub length-lakes_bytes : (ls : List Lake) → length (lakes_bytes ls) ≡ 16 * length ls
unfolding lakes_bytes
length-lakes_bytes [] = refl
length-lakes_bytes (x ∷ xs) =
    let a = length-lake_bytes x in
    let b : length (flat lake_bytes xs) ≡ 16 * length xs = length-lakes_bytes xs in
    length-append (lake_bytes x) (flat lake_bytes xs) ∙ omega arith

-- a lake's four numbers, written one after the other
pub lake-written : {a b c d : List ℕ} (rows : List Row) (i from : ℕ) (old : List ℕ) → from + 16 ≤ length old → level_in rows i ≤ 16000000
    → a ≡ stored from (bytes_of 4 (dropped_bits (level_in rows i))) old
    → b ≡ stored (from + 4) (bytes_of 2 (count_in rows i)) a
    → c ≡ stored (from + 6) (bytes_of 2 (least_in rows i)) b
    → d ≡ stored (from + 8) (bytes_of 8 (volume_in rows i)) c
    → d ≡ stored from (lake_bytes (read_lake rows i)) old
unfolding lake_bytes
lake-written {a} rows i from old h low e f g k =
    let p = bytes_of 4 (bits_of (dropped (level_in rows i))) in
    let q = bytes_of 2 (count_in rows i) in
    let r = bytes_of 2 (least_in rows i) in
    let s = bytes_of 8 (volume_in rows i) in
    let e' : a ≡ stored from p old = e ∙ ap (λ (x : ℕ). stored from (bytes_of 4 x) old) (dropped_bits-dropped (level_in rows i) low) in
    let two = stored_on p q old from (from + 4) refl (omega arith) e' f in
    let three = stored_on (p ++ q) r old from (from + 6) refl (omega arith) two g in
    stored_on ((p ++ q) ++ r) s old from (from + 8) refl (omega arith) three k

-- one lake more
pub lakes-next : {l m : List ℕ} (rows : List Row) (i : ℕ) (old : List ℕ) → l ≡ overwrite (lakes_bytes (read_lakes rows i)) old
    → m ≡ stored (16 * i) (lake_bytes (read_lake rows i)) l → m ≡ overwrite (lakes_bytes (read_lakes rows (i + 1))) old
unfolding lakes_bytes
lakes-next rows i old e f =
    let p = flat lake_bytes (read_lakes rows i) in
    let n : length p ≡ 16 * i = length-lakes_bytes (read_lakes rows i) ∙ ap (λ (k : ℕ). 16 * k) (tab-length (read_lake rows) i) in
    let more : flat lake_bytes (read_lakes rows (i + 1)) ≡ p ++ lake_bytes (read_lake rows i) =
    ap (λ (k : ℕ). flat lake_bytes (read_lakes rows k)) (add-one i) ∙ ap (flat lake_bytes) (tab-suc (read_lake rows) i)
    ∙ flat_append lake_bytes (read_lakes rows i) (read_lake rows i ∷ []) ∙ ap (λ (t : List ℕ). p ++ t) (append-nil (lake_bytes (read_lake rows i))) in
    overwrite-next p (lake_bytes (read_lake rows i)) old (16 * i) n e f ∙ ap (λ (t : List ℕ). overwrite t old) (sym more)
