-- The lines of the text: how long each is and can be, and the lines of one lake more.
-- Assumes nothing.
use mathlib.Core.List.Memᴰ.{head as in_head}
use mathlib.Core.List.Memᴰ.{tail as in_Tail}
use mathlib.Core.List.{[], append-nil, List, ◌++◌, ◌∷◌}
use mathlib.Core.Logic.{inl, inr, ◌⊎◌}
use mathlib.Core.Path.{ap, refl, sym, ◌∙◌, ◌≡◌}
use Prim.Native.Nat.{suc, zero, ℕ, ◌*◌, ◌+◌, ◌<◌, ◌≤◌}
use native.Mathlib.Numerals.{add-one}
use native.Mathlib.Omega.{arith}
use lib.ListN.{length, length-append}
use Rattle.lake_list.specs.declared.Row.{Row}
use Rattle.lake_rows.specs.Reading.{read_lake, read_lakes}
use Rattle.lake_rules.specs.Fits.{LakeFits, LakesFit}
use Rattle.lake_rules.specs.Lakes.{Lake}
use Rattle.lake_text.specs.LakeText.{lake_line, lakes_line}
use Rattle.lists.proofs.Flat.{flat_append}
use Rattle.lists.proofs.Tab.{tab-suc}
use Rattle.lists.proofs.Tests.{lt_or_ge}
use Rattle.lists.specs.Lists.{flat}
use Rattle.rules.specs.Ground.{dropped}
use Rattle.text.proofs.Digits.{length-decimal}
use Rattle.text.proofs.Lengths.{length-signed_decimal}
use Rattle.text.specs.Text.{decimal, signed_decimal}

pub length-lakes_line : (n : ℕ) → length (lakes_line n) ≡ length (decimal n) + 7
unfolding lakes_line
length-lakes_line n = simp length-append (omega arith)

pub length-lake_line : (x : Lake)
    → length (lake_line x)
    ≡ length (signed_decimal (dropped x.level)) + length (decimal x.count) + length (decimal x.volume) + length (decimal x.least) + 4
unfolding lake_line
length-lake_line x = simp length-append (omega arith)

pub lakes_line_fits : (n : ℕ) → n ≤ 4096 → length (lakes_line n) ≤ 11
lakes_line_fits n h = let a = length-decimal 3 n (omega arith) in omega (arith, length-lakes_line n)

-- 8 bytes for the level, 4 digits for the cells, 11 for the volume, 4 for the least cell, and what follows each
lake_line_fits : (x : Lake) → LakeFits 4096 x → length (lake_line x) ≤ 31
lake_line_fits x f =
    let z = length-signed_decimal x.level f.level_fits in
    let a = length-decimal 3 x.count (omega (arith, f.count_fits)) in
    let b = length-decimal 10 x.volume (omega (arith, f.volume_fits)) in
    let c = length-decimal 3 x.least (omega (arith, f.least_fits)) in
    omega (arith, length-lake_line x)

pub lines_fit : (ls : List Lake) → LakesFit 4096 ls → length (flat lake_line ls) ≤ 31 * length ls
lines_fit [] f = omega arith
lines_fit (x ∷ xs) f =
    let a : length (lake_line x) ≤ 31 = lake_line_fits x (f x (in_head refl)) in
    let b : length (flat lake_line xs) ≤ 31 * length xs = lines_fit xs (λ y m. f y (in_Tail m)) in
    omega (arith, length-append (lake_line x) (flat lake_line xs))

-- the lines of the first n rows
abbrev pub lines : List Row → ℕ → List ℕ
lines rows n = flat lake_line (read_lakes rows n)

pub lines_next : (rows : List Row) (n : ℕ) → lines rows n ++ lake_line (read_lake rows n) ≡ lines rows (n + 1)
lines_next rows n =
    ap (λ (z : List ℕ). lines rows n ++ z) (sym (append-nil (lake_line (read_lake rows n))))
    ∙ sym (flat_append lake_line (read_lakes rows n) (read_lake rows n ∷ []))
    ∙ ap (flat lake_line) (sym (tab-suc (read_lake rows) n))
    ∙ ap (lines rows) (sym (add-one n))

-- there is room for one line more, where there is room for all
pub lines-within : (rows : List Row) (i n : ℕ) → i < n → length (lines rows i) + length (lake_line (read_lake rows i)) ≤ length (lines rows n)
lines-within rows i zero h = absurd (omega arith)
lines-within rows i (suc n) h = go (lt_or_ge i n) (lines-within rows i n)
  where
    more : length (lines rows (suc n)) ≡ length (lines rows n) + length (lake_line (read_lake rows n))
    more = ap (λ (k : ℕ). length (lines rows k)) (sym (add-one n)) ∙ ap length (sym (lines_next rows n))
        ∙ length-append (lines rows n) (lake_line (read_lake rows n))

    go : (i < n) ⊎ (n ≤ i) → (i < n → length (lines rows i) + length (lake_line (read_lake rows i)) ≤ length (lines rows n))
        → length (lines rows i) + length (lake_line (read_lake rows i)) ≤ length (lines rows (suc n))
    go (inl l) ih = omega (arith, more, ih l)
    go (inr l) ih = let e : i ≡ n = omega arith in rw e (omega (arith, more))
