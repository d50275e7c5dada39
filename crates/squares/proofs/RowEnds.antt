-- The loop over the ends of the rows: what stands where a row ends before e is 13, and every other entry is as it was.
-- Assumes nothing.
use mathlib.Core.List.{List}
use mathlib.Core.Logic.{inl, inr, ◌⊎◌}
use mathlib.Core.Path.{ap, subst, sym, ◌∙◌, ◌≡◌}
use Prim.Native.Nat.{ℕ, ◌%◌, ◌*◌, ◌+◌, ◌-◌, ◌/◌, ◌<◌, ◌≤◌}
use native.Mathlib.Nat.{add-mod_right, div-add-mod', mod-lt, mul-le-mul_right}
use native.Mathlib.Omega.{arith}
use lib.ListN.{length, length-set, set}
use lib.Seq.{get_or-set_other, get_or-set_same}
use Rattle.grid.proofs.Rows.{column_apart, row_next}
use Rattle.grid.specs.Window.{Rows}
use Rattle.lists.proofs.Tests.{eq_or_ne, lt_or_ge}
use Rattle.lists.specs.Lists.{at}

-- the ends of the rows before e are 13
pub record Ending (w n : ℕ) (old new : List ℕ) (e : ℕ) : Type 0 where
  pub long : length new ≡ length old
  pub column : e % w + 1 ≡ w
  pub last : (k : ℕ) → k < n → k < e → w ≤ k % w + 1 → at new k ≡ 13
  pub rest : (k : ℕ) → (n ≤ k) ⊎ (k % w + 1 < w) → at new k ≡ at old k

module _ {w n : ℕ} (G : Rows w n) where
  pub ending_next : {old new : List ℕ} (e : ℕ) → n ≤ length old → e < n → Ending w n old new e → Ending w n old (set new e 13) (e + w)
  ending_next {old} {new} e room h E =
      record {
        long = length-set new e 13 ∙ E.long;
        column = ap (λ (z : ℕ). z + 1) (add-mod_right e w) ∙ E.column;
        last = λ k i j q. go k i j q (eq_or_ne k e) (lt_or_ge k e);
        rest = λ k o. get_or-set_other new e k 13 0 (apart k o) ∙ E.rest k o;
      }
    where
      apart : (k : ℕ) → (n ≤ k) ⊎ (k % w + 1 < w) → k ≡ e → ⊥
      apart k (inl o) q = omega arith
      apart k (inr o) q = let z : k % w ≡ e % w = ap (λ (i : ℕ). i % w) q in let c = E.column in omega arith

      go : (k : ℕ) → k < n → k < e + w → w ≤ k % w + 1 → (k ≡ e) ⊎ (k ≡ e → ⊥) → (k < e) ⊎ (e ≤ k) → at (set new e 13) k ≡ 13
      go k i j q (inl s) t = subst (λ (z : ℕ). at (set new e 13) z ≡ 13) (sym s) (get_or-set_same new e 13 0 (omega (arith, E.long)))
      go k i j q (inr s) (inl t) = get_or-set_other new e k 13 0 s ∙ E.last k i t q
      go k i j q (inr s) (inr t) =
          let m : k % w < w = mod-lt k G.wide in
          let c = E.column in
          absurd (column_apart w e k G.wide (omega arith) (omega arith) j)

  -- the same by the row's number
  pub ending_row : {old new : List ℕ} (row : ℕ) → n ≤ length old → row < n / w → Ending w n old new (row * w + w - 1)
      → Ending w n old (set new (row * w + w - 1) 13) ((row + 1) * w + w - 1)
  ending_row {old} {new} row room h E =
      let wide = G.wide in
      let fits : (row + 1) * w ≤ n / w * w = mul-le-mul_right w (omega arith) in
      let whole = div-add-mod' n w in
      let next = row_next row w in
      subst (Ending w n old (set new (row * w + w - 1) 13)) (omega arith) (ending_next (row * w + w - 1) room (omega arith) E)
