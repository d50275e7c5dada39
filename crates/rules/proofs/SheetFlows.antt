-- W-205 as it is said: the computed receivers are those of sheet flow, and no other list is.
-- Assumes nothing.
use mathlib.Core.Bool.{false, true, true≢false}
use mathlib.Core.List.{List}
use mathlib.Core.Logic.{inl, inr, ◌⊎◌}
use mathlib.Core.Path.{subst, sym, ◌∙◌, ◌≡◌}
use Prim.Native.Nat.{ℕ, ◌<◌, ◌≤◌}
use native.Mathlib.Nat.{le_antisymm}
use native.Mathlib.Omega.{arith}
use lib.Seq.{ext_get_or}
use Rattle.lists.proofs.Tab.{tab-length}
use Rattle.lists.proofs.Tests.{is, isnt, Known, known, lt_or_ge, never}
use Rattle.lists.specs.Lists.{at, tab, ◌∈◌}
use Rattle.rules.proofs.SheetEntries.{ends-not, entry_falling, entry_hole, entry_level, entry_outlet, falls-to, lower-one}
use Rattle.rules.proofs.SheetEntries.{to-lowest}
use Rattle.rules.proofs.Sheets.{Counts, fewest-one, some_count, to_one_less}
use Rattle.rules.specs.FirstWays.{neighbours}
use Rattle.rules.specs.Land.{Land}
use Rattle.rules.specs.Network.{carved_levels, receivers_by}
use Rattle.rules.specs.Sheet.{count, falls, sheet_receiver, sheet_receivers}
use Rattle.rules.specs.SheetLaw.{FewestSteps, SheetFlow, ToLowest, ToOneLess}
use Rattle.rules.specs.Way.{Lawful}
use Rattle.rules.specs.declared.Manner.TheVariants.{Sheet}

module _ (L : Land) (levels : List ℕ) where
  -- no neighbour is strictly lower
  falls-not : (c : ℕ) → ((d : ℕ) → d ∈ neighbours L c → at levels c ≤ at levels d) → falls L levels c ≡ false
  falls-not c high = never (falls L levels c) (λ f. let (d, m, l) = lower-one L levels c f in let h = high d m in omega arith)

  flows : Lawful L → ((c : ℕ) → c < L.cells → L.solid c ≡ true → (k : ℕ) × Counts L levels c k) → SheetFlow L levels (sheet_receivers L levels)
  unfolding sheet_receivers
  flows W some =
      record {
        full = tab-length (sheet_receiver L levels (tab L.cells (count L levels))) L.cells;
        holes = λ c h s. entry_hole L levels c h s;
        outlets = λ c h s o. entry_outlet L levels c h s o;
        falling = λ c d h s o m l.
            subst (ToLowest L levels c) (sym (entry_falling L levels c h s o (falls-to L levels c d m l))) (to-lowest L levels c d o m l);
        level = λ c h s o high.
            let f = falls-not c high in
            subst (ToOneLess L levels c) (sym (entry_level L levels c h s o f))
            (to_one_less L levels W some c h s (ends-not L levels c o f));
      }

  -- there is one such neighbour
  lowest_one : {c d e : ℕ} → ToLowest L levels c d → ToLowest L levels c e → d ≡ e
  lowest_one {c} {d} {e} D E =
      let a = D.lowest e E.neighbour in
      let b = E.lowest d D.neighbour in
      le_antisymm (D.first e E.neighbour (omega arith)) (E.first d D.neighbour (omega arith))

  less_one : {c d e : ℕ} → ToOneLess L levels c d → ToOneLess L levels c e → d ≡ e
  less_one {c} {d} {e} D E =
      let q = fewest-one D.one_more E.one_more in
      let same : D.steps ≡ E.steps = omega arith in
      le_antisymm
      (D.first e E.neighbour E.same_level (subst (FewestSteps L levels e) (sym same) E.counts))
      (E.first d D.neighbour D.same_level (subst (FewestSteps L levels d) same D.counts))

  -- so any two lists of the receivers of sheet flow are equal
  pub sheet_one : (r s : List ℕ) → SheetFlow L levels r → SheetFlow L levels s → r ≡ s
  sheet_one r s R S = ext_get_or 0 r s (R.full ∙ sym S.full) (λ c b. let h : c < L.cells = rw R.full at b in by_cases c h (known (L.solid c)))
    where
      inner : (c : ℕ) → c < L.cells → L.solid c ≡ true → L.outlet c ≡ false → Known (falls L levels c) → at r c ≡ at s c
      inner c h t o (is f) =
          let (d, m, l) = lower-one L levels c f in lowest_one (R.falling c d h t o m l) (S.falling c d h t o m l)
      inner c h t o (isnt f) = less_one (R.level c h t o high) (S.level c h t o high)
        where
          high : (d : ℕ) → d ∈ neighbours L c → at levels c ≤ at levels d
          high d m = pick (lt_or_ge (at levels d) (at levels c))
            where
              pick : (at levels d < at levels c) ⊎ (at levels c ≤ at levels d) → at levels c ≤ at levels d
              pick (inl l) = absurd (true≢false (sym (falls-to L levels c d m l) ∙ f))
              pick (inr l) = l

      solid : (c : ℕ) → c < L.cells → L.solid c ≡ true → Known (L.outlet c) → at r c ≡ at s c
      solid c h t (is o) = R.outlets c h t o ∙ sym (S.outlets c h t o)
      solid c h t (isnt o) = inner c h t o (known (falls L levels c))

      by_cases : (c : ℕ) → c < L.cells → Known (L.solid c) → at r c ≡ at s c
      by_cases c h (is t) = solid c h t (known (L.outlet c))
      by_cases c h (isnt t) = R.holes c h t ∙ sym (S.holes c h t)

-- the receivers in the manner of a sheet are those of sheet flow over carving's levels
pub sheet_flows : (L : Land) → Lawful L → SheetFlow L (carved_levels L) (receivers_by Sheet L)
sheet_flows L W = flows L (carved_levels L) W (some_count L W)
