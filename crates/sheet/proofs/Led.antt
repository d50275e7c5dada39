-- The weights of sheet flow: where counts end a cell keeps the weight of its lowest neighbour, and elsewhere it takes that of a level step. Both say
-- where the cell leads to.
-- Assumes nothing.
use Rattle.std.proofs.Common.{◌≡◌, ℕ, ◌+◌, ◌<◌, true, false, eqb, List, length, sym, refl, ap, ◌∙◌, true≢false, pos_of_ne-zero, arith, ne_eqb}
use Rattle.grid.proofs.Masks.{mask_same}
use Rattle.grid.proofs.Rules.{around_rule}
use Rattle.grid.specs.Masks.{leads, mask_of}
use Rattle.grid.specs.Window.{around}
use Rattle.lists.proofs.Filled.{filled_same}
use Rattle.lists.proofs.Tab.{tab-at}
use Rattle.lists.proofs.Tests.{and_left, is, isnt, Known, known, or_left, or_right}
use Rattle.lists.specs.Lists.{at, filled, tab}
use Rattle.rules.proofs.FirstReceivers.{first_outlet}
use Rattle.rules.proofs.SheetEntries.{ends-not, entry_falling, entry_level, entry_outlet}
use Rattle.rules.specs.FirstWays.{first_receiver}
use Rattle.rules.specs.Ground.{is_outlet}
use Rattle.rules.specs.Land.{Land}
use Rattle.rules.specs.Sheet.{count, ends_count, falls, level_step}
use Rattle.sheet.proofs.Ends.{count-ends, count_none, count_small}
use Rattle.sheet.proofs.FirstBits.{step_leads}
use Rattle.sheet.specs.LevelSteps.{lead_weight}
use Rattle.sheet.specs.SheetLinks.{level_tile, Lowered, sheet_lead}
use Rattle.spread.specs.Steps.{alike}
use Rattle.grid.specs.declared.Neighbours.{Neighbours}

module _ {N : Neighbours} {w : ℕ} {levels marks weights likes : List ℕ} (K : Lowered N w levels marks weights likes) (counts : List ℕ)
    (are : (d : ℕ) → d < length levels → at counts (d + 65) ≡ count (level_tile N w levels marks) levels d) where
  abbrev L : Land
  L = level_tile N w levels marks

  abbrev n : ℕ
  n = length levels

  abbrev lead : ℕ → ℕ
  lead = sheet_lead N w levels marks

  -- the counts of all cells, as the definition of a level step has them
  all : List ℕ
  all = tab n (count L levels)

  all_are : (d : ℕ) → d < n → at counts (d + 65) ≡ at all d
  unfolding all
  all_are d h = are d h ∙ sym (tab-at (count L levels) n d 0 h)

  module _ (c : ℕ) (on : c < n) where
    -- where counts end
    keeps : ends_count L levels c ≡ true → lead c ≡ first_receiver L c → lead_weight N w likes counts weights c ≡ mask_of around w n (leads lead) c
    keeps t e =
        rw (are c on, count-ends K c on t)
        (K.lowest c on
        ∙ mask_same K.tile.grid.rows around_rule c (leads (first_receiver L)) (leads lead) (λ p d m S. ap (λ (x : ℕ). eqb x d) (sym e)))

    -- and where they don't
    steps : is_outlet marks c ≡ false → falls L levels c ≡ false → lead_weight N w likes counts weights c ≡ mask_of around w n (leads lead) c
    unfolding all level_step
    steps o f =
        let z : count L levels c ≡ 0 → ⊥ = λ e. true≢false (sym (count_none K c on e) ∙ ends-not L levels c o f) in
        let some = pos_of_ne-zero z in
        let small = count_small K c in
        let same : at all c ≡ count L levels c = tab-at (count L levels) n c 0 on in
        rw (are c on, ne_eqb (count L levels c) 0 z, K.level c on)
        (step_leads N K.tile.grid (alike L.beside (at levels)) (λ a b t. and_left _ _ t) (at all) counts all_are c on
        (omega arith) (omega arith) lead (entry_level L levels c on refl o f))

    lead_is : lead_weight N w likes counts weights c ≡ mask_of around w n (leads lead) c
    unfolding ends_count
    lead_is = go (known (is_outlet marks c)) (known (falls L levels c))
      where
        go : Known (is_outlet marks c) → Known (falls L levels c) → lead_weight N w likes counts weights c ≡ mask_of around w n (leads lead) c
        go (is o) f = keeps (or_left _ _ o) (entry_outlet L levels c on refl o ∙ sym (first_outlet L c o))
        go (isnt o) (is f) = keeps (or_right (is_outlet marks c) _ f) (entry_falling L levels c on refl o f)
        go (isnt o) (isnt f) = steps o f

  -- so the list of all weights does
  pub leads-filled : {out : List ℕ} (old : List ℕ) → out ≡ filled (lead_weight N w likes counts weights) (length likes) old
      → out ≡ filled (mask_of around w n (leads lead)) n old
  leads-filled old e =
      e ∙ ap (λ (m : ℕ). filled (lead_weight N w likes counts weights) m old) K.full
      ∙ filled_same (lead_weight N w likes counts weights) (mask_of around w n (leads lead)) n old lead_is
