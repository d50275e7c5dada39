-- Spreading from where counts end, through the neighbours of one level, gives each cell's count.
-- Assumes nothing.
use Rattle.std.proofs.Common.{◌≡◌, ℕ, ◌+◌, ◌<◌, ◌≤◌, Bool, true, false, cond, not, ◌||◌, eqb, ◌⊎◌, List, length, sym, refl, ap, ◌∙◌, subst, inl, inr, arith}
use Rattle.std.proofs.Common.{eq-eqb, eqb-true}
use Rattle.grid.proofs.Rules.{rule_by_lem}
use Rattle.grid.proofs.Window.{beside_mutual}
use Rattle.grid.specs.Masks.{Masks}
use Rattle.grid.specs.Neighbours.{places_by}
use Rattle.grid.specs.Window.{around, beside, Grid}
use Rattle.lists.proofs.Tab.{tab-at, tab-length}
use Rattle.lists.proofs.Tests.{and_both, and_left, and_right}
use Rattle.lists.specs.Lists.{at, stored, tab}
use Rattle.rules.specs.Ground.{is_outlet}
use Rattle.rules.specs.Land.{Land}
use Rattle.rules.specs.Sheet.{count, ends_count}
use Rattle.sheet.proofs.Ends.{ends-weight}
use Rattle.sheet.proofs.Margins.{stored_at, stored-length}
use Rattle.sheet.specs.LevelSteps.{first_count}
use Rattle.sheet.specs.SheetLinks.{level_tile, Lowered}
use Rattle.spread.proofs.Fewest.{fewest_starts}
use Rattle.spread.specs.Spread.{marked_in, Spreadable}
use Rattle.spread.specs.Steps.{alike, fewest, none}
use Rattle.grid.specs.declared.Neighbours.{Neighbours}

-- 0 or none, by a test
zero-or_none : (b : Bool) {x : ℕ} → x ≡ cond b 0 none → (x ≡ 0) ⊎ (x ≡ none)
zero-or_none true e = inl e
zero-or_none false e = inr e

zero_test : (b : Bool) → eqb (cond b 0 none) 0 ≡ b
zero_test true = refl
zero_test false = refl

module _ {N : Neighbours} {w : ℕ} {levels marks weights likes : List ℕ} (K : Lowered N w levels marks weights likes) where
  abbrev L : Land
  L = level_tile N w levels marks

  abbrev n : ℕ
  n = length levels

  -- where steps lead: to neighbours of one level, both ways
  abbrev pub level : ℕ → ℕ → Bool
  level = alike (beside (places_by N) w) (at levels)

  both_ways : (a b : ℕ) → level a b ≡ true → level b a ≡ true
  both_ways a b t =
      and_both _ _ (beside_mutual (places_by N) w a b (rule_by_lem N) (and_left _ _ t))
      (eq-eqb (at levels a) (at levels b) (sym (eqb-true (at levels b) (at levels a) (and_right (beside (places_by N) w a b) _ t))))

  -- counts as they are at first
  module _ {counts : List ℕ} (old : List ℕ) (room : n + 130 ≤ length old)
      (first : counts ≡ stored 65 (tab (length marks) (first_count weights marks)) old) where
    marks-length : length (tab (length marks) (first_count weights marks)) ≡ n
    marks-length = tab-length (first_count weights marks) (length marks) ∙ K.tile.marked

    first-at : (c : ℕ) → c < n → at counts (c + 65) ≡ first_count weights marks c
    first-at c h =
        let l = marks-length in
        let m = K.tile.marked in
        ap (λ (x : List ℕ). at x (c + 65)) first
        ∙ stored_at (tab (length marks) (first_count weights marks)) old c (omega arith) (omega arith)
        ∙ tab-at (first_count weights marks) (length marks) c 0 (omega arith)

    counts-length : length counts ≡ length old
    counts-length =
        let l = marks-length in
        ap length first ∙ stored-length (tab (length marks) (first_count weights marks)) old (omega arith)

    pub spreadable : (queue : List ℕ) → n < length queue → Spreadable N w level likes counts queue
    spreadable queue q =
        let e = K.full in
        record {
          grid = subst (Grid w) (sym e) K.tile.grid;
          masks_say = subst (λ (m : ℕ). Masks around w m level likes) (sym e) K.level;
          both_ways = λ a b h k t. both_ways a b t;
          near = λ a b h k t. and_left _ _ t;
          room = omega (arith, counts-length);
          queue_room = omega arith;
          first = λ c h. zero-or_none (is_outlet marks c || not (eqb (at weights c) 0)) (first-at c (omega arith));
        }

    marked_ends : (c : ℕ) → c < n → marked_in counts c ≡ ends_count L levels c
    marked_ends c h = ap (λ (x : ℕ). eqb x 0) (first-at c h) ∙ zero_test _ ∙ ends-weight K c h

    fewest_count : (c : ℕ) → c < n → fewest n level (marked_in counts) c ≡ count L levels c
    unfolding count
    fewest_count c h = fewest_starts n level (marked_in counts) (ends_count L levels) marked_ends c h

    pub counted : {after : List ℕ} → after ≡ stored 65 (tab (length likes) (fewest (length likes) level (marked_in counts))) counts
        → (c : ℕ) → c < n → at after (c + 65) ≡ count L levels c
    counted {after} e c h =
        let f : ℕ → ℕ = fewest n level (marked_in counts) in
        let l = tab-length f n in
        let is : after ≡ stored 65 (tab n f) counts = e ∙ rw K.full in
        ap (λ (x : List ℕ). at x (c + 65)) is
        ∙ stored_at (tab n f) counts c (omega (arith, counts-length)) (omega arith) ∙ tab-at f n c 0 h ∙ fewest_count c h
