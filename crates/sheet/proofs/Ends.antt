-- Where counts end, by weights: a weight isn't 0 exactly where a cell that is no outlet has a strictly lower neighbour. And a count is 0 exactly
-- where counts end.
-- Assumes nothing.
use Rattle.std.proofs.Common.{◌≡◌, ℕ, ◌<◌, ◌≤◌, Bool, true, false, not, ◌||◌, eqb, ◌⊎◌, List, length, sym, refl, ◌∙◌, subst, inl, inr, true≢false, arith}
use Rattle.std.proofs.Common.{le-ltb, lt-ltb}
use Rattle.grid.proofs.Corners.{each_around}
use Rattle.grid.proofs.Masks.{leads_itself, leads-place}
use Rattle.grid.proofs.Rules.{around_rule, places-around, rule_by_lem}
use Rattle.grid.proofs.Window.{beside_stands}
use Rattle.grid.specs.Masks.{bit_of}
use Rattle.grid.specs.Neighbours.{places_by}
use Rattle.grid.specs.Window.{around}
use Rattle.lists.proofs.Tests.{is, isnt, Known, known, lt_or_ge}
use Rattle.lists.specs.Find.{find}
use Rattle.lists.specs.Lists.{at, ◌∈◌}
use Rattle.rules.proofs.FirstReceivers.{Falls, first-falls}
use Rattle.rules.proofs.SheetEntries.{falls-to, lower-one, neighbours_holds, neighbours_member, to-lowest}
use Rattle.rules.specs.FirstWays.{first_receiver}
use Rattle.rules.specs.Ground.{is_outlet}
use Rattle.rules.specs.Land.{Land}
use Rattle.rules.specs.Sheet.{count, ends_count, falls}
use Rattle.sheet.specs.SheetLinks.{level_tile, Lowered}
use Rattle.spread.proofs.Fewest.{fewest_is, some_fewest}
use Rattle.spread.specs.Steps.{alike, arrived, fewest, or_none, Steps, within}
use Rattle.grid.specs.declared.Neighbours.{Neighbours}

-- the bit of a place is never 0
bit_some : (p : ℕ) → p ∈ around → eqb (bit_of around p) 0 ≡ false
bit_some = each_around (λ p. eqb (bit_of around p) 0 ≡ false) refl refl refl refl refl refl refl refl

module _ {N : Neighbours} {w : ℕ} {levels marks weights likes : List ℕ} (K : Lowered N w levels marks weights likes) where
  abbrev L : Land
  L = level_tile N w levels marks

  abbrev n : ℕ
  n = length levels

  module _ (c : ℕ) (on : c < n) (o : is_outlet marks c ≡ false) where
    weight-falls : falls L levels c ≡ true → eqb (at weights c) 0 ≡ false
    weight-falls f =
        let (d, m, l) = lower-one L levels c f in
        let (i, b) = neighbours_member L c (first_receiver L c) (to-lowest L levels c d o m l).neighbour in
        let (q, k, S) = beside_stands (places_by N) w n c (first_receiver L c) (rule_by_lem N) i b in
        let p = places-around (rule_by_lem N) q k in
        rw (K.lowest c on, leads-place K.tile.grid.rows around_rule c (first_receiver L) q p S) (bit_some q p)

    weight-none : falls L levels c ≡ false → at weights c ≡ 0
    weight-none f = go (first-falls L c)
      where
        go : (first_receiver L c ≡ c) ⊎ Falls L c (first_receiver L c) → at weights c ≡ 0
        go (inl e) = K.lowest c on ∙ leads_itself K.tile.grid.rows around_rule c (first_receiver L) e
        go (inr F) =
            let m = neighbours_holds L c (first_receiver L c) F.on F.beside in
            absurd (true≢false (sym (falls-to L levels c (first_receiver L c) m F.down) ∙ f))

    falls-weight : not (eqb (at weights c) 0) ≡ falls L levels c
    falls-weight = go (known (falls L levels c))
      where
        go : Known (falls L levels c) → not (eqb (at weights c) 0) ≡ falls L levels c
        go (is f) = rw (f, weight-falls f)
        go (isnt f) = rw (f, weight-none f)

  pub ends-weight : (c : ℕ) → c < n → is_outlet marks c || not (eqb (at weights c) 0) ≡ ends_count L levels c
  unfolding ends_count
  ends-weight c on = go (known (is_outlet marks c))
    where
      go : Known (is_outlet marks c) → is_outlet marks c || not (eqb (at weights c) 0) ≡ is_outlet marks c || falls L levels c
      go (is o) = rw o
      go (isnt o) = rw (o, falls-weight c on o)

  -- counts
  abbrev E : ℕ → ℕ → Bool
  E = alike L.beside (at levels)

  pub count_small : (c : ℕ) → count L levels c < 65536
  unfolding count fewest
  count_small c = go (find (λ k. eqb (at (within n E (ends_count L levels) k) c) 1) n)
    where
      go : (k : ℕ) → or_none n k < 65536
      go k = by (lt_or_ge k n)
        where
          by : (k < n) ⊎ (n ≤ k) → or_none n k < 65536
          by (inl h) = let f = K.tile.grid.few in rw (lt-ltb k n h) (omega arith)
          by (inr h) = rw (le-ltb k n h) (omega arith)

  pub count-ends : (c : ℕ) → c < n → ends_count L levels c ≡ true → count L levels c ≡ 0
  unfolding count
  count-ends c h t = fewest_is n E (ends_count L levels) c 0 (omega arith) (record { way = arrived h t; least = λ j w. omega arith })

  pub count_none : (c : ℕ) → c < n → count L levels c ≡ 0 → ends_count L levels c ≡ true
  unfolding count
  count_none c h e = ended (subst (Steps n E (ends_count L levels) c) e (some_fewest n E (ends_count L levels) c h (λ q. omega arith)))
    where
      ended : Steps n E (ends_count L levels) c 0 → ends_count L levels c ≡ true
      ended (arrived l t) = t
