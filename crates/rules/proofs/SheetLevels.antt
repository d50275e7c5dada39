-- W-205: sheet flow over carving's levels drains, as the level falls at each step, or stays and the count falls. And rule 7 over its receivers
-- holds for carving's levels.
-- Assumes nothing.
use mathlib.Core.Bool.{false, true}
use mathlib.Core.List.{List}
use mathlib.Core.Path.{◌≡◌}
use Prim.Native.Nat.{max, suc, zero, ℕ, ◌<◌, ◌≤◌}
use native.Mathlib.Omega.{arith}
use Rattle.lists.proofs.Tab.{tab-length}
use Rattle.lists.proofs.Tests.{is, isnt, Known, known}
use Rattle.lists.specs.Lists.{at, tab}
use Rattle.rules.proofs.Levels.{level_at-least-height}
use Rattle.rules.proofs.Lowest.{level_local}
use Rattle.rules.proofs.SheetEntries.{entry_hole, entry_outlet}
use Rattle.rules.proofs.Sheets.{carved-at, Goes, goes_down, goes_level, sheet_goes}
use Rattle.rules.specs.Carving.{receivers}
use Rattle.rules.specs.Land.{Land}
use Rattle.rules.specs.Network.{carved_levels, level, receivers_by}
use Rattle.rules.specs.Sheet.{count, sheet_receiver, sheet_receivers}
use Rattle.rules.specs.Way.{done, Drains, Lawful, more, Runs}
use Rattle.rules.specs.declared.Manner.TheVariants.{Sheet}

module _ (L : Land) (W : Lawful L) where
  abbrev levels : List ℕ
  levels = carved_levels L

  abbrev r : List ℕ
  r = receivers_by Sheet L

  pub sheet_beside : (c : ℕ) → c < L.cells → L.solid c ≡ true → L.outlet c ≡ false → L.beside c (at r c) ≡ true
  sheet_beside c h s o = go (sheet_goes L W c h s o)
    where
      go : {e : ℕ} → Goes L levels c e → L.beside c e ≡ true
      go (goes_down i b l) = b
      go (goes_level i b q n) = b

  -- every way ends
  abbrev Ends : ℕ → Type 0
  Ends c = (j : ℕ) × Runs L (at r) c j

  -- while the level stays, the count falls; ih: where it falls
  along : (m : ℕ) → ((c : ℕ) → c < L.cells → L.solid c ≡ true → at levels c < m → Ends c)
      → (n c : ℕ) → c < L.cells → L.solid c ≡ true → at levels c ≤ m → count L levels c < n → Ends c
  along m ih zero c h s l k = absurd (omega arith)
  along m ih (suc n) c h s l k = go (known (L.outlet c)) (along m ih n)
    where
      solid_beside : (e : ℕ) → L.beside c e ≡ true → L.solid e ≡ true
      solid_beside e b = W.neighbour_solid e c (W.mutual_neighbours c e b)

      next : L.outlet c ≡ false → Ends (at r c) → Ends c
      next o (j, w) = (suc j, more h s o w)

      step : {e : ℕ} → Goes L levels c e → ((d : ℕ) → d < L.cells → L.solid d ≡ true → at levels d ≤ m → count L levels d < n → Ends d) → Ends e
      step {e} (goes_down i b d) rec = ih e i (solid_beside e b) (omega arith)
      step {e} (goes_level i b q z) rec = rec e i (solid_beside e b) (omega arith) (omega arith)

      go : Known (L.outlet c) → ((d : ℕ) → d < L.cells → L.solid d ≡ true → at levels d ≤ m → count L levels d < n → Ends d) → Ends c
      go (is o) rec = (0, done h o)
      go (isnt o) rec = next o (step (sheet_goes L W c h s o) rec)

  ends : (m c : ℕ) → c < L.cells → L.solid c ≡ true → at levels c < m → Ends c
  ends zero c h s l = absurd (omega arith)
  ends (suc m) c h s l = along m (ends m) (suc (count L levels c)) c h s (omega arith) (omega arith)

  pub sheet_arrives : (c : ℕ) → c < L.cells → L.solid c ≡ true → (j : ℕ) × Runs L (at r) c j
  sheet_arrives c h s = ends (suc (at levels c)) c h s (omega arith)

  -- a hole's entry has to be no cell's number
  pub sheet_drains : ((c : ℕ) → L.solid c ≡ false → L.cells ≤ 65535) → Drains L r
  unfolding sheet_receivers
  sheet_drains few =
      record {
        full = tab-length (sheet_receiver L levels (tab L.cells (count L levels))) L.cells;
        ways = sheet_arrives;
        own = λ c h o. entry_outlet L levels c h (W.outlet_solid c o) o;
        holes = λ c h s. let e = entry_hole L levels c h s in let n = few c s in omega arith;
        outlet_solid = λ c h o. W.outlet_solid c o;
      }

  -- rule 7. Where the receiver is strictly lower, the local law makes the cell's level its height; elsewhere both have one level
  pub sheet_levels : (c : ℕ) → c < L.cells → L.solid c ≡ true → L.outlet c ≡ false
      → level L (receivers L) c ≡ max (L.height c) (level L (receivers L) (at r c))
  sheet_levels c h s o = go (sheet_goes L W c h s o)
    where
      go : {e : ℕ} → Goes L levels c e → level L (receivers L) c ≡ max (L.height c) (level L (receivers L) e)
      go {e} (goes_down i b l) =
          let up = level_local L W c e h i b in
          omega (arith, level_at-least-height L (receivers L) c, carved-at L c h, carved-at L e i)
      go {e} (goes_level i b q n) =
          omega (arith, level_at-least-height L (receivers L) c, carved-at L c h, carved-at L e i)
