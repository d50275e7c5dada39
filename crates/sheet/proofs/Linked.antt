-- The links of sheet flow over carving's levels: where each cell leads to is what the flat passes ask for, as the level falls with each step, or
-- stays and the count falls, so that no two cells receive to each other. And the masks that they leave are the links that a walk asks for.
-- Assumes nothing.
use Rattle.std.proofs.Common.{◌≡◌, ℕ, ◌<◌, ◌≤◌, true, false, eqb, ◌⊎◌, List, length, replicate, sym, refl, ap, ◌∙◌, subst, inl, inr, arith, ne_eqb}
use lib.ListN.{length-replicate, get_or-eq_default}
use Rattle.grid.proofs.Masks.{mask_same, masks_filled}
use Rattle.grid.proofs.Rules.{around_rule}
use Rattle.grid.proofs.Window.{stands_itself}
use Rattle.grid.specs.Masks.{joined, leads, mask_of, Masks}
use Rattle.grid.specs.Neighbours.{places_by}
use Rattle.grid.specs.Window.{around, beside, Grid}
use Rattle.links.specs.Leads.{Leading}
use Rattle.lists.proofs.Filled.{filled-length}
use Rattle.lists.proofs.Tab.{tab-length}
use Rattle.lists.proofs.Tests.{is, isnt, Known, known, lt_or_ge}
use Rattle.lists.specs.Lists.{at, filled, ◌∈◌}
use Rattle.rules.proofs.Bounds.{level-most}
use Rattle.rules.proofs.Draining.{receivers_drain}
use Rattle.rules.proofs.Manners.{manner_drains}
use Rattle.rules.proofs.SheetEntries.{entry_outlet}
use Rattle.rules.proofs.SheetLevels.{sheet_beside}
use Rattle.rules.proofs.Sheets.{carved-at, Goes, goes_down, goes_level, sheet_goes}
use Rattle.rules.specs.Carving.{receivers}
use Rattle.rules.specs.FirstWays.{neighbours}
use Rattle.rules.specs.Ground.{is_outlet}
use Rattle.rules.specs.Land.{Land, rule_by}
use Rattle.rules.specs.Links.{Linkage, receives_either}
use Rattle.rules.specs.Network.{carved_levels, level, receivers_by}
use Rattle.rules.specs.Sheet.{count, ends_count, falls, level_step, sheet_receiver, sheet_receivers}
use Rattle.rules.specs.Tile.{Tile, tile_land}
use Rattle.sheet.specs.SheetLinks.{Carved, level_tile, sheet_lead}
use Rattle.grid.specs.declared.Neighbours.{Neighbours}
use Rattle.rules.specs.declared.Manner.TheVariants.{Sheet}

-- sheet flow asks nothing of heights
same_receivers : (N : Neighbours) (w : ℕ) (heights levels marks : List ℕ) → length levels ≡ length heights
    → sheet_receivers (level_tile N w levels marks) levels ≡ sheet_receivers (tile_land (rule_by N) w heights marks) levels
unfolding sheet_receivers sheet_receiver falls neighbours count ends_count level_step
same_receivers N w heights levels marks e = rw e

module _ {N : Neighbours} {w : ℕ} {heights levels marks : List ℕ} (K : Carved N w heights levels marks) where
  abbrev L : Land
  L = tile_land (rule_by N) w heights marks

  abbrev n : ℕ
  n = length heights

  abbrev r : List ℕ
  r = receivers_by Sheet L

  few : (c : ℕ) → L.solid c ≡ false → L.cells ≤ 65535
  few c s = let f = K.tile.tile.grid.few in omega arith

  pub levels-length : length levels ≡ n
  levels-length = ap length K.levels_are ∙ tab-length (level L (receivers L)) n

  -- levels are lifted as heights are
  carved-lifted : (c : ℕ) → at levels c ≤ 16000000
  carved-lifted c = go (lt_or_ge c n)
    where
      go : (c < n) ⊎ (n ≤ c) → at levels c ≤ 16000000
      go (inl h) =
          let e = ap (λ (l : List ℕ). at l c) K.levels_are ∙ carved-at L c h in
          let m = level-most L (receivers L) (receivers_drain L K.tile.lawful few) c h (K.tile.whole c) 16000000 (λ d k. K.tile.tile.lifted d) in
          omega arith
      go (inr h) = let l = levels-length in let e = get_or-eq_default levels 0 {n = c} (omega arith) in omega arith

  pub carved-tile : Tile w levels marks
  carved-tile =
      record {
        grid = subst (Grid w) (sym levels-length) K.tile.tile.grid;
        marked = K.tile.tile.marked ∙ sym levels-length;
        lifted = carved-lifted;
      }

  -- where a cell leads to is its receiver
  lead_is : (c : ℕ) → sheet_lead N w levels marks c ≡ at r c
  lead_is c =
      ap (λ (l : List ℕ). at l c) (same_receivers N w heights levels marks levels-length)
      ∙ ap (λ (l : List ℕ). at (sheet_receivers L l) c) K.levels_are

  own : (c : ℕ) → c < n → is_outlet marks c ≡ true → at r c ≡ c
  own c h o = entry_outlet L (carved_levels L) c h refl o

  -- the level falls, or it stays and the count falls
  one_way : (c d : ℕ) → c < n → d < n → at r c ≡ d → at r d ≡ c → c ≡ d
  one_way c d h k e f = go (known (is_outlet marks c)) (known (is_outlet marks d))
    where
      clash : Goes L (carved_levels L) c d → Goes L (carved_levels L) d c → ⊥
      clash (goes_down i b l) (goes_down j a m) = omega arith
      clash (goes_down i b l) (goes_level j a q z) = omega arith
      clash (goes_level i b q z) (goes_down j a m) = omega arith
      clash (goes_level i b q z) (goes_level j a p y) = omega arith

      go : Known (is_outlet marks c) → Known (is_outlet marks d) → c ≡ d
      go (is o) x = sym (own c h o) ∙ e
      go (isnt o) (is p) = sym f ∙ own d k p
      go (isnt o) (isnt p) =
          absurd (clash (subst (Goes L (carved_levels L) c) e (sheet_goes L K.tile.lawful c h refl o))
          (subst (Goes L (carved_levels L) d) f (sheet_goes L K.tile.lawful d k refl p)))

  near : (c : ℕ) → c < n → (at r c ≡ c) ⊎ (beside (places_by N) w c (at r c) ≡ true)
  near c h = go (known (is_outlet marks c))
    where
      go : Known (is_outlet marks c) → (at r c ≡ c) ⊎ (beside (places_by N) w c (at r c) ≡ true)
      go (is o) = inl (own c h o)
      go (isnt o) = inr (sheet_beside L K.tile.lawful c h refl o)

  -- weights that lead there, as the flat passes ask for them
  pub leading : {weights : List ℕ} (old : List ℕ) → length levels ≤ length old
      → weights ≡ filled (mask_of around w (length levels) (leads (sheet_lead N w levels marks))) (length levels) old
      → Leading N w (length levels) (at r) weights
  leading {weights} old room e =
      let m = length levels in
      let l = levels-length in
      record {
        grid = carved-tile.grid;
        room = let s = ap length e ∙ filled-length (mask_of around w m (leads (sheet_lead N w levels marks))) m old room in omega arith;
        masks = λ c h. masks_filled around w m (leads (sheet_lead N w levels marks)) old weights e c h
            ∙ mask_same carved-tile.grid.rows around_rule c (leads (sheet_lead N w levels marks)) (leads (at r))
            (λ p d i S. ap (λ (x : ℕ). eqb x d) (lead_is c));
        one_way = λ c d h k. one_way c d (omega arith) (omega arith);
        near = λ c h. near c (omega arith);
      }

  -- the links that they leave, as a walk asks for them
  joins_either : (c d : ℕ) → c < n → d < n → (c ≡ d → ⊥) → joined (at r) c d ≡ receives_either L r c d
  joins_either c d h k z = go (known (is_outlet marks c)) (known (is_outlet marks d))
    where
      apart : (a b : ℕ) → a < n → is_outlet marks a ≡ true → (a ≡ b → ⊥) → eqb (at r a) b ≡ false
      apart a b i o y = ap (λ (x : ℕ). eqb x b) (own a i o) ∙ ne_eqb a b y

      go : Known (is_outlet marks c) → Known (is_outlet marks d) → joined (at r) c d ≡ receives_either L r c d
      go (is o) (is p) = rw (o, p, apart c d h o z, apart d c k p (λ e. z (sym e)))
      go (is o) (isnt p) = rw (o, p, apart c d h o z)
      go (isnt o) (is p) = rw (o, p, apart d c k p (λ e. z (sym e)))
      go (isnt o) (isnt p) = rw (o, p)

  pub linkage : {links : List ℕ} (old : List ℕ) → length levels ≤ length old
      → links ≡ filled (mask_of around w (length levels) (joined (at r))) (length levels) old → Linkage (rule_by N) w heights marks links r
  linkage {links} old room e =
      record {
        is_rule = K.tile.is_rule;
        tile = K.tile.tile;
        fits_links =
            let s = ap length e ∙ filled-length (mask_of around w (length levels) (joined (at r))) (length levels) old room in
            let l = levels-length in
            omega arith;
        drains = manner_drains Sheet L K.tile.lawful few;
        beside = λ c h s o. sheet_beside L K.tile.lawful c h s o;
        masks = λ c h. say c h ∙ mask_same K.tile.tile.grid.rows around_rule c (joined (at r)) (receives_either L r)
            (λ p d i S. joins_either c d h S.on (λ q. around_rule.no_middle (subst (λ (x : ℕ). x ∈ around) (stands_itself S q) i)));
      }
    where
      say : Masks around w n (joined (at r)) links
      say = subst (λ (m : ℕ). Masks around w m (joined (at r)) links) levels-length
          (masks_filled around w (length levels) (joined (at r)) old links e)

  -- 4,096 weights are enough
  pub weights_room : length levels ≤ length (replicate {A = ℕ} 4096 0)
  weights_room = omega (arith, length-replicate {A = ℕ} 4096 0, carved-tile.grid.few)
