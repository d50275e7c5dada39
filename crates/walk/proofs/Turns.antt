-- A turn of the walk keeps its invariant: the top cell is written and noted, and the cells that receive to it are pending in its place.
-- Assumes nothing.
use Rattle.std.proofs.Common.{◌≡◌, ℕ, suc, ◌+◌, ◌<◌, max, false, cond, ◌⊎◌, List, [], ◌∷◌, ◌++◌, map, length, drop, set, sym, refl, ap, ◌∙◌, subst, inl, inr}
use Rattle.std.proofs.Common.{append_assoc, arith, length-append, length-set}
use mathlib.Core.List.Memᴰ.{append_cases as in-append}
use mathlib.Core.List.Memᴰ.{head as in_head}
use mathlib.Core.List.Memᴰ.{tail as in_Tail}
use mathlib.Core.List.Memᴰ.{append_left as in_left}
use mathlib.Core.List.Memᴰ.{append_right as in_right}
use mathlib.Core.List.{map-append}
use Rattle.grid.specs.Masks.{mask_of}
use Rattle.grid.specs.Window.{around}
use Rattle.lists.proofs.Noted.{noted-next}
use Rattle.lists.proofs.Overwrite.{overwrite_put}
use Rattle.lists.specs.Lists.{at, ◌∈◌}
use Rattle.rules.proofs.Orders.{giver}
use Rattle.rules.specs.Land.{Land, Rule}
use Rattle.rules.specs.Network.{givers, gives, is_wet, level, wet}
use Rattle.rules.specs.Tile.{tile_land}
use Rattle.rules.specs.Way.{Drains}
use Rattle.walk.proofs.Givers.{givers-count, pushes-givers}
use Rattle.walk.proofs.Midst.{Midst}
use Rattle.walk.proofs.Settled.{level-is, wet-is}
use Rattle.walk.proofs.Tops.{after, next_rule, next_runs, parts, room, Top}
use Rattle.walk.specs.Climb.{cell_in, entry_of, mask_in, ones, pushes, receiver_in}
use Rattle.walk.specs.Walk.{lent, Lent, Margin, LentHolds}

module _ {R : Rule} {w : ℕ} {heights marks links r : List ℕ} (M : Margin R w heights marks links r) {s₀ s : Lent} {k t : ℕ}
    {I : Midst w (tile_land R w heights marks) r s₀ s k t} (T : Top I) (P : LentHolds (length heights) s₀) where
  abbrev L : Land
  L = tile_land R w heights marks

  abbrev n : ℕ
  n = length heights

  abbrev D : Drains L r
  D = M.inside.drains

  abbrev x : ℕ
  x = T.x

  abbrev child : ℕ
  child = mask_of around w n (gives L r) x

  abbrev e : ℕ → ℕ
  e = entry_of w L r

  -- its new level
  abbrev new : ℕ
  new = max (at heights x) (at s.levels (at r x))

  -- and its wetness
  abbrev wetness : ℕ
  wetness = cond (is_wet (at heights x) new) 1 0

  next_behind : (y : ℕ) → y ∈ after M I T → L.outlet y ≡ false → at r y ∈ (I.written ++ (x ∷ []))
  next_behind y m o = go (in-append (givers L r x) m)
    where
      go : (y ∈ givers L r x) ⊎ (y ∈ T.under) → at r y ∈ (I.written ++ (x ∷ []))
      go (inl i) = in_right I.written (in_head (giver L r D x y i).to)
      go (inr i) = in_left (x ∷ []) (I.behind y (subst (λ (l : List ℕ). y ∈ l) (sym T.is_top) (in_Tail i)) o)

  -- with the entry's own cell, receiver and mask
  turn_top : (stack' : List ℕ) (t' : ℕ) → length stack' ≡ length s.stack → t' + ones around child ≡ t + 1
      → drop t' stack' ≡ pushes w links x child ++ drop (t + 1) s.stack
      → Midst w L r s₀
      (lent stack' (set s.order k x) (set s.receivers x (at r x)) (set s.levels x new)
      (set s.wets x wetness)) (k + 1) t'
  turn_top stack' t' size moved pushed =
      let a : t + length I.pending ≡ n = I.at_t in let kn : k < n = (room M I T).0 in let ak = I.at_k in
      let u : length I.pending ≡ suc (length T.under) = ap length T.is_top in
      let g = length-append (givers L r x) T.under in
      let o : length (givers L r x) ≡ ones around child = givers-count M x T.on in
      let d = length-append I.written (x ∷ []) in
      let on : x < n = T.on in let p₁ = P.fits_order in let p₂ = P.fits_receivers in let p₃ = P.fits_levels in let p₄ = P.fits_wets in
      record {
        written = I.written ++ (x ∷ []);
        pending = after M I T;
        ordered = ap (λ (l : List ℕ). set l k x) I.ordered ∙ overwrite_put I.written s₀.order k x I.at_k (omega arith);
        size_order = length-set s.order k x ∙ I.size_order;
        size_stack = size ∙ I.size_stack;
        stacked = pushed ∙ ap (λ (l : List ℕ). pushes w links x child ++ l) T.rest
            ∙ ap (λ (l : List ℕ). l ++ (map e T.under ++ drop n s₀.stack)) (pushes-givers M x T.on)
            ∙ sym (append_assoc (map e (givers L r x)) (map e T.under) (drop n s₀.stack))
            ∙ ap (λ (l : List ℕ). l ++ drop n s₀.stack) (sym (map-append e (givers L r x) T.under));
        at_k = omega arith;
        at_t = omega arith;
        rule = next_rule M I T;
        runs = next_runs M I T;
        behind = next_behind;
        heights-noted = I.heights-noted;
        noted_receivers = noted-next (at r) I.written s₀.receivers s.receivers x (at r x) I.noted_receivers (omega arith) refl;
        noted_levels = noted-next (level L r) I.written s₀.levels s.levels x new I.noted_levels (omega arith) (level-is M T);
        noted_wets = noted-next (wet L r) I.written s₀.wets s.wets x wetness I.noted_wets (omega arith) (wet-is M T);
      }

  -- with what is read out of the entry
  pub turn : (c q m : ℕ) {stack' o' r' l' v' : List ℕ} {t' : ℕ} → c ≡ cell_in (at s.stack t) → q ≡ receiver_in (at s.stack t)
      → m ≡ mask_in (at s.stack t) → length stack' ≡ length s.stack → t' + ones around m ≡ t + 1
      → drop t' stack' ≡ pushes w links c m ++ drop (t + 1) s.stack
      → o' ≡ set s.order k c → r' ≡ set s.receivers c q → l' ≡ set s.levels c (max (at heights c) (at s.levels q))
      → v' ≡ set s.wets c (cond (is_wet (at heights c) (max (at heights c) (at s.levels q))) 1 0)
      → Midst w L r s₀ (lent stack' o' r' l' v') (k + 1) t'
  turn c q m {stack'} {o'} {r'} {l'} {v'} {t'} ec eq em size moved pushed eo er el ev =
      let p = parts M I T in
      let c' : c ≡ x = ec ∙ p.cell_is in
      let q' : q ≡ at r x = eq ∙ p.receiver_is in
      let m' : m ≡ child = em ∙ p.mask_is in
      rw (eo, er, el, ev, c', q') (turn_top stack' t' size (rw m' at moved) (rw (c', m') at pushed))
