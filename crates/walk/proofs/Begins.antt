-- Where the walk begins: the outlets' entries on the stack, pushed from the last cell down, and heights in the place of levels.
-- Assumes nothing.
use Rattle.std.proofs.Common.{◌≡◌, ℕ, ◌+◌, ◌-◌, ◌<◌, ◌≤◌, Bool, true, false, cond, List, ◌++◌, map, length, drop, sym, ap, ◌∙◌, subst, append_assoc, arith}
use Rattle.std.proofs.Common.{length-append, get_or-drop, drop-drop, drop_at}
use mathlib.Core.List.{map-append}
use lib.ListN.{length-map}
use Rattle.grid.proofs.AtPlaces.{one}
use Rattle.grid.proofs.Masks.{mask_same}
use Rattle.grid.proofs.Rules.{around_rule}
use Rattle.grid.specs.Masks.{mask_of}
use Rattle.grid.specs.Window.{around}
use Rattle.lists.proofs.Filled.{filled_again, filled_at}
use Rattle.lists.proofs.Keep.{keep_member}
use Rattle.lists.proofs.Map.{map_same}
use Rattle.lists.proofs.Range.{upto-below}
use Rattle.lists.specs.Lists.{at, filled, keep, upto, ◌∈◌}
use Rattle.rules.specs.Ground.{is_outlet}
use Rattle.rules.specs.Land.{Land, Rule}
use Rattle.rules.specs.Links.{receives_either}
use Rattle.rules.specs.Network.{gives, level, outlets}
use Rattle.rules.specs.Tile.{tile_land}
use Rattle.walk.proofs.Outlets.{outlets-next, outlets_from}
use Rattle.walk.proofs.Pushing.{kept-one}
use Rattle.walk.specs.Climb.{entry, entry_of, kept, outlet_entry, Ready}
use Rattle.walk.specs.Walk.{lent, Margin, Walked}

-- the outlets from cell c on are pushed, f of each
pub record Begun (f : ℕ → ℕ) (marks stack₀ stack : List ℕ) (n c t : ℕ) : Type 0 where
  pub count : t + length (outlets_from marks n c) ≡ n
  pub from_top : drop t stack ≡ map f (outlets_from marks n c) ++ drop n stack₀

-- one cell more
pub begun_next : (f : ℕ → ℕ) (marks stack₀ stack stack' : List ℕ) (n c t t' b e : ℕ) → 0 < c → c ≤ n → Begun f marks stack₀ stack n c t
    → b ≡ cond (is_outlet marks (c - 1)) 1 0 → e ≡ f (c - 1) → t' + b ≡ t → drop t' stack' ≡ kept b e ++ drop t stack
    → Begun f marks stack₀ stack' n (c - 1) t'
begun_next f marks stack₀ stack stack' n c t t' b e h l I p q m d =
    record {
      count =
          let a = I.count in
          let k : length here ≡ b = size (is_outlet marks (c - 1)) p in
          let u = length-append here rest in
          let v : length (here ++ rest) ≡ length (outlets_from marks n (c - 1)) = ap length (outlets-next marks n c h l) in
          omega arith;
      from_top = d ∙ ap (λ (z : List ℕ). kept b e ++ z) I.from_top
          ∙ ap (λ (z : List ℕ). z ++ (map f rest ++ drop n stack₀)) (kept-one f b e (c - 1) (is_outlet marks (c - 1)) p (λ t. q))
          ∙ sym (append_assoc (map f here) (map f rest) (drop n stack₀))
          ∙ ap (λ (z : List ℕ). z ++ drop n stack₀) (sym (map-append f here rest) ∙ ap (map f) (outlets-next marks n c h l));
    }
  where
    here : List ℕ
    here = one (is_outlet marks (c - 1)) (c - 1)

    rest : List ℕ
    rest = outlets_from marks n c

    size : (t : Bool) → b ≡ cond t 1 0 → length (one t (c - 1)) ≡ b
    size true p = sym p
    size false p = sym p

module _ {R : Rule} {w : ℕ} {heights marks links r : List ℕ} (M : Margin R w heights marks links r) where
  abbrev L : Land
  L = tile_land R w heights marks

  abbrev n : ℕ
  n = length heights

  abbrev e : ℕ → ℕ
  e = entry_of w L r

  outlet_entry_lem : (x : ℕ) → x ∈ outlets L → outlet_entry links x ≡ e x
  unfolding outlets
  outlet_entry_lem x m =
      let k = keep_member L.outlet (upto n) m in
      let h : x < n = upto-below k.0 in
      let K = M.inside in
      let p : x + 65 ≡ 65 + x = omega arith in
      let a : at links (x + 65) ≡ mask_of around w n (gives L r) x =
      ap (at links) p ∙ sym (get_or-drop 65 links x 0) ∙ K.masks x h
      ∙ mask_same K.tile.grid.rows around_rule x (receives_either L r) (gives L r) (λ q d i S. rw k.1) in
      ap (entry x x) a ∙ ap (λ (y : ℕ). entry y x (mask_of around w n (gives L r) x)) (sym (K.drains.own x h k.1))

  module _ (stack stack₁ levels levels₁ : List ℕ) (t : ℕ)
      (noted : levels₁ ≡ filled (at heights) n levels) (count : t + length (keep (is_outlet marks) (upto (length marks))) ≡ length marks)
      (from_top : drop t stack₁ ≡ map (outlet_entry links) (keep (is_outlet marks) (upto (length marks))) ++ drop (length marks) stack)
    where
      abbrev os : List ℕ
      os = keep (is_outlet marks) (upto n)

      counted : t + length os ≡ n
      counted = subst (λ (k : ℕ). t + length (keep (is_outlet marks) (upto k)) ≡ k) M.inside.tile.marked count

      pushed : drop t stack₁ ≡ map (outlet_entry links) os ++ drop n stack
      pushed =
          subst (λ (k : ℕ). drop t stack₁ ≡ map (outlet_entry links) (keep (is_outlet marks) (upto k)) ++ drop k stack)
          M.inside.tile.marked from_top

      past_outlets : drop n stack₁ ≡ drop n stack
      past_outlets =
          ap (λ (m : ℕ). drop m stack₁) (sym counted) ∙ sym (drop-drop (length os) t stack₁) ∙ ap (drop (length os)) pushed
          ∙ drop_at (map (outlet_entry links) os) (drop n stack) (length os) (length-map os (outlet_entry links))

      pub ready : (order receivers wets : List ℕ) → Ready w L r (lent stack₁ order receivers levels₁ wets) t
      unfolding outlets
      ready order receivers wets =
          record {
            top = counted;
            stacked = pushed ∙ ap (λ (z : List ℕ). z ++ drop n stack) (map_same (outlet_entry links) e os outlet_entry_lem)
                ∙ ap (λ (z : List ℕ). map e os ++ z) (sym past_outlets);
            heights-noted = λ c h. ap (λ (l : List ℕ). at l c) noted ∙ filled_at (at heights) n levels c h;
          }

      -- what is left of the lists as they were before
      pub walked_from : {o rs v stack' o' rs' ls' v' : List ℕ} → Walked L r (lent stack₁ o rs levels₁ v) (lent stack' o' rs' ls' v')
          → Walked L r (lent stack o rs levels v) (lent stack' o' rs' ls' v')
      walked_from {o} {rs} {v} {stack'} {o'} {rs'} {ls'} {v'} W =
          record {
            order_is = W.order_is;
            receivers_are = W.receivers_are;
            levels_are = W.levels_are ∙ ap (filled (level L r) n) noted ∙ filled_again (level L r) (at heights) n levels;
            wets_are = W.wets_are;
            past = W.past ∙ past_outlets;
          }
