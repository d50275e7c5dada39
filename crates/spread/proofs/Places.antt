-- Spreading meets the grid here: the places whose bits a cell's mask has are those of the cells that may step to it.
-- Assumes nothing.
use mathlib.Core.Bool.{Bool, cond, true}
use mathlib.Core.List.{List, map}
use mathlib.Core.Path.{ap, refl, subst, sym, ◌∙◌, ◌≡◌}
use Prim.Native.Nat.{ℕ, ◌+◌, ◌<◌}
use native.Mathlib.Omega.{arith}
use lib.ListN.{length}
use Rattle.grid.proofs.Corners.{each_around}
use Rattle.grid.proofs.Rules.{around_rule, places-around, rule_by_lem}
use Rattle.grid.proofs.Window.{beside_stands, on_stands, stands_cell, stands_number, stands_on}
use Rattle.grid.specs.Masks.{bits, joins_at, mask_of}
use Rattle.grid.specs.Neighbours.{places_by}
use Rattle.grid.specs.Window.{around, cell_at, on_tile, Stands}
use Rattle.lists.proofs.Any.{any_in}
use Rattle.lists.proofs.Each.{each_member}
use Rattle.lists.proofs.Tests.{and_both, and_left, and_right, cond_small, one_holds}
use Rattle.lists.specs.Lists.{at, ◌∈◌}
use Rattle.spread.proofs.Turns.{StepsTo}
use Rattle.spread.specs.Spread.{Spreadable}
use Rattle.spread.specs.Wave.{bit_at, offered_by, place_at}
use Rattle.grid.specs.declared.Neighbours.{Neighbours}
use Rattle.grid.specs.declared.Neighbours.TheVariants.{Eight, Four}

-- a place's bit in a mask of tests
bits_at : (t : ℕ → Bool) (p : ℕ) → p ∈ around → bit_at (bits (map t around)) p ≡ cond (t p) 1 0
bits_at t =
    let a = cond_small (t 0) in let b = cond_small (t 1) in let c = cond_small (t 2) in let d = cond_small (t 3) in
    let e = cond_small (t 5) in let f = cond_small (t 6) in let g = cond_small (t 7) in let h = cond_small (t 8) in
    each_around (λ p. bit_at (bits (map t around)) p ≡ cond (t p) 1 0) (omega arith) (omega arith) (omega arith) (omega arith) (omega arith)
    (omega arith) (omega arith) (omega arith)

-- the places that are offered are around, and all that are asked for are among them
offered-around : (N : Neighbours) (p : ℕ) → p ∈ offered_by N → p ∈ around
offered-around Four = each_member (λ p. p ∈ around) (offered_by Four) (any_in refl, (any_in refl, (any_in refl, (any_in refl, tt))))
offered-around Eight =
    each_member (λ p. p ∈ around) (offered_by Eight)
    (any_in refl, (any_in refl, (any_in refl, (any_in refl, (any_in refl, (any_in refl, (any_in refl, (any_in refl, tt))))))))

asked-offered : (N : Neighbours) (p : ℕ) → p ∈ places_by N → p ∈ offered_by N
asked-offered Four = each_member (λ p. p ∈ offered_by Four) (places_by Four) (any_in refl, (any_in refl, (any_in refl, (any_in refl, tt))))
asked-offered Eight =
    each_around (λ p. p ∈ offered_by Eight) (any_in refl) (any_in refl) (any_in refl) (any_in refl) (any_in refl) (any_in refl) (any_in refl)
    (any_in refl)

module _ {N : Neighbours} {w : ℕ} {E : ℕ → ℕ → Bool} {masks counts queue : List ℕ} (P : Spreadable N w E masks counts queue) (c : ℕ)
    (on : c < length masks) where
  abbrev n : ℕ
  n = length masks

  bit_is : (p : ℕ) → p ∈ around → bit_at (at masks c) p ≡ cond (joins_at w n E c p) 1 0
  unfolding mask_of
  bit_is p i = ap (λ (m : ℕ). bit_at m p) (P.masks_say c on) ∙ bits_at (joins_at w n E c) p i

  steps_to_lem : (p d : ℕ) → Stands w n c p d → E c d ≡ true → StepsTo n E c (place_at w (c + 65) p) d
  steps_to_lem p d S e =
      let k = stands_number S in
      record { on = S.on; step = P.both_ways c d on S.on e; back = e; place = omega arith }

  -- where the bit is set a cell stands that may step to c
  pub set_steps : (p : ℕ) → p ∈ offered_by N → bit_at (at masks c) p ≡ 1 → (d : ℕ) × StepsTo n E c (place_at w (c + 65) p) d
  set_steps p i b =
      let j = offered-around N p i in
      let t : joins_at w n E c p ≡ true = one_holds _ (sym (bit_is p j) ∙ b) in
      let S = on_stands w n c p (around_rule.within p j) P.grid.rows.wide (and_left (on_tile w n c p) _ t) in
      (cell_at w c p, steps_to_lem p (cell_at w c p) S (and_right (on_tile w n c p) _ t))

  -- and each that may step to c stands at such a place
  pub steps_set : (d : ℕ) → d < n → E d c ≡ true
      → (p : ℕ) × (p ∈ offered_by N) × (bit_at (at masks c) p ≡ 1) × StepsTo n E c (place_at w (c + 65) p) d
  steps_set d h e =
      let f : E c d ≡ true = P.both_ways d c h on e in
      let (p, i, S) = beside_stands (places_by N) w n c d (rule_by_lem N) h (P.near c d on h f) in
      let t : joins_at w n E c p ≡ true =
      and_both _ _ (stands_on S P.grid.rows) (subst (λ (x : ℕ). E c x ≡ true) (sym (stands_cell S)) f) in
      let b : bit_at (at masks c) p ≡ 1 = bit_is p (places-around (rule_by_lem N) p i) ∙ ap (λ (t : Bool). cond t 1 0) t in
      (p, asked-offered N p i, b, steps_to_lem p d S f)

  -- a mask without bits: nothing may step to c
  pub no_steps : at masks c ≡ 0 → (d : ℕ) → d < n → E d c ≡ true → ⊥
  no_steps z d h e =
      let (p, i, b, T) = steps_set d h e in
      let zero_bit : bit_at 0 p ≡ 0 = each_around (λ p. bit_at 0 p ≡ 0) refl refl refl refl refl refl refl refl p (offered-around N p i) in
      let a : bit_at (at masks c) p ≡ bit_at 0 p = ap (λ (m : ℕ). bit_at m p) z in
      omega arith
