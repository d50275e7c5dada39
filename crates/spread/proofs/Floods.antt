-- A turn of `flood`, on the lists as they stand: the place at the queue's head is a cell's, what is read there is its count and its mask, there is
-- room for all offers, and after them one cell more was taken out.
-- Assumes nothing.
use mathlib.Core.Bool.{Bool}
use mathlib.Core.List.{List}
use mathlib.Core.Path.{ap, subst, sym, ◌∙◌, ◌≡◌}
use Prim.Native.Nat.{ℕ, ◌+◌, ◌-◌, ◌<◌, ◌≤◌}
use native.Mathlib.Omega.{arith}
use lib.ListN.{length}
use lib.Seq.{get_or-take}
use Rattle.lists.specs.Lists.{at}
use Rattle.spread.proofs.Breadth.{Spreading}
use Rattle.spread.proofs.Places.{set_steps, steps_set}
use Rattle.spread.proofs.Turns.{turn}
use Rattle.spread.specs.Spread.{marked_in, Spreadable}
use Rattle.spread.specs.Wave.{offered_by, offers, RoomPast, wave, Wave}
use Rattle.grid.specs.declared.Neighbours.{Neighbours}

-- what stands in the invariant between turns
abbrev pub Between : (N : Neighbours) (w : ℕ) (masks counts₀ queue₀ counts queue : List ℕ) (head tail : ℕ) → Type 0
Between N w masks counts₀ queue₀ counts queue head tail =
    (E : ℕ → ℕ → Bool) → Spreadable N w E masks counts₀ queue₀
    → Spreading (length masks) E (marked_in counts₀) counts₀ head (wave counts queue tail)

-- the numbers of a turn; `here` is the place at the queue's head
pub record Numbers (w n size here count head tail : ℕ) : Type 0 where
  pub wide : 0 < w
  pub narrow : w ≤ 64
  pub few : n ≤ 4096
  pub fits : here + 65 < size
  pub margin : 65 ≤ here
  pub on : here < n + 65
  pub early : count ≤ head
  pub tail_few : tail ≤ n

module _ {N : Neighbours} {w : ℕ} {E : ℕ → ℕ → Bool} {masks counts₀ queue₀ : List ℕ} (P : Spreadable N w E masks counts₀ queue₀)
    (counts queue : List ℕ) (head tail : ℕ) (S : Spreading (length masks) E (marked_in counts₀) counts₀ head (wave counts queue tail))
    (waits : head < tail) where
  abbrev n : ℕ
  n = length masks

  abbrev here : ℕ
  here = at queue head

  abbrev s : Wave
  s = wave counts queue tail

  in_queue : at s.queue head ≡ at queue head
  in_queue = get_or-take tail queue head 0 waits

  pub numbers : Numbers w (length masks) (length counts) (at queue head) (at counts (at queue head)) head tail
  numbers =
      let q = in_queue in let o = S.on head waits in
      let e : at counts (at s.queue head) ≡ at counts here = ap (at counts) q in
      let a = S.early head waits in let r = S.roomy in let l = S.same_length in let m = P.room in
      record {
        wide = P.grid.rows.wide;
        narrow = P.grid.narrow;
        few = P.grid.few;
        fits = omega arith;
        margin = omega arith;
        on = omega arith;
        early = omega arith;
        tail_few = omega arith;
      }

  -- all offers from the cell at the head
  abbrev pub visited : Wave
  visited = offers w (at queue head) (at masks (at queue head - 65)) (at counts (at queue head) + 1) (offered_by N) (wave counts queue tail)

  turned : Spreading (length masks) E (marked_in counts₀) counts₀ (head + 1) visited
  turned =
      let K = numbers in let m = K.margin in let o = K.on in
      let c : ℕ = here - 65 in
      let e : c + 65 ≡ here = omega arith in
      let c-on : c < n = omega arith in
      subst (λ (x : ℕ). Spreading n E (marked_in counts₀) counts₀ (head + 1) (offers w x (at masks (here - 65)) (at counts x + 1) (offered_by N) s)) e
      (turn n E (marked_in counts₀) counts₀ w (at masks c) head c (offered_by N) s S waits (in_queue ∙ sym e) (set_steps P c c-on)
      (steps_set P c c-on))

  pub flood_turn : {s' : Wave} → s' ≡ visited → Spreading (length masks) E (marked_in counts₀) counts₀ (head + 1) s'
  flood_turn e = subst (Spreading n E (marked_in counts₀) counts₀ (head + 1)) (sym e) turned

  pub flood_room : length queue ≡ length queue₀ → RoomPast visited queue
  flood_room l =
      let r = turned.roomy in let q = P.queue_room in let f = P.grid.few in
      (omega arith, omega arith)
