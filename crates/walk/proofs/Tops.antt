-- The top of the walk's stack, while the stack isn't empty: its entry is a pending cell's, and the cells that receive to that one can take
-- its place. There is room for them, since all pending cells and all that is written are different cells of rule 8's order.
-- Assumes nothing.
use Rattle.std.proofs.Common.{◌≡◌, ℕ, suc, ◌+◌, ◌<◌, ◌≤◌, ◌⊎◌, List, [], ◌∷◌, ◌++◌, map, length, drop, sym, refl, ap, ◌∙◌, subst, inl, inr, append_assoc}
use Rattle.std.proofs.Common.{zero-le, arith, length-append, drop-cons}
use mathlib.Core.List.Memᴰ.{append_cases as in-append}
use mathlib.Core.List.Memᴰ.{head as in_head}
use mathlib.Core.List.Memᴰ.{tail as in_Tail}
use Rattle.grid.proofs.Masks.{mask_small}
use Rattle.grid.proofs.Rules.{around_rule}
use Rattle.grid.specs.Masks.{mask_of}
use Rattle.grid.specs.Window.{around}
use Rattle.lists.proofs.Flat.{flat_append}
use Rattle.lists.specs.Lists.{at, flat, ◌∈◌}
use Rattle.rules.proofs.Orders.{from, from_step, giver, giver_runs, runs_on}
use Rattle.rules.proofs.WholeOrders.{order_few}
use Rattle.rules.specs.Land.{Land, Rule}
use Rattle.rules.specs.Network.{givers, gives, order}
use Rattle.rules.specs.Tile.{tile_land}
use Rattle.rules.specs.Way.{done, Drains, more, Runs}
use Rattle.walk.proofs.Entries.{entry-parts, Parts}
use Rattle.walk.proofs.Givers.{givers-count}
use Rattle.walk.proofs.Midst.{Midst}
use Rattle.walk.specs.Climb.{cell_in, entry_of, mask_in, ones, receiver_in}
use Rattle.walk.specs.Walk.{Lent, Margin}

-- the top cell
pub record Top {w : ℕ} {L : Land} {r : List ℕ} {s₀ s : Lent} {k t : ℕ} (I : Midst w L r s₀ s k t) : Type 0 where
  pub x : ℕ
  pub under : List ℕ
  pub is_top : I.pending ≡ x ∷ under
  pub on : x < L.cells
  pub runs : (j : ℕ) × Runs L (at r) x j
  pub entry_is : at s.stack t ≡ entry_of w L r x
  pub rest : drop (t + 1) s.stack ≡ map (entry_of w L r) under ++ drop L.cells s₀.stack

module _ {R : Rule} {w : ℕ} {heights marks links r : List ℕ} (M : Margin R w heights marks links r) {s₀ s : Lent} {k t : ℕ}
    (I : Midst w (tile_land R w heights marks) r s₀ s k t) where
  abbrev L : Land
  L = tile_land R w heights marks

  abbrev n : ℕ
  n = length heights

  abbrev D : Drains L r
  D = M.inside.drains

  abbrev e : ℕ → ℕ
  e = entry_of w L r

  pub top : t < n → n ≤ length s.stack → Top I
  top todo fits = go I.pending refl
    where
      go : (l : List ℕ) → I.pending ≡ l → Top I
      go [] p = let a : t + length I.pending ≡ n = I.at_t in let b : length I.pending ≡ 0 = ap length p in absurd (omega arith)
      go (y ∷ ys) p =
          let q : at s.stack t ∷ drop (suc t) s.stack ≡ e y ∷ (map e ys ++ drop n s₀.stack) =
          sym (drop-cons s.stack t 0 (omega arith)) ∙ I.stacked ∙ ap (λ (z : List ℕ). map e z ++ drop n s₀.stack) p in
          let f : t + 1 ≡ suc t = omega arith in
          let j = I.runs y (subst (λ (l : List ℕ). y ∈ l) (sym p) (in_head refl)) in
          record {
            x = y;
            under = ys;
            is_top = p;
            on = runs_on L r j.1;
            runs = j;
            entry_is = ap (λ (l : List ℕ). at l 0) q;
            rest = ap (λ (m : ℕ). drop m s.stack) f ∙ ap (drop 1) q;
          }

  -- so many pending cells have at least as many in their orders
  flat_long : (l : List ℕ) → ((y : ℕ) → y ∈ l → (j : ℕ) × Runs L (at r) y j) → length l ≤ length (flat (from L r) l)
  flat_long [] f = zero-le
  flat_long (y ∷ ys) f =
      let a : length (flat (from L r) (y ∷ ys)) ≡ length (from L r y) + length (flat (from L r) ys) =
      length-append (from L r y) (flat (from L r) ys) in
      let b : length (from L r y) ≡ suc (length (flat (from L r) (givers L r y))) = ap length (from_step L r D (f y (in_head refl)).1) in
      let c : length ys ≤ length (flat (from L r) ys) = flat_long ys (λ z m. f z (in_Tail m)) in
      omega arith

  module _ (T : Top I) where
    abbrev x : ℕ
    x = T.x

    abbrev child : ℕ
    child = mask_of around w n (gives L r) x

    -- what the entry says
    pub parts : Parts (at s.stack t) (at r x) x child
    parts =
        let a : x < n = T.on in let K = M.inside in let few = K.tile.grid.few in
        subst (λ (z : ℕ). Parts z (at r x) x child) (sym T.entry_is)
        (entry-parts (at r x) x child (omega arith) (mask_small K.tile.grid.rows around_rule x (gives L r)))

    receiver_on : at r x < n
    receiver_on = go T.runs.1
      where
        go : {j : ℕ} → Runs L (at r) x j → at r x < n
        go (done h o) = rw (D.own x h o) h
        go (more h b o z) = runs_on L r z

    -- the pending cells after the visit
    abbrev pub after : List ℕ
    after = givers L r x ++ T.under

    pub next_rule : (I.written ++ (x ∷ [])) ++ flat (from L r) after ≡ order L r
    next_rule =
        append_assoc I.written (x ∷ []) (flat (from L r) after)
        ∙ ap (λ (z : List ℕ). I.written ++ (x ∷ z)) (flat_append (from L r) (givers L r x) T.under)
        ∙ ap (λ (z : List ℕ). I.written ++ (z ++ flat (from L r) T.under)) (sym (from_step L r D T.runs.1))
        ∙ ap (λ (z : List ℕ). I.written ++ flat (from L r) z) (sym T.is_top)
        ∙ I.rule

    pub next_runs : (y : ℕ) → y ∈ after → (j : ℕ) × Runs L (at r) y j
    next_runs y m = go (in-append (givers L r x) m)
      where
        go : (y ∈ givers L r x) ⊎ (y ∈ T.under) → (j : ℕ) × Runs L (at r) y j
        go (inl i) = (suc T.runs.0, giver_runs L r D y T.runs.1 (giver L r D x y i))
        go (inr i) = I.runs y (subst (λ (l : List ℕ). y ∈ l) (sym T.is_top) (in_Tail i))

    -- there is room in the order and on the stack
    pub room : (k < n) × (ones around child ≤ t)
    room =
        let a : length ((I.written ++ (x ∷ [])) ++ flat (from L r) after) ≡ length (order L r) = ap length next_rule in
        let b = length-append (I.written ++ (x ∷ [])) (flat (from L r) after) in
        let d = length-append I.written (x ∷ []) in
        let f : length after ≤ length (flat (from L r) after) = flat_long after next_runs in
        let g = length-append (givers L r x) T.under in
        let h : length (order L r) ≤ n = order_few L r D in
        let i : length I.pending ≡ suc (length T.under) = ap length T.is_top in
        let j = I.at_k in let m : t + length I.pending ≡ n = I.at_t in
        let o : length (givers L r x) ≡ ones around child = givers-count M x T.on in
        (omega arith, omega arith)

    pub cell_on : cell_in (at s.stack t) < n
    cell_on = rw parts.cell_is T.on

    pub receiver_there : receiver_in (at s.stack t) < n
    receiver_there = rw parts.receiver_is receiver_on

    pub bits_fit : ones around (mask_in (at s.stack t)) ≤ t
    bits_fit = rw parts.mask_is room.1
