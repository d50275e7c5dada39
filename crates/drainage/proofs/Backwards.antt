-- Giving backwards through the order: once all cells behind a place have given, every cell has its own water and theirs.
-- Assumes nothing.
use mathlib.Core.Bool.{false, true}
use mathlib.Core.List.Memᴰ.{append_right as in_right}
use mathlib.Core.List.Memᴰ.{head as in_head}
use mathlib.Core.List.{List, ◌++◌, ◌∷◌}
use mathlib.Core.Logic.{inl, inr, ◌⊎◌}
use mathlib.Core.Path.{ap, refl, subst, sym, ◌∙◌, ◌≡◌}
use Prim.Native.Nat.{suc, ℕ, ◌*◌, ◌+◌, ◌-◌, ◌<◌, ◌≤◌}
use native.Mathlib.Omega.{arith}
use lib.Dec.{eqb}
use lib.ListN.{drop, drop_of_length-le, length, length-set, set, take, take-append-drop}
use lib.Seq.{drop-cons, get_or-set_other, get_or-set_same, get_or-take, split_at}
use borrow.Author.Tests.{eq-eqb, eqb-false, eqb-true, ne_eqb}
use Rattle.drainage.proofs.OwnReceivers.{own_outlet}
use Rattle.drainage.specs.Giving.{given, Ordered}
use Rattle.lists.proofs.Filled.{filled_again, filled_at, filled-by, filled_same}
use Rattle.lists.proofs.Keep.{keep_member}
use Rattle.lists.proofs.Map.{map_same}
use Rattle.lists.proofs.Range.{upto-below}
use Rattle.lists.proofs.Tests.{eq_or_ne, is, isnt, Known, known}
use Rattle.lists.specs.Lists.{at, filled, keep, sum, upto, ◌∈◌}
use Rattle.rules.proofs.Backward.{acc, acc_behind, acc-gives, acc_le, acc-none, acc-order, acc_other, acc_outlet, total}
use Rattle.rules.proofs.Backward.{total_drainage, total_le}
use Rattle.rules.proofs.Bounds.{receiver_cell}
use Rattle.rules.proofs.Orders.{order_mem}
use Rattle.rules.proofs.WholeOrders.{order_whole}
use Rattle.rules.specs.FirstWays.{solid_cells}
use Rattle.rules.specs.Land.{Land}
use Rattle.rules.specs.Network.{drainage, order, through}
use Rattle.rules.specs.Way.{Drains, Runs}

-- only the water on the land counts
drainage_same : (L : Land) (r a b : List ℕ) (c : ℕ) → ((x : ℕ) → x < L.cells → at a x ≡ at b x) → drainage L a r c ≡ drainage L b r c
unfolding drainage solid_cells
drainage_same L r a b c h =
    ap sum (map_same (at a) (at b) (keep (λ d. through L r L.cells d c) (solid_cells L))
    (λ x m. h x (upto-below (keep_member L.solid (upto L.cells) (keep_member _ (solid_cells L) m).0).0)))

-- after the cells' own water is written
pub drained_own : (L : Land) (r water old own d : List ℕ) (n : ℕ) → L.cells ≡ n → own ≡ filled (at water) n old
    → d ≡ filled (drainage L own r) n own → d ≡ filled (drainage L water r) n old
drained_own L r water old own d n q e f =
    f ∙ filled_same (drainage L own r) (drainage L water r) n own (λ c h. drainage_same L r own water c (λ x k. same x (omega arith)))
    ∙ ap (filled (drainage L water r) n) e ∙ filled_again (drainage L water r) (at water) n old
  where
    same : (x : ℕ) → x < n → at own x ≡ at water x
    same x k = ap (λ (l : List ℕ). at l x) e ∙ filled_at (at water) n old x k

module _ (L : Land) (r : List ℕ) (n : ℕ) (ordered receivers : List ℕ) (G : Ordered L r n ordered receivers) (old : List ℕ) where
  abbrev D : Drains L r
  D = G.drains

  abbrev O : List ℕ
  O = order L r

  abbrev water : ℕ → ℕ
  water = at old

  -- the cells from place i on have given
  pub record Given (d : List ℕ) (i : ℕ) : Type 0 where
    pub size : length d ≡ length old
    pub has : (x : ℕ) → x < n → at d x ≡ acc L r D water (drop i O) x
    pub past : (x : ℕ) → n ≤ x → at d x ≡ at old x

  full : length O ≡ n
  full = order_whole L r D (λ c h. G.whole c (subst (λ (z : ℕ). c < z) G.cells h)) ∙ G.cells

  runs : (c : ℕ) → c < n → (j : ℕ) × Runs L (at r) c j
  runs c h = D.ways c (let e = G.cells in omega arith) (G.whole c h)

  pub given_none : Given old n
  given_none =
      record {
        size = refl;
        has = λ x h. sym (ap (λ (S : List ℕ). acc L r D water S x) (drop_of_length-le O {i = n} (let e = full in omega arith))
            ∙ acc-none L r D water x);
        past = λ x h. refl;
      }

  pub given_all : n ≤ length old → (d : List ℕ) → Given d 0 → d ≡ filled (drainage L old r) n old
  given_all h d M =
      filled-by (drainage L old r) n old d h M.size
      (λ x k. M.has x k ∙ acc-order L r D water (runs x k).1 ∙ total_drainage L r D old (runs x k).1) M.past

  module _ (d : List ℕ) (i : ℕ) (M : Given d i) (pos : 0 < i) (le : i ≤ n) where
    -- the cell at place i - 1, and its receiver
    abbrev c : ℕ
    c = at ordered (i - 1)

    abbrev to : ℕ
    to = at receivers c

    c_is : c ≡ at O (i - 1)
    c_is = sym (get_or-take n ordered (i - 1) 0 (omega arith)) ∙ ap (λ (l : List ℕ). at l (i - 1)) G.order_is

    split : O ≡ take (i - 1) O ++ (c ∷ drop i O)
    split =
        let e = full in let f : suc (i - 1) ≡ i = omega arith in
        split_at O (i - 1) 0 (omega arith) ∙ ap (λ (m : ℕ). take (i - 1) O ++ (at O (i - 1) ∷ drop m O)) f
        ∙ ap (λ (z : ℕ). take (i - 1) O ++ (z ∷ drop i O)) (sym c_is)

    behind : drop (i - 1) O ≡ c ∷ drop i O
    behind =
        let e = full in let f : suc (i - 1) ≡ i = omega arith in
        drop-cons O (i - 1) 0 (omega arith) ∙ ap (λ (m : ℕ). at O (i - 1) ∷ drop m O) f ∙ ap (λ (z : ℕ). z ∷ drop i O) (sym c_is)

    cell_on : c < n
    cell_on =
        let h = (order_mem L r D c (subst (λ (l : List ℕ). c ∈ l) (sym split) (in_right (take (i - 1) O) (in_head refl)))).0 in
        let q = G.cells in
        omega arith

    to_is : to ≡ at r c
    to_is = G.receivers_are c cell_on

    receiver_on : to < n
    receiver_on = let a = receiver_cell L r D (runs c cell_on).1 in let b = to_is in let q = G.cells in omega arith

    c_has : at d c ≡ total L r D water c
    c_has = M.has c cell_on ∙ acc_behind L r D water (take (i - 1) O) (drop i O) (runs c cell_on).1 split

    outlet_if : to ≡ c → L.outlet c ≡ true
    outlet_if q = sym (own_outlet L r D (runs c cell_on).1) ∙ eq-eqb (at r c) c (sym to_is ∙ q)

    inner_if : (to ≡ c → ⊥) → L.outlet c ≡ false
    inner_if q = sym (own_outlet L r D (runs c cell_on).1) ∙ ne_eqb (at r c) c (λ e. q (to_is ∙ e))

    sum_is : (to ≡ c → ⊥) → at d to + at d c ≡ acc L r D water (drop (i - 1) O) to
    sum_is q =
        let o = inner_if q in
        let a : acc L r D water (c ∷ drop i O) (at r c) ≡ acc L r D water (drop i O) (at r c) + total L r D water c =
        acc-gives L r D water c (drop i O) o in
        ap (λ (z : ℕ). z + at d c) (M.has to receiver_on) ∙ ap (λ (z : ℕ). acc L r D water (drop i O) to + z) c_has
        ∙ ap (λ (z : ℕ). acc L r D water (drop i O) z + total L r D water c) to_is ∙ sym a
        ∙ ap (acc L r D water (c ∷ drop i O)) (sym to_is) ∙ ap (λ (S : List ℕ). acc L r D water S to) (sym behind)

    -- no sum is above all the water
    sum_fits : ((x : ℕ) → x < n → at old x ≤ 65535) → (to ≡ c → ⊥) → at d to + at d c ≤ 268431360
    sum_fits h q =
        let a = sum_is q in
        let b : acc L r D water (drop (i - 1) O) to ≤ acc L r D water O to =
        acc_le L r D water (take (i - 1) O) (drop (i - 1) O) to (sym (take-append-drop (i - 1) O)) in
        let e : acc L r D water O to ≡ total L r D water to = acc-order L r D water (runs to receiver_on).1 in
        let f : total L r D water to ≤ 65535 * L.cells =
        total_le L r D water (runs to receiver_on).1 (λ x k. h x (subst (λ (z : ℕ). x < z) G.cells k)) in
        let g = G.cells in let s = G.few in
        omega arith

    -- what the code asks for at its turn
    pub turn_fits : ((x : ℕ) → x < n → at old x ≤ 65535) → (c < n) × (to < n) × ((to ≡ c → ⊥) → at d to + at d c ≤ 268431360)
    turn_fits h = (cell_on, receiver_on, sum_fits h)

    -- an outlet gives to nobody
    outlet_next : to ≡ c → Given d (i - 1)
    outlet_next q =
        record {
          size = M.size;
          has =
              λ x h. M.has x h ∙ sym
              (ap (λ (S : List ℕ). acc L r D water S x) behind ∙ acc_outlet L r D water c (drop i O) x (outlet_if q));
          past = M.past;
        }

    -- any other cell to its receiver
    inner_next : n ≤ length old → (to ≡ c → ⊥) → Given (set d to (at d to + at d c)) (i - 1)
    inner_next big q =
        record {
          size = length-set d to (at d to + at d c) ∙ M.size;
          has = λ x h. one x h (eq_or_ne x to);
          past = λ x h. get_or-set_other d to x (at d to + at d c) 0 (λ z. let y = receiver_on in omega arith) ∙ M.past x h;
        }
      where
        one : (x : ℕ) → x < n → (x ≡ to) ⊎ (x ≡ to → ⊥) → at (set d to (at d to + at d c)) x ≡ acc L r D water (drop (i - 1) O) x
        one x h (inl z) =
            let y = receiver_on in let s = M.size in
            ap (at (set d to (at d to + at d c))) z ∙ get_or-set_same d to (at d to + at d c) 0 (omega arith) ∙ sum_is q
            ∙ ap (acc L r D water (drop (i - 1) O)) (sym z)
        one x h (inr z) =
            get_or-set_other d to x (at d to + at d c) 0 z ∙ M.has x h
            ∙ sym (ap (λ (S : List ℕ). acc L r D water S x) behind ∙ acc_other L r D water c (drop i O) x (λ y. z (y ∙ sym to_is)))

    pub given_next : n ≤ length old → Given (given d c to) (i - 1)
    given_next big = go (known (eqb to c))
      where
        go : Known (eqb to c) → Given (given d c to) (i - 1)
        go (is t) = rw t (outlet_next (eqb-true to c t))
        go (isnt t) = rw t (inner_next big (eqb-false to c t))
