-- Where the ways of a set's lower cells end: at lower cells of the set that lead to no other, each the least cell of its group.
-- Assumes nothing.
use mathlib.Core.Bool.{not}
use mathlib.Core.List.{List, map}
use mathlib.Core.Logic.{inl, inr, ◌⊎◌}
use mathlib.Core.Path.{ap, subst, sym, ◌∙◌, ◌≡◌}
use Prim.Native.Nat.{suc, zero, ℕ, ◌+◌, ◌-◌, ◌<◌, ◌≤◌}
use native.Mathlib.Nat.{le_refl}
use native.Mathlib.Omega.{arith}
use lib.Dec.{ltb}
use lib.ListN.{length}
use borrow.Author.Tests.{eq-eqb, le-ltb, lt-ltb, ltb-true, ne_eqb}
use Rattle.lake_groups.specs.Gathering.{Gatherable, gathered, wetter}
use Rattle.lake_groups.specs.Numbers.{roots}
use Rattle.lake_rules.proofs.Labelling.{ByLeast, by_label-name, names_itself}
use Rattle.lake_rules.specs.Groups.{labelled}
use Rattle.lake_rules.specs.Notes.{root_at, roots_at, up_from}
use Rattle.lists.proofs.Ascending.{ascending_once}
use Rattle.lists.proofs.Keep.{keep_holds, keep-length, keep_member, keep_same}
use Rattle.lists.proofs.Once.{once_le}
use Rattle.lists.proofs.Range.{range_length, upto_holds}
use Rattle.lists.proofs.Repeat.{repeat_add, repeat_fixed}
use Rattle.lists.proofs.Tab.{tab-at}
use Rattle.lists.proofs.Tests.{lt_or_ge, not_is, so_not}
use Rattle.lists.specs.Lists.{at, keep, repeat, upto, ◌∈◌}

-- no more groups than cells
pub roots-most : (heights joins : List ℕ) (h : ℕ) (s : List ℕ) → length (roots heights joins h s) ≤ length s
unfolding roots
roots-most heights joins h s =
    omega (arith, keep-length (λ c. not (ltb (at joins c) h)) (wetter heights h s), keep-length (λ c. ltb (at heights c) h) s)

module _ {heights parents joins : List ℕ} {h : ℕ} {s : List ℕ} (G : Gatherable heights parents joins h s) where
  -- the step of a way, the labels, and the lower cells
  abbrev up : ℕ → ℕ
  up = up_from parents joins h

  abbrev pub ends : List ℕ
  ends = roots_at (length heights) parents joins h

  abbrev pub lower : List ℕ
  lower = wetter heights h s

  pub few_cells : length s ≤ 4096
  few_cells =
      let l : length s ≤ length (upto (length heights)) =
      once_le s (upto (length heights)) (ascending_once s G.ascending) (λ x m. upto_holds (G.on_tile_fact x m)) in
      omega (arith, range_length (length heights) 0, G.few)

  up-here : (c : ℕ) → h ≤ at joins c → up c ≡ c
  up-here c j = rw (le-ltb (at joins c) h j)

  up_parent : (c : ℕ) → at joins c < h → up c ≡ at parents c
  up_parent c j = rw (lt-ltb (at joins c) h j)

  -- r is where the way of c ends
  pub record End (c r : ℕ) : Type 0 where
    pub inside : r ∈ s
    pub low : at heights r < h
    pub least : r ≤ c
    pub last : h ≤ at joins r

  -- c or more steps from c lead there
  way_end : (k c : ℕ) → c ≤ k → c ∈ s → at heights c < h → End c (repeat k up c)
  way_end zero c l m w = go (lt_or_ge (at joins c) h)
    where
      go : (at joins c < h) ⊎ (h ≤ at joins c) → End c c
      go (inl j) = let p : at parents c < c = G.parent_less c m w j in absurd (omega arith)
      go (inr j) = record { inside = m; low = w; least = le_refl c; last = j }
  way_end (suc k) c l m w = go (lt_or_ge (at joins c) h) (way_end k (at parents c))
    where
      go : (at joins c < h) ⊎ (h ≤ at joins c)
          → (at parents c ≤ k → at parents c ∈ s → at heights (at parents c) < h → End (at parents c) (repeat k up (at parents c)))
          → End c (repeat k up (up c))
      go (inl j) ih =
          let p : at parents c < c = G.parent_less c m w j in
          let e = ih (omega arith) (G.parent_in c m w j) (G.parent_lower c m w j) in
          subst (λ (z : ℕ). End c (repeat k up z)) (sym (up_parent c j))
          (record { inside = e.inside; low = e.low; least = omega (arith, e.least); last = e.last })
      go (inr j) ih =
          subst (End c) (sym (ap (repeat k up) (up-here c j) ∙ repeat_fixed up k c (up-here c j)))
          (record { inside = m; low = w; least = le_refl c; last = j })

  pub root_end : (c : ℕ) → c ∈ s → at heights c < h → End c (root_at parents joins h c)
  unfolding root_at
  root_end c m w = way_end c c (le_refl c) m w

  -- a cell that leads to no other ends its own way, and any other's way is its parent's
  pub root_self : (c : ℕ) → h ≤ at joins c → root_at parents joins h c ≡ c
  unfolding root_at
  root_self c j = repeat_fixed up c c (up-here c j)

  pub root_parent : (c : ℕ) → c ∈ s → at heights c < h → at joins c < h → root_at parents joins h c ≡ root_at parents joins h (at parents c)
  unfolding root_at
  root_parent c m w j =
      let p : ℕ = at parents c in
      let l : p < c = G.parent_less c m w j in
      let e : c ≡ suc (p + (c - suc p)) = omega arith in
      let z = way_end p p (le_refl p) (G.parent_in c m w j) (G.parent_lower c m w j) in
      ap (λ (k : ℕ). repeat k up c) e
      ∙ ap (repeat (p + (c - suc p)) up) (up_parent c j)
      ∙ repeat_add up p (c - suc p) p
      ∙ repeat_fixed up (c - suc p) (repeat p up p) (up-here (repeat p up p) z.last)

  pub label_is : (c : ℕ) → c ∈ s → at ends c ≡ root_at parents joins h c
  label_is c m = tab-at (root_at parents joins h) (length heights) c 0 (G.on_tile_fact c m)

  pub lower_cell : {c : ℕ} → c ∈ lower → (c ∈ s) × (at heights c < h)
  lower_cell {c} m = let k = keep_member (λ d. ltb (at heights d) h) s m in (k.0, ltb-true (at heights c) h k.1)

  pub cell_lower : {c : ℕ} → c ∈ s → at heights c < h → c ∈ lower
  cell_lower {c} m w = keep_holds (λ d. ltb (at heights d) h) m (lt-ltb (at heights c) h w)

  by_least : ByLeast lower ends
  by_least =
      record {
        own = λ c m.
            let i = lower_cell m in
            let e = root_end c i.0 i.1 in
            subst (λ (z : ℕ). z ∈ lower) (sym (label_is c i.0)) (cell_lower e.inside e.low);
        low = λ c m.
            let i = lower_cell m in
            omega (arith, label_is c i.0, (root_end c i.0 i.1).least);
        fixed = λ c m.
            let i = lower_cell m in
            let e = root_end c i.0 i.1 in
            ap (at ends) (label_is c i.0) ∙ label_is (root_at parents joins h c) e.inside
            ∙ root_self (root_at parents joins h c) e.last ∙ sym (label_is c i.0);
      }

  -- the cells that name themselves are the roots
  roots_name : keep (names_itself ends) lower ≡ roots heights joins h s
  unfolding roots
  roots_name = keep_same (names_itself ends) (λ c. not (ltb (at joins c) h)) lower (λ c m. go c (lower_cell m) (lt_or_ge (at joins c) h))
    where
      go : (c : ℕ) → (c ∈ s) × (at heights c < h) → (at joins c < h) ⊎ (h ≤ at joins c) → names_itself ends c ≡ not (ltb (at joins c) h)
      go c (m, w) (inl j) =
          let l : at parents c < c = G.parent_less c m w j in
          let e = root_end (at parents c) (G.parent_in c m w j) (G.parent_lower c m w j) in
          ne_eqb (at ends c) c (λ q. omega (arith, label_is c m, root_parent c m w j, e.least))
          ∙ sym (not_is (ltb (at joins c) h) (lt-ltb (at joins c) h j))
      go c (m, w) (inr j) =
          eq-eqb (at ends c) c (label_is c m ∙ root_self c j) ∙ sym (so_not (ltb (at joins c) h) (le-ltb (at joins c) h j))

  -- so the groups are theirs
  pub gathered_is : gathered heights parents joins h s ≡ map (labelled ends lower) (roots heights joins h s)
  unfolding gathered
  gathered_is = by_label-name lower ends by_least ∙ ap (map (labelled ends lower)) roots_name
