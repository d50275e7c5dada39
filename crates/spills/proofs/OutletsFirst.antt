-- The labels that basins give tell the nodes of rule 4 apart, with the number of cells for the outlets'. Made labels with 0 for the outlets',
-- they are such as spills ask for.
-- Assumes nothing.
use mathlib.Core.Bool.{true}
use mathlib.Core.List.{List, map}
use mathlib.Core.Logic.{inl, inr, ◌⊎◌}
use mathlib.Core.Path.{ap, refl, sym, ◌∙◌, ◌≡◌}
use Prim.Native.Nat.{ℕ, ◌+◌, ◌<◌, ◌≤◌}
use native.Mathlib.Omega.{arith}
use lib.ListN.{length}
use borrow.Author.Tests.{eq-eqb, ne_eqb}
use Rattle.lists.proofs.Tab.{tab-at, tab-length}
use Rattle.lists.proofs.Tests.{eq_or_ne}
use Rattle.lists.specs.Ascending.{AscendingBy}
use Rattle.lists.specs.Lists.{at, tab}
use Rattle.pairs.specs.Pairs.{crossing_of, pair_key, Pairs}
use Rattle.rules.proofs.FirstReceivers.{first_outlet, singular_of_self}
use Rattle.rules.proofs.NodeLabels.{label_node, label_small, node_label}
use Rattle.rules.specs.Enough.{Suffices}
use Rattle.rules.specs.Land.{Land, rule_by}
use Rattle.rules.specs.NodeLabels.{label_of}
use Rattle.rules.specs.Tile.{Tile, tile_land}
use Rattle.rules.specs.Way.{Lawful}
use Rattle.spills.specs.Levels.{Levelling, outlets_first}
use Rattle.grid.specs.declared.Neighbours.{Neighbours}

module _ (n : ℕ) where
  first-zero : (a : ℕ) → a ≡ n → outlets_first n a ≡ 0
  first-zero a e = rw (eq-eqb a n e)

  first-next : (a : ℕ) → (a ≡ n → ⊥) → outlets_first n a ≡ a + 1
  first-next a z = rw (ne_eqb a n z)

  -- no two labels become one
  first_one : (a b : ℕ) → outlets_first n a ≡ outlets_first n b → a ≡ b
  first_one a b e = go (eq_or_ne a n) (eq_or_ne b n)
    where
      go : (a ≡ n) ⊎ (a ≡ n → ⊥) → (b ≡ n) ⊎ (b ≡ n → ⊥) → a ≡ b
      go (inl p) (inl q) = p ∙ sym q
      go (inl p) (inr q) = let f = sym (first-zero a p) ∙ e ∙ first-next b q in absurd (omega (arith, f))
      go (inr p) (inl q) = let f = sym (first-next a p) ∙ e ∙ first-zero b q in absurd (omega (arith, f))
      go (inr p) (inr q) = let f = sym (first-next a p) ∙ e ∙ first-next b q in omega (arith, f)

  first_small : (a : ℕ) → a ≤ n → outlets_first n a ≤ n
  first_small a h = go (eq_or_ne a n)
    where
      go : (a ≡ n) ⊎ (a ≡ n → ⊥) → outlets_first n a ≤ n
      go (inl e) = let f = first-zero a e in omega (arith, f)
      go (inr z) = let f = first-next a z in omega (arith, f, h)

-- an outlet has the outlets' label
outlet_label : (L : Land) (c : ℕ) → L.outlet c ≡ true → label_of L c ≡ L.cells
unfolding label_of
outlet_label L c o = rw (singular_of_self L c (first_outlet L c o), o)

-- labels of a lawful tile, made so, and pairs that suffice
pub outlets-first : {N : Neighbours} {w : ℕ} {heights marks labels pairs : List ℕ} → Tile w heights marks
    → Lawful (tile_land (rule_by N) w heights marks)
    → labels ≡ tab (length heights) (λ c. outlets_first (length heights) (label_of (tile_land (rule_by N) w heights marks) c))
    → Suffices (tile_land (rule_by N) w heights marks) (map (crossing_of w) pairs) → Pairs w (length heights) pairs
    → AscendingBy (pair_key w heights) pairs → Levelling N w heights marks labels pairs
outlets-first {N} {w} {heights} {marks} {labels} {pairs} T W e S near rise =
    record {
      tile = T;
      lawful = W;
      sized = sized;
      small =
          λ c h.
          let k : c < n = omega (arith, sized) in
          let f = first_small n (label_of L c) (label_small L W c k refl) in
          omega (arith, entry c k, f, T.grid.few);
      labelled =
          record {
            same = λ c d h k q. label_node L W c d h k refl refl (first_one n (label_of L c) (label_of L d) (sym (entry c h) ∙ q ∙ entry d k));
            told = λ c d h k q. entry c h ∙ ap (outlets_first n) (node_label L W c d h k refl refl q) ∙ sym (entry d k);
          };
      outlets = λ c h o. entry c (omega (arith, sized)) ∙ first-zero n (label_of L c) (outlet_label L c o);
      enough = S;
      neighbours = near;
      ascending = rise;
    }
  where
    n : ℕ
    n = length heights

    L : Land
    L = tile_land (rule_by N) w heights marks

    f : ℕ → ℕ
    f c = outlets_first n (label_of L c)

    sized : length labels ≡ n
    sized = ap length e ∙ tab-length f n

    entry : (c : ℕ) → c < n → at labels c ≡ outlets_first n (label_of L c)
    entry c h = ap (λ (l : List ℕ). at l c) e ∙ tab-at f n c 0 h
