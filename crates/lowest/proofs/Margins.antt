-- Lists with a margin of 65 entries on both sides, and the bits of a mask: the entry at a place of a cell's window is that of the cell there, and
-- the bit of a place says whether the mask's relation joins the cell to what stands there.
-- Assumes nothing.
use mathlib.Core.Bool.{Bool, cond}
use mathlib.Core.List.Memᴰ.{cases_cons as in-cases}
use mathlib.Core.List.Memᴰ.{not-nil as in-none}
use mathlib.Core.List.{[], List, map, ◌∷◌}
use mathlib.Core.Logic.{inl, inr, ◌⊎◌}
use mathlib.Core.Path.{ap, sym, ◌∙◌, ◌≡◌}
use Prim.Native.Nat.{ℕ, ◌%◌, ◌*◌, ◌+◌, ◌/◌, ◌<◌}
use native.Mathlib.Nat.{add_comm, div-div-eq-div-mul, div-one}
use native.Mathlib.Omega.{arith}
use lib.Dec.{eqb}
use lib.ListN.{drop}
use lib.Seq.{get_or-drop, get_or-take}
use borrow.Author.Tests.{eq-eqb, ne_eqb}
use Rattle.grid.proofs.Corners.{each_around}
use Rattle.grid.proofs.Window.{stands_number}
use Rattle.grid.specs.Masks.{bit_of, bits, joins_at, mask_of}
use Rattle.grid.specs.Window.{around, Stands}
use Rattle.lists.proofs.Tests.{cond-one, cond_small, eq_or_ne}
use Rattle.lists.specs.Lists.{at, stretch, ◌∈◌}
use Rattle.lowest.specs.Lowest.{entry_at, has_bit}

-- a cell's entry
pub stretch-entry : (l : List ℕ) (n c : ℕ) → c < n → at (stretch 65 n l) c ≡ at l (c + 65)
stretch-entry l n c h = get_or-take n (drop 65 l) c 0 h ∙ get_or-drop 65 l c 0 ∙ ap (at l) (add_comm 65 c)

-- what stands at a place of its window
pub entry_stands : {w n c : ℕ} (p d : ℕ) → p ∈ around → Stands w n c p d → entry_at w (c + 65) p ≡ d + 65
entry_stands {w} {n} {c} p d m =
    each_around (λ p. Stands w n c p d → entry_at w (c + 65) p ≡ d + 65)
    (λ S. let e = stands_number S in omega arith)
    (λ S. let e = stands_number S in omega arith)
    (λ S. let e = stands_number S in omega arith)
    (λ S. let e = stands_number S in omega arith)
    (λ S. let e = stands_number S in omega arith)
    (λ S. let e = stands_number S in omega arith)
    (λ S. let e = stands_number S in omega arith)
    (λ S. let e = stands_number S in omega arith)
    p m

-- the bit of place p in the bits of a test of places
bits_at : (f : ℕ → Bool) (ps : List ℕ) {p : ℕ} → p ∈ ps → bits (map f ps) / bit_of ps p % 2 ≡ cond (f p) 1 0
bits_at f [] m = absurd (in-none m)
bits_at f (q ∷ qs) {p} m = go (eq_or_ne p q) (in-cases m) (λ i. bits_at f qs i)
  where
    go : (p ≡ q) ⊎ (p ≡ q → ⊥) → (p ≡ q) ⊎ (p ∈ qs) → (p ∈ qs → bits (map f qs) / bit_of qs p % 2 ≡ cond (f p) 1 0)
        → bits (map f (q ∷ qs)) / bit_of (q ∷ qs) p % 2 ≡ cond (f p) 1 0
    go (inl e) k ih =
        let s = cond_small (f q) in
        let d = div-one (cond (f q) 1 0 + 2 * bits (map f qs)) in
        rw (eq-eqb p q e, e) (omega arith)
    go (inr z) (inl e) ih = absurd (z e)
    go (inr z) (inr i) ih =
        let s = cond_small (f q) in
        let x : ℕ = cond (f q) 1 0 + 2 * bits (map f qs) in
        let half : x / 2 ≡ bits (map f qs) = omega arith in
        rw (ne_eqb p q z)
        (ap (λ (y : ℕ). y % 2) (sym (div-div-eq-div-mul x 2 (bit_of qs p)) ∙ ap (λ (y : ℕ). y / bit_of qs p) half) ∙ ih i)

pub mask_bit : (w n : ℕ) (E : ℕ → ℕ → Bool) (c p : ℕ) → p ∈ around → has_bit (mask_of around w n E c) (bit_of around p) ≡ joins_at w n E c p
unfolding mask_of
mask_bit w n E c p m = ap (λ (k : ℕ). eqb k 1) (bits_at (joins_at w n E c) around m) ∙ cond-one (joins_at w n E c p)
