-- Writing an entry above the top and moving the top by a bit is pushing the entry where the bit is 1.
-- Assumes nothing.
use Rattle.std.proofs.Common.{◌≡◌, ℕ, suc, ◌+◌, ◌-◌, ◌*◌, ◌/◌, ◌%◌, ◌<◌, ◌≤◌, Bool, true, false, cond, ◌⊎◌, List, [], ◌∷◌, ◌++◌, map, length, drop, set, sym}
use Rattle.std.proofs.Common.{refl, ap, ◌∙◌, inl, inr, append_assoc, arith, length-append, length-set, drop-cons, get_or-set_same, drop-set-lt, ne_eqb}
use mathlib.Core.List.Memᴰ.{head as in_head}
use mathlib.Core.List.Memᴰ.{tail as in_Tail}
use mathlib.Core.List.{map-append}
use Rattle.grid.proofs.AtPlaces.{one}
use Rattle.grid.specs.Masks.{bits}
use Rattle.lists.proofs.Tests.{eq_or_ne}
use Rattle.lists.specs.Lists.{flat, ◌∈◌}
use Rattle.walk.specs.Climb.{kept, kept_of, ones}

-- what stands from the new top on
pub kept_push : (st : List ℕ) (top e b : ℕ) → 0 < top → top ≤ length st → b ≤ 1
    → drop (top - b) (set st (top - 1) e) ≡ kept b e ++ drop top st
kept_push st top e b h k l = go (eq_or_ne b 1)
  where
    past : drop top (set st (top - 1) e) ≡ drop top st
    past = drop-set-lt top st (top - 1) e (omega arith)

    go : (b ≡ 1) ⊎ (b ≡ 1 → ⊥) → drop (top - b) (set st (top - 1) e) ≡ kept b e ++ drop top st
    go (inl q) =
        let s = length-set st (top - 1) e in
        let u : suc (top - 1) ≡ top = omega arith in
        rw q (drop-cons (set st (top - 1) e) (top - 1) 0 (omega arith)
        ∙ ap (λ (x : ℕ). x ∷ drop (suc (top - 1)) (set st (top - 1) e)) (get_or-set_same st (top - 1) e 0 (omega arith))
        ∙ ap (λ (m : ℕ). e ∷ drop m (set st (top - 1) e)) u ∙ ap (λ (x : List ℕ). e ∷ x) past)
    go (inr q) =
        let z : top - b ≡ top = omega (arith, q) in
        rw (ne_eqb b 1 q, z) past

-- as many as the bit says
kept-length : (b e : ℕ) → b ≤ 1 → length (kept b e) ≡ b
kept-length b e h = go (eq_or_ne b 1)
  where
    go : (b ≡ 1) ⊎ (b ≡ 1 → ⊥) → length (kept b e) ≡ b
    go (inl q) = rw q
    go (inr q) = rw (ne_eqb b 1 q) (omega (arith, q))

-- where the bit is a test's, and the entry that of cell x if the test passes
pub kept-one : (f : ℕ → ℕ) (b e x : ℕ) (t : Bool) → b ≡ cond t 1 0 → (t ≡ true → e ≡ f x) → kept b e ≡ map f (one t x)
kept-one f b e x true q h = rw q (ap (λ (z : ℕ). z ∷ []) (h refl))
kept-one f b e x false q h = rw q

-- one place more
pub kept_of_push : (f : ℕ → ℕ) (p : ℕ) (ps : List ℕ) (mask : ℕ) (old : List ℕ) {bit e : ℕ} {x y : List ℕ} → y ≡ kept bit e ++ x
    → bit ≡ mask % 2 → e ≡ f p → x ≡ kept_of f ps (mask / 2) ++ old → y ≡ kept_of f (p ∷ ps) mask ++ old
kept_of_push f p ps mask old h b e k = h ∙ rw (b, e, k, append_assoc)

-- as many as the mask has bits
pub kept_of-length : (f : ℕ → ℕ) (ps : List ℕ) (mask : ℕ) → length (kept_of f ps mask) ≡ ones ps mask
unfolding ones
kept_of-length f [] mask = refl
kept_of-length f (p ∷ ps) mask =
    let a = length-append (kept (mask % 2) (f p)) (kept_of f ps (mask / 2)) in
    let b = kept-length (mask % 2) (f p) (omega arith) in
    let c = kept_of-length f ps (mask / 2) in
    omega arith

-- where the bits are tests', and the entry of place p that of cell x p if its test passes
pub kept_of_tests : (f e x : ℕ → ℕ) (t : ℕ → Bool) (ps : List ℕ) → ((p : ℕ) → p ∈ ps → t p ≡ true → f p ≡ e (x p))
    → kept_of f ps (bits (map t ps)) ≡ map e (flat (λ p. one (t p) (x p)) ps)
kept_of_tests f e x t [] h = refl
kept_of_tests f e x t (p ∷ ps) h =
    let m : ℕ = bits (map t ps) in
    let b = lowest (t p) m in
    let d : (cond (t p) 1 0 + 2 * m) / 2 ≡ m = omega (arith, b) in
    ap (λ (z : ℕ). kept ((cond (t p) 1 0 + 2 * m) % 2) (f p) ++ kept_of f ps z) d
    ∙ ap (λ (l : List ℕ). l ++ kept_of f ps m) (kept-one e ((cond (t p) 1 0 + 2 * m) % 2) (f p) (x p) (t p) b.0 (h p (in_head refl)))
    ∙ ap (λ (l : List ℕ). map e (one (t p) (x p)) ++ l) (kept_of_tests f e x t ps (λ q i. h q (in_Tail i)))
    ∙ sym (map-append e (one (t p) (x p)) (flat (λ q. one (t q) (x q)) ps))
  where
    lowest : (b : Bool) (m : ℕ) → ((cond b 1 0 + 2 * m) % 2 ≡ cond b 1 0) × (cond b 1 0 ≤ 1)
    lowest true m = (omega arith, omega arith)
    lowest false m = (omega arith, omega arith)
