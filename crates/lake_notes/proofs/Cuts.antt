-- Where cells lead at a height, as a list: at the start each to itself, what hanging a cell changes, and that following it is `root_at`.
-- Assumes nothing.
use mathlib.Core.Bool.{Bool, cond, false, true}
use mathlib.Core.List.{List}
use mathlib.Core.Logic.{inl, inr, ◌⊎◌}
use mathlib.Core.Path.{ap, refl, sym, ◌∙◌, ◌≡◌}
use Prim.Native.Nat.{suc, zero, ℕ, ◌<◌, ◌≤◌}
use native.Mathlib.Omega.{arith}
use lib.Dec.{ltb}
use lib.ListN.{length, length-set, set}
use lib.Seq.{get_or-set_other, get_or-set_same}
use borrow.Author.Tests.{le-ltb, lt-ltb}
use Rattle.groups.specs.Groups.{Down, root_of}
use Rattle.lake_notes.specs.Meeting.{cut}
use Rattle.lake_rules.specs.Notes.{root_at, up_from}
use Rattle.lists.proofs.Range.{range_length, upto-at}
use Rattle.lists.proofs.Tab.{tab-at, tab-is, tab-length, tab_same}
use Rattle.lists.proofs.Tests.{eq_or_ne}
use Rattle.lists.specs.Lists.{at, repeat, upto}

-- a choice between two that are the same
same_either : (t : Bool) {a b : ℕ} → a ≡ b → cond t a b ≡ b
same_either true e = e
same_either false e = refl

-- no cell is hung
pub cut-none : (n : ℕ) (parents joins : List ℕ) (h : ℕ) → ((c : ℕ) → c < n → at parents c ≡ c) → cut n parents joins h ≡ upto n
cut-none n parents joins h own =
    tab-is (up_from parents joins h) (upto n) n 0 (range_length n 0) (λ k l. same_either (ltb (at joins k) h) (own k l) ∙ sym (upto-at n k l))

module _ (n : ℕ) (parents joins : List ℕ) where
  pub cut_at : (h c : ℕ) → c < n → at (cut n parents joins h) c ≡ up_from parents joins h c
  cut_at h c l = tab-at (up_from parents joins h) n c 0 l

  pub cut-length : (h : ℕ) → length (cut n parents joins h) ≡ n
  cut-length h = tab-length (up_from parents joins h) n

  -- cell q is hung under p at height t
  module _ (p q t : ℕ) (ip : q < length parents) (ij : q < length joins) where
    abbrev ps : List ℕ
    ps = set parents q p

    abbrev js : List ℕ
    js = set joins q t

    hung_here : (h : ℕ) → up_from ps js h q ≡ cond (ltb t h) p q
    hung_here h = rw (get_or-set_same joins q t 0 ij, get_or-set_same parents q p 0 ip)

    hung_elsewhere : (h k : ℕ) → (k ≡ q → ⊥) → up_from ps js h k ≡ up_from parents joins h k
    hung_elsewhere h k z = rw (get_or-set_other joins q k t 0 z, get_or-set_other parents q k p 0 z)

    -- at its height and below, nothing changes
    pub cut_below : (h : ℕ) → h ≤ t → up_from parents joins h q ≡ q → cut n ps js h ≡ cut n parents joins h
    cut_below h l own = tab_same (up_from ps js h) (up_from parents joins h) n (λ k i. go k (eq_or_ne k q))
      where
        go : (k : ℕ) → (k ≡ q) ⊎ (k ≡ q → ⊥) → up_from ps js h k ≡ up_from parents joins h k
        go k (inl e) = ap (up_from ps js h) e ∙ hung_here h ∙ rw (le-ltb t h l) (sym own) ∙ ap (up_from parents joins h) (sym e)
        go k (inr z) = hung_elsewhere h k z

    -- above, one entry does
    pub cut-above : (h : ℕ) → t < h → q < n → cut n ps js h ≡ set (cut n parents joins h) q p
    cut-above h l on =
        tab-is (up_from ps js h) (set (cut n parents joins h) q p) n 0 (length-set (cut n parents joins h) q p ∙ cut-length h)
        (λ k i. go k i (eq_or_ne k q))
      where
        go : (k : ℕ) → k < n → (k ≡ q) ⊎ (k ≡ q → ⊥) → up_from ps js h k ≡ at (set (cut n parents joins h) q p) k
        go k i (inl e) =
            let room : q < length (cut n parents joins h) = omega (arith, cut-length h) in
            ap (up_from ps js h) e
            ∙ hung_here h
            ∙ rw (lt-ltb t h l) (sym (get_or-set_same (cut n parents joins h) q p 0 room))
            ∙ ap (at (set (cut n parents joins h) q p)) (sym e)
        go k i (inr z) = hung_elsewhere h k z ∙ sym (cut_at h k i) ∙ sym (get_or-set_other (cut n parents joins h) q k p 0 z)

  -- following the list
  module _ (h : ℕ) (d : Down (cut n parents joins h)) where
    followed : (k c : ℕ) → c < n → repeat k (at (cut n parents joins h)) c ≡ repeat k (up_from parents joins h) c
    followed zero c l = refl
    followed (suc k) c l =
        let e : at (cut n parents joins h) c ≤ c = d c in
        followed k (at (cut n parents joins h) c) (omega arith) ∙ ap (repeat k (up_from parents joins h)) (cut_at h c l)

    pub cut-root : (c : ℕ) → c < n → root_of (cut n parents joins h) c ≡ root_at parents joins h c
    unfolding root_of root_at
    cut-root c l = followed c c l
