-- The walk's invariant, its beginning and its end.
-- Between turns there are the cells written and the cells pending. The order begins with the cells written. From the top on the stack
-- holds the pending cells' entries, then what was past the cells' places; nothing is said of what lies above the top.
-- The cells written, then all that lies above each pending cell, are rule 8's order. A pending cell runs to an outlet, and is one or has
-- its receiver written. Receivers, levels and wetness are noted for the cells written; levels began as heights.
-- At the end nothing is pending: what is written is the order. A cell that isn't in it is a hole, whose level is its height.
-- Assumes nothing.
use Rattle.std.proofs.Common.{◌≡◌, ℕ, ◌+◌, ◌<◌, ◌≤◌, false, List, [], ◌∷◌, ◌++◌, map, length, drop, sym, refl, ap, ◌∙◌, subst, append-nil, arith}
use mathlib.Core.Bool.{false≢true}
use Rattle.lists.proofs.Filled.{filled-by}
use Rattle.lists.proofs.Noted.{noted-none}
use Rattle.lists.proofs.Tests.{is, isnt, Known, known}
use Rattle.lists.specs.Lists.{at, flat, ◌∈◌}
use Rattle.lists.specs.Stores.{Noted}
use Rattle.rules.proofs.Levels.{level_hole}
use Rattle.rules.proofs.Orders.{from, mem_order, order_mem, outlet_of}
use Rattle.rules.specs.Land.{Land}
use Rattle.rules.specs.Network.{level, order, outlets, wet}
use Rattle.rules.specs.Way.{done, Drains, Runs}
use Rattle.walk.specs.Climb.{entry_of, Ready}
use Rattle.walk.specs.Walk.{Lent, LentHolds, Walked}

-- k cells are written, and the stack's top is at t
pub record Midst (w : ℕ) (L : Land) (r : List ℕ) (s₀ s : Lent) (k t : ℕ) : Type 0 where
  pub written : List ℕ
  pub pending : List ℕ
  pub ordered : s.order ≡ written ++ drop k s₀.order
  pub size_order : length s.order ≡ length s₀.order
  pub size_stack : length s.stack ≡ length s₀.stack
  pub stacked : drop t s.stack ≡ map (entry_of w L r) pending ++ drop L.cells s₀.stack
  pub at_k : length written ≡ k
  pub at_t : t + length pending ≡ L.cells
  pub rule : written ++ flat (from L r) pending ≡ order L r
  pub runs : (x : ℕ) → x ∈ pending → (j : ℕ) × Runs L (at r) x j
  pub behind : (x : ℕ) → x ∈ pending → L.outlet x ≡ false → at r x ∈ written
  pub heights-noted : (x : ℕ) → x < L.cells → at s₀.levels x ≡ L.height x
  pub noted_receivers : Noted (at r) written s₀.receivers s.receivers
  pub noted_levels : Noted (level L r) written s₀.levels s.levels
  pub noted_wets : Noted (wet L r) written s₀.wets s.wets

module _ {w : ℕ} {L : Land} {r : List ℕ} (D : Drains L r) where
  -- the outlets are pending
  pub begin : {s : Lent} {t : ℕ} → Ready w L r s t → Midst w L r s s 0 t
  unfolding order from
  begin {s} {t} R =
      record {
        written = [];
        pending = outlets L;
        ordered = refl;
        size_order = refl;
        size_stack = refl;
        stacked = R.stacked;
        at_k = refl;
        at_t = R.top;
        rule = refl;
        runs = λ x m. (0, outlet_of L r D x m);
        behind = λ x m o. absurd (outlets_only x o (outlet_of L r D x m));
        heights-noted = R.heights-noted;
        noted_receivers = noted-none (at r) s.receivers;
        noted_levels = noted-none (level L r) s.levels;
        noted_wets = noted-none (wet L r) s.wets;
      }
    where
      outlets_only : (x : ℕ) → L.outlet x ≡ false → Runs L (at r) x 0 → ⊥
      outlets_only x o (done h q) = false≢true (sym o ∙ q)

  -- the lists keep their places
  pub still_room : {s₀ s : Lent} {k t : ℕ} → Midst w L r s₀ s k t → LentHolds L.cells s₀ → LentHolds L.cells s
  still_room {s₀} {s} {k} {t} I P =
      let a = I.size_stack in let b = I.size_order in let c = I.noted_receivers.size in let d = I.noted_levels.size in
      let e = I.noted_wets.size in
      let p₁ = P.fits_stack in let p₂ = P.fits_order in let p₃ = P.fits_receivers in let p₄ = P.fits_levels in let p₅ = P.fits_wets in
      record {
        fits_stack = omega arith;
        fits_order = omega arith;
        fits_receivers = omega arith;
        fits_levels = omega arith;
        fits_wets = omega arith;
      }

  -- nothing is pending
  module _ {s₀ s : Lent} {k t : ℕ} (I : Midst w L r s₀ s k t) (end : L.cells ≤ t) where
    nothing : (l : List ℕ) → length l ≡ 0 → l ≡ []
    nothing [] e = refl
    nothing (y ∷ ys) e = absurd (omega arith)

    none_left : I.pending ≡ []
    none_left = nothing I.pending (let a = I.at_t in omega arith)

    at_end : t ≡ L.cells
    at_end = let a = I.at_t in omega arith

    written_is : I.written ≡ order L r
    written_is = sym (append-nil I.written) ∙ ap (λ (l : List ℕ). I.written ++ flat (from L r) l) (sym none_left) ∙ I.rule

    level_at_fact : (x : ℕ) → x < L.cells → Known (L.solid x) → at s.levels x ≡ level L r x
    level_at_fact x h (is t) = I.noted_levels.there x (subst (λ (l : List ℕ). x ∈ l) (sym written_is) (mem_order L r D x h t))
    level_at_fact x h (isnt t) =
        I.noted_levels.elsewhere x
        (λ m. false≢true (sym t ∙ (order_mem L r D x (subst (λ (l : List ℕ). x ∈ l) written_is m)).1))
        ∙ I.heights-noted x h ∙ sym (level_hole L r x t)

    level_past : (x : ℕ) → L.cells ≤ x → at s.levels x ≡ at s₀.levels x
    level_past x h =
        I.noted_levels.elsewhere x (λ m.
        let b = (order_mem L r D x (subst (λ (l : List ℕ). x ∈ l) written_is m)).0 in omega arith)

    pub finish : LentHolds L.cells s₀ → Walked L r s₀ s
    finish P =
        record {
          order_is = I.ordered ∙ ap (λ (i : ℕ). I.written ++ drop i s₀.order) (sym I.at_k)
              ∙ ap (λ (l : List ℕ). l ++ drop (length l) s₀.order) written_is;
          receivers_are = subst (λ (l : List ℕ). Noted (at r) l s₀.receivers s.receivers) written_is I.noted_receivers;
          levels_are = filled-by (level L r) L.cells s₀.levels s.levels P.fits_levels I.noted_levels.size
              (λ x h. level_at_fact x h (known (L.solid x))) level_past;
          wets_are = subst (λ (l : List ℕ). Noted (wet L r) l s₀.wets s.wets) written_is I.noted_wets;
          past = ap (λ (i : ℕ). drop i s.stack) (sym at_end) ∙ I.stacked
              ∙ ap (λ (l : List ℕ). map (entry_of w L r) l ++ drop L.cells s₀.stack) none_left;
        }
