-- The flags after one pair more: a pair that joins two groups with lower cells in both flags its higher cell, and no other pair flags any.
-- The least heights of the two groups tell which it is.
-- Assumes nothing.
use mathlib.Core.List.Memᴰ.{cases_cons as in-cases}
use mathlib.Core.List.Memᴰ.{head as in_head}
use mathlib.Core.List.Memᴰ.{not-nil as in-none}
use mathlib.Core.List.{[], List}
use mathlib.Core.List.Memᴰ.{tail as in_Tail}
use mathlib.Core.List.{◌∷◌}
use mathlib.Core.Logic.{inl, inr, ◌⊎◌}
use mathlib.Core.Path.{ap, refl, sym, ◌∙◌, ◌≡◌}
use Prim.Native.Nat.{max, ℕ, ◌<◌, ◌≤◌}
use native.Mathlib.Omega.{arith}
use lib.ListN.{length, set}
use lib.Seq.{get_or-set_other, get_or-set_same}
use borrow.Author.Tests.{le-ltb, lt-ltb}
use Rattle.groups.specs.Groups.{Follows, root_of}
use Rattle.lake_notes.proofs.Chains.{chain_on, group_joins, joins_group}
use Rattle.lake_notes.specs.Meeting.{FlagsTell, flags_met, higher, LowsTell}
use Rattle.lake_rules.specs.Groups.{Touch, touching}
use Rattle.lake_rules.specs.Passing.{flags, Merges, none_passed, plain, top}
use Rattle.lists.proofs.Tests.{eq_or_ne, lt_or_ge}
use Rattle.lists.specs.Lists.{at, upto, ◌∈◌}
use Rattle.rules.proofs.Chains.{turned}
use Rattle.rules.proofs.Labels.{Within}
use Rattle.rules.specs.Land.{Land}

-- no pair yet, and no flag
pub flags_none : (L : Land) (fs : List ℕ) → ((c : ℕ) → c < L.cells → at fs c ≡ 0) → FlagsTell L [] fs
flags_none L fs none =
    record {
      flagged = [];
      passed = none_passed;
      only = λ c l e. let z = none c l in absurd (omega arith);
      all = λ c m. absurd (in-none m);
    }

-- the higher of two cells is one of them
higher-is : (height : ℕ → ℕ) (a b : ℕ)
    → ((higher height a b ≡ a) ⊎ (higher height a b ≡ b)) × (height (higher height a b) ≡ max (height a) (height b))
higher-is height a b = go (lt_or_ge (height a) (height b))
  where
    go : (height a < height b) ⊎ (height b ≤ height a)
        → ((higher height a b ≡ a) ⊎ (higher height a b ≡ b)) × (height (higher height a b) ≡ max (height a) (height b))
    go (inl l) = rw (lt-ltb (height a) (height b) l) (inr refl, omega arith)
    go (inr l) = rw (le-ltb (height a) (height b) l) (inl refl, omega arith)

module _ (L : Land) {es : List Touch} {fs : List ℕ} (T : FlagsTell L es fs) (x : Touch) (up : (y : Touch) → y ∈ es → top L y ≤ top L x) where
  pub flags_plain : (Merges L es x → ⊥) → FlagsTell L (x ∷ es) fs
  flags_plain z = record { flagged = T.flagged; passed = plain x T.passed up z; only = T.only; all = T.all }

  flags_more : Merges L es x → (c : ℕ) → (c ≡ x.lesser) ⊎ (c ≡ x.greater) → L.height c ≡ top L x → c < length fs
      → FlagsTell L (x ∷ es) (set fs c 1)
  flags_more m c side high room =
      record {
        flagged = c ∷ T.flagged;
        passed = flags x c T.passed up m side high;
        only = λ d l e. told d l e (eq_or_ne d c);
        all = λ d i. held d (eq_or_ne d c) (in-cases i);
      }
    where
      told : (d : ℕ) → d < L.cells → at (set fs c 1) d ≡ 1 → (d ≡ c) ⊎ (d ≡ c → ⊥) → d ∈ c ∷ T.flagged
      told d l e (inl i) = in_head i
      told d l e (inr z) = in_Tail (T.only d l (sym (get_or-set_other fs c d 1 0 z) ∙ e))

      held : (d : ℕ) → (d ≡ c) ⊎ (d ≡ c → ⊥) → (d ≡ c) ⊎ (d ∈ T.flagged) → at (set fs c 1) d ≡ 1
      held d (inl e) i = ap (at (set fs c 1)) e ∙ get_or-set_same fs c 1 0 room
      held d (inr z) (inl e) = absurd (z e)
      held d (inr z) (inr i) = get_or-set_other fs c d 1 0 z ∙ T.all d i

  -- the roots r and s of the pair's cells, and the least heights of their groups
  module _ (w : Within touching L.cells es) {g lows : List ℕ} (f : Follows touching (upto L.cells) es g)
      (low : LowsTell L.cells L.height g lows) (la : x.lesser < L.cells) (lb : x.greater < L.cells) (r s : ℕ)
      (er : r ≡ root_of g x.lesser) (eb : s ≡ root_of g x.greater) (apart : r ≡ s → ⊥) where
    -- each group has a cell lower than the pair
    merging : at lows r < top L x → at lows s < top L x → Merges L es x
    merging lr ls =
        let (d, on, same, is) = low.met x.lesser la in
        let (d', on', same', is') = low.met x.greater lb in
        let e = ap (at lows) er in
        let e' = ap (at lows) eb in
        record {
          apart = λ j. apart (er ∙ joins_group w f x.lesser x.greater la lb j ∙ sym eb);
          one = d;
          one_joined = group_joins w f d x.lesser on la same;
          one_lower = omega arith;
          other = d';
          other_joined = group_joins w f d' x.greater on' lb same';
          other_lower = omega arith;
        }

    -- a lower cell of a group is no lower than the group's least
    merges_one : Merges L es x → at lows r < top L x
    merges_one m =
        let on = chain_on w la (turned m.one_joined) in
        let e = ap (at lows) (joins_group w f m.one x.lesser on la m.one_joined ∙ sym er) in
        let k = low.least m.one on in
        let l = m.one_lower in
        omega arith

    merges_other : Merges L es x → at lows s < top L x
    merges_other m =
        let on = chain_on w lb (turned m.other_joined) in
        let e = ap (at lows) (joins_group w f m.other x.greater on lb m.other_joined ∙ sym eb) in
        let k = low.least m.other on in
        let l = m.other_lower in
        omega arith

    pub flags_met_fact : L.cells ≤ length fs → FlagsTell L (x ∷ es) (flags_met L.height x.lesser x.greater lows r s fs)
    flags_met_fact room = go (lt_or_ge (at lows r) (top L x)) (lt_or_ge (at lows s) (top L x))
      where
        c : ℕ
        c = higher L.height x.lesser x.greater

        on : (c ≡ x.lesser) ⊎ (c ≡ x.greater) → c < length fs
        on (inl e) = omega arith
        on (inr e) = omega arith

        go : (at lows r < top L x) ⊎ (top L x ≤ at lows r) → (at lows s < top L x) ⊎ (top L x ≤ at lows s)
            → FlagsTell L (x ∷ es) (flags_met L.height x.lesser x.greater lows r s fs)
        go (inl lr) (inl ls) =
            let (side, high) = higher-is L.height x.lesser x.greater in
            rw (lt-ltb (at lows r) (top L x) lr, lt-ltb (at lows s) (top L x) ls) (flags_more (merging lr ls) c side high (on side))
        go (inl lr) (inr ls) =
            rw (lt-ltb (at lows r) (top L x) lr, le-ltb (at lows s) (top L x) ls)
            (flags_plain (λ m. let k = merges_other m in omega arith))
        go (inr lr) t = rw (le-ltb (at lows r) (top L x) lr) (flags_plain (λ m. let k = merges_one m in omega arith))
