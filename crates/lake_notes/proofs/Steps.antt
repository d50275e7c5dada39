-- The lists of the pass from pair to pair: what they say of no pair, and what one pair more makes of them.
-- Assumes nothing.
use mathlib.Core.List.Memᴰ.{cases_cons as in-cases}
use mathlib.Core.List.Memᴰ.{not-nil as in-none}
use mathlib.Core.List.{[], List, ◌∷◌}
use mathlib.Core.Logic.{inl, inr, ◌⊎◌}
use mathlib.Core.Path.{ap, refl, subst, sym, ◌∙◌, ◌≡◌}
use Prim.Native.Nat.{max, min, suc, ℕ, ◌<◌, ◌≤◌}
use native.Mathlib.Omega.{arith}
use lib.ListN.{length, set}
use lib.Seq.{get_or-set_other, get_or-set_same}
use borrow.Author.Tests.{le-ltb, lt-ltb}
use Rattle.groups.proofs.Following.{follows_more, follows_none, follows_roots}
use Rattle.groups.proofs.Merging.{hung_greater, one_already, one-root, other_root, Searched, two_joined}
use Rattle.groups.proofs.Roots.{alone_down, root_below}
use Rattle.groups.specs.Groups.{Follows, Joined, Root, root_of, SameGroup, SameGroups}
use Rattle.lake_notes.proofs.Chains.{group_joins, in_upto}
use Rattle.lake_notes.proofs.Cuts.{cut-above, cut_at, cut_below, cut-length, cut-none}
use Rattle.lake_notes.proofs.FlagSteps.{flags_met_fact, flags_none, flags_plain}
use Rattle.lake_notes.proofs.Lows.{lows_joined, lows_none, lows_same}
use Rattle.lake_notes.specs.Meeting.{between_two, cut, FlagsTell, Lists, Met, Sized, SoFar, within_one}
use Rattle.lake_rules.proofs.Flagging.{all-below}
use Rattle.lake_rules.specs.Groups.{Touch, touching}
use Rattle.lake_rules.specs.Notes.{highest, up_from}
use Rattle.lake_rules.specs.Passing.{pairs_below, top}
use Rattle.lists.proofs.Tests.{eq_or_ne, lt_or_ge}
use Rattle.lists.specs.Lists.{at, upto, ◌∈◌}
use Rattle.rules.specs.Land.{Land}

-- no pair yet: each cell is alone, and its own root at every height
pub so_far_none : (L : Land) (l : Lists) → l.group ≡ upto L.cells → ((c : ℕ) → c < L.cells → at l.lows c ≡ L.height c)
    → ((c : ℕ) → c < L.cells → at l.flags c ≡ 0) → ((c : ℕ) → c < L.cells → at l.parents c ≡ c)
    → ((c : ℕ) → c < L.cells → at l.joins c ≡ highest) → SoFar L [] l
so_far_none L l alone lows flags parents joins =
    record {
      on_land = λ x m. absurd (in-none m);
      groups = rw alone none;
      cuts = λ h. rw (cut-none L.cells l.parents l.joins h parents) none;
      parent_less = λ c i j. let e = joins c i in absurd (omega arith);
      lows_tell = rw alone (lows_none L.cells L.height l.lows lows);
      flags_tell = flags_none L l.flags flags;
    }
  where
    none : Follows touching (upto L.cells) [] (upto L.cells)
    none = follows_none touching (upto L.cells) (alone_down L.cells)

-- a property of two numbers is one of the greater
of_greater : (P : ℕ → Type 0) (r s : ℕ) → P r → P s → P (max r s)
of_greater P r s p q = go (lt_or_ge r s)
  where
    go : (r < s) ⊎ (s ≤ r) → P (max r s)
    go (inl l) = let e : max r s ≡ s = omega arith in subst P (sym e) q
    go (inr l) = let e : max r s ≡ r = omega arith in subst P (sym e) p

-- a pair x that is no lower than those before it
module _ (L : Land) {es : List Touch} {old : Lists} (S : SoFar L es old) (x : Touch) (la : x.lesser < L.cells) (lb : x.greater < L.cells)
    (up : (y : Touch) → y ∈ es → top L y ≤ top L x) where
  abbrev n : ℕ
  n = L.cells

  abbrev below : ℕ → List ℕ
  below h = cut n old.parents old.joins h

  -- above the pair's height all pairs are there, so the cut has the groups
  whole_roots : (h : ℕ) → top L x < h → (c : ℕ) → c < n → root_of (below h) c ≡ root_of old.group c
  whole_roots h l c i =
      follows_roots touching (upto n) (subst (λ (z : List Touch). Follows touching (upto n) z (below h)) (all-below L h es x up l) (S.cuts h))
      S.groups c (in_upto n c i)

  on_more : (y : Touch) → (y ≡ x) ⊎ (y ∈ es) → (y.lesser < n) × (y.greater < n)
  on_more y (inl e) = (subst (λ (z : Touch). z.lesser < n) (sym e) la, subst (λ (z : Touch). z.greater < n) (sym e) lb)
  on_more y (inr m) = S.on_land y m

  -- what is to be shown of cuts: nothing changes up to the pair's height, and above it the pair's groups are joined
  cuts_more : (ps js : List ℕ) → ((h : ℕ) → h ≤ top L x → cut n ps js h ≡ below h)
      → ((h : ℕ) → top L x < h → Joined (below h) x.lesser x.greater (cut n ps js h))
      → (h : ℕ) → Follows touching (upto n) (pairs_below L h (x ∷ es)) (cut n ps js h)
  cuts_more ps js stay join h = go (lt_or_ge (top L x) h)
    where
      go : (top L x < h) ⊎ (h ≤ top L x) → Follows touching (upto n) (pairs_below L h (x ∷ es)) (cut n ps js h)
      go (inl l) =
          rw (lt-ltb (top L x) h l)
          (follows_more touching (upto n) (below h) (cut n ps js h) x (pairs_below L h es) (in_upto n x.lesser la)
          (in_upto n x.greater lb) (join h l) (S.cuts h))
      go (inr l) = rw (le-ltb (top L x) h l) (subst (Follows touching (upto n) (pairs_below L h es)) (sym (stay h l)) (S.cuts h))

  -- both cells are in one group: nothing changes
  module _ {new : Lists} (same : SameGroup old.group x.lesser x.greater) (groups : SameGroups old.group new.group)
      (lows : new.lows ≡ old.lows) (flags : new.flags ≡ old.flags) (parents : new.parents ≡ old.parents)
      (joins : new.joins ≡ old.joins) where
    already : {g h : List ℕ} → SameGroups g h → SameGroup g x.lesser x.greater → Joined g x.lesser x.greater h
    already s e = (one_already (record { groups = s; one = refl; other = refl }) e).1

    met-within : SoFar L (x ∷ es) new
    met-within =
        record {
          on_land = λ y m. on_more y (in-cases m);
          groups =
              follows_more touching (upto n) old.group new.group x es (in_upto n x.lesser la) (in_upto n x.greater lb)
              (already groups same) S.groups;
          cuts =
              rw (parents, joins)
              (cuts_more old.parents old.joins (λ h l. refl) (λ h l.
              already (record { down = (S.cuts h).down; roots = λ c. refl })
              (whole_roots h l x.lesser la ∙ same ∙ sym (whole_roots h l x.greater lb))));
          parent_less = rw (parents, joins) S.parent_less;
          lows_tell = rw lows (lows_same S.lows_tell groups);
          flags_tell =
              rw flags
              (flags_plain L S.flags_tell x up
              (λ m. m.apart (group_joins S.on_land S.groups x.lesser x.greater la lb same)));
        }

  -- they are in two groups, with the roots r and s
  module _ (size : Sized L.cells old) (r s : ℕ) (er : r ≡ root_of old.group x.lesser) (eb : s ≡ root_of old.group x.greater)
      (apart : r ≡ s → ⊥) where
    abbrev lo : ℕ
    lo = min r s

    abbrev hi : ℕ
    hi = max r s

    on_r : r < n
    on_r = let b = root_below old.group S.groups.down x.lesser in omega arith

    on_s : s < n
    on_s = let b = root_below old.group S.groups.down x.greater in omega arith

    on_hi : hi < n
    on_hi = let a = on_r in let b = on_s in omega arith

    -- above the pair's height they are the roots of its cells too
    module _ (h : ℕ) (l : top L x < h) where
      found : Searched (below h) x.lesser x.greater (below h) r s
      found =
          record {
            groups = record { down = (S.cuts h).down; roots = λ c. refl };
            one = er ∙ sym (whole_roots h l x.lesser la);
            other = eb ∙ sym (whole_roots h l x.greater lb);
          }

      root_r : Root (below h) r
      root_r = one-root found (omega (arith, cut-length n old.parents old.joins h))

      root_s : Root (below h) s
      root_s = other_root found (omega (arith, cut-length n old.parents old.joins h))

      joined_above : Joined (below h) x.lesser x.greater (set (below h) hi lo)
      joined_above = (two_joined found (set (below h) hi lo) root_r root_s apart (hung_greater (below h) (S.cuts h).down r s root_r root_s)).1

    -- the greater root is its own at every height so far
    own_above : up_from old.parents old.joins (suc (top L x)) hi ≡ hi
    own_above =
        let t : ℕ = suc (top L x) in
        let l : top L x < t = omega arith in
        sym (cut_at n old.parents old.joins t hi on_hi)
        ∙ of_greater (λ (c : ℕ). at (below t) c ≡ c) r s (root_r t l).1 (root_s t l).1

    own_below : (h : ℕ) → h ≤ top L x → up_from old.parents old.joins h hi ≡ hi
    own_below h l = go (lt_or_ge (at old.joins hi) h)
      where
        go : (at old.joins hi < h) ⊎ (h ≤ at old.joins hi) → up_from old.parents old.joins h hi ≡ hi
        go (inl j) = rw (lt-ltb (at old.joins hi) h j) (rw (lt-ltb (at old.joins hi) (suc (top L x)) (omega arith)) at own_above)
        go (inr j) = rw (le-ltb (at old.joins hi) h j)

    hi_parents : hi < length old.parents
    hi_parents = let o = on_hi in omega (arith, size.parents_fit)

    hi_joins : hi < length old.joins
    hi_joins = let o = on_hi in omega (arith, size.joins_fit)

    less_more : (c : ℕ) → c < n → (c ≡ hi) ⊎ (c ≡ hi → ⊥) → at (set old.joins hi (top L x)) c < highest
        → at (set old.parents hi lo) c < c
    less_more c i (inl e) j =
        let f = ap (at (set old.parents hi lo)) e ∙ get_or-set_same old.parents hi lo 0 hi_parents in
        omega arith
    less_more c i (inr z) j =
        rw (get_or-set_other old.parents hi c lo 0 z) (S.parent_less c i (rw (get_or-set_other old.joins hi c (top L x) 0 z) at j))

    met_between : {new : Lists} → Joined old.group x.lesser x.greater new.group
        → new.lows ≡ set old.lows lo (min (at old.lows r) (at old.lows s))
        → FlagsTell L (x ∷ es) new.flags → new.parents ≡ set old.parents hi lo → new.joins ≡ set old.joins hi (top L x)
        → SoFar L (x ∷ es) new
    met_between {new} j lows flags parents joins =
        record {
          on_land = λ y m. on_more y (in-cases m);
          groups =
              follows_more touching (upto n) old.group new.group x es (in_upto n x.lesser la) (in_upto n x.greater lb) j
              S.groups;
          cuts =
              rw (parents, joins)
              (cuts_more (set old.parents hi lo) (set old.joins hi (top L x))
              (λ h l. cut_below n old.parents old.joins lo hi (top L x) hi_parents hi_joins h l (own_below h l))
              (λ h l.
              subst (Joined (below h) x.lesser x.greater)
              (sym (cut-above n old.parents old.joins lo hi (top L x) hi_parents hi_joins h l on_hi)) (joined_above h l)));
          parent_less = rw (parents, joins) (λ c i. less_more c i (eq_or_ne c hi));
          lows_tell =
              rw lows (lows_joined S.lows_tell la lb j r s er eb (let o = on_hi in omega (arith, size.lows_fit)));
          flags_tell = flags;
        }

  -- either way
  pub so_far_next : {new : Lists} → Sized L.cells old → Met L.height x.lesser x.greater old new → SoFar L (x ∷ es) new
  so_far_next size (within_one e s lows flags parents joins) = met-within e s lows flags parents joins
  so_far_next size (between_two r s er eb z j lows flags parents joins) =
      met_between size r s er eb z j lows
      (rw flags (flags_met_fact L S.flags_tell x up S.on_land S.groups S.lows_tell la lb r s er eb z size.flags_fit)) parents joins
