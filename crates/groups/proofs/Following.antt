-- Groups joined along a list of edges are the chains of the list.
-- Assumes nothing.
use mathlib.Core.List.Memᴰ.{append_cases as in-append}
use mathlib.Core.List.Memᴰ.{cases_cons as in-cases}
use mathlib.Core.List.{[], List}
use mathlib.Core.List.Memᴰ.{eq_of_singleton as in-only}
use mathlib.Core.List.Memᴰ.{head as in_head}
use mathlib.Core.List.Memᴰ.{tail as in_Tail}
use mathlib.Core.List.Memᴰ.{append_left as in_left}
use mathlib.Core.List.Memᴰ.{append_right as in_right}
use mathlib.Core.List.{◌++◌, ◌∷◌}
use mathlib.Core.Logic.{inl, inr, ◌⊎◌}
use mathlib.Core.Path.{refl, ◌≡◌}
use Prim.Native.Nat.{ℕ, ◌<◌, ◌≤◌}
use native.Mathlib.Omega.{arith}
use lib.ListN.{length}
use Rattle.groups.proofs.Merging.{ByJoin, joined_same, same_joined}
use Rattle.groups.proofs.Roots.{root_below, root_is, root_self}
use Rattle.groups.specs.Groups.{Down, Follows, Joined, root_of, seen_by}
use Rattle.lists.specs.Lists.{◌∈◌}
use Rattle.rules.proofs.Chains.{across, by-one_edge, mono, none_joins, OneEdge, over, without, ◌then◌}
use Rattle.rules.specs.Chain.{back, Chain, Edges, forth, here}

module _ {E : Type 0} (G : Edges E) (old : List ℕ) where
  abbrev S : Edges E
  S = seen_by (root_of old) G

  -- no edge yet
  pub follows_none : Down old → Follows G old [] old
  follows_none d = record { down = d; chained = λ a b h k e. here e; grouped = λ a b h k c. none_joins c }

  -- a root is the least of its group: two lists that follow the same edges have the same roots
  module _ {es : List E} where
    least : {g h : List ℕ} → Follows G old es g → Follows G old es h → (c : ℕ) → c < length old → root_of h c ≤ root_of g c
    least {g} {h} f k c l =
        let r = root_of g c in
        let b : root_of g c ≤ c = root_below g f.down c in
        let i : r < length old = omega arith in
        let e = k.grouped r c i l (f.chained r c i l (root_self g f.down r (root_is g f.down c))) in
        let m : root_of h r ≤ r = root_below h k.down r in
        omega (arith, e)

    pub follows_roots : {g h : List ℕ} → Follows G old es g → Follows G old es h → (c : ℕ) → c < length old → root_of g c ≡ root_of h c
    follows_roots {g} {h} f k c l =
        let a : root_of h c ≤ root_of g c = least f k c l in
        let b : root_of g c ≤ root_of h c = least k f c l in
        omega arith

  -- one edge more
  module _ (g h : List ℕ) (x : E) (es : List E) (i : G.one x < length old) (k : G.other x < length old)
      (j : Joined g (G.one x) (G.other x) h) (f : Follows G old es g) where
    wide : {a b : ℕ} → Chain S es a b → Chain S (x ∷ es) a b
    wide c = mono (λ y m. in_Tail m) c

    to : (a b : ℕ) → a < length old → b < length old → ByJoin g (G.one x) (G.other x) a b
        → Chain S (x ∷ es) (root_of old a) (root_of old b)
    to a b p q (inl s) = wide (f.chained a b p q s)
    to a b p q (inr (inl (s, t))) = ◌then◌ (wide (f.chained a _ p i s)) (forth x (in_head refl) refl (wide (f.chained _ b k q t)))
    to a b p q (inr (inr (s, t))) = ◌then◌ (wide (f.chained a _ p k s)) (back x (in_head refl) refl (wide (f.chained _ b i q t)))

    from : (a b : ℕ) → a < length old → b < length old → OneEdge S x es (root_of old a) (root_of old b)
        → ByJoin g (G.one x) (G.other x) a b
    from a b p q (without c) = inl (f.grouped a b p q c)
    from a b p q (over c e) = inr (inl (f.grouped a (G.one x) p i c, f.grouped (G.other x) b k q e))
    from a b p q (across c e) = inr (inr (f.grouped a (G.other x) p k c, f.grouped (G.one x) b i q e))

    pub follows_more : Follows G old (x ∷ es) h
    follows_more =
        record {
          down = j.down;
          chained = λ a b p q s. to a b p q (same_joined g h (G.one x) (G.other x) j a b s);
          grouped = λ a b p q c. joined_same g h (G.one x) (G.other x) j a b (from a b p q (by-one_edge x c));
        }

    -- at the list's end: only the members of the list matter
    pub follows_next : Follows G old (es ++ (x ∷ [])) h
    follows_next =
        record {
          down = j.down;
          chained = λ a b p q s. mono (λ y m. last y (in-cases m)) (follows_more.chained a b p q s);
          grouped = λ a b p q c. follows_more.grouped a b p q (mono (λ y m. first y (in-append es m)) c);
        }
      where
        last : (y : E) → (y ≡ x) ⊎ (y ∈ es) → y ∈ es ++ (x ∷ [])
        last y (inl e) = in_right es (in_head e)
        last y (inr m) = in_left (x ∷ []) m

        first : (y : E) → (y ∈ es) ⊎ (y ∈ x ∷ []) → y ∈ x ∷ es
        first y (inl m) = in_Tail m
        first y (inr m) = in_head (in-only m)
