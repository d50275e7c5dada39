-- One pair more. It is no lower than those before. Where its labels are in two groups, the greater root is hung under the lesser: pairs no
-- higher join the two, and no lower pairs join the greater with label 0, for such pairs were all met and left them in two groups. What was
-- noted before stays true, since the new pair is no lower than any that is noted.
-- Assumes nothing.
use mathlib.Core.List.Memᴰ.{append_cases as in-append}
use mathlib.Core.List.Memᴰ.{eq_of_singleton as in-only}
use mathlib.Core.List.Memᴰ.{head as in_head}
use mathlib.Core.List.{[], List}
use mathlib.Core.List.Memᴰ.{append_left as in_left}
use mathlib.Core.List.Memᴰ.{append_right as in_right}
use mathlib.Core.List.{◌++◌, ◌∷◌}
use mathlib.Core.Logic.{inl, inr, ◌⊎◌}
use mathlib.Core.Path.{ap, refl, subst, sym, ◌∙◌, ◌≡◌}
use Prim.Native.Nat.{max, min, ℕ, ◌+◌, ◌<◌, ◌≤◌}
use native.Mathlib.Numerals.{add-one}
use native.Mathlib.Omega.{arith}
use lib.ListN.{length, take}
use lib.Seq.{get_or-set_other, get_or-set_same, take-suc}
use Rattle.groups.proofs.Following.{follows_next}
use Rattle.groups.proofs.Roots.{root_below}
use Rattle.groups.specs.Groups.{Down, Joined, root_of}
use Rattle.lists.proofs.At.{at_member, at-place-take}
use Rattle.lists.proofs.Tests.{eq_or_ne, lt_or_ge}
use Rattle.lists.specs.Lists.{at, ◌∈◌}
use Rattle.pairs.specs.Pairs.{pair_height}
use Rattle.rules.proofs.Chains.{mono, turned, ◌then◌}
use Rattle.rules.specs.Chain.{Chain, Edges, forth}
use Rattle.spills.proofs.MergedRoots.{greater_hung, greater-root, root_again, root_stays, root_stays_one, root-was}
use Rattle.spills.proofs.Noted.{noted-length, noted_one, noted-two}
use Rattle.spills.proofs.Under.{group_joins, joins_group, label_in_lem, labels_small, Small, take_member, under_holds, under_member}
use Rattle.spills.specs.Noting.{Hung, no_note, noted, note_of, Noting}
use Rattle.spills.specs.Spills.{label_edges, Spilling, under}

module _ {w : ℕ} {heights labels list : List ℕ} (S : Spilling w heights labels list) (i : ℕ) (l : i < length list) where
  abbrev G : Edges ℕ
  G = label_edges w labels

  abbrev high : ℕ → ℕ
  high p = pair_height w heights p

  abbrev met : List ℕ
  met = take i list

  abbrev p : ℕ
  p = at list i

  abbrev met' : List ℕ
  met' = met ++ (p ∷ [])

  p_in : p ∈ list
  p_in = at_member list i l

  met_small : Small w labels met
  met_small q m = labels_small S q (take_member i list m)

  -- the new pair is no lower than any before
  below : {q : ℕ} → q ∈ met → high q ≤ high p
  below m = let (j, k, o, e) = at-place-take i list m in subst (λ (q : ℕ). high q ≤ high p) (sym e) (S.climbs j i k l)

  -- a pair lower than one that is no higher than the new one isn't the new one
  older : (k m : ℕ) {q : ℕ} → k ≤ high p → m < k → q ∈ under w heights met' m → q ∈ under w heights met m
  older k m {q} h n u = go (in-append met (under_member w heights met' m u).0)
    where
      low : high q ≤ m
      low = (under_member w heights met' m u).1

      go : (q ∈ met) ⊎ (q ∈ p ∷ []) → q ∈ under w heights met m
      go (inl x) = under_holds w heights met m x low
      go (inr x) = let e : high q ≡ high p = ap high (in-only x) in absurd (omega (arith, low))

  -- what was noted before is still true
  still : {b note : ℕ} → Hung w heights labels met b note → Hung w heights labels met' b note
  still H =
      record {
        pair = H.pair;
        parent = H.parent;
        says = H.says;
        met = in_left (p ∷ []) H.met;
        lesser = H.lesser;
        way =
            mono (λ q u. under_holds w heights met' (high H.pair) (in_left (p ∷ []) (under_member w heights met (high H.pair) u).0)
            (under_member w heights met (high H.pair) u).1) H.way;
        apart = λ m h c. H.apart m h (mono (λ q u. older (high H.pair) m (below H.met) h u) c);
      }

  module _ {g notes : List ℕ} (Q : Noting w heights labels met g notes) where
    d : Down g
    d = Q.groups.down

    abbrev a : ℕ
    a = G.one p

    abbrev b : ℕ
    b = G.other p

    abbrev r : ℕ
    r = root_of g a

    abbrev s : ℕ
    s = root_of g b

    small_a : a ≤ 4096
    small_a = (labels_small S p p_in).0

    small_b : b ≤ 4096
    small_b = (labels_small S p p_in).1

    small_r : r ≤ 4096
    small_r = omega (arith, small_a, root_below g d a)

    small_s : s ≤ 4096
    small_s = omega (arith, small_b, root_below g d b)

    -- the new pair and those before it are no higher than it
    wide : {x y : ℕ} → Chain G met x y → Chain G (under w heights met' (high p)) x y
    wide c = mono (λ q m. under_holds w heights met' (high p) (in_left (p ∷ []) m) (below m)) c

    -- they join the two roots
    across : Chain G (under w heights met' (high p)) r s
    across =
        wide (group_joins w labels met met_small Q.groups r a small_r small_a (root_again g d a))
        then forth p (under_holds w heights met' (high p) (in_right met (in_head refl)) (omega arith)) refl
        (wide (group_joins w labels met met_small Q.groups b s small_b small_s (sym (root_again g d b))))

    -- no lower pairs join a root above 0 with 0
    no_way : (x : ℕ) → 0 < x → x ≤ 4096 → root_of g x ≡ x → (m : ℕ) → m < high p → Chain G (under w heights met' m) x 0 → ⊥
    no_way x h k e m n c =
        let e' = joins_group w labels met met_small Q.groups x 0 k (omega arith)
        (mono (λ q u. (under_member w heights met m (older (high p) m (omega arith) n u)).0) c) in
        let z : root_of g 0 ≤ 0 = root_below g d 0 in
        omega (arith, e, e')

    -- the greater root, hung under the lesser
    hung_by : (x y : ℕ) → y < x → x ≤ 4096 → root_of g x ≡ x → Chain G (under w heights met' (high p)) x y
        → Hung w heights labels met' x (note_of p y)
    hung_by x y h k e c =
        record {
          pair = p;
          parent = y;
          says = refl;
          met = in_right met (in_head refl);
          lesser = h;
          way = c;
          apart = no_way x (omega arith) k e;
        }

    abbrev hi : ℕ
    hi = max r s

    abbrev lo : ℕ
    lo = min r s

    new_hung : (r ≡ s → ⊥) → Hung w heights labels met' hi (note_of p lo)
    new_hung n = hung_by hi lo (omega (arith, n)) (omega (arith, small_r, small_s)) (greater-root g d a b) (go (lt_or_ge r s))
      where
        go : (r < s) ⊎ (s ≤ r) → Chain G (under w heights met' (high p)) (max r s) (min r s)
        go (inl h) =
            let m : max r s ≡ s = omega arith in
            let k : min r s ≡ r = omega arith in
            rw (m, k) (turned across)
        go (inr h) =
            let m : max r s ≡ r = omega arith in
            let k : min r s ≡ s = omega arith in
            rw (m, k) across

    module _ {h : List ℕ} (J : Joined g a b h) where
      abbrev noted' : List ℕ
      noted' = noted g a b p notes

      -- two groups: the greater root has its note now, and every other label what it had
      module _ (n : r ≡ s → ⊥) where
        at_hi : at noted' hi ≡ note_of p lo
        at_hi = ap (λ (l : List ℕ). at l hi) (noted-two g a b p notes n) ∙ get_or-set_same notes hi (note_of p lo) 0 (omega (arith, small_r, small_s, Q.room))

        at_other : (x : ℕ) → (x ≡ hi → ⊥) → at noted' x ≡ at notes x
        at_other x o = ap (λ (l : List ℕ). at l x) (noted-two g a b p notes n) ∙ get_or-set_other notes hi x (note_of p lo) 0 o

        two_roots : (x : ℕ) → x ≤ 4096 → root_of h x ≡ x → at noted' x ≡ no_note
        two_roots x k e = at_other x not_hi ∙ Q.roots x k (root-was g d a b J x e)
          where
            not_hi : x ≡ hi → ⊥
            not_hi o = n (let f = sym (greater_hung g d a b J) ∙ ap (root_of h) (sym o) ∙ e ∙ o in omega (arith, f))

        two_hung : (x : ℕ) → x ≤ 4096 → (root_of h x ≡ x → ⊥) → (x ≡ hi) ⊎ (x ≡ hi → ⊥) → Hung w heights labels met' x (at noted' x)
        two_hung x k z (inl o) = subst (λ (y : ℕ). Hung w heights labels met' y (at noted' y)) (sym o) (rw at_hi (new_hung n))
        two_hung x k z (inr o) = rw (at_other x o) (still (Q.hung x k (λ e. z (root_stays g d a b J x o e))))

      next_roots : (r ≡ s) ⊎ (r ≡ s → ⊥) → (x : ℕ) → x ≤ 4096 → root_of h x ≡ x → at noted' x ≡ no_note
      next_roots (inl e) x k f = ap (λ (l : List ℕ). at l x) (noted_one g a b p notes e) ∙ Q.roots x k (root-was g d a b J x f)
      next_roots (inr n) x k f = two_roots n x k f

      next_hung : (r ≡ s) ⊎ (r ≡ s → ⊥) → (x : ℕ) → x ≤ 4096 → (root_of h x ≡ x → ⊥) → Hung w heights labels met' x (at noted' x)
      next_hung (inl e) x k z = rw (noted_one g a b p notes e) (still (Q.hung x k (λ f. z (root_stays_one g d a b J e x f))))
      next_hung (inr n) x k z = two_hung n x k z (eq_or_ne x hi)

      pub noting_next : {next : List ℕ} → length h ≡ length g → next ≡ noted g a b p notes → Noting w heights labels (take (i + 1) list) h next
      noting_next e n =
          rw (ap (λ (k : ℕ). take k list) (add-one i) ∙ take-suc list i 0 l, n) (record {
            sized = e ∙ Q.sized;
            room = omega (arith, Q.room, noted-length g a b p notes);
            groups = follows_next G _ g h p met (label_in_lem a small_a) (label_in_lem b small_b) J Q.groups;
            roots = next_roots (eq_or_ne r s);
            hung = next_hung (eq_or_ne r s);
          })
