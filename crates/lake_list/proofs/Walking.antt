-- The walk over lakes that stand one after the other: what a turn finds, what it leaves, and how the walk ends.
-- Assumes nothing.
use mathlib.Core.List.Memᴰ.{append_cases as in-append}
use mathlib.Core.List.Memᴰ.{eq_of_singleton as in-only}
use mathlib.Core.List.{[], append_assoc, append-nil, List, map, ◌++◌}
use mathlib.Core.List.Memᴰ.{append_right as in_right}
use mathlib.Core.List.Memᴰ.{head as in_head}
use mathlib.Core.List.Memᴰ.{not-nil as in-none}
use mathlib.Core.List.{◌∷◌}
use mathlib.Core.Logic.{inl, inr, ◌⊎◌}
use mathlib.Core.Path.{ap, refl, subst, sym, ◌∙◌, ◌≡◌}
use Prim.Native.Nat.{suc, ℕ, ◌*◌, ◌+◌, ◌-◌, ◌<◌, ◌≤◌}
use native.Mathlib.Numerals.{add-one}
use native.Mathlib.Omega.{arith}
use lib.ListN.{drop, length, length-append, length-drop, take}
use lib.Seq.{drop_at, drop-drop, sets, take_at}
use Rattle.lake_groups.specs.Gathering.{Ends}
use Rattle.lake_list.proofs.Storing.{back_at, back-drop, stored_next}
use Rattle.lake_list.specs.Listing.{NotedLakes}
use Rattle.lake_list.specs.Rows.{row_of}
use Rattle.lake_rules.specs.Lakes.{depth, Lake, lakes_of}
use Rattle.lists.proofs.Flat.{flat_append}
use Rattle.lists.specs.Lists.{at, flat, ◌∈◌}
use Rattle.lake_list.specs.declared.Row.{Row}

-- the ends of n lists read only n entries
ends_same : (gs : List (List ℕ)) (a x : ℕ) (ends new : List ℕ) → ((i : ℕ) → i < x + length gs → at new i ≡ at ends i) → Ends gs a x ends → Ends gs a x new
ends_same [] a x ends new same e = tt
ends_same (g ∷ gs) a x ends new same e =
    (same x (omega arith) ∙ e.0, ends_same gs (a + length g) (suc x) ends new (λ i l. same i (omega arith)) e.1)

module _ {heights flags parents joins : List ℕ} {level_of : List ℕ → ℕ} {cells₀ ends₀ : List ℕ} {count : ℕ}
    (K : NotedLakes heights flags parents joins level_of cells₀ ends₀ count) (left from : ℕ) (old : List Row) where
  -- what is listed of a lake, and how deep it is
  abbrev pub lakes_at : List ℕ → List Lake
  lakes_at g = lakes_of K.land (level_of g) g

  abbrev pub deep_at : List ℕ → ℕ
  deep_at g = depth K.land (level_of g) g

  abbrev cells_of : List (List ℕ) → List ℕ
  cells_of gs = flat (λ g. g) gs

  -- the lakes before lake x are listed; the others stand as they did
  pub record Walked (cells ends : List ℕ) (new : List Row) (x next : ℕ) : Type 0 where
    pub behind : List (List ℕ)
    pub ahead : List (List ℕ)
    pub all : K.gs ≡ behind ++ ahead
    pub turns : x ≡ length behind
    pub start_is : at ends x ≡ at ends₀ 0 + length (cells_of behind)
    pub cells_left : drop (at ends x) cells ≡ cells_of ahead ++ K.rest
    pub ends_left : Ends ahead (at ends x) (suc x) ends
    pub next_is : next ≡ from + length (flat lakes_at behind)
    pub next_fits : next ≤ from + length (cells_of behind)
    pub written : new ≡ sets old from (map row_of (flat lakes_at behind))
    pub shallow : (g : List ℕ) → g ∈ behind → deep_at g ≤ left

  -- before the first turn
  pub walk_starts : Walked cells₀ ends₀ old 0 from
  walk_starts =
      record {
        behind = [];
        ahead = K.gs;
        all = refl;
        turns = refl;
        start_is = omega arith;
        cells_left = K.cells_are;
        ends_left = K.ends_are;
        next_is = omega arith;
        next_fits = omega arith;
        written = refl;
        shallow = λ g m. absurd (in-none m);
      }

  module _ {cells ends : List ℕ} {new : List Row} {x next : ℕ} (W : Walked cells ends new x next) where
    -- the lake of a turn
    pub record Turn : Type 0 where
      pub g : List ℕ
      pub more : List (List ℕ)
      pub is : W.ahead ≡ g ∷ more
      pub member : g ∈ K.gs
      pub some : 0 < length g
      pub last : x + 1 + length more ≡ count
      pub end_is : at ends (x + 1) ≡ at ends x + length g
      pub end_fits : at ends x + length g ≤ length cells
      pub start_fits : next + at ends₀ 0 ≤ from + at ends x
      pub ends_fit : count + 1 + 2 * length g ≤ length ends₀
      pub part_is : take (at ends (x + 1) - at ends x) (drop (at ends x) cells) ≡ g

    sizes : (z : List (List ℕ)) → K.gs ≡ W.behind ++ z → count ≡ x + length z
    sizes z e =
        let a : length K.gs ≡ length W.behind + length z = ap length e ∙ length-append W.behind z in
        omega (arith, K.count_is, W.turns)

    -- while x is below the count, there is one
    pub turn : x < count → Turn
    turn h = go W.ahead refl W.all W.cells_left W.ends_left
      where
        go : (z : List (List ℕ)) → W.ahead ≡ z → K.gs ≡ W.behind ++ z → drop (at ends x) cells ≡ cells_of z ++ K.rest
            → Ends z (at ends x) (suc x) ends
            → Turn
        go [] i e d t = absurd (omega (arith, sizes [] e))
        go (g ∷ more) i e d t =
            let m : g ∈ K.gs = subst (λ (z : List (List ℕ)). g ∈ z) (sym e) (in_right W.behind (in_head refl)) in
            let s : 0 < length g = (K.lakes g m).some in
            let d' : drop (at ends x) cells ≡ g ++ (cells_of more ++ K.rest) = d ∙ append_assoc g (cells_of more) K.rest in
            let n : length cells - at ends x ≡ length g + length (cells_of more ++ K.rest) =
            sym (length-drop (at ends x) cells) ∙ ap length d' ∙ length-append g (cells_of more ++ K.rest) in
            let b : at ends (x + 1) ≡ at ends x + length g = ap (at ends) (add-one x) ∙ t.0 in
            record {
              g = g;
              more = more;
              is = i;
              member = m;
              some = s;
              last = omega (arith, sizes (g ∷ more) e);
              end_is = b;
              end_fits = omega arith;
              start_fits = omega (arith, W.next_fits, W.start_is);
              ends_fit = K.ends_fit g m;
              part_is =
                  ap (take (at ends (x + 1) - at ends x)) d'
                  ∙ take_at g (cells_of more ++ K.rest) (at ends (x + 1) - at ends x) (omega arith);
            }

    module _ (T : Turn) {new' : List Row} {next' : ℕ} where
      -- it was listed
      pub turn_done : (back z : List ℕ) {rest : ℕ} → rest ≡ count + 1 → rest ≤ length ends
          → length back ≡ length T.g
          → deep_at T.g ≤ left
          → next' ≡ next + length (lakes_at T.g)
          → length (lakes_at T.g) ≤ length T.g
          → new' ≡ sets new next (map row_of (lakes_at T.g))
          → Walked (take (at ends x) cells ++ (back ++ drop (at ends (x + 1) - at ends x) (drop (at ends x) cells))) (take rest ends ++ z) new' (x + 1) next'
      turn_done back z {rest} r q p d n f w =
          let a : ℕ = at ends x in
          let b : ℕ = at ends (x + 1) in
          let E : b ≡ a + length T.g = T.end_is in
          let F : a + length T.g ≤ length cells = T.end_fits in
          let at_end : at (take rest ends ++ z) (x + 1) ≡ b = back_at ends rest z q (x + 1) (omega (arith, T.last)) in
          let more : flat lakes_at (W.behind ++ (T.g ∷ [])) ≡ flat lakes_at W.behind ++ lakes_at T.g =
          flat_append lakes_at W.behind (T.g ∷ []) ∙ ap (λ (l : List Lake). flat lakes_at W.behind ++ l) (append-nil (lakes_at T.g)) in
          let wide : length (cells_of (W.behind ++ (T.g ∷ []))) ≡ length (cells_of W.behind) + length T.g =
          ap length (flat_append (λ g. g) W.behind (T.g ∷ []) ∙ ap (λ (l : List ℕ). cells_of W.behind ++ l) (append-nil T.g))
          ∙ length-append (cells_of W.behind) T.g in
          record {
            behind = W.behind ++ (T.g ∷ []);
            ahead = T.more;
            all = W.all ∙ ap (λ (l : List (List ℕ)). W.behind ++ l) T.is ∙ sym (append_assoc W.behind (T.g ∷ []) T.more);
            turns = omega (arith, W.turns, length-append W.behind (T.g ∷ []));
            start_is = at_end ∙ (let s = W.start_is in omega arith);
            cells_left =
                ap (λ (i : ℕ). drop i (take a cells ++ (back ++ drop (b - a) (drop a cells)))) at_end
                ∙ back-drop cells a b back (omega arith) (omega arith) (omega arith)
                ∙ ap (λ (i : ℕ). drop i cells) E
                ∙ sym (drop-drop (length T.g) a cells)
                ∙ ap (drop (length T.g))
                (W.cells_left ∙ ap (λ (l : List (List ℕ)). cells_of l ++ K.rest) T.is ∙ append_assoc T.g (cells_of T.more) K.rest)
                ∙ drop_at T.g (cells_of T.more ++ K.rest) (length T.g) refl;
            ends_left =
                ends_same T.more (at (take rest ends ++ z) (x + 1)) (suc (x + 1)) ends (take rest ends ++ z)
                (λ i l. back_at ends rest z q i (omega (arith, T.last)))
                (rw (at_end, E, add-one) (subst (λ (l : List (List ℕ)). Ends l a (suc x) ends) T.is W.ends_left).1);
            next_is = omega (arith, W.next_is, ap length more, length-append (flat lakes_at W.behind) (lakes_at T.g));
            next_fits = omega (arith, W.next_fits);
            written =
                w ∙ stored_next old from (flat lakes_at W.behind) (lakes_at T.g) W.written W.next_is
                ∙ ap (λ (l : List Lake). sets old from (map row_of l)) (sym more);
            shallow = λ g m. one g (in-append W.behind m);
          }
        where
          one : (g : List ℕ) → (g ∈ W.behind) ⊎ (g ∈ T.g ∷ []) → deep_at g ≤ left
          one g (inl m) = W.shallow g m
          one g (inr m) = subst (λ (l : List ℕ). deep_at l ≤ left) (sym (in-only m)) d

    -- after the last turn all are listed
    pub walk_all : count ≤ x → K.gs ≡ W.behind
    walk_all h = go W.ahead W.all
      where
        go : (z : List (List ℕ)) → K.gs ≡ W.behind ++ z → K.gs ≡ W.behind
        go [] e = e ∙ append-nil W.behind
        go (g ∷ more) e = absurd (omega (arith, sizes (g ∷ more) e))
