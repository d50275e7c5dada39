-- After all pairs of neighbouring cells of a set: what the lists say are the notes of the set.
-- Assumes nothing.
use mathlib.Core.Bool.{true}
use mathlib.Core.List.{List}
use mathlib.Core.Path.{ap, refl, subst, sym, ◌∙◌, ◌≡◌}
use Prim.Native.Nat.{ℕ, ◌<◌, ◌≤◌}
use native.Mathlib.Omega.{arith}
use lib.Dec.{eqb}
use lib.ListN.{length}
use borrow.Author.Tests.{eq-eqb, eqb-true, lt-ltb}
use Rattle.groups.proofs.Roots.{root_step}
use Rattle.groups.specs.Groups.{root_of, SameGroup}
use Rattle.lake_notes.proofs.Chains.{group_joins, joins_group}
use Rattle.lake_notes.proofs.Cuts.{cut_at, cut-root}
use Rattle.lake_notes.specs.Meeting.{cut, Lists, Sized, SoFar}
use Rattle.lake_rules.proofs.Flagging.{pass_flags}
use Rattle.lake_rules.proofs.Joining.{OnLand, Touching}
use Rattle.lake_rules.proofs.Lower.{lower_mem, mem_lower}
use Rattle.lake_rules.proofs.PairChains.{from-under, to-under}
use Rattle.lake_rules.proofs.PairsBelow.{below_in}
use Rattle.lake_rules.specs.Groups.{lower, Touch, touches, touching}
use Rattle.lake_rules.specs.Notes.{Flagged, Forest, highest, Notes, root_at}
use Rattle.lake_rules.specs.Passing.{Joins, pairs_below}
use Rattle.lists.proofs.Any.{any_holds, any_member}
use Rattle.lists.specs.Lists.{any, at, ◌∈◌}
use Rattle.rules.proofs.Labels.{Within}
use Rattle.rules.specs.Chain.{back, forth, here}
use Rattle.rules.specs.Land.{Land}

module _ (L : Land) (S : List ℕ) (on : OnLand L S) {es : List Touch} {l : Lists} (F : SoFar L es l)
    (only : (x : Touch) → x ∈ es → Touching L S x) (all : (x : Touch) → x ∈ touches L S → x ∈ es) where
  abbrev n : ℕ
  n = L.cells

  abbrev flagged : List ℕ
  flagged = F.flags_tell.flagged

  abbrev low : ℕ → List ℕ
  low h = cut n l.parents l.joins h

  -- the cells that the pass flagged are those with a 1
  flags_right : Flagged L S (λ c. eqb (at l.flags c) 1)
  flags_right =
      record {
        sound = λ c m t. R.sound c m (from c (F.flags_tell.only c (on c m) (eqb-true _ _ t)));
        complete = λ h t a b k i j u z.
            let (c, m, f, g, v) = R.complete h t a b k i j u z in
            (c, m, eq-eqb _ _ (F.flags_tell.all c (to c f)), g, v);
      }
    where
      to : (c : ℕ) → any (eqb c) flagged ≡ true → c ∈ flagged
      to c t =
          let (d, m, e) = any_member (eqb c) flagged t in
          subst (λ (z : ℕ). z ∈ flagged) (sym (eqb-true c d e)) m

      from : (c : ℕ) → c ∈ flagged → any (eqb c) flagged ≡ true
      from c m = any_holds (eqb c) m (eq-eqb c c refl)

      R : Flagged L S (λ c. any (eqb c) flagged)
      R = pass_flags L S on F.flags_tell.passed only all (λ c. any (eqb c) flagged) to from

  module _ (h : ℕ) where
    on_below : Within touching n (pairs_below L h es)
    on_below x m = F.on_land x (below_in L h es m).0

    cell_on : {c : ℕ} → c ∈ lower L h S → c < n
    cell_on m = on _ (mem_lower L h S m).0

    -- a chain of pairs below h from a lower cell ends at one
    ends_lower : {a b : ℕ} → a ∈ lower L h S → Joins L (pairs_below L h es) a b → b ∈ lower L h S
    ends_lower m (here e) = subst (λ (z : ℕ). z ∈ lower L h S) e m
    ends_lower m (forth x i e c) =
        let (k, t) = below_in L h es i in ends_lower (lower_mem L h (only x k).other_in (omega arith)) c
    ends_lower m (back x i e c) =
        let (k, t) = below_in L h es i in ends_lower (lower_mem L h (only x k).one_in (omega arith)) c

    ends_joined : {a b : ℕ} → a < n → b < n → root_at l.parents l.joins h a ≡ root_at l.parents l.joins h b
        → Joins L (pairs_below L h es) a b
    ends_joined {a} {b} i j e =
        let r = cut-root n l.parents l.joins h (F.cuts h).down in
        group_joins on_below (F.cuts h) a b i j (r a i ∙ e ∙ sym (r b j))

    joined_ends : {a b : ℕ} → a < n → b < n → Joins L (pairs_below L h es) a b
        → root_at l.parents l.joins h a ≡ root_at l.parents l.joins h b
    joined_ends {a} {b} i j c =
        let r = cut-root n l.parents l.joins h (F.cuts h).down in
        sym (r a i) ∙ joins_group on_below (F.cuts h) a b i j c ∙ r b j

    -- a cell that joined its parent lower than h is in one group with it there
    with_parent : (c : ℕ) → c < n → at l.joins c < h → SameGroup (low h) c (at l.parents c)
    with_parent c i j =
        let e : at (low h) c ≡ at l.parents c = cut_at n l.parents l.joins h c i ∙ rw (lt-ltb (at l.joins c) h j) in
        sym (root_step (low h) (F.cuts h).down c) ∙ ap (root_of (low h)) e

    lower_parent : (c : ℕ) → h ≤ highest → c ∈ lower L h S → at l.joins c < h → at l.parents c ∈ lower L h S
    lower_parent c k m j =
        let i = cell_on m in
        let p : at l.parents c < c = F.parent_less c i (omega arith) in
        ends_lower m (group_joins on_below (F.cuts h) c (at l.parents c) i (omega arith) (with_parent c i j))

  forest_right : Forest L S l.parents l.joins
  forest_right =
      record {
        parent_less = λ c m. F.parent_less c (on c m);
        parent_lower = λ h c k. lower_parent h c k;
        chained = λ h a b k i j e. to-under L S only h (ends_joined h (cell_on h i) (cell_on h j) e);
        grouped = λ h a b k i j u. joined_ends h (cell_on h i) (cell_on h j) (from-under L S all h u);
      }

  pub notes_of : (heights : List ℕ) → length heights ≤ 4096 → L.cells ≡ length heights → ((c : ℕ) → L.height c ≡ at heights c)
      → Sized (length heights) l → Notes L S heights l.flags l.parents l.joins
  notes_of heights few cells ground size =
      record {
        few = few;
        cells = cells;
        ground = ground;
        on_land = on;
        flags_fit = size.flags_fit;
        parents_fit = size.parents_fit;
        joins_fit = size.joins_fit;
        flagged = flags_right;
        forest = forest_right;
      }
