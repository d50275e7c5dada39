-- Two groups become one: the greater root hung under the lesser, and who is in one group afterwards.
-- Assumes nothing.
use mathlib.Core.List.{List}
use mathlib.Core.Logic.{inl, inr, ◌⊎◌}
use mathlib.Core.Path.{ap, refl, sym, ◌∙◌, ◌≡◌}
use Prim.Native.Nat.{max, min, ℕ, ◌<◌, ◌≤◌}
use native.Mathlib.Nat.{le_refl, min_comm, min-eq_left}
use native.Mathlib.Omega.{arith}
use lib.Dec.{eqb}
use lib.ListN.{length, set}
use borrow.Author.Tests.{eq-eqb, ne_eqb}
use Rattle.groups.proofs.Roots.{down_set, root_below, root_is, root_self, root_step, roots-set}
use Rattle.groups.specs.Groups.{Down, Joined, merged, Root, root_of, SameGroup, SameGroups, two_groups}
use Rattle.lists.proofs.Tests.{eq_or_ne, lt_or_ge, or_right}
use Rattle.lists.specs.Lists.{at}

pub merged-left : (p q : ℕ) → merged p q p ≡ min p q
unfolding merged
merged-left p q = simp (eq-eqb p p refl)

pub merged-right : (p q : ℕ) → merged p q q ≡ min p q
unfolding merged
merged-right p q = rw (or_right (eqb q p) (eqb q q) (eq-eqb q q refl))

merged_else : (p q r : ℕ) → (r ≡ p → ⊥) → (r ≡ q → ⊥) → merged p q r ≡ r
unfolding merged
merged_else p q r a b = simp (ne_eqb r p a, ne_eqb r q b)

-- where r stands to the two roots
pub data Place (p q r : ℕ) : Type 0 where
  first : r ≡ p → Place p q r
  second : r ≡ q → Place p q r
  other : merged p q r ≡ r → (r ≡ p → ⊥) → (r ≡ q → ⊥) → Place p q r

pub place : (p q r : ℕ) → Place p q r
place p q r = go (eq_or_ne r p) (eq_or_ne r q)
  where
    go : (r ≡ p) ⊎ (r ≡ p → ⊥) → (r ≡ q) ⊎ (r ≡ q → ⊥) → Place p q r
    go (inl e) k = first e
    go (inr e) (inl f) = second f
    go (inr e) (inr f) = other (merged_else p q r e f) e f

-- a group with itself
merged-one : (p r : ℕ) → merged p p r ≡ r
merged-one p r = go (place p p r)
  where
    go : Place p p r → merged p p r ≡ r
    go (first e) = ap (merged p p) e ∙ merged-left p p ∙ min-eq_left (le_refl p) ∙ sym e
    go (second e) = ap (merged p p) e ∙ merged-right p p ∙ min-eq_left (le_refl p) ∙ sym e
    go (other m n o) = m

merged_comm : (p q r : ℕ) → merged p q r ≡ merged q p r
merged_comm p q r = go (place p q r)
  where
    go : Place p q r → merged p q r ≡ merged q p r
    go (first e) = ap (merged p q) e ∙ merged-left p q ∙ min_comm p q ∙ sym (merged-right q p) ∙ ap (merged q p) (sym e)
    go (second e) = ap (merged p q) e ∙ merged-right p q ∙ min_comm p q ∙ sym (merged-left q p) ∙ ap (merged q p) (sym e)
    go (other m n o) = m ∙ sym (merged_else q p r o n)

-- the greater root hung under the lesser
module _ (g : List ℕ) (d : Down g) (lo hi : ℕ) (l : lo ≤ hi) (h : hi < length g) (el : at g lo ≡ lo) (eh : at g hi ≡ hi) where
  stays : (x : ℕ) → (x ≡ hi → ⊥) → (x ≡ lo) ⊎ (x ≡ lo → ⊥) → merged lo hi x ≡ x
  stays x n (inl e) = ap (merged lo hi) e ∙ merged-left lo hi ∙ min-eq_left l ∙ sym e
  stays x n (inr e) = merged_else lo hi x e n

  hung : (x : ℕ) → root_of (set g hi lo) x ≡ merged (root_of g lo) (root_of g hi) (root_of g x)
  hung x =
      roots-set g d hi lo h l (λ y. merged lo hi (root_of g y))
      (λ y n e. ap (merged lo hi) (root_self g d y e) ∙ stays y n (eq_or_ne y lo))
      (λ e. ap (merged lo hi) (root_self g d hi eh) ∙ merged-right lo hi ∙ min-eq_left l ∙ e)
      (λ y n. ap (merged lo hi) (root_step g d y))
      (ap (merged lo hi) (root_self g d lo el)
      ∙ merged-left lo hi
      ∙ sym (merged-right lo hi)
      ∙ ap (merged lo hi) (sym (root_self g d hi eh)))
      x
      ∙ ap (λ (n : ℕ). merged n hi (root_of g x)) (sym (root_self g d lo el))
      ∙ ap (λ (n : ℕ). merged (root_of g lo) n (root_of g x)) (sym (root_self g d hi eh))

  pub hung_under : Joined g lo hi (set g hi lo)
  hung_under = record { down = down_set g hi lo d h l; roots = hung }

  pub hung_over : Joined g hi lo (set g hi lo)
  hung_over = record { down = down_set g hi lo d h l; roots = λ x. hung x ∙ merged_comm (root_of g lo) (root_of g hi) (root_of g x) }

-- whichever of two roots is the greater
pub hung_greater : (g : List ℕ) → Down g → (p q : ℕ) → Root g p → Root g q → Joined g p q (set g (max p q) (min p q))
hung_greater g d p q i o = go (lt_or_ge p q)
  where
    go : (p < q) ⊎ (q ≤ p) → Joined g p q (set g (max p q) (min p q))
    go (inl l) =
        let m : min p q ≡ p = omega arith in
        let n : max p q ≡ q = omega arith in
        rw (m, n) (hung_under g d p q (omega arith) o.0 i.1 o.1)
    go (inr l) =
        let m : min p q ≡ q = omega arith in
        let n : max p q ≡ p = omega arith in
        rw (m, n) (hung_over g d q p (omega arith) i.0 o.1 i.1)

-- a and b in one group after a join: in one before, or each with one of the two joined
abbrev pub ByJoin : List ℕ → ℕ → ℕ → ℕ → ℕ → Type 0
ByJoin g a b x y = SameGroup g x y ⊎ ((SameGroup g x a × SameGroup g b y) ⊎ (SameGroup g x b × SameGroup g a y))

pub min-one : (p q : ℕ) → (min p q ≡ p) ⊎ (min p q ≡ q)
min-one p q = go (lt_or_ge p q)
  where
    go : (p < q) ⊎ (q ≤ p) → (min p q ≡ p) ⊎ (min p q ≡ q)
    go (inl h) = inl (omega arith)
    go (inr h) = inr (omega arith)

same_merged : (p q r s : ℕ) → merged p q r ≡ merged p q s → (r ≡ s) ⊎ (((r ≡ p) × (q ≡ s)) ⊎ ((r ≡ q) × (p ≡ s)))
same_merged p q r s e = go (place p q r) (place p q s)
  where
    neither : {A : Type 0} {t : ℕ} → min p q ≡ t → (t ≡ p → ⊥) → (t ≡ q → ⊥) → A
    neither {t = t} m a b = pick (min-one p q)
      where
        pick : {B : Type 0} → (min p q ≡ p) ⊎ (min p q ≡ q) → B
        pick (inl f) = absurd (a (sym m ∙ f))
        pick (inr f) = absurd (b (sym m ∙ f))

    go : Place p q r → Place p q s → (r ≡ s) ⊎ (((r ≡ p) × (q ≡ s)) ⊎ ((r ≡ q) × (p ≡ s)))
    go (first a) (first b) = inl (a ∙ sym b)
    go (first a) (second b) = inr (inl (a, sym b))
    go (second a) (first b) = inr (inr (a, sym b))
    go (second a) (second b) = inl (a ∙ sym b)
    go (first a) (other m n o) = neither (sym (merged-left p q) ∙ ap (merged p q) (sym a) ∙ e ∙ m) n o
    go (second a) (other m n o) = neither (sym (merged-right p q) ∙ ap (merged p q) (sym a) ∙ e ∙ m) n o
    go (other m n o) (first b) = neither (sym (merged-left p q) ∙ ap (merged p q) (sym b) ∙ sym e ∙ m) n o
    go (other m n o) (second b) = neither (sym (merged-right p q) ∙ ap (merged p q) (sym b) ∙ sym e ∙ m) n o
    go (other m n o) (other m' n' o') = inl (sym m ∙ e ∙ m')

module _ (g h : List ℕ) (a b : ℕ) (j : Joined g a b h) where
  abbrev one : ℕ → ℕ
  one r = merged (root_of g a) (root_of g b) r

  pub same_joined : (x y : ℕ) → SameGroup h x y → ByJoin g a b x y
  same_joined x y s = same_merged (root_of g a) (root_of g b) (root_of g x) (root_of g y) (sym (j.roots x) ∙ s ∙ j.roots y)

  pub joined_same : (x y : ℕ) → ByJoin g a b x y → SameGroup h x y
  joined_same x y (inl e) = j.roots x ∙ ap one e ∙ sym (j.roots y)
  joined_same x y (inr (inl (e, f))) = j.roots x ∙ ap one e ∙ merged-left _ _ ∙ sym (merged-right _ _) ∙ ap one f ∙ sym (j.roots y)
  joined_same x y (inr (inr (e, f))) = j.roots x ∙ ap one e ∙ merged-right _ _ ∙ sym (merged-left _ _) ∙ ap one f ∙ sym (j.roots y)

-- two searches in g, for a and for b: they found p and q, and left h
pub record Searched (g : List ℕ) (a b : ℕ) (h : List ℕ) (p q : ℕ) : Type 0 where
  pub groups : SameGroups g h
  pub one : p ≡ root_of g a
  pub other : q ≡ root_of g b

pub searched : {g g₁ g₂ : List ℕ} {a b p q : ℕ} → (p ≡ root_of g a) × SameGroups g g₁ → (q ≡ root_of g₁ b) × SameGroups g₁ g₂
    → Searched g a b g₂ p q
searched {b = z} (e, s) (f, t) =
    record {
      groups = record { down = t.down; roots = λ x. t.roots x ∙ s.roots x };
      one = e;
      other = f ∙ s.roots z;
    }

module _ {g : List ℕ} {a b : ℕ} {h : List ℕ} {p q : ℕ} (s : Searched g a b h p q) where
  found_root : (x y : ℕ) → x ≡ root_of g y → y < length h → Root h x
  found_root x y e l =
      let f : x ≡ root_of h y = e ∙ sym (s.groups.roots y) in
      let k : root_of h y ≤ y = root_below h s.groups.down y in
      (omega arith, ap (at h) f ∙ root_is h s.groups.down y ∙ sym f)

  -- what was found are roots
  pub one-root : a < length h → Root h p
  one-root l = found_root p a s.one l

  pub other_root : b < length h → Root h q
  other_root l = found_root q b s.other l

  -- one group already
  pub one_already : p ≡ q → (0 ≡ two_groups g a b) × Joined g a b h
  unfolding two_groups
  one_already e =
      let r : root_of g a ≡ root_of g b = sym s.one ∙ e ∙ s.other in (
        rw (eq-eqb _ _ r),
        record {
          down = s.groups.down;
          roots = λ x.
              s.groups.roots x
              ∙ sym (merged-one (root_of g b) (root_of g x))
              ∙ ap (λ (n : ℕ). merged n (root_of g b) (root_of g x)) (sym r);
        },
      )

  -- two groups, that are joined then
  pub two_joined : (k : List ℕ) → Root h p → Root h q → (p ≡ q → ⊥) → Joined h p q k → (1 ≡ two_groups g a b) × Joined g a b k
  unfolding two_groups
  two_joined k i o n j =
      let d = s.groups.down in
      let r : root_of g a ≡ root_of g b → ⊥ = λ e. n (s.one ∙ e ∙ sym s.other) in (
        rw (ne_eqb _ _ r),
        record {
          down = j.down;
          roots = λ x.
              j.roots x
              ∙ ap (λ (m : ℕ). merged m (root_of h q) (root_of h x)) (root_self h d p i.1 ∙ s.one)
              ∙ ap (λ (m : ℕ). merged (root_of g a) m (root_of h x)) (root_self h d q o.1 ∙ s.other)
              ∙ ap (merged (root_of g a) (root_of g b)) (s.groups.roots x);
        },
      )
