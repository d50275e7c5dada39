-- The splits of all lakes from one pass: as all cells are taken by ascending height, cells that join two groups with lower ground in each are
-- flagged. The split of any lake is the height of its highest flagged cell.
-- Assumes nothing.
use mathlib.Core.Bool.{Bool, true}
use mathlib.Core.List.{List, map}
use mathlib.Core.Logic.{inl, inr, ◌⊎◌}
use mathlib.Core.Path.{refl, subst, sym, ◌≡◌}
use Prim.Native.Nat.{suc, ℕ, ◌<◌, ◌≤◌}
use native.Mathlib.Omega.{arith}
use lib.ListN.{length}
use Rattle.lake_rules.proofs.Apart.{apart_two, two_apart}
use Rattle.lake_rules.proofs.Joining.{group_cell, group_chain, group_is, group_whole, OnLand, touch_in, touch_is}
use Rattle.lake_rules.proofs.Lower.{lower_ascending, lower_mem, mem_lower, under_more}
use Rattle.lake_rules.proofs.Parts.{parts_holds, parts_is}
use Rattle.lake_rules.specs.Groups.{groups, lower}
use Rattle.lake_rules.specs.Lakes.{parts, split_height}
use Rattle.lake_rules.specs.Notes.{Flagged, LakeIn, Under}
use Rattle.lists.proofs.Greatest.{greatest_mem, greatest-most}
use Rattle.lists.proofs.Keep.{keep_holds, keep_member}
use Rattle.lists.proofs.Map.{map_holds, map_member}
use Rattle.lists.specs.Ascending.{Ascending}
use Rattle.lists.specs.Greatest.{greatest}
use Rattle.lists.specs.Lists.{keep, ◌∈◌}
use Rattle.rules.proofs.Chains.{turned}
use Rattle.rules.specs.Chain.{back, forth, here}
use Rattle.rules.specs.Land.{Land}

module _ (L : Land) (S : List ℕ) (on : OnLand L S) {t : ℕ} {s : List ℕ} (K : LakeIn L S t s) where
  in_all : (c : ℕ) → c ∈ s → c ∈ S
  in_all c m = (mem_lower L t S (K.sub c m)).0

  part_on_land : (h : ℕ) → OnLand L (lower L h s)
  part_on_land h c m = on c (in_all c (mem_lower L h s m).0)

  one_step : {a b h : ℕ} → h ≤ t → a ∈ s → b ∈ lower L h S → Under L S h a b → b ∈ s
  one_step {a} {b} {h} l m n c =
      let k = mem_lower L h S n in K.whole a b m (let u = k.1 in lower_mem L t k.0 (omega arith)) (under_more L (λ d i. i) l c)

  -- a chain from a cell of the lake stays in the lake
  pub stay : {h a b : ℕ} → h ≤ t → a ∈ s → Under L S h a b → Under L s h a b
  stay l m (here e) = here e
  stay {h} {a} {b} l m (forth x i e c) =
      let v = touch_is L (lower L h S) i in
      let g : x.lesser ∈ s = subst (λ (z : ℕ). z ∈ s) (sym e) m in
      let n : x.greater ∈ s = one_step l g v.other_in (forth x i refl (here refl)) in
      forth x (touch_in L (lower L h s) x.lesser x.greater
      (lower_mem L h g (mem_lower L h S v.one_in).1) (lower_mem L h n (mem_lower L h S v.other_in).1) v.ordered v.beside) e
      (stay l n c)
  stay {h} {a} {b} l m (back x i e c) =
      let v = touch_is L (lower L h S) i in
      let g : x.greater ∈ s = subst (λ (z : ℕ). z ∈ s) (sym e) m in
      let n : x.lesser ∈ s = one_step l g v.one_in (back x i refl (here refl)) in
      back x (touch_in L (lower L h s) x.lesser x.greater
      (lower_mem L h n (mem_lower L h S v.one_in).1) (lower_mem L h g (mem_lower L h S v.other_in).1) v.ordered v.beside) e
      (stay l n c)

  -- the lakes inside it are lakes in S too
  pub lake-inside : (h : ℕ) {g : List ℕ} → h ≤ t → g ∈ groups L (lower L h s) → LakeIn L S h g
  lake-inside h {g} l m =
      let G = group_is L (lower L h s) m in
      let i = part_on_land h in
      record {
        sub = λ c j. let k = mem_lower L h s (group_cell L (lower L h s) i G j).0 in lower_mem L h (in_all c k.0) k.1;
        joined = λ a b j k. under_more L in_all (omega arith) (group_chain L (lower L h s) i G j k);
        whole = λ a b j k c.
            let u = mem_lower L h s (group_cell L (lower L h s) i G j).0 in
            let n : b ∈ s = one_step l u.0 k c in
            group_whole L (lower L h s) i G j (lower_mem L h n (mem_lower L h S k).1) (stay l u.0 c);
      }

  module _ (u : Ascending s) (flag : ℕ → Bool) (F : Flagged L S flag) where
    abbrev flagged_heights : List ℕ
    flagged_heights = map L.height (keep flag s)

    flagged_parts : (c : ℕ) → c ∈ s → flag c ≡ true → L.height c ≤ split_height L t s
    unfolding split_height
    flagged_parts c m f =
        let H = L.height c in
        let l : H < t = (mem_lower L t S (K.sub c m)).1 in
        let r = F.sound c (in_all c m) f in
        let p = mem_lower L H S r.2 in
        let q = mem_lower L H S r.3 in
        let x = p.1 in
        let y = q.1 in
        let a : r.0 ∈ s = one_step {h = suc H} l m (lower_mem L (suc H) p.0 (omega arith)) (turned r.5) in
        let b : r.1 ∈ s = one_step {h = suc H} l m (lower_mem L (suc H) q.0 (omega arith)) (turned r.6) in
        let two : 2 ≤ length (groups L (lower L H s)) =
        apart_two L (lower L H s) (part_on_land H) (lower_ascending L H s u) r.0 r.1 (lower_mem L H a x) (lower_mem L H b y)
        (λ d. r.4 (under_more L in_all (omega arith) d)) in
        greatest-most (keep (parts L t s) (map L.height s))
        (keep_holds (parts L t s) (map_holds L.height m) (parts_holds L t s H l two))

    parts_flagged : (h : ℕ) → parts L t s h ≡ true → h ≤ greatest flagged_heights
    parts_flagged h e =
        let split = parts_is L t s h e in
        let l : h < t = split.0 in
        let r = two_apart L (lower L h s) (part_on_land h) (lower_ascending L h s u) split.1 in
        let a = mem_lower L h s r.2 in
        let b = mem_lower L h s r.3 in
        let q = F.complete h t r.0 r.1 (omega arith) (lower_mem L h (in_all r.0 a.0) a.1) (lower_mem L h (in_all r.1 b.0) b.1)
        (K.joined r.0 r.1 a.0 b.0) (λ c. r.4 (stay (omega arith) a.0 c)) in
        high h q.0 (K.whole r.0 q.0 a.0 q.1 q.4) q.2 q.3
      where
        high : (h c : ℕ) → c ∈ s → flag c ≡ true → h ≤ L.height c → h ≤ greatest flagged_heights
        high h c m f l =
            let v : L.height c ≤ greatest flagged_heights = greatest-most flagged_heights (map_holds L.height (keep_holds flag m f)) in
            omega arith

    -- its split is the height of its highest flagged cell
    pub flag_split : split_height L t s ≡ greatest flagged_heights
    unfolding split_height
    flag_split =
        let a : split_height L t s ≤ greatest flagged_heights = up (greatest_mem (keep (parts L t s) (map L.height s))) in
        let b : greatest flagged_heights ≤ split_height L t s = down (greatest_mem flagged_heights) in
        omega arith
      where
        up : (split_height L t s ≡ 0) ⊎ (split_height L t s ∈ keep (parts L t s) (map L.height s)) → split_height L t s ≤ greatest flagged_heights
        up (inl z) = omega arith
        up (inr m) = parts_flagged (split_height L t s) (keep_member (parts L t s) (map L.height s) m).1

        down : (greatest flagged_heights ≡ 0) ⊎ (greatest flagged_heights ∈ flagged_heights) → greatest flagged_heights ≤ split_height L t s
        down (inl z) = omega arith
        down (inr m) =
            let c = map_member L.height (keep flag s) m in
            let k = keep_member flag s c.1 in
            let v : L.height c.0 ≤ split_height L t s = flagged_parts c.0 k.0 k.1 in
            omega (arith, c.2)
