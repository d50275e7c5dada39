-- Entries that lead far enough along the first ways, or that a round moves no more, are the singular cells.
-- Assumes nothing.
use mathlib.Core.Bool.{false}
use mathlib.Core.List.{List}
use mathlib.Core.Logic.{inl, inr, ◌⊎◌}
use mathlib.Core.Path.{ap, refl, sym, ◌∙◌, ◌≡◌}
use Prim.Native.Nat.{suc, zero, ℕ, ◌+◌, ◌-◌, ◌<◌, ◌≤◌}
use native.Mathlib.Omega.{arith}
use lib.ListN.{length}
use Rattle.basins.proofs.Rounds.{Leads, Turned, turned}
use Rattle.basins.specs.Jumps.{any_moved, FirstReceivers, jumped, Within}
use Rattle.lists.proofs.Filled.{filled-by}
use Rattle.lists.proofs.Repeat.{repeat_add, repeat_fixed}
use Rattle.lists.specs.Lists.{at, filled, repeat}
use Rattle.rules.proofs.FirstReceivers.{Falls, first_below, first-falls, rank, rank_falls, singular_of-first, singular_of_self}
use Rattle.rules.proofs.FirstReceivers.{singular_of-singular}
use Rattle.rules.specs.FirstWays.{first_receiver, singular_of}
use Rattle.rules.specs.Land.{Land}

-- steps don't go up, and one that comes back was none
rank_repeat : (L : Land) (k c : ℕ) → rank L (repeat k (first_receiver L) c) ≤ rank L c
rank_repeat L zero c = omega arith
rank_repeat L (suc k) c = go (first-falls L c) (rank_repeat L k (first_receiver L c))
  where
    go : (first_receiver L c ≡ c) ⊎ Falls L c (first_receiver L c)
        → rank L (repeat k (first_receiver L) (first_receiver L c)) ≤ rank L (first_receiver L c)
        → rank L (repeat k (first_receiver L) (first_receiver L c)) ≤ rank L c
    go (inl e) h = let q : rank L (first_receiver L c) ≡ rank L c = ap (rank L) e in omega arith
    go (inr f) h = let l : rank L (first_receiver L c) < rank L c = rank_falls L c (first_receiver L c) f in omega arith

no_circle : (L : Land) (k c : ℕ) → 1 ≤ k → repeat k (first_receiver L) c ≡ c → first_receiver L c ≡ c
no_circle L zero c h e = absurd (omega arith)
no_circle L (suc k) c h e = go (first-falls L c)
  where
    go : (first_receiver L c ≡ c) ⊎ Falls L c (first_receiver L c) → first_receiver L c ≡ c
    go (inl q) = q
    go (inr f) =
        let a : rank L (repeat k (first_receiver L) (first_receiver L c)) ≤ rank L (first_receiver L c) =
        rank_repeat L k (first_receiver L c) in
        let b : rank L (first_receiver L c) < rank L c = rank_falls L c (first_receiver L c) f in
        let d : rank L (repeat k (first_receiver L) (first_receiver L c)) ≡ rank L c = ap (rank L) e in
        absurd (omega arith)

-- the singular cell of a cell further down the way
singular_of-repeat : (L : Land) (k c : ℕ) → singular_of L (repeat k (first_receiver L) c) ≡ singular_of L c
singular_of-repeat L zero c = refl
singular_of-repeat L (suc k) c = singular_of-repeat L k (first_receiver L c) ∙ singular_of-first L c

-- as many steps as there are cells lead to the singular cell
far_enough : (L : Land) (j c : ℕ) → L.cells ≤ j → repeat j (first_receiver L) c ≡ singular_of L c
unfolding singular_of
far_enough L j c h =
    let e : L.cells + (j - L.cells) ≡ j = omega arith in
    ap (λ (k : ℕ). repeat k (first_receiver L) c) (sym e) ∙ repeat_add (first_receiver L) L.cells (j - L.cells) c
    ∙ repeat_fixed (first_receiver L) (j - L.cells) (repeat L.cells (first_receiver L) c) (singular_of-singular L c)

-- between rounds: each entry leads at least so many steps
pub record Leading (n : ℕ) (old entries : List ℕ) (steps : ℕ) : Type 0 where
  pub some : 1 ≤ steps
  pub size : length entries ≡ length old
  pub inside : Within n entries
  pub leads : (L : Land) → FirstReceivers L n old → Leads (first_receiver L) n steps entries
  pub past : (c : ℕ) → n ≤ c → at entries c ≡ at old c

first-within : (L : Land) (n : ℕ) (entries : List ℕ) → FirstReceivers L n entries → Within n entries
first-within L n entries F c h =
    let e : at entries c ≡ first_receiver L c = F.firsts c h in
    let q : L.cells ≡ n = F.cells in
    let l : first_receiver L c < L.cells = first_below L c (omega arith) in
    omega arith

pub leading_start : (L : Land) (n : ℕ) (entries : List ℕ) → FirstReceivers L n entries → Leading n entries entries 1
leading_start L n entries F =
    record {
      some = omega arith;
      size = refl;
      inside = first-within L n entries F;
      leads = λ M G c h. (1, omega arith, G.firsts c h);
      past = λ c h. refl;
    }

module _ (n : ℕ) (old p : List ℕ) (steps : ℕ) (room : n ≤ length old) (G : Leading n old p steps) where
  turns : Turned n p (jumped n p) (any_moved n p) n
  turns = turned n p n (let s = G.size in omega arith) G.inside (omega arith)

  pub leading_next : Leading n old (jumped n p) (steps + steps)
  leading_next =
      let T = turns in
      record {
        some = let s = G.some in omega arith;
        size = T.size ∙ G.size;
        inside = T.inside;
        leads = λ L F. T.twice (first_receiver L) steps (G.leads L F);
        past = λ c h. T.past c h ∙ G.past c h;
      }

  pub settled_far : (L : Land) → FirstReceivers L n old → n ≤ steps → p ≡ filled (singular_of L) n old
  settled_far L F h =
      filled-by (singular_of L) n old p room G.size
      (λ c l. let a = G.leads L F c l in let q = F.cells in a.2 ∙ far_enough L a.0 c (omega (arith, a.1)))
      G.past

  pub settled_still : (L : Land) → FirstReceivers L n old → any_moved n p ≡ false → jumped n p ≡ filled (singular_of L) n old
  settled_still L F z = filled-by (singular_of L) n old (jumped n p) room H.size there H.past
    where
      H : Leading n old (jumped n p) (steps + steps)
      H = leading_next

      there : (c : ℕ) → c < n → at (jumped n p) c ≡ singular_of L c
      there c l =
          let a = H.leads L F c l in
          let b = H.leads L F (at (jumped n p) c) (H.inside c l) in
          let s : 1 ≤ steps + steps = H.some in
          let f : first_receiver L (at (jumped n p) c) ≡ at (jumped n p) c =
          no_circle L b.0 (at (jumped n p) c) (omega (arith, b.1)) (sym b.2 ∙ turns.still z c l) in
          sym (singular_of_self L (at (jumped n p) c) f) ∙ ap (singular_of L) a.2 ∙ singular_of-repeat L a.0 c
