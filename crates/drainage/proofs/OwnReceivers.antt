-- Receivers that drain: an outlet is the cell that is its own.
-- Assumes nothing.
use mathlib.Core.List.{List}
use mathlib.Core.Path.{subst, sym, ◌∙◌, ◌≡◌}
use Prim.Native.Nat.{suc, ℕ}
use native.Mathlib.Omega.{arith}
use lib.Dec.{eqb}
use borrow.Author.Tests.{eq-eqb, ne_eqb}
use Rattle.lists.specs.Lists.{at}
use Rattle.rules.proofs.Steps.{once_only}
use Rattle.rules.specs.Land.{Land}
use Rattle.rules.specs.Way.{done, Drains, more, Runs}

module _ (L : Land) (r : List ℕ) (D : Drains L r) where
  -- a cell is its own receiver exactly if it is an outlet
  pub own_outlet : {c j : ℕ} → Runs L (at r) c j → eqb (at r c) c ≡ L.outlet c
  own_outlet (done {c = a} h o) = eq-eqb (at r a) a (D.own a h o) ∙ sym o
  own_outlet (more {c = a} {j = j} h s o q) =
      ne_eqb (at r a) a
      (λ e. let z : suc j ≡ j = once_only L (at r) (more h s o q) (subst (λ (y : ℕ). Runs L (at r) y j) e q) in omega arith) ∙ sym o
