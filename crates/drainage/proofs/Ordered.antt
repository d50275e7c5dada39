-- Receivers that drain and their order, each written at the start of a list, are what drainage asks for.
-- Assumes nothing.
use mathlib.Core.Bool.{true}
use mathlib.Core.List.{List, ◌++◌}
use mathlib.Core.Path.{ap, refl, ◌∙◌, ◌≡◌}
use Prim.Native.Nat.{ℕ, ◌+◌, ◌<◌, ◌≤◌}
use native.Mathlib.Omega.{arith}
use lib.ListN.{length, length-append, get_or-append, take}
use lib.Seq.{take_at}
use Rattle.drainage.specs.Giving.{Ordered}
use Rattle.lists.specs.Lists.{at}
use Rattle.rules.proofs.WholeOrders.{order_whole}
use Rattle.rules.specs.Land.{Land}
use Rattle.rules.specs.Network.{order}
use Rattle.rules.specs.Way.{Drains}

module _ (L : Land) (r : List ℕ) (D : Drains L r) (few : L.cells ≤ 4096) (whole : (c : ℕ) → c < L.cells → L.solid c ≡ true)
    (receivers past : List ℕ) (e : receivers ≡ r ++ past) where
  full : length (order L r) ≡ L.cells
  full = order_whole L r D whole

  pub ordered_written : (ordered rest : List ℕ) → ordered ≡ order L r ++ rest → Ordered L r L.cells ordered receivers
  ordered_written ordered rest f =
      let a : length receivers ≡ length r + length past = ap length e ∙ length-append r past in
      let b : length ordered ≡ length (order L r) + length rest = ap length f ∙ length-append (order L r) rest in
      let s = D.full in
      let t = full in
      record {
        cells = refl;
        few = few;
        whole = whole;
        drains = D;
        fits_order = omega arith;
        fits_receivers = omega arith;
        order_is = ap (take L.cells) f ∙ take_at (order L r) rest L.cells full;
        receivers_are = λ c h. ap (λ (z : List ℕ). at z c) e ∙ get_or-append r past 0 c (omega arith);
      }
