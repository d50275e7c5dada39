-- What the walk leaves where no cell is a hole: the order has every cell, and so each list has every cell's number. Of two walks over the
-- same lists the second alone is seen.
-- Assumes nothing.
use Rattle.std.proofs.Common.{◌≡◌, ℕ, ◌<◌, true, List, length, sym, refl, ap, ◌∙◌}
use Rattle.lists.proofs.Noted.{noted-all}
use Rattle.lists.proofs.Overwrite.{overwrite_again}
use Rattle.lists.proofs.Tab.{tab-is, tab-length}
use Rattle.lists.specs.Lists.{at, filled, overwrite, tab, ◌∈◌}
use Rattle.rules.proofs.Orders.{mem_order, order_mem}
use Rattle.rules.proofs.WholeOrders.{order_whole}
use Rattle.rules.specs.Land.{Land}
use Rattle.rules.specs.Network.{level, order, wet}
use Rattle.rules.specs.Way.{Drains}
use Rattle.walk.specs.Walk.{Lent, LentHolds, Walked, WalkedWhole}

pub walked_whole : (L : Land) (r : List ℕ) {s s' : Lent} → Drains L r → ((c : ℕ) → c < L.cells → L.solid c ≡ true) → LentHolds L.cells s
    → Walked L r s s' → WalkedWhole L r s s'
unfolding filled
walked_whole L r {s} {s'} D whole P W =
    record {
      order_is = W.order_is;
      receivers_are = noted-all (at r) L.cells (order L r) s.receivers s'.receivers P.fits_receivers all only W.receivers_are
          ∙ ap (λ (l : List ℕ). overwrite l s.receivers) (tab-is (at r) r L.cells 0 D.full (λ i b. refl));
      levels_are = W.levels_are;
      wets_are = noted-all (wet L r) L.cells (order L r) s.wets s'.wets P.fits_wets all only W.wets_are;
      past = W.past;
    }
  where
    all : (c : ℕ) → c < L.cells → c ∈ order L r
    all c h = mem_order L r D c h (whole c h)

    only : (c : ℕ) → c ∈ order L r → c < L.cells
    only c m = (order_mem L r D c m).0

-- a second walk, along other receivers of the same land
module _ (L : Land) (q r : List ℕ) (E : Drains L q) (D : Drains L r) (whole : (c : ℕ) → c < L.cells → L.solid c ≡ true) where
  over : (a b x : List ℕ) {y z : List ℕ} → length a ≡ length b → y ≡ overwrite a x → z ≡ overwrite b y → z ≡ overwrite b x
  over a b x e f g = g ∙ ap (overwrite b) f ∙ overwrite_again b a x e

  over_filled : (f g : ℕ → ℕ) (x : List ℕ) {y z : List ℕ} → y ≡ filled f L.cells x → z ≡ filled g L.cells y → z ≡ filled g L.cells x
  unfolding filled
  over_filled f g x i j = over (tab L.cells f) (tab L.cells g) x (tab-length f L.cells ∙ sym (tab-length g L.cells)) i j

  pub walked_again : {s s' s'' : Lent} → WalkedWhole L q s s' → WalkedWhole L r s' s'' → WalkedWhole L r s s''
  walked_again {s} K W =
      record {
        order_is = over (order L q) (order L r) s.order (order_whole L q E whole ∙ sym (order_whole L r D whole)) K.order_is W.order_is;
        receivers_are = over q r s.receivers (E.full ∙ sym D.full) K.receivers_are W.receivers_are;
        levels_are = over_filled (level L q) (level L r) s.levels K.levels_are W.levels_are;
        wets_are = over_filled (wet L q) (wet L r) s.wets K.wets_are W.wets_are;
        past = W.past ∙ K.past;
      }
