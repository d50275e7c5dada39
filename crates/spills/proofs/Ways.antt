-- Levels from crossings alone, with no receiver known: a cell's level is the greater of its height and of the least height at which
-- crossings no higher join its node with the outlets'. A chain of crossings is a way over neighbours: inside a basin it goes down first
-- receivers to the singular cell, and up again where they are followed the other way.
-- Assumes nothing.
use mathlib.Core.Bool.{false, true}
use mathlib.Core.List.{List}
use mathlib.Core.Logic.{inl, inr, ◌⊎◌}
use mathlib.Core.Path.{refl, subst, sym, ◌∙◌, ◌≡◌}
use Prim.Native.Nat.{max, suc, zero, ℕ, ◌<◌, ◌≤◌}
use native.Mathlib.Nat.{lt-suc_self}
use native.Mathlib.Omega.{arith}
use Rattle.lists.proofs.Tests.{is, isnt, Known, known}
use Rattle.lists.specs.Lists.{at, ◌∈◌}
use Rattle.rules.proofs.ChosenPasses.{under-m, way_chain, way_high}
use Rattle.rules.proofs.Courses.{outlet_node}
use Rattle.rules.proofs.Crossings.{crosses, node-root}
use Rattle.rules.proofs.FirstReceivers.{Falls, first_below, first-falls, rank, rank_falls, singular_of-below, singular_of-first}
use Rattle.rules.proofs.FirstReceivers.{singular_of_self}
use Rattle.rules.proofs.Levels.{level-peak, peak_attained}
use Rattle.rules.proofs.Lowest.{arrives, lowest, receivers-beside}
use Rattle.rules.specs.Carving.{receivers}
use Rattle.rules.specs.Chain.{back, Chain, forth, here}
use Rattle.rules.specs.FirstWays.{first_receiver, singular_of}
use Rattle.rules.specs.Land.{Land}
use Rattle.rules.specs.Network.{level}
use Rattle.rules.specs.Passes.{Crossing, crossing_height, crossings, edges, node}
use Rattle.rules.specs.Way.{arrive, Lawful, step, Way}

module _ (L : Land) (W : Lawful L) where
  -- a way from c to an outlet, with no ground above m
  pub record LowWay (c m : ℕ) : Type 0 where
    pub peak : ℕ
    pub way : Way L c peak
    pub low : peak ≤ m

  one_step : (c d m : ℕ) → c < L.cells → L.beside c d ≡ true → L.height c ≤ m → LowWay d m → LowWay c m
  one_step c d m h b l w = record { peak = max (L.height c) w.peak; way = step h b w.way; low = omega (arith, w.low, l) }

  -- in an outlet basin first receivers are such a way
  drops : (k c m : ℕ) → c < L.cells → rank L c < k → L.height c ≤ m → L.outlet (singular_of L c) ≡ true → LowWay c m
  drops zero c m h r l o = absurd (omega arith)
  drops (suc k) c m h r l o = go (first-falls L c) (drops k (first_receiver L c) m (first_below L c h))
    where
      go : (first_receiver L c ≡ c) ⊎ Falls L c (first_receiver L c)
          → (rank L (first_receiver L c) < k → L.height (first_receiver L c) ≤ m → L.outlet (singular_of L (first_receiver L c)) ≡ true
          → LowWay (first_receiver L c) m)
          → LowWay c m
      go (inl e) ih =
          record { peak = L.height c; way = arrive h (subst (λ (a : ℕ). L.outlet a ≡ true) (singular_of_self L c e) o); low = l }
      go (inr f) ih =
          let z = rank_falls L c (first_receiver L c) f in
          one_step c (first_receiver L c) m h f.beside l
          (ih (omega (arith, z, r)) (omega (arith, f.down, l)) (subst (λ (a : ℕ). L.outlet a ≡ true) (sym (singular_of-first L c)) o))

  -- from a cell's singular cell on there is one, so there is one from the cell
  falls_to : (k c m : ℕ) → c < L.cells → rank L c < k → L.height c ≤ m → LowWay (singular_of L c) m → LowWay c m
  falls_to zero c m h r l w = absurd (omega arith)
  falls_to (suc k) c m h r l w = go (first-falls L c) (falls_to k (first_receiver L c) m (first_below L c h))
    where
      go : (first_receiver L c ≡ c) ⊎ Falls L c (first_receiver L c)
          → (rank L (first_receiver L c) < k → L.height (first_receiver L c) ≤ m → LowWay (singular_of L (first_receiver L c)) m
          → LowWay (first_receiver L c) m)
          → LowWay c m
      go (inl e) ih = subst (λ (a : ℕ). LowWay a m) (singular_of_self L c e) w
      go (inr f) ih =
          let z = rank_falls L c (first_receiver L c) f in
          one_step c (first_receiver L c) m h f.beside l
          (ih (omega (arith, z, r)) (omega (arith, f.down, l)) (subst (λ (a : ℕ). LowWay a m) (sym (singular_of-first L c)) w))

  -- and the other way round
  climbs_from : (k c m : ℕ) → c < L.cells → rank L c < k → LowWay c m → LowWay (singular_of L c) m
  climbs_from zero c m h r w = absurd (omega arith)
  climbs_from (suc k) c m h r w = go (first-falls L c) (climbs_from k (first_receiver L c) m (first_below L c h))
    where
      go : (first_receiver L c ≡ c) ⊎ Falls L c (first_receiver L c)
          → (rank L (first_receiver L c) < k → LowWay (first_receiver L c) m → LowWay (singular_of L (first_receiver L c)) m)
          → LowWay (singular_of L c) m
      go (inl e) ih = subst (λ (a : ℕ). LowWay a m) (sym (singular_of_self L c e)) w
      go (inr f) ih =
          let z = rank_falls L c (first_receiver L c) f in
          let u = way_high L w.way in
          subst (λ (a : ℕ). LowWay a m) (singular_of-first L c)
          (ih (omega (arith, z, r))
          (one_step (first_receiver L c) c m (first_below L c h) (W.mutual_neighbours c (first_receiver L c) f.beside)
          (omega (arith, f.down, u, w.low)) w))

  inner_node : (c : ℕ) → L.outlet (singular_of L c) ≡ false → node L c ≡ singular_of L c
  unfolding node
  inner_node c o = rw o

  -- so cells of one node have one as soon as one of them has
  same_node : (c d m : ℕ) → c < L.cells → d < L.cells → node L c ≡ node L d → L.height d ≤ m → LowWay c m → LowWay d m
  same_node c d m h k e l w = go (known (L.outlet (singular_of L c))) (known (L.outlet (singular_of L d)))
    where
      go : Known (L.outlet (singular_of L c)) → Known (L.outlet (singular_of L d)) → LowWay d m
      go p (is o) = drops (suc (rank L d)) d m k (lt-suc_self _) l o
      go (is o) (isnt q) =
          let n = sym (inner_node d q) ∙ sym e ∙ node-root L c o in
          absurd (omega (arith, n, singular_of-below L d k))
      go (isnt p) (isnt q) =
          let s = sym (inner_node c p) ∙ e ∙ inner_node d q in
          falls_to (suc (rank L d)) d m k (lt-suc_self _) l
          (subst (λ (a : ℕ). LowWay a m) s (climbs_from (suc (rank L c)) c m h (lt-suc_self _) w))

  -- crossings no higher than m join a cell's node with the outlets'
  chain_way : {K : List Crossing} {a : ℕ} (m : ℕ) → ((x : Crossing) → x ∈ K → (x ∈ crossings L) × (crossing_height L x ≤ m))
      → Chain (edges L) K a L.cells → (c : ℕ) → c < L.cells → node L c ≡ a → L.height c ≤ m → LowWay c m
  unfolding crossing_height
  chain_way m low (here e) c h p l = drops (suc (rank L c)) c m h (lt-suc_self _) l (outlet_node L c h (p ∙ e))
  chain_way m low (forth x i e r) c h p l =
      let C = crosses L x (low x i).0 in
      let t : max (L.height x.lesser) (L.height x.greater) ≤ m = (low x i).1 in
      same_node x.lesser c m C.on_lo h (e ∙ sym p) l
      (one_step x.lesser x.greater m C.on_lo C.beside (omega arith) (chain_way m low r x.greater C.on_hi refl (omega arith)))
  chain_way m low (back x i e r) c h p l =
      let C = crosses L x (low x i).0 in
      let t : max (L.height x.lesser) (L.height x.greater) ≤ m = (low x i).1 in
      same_node x.greater c m C.on_hi h (e ∙ sym p) l
      (one_step x.greater x.lesser m C.on_hi (W.mutual_neighbours x.lesser x.greater C.beside) (omega arith)
      (chain_way m low r x.lesser C.on_lo refl (omega arith)))

  -- the network's own way stays as low as its level
  own_way : (c : ℕ) → c < L.cells → L.solid c ≡ true → Way L c (level L (receivers L) c)
  own_way c h s =
      let v = (arrives L W c h s).1 in
      subst (Way L c) (sym (level-peak L (receivers L) v)) (peak_attained L (at (receivers L)) (receivers-beside L W) v)

  -- crossings no higher than s join the cell's node with the outlets', and chosen passes no higher than m only where s is at most m
  pub spill_level : (c : ℕ) → c < L.cells → L.solid c ≡ true → (s : ℕ) (K : List Crossing)
      → ((x : Crossing) → x ∈ K → (x ∈ crossings L) × (crossing_height L x ≤ s)) → Chain (edges L) K (node L c) L.cells
      → ((m : ℕ) → Chain (edges L) (under-m L m) (node L c) L.cells → s ≤ m) → level L (receivers L) c ≡ max (L.height c) s
  spill_level c h sol s K low joined least =
      let top : ℕ = max (L.height c) s in
      let w = chain_way top (λ x i. ((low x i).0, let t : crossing_height L x ≤ s = (low x i).1 in omega arith)) joined c h refl (omega arith) in
      let own = own_way c h sol in
      omega (arith, lowest L W w.way, w.low, way_high L own, least (level L (receivers L) c) (way_chain L W own))
