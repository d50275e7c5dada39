-- Groups of n cells that follow a list of pairs: two cells are in one group exactly if a chain of the pairs joins them.
-- Assumes nothing.
use mathlib.Core.List.{List}
use mathlib.Core.Path.{ap, refl, subst, sym, ◌∙◌}
use Prim.Native.Nat.{ℕ, ◌<◌}
use native.Mathlib.Omega.{arith}
use lib.ListN.{length}
use Rattle.groups.proofs.Renamed.{renamed}
use Rattle.groups.proofs.Roots.{alone-root}
use Rattle.groups.specs.Groups.{Follows, root_of, SameGroup}
use Rattle.lake_rules.specs.Groups.{Touch, touching}
use Rattle.lists.proofs.Range.{range_length}
use Rattle.lists.specs.Lists.{upto}
use Rattle.rules.proofs.Labels.{Within}
use Rattle.rules.specs.Chain.{back, Chain, forth, here}

-- n cells are the numbers below n
pub in_upto : (n c : ℕ) → c < n → c < length (upto n)
in_upto n c l = omega (arith, range_length n 0)

module _ {n : ℕ} {es : List Touch} (w : Within touching n es) where
  -- a chain stays on the land
  pub chain_on : {a b : ℕ} → a < n → Chain touching es a b → b < n
  chain_on l (here e) = subst (λ (c : ℕ). c < n) e l
  chain_on l (forth x m e c) = chain_on (w x m).1 c
  chain_on l (back x m e c) = chain_on (w x m).0 c

  module _ {g : List ℕ} (f : Follows touching (upto n) es g) (a b : ℕ) (la : a < n) (lb : b < n) where
    pub group_joins : SameGroup g a b → Chain touching es a b
    group_joins s =
        renamed touching touching (root_of (upto n)) (λ c. c) (λ c. c < n)
        (λ c d i j e. sym (alone-root n c i) ∙ e ∙ alone-root n d j) w
        (λ x m. record { edge = x; isin = m; one = refl; other = refl })
        (f.chained a b (in_upto n a la) (in_upto n b lb) s) a b la lb refl refl

    pub joins_group : Chain touching es a b → SameGroup g a b
    joins_group c =
        f.grouped a b (in_upto n a la) (in_upto n b lb)
        (renamed touching touching (λ c. c) (root_of (upto n)) (λ c. c < n) (λ c d i j e. ap (root_of (upto n)) e) w
        (λ x m. record { edge = x; isin = m; one = refl; other = refl })
        c a b la lb refl refl)
