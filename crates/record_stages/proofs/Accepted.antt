-- An accepted record, as the stages take it: the ground of its bytes with the width and the height that the answer names.
-- Assumes nothing.
use mathlib.Core.Bool.{Bool, true}
use mathlib.Core.List.{List}
use mathlib.Core.Path.{ap, subst, sym, ◌∙◌, ◌≡◌}
use Prim.Native.Nat.{ℕ, ◌*◌, ◌+◌}
use lib.ListN.{length}
use Rattle.ground.proofs.Acceptance.{good_few}
use Rattle.ground.specs.Accepted.{AcceptedRecord}
use Rattle.ground.specs.Good.{Good}
use Rattle.ground.specs.Record.{ground_in, ground_of_record, width_in}
use Rattle.record_stages.specs.Readable.{Readable}
use Rattle.rules.specs.Ground.{cells_of, Ground}

module _ (room : ℕ → Bool) (s : List ℕ) (w h : ℕ) (A : AcceptedRecord room s w h) where
  pub named_ground : ground_in s w h ≡ ground_of_record s
  unfolding ground_of_record
  named_ground = ap (λ (i : ℕ). ground_in s i h) A.width_is ∙ ap (λ (j : ℕ). ground_in s (width_in s) j) A.height_is

  pub readable_here : Readable s w h
  readable_here =
      let G = subst Good (sym named_ground) A.good in
      record {
        good = G;
        long = subst (λ (g : Ground). length s ≡ 7 * cells_of g + 16) (sym named_ground) A.long;
        few = good_few (ground_in s w h) G;
      }

  pub roomy_here : room (h * w) ≡ true
  roomy_here = subst (λ (g : Ground). room (cells_of g) ≡ true) (sym named_ground) A.roomy
