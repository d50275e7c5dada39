-- Any two lists that the contract of `fill` allows are equal, where the closure answers one thing for each place. The contract is the one
-- in src/.
-- Assumes nothing.
use borrow.Fn.Kinds.{In, Out}
use denote.Param.Laws.{IsCopy, Laws}
use denote.RattleType.{RattleType}
use mathlib.Core.Path.{refl, ◌≡◌}
use mir.Syntax.{Dict}
use Prim.Native.Nat.{ℕ, ◌<◌}
use Rattle.lists.proofs.Determined.{one_answer}
use Rattle.lists.specs.Contract.{OneOutcome}
use Rattle.std.specs.declared.clone.Clone
use Rattle.lists.proofs.fill.Kinds as fill-kinds
use Rattle.lists.proofs.fill.Reads as fill
use Rattle.lists.specs.contracts.fill.F-Fn as closure

module _
    (asked : (T F : RattleType) (L : Laws T) (M : Laws F) (C : IsCopy T) → Clone.Ghosts T.Denot → Dict → closure.Ghosts T F → Dict → Dict → Dict
    → Dict → In 3 (fill-kinds.ps T F L M C))
    (learnt : (T F : RattleType) (L : Laws T) (M : Laws F) (C : IsCopy T) → Clone.Ghosts T.Denot → Dict → closure.Ghosts T F → Dict → Dict → Dict
    → Dict → Out 3 (fill-kinds.ps T F L M C) (fill-kinds.r T F L M C))
  where
    -- one outcome for entries of each type T and a closure of each type F whose calls are told by G
    abbrev pub OneFill : Type 2
    OneFill =
        (T F : RattleType) (G : closure.Ghosts T F) (L : Laws T) (M : Laws F) (C : IsCopy T) (K : Clone.Ghosts T.Denot) (D D1 D2 D3 D4 : Dict)
        → OneOutcome 3 (fill-kinds.ps T F L M C) (fill-kinds.r T F L M C)
        (λ κs a.
        asked T F L M C K D G D1 D2 D3 D4 κs a
        × ((f : ℕ → T.Denot) × ((k : ℕ) → k < a.1.0 → (y : T.Denot) → (closure.words T F G).post a.1.1.0 k y → y ≡ f k)))
        (learnt T F L M C K D G D1 D2 D3 D4)
        (λ κs a r e. e.0.now)

pub fill_one : OneFill fill.Asked fill.Learnt
fill_one T F G L M C K D D1 D2 D3 D4 κs a p r r' e e' x y = (refl, one_answer (x p.1.0 p.1.1) (y p.1.0 p.1.1))
