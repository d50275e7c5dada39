-- A text that is made of the first bytes of an input, and written, is the text of the whole input where those bytes decide it.
-- Assumes nothing.
use Rattle.std.specs.Prelude.{◌≡◌, ℕ, List, take, None, Some, OnOk, IfSome}
use Rattle.std.proofs.Common.{ap, subst, ◌∙◌}
use Rattle.std.specs.Io.KnownBytes.{Appends}
use Rattle.std.specs.declared.option.Option.{Option}
use Rattle.std.specs.declared.result.Result.{Result}
use Rattle.std.specs.declared.result.Result.TheVariants.{Ok, Err}

-- `known` are the input's bytes, where they are known, and `bytes` those that were read
pub answered : {T E : Type 0} (text_of : List ℕ → List ℕ) (most : ℕ) → ((s : List ℕ) → text_of (take most s) ≡ text_of s)
    → (known old new : Option (List ℕ)) (r : Result T E) {bytes written : List ℕ} → IfSome known (λ s. bytes ≡ take most s) → written ≡ text_of bytes
    → OnOk r (Appends old new written) → OnOk r (IfSome known (λ s. Appends old new (text_of s)))
answered text_of most enough None old new (Ok x) read e appends = tt
answered text_of most enough None old new (Err x) read e appends = tt
answered text_of most enough (Some s) old new r read e appends =
    subst (λ l. OnOk r (Appends old new l)) (e ∙ ap text_of read ∙ enough s) appends
