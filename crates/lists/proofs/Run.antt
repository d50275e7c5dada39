-- Unbroken runs of a list.
-- Assumes nothing.
use mathlib.Core.List.Memᴰ.{head as in_head}
use mathlib.Core.List.Memᴰ.{tail as in_Tail}
use mathlib.Core.List.{[], append_assoc, List, ◌++◌, ◌∷◌}
use mathlib.Core.Path.{ap, sym, ◌∙◌}
use Rattle.lists.specs.Lists.{flat, Run, ◌∈◌}

module _ {A B : Type 0} where
  -- each part is a run of the whole
  pub run_flat : (f : A → List B) {a : A} {l : List A} → a ∈ l → Run (f a) (flat f l)
  run_flat f (in_head {x = x} {xs = xs} e) = record { front = []; rest = flat f xs; is = ap (λ (z : A). f z ++ flat f xs) (sym e) }
  run_flat f {a = a} (in_Tail {x = x} {xs = xs} m) =
      let r : Run (f a) (flat f xs) = run_flat f m in
      record {
        front = f x ++ r.front;
        rest = r.rest;
        is = ap (λ (z : List B). f x ++ z) r.is ∙ sym (append_assoc (f x) r.front (f a ++ r.rest));
      }

module _ {A : Type 0} where
  pub run_in : {a b c : List A} → Run a b → Run b c → Run a c
  run_in {a} {b} {c} p q =
      record {
        front = q.front ++ p.front;
        rest = p.rest ++ q.rest;
        is = q.is ∙ ap (λ (z : List A). q.front ++ (z ++ q.rest)) p.is ∙ simp append_assoc;
      }

  pub run_cons : (x : A) {a b : List A} → Run a b → Run a (x ∷ b)
  run_cons x r = record { front = x ∷ r.front; rest = r.rest; is = ap (λ (z : List A). x ∷ z) r.is }
