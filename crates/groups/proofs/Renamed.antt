-- A chain carried from one naming of the cells to another, and from one list of edges to another.
-- Assumes nothing.
use mathlib.Core.List.{List}
use mathlib.Core.Path.{ap, refl, subst, sym, ◌∙◌, ◌≡◌}
use Prim.Native.Nat.{ℕ}
use Rattle.groups.specs.Groups.{Between, seen_by}
use Rattle.lists.specs.Lists.{◌∈◌}
use Rattle.rules.specs.Chain.{back, Chain, Edges, forth, here}

-- edges between cells that are Ok, where α and β name the cells: cells with one α have one β, and each edge of es has one of fs
-- between the same cells
module _ {E F : Type 0} (G : Edges E) (H : Edges F) (α β : ℕ → ℕ) (Ok : ℕ → Type 0) {es : List E} {fs : List F}
    (named : (c d : ℕ) → Ok c → Ok d → α c ≡ α d → β c ≡ β d)
    (ends : (x : E) → x ∈ es → Ok (G.one x) × Ok (G.other x))
    (same : (x : E) → x ∈ es → Between H fs (G.one x) (G.other x)) where
  pub renamed : {a b : ℕ} → Chain (seen_by α G) es a b → (c d : ℕ) → Ok c → Ok d → α c ≡ a → α d ≡ b → Chain (seen_by β H) fs (β c) (β d)
  renamed (here e) c d h k p q = here (named c d h k (p ∙ e ∙ sym q))
  renamed (forth x m e w) c d h k p q =
      let t = same x m in
      let (i, j) = ends x m in
      forth t.edge t.isin (ap β t.one ∙ named (G.one x) c i h (e ∙ sym p))
      (subst (λ (z : ℕ). Chain (seen_by β H) fs (β z) (β d)) (sym t.other) (renamed w (G.other x) d j k refl q))
  renamed (back x m e w) c d h k p q =
      let t = same x m in
      let (i, j) = ends x m in
      back t.edge t.isin (ap β t.other ∙ named (G.other x) c j h (e ∙ sym p))
      (subst (λ (z : ℕ). Chain (seen_by β H) fs (β z) (β d)) (sym t.one) (renamed w (G.one x) d i k refl q))
