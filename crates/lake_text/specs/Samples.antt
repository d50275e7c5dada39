-- The text of no lakes, and of two: one inside the other, at a negative level and at level 5.
-- Assumes nothing.
use Rattle.std.specs.Prelude.{[], ◌∷◌, refl, ◌≡◌}
use Rattle.lake_text.specs.LakeText.{lake_line, lakes_line, lakes_text}
use Rattle.text.specs.Text.{decimal, decimal_within, signed_decimal}

-- "lakes 0"
pub text_no_lakes : lakes_text [] ≡ 108 ∷ 97 ∷ 107 ∷ 101 ∷ 115 ∷ 32 ∷ 48 ∷ 10 ∷ []
unfolding decimal_within decimal lakes_line lakes_text
text_no_lakes = refl

-- "lakes 2", "-3 1 4 17", "5 12 96 6"
pub text-two-lakes :
    lakes_text
    (record { level = 7999997; count = 1; volume = 4; least = 17 } ∷ record { level = 8000005; count = 12; volume = 96; least = 6 } ∷ [])
    ≡ 108 ∷ 97 ∷ 107 ∷ 101 ∷ 115 ∷ 32 ∷ 50 ∷ 10
    ∷ 45 ∷ 51 ∷ 32 ∷ 49 ∷ 32 ∷ 52 ∷ 32 ∷ 49 ∷ 55 ∷ 10
    ∷ 53 ∷ 32 ∷ 49 ∷ 50 ∷ 32 ∷ 57 ∷ 54 ∷ 32 ∷ 54 ∷ 10 ∷ []
unfolding decimal_within decimal signed_decimal lakes_line lake_line lakes_text
text-two-lakes = refl
