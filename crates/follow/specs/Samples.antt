-- Document 01's traces T1 to T5 as questions: what `follow` prints for them, and for an input without a list.
-- Assumes nothing.
use Rattle.std.specs.Prelude.{[], ◌∷◌, refl, ◌≡◌}
use Rattle.follow.specs.Follow.{follow_text, question_of}
use Rattle.rules.specs.Samples.{receivers_g}
use Rattle.rules.specs.Trace.{trace, trace_from}
use Rattle.text.specs.Text.{decimal, decimal_within, refused_text}

-- "outlet 5 4"
pub text_t1 : follow_text (question_of 1 4 receivers_g) ≡ 111 ∷ 117 ∷ 116 ∷ 108 ∷ 101 ∷ 116 ∷ 32 ∷ 53 ∷ 32 ∷ 52 ∷ 10 ∷ []
unfolding follow_text trace trace_from decimal decimal_within
text_t1 = refl

-- "stopped 4 3"
pub text_t2 : follow_text (question_of 1 3 receivers_g) ≡ 115 ∷ 116 ∷ 111 ∷ 112 ∷ 112 ∷ 101 ∷ 100 ∷ 32 ∷ 52 ∷ 32 ∷ 51 ∷ 10 ∷ []
unfolding follow_text trace trace_from decimal decimal_within
text_t2 = refl

-- "outlet 5 0"
pub text_t3 : follow_text (question_of 5 0 receivers_g) ≡ 111 ∷ 117 ∷ 116 ∷ 108 ∷ 101 ∷ 116 ∷ 32 ∷ 53 ∷ 32 ∷ 48 ∷ 10 ∷ []
unfolding follow_text trace trace_from decimal decimal_within
text_t3 = refl

-- "stopped 1 5"
pub text_t4 : follow_text (question_of 0 5 (1 ∷ 0 ∷ [])) ≡ 115 ∷ 116 ∷ 111 ∷ 112 ∷ 112 ∷ 101 ∷ 100 ∷ 32 ∷ 49 ∷ 32 ∷ 53 ∷ 10 ∷ []
unfolding follow_text trace trace_from decimal decimal_within
text_t4 = refl

-- "refused 9 1"
pub text_t5 : follow_text (question_of 1 0 (0 ∷ 9 ∷ [])) ≡ 114 ∷ 101 ∷ 102 ∷ 117 ∷ 115 ∷ 101 ∷ 100 ∷ 32 ∷ 57 ∷ 32 ∷ 49 ∷ 10 ∷ []
unfolding follow_text trace trace_from decimal decimal_within refused_text
text_t5 = refl

-- "refused 2 0"
pub text_no_list : follow_text [] ≡ 114 ∷ 101 ∷ 102 ∷ 117 ∷ 115 ∷ 101 ∷ 100 ∷ 32 ∷ 50 ∷ 32 ∷ 48 ∷ 10 ∷ []
unfolding follow_text decimal decimal_within refused_text
text_no_list = refl
