-- One more function.
use Rattle.std.proofs.Common.{◌≡◌, ◌∙◌, ℕ, ◌+◌, List, [], ◌∷◌, ◌++◌, ap, add-one}
use Rattle.wy_top_big.specs.Draws.{next, state_after}
use Rattle.wy_top_big.specs.Source.{functions, numbered}

-- one more number is drawn
pub one_more_drawn : (n seed state drawn : ℕ) → state ≡ state_after n seed → drawn ≡ next state → drawn ≡ state_after (n + 1) seed
one_more_drawn n seed state drawn before is = rw add-one (is ∙ ap next before)

-- one more function is written
pub one_more_written : (n seed state : ℕ) (old text with_text new : List ℕ) → old ≡ functions n seed → state ≡ state_after (n + 1) seed
    → text ≡ numbered n state → with_text ≡ old ++ text → new ≡ with_text ++ 10 ∷ [] → new ≡ functions (n + 1) seed
one_more_written n seed state old text with_text new before drawn is put ended =
    rw add-one (
    ended
    ∙ ap (λ t. t ++ 10 ∷ []) put
    ∙ ap (λ t. (t ++ text) ++ 10 ∷ []) before
    ∙ ap (λ t. (functions n seed ++ t) ++ 10 ∷ []) is
    ∙ ap (λ s. (functions n seed ++ numbered n s) ++ 10 ∷ []) (rw add-one at drawn))
