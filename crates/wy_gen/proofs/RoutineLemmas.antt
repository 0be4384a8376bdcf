-- Calls as statements, and the steps of a body.
use Rattle.std.proofs.Common.{◌≡◌, ◌∙◌, ◌-◌, ℕ, suc, List, [], ◌∷◌, ◌++◌, length, refl, ap, sym, append_assoc, arith}
use Rattle.wy_core.specs.CoreTree as tree
use Rattle.wy_core.specs.CoreSeen.{seen_exprs}
use Rattle.wy_core.specs.declared.expressions.Expr.{Expr}
use Rattle.wy_live.specs.Sets.{Variables}
use Rattle.wy_live.specs.Walks.{live_all, nothing}
use Rattle.wy_live.specs.declared.walk.Ends.{Ends}
use Rattle.wy_code.specs.declared.pieces.steps.Step.{Step}
use Rattle.wy_code.specs.pieces.Steps.{clear}
use Rattle.wy_code_spec.specs.declared.tables.context.Context.{Context}
use Rattle.wy_code_spec.specs.tables.Tables.{target}
use Rattle.wy_code_spec.specs.compiled.Expressions.{codes, count_of}
use Rattle.wy_code_spec.specs.compiled.Statements.{call, call_step, gives_null, stmts_code}
use Rattle.wy_code_spec.specs.compiled.Programs.{unused_params}

pub counted : (es : List Expr) → count_of (tree.exprs_of (seen_exprs es)) ≡ length es
counted [] = refl
counted (x ∷ es) = ap suc (counted es)

pub call_same : (c : Context) (f : ℕ) (es : List Expr) (n : ℕ) (s live : Variables) (old steps : List Step) → live ≡ s → steps ≡ call_step (target c.results f) f n (length es) ++ old
    → codes c (tree.exprs_of (seen_exprs es)) live n ++ steps ≡ call c f (tree.exprs_of (seen_exprs es)) s n ++ old
call_same c f es n s live old steps live_is steps_is =
    let args = tree.exprs_of (seen_exprs es) in
    (λ i. codes c args (live_is i) n ++ steps_is i) ∙ sym (append_assoc (codes c args s n) (call_step (target c.results f) f n (length es)) old)
    ∙ ap (λ (k : ℕ). (codes c args s n ++ call_step (target c.results f) f n k) ++ old) (sym (counted es))

-- a body, behind whose end null is given, and before which unused parameters are released
pub body_steps_same : (c : Context) (params : List tree.Param) (body : tree.Stmts ℕ) (variables free exit again : ℕ) (ends : Ends) (behind live : Variables) (end made steps : List Step) (unused : List ℕ)
    → free ≡ variables → behind ≡ [] → end ≡ gives_null free → ends ≡ nothing → exit ≡ length end → again ≡ length end → live ≡ live_all body behind ends
    → made ≡ stmts_code c body behind ends free (length end - exit) (length end - again) ++ end → unused ≡ unused_params live params → steps ≡ clear unused ++ made
    → steps ≡ clear (unused_params (live_all body [] nothing) params) ++ (stmts_code c body [] nothing variables 0 0 ++ gives_null variables)
body_steps_same c params body variables free exit again ends behind live end made steps unused free_is behind_is end_is ends_is exit_is again_is live_is made_is unused_is steps_is =
    let x : length end - exit ≡ 0 = omega arith in
    let y : length end - again ≡ 0 = omega arith in
    let null : end ≡ gives_null variables = end_is ∙ ap gives_null free_is in
    let l : live ≡ live_all body [] nothing = live_is ∙ (λ i. live_all body (behind_is i) (ends_is i)) in
    let m : made ≡ stmts_code c body [] nothing variables 0 0 ++ gives_null variables = made_is ∙ (λ i. stmts_code c body (behind_is i) (ends_is i) (free_is i) (x i) (y i) ++ null i) in
    let u : unused ≡ unused_params (live_all body [] nothing) params = unused_is ∙ ap (λ (v : Variables). unused_params v params) l in
    steps_is ∙ (λ i. clear (u i) ++ m i)
