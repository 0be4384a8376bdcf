-- Lists that grow at their end, seen one by one, before what is still to come.
use Rattle.std.proofs.Common.{◌≡◌, ℕ, List, [], ◌∷◌, ◌++◌, map, refl, ap}
use Rattle.wy_core.specs.CoreTree as core
use Rattle.wy_core.specs.CoreSeen.{seen_expr, seen_stmt, seen_step, seen_param}
use Rattle.wy_core.specs.declared.expressions.Expr.{Expr}
use Rattle.wy_core.specs.declared.statements.Stmt.{Stmt}
use Rattle.wy_core.specs.declared.statements.Step.{Step}
use Rattle.wy_core.specs.declared.declarations.Param.{Param}
use Rattle.wy_names_lower.specs.declared.quantifiers.Head as head
use Rattle.wy_names_lower.specs.declared.choices.Arm as arm
use Rattle.wy_names_lower.specs.ExprsLowered.{Head}
use Rattle.wy_names_lower.specs.StmtsLowered.{Arm}
use Rattle.wy_names_lower.specs.SeenPairs.{seen_head, seen_arm}

more_by : {A B : Type 0} (f : A → B) (xs : List A) (x : A) (rest : List B) → map f (xs ++ x ∷ []) ++ rest ≡ map f xs ++ f x ∷ rest
more_by f [] x rest = refl
more_by f (y ∷ ys) x rest = ap (λ l. f y ∷ l) (more_by f ys x rest)

pub exprs_more : (xs : List Expr) (x : Expr) (rest : List (core.Expr ℕ)) → map seen_expr (xs ++ x ∷ []) ++ rest ≡ map seen_expr xs ++ seen_expr x ∷ rest
exprs_more xs x rest = more_by seen_expr xs x rest

pub steps_more : (xs : List Step) (x : Step) (rest : List (core.Step ℕ)) → map seen_step (xs ++ x ∷ []) ++ rest ≡ map seen_step xs ++ seen_step x ∷ rest
steps_more xs x rest = more_by seen_step xs x rest

pub heads_more : (xs : List head.Head) (x : head.Head) (rest : List Head) → map seen_head (xs ++ x ∷ []) ++ rest ≡ map seen_head xs ++ seen_head x ∷ rest
heads_more xs x rest = more_by seen_head xs x rest

pub arms_more : (xs : List arm.Arm) (x : arm.Arm) (rest : List Arm) → map seen_arm (xs ++ x ∷ []) ++ rest ≡ map seen_arm xs ++ seen_arm x ∷ rest
arms_more xs x rest = more_by seen_arm xs x rest

pub params_more : (xs : List Param) (x : Param) (rest : List core.Param) → map seen_param (xs ++ x ∷ []) ++ rest ≡ map seen_param xs ++ seen_param x ∷ rest
params_more xs x rest = more_by seen_param xs x rest

pub stmts_more : (xs ys : List Stmt) (rest : List (core.Stmt ℕ)) → map seen_stmt (xs ++ ys) ++ rest ≡ map seen_stmt xs ++ (map seen_stmt ys ++ rest)
stmts_more [] ys rest = refl
stmts_more (x ∷ xs) ys rest = ap (λ l. seen_stmt x ∷ l) (stmts_more xs ys rest)
