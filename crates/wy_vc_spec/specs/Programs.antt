-- What declarations owe, and the conditions of a program.
use Rattle.std.specs.Prelude.{ℕ, suc, List, [], ◌∷◌, ◌++◌, Bool, Option, Some, None, slice_index_or}
use Rattle.wy_sem.specs.wy_core.Types.{Ty, VoidTy}
use Rattle.wy_sem.specs.wy_core.CoreTree as tree
use Rattle.wy_sem.specs.wy_core.CoreTree.{Param, Alias, Routine, Decl, AliasDecl, RoutineDecl, Core, aliases_of, routines_of}
use Rattle.wy_sem.specs.wy_term.Term.{Term}
use Rattle.wy_sem.specs.Evaluation.{types_of}
use Rattle.wy_vc_spec.specs.Named.{is_number_type}
use Rattle.wy_vc_spec.specs.Numbered.{Node, numbered_core}
use Rattle.wy_vc_spec.specs.Making.{val_name}
use Rattle.wy_vc_spec.specs.Variables.{Vars, put, put_if}
use Rattle.wy_vc_spec.specs.Values.{Setting, word_at, word_if, variable}
use Rattle.wy_vc_spec.specs.Owed.{Owed}
use Rattle.wy_vc_spec.specs.Clauses.{assume_clauses, assume_in_type}
use Rattle.wy_vc_spec.specs.Walks.{Program}
use Rattle.wy_vc_spec.specs.Spots.{Spot, spot, assign, with_hyps}
use Rattle.wy_vc_spec.specs.Statements.{Body, Renewed, renewed, walk_clauses, leave, exec_all}

-- ---- types

-- what the clauses of a type owe, under the type's definition
abbrev pub alias_conditions : {N : Type 0} → Program N → Alias N → Option ℕ → List Owed
alias_conditions p a None = []
alias_conditions p a (Some x) =
    let start = assume_in_type p.setting a.ty (val_name (word_at a.variables x) 0) [] 1 in
    (walk_clauses p a.variables a.clauses (put [] x (val_name (word_at a.variables x) 0)) start.hyps start.count).owed

-- ---- where a contract and a body begin

-- the parameters take names
abbrev pub name_params : List (List ℕ) → List Param → Spot → ℕ → Renewed
name_params words [] p n = renewed n p
name_params words (x ∷ xs) p n = name_params words xs (assign x.variable (val_name (word_at words x.variable) n) p) (suc n)

-- each is of its type
abbrev pub assume_params : {N : Type 0} → Setting N → List Param → Spot → ℕ → Renewed
assume_params s [] p n = renewed n p
assume_params s (x ∷ xs) p n =
    let f = assume_in_type s x.ty (variable p.vars x.variable) p.hyps n in assume_params s xs (with_hyps f.hyps p) f.count

abbrev pub enter : {N : Type 0} → Setting N → Routine N → Renewed
enter s r = let start = name_params r.variables r.params (spot [] [] []) 0 in assume_params s r.params start.spot start.count

-- ---- contracts

abbrev pub result_word : List ℕ
result_word = 114 ∷ 101 ∷ 115 ∷ 117 ∷ 108 ∷ 116 ∷ []

-- the result takes a name, and is of its type
abbrev pub enter_result : {N : Type 0} → Setting N → Routine N → Option tree.Output → Vars → List Term → ℕ → Renewed
enter_result s r None vars hyps n = renewed n (spot hyps vars [])
enter_result s r (Some out) vars hyps n =
    let name = val_name (word_if r.variables out.variable result_word) n in
    let f = assume_in_type s out.ty name hyps (suc n) in renewed f.count (spot f.hyps (put_if vars out.variable name) [])

-- what ensures clauses owe; where there are none, the result has no name
abbrev pub ensures_conditions : {N : Type 0} → Program N → Routine N → List (tree.Expr N) → Vars → List Term → ℕ → List Owed
ensures_conditions p r [] vars hyps n = []
ensures_conditions p r (e ∷ es) vars hyps n =
    let start = enter_result p.setting r r.result vars hyps n in (walk_clauses p r.variables (e ∷ es) start.spot.vars start.spot.hyps start.count).owed

-- what the requires clauses owe, and then the ensures clauses
abbrev pub contract_conditions : {N : Type 0} → Program N → Routine N → List Owed
contract_conditions p r =
    let start = enter p.setting r in
    let first = walk_clauses p r.variables r.preconditions start.spot.vars start.spot.hyps start.count in
    first.owed ++ ensures_conditions p r r.postconditions start.spot.vars first.hyps first.count

-- ---- bodies

abbrev pub body_of : {N : Type 0} → Program N → Routine N → Vars → Body N
body_of p r entry = record { program = p; routine = r; types = types_of r; entry = entry }

-- the end of a body without a result counts as a `return` at its declaration; one of a body with a result is never reached
abbrev pub end_of : {N : Type 0} → Body N → Option tree.Output → Option Spot → ℕ → List Owed
end_of b None None n = []
end_of b None (Some p) n = (leave b b.routine.at None p.hyps n).owed
end_of b (Some out) p n = []

-- what the statements owe, where the requires clauses hold
abbrev pub body_conditions : {N : Type 0} → Program N → Routine N → List Owed
body_conditions p r =
    let start = enter p.setting r in
    let first = assume_clauses p.setting r.variables r.preconditions start.spot.vars start.spot.hyps start.count in
    let flow = exec_all (body_of p r start.spot.vars) [] r.body (with_hyps first.hyps start.spot) first.count in
    flow.owed ++ end_of (body_of p r start.spot.vars) r.result flow.ends flow.count

-- ---- programs

abbrev pub decl_conditions : {N : Type 0} → Program N → Decl N → List Owed
decl_conditions p (AliasDecl a) = alias_conditions p a a.variable
decl_conditions p (RoutineDecl r) = contract_conditions p r ++ body_conditions p r

abbrev pub decls_conditions : {N : Type 0} → Program N → List (Decl N) → List Owed
decls_conditions p [] = []
decls_conditions p (d ∷ ds) = decl_conditions p d ++ decls_conditions p ds

-- whether the expression with this number is a number, by its flow type
abbrev pub is_number_at : List Ty → Node → Bool
is_number_at flow k = is_number_type (slice_index_or flow k.number VoidTy)

abbrev pub setting_of : Core Node → List Ty → Setting Node
setting_of core flow = record { place = (λ k. k.at); is_number = is_number_at flow; types = aliases_of core }

abbrev pub program_of : Core Node → List Ty → Program Node
program_of core flow = record { setting = setting_of core flow; routines = routines_of core }

-- the conditions of a program whose expressions have these flow types, in the order of their numbers
abbrev pub conditions_of : Core ℕ → List Ty → List Owed
conditions_of core flow = decls_conditions (program_of (numbered_core core) flow) (numbered_core core)
