-- What a program owes has formulas alone.
use Rattle.std.proofs.Common.{ℕ, suc, List, [], ◌∷◌, Option, Some, None}
use Rattle.wy_vc_spec.specs.wy_core.Types.{Ty}
use Rattle.wy_vc_spec.specs.wy_core.CoreTree as tree
use Rattle.wy_vc_spec.specs.wy_core.CoreTree.{Param, Alias, Routine, Decl, AliasDecl, RoutineDecl, Core}
use Rattle.wy_term_subst.specs.wy_term.Term.{Term}
use Rattle.wy_term_subst.specs.wy_term.Sorts.{formula_sort}
use Rattle.wy_vc_spec.specs.Numbered.{numbered_core}
use Rattle.wy_vc_spec.specs.Making.{val_name}
use Rattle.wy_vc_spec.specs.Variables.{Vars}
use Rattle.wy_vc_spec.specs.Values.{Setting, word_at, word_if, variable}
use Rattle.wy_vc_spec.specs.Clauses.{assume_clauses, assume_in_type}
use Rattle.wy_vc_spec.specs.Walks.{Program}
use Rattle.wy_vc_spec.specs.Spots.{Spot, spot, with_hyps}
use Rattle.wy_vc_spec.specs.Statements.{Body, walk_clauses, exec_all}
use Rattle.wy_vc_spec.specs.Programs.{alias_conditions, name_params, assume_params, enter, result_word, enter_result, ensures_conditions, contract_conditions, body_of, end_of, body_conditions, decl_conditions, decls_conditions, program_of, conditions_of}
use Rattle.wy_sound_terms.proofs.formed_lemmas.MakingLemmas.{AllOf, none, val_name_sorted}
use Rattle.wy_sound_terms.proofs.formed_lemmas.ValueLemmas.{AreData, no_data, put_data, put_if_data, variable_sorted}
use Rattle.wy_sound_terms.proofs.formed_lemmas.WalkLemmas.{AreOwed, nothing, owed_before, clauses_assumed, type_assumed}
use Rattle.wy_sound_terms.proofs.formed_lemmas.JoinLemmas.{IsKnown, IsKnownIf, nowhere, somewhere}
use Rattle.wy_sound_terms.proofs.formed_lemmas.StatementLemmas.{IsRenewed, no_value, leave_owed, walked_clauses, block_known}

-- ---- types

alias_owed : {N : Type 0} (p : Program N) (a : Alias N) (x : Option ℕ) → AreOwed (alias_conditions p a x)
alias_owed p a None = nothing
alias_owed p a (Some x) =
    let name = val_name_sorted (word_at a.variables x) 0 in
    let start = type_assumed p.setting a.ty 1 name none in
    (walked_clauses p a.variables a.clauses (assume_in_type p.setting a.ty (val_name (word_at a.variables x) 0) [] 1).count (put_data x no_data name) start.hyps).owed

-- ---- where a contract and a body begin

params_named : (words : List (List ℕ)) (ps : List Param) (n : ℕ) {p : Spot} → IsKnown p → IsRenewed (name_params words ps p n)
params_named words [] n known = record { spot = known }
params_named words (x ∷ xs) n known = params_named words xs (suc n) (record { hyps = known.hyps; vars = put_data x.variable known.vars (val_name_sorted (word_at words x.variable) n) })

params_assumed : {N : Type 0} (s : Setting N) (ps : List Param) (n : ℕ) {p : Spot} → IsKnown p → IsRenewed (assume_params s ps p n)
params_assumed s [] n known = record { spot = known }
params_assumed s (x ∷ xs) n {p} known =
    let typed = type_assumed s x.ty n (variable_sorted known.vars x.variable) known.hyps in
    params_assumed s xs (assume_in_type s x.ty (variable p.vars x.variable) p.hyps n).count (record { hyps = typed.hyps; vars = known.vars })

entered : {N : Type 0} (s : Setting N) (r : Routine N) → IsRenewed (enter s r)
entered s r = params_assumed s r.params (name_params r.variables r.params (spot [] [] []) 0).count (params_named r.variables r.params 0 (record { hyps = none; vars = no_data })).spot

-- ---- contracts

result_entered : {N : Type 0} (s : Setting N) (r : Routine N) (out : Option tree.Output) (n : ℕ) {vars : Vars} {hyps : List Term} → AreData vars → AllOf formula_sort hyps → IsRenewed (enter_result s r out vars hyps n)
result_entered s r None n d all = record { spot = record { hyps = all; vars = d } }
result_entered s r (Some out) n d all =
    let name = val_name_sorted (word_if r.variables out.variable result_word) n in
    record { spot = record { hyps = (type_assumed s out.ty (suc n) name all).hyps; vars = put_if_data out.variable d name } }

ensures_owed : {N : Type 0} (p : Program N) (r : Routine N) (es : List (tree.Expr N)) (n : ℕ) {vars : Vars} {hyps : List Term} → AreData vars → AllOf formula_sort hyps → AreOwed (ensures_conditions p r es vars hyps n)
ensures_owed p r [] n d all = nothing
ensures_owed p r (e ∷ es) n {vars} {hyps} d all =
    let start = (result_entered p.setting r r.result n d all).spot in
    (walked_clauses p r.variables (e ∷ es) (enter_result p.setting r r.result vars hyps n).count start.vars start.hyps).owed

contract_owed : {N : Type 0} (p : Program N) (r : Routine N) → AreOwed (contract_conditions p r)
contract_owed p r =
    let e = enter p.setting r in
    let start = (entered p.setting r).spot in
    let first = walked_clauses p r.variables r.preconditions e.count start.vars start.hyps in
    owed_before first.owed (ensures_owed p r r.postconditions (walk_clauses p r.variables r.preconditions e.spot.vars e.spot.hyps e.count).count start.vars first.hyps)

-- ---- bodies

end_owed : {N : Type 0} (b : Body N) → AreData b.entry → (out : Option tree.Output) (n : ℕ) {o : Option Spot} → IsKnownIf o → AreOwed (end_of b out o n)
end_owed b entry None n nowhere = nothing
end_owed b entry None n (somewhere known) = (leave_owed b entry b.routine.at n no_value known.hyps).owed
end_owed b entry (Some out) n h = nothing

body_owed : {N : Type 0} (p : Program N) (r : Routine N) → AreOwed (body_conditions p r)
body_owed p r =
    let e = enter p.setting r in
    let start = (entered p.setting r).spot in
    let first = assume_clauses p.setting r.variables r.preconditions e.spot.vars e.spot.hyps e.count in
    let given = clauses_assumed p.setting r.variables r.preconditions e.count start.vars start.hyps in
    let b = body_of p r e.spot.vars in
    let flow = block_known b start.vars [] r.body first.count {p = with_hyps first.hyps e.spot} (record { hyps = given.hyps; vars = start.vars }) in
    owed_before flow.owed (end_owed b start.vars r.result (exec_all b [] r.body (with_hyps first.hyps e.spot) first.count).count flow.ends)

-- ---- programs

decl_owed : {N : Type 0} (p : Program N) (d : Decl N) → AreOwed (decl_conditions p d)
decl_owed p (AliasDecl a) = alias_owed p a a.variable
decl_owed p (RoutineDecl r) = owed_before (contract_owed p r) (body_owed p r)

decls_owed : {N : Type 0} (p : Program N) (ds : List (Decl N)) → AreOwed (decls_conditions p ds)
decls_owed p [] = nothing
decls_owed p (d ∷ ds) = owed_before (decl_owed p d) (decls_owed p ds)

pub program_owed : (core : Core ℕ) (flow : List Ty) → AreOwed (conditions_of core flow)
program_owed core flow = decls_owed (program_of (numbered_core core) flow) (numbered_core core)
