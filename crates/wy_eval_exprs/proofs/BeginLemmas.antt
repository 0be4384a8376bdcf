-- What the test of a declaration begins with: the count of its arguments, and the variables at entry.
use Rattle.std.proofs.Common.{◌≡◌, ℕ, true, false, List, map, length, Some, sym, ap, ◌∙◌}
use Rattle.std.specs.Prelude.{nat_eq}
use Rattle.std.proofs.lemmas.Bool.{eqb-true, eq-eqb}
use Rattle.std.proofs.lemmas.List.{length-map}
use Rattle.wy_lemmas.proofs.Choices.{false_of}
use Rattle.wy_value.specs.Datum.{Datum}
use Rattle.wy_value.specs.declared.value.Value.{Value}
use Rattle.wy_value.specs.Seen.{seen}
use Rattle.wy_core.specs.CoreSeen.{seen_decl, seen_exprs, seen_param, seen_routine}
use Rattle.wy_core.specs.CoreTree as tree
use Rattle.wy_core.specs.CoreTree.{routines_of}
use Rattle.wy_core.specs.declared.declarations.Decl.{Decl}
use Rattle.wy_core.specs.declared.declarations.Param.{Param}
use Rattle.wy_core.specs.declared.declarations.Routine.{Routine}
use Rattle.wy_core.specs.declared.expressions.Expr.{Expr}
use Rattle.wy_sem.specs.Meter.{Meter, Done, Run}
use Rattle.wy_sem.specs.Evaluation.{Callee, bound, callee, entry_of}
use Rattle.wy_sem.specs.Expressions.{Store}
use Rattle.wy_sem.specs.Precondition as spec
use Rattle.wy_sem.specs.Precondition.{Verdict, CountFails, passed, requires_met, types_met}
use Rattle.wy_sem.specs.TypeTests.{clause_setting, unset}
use Rattle.wy_eval_exprs.specs.Settings.{here}

pub counts : (vs : List Value) (ps : List Param) → (length (map seen vs) ≡ length vs) × (length (map seen_param ps) ≡ length ps)
counts vs ps = (length-map vs seen, length-map ps seen_param)

pub count_right : (vs : List Value) (ps qs : List Param) → ps ≡ qs → length vs ≡ length ps → nat_eq (length (map seen vs)) (length (map seen_param qs)) ≡ true
count_right vs ps qs same h = eq-eqb (length (map seen vs)) (length (map seen_param qs)) ((counts vs qs).0 ∙ (h ∙ (ap length same ∙ sym (counts vs qs).1)))

pub count_wrong : (vs : List Value) (ps qs : List Param) → ps ≡ qs → (length vs ≡ length ps → ⊥) → nat_eq (length (map seen vs)) (length (map seen_param qs)) ≡ false
count_wrong vs ps qs same h =
    false_of (nat_eq (length (map seen vs)) (length (map seen_param qs)))
    (λ g. h (sym (counts vs qs).0 ∙ (eqb-true (length (map seen vs)) (length (map seen_param qs)) g ∙ ((counts vs qs).1 ∙ ap length (sym same)))))

-- what follows the types of the arguments
abbrev pub after_types : ℕ → List (tree.Alias ℕ) → tree.Routine ℕ → List Datum → Run Verdict
after_types limit types r vs = requires_met (clause_setting here (Some limit) types) r.preconditions (entry_of r vs) 1

pub counted : (limit : ℕ) (types : List (tree.Alias ℕ)) (r : Routine) (ps : List Param) (vs : List Value) (m : Meter) → ps ≡ r.params → length vs ≡ length ps
    → spec.routine_met here (Some limit) types (seen_routine r) (map seen vs) m ≡ types_met here (Some limit) types (map seen_param ps) (map seen vs) 1 (after_types limit types (seen_routine r) (map seen vs)) m
counted limit types r ps vs m same h =
    let next = after_types limit types (seen_routine r) (map seen vs) in
    ap (λ b. passed b CountFails (types_met here (Some limit) types (map seen_param r.params) (map seen vs) 1 next) m) (count_right vs ps r.params same h)
    ∙ ap (λ l. types_met here (Some limit) types (map seen_param l) (map seen vs) 1 next m) (sym same)

pub miscounted : (limit : ℕ) (types : List (tree.Alias ℕ)) (r : Routine) (ps : List Param) (vs : List Value) (m : Meter) → ps ≡ r.params → (length vs ≡ length ps → ⊥)
    → spec.routine_met here (Some limit) types (seen_routine r) (map seen vs) m ≡ Done CountFails m
miscounted limit types r ps vs m same h =
    ap (λ b. passed b CountFails (types_met here (Some limit) types (map seen_param r.params) (map seen vs) 1 (after_types limit types (seen_routine r) (map seen vs))) m) (count_wrong vs ps r.params same h)

-- the requires clauses, where these are the parts of the declaration
pub required : (limit : ℕ) (types : List (tree.Alias ℕ)) (r : Routine) (ps : List Param) (names : List (List ℕ)) (cs : List Expr) (vs : List Datum) (s : Store) (m : Meter) → ps ≡ r.params → names ≡ r.variables → cs ≡ r.preconditions
    → s ≡ bound (map seen_param ps) vs (unset names) → after_types limit types (seen_routine r) vs m ≡ requires_met (clause_setting here (Some limit) types) (seen_exprs cs) s 1 m
required limit types r ps names cs vs s m ps_is names_is cs_is s_is =
    let w = clause_setting here (Some limit) types in
    let same : s ≡ bound (map seen_param r.params) vs (unset r.variables) = s_is ∙ (ap (λ l. bound (map seen_param l) vs (unset names)) ps_is ∙ ap (λ l. bound (map seen_param r.params) vs (unset l)) names_is) in
    ap (λ l. requires_met w (seen_exprs l) (entry_of (seen_routine r) vs) 1 m) (sym cs_is) ∙ ap (λ z. requires_met w (seen_exprs cs) z 1 m) (sym same)

-- the declaration with a number, among these declarations
pub callee_there : (ds es : List Decl) (n : ℕ) (c : Callee ℕ) → ds ≡ es → callee (routines_of (map seen_decl ds)) n ≡ c → callee (routines_of (map seen_decl es)) n ≡ c
callee_there ds es n c same h = ap (λ l. callee (routines_of (map seen_decl l)) n) (sym same) ∙ h
