-- The types of expressions behind a declaration are those before it, and as many more as it has expressions.
use Rattle.std.proofs.Common.{◌≡◌, ℕ, ◌+◌, List, [], ◌∷◌, false, Option, Some, None, is_some, sym, subst}
use Rattle.wy_core.specs.Types.{Ty}
use Rattle.wy_core.specs.CoreTree.{Expr, Alias, Routine, Decl, AliasDecl, RoutineDecl}
use Rattle.wy_flow_spec.specs.environment.Variables.{Environment, nothing_known}
use Rattle.wy_flow_spec.specs.typing.Outcomes.{Gives}
use Rattle.wy_flow_spec.specs.typing.Contexts.{Program}
use Rattle.wy_flow_spec.specs.typing.States.{State}
use Rattle.wy_flow_spec.specs.typing.Loops.{ClausesTyped}
use Rattle.wy_flow_spec.specs.typing.Statements.{TypedBlock}
use Rattle.wy_flow_spec.specs.typing.Programs as typing
use Rattle.wy_flow_spec.specs.typing.Programs.{result_type, WithParams, WithResult, RoutineTyped, AliasTyped, DeclTyped, DeclsTyped}
use Rattle.wy_sound_programs.specs.wy_sem.TypeTests.{has_clauses}
use Rattle.wy_sound_programs.specs.wy_vc_spec.Sizes.{exprs_in_list, exprs_in_block}
use Rattle.wy_sound_programs.specs.wy_vc_spec.Numbered.{exprs_in_decl}
use Rattle.wy_sound_programs.proofs.wy_sound_kinds_proofs.TypeLemmas.{then_gives, given_is}
use Rattle.wy_sound_programs.proofs.wy_sound_kinds_proofs.suits_lemmas.FlowLemmas.{FlowAll}
use Rattle.wy_sound_programs.proofs.GrewLemmas.{flow_none, flow_more, flow_clauses, all_grew}

-- ---- a function or method

-- what typing finds of a function or method behind these expressions
pub record Found (p : Program) (r : Routine ℕ) (before out : List Ty) : Type 0 where
  pub env : Environment
  pub first : List Ty
  pub behind : Environment
  pub second : List Ty
  pub end : State
  pub params : WithParams p.names r.params nothing_known (Gives env)
  pub preconditions : ClausesTyped p env r.preconditions before (Gives first)
  pub result : WithResult p.names env r.result (Gives behind)
  pub postconditions : ClausesTyped p behind r.postconditions first (Gives second)
  pub body : TypedBlock p (result_type r.result) r.body (typing.entry r env second) (Gives end)
  pub is : out ≡ end.flow

pub found : (p : Program) (r : Routine ℕ) (before out : List Ty) → RoutineTyped p r before (Gives out) → Found p r before out
found p r before out h =
    let a = then_gives _ _ out h in
    let b = then_gives _ _ out a.2 in
    let c = then_gives _ _ out b.2 in
    let d = then_gives _ _ out c.2 in
    let e = then_gives _ _ out d.2 in
    record { env = a.0; first = b.0; behind = c.0; second = d.0; end = e.0; params = a.1; preconditions = b.1; result = c.1; postconditions = d.1; body = e.1; is = given_is out e.0.flow e.2 }

pub first_flow : (p : Program) (r : Routine ℕ) (before out : List Ty) (h : Found p r before out) → FlowAll (exprs_in_list r.preconditions) before h.first
first_flow p r before out h = flow_clauses p h.env r.preconditions before h.first h.preconditions

pub second_flow : (p : Program) (r : Routine ℕ) (before out : List Ty) (h : Found p r before out) → FlowAll (exprs_in_list r.postconditions) h.first h.second
second_flow p r before out h = flow_clauses p h.behind r.postconditions h.first h.second h.postconditions

pub body_flow : (p : Program) (r : Routine ℕ) (before out : List Ty) (h : Found p r before out) → FlowAll (exprs_in_block r.body) h.second h.end.flow
body_flow p r before out h = (all_grew p (result_type r.result) r.body (typing.entry r h.env h.second) h.end h.body).flow

pub contract_flow : (p : Program) (r : Routine ℕ) (before out : List Ty) (h : Found p r before out) → FlowAll (exprs_in_list r.preconditions + exprs_in_list r.postconditions) before h.second
contract_flow p r before out h =
    flow_more (exprs_in_list r.preconditions) (exprs_in_list r.postconditions) before h.first h.second (first_flow p r before out h) (second_flow p r before out h)

pub routine_flow : (p : Program) (r : Routine ℕ) (before out : List Ty) → Found p r before out → FlowAll (exprs_in_decl (RoutineDecl r)) before out
routine_flow p r before out h =
    subst (FlowAll (exprs_in_decl (RoutineDecl r)) before) (sym h.is)
    (flow_more (exprs_in_list r.preconditions + exprs_in_list r.postconditions) (exprs_in_block r.body) before h.second h.end.flow (contract_flow p r before out h) (body_flow p r before out h))

-- ---- a type

-- the type has a variable exactly where it has clauses
abbrev pub HasVariable : Alias ℕ → Type 0
HasVariable a = is_some a.variable ≡ has_clauses a.clauses

pub alias_flow : (p : Program) (a : Alias ℕ) (x : Option ℕ) (before out : List Ty) → is_some x ≡ has_clauses a.clauses → AliasTyped p a before x (Gives out) → FlowAll (exprs_in_list a.clauses) before out
alias_flow p a None before out has h = by a.clauses has where
  by : (es : List (Expr ℕ)) → false ≡ has_clauses es → FlowAll (exprs_in_list es) before out
  by [] e = subst (FlowAll 0 before) (sym (given_is out before h)) (flow_none before)
  by (c ∷ es) e = absurd cc
alias_flow p a (Some x) before out has h = let t = then_gives _ _ out h in flow_clauses p t.0 a.clauses before out t.2

-- ---- a declaration

abbrev pub IsWell : Decl ℕ → Type 0
IsWell (AliasDecl a) = HasVariable a
IsWell (RoutineDecl r) = Unit {0}

pub decl_flow : (p : Program) (d : Decl ℕ) (before out : List Ty) → IsWell d → DeclTyped p d before (Gives out) → FlowAll (exprs_in_decl d) before out
decl_flow p (AliasDecl a) before out well h = alias_flow p a a.variable before out well h
decl_flow p (RoutineDecl r) before out well h = routine_flow p r before out (found p r before out h)
