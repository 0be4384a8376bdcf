-- What a typed statement consists of.
use Rattle.std.proofs.Common.{◌≡◌, ℕ, List, [], ◌∷◌, ◌++◌, Bool, true, false, cond, Option, Some, None, refl, sym, ap, ◌∙◌, subst}
use Rattle.wy_core.specs.Types.{Ty, BoolTy, IntTy, AnyTy, ArrayTy, InterTy}
use Rattle.wy_core.specs.CoreTree.{Expr, Exprs, Step, IndexStep, FieldStep, Stmts, IfStmt, WhileStmt}
use Rattle.wy_lemmas.proofs.Lists.{none_behind as nil_right}
use Rattle.wy_types.specs.Names.{Declared}
use Rattle.wy_types.specs.Questions.{IsWideWithin}
use Rattle.wy_subtype_parts.specs.Norms.{IsNorm}
use Rattle.wy_subtype_parts.specs.Items.{IsElement}
use Rattle.wy_subtype_parts.specs.Fields.{AllHave, IsField}
use Rattle.wy_sound_statements.specs.wy_flow_spec.environment.Slots.{slot_at}
use Rattle.wy_sound_statements.specs.wy_flow_spec.environment.Variables.{Environment, given, changed, type_of}
use Rattle.wy_sound_statements.specs.wy_flow_spec.typing.Outcomes.{Gives, Give, Then}
use Rattle.wy_sound_statements.specs.wy_flow_spec.typing.Contexts.{Program, Found, FoundAll}
use Rattle.wy_sound_statements.specs.wy_flow_spec.typing.Asked.{IsInside, Norm}
use Rattle.wy_sound_statements.specs.wy_flow_spec.typing.Calls.{FitCall}
use Rattle.wy_sound_statements.specs.wy_flow_spec.typing.Joins.{Joined}
use Rattle.wy_sound_statements.specs.wy_flow_spec.typing.Expressions.{TypedExpr, TypedExprs, none_yet}
use Rattle.wy_sound_statements.specs.wy_flow_spec.typing.States.{State, left, declare, with_flow, with_env, GiveNormal, ComesInto, Tested}
use Rattle.wy_sound_statements.specs.wy_flow_spec.typing.Assigned.{assigned_in}
use Rattle.wy_sound_statements.specs.wy_flow_spec.typing.Loops.{Head, Exit, ClausesTyped, Begun, begun}
use Rattle.wy_sound_statements.specs.wy_flow_spec.typing.Paths.{Reached, StepType, step_more, PathTypes, TypesAlong, Updated}
use Rattle.wy_sound_statements.specs.wy_flow_spec.typing.Statements.{DeclareTyped, WholeTyped, IntoDeclared, NewDeclared, PartTyped, CallTyped, ReturnTyped, FitsResult, AssertTyped, branches, TypedStmt, TypedBlock}
use Rattle.wy_sound_statements.proofs.wy_sound_kinds_proofs.TypeLemmas.{then_gives, given_is, append_assoc}

-- a test, which is a truth value
pub record Test (p : Program) (env : Environment) (flow : List Ty) (e : Expr ℕ) (v : Found) : Type 0 where
  pub typed : TypedExpr p env e [] flow (Gives v)
  pub within : (IsWideWithin p.names v.ty BoolTy → ⊥) × IsInside p.names v.ty BoolTy

pub test_parts : (p : Program) (at : ℕ) (env : Environment) (flow : List Ty) (e : Expr ℕ) (v : Found) → Tested p at env flow e (Gives v) → Test p env flow e v
test_parts p at env flow e v h =
    let t = then_gives _ _ v h in
    let u = then_gives _ _ v t.2 in
    subst (Test p env flow e) (sym (given_is v t.0 u.2)) (record { typed = t.1; within = u.1 })

-- the variable has a normal type, where a path gets
pub record Normal (names : List Declared) (x : ℕ) (t : Ty) (env out : Environment) : Type 0 where
  pub made : Ty
  pub normal : IsNorm names t made
  pub is : out ≡ given env x made

pub normal_parts : (names : List Declared) (at x : ℕ) (t : Ty) (env out : Environment) → env.reached ≡ true → GiveNormal names at x t env (Gives out) → Normal names x t env out
normal_parts names at x t env out e h =
    let u = then_gives _ _ out (subst (λ (b : Bool). cond b (Then (Norm names at t) (λ made. Give (given env x made)) (Gives out)) (Give env (Gives out))) e h) in
    record { made = u.0; normal = u.1.1; is = given_is out (given env x u.0) u.2 }

pub normal_dead : (names : List Declared) (at x : ℕ) (t : Ty) (env out : Environment) → env.reached ≡ false → GiveNormal names at x t env (Gives out) → out ≡ env
normal_dead names at x t env out e h = given_is out env (subst (λ (b : Bool). cond b (Then (Norm names at t) (λ made. Give (given env x made)) (Gives out)) (Give env (Gives out))) e h)

-- a value that comes into a variable of a declared type
pub record Comes (names : List Declared) (at x : ℕ) (v declared : Ty) (env out : Environment) : Type 0 where
  pub inside : IsInside names v declared
  pub normal : GiveNormal names at x (InterTy v declared) env (Gives out)

pub comes_parts : (names : List Declared) (at x : ℕ) (v declared : Ty) (env out : Environment) → ComesInto names at x v declared env (Gives out) → Comes names at x v declared env out
comes_parts names at x v declared env out h = let t = then_gives _ _ out h in record { inside = t.1.1; normal = t.2 }

pub record Declaration (p : Program) (at : ℕ) (t : Ty) (x : ℕ) (s : State) (e : Expr ℕ) (out : State) : Type 0 where
  pub v : Found
  pub env : Environment
  pub typed : TypedExpr p s.env e [] s.flow (Gives v)
  pub comes : Comes p.names at x v.ty t s.env env
  pub is : out ≡ declare x t (with_env env (with_flow v.flow s))

pub declaration_parts : (p : Program) (at : ℕ) (t : Ty) (x : ℕ) (s : State) (e : Expr ℕ) (out : State) → DeclareTyped p at t x s (Some e) (Gives out) → Declaration p at t x s e out
declaration_parts p at t x s e out h =
    let a = then_gives _ _ out h in
    let c = then_gives _ _ out a.2 in
    record { v = a.0; env = c.0; typed = a.1; comes = comes_parts p.names at x a.0.ty t s.env c.0 c.1; is = given_is out (declare x t (with_env c.0 (with_flow a.0.flow s))) c.2 }

-- a declaration without a value
pub record Unset (p : Program) (at : ℕ) (t : Ty) (x : ℕ) (s out : State) : Type 0 where
  pub env : Environment
  pub normal : GiveNormal p.names at x t s.env (Gives env)
  pub is : out ≡ declare x t (with_env env s)

pub unset_parts : (p : Program) (at : ℕ) (t : Ty) (x : ℕ) (s out : State) → DeclareTyped p at t x s None (Gives out) → Unset p at t x s out
unset_parts p at t x s out h = let a = then_gives _ _ out h in record { env = a.0; normal = a.1; is = given_is out (declare x t (with_env a.0 s)) a.2 }

pub record Assignment (p : Program) (at x : ℕ) (e : Expr ℕ) (s out : State) : Type 0 where
  pub v : Found
  pub env : Environment
  pub typed : TypedExpr p s.env e [] s.flow (Gives v)
  pub into : IntoDeclared p.names at x v.ty s.env (slot_at s.declared x) (Gives env)
  pub is : out ≡ with_env env (with_flow v.flow s)

pub assignment_parts : (p : Program) (at x : ℕ) (e : Expr ℕ) (s out : State) → WholeTyped p at x e s (Gives out) → Assignment p at x e s out
assignment_parts p at x e s out h =
    let a = then_gives _ _ out h in
    let c = then_gives _ _ out a.2 in
    record { v = a.0; env = c.0; typed = a.1; into = c.1; is = given_is out (with_env c.0 (with_flow a.0.flow s)) c.2 }

-- into a variable that is declared
pub into_parts : (names : List Declared) (at x : ℕ) (v t : Ty) (env : Environment) (o : Option Ty) (out : Environment) → o ≡ Some t → IntoDeclared names at x v env o (Gives out) → Comes names at x v t env out
into_parts names at x v t env o out e h = comes_parts names at x v t env out (subst (λ (y : Option Ty). IntoDeclared names at x v env y (Gives out)) e h)

pub record Update (p : Program) (at x : ℕ) (path : List (Step ℕ)) (e : Expr ℕ) (s out : State) : Type 0 where
  pub along : FoundAll
  pub v : Found
  pub ty : Ty
  pub env : Environment
  pub types : TypesAlong p s.env path s.flow (type_of s.env [] x) (Gives along)
  pub typed : TypedExpr p s.env e [] along.flow (Gives v)
  pub updated : Updated p.names at path along.types v.ty (Gives ty)
  pub new : NewDeclared p.names at x ty s.env (slot_at s.declared x) (Gives env)
  pub is : out ≡ with_env env (with_flow v.flow s)

pub update_parts : (p : Program) (at x : ℕ) (path : List (Step ℕ)) (e : Expr ℕ) (s out : State) → PartTyped p at x path e s (Gives out) → Update p at x path e s out
update_parts p at x path e s out h =
    let a = then_gives _ _ out h in
    let c = then_gives _ _ out a.2 in
    let d = then_gives _ _ out c.2 in
    let f = then_gives _ _ out d.2 in
    record { along = a.0; v = c.0; ty = d.0; env = f.0; types = a.1; typed = c.1; updated = d.1; new = f.1; is = given_is out (with_env f.0 (with_flow c.0.flow s)) f.2 }

-- a part of a variable that is declared has a new value
pub new_parts : (names : List Declared) (at x : ℕ) (v t : Ty) (env : Environment) (o : Option Ty) (out : Environment) → env.reached ≡ true → o ≡ Some t → NewDeclared names at x v env o (Gives out) → Normal names x v env out
new_parts names at x v t env o out e q h =
    let u = then_gives _ _ out (subst (λ (y : Option Ty). NewDeclared names at x v env y (Gives out)) q h) in normal_parts names at x v env out e u.2

-- which is of the declared type
pub new_inside : (names : List Declared) (at x : ℕ) (v t : Ty) (env : Environment) (o : Option Ty) (out : Environment) → o ≡ Some t → NewDeclared names at x v env o (Gives out) → IsInside names v t
new_inside names at x v t env o out q h = (then_gives _ _ out (subst (λ (y : Option Ty). NewDeclared names at x v env y (Gives out)) q h)).1.1

pub record Call (p : Program) (at f : ℕ) (es : Exprs ℕ) (s out : State) : Type 0 where
  pub all : FoundAll
  pub done : Unit {0}
  pub typed : TypedExprs p s.env es [] (none_yet s.flow) (Gives all)
  pub fit : FitCall p at f all.types (Gives done)
  pub is : out ≡ with_flow all.flow s

pub call_parts : (p : Program) (at f : ℕ) (es : Exprs ℕ) (s out : State) → CallTyped p at f es s (Gives out) → Call p at f es s out
call_parts p at f es s out h =
    let a = then_gives _ _ out h in
    let c = then_gives _ _ out a.2 in
    record { all = a.0; done = c.0; typed = a.1; fit = c.1; is = given_is out (with_flow a.0.flow s) c.2 }

pub record Return (p : Program) (at : ℕ) (result : Option Ty) (e : Expr ℕ) (s out : State) : Type 0 where
  pub v : Found
  pub done : Unit {0}
  pub typed : TypedExpr p s.env e [] s.flow (Gives v)
  pub fits : FitsResult p.names at v.ty result (Gives done)
  pub is : out ≡ left (with_flow v.flow s)

pub return_parts : (p : Program) (at : ℕ) (result : Option Ty) (e : Expr ℕ) (s out : State) → ReturnTyped p at result s (Some e) (Gives out) → Return p at result e s out
return_parts p at result e s out h =
    let a = then_gives _ _ out h in
    let c = then_gives _ _ out a.2 in
    record { v = a.0; done = c.0; typed = a.1; fits = c.1; is = given_is out (left (with_flow a.0.flow s)) c.2 }

pub record Assertion (p : Program) (at : ℕ) (e : Expr ℕ) (s out : State) : Type 0 where
  pub v : Found
  pub test : Test p s.env s.flow e v
  pub is : out ≡ with_env (changed s.env v.yes) (with_flow v.flow s)

pub assertion_parts : (p : Program) (at : ℕ) (e : Expr ℕ) (s out : State) → AssertTyped p at e s (Gives out) → Assertion p at e s out
assertion_parts p at e s out h =
    let a = then_gives _ _ out h in
    record { v = a.0; test = test_parts p at s.env s.flow e a.0 a.1; is = given_is out (with_env (changed s.env a.0.yes) (with_flow a.0.flow s)) a.2 }

-- where a test is true, and where it is false behind another block
abbrev pub on_yes : State → Found → State
on_yes s v = with_env (changed s.env v.yes) (with_flow v.flow s)

abbrev pub on_no : State → Found → State → State
on_no s v one = with_env (changed s.env v.no) one

pub record Branches (p : Program) (result : Option Ty) (at : ℕ) (e : Expr ℕ) (first second : Stmts ℕ) (s out : State) : Type 0 where
  pub v : Found
  pub one : State
  pub two : State
  pub env : Environment
  pub test : Test p s.env s.flow e v
  pub on_first : TypedBlock p result first (on_yes s v) (Gives one)
  pub on_second : TypedBlock p result second (on_no s v one) (Gives two)
  pub joined : Joined p.names at one.env two.env (Gives env)
  pub is : out ≡ with_env env two

pub if_parts : (p : Program) (result : Option Ty) (at : ℕ) (e : Expr ℕ) (first second : Stmts ℕ) (s out : State) → TypedStmt p result (IfStmt at e first second) s (Gives out) → Branches p result at e first second s out
if_parts p result at e first second s out h =
    let x = then_gives _ _ out h in
    let t = then_gives _ _ x.0 x.1 in
    let is = given_is x.0 (branches s t.0) t.2 in
    let a = then_gives _ _ out x.2 in
    let c = then_gives _ _ out a.2 in
    let j = then_gives _ _ out c.2 in
    record {
      v = t.0;
      one = a.0;
      two = c.0;
      env = j.0;
      test = test_parts p at s.env s.flow e t.0 t.1;
      on_first = subst (λ (y : State). TypedBlock p result first y (Gives a.0)) (ap (λ (y : Begun). y.inside) is) a.1;
      on_second = subst (λ (y : Environment). TypedBlock p result second (with_env y a.0) (Gives c.0)) (ap (λ (y : Begun). y.outside) is) c.1;
      joined = j.1;
      is = given_is out (with_env j.0 c.0) j.2;
    }

-- where the body of a loop begins
abbrev pub in_loop : State → Environment → Found → List Ty → State
in_loop s start v flow = record { env = changed start v.yes; declared = s.declared; breaks = []; flow = flow }

pub record Loop (p : Program) (result : Option Ty) (at : ℕ) (e : Expr ℕ) (invariants : List (Expr ℕ)) (body : Stmts ℕ) (s out : State) : Type 0 where
  pub start : Environment
  pub v : Found
  pub flow : List Ty
  pub turn : State
  pub env : Environment
  pub head : Head p.names at s (assigned_in body []) (Gives start)
  pub test : Test p start s.flow e v
  pub clauses : ClausesTyped p start invariants v.flow (Gives flow)
  pub typed : TypedBlock p result body (in_loop s start v flow) (Gives turn)
  pub exit : Exit p.names at turn.breaks (changed start v.no) (Gives env)
  pub is : out ≡ record turn { env = env; breaks = s.breaks }

pub loop_parts : (p : Program) (result : Option Ty) (at : ℕ) (e : Expr ℕ) (invariants : List (Expr ℕ)) (body : Stmts ℕ) (s out : State) → TypedStmt p result (WhileStmt at e invariants body) s (Gives out) → Loop p result at e invariants body s out
loop_parts p result at e invariants body s out h =
    let x = then_gives _ _ out h in
    let a = then_gives _ _ x.0 x.1 in
    let t = then_gives _ _ x.0 a.2 in
    let c = then_gives _ _ x.0 t.2 in
    let is = given_is x.0 (begun s a.0 t.0 c.0) c.2 in
    let d = then_gives _ _ out x.2 in
    let j = then_gives _ _ out d.2 in
    record {
      start = a.0;
      v = t.0;
      flow = c.0;
      turn = d.0;
      env = j.0;
      head = a.1;
      test = test_parts p at a.0 s.flow e t.0 t.1;
      clauses = c.1;
      typed = subst (λ (y : State). TypedBlock p result body y (Gives d.0)) (ap (λ (y : Begun). y.inside) is) d.1;
      exit = subst (λ (y : Environment). Exit p.names at d.0.breaks y (Gives j.0)) (ap (λ (y : Begun). y.outside) is) j.1;
      is = given_is out (record d.0 { env = j.0; breaks = s.breaks }) j.2;
    }

-- a step to an item
pub record Item (p : Program) (env : Environment) (flow : List Ty) (t : Ty) (e : Expr ℕ) (out : Reached) : Type 0 where
  pub v : Found
  pub ty : Ty
  pub typed : TypedExpr p env e [] flow (Gives v)
  pub is_array : IsInside p.names t (ArrayTy AnyTy)
  pub is_int : IsInside p.names v.ty IntTy
  pub element : IsElement p.names t ty
  pub is : out ≡ record { ty = ty; flow = v.flow }

pub index_parts : (p : Program) (env : Environment) (flow : List Ty) (t : Ty) (at : ℕ) (e : Expr ℕ) (out : Reached) → StepType p env flow t (IndexStep at e) (Gives out) → Item p env flow t e out
index_parts p env flow t at e out h =
    let a = then_gives _ _ out h in
    let c = then_gives _ _ out a.2 in
    let x = then_gives _ _ c.0 c.1 in
    let y = then_gives _ _ c.0 x.2 in
    record { v = a.0; ty = c.0; typed = a.1; is_array = x.1.1; is_int = y.1.1; element = y.2.1; is = given_is out (record { ty = c.0; flow = a.0.flow }) c.2 }

-- a step to a field
pub record Taken (p : Program) (flow : List Ty) (t : Ty) (f : List ℕ) (out : Reached) : Type 0 where
  pub ty : Ty
  pub all : AllHave p.names f t
  pub taken : IsField p.names f t ty
  pub is : out ≡ record { ty = ty; flow = flow }

pub field_parts : (p : Program) (env : Environment) (flow : List Ty) (t : Ty) (at : ℕ) (f : List ℕ) (out : Reached) → StepType p env flow t (FieldStep at f) (Gives out) → Taken p flow t f out
field_parts p env flow t at f out h =
    let a = then_gives _ _ out h in record { ty = a.0; all = a.1.1; taken = a.1.2; is = given_is out (record { ty = a.0; flow = flow }) a.2 }

-- the types along a path
abbrev pub Steps : Program → Environment → List (Step ℕ) → Ty → List Ty → List Ty → List Ty → Type 0
Steps p env [] t flow rest out = (rest ≡ []) × (out ≡ flow)
Steps p env (step ∷ steps) t flow rest out = (r : Reached) × (more : List Ty) × StepType p env flow t step (Gives r) × (rest ≡ r.ty ∷ more) × Steps p env steps r.ty r.flow more out

pub path_parts : (p : Program) (env : Environment) (path : List (Step ℕ)) (t : Ty) (all out : FoundAll) → PathTypes p env path t all (Gives out) → (rest : List Ty) × (out.types ≡ all.types ++ rest) × Steps p env path t all.flow rest out.flow
path_parts p env [] t all out h =
    let is = given_is out all h in ([], ap (λ (a : FoundAll). a.types) is ∙ sym (nil_right all.types), (refl, ap (λ (a : FoundAll). a.flow) is))
path_parts p env (step ∷ steps) t all out h =
    let a = then_gives _ _ out h in
    let r = path_parts p env steps a.0.ty (step_more a.0 all) out a.2 in
    (a.0.ty ∷ r.0, r.1 ∙ append_assoc all.types (a.0.ty ∷ []) r.0, (a.0, r.0, a.1, refl, r.2))
