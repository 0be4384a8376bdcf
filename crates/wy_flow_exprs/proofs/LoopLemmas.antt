-- Loops over expressions, fields, arguments and variables: where what is left leads, the whole leads.
use Rattle.std.proofs.Common.{◌≡◌, ◌≢◌, ◌+◌, ◌<◌, ◌≤◌, ℕ, zero, suc, List, [], ◌∷◌, ◌++◌, Some, None, length, drop, get_or, refl, sym, ap, ◌∙◌, subst, arith}
use Rattle.std.specs.Prelude.{slice_get}
use Rattle.std.proofs.lemmas.List.{map_push}
use Rattle.wy_core.specs.Types as ty
use Rattle.wy_core.specs.CoreTree.{exprs_of}
use Rattle.wy_core.specs.CoreSeen.{seen_expr, seen_exprs, seen_fields, seen_ty}
use Rattle.wy_core.specs.declared.expressions.Expr.{Expr}
use Rattle.wy_core.specs.declared.types.Ty.{Ty}
use Rattle.wy_flow_spec.specs.environment.Seen.{seen_change, seen_changes}
use Rattle.wy_flow_spec.specs.environment.Variables.{Environment, Changes, type_of}
use Rattle.wy_types.specs.Names.{Declared}
use Rattle.wy_flow_spec.specs.declared.typing.fault.FlowFault.{FlowFault}
use Rattle.wy_flow_spec.specs.declared.typing.fault.FlowFault.TheVariants.{NoMemory, NotSubtype}
use Rattle.wy_flow_spec.specs.typing.Asked.{Within}
use Rattle.wy_flow_spec.specs.typing.Calls.{Fit}
use Rattle.wy_flow_spec.specs.typing.Contexts.{Program, FoundAll, FoundFields}
use Rattle.wy_flow_spec.specs.typing.Expressions.{TypedExpr, TypedExprs, TypedFields, none_yet, no_field_yet}
use Rattle.wy_flow_spec.specs.typing.Joins.{JoinedType}
use Rattle.wy_flow_spec.specs.typing.Narrowing.{EitherAll}
use Rattle.wy_flow_spec.specs.typing.Outcomes.{Outcome, Gives, Fails, gave, stopped}
use Rattle.wy_flow_exprs.proofs.checks_lemmas.StepLemmas.{at_item, at_end, found_item, no_item}
use Rattle.wy_flow_exprs.specs.declared.walk.Found.{Found}
use Rattle.wy_flow_exprs.specs.Seen.{seen_all, seen_all_fields, seen_field_types, seen_found, seen_types}

-- ---- expressions

abbrev pub ExprsLeft : Program → Environment → Changes → List ty.Ty → List Expr → List ty.Ty → List Ty → List Expr → Type 0
ExprsLeft p env over flow made_of now made left =
    (o : Outcome FoundAll) → TypedExprs p env (exprs_of (seen_exprs left)) over (seen_all now made) o → TypedExprs p env (exprs_of (seen_exprs made_of)) over (none_yet flow) o

pub exprs_turn : (p : Program) (env : Environment) (over : Changes) (flow : List ty.Ty) (exprs : List Expr) (now now2 : List ty.Ty) (made made2 : List Ty) (i : ℕ) (e : Expr) (found : Found)
    → i < length exprs → e ≡ get_or exprs i e → TypedExpr p env (seen_expr e) over now (Gives (seen_found now2 found)) → made2 ≡ made ++ found.ty ∷ []
    → ExprsLeft p env over flow exprs now made (drop i exprs) → ExprsLeft p env over flow exprs now2 made2 (drop (i + 1) exprs)
exprs_turn p env over flow exprs now now2 made made2 i e found within is given pushed before = λ o h.
    before o (at_item (λ (l : List Expr). TypedExprs p env (exprs_of (seen_exprs l)) over (seen_all now made) o) exprs i e within is
    (gave (seen_found now2 found) o given
    (subst (λ (ts : List ty.Ty). TypedExprs p env (exprs_of (seen_exprs (drop (i + 1) exprs))) over (record { types = ts; flow = now2 }) o) (ap seen_types pushed ∙ map_push seen_ty made found.ty) h)))

pub exprs_refused : (p : Program) (env : Environment) (over : Changes) (flow : List ty.Ty) (exprs : List Expr) (now : List ty.Ty) (made : List Ty) (i : ℕ) (e : Expr) (f : FlowFault)
    → i < length exprs → e ≡ get_or exprs i e → (f ≢ NoMemory → TypedExpr p env (seen_expr e) over now (Fails f))
    → ExprsLeft p env over flow exprs now made (drop i exprs) → f ≢ NoMemory → TypedExprs p env (exprs_of (seen_exprs exprs)) over (none_yet flow) (Fails f)
exprs_refused p env over flow exprs now made i e f within is h before n =
    before (Fails f) (at_item (λ (l : List Expr). TypedExprs p env (exprs_of (seen_exprs l)) over (seen_all now made) (Fails f)) exprs i e within is (stopped f (h n)))

pub exprs_end : (p : Program) (env : Environment) (over : Changes) (flow : List ty.Ty) (exprs : List Expr) (now : List ty.Ty) (made : List Ty) (i : ℕ)
    → length exprs ≤ i → ExprsLeft p env over flow exprs now made (drop i exprs) → TypedExprs p env (exprs_of (seen_exprs exprs)) over (none_yet flow) (Gives (seen_all now made))
exprs_end p env over flow exprs now made i past before =
    before (Gives (seen_all now made)) (at_end (λ (l : List Expr). TypedExprs p env (exprs_of (seen_exprs l)) over (seen_all now made) (Gives (seen_all now made))) exprs i past refl)

-- ---- fields

abbrev pub FieldsLeft : Program → Environment → Changes → List ty.Ty → List (List ℕ × Expr) → List ty.Ty → List (List ℕ × Ty) → List (List ℕ × Expr) → Type 0
FieldsLeft p env over flow fields now made left =
    (o : Outcome FoundFields) → TypedFields p env (seen_fields left) over (seen_all_fields now made) o → TypedFields p env (seen_fields fields) over (no_field_yet flow) o

pub fields_turn : (p : Program) (env : Environment) (over : Changes) (flow : List ty.Ty) (fields : List (List ℕ × Expr)) (now now2 : List ty.Ty) (made made2 : List (List ℕ × Ty)) (i : ℕ) (f : List ℕ × Expr) (name : List ℕ) (found : Found)
    → i < length fields → f ≡ get_or fields i f → TypedExpr p env (seen_expr f.1) over now (Gives (seen_found now2 found)) → name ≡ f.0 → made2 ≡ made ++ (name, found.ty) ∷ []
    → FieldsLeft p env over flow fields now made (drop i fields) → FieldsLeft p env over flow fields now2 made2 (drop (i + 1) fields)
fields_turn p env over flow fields now now2 made made2 i f name found within is given named pushed before = λ o h.
    before o (at_item (λ (l : List (List ℕ × Expr)). TypedFields p env (seen_fields l) over (seen_all_fields now made) o) fields i f within is
    (gave (seen_found now2 found) o given
    (subst (λ (ts : List (List ℕ × ty.Ty)). TypedFields p env (seen_fields (drop (i + 1) fields)) over (record { fields = ts; flow = now2 }) o)
    (ap seen_field_types pushed ∙ map_push (λ (x : List ℕ × Ty). (x.0, seen_ty x.1)) made (name, found.ty) ∙ ap (λ (n : List ℕ). seen_field_types made ++ (n, seen_ty found.ty) ∷ []) named) h)))

pub fields_refused : (p : Program) (env : Environment) (over : Changes) (flow : List ty.Ty) (fields : List (List ℕ × Expr)) (now : List ty.Ty) (made : List (List ℕ × Ty)) (i : ℕ) (f : List ℕ × Expr) (e : FlowFault)
    → i < length fields → f ≡ get_or fields i f → (e ≢ NoMemory → TypedExpr p env (seen_expr f.1) over now (Fails e))
    → FieldsLeft p env over flow fields now made (drop i fields) → e ≢ NoMemory → TypedFields p env (seen_fields fields) over (no_field_yet flow) (Fails e)
fields_refused p env over flow fields now made i f e within is h before n =
    before (Fails e) (at_item (λ (l : List (List ℕ × Expr)). TypedFields p env (seen_fields l) over (seen_all_fields now made) (Fails e)) fields i f within is (stopped e (h n)))

pub fields_end : (p : Program) (env : Environment) (over : Changes) (flow : List ty.Ty) (fields : List (List ℕ × Expr)) (now : List ty.Ty) (made : List (List ℕ × Ty)) (i : ℕ)
    → length fields ≤ i → FieldsLeft p env over flow fields now made (drop i fields) → TypedFields p env (seen_fields fields) over (no_field_yet flow) (Gives (seen_all_fields now made))
fields_end p env over flow fields now made i past before =
    before (Gives (seen_all_fields now made)) (at_end (λ (l : List (List ℕ × Expr)). TypedFields p env (seen_fields l) over (seen_all_fields now made) (Gives (seen_all_fields now made))) fields i past refl)

-- ---- arguments

abbrev pub FitLeft : List Declared → ℕ → List Ty → List Ty → List Ty → List Ty → Type 0
FitLeft names at args params left rest = (o : Outcome (Unit {0})) → Fit names at (seen_types left) (seen_types rest) o → Fit names at (seen_types args) (seen_types params) o

-- at the next argument
at_arg : (names : List Declared) (at : ℕ) (args params tail : List Ty) (i : ℕ) (a : Ty) → i < length args → a ≡ get_or args i a → drop i params ≡ tail
    → FitLeft names at args params (drop i args) (drop i params) → FitLeft names at args params (a ∷ drop (i + 1) args) tail
at_arg names at args params tail i a within is split before = λ o h.
    before o
    (at_item (λ (l : List Ty). Fit names at (seen_types l) (seen_types (drop i params)) o) args i a within is
    (subst (λ (r : List Ty). Fit names at (seen_types (a ∷ drop (i + 1) args)) (seen_types r) o) (sym split) h))

pub fit_turn : (names : List Declared) (at : ℕ) (args params : List Ty) (i n : ℕ) (a param : Ty) → i < length args → a ≡ get_or args i a → Some param ≡ slice_get params n → n ≡ i
    → Within names at (NotSubtype at) (seen_ty a) (seen_ty param) (Gives tt)
    → FitLeft names at args params (drop i args) (drop i params) → FitLeft names at args params (drop (i + 1) args) (drop (i + 1) params)
fit_turn names at args params i n a param within is there counted given before = λ o h.
    at_arg names at args params (param ∷ drop (i + 1) params) i a within is (found_item params i n param there counted) before o (gave tt o given h)

pub fit_refused : (names : List Declared) (at : ℕ) (args params : List Ty) (i n : ℕ) (a param : Ty) → i < length args → a ≡ get_or args i a → Some param ≡ slice_get params n → n ≡ i
    → (e : FlowFault) → (e ≢ NoMemory → Within names at (NotSubtype at) (seen_ty a) (seen_ty param) (Fails e))
    → FitLeft names at args params (drop i args) (drop i params) → e ≢ NoMemory → Fit names at (seen_types args) (seen_types params) (Fails e)
fit_refused names at args params i n a param within is there counted e h before none =
    at_arg names at args params (param ∷ drop (i + 1) params) i a within is (found_item params i n param there counted) before (Fails e) (stopped e (h none))

pub fit_short : (names : List Declared) (at : ℕ) (args params : List Ty) (i n : ℕ) (a : Ty) → i < length args → a ≡ get_or args i a → None ≡ slice_get params n → n ≡ i
    → FitLeft names at args params (drop i args) (drop i params) → Fit names at (seen_types args) (seen_types params) (Gives tt)
fit_short names at args params i n a within is past counted before = at_arg names at args params [] i a within is (no_item params i n past counted) before (Gives tt) refl

pub fit_end : (names : List Declared) (at : ℕ) (args params : List Ty) (i : ℕ) → length args ≤ i
    → FitLeft names at args params (drop i args) (drop i params) → Fit names at (seen_types args) (seen_types params) (Gives tt)
fit_end names at args params i past before =
    before (Gives tt) (at_end (λ (l : List Ty). Fit names at (seen_types l) (seen_types (drop i params)) (Gives tt)) args i past refl)

-- ---- variables

abbrev pub EitherLeft : List Declared → ℕ → Environment → Changes → Changes → List ℕ → List (ℕ × Ty) → List ℕ → Type 0
EitherLeft names at env first second variables made left =
    (o : Outcome Changes) → EitherAll names at env first second (seen_changes made) left o → EitherAll names at env first second [] variables o

-- a number of a list, read with any other in its place
pub number_item : (xs : List ℕ) (i : ℕ) → i < length xs → get_or xs i 0 ≡ get_or xs i (get_or xs i 0)
number_item [] i within = absurd (omega arith)
number_item (x ∷ xs) zero within = refl
number_item (x ∷ xs) (suc i) within = number_item xs i (omega arith)

pub either_turn : (names : List Declared) (at : ℕ) (env : Environment) (first second : Changes) (variables : List ℕ) (made made2 : List (ℕ × Ty)) (i x : ℕ) (t : Ty) → i < length variables → x ≡ get_or variables i x
    → JoinedType names at (type_of env first x) (type_of env second x) (Gives (seen_ty t)) → made2 ≡ made ++ (x, t) ∷ []
    → EitherLeft names at env first second variables made (drop i variables) → EitherLeft names at env first second variables made2 (drop (i + 1) variables)
either_turn names at env first second variables made made2 i x t within is given pushed before = λ o h.
    before o (at_item (λ (l : List ℕ). EitherAll names at env first second (seen_changes made) l o) variables i x within is
    (gave (seen_ty t) o given
    (subst (λ (cs : Changes). EitherAll names at env first second cs (drop (i + 1) variables) o) (ap seen_changes pushed ∙ map_push seen_change made (x, t)) h)))

pub either_refused : (names : List Declared) (at : ℕ) (env : Environment) (first second : Changes) (variables : List ℕ) (made : List (ℕ × Ty)) (i x : ℕ) (e : FlowFault) → i < length variables → x ≡ get_or variables i x
    → (e ≢ NoMemory → JoinedType names at (type_of env first x) (type_of env second x) (Fails e))
    → EitherLeft names at env first second variables made (drop i variables) → e ≢ NoMemory → EitherAll names at env first second [] variables (Fails e)
either_refused names at env first second variables made i x e within is h before n =
    before (Fails e) (at_item (λ (l : List ℕ). EitherAll names at env first second (seen_changes made) l (Fails e)) variables i x within is (stopped e (h n)))

pub either_end : (names : List Declared) (at : ℕ) (env : Environment) (first second : Changes) (variables : List ℕ) (made : List (ℕ × Ty)) (i : ℕ) → length variables ≤ i
    → EitherLeft names at env first second variables made (drop i variables) → EitherAll names at env first second [] variables (Gives (seen_changes made))
either_end names at env first second variables made i past before =
    before (Gives (seen_changes made)) (at_end (λ (l : List ℕ). EitherAll names at env first second (seen_changes made) l (Gives (seen_changes made))) variables i past refl)
