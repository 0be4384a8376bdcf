-- What is found of a node, from what the calls of its checks meet.
use Rattle.std.proofs.Common.{◌≡◌, ◌≢◌, ℕ, List, [], ◌∷◌, ◌++◌, Option, Some, None, Result, map, slice_get, refl, sym, ap, ◌∙◌, subst}
use Rattle.std.specs.Prelude.{IsErrAnd}
use Rattle.std.specs.Option.{option_map}
use Rattle.std.proofs.lemmas.Option.{slice_get-map}
use Rattle.wy_core.specs.Types.{Ty, InterTy, NotTy}
use Rattle.wy_core.specs.declared.types.Ty as tree
use Rattle.wy_core.specs.CoreSeen.{seen_ty}
use Rattle.wy_flow_spec.specs.environment.Seen.{seen_changes}
use Rattle.wy_flow_spec.specs.environment.Variables.{Environment, Changes, void_type}
use Rattle.wy_types.specs.Names.{Declared}
use Rattle.wy_flow_spec.specs.declared.typing.fault.FlowFault.{FlowFault}
use Rattle.wy_flow_spec.specs.declared.typing.fault.FlowFault.TheVariants.{NoMemory, NotSubtype}
use Rattle.wy_flow_spec.specs.typing.Asked.{Norm, Within}
use Rattle.wy_flow_spec.specs.typing.Calls.{Fit, FitSignature, FitCall, ResultOf, GivenBy, CallOf}
use Rattle.wy_flow_spec.specs.typing.Contexts as typing
use Rattle.wy_flow_spec.specs.typing.Contexts.{Found}
use Rattle.wy_flow_spec.specs.typing.Joins.{JoinedType}
use Rattle.wy_flow_spec.specs.typing.Leaves.{OfType, Truth}
use Rattle.wy_flow_spec.specs.typing.Narrowing.{Either, EitherAll, IsVariable, with_variables}
use Rattle.wy_flow_spec.specs.typing.Operators.{And, Or, AreBools}
use Rattle.wy_flow_spec.specs.typing.Outcomes.{Outcome, Gives, Fails, Then, gave, stopped, Meets}
use Rattle.wy_flow_spec.specs.typing.Parts.{OfNorm}
use Rattle.wy_flow_exprs.proofs.checks_lemmas.StepLemmas.{next, first_refused}
use Rattle.wy_flow_exprs.specs.declared.signatures.Signature.{Signature}
use Rattle.wy_flow_exprs.specs.Seen.{seen_signature, seen_types}

-- a truth value with these changes, where others are the same
pub truth_at : {Z : Type 0} (view : Z → Found) (r : Result Z FlowFault) (if_true yes2 if_false no2 : Changes) (flow flow2 : List Ty)
    → if_true ≡ yes2 → if_false ≡ no2 → flow ≡ flow2 → Meets (Truth if_true if_false flow) view r → Meets (Truth yes2 no2 flow2) view r
truth_at view r if_true yes2 if_false no2 flow flow2 a b c h =
    subst (λ (x : Changes). Meets (Truth x no2 flow2) view r) a
    (subst (λ (y : Changes). Meets (Truth if_true y flow2) view r) b
    (subst (λ (z : List Ty). Meets (Truth if_true if_false z) view r) c h))

-- a node of this type, where another is the same
pub type_at : {Z : Type 0} (view : Z → Found) (r : Result Z FlowFault) (t t2 : Ty) (flow flow2 : List Ty)
    → t ≡ t2 → flow ≡ flow2 → Meets (OfType t flow) view r → Meets (OfType t2 flow2) view r
type_at view r t t2 flow flow2 a b h =
    subst (λ (x : Ty). Meets (OfType x flow2) view r) a (subst (λ (z : List Ty). Meets (OfType t z) view r) b h)

-- what was asked of an operand was answered, and the call behind it meets what comes next
pub asked : {X Y Z : Type 0} (m : Ty → Outcome X → Type 0) (f : X → Outcome Y → Type 0) (view : Z → Y) (x : X) (r : Result Z FlowFault) (t t2 : tree.Ty)
    → t2 ≡ t → m (seen_ty t2) (Gives x) → Meets (f x) view r → Meets (Then (m (seen_ty t)) f) view r
asked m f view x r t t2 same held h = next (m (seen_ty t)) f view x r (subst (λ (y : tree.Ty). m (seen_ty y) (Gives x)) same held) h

-- what was asked of an operand was refused
pub not_asked : {X Y Z : Type 0} (m : Ty → Outcome X → Type 0) (f : X → Outcome Y → Type 0) (view : Z → Y) (e : FlowFault) (r : Result Z FlowFault) (t t2 : tree.Ty)
    → t2 ≡ t → (e ≢ NoMemory → m (seen_ty t2) (Fails e)) → IsErrAnd r (λ g. g ≡ e) → Meets (Then (m (seen_ty t)) f) view r
not_asked m f view e r t t2 same failed is = first_refused (m (seen_ty t)) f view e r (λ n. subst (λ (y : tree.Ty). m (seen_ty y) (Fails e)) same (failed n)) is

-- what is asked last of an operand
pub last_asked : {X Z : Type 0} (m : Ty → Outcome X → Type 0) (view : Z → X) (r : Result Z FlowFault) (t t2 : tree.Ty) → t2 ≡ t → Meets (m (seen_ty t2)) view r → Meets (m (seen_ty t)) view r
last_asked m view r t t2 same h = subst (λ (y : tree.Ty). Meets (m (seen_ty y)) view r) same h

-- the same type, asked for its normal type
pub norm_at : {Z : Type 0} (names : List Declared) (at : ℕ) (t t2 : Ty) (view : Z → Ty) (r : Result Z FlowFault) → t ≡ t2 → Meets (Norm names at t) view r → Meets (Norm names at t2) view r
norm_at names at t t2 view r same h = subst (λ (u : Ty). Meets (Norm names at u) view r) same h

pub joined_at : {Z : Type 0} (names : List Declared) (at : ℕ) (a a2 b b2 : Ty) (view : Z → Ty) (r : Result Z FlowFault) → a ≡ a2 → b ≡ b2 → Meets (JoinedType names at a b) view r → Meets (JoinedType names at a2 b2) view r
joined_at names at a a2 b b2 view r a_same b_same h = subst (λ (x : Ty). Meets (JoinedType names at x b2) view r) a_same (subst (λ (y : Ty). Meets (JoinedType names at a y) view r) b_same h)

-- changes that were put behind others
pub behind_is : (l : Changes) (a a2 b b2 : List (ℕ × tree.Ty)) → l ≡ seen_changes a2 ++ seen_changes b2 → a2 ≡ a → b2 ≡ b → l ≡ seen_changes a ++ seen_changes b
behind_is l a a2 b b2 e a_same b_same = e ∙ ap (λ (x : List (ℕ × tree.Ty)). seen_changes x ++ seen_changes b2) a_same ∙ ap (λ (y : List (ℕ × tree.Ty)). seen_changes a ++ seen_changes y) b_same

pub either_at : (names : List Declared) (at : ℕ) (env : Environment) (over : Changes) (a a2 b b2 : List (ℕ × tree.Ty)) (o : Outcome Changes) → a2 ≡ a → b2 ≡ b
    → Either names at env over (seen_changes a2) (seen_changes b2) o → Either names at env over (seen_changes a) (seen_changes b) o
either_at names at env over a a2 b b2 o a_same b_same h =
    subst (λ (x : List (ℕ × tree.Ty)). Either names at env over (seen_changes x) (seen_changes b) o) a_same (subst (λ (y : List (ℕ × tree.Ty)). Either names at env over (seen_changes a2) (seen_changes y) o) b_same h)

pub and_found : {Z : Type 0} (names : List Declared) (at : ℕ) (env : Environment) (over : Changes) (a b : Found) (view : Z → Found) (r : Result Z FlowFault) (late if_true if_false : Changes) (flow : List Ty)
    → AreBools names at a.ty b.ty (Gives tt) → late ≡ a.yes ++ b.no → Either names at env over a.no late (Gives if_false) → if_true ≡ a.yes ++ b.yes → flow ≡ b.flow
    → Meets (Truth if_true if_false flow) view r → Meets (And names at env over a b) view r
and_found names at env over a b view r late if_true if_false flow bools late_is either yes_is same h =
    next (AreBools names at a.ty b.ty) _ view tt r bools
    (next (Either names at env over a.no (a.yes ++ b.no)) (λ (n : Changes). Truth (a.yes ++ b.yes) n b.flow) view if_false r
    (subst (λ (l : Changes). Either names at env over a.no l (Gives if_false)) late_is either)
    (truth_at view r if_true (a.yes ++ b.yes) if_false if_false flow b.flow yes_is refl same h))

pub and_stopped : (names : List Declared) (at : ℕ) (env : Environment) (over : Changes) (a b : Found) (e : FlowFault) → (e ≢ NoMemory → AreBools names at a.ty b.ty (Fails e)) → e ≢ NoMemory → And names at env over a b (Fails e)
and_stopped names at env over a b e bools n = stopped e (bools n)

pub and_refused : (names : List Declared) (at : ℕ) (env : Environment) (over : Changes) (a b : Found) (late : Changes) (e : FlowFault)
    → AreBools names at a.ty b.ty (Gives tt) → late ≡ a.yes ++ b.no → (e ≢ NoMemory → Either names at env over a.no late (Fails e)) → e ≢ NoMemory → And names at env over a b (Fails e)
and_refused names at env over a b late e bools late_is either n = gave tt (Fails e) bools (stopped e (subst (λ (l : Changes). Either names at env over a.no l (Fails e)) late_is (either n)))

pub or_found : {Z : Type 0} (names : List Declared) (at : ℕ) (env : Environment) (over : Changes) (a b : Found) (view : Z → Found) (r : Result Z FlowFault) (late if_true if_false : Changes) (flow : List Ty)
    → AreBools names at a.ty b.ty (Gives tt) → late ≡ a.no ++ b.yes → Either names at env over a.yes late (Gives if_true) → if_false ≡ a.no ++ b.no → flow ≡ b.flow
    → Meets (Truth if_true if_false flow) view r → Meets (Or names at env over a b) view r
or_found names at env over a b view r late if_true if_false flow bools late_is either no_is same h =
    next (AreBools names at a.ty b.ty) _ view tt r bools
    (next (Either names at env over a.yes (a.no ++ b.yes)) (λ (y : Changes). Truth y (a.no ++ b.no) b.flow) view if_true r
    (subst (λ (l : Changes). Either names at env over a.yes l (Gives if_true)) late_is either)
    (truth_at view r if_true if_true if_false (a.no ++ b.no) flow b.flow refl no_is same h))

pub or_stopped : (names : List Declared) (at : ℕ) (env : Environment) (over : Changes) (a b : Found) (e : FlowFault) → (e ≢ NoMemory → AreBools names at a.ty b.ty (Fails e)) → e ≢ NoMemory → Or names at env over a b (Fails e)
or_stopped names at env over a b e bools n = stopped e (bools n)

pub or_refused : (names : List Declared) (at : ℕ) (env : Environment) (over : Changes) (a b : Found) (late : Changes) (e : FlowFault)
    → AreBools names at a.ty b.ty (Gives tt) → late ≡ a.no ++ b.yes → (e ≢ NoMemory → Either names at env over a.yes late (Fails e)) → e ≢ NoMemory → Or names at env over a b (Fails e)
or_refused names at env over a b late e bools late_is either n = gave tt (Fails e) bools (stopped e (subst (λ (l : Changes). Either names at env over a.yes l (Fails e)) late_is (either n)))

-- a test of a variable
pub is_variable_found : {Z : Type 0} (names : List Declared) (at x : ℕ) (s t : Ty) (flow flow2 : List Ty) (view : Z → Found) (r : Result Z FlowFault) (if_true if_false outside : Ty) (ys ns : Changes)
    → Norm names at (InterTy s t) (Gives if_true) → outside ≡ NotTy t → Norm names at (InterTy s outside) (Gives if_false) → ys ≡ (x, if_true) ∷ [] → ns ≡ (x, if_false) ∷ [] → flow2 ≡ flow
    → Meets (Truth ys ns flow2) view r → Meets (IsVariable names at x s t flow) view r
is_variable_found names at x s t flow flow2 view r if_true if_false outside ys ns inside outside_is beyond ys_is ns_is same h =
    next (Norm names at (InterTy s t)) (λ (y : Ty). Then (Norm names at (InterTy s (NotTy t))) (λ (n : Ty). Truth ((x, y) ∷ []) ((x, n) ∷ []) flow)) view if_true r inside
    (next (Norm names at (InterTy s (NotTy t))) (λ (n : Ty). Truth ((x, if_true) ∷ []) ((x, n) ∷ []) flow) view if_false r
    (subst (λ (u : Ty). Norm names at (InterTy s u) (Gives if_false)) outside_is beyond)
    (truth_at view r ys ((x, if_true) ∷ []) ns ((x, if_false) ∷ []) flow2 flow ys_is ns_is same h))

-- an argument that was read by reference
pub within_at : (names : List Declared) (at : ℕ) (a a2 : tree.Ty) (t : Ty) (o : Outcome (Unit {0})) → a2 ≡ a → Within names at (NotSubtype at) (seen_ty a2) t o → Within names at (NotSubtype at) (seen_ty a) t o
within_at names at a a2 t o same h = subst (λ (x : tree.Ty). Within names at (NotSubtype at) (seen_ty x) t o) same h

-- what is in a type and in another, where the first was read by reference
pub meet_at : (names : List Declared) (at : ℕ) (s s2 : tree.Ty) (t : Ty) (o : Outcome Ty) → s2 ≡ s → Norm names at (InterTy (seen_ty s2) t) o → Norm names at (InterTy (seen_ty s) t) o
meet_at names at s s2 t o same h = subst (λ (x : tree.Ty). Norm names at (InterTy (seen_ty x) t) o) same h

-- the test of what is in the type was refused
pub is_variable_stopped : (names : List Declared) (at x : ℕ) (s t : Ty) (flow : List Ty) (e : FlowFault) → (e ≢ NoMemory → Norm names at (InterTy s t) (Fails e)) → e ≢ NoMemory → IsVariable names at x s t flow (Fails e)
is_variable_stopped names at x s t flow e h n = stopped e (h n)

-- the test of what is beyond the type was refused
pub is_variable_refused : (names : List Declared) (at x : ℕ) (s t : Ty) (flow : List Ty) (if_true outside : Ty) (e : FlowFault)
    → Norm names at (InterTy s t) (Gives if_true) → outside ≡ NotTy t → (e ≢ NoMemory → Norm names at (InterTy s outside) (Fails e)) → e ≢ NoMemory → IsVariable names at x s t flow (Fails e)
is_variable_refused names at x s t flow if_true outside e inside outside_is h n =
    gave if_true (Fails e) inside (stopped e (subst (λ (u : Ty). Norm names at (InterTy s u) (Fails e)) outside_is (h n)))

-- the node of a normal type
pub norm_found : {Z : Type 0} (names : List Declared) (at : ℕ) (t t2 : Ty) (flow flow2 : List Ty) (view : Z → Found) (r : Result Z FlowFault) (made : Ty)
    → t ≡ t2 → Norm names at t (Gives made) → flow ≡ flow2 → Meets (OfType made flow) view r → Meets (OfNorm names at t2 flow2) view r
norm_found names at t t2 flow flow2 view r made is norm same h =
    next (Norm names at t2) (λ (m : Ty). OfType m flow2) view made r (subst (λ (u : Ty). Norm names at u (Gives made)) is norm) (type_at view r made made flow flow2 refl same h)

pub norm_refused : (names : List Declared) (at : ℕ) (t t2 : Ty) (flow : List Ty) (e : FlowFault)
    → t ≡ t2 → (e ≢ NoMemory → Norm names at t (Fails e)) → e ≢ NoMemory → OfNorm names at t2 flow (Fails e)
norm_refused names at t t2 flow e is h n = stopped e (subst (λ (u : Ty). Norm names at u (Fails e)) is (h n))

-- ---- calls

callee_none : (sigs : List Signature) (i : ℕ) → None ≡ slice_get sigs i → slice_get (map seen_signature sigs) i ≡ None
callee_none sigs i e = slice_get-map seen_signature sigs i ∙ ap (option_map seen_signature) (sym e)

callee_some : (sigs : List Signature) (i : ℕ) (s : Signature) → Some s ≡ slice_get sigs i → slice_get (map seen_signature sigs) i ≡ Some (seen_signature s)
callee_some sigs i s e = slice_get-map seen_signature sigs i ∙ ap (option_map seen_signature) (sym e)

pub fit_at : {Z : Type 0} (names : List Declared) (at : ℕ) (args : List Ty) (sigs : List Signature) (i : ℕ) (s : Signature) (params : List tree.Ty) (view : Z → Unit {0}) (r : Result Z FlowFault)
    → Some s ≡ slice_get sigs i → params ≡ s.params → Meets (Fit names at args (seen_types params)) view r → Meets (FitSignature names at args (slice_get (map seen_signature sigs) i)) view r
fit_at names at args sigs i s params view r is same h =
    subst (λ (o : Option typing.Signature). Meets (FitSignature names at args o) view r) (sym (callee_some sigs i s is)) (subst (λ (ps : List tree.Ty). Meets (Fit names at args (seen_types ps)) view r) same h)

pub fit_none : (names : List Declared) (at : ℕ) (args : List Ty) (sigs : List Signature) (i : ℕ) → None ≡ slice_get sigs i → FitSignature names at args (slice_get (map seen_signature sigs) i) (Gives tt)
fit_none names at args sigs i is = subst (λ (o : Option typing.Signature). FitSignature names at args o (Gives tt)) (sym (callee_none sigs i is)) refl

pub given_at : {Z : Type 0} (names : List Declared) (at : ℕ) (sigs : List Signature) (i : ℕ) (s : Signature) (view : Z → Ty) (r : Result Z FlowFault)
    → Some s ≡ slice_get sigs i → Meets (ResultOf names at (seen_signature s).result) view r → Meets (GivenBy names at (slice_get (map seen_signature sigs) i)) view r
given_at names at sigs i s view r is h = subst (λ (o : Option typing.Signature). Meets (GivenBy names at o) view r) (sym (callee_some sigs i s is)) h

pub given_none : (names : List Declared) (at : ℕ) (sigs : List Signature) (i : ℕ) (t : Ty) → None ≡ slice_get sigs i → t ≡ void_type → GivenBy names at (slice_get (map seen_signature sigs) i) (Gives t)
given_none names at sigs i t is void = subst (λ (o : Option typing.Signature). GivenBy names at o (Gives t)) (sym (callee_none sigs i is)) (ap (λ (u : Ty). Gives u) void)

pub call_found : {Z : Type 0} (p : typing.Program) (at routine : ℕ) (args args2 : List Ty) (flow flow2 flow3 : List Ty) (view : Z → Found) (r : Result Z FlowFault) (t : Ty)
    → args2 ≡ args → FitCall p at routine args2 (Gives tt) → GivenBy p.names at (slice_get p.signatures routine) (Gives t) → flow2 ≡ flow → flow3 ≡ flow2
    → Meets (OfType t flow3) view r → Meets (CallOf p at routine (record { types = args; flow = flow })) view r
call_found p at routine args args2 flow flow2 flow3 view r t same fit given first second h =
    next (FitCall p at routine args) (λ _. Then (GivenBy p.names at (slice_get p.signatures routine)) (λ (u : Ty). OfType u flow)) view tt r
    (subst (λ (l : List Ty). FitCall p at routine l (Gives tt)) same fit)
    (next (GivenBy p.names at (slice_get p.signatures routine)) (λ (u : Ty). OfType u flow) view t r given (type_at view r t t flow3 flow refl (second ∙ first) h))

pub call_refused : (p : typing.Program) (at routine : ℕ) (args args2 flow : List Ty) (e : FlowFault)
    → args2 ≡ args → (e ≢ NoMemory → FitCall p at routine args2 (Fails e)) → e ≢ NoMemory → CallOf p at routine (record { types = args; flow = flow }) (Fails e)
call_refused p at routine args args2 flow e same h n = stopped e (subst (λ (l : List Ty). FitCall p at routine l (Fails e)) same (h n))

pub call_not_given : (p : typing.Program) (at routine : ℕ) (args args2 flow : List Ty) (e : FlowFault)
    → args2 ≡ args → FitCall p at routine args2 (Gives tt) → (e ≢ NoMemory → GivenBy p.names at (slice_get p.signatures routine) (Fails e)) → e ≢ NoMemory
    → CallOf p at routine (record { types = args; flow = flow }) (Fails e)
call_not_given p at routine args args2 flow e same fit h n = gave tt (Fails e) (subst (λ (l : List Ty). FitCall p at routine l (Gives tt)) same fit) (stopped e (h n))

-- ---- either of two

pub either_found : {Z : Type 0} (names : List Declared) (at : ℕ) (env : Environment) (over first second : Changes) (one one2 two two2 : List (ℕ × tree.Ty)) (none variables all all2 : List ℕ) (view : Z → Changes) (r : Result Z FlowFault)
    → seen_changes one ≡ over ++ first → one2 ≡ one → seen_changes two ≡ over ++ second → two2 ≡ two → none ≡ [] → variables ≡ with_variables none first → all ≡ with_variables variables second → all2 ≡ all
    → Meets (EitherAll names at env (seen_changes one2) (seen_changes two2) [] all2) view r → Meets (Either names at env over first second) view r
either_found names at env over first second one one2 two two2 none variables all all2 view r one_is one_same two_is two_same nothing some every every_same h =
    subst (λ (xs : List ℕ). Meets (EitherAll names at env (over ++ first) (over ++ second) [] xs) view r)
    (every_same ∙ every ∙ ap (λ (xs : List ℕ). with_variables xs second) (some ∙ ap (λ (xs : List ℕ). with_variables xs first) nothing))
    (subst (λ (c : Changes). Meets (EitherAll names at env (over ++ first) c [] all2) view r) (ap seen_changes two_same ∙ two_is)
    (subst (λ (c : Changes). Meets (EitherAll names at env c (seen_changes two2) [] all2) view r) (ap seen_changes one_same ∙ one_is) h))
