-- Equal steps, steps that lead to others, and what is known at a point by its parts.
use Rattle.std.proofs.Common.{◌≡◌, ℕ, Bool, true, false, cond, List, [], ◌∷◌, ◌++◌, Option, Result, Ok, Err, refl, ap, ◌∙◌, subst}
use Rattle.std.proofs.lemmas.Bool.{false≢true}
use Rattle.wy_core.specs.CoreSeen.{seen_ty}
use Rattle.wy_core.specs.Types as ty
use Rattle.wy_core.specs.declared.types.Ty.{Ty}
use Rattle.wy_flow_spec.specs.environment.Variables.{Environment, given}
use Rattle.wy_flow_exprs.specs.Seen.{seen_types}
pub use Rattle.wy_lemmas.proofs.Lists.{next_of as item_and_rest}
use Rattle.wy_types.specs.Names.{Declared}
use Rattle.wy_flow_spec.specs.typing.Asked.{Norm}
use Rattle.wy_flow_spec.specs.declared.typing.fault.FlowFault.{FlowFault}
use Rattle.wy_flow_spec.specs.typing.Contexts.{FoundAll}
use Rattle.wy_flow_spec.specs.typing.Loops.{Begun, EndLoop, Head, RenewedAll}
use Rattle.wy_flow_spec.specs.typing.Outcomes.{Outcome, Gives, Give, Then, gave, Meets}
use Rattle.wy_flow_spec.specs.typing.States.{State, GiveNormal}
use Rattle.wy_flow_spec.specs.typing.Statements.{EndIf}

-- of equal steps
pub moved : {A Y Z : Type 0} (m : A → Outcome Y → Type 0) (view : Z → Y) (r : Result Z FlowFault) (a b : A) → a ≡ b → Meets (m a) view r → Meets (m b) view r
moved m view r a b e h = subst (λ x. Meets (m x) view r) e h

pub shifted : {A Y : Type 0} (m : A → Outcome Y → Type 0) (o : Outcome Y) (a b : A) → a ≡ b → m a o → m b o
shifted m o a b e h = subst (λ x. m x o) e h

-- of a step that leads to another
pub onto : {Y Z : Type 0} (m n : Outcome Y → Type 0) (view : Z → Y) (r : Result Z FlowFault) → ((o : Outcome Y) → m o → n o) → Meets m view r → Meets n view r
onto m n view (Ok z) f h = f _ h
onto m n view (Err e) f h = λ k. f _ (h k)

-- of a step that depends on a test
where_true : {Y Z : Type 0} (b : Bool) (m n : Outcome Y → Type 0) (view : Z → Y) (r : Result Z FlowFault) → b ≡ true → Meets m view r → Meets (λ o. cond b (m o) (n o)) view r
where_true true m n view r e h = h
where_true false m n view r e h = absurd (false≢true e)

true_then : {Y : Type 0} (b : Bool) (m n : Outcome Y → Type 0) (o : Outcome Y) → b ≡ true → m o → cond b (m o) (n o)
true_then true m n o e h = h
true_then false m n o e h = absurd (false≢true e)

pub normal_meets : {Z : Type 0} (names : List Declared) (at x : ℕ) (t : ty.Ty) (env : Environment) (view : Z → Environment) (r : Result Z FlowFault) → env.reached ≡ true
    → Meets (Then (Norm names at t) (λ made. Give (given env x made))) view r → Meets (GiveNormal names at x t env) view r
normal_meets names at x t env view r e h = where_true env.reached (Then (Norm names at t) (λ made. Give (given env x made))) (Give env) view r e h

pub normal_given : (names : List Declared) (at x : ℕ) (t made : ty.Ty) (env after : Environment) → env.reached ≡ true
    → Norm names at t (Gives made) → after ≡ given env x made → GiveNormal names at x t env (Gives after)
normal_given names at x t made env after e h same =
    true_then env.reached (Then (Norm names at t) (λ u. Give (given env x u))) (Give env) (Gives after) e (gave made (Gives after) h (ap (λ z. Gives z) same))

pub head_meets : {Z : Type 0} (names : List Declared) (at : ℕ) (s : State) (xs : List ℕ) (view : Z → Environment) (r : Result Z FlowFault) → s.env.reached ≡ true
    → Meets (RenewedAll names at s.declared xs s.env) view r → Meets (Head names at s xs) view r
head_meets names at s xs view r e h = where_true s.env.reached (RenewedAll names at s.declared xs s.env) (Give s.env) view r e h

-- ---- by parts

abbrev pub state : Environment → List (Option ty.Ty) → List Environment → List ty.Ty → State
state env declared breaks flow = record { env = env; declared = declared; breaks = breaks; flow = flow }

abbrev pub begun : State → Environment → Begun
begun s env = record { inside = s; outside = env }

pub begun_is : (d : List (Option ty.Ty)) (flow : List ty.Ty) (e f : Environment) (bs cs : List Environment) (a b : Environment) → e ≡ f → bs ≡ cs → a ≡ b
    → Gives (begun (state e d bs flow) a) ≡ Gives (begun (state f d cs flow) b)
begun_is d flow e f bs cs a b p q r =
    ap (λ (x : Environment). Gives (begun (state x d bs flow) a)) p
    ∙ ap (λ (x : List Environment). Gives (begun (state f d x flow) a)) q
    ∙ ap (λ (x : Environment). Gives (begun (state f d cs flow) x)) r

-- one more type
pub types_more : (ts : List Ty) (t : Ty) → seen_types (ts ++ t ∷ []) ≡ seen_types ts ++ seen_ty t ∷ []
types_more [] t = refl
types_more (x ∷ xs) t = ap (λ l. seen_ty x ∷ l) (types_more xs t)

pub types_pushed : (ts more : List Ty) (t u : Ty) → more ≡ ts ++ t ∷ [] → t ≡ u → seen_types more ≡ seen_types ts ++ seen_ty u ∷ []
types_pushed ts more t u p q = ap seen_types p ∙ types_more ts t ∙ ap (λ x. seen_types ts ++ seen_ty x ∷ []) q

abbrev pub all : List ty.Ty → List ty.Ty → FoundAll
all types flow = record { types = types; flow = flow }

-- ---- where a statement ends

pub end_if_by : {Z : Type 0} (names : List Declared) (at : ℕ) (a b : Environment) (s : State) (view : Z → State) (r : Result Z FlowFault) → a ≡ b → Meets (EndIf names at a s) view r → Meets (EndIf names at b s) view r
end_if_by names at a b s view r e h = moved (λ x. EndIf names at x s) view r a b e h

pub end_loop_by : {Z : Type 0} (names : List Declared) (at : ℕ) (outside : Environment) (a b : List Environment) (s : State) (view : Z → State) (r : Result Z FlowFault) → a ≡ b
    → Meets (EndLoop names at outside a s) view r → Meets (EndLoop names at outside b s) view r
end_loop_by names at outside a b s view r e h = moved (λ x. EndLoop names at outside x s) view r a b e h
