-- Variables are declared before they are assigned, and have the types that the conditions have for them.
use Rattle.std.proofs.Common.{◌≡◌, ◌⊎◌, inl, inr, ℕ, zero, suc, ◌<◌, List, [], ◌∷◌, length, false, ◌==◌, Option, Some, None, refl, sym, ap, ◌∙◌, subst, arith}
use Rattle.std.specs.Prelude.{is_some}
use Rattle.wy_core.specs.Types.{Ty}
use Rattle.wy_core.specs.CoreTree.{Param, Routine, Stmt, DeclareStmt, AssignStmt, CallStmt, ReturnStmt, AssertStmt, BreakStmt, ContinueStmt, SkipStmt, FailStmt, IfStmt, WhileStmt, Stmts, NoStmts, MoreStmts}
use Rattle.wy_sound_statements.specs.wy_flow_spec.environment.Slots.{slot_at, put_slot}
use Rattle.wy_lemmas.proofs.Choices.{apart_of}
use Rattle.wy_sound_statements.specs.wy_flow_spec.typing.Programs.{declared_params}
use Rattle.wy_sem.specs.Statements.{type_at}
use Rattle.wy_sem.specs.Evaluation.{set_type, any_types, param_types, declared_in, declared_in_all, types_of}
use Rattle.wy_core.specs.formed.Offers.{Offers}
use Rattle.wy_core.specs.formed.Bound as bound
use Rattle.wy_core.specs.formed.Bound.{Around, looped, behind, with_params, BoundStmt, BoundStmts, BoundParams, BoundRoutine}
use Rattle.wy_sound_programs.specs.Scopes.{Scope, declares, declares_in, Scoped, AllScoped}
use Rattle.wy_sound_programs.specs.Once.{Once, AllOnce, OnceRoutine, routine_scope, ParamsScoped, RoutinesAreScoped}
use Rattle.wy_sound_programs.proofs.SlotLemmas.{no_slot, same_slot, same_or_apart, slot_put, slot_other}

-- ---- declarations last

new_apart : (slots : List (Option Ty)) (x y : ℕ) (t : Ty) → slot_at slots x ≡ None → slot_at slots y ≡ Some t → x ≡ y → ⊥
new_apart slots x y t e f q = no_slot t (sym e ∙ (ap (slot_at slots) q ∙ f))

mutual
  lasts : (st : Stmt ℕ) (slots : List (Option Ty)) (x : ℕ) (t : Ty) → Once slots st → slot_at slots x ≡ Some t → slot_at (declares st slots) x ≡ Some t
  lasts (DeclareStmt at u y value) slots x t h e = slot_other slots y u x (new_apart slots y x t h e) ∙ e
  lasts (AssignStmt at y path v) slots x t h e = e
  lasts (CallStmt at f es) slots x t h e = e
  lasts (ReturnStmt at value) slots x t h e = e
  lasts (AssertStmt at v) slots x t h e = e
  lasts (BreakStmt at) slots x t h e = e
  lasts (ContinueStmt at) slots x t h e = e
  lasts (SkipStmt at) slots x t h e = e
  lasts (FailStmt at) slots x t h e = e
  lasts (IfStmt at v first second) slots x t h e = all_last second (declares_in first slots) x t h.1 (all_last first slots x t h.0 e)
  lasts (WhileStmt at v invariants body) slots x t h e = all_last body slots x t h e

  all_last : (block : Stmts ℕ) (slots : List (Option Ty)) (x : ℕ) (t : Ty) → AllOnce slots block → slot_at slots x ≡ Some t → slot_at (declares_in block slots) x ≡ Some t
  all_last NoStmts slots x t h e = e
  all_last (MoreStmts first rest) slots x t h e = all_last rest (declares first slots) x t h.1 (lasts first slots x t h.0 e)

-- ---- the types of the conditions

-- each variable that is declared is one of so many, and has its declared type
abbrev Agrees : List (Option Ty) → List Ty → Type 0
Agrees slots ts = (x : ℕ) (t : Ty) → slot_at slots x ≡ Some t → (x < length ts) × (type_at ts x ≡ t)

set_length : (ts : List Ty) (x : ℕ) (t : Ty) → length (set_type ts x t) ≡ length ts
set_length [] x t = refl
set_length (s ∷ ts) zero t = refl
set_length (s ∷ ts) (suc x) t = ap suc (set_length ts x t)

set_same : (ts : List Ty) (x : ℕ) (t : Ty) → x < length ts → type_at (set_type ts x t) x ≡ t
set_same [] x t lt = absurd (omega (arith, lt))
set_same (s ∷ ts) zero t lt = refl
set_same (s ∷ ts) (suc x) t lt = set_same ts x t (omega (arith, lt))

set_other : (ts : List Ty) (x : ℕ) (t : Ty) (y : ℕ) → (x ≡ y → ⊥) → type_at (set_type ts x t) y ≡ type_at ts y
set_other [] x t y h = refl
set_other (s ∷ ts) zero t zero h = absurd (h refl)
set_other (s ∷ ts) zero t (suc y) h = refl
set_other (s ∷ ts) (suc x) t zero h = refl
set_other (s ∷ ts) (suc x) t (suc y) h = set_other ts x t y (λ e. h (ap suc e))

agrees_put : (slots : List (Option Ty)) (ts : List Ty) (x : ℕ) (t : Ty) → x < length ts → Agrees slots ts → Agrees (put_slot slots x t) (set_type ts x t)
agrees_put slots ts x t lt h y u e = by (same_or_apart x y) where
  by : (x ≡ y) ⊎ ((x == y) ≡ false) → (y < length (set_type ts x t)) × (type_at (set_type ts x t) y ≡ u)
  by (inl q) =
      let is : t ≡ u = same_slot t u (sym (slot_put slots x t) ∙ (ap (slot_at (put_slot slots x t)) q ∙ e)) in (
        subst (λ (n : ℕ). y < n) (sym (set_length ts x t)) (subst (λ (z : ℕ). z < length ts) q lt),
        subst (λ (z : ℕ). type_at (set_type ts x t) z ≡ u) q (set_same ts x t lt ∙ is),
      )
  by (inr q) =
      let old = h y u (sym (slot_other slots x t y (apart_of x y q)) ∙ e) in
      (subst (λ (n : ℕ). y < n) (sym (set_length ts x t)) old.0, set_other ts x t y (apart_of x y q) ∙ old.1)

module _ (o : Offers) (n : ℕ) where
  mutual
    agree : (st : Stmt ℕ) (a : Around) (vs : bound.Scope) (slots : List (Option Ty)) (ts : List Ty) → BoundStmt o n a vs st → length ts ≡ n → Agrees slots ts → Agrees (declares st slots) (declared_in st ts) × (length (declared_in st ts) ≡ n)
    agree (DeclareStmt at t x value) a vs slots ts b is h = (agrees_put slots ts x t (subst (λ (m : ℕ). x < m) (sym is) b.2.0) h, set_length ts x t ∙ is)
    agree (AssignStmt at x path v) a vs slots ts b is h = (h, is)
    agree (CallStmt at f es) a vs slots ts b is h = (h, is)
    agree (ReturnStmt at value) a vs slots ts b is h = (h, is)
    agree (AssertStmt at v) a vs slots ts b is h = (h, is)
    agree (BreakStmt at) a vs slots ts b is h = (h, is)
    agree (ContinueStmt at) a vs slots ts b is h = (h, is)
    agree (SkipStmt at) a vs slots ts b is h = (h, is)
    agree (FailStmt at) a vs slots ts b is h = (h, is)
    agree (IfStmt at v first second) a vs slots ts b is h = let x = all_agree first a vs slots ts b.1 is h in all_agree second a vs (declares_in first slots) (declared_in_all first ts) b.2 x.1 x.0
    agree (WhileStmt at v invariants body) a vs slots ts b is h = all_agree body (looped a) vs slots ts b.2 is h

    all_agree : (block : Stmts ℕ) (a : Around) (vs : bound.Scope) (slots : List (Option Ty)) (ts : List Ty) → BoundStmts o n a vs block → length ts ≡ n → Agrees slots ts → Agrees (declares_in block slots) (declared_in_all block ts) × (length (declared_in_all block ts) ≡ n)
    all_agree NoStmts a vs slots ts b is h = (h, is)
    all_agree (MoreStmts first rest) a vs slots ts b is h = let x = agree first a vs slots ts b.0 is h in all_agree rest a (behind vs first) (declares first slots) (declared_in first ts) b.1 x.1 x.0

-- ---- variables in scope were declared

abbrev Known : bound.Scope → List (Option Ty) → Type 0
Known vs slots = (x : ℕ) → bound.Has vs x → (t : Ty) × (slot_at slots x ≡ Some t)

known_last : (st : Stmt ℕ) (vs : bound.Scope) (slots : List (Option Ty)) → Once slots st → Known vs slots → Known vs (declares st slots)
known_last st vs slots h k x i = let o = k x i in (o.0, lasts st slots x o.0 h o.1)

known_behind : (st : Stmt ℕ) (vs : bound.Scope) (slots : List (Option Ty)) → Once slots st → Known vs slots → Known (behind vs st) (declares st slots)
known_behind (DeclareStmt at t x value) vs slots h k y (inl e) = (t, subst (λ (z : ℕ). slot_at (put_slot slots x t) z ≡ Some t) e (slot_put slots x t))
known_behind (DeclareStmt at t x value) vs slots h k y (inr i) = known_last (DeclareStmt at t x value) vs slots h k y i
known_behind (AssignStmt at x path v) vs slots h k y i = known_last (AssignStmt at x path v) vs slots h k y i
known_behind (CallStmt at f es) vs slots h k y i = known_last (CallStmt at f es) vs slots h k y i
known_behind (ReturnStmt at value) vs slots h k y i = known_last (ReturnStmt at value) vs slots h k y i
known_behind (AssertStmt at v) vs slots h k y i = known_last (AssertStmt at v) vs slots h k y i
known_behind (BreakStmt at) vs slots h k y i = known_last (BreakStmt at) vs slots h k y i
known_behind (ContinueStmt at) vs slots h k y i = known_last (ContinueStmt at) vs slots h k y i
known_behind (SkipStmt at) vs slots h k y i = known_last (SkipStmt at) vs slots h k y i
known_behind (FailStmt at) vs slots h k y i = known_last (FailStmt at) vs slots h k y i
known_behind (IfStmt at v first second) vs slots h k y i = known_last (IfStmt at v first second) vs slots h k y i
known_behind (WhileStmt at v invariants body) vs slots h k y i = known_last (WhileStmt at v invariants body) vs slots h k y i

few_new : (n x : ℕ) (vs : bound.Scope) → x < n → ((y : ℕ) → bound.Has vs y → y < n) → (y : ℕ) → (x ≡ y) ⊎ bound.Has vs y → y < n
few_new n x vs lt few y (inl e) = subst (λ (z : ℕ). z < n) e lt
few_new n x vs lt few y (inr i) = few y i

few_behind : (o : Offers) (n : ℕ) (st : Stmt ℕ) (vs : bound.Scope) (a : Around) → BoundStmt o n a vs st → ((x : ℕ) → bound.Has vs x → x < n) → (x : ℕ) → bound.Has (behind vs st) x → x < n
few_behind o n (DeclareStmt at t x value) vs a b few y i = few_new n x vs b.2.0 few y i
few_behind o n (AssignStmt at x path v) vs a b few y i = few y i
few_behind o n (CallStmt at f es) vs a b few y i = few y i
few_behind o n (ReturnStmt at value) vs a b few y i = few y i
few_behind o n (AssertStmt at v) vs a b few y i = few y i
few_behind o n (BreakStmt at) vs a b few y i = few y i
few_behind o n (ContinueStmt at) vs a b few y i = few y i
few_behind o n (SkipStmt at) vs a b few y i = few y i
few_behind o n (FailStmt at) vs a b few y i = few y i
few_behind o n (IfStmt at v first second) vs a b few y i = few y i
few_behind o n (WhileStmt at v invariants body) vs a b few y i = few y i

module _ (o : Offers) (c : Scope) where
  -- what is declared at the end has the types of the conditions
  abbrev Ends : List (Option Ty) → Type 0
  Ends slots = (x : ℕ) (t : Ty) → slot_at slots x ≡ Some t → type_at c.types x ≡ t

  mutual
    scoped : (st : Stmt ℕ) (a : Around) (vs : bound.Scope) (slots : List (Option Ty)) → a.has_result ≡ c.has_result → BoundStmt o c.many a vs st → Once slots st → Known vs slots → Ends (declares st slots) → ((x : ℕ) → bound.Has vs x → x < c.many) → Scoped c slots st
    scoped (DeclareStmt at t x value) a vs slots r b h k ends few = (b.2.0, h, ends x t (slot_put slots x t))
    scoped (AssignStmt at x path v) a vs slots r b h k ends few = let d = k x b.0 in (few x b.0, d.1 ∙ ap (λ (t : Ty). Some t) (sym (ends x d.0 d.1)))
    scoped (CallStmt at f es) a vs slots r b h k ends few = tt
    scoped (ReturnStmt at value) a vs slots r b h k ends few = b.0 ∙ r
    scoped (AssertStmt at v) a vs slots r b h k ends few = tt
    scoped (BreakStmt at) a vs slots r b h k ends few = tt
    scoped (ContinueStmt at) a vs slots r b h k ends few = tt
    scoped (SkipStmt at) a vs slots r b h k ends few = tt
    scoped (FailStmt at) a vs slots r b h k ends few = tt
    scoped (IfStmt at v first second) a vs slots r b h k ends few = (
      all_scoped first a vs slots r b.1 h.0 k (λ x t e. ends x t (all_last second (declares_in first slots) x t h.1 e)) few,
      all_scoped second a vs (declares_in first slots) r b.2 h.1 (λ x i. let d = k x i in (d.0, all_last first slots x d.0 h.0 d.1)) ends few,
    )
    scoped (WhileStmt at v invariants body) a vs slots r b h k ends few = all_scoped body (looped a) vs slots r b.2 h k ends few

    all_scoped : (block : Stmts ℕ) (a : Around) (vs : bound.Scope) (slots : List (Option Ty)) → a.has_result ≡ c.has_result → BoundStmts o c.many a vs block → AllOnce slots block → Known vs slots → Ends (declares_in block slots) → ((x : ℕ) → bound.Has vs x → x < c.many) → AllScoped c slots block
    all_scoped NoStmts a vs slots r b h k ends few = tt
    all_scoped (MoreStmts first rest) a vs slots r b h k ends few = (
      scoped first a vs slots r b.0 h.0 k (λ x t e. ends x t (all_last rest (declares first slots) x t h.1 e)) few,
      all_scoped rest a (behind vs first) (declares first slots) r b.1 h.1 (known_behind first vs slots h.0 k) ends (few_behind o c.many first vs a b.0 few),
    )

-- ---- parameters

any_length : (names : List (List ℕ)) → length (any_types names) ≡ length names
any_length [] = refl
any_length (n ∷ ns) = ap suc (any_length ns)

-- parameters behind others: what is in scope is declared, with its type
record Params (vs : bound.Scope) (slots : List (Option Ty)) (ts : List Ty) (n : ℕ) : Type 0 where
  pub many : length ts ≡ n
  pub agrees : Agrees slots ts
  pub known : Known vs slots
  pub few : (x : ℕ) → bound.Has vs x → x < n
  pub scoped : (x : ℕ) (t : Ty) → slot_at slots x ≡ Some t → bound.Has vs x

params_on : (o : Offers) (n : ℕ) (ps : List Param) (vs : bound.Scope) (slots : List (Option Ty)) (ts : List Ty) → BoundParams o n vs ps → Params vs slots ts n → Params (with_params vs ps) (declared_params slots ps) (param_types ps ts) n
params_on o n [] vs slots ts b h = h
params_on o n (p ∷ ps) vs slots ts b h =
    params_on o n ps (p.variable ∷ vs) (put_slot slots p.variable p.ty) (set_type ts p.variable p.ty) b.2 (record {
      many = set_length ts p.variable p.ty ∙ h.many;
      agrees = agrees_put slots ts p.variable p.ty (subst (λ (m : ℕ). p.variable < m) (sym h.many) b.1.0) h.agrees;
      known = λ x i. known x i;
      few = λ x i. few x i;
      scoped = λ x t e. scope x t e (same_or_apart p.variable x);
    })
  where
    known : (x : ℕ) → (p.variable ≡ x) ⊎ bound.Has vs x → (t : Ty) × (slot_at (put_slot slots p.variable p.ty) x ≡ Some t)
    known x (inl e) = (p.ty, subst (λ (z : ℕ). slot_at (put_slot slots p.variable p.ty) z ≡ Some p.ty) e (slot_put slots p.variable p.ty))
    known x (inr i) = let d = h.known x i in (d.0, slot_other slots p.variable p.ty x (λ e. b.1.1 (subst (bound.Has vs) (sym e) i)) ∙ d.1)

    few : (x : ℕ) → (p.variable ≡ x) ⊎ bound.Has vs x → x < n
    few x (inl e) = subst (λ (z : ℕ). z < n) e b.1.0
    few x (inr i) = h.few x i

    scope : (x : ℕ) (t : Ty) → slot_at (put_slot slots p.variable p.ty) x ≡ Some t → (p.variable ≡ x) ⊎ ((p.variable == x) ≡ false) → (p.variable ≡ x) ⊎ bound.Has vs x
    scope x t e (inl q) = inl q
    scope x t e (inr q) = inr (h.scoped x t (sym (slot_other slots p.variable p.ty x (apart_of p.variable x q)) ∙ e))

none_params : (names : List (List ℕ)) → Params [] [] (any_types names) (length names)
none_params names = record { many = any_length names; agrees = λ x t e. no_slot t e; known = λ x i. absurd i; few = λ x i. absurd i; scoped = λ x t e. no_slot t e }

-- a parameter stays declared behind others
params_keep : (o : Offers) (n : ℕ) (ps : List Param) (vs : bound.Scope) (slots : List (Option Ty)) (x : ℕ) (t : Ty) → BoundParams o n vs ps → bound.Has vs x → slot_at slots x ≡ Some t → slot_at (declared_params slots ps) x ≡ Some t
params_keep o n [] vs slots x t b h e = e
params_keep o n (p ∷ ps) vs slots x t b h e =
    params_keep o n ps (p.variable ∷ vs) (put_slot slots p.variable p.ty) x t b.2 (inr h) (slot_other slots p.variable p.ty x (λ q. b.1.1 (subst (bound.Has vs) (sym q) h)) ∙ e)

params_scoped : (o : Offers) (c : Scope) (ps : List Param) (vs : bound.Scope) (slots : List (Option Ty)) → BoundParams o c.many vs ps → ((x : ℕ) (t : Ty) → slot_at (declared_params slots ps) x ≡ Some t → type_at c.types x ≡ t) → ParamsScoped c ps
params_scoped o c [] vs slots b ends = tt
params_scoped o c (p ∷ ps) vs slots b ends = (
  b.1.0,
  ends p.variable p.ty (params_keep o c.many ps (p.variable ∷ vs) (put_slot slots p.variable p.ty) p.variable p.ty b.2 (inl refl) (slot_put slots p.variable p.ty)),
  params_scoped o c ps (p.variable ∷ vs) (put_slot slots p.variable p.ty) b.2 ends,
)

module _ (o : Offers) (r : Routine ℕ) (b : BoundRoutine o r) (once : OnceRoutine r) where
  abbrev slots : List (Option Ty)
  slots = declared_params [] r.params

  abbrev around : Around
  around = record { in_loop = false; has_result = is_some r.result }

  entered : Params (with_params [] r.params) slots (param_types r.params (any_types r.variables)) (length r.variables)
  entered = params_on o (length r.variables) r.params [] [] (any_types r.variables) b.params (none_params r.variables)

  -- what is declared at the end has the types of the conditions
  ended : (x : ℕ) (t : Ty) → slot_at (declares_in r.body slots) x ≡ Some t → type_at (types_of r) x ≡ t
  ended x t e = ((all_agree o (length r.variables) r.body around (with_params [] r.params) slots (param_types r.params (any_types r.variables)) b.body entered.many entered.agrees).0 x t e).1

  body_scoped : AllScoped (routine_scope r) slots r.body
  body_scoped = all_scoped o (routine_scope r) r.body around (with_params [] r.params) slots refl b.body once entered.known ended entered.few

  all_params : ParamsScoped (routine_scope r) r.params
  all_params = params_scoped o (routine_scope r) r.params [] [] b.params (λ x t e. ended x t (all_last r.body slots x t once e))

pub routines_scoped : RoutinesAreScoped
routines_scoped = record { body = body_scoped; params = all_params }
