-- Variables that were declared before a statement stay so, and it neither declares them nor unsets them; and what it assigns is found by typing.
use Rattle.std.proofs.Common.{◌≡◌, ◌⊎◌, inl, inr, ℕ, ◌+◌, List, [], ◌∷◌, ◌++◌, Bool, true, false, cond, ◌||◌, ◌==◌, eqb-true, Option, Some, None, refl, sym, ap, ◌∙◌, subst}
use Rattle.std.proofs.lemmas.Bool.{or_cases, or_from, or_left, or_right}
use Rattle.wy_core.specs.Types.{Ty}
use Rattle.wy_core.specs.CoreTree.{Stmt, DeclareStmt, AssignStmt, CallStmt, ReturnStmt, AssertStmt, BreakStmt, ContinueStmt, SkipStmt, FailStmt, IfStmt, WhileStmt, Stmts, NoStmts, MoreStmts}
use Rattle.wy_sound_statements.specs.wy_flow_spec.environment.Slots.{slot_at}
use Rattle.wy_lemmas.proofs.Choices.{eqb_self, false_true as no_truth, either_of as either}
use Rattle.wy_sound_statements.specs.wy_flow_spec.typing.Narrowing.{is_among, with_variable}
use Rattle.wy_sound_statements.specs.wy_flow_spec.typing.Assigned.{assigned_by, assigned_in}
use Rattle.wy_vc_spec.specs.Sizes.{exprs_in, exprs_in_list, exprs_in_stmt, exprs_in_block}
use Rattle.wy_vc_spec.specs.Numbered.{numbered_stmt, numbered_block}
use Rattle.wy_vc_spec.specs.Assigned.{assigns, assigns_in}
use Rattle.wy_sound_statements.specs.wy_sound_kinds.frames.Frames.{unsets, unsets_in}
use Rattle.wy_sound_programs.specs.Scopes.{Scope, declares, declares_in, Scoped, AllScoped}
use Rattle.wy_sound_programs.proofs.SlotLemmas.{no_slot, slot_other, same_or_apart}

-- a variable that is declared isn't one that isn't
new_apart : (slots : List (Option Ty)) (x y : ℕ) (t : Ty) → slot_at slots x ≡ None → slot_at slots y ≡ Some t → x ≡ y → ⊥
new_apart slots x y t e f q = no_slot t (sym e ∙ (ap (slot_at slots) q ∙ f))

new_differs : (slots : List (Option Ty)) (x y : ℕ) (t : Ty) → slot_at slots x ≡ None → slot_at slots y ≡ Some t → (x == y) ≡ false
new_differs slots x y t e f = by (same_or_apart x y) where
  by : (x ≡ y) ⊎ ((x == y) ≡ false) → (x == y) ≡ false
  by (inl q) = absurd (new_apart slots x y t e f q)
  by (inr q) = q

module _ (c : Scope) (x : ℕ) (t : Ty) where
  -- a variable stays declared
  mutual
    pub stays_declared : (st : Stmt ℕ) (slots : List (Option Ty)) → Scoped c slots st → slot_at slots x ≡ Some t → slot_at (declares st slots) x ≡ Some t
    stays_declared (DeclareStmt at u y value) slots h e = slot_other slots y u x (new_apart slots y x t h.1 e) ∙ e
    stays_declared (AssignStmt at y path v) slots h e = e
    stays_declared (CallStmt at f es) slots h e = e
    stays_declared (ReturnStmt at value) slots h e = e
    stays_declared (AssertStmt at v) slots h e = e
    stays_declared (BreakStmt at) slots h e = e
    stays_declared (ContinueStmt at) slots h e = e
    stays_declared (SkipStmt at) slots h e = e
    stays_declared (FailStmt at) slots h e = e
    stays_declared (IfStmt at v first second) slots h e = all_stay_declared second (declares_in first slots) h.1 (all_stay_declared first slots h.0 e)
    stays_declared (WhileStmt at v invariants body) slots h e = all_stay_declared body slots h e

    pub all_stay_declared : (block : Stmts ℕ) (slots : List (Option Ty)) → AllScoped c slots block → slot_at slots x ≡ Some t → slot_at (declares_in block slots) x ≡ Some t
    all_stay_declared NoStmts slots h e = e
    all_stay_declared (MoreStmts first rest) slots h e = all_stay_declared rest (declares first slots) h.1 (stays_declared first slots h.0 e)

  -- it isn't unset
  mutual
    pub not_unset : (st : Stmt ℕ) (k : ℕ) (slots : List (Option Ty)) → Scoped c slots st → slot_at slots x ≡ Some t → unsets x (numbered_stmt st k) ≡ false
    not_unset (DeclareStmt at u y None) k slots h e = new_differs slots y x t h.1 e
    not_unset (DeclareStmt at u y (Some v)) k slots h e = refl
    not_unset (AssignStmt at y path v) k slots h e = refl
    not_unset (CallStmt at f es) k slots h e = refl
    not_unset (ReturnStmt at value) k slots h e = refl
    not_unset (AssertStmt at v) k slots h e = refl
    not_unset (BreakStmt at) k slots h e = refl
    not_unset (ContinueStmt at) k slots h e = refl
    not_unset (SkipStmt at) k slots h e = refl
    not_unset (FailStmt at) k slots h e = refl
    not_unset (IfStmt at v first second) k slots h e =
        or_from _ _ (none_unset first (k + exprs_in v) slots h.0 e) (none_unset second (k + exprs_in v + exprs_in_block first) (declares_in first slots) h.1 (all_stay_declared first slots h.0 e))
    not_unset (WhileStmt at v invariants body) k slots h e = none_unset body (k + exprs_in v + exprs_in_list invariants) slots h e

    pub none_unset : (block : Stmts ℕ) (k : ℕ) (slots : List (Option Ty)) → AllScoped c slots block → slot_at slots x ≡ Some t → unsets_in x (numbered_block block k) ≡ false
    none_unset NoStmts k slots h e = refl
    none_unset (MoreStmts first rest) k slots h e = or_from _ _ (not_unset first k slots h.0 e) (none_unset rest (k + exprs_in_stmt first) (declares first slots) h.1 (stays_declared first slots h.0 e))

-- ---- what is assigned

among_end : (xs : List ℕ) (x : ℕ) → is_among (xs ++ x ∷ []) x ≡ true
among_end [] x = or_left (x == x) false (eqb_self x)
among_end (y ∷ ys) x = or_right (y == x) (is_among (ys ++ x ∷ []) x) (among_end ys x)

among_more : (xs : List ℕ) (y x : ℕ) → is_among xs x ≡ true → is_among (xs ++ y ∷ []) x ≡ true
among_more [] y x e = no_truth e
among_more (z ∷ xs) y x e = either (or_cases (z == x) (is_among xs x) e) (λ q. or_left (z == x) (is_among (xs ++ y ∷ []) x) q) (λ q. or_right (z == x) (is_among (xs ++ y ∷ []) x) (among_more xs y x q))

with_itself : (xs : List ℕ) (x : ℕ) → is_among (with_variable xs x) x ≡ true
with_itself xs x = by (is_among xs x) refl where
  by : (b : Bool) → is_among xs x ≡ b → is_among (cond b xs (xs ++ x ∷ [])) x ≡ true
  by true q = q
  by false q = among_end xs x

with_others : (xs : List ℕ) (y x : ℕ) → is_among xs x ≡ true → is_among (with_variable xs y) x ≡ true
with_others xs y x e = by (is_among xs y) where
  by : (b : Bool) → is_among (cond b xs (xs ++ y ∷ [])) x ≡ true
  by true = e
  by false = among_more xs y x e

mutual
  stays_among : (st : Stmt ℕ) (x : ℕ) (xs : List ℕ) → is_among xs x ≡ true → is_among (assigned_by st xs) x ≡ true
  stays_among (DeclareStmt at u y value) x xs e = e
  stays_among (AssignStmt at y path v) x xs e = with_others xs y x e
  stays_among (CallStmt at f es) x xs e = e
  stays_among (ReturnStmt at value) x xs e = e
  stays_among (AssertStmt at v) x xs e = e
  stays_among (BreakStmt at) x xs e = e
  stays_among (ContinueStmt at) x xs e = e
  stays_among (SkipStmt at) x xs e = e
  stays_among (FailStmt at) x xs e = e
  stays_among (IfStmt at v first second) x xs e = all_stay_among second x (assigned_in first xs) (all_stay_among first x xs e)
  stays_among (WhileStmt at v invariants body) x xs e = all_stay_among body x xs e

  all_stay_among : (block : Stmts ℕ) (x : ℕ) (xs : List ℕ) → is_among xs x ≡ true → is_among (assigned_in block xs) x ≡ true
  all_stay_among NoStmts x xs e = e
  all_stay_among (MoreStmts first rest) x xs e = all_stay_among rest x (assigned_by first xs) (stays_among first x xs e)

module _ (c : Scope) (x : ℕ) (t : Ty) where
  two_among : (first second : Stmts ℕ) (i j : ℕ) (xs : List ℕ) → (assigns_in x (numbered_block first i) ≡ true → is_among (assigned_in first xs) x ≡ true) → (assigns_in x (numbered_block second j) ≡ true → is_among (assigned_in second (assigned_in first xs)) x ≡ true)
      → (assigns_in x (numbered_block first i) || assigns_in x (numbered_block second j)) ≡ true → is_among (assigned_in second (assigned_in first xs)) x ≡ true
  two_among first second i j xs f g e = by (or_cases (assigns_in x (numbered_block first i)) (assigns_in x (numbered_block second j)) e) where
    by : (assigns_in x (numbered_block first i) ≡ true) ⊎ (assigns_in x (numbered_block second j) ≡ true) → is_among (assigned_in second (assigned_in first xs)) x ≡ true
    by (inl q) = all_stay_among second x (assigned_in first xs) (f q)
    by (inr q) = g q

  -- a variable that is declared before and assigned is among those of typing
  mutual
    pub assigned_among : (st : Stmt ℕ) (k : ℕ) (slots : List (Option Ty)) (xs : List ℕ) → Scoped c slots st → slot_at slots x ≡ Some t → assigns x (numbered_stmt st k) ≡ true → is_among (assigned_by st xs) x ≡ true
    assigned_among (DeclareStmt at u y None) k slots xs h e a = no_truth a
    assigned_among (DeclareStmt at u y (Some v)) k slots xs h e a = no_truth (sym (new_differs slots y x t h.1 e) ∙ a)
    assigned_among (AssignStmt at y path v) k slots xs h e a = subst (λ (z : ℕ). is_among (with_variable xs y) z ≡ true) (eqb-true y x a) (with_itself xs y)
    assigned_among (CallStmt at f es) k slots xs h e a = no_truth a
    assigned_among (ReturnStmt at value) k slots xs h e a = no_truth a
    assigned_among (AssertStmt at v) k slots xs h e a = no_truth a
    assigned_among (BreakStmt at) k slots xs h e a = no_truth a
    assigned_among (ContinueStmt at) k slots xs h e a = no_truth a
    assigned_among (SkipStmt at) k slots xs h e a = no_truth a
    assigned_among (FailStmt at) k slots xs h e a = no_truth a
    assigned_among (IfStmt at v first second) k slots xs h e a =
        two_among first second (k + exprs_in v) (k + exprs_in v + exprs_in_block first) xs (λ q. all_among first (k + exprs_in v) slots xs h.0 e q)
        (λ q. all_among second (k + exprs_in v + exprs_in_block first) (declares_in first slots) (assigned_in first xs) h.1 (all_stay_declared c x t first slots h.0 e) q) a
    assigned_among (WhileStmt at v invariants body) k slots xs h e a = all_among body (k + exprs_in v + exprs_in_list invariants) slots xs h e a

    pub all_among : (block : Stmts ℕ) (k : ℕ) (slots : List (Option Ty)) (xs : List ℕ) → AllScoped c slots block → slot_at slots x ≡ Some t → assigns_in x (numbered_block block k) ≡ true → is_among (assigned_in block xs) x ≡ true
    all_among NoStmts k slots xs h e a = no_truth a
    all_among (MoreStmts first rest) k slots xs h e a = either (or_cases (assigns x (numbered_stmt first k)) (assigns_in x (numbered_block rest (k + exprs_in_stmt first))) a)
        (λ q. all_stay_among rest x (assigned_by first xs) (assigned_among first k slots xs h.0 e q))
        (λ q. all_among rest (k + exprs_in_stmt first) (declares first slots) (assigned_by first xs) h.1 (stays_declared c x t first slots h.0 e) q)
