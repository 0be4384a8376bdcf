-- A variable that statements assign has a number below their bound; and terms of other variables stay as one is put.
use Rattle.std.proofs.Common.{◌≡◌, ◌⊎◌, inl, inr, ℕ, zero, suc, ◌+◌, ◌<◌, ◌≤◌, List, [], ◌∷◌, Bool, true, false, ◌||◌, ◌==◌, Option, Some, None, refl, sym, ap, ◌∙◌, subst, arith, eqb-true}
use Rattle.wy_core.specs.CoreTree.{Stmt, DeclareStmt, AssignStmt, CallStmt, ReturnStmt, AssertStmt, BreakStmt, ContinueStmt, SkipStmt, FailStmt, IfStmt, WhileStmt, Stmts, NoStmts, MoreStmts}
use Rattle.wy_term.specs.Term.{Term}
use Rattle.wy_sound_terms.specs.wy_vc_spec.Variables.{Vars, slot_at, put}
use Rattle.wy_sound_terms.specs.wy_vc_spec.Joins.{max}
use Rattle.wy_sound_terms.specs.wy_vc_spec.Assigned.{assigns, assigns_in, bound_of, bound_in}

max_left : (m n : ℕ) → m ≤ max m n
max_left zero n = omega arith
max_left (suc m) zero = omega arith
max_left (suc m) (suc n) = let h = max_left m n in omega (arith, h)

max_right : (m n : ℕ) → n ≤ max m n
max_right zero n = omega arith
max_right (suc m) zero = omega arith
max_right (suc m) (suc n) = let h = max_right m n in omega (arith, h)

either_below : (x m n : ℕ) (a b : Bool) → (a ≡ true → x < m) → (b ≡ true → x < n) → (a || b) ≡ true → x < max m n
either_below x m n true b h g e = let l = max_left m n in let k = h refl in omega (arith, l, k)
either_below x m n false b h g e = let l = max_right m n in let k = g e in omega (arith, l, k)

own_below : (x y : ℕ) → (y == x) ≡ true → x < suc y
own_below x y e = let q = eqb-true y x e in omega (arith, q)

mutual
  pub assigned_below : {N : Type 0} (x : ℕ) (st : Stmt N) → assigns x st ≡ true → x < bound_of st
  assigned_below x (DeclareStmt at t y None) e = absurd cc
  assigned_below x (DeclareStmt at t y (Some v)) e = own_below x y e
  assigned_below x (AssignStmt at y path v) e = own_below x y e
  assigned_below x (CallStmt at f es) e = absurd cc
  assigned_below x (ReturnStmt at value) e = absurd cc
  assigned_below x (AssertStmt at v) e = absurd cc
  assigned_below x (BreakStmt at) e = absurd cc
  assigned_below x (ContinueStmt at) e = absurd cc
  assigned_below x (SkipStmt at) e = absurd cc
  assigned_below x (FailStmt at) e = absurd cc
  assigned_below x (IfStmt at v first second) e = either_below x (bound_in first) (bound_in second) (assigns_in x first) (assigns_in x second) (assigned_in_below x first) (assigned_in_below x second) e
  assigned_below x (WhileStmt at v invariants body) e = assigned_in_below x body e

  pub assigned_in_below : {N : Type 0} (x : ℕ) (sts : Stmts N) → assigns_in x sts ≡ true → x < bound_in sts
  assigned_in_below x NoStmts e = absurd cc
  assigned_in_below x (MoreStmts first rest) e = either_below x (bound_of first) (bound_in rest) (assigns x first) (assigns_in x rest) (assigned_below x first) (assigned_in_below x rest) e

-- ---- terms of variables

pub put_same : (vars : Vars) (x : ℕ) (t : Term) → slot_at (put vars x t) x ≡ Some t
put_same [] zero t = refl
put_same [] (suc x) t = put_same [] x t
put_same (v ∷ vars) zero t = refl
put_same (v ∷ vars) (suc x) t = put_same vars x t

pub put_other : (vars : Vars) (x : ℕ) (t : Term) (y : ℕ) → (x ≡ y → ⊥) → slot_at (put vars x t) y ≡ slot_at vars y
put_other [] zero t zero h = absurd (h refl)
put_other [] zero t (suc y) h = refl
put_other [] (suc x) t zero h = refl
put_other [] (suc x) t (suc y) h = put_other [] x t y (λ q. h (ap suc q))
put_other (v ∷ vars) zero t zero h = absurd (h refl)
put_other (v ∷ vars) zero t (suc y) h = refl
put_other (v ∷ vars) (suc x) t zero h = refl
put_other (v ∷ vars) (suc x) t (suc y) h = put_other vars x t y (λ q. h (ap suc q))
