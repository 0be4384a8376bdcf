-- Blocks of which no path uses a variable without a value, and their parts.
use Rattle.std.proofs.Common.{◌⊎◌, inl, inr, ℕ, Bool, List, [], ◌∷◌, ◌++◌, Some, None, refl}
use Rattle.wy_assign.proofs.BadLemmas.{HasPath}
use Rattle.wy_assign.proofs.EventLemmas.{uses_right, uses_left, uses_more}
use Rattle.wy_core.specs.CoreTree.{Stmt, DeclareStmt, AssignStmt, CallStmt, ReturnStmt, AssertStmt, BreakStmt, ContinueStmt, SkipStmt, FailStmt, IfStmt, WhileStmt, Stmts, NoStmts, MoreStmts}
use Rattle.wy_assign.specs.Paths.{Event, Uses, Sets, Unsets, End, Falls, Breaks, Continues, Leaves, Through, Course, One, Then, ExprPath, ExprsPath, ClausesPath, OptionPath, StepsPath, Ending, Before, Either, InOrder, Loop, StmtPath, StmtsPath}
use Rattle.wy_assign.specs.Assigned.{unset_behind, UsesUnset}
use Rattle.wy_sound.proofs.marks_lemmas.ReadLemmas.{Reading, read_expr, read_exprs, read_clauses, read_option, read_one, read_steps, read_then}
use Rattle.wy_sound.proofs.marks_lemmas.UseLemmas.{NoUse, after_reads}
use Rattle.wy_sound.proofs.marks_lemmas.WayLemmas.{Way}
use Rattle.wy_sound.proofs.marks_lemmas.MarkLemmas.{unmarked}
use Rattle.wy_sound.proofs.marks_lemmas.MeetLemmas.{Leads}

-- no path does so, where variables without marks have no value at first
abbrev pub Clean : Course → List Bool → Type 0
Clean C set = (x at : ℕ) (p : List Event) (end : End) → C p end → UsesUnset x at (unmarked set x) p → ⊥

-- ---- each statement has a path

order_path : (C D : Course) → HasPath C → HasPath D → HasPath (InOrder C D)
order_path C D c d = by c.1 c.2 where
  by : (end : End) → C c.0 end → HasPath (InOrder C D)
  by Falls h = (c.0 ++ d.0, d.1, inr (c.0, d.0, refl, h, d.2))
  by Breaks h = (c.0, Breaks, inl (refl, h))
  by Continues h = (c.0, Continues, inl (refl, h))
  by Leaves h = (c.0, Leaves, inl (refl, h))

reading_path : (end : End) (A : Through) → Reading A → HasPath (Ending end A)
reading_path end A a = (a.some, end, (refl, a.is_some))

event_path : (A : Through) (e : Event) → Reading A → HasPath (Ending Falls (Then A (One e)))
event_path A e a = (a.some ++ e ∷ [], Falls, (refl, (a.some, e ∷ [], refl, a.is_some, refl)))

mutual
  pub has_path : (st : Stmt ℕ) → HasPath (StmtPath st)
  has_path (DeclareStmt at t x None) = (Unsets x ∷ [], Falls, (refl, refl))
  has_path (DeclareStmt at t x (Some e)) = event_path (ExprPath e) (Sets x) (read_expr e)
  has_path (AssignStmt at x [] e) = event_path (ExprPath e) (Sets x) (read_expr e)
  has_path (AssignStmt at x (step ∷ steps) e) =
      let A = Then (StepsPath (step ∷ steps)) (ExprPath e) in
      reading_path Falls (Then (One (Uses at x)) A) (read_then (One (Uses at x)) A (read_one at x) (read_then (StepsPath (step ∷ steps)) (ExprPath e) (read_steps (step ∷ steps)) (read_expr e)))
  has_path (CallStmt at f es) = reading_path Falls (ExprsPath es) (read_exprs es)
  has_path (ReturnStmt at value) = reading_path Leaves (OptionPath value) (read_option value)
  has_path (AssertStmt at e) = reading_path Falls (ExprPath e) (read_expr e)
  has_path (BreakStmt at) = ([], Breaks, (refl, refl))
  has_path (ContinueStmt at) = ([], Continues, (refl, refl))
  has_path (SkipStmt at) = ([], Falls, (refl, refl))
  has_path (FailStmt at) = ([], Leaves, (refl, refl))
  has_path (IfStmt at e first second) = let a = read_expr e in let c = all_have_path first in (a.some ++ c.0, c.1, (a.some, c.0, refl, a.is_some, inl c.2))
  has_path (WhileStmt at e invariants body) = let a = read_then (ClausesPath invariants) (ExprPath e) (read_clauses invariants) (read_expr e) in (a.some, Falls, (0, (refl, a.is_some)))

  pub all_have_path : (block : Stmts ℕ) → HasPath (StmtsPath block)
  all_have_path NoStmts = ([], Falls, (refl, refl))
  all_have_path (MoreStmts first rest) = order_path (StmtPath first) (StmtsPath rest) (has_path first) (all_have_path rest)

-- ---- the parts of a course

pub clean_ending : (end : End) (A : Through) (set : List Bool) → Clean (Ending end A) set → NoUse A (unmarked set)
clean_ending end A set c at s = c s.0 at s.1 end (refl, s.2) s.3

-- a value is given behind it
pub clean_value : (A : Through) (e : Event) (set : List Bool) → Clean (Ending Falls (Then A (One e))) set → NoUse A (unmarked set)
clean_value A e set c at s = c s.0 at (s.1 ++ e ∷ []) Falls (refl, (s.1, e ∷ [], refl, s.2, refl)) (uses_left s.0 at (unmarked set s.0) s.1 (e ∷ []) s.3)

pub clean_first : (C D : Course) (set : List Bool) → HasPath D → Clean (InOrder C D) set → Clean C set
clean_first C D set d c x at p Falls h u = c x at (p ++ d.0) d.1 (inr (p, d.0, refl, h, d.2)) (uses_left x at (unmarked set x) p d.0 u)
clean_first C D set d c x at p Breaks h u = c x at p Breaks (inl (refl, h)) u
clean_first C D set d c x at p Continues h u = c x at p Continues (inl (refl, h)) u
clean_first C D set d c x at p Leaves h u = c x at p Leaves (inl (refl, h)) u

-- behind paths that lead to these marks
pub clean_rest : (C D : Course) (set new : List Bool) → Leads C Falls set new → Clean (InOrder C D) set → Clean D new
clean_rest C D set new l c x at p end h u = by (l x) where
  by : Way C Falls x (unmarked set x) (unmarked new x) → ⊥
  by w = c x at (w.events ++ p) end (inr (w.events, p, refl, w.is_way, h))
      (uses_right x at (unmarked set x) w.events p (uses_more x at (unmarked new x) (unset_behind x (unmarked set x) w.events) p w.unset u))

pub clean_test : (A : Through) (C : Course) (set : List Bool) → HasPath C → Clean (Before A C) set → NoUse A (unmarked set)
clean_test A C set d c at s = c s.0 at (s.1 ++ d.0) d.1 (s.1, d.0, refl, s.2, d.2) (uses_left s.0 at (unmarked set s.0) s.1 d.0 s.3)

pub clean_behind : (A : Through) (C : Course) (set : List Bool) → Reading A → Clean (Before A C) set → Clean C set
clean_behind A C set a c x at p end h u = c x at (a.some ++ p) end (a.some, p, refl, a.is_some, h) (after_reads x at (unmarked set x) A a p u)

pub clean_left : (C D : Course) (set : List Bool) → Clean (Either C D) set → Clean C set
clean_left C D set c x at p end h u = c x at p end (inl h) u

pub clean_right : (C D : Course) (set : List Bool) → Clean (Either C D) set → Clean D set
clean_right C D set c x at p end h u = c x at p end (inr h) u

-- the head of a loop
pub clean_head : (A : Through) (C : Course) (set : List Bool) → Clean (Loop A C) set → NoUse A (unmarked set)
clean_head A C set c at s = c s.0 at s.1 Falls (0, (refl, s.2)) s.3

-- its body, at the first turn
pub clean_turn : (A : Through) (C : Course) (set : List Bool) → Reading A → Clean (Loop A C) set → Clean C set
clean_turn A C set a c x at p end h u = by end h where
  again : C p Falls ⊎ C p Continues → ⊥
  again g = c x at (a.some ++ (p ++ a.some)) Falls (1, (a.some, p ++ a.some, refl, a.is_some, inr (inr (p, a.some, refl, g, (refl, a.is_some)))))
      (after_reads x at (unmarked set x) A a (p ++ a.some) (uses_left x at (unmarked set x) p a.some u))

  by : (how : End) → C p how → ⊥
  by Falls g = again (inl g)
  by Continues g = again (inr g)
  by Breaks g = c x at (a.some ++ p) Falls (1, (a.some, p, refl, a.is_some, inl (refl, g))) (after_reads x at (unmarked set x) A a p u)
  by Leaves g = c x at (a.some ++ p) Leaves (1, (a.some, p, refl, a.is_some, inr (inl (refl, g)))) (after_reads x at (unmarked set x) A a p u)
