-- Calls keep each relation of runs.
use Rattle.std.proofs.Common.{ℕ, zero, suc, List, [], ◌∷◌, Bool, true, false, length}
use Rattle.std.specs.Prelude.{Option, None, nat_eq}
use Rattle.std.specs.Fmt.{signed_decimal}
use Rattle.wy_term.specs.wy_value.Datum.{Datum, Data, no_items, item}
use Rattle.wy_types.specs.wy_core.Types.{Ty}
use Rattle.wy_types.specs.wy_core.CoreTree.{Routine, Param, Core, aliases_of, routines_of}
use Rattle.wy_term.specs.declared.cond.CondKind.TheVariants as kind
use Rattle.wy_sem.specs.Meter.{Run}
use Rattle.wy_sem.specs.Operations.{nat_of}
use Rattle.wy_sem.specs.TypeTests.{Test, tests, is_constrained}
use Rattle.wy_sem.specs.Statements.{Exit, Went, Broke, Continued, Gave}
use Rattle.wy_sem.specs.Evaluation.{is_ascii, text_of, print_call, print_int_call, Callee, Declared, Print, PrintInt, Undeclared, callee, types_of, entry_of, arguments, result_given, result_of, owed_member, frame_of, routine_call, called, run}
use Rattle.wy_sem.specs.Relation.{Relation, Spends, Turns, Bounds}
use Rattle.wy_sem.proofs.RelatedOperations.{choose-kept, check-kept, number-kept, items-kept}
use Rattle.wy_sem.proofs.RelatedExpressions.{setting}
use Rattle.wy_sem.proofs.RelatedTests.{tests-kept, member-kept, clauses-kept}
use Rattle.wy_sem.proofs.RelatedStatements.{given-kept, leave-kept, exec_all-kept}

module _ (q : Relation) (l1 l2 : Option ℕ) (turns : Turns q l1 l2 false) where
  text-kept : (at : ℕ) (ds : Data) → q.Rel (List ℕ) (text_of l1 at ds) (text_of l2 at ds)
  text-kept at no_items = q.done (List ℕ) []
  text-kept at (item d ds) = turns (List ℕ) _ _ (number-kept q (List ℕ) at d _ _ (λ z. check-kept q (List ℕ) (is_ascii z) kind.Requires at _ _
      (q.bind (List ℕ) (List ℕ) _ _ _ _ (text-kept at ds) (λ bytes. q.done (List ℕ) (nat_of z ∷ bytes)))))

  print-kept : (at : ℕ) (vs : List Datum) → q.Rel (Option Datum) (print_call l1 at vs) (print_call l2 at vs)
  print-kept at [] = q.fault (Option Datum) kind.Member at
  print-kept at (v ∷ []) = items-kept q (Option Datum) at v _ _ (λ ds. q.bind (List ℕ) (Option Datum) _ _ _ _ (text-kept at ds) (λ bytes. q.prints bytes))
  print-kept at (v ∷ w ∷ vs) = q.fault (Option Datum) kind.Member at

  print_int-kept : (at : ℕ) (vs : List Datum) → q.Rel (Option Datum) (print_int_call at vs) (print_int_call at vs)
  print_int-kept at [] = q.fault (Option Datum) kind.Member at
  print_int-kept at (v ∷ []) = number-kept q (Option Datum) at v _ _ (λ z. q.prints (signed_decimal z))
  print_int-kept at (v ∷ w ∷ vs) = q.fault (Option Datum) kind.Member at

  arguments-kept : (X : Type 0) (m1 m2 : Ty → Datum → Test) → ((t : Ty) (d : Datum) → q.Rel Bool (m1 t d) (m2 t d)) → (at : ℕ) (ps : List Param) (vs : List Datum) (f g : Run X) → q.Rel X f g
      → q.Rel X (arguments m1 at ps vs f) (arguments m2 at ps vs g)
  arguments-kept X m1 m2 h at [] vs f g p = p
  arguments-kept X m1 m2 h at (a ∷ ps) [] f g p = p
  arguments-kept X m1 m2 h at (a ∷ ps) (v ∷ vs) f g p = given-kept q X m1 m2 h at a.ty v _ _ (arguments-kept X m1 m2 h at ps vs f g p)

  given_back-kept : (at : ℕ) (x : Exit) → q.Rel (Option Datum) (result_given at x) (result_given at x)
  given_back-kept at (Gave v) = q.done (Option Datum) v
  given_back-kept at (Went s) = q.fault (Option Datum) kind.Member at
  given_back-kept at (Broke s) = q.fault (Option Datum) kind.Member at
  given_back-kept at (Continued from s) = q.fault (Option Datum) kind.Member at

module _ {N : Type 0} (place : N → ℕ) (q : Relation) (fuel : Bounds q) (spends : Spends q true) (l1 l2 : Option ℕ) (paid_turns : Turns q l1 l2 true) (turns : Turns q l1 l2 false) (core : Core N) where
  owed-kept : (t : Ty) (d : Datum) → q.Rel Bool (owed_member place l1 (aliases_of core) t d) (owed_member place l2 (aliases_of core) t d)
  owed-kept t d = choose-kept q Bool (is_constrained (aliases_of core) t) _ _ _ _ (member-kept place q l1 l2 (aliases_of core) turns t d) (q.done Bool true)

  paid-kept : (t : Ty) (d : Datum) → q.Rel Bool (tests place l1 (aliases_of core) (suc (length (aliases_of core))) true t d) (tests place l2 (aliases_of core) (suc (length (aliases_of core))) true t d)
  paid-kept t d = tests-kept place q l1 l2 (aliases_of core) true spends paid_turns (suc (length (aliases_of core))) t d

  free-kept : (t : Ty) (d : Datum) → q.Rel Bool (tests place l1 (aliases_of core) (suc (length (aliases_of core))) false t d) (tests place l2 (aliases_of core) (suc (length (aliases_of core))) false t d)
  free-kept t d = tests-kept place q l1 l2 (aliases_of core) false (λ X r s p. p) turns (suc (length (aliases_of core))) t d

  module _ (c1 c2 : ℕ → ℕ → List Datum → Run (Option Datum)) (calls : (f at : ℕ) (vs : List Datum) → q.Rel (Option Datum) (c1 f at vs) (c2 f at vs)) where
    result-kept : (r : Routine N) (vs : List Datum) (x : Exit) → q.Rel (Option Datum)
        (result_of (setting place l1 (tests place l1 (aliases_of core) (suc (length (aliases_of core)))) c1) (frame_of (owed_member place l1 (aliases_of core)) r vs) r.at x)
        (result_of (setting place l2 (tests place l2 (aliases_of core) (suc (length (aliases_of core)))) c2) (frame_of (owed_member place l2 (aliases_of core)) r vs) r.at x)
    result-kept r vs (Gave v) = q.done (Option Datum) v
    result-kept r vs (Went s) = q.bind Exit (Option Datum) _ _ _ _
        (leave-kept place q fuel spends l1 l2 paid_turns turns _ _ paid-kept free-kept c1 c2 calls _ _ owed-kept (types_of r) r.result r.postconditions (entry_of r vs) r.at r.result None)
        (λ x. given_back-kept q l1 l2 turns r.at x)
    result-kept r vs (Broke s) = q.fault (Option Datum) kind.Member r.at
    result-kept r vs (Continued from s) = q.fault (Option Datum) kind.Member r.at

    routine-kept : (r : Routine N) (at : ℕ) (vs : List Datum) → q.Rel (Option Datum)
        (routine_call (setting place l1 (tests place l1 (aliases_of core) (suc (length (aliases_of core)))) c1) (owed_member place l1 (aliases_of core)) r at vs)
        (routine_call (setting place l2 (tests place l2 (aliases_of core) (suc (length (aliases_of core)))) c2) (owed_member place l2 (aliases_of core)) r at vs)
    routine-kept r at vs = check-kept q (Option Datum) (nat_eq (length vs) (length r.params)) kind.Member at _ _
        (arguments-kept q l1 l2 turns (Option Datum) _ _ owed-kept at r.params vs _ _
        (clauses-kept place q l1 l2 turns _ _ free-kept c1 c2 (Option Datum) kind.Requires at r.preconditions (entry_of r vs) _ _
        (q.bind Exit (Option Datum) _ _ _ _
        (exec_all-kept place q fuel spends l1 l2 paid_turns turns _ _ paid-kept free-kept c1 c2 calls _ _ owed-kept (types_of r) r.result r.postconditions (entry_of r vs) r.body (entry_of r vs))
        (λ x. result-kept r vs x))))

    called-kept : (g : Callee N) (at : ℕ) (vs : List Datum) → q.Rel (Option Datum)
        (called (setting place l1 (tests place l1 (aliases_of core) (suc (length (aliases_of core)))) c1) (owed_member place l1 (aliases_of core)) g at vs)
        (called (setting place l2 (tests place l2 (aliases_of core) (suc (length (aliases_of core)))) c2) (owed_member place l2 (aliases_of core)) g at vs)
    called-kept (Declared r) at vs = routine-kept r at vs
    called-kept Print at vs = print-kept q l1 l2 turns at vs
    called-kept PrintInt at vs = print_int-kept q l1 l2 turns at vs
    called-kept Undeclared at vs = q.fault (Option Datum) kind.Member at

  run-alike : (a f at : ℕ) (vs : List Datum) → q.Rel (Option Datum) (run place l1 core a f at vs) (run place l2 core a f at vs)
  run-alike zero f at vs = q.more (Option Datum)
  run-alike (suc a) f at vs = spends (Option Datum) _ _ (called-kept _ _ (λ g from ws. run-alike a g from ws) (callee (routines_of core) f) at vs)

  run-kept : (a b : ℕ) → fuel.Beside a b → (f at : ℕ) (vs : List Datum) → q.Rel (Option Datum) (run place l1 core a f at vs) (run place l2 core b f at vs)
  run-kept zero zero near f at vs = q.more (Option Datum)
  run-kept (suc a) zero near f at vs = absurd (fuel.never a near)
  run-kept zero (suc b) near f at vs = fuel.ended (Option Datum) b _ _ near (run-alike (suc b) f at vs)
  run-kept (suc a) (suc b) near f at vs = spends (Option Datum) _ _ (called-kept _ _ (λ g from ws. run-kept a b (fuel.below a b near) g from ws) (callee (routines_of core) f) at vs)

  -- calls nest no deeper than there are ticks
  pub begun-kept : (f at : ℕ) (vs : List Datum) → q.Rel (Option Datum) (λ m. run place l1 core (suc m.ticks) f at vs m) (λ m. run place l2 core (suc m.ticks) f at vs m)
  begun-kept f at vs = fuel.begun (Option Datum) (λ j. run place l1 core j f at vs) (λ j. run place l2 core j f at vs) (λ a b near. run-kept a b near f at vs)
