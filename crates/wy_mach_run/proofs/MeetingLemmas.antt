-- What the test of arguments finds of a declared function or method.
use Rattle.std.proofs.Common.{◌≡◌, ◌≢◌, ℕ, zero, suc, ◌+◌, Bool, true, false, List, [], ◌∷◌, length, map, Option, Some, None, sym, ap, ◌∙◌, subst}
use Rattle.std.specs.Prelude.{nat_eq, slice_get}
use Rattle.std.proofs.lemmas.Bool.{eqb-true, eq-eqb}
use Rattle.std.proofs.lemmas.List.{length-map}
use Rattle.wy_lemmas.proofs.Choices.{false_of}
use Rattle.wy_value.specs.Datum.{Datum}
use Rattle.wy_value.specs.Seen.{seen}
use Rattle.wy_value.specs.declared.value.Value.{Value}
use Rattle.wy_core.specs.CoreTree.{Alias, Core, Expr, Param, Routine, aliases_of, routines_of}
use Rattle.wy_gen_laws.specs.wy_sem.Meter.{Meter, Outcome, Done, Fault, More, Spent, Run, ◌>>=◌}
use Rattle.wy_gen_laws.specs.wy_sem.Evaluation.{Declared, callee, entry_of, start, turns_of}
use Rattle.wy_gen_laws.specs.wy_sem.Expressions.{Setting, Store, holds}
use Rattle.wy_gen_laws.specs.wy_sem.TypeTests.{clause_setting, forgiven, member}
use Rattle.wy_gen_laws.specs.wy_sem.Precondition.{Verdict, Met, CountFails, TypeFails, RequiresFails, passed, requires_met, types_met, callee_met, CalleeMeets, Meets, RoutineMeets, precondition, cost}
use Rattle.wy_gen_laws.proofs.wy_sem_proofs.MeetsAnswers.{met_is_exact}
use Rattle.wy_eval_exprs.specs.Settings.{here}
use Rattle.wy_eval_exprs.specs.Verdicts.{Finds}
use Rattle.wy_mach_run.specs.Entries.{IsEntry}

-- ---- the entry

callee_at : (rs : List (Routine ℕ)) (f : ℕ) (r : Routine ℕ) → slice_get rs f ≡ Some r → callee rs f ≡ Declared r
callee_at [] f r e = let n : Option (Routine ℕ) = None in let g : n ≡ Some r = e in absurd cc
callee_at (s ∷ rs) zero r e = let g : Some s ≡ Some r = e in let same : s ≡ r = cc in ap Declared same
callee_at (s ∷ rs) (suc f) r e = callee_at rs f r e

-- ---- the number of arguments

-- a test whose failure is another verdict, and then what doesn't find the count wrong
tested : (wrong : Verdict) (next : Run Verdict) (n : Meter) → (wrong ≡ CountFails → ⊥) → ((q : Meter) → next q ≡ Done CountFails n → ⊥) → (o : Outcome Bool) → (o >>= (λ b. passed b wrong next)) ≡ Done CountFails n → ⊥
tested wrong next n other later (Done true q) h = later q h
tested wrong next n other later (Done false q) h = let g : Done wrong q ≡ Done CountFails n = h in let same : wrong ≡ CountFails = cc in other same
tested wrong next n other later (Fault kind at q) h = absurd cc
tested wrong next n other later (More q) h = absurd cc
tested wrong next n other later Spent h = absurd cc

requires_uncounted : (w : Setting ℕ) (es : List (Expr ℕ)) (s : Store) (k : ℕ) (m n : Meter) → requires_met w es s k m ≡ Done CountFails n → ⊥
requires_uncounted w [] s k m n e = absurd cc
requires_uncounted w (x ∷ es) s k m n e = tested (RequiresFails k) (requires_met w es s (k + 1)) n (λ d. cc) (λ q. requires_uncounted w es s (k + 1) q n) (forgiven (holds w x s m)) e

module _ (types : List (Alias ℕ)) (next : Run Verdict) (uncounted : (m n : Meter) → next m ≡ Done CountFails n → ⊥) where
  types_uncounted : (ps : List Param) (vs : List Datum) (k : ℕ) (m n : Meter) → types_met here None types ps vs k next m ≡ Done CountFails n → ⊥
  types_uncounted [] vs k m n e = uncounted m n e
  types_uncounted (p ∷ ps) [] k m n e = uncounted m n e
  types_uncounted (p ∷ ps) (v ∷ vs) k m n e = tested (TypeFails k) (types_met here None types ps vs (k + 1) next) n (λ d. cc) (λ q. types_uncounted ps vs (k + 1) q n) (member here None types p.ty v m) e

module _ (core : Core ℕ) (name : List ℕ) (f : ℕ) (r : Routine ℕ) (entry : IsEntry core name f r) (args : List Value) where
  abbrev vs : List Datum
  vs = map seen args

  at_entry : precondition here None core f vs ≡ callee_met here None (aliases_of core) (Declared r) vs (start 0)
  at_entry = ap (λ c. callee_met here None (aliases_of core) c vs (start 0)) (callee_at (routines_of core) f r entry.there)

  abbrev tests : Run Verdict
  tests = types_met here None (aliases_of core) r.params vs 1 (requires_met (clause_setting here None (aliases_of core)) r.preconditions (entry_of r vs) 1)

  -- another number of arguments
  pub miscounted : length args ≢ length r.params → precondition here None core f vs ≡ Done CountFails (start 0)
  miscounted other =
      at_entry ∙ ap (λ b. passed b CountFails tests (start 0)) (false_of (nat_eq (length vs) (length r.params)) (λ e. other (sym (length-map args seen) ∙ eqb-true (length vs) (length r.params) e)))

  -- where the count fails, it is another one
  pub count_fails : Finds CountFails (precondition here None core f vs) → length args ≢ length r.params
  count_fails found same =
      let right : nat_eq (length vs) (length r.params) ≡ true = eq-eqb (length vs) (length r.params) (length-map args seen ∙ same) in
      let told : tests (start 0) ≡ Done CountFails found.0 = sym (at_entry ∙ ap (λ b. passed b CountFails tests (start 0)) right) ∙ found.1 in
      types_uncounted (aliases_of core) (requires_met (clause_setting here None (aliases_of core)) r.preconditions (entry_of r vs) 1)
      (λ m n e. requires_uncounted (clause_setting here None (aliases_of core)) r.preconditions (entry_of r vs) 1 m n e) r.params vs 1 (start 0) found.0 told

  pub costs_nothing : length args ≢ length r.params → cost here core f vs ≡ 0
  costs_nothing other = ap turns_of (miscounted other)

  -- arguments that meet it are as many as it takes
  pub met_count : Meets here core f vs → length args ≡ length r.params
  met_count met =
      let m : RoutineMeets here (aliases_of core) r vs = subst (λ c. CalleeMeets here (aliases_of core) c vs) (callee_at (routines_of core) f r entry.there) met in
      sym (length-map args seen) ∙ m.count

-- another verdict is found of none that meet
pub not_met : (core : Core ℕ) (f : ℕ) (args : List Value) (v : Verdict) → Finds v (precondition here None core f (map seen args)) → (v ≡ Met → ⊥) → Meets here core f (map seen args) → ⊥
not_met core f args v found other met = let tells = met_is_exact here core f (map seen args) v found.0 found.1 in other (tells.1 met)

pub one_verdict : (v w : Verdict) (o : Outcome Verdict) → Finds v o → Finds w o → v ≡ w
one_verdict v w o a b = let same : Done v a.0 ≡ Done w b.0 = sym a.1 ∙ b.1 in cc
