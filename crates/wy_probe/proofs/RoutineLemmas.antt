-- A declared function or method is found by its number, and has the lists of its parameters.
use Rattle.std.proofs.Common.{◌≡◌, ℕ, zero, suc, ◌+◌, List, [], ◌∷◌, length, Bool, true, false, Option, Some, None, refl, sym, ap, ◌∙◌, subst}
use Rattle.std.specs.Prelude.{nat_eq, slice_get}
use Rattle.std.proofs.lemmas.Bool.{eq-eqb}
use Rattle.wy_lemmas.proofs.Options.{some_is}
use Rattle.wy_value.specs.Datum.{Datum, Null}
use Rattle.wy_core.specs.CoreTree.{Alias, Expr, Param, Routine}
use Rattle.wy_sem.specs.Meter.{Meter, Outcome, Done, Fault, More, Spent, Run, ◌>>=◌}
use Rattle.wy_sem.specs.Expressions.{Setting, Store, holds}
use Rattle.wy_sem.specs.TypeTests.{clause_setting, forgiven, member}
use Rattle.wy_sem.specs.Evaluation.{Declared, callee, entry_of, start}
use Rattle.wy_sem.specs.Precondition.{Verdict, CountFails, TypeFails, RequiresFails, passed, requires_met, types_met}
use Rattle.wy_eval_exprs.specs.Settings.{here}
use Rattle.wy_eval_exprs.specs.Verdicts.{NoRoutine}

pub callee_at : (rs : List (Routine ℕ)) (f : ℕ) (r : Routine ℕ) → slice_get rs f ≡ Some r → callee rs f ≡ Declared r
callee_at [] f r e = let n : Option (Routine ℕ) = None in let g : n ≡ Some r = e in absurd cc
callee_at (q ∷ rs) zero r e = ap (λ (x : Routine ℕ). Declared x) (some_is q r e)
callee_at (q ∷ rs) (suc f) r e = callee_at rs f r e

-- ---- as many arguments as parameters are never too few or too many

as_many : List Param → List Datum
as_many [] = []
as_many (p ∷ ps) = Null ∷ as_many ps

as_long : (ps : List Param) → length (as_many ps) ≡ length ps
unfolding as_many
as_long [] = refl
as_long (p ∷ ps) = ap (λ n. suc n) (as_long ps)

tested : (wrong : Verdict) (next : Run Verdict) (n : Meter) → (wrong ≡ CountFails → ⊥) → ((q : Meter) → next q ≡ Done CountFails n → ⊥) → (o : Outcome Bool) → (o >>= (λ b. passed b wrong next)) ≡ Done CountFails n → ⊥
tested wrong next n other later (Done true q) h = later q h
tested wrong next n other later (Done false q) h = let g : Done wrong q ≡ Done CountFails n = h in let same : wrong ≡ CountFails = cc in other same
tested wrong next n other later (Fault kind at q) h = absurd cc
tested wrong next n other later (More q) h = absurd cc
tested wrong next n other later Spent h = absurd cc

requires_uncounted : (w : Setting ℕ) (es : List (Expr ℕ)) (s : Store) (k : ℕ) (m n : Meter) → requires_met w es s k m ≡ Done CountFails n → ⊥
requires_uncounted w [] s k m n e = absurd cc
requires_uncounted w (x ∷ es) s k m n e = tested (RequiresFails k) (requires_met w es s (k + 1)) n (λ d. cc) (λ q. requires_uncounted w es s (k + 1) q n) (forgiven (holds w x s m)) e

types_uncounted : (limit : Option ℕ) (types : List (Alias ℕ)) (next : Run Verdict) → ((m n : Meter) → next m ≡ Done CountFails n → ⊥)
    → (ps : List Param) (vs : List Datum) (k : ℕ) (m n : Meter) → types_met here limit types ps vs k next m ≡ Done CountFails n → ⊥
types_uncounted limit types next uncounted [] vs k m n e = uncounted m n e
types_uncounted limit types next uncounted (p ∷ ps) [] k m n e = uncounted m n e
types_uncounted limit types next uncounted (p ∷ ps) (v ∷ vs) k m n e =
    tested (TypeFails k) (types_met here limit types ps vs (k + 1) next) n (λ d. cc) (λ q. types_uncounted limit types next uncounted ps vs (k + 1) q n) (member here limit types p.ty v m) e

-- so there is one
pub is_routine : (rs : List (Routine ℕ)) (f : ℕ) (r : Routine ℕ) → slice_get rs f ≡ Some r → NoRoutine (callee rs f) → ⊥
is_routine rs f r there none =
    let w = clause_setting here (Some 0) [] in
    let vs = as_many r.params in
    let tests = types_met here (Some 0) [] r.params vs 1 (requires_met w r.preconditions (entry_of r vs) 1) in
    let right : nat_eq (length vs) (length r.params) ≡ true = eq-eqb (length vs) (length r.params) (as_long r.params) in
    let fails = subst NoRoutine (callee_at rs f r there) none 0 [] vs (start 0) in
    types_uncounted (Some 0) [] (requires_met w r.preconditions (entry_of r vs) 1) (λ m n e. requires_uncounted w r.preconditions (entry_of r vs) 1 m n e) r.params vs 1 (start 0) (start 0)
    (sym (ap (λ b. passed b CountFails tests (start 0)) right) ∙ fails)
