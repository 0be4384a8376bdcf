-- Turns of loops.
use Rattle.std.proofs.Common.{◌≡◌, ◌≢◌, ℕ, suc, Bool, true, false, List, Err, sym, ap, ◌∙◌}
use Rattle.wy_value.specs.Datum.{Datum, Truth}
use Rattle.wy_core.specs.CoreTree.{Expr, Stmts}
use Rattle.wy_sem.specs.Expressions.{Setting, Store, eval}
use Rattle.wy_sem.specs.Meter.{Meter, Done, Run, ◌>>=◌, choose, spend}
use Rattle.wy_sem.specs.Operations.{as_truth}
use Rattle.wy_sem.specs.Statements.{Exit, Went, Frame, go_round, rounds, tested_truth}
use Rattle.wy_eval_exprs.specs.declared.stop.Stop.{Stop}
use Rattle.wy_eval_exprs.specs.declared.stop.Stop.TheVariants as stop
use Rattle.wy_eval_exprs.specs.Operands.{TruthOf}
use Rattle.wy_eval_exprs.specs.Outcomes.{stopped}
use Rattle.wy_eval_exprs.proofs.OperandLemmas.{not_truth}
use Rattle.wy_eval_exprs.proofs.StepLemmas.{done, spent, spent_stops, then_is, then_stops_plain}
use Rattle.wy_eval.specs.Settings.{kept}

-- ---- the test of a condition

pub truth_is : (w : Setting ℕ) (at : ℕ) (e : Expr ℕ) (s : Store) (m k : Meter) (v : Datum) (b : Bool) → eval w true e s m ≡ Done v k → v ≡ Truth b → tested_truth w at e s m ≡ Done b k
truth_is w at e s m k v b given is = then_is (eval w true e s m) (λ x. as_truth at x Done) v k given ∙ ap (λ x. as_truth at x Done k) is

pub truth_stops : (w : Setting ℕ) (at : ℕ) (e : Expr ℕ) (s : Store) (m k : Meter) (f : Stop) → (f ≢ stop.NoMemory → eval w true e s m ≡ stopped f k) → f ≢ stop.NoMemory → tested_truth w at e s m ≡ stopped f k
truth_stops w at e s m k f h none = then_stops_plain (eval w true e s m) (λ x. as_truth at x Done) k f h none

pub truth_faults : (w : Setting ℕ) (at : ℕ) (e : Expr ℕ) (s : Store) (m k : Meter) (v : Datum) (f : Stop) → eval w true e s m ≡ Done v k → TruthOf at v (Err f) → tested_truth w at e s m ≡ stopped f k
truth_faults w at e s m k v f given wrong =
    then_is (eval w true e s m) (λ x. as_truth at x Done) v k given ∙ (not_truth at v Done k wrong.1 ∙ sym (ap (λ g. stopped g k) wrong.0))

-- ---- turns

-- the turns of a loop, so many at most
abbrev pub turning : Setting ℕ → Frame ℕ → ℕ → Expr ℕ → (Store → Run Exit) → List (Expr ℕ) → ℕ → Store → Run Exit
turning w fr at test body invariants n s = rounds n at (tested_truth w at test) body (kept w invariants) s

abbrev pub RoundsLeft : Setting ℕ → Frame ℕ → ℕ → Expr ℕ → (Store → Run Exit) → List (Expr ℕ) → ℕ → Store → Meter → ℕ → Store → Meter → Type 0
RoundsLeft w fr at test body invariants n s m j now k = turning w fr at test body invariants n s m ≡ turning w fr at test body invariants j now k

-- what follows the test
abbrev pub after_test : Setting ℕ → Frame ℕ → ℕ → Expr ℕ → (Store → Run Exit) → List (Expr ℕ) → ℕ → Store → Bool → Run Exit
after_test w fr at test body invariants j s b = choose b (λ k. body s k >>= go_round at (kept w invariants) (turning w fr at test body invariants j)) (Done (Went s))

pub round_unticked : (w : Setting ℕ) (fr : Frame ℕ) (at : ℕ) (test : Expr ℕ) (body : Store → Run Exit) (invariants : List (Expr ℕ)) (j : ℕ) (s : Store) (m k : Meter) (e : Stop) → (e ≢ stop.NoMemory → spend true done m ≡ stopped e k) → e ≢ stop.NoMemory
    → turning w fr at test body invariants (suc j) s m ≡ stopped e k
round_unticked w fr at test body invariants j s m k e h none = spent_stops true (λ n. tested_truth w at test s n >>= (λ b. after_test w fr at test body invariants j s b)) m k e h none

pub round_untested : (w : Setting ℕ) (fr : Frame ℕ) (at : ℕ) (test : Expr ℕ) (body : Store → Run Exit) (invariants : List (Expr ℕ)) (j : ℕ) (s : Store) (m m1 k : Meter) (e : Stop) → spend true done m ≡ Done tt m1 → (e ≢ stop.NoMemory → tested_truth w at test s m1 ≡ stopped e k)
    → e ≢ stop.NoMemory → turning w fr at test body invariants (suc j) s m ≡ stopped e k
round_untested w fr at test body invariants j s m m1 k e ticked h none =
    spent true (λ n. tested_truth w at test s n >>= (λ b. after_test w fr at test body invariants j s b)) m m1 ticked
    ∙ then_stops_plain (tested_truth w at test s m1) (λ b. after_test w fr at test body invariants j s b) k e h none

pub round_begun : (w : Setting ℕ) (fr : Frame ℕ) (at : ℕ) (test : Expr ℕ) (body : Store → Run Exit) (invariants : List (Expr ℕ)) (j : ℕ) (s : Store) (m m1 k : Meter) (b : Bool) → spend true done m ≡ Done tt m1 → tested_truth w at test s m1 ≡ Done b k
    → turning w fr at test body invariants (suc j) s m ≡ after_test w fr at test body invariants j s b k
round_begun w fr at test body invariants j s m m1 k b ticked h =
    spent true (λ n. tested_truth w at test s n >>= (λ c. after_test w fr at test body invariants j s c)) m m1 ticked
    ∙ then_is (tested_truth w at test s m1) (λ c. after_test w fr at test body invariants j s c) b k h

pub round_left : (w : Setting ℕ) (fr : Frame ℕ) (at : ℕ) (test : Expr ℕ) (body : Store → Run Exit) (invariants : List (Expr ℕ)) (j : ℕ) (s : Store) (k : Meter) (b : Bool) → b ≡ false → after_test w fr at test body invariants j s b k ≡ Done (Went s) k
round_left w fr at test body invariants j s k b is = ap (λ c. after_test w fr at test body invariants j s c k) is

pub round_unended : (w : Setting ℕ) (fr : Frame ℕ) (at : ℕ) (test : Expr ℕ) (body : Store → Run Exit) (invariants : List (Expr ℕ)) (j : ℕ) (s : Store) (k n : Meter) (b : Bool) (e : Stop) → b ≡ true → (e ≢ stop.NoMemory → body s k ≡ stopped e n) → e ≢ stop.NoMemory
    → after_test w fr at test body invariants j s b k ≡ stopped e n
round_unended w fr at test body invariants j s k n b e is h none =
    ap (λ c. after_test w fr at test body invariants j s c k) is ∙ then_stops_plain (body s k) (go_round at (kept w invariants) (turning w fr at test body invariants j)) n e h none

-- what follows the body
pub round_ended : (w : Setting ℕ) (fr : Frame ℕ) (at : ℕ) (test : Expr ℕ) (body : Store → Run Exit) (invariants : List (Expr ℕ)) (j : ℕ) (s : Store) (k n : Meter) (b : Bool) (o : Exit) → b ≡ true → body s k ≡ Done o n
    → after_test w fr at test body invariants j s b k ≡ go_round at (kept w invariants) (turning w fr at test body invariants j) o n
round_ended w fr at test body invariants j s k n b o is h =
    ap (λ c. after_test w fr at test body invariants j s c k) is ∙ then_is (body s k) (go_round at (kept w invariants) (turning w fr at test body invariants j)) o n h
