-- A call whose arguments are of their types and whose requires clauses are true goes on to its body.
use Rattle.std.proofs.Common.{◌≡◌, ℕ, List, [], ◌∷◌, length, Bool, true, false, Option, None, nat_eq, eq-eqb, refl, sym, ap, ◌∙◌, subst}
use Rattle.wy_value.specs.Datum.{Datum, Null, Truth, Whole, Array, Record}
use Rattle.wy_core.specs.Types.{Ty}
use Rattle.wy_core.specs.CoreTree.{Expr, Param, Routine, Core, aliases_of, routines_of}
use Rattle.wy_term.specs.declared.cond.CondKind.{CondKind}
use Rattle.wy_term.specs.declared.cond.CondKind.TheVariants as kind
use Rattle.wy_sem.specs.Meter.{Meter, Outcome, Done, Fault, More, Spent, Run, ◌>>=◌, check}
use Rattle.wy_sem.specs.Operations.{as_truth}
use Rattle.wy_sem.specs.Expressions as sem
use Rattle.wy_sem.specs.TypeTests.{Test, is_constrained, forgiven, clause_setting}
use Rattle.wy_sem.specs.Membership.{is_yes}
use Rattle.wy_sem.specs.Precondition.{AreTrue}
use Rattle.wy_sem.proofs.MemberAnswers.{holds-says}
use Rattle.wy_sem.specs.Statements.{given, exec_all}
use Rattle.wy_sem.specs.Evaluation as run
use Rattle.wy_sem.specs.Evaluation.{Callee, Declared, callee, place_of, entry_of, frame_of, result_of, owed_member, called, start, evaluate}
use Rattle.wy_sound_statements.specs.wy_vc_spec.Numbered.{Node}
use Rattle.wy_sound_statements.specs.wy_vc_spec.Values.{Setting}
use Rattle.wy_vc_laws.specs.wy_sound_terms.operations.Kinds.{IsTruth}
use Rattle.wy_sound_statements.specs.wy_sound_walks.expressions.Truth.{Good}
use Rattle.wy_sound_statements.specs.wy_sound_walks.expressions.Types.{is_in}
use Rattle.wy_sound_statements.specs.wy_sound_walks.expressions.Suits.{Answers}
use Rattle.wy_sound_statements.proofs.wy_sound_walks_proofs.expressions_lemmas.GoodLemmas.{good_spend}
use Rattle.wy_sound_statements.specs.wy_sound_walks.clauses.Clauses.{AllFit, IsNoFault, AreSafe, Passes, AllPass}
use Rattle.wy_sound_statements.specs.calls.CallLaws.{Checks, ArgumentsFit, ArgumentsIn, Leaves, with_params, nothing_seen}
use Rattle.wy_sound_types.specs.sound_routines.Depths.{setting_at}
use Rattle.wy_sound_types.specs.sound_routines.Runs.{RunsAreSound}
use Rattle.wy_sound_types.proofs.sound_routines_lemmas.DepthLemmas.{handled, safe, keeps}

-- ---- types of arguments

checked : {X : Type 0} (P : X → Type 0) (at : ℕ) (next : Run X) (b : Bool) (o : Outcome Bool) → Answers b o → b ≡ true → ((m : Meter) → Good (Unit {0}) (next m) P) → Good (Unit {0}) (o >>= (λ c. check c kind.Member at next)) P
checked P at next b (Done true m) e t go = go m
checked P at next b (Done false m) e t go = absurd (let no_way : false ≡ true = e ∙ t in cc)
checked P at next b (Fault why from m) e t go = absurd e
checked P at next b (More m) e t go = tt
checked P at next b Spent e t go = tt

module _ {X : Type 0} (s : Setting Node) (members : ℕ → Datum → Bool) (owed : Ty → Datum → Test) (checks : Checks s members owed) (P : X → Type 0) (at : ℕ) where
  arguments_pass : (ps : List Param) (vs : List Datum) (next : Run X) → ArgumentsFit s members ps vs → ArgumentsIn members ps vs → ((m : Meter) → Good (Unit {0}) (next m) P) → (m : Meter) → Good (Unit {0}) (run.arguments owed at ps vs next m) P
  arguments_pass [] vs next fit inside go m = go m
  arguments_pass (p ∷ ps) [] next fit inside go m = absurd fit
  arguments_pass (p ∷ ps) (v ∷ vs) next fit inside go m = by (is_constrained s.types p.ty) refl (λ l. arguments_pass ps vs next fit.2 inside.1 go l) where
    by : (c : Bool) → is_constrained s.types p.ty ≡ c → ((l : Meter) → Good (Unit {0}) (run.arguments owed at ps vs next l) P) → Good (Unit {0}) (given owed at p.ty v (run.arguments owed at ps vs next) m) P
    by true e rest = checked P at (run.arguments owed at ps vs next) (is_in members p.ty v) (owed p.ty v m) (checks.asked p.ty v m fit.1.0 e) inside.0 rest
    by false e rest = checked P at (run.arguments owed at ps vs next) true (owed p.ty v m) (checks.free p.ty v m fit.1.0 e) refl rest

-- ---- clauses

-- a clause that evaluates to true, from any meter
module _ {X : Type 0} (place : Node → ℕ) (core : Core Node) (depth : ℕ) (P : X → Type 0) (why : CondKind) (at : ℕ) (next : Run X) (st : sem.Store) where
  abbrev w : sem.Setting Node
  w = setting_at place None core depth

  abbrev plain : sem.Setting Node
  plain = clause_setting place None (aliases_of core)

  from_truth : (e : Expr Node) (rest : Run X) (b : Bool) (m k : Meter) → sem.eval (sem.quiet w) false e st m ≡ Done (Truth b) k → is_yes (sem.holds plain e st (start 0)) ≡ true → (b ≡ true → (l : Meter) → Good (Unit {0}) (rest l) P)
      → Good (Unit {0}) (check b why at rest k) P
  from_truth e rest true m k eq yes_it go = go refl k
  from_truth e rest false m k eq yes_it go =
      let ended : forgiven (sem.holds plain e st m) ≡ Done false k = ap (λ (o : Outcome Datum). forgiven (o >>= (λ v. as_truth (place (sem.node e)) v Done))) eq in
      let says : false ≡ is_yes (sem.holds plain e st (start 0)) = holds-says place (aliases_of core) e st m false k ended in
      absurd (let no_way : false ≡ true = says ∙ yes_it in cc)

  from_value : (e : Expr Node) (rest : Run X) (d : Datum) (m k : Meter) → IsTruth d → sem.eval (sem.quiet w) false e st m ≡ Done d k → is_yes (sem.holds plain e st (start 0)) ≡ true → (d ≡ Truth true → (l : Meter) → Good (Unit {0}) (rest l) P)
      → Good (Unit {0}) (as_truth (place (sem.node e)) d Done k >>= (λ b. check b why at rest)) P
  from_value e rest (Truth b) m k t eq yes_it go = from_truth e rest b m k eq yes_it (λ q l. go (ap Truth q) l)
  from_value e rest Null m k t eq yes_it go = absurd t
  from_value e rest (Whole z) m k t eq yes_it go = absurd t
  from_value e rest (Array ds) m k t eq yes_it go = absurd t
  from_value e rest (Record fs) m k t eq yes_it go = absurd t

  from_outcome : (e : Expr Node) (rest : Run X) (m : Meter) (o : Outcome Datum) → sem.eval (sem.quiet w) false e st m ≡ o → IsNoFault o → ((d : Datum) (k : Meter) → o ≡ Done d k → IsTruth d) → is_yes (sem.holds plain e st (start 0)) ≡ true
      → ((k : Meter) → o ≡ Done (Truth true) k → (l : Meter) → Good (Unit {0}) (rest l) P)
      → Good (Unit {0}) ((o >>= (λ v. as_truth (place (sem.node e)) v Done)) >>= (λ b. check b why at rest)) P
  from_outcome e rest m (Done d k) eq no_fault truth yes_it go = from_value e rest d m k (truth d k refl) eq yes_it (λ q l. go k (ap (λ (v : Datum). Done v k) q) l)
  from_outcome e rest m (Fault kind from k) eq no_fault truth yes_it go = absurd no_fault
  from_outcome e rest m (More k) eq no_fault truth yes_it go = tt
  from_outcome e rest m Spent eq no_fault truth yes_it go = tt

  module _ (s : Setting Node) (members : ℕ → Datum → Bool) (seen : ℕ → Bool) where
    clauses_pass : (es : List (Expr Node)) → AllFit w s members seen es st → AreSafe w es st → AreTrue plain es st → (AllPass w es st → (m : Meter) → Good (Unit {0}) (next m) P) → (m : Meter) → Good (Unit {0}) (sem.clauses w why at es st next m) P
    clauses_pass [] fit safes true_all go m = go tt m
    clauses_pass (e ∷ es) fit safes true_all go m =
        from_outcome e (sem.clauses w why at es st next) m (sem.eval (sem.quiet w) false e st m) refl (safes.0 m) (λ d k q. fit.0.truth d m k q) true_all.0
        (λ k q l. let passed : Passes w e st = (m, k, q) in clauses_pass es fit.1 (safes.1 passed) true_all.1 (λ all i. go (passed, all) i) l)

-- ---- the entry

counted : {X : Type 0} (P : X → Type 0) (at : ℕ) (next : Run X) (b : Bool) (m : Meter) → b ≡ true → Good (Unit {0}) (next m) P → Good (Unit {0}) (check b kind.Member at next m) P
counted P at next true m e h = h
counted P at next false m e h = absurd cc

pub runs_sound : RunsAreSound
runs_sound place core p members takes h f vs r taken is inside holds ticks =
    let w = setting_at place None core ticks in
    let owed = owed_member place None (aliases_of core) in
    let before = handled place None core p members takes h ticks in
    let t = h.declared f vs r taken is in
    let contract = safe place None core p members takes h ticks before r vs t inside in
    let P = Leaves w p.setting members r vs r.result in
    let at = place_of (callee (routines_of core) f) in
    let body : Run (Option Datum) = λ l. exec_all w (frame_of owed r vs) r.body (entry_of r vs) l >>= result_of w (frame_of owed r vs) r.at in
    let clauses : Run (Option Datum) = sem.clauses w kind.Requires at r.preconditions (entry_of r vs) body in
    let here : (m : Meter) → Good (Unit {0}) (called w owed (Declared r) at vs m) P = λ m.
    counted P at (run.arguments owed at r.params vs clauses) (nat_eq (length vs) (length r.params)) m (eq-eqb (length vs) (length r.params) t.count)
    (arguments_pass p.setting members owed h.checks P at r.params vs clauses t.arguments inside
    (λ l. clauses_pass place core ticks P kind.Requires at body (entry_of r vs) p.setting members (with_params r.params nothing_seen) r.preconditions (t.fits ticks).first contract.first holds
    (λ all i. keeps place None core p members takes h ticks before r vs t inside all i) l) m) in
    good_spend (Unit {0}) true (called w owed (callee (routines_of core) f) at vs) P
    (λ m. subst (λ (c : Callee Node). Good (Unit {0}) (called w owed c at vs m) P) (sym is ∙ ap (λ (rs : List (Routine Node)). callee rs f) h.routines) (here m)) (start ticks)
