-- The test of a precondition has an answer.
use Rattle.std.proofs.Common.{◌<◌, ◌≤◌, inl, refl, sym, subst, ℕ, zero, suc, ◌+◌, List, [], ◌∷◌, Bool, true, false, length, Some, arith}
use Rattle.std.specs.Prelude.{None, nat_eq}
use Rattle.wy_sem.proofs.wy_core_proofs.formed_lemmas.SharedLemmas.{named_below, clauses_below}
use Rattle.wy_sem.specs.wy_value.Datum.{Datum}
use Rattle.wy_sem.specs.wy_core.Types.{Ty}
use Rattle.wy_sem.specs.wy_core.CoreTree.{Expr, Alias, Param, Decl, AliasDecl, RoutineDecl, Core, aliases_of, routines_of}
use Rattle.wy_sem.specs.wy_core.formed.Offers.{Offers, offers_of}
use Rattle.wy_sem.specs.wy_core.formed.Bound.{Scope, with_option, with_params, BoundTy, BoundParams, BoundClauses, BoundAlias, BoundRoutine, BoundDecls, Bound}
use Rattle.wy_sem.specs.wy_core.formed.Calls.{CallsClauses, Nothing, CallsRoutine, CallsDecls, Calls}
use Rattle.wy_sem.specs.wy_core.formed.Recursion.{NamesIn, ClausesMention, Recursion}
use Rattle.wy_sem.specs.wy_core.formed.Ranks.{Ranked}
use Rattle.wy_sem.proofs.wy_core_proofs.formed_lemmas.RankLemmas.{ranked_types}
use Rattle.wy_sem.specs.Meter.{Meter, Outcome, Done, Fault, More, Spent, Run}
use Rattle.wy_sem.specs.Expressions.{Store}
use Rattle.wy_sem.specs.TypeTests.{alias_at, alias_holds, tests, member, clause_setting, unset, set_if}
use Rattle.wy_sem.specs.Evaluation.{Callee, Declared, Print, PrintInt, Undeclared, callee, entry_of, start}
use Rattle.wy_sem.specs.Precondition.{Verdict, Met, CountFails, TypeFails, RequiresFails, passed, requires_met, types_met, callee_met, precondition, cost}
use Rattle.wy_sem.specs.Growth.{Settles}
use Rattle.wy_sem.proofs.Limits.{limit_is_exact}
use Rattle.wy_vc_spec.specs.answered.Answered.{IsAnswered, PreconditionsAreAnswered, LimitedPreconditionsAreSettled}
use Rattle.wy_vc_spec.proofs.answered_lemmas.Ends.{Endings, ending, answering, Ends, Answered, Answers, given, chained, pardoned}
use Rattle.wy_vc_spec.proofs.answered_lemmas.EndingExpressions.{quiet_setting, all_hold-ends, holds-ends}
use Rattle.wy_vc_spec.proofs.answered_lemmas.EndingTests.{AllEnd, tested-ends}
use Rattle.wy_vc_spec.proofs.answered_lemmas.Levels.{stands_at, level, level_most, level_least, named_level, tested_level}

-- ---- what is said of each declaration

pub alias_bound : (o : Offers) (ds : List (Decl ℕ)) → BoundDecls o ds → (b : ℕ) → b < length (aliases_of ds) → BoundAlias o (alias_at (aliases_of ds) b)
alias_bound o [] h b less = absurd (omega (arith, less))
alias_bound o (AliasDecl a ∷ ds) h zero less = h.0
alias_bound o (AliasDecl a ∷ ds) h (suc b) less = alias_bound o ds h.1 b (omega (arith, less))
alias_bound o (RoutineDecl r ∷ ds) h b less = alias_bound o ds h.1 b less

pub alias_calls : (o : Offers) (ds : List (Decl ℕ)) → CallsDecls o ds → (b : ℕ) → b < length (aliases_of ds) → CallsClauses Nothing (alias_at (aliases_of ds) b).clauses
alias_calls o [] h b less = absurd (omega (arith, less))
alias_calls o (AliasDecl a ∷ ds) h zero less = h.0
alias_calls o (AliasDecl a ∷ ds) h (suc b) less = alias_calls o ds h.1 b (omega (arith, less))
alias_calls o (RoutineDecl r ∷ ds) h b less = alias_calls o ds h.1 b less

-- what is called, where it is declared, is bound and its contract calls nothing
abbrev CalleeFits : Offers → Callee ℕ → Type 0
CalleeFits o (Declared r) = BoundRoutine o r × CallsRoutine o r
CalleeFits o Print = Unit {0}
CalleeFits o PrintInt = Unit {0}
CalleeFits o Undeclared = Unit {0}

callee_fits : (o : Offers) (ds : List (Decl ℕ)) → BoundDecls o ds → CallsDecls o ds → (f : ℕ) → CalleeFits o (callee (routines_of ds) f)
callee_fits o [] h k zero = tt
callee_fits o [] h k (suc zero) = tt
callee_fits o [] h k (suc (suc f)) = tt
callee_fits o (AliasDecl a ∷ ds) h k f = callee_fits o ds h.1 k.1 f
callee_fits o (RoutineDecl r ∷ ds) h k zero = (h.0, k.0)
callee_fits o (RoutineDecl r ∷ ds) h k (suc f) = callee_fits o ds h.1 k.1 f

-- ---- tests end

module _ (place : ℕ → ℕ) (core : Core ℕ) (bound : Bound core) (calls : Calls core) (recurs : Recursion core) where
  abbrev pub types : List (Alias ℕ)
  types = aliases_of core

  abbrev pub high : ℕ → ℕ
  high = level types recurs

  -- a declared type of at most this level
  abbrev pub IsWithin : ℕ → ℕ → Type 0
  IsWithin j c = (c < length types) × (high c ≤ j)

  ranked : Ranked types
  ranked = ranked_types core bound recurs

  is_bound : (b : ℕ) → b < length types → BoundAlias (offers_of core) (alias_at types b)
  is_bound b less = alias_bound (offers_of core) core bound b less

  named-within : (j n : ℕ) → IsWithin j n → (c : ℕ) → NamesIn true (alias_at types n).ty c → IsWithin j c
  named-within j n p c h = let l = named_level types recurs n c (inl h) in let k = p.1 in (named_below (length types) (alias_at types n).ty (is_bound n p.0).ty c h, omega (arith, l, k))

  tested-within : (j n : ℕ) → IsWithin (suc j) n → (c : ℕ) → ClausesMention (alias_at types n).clauses c → IsWithin j c
  tested-within j n p c h =
      let l = tested_level types recurs n c p.0 h in
      let k = p.1 in
      (clauses_below (offers_of core) (length (alias_at types n).variables) (with_option [] (alias_at types n).variable) (alias_at types n).clauses (is_bound n p.0).clauses c h, omega (arith, l, k))

  -- each declared type is of a level that is at most their number
  pub low : (c : ℕ) → c < length types → IsWithin (length types) c
  low c less = (less, level_most types recurs c)

  higher : (j c : ℕ) → IsWithin j c → IsWithin (suc j) c
  higher j c p = let k = p.1 in (p.0, omega (arith, k))

  -- the visits of types of at most this level end so, where the clauses of each do
  all_end : (k : Endings) (j : ℕ) (clause : ℕ → Datum → Run Bool) → ((n : ℕ) → IsWithin j n → (d : Datum) → k.Rel Bool (clause n d)) → AllEnd k (IsWithin j) (λ n. (alias_at types n).ty) (length types) clause
  all_end k j clause f = record {
    rank = ranked.rank;
    within = λ n p. ranked.within n (alias_at types n) (stands_at types n p.0);
    named = named-within j;
    falls = λ n p c h. ranked.falls n c (alias_at types n) (stands_at types n p.0) h;
    clauses = f;
  }

  -- the clauses of a type end, where the tests in them do
  clause-ends : (j : ℕ) → ((t : Ty) → ((c : ℕ) → NamesIn true t c → IsWithin j c) → (d : Datum) → Ends Bool (tests place None types (suc j) false t d))
      → (n : ℕ) → IsWithin (suc j) n → (d : Datum) → Ends Bool (alias_holds (quiet_setting place (tests place None types (suc j))) false (alias_at types n) d)
  clause-ends j f n p d =
      all_hold-ends place (tests place None types (suc j)) (IsWithin j) f (alias_at types n).clauses (alias_calls (offers_of core) core calls n p.0) (tested-within j n p)
      (set_if (unset (alias_at types n).variables) (alias_at types n).variable (Some d))

  -- tests end that nest as deep as the levels of types
  pub tests-end : (j : ℕ) (t : Ty) → ((c : ℕ) → NamesIn true t c → IsWithin j c) → (d : Datum) → Ends Bool (tests place None types (suc j) false t d)
  tests-end zero t h d = tested-ends ending (IsWithin 0) (λ n. (alias_at types n).ty) (length types) _ (all_end ending 0 _ (λ n p e. absurd (let l = level_least types recurs n p.0 in let k = p.1 in omega (arith, l, k)))) d t h
  tests-end (suc j) t h d = tested-ends ending (IsWithin (suc j)) (λ n. (alias_at types n).ty) (length types) _ (all_end ending (suc j) _ (λ n p e. clause-ends j (tests-end j) n p e)) d t h

  pub member-answers : (t : Ty) → BoundTy (length types) t → (d : Datum) → Answers Bool (member place None types t d)
  member-answers t b d = tested-ends answering (IsWithin (length types)) (λ n. (alias_at types n).ty) (length types) _
      (all_end answering (length types) _ (λ n p e. pardoned _ (clause-ends (length types) (tests-end (length types)) n (higher (length types) n p) e))) d t (λ c h. low c (named_below (length types) t b c h))

  -- ---- the test of a precondition

  passed-answers : (b : Bool) (wrong : Verdict) (next : Run Verdict) → Answers Verdict next → Answers Verdict (passed b wrong next)
  passed-answers true wrong next p = p
  passed-answers false wrong next p = given Verdict wrong

  requires-answer : (vs : Scope) (n : ℕ) (es : List (Expr ℕ)) → BoundClauses (offers_of core) n vs es → CallsClauses Nothing es → (s : Store) (k : ℕ) → Answers Verdict (requires_met (clause_setting place None types) es s k)
  requires-answer vs n [] b q s k = given Verdict Met
  requires-answer vs n (e ∷ es) b q s k = chained Bool Verdict _ _
      (pardoned _ (holds-ends place (tests place None types (suc (length types))) (IsWithin (length types)) (tests-end (length types)) e q.0 (λ c h. low c (clauses_below (offers_of core) n vs (e ∷ []) (b.0, tt) c (inl h))) s))
      (λ x. passed-answers x (RequiresFails k) _ (requires-answer vs n es b.1 q.1 s (k + 1)))

  types-answer : (vs : Scope) (n : ℕ) (ps : List Param) → BoundParams (offers_of core) n vs ps → (args : List Datum) (k : ℕ) (next : Run Verdict) → Answers Verdict next → Answers Verdict (types_met place None types ps args k next)
  types-answer vs n [] b args k next p = p
  types-answer vs n (a ∷ ps) b [] k next p = p
  types-answer vs n (a ∷ ps) b (v ∷ args) k next p = chained Bool Verdict _ _ (member-answers a.ty b.0 v) (λ x. passed-answers x (TypeFails k) _ (types-answer (a.variable ∷ vs) n ps b.2 args (k + 1) next p))

  callee-answers : (g : Callee ℕ) → CalleeFits (offers_of core) g → (args : List Datum) → Answers Verdict (callee_met place None types g args)
  callee-answers (Declared r) h args = passed-answers (nat_eq (length args) (length r.params)) CountFails _
      (types-answer [] (length r.variables) r.params h.0.params args 1 _ (requires-answer (with_params [] r.params) (length r.variables) r.preconditions h.0.preconditions h.1.preconditions (entry_of r args) 1))
  callee-answers Print h args = given Verdict CountFails
  callee-answers PrintInt h args = given Verdict CountFails
  callee-answers Undeclared h args = given Verdict CountFails

  precondition-answers : (f : ℕ) (args : List Datum) → Answered (start 0) (precondition place None core f args)
  precondition-answers f args = (callee-answers (callee (routines_of core) f) (callee_fits (offers_of core) core bound calls f) args).answers (start 0)

is_answered : (k : Meter) (o : Outcome Verdict) → Answered k o → IsAnswered o
is_answered k (Done v m) h = record { verdict = v; meter = m; is = refl }
is_answered k (Fault kind at m) h = absurd h
is_answered k (More m) h = absurd h
is_answered k Spent h = absurd h

pub are_answered : PreconditionsAreAnswered
are_answered place core bound calls recurs f args = is_answered (start 0) _ (precondition-answers place core bound calls recurs f args)

pub are_settled : LimitedPreconditionsAreSettled
are_settled place core bound calls recurs f args limit =
    let s : Settles limit (cost place core f args) (precondition place None core f args) (precondition place (Some limit) core f args) = (limit_is_exact place core f args limit).test in
    let a : IsAnswered (precondition place None core f args) = are_answered place core bound calls recurs f args in
    record { within = λ h. subst (λ (o : Outcome Verdict). IsAnswered o) (sym (s.within h)) a; beyond = s.beyond }
