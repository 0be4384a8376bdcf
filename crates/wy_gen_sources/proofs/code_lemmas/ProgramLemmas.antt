-- The code of a program keeps nothing dead.
use Rattle.std.proofs.Common.{◌≡◌, ◌≢◌, ◌<◌, ◌≤◌, ◌⊎◌, inl, inr, ℕ, zero, suc, ◌+◌, List, [], ◌∷◌, ◌++◌, length, Bool, true, false, cond, Option, Some, None, refl, sym, ap, ◌∙◌, subst, arith}
use Rattle.std.specs.Prelude.{slice_get, is_some, max}
use Rattle.wy_core.specs.CoreTree as tree
use Rattle.wy_core.specs.CoreTree.{Expr, Param, Alias, Decl, AliasDecl, RoutineDecl, Core, aliases_of, routines_of}
use Rattle.wy_core.specs.formed.Offers.{offers_of}
use Rattle.wy_core.specs.formed.Bound.{BoundClauses, IsNewOption, with_option, BoundAlias, BoundRoutine, BoundDecls, with_params}
use Rattle.wy_code.specs.declared.instructions.Instr.{Instr}
use Rattle.wy_code.specs.declared.instructions.Instr.TheVariants as instr
use Rattle.wy_code.specs.declared.routines.Routine.{Routine}
use Rattle.wy_lemmas.proofs.Choices.{either}
use Rattle.wy_gen_laws.specs.wy_code_spec.declared.tables.context.Context.{Context}
use Rattle.wy_gen_laws.specs.wy_code_spec.declared.tables.targets.Target.TheVariants.{Declared}
use Rattle.wy_gen_laws.specs.wy_code_spec.tables.Tables.{context_of, results_of, target}
use Rattle.wy_live.specs.Sets.{Variables, has, with}
use Rattle.wy_live.specs.Walks.{before, live_all, nothing}
use Rattle.wy_code.specs.declared.pieces.steps.Step.TheVariants.{Does}
use Rattle.wy_code.specs.pieces.Steps.{clear, dropped, fork}
use Rattle.wy_code.specs.pieces.Placing.{placed}
use Rattle.wy_gen_laws.specs.wy_code_spec.compiled.TypeTests.{test}
use Rattle.wy_gen_laws.specs.wy_code_spec.compiled.Expressions.{is_plain, code}
use Rattle.wy_gen_laws.specs.wy_code_spec.compiled.Statements.{gives_null, stmts_code}
use Rattle.wy_gen_laws.specs.wy_code_spec.compiled.Programs.{unused_params, body_steps, body_routine, clauses_steps, variable_of, taken, type_steps_at, type_routine, body_routines, type_routines, code_of}
use Rattle.wy_gen_laws.specs.wy_sem.TypeTests.{alias_at}
use Rattle.wy_gen_laws.proofs.PlaceLemmas.{placed_stand}
use Rattle.wy_gen_laws.specs.tests.Tested.{NamesIts}
use Rattle.wy_gen_laws.specs.statements.Routines.{InOrder}
use Rattle.wy_gen_laws.specs.programs.Programs.{AllInOrder}
use Rattle.wy_gen_sources.specs.code.Large.{IsNone}
use Rattle.wy_gen_sources.specs.code.Alive.{LiveAt}
use Rattle.wy_gen_sources.specs.code.Safe.{Gives, Safe, SafeCode}
use Rattle.wy_gen_sources.specs.code.Fitting.{Fits, FitsStmts}
use Rattle.wy_gen_sources.specs.code.Dead.{CountsStmts, IsDeclared, OwnCounters, result_at, gives_of, Asked, NothingDeadIsKept}
use Rattle.wy_gen_sources.proofs.code_lemmas.RunLemmas.{safe_runs}
use Rattle.wy_gen_sources.proofs.code_lemmas.PieceLemmas.{less_not, Spans, front, back, tail, ended, live_reads, live_second, Lives, Sure, sure_less, safe_step, safe_returns, safe_at, lives_at}
use Rattle.wy_gen_sources.proofs.code_lemmas.SetLemmas.{Vars, before_of, with_cases, with_of, none_has}
use Rattle.wy_gen_sources.proofs.code_lemmas.TestLemmas.{at_end, With, live_less, sure_less_one, asked_lives, one_safe, dropped_safe, test_live, test_safe}
use Rattle.wy_gen_sources.proofs.code_lemmas.ReadLemmas.{Low}
use Rattle.wy_gen_sources.proofs.code_lemmas.OperandLemmas.{ready_less, clear_sure}
use Rattle.wy_gen_sources.proofs.code_lemmas.StatementLemmas.{gives_null_sure, value_safe, stmts_safe}
use Rattle.wy_gen_sources.proofs.code_lemmas.FitLemmas.{fits_expr, fits_stmts, declares_all_low, params_low, params_scope}

-- ---- what routines give

not_declared : (g : ℕ) → target [] g ≡ Declared false → ⊥
not_declared zero e = cc
not_declared (suc zero) e = cc
not_declared (suc (suc g)) e = cc

no_result : (bs : List Bool) (g : ℕ) → target bs g ≡ Declared false → result_at bs g ≡ false
no_result [] g e = absurd (not_declared g e)
no_result (b ∷ bs) zero e = declared_same b false e
  where
    declared_same : (a d : Bool) → Declared a ≡ Declared d → a ≡ d
    declared_same a d e = cc
no_result (b ∷ bs) (suc g) e = no_result bs g e

module _ (core : Core ℕ) where
  abbrev c : Context
  c = context_of core

  abbrev t : Gives
  t = gives_of core

  -- a method without a result gives null
  nothing_given : (g : ℕ) → target c.results g ≡ Declared false → t g ≡ true → ⊥
  nothing_given g is h = absurd (let z : true ≡ false = sym h ∙ no_result c.results g is in cc)

  -- ---- functions and methods

  first_or_more : (d r : ℕ) → d ≤ r → (r ≡ d) ⊎ (suc d ≤ r)
  first_or_more zero zero h = inl refl
  first_or_more zero (suc r) h = inr (omega arith)
  first_or_more (suc d) zero h = absurd (omega (arith, h))
  first_or_more (suc d) (suc r) h = either (λ e. inl (ap suc e)) (λ l. inr (omega (arith, l))) (first_or_more d r (omega (arith, h)))

  -- a parameter that isn't released at entry is live
  params_kept : (s : Variables) (ps : List Param) (k : ℕ) → InOrder k ps → (x : ℕ) → k ≤ x → x < k + length ps → IsNone x (unused_params s ps) → Vars s x
  params_kept s [] k order x low high none = absurd (omega (arith, low, high))
  params_kept s (p ∷ ps) k order x low high none = by (has s p.variable) refl none (λ more g. params_kept s ps (suc k) order.1 x more (omega (arith, high)) g)
    where
      by : (b : Bool) → has s p.variable ≡ b → IsNone x (cond b (unused_params s ps) (p.variable ∷ unused_params s ps)) → (suc k ≤ x → IsNone x (unused_params s ps) → Vars s x) → Vars s x
      by true e g rest = either (λ same. subst (λ (z : ℕ). has s z ≡ true) (order.0 ∙ sym same) e) (λ more. rest more g) (first_or_more k x low)
      by false e g rest = either (λ same. absurd (g.0 (same ∙ sym order.0))) (λ more. rest more g.1) (first_or_more k x low)

  body_safe : (f : ℕ) (r : tree.Routine ℕ) → result_at c.results f ≡ is_some r.result → BoundRoutine (offers_of core) r → InOrder 0 r.params → ((x : ℕ) → CountsStmts r.body x → IsDeclared r x → ⊥)
      → (m : ℕ) → Safe t f (body_routine c r).body m 0 (λ x. x < length r.params)
  body_safe f r given bound order own m =
      let n = length r.variables in
      let all = body_steps c r in
      let body = placed 0 all in
      let U : ℕ → Type 0 = IsDeclared r in
      let R : Type 0 = t f ≡ true in
      let low : Low body c n U = λ x u. either (λ k. params_low (offers_of core) n r.params [] bound.params x k) (λ k. declares_all_low (offers_of core) n r.body (record { in_loop = false; has_result = is_some r.result }) (with_params [] r.params) bound.body x k) u in
      let gives : is_some r.result ≡ true → R = λ g. given ∙ g in
      let fit : FitsStmts c n R r.body U = fits_stmts core (offers_of core) refl c refl n U R r.body (record { in_loop = false; has_result = is_some r.result }) (with_params [] r.params)
      (λ x h. either (λ k. inl k) (λ k. absurd k) (params_scope r.params [] x h)) (λ x k. inr k) gives bound.body own in
      let s = live_all r.body [] nothing in
      let un = unused_params s r.params in
      let two = stmts_code c r.body [] nothing n 0 0 in
      let rest = two ++ gives_null n in
      let next = 0 + length all in
      let whole : Spans body 0 (clear un ++ rest) next = (placed_stand all, refl) in
      let p1 = 0 + length (clear un) in
      let p2 = p1 + length two in
      let behind = back body 0 (clear un) rest next whole in
      let last = back body p1 two (gives_null n) next behind in
      let nothing_live : Lives body t f p2 (Vars []) = λ x v. none_has x v in
      let null = gives_null_sure body c n R U low t f nothing_given (λ g. g) m p2 next last in
      let null0 : Lives body t f (p2 + 0) (Vars []) × Sure body t f m (p2 + 0) (Vars []) = ((λ x v. none_has x v), safe_at body t f m p2 (p2 + 0) (Vars []) (omega arith) null) in
      let at1 = stmts_safe body c n R U low t f nothing_given (λ g. g) r.body fit m [] nothing 0 0 p1 p2 (λ x v. none_has x v) (λ x v. none_has x v) (λ x v. none_has x v) (front body p1 two (gives_null n) next behind) (nothing_live, null) null0 null0 in
      clear_sure body c n t f m 0 p1 un (λ x. x < length r.params) (Vars s) (front body 0 (clear un) rest next whole) (λ x l none. params_kept s r.params 0 order x (omega arith) (omega (arith, l)) none) at1

  -- ---- tests of types

  -- clauses that speak of one variable
  abbrev ClauseFits : ℕ → ℕ → List (Expr ℕ) → Type 0
  ClauseFits n x [] = Unit {0}
  ClauseFits n x (e ∷ es) = Fits c n e (λ r. r ≡ x) × ClauseFits n x es

  module _ (f n x : ℕ) (xn : x < n) (body : List Instr) where
    abbrev U : ℕ → Type 0
    U r = r ≡ x

    abbrev s : Variables
    s = with [] x

    low : Low body c n U
    low r e = omega (arith, e, xn)

    is_x : (r : ℕ) → Vars s r → r ≡ x
    is_x r v = either (λ e. e) (λ k. none_has r k) (with_cases [] x r v)

    abbrev R : Type 0
    R = t f ≡ true

    abbrev Comes : ℕ → ℕ → Type 0
    Comes m p = Lives body t f p (Vars s) × Sure body t f m p (Vars s)

    abbrev FitsClauses : List (Expr ℕ) → Type 0
    FitsClauses es = ClauseFits n x es

    -- the value of the last clause may be any, and each other one is tested
    abbrev Answered : ℕ → Type 0
    Answered = With (Vars s) n

    clauses_ready : (es : List (Expr ℕ)) → FitsClauses es → (m p next : ℕ) → Spans body p (clauses_steps c es s n) next → Lives body t f next Answered → Sure body t f m next Answered → Lives body t f p (Vars s) × Sure body t f m p (Vars s)
    clauses_ready [] fit m p next h live safe = let e = sym (ended body p next h) in (lives_at body t f next p (Vars s) e (live_less body c t f next n (Vars s) live), safe_at body t f m next p (Vars s) e (sure_less_one body c t f m next n (Vars s) safe))
    clauses_ready (e ∷ es) fit m p next h live safe =
        let more = clauses_steps c es s n in
        let one = code c e s n in let mid = p + length one in
        let rest = back body p one (fork n more []) next h in
        let live_s : Lives body t f mid (Vars s) = λ r v. live_second body mid next n more [] r rest (λ q sp. at_end body q next r sp (live r (inl v))) in
        let live_mid : Lives body t f mid Answered = asked_lives body c t f mid next n more [] (Vars s) rest live_s live in
        let safe_mid : Sure body t f m mid Answered = one_safe body c t f more m mid next n (Vars s) rest live_mid live safe (λ q z sp lq sq. (clauses_ready es fit.1 m q z sp lq sq).1) in
        let at_p = value_safe body c n R U low t f nothing_given (λ g. g) e fit.0 m s p mid (λ r v. is_x r v) (front body p one (fork n more []) next h)
        (live_s, sure_less body t f m mid (λ r. Vars s r ⊎ ((r ≡ n) × (is_plain e ≡ false))) Answered (λ r l. either (λ v. inl v) (λ z. inr z.0) l) safe_mid) in
        ready_less body c n t f m p (Vars s) (Vars (before e s)) (λ r v. before_of e s r (inr v)) at_p

    -- the argument comes into the variable
    taken_sure : (y m next : ℕ) → y ≡ x → Spans body 0 (taken y) next → Comes m next → Sure body t f m 0 (λ r. r < 1)
    taken_sure zero m next same h exit = safe_at body t f m next 0 (λ r. r < 1) (sym (ended body 0 next h)) (sure_less body t f m next (λ r. r < 1) (Vars s) (λ r l. with_of [] x r (inl (omega (arith, l, same)))) exit.1)
    taken_sure (suc y) m next same h exit =
        let i : Instr = instr.Move (suc y) 0 in
        let e : next ≡ 0 + 1 = (let z = h.1 in omega (arith, z)) in
        safe_step body t f m 0 i (λ r. r < 1) (Vars s) h.0.0 (λ r l. live_reads body 0 r i h.0.0 (inl (omega (arith, l)))) (λ k w. w)
        (λ r l. either (λ z. absurd (z.1.1.0 (let w = z.0 in omega (arith, w)))) (λ z. with_of [] x r (inl (z.0 ∙ same))) l) (safe_at body t f m next (0 + 1) (Vars s) e exit.1)

    type_body_safe : (a : Alias ℕ) → FitsClauses a.clauses → R → (next m : ℕ) → Spans body 0 (type_steps_at c a x n) next → Sure body t f m 0 (λ r. r < 1)
    type_body_safe a fit gives next m h =
        let returns : Instr = instr.Return n in
        let end = dropped x (suc n) ++ Does returns ∷ [] in
        let clauses = clauses_steps c a.clauses s n in
        let three = fork n clauses [] ++ end in
        let tests = test c a.ty x n (suc n) in
        let two = tests ++ three in
        let p1 = 0 + length (taken x) in let p2 = p1 + length tests in let p3 = p2 + length (fork n clauses []) in
        let h1 = back body 0 (taken x) two next h in
        let h2 = back body p1 tests three next h1 in
        let h3 = back body p2 (fork n clauses []) end next h2 in
        let h4 = tail body p3 (instr.Move (suc n) x) (Does (instr.Clear (suc n ∷ [])) ∷ Does returns ∷ []) next h3 in
        let h5 = tail body (p3 + 1) (instr.Clear (suc n ∷ [])) (Does returns ∷ []) next h4 in
        let said : ℕ → Type 0 = λ r. r ≡ n in
        let at_return : Sure body t f m (p3 + 1 + 1) said = safe_returns body t f m (p3 + 1 + 1) n said h5.0.0 (λ r l. live_reads body (p3 + 1 + 1) r returns h5.0.0 (inl l)) (λ l. gives) in
        let facts = dropped_safe body c t f m p3 next x (suc n) (Does returns ∷ []) said h3 (λ r z. ((λ g. absurd (omega (arith, z, g, xn))), (λ g. absurd (omega (arith, z, g))))) (λ r l. live_reads body (p3 + 1 + 1) r returns h5.0.0 (inl l)) at_return in
        let into : (r : ℕ) → Answered r → With said x r = λ r l. either (λ v. inr (is_x r v)) (λ z. inl z) l in
        let live3 : Lives body t f p3 Answered = λ r l. facts.1 r (into r l) in
        let safe3 : Sure body t f m p3 Answered = sure_less body t f m p3 Answered (With said x) (λ r l. into r l) facts.0 in
        let span3 = front body p2 (fork n clauses []) end next h2 in
        let live2 : Lives body t f p2 Answered = asked_lives body c t f p2 p3 n clauses [] (Vars s) span3 (λ r v. live_second body p2 p3 n clauses [] r span3 (λ q sp. at_end body q p3 r sp (live3 r (inl v)))) live3 in
        let at2 : Sure body t f m p2 Answered = one_safe body c t f clauses m p2 p3 n (Vars s) span3 live2 live3 safe3 (λ q z sp lq sq. (clauses_ready a.clauses fit m q z sp lq sq).1) in
        let un : (r : ℕ) → Vars s r → (r < suc n) × (r ≢ n) = λ r v. let e = is_x r v in (omega (arith, e, xn), less_not r n (omega (arith, e, xn))) in
        let span1 = front body p1 tests three next h1 in
        let at1 : Sure body t f m p1 (Vars s) = test_safe body c t f a.ty m p1 p2 x n (suc n) (Vars s) span1 un (omega arith) live2 at2 in
        taken_sure x m p1 refl (front body 0 (taken x) two next h) ((λ r v. test_lives r v (live_less body c t f p2 n (Vars s) live2)), at1)
      where
        test_lives : (r : ℕ) → Vars s r → Lives body t f (0 + length (taken x) + length (test c a.ty x n (suc n))) (Vars s) → LiveAt body (0 + length (taken x)) r
        test_lives r v l = test_live body c a.ty x n (suc n) (0 + length (taken x)) (0 + length (taken x) + length (test c a.ty x n (suc n))) r (front body (0 + length (taken x)) (test c a.ty x n (suc n)) (fork n (clauses_steps c a.clauses s n) [] ++ (dropped x (suc n) ++ Does (instr.Return n) ∷ [])) next
            (back body 0 (taken x) (test c a.ty x n (suc n) ++ (fork n (clauses_steps c a.clauses s n) [] ++ (dropped x (suc n) ++ Does (instr.Return n) ∷ []))) next h)) (let e = is_x r v in omega (arith, e, xn)) (less_not r n (let e = is_x r v in omega (arith, e, xn))) (l r v)

  fits_clauses : (n x : ℕ) (es : List (Expr ℕ)) → BoundClauses (offers_of core) n (x ∷ []) es → ClauseFits n x es
  fits_clauses n x [] b = tt
  fits_clauses n x (e ∷ es) b =
      (fits_expr core (offers_of core) refl c refl n (λ r. ⊥) e (x ∷ []) (λ r. r ≡ x) ((λ r h. either (λ k. sym k) (λ k. absurd k) h), (λ r w. inr (inl (sym w)))) b.0 (λ y k z. z), fits_clauses n x es b.1)

  -- the variable of a type has a register, and its clauses fit
  variable_fits : (v : Option ℕ) (k : ℕ) (es : List (Expr ℕ)) → IsNewOption k [] v → BoundClauses (offers_of core) k (with_option [] v) es → NamesIts v es → (variable_of v < max 1 k) × ClauseFits (max 1 k) (variable_of v) es
  variable_fits None k es new b names = (omega arith, subst (λ (z : List (Expr ℕ)). ClauseFits (max 1 k) 0 z) (sym names) tt)
  variable_fits (Some x) k es new b names =
      let l = new.0 in
      let same : k ≡ max 1 k = omega (arith, l) in
      (omega (arith, l), subst (λ (z : ℕ). ClauseFits z x es) same (fits_clauses k x es b))

  type_safe : (f : ℕ) (a : Alias ℕ) → BoundAlias (offers_of core) a → NamesIts a.variable a.clauses → t f ≡ true → (m : ℕ) → Safe t f (type_routine c a).body m 0 (λ x. x < 1)
  type_safe f a bound names gives m =
      let x = variable_of a.variable in let n = max 1 (length a.variables) in
      let all = type_steps_at c a x n in
      let body = placed 0 all in
      let fits = variable_fits a.variable (length a.variables) a.clauses bound.variable bound.clauses names in
      type_body_safe f n x fits.0 body a fits.1 gives (0 + length all) m (placed_stand all, refl)

  -- ---- all of them

  abbrev RoutineFits : tree.Routine ℕ → Type 0
  RoutineFits r = BoundRoutine (offers_of core) r × InOrder 0 r.params × ((x : ℕ) → CountsStmts r.body x → IsDeclared r x → ⊥)

  abbrev TypeFits : Alias ℕ → Type 0
  TypeFits a = BoundAlias (offers_of core) a × NamesIts a.variable a.clauses

  abbrev AllRoutines : List (tree.Routine ℕ) → Type 0
  AllRoutines [] = Unit {0}
  AllRoutines (r ∷ rs) = RoutineFits r × AllRoutines rs

  abbrev AllTypes : List (Alias ℕ) → Type 0
  AllTypes [] = Unit {0}
  AllTypes (a ∷ more) = TypeFits a × AllTypes more

  all_routines : (ds : List (Decl ℕ)) → BoundDecls (offers_of core) ds → AllInOrder (routines_of ds) → OwnCounters (routines_of ds) → AllRoutines (routines_of ds)
  all_routines [] b order own = tt
  all_routines (AliasDecl a ∷ ds) b order own = all_routines ds b.1 order own
  all_routines (RoutineDecl r ∷ ds) b order own = ((b.0, order.0, own.0), all_routines ds b.1 order.1 own.1)

  all_types : (ds : List (Decl ℕ)) → BoundDecls (offers_of core) ds → ((k : ℕ) → k < length (aliases_of ds) → NamesIts (alias_at (aliases_of ds) k).variable (alias_at (aliases_of ds) k).clauses) → AllTypes (aliases_of ds)
  all_types [] b names = tt
  all_types (AliasDecl a ∷ ds) b names = ((b.0, names 0 (omega arith)), all_types ds b.1 (λ k l. names (suc k) (omega (arith, l))))
  all_types (RoutineDecl r ∷ ds) b names = all_types ds b.1 names

  -- the routine with a number is that of a function or method, or tests a type
  record IsBody (rs : List (tree.Routine ℕ)) (more : List (Alias ℕ)) (f : ℕ) (q : Routine) : Type 0 where
    pub routine : tree.Routine ℕ
    pub same : body_routine c routine ≡ q
    pub result : result_at (results_of rs) f ≡ is_some routine.result
    pub fits : RoutineFits routine

  record IsTest (rs : List (tree.Routine ℕ)) (more : List (Alias ℕ)) (f : ℕ) (q : Routine) : Type 0 where
    pub alias : Alias ℕ
    pub same : type_routine c alias ≡ q
    pub result : result_at (results_of rs) f ≡ true
    pub fits : TypeFits alias

  no_routine : {X : Type 0} (q : Routine) → None ≡ Some q → X
  no_routine q e = absurd cc

  this_routine : (p q : Routine) → Some p ≡ Some q → p ≡ q
  this_routine p q e = cc

  test_at : (more : List (Alias ℕ)) (f : ℕ) (q : Routine) → AllTypes more → slice_get (type_routines c more) f ≡ Some q → IsTest [] more f q
  test_at [] f q fits e = no_routine q e
  test_at (a ∷ more) zero q fits e = record { alias = a; same = this_routine (type_routine c a) q e; result = refl; fits = fits.0 }
  test_at (a ∷ more) (suc f) q fits e = let k = test_at more f q fits.1 e in record { alias = k.alias; same = k.same; result = refl; fits = k.fits }

  routine_at : (rs : List (tree.Routine ℕ)) (more : List (Alias ℕ)) (f : ℕ) (q : Routine) → AllRoutines rs → AllTypes more → slice_get (body_routines c rs ++ type_routines c more) f ≡ Some q → IsBody rs more f q ⊎ IsTest rs more f q
  routine_at [] more f q one two e = inr (test_at more f q two e)
  routine_at (r ∷ rs) more zero q one two e = inl (record { routine = r; same = this_routine (body_routine c r) q e; result = refl; fits = one.0 })
  routine_at (r ∷ rs) more (suc f) q one two e =
      either (λ k. inl (record { routine = k.routine; same = k.same; result = k.result; fits = k.fits })) (λ k. inr (record { alias = k.alias; same = k.same; result = k.result; fits = k.fits })) (routine_at rs more f q one.1 two e)

  pub program_safe : Asked core → SafeCode t (code_of core)
  program_safe asked f q is m =
      either
      (λ k. let fits = k.fits in subst (λ (z : Routine). Safe t f z.body m 0 (λ x. x < z.params)) k.same (body_safe f k.routine k.result fits.0 fits.1 fits.2 m))
      (λ k. let fits = k.fits in subst (λ (z : Routine). Safe t f z.body m 0 (λ x. x < z.params)) k.same (type_safe f k.alias fits.0 fits.1 k.result m))
      (routine_at (routines_of core) (aliases_of core) f q
      (all_routines core asked.formed.bound asked.order asked.counters) (all_types core asked.formed.bound asked.names) is)

-- ---- the law

pub nothing_dead : NothingDeadIsKept
nothing_dead core asked f vs n = safe_runs (gives_of core) (code_of core) (program_safe core asked) f vs n
