-- Tests of types, by levels: a clause tests types of lower levels alone.
use Rattle.std.proofs.Common.{◌≡◌, ◌<◌, ◌≤◌, inl, inr, ℕ, zero, suc, ◌+◌, List, [], ◌∷◌, length, Bool, true, Option, Some, None, refl, sym, subst, arith}
use Rattle.std.specs.Prelude.{max}
use Rattle.wy_vc_spec.proofs.answered_lemmas.Answers.{alias_bound, alias_calls}
use Rattle.wy_core.proofs.formed_lemmas.SharedLemmas.{named_below, clauses_below}
use Rattle.wy_value.specs.Datum.{Datum}
use Rattle.wy_value.specs.declared.shapes.Shapes.{Shapes}
use Rattle.wy_core.specs.Types.{Ty, NullTy, BoolTy, IntTy, AnyTy, VoidTy, RecordTy, ArrayTy, UnionTy, InterTy, NotTy, NamedTy, NormalTy, FieldTys, NoFieldTys, MoreFieldTys}
use Rattle.wy_core.specs.CoreTree as tree
use Rattle.wy_core.specs.CoreTree.{Expr, Alias, Decl, AliasDecl, RoutineDecl, Core, aliases_of}
use Rattle.wy_core.specs.formed.Offers.{Offers, offers_of}
use Rattle.wy_core.specs.formed.Bound.{IsNewOption, with_option, BoundTy, BoundFieldTys, BoundClauses, BoundAlias}
use Rattle.wy_core.specs.formed.Calls.{CallsClauses, Nothing}
use Rattle.wy_core.specs.formed.Formed.{Formed}
use Rattle.wy_core.specs.formed.Literals.{IntsClauses, Ints}
use Rattle.wy_core.specs.formed.Recursion.{NamesIn, NamesInFields, ClausesMention}
use Rattle.wy_core.specs.formed.Ranks.{Ranked}
use Rattle.wy_core.specs.formed.Sizes.{IsSmall, size, size_ty, sizes}
use Rattle.wy_core.specs.formed.Wholes.{EachClause, Wholes}
use Rattle.wy_core.proofs.formed_lemmas.RankLemmas.{ranked_types}
use Rattle.wy_code_spec.specs.wy_live.Sets.{with}
use Rattle.wy_code.specs.declared.routines.Routine.{Routine}
use Rattle.wy_code_spec.specs.declared.tables.context.Context.{Context}
use Rattle.wy_code_spec.specs.tables.Tables.{table_of, context_of}
use Rattle.wy_code_spec.specs.compiled.TypeTests.{test}
use Rattle.wy_code_spec.specs.compiled.Programs.{clauses_steps, variable_of, type_routine}
use Rattle.wy_code_spec.specs.numbered.Numbered.{NumberedTy, NumberedExprs, NumberedDecls}
use Rattle.wy_code_spec.proofs.numbered_lemmas.NumberLemmas.{stand_for_names}
use Rattle.wy_vc_spec.specs.wy_sem.kept.Kept.{IsProper, StoreProper}
use Rattle.wy_vc_spec.specs.wy_sem.Meter.{Meter, Done, Run}
use Rattle.wy_vc_spec.specs.wy_sem.Operations.{longest}
use Rattle.wy_vc_spec.specs.wy_sem.Expressions.{Store, Setting, put, no_calls}
use Rattle.wy_vc_spec.specs.wy_sem.TypeTests.{Test, unset, set_if, alias_at, all_hold, alias_holds, tested, tests}
use Rattle.wy_code_spec.specs.step.Step.{Caller}
use Rattle.wy_gen_laws.specs.Places.{StandAt, IsRoutine}
use Rattle.wy_gen_laws.specs.Follows.{Follows, at_place, Comes}
use Rattle.wy_gen_laws.proofs.FollowLemmas.{follows_at}
use Rattle.wy_gen_laws.proofs.SpareLemmas.{leaves_follows}
use Rattle.wy_gen_laws.proofs.StoreLemmas.{put_here}
use Rattle.wy_gen_laws.proofs.PieceLemmas.{stays_last}
use Rattle.wy_gen_laws.specs.expressions.Standing.{with_table}
use Rattle.wy_gen_laws.specs.expressions.Rests.{Told, TestsFollow}
use Rattle.wy_gen_laws.proofs.expressions_lemmas.KnowingLemmas.{store_proper}
use Rattle.wy_vc_spec.proofs.answered_lemmas.Levels.{stands_at, level, level_most, level_least, named_level, tested_level}
use Rattle.wy_gen_laws.specs.tests.Tested.{NamesIts, ClausesNameTheirs, HasTypeRoutines, HoldsTypes, TestsAreFollowed}
use Rattle.wy_gen_laws.proofs.tests_lemmas.ClauseLemmas.{Inner, clauses_follow}
use Rattle.wy_gen_laws.proofs.tests_lemmas.NameLemmas.{ClausesFollow}
use Rattle.wy_gen_laws.proofs.tests_lemmas.AskedLemmas.{questions, AllFollow, tested_follows}

-- ---- what is said of each declared type

alias_ints : (ds : List (Decl ℕ)) → Ints ds → (b : ℕ) → b < length (aliases_of ds) → IntsClauses (alias_at (aliases_of ds) b).clauses
alias_ints [] h b less = absurd (omega (arith, less))
alias_ints (AliasDecl a ∷ ds) h zero less = h.0
alias_ints (AliasDecl a ∷ ds) h (suc b) less = alias_ints ds h.1 b (omega (arith, less))
alias_ints (RoutineDecl r ∷ ds) h b less = alias_ints ds h.1 b less

alias_small : (ds : List (Decl ℕ)) → Wholes IsSmall ds → (b : ℕ) → b < length (aliases_of ds) → EachClause IsSmall (alias_at (aliases_of ds) b).clauses
alias_small [] h b less = absurd (omega (arith, less))
alias_small (AliasDecl a ∷ ds) h zero less = h.0
alias_small (AliasDecl a ∷ ds) h (suc b) less = alias_small ds h.1 b (omega (arith, less))
alias_small (RoutineDecl r ∷ ds) h b less = alias_small ds h.1 b less

alias_numbered : (u : Shapes) (ds : List (Decl ℕ)) → NumberedDecls u ds → (b : ℕ) → b < length (aliases_of ds) → NumberedTy u (alias_at (aliases_of ds) b).ty × NumberedExprs u (tree.exprs_of (alias_at (aliases_of ds) b).clauses)
alias_numbered u [] h b less = absurd (omega (arith, less))
alias_numbered u (AliasDecl a ∷ ds) h zero less = h.0
alias_numbered u (AliasDecl a ∷ ds) h (suc b) less = alias_numbered u ds h.1 b (omega (arith, less))
alias_numbered u (RoutineDecl r ∷ ds) h b less = alias_numbered u ds h.1 b less

-- a whole expression has no more nodes than arrays may have items
few_nodes : (n : ℕ) → n ≤ 4096 → n ≤ longest
unfolding longest
few_nodes n h = omega (arith, h)

few_clauses : (es : List (Expr ℕ)) → EachClause IsSmall es → EachClause (λ e. size e ≤ longest) es
few_clauses [] h = tt
few_clauses (e ∷ es) h = (few_nodes (size e) h.0.nodes, few_clauses es h.1)

-- ---- a type whose names are declared

mutual
  bound_again : (a b : ℕ) (t : Ty) → BoundTy a t → ((k : ℕ) → NamesIn true t k → k < b) → BoundTy b t
  bound_again a b NullTy h f = tt
  bound_again a b BoolTy h f = tt
  bound_again a b IntTy h f = tt
  bound_again a b AnyTy h f = tt
  bound_again a b VoidTy h f = tt
  bound_again a b (RecordTy fs) h f = (h.0, fields_again a b fs h.1 f)
  bound_again a b (ArrayTy t) h f = bound_again a b t h f
  bound_again a b (UnionTy s t) h f = (bound_again a b s h.0 (λ k i. f k (inl i)), bound_again a b t h.1 (λ k i. f k (inr i)))
  bound_again a b (InterTy s t) h f = (bound_again a b s h.0 (λ k i. f k (inl i)), bound_again a b t h.1 (λ k i. f k (inr i)))
  bound_again a b (NotTy t) h f = bound_again a b t h f
  bound_again a b (NamedTy n) h f = f n refl
  bound_again a b (NormalTy union) h f = absurd h

  fields_again : (a b : ℕ) (fs : FieldTys) → BoundFieldTys a fs → ((k : ℕ) → NamesInFields fs k → k < b) → BoundFieldTys b fs
  fields_again a b NoFieldTys h f = tt
  fields_again a b (MoreFieldTys name t fs) h f = (bound_again a b t h.0 (λ k i. f k (inl i)), fields_again a b fs h.1 (λ k i. f k (inr i)))

-- ---- the store of clauses

unset_proper : (names : List (List ℕ)) → StoreProper (unset names)
unset_proper [] = tt
unset_proper (name ∷ names) = (tt, unset_proper names)

unset_size : (names : List (List ℕ)) → length (unset names) ≡ length names
unset_size [] = refl
unset_size (name ∷ names) = let h = unset_size names in omega (arith, h)

-- the register of the variable is one of those in front of the answer
variable_below : (k : ℕ) (v : Option ℕ) → IsNewOption k [] v → variable_of v < max 1 k
variable_below k None h = omega arith
variable_below k (Some x) h = let l = h.0 in omega (arith, l)

-- ---- the clauses of a declared type

module _ (c : Context) (routines : List Routine) (wide : ℕ) (place : ℕ → ℕ) (limit : Option ℕ) (test : Bool → Ty → Datum → Run Bool) (P : ℕ → Type 0) (follow : TestsFollow c routines (test true) wide P)
    (o : Offers) (n : ℕ) (a : Alias ℕ) (here : IsRoutine (with_table c routines) (length c.results + n) (type_routine c a)) (calls : CallsClauses Nothing a.clauses) (numbered : NumberedExprs c.table (tree.exprs_of a.clauses)) (ints : IntsClauses a.clauses)
    (names : (q : ℕ) → ClausesMention a.clauses q → P q) (small : sizes (tree.exprs_of a.clauses) ≤ wide) (few : EachClause (λ e. size e ≤ longest) a.clauses) (d : Datum) (proper : IsProper d) where
  abbrev w : Setting ℕ
  w = record { place = place; limit = limit; test = test; call = no_calls }

  abbrev z : ℕ
  z = max 1 (length a.variables)

  abbrev F : ℕ
  F = length c.results + n

  abbrev R : Routine
  R = type_routine c a

  -- for a variable or none
  abbrev Follow : Option ℕ → List (Expr ℕ) → Type 0
  Follow v es = (p : ℕ) (regs : Store) (callers : List Caller) (m : Meter) → Inner (variable_of v) z R.registers d true regs → StandAt R.body p (clauses_steps c es (with [] (variable_of v)) z)
      → Follows (with_table c routines) wide (sizes (tree.exprs_of es)) 0 m (at_place F p regs callers m.output) (all_hold w true es (set_if (unset a.variables) v (Some d)) m) (Comes F (p + length (clauses_steps c es (with [] (variable_of v)) z)) callers (Inner (variable_of v) z R.registers d))

  none_follow : Follow None []
  none_follow p regs callers m inner stands =
      follows_at (with_table c routines) wide 0 0 m (at_place F p regs callers m.output) (Done true m) F p (p + 0) callers (Inner 0 z R.registers d) (omega arith)
      (stays_last (with_table c routines) F R here wide p regs callers m true (Inner 0 z R.registers d) inner)

  by_variable : (v : Option ℕ) → IsNewOption (length a.variables) [] v → NamesIts v a.clauses → BoundClauses o (length a.variables) (with_option [] v) a.clauses → Follow v a.clauses
  by_variable None new its b p regs callers m inner stands = subst (λ (es : List (Expr ℕ)). Follow None es) (sym its) none_follow p regs callers m inner stands
  by_variable (Some x) new its b p regs callers m inner stands =
      let store = put (unset a.variables) x (Some d) in
      let long = unset_size a.variables in
      let less = new.0 in
      clauses_follow c routines F R here wide place limit test P follow o (length a.variables) z x (omega arith) (omega (arith, less)) d store (store_proper (unset a.variables) x d proper (unset_proper a.variables)) (put_here (unset a.variables) x (Some d) (omega (arith, less, long)))
      a.clauses calls numbered ints names b small few p regs callers m inner stands

  pub clauses_of : IsNewOption (length a.variables) [] a.variable → NamesIts a.variable a.clauses → BoundClauses o (length a.variables) (with_option [] a.variable) a.clauses
      → ClausesFollow c routines wide n a here d (sizes (tree.exprs_of a.clauses)) (alias_holds (record { place = place; limit = limit; test = test; call = no_calls }) true a d)
  clauses_of new its b p regs callers m inner stands = by_variable a.variable new its b p regs callers m inner stands

-- ---- levels

module _ (place : ℕ → ℕ) (limit : Option ℕ) (core : Core ℕ) (formed : Formed core) (theirs : ClausesNameTheirs core) (routines : List Routine) (has : HasTypeRoutines core routines) (wide : ℕ) (holds : HoldsTypes wide core) where
  abbrev types : List (Alias ℕ)
  types = aliases_of core

  abbrev c : Context
  c = context_of core

  abbrev high : ℕ → ℕ
  high = level types formed.recursion

  -- a declared type of at most this level
  abbrev IsWithin : ℕ → ℕ → Type 0
  IsWithin j k = (k < length types) × (high k ≤ j)

  ranked : Ranked types
  ranked = ranked_types core formed.bound formed.recursion

  is_bound : (b : ℕ) → b < length types → BoundAlias (offers_of core) (alias_at types b)
  is_bound b less = alias_bound (offers_of core) core formed.bound b less

  is_numbered : (b : ℕ) → b < length types → NumberedTy (table_of core) (alias_at types b).ty × NumberedExprs (table_of core) (tree.exprs_of (alias_at types b).clauses)
  is_numbered b less = alias_numbered (table_of core) core (stand_for_names core) b less

  named_within : (j n : ℕ) → IsWithin j n → (k : ℕ) → NamesIn true (alias_at types n).ty k → IsWithin j k
  named_within j n p k h = let l = named_level types formed.recursion n k (inl h) in let m = p.1 in (named_below (length types) (alias_at types n).ty (is_bound n p.0).ty k h, omega (arith, l, m))

  tested_within : (j n : ℕ) → IsWithin (suc j) n → (k : ℕ) → ClausesMention (alias_at types n).clauses k → IsWithin j k
  tested_within j n p k h =
      let l = tested_level types formed.recursion n k p.0 h in
      let m = p.1 in
      (clauses_below (offers_of core) (length (alias_at types n).variables) (with_option [] (alias_at types n).variable) (alias_at types n).clauses (is_bound n p.0).clauses k h, omega (arith, l, m))

  abbrev nodes : ℕ → ℕ
  nodes n = sizes (tree.exprs_of (alias_at types n).clauses)

  all_follow : (j : ℕ) (clause : ℕ → Datum → Test) → ((n : ℕ) → (p : IsWithin j n) → (d : Datum) → IsProper d → ClausesFollow c routines wide n (alias_at types n) (has n p.0) d (nodes n) (clause n d)) → AllFollow c routines wide (length types) (IsWithin j) (λ n. alias_at types n) (length types) clause
  all_follow j clause f = record {
    rank = ranked.rank;
    within = λ n p. ranked.within n (alias_at types n) (stands_at types n p.0);
    named = named_within j;
    falls = λ n p k h. ranked.falls n k (alias_at types n) (stands_at types n p.0) h;
    bound = λ n p. (is_bound n p.0).ty;
    numbered = λ n p. (is_numbered n p.0).0;
    routine = λ n p. has n p.0;
    variable = λ n p. variable_below (length (alias_at types n).variables) (alias_at types n).variable (is_bound n p.0).variable;
    nodes = nodes;
    small = λ n p. holds n p.0;
    clauses = f;
  }

  -- tests of this level, over clauses that are followed
  level_follows : (j : ℕ) (clause : ℕ → Datum → Test) → AllFollow c routines wide (length types) (IsWithin j) (λ n. alias_at types n) (length types) clause
      → TestsFollow c routines (λ t d. tested (questions limit (λ n. (alias_at types n).ty) (length types) clause) d t) wide (IsWithin j)
  level_follows j clause all f r there t v q g at d regs callers m ty bound numbered names small proper held va qa other whole stands =
      leaves_follows (with_table c routines) wide (size_ty t) 9 m (at_place f at regs callers m.output) (tested (questions limit (λ n. (alias_at types n).ty) (length types) clause) d t m) (Comes f (at + length (test c t v q g)) callers (Told q g regs))
      (tested_follows c routines wide (length types) limit (IsWithin j) (λ n. alias_at types n) (length types) clause all d proper t (bound_again ty (length types) t bound (λ k i. (names k i).0)) numbered names small f r there v q g at regs callers m held va qa other whole stands)

  -- what the clauses of a name ask, where they may test so deep
  abbrev asks : ℕ → ℕ → Datum → Test
  asks j n e = alias_holds (record { place = place; limit = limit; test = tests place limit types j; call = no_calls }) true (alias_at types n) e

  tests_follow : (j : ℕ) → TestsFollow c routines (tests place limit types (suc j) true) wide (IsWithin j)
  tests_follow zero = level_follows 0 (asks 0) (all_follow 0 (asks 0) (λ n p d proper. absurd (let l = level_least types formed.recursion n p.0 in let k = p.1 in omega (arith, l, k))))
  tests_follow (suc j) = level_follows (suc j) (asks (suc j)) (all_follow (suc j) (asks (suc j)) (λ n p d proper.
      clauses_of c routines wide place limit (tests place limit types (suc j)) (IsWithin j) (tests_follow j) (offers_of core) n (alias_at types n) (has n p.0) (alias_calls (offers_of core) core formed.calls n p.0) (is_numbered n p.0).1 (alias_ints core formed.ints n p.0)
      (tested_within j n p) (let l = holds n p.0 in omega (arith, l)) (few_clauses (alias_at types n).clauses (alias_small core formed.small n p.0)) d proper (is_bound n p.0).variable (theirs n p.0) (is_bound n p.0).clauses))

pub tests_followed : TestsAreFollowed
tests_followed place limit core routines wide formed theirs has holds f r there t v q g at d regs callers m ty bound numbered names small proper held va qa other whole stands =
    tests_follow place limit core formed theirs routines has wide holds (length (aliases_of core)) f r there t v q g at d regs callers m ty bound numbered (λ k i. (names k i, level_most (aliases_of core) formed.recursion k)) small proper held va qa other whole stands
