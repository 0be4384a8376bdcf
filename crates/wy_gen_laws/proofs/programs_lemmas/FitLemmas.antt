-- The functions and methods of a formed program are as the law on calls asks.
use Rattle.std.proofs.Common.{◌≡◌, ◌<◌, ◌≤◌, inl, ℕ, zero, suc, ◌+◌, List, [], ◌∷◌, ◌++◌, length, false, Some, None, refl, sym, ◌∙◌, ap, subst, arith}
use Rattle.std.specs.Prelude.{slice_get, is_some}
use Rattle.wy_core.specs.CoreTree as tree
use Rattle.wy_core.specs.CoreTree.{Expr, Alias, Decl, AliasDecl, RoutineDecl, Core, aliases_of, routines_of, exprs_of}
use Rattle.wy_core.proofs.formed_lemmas.SharedLemmas.{clauses_below}
use Rattle.wy_core.specs.formed.Offers.{offers_of}
use Rattle.wy_core.specs.formed.Bound.{Scope, BoundExpr, BoundRoutine, BoundDecls, with_params}
use Rattle.wy_core.specs.formed.Calls.{CallsExpr, CallsRoutine, CallsDecls, MayCall}
use Rattle.wy_core.specs.formed.Literals.{IntsExpr, IntsRoutine, Ints}
use Rattle.wy_core.specs.formed.Sizes.{IsSmall, size, size_ty, sizes}
use Rattle.wy_core.specs.formed.Wholes.{EachOfRoutine, Wholes}
use Rattle.wy_core.specs.formed.Formed.{Formed}
use Rattle.wy_code.specs.declared.routines.Routine.{Routine}
use Rattle.wy_code_spec.specs.declared.tables.context.Context.{Context}
use Rattle.wy_code_spec.specs.tables.Tables.{context_of}
use Rattle.wy_code_spec.specs.compiled.Ranges.{IsFramed}
use Rattle.wy_code_spec.specs.compiled.Programs.{body_routine, body_routines, type_routines, code_of}
use Rattle.wy_code_spec.proofs.compiled_lemmas.RoutineLemmas.{all_framed}
use Rattle.wy_code_spec.specs.numbered.Numbered.{NumberedExpr, NumberedStmts, NumberedDecls}
use Rattle.wy_code_spec.proofs.numbered_lemmas.NumberLemmas.{stand_for_names}
use Rattle.wy_vc_spec.specs.wy_sem.TypeTests.{alias_at}
use Rattle.wy_vc_spec.specs.wy_sem.Evaluation.{frame_of}
use Rattle.wy_gen_laws.specs.Places.{IsRoutine}
use Rattle.wy_gen_laws.proofs.PlaceLemmas.{all_at}
use Rattle.wy_gen_laws.specs.expressions.Standing.{with_table}
use Rattle.wy_gen_laws.specs.expressions.Rests.{Rests}
use Rattle.wy_gen_laws.specs.expressions.Evaluated.{Anything, IsDeclared, Fits}
use Rattle.wy_gen_laws.proofs.expressions_lemmas.FitLemmas.{calls_map}
use Rattle.wy_gen_laws.proofs.expressions_lemmas.ExpressionLemmas.{expressions_evaluated}
use Rattle.wy_gen_laws.specs.tests.Tested.{ClausesNameTheirs, HoldsTypes}
use Rattle.wy_gen_laws.proofs.tests_lemmas.RoutineLemmas.{has_type_routines}
use Rattle.wy_gen_laws.proofs.tests_lemmas.TestLemmas.{tests_followed}
use Rattle.wy_gen_laws.specs.statements.Parts.{cost_all}
use Rattle.wy_gen_laws.specs.statements.Led.{IsValued}
use Rattle.wy_gen_laws.specs.statements.Routines.{InOrder, setting_of, owed_of, CallsNest, RoutineFits, RoutinesFit}
use Rattle.wy_gen_laws.proofs.statements_lemmas.CallLemmas.{calls_follow}
use Rattle.wy_gen_laws.specs.programs.Programs.{AllInOrder}
use Rattle.wy_gen_laws.proofs.programs_lemmas.ContractLemmas.{clause_still, clauses_still, ty_still, params_still, frame_stays}
use Rattle.wy_gen_laws.proofs.programs_lemmas.PartLemmas.{few_enough, parts_fit}

-- ---- how many ticks a step stands for

types_cost : List (Alias ℕ) → ℕ
types_cost [] = 0
types_cost (a ∷ rest) = (size_ty a.ty + sizes (exprs_of a.clauses)) + types_cost rest

routines_cost : List (tree.Routine ℕ) → ℕ
routines_cost [] = 0
routines_cost (r ∷ rs) = cost_all r.body + routines_cost rs

-- more than the nodes of each declaration
pub wide_of : Core ℕ → ℕ
wide_of core = suc (types_cost (aliases_of core) + routines_cost (routines_of core))

type_within : (ts : List (Alias ℕ)) (n : ℕ) → n < length ts → size_ty (alias_at ts n).ty + sizes (exprs_of (alias_at ts n).clauses) ≤ types_cost ts
unfolding types_cost
type_within [] n less = absurd (omega (arith, less))
type_within (a ∷ ts) zero less = omega arith
type_within (a ∷ ts) (suc n) less = let h = type_within ts n (omega (arith, less)) in omega (arith, h)

first_within : (r : tree.Routine ℕ) (rs : List (tree.Routine ℕ)) → cost_all r.body ≤ routines_cost (r ∷ rs)
unfolding routines_cost
first_within r rs = omega arith

rest_within : (r : tree.Routine ℕ) (rs : List (tree.Routine ℕ)) → routines_cost rs ≤ routines_cost (r ∷ rs)
unfolding routines_cost
rest_within r rs = omega arith

pub holds_types : (core : Core ℕ) → HoldsTypes (wide_of core) core
unfolding wide_of
holds_types core n less = let h = type_within (aliases_of core) n less in omega (arith, h)

routines_within : (core : Core ℕ) → routines_cost (routines_of core) < wide_of core
unfolding wide_of
routines_within core = omega arith

-- ---- one function or method

module _ (place : ℕ → ℕ) (core : Core ℕ) (formed : Formed core) (names : ClausesNameTheirs core) where
  abbrev c : Context
  c = context_of core

  abbrev wide : ℕ
  wide = wide_of core

  some : 1 ≤ wide
  some = let h = routines_within core in omega (arith, h)

  rests : (j most : ℕ) → CallsNest place core wide j most → Rests c (code_of core).routines (setting_of place core j) wide most Anything (IsDeclared (length (aliases_of core)))
  rests j most calls = record {
    calls = calls_follow c (code_of core).routines (setting_of place core j) wide most some calls;
    tests = tests_followed place None core (code_of core).routines wide formed names (has_type_routines core) (holds_types core);
  }

  module _ (g : ℕ) (r0 : tree.Routine ℕ) (stands : slice_get (code_of core).routines g ≡ Some (body_routine c r0)) where
    there : IsRoutine (with_table c (code_of core).routines) g (body_routine c r0)
    there = record { is = stands; room = (all_at IsFramed (code_of core).routines g (body_routine c r0) (all_framed core) stands).registers }

    value_fits : (j most : ℕ) → CallsNest place core wide j most → (P : ℕ → Type 0) (n : ℕ) (vs : Scope) (e : Expr ℕ) → NumberedExpr c.table e → IntsExpr e → BoundExpr (offers_of core) n vs e → IsSmall e → CallsExpr P e → size e ≤ wide
        → IsValued c (code_of core).routines g (body_routine c r0) (setting_of place core j) n wide most e
    value_fits j most calls P n vs e u i b z q room = (
      expressions_evaluated.one c (code_of core).routines g (body_routine c r0) there (setting_of place core j) n wide most (length (aliases_of core)) (rests j most calls) e fits,
      expressions_evaluated.straight c (code_of core).routines g (body_routine c r0) there (setting_of place core j) n wide most (length (aliases_of core)) (rests j most calls) e fits,
    )
      where
        fits : Fits c wide Anything (IsDeclared (length (aliases_of core))) e
        fits = record {
          numbered = u;
          ints = i;
          calls = calls_map P Anything (λ h k. tt) e q;
          names = λ h k. clauses_below (offers_of core) n vs (e ∷ []) (b, tt) h (inl k);
          nodes = room;
          few = few_enough (size e) z.nodes;
        }

    routine_fits : BoundRoutine (offers_of core) r0 → CallsRoutine (offers_of core) r0 → IntsRoutine r0 → EachOfRoutine IsSmall r0 → NumberedStmts c.table r0.body → InOrder 0 r0.params → cost_all r0.body < wide → RoutineFits place core (offers_of core) wide g r0
    routine_fits b q i z u order less = record {
      params = b.params;
      body = b.body;
      order = order;
      asked_params = params_still place core formed.bound formed.calls formed.recursion (length r0.variables) [] r0.params b.params;
      asked_before = λ j. clauses_still place core formed.bound formed.calls formed.recursion j (length r0.variables) (with_params [] r0.params) r0.preconditions b.preconditions q.preconditions;
      asked_frame = λ j us. frame_stays place core formed.bound formed.calls formed.recursion r0 b q j us;
      parts = λ j most us calls. parts_fit c (code_of core).routines g (body_routine c r0) (setting_of place core j) (frame_of (owed_of place core) r0 us) (length r0.variables) wide most (offers_of core) (MayCall (offers_of core) r0.is_method)
          (λ vs e nu ie be se qe room. value_fits j most calls (MayCall (offers_of core) r0.is_method) (length r0.variables) vs e nu ie be se qe room)
          (λ vs e be qe. clause_still place core formed.bound formed.calls formed.recursion j (length r0.variables) vs e be qe)
          (λ t bt. ty_still place core formed.bound formed.calls formed.recursion t bt)
          r0.body (record { in_loop = false; has_result = is_some r0.result }) (with_params [] r0.params) u i.body b.body z.body q.body (omega (arith, less));
      nodes = less;
    }

  -- ---- all of them

  abbrev StandsFrom : ℕ → List (tree.Routine ℕ) → Type 0
  StandsFrom k rs = (i : ℕ) (r : Routine) → slice_get (body_routines c rs ++ type_routines c (aliases_of core)) i ≡ Some r → slice_get (code_of core).routines (k + i) ≡ Some r

  from_next : (k : ℕ) (r : tree.Routine ℕ) (rs : List (tree.Routine ℕ)) → StandsFrom k (r ∷ rs) → StandsFrom (suc k) rs
  from_next k r rs h i q e = subst (λ (x : ℕ). slice_get (code_of core).routines x ≡ Some q) (let z : k + suc i ≡ suc k + i = omega arith in z) (h (suc i) q e)

  first_stands : (k : ℕ) (r : tree.Routine ℕ) (rs : List (tree.Routine ℕ)) → StandsFrom k (r ∷ rs) → slice_get (code_of core).routines k ≡ Some (body_routine c r)
  first_stands k r rs h = subst (λ (x : ℕ). slice_get (code_of core).routines x ≡ Some (body_routine c r)) (let z : k + 0 ≡ k = omega arith in z) (h 0 (body_routine c r) refl)

  decls_fit : (ds : List (Decl ℕ)) (k : ℕ) → BoundDecls (offers_of core) ds → CallsDecls (offers_of core) ds → Ints ds → Wholes IsSmall ds → NumberedDecls c.table ds → AllInOrder (routines_of ds) → routines_cost (routines_of ds) < wide → StandsFrom k (routines_of ds)
      → RoutinesFit place core (offers_of core) wide k (routines_of ds)
  decls_fit [] k b q i z u order less h = tt
  decls_fit (AliasDecl a ∷ ds) k b q i z u order less h = decls_fit ds k b.1 q.1 i.1 z.1 u.1 order less h
  decls_fit (RoutineDecl r ∷ ds) k b q i z u order less h =
      let one = first_within r (routines_of ds) in
      let rest = rest_within r (routines_of ds) in
      (routine_fits k r (first_stands k r (routines_of ds) h) b.0 q.0 i.0 z.0 u.0 order.0 (omega (arith, one, less)), decls_fit ds (suc k) b.1 q.1 i.1 z.1 u.1 order.1 (omega (arith, rest, less)) (from_next k r (routines_of ds) h))

  pub program_fits : AllInOrder (routines_of core) → RoutinesFit place core (offers_of core) wide 0 (routines_of core)
  program_fits order = decls_fit core 0 formed.bound formed.calls formed.ints formed.small (stand_for_names core) order (routines_within core) (λ i r e. let z : i ≡ 0 + i = omega arith in ap (λ (x : ℕ). slice_get (code_of core).routines x) (sym z) ∙ e)
