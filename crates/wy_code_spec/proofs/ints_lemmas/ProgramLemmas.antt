-- A routine has few instructions for each of its ticks.
use Rattle.std.proofs.Common.{◌≡◌, ◌≤◌, ◌+◌, ◌*◌, ℕ, zero, suc, List, [], ◌∷◌, ◌++◌, length, arith, length-append}
use Rattle.wy_core.specs.CoreTree as tree
use Rattle.wy_core.specs.CoreTree.{Expr, Core, aliases_of, routines_of}
use Rattle.wy_live.specs.Sets.{Variables, with}
use Rattle.wy_live.specs.Walks.{live_all, nothing}
use Rattle.wy_code.specs.declared.instructions.Instr.TheVariants as instr
use Rattle.wy_code.specs.declared.routines.Routine.{Routine}
use Rattle.wy_code_spec.specs.declared.tables.context.Context.{Context}
use Rattle.wy_code_spec.specs.tables.Tables.{context_of}
use Rattle.wy_code.specs.declared.pieces.steps.Step.{Step}
use Rattle.wy_code.specs.declared.pieces.steps.Step.TheVariants.{Does}
use Rattle.wy_code.specs.pieces.Steps.{clear, dropped, where_true, fork}
use Rattle.wy_code_spec.proofs.compiled_lemmas.WithinLemmas.{placed_length}
use Rattle.wy_code_spec.specs.compiled.TypeTests.{test}
use Rattle.wy_code_spec.specs.compiled.Expressions.{code}
use Rattle.wy_code_spec.specs.compiled.Statements.{gives_null, stmts_code}
use Rattle.wy_code_spec.specs.compiled.Programs.{unused_params, body_steps, body_routine, clauses_steps, variable_of, taken, type_steps_at, type_routine, body_routines, type_routines, code_of}
use Rattle.wy_code_spec.specs.ints.Ticks.{visits, ticks, stmts_ticks, clauses_ticks, routine_ticks, alias_ticks, bodies_ticks, aliases_ticks, core_ticks, instructions}
use Rattle.wy_code_spec.proofs.ints_lemmas.PieceLemmas.{clear_small, where_true_small}
use Rattle.wy_code_spec.proofs.ints_lemmas.TypeLemmas.{test_small}
use Rattle.wy_code_spec.proofs.ints_lemmas.ExpressionLemmas.{expr_small}
use Rattle.wy_code_spec.proofs.ints_lemmas.StatementLemmas.{stmts_small}

-- ---- functions and methods

body_sum : (xs ys zs : List Step) (t : ℕ) → length xs ≤ 1 → length ys ≤ 16 * t → length zs ≤ 2 → length (xs ++ (ys ++ zs)) ≤ 16 * t + 16
body_sum xs ys zs t h k l = omega (arith, length-append xs (ys ++ zs), length-append ys zs)

steps_small : (c : Context) (r : tree.Routine ℕ) → length (body_steps c r) ≤ 16 * routine_ticks r + 16
steps_small c r =
    let n = length r.variables in
    body_sum (clear (unused_params (live_all r.body [] nothing) r.params)) (stmts_code c r.body [] nothing n 0 0) (gives_null n) (stmts_ticks r.body)
    (clear_small (unused_params (live_all r.body [] nothing) r.params)) (stmts_small c r.body [] nothing n 0 0) (omega arith)

placed_sum : (n m k : ℕ) → n ≡ m → m ≤ k → n ≤ k
placed_sum n m k e h = omega arith

pub body_small : (c : Context) (r : tree.Routine ℕ) → length (body_routine c r).body ≤ 16 * routine_ticks r + 16
body_small c r = placed_sum (length (body_routine c r).body) (length (body_steps c r)) (16 * routine_ticks r + 16) (placed_length 0 (body_steps c r)) (steps_small c r)

-- ---- tests of types

taken_small : (x : ℕ) → length (taken x) ≤ 1
taken_small zero = omega arith
taken_small (suc x) = omega arith

clauses_small : (c : Context) (es : List (Expr ℕ)) (s : Variables) (r : ℕ) → length (clauses_steps c es s r) ≤ 16 * clauses_ticks es
clauses_small c [] s r = omega arith
clauses_small c (e ∷ es) s r =
    let rest = clauses_steps c es s r in
    let h : length (code c e s r) + 2 ≤ 16 * ticks e = expr_small c e s r in let k : length rest ≤ 16 * clauses_ticks es = clauses_small c es s r in
    let l : length (where_true r rest) ≤ length rest + 1 = where_true_small r rest in
    omega (arith, h, k, l, length-append (code c e s r) (fork r rest []))

type_sum : (xs ys zs ws : List Step) (r v t : ℕ) → length xs ≤ 1 → length ys + 4 ≤ 16 * v → length zs ≤ 16 * t → length ws ≤ 3 → length (xs ++ (ys ++ (fork r zs [] ++ ws))) ≤ 16 * (v + t) + 16
type_sum xs ys zs ws r v t h k l m =
    let f : length (where_true r zs) ≤ length zs + 1 = where_true_small r zs in
    omega (arith, length-append xs (ys ++ (fork r zs [] ++ ws)), length-append ys (fork r zs [] ++ ws), length-append (fork r zs []) ws)

type_steps_small : (c : Context) (a : tree.Alias ℕ) (x n : ℕ) → length (type_steps_at c a x n) ≤ 16 * alias_ticks a + 16
type_steps_small c a x n =
    type_sum (taken x) (test c a.ty x n (suc n)) (clauses_steps c a.clauses (with [] x) n) (dropped x (suc n) ++ Does (instr.Return n) ∷ []) n (visits a.ty) (clauses_ticks a.clauses)
    (taken_small x) (test_small c a.ty x n (suc n)) (clauses_small c a.clauses (with [] x) n) (omega arith)

pub type_small : (c : Context) (a : tree.Alias ℕ) → length (type_routine c a).body ≤ 16 * alias_ticks a + 16
type_small c a = placed_sum (length (type_routine c a).body) _ (16 * alias_ticks a + 16) (placed_length 0 _) (type_steps_small c a (variable_of a.variable) _)

-- ---- programs

instructions-append : (rs ss : List Routine) → instructions (rs ++ ss) ≡ instructions rs + instructions ss
instructions-append [] ss = omega arith
instructions-append (r ∷ rs) ss = let h : instructions (rs ++ ss) ≡ instructions rs + instructions ss = instructions-append rs ss in omega arith

bodies_small : (c : Context) (rs : List (tree.Routine ℕ)) → instructions (body_routines c rs) ≤ 16 * bodies_ticks rs + 16 * length (body_routines c rs)
bodies_small c [] = omega arith
bodies_small c (r ∷ rs) =
    let h : length (body_routine c r).body ≤ 16 * routine_ticks r + 16 = body_small c r in
    let k : instructions (body_routines c rs) ≤ 16 * bodies_ticks rs + 16 * length (body_routines c rs) = bodies_small c rs in omega arith

types_small : (c : Context) (more : List (tree.Alias ℕ)) → instructions (type_routines c more) ≤ 16 * aliases_ticks more + 16 * length (type_routines c more)
types_small c [] = omega arith
types_small c (a ∷ more) =
    let h : length (type_routine c a).body ≤ 16 * alias_ticks a + 16 = type_small c a in
    let k : instructions (type_routines c more) ≤ 16 * aliases_ticks more + 16 * length (type_routines c more) = types_small c more in omega arith

pub code_small : (core : Core ℕ) → instructions (code_of core).routines ≤ 16 * core_ticks core + 16 * length (code_of core).routines
code_small core =
    let c = context_of core in let bs = body_routines c (routines_of core) in let ts = type_routines c (aliases_of core) in
    let h : instructions bs ≤ 16 * bodies_ticks (routines_of core) + 16 * length bs = bodies_small c (routines_of core) in
    let k : instructions ts ≤ 16 * aliases_ticks (aliases_of core) + 16 * length ts = types_small c (aliases_of core) in
    omega (arith, h, k, instructions-append bs ts, length-append bs ts)
