-- The code of a program.
use Rattle.std.specs.Prelude.{ℕ, zero, suc, max, List, [], ◌∷◌, ◌++◌, length, cond, Option, Some, None}
use Rattle.wy_core.specs.CoreTree as tree
use Rattle.wy_core.specs.CoreTree.{Expr, Core, aliases_of, routines_of}
use Rattle.wy_live.specs.Sets.{Variables, has, with}
use Rattle.wy_live.specs.Walks.{live_all, nothing}
use Rattle.wy_code.specs.declared.instructions.Instr.TheVariants as instr
use Rattle.wy_code.specs.declared.routines.Routine.{Routine}
use Rattle.wy_code.specs.declared.routines.Code.{Code}
use Rattle.wy_code_spec.specs.declared.tables.context.Context.{Context}
use Rattle.wy_code.specs.declared.pieces.steps.Step.{Step}
use Rattle.wy_code.specs.declared.pieces.steps.Step.TheVariants.{Does}
use Rattle.wy_code.specs.pieces.Steps.{clear, dropped, fork}
use Rattle.wy_code.specs.pieces.Placing.{routine_of}
use Rattle.wy_code_spec.specs.tables.Tables.{context_of}
use Rattle.wy_code_spec.specs.compiled.TypeTests.{test}
use Rattle.wy_code_spec.specs.compiled.Expressions.{code}
use Rattle.wy_code_spec.specs.compiled.Statements.{gives_null, stmts_code}

-- ---- functions and methods: the variable with the number x has the register x, so the parameters come first

-- the parameters that no path uses
abbrev pub unused_params : Variables → List tree.Param → List ℕ
unused_params s [] = []
unused_params s (p ∷ ps) = cond (has s p.variable) (unused_params s ps) (p.variable ∷ unused_params s ps)

-- a body, behind whose end null is given
abbrev pub body_steps : Context → tree.Routine ℕ → List Step
body_steps c r =
    let n = length r.variables in
    clear (unused_params (live_all r.body [] nothing) r.params) ++ (stmts_code c r.body [] nothing n 0 0 ++ gives_null n)

abbrev pub body_routine : Context → tree.Routine ℕ → Routine
body_routine c r = routine_of (length r.params) (body_steps c r)

-- ---- tests of types

-- the clauses of a type, one behind the other up to the first that is false, each of which leaves the variable live; what they say comes into r
abbrev pub clauses_steps : Context → List (Expr ℕ) → Variables → ℕ → List Step
clauses_steps c [] s r = []
clauses_steps c (e ∷ es) s r = code c e s r ++ fork r (clauses_steps c es s r) []

abbrev pub variable_of : Option ℕ → ℕ
variable_of None = 0
variable_of (Some x) = x

-- the argument goes into the variable of the clauses
abbrev pub taken : ℕ → List Step
taken zero = []
taken (suc x) = Does (instr.Move (suc x) 0) ∷ []

-- the value is in x, and n is the first free register: the definition is asked, and where it says yes, the clauses; then the value is released
abbrev pub type_steps_at : Context → tree.Alias ℕ → ℕ → ℕ → List Step
type_steps_at c a x n = taken x ++ (test c a.ty x n (suc n) ++ (fork n (clauses_steps c a.clauses (with [] x) n) [] ++ (dropped x (suc n) ++ Does (instr.Return n) ∷ [])))

abbrev pub type_routine : Context → tree.Alias ℕ → Routine
type_routine c a = routine_of 1 (type_steps_at c a (variable_of a.variable) (max 1 (length a.variables)))

-- ---- programs

abbrev pub body_routines : Context → List (tree.Routine ℕ) → List Routine
body_routines c [] = []
body_routines c (r ∷ rs) = body_routine c r ∷ body_routines c rs

abbrev pub type_routines : Context → List (tree.Alias ℕ) → List Routine
type_routines c [] = []
type_routines c (a ∷ more) = type_routine c a ∷ type_routines c more

-- the routine with the number k is that of the function or method with this number; behind these stand those that test the declared types
abbrev pub code_of : Core ℕ → Code
code_of core = let c = context_of core in
    record { shapes = c.table; routines = body_routines c (routines_of core) ++ type_routines c (aliases_of core) }
