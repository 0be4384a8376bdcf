-- What is known of the declarations of a program.
use Rattle.std.specs.Prelude.{◌≡◌, ℕ, zero, suc, ◌+◌, List, [], ◌∷◌, length, Bool, true, false, slice_index_or, slice_get, Option, Some, None}
use Rattle.wy_core.specs.CoreTree as tree
use Rattle.wy_core.specs.CoreTree.{aliases_of, routines_of}
use Rattle.wy_core.specs.CoreSeen.{seen_core, seen_alias, seen_routine, seen_exprs}
use Rattle.wy_core.specs.declared.declarations.Alias.{Alias}
use Rattle.wy_core.specs.declared.declarations.Routine.{Routine}
use Rattle.wy_core.specs.declared.declarations.Decl.{Decl}
use Rattle.wy_core.specs.declared.declarations.Decl.TheVariants as decl
use Rattle.wy_core.specs.declared.declarations.Core.{Core}
use Rattle.wy_vc_spec.specs.wy_sem.TypeTests.{alias_at, no_alias, is_constrained_name}
use Rattle.wy_vc_spec.specs.wy_sem.Evaluation as sem
use Rattle.wy_vc_spec.specs.Sizes.{exprs_in_list}
use Rattle.wy_vc_spec.specs.Named.{is_written}
use Rattle.wy_vc_spec.specs.Numbered.{Node, numbered_core, numbered_alias, numbered_routine}
use Rattle.wy_vc_spec.specs.Values.{Setting}
use Rattle.wy_vc_tables.specs.sizes.Marks.{mark_at}
use Rattle.wy_vc_tables.specs.declared.program_names.declared.Declared.{Declared}
use Rattle.wy_vc_tables.specs.declared.program_names.program.Called.{Called}
use Rattle.wy_vc_tables.specs.declared.program_names.program.Program.{Program}
use Rattle.wy_vc_tables.specs.declared.program_names.program.Callee.{Callee}
use Rattle.wy_vc_tables.specs.declared.program_names.program.Callee.TheVariants as callee

-- ---- tables, with something where there is no entry

-- a formula has the definition and the clauses of the name where it speaks of it; what is no name is written out as the type without values
abbrev pub written_at : List Declared → ℕ → Bool
written_at [] n = true
written_at (d ∷ ds) zero = d.is_written
written_at (d ∷ ds) (suc n) = written_at ds n

abbrev pub alias_in : Option Decl → Option Alias
alias_in None = None
alias_in (Some (decl.Alias a)) = Some a
alias_in (Some (decl.Routine r)) = None

abbrev pub routine_in : Option Decl → Option Routine
routine_in None = None
routine_in (Some (decl.Alias a)) = None
routine_in (Some (decl.Routine r)) = Some r

-- the declaration of a name
abbrev pub alias_of : Core → Option Declared → Option Alias
alias_of core None = None
alias_of core (Some d) = alias_in (slice_get core.decls d.decl)

-- the number of the first expression of its clauses
abbrev pub first_of : Option Declared → ℕ
first_of None = 0
first_of (Some d) = d.first

-- the declaration with the numbers of its expressions
abbrev pub numbered_at : Option Alias → ℕ → tree.Alias Node
numbered_at None first = no_alias
numbered_at (Some a) first = numbered_alias (seen_alias a) first

-- ---- functions and methods

abbrev pub routine_of : Core → Called → Option Routine
routine_of core c = routine_in (slice_get core.decls c.decl)

-- the function or method is this one, whose expressions have numbers from these on
pub record IsCalled (r : tree.Routine Node) (routine : Routine) (called : Called) : Type 0 where
  pub is : numbered_routine (seen_routine routine) called.preconditions ≡ r
  pub ensures_from : called.postconditions ≡ called.preconditions + exprs_in_list (seen_exprs routine.preconditions)
  pub body_from : called.body ≡ called.postconditions + exprs_in_list (seen_exprs routine.postconditions)

abbrev pub IsRoutine : tree.Routine Node → Option Routine → Called → Type 0
IsRoutine r None called = ⊥
IsRoutine r (Some routine) called = IsCalled r routine called

-- these are the functions and methods, in order
abbrev pub AreRoutines : Core → List (tree.Routine Node) → List Called → Type 0
AreRoutines core [] [] = Unit {0}
AreRoutines core [] (c ∷ cs) = ⊥
AreRoutines core (r ∷ rs) [] = ⊥
AreRoutines core (r ∷ rs) (c ∷ cs) = IsRoutine r (routine_of core c) c × AreRoutines core rs cs

-- ---- the program

-- whether the expression with this number is a number
abbrev pub is_number_in : List Bool → Node → Bool
is_number_in marks k = slice_index_or marks k.number false

-- the declared types, each expression with its number
abbrev pub types_of : Core → List (tree.Alias Node)
types_of core = aliases_of (numbered_core (seen_core core))

-- what walks over expressions ask of the program
abbrev pub setting : Core → Program → Setting Node
setting core p = record { place = (λ k. k.at); is_number = is_number_in p.is_number.items; types = types_of core }

-- the tables are those of the program
pub record IsDescribed (core : Core) (p : Program) : Type 0 where
  pub count : length p.types.items ≡ length (types_of core)
  pub written : (n : ℕ) → written_at p.types.items n ≡ is_written (types_of core) n
  pub constrained : (n : ℕ) → mark_at p.constrained.items n ≡ is_constrained_name (types_of core) (suc (length (types_of core))) n
  pub aliases : (n : ℕ) → numbered_at (alias_of core (slice_get p.types.items n)) (first_of (slice_get p.types.items n)) ≡ alias_at (types_of core) n
  pub called : AreRoutines core (routines_of (numbered_core (seen_core core))) p.routines.items

-- ---- what a call calls

-- what is called is this
abbrev pub IsFound : sem.Callee Node → Callee → Type 0
IsFound (sem.Declared r) (callee.Declared routine called) = IsCalled r routine.now called
IsFound (sem.Declared r) callee.Print = ⊥
IsFound (sem.Declared r) callee.PrintInt = ⊥
IsFound (sem.Declared r) callee.Unknown = ⊥
IsFound sem.Print (callee.Declared routine called) = ⊥
IsFound sem.Print callee.Print = Unit {0}
IsFound sem.Print callee.PrintInt = ⊥
IsFound sem.Print callee.Unknown = ⊥
IsFound sem.PrintInt (callee.Declared routine called) = ⊥
IsFound sem.PrintInt callee.Print = ⊥
IsFound sem.PrintInt callee.PrintInt = Unit {0}
IsFound sem.PrintInt callee.Unknown = ⊥
IsFound sem.Undeclared (callee.Declared routine called) = ⊥
IsFound sem.Undeclared callee.Print = ⊥
IsFound sem.Undeclared callee.PrintInt = ⊥
IsFound sem.Undeclared callee.Unknown = Unit {0}
