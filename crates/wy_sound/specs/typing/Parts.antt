-- What a formed program has of each of its types, functions and methods.
use Rattle.std.specs.Prelude.{◌≡◌, ℕ, Some, slice_get}
use Rattle.wy_core.specs.CoreTree.{Alias, Routine, Core, aliases_of, routines_of}
use Rattle.wy_core.specs.formed.Offers.{Offers, offers_of}
use Rattle.wy_core.specs.formed.Bound.{BoundAlias, BoundRoutine}
use Rattle.wy_core.specs.formed.Calls.{Nothing, CallsClauses, CallsRoutine}
use Rattle.wy_core.specs.formed.Literals.{IntsClauses, IntsRoutine}
use Rattle.wy_core.specs.formed.Sizes.{IsSmall}
use Rattle.wy_core.specs.formed.Wholes.{IsQuiet, EachClause, EachOfRoutine}
use Rattle.wy_core.specs.formed.Formed.{Formed}
use Rattle.wy_sound_programs.specs.wy_sem.Statements.{type_at}
use Rattle.wy_sound_programs.specs.wy_sem.Evaluation.{types_of}
use Rattle.wy_sound_programs.specs.wy_vc_spec.Numbered.{numbered_routine}
use Rattle.wy_sound_types.specs.wy_sound_walks.expressions.Written.{IsWritten}

-- a declared type
pub record FormedAlias (o : Offers) (a : Alias ℕ) : Type 0 where
  pub bound : BoundAlias o a
  pub calls : CallsClauses Nothing a.clauses
  pub quiet : EachClause IsQuiet a.clauses
  pub ints : IntsClauses a.clauses
  pub small : EachClause IsSmall a.clauses

-- a function or method
pub record FormedRoutine (o : Offers) (r : Routine ℕ) : Type 0 where
  pub bound : BoundRoutine o r
  pub calls : CallsRoutine o r
  pub quiet : EachOfRoutine IsQuiet r
  pub ints : IntsRoutine r
  pub small : EachOfRoutine IsSmall r

pub record PartsAreFormed : Type 0 where
  pub aliases : (core : Core ℕ) → Formed core → (b : ℕ) (a : Alias ℕ) → slice_get (aliases_of core) b ≡ Some a → FormedAlias (offers_of core) a
  pub routines : (core : Core ℕ) → Formed core → (f : ℕ) (r : Routine ℕ) → slice_get (routines_of core) f ≡ Some r → FormedRoutine (offers_of core) r

-- the declared types of variables are the same with numbers, and such as a source may write
pub record VariablesHaveTypes : Type 0 where
  pub same : (r : Routine ℕ) (k : ℕ) → types_of (numbered_routine r k) ≡ types_of r
  pub written : (o : Offers) (r : Routine ℕ) → BoundRoutine o r → (x : ℕ) → IsWritten (type_at (types_of r) x)
