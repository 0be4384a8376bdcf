-- What a program offers to the uses of its names: its types, and what its functions and methods ask and give.
use Rattle.std.specs.Prelude.{◌≡◌, ℕ, Bool, true, false, List, [], ◌∷◌, length, Some, is_some, slice_get}
use Rattle.wy_core.specs.CoreTree.{Decl, AliasDecl, RoutineDecl, Routine, Core, aliases_of}

-- how many values a function or method takes, whether it is a method, and whether it gives a value back
pub record Signature : Type 0 where
  pub arity : ℕ
  pub is_method : Bool
  pub has_result : Bool

-- how many types there are, and the functions and methods by their numbers
pub record Offers : Type 0 where
  pub types : ℕ
  pub routines : List Signature

abbrev pub signature_of : {N : Type 0} → Routine N → Signature
signature_of r = record { arity = length r.params; is_method = r.is_method; has_result = is_some r.result }

-- `print` and `print_int`: each takes one value and gives none back
abbrev pub builtin : Signature
builtin = record { arity = 1; is_method = true; has_result = false }

-- the functions and methods declared, in order, and the two that are built in behind them
abbrev pub signatures_of : {N : Type 0} → List (Decl N) → List Signature
signatures_of [] = builtin ∷ builtin ∷ []
signatures_of (AliasDecl alias ∷ ds) = signatures_of ds
signatures_of (RoutineDecl routine ∷ ds) = signature_of routine ∷ signatures_of ds

abbrev pub offers_of : {N : Type 0} → Core N → Offers
offers_of core = record { types = length (aliases_of core); routines = signatures_of core }

-- a call of the function or method with this number, with so many values, and for its result or not
pub record IsCall (o : Offers) (for_value : Bool) (routine count : ℕ) : Type 0 where
  pub called : Signature
  pub offered : slice_get o.routines routine ≡ Some called
  pub arity : called.arity ≡ count
  pub value : for_value ≡ true → called.has_result ≡ true
