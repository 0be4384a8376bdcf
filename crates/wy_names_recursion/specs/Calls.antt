-- Where a node stands, and the faults of a call there.
use Rattle.std.specs.Prelude.{ℕ, Bool, true, false, not, ◌&&◌, ◌==◌, Option, Some, None, if◌then◌else◌}
use Rattle.wy_names_scope.specs.declared.table.Entry.{Entry}
use Rattle.wy_names_scope.specs.declared.table.Entry.TheVariants as entry
use Rattle.wy_names_scope.specs.declared.table.Signature.{Signature}
use Rattle.wy_names_scope.specs.declared.fault.Cause.TheVariants as cause
use Rattle.wy_names_scope.specs.Faults.{Found, noted, noted_where}
use Rattle.wy_names_recursion.specs.declared.context.Context.{Context}

-- inside a clause, an `assert` or a quantifier
abbrev pub contract : Context → Context
contract c = record { is_function = c.is_function; has_result = c.has_result; in_loop = c.in_loop; is_contract = true }

-- inside the body of a loop
abbrev pub looped : Context → Context
looped c = record { is_function = c.is_function; has_result = c.has_result; in_loop = true; is_contract = c.is_contract }

-- a function or method is called with this many arguments, for its result or not
abbrev pub call_routine : Context → Bool → Signature → ℕ → ℕ → Found → Found
call_routine c for_value s count at found =
    noted_where (for_value && not s.has_result)
    (noted_where (not (count == s.arity))
    (noted_where (s.is_method && c.is_function)
    (noted_where c.is_contract found at cause.CallInContract)
    at cause.MethodInFunction)
    at cause.Arity)
    at cause.Arity

abbrev pub call_entry : Context → Bool → Entry → ℕ → ℕ → Found → Found
call_entry c for_value (entry.Type n decl) count at found = noted found at cause.Unknown
call_entry c for_value (entry.Routine s) count at found = call_routine c for_value s count at found
call_entry c for_value (entry.Property decl arity) count at found =
    if for_value then noted_where (not (count == arity)) found at cause.Arity else noted found at cause.Unknown
call_entry c for_value (entry.Variable n) count at found = noted found at cause.Unknown

-- what a name stands for is called. A statement's call is no use of a property
abbrev pub call : Context → Bool → Option Entry → ℕ → ℕ → Found → Found
call c for_value None count at found = noted found at cause.Unknown
call c for_value (Some e) count at found = call_entry c for_value e count at found

abbrev pub variable_entry : Entry → Bool
variable_entry (entry.Type n decl) = false
variable_entry (entry.Routine s) = false
variable_entry (entry.Property decl arity) = false
variable_entry (entry.Variable n) = true

-- the name stands for a variable
abbrev pub is_variable : Option Entry → Bool
is_variable None = false
is_variable (Some e) = variable_entry e

abbrev pub type_entry : Entry → Bool
type_entry (entry.Type n decl) = true
type_entry (entry.Routine s) = false
type_entry (entry.Property decl arity) = false
type_entry (entry.Variable n) = false

-- the name stands for a type
abbrev pub is_type : Option Entry → Bool
is_type None = false
is_type (Some e) = type_entry e
