-- What is counted of an expression, properties expanded, and where. Numbers above 4,096 aren't told apart.
use Rattle.std.specs.Prelude.{ℕ, ◌+◌, ◌-◌, ◌*◌, min, max, Bool, true, false, not, ◌&&◌, ◌||◌, ◌==◌, nat_lt, List, Option, Some, None, if◌then◌else◌, slice_get, slice_set}
use Rattle.wy_names_expand.specs.declared.measure.Measure.{Measure}
use Rattle.wy_names_expand.specs.declared.measure.Spot.{Spot}
use Rattle.wy_names_expand.specs.declared.measure.Summary.{Summary}
use Rattle.wy_names_expand.specs.declared.measure.Use.{Use}
use Rattle.wy_names_scope.specs.declared.fault.Cause.TheVariants as cause
use Rattle.wy_names_scope.specs.Faults.{Found, noted, noted_where}

abbrev pub plus : ℕ → ℕ → ℕ
plus a b = min 4097 (a + b)

abbrev pub times : ℕ → ℕ → ℕ
times a b = min 4097 (a * b)

-- nothing counted
abbrev pub nothing : Found → List Use → Measure
nothing found uses = record { fixed = 0; nodes = 0; height = 0; found = found; uses = uses }

-- the root of an expression
abbrev pub root : Bool → Spot
root is_code = record { times = 1; depth = 1; quantified = false; is_code = is_code; wrapped = None }

abbrev pub deeper : Spot → ℕ → Spot
deeper s by = record { times = s.times; depth = plus s.depth by; quantified = s.quantified; is_code = s.is_code; wrapped = s.wrapped }

abbrev pub inside : Spot → Spot
inside s = deeper s 1

-- within a quantifier that is written there
abbrev pub quantified : Spot → Spot
quantified s = record { times = s.times; depth = s.depth; quantified = true; is_code = false; wrapped = s.wrapped }

-- an argument that no clause uses
abbrev pub dropped : Spot → Spot
dropped s = record { times = 0; depth = s.depth; quantified = s.quantified; is_code = s.is_code; wrapped = s.wrapped }

-- the lesser place
abbrev pub first_of : Option ℕ → ℕ → Option ℕ
first_of None at = Some at
first_of (Some other) at = if nat_lt at other then Some at else Some other

-- an argument of the property used at the place, whose parameter is used so
abbrev pub argument : Spot → ℕ → Use → Spot
argument s at u = record {
  times = times s.times u.times;
  depth = plus s.depth (u.depth - 1);
  quantified = s.quantified || u.quantified;
  is_code = s.is_code;
  wrapped = if s.is_code && u.quantified then first_of s.wrapped at else s.wrapped;
}

-- the height with a node there, where one is
abbrev pub reached : ℕ → Spot → ℕ
reached height s = if s.times == 0 then height else max height s.depth

-- with one more node
abbrev pub counted : Measure → Spot → Measure
counted m s = record { fixed = plus m.fixed s.times; nodes = plus m.nodes s.times; height = reached m.height s; found = m.found; uses = m.uses }

-- with this many more nodes beside each other
abbrev pub counted_many : Measure → Spot → ℕ → Measure
counted_many m s count =
    if count == 0 then m
    else record { fixed = plus m.fixed (times s.times count); nodes = plus m.nodes (times s.times count); height = reached m.height s; found = m.found; uses = m.uses }

-- with another fault found
abbrev pub with_found : Measure → Found → Measure
with_found m found = record { fixed = m.fixed; nodes = m.nodes; height = m.height; found = found; uses = m.uses }

-- a call, which the property used at the place may put into a quantifier
abbrev pub with_call : Measure → ℕ → Option ℕ → Measure
with_call m count None = m
with_call m count (Some at) = with_found m (noted_where (not (count == 0)) m.found at cause.CallInContract)

-- with a call of a function or method
abbrev pub called : Measure → Spot → Measure
called m s = with_call (counted m s) s.times s.wrapped

-- with the clauses of a property that is used there
abbrev pub expanded : Measure → Spot → Summary → Measure
expanded m s summary = counted_many m (deeper s (summary.height - 1)) summary.nodes

-- with the use of a property whose expansion has no end
abbrev pub endless : Measure → ℕ → Measure
endless m at = with_found m (noted m.found at cause.PropertyLoop)

-- one more use of a parameter
abbrev pub one_more : Use → Spot → Use
one_more u s = record { times = plus u.times s.times; depth = reached u.depth s; quantified = u.quantified || (not (s.times == 0) && s.quantified) }

abbrev pub use_set : List Use → Spot → ℕ → Option Use → List Use
use_set uses s i None = uses
use_set uses s i (Some u) = slice_set uses i (one_more u s)

abbrev pub with_use : List Use → Spot → ℕ → List Use
with_use uses s i = use_set uses s i (slice_get uses i)

-- with a parameter
abbrev pub used : Measure → Spot → ℕ → Measure
used m s i = record { fixed = m.fixed; nodes = plus m.nodes s.times; height = reached m.height s; found = m.found; uses = with_use m.uses s i }

-- with `TooLarge` at the place, where there are more than 4,096 nodes or a height above 400
abbrev pub limited : Measure → ℕ → Found
limited m at = noted_where (nat_lt 4096 m.nodes || nat_lt 400 m.height) m.found at cause.TooLarge
