-- What contracts go by: their setting, and the visits of a type by any datum.
use Rattle.std.specs.Prelude.{ℕ, ℤ, List, map, length, Bool, true, false, Result, Ok, Err, Some}
use Rattle.wy_value.specs.Datum.{Datum, Null, Truth, Whole, Array, Record}
use Rattle.wy_value.specs.declared.value.Value.{Value}
use Rattle.wy_value.specs.Seen.{seen}
use Rattle.wy_core.specs.Types.{Ty, FieldTys}
use Rattle.wy_core.specs.CoreTree.{Alias}
use Rattle.wy_core.specs.CoreTree.{Expr}
use Rattle.wy_sem.specs.Meter.{Run, choose, turn}
use Rattle.wy_sem.specs.Expressions.{Setting, Store, eval, no_calls, put}
use Rattle.wy_sem.specs.TypeTests.{Test, Questions, alias_at, alias_holds, answer, asked, few_enough, forgiven, items_tested, name_asked, parts_tested, same_names, tests}
use Rattle.wy_eval_exprs.specs.declared.stop.Stop.{Stop}
use Rattle.wy_eval_exprs.specs.declared.stop.Stop.TheVariants as stop

-- a node is its place
abbrev pub here : ℕ → ℕ
here at = at

-- the data of these values
abbrev pub data_in : List Value → List Datum
data_in vs = map seen vs

-- what an `is` test does, in clauses that nest so deep
abbrev pub tests_at : List (Alias ℕ) → ℕ → ℕ → Bool → Ty → Datum → Test
tests_at types limit depth = tests here (Some limit) types depth

-- contracts call nothing
abbrev pub setting : List (Alias ℕ) → ℕ → ℕ → Setting ℕ
setting types limit depth = record { place = here; limit = Some limit; test = tests_at types limit depth; call = no_calls }

-- a fault is a no, where faults are forgiven
abbrev pub pardon : Bool → Test → Test
pardon true t = λ m. forgiven (t m)
pardon false t = t

-- what a test of a type goes by
abbrev pub questions : List (Alias ℕ) → ℕ → ℕ → Bool → Bool → Questions
questions types limit depth paid forgives = record {
  paid = paid;
  limit = Some limit;
  definition = (λ n. (alias_at types n).ty);
  bare = length types;
  clause = (λ n d. pardon forgives (alias_holds (setting types limit depth) paid (alias_at types n) d));
}

-- what is asked of the items of a datum
abbrev pub items_by : Questions → Datum → Ty → Test
items_by q Null t = answer false
items_by q (Truth b) t = answer false
items_by q (Whole z) t = answer false
items_by q (Array ds) t = choose (few_enough ds) (items_tested q ds t) (answer false)
items_by q (Record fs) t = answer false

-- what is asked of the fields of a datum
abbrev pub parts_by : Questions → Datum → FieldTys → Test
parts_by q Null tys = answer false
parts_by q (Truth b) tys = answer false
parts_by q (Whole z) tys = answer false
parts_by q (Array ds) tys = answer false
parts_by q (Record fs) tys = choose (same_names fs tys) (parts_tested q fs tys) (answer false)

-- what a name asks of a datum, where so many bare names may follow on one another
abbrev pub named_by : Questions → ℕ → Datum → ℕ → Test
named_by q bare d n = name_asked q d (items_by q d) (parts_by q d) bare n

-- the visits of a type by a datum, where so many bare names may follow on one another
abbrev pub asked_by : Questions → ℕ → Datum → Ty → Test
asked_by q bare d t = asked q (named_by q bare d) d (items_by q d) (parts_by q d) t

-- the answer where a fault is a no
abbrev pub pardoned : Result Bool Stop → Result Bool Stop
pardoned (Ok b) = Ok b
pardoned (Err (stop.Fault kind at)) = Ok false
pardoned (Err stop.More) = Err stop.More
pardoned (Err stop.Spent) = Err stop.Spent
pardoned (Err stop.NoMemory) = Err stop.NoMemory

-- a turn of a quantifier, at a number
abbrev pub turns_of : Setting ℕ → Bool → Expr ℕ → Store → ℕ → ℤ → Run Datum
turns_of w paid body s x i = turn w.limit paid (eval w paid body (put s x (Some (Whole i))))
