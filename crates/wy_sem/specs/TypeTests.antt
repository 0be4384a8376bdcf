-- What a test of a type asks, visit by visit.
use Rattle.std.specs.Prelude.{ℕ, zero, suc, List, [], ◌∷◌, length, Bool, true, false, not, ◌&&◌, ◌||◌, Option, Some, None, pos, int_le, bytes_eq}
use Rattle.wy_term.specs.wy_value.Datum.{Datum, Null, Truth, Whole, Array, Record, Data, no_items, item, Fields, no_fields, field}
use Rattle.wy_term.specs.wy_value.Values.{length_of}
use Rattle.wy_types.specs.wy_core.Types.{Ty, NullTy, BoolTy, IntTy, AnyTy, VoidTy, RecordTy, ArrayTy, UnionTy, InterTy, NotTy, NamedTy, NormalTy, FieldTys, NoFieldTys, MoreFieldTys}
use Rattle.wy_types.specs.wy_core.CoreTree.{Expr, Alias}
use Rattle.wy_sem.specs.Meter.{Outcome, Done, Fault, More, Spent, Run, ◌>>=◌, turn, choose}
use Rattle.wy_term.specs.wy_value.Numbers.{is_int}
use Rattle.wy_sem.specs.Operations.{longest, as_truth}
use Rattle.wy_sem.specs.Expressions.{Store, put, Setting, no_calls, node, eval}

-- a question that is asked
abbrev pub Test : Type 0
Test = Run Bool

abbrev pub answer : Bool → Test
answer b m = Done b m

-- the second is asked where the first is true
abbrev pub both : Test → Test → Test
both first second m = first m >>= (λ b. choose b second (answer false))

-- the second is asked where the first is false
abbrev pub either : Test → Test → Test
either first second m = first m >>= (λ b. choose b (answer true) second)

abbrev pub opposite : Test → Test
opposite test m = test m >>= (λ b. answer (not b))

-- ---- declared types

-- what stands for a number that no type has
abbrev pub no_alias : {N : Type 0} → Alias N
no_alias = record { at = 0; name = []; variables = []; ty_at = 0; ty = VoidTy; variable = None; clauses = [] }

-- the type with this number
abbrev pub alias_at : {N : Type 0} → List (Alias N) → ℕ → Alias N
alias_at [] n = no_alias
alias_at (a ∷ rest) zero = a
alias_at (a ∷ rest) (suc n) = alias_at rest n

abbrev pub has_clauses : {N : Type 0} → List (Expr N) → Bool
has_clauses [] = false
has_clauses (e ∷ es) = true

-- names of this kind stand in the type as it is written
abbrev mutual
  pub mentions : (ℕ → Bool) → Ty → Bool
  mentions p NullTy = false
  mentions p BoolTy = false
  mentions p IntTy = false
  mentions p AnyTy = false
  mentions p VoidTy = false
  mentions p (RecordTy fields) = mentions_fields p fields
  mentions p (ArrayTy t) = mentions p t
  mentions p (UnionTy s t) = mentions p s || mentions p t
  mentions p (InterTy s t) = mentions p s || mentions p t
  mentions p (NotTy t) = mentions p t
  mentions p (NamedTy n) = p n
  mentions p (NormalTy union) = false

  pub mentions_fields : (ℕ → Bool) → FieldTys → Bool
  mentions_fields p NoFieldTys = false
  mentions_fields p (MoreFieldTys name t fields) = mentions p t || mentions_fields p fields

-- a type with clauses is reached from this name through fewer than so many names
abbrev pub is_constrained_name : {N : Type 0} → List (Alias N) → ℕ → ℕ → Bool
is_constrained_name types zero n = false
is_constrained_name types (suc j) n = has_clauses (alias_at types n).clauses || mentions (is_constrained_name types j) (alias_at types n).ty

-- a type with clauses is reached from this type
abbrev pub is_constrained : {N : Type 0} → List (Alias N) → Ty → Bool
is_constrained types t = mentions (is_constrained_name types (suc (length types))) t

-- ---- the visits of a type

-- what a test goes by: whether it runs in code, the limit on turns, the definition of each name, how many bare names may follow on one another, and the clauses of each name
pub record Questions : Type 0 where
  pub paid : Bool
  pub limit : Option ℕ
  pub definition : ℕ → Ty
  pub bare : ℕ
  pub clause : ℕ → Datum → Test

abbrev pub is_null : Datum → Bool
is_null Null = true
is_null (Truth b) = false
is_null (Whole z) = false
is_null (Array ds) = false
is_null (Record fs) = false

abbrev pub is_truth : Datum → Bool
is_truth Null = false
is_truth (Truth b) = true
is_truth (Whole z) = false
is_truth (Array ds) = false
is_truth (Record fs) = false

abbrev pub is_whole : Datum → Bool
is_whole Null = false
is_whole (Truth b) = false
is_whole (Whole z) = is_int z
is_whole (Array ds) = false
is_whole (Record fs) = false

abbrev pub visit : Questions → Test → Test
visit q test = turn q.limit q.paid test

-- a datum is in a type, where it is known what is asked of its items, of its fields and of a name
abbrev pub asked : Questions → (ℕ → Test) → Datum → (Ty → Test) → (FieldTys → Test) → Ty → Test
asked q named d items parts NullTy = visit q (answer (is_null d))
asked q named d items parts BoolTy = visit q (answer (is_truth d))
asked q named d items parts IntTy = visit q (answer (is_whole d))
asked q named d items parts AnyTy = visit q (answer true)
asked q named d items parts VoidTy = visit q (answer false)
asked q named d items parts (RecordTy fields) = visit q (parts fields)
asked q named d items parts (ArrayTy t) = visit q (items t)
asked q named d items parts (UnionTy s t) = visit q (either (asked q named d items parts s) (asked q named d items parts t))
asked q named d items parts (InterTy s t) = visit q (both (asked q named d items parts s) (asked q named d items parts t))
asked q named d items parts (NotTy t) = visit q (opposite (asked q named d items parts t))
asked q named d items parts (NamedTy n) = visit q (named n)
asked q named d items parts (NormalTy union) = visit q (answer false)

-- a name asks its definition and then its clauses; a circle of bare names, which no program has, asks on for ever
abbrev pub name_asked : Questions → Datum → (Ty → Test) → (FieldTys → Test) → ℕ → ℕ → Test
name_asked q d items parts zero n = More
name_asked q d items parts (suc j) n = both (asked q (name_asked q d items parts j) d items parts (q.definition n)) (q.clause n d)

abbrev pub asked_of : Questions → Datum → (Ty → Test) → (FieldTys → Test) → Ty → Test
asked_of q d items parts = asked q (name_asked q d items parts q.bare) d items parts

abbrev pub no_items_asked : Ty → Test
no_items_asked t = answer false

abbrev pub no_parts_asked : FieldTys → Test
no_parts_asked fields = answer false

-- the record has exactly these fields
abbrev pub same_names : Fields → FieldTys → Bool
same_names no_fields NoFieldTys = true
same_names no_fields (MoreFieldTys o t tys) = false
same_names (field n d fs) NoFieldTys = false
same_names (field n d fs) (MoreFieldTys o t tys) = bytes_eq n o && same_names fs tys

abbrev pub few_enough : Data → Bool
few_enough ds = int_le (pos (length_of ds)) (pos longest)

abbrev mutual
  -- the visits of a type by a datum
  pub tested : Questions → Datum → Ty → Test
  tested q Null = asked_of q Null no_items_asked no_parts_asked
  tested q (Truth b) = asked_of q (Truth b) no_items_asked no_parts_asked
  tested q (Whole z) = asked_of q (Whole z) no_items_asked no_parts_asked
  tested q (Array ds) = asked_of q (Array ds) (λ t. choose (few_enough ds) (items_tested q ds t) (answer false)) no_parts_asked
  tested q (Record fs) = asked_of q (Record fs) no_items_asked (λ tys. choose (same_names fs tys) (parts_tested q fs tys) (answer false))

  pub items_tested : Questions → Data → Ty → Test
  items_tested q no_items t = answer true
  items_tested q (item d ds) t = both (tested q d t) (items_tested q ds t)

  pub parts_tested : Questions → Fields → FieldTys → Test
  parts_tested q no_fields tys = answer true
  parts_tested q (field n d fs) NoFieldTys = answer true
  parts_tested q (field n d fs) (MoreFieldTys o t tys) = both (tested q d t) (parts_tested q fs tys)

-- ---- the clauses of a type

-- a store in which each of these variables is unset
abbrev pub unset : List (List ℕ) → Store
unset [] = []
unset (name ∷ names) = None ∷ unset names

abbrev pub set_if : Store → Option ℕ → Option Datum → Store
set_if s None v = s
set_if s (Some x) v = put s x v

-- each clause in order, up to the first that is false
abbrev pub all_hold : {N : Type 0} → Setting N → Bool → List (Expr N) → Store → Test
all_hold w paid [] s = answer true
all_hold w paid (e ∷ es) s = λ m. eval w paid e s m >>= (λ v. as_truth (w.place (node e)) v (λ b. choose b (all_hold w paid es s) (answer false)))

abbrev pub alias_holds : {N : Type 0} → Setting N → Bool → Alias N → Datum → Test
alias_holds w paid a d = all_hold w paid a.clauses (set_if (unset a.variables) a.variable (Some d))

-- what an `is` test does; a clause of a type may test types whose clauses test types, no deeper than the number says
abbrev pub tests : {N : Type 0} → (N → ℕ) → Option ℕ → List (Alias N) → ℕ → Bool → Ty → Datum → Test
tests place limit types zero paid t d = More
tests place limit types (suc j) paid t d = tested (record {
  paid = paid;
  limit = limit;
  definition = (λ n. (alias_at types n).ty);
  bare = length types;
  clause = (λ n e. alias_holds (record { place = place; limit = limit; test = tests place limit types j; call = no_calls }) paid (alias_at types n) e);
}) d t

-- a fault is a no
abbrev pub forgiven : Outcome Bool → Outcome Bool
forgiven (Done b m) = Done b m
forgiven (Fault kind at m) = Done false m
forgiven (More m) = More m
forgiven Spent = Spent

-- the setting of clauses: no clause of a type tests types deeper than there are types
abbrev pub clause_setting : {N : Type 0} → (N → ℕ) → Option ℕ → List (Alias N) → Setting N
clause_setting place limit types = record { place = place; limit = limit; test = tests place limit types (suc (length types)); call = no_calls }

-- what a contract asks of a value that is given a type; a clause that faults isn't true
abbrev pub member : {N : Type 0} → (N → ℕ) → Option ℕ → List (Alias N) → Ty → Datum → Test
member place limit types t d = tested (record {
  paid = false;
  limit = limit;
  definition = (λ n. (alias_at types n).ty);
  bare = length types;
  clause = (λ n e m. forgiven (alias_holds (clause_setting place limit types) false (alias_at types n) e m));
}) d t
