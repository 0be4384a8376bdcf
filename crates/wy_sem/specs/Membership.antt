-- Which values are in a type. A name stands for its definition; a type with clauses also needs that each of them evaluates to true.
use Rattle.std.specs.Prelude.{◌≡◌, ℕ, zero, suc, List, [], length, Bool, true, false, not, ◌&&◌, ◌||◌, None}
use Rattle.wy_term.specs.wy_value.Datum.{Datum, Null, Truth, Whole, Array, Record, Data, no_items, item, Fields, no_fields, field}
use Rattle.wy_types.specs.wy_core.Types.{Ty, NullTy, BoolTy, IntTy, AnyTy, VoidTy, RecordTy, ArrayTy, UnionTy, InterTy, NotTy, NamedTy, NormalTy, FieldTys, NoFieldTys, MoreFieldTys}
use Rattle.wy_types.specs.wy_core.CoreTree.{Alias}
use Rattle.wy_sem.specs.Meter.{Meter, Outcome, Done, Fault, More, Spent}
use Rattle.wy_sem.specs.TypeTests.{is_null, is_truth, is_whole, same_names, few_enough, alias_at, alias_holds, clause_setting, member}

-- what names mean: their definitions, how many bare names may follow on one another, and which data their clauses hold of
pub record Meaning : Type 0 where
  pub definition : ℕ → Ty
  pub bare : ℕ
  pub clause : ℕ → Datum → Bool

-- a datum is in a type, where it is known which types its items, its fields and a name are in
abbrev pub belongs : (ℕ → Bool) → Datum → (Ty → Bool) → (FieldTys → Bool) → Ty → Bool
belongs named d items parts NullTy = is_null d
belongs named d items parts BoolTy = is_truth d
belongs named d items parts IntTy = is_whole d
belongs named d items parts AnyTy = true
belongs named d items parts VoidTy = false
belongs named d items parts (RecordTy fields) = parts fields
belongs named d items parts (ArrayTy t) = items t
belongs named d items parts (UnionTy s t) = belongs named d items parts s || belongs named d items parts t
belongs named d items parts (InterTy s t) = belongs named d items parts s && belongs named d items parts t
belongs named d items parts (NotTy t) = not (belongs named d items parts t)
belongs named d items parts (NamedTy n) = named n
belongs named d items parts (NormalTy union) = false

-- the datum is in the name's definition, and its clauses hold of it
abbrev pub name_belongs : Meaning → Datum → (Ty → Bool) → (FieldTys → Bool) → ℕ → ℕ → Bool
name_belongs q d items parts zero n = false
name_belongs q d items parts (suc j) n = belongs (name_belongs q d items parts j) d items parts (q.definition n) && q.clause n d

abbrev pub belongs_of : Meaning → Datum → (Ty → Bool) → (FieldTys → Bool) → Ty → Bool
belongs_of q d items parts = belongs (name_belongs q d items parts q.bare) d items parts

abbrev pub no_item_is : Ty → Bool
no_item_is t = false

abbrev pub no_part_is : FieldTys → Bool
no_part_is fields = false

abbrev mutual
  -- the datum is in the type
  pub is_in : Meaning → Datum → Ty → Bool
  is_in q Null = belongs_of q Null no_item_is no_part_is
  is_in q (Truth b) = belongs_of q (Truth b) no_item_is no_part_is
  is_in q (Whole z) = belongs_of q (Whole z) no_item_is no_part_is
  is_in q (Array ds) = belongs_of q (Array ds) (λ t. few_enough ds && items_in q ds t) no_part_is
  is_in q (Record fs) = belongs_of q (Record fs) no_item_is (λ tys. same_names fs tys && parts_in q fs tys)

  -- each item is in the type
  pub items_in : Meaning → Data → Ty → Bool
  items_in q no_items t = true
  items_in q (item d ds) t = is_in q d t && items_in q ds t

  -- each field is in its type
  pub parts_in : Meaning → Fields → FieldTys → Bool
  parts_in q no_fields tys = true
  parts_in q (field n d fs) NoFieldTys = true
  parts_in q (field n d fs) (MoreFieldTys o t tys) = is_in q d t && parts_in q fs tys

-- the answer is yes; a fault isn't
abbrev pub is_yes : Outcome Bool → Bool
is_yes (Done b m) = b
is_yes (Fault kind at m) = false
is_yes (More m) = false
is_yes Spent = false

-- the clauses of this type evaluate to true of the datum
abbrev pub clauses_true : {N : Type 0} → (N → ℕ) → List (Alias N) → ℕ → Datum → Bool
clauses_true place types n d = is_yes (alias_holds (clause_setting place None types) false (alias_at types n) d (record { ticks = 0; turns = 0; output = [] }))

abbrev pub meaning_of : {N : Type 0} → (N → ℕ) → List (Alias N) → Meaning
meaning_of place types = record { definition = (λ n. (alias_at types n).ty); bare = length types; clause = clauses_true place types }

-- the value is in the type, in a program with these declared types
abbrev pub is_member : {N : Type 0} → (N → ℕ) → List (Alias N) → Datum → Ty → Bool
is_member place types d t = is_in (meaning_of place types) d t

-- where what a contract asks of a value has an answer, it is membership, whatever was spent before
abbrev pub AnswersAsMembership : {N : Type 0} → (N → ℕ) → List (Alias N) → Type 0
AnswersAsMembership place types = (t : Ty) (d : Datum) (m : Meter) (x : Bool) (k : Meter) → member place None types t d m ≡ Done x k → x ≡ is_member place types d t
