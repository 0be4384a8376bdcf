-- The test of a type by its datum and by the names in it, where the clauses of each name are followed.
use Rattle.std.proofs.Common.{◌≡◌, ◌<◌, ◌≤◌, ℕ, zero, suc, ◌+◌, List, true, false, inl, inr, length, Option, refl, ap, arith}
use Rattle.std.specs.Prelude.{max, pos, [], ◌∷◌}
use Rattle.wy_core.proofs.formed_lemmas.SharedLemmas.{bare_is_named}
use Rattle.wy_value.specs.Datum.{Datum, Null, Truth, Whole, Array, Record, Data, no_items, item, Fields, no_fields, field}
use Rattle.wy_core.specs.Types.{Ty, NullTy, BoolTy, IntTy, AnyTy, VoidTy, RecordTy, ArrayTy, UnionTy, InterTy, NotTy, NamedTy, NormalTy, FieldTys, NoFieldTys, MoreFieldTys}
use Rattle.wy_core.specs.CoreTree.{Alias}
use Rattle.wy_core.specs.formed.Bound.{BoundTy, BoundFieldTys}
use Rattle.wy_core.specs.formed.Recursion.{NamesIn, NamesInFields}
use Rattle.wy_core.specs.formed.Sizes.{size_ty, size_field_tys}
use Rattle.wy_code.specs.declared.instructions.Kind.TheVariants as kind
use Rattle.wy_code.specs.declared.instructions.Instr.TheVariants as instr
use Rattle.wy_code.specs.declared.instructions.Scalar.TheVariants as scalar
use Rattle.wy_code.specs.declared.routines.Routine.{Routine}
use Rattle.wy_code_spec.specs.declared.tables.context.Context.{Context}
use Rattle.wy_code_spec.specs.tables.Tables.{shape_number, ty_names_in}
use Rattle.wy_code.specs.declared.pieces.steps.Step.{Step}
use Rattle.wy_code.specs.declared.pieces.steps.Step.TheVariants.{Does}
use Rattle.wy_code.specs.pieces.Steps.{fork}
use Rattle.wy_code_spec.specs.compiled.TypeTests.{test, fields_test, record_test, array_test, items_test, named_test}
use Rattle.wy_code_spec.specs.compiled.Programs.{type_routine, variable_of}
use Rattle.wy_code_spec.specs.numbered.Numbered.{NumberedTy, NumberedFieldTys}
use Rattle.wy_vc_spec.specs.wy_sem.kept.Kept.{IsProper, AllProper, FieldsProper}
use Rattle.wy_vc_spec.specs.wy_sem.Meter.{Done, choose}
use Rattle.wy_vc_spec.specs.wy_sem.TypeTests.{Test, answer, both, either, opposite, Questions, asked, name_asked, asked_of, no_items_asked, no_parts_asked, is_null, is_truth, is_whole, few_enough, same_names, tested, items_tested, parts_tested}
use Rattle.wy_code_spec.specs.step.Step.{is_array, is_record}
use Rattle.wy_gen_laws.specs.Places.{IsRoutine}
use Rattle.wy_gen_laws.specs.Follows.{at_place, Comes}
use Rattle.wy_gen_laws.proofs.FollowLemmas.{follows_more}
use Rattle.wy_gen_laws.specs.expressions.Standing.{with_table}
use Rattle.wy_gen_laws.specs.expressions.Rests.{Told}
use Rattle.wy_gen_laws.proofs.tests_lemmas.StructureLemmas.{Visited, IsTested, visited, null_visited, truth_visited, whole_visited, any_visited, none_visited, either_visited, both_visited, opposite_visited, unkind}
use Rattle.wy_gen_laws.proofs.tests_lemmas.ItemLemmas.{AllTested, array_visited}
use Rattle.wy_gen_laws.proofs.tests_lemmas.FieldLemmas.{FieldsTested, shape_kind, record_visited}
use Rattle.wy_gen_laws.proofs.tests_lemmas.NameLemmas.{ClausesFollow, named_called}

-- a test in code
abbrev pub questions : Option ℕ → (ℕ → Ty) → ℕ → (ℕ → Datum → Test) → Questions
questions limit definition bare clause = record { paid = true; limit = limit; definition = definition; bare = bare; clause = clause }

-- each name has this property, and so have those of its definition; it has a rank below the bound, which falls along names outside of records and arrays; its routine is that of the declared type, whose definition is within the limits, and whose clauses are followed
pub record AllFollow (c : Context) (routines : List Routine) (wide types : ℕ) (P : ℕ → Type 0) (alias : ℕ → Alias ℕ) (bare : ℕ) (clause : ℕ → Datum → Test) : Type 0 where
  pub rank : ℕ → ℕ
  pub within : (n : ℕ) → P n → rank n < bare
  pub named : (n : ℕ) → P n → (k : ℕ) → NamesIn true (alias n).ty k → P k
  pub falls : (n : ℕ) → P n → (k : ℕ) → NamesIn false (alias n).ty k → rank k < rank n
  pub bound : (n : ℕ) → P n → BoundTy types (alias n).ty
  pub numbered : (n : ℕ) → P n → NumberedTy c.table (alias n).ty
  pub routine : (n : ℕ) → P n → IsRoutine (with_table c routines) (length c.results + n) (type_routine c (alias n))
  pub variable : (n : ℕ) → P n → variable_of (alias n).variable < max 1 (length (alias n).variables)
  pub nodes : ℕ → ℕ
  pub small : (n : ℕ) → P n → size_ty (alias n).ty + nodes n ≤ wide
  pub clauses : (n : ℕ) → (p : P n) → (d : Datum) → IsProper d → ClausesFollow c routines wide n (alias n) (routine n p) d (nodes n) (clause n d)

module _ (c : Context) (routines : List Routine) (wide types : ℕ) (limit : Option ℕ) (P : ℕ → Type 0) (alias : ℕ → Alias ℕ) (bare : ℕ) (clause : ℕ → Datum → Test) (all : AllFollow c routines wide types P alias bare clause) where
  abbrev qs : Questions
  qs = questions limit (λ n. (alias n).ty) bare clause

  -- what is asked of items, and of fields
  abbrev ItemsFollow : Datum → (Ty → Test) → Type 0
  ItemsFollow d items = (t : Ty) → BoundTy types t → NumberedTy c.table t → ((k : ℕ) → NamesIn true t k → P k) → size_ty t ≤ wide
      → Visited c routines wide 0 (λ v q g. array_test v q g (items_test v q g (test c t (suc (suc g)) q (suc (suc (suc g)))))) (items t) d

  abbrev PartsFollow : Datum → (FieldTys → Test) → Type 0
  PartsFollow d parts = (tys : FieldTys) → BoundTy types (RecordTy tys) → NumberedTy c.table (RecordTy tys) → ((k : ℕ) → NamesInFields tys k → P k) → size_field_tys tys ≤ wide
      → Visited c routines wide (size_field_tys tys) (λ v q g. record_test (shape_number c.table (ty_names_in tys)) v q (fields_test c tys v q g)) (parts tys) d

  asked_follows : (Q : ℕ → Type 0) (named : ℕ → Test) (d : Datum) → IsProper d → (items : Ty → Test) (parts : FieldTys → Test) → ((n : ℕ) → P n → Q n → Visited c routines wide 0 (λ v q g. named_test c n v q g) (named n) d) → ItemsFollow d items → PartsFollow d parts
      → (t : Ty) → BoundTy types t → NumberedTy c.table t → ((k : ℕ) → NamesIn true t k → P k) → ((k : ℕ) → NamesIn false t k → Q k) → size_ty t ≤ wide → IsTested c routines wide (asked qs named d items parts t) t d
  asked_follows Q named d proper items parts hn hi hp NullTy b nu h g le = visited c routines wide NullTy 0 limit (answer (is_null d)) d (omega arith) (null_visited c routines wide d)
  asked_follows Q named d proper items parts hn hi hp BoolTy b nu h g le = visited c routines wide BoolTy 0 limit (answer (is_truth d)) d (omega arith) (truth_visited c routines wide d)
  asked_follows Q named d proper items parts hn hi hp IntTy b nu h g le = visited c routines wide IntTy 0 limit (answer (is_whole d)) d (omega arith) (whole_visited c routines wide d proper)
  asked_follows Q named d proper items parts hn hi hp AnyTy b nu h g le = visited c routines wide AnyTy 0 limit (answer true) d (omega arith) (any_visited c routines wide d)
  asked_follows Q named d proper items parts hn hi hp VoidTy b nu h g le = visited c routines wide VoidTy 0 limit (answer false) d (omega arith) (none_visited c routines wide d)
  asked_follows Q named d proper items parts hn hi hp (RecordTy tys) b nu h g le = visited c routines wide (RecordTy tys) (size_field_tys tys) limit (parts tys) d (omega arith) (hp tys b nu h (omega (arith, le)))
  asked_follows Q named d proper items parts hn hi hp (ArrayTy t) b nu h g le = visited c routines wide (ArrayTy t) 0 limit (items t) d (omega arith) (hi t b nu h (omega (arith, le)))
  asked_follows Q named d proper items parts hn hi hp (UnionTy s t) b nu h g le =
      visited c routines wide (UnionTy s t) (size_ty s + size_ty t) limit (either (asked qs named d items parts s) (asked qs named d items parts t)) d (omega arith)
      (either_visited c routines wide s t (asked qs named d items parts s) (asked qs named d items parts t) d
      (asked_follows Q named d proper items parts hn hi hp s b.0 nu.0 (λ k i. h k (inl i)) (λ k i. g k (inl i)) (omega (arith, le)))
      (asked_follows Q named d proper items parts hn hi hp t b.1 nu.1 (λ k i. h k (inr i)) (λ k i. g k (inr i)) (omega (arith, le))))
  asked_follows Q named d proper items parts hn hi hp (InterTy s t) b nu h g le =
      visited c routines wide (InterTy s t) (size_ty s + size_ty t) limit (both (asked qs named d items parts s) (asked qs named d items parts t)) d (omega arith)
      (both_visited c routines wide s t (asked qs named d items parts s) (asked qs named d items parts t) d
      (asked_follows Q named d proper items parts hn hi hp s b.0 nu.0 (λ k i. h k (inl i)) (λ k i. g k (inl i)) (omega (arith, le)))
      (asked_follows Q named d proper items parts hn hi hp t b.1 nu.1 (λ k i. h k (inr i)) (λ k i. g k (inr i)) (omega (arith, le))))
  asked_follows Q named d proper items parts hn hi hp (NotTy t) b nu h g le =
      visited c routines wide (NotTy t) (size_ty t) limit (opposite (asked qs named d items parts t)) d (omega arith)
      (opposite_visited c routines wide t (asked qs named d items parts t) d (asked_follows Q named d proper items parts hn hi hp t b nu h g (omega (arith, le))))
  asked_follows Q named d proper items parts hn hi hp (NamedTy n) b nu h g le = visited c routines wide (NamedTy n) 0 limit (named n) d (omega arith) (hn n (h n refl) (g n refl))
  asked_follows Q named d proper items parts hn hi hp (NormalTy union) b nu h g le = absurd b

  -- a name: its definition, in which names outside of records and arrays fall, and its clauses
  name_follows : (d : Datum) → IsProper d → (items : Ty → Test) (parts : FieldTys → Test) → ItemsFollow d items → PartsFollow d parts → (j n : ℕ) → P n → all.rank n < j → Visited c routines wide 0 (λ v q g. named_test c n v q g) (name_asked qs d items parts j n) d
  name_follows d proper items parts hi hp zero n p less = absurd (omega (arith, less))
  name_follows d proper items parts hi hp (suc j) n p less = λ f r there v q g at regs callers m held va qa other whole stands.
      let definition = asked_follows (λ k. all.rank k < j) (name_asked qs d items parts j) d proper items parts (λ k i l. name_follows d proper items parts hi hp j k i l) hi hp (alias n).ty (all.bound n p) (all.numbered n p) (all.named n p) (λ k i. let l = all.falls n p k i in omega (arith, l, less)) (let s = all.small n p in omega (arith, s)) in
      named_called c routines wide n (alias n) (all.routine n p) d (all.variable n p) (asked qs (name_asked qs d items parts j) d items parts (alias n).ty) (clause n d) (all.nodes n) (all.small n p) definition (all.clauses n p d proper) f r there v q g at regs callers held va qa other whole stands m

  here_follows : (d : Datum) → IsProper d → (items : Ty → Test) (parts : FieldTys → Test) → ItemsFollow d items → PartsFollow d parts → (t : Ty) → BoundTy types t → NumberedTy c.table t → ((k : ℕ) → NamesIn true t k → P k) → size_ty t ≤ wide → IsTested c routines wide (asked_of qs d items parts t) t d
  here_follows d proper items parts hi hp t b nu h le =
      asked_follows (λ k. all.rank k < bare) (name_asked qs d items parts bare) d proper items parts (λ k i l. name_follows d proper items parts hi hp bare k i l) hi hp t b nu h (λ k i. all.within k (h k (bare_is_named t k i))) le

  -- ---- data that are no arrays, and no records

  no_item : (d : Datum) → is_array d ≡ false → ItemsFollow d no_items_asked
  no_item d isnt t b nu h le f r there v q g at regs callers m held va qa other whole stands =
      let parts : List Step = Does (instr.Len g v) ∷ Does (instr.Const (suc g) (scalar.Int (pos 0))) ∷ items_test v q g (test c t (suc (suc g)) q (suc (suc (suc g)))) in
      let to = at + suc (length (fork q parts [])) in
      follows_more (with_table c routines) wide 0 3 0 7 m (at_place f at regs callers m.output) (Done false m) (Comes f to callers (Told q g regs)) (omega arith) (omega arith)
      (unkind c routines wide f r there v q g at regs callers m kind.Array d parts held whole (λ next. ap next isnt) stands)

  no_part : (d : Datum) → ((names : List (List ℕ)) → is_record names d ≡ false) → PartsFollow d no_parts_asked
  no_part d isnt tys b nu h le f r there v q g at regs callers m held va qa other whole stands =
      let parts = fields_test c tys v q g in
      let to = at + suc (length (fork q parts [])) in
      follows_more (with_table c routines) wide 0 3 (size_field_tys tys) 7 m (at_place f at regs callers m.output) (Done false m) (Comes f to callers (Told q g regs)) (omega arith) (omega arith)
      (unkind c routines wide f r there v q g at regs callers m (kind.Shape (shape_number c.table (ty_names_in tys))) d parts held whole (shape_kind c routines wide qs tys d false nu.0 (isnt (ty_names_in tys))) stands)

  -- ---- all data

  mutual
    pub tested_follows : (d : Datum) → IsProper d → (t : Ty) → BoundTy types t → NumberedTy c.table t → ((k : ℕ) → NamesIn true t k → P k) → size_ty t ≤ wide → IsTested c routines wide (tested (questions limit (λ n. (alias n).ty) bare clause) d t) t d
    tested_follows Null p t b nu h le = here_follows Null p no_items_asked no_parts_asked (no_item Null refl) (no_part Null (λ names. refl)) t b nu h le
    tested_follows (Truth x) p t b nu h le = here_follows (Truth x) p no_items_asked no_parts_asked (no_item (Truth x) refl) (no_part (Truth x) (λ names. refl)) t b nu h le
    tested_follows (Whole z) p t b nu h le = here_follows (Whole z) p no_items_asked no_parts_asked (no_item (Whole z) refl) (no_part (Whole z) (λ names. refl)) t b nu h le
    tested_follows (Array ds) p t b nu h le =
        here_follows (Array ds) p (λ u. choose (few_enough ds) (items_tested qs ds u) (answer false)) no_parts_asked
        (λ u ub un uh ul. array_visited c routines wide u ul qs ds p.0 (items_tested_follow ds p.1 u ub un uh ul)) (no_part (Array ds) (λ names. refl)) t b nu h le
    tested_follows (Record fs) p t b nu h le =
        here_follows (Record fs) p no_items_asked (λ us. choose (same_names fs us) (parts_tested qs fs us) (answer false)) (no_item (Record fs) refl)
        (λ us ub un uh ul. record_visited c routines wide qs fs us un.0 ub.0 (λ same. parts_tested_follow fs p us ub.1 un.1 uh ul)) t b nu h le

    items_tested_follow : (ds : Data) → AllProper ds → (t : Ty) → BoundTy types t → NumberedTy c.table t → ((k : ℕ) → NamesIn true t k → P k) → (le : size_ty t ≤ wide) → AllTested c routines wide t le (questions limit (λ n. (alias n).ty) bare clause) ds
    items_tested_follow no_items p t b nu h le = tt
    items_tested_follow (item d ds) p t b nu h le = (tested_follows d p.0 t b nu h le, items_tested_follow ds p.1 t b nu h le)

    parts_tested_follow : (fs : Fields) → FieldsProper fs → (us : FieldTys) → BoundFieldTys types us → NumberedFieldTys c.table us → ((k : ℕ) → NamesInFields us k → P k) → size_field_tys us ≤ wide → FieldsTested c routines wide (questions limit (λ n. (alias n).ty) bare clause) fs us
    parts_tested_follow no_fields p us b nu h le = tt
    parts_tested_follow (field n d fs) p NoFieldTys b nu h le = tt
    parts_tested_follow (field n d fs) p (MoreFieldTys o t us) b nu h le = (tested_follows d p.0 t b.0 nu.0 (λ k i. h k (inl i)) (omega (arith, le)), parts_tested_follow fs p.1 us b.1 nu.1 (λ k i. h k (inr i)) (omega (arith, le)))
