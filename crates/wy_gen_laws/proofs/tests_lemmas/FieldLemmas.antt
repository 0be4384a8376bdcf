-- The test of a record: its shape, and then its fields one by one.
use Rattle.std.proofs.Common.{◌≡◌, ◌<◌, ℕ, suc, ◌+◌, List, [], ◌∷◌, ◌++◌, length, Bool, true, false, Option, Some, None, Less, refl, sym, ◌∙◌, ap, subst, arith, length-append, nat_cmp}
use Rattle.std.specs.Prelude.{◌≢◌, ◌&&◌, bytes_eq}
use Rattle.std.specs.Ordering.{is_eq}
use Rattle.std.specs.Cmp.Lexicographic.{slice_cmp, nat_list_cmp_total}
use Rattle.std.proofs.lemmas.Map.Text.{is_eq-slice_cmp}
use Rattle.wy_lemmas.proofs.Choices.{and-left as left_so, and-right as right_so}
use Rattle.wy_lemmas.proofs.Lists.{bytes_are}
use Rattle.wy_value.specs.Datum.{Datum, Truth, Record, Fields, no_fields, field}
use Rattle.wy_core.specs.Types.{FieldTys, NoFieldTys, MoreFieldTys}
use Rattle.wy_core.specs.formed.Bound.{GoesBefore, Rise, names_of_tys}
use Rattle.wy_core.specs.formed.Sizes.{size_ty, size_field_tys}
use Rattle.wy_code.specs.declared.instructions.Kind.TheVariants as kind
use Rattle.wy_code.specs.declared.instructions.Instr.TheVariants as instr
use Rattle.wy_code.specs.declared.routines.Routine.{Routine}
use Rattle.wy_code.specs.declared.routines.Code.{Code}
use Rattle.wy_code_spec.specs.declared.tables.context.Context.{Context}
use Rattle.wy_code_spec.specs.tables.Tables.{number_of, shape_number, ty_names_in}
use Rattle.wy_code.specs.pieces.Steps.{dropped, fork}
use Rattle.wy_code_spec.specs.compiled.TypeTests.{test, fields_test, record_test}
use Rattle.wy_code_spec.specs.numbered.Numbered.{AreNumbers, IsShape}
use Rattle.wy_vc_spec.specs.wy_sem.Meter.{Meter, Done, choose}
use Rattle.wy_vc_spec.specs.wy_sem.Operations.{found_field, find}
use Rattle.wy_vc_spec.specs.wy_sem.Expressions.{Store, slot, put}
use Rattle.wy_vc_spec.specs.wy_sem.TypeTests.{answer, Questions, same_names, tested, parts_tested}
use Rattle.wy_code_spec.specs.step.Step.{Caller, Effect, there as where_there, has_names, is_record, kind_answer}
use Rattle.wy_gen_laws.specs.Places.{StandAt, IsRoutine}
use Rattle.wy_gen_laws.specs.Follows.{Follows, at_place, Comes}
use Rattle.wy_gen_laws.proofs.PlaceLemmas.{stand_front, stand_back}
use Rattle.wy_gen_laws.proofs.StoreLemmas.{put_here, put_other, put_size}
use Rattle.wy_gen_laws.proofs.FollowLemmas.{follows_more, follows_at, follows_choose}
use Rattle.wy_gen_laws.proofs.SpareLemmas.{leaves_then}
use Rattle.wy_gen_laws.proofs.InstructionLemmas.{field_does, move_does}
use Rattle.wy_gen_laws.proofs.PieceLemmas.{does_then, stays_last, fork_on, fork_off}
use Rattle.wy_gen_laws.specs.expressions.Standing.{with_table}
use Rattle.wy_gen_laws.specs.expressions.Rests.{Told}
use Rattle.wy_gen_laws.proofs.expressions_lemmas.PartLemmas.{room_at}
use Rattle.wy_gen_laws.proofs.tests_lemmas.StructureLemmas.{Visited, IsTested, kind_then, unkind, told_put}

-- ---- names that rise differ

-- the name goes before each of these
abbrev Before : List ℕ → FieldTys → Type 0
Before n NoFieldTys = Unit {0}
Before n (MoreFieldTys m t rest) = (slice_cmp nat_cmp n m ≡ Less) × Before n rest

before_less : (n m : List ℕ) (rest : FieldTys) → slice_cmp nat_cmp n m ≡ Less → Before m rest → Before n rest
before_less n m NoFieldTys less h = tt
before_less n m (MoreFieldTys o t rest) less h = (nat_list_cmp_total.trans n m o less h.0, before_less n m rest less h.1)

before_all : (n : List ℕ) (tys : FieldTys) → GoesBefore n (names_of_tys tys) → Rise (names_of_tys tys) → Before n tys
before_all n NoFieldTys g rise = tt
before_all n (MoreFieldTys m t rest) g rise = (g, before_less n m rest g (before_all m rest rise.0 rise.1))

differ : (n m : List ℕ) → slice_cmp nat_cmp n m ≡ Less → bytes_eq n m ≡ false
differ n m h = sym (is_eq-slice_cmp n m) ∙ ap is_eq h

-- ---- what is found by its name

-- the first field with each of these names has the datum that stands there
abbrev pub Finds : Fields → Fields → FieldTys → Type 0
Finds all no_fields tys = Unit {0}
Finds all (field n d fs) NoFieldTys = Unit {0}
Finds all (field n d fs) (MoreFieldTys o t tys) = (find all o ≡ Some d) × Finds all fs tys

finds_under : (n o : List ℕ) (d : Datum) (all rest : Fields) (tys : FieldTys) → n ≡ o → Before o tys → Finds all rest tys → Finds (field n d all) rest tys
finds_under n o d all no_fields tys e b h = tt
finds_under n o d all (field m u fs) NoFieldTys e b h = tt
finds_under n o d all (field m u fs) (MoreFieldTys k t tys) e b h =
    (ap (λ (x : Bool). found_field x d (find all k)) (ap (λ (x : List ℕ). bytes_eq x k) e ∙ differ o k b.0) ∙ h.0, finds_under n o d all fs tys e b.1 h.1)

pub finds_all : (fs : Fields) (tys : FieldTys) → same_names fs tys ≡ true → Rise (names_of_tys tys) → Finds fs fs tys
finds_all no_fields tys h rise = tt
finds_all (field n d fs) NoFieldTys h rise = tt
finds_all (field n d fs) (MoreFieldTys o t tys) h rise =
    let here = left_so (bytes_eq n o) (same_names fs tys) h in
    (ap (λ (x : Bool). found_field x d (find fs o)) here, finds_under n o d fs fs tys (bytes_are n o here) (before_all o tys rise.0 rise.1) (finds_all fs tys (right_so (bytes_eq n o) (same_names fs tys) h) rise.1))

-- the shape of a record is the names of the type
same_shape : (fs : Fields) (tys : FieldTys) → has_names fs (ty_names_in tys) ≡ same_names fs tys
same_shape no_fields NoFieldTys = refl
same_shape no_fields (MoreFieldTys o t tys) = refl
same_shape (field n d fs) NoFieldTys = refl
same_shape (field n d fs) (MoreFieldTys o t tys) = ap (λ (x : Bool). bytes_eq n o && x) (same_shape fs tys)

module _ (c : Context) (routines : List Routine) (wide : ℕ) (qs : Questions) where
  abbrev mach : Code
  mach = with_table c routines

  -- each datum is tested as its type says
  abbrev pub FieldsTested : Fields → FieldTys → Type 0
  FieldsTested no_fields tys = Unit {0}
  FieldsTested (field n d fs) NoFieldTys = Unit {0}
  FieldsTested (field n d fs) (MoreFieldTys o t tys) = IsTested c routines wide (tested qs d t) t d × FieldsTested fs tys

  module _ (all : Fields) (f : ℕ) (r : Routine) (there : IsRoutine (with_table c routines) f r) (v q g : ℕ) (first : Store) (callers : List Caller)
      (held : slot first v ≡ Some (Record all)) (va : v < g) (qa : q < g) (other : v ≢ q) (whole : length first ≡ r.registers) where
    -- the datum of a field is released
    released : (b : Bool) (d : Datum) (regs last : Store) → Told q g first true regs → slot last g ≡ Some d → Told q (suc g) (put regs g (Some d)) b last → Told q g first b (put (put (put last g None) (suc g) (Some d)) (suc g) None)
    released b d regs last told here two =
        let a = put (put last g None) (suc g) (Some d) in
        record {
          value = put_other a (suc g) q None (λ e. absurd (omega (arith, e, qa))) ∙ put_other (put last g None) (suc g) q (Some d) (λ e. absurd (omega (arith, e, qa))) ∙ put_other last g q None (λ e. absurd (omega (arith, e, qa))) ∙ two.value;
          kept = λ z l o. put_other a (suc g) z None (λ e. absurd (omega (arith, e, l))) ∙ put_other (put last g None) (suc g) z (Some d) (λ e. absurd (omega (arith, e, l))) ∙ put_other last g z None (λ e. absurd (omega (arith, e, l)))
              ∙ two.kept z (omega (arith, l)) o ∙ put_other regs g z (Some d) (λ e. absurd (omega (arith, e, l))) ∙ told.kept z l o;
          size = put_size a (suc g) None ∙ put_size (put last g None) (suc g) (Some d) ∙ put_size last g None ∙ two.size ∙ put_size regs g (Some d) ∙ told.size;
        }

    told_as : (regs : Store) (b e : Bool) → b ≡ e → Told q g first b regs → Told q g first e regs
    told_as regs b e is told = subst (λ (t : Bool). Told q g first t regs) is told

    pub fields_follow : (rest : Fields) (tys : FieldTys) → same_names rest tys ≡ true → Finds all rest tys → FieldsTested rest tys → AreNumbers c.table (ty_names_in tys) → (p : ℕ) (regs : Store) (m : Meter) → Told q g first true regs → StandAt r.body p (fields_test c tys v q g)
        → Follows mach wide (size_field_tys tys) 1 m (at_place f p regs callers m.output) (parts_tested qs rest tys m) (Comes f (p + length (fields_test c tys v q g)) callers (Told q g first))
    fields_follow no_fields NoFieldTys same found oks numbers p regs m told stands =
        follows_more mach wide 0 0 0 1 m (at_place f p regs callers m.output) (Done true m) (Comes f (p + 0) callers (Told q g first)) (omega arith) (omega arith)
        (follows_at mach wide 0 0 m (at_place f p regs callers m.output) (Done true m) f p (p + 0) callers (Told q g first) (omega arith) (stays_last mach f r there wide p regs callers m true (Told q g first) told))
    fields_follow no_fields (MoreFieldTys o t tys) same found oks numbers p regs m told stands = absurd (let e : false ≡ true = same in cc)
    fields_follow (field n d fs) NoFieldTys same found oks numbers p regs m told stands = absurd (let e : false ≡ true = same in cc)
    fields_follow (field n d fs) (MoreFieldTys o t tys) same found oks numbers p regs m told stands =
        let k = number_of o c.table.names in
        let xs = test c t g q (suc g) in
        let rest = fields_test c tys v q g in
        let zs = fork q rest [] in
        let ys = dropped g (suc g) ++ zs in
        let l1 : length (xs ++ ys) ≡ length xs + suc (suc (length zs)) = length-append xs ys in
        let to = p + length (fields_test c (MoreFieldTys o t tys) v q g) in
        let R = Told q g first in
        let Q = Comes f to callers R in
        let regs1 = put regs g (Some d) in
        let next = right_so (bytes_eq n o) (same_names fs tys) same in
        let room : g < r.registers = room_at mach f r there p g (instr.Field g v k) (v ∷ []) stands.0 refl in
        let long : length regs1 ≡ r.registers = put_size regs g (Some d) ∙ told.size ∙ whole in
        let here : slot regs1 g ≡ Some d = put_here regs g (Some d) (let s = told.size in omega (arith, room, s, whole)) in
        let behind : StandAt r.body (p + 1 + length xs) ys = stand_back r.body (p + 1) xs ys stands.1 in
        does_then mach f r there wide (size_ty t + size_field_tys tys) 0 p (instr.Field g v k) regs regs1 callers m (parts_tested qs (field n d fs) (MoreFieldTys o t tys) m) to R stands.0 (field_does mach.shapes regs g v k all o d (told.kept v va other ∙ held) numbers.0 found.0)
        (leaves_then mach wide (size_ty t) 9 (size_field_tys tys) 9 (size_ty t + size_field_tys tys) 0 m (at_place f (p + 1) regs1 callers m.output) (tested qs d t m) (λ b. choose b (parts_tested qs fs tys) (answer false)) f (p + 1 + length xs) callers (Told q (suc g) regs1) Q (omega arith) (omega arith)
        (oks.0 f r there g q (suc g) (p + 1) regs1 callers m here (omega arith) (omega (arith, qa)) (λ e. absurd (omega (arith, e, qa))) long (stand_front r.body (p + 1) xs ys stands.1))
        (λ b j last le two.
        let e = p + 1 + length xs in
        let there_it : slot last g ≡ Some d = two.kept g (omega arith) (λ z. absurd (omega (arith, z, qa))) ∙ here in
        let regs3 = put (put last g None) (suc g) (Some d) in
        let regs4 = put regs3 (suc g) None in
        let so = released b d regs last told there_it two in
        let out = choose b (parts_tested qs fs tys) (answer false) j in
        does_then mach f r there wide (size_field_tys tys) 8 e (instr.Move (suc g) g) last regs3 callers j out to R behind.0 (move_does mach.shapes last (suc g) g d there_it)
        (does_then mach f r there wide (size_field_tys tys) 7 (e + 1) (instr.Clear (suc g ∷ [])) regs3 regs4 callers j out to R behind.1.0 refl
        (follows_at mach wide (size_field_tys tys) 7 j (at_place f (e + 1 + 1) regs4 callers j.output) out f (e + 1 + 1 + length zs) to callers R (omega (arith, l1))
        (follows_choose mach wide (size_field_tys tys) 7 j (at_place f (e + 1 + 1) regs4 callers j.output) b (parts_tested qs fs tys) (answer false) (Comes f (e + 1 + 1 + length zs) callers R)
        (λ yes. let good = told_as regs4 b true yes so in
        follows_more mach wide (size_field_tys tys) 3 (size_field_tys tys) 7 j (at_place f (e + 1 + 1) regs4 callers j.output) (parts_tested qs fs tys j) (Comes f (e + 1 + 1 + length zs) callers R) (omega arith) (omega arith)
        (fork_on mach f r there wide (size_field_tys tys) 1 (e + 1 + 1) q rest [] regs4 callers j (parts_tested qs fs tys j) R behind.1.1 good.value (λ z h. fields_follow fs tys next found.1 oks.1 numbers.1 z regs4 j good h)))
        (λ no. let bad = told_as regs4 b false no so in
        follows_more mach wide 0 2 (size_field_tys tys) 7 j (at_place f (e + 1 + 1) regs4 callers j.output) (Done false j) (Comes f (e + 1 + 1 + length zs) callers R) (omega arith) (omega arith)
        (fork_off mach f r there wide 0 0 (e + 1 + 1) q rest [] regs4 callers j (Done false j) R behind.1.1 bad.value
        (λ z h. follows_at mach wide 0 0 j (at_place f z regs4 callers j.output) (Done false j) f z (z + 0) callers R (omega arith) (stays_last mach f r there wide z regs4 callers j false R bad)))))))))

  -- the kind of a shape
  pub shape_kind : (tys : FieldTys) (d : Datum) (b : Bool) → IsShape c.table (ty_names_in tys) → is_record (ty_names_in tys) d ≡ b → (next : Bool → Effect) → kind_answer c.table (kind.Shape (shape_number c.table (ty_names_in tys))) d next ≡ next b
  shape_kind tys d b shaped is next = ap (λ (o : Option (List (List ℕ))). where_there o (λ names. next (is_record names d))) shaped.1 ∙ ap next is

  pub record_visited : (all : Fields) (tys : FieldTys) → IsShape c.table (ty_names_in tys) → Rise (names_of_tys tys) → (same_names all tys ≡ true → FieldsTested all tys)
      → Visited c routines wide (size_field_tys tys) (λ v q g. record_test (shape_number c.table (ty_names_in tys)) v q (fields_test c tys v q g)) (choose (same_names all tys) (parts_tested qs all tys) (answer false)) (Record all)
  record_visited all tys shaped rise oks f r there v q g at regs callers m held va qa other whole stands = by (same_names all tys) refl
    where
      by : (b : Bool) → same_names all tys ≡ b → Follows mach wide (size_field_tys tys) 7 m (at_place f at regs callers m.output) (choose b (parts_tested qs all tys) (answer false) m) (Comes f (at + suc (length (fork q (fields_test c tys v q g) []))) callers (Told q g regs))
      by true e =
          let k = kind.Shape (shape_number c.table (ty_names_in tys)) in
          let regs1 = put regs q (Some (Truth true)) in
          let o = parts_tested qs all tys m in
          let far = at + 1 + length (fork q (fields_test c tys v q g) []) in
          let told : Told q g regs true regs1 = told_put q g regs true (let l = room_at mach f r there at q (instr.Kind q v k) (v ∷ []) stands.0 refl in omega (arith, l, whole)) in
          follows_more mach wide (size_field_tys tys) 4 (size_field_tys tys) 7 m (at_place f at regs callers m.output) o (Comes f (at + suc (length (fork q (fields_test c tys v q g) []))) callers (Told q g regs)) (omega arith) (omega arith)
          (follows_at mach wide (size_field_tys tys) 4 m (at_place f at regs callers m.output) o f far (at + suc (length (fork q (fields_test c tys v q g) []))) callers (Told q g regs) (omega arith)
          (kind_then c routines wide f r there (size_field_tys tys) 3 v q at regs callers m k (Record all) o far (Told q g regs) held (shape_kind tys (Record all) true shaped (same_shape all tys ∙ e)) stands.0
          (fork_on mach f r there wide (size_field_tys tys) 1 (at + 1) q (fields_test c tys v q g) [] regs1 callers m o (Told q g regs) stands.1 told.value
          (λ z h. fields_follow all f r there v q g regs callers held va qa other whole all tys e (finds_all all tys e rise) (oks e) shaped.0 z regs1 m told h))))
      by false e =
          follows_more mach wide 0 3 (size_field_tys tys) 7 m (at_place f at regs callers m.output) (Done false m) (Comes f (at + suc (length (fork q (fields_test c tys v q g) []))) callers (Told q g regs)) (omega arith) (omega arith)
          (unkind c routines wide f r there v q g at regs callers m (kind.Shape (shape_number c.table (ty_names_in tys))) (Record all) (fields_test c tys v q g) held whole (shape_kind tys (Record all) false shaped (same_shape all tys ∙ e)) stands)
