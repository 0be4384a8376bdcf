-- Membership by evaluation is what types say.
use Rattle.std.proofs.Common.{◌≡◌, refl, sym, ◌∙◌, ap, ℕ, zero, suc, ◌+◌, ◌<◌, ◌≤◌, ◌⊎◌, inl, inr, List, [], ◌∷◌, Bool, true, false, length, arith, slice_get, subst}
use Rattle.std.specs.Prelude.{Option, Some, None, not, ◌&&◌, ◌||◌}
use Rattle.std.proofs.lemmas.Bool.{cases_lt}
use Rattle.wy_lemmas.proofs.Choices.{false_true as no_way}
use Rattle.wy_lemmas.proofs.Equations.{both_same}
use Rattle.wy_sem.proofs.SharedLemmas.{alias_past}
use Rattle.wy_value.specs.Datum.{Datum, Null, Truth, Whole, Array, Record, Data, no_items, item, Fields, no_fields, field}
use Rattle.wy_core.specs.Types.{Ty, NullTy, BoolTy, IntTy, AnyTy, VoidTy, RecordTy, ArrayTy, UnionTy, InterTy, NotTy, NamedTy, NormalTy, FieldTys, NoFieldTys, MoreFieldTys}
use Rattle.wy_core.specs.CoreTree.{Alias, Decl, AliasDecl, RoutineDecl, Core, aliases_of}
use Rattle.wy_types.specs.Names.{Declared, names_in}
use Rattle.wy_types.specs.Recursion.{IsDeclaredBelow, HasBareBelow, IsOrdered}
use Rattle.wy_sem.specs.Meter.{Outcome, Done, Fault, More, Spent}
use Rattle.wy_sem.specs.TypeTests.{few_enough, same_names, alias_at, alias_holds}
use Rattle.wy_sem.specs.Membership as sem
use Rattle.wy_sem.specs.Membership.{belongs, name_belongs, belongs_of, is_yes, clauses_true, meaning_of, is_member}
use Rattle.wy_sound_statements.specs.wy_vc_spec.Numbered.{Node, exprs_in_decl, numbered_decls}
use Rattle.wy_sound_statements.specs.wy_vc_spec.Values.{Setting}
use Rattle.wy_sound_statements.specs.wy_sound_walks.expressions.Suits.{Answers}
use Rattle.wy_sound_statements.specs.wy_sound_walks.expressions.Types.{each_item, is_array_of, is_record_of, is_in, fields_in}
use Rattle.wy_sound_statements.specs.wy_sound_kinds.Bounded.{IsBounded, AreBounded, FieldsBounded}
use Rattle.wy_sound_types.specs.members.Denotations.{alias_denotes}
use Rattle.wy_sound_types.specs.Tests.{setting_to}
use Rattle.wy_sound_types.specs.members.Laws.{told_by}
use Rattle.wy_sound_types.specs.Laws.{TypesHold, MembershipIsSaid}
use Rattle.wy_sound_types.proofs.members_lemmas.ToldLemmas.{defined_is}
use Rattle.wy_sound_types.proofs.ReadingLemmas.{Fits}
use Rattle.wy_sound_types.proofs.RankLemmas.{clause_tells, tests_right}
use Rattle.wy_sound_types.proofs.RestLemmas.{found, ordered}
use Rattle.wy_sound_types.proofs.EndLemmas.{Ends}
use Rattle.wy_sound_types.proofs.TestEndLemmas.{clauses_end}

yes_is : (o : Outcome Bool) (b : Bool) → Answers b o → Ends o → is_yes o ≡ b
yes_is (Done x m) b h e = h
yes_is (Fault kind at m) b h e = absurd h
yes_is (More m) b h e = absurd e
yes_is Spent b h e = absurd e

and_when : (a b c d : Bool) → a ≡ b → (b ≡ true → c ≡ d) → (a && c) ≡ (b && d)
and_when a true c d e f = ap (λ (x : Bool). x && c) e ∙ f refl
and_when a false c d e f = ap (λ (x : Bool). x && c) e

same_lengths : (ds : List (Decl ℕ)) (k : ℕ) → length (names_in ds) ≡ length (aliases_of (numbered_decls ds k))
same_lengths [] k = refl
same_lengths (AliasDecl a ∷ ds) k = ap suc (same_lengths ds (k + exprs_in_decl (AliasDecl a)))
same_lengths (RoutineDecl r ∷ ds) k = same_lengths ds (k + exprs_in_decl (RoutineDecl r))

module _ (core : Core ℕ) (flow : List Ty) (members : ℕ → Datum → Bool) (h : TypesHold core flow members) (place : Node → ℕ) where
  abbrev s : Setting Node
  s = told_by core flow

  abbrev names : List Declared
  names = names_in core

  abbrev q : sem.Meaning
  q = meaning_of place s.types

  abbrev says : ℕ → Datum → Bool
  says b d = alias_denotes members s.is_number (alias_at s.types b) d

  abbrev order : ℕ → ℕ
  order = (ordered core flow members h.types).0

  is_ordered : IsOrdered names order
  is_ordered = (ordered core flow members h.types).1

  members_are : (n : ℕ) (d : Datum) → members n d ≡ (is_in members (alias_at s.types n).ty d && says n d)
  members_are = defined_is core flow members h.types.bound h.types.recursion h.types.meet

  -- the clauses of a type of a datum in its definition
  clauses_are : (n : ℕ) (d : Datum) → IsBounded d → is_in members (alias_at s.types n).ty d ≡ true → clauses_true place s.types n d ≡ says n d
  clauses_are n d b inside = by (cases_lt n (length s.types)) where
    by : (n < length s.types) ⊎ (length s.types ≤ n) → clauses_true place s.types n d ≡ says n d
    by (inl less) =
        yes_is (alias_holds (setting_to place None s.types (suc (length s.types))) false (alias_at s.types n) d (record { ticks = 0; turns = 0; output = [] })) (says n d)
        ((clause_tells core flow members h place None (suc (length s.types)) false (λ t e m k. tests_right core flow members h place None (suc (length s.types)) false t e m k) n d b inside).tells (record { ticks = 0; turns = 0; output = [] }))
        ((clauses_end core h.types.bound h.types.recursion h.types.quiet place n less d).ends (record { ticks = 0; turns = 0; output = [] }))
    by (inr past) = no_way (subst (λ (a : Alias Node). is_in members a.ty d ≡ true) (alias_past s.types n past) inside)

  belongs_same : (named : ℕ → Bool) (d : Datum) (items : Ty → Bool) (parts : FieldTys → Bool) → ((t : Ty) → items t ≡ is_array_of (is_in members t) d)
      → ((fields : FieldTys) → parts fields ≡ is_record_of (λ fs. same_names fs fields && fields_in members fields fs) d)
      → (j : ℕ) → ((n : ℕ) → IsDeclaredBelow (order n) j (slice_get names n) → named n ≡ members n d) → (t : Ty) → HasBareBelow names order j t → belongs named d items parts t ≡ is_in members t d
  belongs_same named d items parts hi hp j hn NullTy b = refl
  belongs_same named d items parts hi hp j hn BoolTy b = refl
  belongs_same named d items parts hi hp j hn IntTy b = refl
  belongs_same named d items parts hi hp j hn AnyTy b = refl
  belongs_same named d items parts hi hp j hn VoidTy b = refl
  belongs_same named d items parts hi hp j hn (RecordTy fields) b = hp fields
  belongs_same named d items parts hi hp j hn (ArrayTy t) b = hi t
  belongs_same named d items parts hi hp j hn (UnionTy u t) b =
      both_same (λ (x y : Bool). x || y) (belongs named d items parts u) (is_in members u d) (belongs named d items parts t) (is_in members t d)
      (belongs_same named d items parts hi hp j hn u b.0) (belongs_same named d items parts hi hp j hn t b.1)
  belongs_same named d items parts hi hp j hn (InterTy u t) b =
      both_same (λ (x y : Bool). x && y) (belongs named d items parts u) (is_in members u d) (belongs named d items parts t) (is_in members t d)
      (belongs_same named d items parts hi hp j hn u b.0) (belongs_same named d items parts hi hp j hn t b.1)
  belongs_same named d items parts hi hp j hn (NotTy t) b = ap not (belongs_same named d items parts hi hp j hn t b)
  belongs_same named d items parts hi hp j hn (NamedTy n) b = hn n b
  belongs_same named d items parts hi hp j hn (NormalTy union) b = refl

  lower : (m i k : ℕ) → i ≤ k → (o : Option Declared) → IsDeclaredBelow (order m) i o → IsDeclaredBelow (order m) k o
  lower m i k le None c = tt
  lower m i k le (Some e) c = omega (arith, le, c)

  bare_all : (t : Ty) → HasBareBelow names order (length names) t
  bare_all NullTy = tt
  bare_all BoolTy = tt
  bare_all IntTy = tt
  bare_all AnyTy = tt
  bare_all VoidTy = tt
  bare_all (RecordTy fields) = tt
  bare_all (ArrayTy t) = tt
  bare_all (UnionTy u t) = (bare_all u, bare_all t)
  bare_all (InterTy u t) = (bare_all u, bare_all t)
  bare_all (NotTy t) = bare_all t
  bare_all (NamedTy n) = at (slice_get names n) refl where
    at : (o : Option Declared) → slice_get names n ≡ o → IsDeclaredBelow (order n) (length names) o
    at None e = tt
    at (Some d) e = (is_ordered n d e).0
  bare_all (NormalTy union) = tt

  module _ (d : Datum) (bounded : IsBounded d) (items : Ty → Bool) (parts : FieldTys → Bool) (hi : (t : Ty) → items t ≡ is_array_of (is_in members t) d)
      (hp : (fields : FieldTys) → parts fields ≡ is_record_of (λ fs. same_names fs fields && fields_in members fields fs) d) where
    -- what no declared type has the number of has no data
    nothing : (n : ℕ) → Fits None (alias_at s.types n) → members n d ≡ false
    nothing n fits = members_are n d ∙ ap (λ (t : Ty). is_in members t d && says n d) fits

    name_same : (j n : ℕ) → IsDeclaredBelow (order n) j (slice_get names n) → name_belongs q d items parts j n ≡ members n d
    name_same zero n b = by (slice_get names n) refl b where
      by : (o : Option Declared) → slice_get names n ≡ o → IsDeclaredBelow (order n) zero o → false ≡ members n d
      by None e c = sym (nothing n (subst (λ (o : Option Declared). Fits o (alias_at s.types n)) e (found core 0 n)))
      by (Some x) e c = absurd (omega (arith, c))
    name_same (suc j) n b =
        and_when (belongs (name_belongs q d items parts j) d items parts (alias_at s.types n).ty) (is_in members (alias_at s.types n).ty d) (clauses_true place s.types n d) (says n d)
        (by (λ m g. name_same j m g) (slice_get names n) refl (found core 0 n) b) (λ inside. clauses_are n d bounded inside) ∙ sym (members_are n d) where
          by : ((m : ℕ) → IsDeclaredBelow (order m) j (slice_get names m) → name_belongs q d items parts j m ≡ members m d) → (o : Option Declared) → slice_get names n ≡ o → Fits o (alias_at s.types n) → IsDeclaredBelow (order n) (suc j) o → belongs (name_belongs q d items parts j) d items parts (alias_at s.types n).ty ≡ is_in members (alias_at s.types n).ty d
          by inner None e fits c = subst (λ (t : Ty). belongs (name_belongs q d items parts j) d items parts t ≡ is_in members t d) (sym fits) refl
          by inner (Some x) e fits c =
              subst (λ (t : Ty). belongs (name_belongs q d items parts j) d items parts t ≡ is_in members t d) fits.0
              (belongs_same (name_belongs q d items parts j) d items parts hi hp (order n) (λ m g. inner m (lower m (order n) j (omega (arith, c)) (slice_get names m) g)) x.ty (is_ordered n x e).1)

  as_many : length names ≡ length s.types
  as_many = same_lengths core 0

  module _ (d : Datum) (bounded : IsBounded d) (items : Ty → Bool) (parts : FieldTys → Bool) (hi : (t : Ty) → items t ≡ is_array_of (is_in members t) d)
      (hp : (fields : FieldTys) → parts fields ≡ is_record_of (λ fs. same_names fs fields && fields_in members fields fs) d) where
    here_same : (t : Ty) → belongs_of q d items parts t ≡ is_in members t d
    here_same t =
        belongs_same (name_belongs q d items parts (length s.types)) d items parts hi hp (length s.types) (λ n b. name_same d bounded items parts hi hp (length s.types) n b) t
        (subst (λ (k : ℕ). HasBareBelow names order k t) as_many (bare_all t))

  mutual
    pub is_in_same : (d : Datum) → IsBounded d → (t : Ty) → sem.is_in q d t ≡ is_in members t d
    is_in_same Null b t = here_same Null b _ _ (λ u. refl) (λ us. refl) t
    is_in_same (Truth c) b t = here_same (Truth c) b _ _ (λ u. refl) (λ us. refl) t
    is_in_same (Whole z) b t = here_same (Whole z) b _ _ (λ u. refl) (λ us. refl) t
    is_in_same (Array ds) b t = here_same (Array ds) b _ _ (λ u. ap (λ (x : Bool). few_enough ds && x) (items_same ds b.1 u)) (λ us. refl) t
    is_in_same (Record fs) b t = here_same (Record fs) b _ _ (λ u. refl) (λ us. ap (λ (x : Bool). same_names fs us && x) (parts_same fs b.1 us)) t

    items_same : (ds : Data) → AreBounded ds → (t : Ty) → sem.items_in q ds t ≡ each_item (is_in members t) ds
    items_same no_items b t = refl
    items_same (item d ds) b t = both_same (λ (x y : Bool). x && y) (sem.is_in q d t) (is_in members t d) (sem.items_in q ds t) (each_item (is_in members t) ds) (is_in_same d b.0 t) (items_same ds b.1 t)

    parts_same : (fs : Fields) → FieldsBounded fs → (us : FieldTys) → sem.parts_in q fs us ≡ fields_in members us fs
    parts_same no_fields b NoFieldTys = refl
    parts_same no_fields b (MoreFieldTys o t us) = refl
    parts_same (field n d fs) b NoFieldTys = refl
    parts_same (field n d fs) b (MoreFieldTys o t us) = both_same (λ (x y : Bool). x && y) (sem.is_in q d t) (is_in members t d) (sem.parts_in q fs us) (fields_in members us fs) (is_in_same d b.0 t) (parts_same fs b.1 us)

pub membership_said : MembershipIsSaid
membership_said core flow members h place t d b = is_in_same core flow members h place d b t
