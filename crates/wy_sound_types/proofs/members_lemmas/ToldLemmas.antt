-- What is said of a name that is written out is the same at each depth that is enough for it, so it is told by data that meet the formulas.
use Rattle.std.proofs.Common.{◌≡◌, ◌<◌, ◌≤◌, ◌+◌, ◌⊎◌, inl, inr, ℕ, zero, suc, Bool, true, false, cond, not, ◌&&◌, nat_lt, pos, List, [], ◌∷◌, length, refl, sym, ap, ◌∙◌, arith}
use Rattle.std.specs.Prelude.{nat_le}
use Rattle.std.proofs.lemmas.Bool.{and_parts, cases_lt, lt-ltb, ltb-true}
use Rattle.wy_lemmas.proofs.Choices.{pick}
use Rattle.wy_sem.proofs.SharedLemmas.{alias_past}
use Rattle.wy_value.specs.Datum.{Datum}
use Rattle.wy_core.specs.Types.{Ty}
use Rattle.wy_core.specs.CoreTree.{Alias, Decl, AliasDecl, RoutineDecl, Core, aliases_of}
use Rattle.wy_core.specs.formed.Offers.{Offers, offers_of}
use Rattle.wy_core.specs.formed.Bound.{Bound, BoundDecls, with_option}
use Rattle.wy_core.specs.formed.Recursion.{Recursion}
use Rattle.wy_term.specs.Term.{Term}
use Rattle.wy_term.specs.Sorts.{val_sort, formula_sort}
use Rattle.wy_term.specs.Meaning.{Names, with_datum, sense}
use Rattle.wy_term_subst.specs.kept_sorts.SortKept.{HasSort}
use Rattle.wy_sem.specs.TypeTests.{alias_at}
use Rattle.wy_sound_statements.specs.wy_vc_spec.Named.{is_recursive, written_nodes, is_written}
use Rattle.wy_sound_statements.specs.wy_vc_spec.Numbered.{Node, exprs_in_decl, numbered_decls}
use Rattle.wy_sound_statements.specs.wy_vc_spec.Making.{falsehood, in_type}
use Rattle.wy_sound_statements.specs.wy_vc_spec.Values.{Naming, Setting, Valued, valued, x_word, word_if, defined, named_to, named_in, test_name}
use Rattle.wy_vc_laws.proofs.wy_sound_terms_proofs.formed_lemmas.MakingLemmas.{IsOf, in_type_sorted, val_name_sorted}
use Rattle.wy_vc_laws.proofs.wy_sound_terms_proofs.formed_lemmas.ValueLemmas.{SaysFormulas, named_to_sorted, named_sorted}
use Rattle.wy_vc_laws.specs.grounded.Uses.{NamesAll, ClausesTestAll}
use Rattle.wy_vc_laws.proofs.grounded_lemmas.GroundedLemmas.{stands_for}
use Rattle.wy_vc_laws.proofs.grounded_lemmas.LevelLemmas.{level, level_within, level_above, types_levelled, names_lower}
use Rattle.wy_vc_laws.proofs.wy_sound_terms_proofs.operations_lemmas.MadeLemmas.{holds as true_at, in_type_means, all_means, some_means}
use Rattle.wy_sound_statements.specs.wy_sound_walks.expressions.Names.{Means}
use Rattle.wy_sound_statements.specs.wy_sound_walks.expressions.Written.{IsWritten}
use Rattle.wy_sound_statements.specs.wy_sound_walks.expressions.Laws.{NamesTold}
use Rattle.wy_sound_statements.proofs.wy_sound_walks_proofs.expressions_lemmas.NameLemmas.{agree_refl}
use Rattle.wy_sound_statements.proofs.wy_sound_walks_proofs.expressions_lemmas.ValueGrows.{pick_grows, named_grows}
use Rattle.wy_sound_types.specs.members.Denotations.{is_defined}
use Rattle.wy_sound_types.specs.members.Tests.{ClauseTestsWritten}
use Rattle.wy_sound_types.specs.members.Members.{MeetFormulas}
use Rattle.wy_sound_types.specs.members.Laws.{told_by, MembersAreTold}
use Rattle.wy_sound_types.proofs.members_lemmas.NamingLemmas.{defined_same}
use Rattle.wy_sound_types.proofs.members_lemmas.DenotationLemmas.{defined_told}
use Rattle.wy_sound_types.proofs.members_lemmas.WrittenLemmas.{bound_written, clauses_written}

-- ---- declared types

-- the definition and the tests of a type are such as a source may write
pub record AliasWritten (a : Alias Node) : Type 0 where
  pub ty : IsWritten a.ty
  pub clauses : ClauseTestsWritten a.clauses

pub alias_written : (o : Offers) (ds : List (Decl ℕ)) → BoundDecls o ds → (k b : ℕ) → AliasWritten (alias_at (aliases_of (numbered_decls ds k)) b)
alias_written o [] h k b = record { ty = tt; clauses = tt }
alias_written o (AliasDecl a ∷ ds) h k zero = record { ty = bound_written o.types a.ty h.0.ty; clauses = clauses_written o (length a.variables) (with_option [] a.variable) a.clauses k h.0.clauses }
alias_written o (AliasDecl a ∷ ds) h k (suc b) = alias_written o ds h.1 (k + exprs_in_decl (AliasDecl a)) b
alias_written o (RoutineDecl r ∷ ds) h k b = alias_written o ds h.1 (k + exprs_in_decl (RoutineDecl r)) b

not_recursive : (a b : Bool) → (not a && b) ≡ true → a ≡ false
not_recursive true b h = sym h
not_recursive false b h = refl

-- ---- names

module _ (core : Core ℕ) (flow : List Ty) (members : ℕ → Datum → Bool) (bound : Bound core) (recurs : Recursion core) (meet : MeetFormulas (told_by core flow) members) where
  abbrev s : Setting Node
  s = told_by core flow

  abbrev count : ℕ
  count = length s.types

  abbrev height : ℕ → ℕ
  height = level core bound recurs

  written : (b : ℕ) → AliasWritten (alias_at s.types b)
  written b = alias_written (offers_of core) core bound 0 b

  -- at this depth what is said of the name is true of its data
  abbrev Told : ℕ → ℕ → Type 0
  Told j c = (n : ℕ) (v : Term) (names : Names) (d : Datum) → names.is_member ≡ members → HasSort v val_sort → Means n names v d → (sense names (named_to s j c v n).term).truth ≡ members c d

  test_told : (c : ℕ) (n : ℕ) (v : Term) (names : Names) (d : Datum) → names.is_member ≡ members → Means n names v d → (sense names (in_type c v)).truth ≡ members c d
  test_told c n v names d right h = in_type_means names c v ∙ (ap (λ (m : ℕ → Datum → Bool). m c (sense names v).datum) right ∙ ap (members c) (h names (agree_refl n names)))

  -- names of levels below this one as at the depth, others by their tests
  abbrev is_low : ℕ → ℕ → Bool
  is_low l c = nat_lt c count && nat_lt (height c) l

  abbrev low : ℕ → ℕ → Naming
  low l j c v n = cond (is_low l c) (named_to s j c v n) (valued n (in_type c v))

  low_sorted : (l j : ℕ) → SaysFormulas (low l j)
  low_sorted l j = record { says = λ c n h. pick (λ (w : Valued). IsOf formula_sort w.term) (is_low l c) ((named_to_sorted s j).says c n h) (in_type_sorted c h) }

  low_grows : (l j : ℕ) (c n : ℕ) (v : Term) → n ≤ (low l j c v n).count
  low_grows l j c n v = pick_grows n (is_low l c) (named_to s j c v n) (valued n (in_type c v)) (named_grows s j c n v) (omega arith)

  low_told : (l j : ℕ) → ((c : ℕ) → c < count → height c < l → Told j c) → NamesTold members (low l j)
  low_told l j h c n v names d right is means = by (is_low l c) refl where
    by : (b : Bool) → is_low l c ≡ b → (sense names (cond b (named_to s j c v n) (valued n (in_type c v))).term).truth ≡ members c d
    by true e = let two = and_parts (nat_lt c count) (nat_lt (height c) l) e in h c (ltb-true c count two.0) (ltb-true (height c) l two.1) n v names d right is means
    by false e = test_told c n v names d right means

  low_same : (l j c : ℕ) → (c < count) × (height c < l) → (v : Term) (n : ℕ) → named_to s j c v n ≡ low l j c v n
  low_same l j c h v n = let e : nat_lt c count ≡ true = lt-ltb c count h.0 in let f : nat_lt (height c) l ≡ true = lt-ltb (height c) l h.1 in rw (e, f) refl

  -- a type all of whose names are told: its definition and its clauses
  defined_at : (b j : ℕ) → NamesAll (λ c. (c < count) × (height c < height b)) (alias_at s.types b).ty → ClausesTestAll (λ c. (c < count) × (height c < height b)) (alias_at s.types b).clauses
      → ((c : ℕ) → c < count → height c < height b → Told j c)
      → (n : ℕ) (v : Term) (names : Names) (d : Datum) → names.is_member ≡ members → IsOf val_sort v → Means n names v d → true_at names (defined s (named_to s j) (alias_at s.types b) v n).term ≡ is_defined members s.is_number (alias_at s.types b) d
  defined_at b j named tested h n v names d right is means =
      ap (λ (w : Valued). true_at names w.term) (defined_same (named_to s j) (low (height b) j) (λ c. (c < count) × (height c < height b)) (λ c g x m. low_same (height b) j c g x m) s (alias_at s.types b) named tested v n)
      ∙ defined_told members (low (height b) j) (low_sorted (height b) j) (λ c m x. low_grows (height b) j c m x) (low_told (height b) j h) s (alias_at s.types b) (written b).ty (written b).clauses n v names d right is means

  -- the Val name of a type's formula
  name_means : (b : ℕ) (names : Names) (d : Datum) → Means 1 (with_datum names (word_if (alias_at s.types b).variables (alias_at s.types b).variable x_word) 0 d) (test_name s b) d
  name_means b names d w a =
      let word = word_if (alias_at s.types b).variables (alias_at s.types b).variable x_word in
      a.datum_of word 0 (omega arith) ∙ stands_for names word d

  -- a name that is written out
  written_told : (b i : ℕ) → b < count → is_recursive s.types b ≡ false → ((j c : ℕ) → c < count → height c < height b → height c ≤ j → Told j c) → height b ≤ suc i
      → (n : ℕ) (v : Term) (names : Names) (d : Datum) → names.is_member ≡ members → HasSort v val_sort → Means n names v d → true_at names (defined s (named_to s i) (alias_at s.types b) v n).term ≡ members b d
  written_told b i less straight h deep n v names d right is means =
      let word = word_if (alias_at s.types b).variables (alias_at s.types b).variable x_word in
      let named = names_lower core bound recurs b less straight in
      let tested = (types_levelled core bound recurs).tested b less in
      let here = defined_at b i named tested (λ c l t. h i c l t (omega (arith, deep, t))) n v names d right (record { has = is }) means in
      let there = defined_at b count named tested (λ c l t. h count c l t (level_within core bound recurs c)) 1 (test_name s b) (with_datum names word 0 d) d right (val_name_sorted word 0) (name_means b names d) in
      here ∙ sym (meet.told b less names right d ∙ there)

  -- a number that is no type's
  past_told : (j c : ℕ) → count ≤ c → Told j c
  past_told zero c past n v names d right is means = test_told c n v names d right means
  past_told (suc j) c past n v names d right is means = by (is_written s.types c) where
    none : true_at names (defined s (named_to s j) (alias_at s.types c) v n).term ≡ members c d
    none =
        ap (λ (a : Alias Node). true_at names (defined s (named_to s j) a v n).term) (alias_past s.types c past)
        ∙ (all_means names (falsehood ∷ []) ∙ (ap (λ (b : Bool). b && true) (some_means names []) ∙ sym (meet.others c past d)))

    by : (b : Bool) → (sense names (cond b (defined s (named_to s j) (alias_at s.types c) v n) (valued n (in_type c v))).term).truth ≡ members c d
    by true = none
    by false = test_told c n v names d right means

  -- by levels
  told_to : (k j c : ℕ) → c < count → height c ≤ k → height c ≤ j → Told j c
  told_to zero j c less le deep n v names d right is means = let l = level_above core bound recurs c less in absurd (omega (arith, le, l))
  told_to (suc k) zero c less le deep n v names d right is means = let l = level_above core bound recurs c less in absurd (omega (arith, deep, l))
  told_to (suc k) (suc i) c less le deep n v names d right is means = by (λ j e2 l lower enough. told_to k j e2 l (omega (arith, le, lower)) enough) (is_written s.types c) refl where
    by : ((j e : ℕ) → e < count → height e < height c → height e ≤ j → Told j e) → (b : Bool) → is_written s.types c ≡ b → (sense names (cond b (defined s (named_to s i) (alias_at s.types c) v n) (valued n (in_type c v))).term).truth ≡ members c d
    by deeper true e = written_told c i less (not_recursive (is_recursive s.types c) (nat_le (written_nodes s.types (suc count) c) 64) e) deeper deep n v names d right is means
    by deeper false e = test_told c n v names d right means

  pub told : NamesTold members (named_in s)
  told c n v names d right is means = by (cases_lt c count) where
    by : (c < count) ⊎ (count ≤ c) → (sense names (named_in s c v n).term).truth ≡ members c d
    by (inl less) = told_to (height c) count c less (omega arith) (level_within core bound recurs c) n v names d right is means
    by (inr past) = past_told count c past n v names d right is means

  -- a type has the data in its definition of which its clauses are true
  pub defined_is : (b : ℕ) (d : Datum) → members b d ≡ is_defined members s.is_number (alias_at s.types b) d
  defined_is b d = by (cases_lt b count) where
    by : (b < count) ⊎ (count ≤ b) → members b d ≡ is_defined members s.is_number (alias_at s.types b) d
    by (inl less) =
        let word = word_if (alias_at s.types b).variables (alias_at s.types b).variable x_word in
        let names : Names = record { datum_of = λ w m. d; number_of = λ w m. pos 0; is_member = members } in
        meet.told b less names refl d
        ∙ defined_told members (named_in s) (named_sorted s) (λ c m x. named_grows s count c m x) told s (alias_at s.types b) (written b).ty (written b).clauses 1 (test_name s b) (with_datum names word 0 d) d refl (val_name_sorted word 0) (name_means b names d)
    by (inr past) = meet.others b past d ∙ ap (λ (a : Alias Node). is_defined members s.is_number a d) (sym (alias_past s.types b past))

pub are_told : MembersAreTold
are_told = record {
  names = λ core flow members bound recurs meet. told core flow members bound recurs meet;
  defined = λ core flow members bound recurs meet b d. defined_is core flow members bound recurs meet b d;
}
