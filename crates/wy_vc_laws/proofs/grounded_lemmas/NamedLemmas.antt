-- What the test of a named type stands for stays the same by two readings of `in` that agree on earlier questions.
use Rattle.std.proofs.Common.{◌≡◌, ℕ, zero, suc, ◌<◌, ◌≤◌, List, length, refl, sym, subst, arith}
use Rattle.wy_lemmas.proofs.Choices.{pick}
use Rattle.wy_check_laws.specs.wy_value.Datum.{Datum}
use Rattle.wy_sound_terms.specs.wy_core.CoreTree.{Alias}
use Rattle.wy_check_laws.specs.wy_term.Term.{Term}
use Rattle.wy_check_laws.specs.wy_term.Meaning.{sense}
use Rattle.wy_check_laws.specs.wy_term.Sorts.{val_sort, formula_sort}
use Rattle.wy_sound_terms.specs.wy_term_subst.grounded.Readings.{with_members}
use Rattle.wy_sound_terms.specs.wy_sem.TypeTests.{alias_at}
use Rattle.wy_sound_terms.specs.wy_vc_spec.Named.{is_written}
use Rattle.wy_sound_terms.specs.wy_vc_spec.Making.{in_type}
use Rattle.wy_sound_terms.specs.wy_vc_spec.Values.{Setting, Valued, x_word, word_if, holds, defined, named_to, test_name, test_formula}
use Rattle.wy_sound_terms.proofs.formed_lemmas.MakingLemmas.{val_name_sorted}
use Rattle.wy_sound_terms.proofs.formed_lemmas.ValueLemmas.{named_to_sorted}
use Rattle.wy_vc_laws.specs.grounded.Uses.{NamesAll, NamesBare, ClausesTestAll}
use Rattle.wy_vc_laws.proofs.grounded_lemmas.SizeLemmas.{size}
use Rattle.wy_vc_laws.proofs.grounded_lemmas.SteadyLemmas.{Two, IsSteady, more', all_steady, in_type_steady}
use Rattle.wy_vc_laws.proofs.grounded_lemmas.HoldsLemmas.{IsSmall, any_parts, SaysSteadily, holds_steady, SaysBySize, holds_by_size, no_vars, put_if_steady, clauses_steady}

-- ---- levels and ranks of named types

-- a type that another one names
abbrev pub IsNamed : ℕ → (ℕ → ℕ) → ℕ → ℕ → Type 0
IsNamed count level b c = (c < count) × (level c ≤ level b)

-- no name is of a higher level; a name outside of records and arrays is of a lower rank; a type that a clause tests is of a lower level
pub record AreLevelled {N : Type 0} (types : List (Alias N)) (level rank : ℕ → ℕ) : Type 0 where
  pub named : (b : ℕ) → b < length types → NamesAll (IsNamed (length types) level b) (alias_at types b).ty
  pub bare : (b : ℕ) → b < length types → NamesBare (λ c. IsNamed (length types) level b c × (rank c < rank b)) (IsNamed (length types) level b) (alias_at types b).ty
  pub tested : (b : ℕ) → b < length types → ClausesTestAll (λ c. (c < length types) × (level c < level b)) (alias_at types b).clauses

-- a question of a lower level, or of a smaller datum, or of a lower rank
pub data IsBelow (level rank : ℕ → ℕ) (l j k : ℕ) (c : ℕ) (e : Datum) : Type 0 where
  lower : level c < l → IsBelow level rank l j k c e
  smaller : level c ≤ l → size e < j → IsBelow level rank l j k c e
  earlier : level c ≤ l → size e ≤ j → rank c < k → IsBelow level rank l j k c e

module _ {N : Type 0} (r : Two) (s : Setting N) (level rank : ℕ → ℕ) (levelled : AreLevelled s.types level rank) where
  -- both readings agree on these types at every datum
  abbrev AgreeTo : ℕ → Type 0
  AgreeTo l = (c : ℕ) (e : Datum) → c < length s.types → level c ≤ l → r.first c e ≡ r.second c e

  -- both agree on all earlier questions
  abbrev pub AgreeBelow : ℕ → ℕ → ℕ → Type 0
  AgreeBelow l j k = (c : ℕ) (e : Datum) → c < length s.types → IsBelow level rank l j k c e → r.first c e ≡ r.second c e

  abbrev IsAgreed : ℕ → Type 0
  IsAgreed b = (b < length s.types) × AgreeTo (level b)

  abbrev IsTested : ℕ → ℕ → Type 0
  IsTested b c = (c < length s.types) × (level c < level b)

  -- ---- at any datum

  said_names : (depth b : ℕ) → AgreeTo (level b) → SaysSteadily r (named_to s depth) IsAgreed (λ v. Unit {0}) → SaysSteadily r (named_to s depth) (IsNamed (length s.types) level b) (λ v. Unit {0})
  said_names depth b agree says = record { says = λ c n g h a. says.says c n (g.0, λ x e lt le. agree x e lt (let one : level c ≤ level b = g.1 in omega (arith, le, one))) h tt }

  said_tests : (depth b : ℕ) → ((c : ℕ) (e : Datum) → c < length s.types → level c < level b → r.first c e ≡ r.second c e) → SaysSteadily r (named_to s depth) IsAgreed (λ v. Unit {0}) → SaysSteadily r (named_to s depth) (IsTested b) (λ v. Unit {0})
  said_tests depth b agree says = record { says = λ c n g h a. says.says c n (g.0, λ x e lt le. agree x e lt (let one : level c < level b = g.1 in omega (arith, le, one))) h tt }

  defined_stays : (depth b n : ℕ) {v : Term} → SaysSteadily r (named_to s depth) IsAgreed (λ v. Unit {0}) → IsAgreed b → IsSteady r val_sort v → IsSteady r formula_sort (defined s (named_to s depth) (alias_at s.types b) v n).term
  defined_stays depth b n {v} says f h =
      let a = alias_at s.types b in
      all_steady r
      (more' (holds_steady r (named_to s depth) (IsNamed (length s.types) level b) (λ v. Unit {0}) (said_names depth b f.1 says) (any_parts r) a.ty n (levelled.named b f.0) h tt)
      (clauses_steady r s (named_to s depth) (IsTested b) (said_tests depth b (λ c e lt less. f.1 c e lt (omega (arith, less))) says) a.variables a.clauses (holds (named_to s depth) a.ty v n).count (levelled.tested b f.0) (put_if_steady r a.variable no_vars h)))

  test_stays : (b : ℕ) {v : Term} → IsAgreed b → IsSteady r val_sort v → IsSteady r formula_sort (in_type b v)
  test_stays b {v} f h = in_type_steady r b h (λ names fits. f.1 b (sense (with_members names r.first) v).datum f.0 (omega arith))

  named_stays : (depth : ℕ) → SaysSteadily r (named_to s depth) IsAgreed (λ v. Unit {0})
  named_stays zero = record { says = λ b n f h a. test_stays b f h }
  named_stays (suc depth) = record {
    says = λ b n f h a. pick (λ (w : Valued). IsSteady r formula_sort w.term) (is_written s.types b) (defined_stays depth b n (named_stays depth) f h) (test_stays b f h);
  }

  -- ---- at data of no more than some size

  abbrev IsAgreedTo : ℕ → ℕ → Type 0
  IsAgreedTo j b = (b < length s.types) × AgreeBelow (level b) j (suc (rank b))

  abbrev SaysBelow : ℕ → Type 0
  SaysBelow depth = (j : ℕ) → SaysSteadily r (named_to s depth) (IsAgreedTo j) (IsSmall r j)

  -- what comes before a question on a name comes before the one on the type
  bare_below : (b c j x : ℕ) (e : Datum) → level c ≤ level b → rank c < rank b → IsBelow level rank (level c) j (suc (rank c)) x e → IsBelow level rank (level b) j (rank b) x e
  bare_below b c j x e le less (lower l) = lower (omega (arith, le, l))
  bare_below b c j x e le less (smaller l t) = smaller (omega (arith, le, l)) t
  bare_below b c j x e le less (earlier l t u) = earlier (omega (arith, le, l)) t (omega (arith, less, u))

  part_below : (b c i x : ℕ) (e : Datum) → level c ≤ level b → IsBelow level rank (level c) i (suc (rank c)) x e → IsBelow level rank (level b) (suc i) (rank b) x e
  part_below b c i x e le (lower l) = lower (omega (arith, le, l))
  part_below b c i x e le (smaller l t) = smaller (omega (arith, le, l)) (omega (arith, t))
  part_below b c i x e le (earlier l t u) = smaller (omega (arith, le, l)) (omega (arith, t))

  said_by_size : (depth b j : ℕ) → SaysBelow depth → AgreeBelow (level b) j (rank b) → SaysBySize r (named_to s depth) (named_to_sorted s depth) (λ c. IsNamed (length s.types) level b c × (rank c < rank b)) (IsNamed (length s.types) level b) j
  said_by_size depth b j says agree = record {
    whole = record { says = λ c n g h a. (says j).says c n (g.0.0, λ x e lt below. agree x e lt (bare_below b c j x e g.0.1 g.1 below)) h a };
    inner = λ i is. record {
      says = λ c n g h a. (says i).says c n (g.0, λ x e lt below. agree x e lt (subst (λ (m : ℕ). IsBelow level rank (level b) m (rank b) x e) (back i is) (part_below b c i x e g.1 below))) h a;
    };
  }
    where
      back : (i : ℕ) → j ≡ suc i → suc i ≡ j
      back i is = omega (arith, is)

  pub defined_by_size : (depth b j n : ℕ) {v : Term} → SaysBelow depth → b < length s.types → AgreeBelow (level b) j (rank b) → IsSteady r val_sort v → IsSmall r j v → IsSteady r formula_sort (defined s (named_to s depth) (alias_at s.types b) v n).term
  defined_by_size depth b j n {v} says lt agree h small =
      let a = alias_at s.types b in
      all_steady r
      (more' (holds_by_size r (named_to s depth) (named_to_sorted s depth) (λ c. IsNamed (length s.types) level b c × (rank c < rank b)) (IsNamed (length s.types) level b) a.ty j n (said_by_size depth b j says agree) (levelled.bare b lt) h small)
      (clauses_steady r s (named_to s depth) (IsTested b) (said_tests depth b (λ c e in_types less. agree c e in_types (lower less)) (named_stays depth)) a.variables a.clauses (holds (named_to s depth) a.ty v n).count (levelled.tested b lt) (put_if_steady r a.variable no_vars h)))

  test_by_size : (b j : ℕ) {v : Term} → IsAgreedTo j b → IsSteady r val_sort v → IsSmall r j v → IsSteady r formula_sort (in_type b v)
  test_by_size b j {v} f h small = in_type_steady r b h (λ names fits. f.1 b (sense (with_members names r.first) v).datum f.0 (earlier (omega arith) (small names fits) (omega arith)))

  one_less : (b j c : ℕ) (e : Datum) → IsBelow level rank (level b) j (rank b) c e → IsBelow level rank (level b) j (suc (rank b)) c e
  one_less b j c e (lower l) = lower l
  one_less b j c e (smaller l t) = smaller l t
  one_less b j c e (earlier l t u) = earlier l t (omega (arith, u))

  pub named_by_size : (depth : ℕ) → SaysBelow depth
  named_by_size zero j = record { says = λ b n f h a. test_by_size b j f h a }
  named_by_size (suc depth) j = record {
    says = λ b n f h a.
        pick (λ (w : Valued). IsSteady r formula_sort w.term) (is_written s.types b) (defined_by_size depth b j n (named_by_size depth) f.0 (λ c e lt below. f.1 c e lt (one_less b j c e below)) h a) (test_by_size b j f h a);
  }

  -- ---- what the test of a type stands for

  -- the Val name is the one that stands for the datum
  pub formula_stays : (b : ℕ) → r.word ≡ word_if (alias_at s.types b).variables (alias_at s.types b).variable x_word → b < length s.types → AgreeBelow (level b) (size r.datum) (rank b) → IsSteady r formula_sort (test_formula s b)
  formula_stays b is lt agree = defined_by_size (length s.types) b (size r.datum) 1 (named_by_size (length s.types)) lt agree (record { is = val_name_sorted w 0; same = λ names fits. refl }) small
    where
      w : List ℕ
      w = word_if (alias_at s.types b).variables (alias_at s.types b).variable x_word

      small : IsSmall r (size r.datum) (test_name s b)
      small names fits =
          let le : size (names.datum_of r.word 0) ≤ size r.datum = subst (λ (e : Datum). size e ≤ size r.datum) (sym fits) (omega arith) in
          subst (λ (u : List ℕ). size (names.datum_of u 0) ≤ size r.datum) is le
