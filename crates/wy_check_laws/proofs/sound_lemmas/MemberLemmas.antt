-- What `in` of a listed type is, is true, and a new name of numbers makes no difference to the types.
use Rattle.std.proofs.Common.{◌≡◌, ℕ, List, [], ◌∷◌, Bool, true, false, cond, eqb, ◌&&◌, ℤ, Some, refl, sym, ap, ◌∙◌, subst}
use Rattle.std.proofs.lemmas.Bool.{eqb-true}
use Rattle.std.specs.Prelude.{bytes_eq}
use Rattle.wy_check_spec.specs.wy_facts.Membership.{entry_for}
use Rattle.wy_lemmas.proofs.Options.{some_same as some_is}
use Rattle.wy_check_spec.specs.wy_value.Datum.{Datum}
use Rattle.wy_check_spec.specs.wy_term.Term.{Term, Of, no_parts, part, leaf, one, val_name, in_type}
use Rattle.wy_check_spec.specs.wy_term.Scope.{free_names}
use Rattle.wy_check_spec.specs.wy_term.Sorts.{val_sort, formula_sort}
use Rattle.wy_check_spec.specs.wy_term.Meaning.{Names, with_number, with_datum, Sense, sense}
use Rattle.wy_check_spec.specs.wy_term.Condition.{Entry, with_value, says, AreUnfolded}
use Rattle.wy_check_spec.specs.wy_term.Unfolding.{AreAll, IsClosed, AreClosed}
use Rattle.wy_check_spec.proofs.wy_lin_proofs.OptionLemmas.{bind_some}
use Rattle.wy_check_spec.specs.wy_facts.Made.{implies, exactly_where}
use Rattle.wy_check_spec.proofs.wy_facts_proofs.SenseLemmas.{both_hold, implies_holds}
use Rattle.wy_check_spec.specs.wy_term_subst.Substitution.{substituted}
use Rattle.wy_check_spec.specs.wy_term_subst.sorted.Sorted.{IsSorted}
use Rattle.wy_check_spec.specs.wy_term_subst.kept_sorts.SortKept.{HasSort}
use Rattle.wy_check_spec.specs.valid.Membership.{unfolded_at, membership}
use Rattle.wy_check_laws.specs.sound.Sortedness.{AreSortedEntries}
use Rattle.wy_check_laws.proofs.sound_lemmas.FreeLemmas.{SameAt, AllSame, rests_on_free_names}
use Rattle.wy_check_laws.proofs.sound_lemmas.PutLemmas.{truth_at_datum}

-- ---- a new name of numbers

vals_same : (names others : Names) → names.datum_of ≡ others.datum_of → (word : List ℕ) (k : ℕ) (d : Datum) (xs : List Term) → AreAll (leaf (val_name word k)) xs → AllSame (with_datum names word k d) (with_datum others word k d) xs
vals_same names others e word k d [] f = tt
vals_same names others e word k d (x ∷ xs) f =
    (subst (SameAt (with_datum names word k d) (with_datum others word k d)) (sym f.0) (ap (λ (g : List ℕ → ℕ → Datum). cond (bytes_eq word word && eqb k k) d (g word k)) e), vals_same names others e word k d xs f.1)

says_same : (names others : Names) → names.datum_of ≡ others.datum_of → names.is_member ≡ others.is_member → (e : Entry) → IsClosed e → (d : Datum) → says names e d ≡ says others e d
says_same names others same_data same_members e closed d =
    subst (λ (x : Term). (sense (with_value names x d) e.formula).truth ≡ (sense (with_value others x d) e.formula).truth) (sym closed.is_name)
    (ap (λ (x : Sense). x.truth) (rests_on_free_names e.formula (with_datum names closed.word closed.number d) (with_datum others closed.word closed.number d) same_members (vals_same names others same_data closed.word closed.number d (free_names e.formula) (subst (λ (x : Term). AreAll x (free_names e.formula)) closed.is_name closed.free))))

-- the types stay what they are where an Int name stands for another number
pub types_stay : (names : Names) (w : List ℕ) (m : ℕ) (z : ℤ) (types : List Entry) → AreClosed types → AreUnfolded names types → AreUnfolded (with_number names w m z) types
types_stay names w m z [] closed real = tt
types_stay names w m z (e ∷ es) closed real = (λ d. real.0 d ∙ says_same names (with_number names w m z) refl refl e closed.0 d, types_stay names w m z es closed.1 real.1)

-- ---- a listed type

pub record Listed (names : Names) (n : ℕ) (e : Entry) : Type 0 where
  pub number : e.type_number ≡ n
  pub unfolded : (d : Datum) → names.is_member e.type_number d ≡ says names e d
  pub closed : IsClosed e
  pub sorted : HasSort e.formula formula_sort

is_listed : (names : Names) (types : List Entry) (n : ℕ) (e : Entry) → AreUnfolded names types → AreClosed types → AreSortedEntries types → entry_for types n ≡ Some e → Listed names n e
is_listed names [] n e real closed sorted is = absurd cc
is_listed names (x ∷ xs) n e real closed sorted is = by (eqb x.type_number n) refl is (is_listed names xs n e real.1 closed.1 sorted.1)
  where
    by : (b : Bool) → eqb x.type_number n ≡ b → cond b (Some x) (entry_for xs n) ≡ Some e → (entry_for xs n ≡ Some e → Listed names n e) → Listed names n e
    by true same h rest = subst (Listed names n) (some_is x e h) (record { number = eqb-true x.type_number n same; unfolded = real.0; closed = closed.0; sorted = sorted.0 })
    by false same h rest = rest h

exactly_holds : (names : Names) (f g : Term) → (sense names f).truth ≡ (sense names g).truth → (sense names (exactly_where f g)).truth ≡ true
exactly_holds names f g e =
    both_hold names (implies f g) (implies g f) (implies_holds names f g (λ h. sym e ∙ h)) (implies_holds names g f (λ h. e ∙ h))

unfolded_holds : (names : Names) (n : ℕ) (e : Entry) (v : Term) → Listed names n e → HasSort v val_sort → (sense names (unfolded_at e n v)).truth ≡ true
unfolded_holds names n e v listed is_v =
    exactly_holds names (one (in_type n) v) (substituted e.formula e.name v)
    (ap (λ (k : ℕ). names.is_member k (sense names v).datum) (sym listed.number)
    ∙ (listed.unfolded (sense names v).datum
    ∙ subst (λ (x : Term). (sense (with_value names x (sense names v).datum) e.formula).truth ≡ (sense names (substituted e.formula x v)).truth) (sym listed.closed.is_name)
    (sym (truth_at_datum names listed.closed.word listed.closed.number e.formula v listed.sorted is_v))))

-- what is known of the data of a listed type is true
pub membership_holds : (names : Names) (types : List Entry) (t g : Term) → AreUnfolded names types → AreClosed types → AreSortedEntries types → IsSorted t → membership types t ≡ Some g → (sense names g).truth ≡ true
membership_holds names types (Of (in_type n) (part v no_parts)) g real closed sorted is_t is =
    let e = bind_some (entry_for types n) (λ e. Some (unfolded_at e n v)) g is in
    ap (λ (f : Term). (sense names f).truth) (sym (some_is (unfolded_at e.0 n v) g e.2)) ∙ unfolded_holds names n e.0 v (is_listed names types n e.0 real closed sorted e.1) (is_t.1, is_t.0)
membership_holds names types t g real closed sorted is_t is = absurd cc

-- the formula of a listed type
pub entry_sorted : (types : List Entry) (n : ℕ) (e : Entry) → AreClosed types → AreSortedEntries types → entry_for types n ≡ Some e → IsClosed e × HasSort e.formula formula_sort
entry_sorted [] n e closed sorted is = absurd cc
entry_sorted (x ∷ xs) n e closed sorted is = by (eqb x.type_number n) is (entry_sorted xs n e closed.1 sorted.1)
  where
    by : (b : Bool) → cond b (Some x) (entry_for xs n) ≡ Some e → (entry_for xs n ≡ Some e → IsClosed e × HasSort e.formula formula_sort) → IsClosed e × HasSort e.formula formula_sort
    by true h rest = subst (λ (y : Entry). IsClosed y × HasSort y.formula formula_sort) (some_is x e h) (closed.0, sorted.0)
    by false h rest = rest h
