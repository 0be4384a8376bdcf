-- A condition is true exactly where it is true by the readings of its listed types.
use Rattle.std.proofs.Common.{◌≡◌, ℕ, List, [], ◌∷◌, Bool, true, false, eqb, pos, ◌⊎◌, inl, inr, refl, sym, ap, ◌∙◌, subst}
use mathlib.Core.Path.{fun_ext}
use Rattle.std.proofs.lemmas.Bool.{eqb-true}
use Rattle.wy_term.proofs.wy_lemmas_proofs.Choices.{eqb_itself as eqb_self}
use Rattle.wy_term.specs.wy_value.Datum.{Datum, Null}
use Rattle.wy_term.specs.Term.{leaf, any_of}
use Rattle.wy_term.specs.Meaning.{Names}
use Rattle.wy_term.specs.Condition.{Entry, Condition, AreUnfolded, HoldsAlways}
use Rattle.wy_term.specs.Unfolding.{IsUnlisted, AreGrounded}
use Rattle.wy_term_subst.specs.grounded.Readings.{with_members, IsReading, AlikeOn, HoldsAt, HoldsByReadings}
use Rattle.wy_term_subst.proofs.grounded_lemmas.UniqueLemmas.{one_reading}
use Rattle.wy_term_subst.proofs.grounded_lemmas.ReadingLemmas.{a_reading}

-- ---- a type is listed or not

abbrev IsAlike : Names → Names → ℕ → Type 0
IsAlike names others n = (d : Datum) → names.is_member n d ≡ others.is_member n d

unlike_self : (n m : ℕ) → eqb m n ≡ false → n ≡ m → ⊥
unlike_self n m f e = let no_way : true ≡ false = sym (eqb_self m) ∙ (ap (eqb m) (sym e) ∙ f) in absurd cc

listed_here : (b : Bool) (names others : Names) (n : ℕ) (e : Entry) (es : List Entry) → eqb e.type_number n ≡ b → IsAlike names others e.type_number → IsUnlisted n es ⊎ IsAlike names others n → IsUnlisted n (e ∷ es) ⊎ IsAlike names others n
listed_here true names others n e es t here rest = inr (subst (IsAlike names others) (eqb-true e.type_number n t) here)
listed_here false names others n e es f here (inl un) = inl (λ same. unlike_self n e.type_number f same, un)
listed_here false names others n e es f here (inr alike) = inr alike

listed_or_not : (names others : Names) (n : ℕ) (es : List Entry) → AlikeOn es names others → IsUnlisted n es ⊎ IsAlike names others n
listed_or_not names others n [] alike = inl tt
listed_or_not names others n (e ∷ es) alike = listed_here (eqb e.type_number n) names others n e es refl alike.0 (listed_or_not names others n es alike.1)

alike_by : (names others : Names) (n : ℕ) (es : List Entry) → (IsUnlisted n es → IsAlike names others n) → IsUnlisted n es ⊎ IsAlike names others n → IsAlike names others n
alike_by names others n es keeps (inl un) = keeps un
alike_by names others n es keeps (inr alike) = alike

-- names that meet the formulas are their own reading
same_members : (types : List Entry) → AreGrounded types → (names : Names) → AreUnfolded names types → (members : ℕ → Datum → Bool) → IsReading types names members → members ≡ names.is_member
same_members types g names unfolded members r =
    fun_ext (λ n. fun_ext (alike_by (with_members names members) names n types (r.keeps n) (listed_or_not (with_members names members) names n types (one_reading types g (with_members names members) names r.meets unfolded))))

-- ---- truth

pub always_by_readings : (c : Condition) → AreGrounded c.types → HoldsAlways c → HoldsByReadings c
always_by_readings c g holds names = at (a_reading c.types g names)
  where
    at : ((m : ℕ → Datum → Bool) × IsReading c.types names m) → (members : ℕ → Datum → Bool) × IsReading c.types names members × HoldsAt (with_members names members) c
    at (m, r) = (m, r, holds (with_members names m) r.meets)

by_readings_at : (c : Condition) → AreGrounded c.types → (names : Names) → AreUnfolded names c.types → ((members : ℕ → Datum → Bool) × IsReading c.types names members × HoldsAt (with_members names members) c) → HoldsAt names c
by_readings_at c g names unfolded (m, r, holds) = subst (λ (members : ℕ → Datum → Bool). HoldsAt (with_members names members) c) (same_members c.types g names unfolded m r) holds

pub by_readings_always : (c : Condition) → AreGrounded c.types → HoldsByReadings c → HoldsAlways c
by_readings_always c g holds names unfolded = by_readings_at c g names unfolded (holds names)

-- ---- no false formula is true

some_names : Names
some_names = record { datum_of = λ w n. Null; number_of = λ w n. pos 0; is_member = λ n d. false }

false_at : (types : List Entry) → HoldsAlways (record { hyps = []; goal = leaf any_of; types = types }) → ((m : ℕ → Datum → Bool) × IsReading types some_names m) → ⊥
false_at types holds (m, r) = let no_way : false ≡ true = holds (with_members some_names m) r.meets tt in absurd cc

pub nothing_false : (types : List Entry) → AreGrounded types → HoldsAlways (record { hyps = []; goal = leaf any_of; types = types }) → ⊥
nothing_false types g holds = false_at types holds (a_reading types g some_names)
