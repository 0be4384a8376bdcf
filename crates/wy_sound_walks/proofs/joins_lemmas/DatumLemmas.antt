-- A Val name that stands for another datum.
use Rattle.std.proofs.Common.{◌≡◌, ℕ, ◌<◌, ◌≤◌, List, [], ◌∷◌, Bool, true, false, cond, ◌&&◌, ◌==◌, refl, ap, ◌∙◌, arith, eqb-true, bytes_eq}
use Rattle.wy_lemmas.proofs.Choices.{eqb_self as eqb_refl}
use Rattle.wy_lemmas.proofs.Lists.{bytes_self}
use Rattle.wy_sound_terms.proofs.wy_sem_proofs.SharedLemmas.{agrees_self}
use Rattle.wy_value.specs.Datum.{Datum, Data, no_items, item, Fields, no_fields, field, Null, Truth, Whole, Array, Record}
use Rattle.wy_value.specs.Datum as datum
use Rattle.wy_term.specs.Term.{Term}
use Rattle.wy_term.specs.Meaning.{Names, with_datum, sense}
use Rattle.wy_sound_terms.specs.wy_sem.Operations.{same_number, same, same_items, same_fields}
use Rattle.std.proofs.lemmas.Int.{ints}
use Rattle.std.proofs.Common.{ℤ, int_le}
use Rattle.wy_sound_terms.specs.wy_vc_spec.Making.{val_name, equal}
use Rattle.wy_sound_terms.proofs.operations_lemmas.MadeLemmas.{holds as true_at, equal_means}
use Rattle.wy_sound_walks.specs.expressions.Names.{Agree}

pub agree_datum : (n : ℕ) (v : Names) (word : List ℕ) (k : ℕ) (d : Datum) → n ≤ k → Agree n v (with_datum v word k d)
agree_datum n v word k d le = record {
  datum_of = λ w m lt. by w m lt (bytes_eq w word) (m == k) refl;
  number_of = λ w m lt. refl;
  is_member = refl;
} where
  by : (w : List ℕ) (m : ℕ) → m < n → (c b : Bool) → (m == k) ≡ b → cond (c && b) d (v.datum_of w m) ≡ v.datum_of w m
  by w m lt c true e = let h = eqb-true m k e in absurd (omega (arith, h))
  by w m lt true false e = refl
  by w m lt false false e = refl

pub datum_at : (v : Names) (word : List ℕ) (k : ℕ) (d : Datum) → (with_datum v word k d).datum_of word k ≡ d
datum_at v word k d = rw (bytes_self word, eqb_refl k) refl

same_number_self : (z : ℤ) → same_number z z ≡ true
same_number_self z = grind (arith, ints)

mutual
  pub same_self : (d : Datum) → same d d ≡ true
  same_self Null = refl
  same_self (Truth b) = agrees_self b
  same_self (Whole z) = same_number_self z
  same_self (Array ds) = items_self ds
  same_self (Record fs) = fields_self fs

  items_self : (ds : Data) → same_items ds ds ≡ true
  items_self no_items = refl
  items_self (item d ds) = rw (same_self d, items_self ds) refl

  fields_self : (fs : Fields) → same_fields fs fs ≡ true
  fields_self no_fields = refl
  fields_self (field n d fs) = rw (bytes_self n, same_self d, fields_self fs) refl

-- the equation of two terms that mean the same
pub equal_true : (u : Names) (s t : Term) (d : Datum) → (sense u s).datum ≡ d → (sense u t).datum ≡ d → true_at u (equal s t) ≡ true
equal_true u s t d e f = equal_means u s t ∙ ap (λ (a : Datum). same a (sense u t).datum) e ∙ ap (same d) f ∙ same_self d
