-- Names that agree below a count, and what stays under that.
use Rattle.std.proofs.Common.{◌≡◌, ℕ, zero, suc, ◌+◌, ◌<◌, ◌≤◌, List, [], ◌∷◌, Bool, true, false, cond, ◌&&◌, ◌||◌, ◌==◌, eqb, Option, Some, None, ℤ, refl, sym, ap, ◌∙◌, subst, arith, eqb-true, bytes_eq}
use Rattle.wy_lemmas.proofs.Choices.{eqb_self as eqb_refl}
use Rattle.wy_lemmas.proofs.Lists.{bytes_self}
use Rattle.wy_value.specs.Datum.{Datum, Whole}
use Rattle.wy_term.specs.Term.{Term}
use Rattle.wy_term.specs.Meaning.{Names, with_number, sense}
use Rattle.wy_sound_terms.specs.wy_sem.Expressions.{Store, slot}
use Rattle.wy_sound_terms.specs.wy_sem.Expressions as store
use Rattle.wy_sound_terms.specs.wy_vc_spec.Variables.{Vars, slot_at, put}
use Rattle.wy_sound_terms.specs.wy_vc_spec.Values.{or_null, variable}
use Rattle.wy_sound_walks.specs.expressions.Names.{Agree, Known, Means, AllMean, Stand, also, Goes}

pub agree_refl : (n : ℕ) (v : Names) → Agree n v v
agree_refl n v = record { datum_of = λ word m lt. refl; number_of = λ word m lt. refl; is_member = refl }

pub agree_trans : (n m : ℕ) (u v w : Names) → n ≤ m → Agree n u v → Agree m v w → Agree n u w
agree_trans n m u v w le h g = record {
  datum_of = λ word k lt. g.datum_of word k (omega arith) ∙ h.datum_of word k lt;
  number_of = λ word k lt. g.number_of word k (omega arith) ∙ h.number_of word k lt;
  is_member = g.is_member ∙ h.is_member;
}

pub agree_less : (n m : ℕ) (v w : Names) → n ≤ m → Agree m v w → Agree n v w
agree_less n m v w le h = agree_trans n m v v w le (agree_refl n v) h

pub goes_agree : (q : Bool) (n : ℕ) (v w : Names) → Goes q n v w → Agree n v w
goes_agree true n v w e = subst (λ (u : Names). Agree n v u) (sym e) (agree_refl n v)
goes_agree false n v w h = h

pub goes_refl : (q : Bool) (n : ℕ) (v : Names) → Goes q n v v
goes_refl true n v = refl
goes_refl false n v = agree_refl n v

pub goes_trans : (q : Bool) (n m : ℕ) (u v w : Names) → n ≤ m → Goes q n u v → Goes q m v w → Goes q n u w
goes_trans true n m u v w le h g = g ∙ h
goes_trans false n m u v w le h g = agree_trans n m u v w le h g

pub right_later : (members : ℕ → Datum → Bool) (n : ℕ) (v w : Names) → v.is_member ≡ members → Agree n v w → w.is_member ≡ members
right_later members n v w e h = h.is_member ∙ e

-- ---- an Int name that is bound

pub agree_number : (n : ℕ) (v : Names) (word : List ℕ) (k : ℕ) (z : ℤ) → n ≤ k → Agree n v (with_number v word k z)
agree_number n v word k z le = record {
  datum_of = λ w m lt. refl;
  number_of = λ w m lt. by w m lt (bytes_eq w word) (m == k) refl;
  is_member = refl;
} where
  by : (w : List ℕ) (m : ℕ) → m < n → (c b : Bool) → (m == k) ≡ b → cond (c && b) z (v.number_of w m) ≡ v.number_of w m
  by w m lt c true e = let h = eqb-true m k e in absurd (omega (arith, h))
  by w m lt true false e = refl
  by w m lt false false e = refl

pub number_at : (v : Names) (word : List ℕ) (k : ℕ) (z : ℤ) → (with_number v word k z).number_of word k ≡ z
number_at v word k z = rw (bytes_self word, eqb_refl k) refl

pub agree_both : (n : ℕ) (v w : Names) (word : List ℕ) (k : ℕ) (z : ℤ) → Agree n v w → Agree n (with_number v word k z) (with_number w word k z)
agree_both n v w word k z h = record {
  datum_of = h.datum_of;
  number_of = λ x m lt. by x m lt (bytes_eq x word && (m == k));
  is_member = h.is_member;
} where
  by : (x : List ℕ) (m : ℕ) → m < n → (b : Bool) → cond b z (w.number_of x m) ≡ cond b z (v.number_of x m)
  by x m lt true = refl
  by x m lt false = h.number_of x m lt

-- ---- what is known, and what terms mean, at later names

pub known_later : (n m : ℕ) (v u : Names) (hyps : List Term) → n ≤ m → Agree n v u → Known n v hyps → Known m u hyps
known_later n m v u hyps le a h w b = h w (agree_trans n m v u w le a b)

pub means_later : (n m : ℕ) (v u : Names) (t : Term) (d : Datum) → n ≤ m → Agree n v u → Means n v t d → Means m u t d
means_later n m v u t d le a h w b = h w (agree_trans n m v u w le a b)

pub all_later : (n m : ℕ) (v u : Names) (ts : List Term) (ds : List Datum) → n ≤ m → Agree n v u → AllMean n v ts ds → AllMean m u ts ds
all_later n m v u [] [] le a h = tt
all_later n m v u [] (d ∷ ds) le a h = absurd h
all_later n m v u (t ∷ ts) [] le a h = absurd h
all_later n m v u (t ∷ ts) (d ∷ ds) le a h = (means_later n m v u t d le a h.0, all_later n m v u ts ds le a h.1)

pub stand_later : (n m : ℕ) (v u : Names) (vars : Vars) (seen : ℕ → Bool) (s : Store) → n ≤ m → Agree n v u → Stand n v vars seen s → Stand m u vars seen s
stand_later n m v u vars seen s le a h x d see e = means_later n m v u (variable vars x) d le a (h x d see e)

-- ---- a variable that has another value

-- the number of the variable, or another one at which both stay
pub put_at : (vars : Vars) (s : Store) (x : ℕ) (t : Term) (v : Option Datum) (y : ℕ) (d : Datum) → slot (store.put s x v) y ≡ Some d
    → (P : Term → Datum → Type 0) → ((e : Datum) → x ≡ y → v ≡ Some e → P t e) → ((e : Datum) → (x ≡ y → ⊥) → slot s y ≡ Some e → P (variable vars y) e) → P (variable (put vars x t) y) d
put_at vars [] x t v y d e P new old = absurd (none d e) where
  none : (c : Datum) → ◌≡◌ {A = Option Datum} None (Some c) → ⊥
  none c q = absurd cc
put_at [] (o ∷ s) zero t v zero d e P new old = new d refl e
put_at [] (o ∷ s) zero t v (suc y) d e P new old = old d (λ q. absurd (omega (arith, q))) e
put_at [] (o ∷ s) (suc x) t v zero d e P new old = old d (λ q. absurd (omega (arith, q))) e
put_at [] (o ∷ s) (suc x) t v (suc y) d e P new old = put_at [] s x t v y d e P (λ c q. new c (ap suc q)) (λ c q. old c (λ p. q (omega (arith, p))))
put_at (u ∷ vars) (o ∷ s) zero t v zero d e P new old = new d refl e
put_at (u ∷ vars) (o ∷ s) zero t v (suc y) d e P new old = old d (λ q. absurd (omega (arith, q))) e
put_at (u ∷ vars) (o ∷ s) (suc x) t v zero d e P new old = old d (λ q. absurd (omega (arith, q))) e
put_at (u ∷ vars) (o ∷ s) (suc x) t v (suc y) d e P new old = put_at vars s x t v y d e P (λ c q. new c (ap suc q)) (λ c q. old c (λ p. q (omega (arith, p))))

-- another variable that may be used could be used before
pub also_other : (x : ℕ) (seen : ℕ → Bool) (y : ℕ) → also x seen y ≡ true → (x ≡ y → ⊥) → seen y ≡ true
also_other x seen y e apart = by (x == y) refl e where
  by : (b : Bool) → (x == y) ≡ b → (b || seen y) ≡ true → seen y ≡ true
  by true q h = absurd (apart (eqb-true x y q))
  by false q h = h

pub stand_put : (n : ℕ) (names : Names) (vars : Vars) (seen : ℕ → Bool) (s : Store) (x : ℕ) (t : Term) (d : Datum) → Stand n names vars seen s → Means n names t d → Stand n names (put vars x t) (also x seen) (store.put s x (Some d))
stand_put n names vars seen s x t d h g y e see q =
    put_at vars s x t (Some d) y e q (λ u c. Means n names u c) (λ c is p. subst (λ (b : Datum). Means n names t b) (same d c p) g) (λ c apart p. h y c (also_other x seen y see apart) p) where
      same : (a b : Datum) → ◌≡◌ {A = Option Datum} (Some a) (Some b) → a ≡ b
      same a b p = cc
