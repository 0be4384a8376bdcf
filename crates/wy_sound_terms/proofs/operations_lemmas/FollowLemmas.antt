-- Runs that end exactly where goals hold.
use Rattle.std.proofs.Common.{◌≡◌, ◌⊎◌, inl, inr, ℕ, List, [], ◌∷◌, ◌++◌, Bool, true, false, refl, sym, ap, ◌∙◌, subst}
use Rattle.wy_lemmas.proofs.Choices.{true_false as not_both, both_parts as and_true, both_true}
use Rattle.wy_term_subst.specs.wy_value.Datum.{Datum}
use Rattle.wy_term_subst.specs.wy_term.declared.cond.CondKind.{CondKind}
use Rattle.wy_term_subst.specs.wy_term.Term.{Term}
use Rattle.wy_term_subst.specs.wy_term.Meaning.{Names}
use Rattle.wy_term_subst.specs.wy_term.Condition.{AllTrue}
use Rattle.wy_vc_spec.specs.wy_sem.Meter.{Meter, Outcome, Done, Fault, Run, check}
use Rattle.wy_sound_terms.specs.operations.Agreement.{Follows, IsFault, datum_of}
use Rattle.wy_sound_terms.proofs.operations_lemmas.MadeLemmas.{holds, all}

-- each of the formulas is true
pub all_true : (names : Names) (fs : List Term) → all names fs ≡ true → AllTrue names fs
all_true names [] e = tt
all_true names (f ∷ fs) e = let two = and_true (holds names f) (all names fs) e in (two.0, all_true names fs two.1)

pub true_all : (names : Names) (fs : List Term) → AllTrue names fs → all names fs ≡ true
true_all names [] h = refl
true_all names (f ∷ fs) h = both_true (holds names f) (all names fs) h.0 (true_all names fs h.1)

pub true_before : (names : Names) (fs gs : List Term) → AllTrue names fs → AllTrue names gs → AllTrue names (fs ++ gs)
true_before names [] gs h g = g
true_before names (f ∷ fs) gs h g = (h.0, true_before names fs gs h.1 g)

pub true_first : (names : Names) (fs gs : List Term) → AllTrue names (fs ++ gs) → AllTrue names fs
true_first names [] gs h = tt
true_first names (f ∷ fs) gs h = (h.0, true_first names fs gs h.1)

pub true_second : (names : Names) (fs gs : List Term) → AllTrue names (fs ++ gs) → AllTrue names gs
true_second names [] gs h = h
true_second names (f ∷ fs) gs h = true_second names fs gs h.1

abbrev done : Datum → Meter → Outcome Datum
done x k = Done x k

-- the run ends with what the term means, and owes nothing
pub follows_done : (names : Names) (d : Datum) (t : Term) → datum_of names t ≡ d → Follows names [] (Done d) t
follows_done names d t e m = inl (tt, ap (λ (x : Datum). done x m) (sym e))

-- a check, and what follows it
pub follows_check : (names : Names) (fs gs : List Term) (b : Bool) (kind : CondKind) (at : ℕ) (next : Run Datum) (t : Term) → all names fs ≡ b → (b ≡ true → Follows names gs next t) → Follows names (fs ++ gs) (check b kind at next) t
follows_check names fs gs true kind at next t e f m = by (f refl m) where
  by : (AllTrue names gs × (next m ≡ Done (datum_of names t) m)) ⊎ ((AllTrue names gs → ⊥) × IsFault (next m)) → (AllTrue names (fs ++ gs) × (next m ≡ Done (datum_of names t) m)) ⊎ ((AllTrue names (fs ++ gs) → ⊥) × IsFault (next m))
  by (inl h) = inl (true_before names fs gs (all_true names fs e) h.0, h.1)
  by (inr h) = inr ((λ g. h.0 (true_second names fs gs g)), h.1)
follows_check names fs gs false kind at next t e f m = inr ((λ g. absurd (not_both (all names fs) (true_all names fs (true_first names fs gs g)) e)), (kind, at, m, refl))

-- the same where the check is the last step
pub follows_checked : (names : Names) (fs : List Term) (b : Bool) (kind : CondKind) (at : ℕ) (d : Datum) (t : Term) → all names fs ≡ b → (b ≡ true → datum_of names t ≡ d) → Follows names fs (check b kind at (Done d)) t
follows_checked names fs true kind at d t e f m = inl (all_true names fs e, ap (λ (x : Datum). done x m) (sym (f refl)))
follows_checked names fs false kind at d t e f m = inr ((λ g. absurd (not_both (all names fs) (true_all names fs g) e)), (kind, at, m, refl))

-- another run that is the same, under other goals that are the same
pub follows_same : (names : Names) (goals : List Term) (run other : Run Datum) (t : Term) → ((m : Meter) → run m ≡ other m) → Follows names goals run t → Follows names goals other t
follows_same names goals run other t e h m = by (h m) where
  by : (AllTrue names goals × (run m ≡ Done (datum_of names t) m)) ⊎ ((AllTrue names goals → ⊥) × IsFault (run m)) → (AllTrue names goals × (other m ≡ Done (datum_of names t) m)) ⊎ ((AllTrue names goals → ⊥) × IsFault (other m))
  by (inl g) = inl (g.0, sym (e m) ∙ g.1)
  by (inr g) = inr (g.0, (g.1.0, g.1.1, g.1.2, sym (e m) ∙ g.1.3))
