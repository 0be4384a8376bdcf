-- Stores at points: at later names, with more names made, and among more points.
use Rattle.std.proofs.Common.{◌≡◌, inl, inr, ℕ, ◌≤◌, List, [], ◌∷◌, ◌++◌, Option, Some, None, refl, ap, subst}
use Rattle.wy_term.specs.Term.{Term}
use Rattle.wy_term.specs.Sorts.{val_sort}
use Rattle.wy_term.specs.Meaning.{Names}
use Rattle.wy_sound_kinds.specs.wy_sem.Meter.{Outcome, Done, Fault, More, Spent}
use Rattle.wy_sound_kinds.specs.wy_sem.Expressions.{Store}
use Rattle.wy_sound_kinds.specs.wy_vc_spec.Variables.{Vars}
use Rattle.wy_sound_kinds.specs.wy_vc_spec.Spots.{Spot, is_set, as_list}
use Rattle.wy_sound_kinds.proofs.wy_sound_terms_proofs.formed_lemmas.MakingLemmas.{AllOf, more}
use Rattle.wy_sound_kinds.proofs.wy_sound_terms_proofs.formed_lemmas.ValueLemmas.{IsDatum, datum, AreData, next}
use Rattle.wy_sound_kinds.specs.wy_sound_walks.expressions.Names.{Agree}
use Rattle.wy_sound_kinds.specs.wy_sound_walks.expressions.Truth.{Good}
use Rattle.wy_sound_kinds.specs.wy_sound_walks.expressions.Laws.{IsValTerm, AreValTerms}
use Rattle.wy_sound_kinds.proofs.wy_sound_walks_proofs.expressions_lemmas.NameLemmas.{agree_refl, agree_trans, known_later, stand_later}
use Rattle.wy_sound_kinds.specs.wy_sound_walks.joins.Points.{At}
use Rattle.wy_sound_kinds.specs.wy_sound_walks.joins.Joins.{IsOne, ArePoints, AtEnd}
use Rattle.wy_sound_statements.specs.calls.CallLaws.{AreValues}
use Rattle.wy_sound_kinds.specs.wy_sound_walks.depends.Begins.{Begins, AllBegin, EndBegins}
use Rattle.wy_sound_kinds.proofs.wy_sound_walks_proofs.points_lemmas.SetLemmas.{AllPoints, as_point}
use Rattle.wy_sound_statements.specs.Ends.{AtSome}

-- ---- points

pub at_more : (n m l : ℕ) (names : Names) (p : Spot) (s : Store) → m ≤ l → At n names m p s → At n names l p s
at_more n m l names p s le h = record {
  later = h.later;
  agree = h.agree;
  known = known_later m l h.later h.later p.hyps le (agree_refl m h.later) h.known;
  stand = stand_later m l h.later h.later p.vars (is_set p.set) s le (agree_refl m h.later) h.stand;
}

-- names that agree with earlier ones
pub at_back : (n m l : ℕ) (names later : Names) (p : Spot) (s : Store) → n ≤ m → Agree n names later → At m later l p s → At n names l p s
at_back n m l names later p s le a h = record { later = h.later; agree = agree_trans n m names later h.later le a h.agree; known = h.known; stand = h.stand }

pub end_back : (n m l : ℕ) (names later : Names) (o : Option Spot) (s : Store) → n ≤ m → Agree n names later → AtEnd m later l o s → AtEnd n names l o s
end_back n m l names later None s le a h = absurd h
end_back n m l names later (Some p) s le a h = at_back n m l names later p s le a h

pub one_left : {X : Type 0} (p : X) (ps qs : List X) → IsOne p ps → IsOne p (ps ++ qs)
one_left p [] qs h = absurd h
one_left p (r ∷ ps) qs (inl e) = inl e
one_left p (r ∷ ps) qs (inr h) = inr (one_left p ps qs h)

pub one_right : {X : Type 0} (p : X) (ps qs : List X) → IsOne p qs → IsOne p (ps ++ qs)
one_right p [] qs h = h
one_right p (r ∷ ps) qs h = inr (one_right p ps qs h)

pub some_left : (n m l : ℕ) (names : Names) (ps qs : List Spot) (s : Store) → m ≤ l → AtSome n names m ps s → AtSome n names l (ps ++ qs) s
some_left n m l names ps qs s le h = (h.0, one_left h.0 ps qs h.1, at_more n m l names h.0 s le h.2)

pub some_right : (n m l : ℕ) (names : Names) (ps qs : List Spot) (s : Store) → m ≤ l → AtSome n names m qs s → AtSome n names l (ps ++ qs) s
some_right n m l names ps qs s le h = (h.0, one_right h.0 ps qs h.1, at_more n m l names h.0 s le h.2)

-- the end of a flow is one of the points that come together
pub end_some : (n m : ℕ) (names : Names) (o : Option Spot) (s : Store) → AtEnd n names m o s → AtSome n names m (as_list o) s
end_some n m names None s h = absurd h
end_some n m names (Some p) s h = (p, inl refl, h)

-- points that begin with the same hypotheses
pub are_points : (n : ℕ) (base : List Term) (ps : List Spot) → AllPoints n ps → AllBegin base ps → ArePoints n base ps
are_points n base [] h g = tt
are_points n base (p ∷ ps) h g = (as_point n p h.0, g.0, are_points n base ps h.1 g.1)

pub list_begins : (base : List Term) (o : Option Spot) → EndBegins base o → AllBegin base (as_list o)
list_begins base None h = tt
list_begins base (Some p) h = (h, tt)

pub both_begin : (base : List Term) (ps qs : List Spot) → AllBegin base ps → AllBegin base qs → AllBegin base (ps ++ qs)
both_begin base [] qs h g = g
both_begin base (p ∷ ps) qs h g = (h.0, both_begin base ps qs h.1 g)

pub begins_less : (a b c : List Term) → Begins a b → Begins b c → Begins a c
begins_less a b c h g = (h.0 ++ g.0, subst (λ (l : List Term). c ≡ l) (assoc a h.0 g.0) (subst (λ (l : List Term). c ≡ l ++ g.0) h.1 g.1)) where
  assoc : (xs ys zs : List Term) → (xs ++ ys) ++ zs ≡ xs ++ (ys ++ zs)
  assoc [] ys zs = refl
  assoc (x ∷ xs) ys zs = ap (λ (l : List Term). x ∷ l) (assoc xs ys zs)

pub end_begins_less : (a b : List Term) (o : Option Spot) → Begins a b → EndBegins b o → EndBegins a o
end_begins_less a b None h g = tt
end_begins_less a b (Some p) h g = begins_less a b p.hyps h g

pub all_begin_less : (a b : List Term) (ps : List Spot) → Begins a b → AllBegin b ps → AllBegin a ps
all_begin_less a b [] h g = tt
all_begin_less a b (p ∷ ps) h g = (begins_less a b p.hyps h g.0, all_begin_less a b ps h g.1)

-- ---- terms

val_if : (o : Option Term) → IsDatum o → IsValTerm o
val_if None h = tt
val_if (Some t) (datum h) = h.has

pub val_terms : (vars : Vars) → AreData vars → AreValTerms vars
val_terms [] h = tt
val_terms (v ∷ vs) (next d h) = (val_if v d, val_terms vs h)

pub are_values : (ts : List Term) → AllOf val_sort ts → AreValues ts
are_values [] h = tt
are_values (t ∷ ts) (more h r) = (h.has, are_values ts r)

-- ---- two things that are known of an evaluation

pub good_both : {X : Type 0} (A : Type 0) (o : Outcome X) (P Q : X → Type 0) → Good A o P → Good A o Q → Good A o (λ x. P x × Q x)
good_both A (Done x m) P Q h g = (h, g)
good_both A (Fault kind at m) P Q h g = h
good_both A (More m) P Q h g = tt
good_both A Spent P Q h g = tt
