-- Faults noted one after the other leave the one that goes before all others.
use Rattle.std.proofs.Common.{◌≡◌, ◌<◌, ◌⊎◌, inl, inr, ℕ, zero, suc, Bool, true, false, ◌&&◌, ◌==◌, cond, List, [], ◌∷◌, ◌++◌, Option, Some, None, refl, sym, ap, subst, ◌∙◌, arith, append_assoc}
use Rattle.std.specs.List.{slice_get}
use Rattle.std.specs.Bool.{nat_lt}
use Rattle.std.proofs.lemmas.Bool.{eqb-true, eq-eqb, ltb-true, lt-ltb}
use Rattle.wy_lemmas.proofs.Choices.{false_of as false_by, both_parts as second, or_cases as one_of, or_left, both_true, or_right}
use Rattle.wy_names_scope.specs.declared.fault.Fault.{Fault}
use Rattle.wy_names_scope.specs.Faults.{Found, rank, goes_before, noted}
use Rattle.wy_names.specs.LeastFaults.{all_noted, IsLeast, Gives}

-- by the places, and then by the ranks
record Before (a f : Fault) : Type 0 where
  before : (a.at < f.at) ⊎ ((a.at ≡ f.at) × (rank a.cause < rank f.cause))

before_of : (a f : Fault) → goes_before a.at a.cause f ≡ true → Before a f
before_of a f h = by (one_of (nat_lt a.at f.at) (a.at == f.at && nat_lt (rank a.cause) (rank f.cause)) h)
  where
    by : (nat_lt a.at f.at ≡ true) ⊎ ((a.at == f.at && nat_lt (rank a.cause) (rank f.cause)) ≡ true) → Before a f
    by (inl less) = record { before = inl (ltb-true a.at f.at less) }
    by (inr same) =
        let parts = second (a.at == f.at) (nat_lt (rank a.cause) (rank f.cause)) same in
        record { before = inr (eqb-true a.at f.at parts.0, ltb-true (rank a.cause) (rank f.cause) parts.1) }

of_before : (a f : Fault) → Before a f → goes_before a.at a.cause f ≡ true
of_before a f b = by b.before
  where
    by : (a.at < f.at) ⊎ ((a.at ≡ f.at) × (rank a.cause < rank f.cause)) → goes_before a.at a.cause f ≡ true
    by (inl less) = or_left (nat_lt a.at f.at) (a.at == f.at && nat_lt (rank a.cause) (rank f.cause)) (lt-ltb a.at f.at less)
    by (inr same) =
        or_right (nat_lt a.at f.at) (a.at == f.at && nat_lt (rank a.cause) (rank f.cause))
        (both_true (a.at == f.at) (nat_lt (rank a.cause) (rank f.cause)) (eq-eqb a.at f.at same.0) (lt-ltb (rank a.cause) (rank f.cause) same.1))

chained : (a x f : Fault) → Before a x → Before x f → Before a f
chained a x f b c = by b.before c.before
  where
    by : (a.at < x.at) ⊎ ((a.at ≡ x.at) × (rank a.cause < rank x.cause)) → (x.at < f.at) ⊎ ((x.at ≡ f.at) × (rank x.cause < rank f.cause)) → Before a f
    by (inl p) (inl q) = record { before = inl (omega arith) }
    by (inl p) (inr q) = let same : x.at ≡ f.at = q.0 in record { before = inl (omega arith) }
    by (inr p) (inl q) = let same : a.at ≡ x.at = p.0 in record { before = inl (omega arith) }
    by (inr p) (inr q) =
        let less : rank a.cause < rank x.cause = p.1 in
        let less2 : rank x.cause < rank f.cause = q.1 in
        record { before = inr (p.0 ∙ q.0, omega arith) }

never_itself : (f : Fault) → Before f f → ⊥
never_itself f b = by b.before
  where
    by : (f.at < f.at) ⊎ ((f.at ≡ f.at) × (rank f.cause < rank f.cause)) → ⊥
    by (inl p) = omega arith
    by (inr p) = let less : rank f.cause < rank f.cause = p.1 in omega arith

none_itself : (f : Fault) → goes_before f.at f.cause f ≡ false
none_itself f = false_by (goes_before f.at f.cause f) (λ (h : goes_before f.at f.cause f ≡ true). never_itself f (before_of f f h))

-- what doesn't go before a fault doesn't go before one that goes before it
clash : (b : Bool) → b ≡ false → b ≡ true → ⊥
clash true h k = absurd (cc)
clash false h k = absurd (cc)

still_least : (g x f : Fault) → goes_before g.at g.cause f ≡ false → goes_before x.at x.cause f ≡ true → goes_before g.at g.cause x ≡ false
still_least g x f later before =
    false_by (goes_before g.at g.cause x)
    (λ (h : goes_before g.at g.cause x ≡ true). clash (goes_before g.at g.cause f) later (of_before g f (chained g x f (before_of g x h) (before_of x f before))))

-- ---- one more fault at the end of a list

there_more : (fs : List Fault) (x : Fault) (i : ℕ) (f : Fault) → slice_get fs i ≡ Some f → slice_get (fs ++ x ∷ []) i ≡ Some f
there_more [] x i f h = absurd (cc)
there_more (y ∷ ys) x zero f h = h
there_more (y ∷ ys) x (suc i) f h = there_more ys x i f h

record There (fs : List Fault) (f : Fault) : Type 0 where
  at : ℕ
  is : slice_get fs at ≡ Some f

next_there : (y : Fault) (ys : List Fault) (f : Fault) → There ys f → There (y ∷ ys) f
next_there y ys f t = record { at = suc t.at; is = t.is }

there_last : (fs : List Fault) (x : Fault) → There (fs ++ x ∷ []) x
there_last [] x = record { at = zero; is = refl }
there_last (y ∷ ys) x = next_there y (ys ++ x ∷ []) x (there_last ys x)

or_last : (fs : List Fault) (x : Fault) (i : ℕ) (g : Fault) → slice_get (fs ++ x ∷ []) i ≡ Some g → (slice_get fs i ≡ Some g) ⊎ (x ≡ g)
or_last [] x zero g h = inr cc
or_last [] x (suc i) g h = absurd (cc)
or_last (y ∷ ys) x zero g h = inl h
or_last (y ∷ ys) x (suc i) g h = or_last ys x i g h

least_step : (fs : List Fault) (x f : Fault) → ((i : ℕ) (g : Fault) → slice_get fs i ≡ Some g → goes_before g.at g.cause f ≡ false) → goes_before x.at x.cause f ≡ false
    → (i : ℕ) (g : Fault) → (slice_get fs i ≡ Some g) ⊎ (x ≡ g) → goes_before g.at g.cause f ≡ false
least_step fs x f least own i g (inl h) = least i g h
least_step fs x f least own i g (inr same) = subst (λ (y : Fault). goes_before y.at y.cause f ≡ false) same own

taken : (fs : List Fault) (x f : Fault) → IsLeast fs f → goes_before x.at x.cause f ≡ true → IsLeast (fs ++ x ∷ []) x
taken fs x f l before =
    let t : There (fs ++ x ∷ []) x = there_last fs x in
    record {
      place = t.at;
      there = t.is;
      least = λ (i : ℕ) (g : Fault) (h : slice_get (fs ++ x ∷ []) i ≡ Some g).
          least_step fs x x (λ (j : ℕ) (e : Fault) (k : slice_get fs j ≡ Some e). still_least e x f (l.least j e k) before) (none_itself x) i g (or_last fs x i g h);
    }

kept : (fs : List Fault) (x f : Fault) → IsLeast fs f → goes_before x.at x.cause f ≡ false → IsLeast (fs ++ x ∷ []) f
kept fs x f l later = record {
  place = l.place;
  there = there_more fs x l.place f l.there;
  least = λ (i : ℕ) (g : Fault) (h : slice_get (fs ++ x ∷ []) i ≡ Some g). least_step fs x f l.least later i g (or_last fs x i g h);
}

chosen : (fs : List Fault) (x f : Fault) → IsLeast fs f → (b : Bool) → goes_before x.at x.cause f ≡ b → Gives (fs ++ x ∷ []) (cond b (Some x) (Some f))
chosen fs x f l true h = taken fs x f l h
chosen fs x f l false h = kept fs x f l h

alone : (x : Fault) → IsLeast (x ∷ []) x
alone x = record {
  place = zero;
  there = refl;
  least = λ (i : ℕ) (g : Fault) (h : slice_get (x ∷ []) i ≡ Some g). least_step [] x x (λ (j : ℕ) (e : Fault) (k : slice_get [] j ≡ Some e). absurd (cc)) (none_itself x) i g (or_last [] x i g h);
}

one_more : (fs : List Fault) (found : Found) (x : Fault) → Gives fs found → Gives (fs ++ x ∷ []) (noted found x.at x.cause)
one_more fs None x h = subst (λ (l : List Fault). IsLeast (l ++ x ∷ []) x) (sym h) (alone x)
one_more fs (Some f) x h = chosen fs x f h (goes_before x.at x.cause f) refl

all_more : (rest fs : List Fault) (found : Found) → Gives fs found → Gives (fs ++ rest) (all_noted found rest)
all_more [] fs found h = subst (λ (l : List Fault). Gives l found) (sym (append_nil fs)) h
  where
    append_nil : (l : List Fault) → l ++ [] ≡ l
    append_nil [] = refl
    append_nil (y ∷ ys) = ap (λ t. y ∷ t) (append_nil ys)
all_more (x ∷ xs) fs found h =
    subst (λ (l : List Fault). Gives l (all_noted (noted found x.at x.cause) xs)) (append_assoc fs (x ∷ []) xs) (all_more xs (fs ++ x ∷ []) (noted found x.at x.cause) (one_more fs found x h))

pub least_left : (fs : List Fault) → Gives fs (all_noted None fs)
least_left fs = all_more fs [] None refl
