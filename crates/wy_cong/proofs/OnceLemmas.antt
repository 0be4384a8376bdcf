-- Terms listed once each, and the first that passes a test.
use Rattle.std.proofs.Common.{◌≡◌, ◌||◌, Bool, true, false, cond, List, [], ◌∷◌, ◌++◌, Option, Some, None, refl, sym, ap, subst, ◌∙◌}
use Rattle.wy_search_spec.specs.wy_check_spec.judge.Node.{has_formula}
use Rattle.wy_lemmas.proofs.Choices.{or_none as or_no}
use Rattle.wy_search_spec.specs.Splitting.{atoms_in, atoms_in_parts, atoms_of, joined_atoms, or_else}
use Rattle.wy_cong.specs.Once.{first_by, once}
use Rattle.wy_cong.specs.Unmet.{ArePlain}
use Rattle.wy_term.proofs.SameLemmas.{terms_are}
use Rattle.wy_term.specs.Same.{same_term}
use Rattle.wy_term.specs.Term.{Term, Of, Parts, no_parts, part, denied, all_of, any_of}

-- ---- one list behind another

abbrev pub with_one : List Term → Term → List Term
with_one done t = cond (has_formula done t) done (done ++ t ∷ [])

pub once_joined : (done xs ys : List Term) → once done (xs ++ ys) ≡ once (once done xs) ys
once_joined done [] ys = refl
once_joined done (x ∷ xs) ys = once_joined (with_one done x) xs ys

-- ---- the first that passes

or_none : (o : Option Term) → or_else o None ≡ o
or_none None = refl
or_none (Some a) = refl

or_joined : (o p q : Option Term) → or_else (or_else o p) q ≡ or_else o (or_else p q)
or_joined None p q = refl
or_joined (Some a) p q = refl

abbrev chosen : Bool → Term → Option Term → Option Term
chosen b t o = cond b (Some t) o

first_joined : (test : Term → Bool) (xs ys : List Term) → first_by test (xs ++ ys) ≡ or_else (first_by test xs) (first_by test ys)
first_joined test [] ys = refl
first_joined test (x ∷ xs) ys = by (first_joined test xs ys) (test x)
  where
    by : first_by test (xs ++ ys) ≡ or_else (first_by test xs) (first_by test ys) → (b : Bool) → chosen b x (first_by test (xs ++ ys)) ≡ or_else (chosen b x (first_by test xs)) (first_by test ys)
    by rest true = refl
    by rest false = rest

first_of_one : (test : Term → Bool) (t : Term) (o : Option Term) → or_else (first_by test (t ∷ [])) o ≡ chosen (test t) t o
first_of_one test t o = by (test t)
  where
    by : (b : Bool) → or_else (chosen b t None) o ≡ chosen b t o
    by true = refl
    by false = refl

some_none : (t : Term) (P : Type 0) → Some t ≡ None → P
some_none t P e = absurd (cc)

-- a term that is listed doesn't pass where none does
not_passed : (test : Term → Bool) (done : List Term) (t : Term) → has_formula done t ≡ true → first_by test done ≡ None → test t ≡ false
not_passed test [] t has none = absurd (cc)
not_passed test (g ∷ gs) t has none = by (not_passed test gs t) (same_term g t) refl has (test g) refl none
  where
    by : (has_formula gs t ≡ true → first_by test gs ≡ None → test t ≡ false) → (b : Bool) → same_term g t ≡ b → cond b true (has_formula gs t) ≡ true → (c : Bool) → test g ≡ c → chosen c g (first_by test gs) ≡ None → test t ≡ false
    by rest b same here true passes nothing = some_none g (test t ≡ false) nothing
    by rest true same here false fails nothing = ap test (sym (terms_are g t same)) ∙ fails
    by rest false same here false fails nothing = rest here nothing

known : (test : Term → Bool) (done : List Term) (t : Term) (rest o : Option Term) → first_by test done ≡ o → has_formula done t ≡ true → or_else o rest ≡ or_else o (chosen (test t) t rest)
known test done t rest (Some a) is has = refl
known test done t rest None is has = ap (λ (b : Bool). chosen b t rest) (sym (not_passed test done t has is))

-- by whether the term is listed already
listed_or : (test : Term → Bool) (done : List Term) (t : Term) (ts : List Term) → ((d : List Term) → first_by test (once d ts) ≡ or_else (first_by test d) (first_by test ts))
    → (b : Bool) → has_formula done t ≡ b → first_by test (once (cond b done (done ++ t ∷ [])) ts) ≡ or_else (first_by test done) (chosen (test t) t (first_by test ts))
listed_or test done t ts rest true has = rest done ∙ known test done t (first_by test ts) (first_by test done) refl has
listed_or test done t ts rest false has =
    rest (done ++ t ∷ [])
    ∙ ap (λ (o : Option Term). or_else o (first_by test ts)) (first_joined test done (t ∷ []))
    ∙ or_joined (first_by test done) (first_by test (t ∷ [])) (first_by test ts)
    ∙ ap (or_else (first_by test done)) (first_of_one test t (first_by test ts))

pub first_once : (test : Term → Bool) (done xs : List Term) → first_by test (once done xs) ≡ or_else (first_by test done) (first_by test xs)
first_once test done [] = sym (or_none (first_by test done))
first_once test done (t ∷ ts) = listed_or test done t ts (λ d. first_once test d ts) (has_formula done t) refl

-- ---- which terms are listed

has_last : (done : List Term) (x t : Term) → has_formula (done ++ x ∷ []) t ≡ (has_formula done t || same_term x t)
has_last [] x t = by (same_term x t)
  where
    by : (b : Bool) → cond b true false ≡ b
    by true = refl
    by false = refl
has_last (d ∷ ds) x t = by (has_last ds x t) (same_term d t)
  where
    by : has_formula (ds ++ x ∷ []) t ≡ (has_formula ds t || same_term x t) → (b : Bool) → cond b true (has_formula (ds ++ x ∷ []) t) ≡ (cond b true (has_formula ds t) || same_term x t)
    by rest true = refl
    by rest false = rest

here_already : (d s r : Bool) → (s ≡ true → d ≡ true) → (d || r) ≡ (d || cond s true r)
here_already true s r h = refl
here_already false true r h = let e : false ≡ true = h refl in absurd (cc)
here_already false false r h = refl

here_now : (d s r : Bool) → ((d || s) || r) ≡ (d || cond s true r)
here_now true s r = refl
here_now false true r = refl
here_now false false r = refl

has_or : (done : List Term) (x : Term) (xs : List Term) (t : Term) (b : Bool) → has_formula done x ≡ b → (has_formula (cond b done (done ++ x ∷ [])) t || has_formula xs t) ≡ (has_formula done t || cond (same_term x t) true (has_formula xs t))
has_or done x xs t true e = here_already (has_formula done t) (same_term x t) (has_formula xs t) (λ s. ap (has_formula done) (sym (terms_are x t s)) ∙ e)
has_or done x xs t false e = ap (λ (b : Bool). b || has_formula xs t) (has_last done x t) ∙ here_now (has_formula done t) (same_term x t) (has_formula xs t)

pub has_once : (done xs : List Term) (t : Term) → has_formula (once done xs) t ≡ (has_formula done t || has_formula xs t)
has_once done [] t = sym (or_no (has_formula done t))
has_once done (x ∷ xs) t = has_once (with_one done x) xs t ∙ has_or done x xs t (has_formula done x) refl

-- ---- that they are atoms

plain_joined : (xs ys : List Term) → ArePlain xs → ArePlain ys → ArePlain (xs ++ ys)
plain_joined [] ys p q = q
plain_joined (x ∷ xs) ys p q = (p.0, plain_joined xs ys p.1 q)

mutual
  plain_atoms : (f : Term) → ArePlain (atoms_in f)
  plain_atoms (Of denied ps) = plain_parts ps
  plain_atoms (Of all_of ps) = plain_parts ps
  plain_atoms (Of any_of ps) = plain_parts ps
  plain_atoms t = (refl, tt)

  plain_parts : (ps : Parts) → ArePlain (joined_atoms (atoms_in_parts ps))
  plain_parts no_parts = tt
  plain_parts (part f fs) = plain_joined (atoms_in f) (joined_atoms (atoms_in_parts fs)) (plain_atoms f) (plain_parts fs)

pub plain_all : (fs : List Term) → ArePlain (atoms_of fs)
plain_all [] = tt
plain_all (f ∷ fs) = plain_joined (atoms_in f) (atoms_of fs) (plain_atoms f) (plain_all fs)

plain_once : (done xs : List Term) → ArePlain done → ArePlain xs → ArePlain (once done xs)
plain_once done [] p q = p
plain_once done (x ∷ xs) p q = plain_once (with_one done x) xs (by (has_formula done x)) q.1
  where
    by : (b : Bool) → ArePlain (cond b done (done ++ x ∷ []))
    by true = p
    by false = plain_joined done (x ∷ []) p (q.0, tt)

pub plain_listed : (ts fs : List Term) → ts ≡ once [] (atoms_of fs) → ArePlain ts
plain_listed ts fs is = subst ArePlain (sym is) (plain_once [] (atoms_of fs) tt (plain_all fs))
