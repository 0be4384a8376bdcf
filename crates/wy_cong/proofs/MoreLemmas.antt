-- What is judged yes or no stays so with one literal more, of an atom that was undecided.
use Rattle.std.proofs.Common.{◌≡◌, ◌∙◌, ◌&&◌, ◌||◌, ℕ, Option, Some, None, Bool, true, false, cond, List, [], ◌∷◌, ◌++◌, inl, inr, refl, sym, ap, subst}
use Rattle.std.specs.Bool.{beq}
use Rattle.std.specs.Prelude.{IfSome}
use Rattle.wy_cong.proofs.DecidingLemmas.{verdict_by}
use Rattle.wy_cong.specs.Unmet.{meets, with_one, HasOpen, HasTwoOpen, IsNeeded, IsOpenPart, IsSafe, IsSafeBut, IsSelfOrOpen, StaysOpen}
use Rattle.wy_search_spec.specs.wy_check_spec.judge.Judgement.{turned, both, either, of_atom, judged, judged_all, judged_any}
use Rattle.wy_search_spec.specs.wy_check_spec.judge.Node.{Literal, has_formula, has_literal, same_literal}
use Rattle.wy_search_spec.specs.wy_check_spec.declared.judge.verdict.Verdict.{Verdict}
use Rattle.wy_search_spec.specs.wy_check_spec.declared.judge.verdict.Verdict.TheVariants.{Yes, No, Open}
use Rattle.wy_check_splits.proofs.wy_check_nodes_proofs.JudgingLemmas.{both_no, either_yes, no_by_sign}
use Rattle.wy_lemmas.proofs.Choices.{or_none as or_no, or_true as or_so, both_parts as both_so}
use Rattle.wy_search_spec.specs.Splitting.{atoms_in, atoms_in_parts, is_open, joined_atoms}
use Rattle.wy_term.proofs.SameLemmas.{terms_are, terms_self}
use Rattle.wy_term.specs.Same.{same_term}
use Rattle.wy_term.specs.Term as term
use Rattle.wy_check_splits.specs.wy_check_nodes.Judged.{fails, is_connective}
use Rattle.wy_check_splits.specs.wy_check_nodes.Seen.{signed}
use Rattle.wy_term.specs.Term.{Term, Of, Parts, no_parts, part, Not}
use Rattle.wy_search_spec.specs.wy_check_spec.valid.Literals.{any_no, is_no}

abbrev literal : Term → Bool → Literal
literal a holds = record { atom = a; holds = holds }

-- ---- verdicts

-- where the first says yes or no, the second says it too
abbrev Keeps : Verdict → Verdict → Type 0
Keeps Yes w = w ≡ Yes
Keeps No w = w ≡ No
Keeps Open w = Unit {0}

keeps_turned : (v a : Verdict) → Keeps v a → Keeps (turned v) (turned a)
keeps_turned Yes a h = ap turned h
keeps_turned No a h = ap turned h
keeps_turned Open a h = tt

keeps_both : (v w a b : Verdict) → Keeps v a → Keeps w b → Keeps (both v w) (both a b)
keeps_both No w a b h k = ap (λ (x : Verdict). both x b) h
keeps_both Yes w a b h k = subst (λ (x : Verdict). Keeps w (both x b)) (sym h) k
keeps_both Open No a b h k = ap (both a) k ∙ both_no a
keeps_both Open Yes a b h k = tt
keeps_both Open Open a b h k = tt

keeps_either : (v w a b : Verdict) → Keeps v a → Keeps w b → Keeps (either v w) (either a b)
keeps_either Yes w a b h k = ap (λ (x : Verdict). either x b) h
keeps_either No w a b h k = subst (λ (x : Verdict). Keeps w (either x b)) (sym h) k
keeps_either Open Yes a b h k = ap (either a) k ∙ either_yes a
keeps_either Open No a b h k = tt
keeps_either Open Open a b h k = tt

-- ---- atoms

has_more : (ls : List Literal) (k l : Literal) → has_literal (ls ++ k ∷ []) l ≡ (has_literal ls l || same_literal k l)
has_more [] k l = by (same_literal k l)
  where
    by : (b : Bool) → cond b true false ≡ b
    by true = refl
    by false = refl
has_more (m ∷ ms) k l = by (same_literal m l) (has_more ms k l)
  where
    by : (b : Bool) → has_literal (ms ++ k ∷ []) l ≡ (has_literal ms l || same_literal k l) → cond b true (has_literal (ms ++ k ∷ []) l) ≡ (cond b true (has_literal ms l) || same_literal k l)
    by true h = refl
    by false h = h

-- an undecided atom isn't one that is decided
another : (ls : List Literal) (a t : Term) (holds h : Bool) → is_open (of_atom ls a) ≡ true → is_open (of_atom ls t) ≡ false → same_literal (literal a holds) (literal t h) ≡ false
another ls a t holds h up un_so = by (same_literal (literal a holds) (literal t h)) refl
  where
    by : (b : Bool) → same_literal (literal a holds) (literal t h) ≡ b → b ≡ false
    by false e = refl
    by true e =
        let one : a ≡ t = terms_are a t (both_so (same_term a t) (beq holds h) e).0 in
        sym up ∙ ap (λ (u : Term). is_open (of_atom ls u)) one ∙ un_so

keeps_atom : (ls : List Literal) (a : Term) (holds : Bool) (t : Term) → is_open (of_atom ls a) ≡ true → Keeps (of_atom ls t) (of_atom (ls ++ literal a holds ∷ []) t)
keeps_atom ls a holds t up = by (has_literal ls (literal t true)) (has_literal ls (literal t false)) refl refl
  where
    by : (b c : Bool) → has_literal ls (literal t true) ≡ b → has_literal ls (literal t false) ≡ c → Keeps (verdict_by b c) (of_atom (with_one ls a holds) t)
    by true c e f =
        let has : has_literal (with_one ls a holds) (literal t true) ≡ true = has_more ls (literal a holds) (literal t true) ∙ ap (λ (x : Bool). x || same_literal (literal a holds) (literal t true)) e in
        ap (λ (x : Bool). verdict_by x (has_literal (with_one ls a holds) (literal t false))) has
    by false true e f =
        let is : is_open (of_atom ls t) ≡ false = ap is_open (ap (λ (x : Bool). verdict_by x (has_literal ls (literal t false))) e ∙ ap (verdict_by false) f) in
        let un_so : has_literal (with_one ls a holds) (literal t true) ≡ false = has_more ls (literal a holds) (literal t true) ∙ ap (λ (x : Bool). x || same_literal (literal a holds) (literal t true)) e ∙ another ls a t holds true up is in
        let has : has_literal (with_one ls a holds) (literal t false) ≡ true = has_more ls (literal a holds) (literal t false) ∙ ap (λ (x : Bool). x || same_literal (literal a holds) (literal t false)) f in
        ap (λ (x : Bool). verdict_by x (has_literal (with_one ls a holds) (literal t false))) un_so ∙ ap (verdict_by false) has
    by false false e f = tt

-- ---- formulas

mutual
  keeps_judged : (ls : List Literal) (a : Term) (holds : Bool) (f : Term) → is_open (of_atom ls a) ≡ true → Keeps (judged ls f) (judged (ls ++ literal a holds ∷ []) f)
  keeps_judged ls a holds (Of term.denied (part f no_parts)) up = keeps_turned (judged ls f) (judged (ls ++ literal a holds ∷ []) f) (keeps_judged ls a holds f up)
  keeps_judged ls a holds (Of term.all_of ps) up = keeps_all ls a holds ps up
  keeps_judged ls a holds (Of term.any_of ps) up = keeps_any ls a holds ps up
  keeps_judged ls a holds t up = keeps_atom ls a holds t up

  keeps_all : (ls : List Literal) (a : Term) (holds : Bool) (ps : Parts) → is_open (of_atom ls a) ≡ true → Keeps (judged_all ls ps) (judged_all (ls ++ literal a holds ∷ []) ps)
  keeps_all ls a holds no_parts up = refl
  keeps_all ls a holds (part f fs) up =
      keeps_both (judged ls f) (judged_all ls fs) (judged (ls ++ literal a holds ∷ []) f) (judged_all (ls ++ literal a holds ∷ []) fs) (keeps_judged ls a holds f up) (keeps_all ls a holds fs up)

  keeps_any : (ls : List Literal) (a : Term) (holds : Bool) (ps : Parts) → is_open (of_atom ls a) ≡ true → Keeps (judged_any ls ps) (judged_any (ls ++ literal a holds ∷ []) ps)
  keeps_any ls a holds no_parts up = refl
  keeps_any ls a holds (part f fs) up =
      keeps_either (judged ls f) (judged_any ls fs) (judged (ls ++ literal a holds ∷ []) f) (judged_any (ls ++ literal a holds ∷ []) fs) (keeps_judged ls a holds f up) (keeps_any ls a holds fs up)

-- ---- formulas that are judged yes

yes_safe : (v w : Verdict) (holds : Bool) → meets v holds ≡ true → Keeps v w → fails w holds ≡ false
yes_safe Yes w true e keeps = ap (λ (x : Verdict). fails x true) keeps
yes_safe Yes w false e keeps = absurd (cc)
yes_safe No w true e keeps = absurd (cc)
yes_safe No w false e keeps = ap (λ (x : Verdict). fails x false) keeps
yes_safe Open w holds e keeps = absurd (cc)

pub met_safe : (ls : List Literal) (f : Term) (holds : Bool) (v : Verdict) → v ≡ judged ls f → meets v holds ≡ true → IsSafe ls (signed f holds)
met_safe ls f holds v is met =
    λ a sign up. no_by_sign (with_one ls a sign) f holds ∙ yes_safe (judged ls f) (judged (with_one ls a sign) f) holds (ap (λ (x : Verdict). meets x holds) (sym is) ∙ met) (keeps_judged ls a sign f up)

-- ---- members that stay open

absent_both : (ls : List Literal) (c : Term) (h : Bool) → is_open (of_atom ls c) ≡ true → has_literal ls (literal c h) ≡ false
absent_both ls c true up = by (has_literal ls (literal c true)) (has_literal ls (literal c false)) up
  where
    by : (b d : Bool) → is_open (verdict_by b d) ≡ true → b ≡ false
    by true d e = absurd (cc)
    by false d e = refl
absent_both ls c false up = by (has_literal ls (literal c true)) (has_literal ls (literal c false)) up
  where
    by : (b d : Bool) → is_open (verdict_by b d) ≡ true → d ≡ false
    by true d e = absurd (cc)
    by false true e = absurd (cc)
    by false false e = refl

absent_still : (ls : List Literal) (a c : Term) (holds h : Bool) → is_open (of_atom ls c) ≡ true → same_term a c ≡ false → has_literal (with_one ls a holds) (literal c h) ≡ false
absent_still ls a c holds h up apart =
    has_more ls (literal a holds) (literal c h) ∙ ap (λ (x : Bool). x || same_literal (literal a holds) (literal c h)) (absent_both ls c h up) ∙ ap (λ (x : Bool). x && beq holds h) apart

judged_plain : (ls : List Literal) (t : Term) → is_connective t ≡ false → judged ls t ≡ of_atom ls t
judged_plain ls (Of term.denied ps) plain = absurd (cc)
judged_plain ls (Of term.all_of ps) plain = absurd (cc)
judged_plain ls (Of term.any_of ps) plain = absurd (cc)
judged_plain ls t plain = refl

pub atom_stays : (ls : List Literal) (c : Term) → is_connective c ≡ false → is_open (of_atom ls c) ≡ true → StaysOpen ls c c
atom_stays ls c plain up = λ a holds un_so apart.
    judged_plain (with_one ls a holds) c plain
    ∙ ap (λ (x : Bool). verdict_by x (has_literal (with_one ls a holds) (literal c false))) (absent_still ls a c holds true up apart)
    ∙ ap (verdict_by false) (absent_still ls a c holds false up apart)

pub denial_stays : (ls : List Literal) (f g c : Term) → f ≡ Of term.denied (part g no_parts) → StaysOpen ls g c → StaysOpen ls f c
denial_stays ls f g c is stays = λ a holds up apart. ap (judged (with_one ls a holds)) is ∙ ap turned (stays a holds up apart)

-- ---- an `or` and an `and` with an open member

or_open : (v w : Verdict) → v ≡ Open → is_no (either v w) ≡ false
or_open v Yes e = ap (λ (x : Verdict). is_no (either x Yes)) e
or_open v No e = ap (λ (x : Verdict). is_no (either x No)) e
or_open v Open e = ap (λ (x : Verdict). is_no (either x Open)) e

or_rest : (v w : Verdict) → is_no w ≡ false → is_no (either v w) ≡ false
or_rest Yes w e = refl
or_rest No w e = e
or_rest Open Yes e = refl
or_rest Open No e = refl
or_rest Open Open e = refl

abbrev yes_so : Verdict → Bool
yes_so v = is_no (turned v)

and_open : (v w : Verdict) → v ≡ Open → yes_so (both v w) ≡ false
and_open v Yes e = ap (λ (x : Verdict). yes_so (both x Yes)) e
and_open v No e = ap (λ (x : Verdict). yes_so (both x No)) e
and_open v Open e = ap (λ (x : Verdict). yes_so (both x Open)) e

and_rest : (v w : Verdict) → yes_so w ≡ false → yes_so (both v w) ≡ false
and_rest No w e = refl
and_rest Yes w e = e
and_rest Open Yes e = refl
and_rest Open No e = refl
and_rest Open Open e = refl

any_open : (ls : List Literal) (ps : Parts) (c a : Term) (holds : Bool) → HasOpen ls ps c → is_open (of_atom ls a) ≡ true → same_term a c ≡ false → is_no (judged_any (with_one ls a holds) ps) ≡ false
any_open ls no_parts c a holds has up apart = absurd has
any_open ls (part f fs) c a holds (inl stays) up apart = or_open (judged (with_one ls a holds) f) (judged_any (with_one ls a holds) fs) (stays a holds up apart)
any_open ls (part f fs) c a holds (inr rest) up apart = or_rest (judged (with_one ls a holds) f) (judged_any (with_one ls a holds) fs) (any_open ls fs c a holds rest up apart)

all_open : (ls : List Literal) (ps : Parts) (c a : Term) (holds : Bool) → HasOpen ls ps c → is_open (of_atom ls a) ≡ true → same_term a c ≡ false → yes_so (judged_all (with_one ls a holds) ps) ≡ false
all_open ls no_parts c a holds has up apart = absurd has
all_open ls (part f fs) c a holds (inl stays) up apart = and_open (judged (with_one ls a holds) f) (judged_all (with_one ls a holds) fs) (stays a holds up apart)
all_open ls (part f fs) c a holds (inr rest) up apart = and_rest (judged (with_one ls a holds) f) (judged_all (with_one ls a holds) fs) (all_open ls fs c a holds rest up apart)

-- one of two different terms is different from a third
module _ (ls : List Literal) (ps : Parts) (has : HasTwoOpen ls ps) where
  either_apart : (a : Term) (P : Type 0) → (same_term a has.first ≡ false → P) → (same_term a has.second ≡ false → P) → P
  either_apart a P one two = by (same_term a has.first) refl
    where
      by : (b : Bool) → same_term a has.first ≡ b → P
      by false e = one e
      by true e = two (ap (λ (t : Term). same_term t has.second) (terms_are a has.first e) ∙ has.apart)

any_safe : (ls : List Literal) (f : Term) (ps : Parts) → f ≡ Of term.any_of ps → HasTwoOpen ls ps → IsSafe ls f
any_safe ls f ps is has = λ a holds up. ap (λ (t : Term). is_no (judged (with_one ls a holds) t)) is
    ∙ either_apart ls ps has a (is_no (judged_any (with_one ls a holds) ps) ≡ false) (λ e. any_open ls ps has.first a holds has.one up e) (λ e. any_open ls ps has.second a holds has.two up e)

all_safe : (ls : List Literal) (f : Term) (ps : Parts) → f ≡ Of term.all_of ps → HasTwoOpen ls ps → IsSafe ls (Not f)
all_safe ls f ps is has = λ a holds up. ap (λ (t : Term). is_no (turned (judged (with_one ls a holds) t))) is
    ∙ either_apart ls ps has a (yes_so (judged_all (with_one ls a holds) ps) ≡ false) (λ e. all_open ls ps has.first a holds has.one up e) (λ e. all_open ls ps has.second a holds has.two up e)

pub or_safe : (ls : List Literal) (f : Term) (sign : Bool) (ps : Parts) → f ≡ Of term.any_of ps → sign ≡ true → HasTwoOpen ls ps → IsSafe ls (signed f sign)
or_safe ls f sign ps is up has = subst (λ (b : Bool). IsSafe ls (signed f b)) (sym up) (any_safe ls f ps is has)

pub and_safe : (ls : List Literal) (f : Term) (sign : Bool) (ps : Parts) → f ≡ Of term.all_of ps → sign ≡ false → HasTwoOpen ls ps → IsSafe ls (signed f sign)
and_safe ls f sign ps is un_so has = subst (λ (b : Bool). IsSafe ls (signed f b)) (sym un_so) (all_safe ls f ps is has)

pub denied_open : (at : ℕ → Term) (ls : List Literal) (f g : Term) (o : Option ℕ) → f ≡ Of term.denied (part g no_parts) → IfSome o (λ c. StaysOpen ls g (at c)) → IfSome o (λ c. StaysOpen ls f (at c))
denied_open at ls f g None is stays = tt
denied_open at ls f g (Some c) is stays = denial_stays ls f g (at c) is stays

pub or_safe_but : (at : ℕ → Term) (ls : List Literal) (f : Term) (sign : Bool) (ps : Parts) (o : Option ℕ) → f ≡ Of term.any_of ps → sign ≡ true → IfSome o (λ c. HasOpen ls ps (at c)) → IfSome o (λ c. IsSafeBut ls (signed f sign) (at c))
or_safe_but at ls f sign ps None is up has = tt
or_safe_but at ls f sign ps (Some c) is up has = subst (λ (b : Bool). IsSafeBut ls (signed f b) (at c)) (sym up)
    (λ a holds un_so apart. ap (λ (t : Term). is_no (judged (with_one ls a holds) t)) is ∙ any_open ls ps (at c) a holds has un_so apart)

pub and_safe_but : (at : ℕ → Term) (ls : List Literal) (f : Term) (sign : Bool) (ps : Parts) (o : Option ℕ) → f ≡ Of term.all_of ps → sign ≡ false → IfSome o (λ c. HasOpen ls ps (at c)) → IfSome o (λ c. IsSafeBut ls (signed f sign) (at c))
and_safe_but at ls f sign ps None is un_so has = tt
and_safe_but at ls f sign ps (Some c) is un_so has = subst (λ (b : Bool). IsSafeBut ls (signed f b) (at c)) (sym un_so)
    (λ a holds up apart. ap (λ (t : Term). is_no (turned (judged (with_one ls a holds) t))) is ∙ all_open ls ps (at c) a holds has up apart)

-- ---- formulas that are judged no

no_keeps : (v w : Verdict) → Keeps v w → is_no v ≡ true → is_no w ≡ true
no_keeps Yes w keeps up = absurd (cc)
no_keeps No w keeps up = ap is_no keeps
no_keeps Open w keeps up = absurd (cc)

pub still_no : (ls : List Literal) (a : Term) (holds : Bool) (fs : List Term) → is_open (of_atom ls a) ≡ true → any_no ls fs ≡ true → any_no (with_one ls a holds) fs ≡ true
still_no ls a holds [] up has = absurd (cc)
still_no ls a holds (f ∷ fs) up has = by (still_no ls a holds fs up) (is_no (judged ls f)) refl has
  where
    by : (any_no ls fs ≡ true → any_no (with_one ls a holds) fs ≡ true) → (b : Bool) → is_no (judged ls f) ≡ b → (b || any_no ls fs) ≡ true → (is_no (judged (with_one ls a holds) f) || any_no (with_one ls a holds) fs) ≡ true
    by rest true e h = ap (λ (x : Bool). x || any_no (with_one ls a holds) fs) (no_keeps (judged ls f) (judged (with_one ls a holds) f) (keeps_judged ls a holds f up) e)
    by rest false e h = ap (λ (x : Bool). is_no (judged (with_one ls a holds) f) || x) (rest h) ∙ or_so (is_no (judged (with_one ls a holds) f))

-- ---- an atom that doesn't stand in a formula

pub apart_turned : (s t : Term) → same_term s t ≡ false → same_term t s ≡ false
apart_turned s t apart = by (same_term t s) refl
  where
    by : (b : Bool) → same_term t s ≡ b → b ≡ false
    by false e = refl
    by true e = let is : same_term s t ≡ true = ap (same_term s) (terms_are t s e) ∙ terms_self s in absurd (cc)

not_joined : (xs ys : List Term) (a : Term) → has_formula (xs ++ ys) a ≡ false → (has_formula xs a ≡ false) × (has_formula ys a ≡ false)
not_joined [] ys a un_so = (refl, un_so)
not_joined (x ∷ xs) ys a un_so = by (not_joined xs ys a) (same_term x a) un_so
  where
    by : (has_formula (xs ++ ys) a ≡ false → (has_formula xs a ≡ false) × (has_formula ys a ≡ false)) → (b : Bool) → cond b true (has_formula (xs ++ ys) a) ≡ false → (cond b true (has_formula xs a) ≡ false) × (has_formula ys a ≡ false)
    by rest true e = absurd (cc)
    by rest false e = rest e

not_alone : (t a : Term) → cond (same_term t a) true false ≡ false → same_term t a ≡ false
not_alone t a e = by (same_term t a) e
  where
    by : (b : Bool) → cond b true false ≡ false → b ≡ false
    by true h = absurd (cc)
    by false h = refl

other_kind : (t a : Term) → is_connective t ≡ true → is_connective a ≡ false → same_term t a ≡ false
other_kind t a up plain = by (same_term t a) refl
  where
    by : (b : Bool) → same_term t a ≡ b → b ≡ false
    by false e = refl
    by true e = let is : is_connective t ≡ is_connective a = ap is_connective (terms_are t a e) in absurd (cc)

apart_has : (ls : List Literal) (a t : Term) (holds h : Bool) → same_term t a ≡ false → has_literal (with_one ls a holds) (literal t h) ≡ has_literal ls (literal t h)
apart_has ls a t holds h apart =
    has_more ls (literal a holds) (literal t h) ∙ ap (λ (x : Bool). has_literal ls (literal t h) || (x && beq holds h)) (apart_turned t a apart) ∙ or_no (has_literal ls (literal t h))

apart_atom : (ls : List Literal) (a : Term) (holds : Bool) (t : Term) → same_term t a ≡ false → of_atom (with_one ls a holds) t ≡ of_atom ls t
apart_atom ls a holds t apart =
    ap (λ (x : Bool). verdict_by x (has_literal (with_one ls a holds) (literal t false))) (apart_has ls a t holds true apart)
    ∙ ap (verdict_by (has_literal ls (literal t true))) (apart_has ls a t holds false apart)

mutual
  apart_judged : (ls : List Literal) (a : Term) (holds : Bool) (f : Term) → is_connective a ≡ false → has_formula (atoms_in f) a ≡ false → judged (with_one ls a holds) f ≡ judged ls f
  apart_judged ls a holds (Of term.denied no_parts) plain out = apart_atom ls a holds (Of term.denied no_parts) (other_kind (Of term.denied no_parts) a refl plain)
  apart_judged ls a holds (Of term.denied (part f no_parts)) plain out = ap turned (apart_judged ls a holds f plain (not_joined (atoms_in f) [] a out).0)
  apart_judged ls a holds (Of term.denied (part f (part g gs))) plain out = apart_atom ls a holds (Of term.denied (part f (part g gs))) (other_kind (Of term.denied (part f (part g gs))) a refl plain)
  apart_judged ls a holds (Of term.all_of ps) plain out = apart_all ls a holds ps plain out
  apart_judged ls a holds (Of term.any_of ps) plain out = apart_any ls a holds ps plain out
  apart_judged ls a holds t plain out = apart_atom ls a holds t (not_alone t a out)

  apart_all : (ls : List Literal) (a : Term) (holds : Bool) (ps : Parts) → is_connective a ≡ false → has_formula (joined_atoms (atoms_in_parts ps)) a ≡ false → judged_all (with_one ls a holds) ps ≡ judged_all ls ps
  apart_all ls a holds no_parts plain out = refl
  apart_all ls a holds (part f fs) plain out =
      let un_so = not_joined (atoms_in f) (joined_atoms (atoms_in_parts fs)) a out in
      ap (λ (v : Verdict). both v (judged_all (with_one ls a holds) fs)) (apart_judged ls a holds f plain un_so.0) ∙ ap (both (judged ls f)) (apart_all ls a holds fs plain un_so.1)

  apart_any : (ls : List Literal) (a : Term) (holds : Bool) (ps : Parts) → is_connective a ≡ false → has_formula (joined_atoms (atoms_in_parts ps)) a ≡ false → judged_any (with_one ls a holds) ps ≡ judged_any ls ps
  apart_any ls a holds no_parts plain out = refl
  apart_any ls a holds (part f fs) plain out =
      let un_so = not_joined (atoms_in f) (joined_atoms (atoms_in_parts fs)) a out in
      ap (λ (v : Verdict). either v (judged_any (with_one ls a holds) fs)) (apart_judged ls a holds f plain un_so.0) ∙ ap (either (judged ls f)) (apart_any ls a holds fs plain un_so.1)

-- ---- an `or` and an `and` with a member that is judged open

any_part : (ls : List Literal) (ps : Parts) (m a : Term) (holds : Bool) → IsOpenPart ls ps m → is_connective a ≡ false → has_formula (atoms_in m) a ≡ false → is_no (judged_any (with_one ls a holds) ps) ≡ false
any_part ls no_parts m a holds has plain out = absurd has
any_part ls (part f fs) m a holds (inl is) plain out =
    or_open (judged (with_one ls a holds) f) (judged_any (with_one ls a holds) fs) (ap (judged (with_one ls a holds)) is.0 ∙ apart_judged ls a holds m plain out ∙ is.1)
any_part ls (part f fs) m a holds (inr rest) plain out = or_rest (judged (with_one ls a holds) f) (judged_any (with_one ls a holds) fs) (any_part ls fs m a holds rest plain out)

all_part : (ls : List Literal) (ps : Parts) (m a : Term) (holds : Bool) → IsOpenPart ls ps m → is_connective a ≡ false → has_formula (atoms_in m) a ≡ false → yes_so (judged_all (with_one ls a holds) ps) ≡ false
all_part ls no_parts m a holds has plain out = absurd has
all_part ls (part f fs) m a holds (inl is) plain out =
    and_open (judged (with_one ls a holds) f) (judged_all (with_one ls a holds) fs) (ap (judged (with_one ls a holds)) is.0 ∙ apart_judged ls a holds m plain out ∙ is.1)
all_part ls (part f fs) m a holds (inr rest) plain out = and_rest (judged (with_one ls a holds) f) (judged_all (with_one ls a holds) fs) (all_part ls fs m a holds rest plain out)

pub self_needed : (ls : List Literal) (f : Term) (sign : Bool) → fails (judged ls f) sign ≡ false → IsNeeded ls (signed f sign) f
self_needed ls f sign standing = λ a holds free out. no_by_sign (with_one ls a holds) f sign ∙ ap (λ (v : Verdict). fails v sign) (apart_judged ls a holds f free.0 out) ∙ standing

pub or_needed : (ls : List Literal) (f : Term) (sign : Bool) (ps : Parts) (m : Term) → f ≡ Of term.any_of ps → sign ≡ true → fails (judged ls f) sign ≡ false → IsSelfOrOpen ls f ps m → IsNeeded ls (signed f sign) m
or_needed ls f sign ps m is up standing (inl e) = subst (IsNeeded ls (signed f sign)) (sym e) (self_needed ls f sign standing)
or_needed ls f sign ps m is up standing (inr has) = subst (λ (b : Bool). IsNeeded ls (signed f b) m) (sym up)
    (λ a holds free out. ap (λ (t : Term). is_no (judged (with_one ls a holds) t)) is ∙ any_part ls ps m a holds has free.0 out)

pub and_needed : (ls : List Literal) (f : Term) (sign : Bool) (ps : Parts) (m : Term) → f ≡ Of term.all_of ps → sign ≡ false → fails (judged ls f) sign ≡ false → IsSelfOrOpen ls f ps m → IsNeeded ls (signed f sign) m
and_needed ls f sign ps m is un_so standing (inl e) = subst (IsNeeded ls (signed f sign)) (sym e) (self_needed ls f sign standing)
and_needed ls f sign ps m is un_so standing (inr has) = subst (λ (b : Bool). IsNeeded ls (signed f b) m) (sym un_so)
    (λ a holds free out. ap (λ (t : Term). is_no (turned (judged (with_one ls a holds) t))) is ∙ all_part ls ps m a holds has free.0 out)
