-- Grounded types have a reading, by recursion from earlier questions to later ones.
use Rattle.std.proofs.Common.{◌≡◌, ◌≢◌, ℕ, List, [], ◌∷◌, Bool, true, false, cond, eqb, refl, sym, ap, ◌∙◌}
use mathlib.Core.Path.{fun_ext}
use Rattle.std.proofs.lemmas.Bool.{eqb-true}
use Rattle.wy_term.proofs.wy_lemmas_proofs.Choices.{false_of as fails, eqb_itself as eqb_self}
use Rattle.wy_term.specs.wy_value.Datum.{Datum}
use Rattle.wy_term.specs.Meaning.{Names}
use Rattle.wy_term.specs.Condition.{Entry, says, AreUnfolded}
use Rattle.wy_term.specs.Unfolding.{IsUnlisted, AreListedOnce, Question, IsFounded, founded, AnswerAlikeBefore, AskEarlier, AreGrounded}
use Rattle.wy_term_subst.specs.grounded.Readings.{with_members, IsReading}
use Rattle.wy_term_subst.proofs.grounded_lemmas.UniqueLemmas.{ask}

-- ---- what the formulas say

-- what the first type with this number says of a datum, where the names stand for these; where none has it, what `base` says
abbrev said : List Entry → Names → Names → ℕ → Datum → Bool
said [] base names n d = base.is_member n d
said (e ∷ es) base names n d = cond (eqb e.type_number n) (says names e d) (said es base names n d)

-- what the list says of each of these types is what the type's formula says
abbrev AllSaid : List Entry → Names → List Entry → Type 0
AllSaid types base [] = Unit {0}
AllSaid types base (e ∷ es) = ((names : Names) (d : Datum) → said types base names e.type_number d ≡ says names e d) × AllSaid types base es

pub differ : (n m : ℕ) → n ≢ m → eqb n m ≡ false
differ n m un = fails (eqb n m) (λ t. un (eqb-true n m t))

-- a type of another number in front makes no difference
all_behind : (types : List Entry) (base : Names) (e : Entry) (es : List Entry) → IsUnlisted e.type_number es → AllSaid types base es → AllSaid (e ∷ types) base es
all_behind types base e [] un all = tt
all_behind types base e (x ∷ xs) un all = (
  λ names d. ap (λ (b : Bool). cond b (says names e d) (said types base names x.type_number d)) (differ e.type_number x.type_number un.0) ∙ all.0 names d,
  all_behind types base e xs un.1 all.1,
)

all_said : (base : Names) (types : List Entry) → AreListedOnce types → AllSaid types base types
all_said base [] once = tt
all_said base (e ∷ es) once = (
  λ names d. ap (λ (b : Bool). cond b (says names e d) (said es base names e.type_number d)) (eqb_self e.type_number),
  all_behind es base e es once.0 (all_said base es once.1),
)

unlisted_said : (base names : Names) (types : List Entry) (n : ℕ) → IsUnlisted n types → (d : Datum) → said types base names n d ≡ base.is_member n d
unlisted_said base names [] n un d = refl
unlisted_said base names (e ∷ es) n un d =
    ap (λ (b : Bool). cond b (says names e d) (said es base names n d)) (differ e.type_number n (λ same. un.0 (sym same))) ∙ unlisted_said base names es n un.1 d

-- ---- a value that is there only where a test passes

abbrev when : (b : Bool) → (b ≡ true → Bool) → Bool
when true f = f refl
when false f = false

same_when : (b : Bool) (f g : b ≡ true → Bool) → ((t : b ≡ true) → f t ≡ g t) → when b f ≡ when b g
same_when true f g all = all refl
same_when false f g all = refl

when_true : (b x : Bool) → b ≡ true → when b (λ t. x) ≡ x
when_true true x t = refl
when_true false x t = absurd cc

-- ---- the reading

-- what the list says of a question, where `in` is what earlier questions are answered
abbrev answered : (before : Question → Question → Bool) (types : List Entry) (base : Names) (q : Question) → ((p : Question) → before p q ≡ true → Bool) → Bool
answered before types base q earlier = said types base (with_members base (λ n d. when (before (ask n d) q) (earlier (ask n d)))) q.type_number q.datum

abbrev answer : (before : Question → Question → Bool) (types : List Entry) (base : Names) (q : Question) → IsFounded before q → Bool
answer before types base q (founded r below) = answered before types base r (λ p t. answer before types base p (below p t))

answered_alike : (before : Question → Question → Bool) (types : List Entry) (base : Names) (q : Question) (f g : (p : Question) → before p q ≡ true → Bool) → ((p : Question) (t : before p q ≡ true) → f p t ≡ g p t) → answered before types base q f ≡ answered before types base q g
answered_alike before types base q f g all =
    ap (λ (members : ℕ → Datum → Bool). said types base (with_members base members) q.type_number q.datum) (fun_ext (λ n. fun_ext (λ d. same_when (before (ask n d) q) (f (ask n d)) (g (ask n d)) (all (ask n d)))))

answer_alike : (before : Question → Question → Bool) (types : List Entry) (base : Names) (q : Question) (b : IsFounded before q) (below : (p : Question) → before p q ≡ true → IsFounded before p) → ((p : Question) (t : before p q ≡ true) (c : IsFounded before p) → answer before types base p (below p t) ≡ answer before types base p c) → answered before types base q (λ p t. answer before types base p (below p t)) ≡ answer before types base q b
answer_alike before types base q (founded r others) below all =
    answered_alike before types base r (λ p t. answer before types base p (below p t)) (λ p t. answer before types base p (others p t)) (λ p t. all p t (others p t))

-- why a question is founded makes no difference
one_answer : (before : Question → Question → Bool) (types : List Entry) (base : Names) (q : Question) (a b : IsFounded before q) → answer before types base q a ≡ answer before types base q b
one_answer before types base q (founded r below) b = answer_alike before types base r b below (λ p t c. one_answer before types base p (below p t) c)

module _ (types : List Entry) (base : Names) (g : AreGrounded types) where
  abbrev members : ℕ → Datum → Bool
  members n d = answer g.before types base (ask n d) (g.descends (ask n d))

  -- the names where `in` is what questions before this one are answered
  abbrev names_before : Question → Names
  names_before q = with_members base (λ n d. when (g.before (ask n d) q) (λ t. members n d))

  answer_is : (q : Question) (a : IsFounded g.before q) → answer g.before types base q a ≡ said types base (names_before q) q.type_number q.datum
  answer_is q (founded r below) =
      answered_alike g.before types base r (λ p t. answer g.before types base p (below p t)) (λ p t. answer g.before types base p (g.descends p)) (λ p t. one_answer g.before types base p (below p t) (g.descends p))

  member_is : (n : ℕ) (d : Datum) → members n d ≡ said types base (names_before (ask n d)) n d
  member_is n d = answer_is (ask n d) (g.descends (ask n d))

  before_alike : (q : Question) (es : List Entry) → AnswerAlikeBefore g.before es q (names_before q) (with_members base members)
  before_alike q [] = tt
  before_alike q (e ∷ es) = (λ d t. when_true (g.before (ask e.type_number d) q) (members e.type_number d) t, before_alike q es)

  meets : (es : List Entry) → AllSaid types base es → AskEarlier g.before types es → AreUnfolded (with_members base members) es
  meets [] all earlier = tt
  meets (e ∷ es) all earlier = (
    λ d. member_is e.type_number d ∙ (all.0 (names_before (ask e.type_number d)) d ∙ earlier.0 d (names_before (ask e.type_number d)) (with_members base members) (before_alike (ask e.type_number d) types)),
    meets es all.1 earlier.1,
  )

  is_reading : IsReading types base members
  is_reading = record {
    meets = meets types (all_said base types g.once) g.earlier;
    keeps = λ n un d. member_is n d ∙ unlisted_said base (names_before (ask n d)) types n un d;
  }

pub a_reading : (types : List Entry) → AreGrounded types → (names : Names) → (m : ℕ → Datum → Bool) × IsReading types names m
a_reading types g names = (members types names g, is_reading types names g)
