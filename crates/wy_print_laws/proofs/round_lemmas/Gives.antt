-- What the rules of the grammar hand on where each token is proper: a calculus of a line a rule.
use Rattle.std.proofs.Common.{◌≡◌, ℕ, zero, suc, ◌≤◌, arith, ◌==◌, Bool, true, false, cond, true≢false, nat_le, List, ◌∷◌, inl, inr, refl, sym, ◌∙◌, subst, ℤ, pos, negsuc}
use Rattle.wy_data.specs.Words.{IsName}
use Rattle.wy_reading.specs.Rule.{among, One, Pure, Then, Or, Loop, Refused, Unless, Fenced}
use Rattle.wy_parse_front.specs.wy_lex.declared.token.Token.{Token}
use Rattle.wy_parse_front.specs.wy_lex.declared.token.TokenKind.{TokenKind}
use Rattle.wy_parse_front.specs.wy_lex.declared.token.TokenKind.TheVariants as k
use Rattle.wy_parse_front.specs.wy_lex.Lists.{Each, IsProper}
use Rattle.wy_parse_front.proofs.wy_lex_proofs.ListLemmas.{turns-keep}
use Rattle.wy_parse_front.specs.wy_parse_grammar.declared.fault.Kind.{Kind}
use Rattle.wy_parse_front.specs.wy_parse_grammar.declared.fault.Kind.TheVariants.{Deep}
use Rattle.wy_parse_front.specs.wy_parse_grammar.Sorts as t
use Rattle.wy_parse_front.specs.wy_parse_grammar.Sorts.{is, sort, numeral_sort}
use Rattle.wy_parse_front.specs.wy_parse_grammar.Steps.{R, Mark, Inner, Name, InnerName, name_of}

abbrev pub Proper : List Token → Type 0
Proper i = Each IsProper i

-- P holds of what is read, and the tokens that are left are proper
pub record Gives {A : Type 0} (rule : R A) (P : A → Type 0) : Type 0 where
  pub gives : (i : List Token) (a : A) (j : List Token) → rule.reads i a j → Proper i → P a × Proper j

pub gives-pure : {A : Type 0} (a : A) (P : A → Type 0) → P a → Gives (Pure a) P
gives-pure a P p = record { gives = λ i b j r h. (subst P (sym r.0) p, subst Proper r.1 h) }

pub gives-one : (test : Token → Bool) → Gives (One test) (λ s. (test s ≡ true) × IsProper s.kind)
gives-one test = record { gives = λ i s j r h. let g : Proper (s ∷ j) = subst Proper r.1 h in ((r.0, g.0), g.1) }

pub gives-then : {A B : Type 0} {P : A → Type 0} {Q : B → Type 0} {rule : R A} {turn : A → R B} → Gives rule P → ((a : A) → P a → Gives (turn a) Q) → Gives (Then rule turn) Q
gives-then h g = record { gives = λ i b k r p. let x = h.gives i r.0 r.1 r.2 p in (g r.0 x.0).gives r.1 b k r.3 x.1 }

pub gives-or : {A : Type 0} {P : A → Type 0} {rule other : R A} → Gives rule P → Gives other P → Gives (Or rule other) P
gives-or h g = record { gives = λ i a j r p. elim r [ inl x ↦ h.gives i a j x p | inr x ↦ g.gives i a j x p ] }

pub gives-loop : {A : Type 0} {P : A → Type 0} {turn : A → R A} → ((a : A) → P a → Gives (turn a) P) → (a : A) → P a → Gives (Loop turn a) P
gives-loop {A} {P} {turn} step a p = record {
  gives = λ i b j r h. turns-keep turn (λ c l. P c × Proper l) (λ c l d m x y. (step c y.0).gives l d m x y.1) a i b j r (p, h);
}

pub gives-refused : {A : Type 0} (P : A → Type 0) (test : Token → Bool) (x : Kind) → Gives (Refused test x) P
gives-refused P test x = record { gives = λ i a j r h. absurd r }

pub gives-unless : {A : Type 0} {P : A → Type 0} {rule : R A} (test : Token → Bool) → Gives rule P → Gives (Unless test rule) P
gives-unless test h = record { gives = λ i a j r p. h.gives i a j r.1 p }

-- where checks are made, a fence lets nothing more through
pub gives-fenced : {A : Type 0} {P : A → Type 0} (test : Token → Bool) (x : Kind) (turn : A → R A) (a : A) → P a → Gives (Fenced true test x turn a) P
gives-fenced {A} {P} test x turn a p = gives-or (gives-refused P test x) (gives-pure a P p)

pub gives-less : {A : Type 0} {P Q : A → Type 0} {rule : R A} → ((a : A) → P a → Q a) → Gives rule P → Gives rule Q
gives-less f h = record { gives = λ i a j r p. let x = h.gives i a j r p in (f a x.0, x.1) }

-- ---- single tokens

abbrev pub Anything : {A : Type 0} → A → Type 0
Anything a = Unit {0}

pub gives-mark : (c : ℕ) → Gives (Mark c) Anything
gives-mark c = gives-then (gives-one (is c)) (λ s h. gives-pure s.at Anything tt)

-- a level is left inside
pub gives-inner : (levels c : ℕ) → Gives (Inner levels c) (λ at. 1 ≤ levels)
gives-inner zero c = gives-refused (λ at. 1 ≤ 0) (is c) Deep
gives-inner (suc levels) c = let some : 1 ≤ suc levels = omega arith in gives-then (gives-one (is c)) (λ s h. gives-pure s.at (λ at. 1 ≤ suc levels) some)

no_numeral : (n : ℤ) → (numeral_sort n == t.NAME) ≡ false
no_numeral (pos m) = by (nat_le m 39614081257132168796771975167) (m == 39614081257132168796771975168)
  where
    by : (a b : Bool) → (cond a t.NUMERAL (cond b t.BEYOND t.NO_NUMERAL) == t.NAME) ≡ false
    by true b = refl
    by false true = refl
    by false false = refl
no_numeral (negsuc m) = refl

-- a numeral is of no other sort than those of numerals
pub numeral-among : (cs : List ℕ) (n : ℤ) → among cs t.NUMERAL ≡ false → among cs t.BEYOND ≡ false → among cs t.NO_NUMERAL ≡ false → among cs (numeral_sort n) ≡ false
numeral-among cs (pos m) x y z = by (nat_le m 39614081257132168796771975167) (m == 39614081257132168796771975168)
  where
    by : (a b : Bool) → among cs (cond a t.NUMERAL (cond b t.BEYOND t.NO_NUMERAL)) ≡ false
    by true b = x
    by false true = y
    by false false = z
numeral-among cs (negsuc m) x y z = z

-- a token that is a name has one
name-proper : (kind : TokenKind) → (sort kind == t.NAME) ≡ true → IsProper kind → IsName (name_of kind)
name-proper (k.Name word) e h = h
name-proper (k.Numeral n) e h = absurd (true≢false (sym e ∙ no_numeral n))
name-proper _ e h = absurd (true≢false (sym e))

pub gives-name : Gives Name (λ (w : ℕ × List ℕ). IsName w.1)
gives-name = gives-then (gives-one (is t.NAME)) (λ s h. gives-pure (s.at, name_of s.kind) (λ (w : ℕ × List ℕ). IsName w.1) (name-proper s.kind h.0 h.1))

pub gives-inner_name : (levels : ℕ) → Gives (InnerName levels) (λ (w : ℕ × List ℕ). (1 ≤ levels) × IsName w.1)
gives-inner_name zero = gives-refused (λ (w : ℕ × List ℕ). (1 ≤ 0) × IsName w.1) (is t.NAME) Deep
gives-inner_name (suc levels) = let some : 1 ≤ suc levels = omega arith in gives-less (λ w v. (some, v)) gives-name
