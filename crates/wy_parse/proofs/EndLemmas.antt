-- What a rule reads has no `End` in it, and each fault that it meets stands at a token: for each way to make a rule.
use Rattle.std.proofs.Common.{◌≡◌, ◌==◌, ◌+◌, ◌&&◌, ℕ, zero, suc, Bool, true, false, true≢false, List, [], ◌∷◌, ◌++◌, inl, inr, refl, sym, ap, ◌∙◌, append_assoc, ◌≤◌, length, arith}
use Rattle.wy_reading.specs.Rule.{heads, among, One, Pure, Then, Or, Loop, Turns, Refused, Unless, Fenced}
use Rattle.wy_reading.specs.Rule.Turns.{stop, more}
use Rattle.wy_lex.specs.declared.token.Token.{Token}
use Rattle.wy_parse_grammar.specs.declared.fault.Kind.{Kind}
use Rattle.wy_parse_grammar.specs.declared.fault.Kind.TheVariants.{Deep}
use Rattle.wy_parse_grammar.specs.declared.sort.Class.{Class}
use Rattle.wy_parse_grammar.specs.Sorts as t
use Rattle.wy_parse_grammar.specs.Sorts.{is, has, members, sort}
use Rattle.wy_parse_grammar.specs.Steps.{R, Mark, Inner, Name, InnerName, Operator, Placed}
use Rattle.wy_parse_grammar.specs.ExprGrammar.{touches}
use Rattle.wy_parse.specs.Fronts.{NoEnd}
use Rattle.wy_parse_grammar.proofs.TokenLemmas.{among_these, at_other, no}

-- j is behind tokens of i none of which is `End`
pub record Skips (i j : List Token) : Type 0 where
  pub front : List Token
  pub cut : i ≡ front ++ j
  pub no_end : NoEnd front

pub no_end-both : (front back : List Token) → NoEnd front → NoEnd back → NoEnd (front ++ back)
no_end-both [] back h g = g
no_end-both (s ∷ front) back h g = (h.0, no_end-both front back h.1 g)

pub skips-none : (i j : List Token) → i ≡ j → Skips i j
skips-none i j e = record { front = []; cut = e; no_end = tt }

pub skips-both : {i j k : List Token} → Skips i j → Skips j k → Skips i k
skips-both {i} {j} {k} a b = record {
  front = a.front ++ b.front;
  cut = a.cut ∙ (ap (λ (l : List Token). a.front ++ l) b.cut ∙ sym (append_assoc a.front b.front k));
  no_end = no_end-both a.front b.front a.no_end b.no_end;
}

-- what the rule reads has no `End`, and its faults stand before the end of the list
pub record Free {A : Type 0} (rule : R A) : Type 0 where
  pub skips : (i : List Token) (a : A) (j : List Token) → rule.reads i a j → Skips i j
  pub stands : (i : List Token) (x : Kind) (k : ℕ) → rule.meets i x k → 1 ≤ k

pub free-one : (test : Token → Bool) → ((i : List Token) → heads test i ≡ true → heads (is t.END) i ≡ false) → Free (One test)
free-one test other = record {
  skips = λ i s j h. record { front = s ∷ []; cut = h.1; no_end = (other (s ∷ []) h.0, tt) };
  stands = λ i x k h. absurd h;
}

pub free-pure : {A : Type 0} (a : A) → Free (Pure a)
free-pure a = record { skips = λ i b j h. skips-none i j h.1; stands = λ i x k h. absurd h }

pub free-then : {A B : Type 0} {first : R A} {second : A → R B} → Free first → ((a : A) → Free (second a)) → Free (Then first second)
free-then x y = record {
  skips = λ i b k h. skips-both (x.skips i h.0 h.1 h.2) ((y h.0).skips h.1 b k h.3);
  stands = λ i f k h. elim h [ inl g ↦ x.stands i f k g | inr g ↦ (y g.0).stands g.1 f k g.3 ];
}

pub free-or : {A : Type 0} {one other : R A} → Free one → Free other → Free (Or one other)
free-or x y = record {
  skips = λ i a j h. elim h [ inl g ↦ x.skips i a j g | inr g ↦ y.skips i a j g ];
  stands = λ i f k h. elim h [ inl g ↦ x.stands i f k g | inr g ↦ y.stands i f k g ];
}

turns-skip : {A : Type 0} {turn : A → R A} {a : A} {i : List Token} {b : A} {j : List Token} → ((a : A) → Free (turn a)) → Turns turn a i b j → Skips i j
turns-skip {i = i} {j = j} x (stop e e') = skips-none i j e'
turns-skip {a = a} {i = i} {j = j} x (more c l r rest) = skips-both ((x a).skips i c l r) (turns-skip x rest)

pub free-loop : {A : Type 0} {turn : A → R A} (a : A) → ((a : A) → Free (turn a)) → Free (Loop turn a)
free-loop a x = record { skips = λ i b j h. turns-skip x h; stands = λ i f k h. (x h.0).stands h.1 f k h.3 }

some_left : (test : Token → Bool) (i : List Token) → heads test i ≡ true → 1 ≤ length i
some_left test [] h = absurd (true≢false (sym h))
some_left test (s ∷ i) h = omega arith

pub free-refused : {A : Type 0} (test : Token → Bool) (x : Kind) → Free {A = A} (Refused test x)
free-refused test x = record { skips = λ i a j h. absurd h; stands = λ i f k h. omega (arith, some_left test i h.0, h.2) }

pub free-unless : {A : Type 0} {rule : R A} (test : Token → Bool) → Free rule → Free (Unless test rule)
free-unless test x = record { skips = λ i a j h. x.skips i a j h.1; stands = λ i f k h. x.stands i f k h.1 }

pub free-fenced : {A : Type 0} {turn : A → R A} (s : Bool) (test : Token → Bool) (x : Kind) (a : A) → ((a : A) → Free (turn a)) → Free (Fenced s test x turn a)
free-fenced true test x a f = free-or (free-refused test x) (free-pure a)
free-fenced false test x a f = free-or (f a) (free-pure a)

pub free-placed : {A : Type 0} {rule : R A} → Free rule → Free (Placed rule)
free-placed x = record { skips = λ i a j h. x.skips i a.1 j h.1; stands = x.stands }

-- ---- single tokens

pub free-is : (c : ℕ) → (c == t.END) ≡ false → Free (One (is c))
free-is c e = free-one (is c) (λ i h. at_other t.END c i e h)

pub free-has : (l : List ℕ) → among l t.END ≡ false → Free (One (among_these l))
free-has l e = free-one (among_these l) (λ i h. no t.END l i e h)

pub free-mark : (c : ℕ) → (c == t.END) ≡ false → Free (Mark c)
free-mark c e = free-then (free-is c e) (λ s. free-pure s.at)

pub free-inner : (levels c : ℕ) → (c == t.END) ≡ false → Free (Inner levels c)
free-inner zero c e = free-refused (is c) Deep
free-inner (suc levels) c e = free-mark c e

pub free-name : Free Name
free-name = free-then (free-is t.NAME refl) (λ s. free-pure _)

pub free-inner_name : (levels : ℕ) → Free (InnerName levels)
free-inner_name zero = free-refused (is t.NAME) Deep
free-inner_name (suc levels) = free-name

pub free-operator : (c : Class) → among (members c) t.END ≡ false → Free (Operator c)
free-operator c e = free-then (free-has (members c) e) (λ s. free-pure _)

-- a numeral that touches a minus
touching_no_end : (place : ℕ) (i : List Token) → heads (touches place) i ≡ true → heads (is t.END) i ≡ false
touching_no_end place [] h = refl
touching_no_end place (s ∷ i) h = no t.END (t.NUMERAL ∷ t.BEYOND ∷ []) (s ∷ i) refl (first_of_both (among (t.NUMERAL ∷ t.BEYOND ∷ []) (sort s.kind)) (s.at == place + 1) h)
  where
    first_of_both : (a b : Bool) → (a && b) ≡ true → a ≡ true
    first_of_both true b h = refl
    first_of_both false b h = h

pub free-touching : (place : ℕ) → Free (One (touches place))
free-touching place = free-one (touches place) (touching_no_end place)
