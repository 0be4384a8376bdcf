-- For the functions: levels, by their numbers, and loops.
use Rattle.std.proofs.Common.{◌≡◌, ◌≢◌, ℕ, zero, suc, ◌-◌, ◌<◌, Bool, true, false, List, Result, Ok, Err, refl, sym, subst, ◌∙◌, arith}
use Rattle.wy_reading.specs.declared.stop.Stop.{Stop}
use Rattle.wy_reading.specs.declared.stop.Stop.TheVariants.{NoMemory}
use Rattle.wy_reading.specs.Rule.{heads}
use Rattle.wy_reading.specs.Reader.{Outcome, Reads, loop, refused}
use Rattle.wy_reading.proofs.Turns.{loop-fails}
use Rattle.wy_ast.specs.declared.expressions.Op.TheVariants as op
use Rattle.wy_lex.specs.declared.token.Token.{Token}
use Rattle.wy_parse_grammar.specs.declared.fault.Kind.{Kind}
use Rattle.wy_parse_grammar.specs.declared.fault.Kind.TheVariants.{Deep}
use Rattle.wy_parse_grammar.specs.declared.sort.Class.TheVariants as class
use Rattle.wy_parse_grammar.specs.Sorts.{is, has, NAME, IMPLIES}
use Rattle.wy_parse_grammar.specs.Steps.{Q, mark, inner, name, inner_name, inside}
use Rattle.wy_parse_grammar.specs.TypeReading.{tight, tight_of}
use Rattle.wy_parse_grammar.specs.Trees.{binary}
use Rattle.wy_parse_grammar.specs.ExprGrammar.{E}
use Rattle.wy_parse_grammar.specs.ExprReading.{readers, unary_of, expr_of, logic}
use denote.Ref.{Bor}

pub inner_none : (n c : ℕ) (i : List Token) → n ≡ 0 → inner n c i ≡ refused (is c) Deep i
unfolding inner
inner_none n c i e = rw e refl

pub inner_some : (n c : ℕ) (i : List Token) → 0 < n → inner n c i ≡ mark c i
unfolding inner
inner_some zero c i h = absurd (omega (arith, h))
inner_some (suc n) c i h = refl

pub inner_name_none : (n : ℕ) (i : List Token) → n ≡ 0 → inner_name n i ≡ refused (is NAME) Deep i
unfolding inner_name
inner_name_none n i e = rw e refl

pub inner_name_some : (n : ℕ) (i : List Token) → 0 < n → inner_name n i ≡ name i
unfolding inner_name
inner_name_some zero i h = absurd (omega (arith, h))
inner_name_some (suc n) i h = refl

pub inside_is : (n : ℕ) → inside n ≡ n - 1
inside_is zero = omega arith
inside_is (suc n) = omega arith

pub ruleset levels = (inner_none, inner_some, inner_name_none, inner_name_some, inside_is)

pub tight_next : (n m : ℕ) (i : List Token) → n ≡ suc m → tight n i ≡ tight_of m (tight m) i
unfolding tight
tight_next n m i e = rw e refl

pub tight_none : (n : ℕ) (i : List Token) → n ≡ 0 → tight n i ≡ refused (has class.Type) Deep i
unfolding tight
tight_none n i e = rw e refl

pub ruleset tight_steps = (tight_next, tight_none)

pub unary_next : (s : Bool) (n m : ℕ) (i : List Token) → n ≡ suc m → (readers s n).unary i ≡ unary_of m (readers s m).unary (readers s m).expr i
unfolding readers
unary_next s n m i e = rw e refl

pub unary_none : (s : Bool) (n : ℕ) (i : List Token) → n ≡ 0 → (readers s n).unary i ≡ refused (has class.Expression) Deep i
unfolding readers
unary_none s n i e = rw e refl

pub expr_none : (s : Bool) (n : ℕ) (i : List Token) → n ≡ 0 → (readers s n).expr i ≡ refused (has class.Expression) Deep i
unfolding readers
expr_none s n i e = rw e refl

pub ruleset unary_steps = (unary_next, unary_none)

pub ruleset expr_steps = expr_none

-- ---- an expression, step by step, where some level is left

expr_more : (n : ℕ) (i : List Token) → n ≢ 0 → (readers true n).expr i ≡ expr_of n (readers true n).unary true (readers true (n - 1)).expr i
unfolding readers
expr_more zero i h = absurd (h refl)
expr_more (suc n) i h = let e : suc n - 1 ≡ n = omega arith in rw e refl

module _ (n : ℕ) (i : List Token) (h : n ≢ 0) where
  abbrev Whole : Outcome Token Kind E → Type 0
  Whole o = (readers true n).expr i ≡ o

  pub left_stops : (e : Stop Kind) → logic n (readers true n).unary true i ≡ Err e → Whole (Err e)
  unfolding expr_of
  left_stops e w = expr_more n i h ∙ rw w refl

  module _ (a : E) (j : List Token) (w : logic n (readers true n).unary true i ≡ Ok (a, j)) where
    pub left_alone : heads (is IMPLIES) j ≡ false → Whole (Ok (a, j))
    unfolding expr_of
    left_alone g = expr_more n i h ∙ rw (w, g) refl

    module _ (g : heads (is IMPLIES) j ≡ true) where
      pub mark_stops : (e : Stop Kind) → mark IMPLIES j ≡ Err e → Whole (Err e)
      unfolding expr_of
      mark_stops e m = expr_more n i h ∙ rw (w, g, m) refl

      module _ (at : ℕ) (k : List Token) (m : mark IMPLIES j ≡ Ok (at, k)) where
        pub right_stops : (e : Stop Kind) → (readers true (n - 1)).expr k ≡ Err e → Whole (Err e)
        unfolding expr_of
        right_stops e r = expr_more n i h ∙ rw (w, g, m, r) refl

        pub both_read : (b : E) (l : List Token) → (readers true (n - 1)).expr k ≡ Ok (b, l) → Whole (Ok (binary at op.Implies a b, l))
        unfolding expr_of
        both_read b l r = expr_more n i h ∙ rw (w, g, m, r) refl

-- ---- a function that stops where a call does

pub stops : {A : Type 0} (wanted : Outcome Token Kind A) (e : Stop Kind) (r : Result (A × Bor (List Token)) (Stop Kind)) → r ≡ Err e → (e ≢ NoMemory → wanted ≡ Err e) → Reads wanted r
stops {A} wanted e r re h = subst (λ (x : Result (A × Bor (List Token)) (Stop Kind)). Reads wanted x) (sym re) h

-- ---- a loop whose turn stops

pub turn_stops : {A : Type 0} (test : Token → Bool) (turn : A → Q A) (f : ℕ) (a : A) (i : List Token) (wanted : Outcome Token Kind A) (e : Stop Kind) (r : Result (A × Bor (List Token)) (Stop Kind))
    → r ≡ Err e → wanted ≡ loop test turn f a i → 0 < f → heads test i ≡ true → (e ≢ NoMemory → turn a i ≡ Err e) → Reads wanted r
turn_stops {A} test turn f a i wanted e r re w le h stops =
    subst (λ (x : Result (A × Bor (List Token)) (Stop Kind)). Reads wanted x) (sym re) (λ n. w ∙ loop-fails test turn f (f - 1) a i e (omega (arith, le)) h (stops n))
