-- Terms and formulas of a line: there is one, or none.
use Rattle.std.proofs.Common.{◌≡◌, ℕ, List, Bool, true, false, Option, Some, None, Result, Ok, Err, IfOk, IfSome, MatchOption, inl, inr, ◌∙◌}
use Rattle.wy_term_text.specs.wy_term.Term.{Term}
use Rattle.wy_term_text.specs.wy_term.Sorts.{Sort, int_sort, val_sort, formula_sort}
use Rattle.wy_term_text.specs.spell.Made.{IsSpelled, SpellsNone, IsOnly, SpellsNoTerm, IsOnlyTerm}
use Rattle.wy_cert.specs.Only.{IsTheOne, HasNone}
use Rattle.wy_cert.specs.Arguments.{IsTerm, IsArgument}

pub only_spelled : (sort : Sort) (text : List ℕ) (r t : Term) → IsOnly sort text r → IsSpelled sort text t → t ≡ r
only_spelled sort text r t only s = s.folds ∙ only.only s.raw s.spells

pub only_term : (text : List ℕ) (r t : Term) → IsOnlyTerm text r → IsTerm text t → t ≡ r
only_term text r t only (inl s) = only_spelled int_sort text r t only.only_int s
only_term text r t only (inr s) = only_spelled val_sort text r t only.only_val s

pub no_term : (text : List ℕ) (t : Term) → SpellsNoTerm text → IsTerm text t → ⊥
no_term text t never (inl s) = never.no_int.none s.raw s.spells
no_term text t never (inr s) = never.no_val.none s.raw s.spells

pub term_none : (text : List ℕ) → SpellsNoTerm text → HasNone (IsTerm text)
term_none text never = record { none = λ t h. no_term text t never h }

pub term_here : (text : List ℕ) (t : Term) → IsTerm text t → IsOnlyTerm text t → IsTheOne (IsTerm text) t
term_here text t here only = record { holds = here; only = λ u h. only_term text t u only h }

-- what `read_int_term` answers
pub int_read : {E : Type 0} (at : ℕ → Term) (text : List ℕ) (r : Result (Option ℕ) E) → IfOk r (λ o. IfSome o (λ t. IsSpelled int_sort text (at t))) → IfOk r (λ o. MatchOption o (SpellsNone int_sort text) (λ t. IsOnly int_sort text (at t)))
    → IfOk r (λ o. MatchOption o (HasNone (IsSpelled int_sort text)) (λ t. IsTheOne (IsSpelled int_sort text) (at t)))
int_read at text (Ok None) spells exact = record { none = λ t h. exact.none h.raw h.spells }
int_read at text (Ok (Some t)) spells exact = record { holds = spells; only = λ u h. only_spelled int_sort text (at t) u exact h }
int_read at text (Err e) spells exact = exact

pub ruleset int_steps = (int_read)

-- ---- arguments

pub argument_term : (formulas : Bool) (text : List ℕ) (t : Term) → IsTerm text t → IsOnlyTerm text t → IsTheOne (IsArgument formulas text) t
argument_term false text t here only = term_here text t here only
argument_term true text t here only = record { holds = inl here; only = λ u h. by u h }
  where
    by : (u : Term) → IsArgument true text u → u ≡ t
    by u (inl s) = only_term text t u only s
    by u (inr (never, s)) = absurd (no_term text t never here)

pub argument_none : (formulas : Bool) (text : List ℕ) → formulas ≡ false → SpellsNoTerm text → HasNone (IsArgument formulas text)
argument_none false text e never = term_none text never
argument_none true text e never = absurd (cc)

pub formula_here : (text : List ℕ) (t : Term) → SpellsNoTerm text → IsSpelled formula_sort text t → IsOnly formula_sort text t → IsTheOne (IsArgument true text) t
formula_here text t never here only = record { holds = inr (never, here); only = λ u h. by u h }
  where
    by : (u : Term) → IsArgument true text u → u ≡ t
    by u (inl s) = absurd (no_term text u never s)
    by u (inr (n, s)) = only_spelled formula_sort text t u only s

pub formula_none : (text : List ℕ) → SpellsNoTerm text → SpellsNone formula_sort text → HasNone (IsArgument true text)
formula_none text never none = record { none = λ u h. by u h }
  where
    by : (u : Term) → IsArgument true text u → ⊥
    by u (inl s) = no_term text u never s
    by u (inr (n, s)) = none.none s.raw s.spells

-- what `read_formula` answers where the text spells no term
pub argument_formula : {E : Type 0} (formulas : Bool) (at : ℕ → Term) (text : List ℕ) (r : Result (Option ℕ) E) → formulas ≡ true → SpellsNoTerm text
    → IfOk r (λ o. IfSome o (λ t. IsSpelled formula_sort text (at t))) → IfOk r (λ o. MatchOption o (SpellsNone formula_sort text) (λ t. IsOnly formula_sort text (at t)))
    → IfOk r (λ o. MatchOption o (HasNone (IsArgument formulas text)) (λ t. IsTheOne (IsArgument formulas text) (at t)))
argument_formula false at text r e never spells exact = absurd (cc)
argument_formula true at text (Ok None) e never spells exact = formula_none text never exact
argument_formula true at text (Ok (Some t)) e never spells exact = formula_here text (at t) never spells exact
argument_formula true at text (Err x) e never spells exact = exact

pub ruleset argument_steps = (argument_term, argument_none, argument_formula)
