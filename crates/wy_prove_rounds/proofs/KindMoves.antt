-- The whole fact on a datum's kinds has what the search adds of it.
use Rattle.std.proofs.Common.{◌≡◌, ◌∙◌, ◌&&◌, ◌||◌, List, [], ◌∷◌, Bool, true, false, cond, not, Option, None, refl, sym, ap, subst}
use Rattle.wy_term.specs.Term.{DataKind, null_kind, bool_kind, int_kind, array_kind, record_kind, Term, one, bool, of_kind}
use Rattle.wy_term.specs.Condition.{Entry}
use Rattle.wy_term_subst.specs.Names.{any_symbol}
use Rattle.wy_prove_drafts.specs.wy_check_spec.judge.Node.{Literal, Node, has_literal, added}
use Rattle.wy_prove_drafts.specs.wy_check_spec.valid.Membership.{fact_among}
use Rattle.wy_prove_drafts.specs.wy_search_spec.Expansion.{with_some, kind_says, is_whole_kind, in_equation, everything, kind_fact}
use Rattle.wy_prove_drafts.specs.wy_search_laws.closing.AtLeast.{IsAtLeast, any_in_literals, any_in_formulas, IsNear}
use Rattle.wy_prove_drafts.proofs.wy_search_laws_proofs.closing_lemmas.AtLeastLemmas.{more_added}
use Rattle.wy_prove_drafts.proofs.wy_search_laws_proofs.closing_lemmas.NameLemmas.{IsNamedIn, any_literal_there, any_more, near_self}
use Rattle.wy_prove_drafts.proofs.wy_search_laws_proofs.rounds_lemmas.KindLemmas.{IsUntold, untold, null_said, bool_said, int_said, all_said, kind_fact_is, null_near, bool_near, int_near, all_near}
use Rattle.wy_prove_rounds.specs.Moving.{Moves}
use Rattle.wy_prove_drafts.specs.Progress.{IsFit, Progress}
use Rattle.wy_prove_rounds.proofs.MovingLemmas.{moves_as, moves_less, moves_none}

abbrev told : DataKind → Term → Literal
told kind v = record { atom = one (of_kind kind) v; holds = true }

-- the names of a datum whose kind a literal tells are those of each node that has the literal
named : (base node : Node) (kind : DataKind) (v : Term) → IsAtLeast base node → has_literal base.literals (told kind v) ≡ true → IsNamedIn v node
named base node kind v keeps e test tests f = any_more test base node keeps (first (any_in_literals test base.literals) (any_in_formulas test base.pending) (any_literal_there test base.literals (told kind v) e (right (test (of_kind kind)) (any_symbol test v || false) (first (any_symbol test v) false f))))
  where
    first : (a b : Bool) → a ≡ true → (a || b) ≡ true
    first true b g = refl
    first false b g = absurd cc

    right : (a b : Bool) → b ≡ true → (a || b) ≡ true
    right true b g = refl
    right false b g = g

-- a node with a formula, or none, and the base is kept
abbrev IsLess : Node → Node → Option Term → Node → Type 0
IsLess base node o whole = IsAtLeast base (with_some node o) × IsNear (with_some node o) whole

module _ (base node : Node) (v : Term) (known : IsUntold v) (keeps : IsAtLeast base node) (names : IsNamedIn v node) where
  none_less : IsLess base node None (added node (all_said v))
  none_less = (keeps, all_near v node node known names (near_self node))

  says_less : (kind : DataKind) → IsLess base node (kind_says v kind) (added node (all_said v))
  says_less null_kind = (more_added base node (null_said v) keeps, null_near v node node known names (near_self node))
  says_less bool_kind = (more_added base node (bool_said v) keeps, bool_near v node node known names (near_self node))
  says_less int_kind = (more_added base node (int_said v) keeps, int_near v node node known names (near_self node))
  says_less array_kind = none_less
  says_less (record_kind ns) = none_less

  either_less : (kind : DataKind) (b c : Bool) → IsLess base node (cond b (cond c None (kind_says v kind)) None) (added node (all_said v))
  either_less kind true true = none_less
  either_less kind true false = says_less kind
  either_less kind false c = none_less

pub kind_moves : (types : List Entry) (base : Node) (v : Term) (kind : DataKind) (old new : Progress) → IsFit (one (of_kind kind) v) → has_literal base.literals (told kind v) ≡ true → Moves types base (λ node. with_some node (fact_among types 14 (v ∷ []))) old new → Moves types base (λ node. with_some node (kind_fact base (one (of_kind kind) v))) old new
kind_moves types base v kind old new fit e h =
    let known = untold kind v fit.folded (fit.sorted.1, fit.sorted.0) in
    moves_less types base (λ node. added node (all_said v)) (λ node. with_some node (kind_fact base (one (of_kind kind) v))) old new
    (λ node keeps. either_less base node v known keeps (named base node kind v keeps e) kind (has_literal base.literals (told kind v)) (is_whole_kind kind && not (in_equation (everything base) v)))
    (moves_as types base (λ node. with_some node (fact_among types 14 (v ∷ []))) (λ node. added node (all_said v)) old new (λ node. ap (with_some node) (kind_fact_is types v known)) h)

-- the same of a term that is such a test
pub test_moves : (types : List Entry) (base : Node) (t v : Term) (kind : DataKind) (old new : Progress) → t ≡ one (of_kind kind) v → IsFit t → has_literal base.literals (record { atom = t; holds = true }) ≡ true → Moves types base (λ node. with_some node (fact_among types 14 (v ∷ []))) old new → Moves types base (λ node. with_some node (kind_fact base t)) old new
test_moves types base t v kind old new is fit e h =
    subst (λ (u : Term). Moves types base (λ node. with_some node (kind_fact base u)) old new) (sym is)
    (kind_moves types base v kind old new (subst IsFit is fit) (subst (λ (u : Term). has_literal base.literals (record { atom = u; holds = true }) ≡ true) is e) h)

lacking : (b c : Bool) (o : Option Term) → b ≡ false → cond b (cond c None o) None ≡ None
lacking true c o e = absurd cc
lacking false c o e = refl

-- a test that is no literal
pub test_lacks : (base : Node) (t v : Term) (kind : DataKind) → t ≡ one (of_kind kind) v → has_literal base.literals (record { atom = t; holds = true }) ≡ false → kind_fact base t ≡ None
test_lacks base t v kind is e =
    ap (kind_fact base) is
    ∙ lacking (has_literal base.literals (told kind v)) (is_whole_kind kind && not (in_equation (everything base) v)) (kind_says v kind) (subst (λ (u : Term). has_literal base.literals (record { atom = u; holds = true }) ≡ false) is e)

-- a formula as a datum
pub formula_told : (base : Node) (t f : Term) → t ≡ one bool f → fact_among [] 14 (t ∷ []) ≡ kind_fact base t
formula_told base t f is = ap (λ (u : Term). fact_among [] 14 (u ∷ [])) is ∙ sym (ap (kind_fact base) is)

-- a term of which nothing is known
pub nothing_moves : (types : List Entry) (base : Node) (o : Option Term) (d : Progress) → o ≡ None → Moves types base (λ node. with_some node o) d d
nothing_moves types base o d e = moves_none types base (λ node. with_some node o) d (λ node. sym (ap (with_some node) e))
