use Rattle.std.proofs.Common.{◌∙◌, sym, ap, subst, length, List, ℕ, arith}
use Rattle.wy_term.specs.ReplacingView.{AreBelow}
use Rattle.wy_term_subst.specs.declared.scope.Scope.{Scope}
use Rattle.wy_term_subst.specs.Walk.{pairs_in}
use Rattle.wy_term_subst.proofs.ScopeLemmas.{AreScopes-at}
use Rattle.wy_term_subst.proofs.StepLemmas.{enters_below}
use Rattle.wy_term_subst.proofs.walk.hide.Goals as goal

pub is_hidden-requires-clause-pairs : goal.is_hidden-requires-clause-pairs
is_hidden-requires-clause-pairs c =
    subst (λ (ps : List (ℕ × ℕ)). AreBelow (length c.args.terms.now) ps) (sym (c.pairs_of.ensures ∙ ap (λ (ss : List Scope). pairs_in ss c.args.scope) c.deref.ensures.value)) (AreScopes-at (length c.args.terms.now) c.args.scopes.now.items c.args.scope c.requires.scopes)

pub returns-clause-below : goal.returns-clause-below
returns-clause-below c =
    let n = length c.args.terms.now in
    enters_below n n c.args.scopes.now.items c.enter.new.scopes.items c.in_ok-inner.inner c.args.scope c.args.name c.args.name (omega arith) c.in_ok-inner.ensures c.requires.name c.requires.name c.requires.scopes
