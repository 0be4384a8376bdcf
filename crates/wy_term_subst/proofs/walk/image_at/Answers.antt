use Rattle.std.proofs.Common.{◌∙◌, sym, ap, subst, length, List, ℕ}
use Rattle.wy_term.specs.ReplacingView.{AreBelow}
use Rattle.wy_term_subst.specs.declared.scope.Scope.{Scope}
use Rattle.wy_term_subst.specs.Walk.{pairs_in}
use Rattle.wy_term_subst.proofs.ScopeLemmas.{AreScopes-at}
use Rattle.wy_term_subst.proofs.walk.image_at.Goals as goal

pub name_or-requires-clause-pairs : goal.name_or-requires-clause-pairs
name_or-requires-clause-pairs c =
    subst (λ (ps : List (ℕ × ℕ)). AreBelow (length c.args.terms.now) ps) (sym (c.pairs_of.ensures ∙ ap (λ (ss : List Scope). pairs_in ss c.args.scope) c.deref.ensures.value)) (AreScopes-at (length c.args.terms.now) c.args.walk.now.scopes.items c.args.scope c.requires.fits.scopes)
