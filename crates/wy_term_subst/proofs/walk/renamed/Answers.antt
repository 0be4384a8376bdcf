use Rattle.std.proofs.Common.{◌≡◌, ◌<◌, ◌∷◌, ◌∙◌, ℕ, ap, subst, length, arith, rules}
use Rattle.wy_term.specs.Term.{leaf, int_name}
use Rattle.wy_term.specs.Nodes.{tree_at}
use Rattle.wy_term_subst.specs.View.{Counts}
use Rattle.wy_term_subst.proofs.ScopeLemmas.{kept_on}
use Rattle.wy_term_subst.proofs.StepLemmas.{enters_below, env_by}
use Rattle.wy_term_subst.proofs.walk.renamed.Goals as goal

pub returns-clause-enlarges : goal.returns-clause-enlarges
returns-clause-enlarges c =
    let old = c.args.terms.now in
    let new = c.name_of-2.new.terms in
    let ss = c.args.walk.now.scopes.items in
    let kept = kept_on old c.name_of.new.terms new c.in_ok-name.ensures.kept c.in_ok-image.ensures.kept in
    let e = rw c.in_ok-new.ensures.scopes at c.in_ok-inner.ensures in
    let lt : c.in_ok-name.name < length new = omega (arith, c.in_ok-name.ensures.within, c.in_ok-image.ensures.kept.grows) in
    record {
      grows = e.grows;
      inner = e.within;
      scopes = enters_below (length old) (length new) ss c.enter.new.scopes.items c.in_ok-inner.inner c.args.scope c.in_ok-name.name c.in_ok-image.image kept.grows e lt c.in_ok-image.ensures.within c.requires.fits.scopes;
      waiting = c.in_ok-new.ensures.waiting;
      made = c.in_ok-new.ensures.made;
    }

pub returns-clause-value : goal.returns-clause-value
returns-clause-value c = λ base ns counts count.
    let old = c.args.terms.now in
    let new = c.name_of-2.new.terms in
    let ss = c.args.walk.now.scopes.items in
    let kept = kept_on old c.name_of.new.terms new c.in_ok-name.ensures.kept c.in_ok-image.ensures.kept in
    let e = rw c.in_ok-new.ensures.scopes at c.in_ok-inner.ensures in
    let n = c.in_ok-new.ensures.value base ns counts count in
    let first : tree_at c.name_of.new.terms c.in_ok-name.name ≡ leaf (int_name c.args.word c.args.number) = search rules in
    let name = c.in_ok-image.ensures.kept.trees c.in_ok-name.name c.in_ok-name.ensures.within ∙ first in
    let second : tree_at new c.in_ok-image.image ≡ leaf (int_name c.args.word c.in_ok-new.new) = search rules in
    let image = second ∙ ap (λ (m : ℕ). leaf (int_name c.args.word m)) n.0 in
    record {
      number = n.0;
      inner = env_by old new ss c.enter.new.scopes.items c.in_ok-inner.inner c.args.scope c.in_ok-name.name c.in_ok-image.image _ _ kept e c.requires.fits.scopes name image;
      counts = subst (λ (m : ℕ). Counts c.fresh_number.new.walk.taken (m ∷ ns)) n.0 n.1;
      count = n.2;
    }
