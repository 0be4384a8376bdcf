use Rattle.std.proofs.Common.{◌∙◌, refl, length}
use Rattle.wy_term.specs.Term.{leaf, int_name}
use Rattle.wy_term_subst.proofs.ScopeLemmas.{AreScopes_up, env_kept, grows_self}
use Rattle.wy_term_subst.proofs.StepLemmas.{hidden_same}
use Rattle.wy_term_subst.proofs.walk.kept.Goals as goal

pub hide-requires-clause-scopes : goal.hide-requires-clause-scopes
hide-requires-clause-scopes c = AreScopes_up (length c.args.terms.now) (length c.name_of.new.terms) c.args.walk.now.scopes.items c.in_ok-name.ensures.kept.grows c.requires.fits.scopes

pub returns-clause-value : goal.returns-clause-value
returns-clause-value c = λ base ns counts count.
    let ss = c.args.walk.now.scopes.items in
    record {
      number = refl;
      inner = c.in_ok-inner.ensures.value ∙ hidden_same _ (leaf (int_name c.args.word c.args.number)) _ _ c.in_ok-name.ensures.value (env_kept c.args.terms.now c.name_of.new.terms ss ss c.args.scope c.in_ok-name.ensures.kept c.requires.fits.scopes (grows_self ss) c.requires.scope);
      counts = counts;
      count = count;
    }
