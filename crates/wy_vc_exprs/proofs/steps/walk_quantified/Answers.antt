use Rattle.std.proofs.Common.{refl}
use Rattle.wy_vc_exprs.proofs.StepLemmas.{finish_made, word_made}
use Rattle.wy_vc_exprs.proofs.NumberedLemmas.{at_itself}
use Rattle.wy_term.specs.Nodes.{tree_at}
use Rattle.wy_vc_terms.specs.wy_vc_spec.Values.{word_at}
use Rattle.wy_vc_exprs.proofs.steps.walk_quantified.Goals as goal

pub returns-clause-value : goal.returns-clause-value
returns-clause-value c =
    let m = c.in_ok-made.ensures.made _ _ _ (at_itself c.requires.v) (at_itself c.requires.w) (at_itself c.requires.u) in
    finish_made _ _ _ _ _ _ c.requires.sound
    (word_made _ _ _ c.args.all (word_at c.args.words.now c.args.x) c.in_ok-word.word c.args.number (tree_at c.args.walk.now.maker.terms c.args.v) (tree_at c.args.walk.now.maker.terms c.args.w) (tree_at c.args.walk.now.maker.terms c.args.u) c.in_ok-word.ensures.value m) c.in_ok-pass.ensures.after refl refl
