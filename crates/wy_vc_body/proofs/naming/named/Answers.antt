use Rattle.std.proofs.Common.{◌∙◌, sym}
use Rattle.wy_term.specs.Nodes.{tree_at}
use Rattle.wy_vc_exprs.specs.State.{hyps_of}
use Rattle.wy_vc_body.proofs.NamingLemmas.{named_large, named_small}
use Rattle.wy_vc_body.proofs.naming.named.Goals as goal

pub returns-then-large-clause-value : goal.returns-then-large-clause-value
returns-then-large-clause-value c =
    named_large c.name_value.result _ _ c.args.words.now c.args.variable (tree_at c.args.walk.now.maker.terms c.args.value) (hyps_of c.args.walk.now) c.args.walk.now.maker.count (sym c.in_ok-large.ensures.value ∙ c.if-large.true) c.name_value.ensures.value

pub returns-else-large-clause-value : goal.returns-else-large-clause-value
returns-else-large-clause-value c = named_small c.args.walk.now c.args.words.now c.args.variable c.args.value c.requires.sound c.requires.within (sym c.in_ok-large.ensures.value ∙ c.if-large.false)
