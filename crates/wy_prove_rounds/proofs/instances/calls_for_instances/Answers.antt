use Rattle.std.proofs.Common.{◌∙◌, Option, ap}
use Rattle.std.specs.Prelude.{is_some}
use Rattle.wy_prove_drafts.specs.wy_check_splits.Seen.{seen_range}
use Rattle.wy_term.specs.Nodes.{tree_at}
use Rattle.wy_prove_drafts.specs.wy_check_spec.valid.Ranges.{Range}
use Rattle.wy_prove_rounds.proofs.RangeMoves.{some_mapped}
use Rattle.wy_prove_rounds.proofs.instances.calls_for_instances.Goals as goal

pub returns : goal.returns
returns c = c.is_some.ensures ∙ some_mapped (seen_range (tree_at c.args.terms.now)) c.in_ok-range.range ∙ ap (λ (o : Option Range). is_some o) c.in_ok-range.ensures.value
