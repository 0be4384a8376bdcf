use Rattle.std.proofs.Common.{◌≡◌, Option, false, map, ap, rules, sym}
use Rattle.std.specs.Prelude.{is_some}
use Rattle.wy_prove_drafts.specs.Draft.{seen_draft}
use Rattle.wy_prove_drafts.specs.wy_check_spec.judge.Node.{Node}
use Rattle.wy_prove_drafts.specs.wy_check_nodes.Seen.{seen_literal}
use Rattle.wy_prove_drafts.specs.wy_search_spec.Expansion.{with_instances_by}
use Rattle.wy_search.proofs.wy_search_facts_proofs.DenialLemmas.{is_none}
use Rattle.wy_term.specs.Nodes.{tree_at}
use Rattle.wy_prove_drafts.specs.wy_check_spec.valid.Ranges.{Range, of_each}
use Rattle.wy_prove_rounds.proofs.MovingLemmas.{moves_none}
use Rattle.wy_prove_rounds.proofs.instances.write_instances_by.Goals as goal

pub returns-else-calls-clause-value : goal.returns-else-calls-clause-value
returns-else-calls-clause-value c = λ types base there are.
    let at = tree_at c.args.terms.now in
    let none : is_some (of_each (seen_literal at (c.args.atom, c.args.holds))) ≡ false = search rules in
    let is = sym (is_none (of_each (seen_literal at (c.args.atom, c.args.holds))) none) in
    moves_none types base _ (seen_draft at c.args.draft.now) (λ (node : Node). ap (λ (o : Option Range). with_instances_by node c.args.holds o (map at c.args.all.now)) is)
