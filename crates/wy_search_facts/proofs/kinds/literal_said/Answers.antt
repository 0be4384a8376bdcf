use Rattle.std.proofs.Common.{◌≡◌, ◌∙◌, Option, None, Bool, true, false, cond, ap, rules, sym}
use Rattle.std.specs.Prelude.{option_map}
use Rattle.wy_facts.specs.Made.{implies}
use Rattle.wy_cong.specs.wy_check_spec.judge.Node.{has_literal}
use Rattle.wy_check_nodes.specs.Seen.{seen_branch}
use Rattle.wy_lemmas.proofs.Options.{if_ok}
use Rattle.wy_search_facts.proofs.kinds.literal_said.Goals as goal
use Rattle.wy_search_facts.specs.About.{said_by}
use Rattle.wy_term.specs.Nodes.{tree_at}
use Rattle.wy_term.specs.Term.{Term}

pub returns-then-has_literal-clause-value : goal.returns-then-has_literal-clause-value
returns-then-has_literal-clause-value c =
    let at = tree_at c.args.terms.now in
    let node = seen_branch at c.args.branch.now in
    let t = at c.args.t in
    let up : has_literal node.literals (record { atom = t; holds = true }) ≡ true = search rules in
    if_ok c.kind_said.result _ _ (λ o is. is ∙ sym (ap (λ (b : Bool). cond b (option_map (implies t) (said_by node at c.args.what)) None) up)) c.kind_said.ensures.value

pub returns-else-has_literal-clause-value : goal.returns-else-has_literal-clause-value
returns-else-has_literal-clause-value c =
    let at = tree_at c.args.terms.now in
    let node = seen_branch at c.args.branch.now in
    let t = at c.args.t in
    let un : has_literal node.literals (record { atom = t; holds = true }) ≡ false = search rules in
    sym (ap (λ (b : Bool). cond b (option_map (implies t) (said_by node at c.args.what)) None) un)
