use Rattle.std.proofs.Common.{rules, arith}
use Rattle.std.proofs.lemmas.Grind.{common_steps}
use Rattle.wy_term.specs.Condition.{condition_of}
use Rattle.wy_term.specs.Nodes.{tree_at}
use Rattle.wy_check_splits.specs.wy_check_nodes.Seen.{seen_branch}
use Rattle.wy_check.proofs.steps.outcome_of.Goals as goal

pub returns-in-Split-clause-value : goal.returns-in-Split-clause-value
returns-in-Split-clause-value c = let gave = c.by_split.ensures.value (condition_of c.args.terms.now c.args.cond.now).types (seen_branch (tree_at c.args.terms.now) c.args.branch.now) in first_of (search rules, grind (arith, common_steps))

pub returns-in-Shut-clause-value : goal.returns-in-Shut-clause-value
returns-in-Shut-clause-value c = let gave = c.by_shut.ensures.value (condition_of c.args.terms.now c.args.cond.now).types in first_of (search rules, grind (arith, common_steps))

pub returns-in-Chain-clause-value : goal.returns-in-Chain-clause-value
returns-in-Chain-clause-value c = let gave = c.by_chain.ensures.value (condition_of c.args.terms.now c.args.cond.now).types in first_of (search rules, grind (arith, common_steps))

pub returns-in-Clash-clause-value : goal.returns-in-Clash-clause-value
returns-in-Clash-clause-value c = let gave = c.by_clash.ensures.value (condition_of c.args.terms.now c.args.cond.now).types in first_of (search rules, grind (arith, common_steps))

pub returns-in-Sum-clause-value : goal.returns-in-Sum-clause-value
returns-in-Sum-clause-value c = let gave = c.by_sum.ensures.value (condition_of c.args.terms.now c.args.cond.now).types in first_of (search rules, grind (arith, common_steps))

pub returns-in-Cut-clause-value : goal.returns-in-Cut-clause-value
returns-in-Cut-clause-value c = let gave = c.by_cut.ensures.value (condition_of c.args.terms.now c.args.cond.now).types in first_of (search rules, grind (arith, common_steps))

pub returns-in-Inst-clause-value : goal.returns-in-Inst-clause-value
returns-in-Inst-clause-value c = let gave = c.by_inst.ensures.value (condition_of c.args.terms.now c.args.cond.now).types in first_of (search rules, grind (arith, common_steps))

pub returns-in-Wit-clause-value : goal.returns-in-Wit-clause-value
returns-in-Wit-clause-value c = let gave = c.by_wit.ensures.value (condition_of c.args.terms.now c.args.cond.now).types in first_of (search rules, grind (arith, common_steps))

pub returns-in-Prod-clause-value : goal.returns-in-Prod-clause-value
returns-in-Prod-clause-value c = let gave = c.by_prod.ensures.value (condition_of c.args.terms.now c.args.cond.now).types in first_of (search rules, grind (arith, common_steps))
