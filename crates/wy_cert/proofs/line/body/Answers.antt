use Rattle.std.proofs.Common.{length}
use Rattle.wy_term_text.specs.wy_term.Nodes.{tree_at}
use Rattle.wy_cert.proofs.line.body.Goals as goal

pub returns-in-Shut-clause-value : goal.returns-in-Shut-clause-value
returns-in-Shut-clause-value c = rw c.in-Shut.is (c.shut.ensures.value (tree_at c.args.terms.now))

pub returns-in-Shut-clause-within : goal.returns-in-Shut-clause-within
returns-in-Shut-clause-within c = c.shut.ensures.within (length c.args.terms.now)

pub returns-in-Clash-clause-value : goal.returns-in-Clash-clause-value
returns-in-Clash-clause-value c = rw c.in-Clash.is (c.clash.ensures.value (tree_at c.args.terms.now))

pub returns-in-Clash-clause-within : goal.returns-in-Clash-clause-within
returns-in-Clash-clause-within c = c.clash.ensures.within (length c.args.terms.now)

pub returns-in-Sum-clause-value : goal.returns-in-Sum-clause-value
returns-in-Sum-clause-value c = rw c.in-Sum.is (c.sum.ensures.value (tree_at c.args.terms.now))

pub returns-in-Sum-clause-within : goal.returns-in-Sum-clause-within
returns-in-Sum-clause-within c = c.sum.ensures.within (length c.args.terms.now)

pub returns-in-Cut-clause-value : goal.returns-in-Cut-clause-value
returns-in-Cut-clause-value c = rw c.in-Cut.is (c.cut.ensures.value (tree_at c.args.terms.now))

pub returns-in-Cut-clause-within : goal.returns-in-Cut-clause-within
returns-in-Cut-clause-within c = c.cut.ensures.within (length c.args.terms.now)

pub returns-in-Wit-clause-value : goal.returns-in-Wit-clause-value
returns-in-Wit-clause-value c = rw c.in-Wit.is (c.wit.ensures.value (tree_at c.args.terms.now))

pub returns-in-Wit-clause-within : goal.returns-in-Wit-clause-within
returns-in-Wit-clause-within c = c.wit.ensures.within (length c.args.terms.now)
