use Rattle.std.proofs.Common.{length}
use Rattle.wy_check_spec.specs.wy_term.Nodes.{tree_at}
use Rattle.wy_check_nodes.proofs.NameLemmas.{NamesOnce, names_once}
use Rattle.wy_check_nodes.proofs.BranchLemmas.{literal_put, over_put, starts_put, starts_same}
use Rattle.wy_check_nodes.proofs.branch.add_literal.Goals as goal

pub returns-clause-value : goal.returns-clause-value
returns-clause-value c =
    let at = tree_at c.args.terms.now in
    let n = length c.args.terms.now in
    let once : NamesOnce at n = names_once at n (λ s t ls lt e. (c.one_number_for_each_term.ensures.one s t ls lt).1 e) in
    literal_put at n once c.args.branch.now.literals.keys c.insert.new.self.keys c.args.branch.now.pending.keys (c.args.atom, c.args.holds) c.requires.branch.literals c.requires.atom c.in_ok-insert.ensures.keys

pub returns-clause-branch : goal.returns-clause-branch
returns-clause-branch c = record {
  literals = over_put (length c.args.terms.now) c.args.branch.now.literals.keys c.insert.new.self.keys (c.args.atom, c.args.holds) c.requires.branch.literals c.requires.atom c.in_ok-insert.ensures.keys;
  pending = c.requires.branch.pending;
  bare = c.requires.branch.bare;
}

pub returns-clause-grows : goal.returns-clause-grows
returns-clause-grows c = record {
  literals = starts_put c.args.branch.now.literals.keys c.insert.new.self.keys (c.args.atom, c.args.holds) c.in_ok-insert.ensures.keys;
  pending = starts_same c.args.branch.now.pending.keys;
}
