use Rattle.std.proofs.Common.{◌≡◌, ◌∙◌, sym, length, rules}
use Rattle.std.specs.List.{list_any}
use Rattle.wy_check_spec.specs.wy_term.Nodes.{tree_at}
use Rattle.wy_check_nodes.specs.Seen.{same_signed}
use Rattle.wy_check_nodes.proofs.NameLemmas.{NamesOnce, names_once}
use Rattle.wy_check_nodes.proofs.BranchLemmas.{among}
use Rattle.wy_check_nodes.proofs.branch.has_literal.Goals as goal

pub returns : goal.returns
returns c =
    let at = tree_at c.args.terms.now in
    let n = length c.args.terms.now in
    let once : NamesOnce at n = names_once at n (λ s t ls lt e. (c.one_number_for_each_term.ensures.one s t ls lt).1 e) in
    let looked : c.contains.result ≡ list_any (same_signed (c.args.atom, c.args.holds)) c.args.branch.now.literals.keys = search rules in
    looked ∙ sym (among at n once c.args.branch.now.literals.keys (c.args.atom, c.args.holds) c.requires.branch.literals c.requires.atom)
