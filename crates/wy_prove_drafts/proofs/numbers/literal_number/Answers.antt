use Rattle.std.proofs.Common.{◌≡◌, ◌+◌, ◌∙◌, sym, length, rules, arith}
use Rattle.std.proofs.lemmas.Grind.{common_steps}
use Rattle.wy_term.specs.Nodes.{tree_at}
use Rattle.wy_check_nodes.proofs.NameLemmas.{NamesOnce, names_once}
use Rattle.wy_prove_drafts.proofs.NumberLemmas.{number_there, number_lacking}
use Rattle.wy_prove_drafts.proofs.numbers.literal_number.Goals as goal

pub returns-in-Some-checked_add-clause-there : goal.returns-in-Some-checked_add-clause-there
returns-in-Some-checked_add-clause-there c =
    let next : c.in-Some-checked_add.number ≡ c.in-Some.i + 1 = first_of (search rules, grind (arith, common_steps)) in
    number_there (tree_at c.args.terms.now) c.args.branch.now.literals.keys (c.args.atom, c.args.holds) c.in-Some.i c.in-Some-checked_add.number (sym c.get_index_of.ensures.index ∙ c.in-Some.is) next

pub returns-in-None-clause-lacking : goal.returns-in-None-clause-lacking
returns-in-None-clause-lacking c =
    let at = tree_at c.args.terms.now in
    let n = length c.args.terms.now in
    let once : NamesOnce at n = names_once at n (λ s t ls lt e. (c.one_number_for_each_term.ensures.one s t ls lt).1 e) in
    number_lacking at n once c.args.branch.now.literals.keys (c.args.atom, c.args.holds) c.get_index_of.result c.requires.branch.literals c.requires.atom c.get_index_of.ensures.found c.in-None.is
