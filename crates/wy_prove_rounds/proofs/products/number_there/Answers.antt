use Rattle.std.proofs.Common.{◌≡◌, None}
use Rattle.wy_prove_drafts.specs.Draft.{seen_draft}
use Rattle.wy_prove_drafts.specs.wy_check_nodes.Seen.{seen_branch, seen_literal}
use Rattle.wy_term.specs.Nodes.{tree_at}
use Rattle.wy_prove_drafts.specs.wy_check_spec.valid.Literals.{literal_at}
use Rattle.wy_prove_rounds.proofs.ProductMoves.{if_lacking, if_there}
use Rattle.wy_prove_rounds.proofs.products.number_there.Goals as goal

pub returns-in-Some-clause-there : goal.returns-in-Some-clause-there
returns-in-Some-clause-there c =
    let at = tree_at c.args.terms.now in
    let d = seen_draft at c.args.draft.now in
    let l = seen_literal at (c.in-Some.atom, c.in-Some.holds) in
    if_there c.literal_number.result d.node.literals l (literal_at (seen_branch at c.args.branch.now).literals c.args.number) c.in-Some.ensures.value c.literal_number.ensures.there

pub returns-in-Some-clause-lacking : goal.returns-in-Some-clause-lacking
returns-in-Some-clause-lacking c = λ m is.
    let at = tree_at c.args.terms.now in
    let d = seen_draft at c.args.draft.now in
    let l = seen_literal at (c.in-Some.atom, c.in-Some.holds) in
    if_lacking c.literal_number.result d.node.literals l m (literal_at (seen_branch at c.args.branch.now).literals c.args.number) c.in-Some.ensures.value is c.literal_number.ensures.lacking

pub returns-in-None-clause-lacking : goal.returns-in-None-clause-lacking
returns-in-None-clause-lacking c = λ m is.
    let at = tree_at c.args.terms.now in
    let none : None ≡ literal_at (seen_branch at c.args.branch.now).literals c.args.number = c.in-None.ensures.value in
    absurd (cc (none, is))
