use Rattle.std.proofs.Common.{◌≡◌, ◌∷◌, Some, rules}
use Rattle.wy_term.specs.Term.{two, mul}
use Rattle.wy_term.specs.Nodes.{tree_at}
use Rattle.wy_term.specs.Rewriting.{as_number}
use Rattle.wy_lin.specs.declared.arithmetic.Factor.TheVariants.{Scale}
use Rattle.wy_lin.specs.declared.work.Task.TheVariants.{Term, Multiply}
use Rattle.wy_lin.specs.Work.{seen_sums}
use Rattle.wy_lin.proofs.WorkLemmas.{run-first_number, run-second_number, leads_by_tasks}
use Rattle.wy_lin.proofs.work.take_product.Goals as goal

pub returns-in_ok-with_one-in-Some-clause-leads : goal.returns-in_ok-with_one-in-Some-clause-leads
returns-in_ok-with_one-in-Some-clause-leads c =
    let at = tree_at c.args.terms.now in
    let work = c.args.work in
    let is : as_number (at c.args.s) ≡ Some c.in-Some.c = search rules in
    leads_by_tasks at c.args.t (two mul (at c.args.s) (at c.args.u)) work c.in_ok-with_one-in-Some.field-0 (Term c.args.u ∷ Multiply (Scale c.in-Some.c) ∷ work.tasks.items) c.requires.tree (run-first_number at work.tasks.items (seen_sums at work.forms.items) c.args.s c.args.u c.in-Some.c is) (search rules) c.in_ok-with_one-in-Some.ensures.forms

pub returns-in_ok-with_one-in-Some-number_at-clause-leads : goal.returns-in_ok-with_one-in-Some-number_at-clause-leads
returns-in_ok-with_one-in-Some-number_at-clause-leads c =
    let at = tree_at c.args.terms.now in
    let work = c.args.work in
    let is : as_number (at c.args.u) ≡ Some c.in-Some-number_at.c = search rules in
    leads_by_tasks at c.args.t (two mul (at c.args.s) (at c.args.u)) work c.in_ok-with_one-in-Some-number_at.field-0 (Term c.args.s ∷ Multiply (Scale c.in-Some-number_at.c) ∷ work.tasks.items) c.requires.tree (run-second_number at work.tasks.items (seen_sums at work.forms.items) c.args.s c.args.u c.in-Some-number_at.c (search rules) is) (search rules) c.in_ok-with_one-in-Some-number_at.ensures.forms
