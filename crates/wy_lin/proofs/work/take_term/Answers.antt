use Rattle.std.proofs.Common.{◌≡◌, ◌∷◌, rules}
use Rattle.wy_term.specs.Term.{two, one, add, sub, neg}
use Rattle.wy_term.specs.Nodes.{tree_at}
use Rattle.wy_lin.specs.declared.arithmetic.Factor.TheVariants.{Times, Minus}
use Rattle.wy_lin.specs.declared.work.Task.TheVariants.{Term, Join, Multiply}
use Rattle.wy_lin.specs.Work.{seen_sums}
use Rattle.wy_lin.proofs.WorkLemmas.{run-sum, run-difference, run-opposite, leads_by_tasks}
use Rattle.wy_lin.proofs.work.take_term.Goals as goal

pub returns-in_ok-with_two-in-Add-clause-leads : goal.returns-in_ok-with_two-in-Add-clause-leads
returns-in_ok-with_two-in-Add-clause-leads c =
    let at = tree_at c.args.terms.now in
    let work = c.args.work in
    let is : at c.args.t ≡ two add (at c.in-Add.s) (at c.in-Add.u) = search rules in
    leads_by_tasks at c.args.t (two add (at c.in-Add.s) (at c.in-Add.u)) work c.in_ok-with_two-in-Add.field-0 (Term c.in-Add.s ∷ Term c.in-Add.u ∷ Join (Times 1) ∷ work.tasks.items) is (run-sum at work.tasks.items (seen_sums at work.forms.items) c.in-Add.s c.in-Add.u) c.in_ok-with_two-in-Add.ensures.tasks c.in_ok-with_two-in-Add.ensures.forms

pub returns-in_ok-with_two-in-Sub-clause-leads : goal.returns-in_ok-with_two-in-Sub-clause-leads
returns-in_ok-with_two-in-Sub-clause-leads c =
    let at = tree_at c.args.terms.now in
    let work = c.args.work in
    let is : at c.args.t ≡ two sub (at c.in-Sub.s) (at c.in-Sub.u) = search rules in
    leads_by_tasks at c.args.t (two sub (at c.in-Sub.s) (at c.in-Sub.u)) work c.in_ok-with_two-in-Sub.field-0 (Term c.in-Sub.s ∷ Term c.in-Sub.u ∷ Join Minus ∷ work.tasks.items) is (run-difference at work.tasks.items (seen_sums at work.forms.items) c.in-Sub.s c.in-Sub.u) c.in_ok-with_two-in-Sub.ensures.tasks c.in_ok-with_two-in-Sub.ensures.forms

pub returns-in_ok-with_one-in-Neg-clause-leads : goal.returns-in_ok-with_one-in-Neg-clause-leads
returns-in_ok-with_one-in-Neg-clause-leads c =
    let at = tree_at c.args.terms.now in
    let work = c.args.work in
    let is : at c.args.t ≡ one neg (at c.in-Neg.s) = search rules in
    leads_by_tasks at c.args.t (one neg (at c.in-Neg.s)) work c.in_ok-with_one-in-Neg.field-0 (Term c.in-Neg.s ∷ Multiply Minus ∷ work.tasks.items) is (run-opposite at work.tasks.items (seen_sums at work.forms.items) c.in-Neg.s) c.in_ok-with_one-in-Neg.ensures.tasks c.in_ok-with_one-in-Neg.ensures.forms
