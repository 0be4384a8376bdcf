use Rattle.std.proofs.Common.{rules, arith, ◌≤◌, ◌∷◌, true, map}
use Rattle.wy_term_text.specs.wy_term.Nodes.{tree_at}
use Rattle.wy_cert.specs.Only.{IsTheOne}
use Rattle.wy_cert.specs.Numbers.{IsPlaceAt}
use Rattle.wy_cert.specs.Arguments.{AreArguments}
use Rattle.wy_cert.proofs.BodyLemmas.{fact_here}
use Rattle.wy_cert.proofs.line.fact.Goals as goal

pub returns-in-Some-2-clause-value : goal.returns-in-Some-2-clause-value
returns-in-Some-2-clause-value c =
    let place : IsPlaceAt c.args.text.now c.in-Some.schema (32 ∷ c.in-Some.rest.now) = search rules in
    let small : c.in-Some.schema ≤ 16 = first_of (omega arith, search rules) in
    let arguments : IsTheOne (AreArguments true c.in-Some.rest.now) (map (tree_at c.arguments.new.terms) c.in-Some-2.all.items) = search rules in
    fact_here c.args.text.now c.in-Some.rest.now c.in-Some.schema (map (tree_at c.arguments.new.terms) c.in-Some-2.all.items) place small arguments
