use Rattle.std.proofs.Common.{rules, ◌∷◌}
use Rattle.wy_term_text.specs.wy_term.Nodes.{tree_at}
use Rattle.wy_term_text.specs.wy_term.Sorts.{int_sort}
use Rattle.wy_term_text.specs.spell.Made.{IsSpelled}
use Rattle.wy_cert.specs.Only.{IsTheOne}
use Rattle.wy_cert.specs.Numbers.{IsPlaceAt}
use Rattle.wy_cert.proofs.BodyLemmas.{inst_here}
use Rattle.wy_cert.proofs.line.inst.Goals as goal

pub returns-in-Some-2-clause-value : goal.returns-in-Some-2-clause-value
returns-in-Some-2-clause-value c =
    let place : IsPlaceAt c.args.text.now c.in-Some.i (32 ∷ c.in-Some.rest.now) = search rules in
    let term : IsTheOne (IsSpelled int_sort c.in-Some.rest.now) (tree_at c.int_term.new.terms c.in-Some-2.t) = search rules in
    inst_here c.args.text.now c.in-Some.rest.now c.in-Some.i (tree_at c.int_term.new.terms c.in-Some-2.t) place term
