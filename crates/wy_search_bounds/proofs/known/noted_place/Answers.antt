use Rattle.std.proofs.Common.{◌∙◌, sym}
use Rattle.wy_search_bounds.proofs.KnownLemmas.{lasting_at, passing_at}
use Rattle.wy_search_bounds.proofs.known.noted_place.Goals as goal
use Rattle.wy_search_bounds.specs.Known.{form_of_signed}
use Rattle.wy_term.specs.Nodes.{tree_at}

pub returns-in-Some : goal.returns-in-Some
returns-in-Some c = λ nodes are.
    lasting_at nodes c.args.known.now c.in-Some.place c.as_lasting.result (form_of_signed (tree_at nodes) c.args.literal) c.as_lasting.ensures are.floor
    (are.lasting c.args.literal c.in-Some.place (sym c.lasting_place.ensures ∙ c.in-Some.is)).form

pub returns-in-Some-passing_place : goal.returns-in-Some-passing_place
returns-in-Some-passing_place c = λ nodes are.
    passing_at nodes c.args.known.now c.in-Some-passing_place.place c.as_passing.result (form_of_signed (tree_at nodes) c.args.literal) c.as_passing.ensures
    (are.passing c.args.literal c.in-Some-passing_place.place (sym c.passing_place.ensures ∙ c.in-Some-passing_place.is)).form
