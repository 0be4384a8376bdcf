use Rattle.std.proofs.Common.{◌∙◌, sym, ap}
use Rattle.std.specs.Prelude.{option_map}
use Rattle.wy_search_bounds.proofs.KnownLemmas.{on_ok_anyway}
use Rattle.wy_term.specs.Nodes.{tree_at}
use Rattle.wy_term.specs.Condition.{condition_of}
use Rattle.wy_search_bounds.specs.Seen.{seen_ending}
use Rattle.wy_search_facts.specs.wy_search_spec.Splitting.{next_atom}
use Rattle.wy_search_facts.specs.Seen.{seen_spot}
use Rattle.wy_search.proofs.TurnLemmas.{atom_there, atom_lacking}
use Rattle.wy_search.proofs.turning.on_ending.Goals as goal

pub returns-in-Some-clause-value : goal.returns-in-Some-clause-value
returns-in-Some-clause-value c =
    let at = tree_at c.args.terms.now in
    let p = seen_spot at c.args.spot in
    atom_there at (condition_of c.args.terms.now c.args.cond.now).types p (seen_spot at c.in_ok-found.found.0) (seen_ending c.args.ending) (at c.in-Some.a) (next_atom p.node) c.split.result c.in_ok-found.ensures.seen
    (ap (option_map at) (sym c.in-Some.is) ∙ c.in_ok-found.ensures.value) c.split.ensures.value

pub returns-in-None-clause-value : goal.returns-in-None-clause-value
returns-in-None-clause-value c =
    let at = tree_at c.args.terms.now in
    let p = seen_spot at c.args.spot in
    atom_lacking (tree_at c.on_expansion.new.terms) (condition_of c.args.terms.now c.args.cond.now).types p (seen_spot at c.in_ok-found.found.0) (seen_ending c.args.ending) (next_atom p.node) c.on_expansion.result c.in_ok-found.ensures.seen
    (ap (option_map at) (sym c.in-None.is) ∙ c.in_ok-found.ensures.value) c.on_expansion.ensures.value

pub returns-in-Some-clause-known : goal.returns-in-Some-clause-known
returns-in-Some-clause-known c = on_ok_anyway _ c.split.result c.requires.known
