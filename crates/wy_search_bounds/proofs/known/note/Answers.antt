use Rattle.std.proofs.Common.{length}
use Rattle.wy_search_bounds.proofs.KnownLemmas.{lasting_at, passing_at}
use Rattle.wy_search_bounds.proofs.known.note.Goals as goal
use Rattle.wy_search_bounds.specs.Known.{form_of_signed}
use Rattle.wy_term.specs.Nodes.{tree_at}

pub returns-in_ok-place-clause-value : goal.returns-in_ok-place-clause-value
returns-in_ok-place-clause-value c =
    let nodes = c.args.terms.now in
    let at = tree_at nodes in
    let lasts = c.lasts.ensures (length nodes) at c.requires.form c.if-lasts.true in
    lasting_at nodes _ c.in_ok-place.place c.as_lasting.result (form_of_signed at c.args.literal) c.as_lasting.ensures c.requires.known.floor
    (c.in_ok-place.ensures c.args.known.now.floor at c.requires.known.lasting lasts).1

pub returns-in_ok-place-clause-known : goal.returns-in_ok-place-clause-known
returns-in_ok-place-clause-known c =
    let nodes = c.args.terms.now in
    let at = tree_at nodes in
    let lasts = c.lasts.ensures (length nodes) at c.requires.form c.if-lasts.true in
    record {
      floor = c.requires.known.floor;
      lasting = (c.in_ok-place.ensures c.args.known.now.floor at c.requires.known.lasting lasts).0;
      passing = c.requires.known.passing;
    }

pub returns-in_ok-place-2-clause-value : goal.returns-in_ok-place-2-clause-value
returns-in_ok-place-2-clause-value c =
    let nodes = c.args.terms.now in
    let at = tree_at nodes in
    passing_at nodes _ c.in_ok-place-2.place c.as_passing.result (form_of_signed at c.args.literal) c.as_passing.ensures
    (c.in_ok-place-2.ensures (length nodes) at c.requires.known.passing c.requires.form).1

pub returns-in_ok-place-2-clause-known : goal.returns-in_ok-place-2-clause-known
returns-in_ok-place-2-clause-known c =
    let nodes = c.args.terms.now in
    record {
      floor = c.requires.known.floor;
      lasting = c.requires.known.lasting;
      passing = (c.in_ok-place-2.ensures (length nodes) (tree_at nodes) c.requires.known.passing c.requires.form).0;
    }
