use Rattle.std.proofs.Common.{◌≡◌, map, rules}
use Rattle.wy_check_nodes.specs.wy_term.Term.{Of, fields}
use Rattle.wy_check_nodes.specs.wy_term.Nodes.{tree_at, parts_at}
use Rattle.wy_check_splits.proofs.KindLemmas.{record_given}
use Rattle.wy_check_splits.proofs.kinds.kind_given.Goals as goal

pub returns-in_ok-names_of-in-Record : goal.returns-in_ok-names_of-in-Record
returns-in_ok-names_of-in-Record c =
    let at = tree_at c.args.terms.now in
    let fs = c.in-Record.fields.items in
    let tree : at c.args.v ≡ Of (fields (map (λ p. p.0) fs)) (parts_at at (map (λ p. p.1) fs)) = search rules in
    let names : c.in_ok-names_of-in-Record.field-0.items ≡ map (λ p. p.0) fs = search rules in
    record_given at fs (at c.args.v) c.in_ok-names_of-in-Record.field-0.items tree names
