use Rattle.std.proofs.Common.{◌≡◌, ◌∙◌, map, rules}
use Rattle.wy_term.specs.Term.{Of, fields, record_kind}
use Rattle.wy_term.specs.Same.{same_kind}
use Rattle.wy_term.specs.Nodes.{tree_at, parts_at, plain_kind}
use Rattle.wy_term.proofs.FoldLemmas.{record_test}
use Rattle.wy_term.proofs.fold.kind_test.Goals as goal

pub returns-in-Record-clause-value : goal.returns-in-Record-clause-value
returns-in-Record-clause-value c =
    let at = tree_at c.args.terms.now in
    let fs = c.in-Record.fields.items in
    let tree : at c.args.v ≡ Of (fields (map (λ p. p.0) fs)) (parts_at at (map (λ p. p.1) fs)) = search rules in
    let test : c.is_record.result ≡ same_kind (record_kind (map (λ p. p.0) fs)) (plain_kind c.args.kind) = search rules in
    c.truth-in-Record.ensures.value ∙ record_test at fs (at c.args.v) (plain_kind c.args.kind) c.is_record.result tree test
