use Rattle.std.proofs.Common.{◌≡◌, rules}
use Rattle.wy_search.proofs.wy_search_facts_proofs.KindLemmas.{array_about, record_about}
use Rattle.wy_term.specs.Nodes.{tree_at}
use Rattle.wy_term.specs.Term.{one, bool, of_kind, null_kind, bool_kind, int_kind, array_kind, record_kind}
use Rattle.wy_prove_rounds.proofs.kinds.subject.Goals as goal

pub returns-in-Null-clause-value : goal.returns-in-Null-clause-value
returns-in-Null-clause-value c =
    let at = tree_at c.args.terms.now in
    let is : at c.args.t ≡ one (of_kind null_kind) (at c.in-Kind.v) = search rules in
    (null_kind, is)

pub returns-in-Bool-clause-value : goal.returns-in-Bool-clause-value
returns-in-Bool-clause-value c =
    let at = tree_at c.args.terms.now in
    let is : at c.args.t ≡ one (of_kind bool_kind) (at c.in-Kind.v) = search rules in
    (bool_kind, is)

pub returns-in-Int-clause-value : goal.returns-in-Int-clause-value
returns-in-Int-clause-value c =
    let at = tree_at c.args.terms.now in
    let is : at c.args.t ≡ one (of_kind int_kind) (at c.in-Kind.v) = search rules in
    (int_kind, is)

pub returns-in-Array-clause-value : goal.returns-in-Array-clause-value
returns-in-Array-clause-value c = λ node.
    let at = tree_at c.args.terms.now in
    let is : at c.args.t ≡ one (of_kind array_kind) (at c.in-Kind.v) = search rules in
    array_about node at (at c.args.t) (at c.in-Kind.v) is

pub returns-in-Record-clause-value : goal.returns-in-Record-clause-value
returns-in-Record-clause-value c = λ node.
    let at = tree_at c.args.terms.now in
    let names = c.in-Record.field-0.items in
    let is : at c.args.t ≡ one (of_kind (record_kind names)) (at c.in-Kind.v) = search rules in
    record_about node at (at c.args.t) (at c.in-Kind.v) names is

pub returns-in-Truth-clause-value : goal.returns-in-Truth-clause-value
returns-in-Truth-clause-value c =
    let at = tree_at c.args.terms.now in
    let is : at c.args.t ≡ one bool (at c.in-Truth.field-0) = search rules in
    (at c.in-Truth.field-0, is)
