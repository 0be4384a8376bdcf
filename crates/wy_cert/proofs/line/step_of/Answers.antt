use Rattle.std.proofs.Common.{rules}
use Rattle.wy_data.specs.scan.Front.{IsBehind}
use Rattle.wy_term_text.specs.wy_term.Nodes.{tree_at}
use Rattle.wy_cert.specs.Steps.{written}
use Rattle.wy_cert.specs.Lines.{word_of, IsBody, IsStep}
use Rattle.wy_cert.proofs.OneLemmas.{answer_same}
use Rattle.wy_cert.proofs.LineLemmas.{body_same}
use Rattle.wy_cert.proofs.line.step_of.Goals as goal

pub returns-in-Some-clause-value : goal.returns-in-Some-clause-value
returns-in-Some-clause-value c =
    let begins : IsBehind (word_of c.in-Some.verb) c.args.line.now c.in-Some.text.now = search rules in
    answer_same (IsBody c.args.products c.in-Some.verb c.in-Some.text.now) (IsStep c.args.products c.args.line.now) (written (tree_at c.body.new.terms)) c.body.result
    (body_same c.args.products c.args.line.now c.in-Some.text.now c.in-Some.verb begins) c.body.ensures.value
