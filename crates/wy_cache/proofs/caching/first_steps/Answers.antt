use Rattle.std.proofs.Common.{rules, ◌≡◌, ◌∙◌, length, sym}
use Rattle.std.proofs.lemmas.List.{length-map}
use Rattle.wy_term.specs.Nodes.{tree_at}
use Rattle.wy_cert.specs.Steps.{written, steps_of}
use Rattle.wy_cert.specs.writing.Text.{texts, line_text}
use Rattle.wy_cache_text.proofs.LineLemmas.{one_lot}
use Rattle.wy_cache.proofs.CachedLemmas.{some_line, behind_first, steps_stand}
use Rattle.wy_cache.proofs.caching.first_steps.Goals as goal

pub unreachable-requires : goal.unreachable-requires
unreachable-requires c = some_line c.args.number (steps_of c.args.cert.now) c.args.text.now c.requires c.in-None.ensures.value

pub unreachable-requires-in-None-lines : goal.unreachable-requires-in-None-lines
unreachable-requires-in-None-lines c =
    let steps = steps_of c.args.cert.now in
    let whole : c.len.result ≡ length c.args.cert.now.steps.items = search rules in
    let many : c.len.result ≡ length steps = whole ∙ sym (length-map c.args.cert.now.steps.items (written (tree_at c.args.cert.now.terms))) in
    let behind = behind_first c.args.number steps c.args.text.now c.requires.rest c.in-Some.rest.now c.requires.place c.requires.is c.in-Some.ensures.value in
    c.in-None-lines.ensures.value (texts line_text steps) c.requires.rest (steps_stand steps c.in-Some.rest.now c.requires.rest c.len.result many c.requires.writable behind)

pub returns-clause-steps : goal.returns-clause-steps
returns-clause-steps c =
    let steps = steps_of c.args.cert.now in
    let whole : c.len.result ≡ length c.args.cert.now.steps.items = search rules in
    let many : c.len.result ≡ length steps = whole ∙ sym (length-map c.args.cert.now.steps.items (written (tree_at c.args.cert.now.terms))) in
    let behind = behind_first c.args.number steps c.args.text.now c.requires.rest c.in-Some.rest.now c.requires.place c.requires.is c.in-Some.ensures.value in
    let one = one_lot c.len.result c.in-Some.rest.now c.in-Some-lines.both.0.now (texts line_text steps) c.in-Some-lines.both.1.now c.requires.rest c.in-Some-lines.ensures.value
    (steps_stand steps c.in-Some.rest.now c.requires.rest c.len.result many c.requires.writable behind) in
    one.front

pub returns-clause-rest : goal.returns-clause-rest
returns-clause-rest c = λ rest is.
    let steps = steps_of c.args.cert.now in
    let whole : c.len.result ≡ length c.args.cert.now.steps.items = search rules in
    let many : c.len.result ≡ length steps = whole ∙ sym (length-map c.args.cert.now.steps.items (written (tree_at c.args.cert.now.terms))) in
    let behind = behind_first c.args.number steps c.args.text.now rest c.in-Some.rest.now c.requires.place is c.in-Some.ensures.value in
    let one = one_lot c.len.result c.in-Some.rest.now c.in-Some-lines.both.0.now (texts line_text steps) c.in-Some-lines.both.1.now rest c.in-Some-lines.ensures.value
    (steps_stand steps c.in-Some.rest.now rest c.len.result many c.requires.writable behind) in
    one.rest
