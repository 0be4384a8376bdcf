use Rattle.std.proofs.Common.{◌∙◌, ◌++◌, List, ℕ, ap}
use Rattle.wy_term.specs.Nodes.{tree_at}
use Rattle.wy_cert.specs.writing.Text.{texts}
use Rattle.wy_cert.proofs.writing_lemmas.WriteLemmas.{texts-map}
use Rattle.wy_cache.specs.Key.{line_of}
use Rattle.wy_cache.proofs.keys.key.Goals as goal

pub returns-clause-value : goal.returns-clause-value
returns-clause-value c =
    let at = tree_at c.args.terms.now in
    let slice = c.as_slice.result.now in
    c.in_ok-put_line.ensures.value
    ∙ ap (λ (i : List ℕ). i ++ line_of (at c.args.cond.now.goal))
    (c.in_ok-put_lines.ensures.value
    ∙ ap (λ (i : List ℕ). i ++ texts (λ f. line_of (at f)) slice) c.new-out.ensures.items
    ∙ ap (λ (fs : List ℕ). texts (λ f. line_of (at f)) fs) c.as_slice.ensures.value
    ∙ texts-map line_of at c.args.cond.now.hyps.items)
