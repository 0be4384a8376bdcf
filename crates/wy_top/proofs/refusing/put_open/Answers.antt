use Rattle.std.proofs.Common.{◌∙◌, ◌++◌, ℕ, List, Bool, map, ap}
use Rattle.std.proofs.lemmas.Result.{on_ok_weaker}
use Rattle.wy_top_probe.specs.wy_link_load.wy_parse_front.Places.{place_of}
use Rattle.wy_prove.specs.wy_check_nodes.Seen.{seen_literal}
use Rattle.wy_prove.specs.Seen.{seen_why}
use Rattle.wy_term.specs.Condition.{word_of}
use Rattle.wy_term.specs.Nodes.{tree_at}
use Rattle.wy_top.specs.Refusals.{literal_lines, why_word}
use Rattle.wy_top.proofs.LineLemmas.{open_there}
use Rattle.wy_top.proofs.refusing.put_open.Goals as goal

pub returns : goal.returns
returns c =
    let leaf = c.args.leaf.now in
    let cond = c.args.cond.now in
    let mid = c.extend_from_slice.new.self.items in
    record {
      value = λ bytes lines. on_ok_weaker c.put_literals.result
          (λ e. open_there c.args.file.now c.place-place.result.line c.place-place.result.column c.args.number (place_of bytes cond.at) _ (word_of cond.kind) _ (why_word (seen_why leaf.why)) _ _ c.args.text.now.items mid c.put_literals.new.text.items
          (literal_lines (map (seen_literal (tree_at leaf.terms)) leaf.literals.items)) (c.place-place.ensures.value bytes lines) c.word-kind.ensures.value c.why_word-why.ensures.value c.in_ok-line.ensures.value c.as_bytes.ensures.value
          c.in_ok-extend_from_slice.ensures.items (e ∙ ap (λ (ps : List (ℕ × Bool)). mid ++ literal_lines (map (seen_literal (tree_at leaf.terms)) ps)) c.deref.ensures.value))
          c.put_literals.ensures.value;
    }
