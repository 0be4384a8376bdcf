use Rattle.std.proofs.Common.{◌≡◌, ◌∙◌, ℕ, List, Bool, sym, subst}
use Rattle.std.specs.Prelude.{IfOk}
use Rattle.std.specs.String.{string_bytes}
use Rattle.wy_top_answers.specs.Calls.{AnswersFault}
use Rattle.wy_link_load.specs.Files.{text_line}
use Rattle.wy_link_load.proofs.FileLemmas.{line_of}
use Rattle.wy_link_load.proofs.file.text_answer.Goals as goal

pub returns : goal.returns
returns c =
    let lines = text_line c.args.name.now c.args.bytes.now c.args.fault in
    let same = line_of c.args.name.now c.args.bytes.now c.args.fault c.offset.result c.word.result.now c.offset.ensures.value c.word.ensures.value in
    let line = subst (λ (t : List ℕ). IfOk c.fault_line.result (λ s. string_bytes s ≡ t)) same c.fault_line.ensures.value in
    record { value = subst (λ (b : Bool). AnswersFault b 1 lines c.refusal.result) (sym c.if-is_no_memory.false ∙ c.is_no_memory.ensures.value) (c.refusal.ensures.value lines line) }
