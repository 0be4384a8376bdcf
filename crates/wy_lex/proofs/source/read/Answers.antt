use Rattle.std.proofs.Common.{◌∙◌, ap}
use Rattle.wy_lex.specs.Symbols.{symbols}
use Rattle.wy_lex.proofs.SourceLemmas.{answers_text, read_no_text}
use Rattle.wy_lex.proofs.source.read.Goals as goal

pub returns-in-Ok-decoded : goal.returns-in-Ok-decoded
returns-in-Ok-decoded c =
    let read = c.in-Ok.ensures.cases in
    record {
      value = answers_text c.args.bytes.now c.in-Ok.text.now c.as_slice.result.now c.lexed.result read.0 read.1 (c.as_slice.ensures ∙ (c.in-Ok-decoded.ensures ∙ ap symbols read.0)) c.lexed.ensures.value;
    }

pub returns-in-Err : goal.returns-in-Err
returns-in-Err c = record { value = λ g. read_no_text c.args.bytes.now c.valid_up_to.result c.in-Err.ensures.cases.0 (c.valid_up_to.ensures ∙ c.in-Err.ensures.valid_len) }
