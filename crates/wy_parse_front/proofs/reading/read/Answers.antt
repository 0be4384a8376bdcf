use Rattle.std.proofs.Common.{Ok, Err}
use Rattle.wy_parse_front.proofs.FrontLemmas.{no_tokens, tokens_exact, program_reads, program_refused, program_exact}
use Rattle.wy_parse_front.proofs.reading.read.Goals as goal

pub returns-in-Err-clause-reads : goal.returns-in-Err-clause-reads
returns-in-Err-clause-reads c = rw c.of_tokens.ensures.value (λ p h. no_tokens c.args.bytes.now c.in-Err.fault _ (Ok p) c.in-Err.ensures.reads h)

pub returns-in-Err-clause-exact : goal.returns-in-Err-clause-exact
returns-in-Err-clause-exact c =
    rw c.of_tokens.ensures.value (tokens_exact c.args.bytes.now c.in-Err.fault c.in-Err.ensures.reads c.in-Err.ensures.exact c.in-Err.ensures.utf8 c.in-Err.ensures.bad_char)

pub returns-in-Ok-parse-clause-reads : goal.returns-in-Ok-parse-clause-reads
returns-in-Ok-parse-clause-reads c =
    program_reads c.args.bytes.now _ c.as_slice.result.now (Ok c.in-Ok-parse.program) c.in-Ok.ensures.reads c.as_slice.ensures c.in-Ok-parse.ensures.reads

pub returns-in-Ok-parse-clause-exact : goal.returns-in-Ok-parse-clause-exact
returns-in-Ok-parse-clause-exact c =
    program_exact c.args.bytes.now _ c.as_slice.result.now (Ok c.in-Ok-parse.program) c.in-Ok.ensures.reads c.in-Ok.ensures.exact c.in-Ok.ensures.utf8 c.in-Ok.ensures.bad_char c.as_slice.ensures
    c.in-Ok-parse.ensures.exact c.in-Ok-parse.ensures.high c.in-Ok-parse.ensures.leaves

pub returns-clause-reads : goal.returns-clause-reads
returns-clause-reads c =
    rw c.of_program.ensures.value (program_reads c.args.bytes.now _ c.as_slice.result.now (Err c.in-Err-parse.fault) c.in-Ok.ensures.reads c.as_slice.ensures c.in-Err-parse.ensures.reads)

pub returns-clause-fault : goal.returns-clause-fault
returns-clause-fault c =
    rw c.of_program.ensures.value (program_refused c.args.bytes.now _ c.as_slice.result.now c.in-Err-parse.fault c.in-Ok.ensures.spells c.as_slice.ensures c.in-Err-parse.ensures.fault)

pub returns-clause-exact : goal.returns-clause-exact
returns-clause-exact c =
    rw c.of_program.ensures.value (program_exact c.args.bytes.now _ c.as_slice.result.now (Err c.in-Err-parse.fault) c.in-Ok.ensures.reads c.in-Ok.ensures.exact c.in-Ok.ensures.utf8 c.in-Ok.ensures.bad_char c.as_slice.ensures
    c.in-Err-parse.ensures.exact c.in-Err-parse.ensures.high c.in-Err-parse.ensures.leaves)
