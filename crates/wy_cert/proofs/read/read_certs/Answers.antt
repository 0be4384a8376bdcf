use Rattle.std.proofs.Common.{rules, [], true, false, codes}
use Rattle.wy_data.specs.scan.Front.{IsBehind}
use Rattle.wy_cert.specs.Steps.{certificates_of}
use Rattle.wy_cert.specs.File.{ReadsCerts, ReadsFile}
use Rattle.wy_cert.proofs.OneLemmas.{answers_same}
use Rattle.wy_cert.proofs.FileLemmas.{file_first, file_second}
use Rattle.wy_cert.proofs.read.read_certs.Goals as goal

pub returns-in-Some-clause-value : goal.returns-in-Some-clause-value
returns-in-Some-clause-value c =
    let here : IsBehind (codes "wycert 1\n") c.args.bytes.now c.in-Some.rest.now = search rules in
    answers_same (ReadsCerts false c.args.conds [] 2 c.in-Some.rest.now) (ReadsFile c.args.conds c.args.bytes.now) certificates_of c.certificates.result (file_first c.args.conds c.args.bytes.now c.in-Some.rest.now here) c.certificates.ensures.value

pub returns-in-Some-behind-clause-value : goal.returns-in-Some-behind-clause-value
returns-in-Some-behind-clause-value c =
    let here : IsBehind (codes "wycert 2\n") c.args.bytes.now c.in-Some-behind.rest.now = search rules in
    answers_same (ReadsCerts true c.args.conds [] 2 c.in-Some-behind.rest.now) (ReadsFile c.args.conds c.args.bytes.now) certificates_of c.certificates-in-Some-behind.result (file_second c.args.conds c.args.bytes.now c.in-Some-behind.rest.now here) c.certificates-in-Some-behind.ensures.value
