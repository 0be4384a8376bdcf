use Rattle.std.proofs.Common.{ℕ, List, Ok, Err, subst}
use Rattle.wy_cert.specs.Steps.{certificates_of}
use Rattle.wy_top_answers.specs.Steps.{Gives, both}
use Rattle.wy_vc_laws.proofs.shown_lemmas.ReadLemmas.{reads_sorted}
use Rattle.wy_top_answers.specs.supplied.Certificates.{certificates_read}
use Rattle.wy_top_answers.proofs.supplied_lemmas.CertificateLemmas.{read_gives, bad_gives}
use Rattle.wy_top_answers.proofs.supplied.reading.read.Goals as goal

pub returns-in-Ok-clause-gives : goal.returns-in-Ok-clause-gives
returns-in-Ok-clause-gives c = λ s.
    subst (λ (b : List ℕ). Gives s (both (certificates_read c.args.name.now c.args.count b)) (Ok (certificates_of c.in-Ok.certs))) c.as_slice.ensures.value
    (read_gives s c.args.name.now c.args.count c.as_slice.result.now (certificates_of c.in-Ok.certs) c.in-Ok.ensures.value)

pub returns-in-Ok-clause-sorted : goal.returns-in-Ok-clause-sorted
returns-in-Ok-clause-sorted c = reads_sorted c.args.count c.as_slice.result.now (certificates_of c.in-Ok.certs) c.in-Ok.ensures.value.holds

pub returns-in-Err-clause-gives : goal.returns-in-Err-clause-gives
returns-in-Err-clause-gives c = λ s.
    subst (λ (b : List ℕ). Gives s (both (certificates_read c.args.name.now c.args.count b)) (Err c.bad_file.result)) c.as_slice.ensures.value
    (bad_gives s c.args.name.now c.args.count c.as_slice.result.now c.in-Err.fault c.bad_file.result c.in-Err.ensures.value c.bad_file.ensures.value)
