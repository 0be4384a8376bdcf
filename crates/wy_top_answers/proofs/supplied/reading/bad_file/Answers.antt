use Rattle.wy_top_answers.specs.supplied.Certificates.{fault_text}
use Rattle.wy_top_answers.proofs.supplied_lemmas.CertificateLemmas.{bad_refusal}
use Rattle.wy_top_answers.proofs.supplied.reading.bad_file.Goals as goal

pub returns-in_default : goal.returns-in_default
returns-in_default c = record {
  value = bad_refusal c.args.name.now c.args.fault c.refusal.result c.in_default.not-NoMemory (c.refusal.ensures.value (fault_text c.args.name.now c.args.fault) c.fault_line.ensures.value);
}
