use Rattle.std.proofs.Common.{rules, ◌≡◌, ◌≢◌, ◌++◌, codes}
use Rattle.wy_cert.specs.declared.fault.CertFault.TheVariants.{NoMemory}
use Rattle.wy_cert.specs.Steps.{certificates_of}
use Rattle.wy_cache.proofs.KeptLemmas.{small_file, file_joined, by_only, steps_refused}
use Rattle.wy_cache.proofs.keeping.certificate.Goals as goal

pub only-requires : goal.only-requires
only-requires c = small_file c.as_slice.result.now (certificates_of c.in-Ok.certs) (let k = c.in-Ok.ensures.value in k.holds)

pub returns-in-Ok-clause-value : goal.returns-in-Ok-clause-value
returns-in-Ok-clause-value c =
    let file : c.as_slice.result.now ≡ (codes "wycert 2\ncond 1\n" ++ c.args.steps.now) ++ codes "end\n" = search rules in
    by_only c.args.steps.now c.as_slice.result.now (certificates_of c.in-Ok.certs) c.only.result (file_joined c.as_slice.result.now c.args.steps.now file) c.in-Ok.ensures.value c.only.ensures.value

pub returns-clause-value : goal.returns-clause-value
returns-clause-value c =
    let file : c.as_slice.result.now ≡ (codes "wycert 2\ncond 1\n" ++ c.args.steps.now) ++ codes "end\n" = search rules in
    let apart : c.in-Err.fault ≢ NoMemory = search rules in
    steps_refused c.args.steps.now c.as_slice.result.now c.in-Err.fault (file_joined c.as_slice.result.now c.args.steps.now file) (c.in-Err.ensures.value apart)
