use Rattle.std.proofs.Common.{ℕ}
use Rattle.wy_cert.specs.declared.step.Cert.{Cert}
use Rattle.wy_cert.specs.Steps.{NamesItsTerms}
use Rattle.wy_cache.proofs.KeptLemmas.{last_has}
use Rattle.wy_cache.proofs.keeping.only.Goals as goal

pub returns-clause-names : goal.returns-clause-names
returns-clause-names c = λ names. last_has (λ (e : ℕ × Cert). NamesItsTerms e.1) c.pop.new.self.items c.args.certs.list.items (c.in-Some._number, c.in-Some.cert) c.in-Some.ensures.items names
