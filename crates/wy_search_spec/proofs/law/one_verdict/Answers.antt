use Rattle.wy_search_spec.proofs.VerdictLemmas.{one_verdict}
use Rattle.wy_search_spec.proofs.law.one_verdict.Goals as goal

pub returns : goal.returns
returns c = one_verdict
