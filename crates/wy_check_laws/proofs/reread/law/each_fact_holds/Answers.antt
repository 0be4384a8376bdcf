use Rattle.wy_check_laws.proofs.reread_lemmas.HoldLemmas.{each_fact_holds, types_are_told}
use Rattle.wy_check_laws.proofs.reread.law.each_fact_holds.Goals as goal

pub returns : goal.returns
returns c = record { holds = each_fact_holds; types = types_are_told }
