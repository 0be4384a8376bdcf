use Rattle.std.proofs.Common.{map}
use Rattle.wy_batch.proofs.JudgedLemmas.{all_known, all_named, judged_count}
use Rattle.wy_batch.proofs.OneLemmas.{one_list}
use Rattle.wy_batch.specs.Judged.{conditions_in}
use Rattle.wy_batch.specs.Seen.{known}
use Rattle.wy_cert.specs.Steps.{certificates_of}
use Rattle.wy_term.specs.Condition.{condition_of}
use Rattle.wy_batch.proofs.discharging.discharge.Goals as goal

pub returns-clause-known : goal.returns-clause-known
returns-clause-known g c = all_known (certificates_of c.args.certs.now) c.args.budget 1 (conditions_in c.args.conds.now) c.in_ok-verdicts.verdicts.items c.in_ok-verdicts.ensures.judged

pub returns-clause-same : goal.returns-clause-same
returns-clause-same g c = λ ks h. one_list (certificates_of c.args.certs.now) c.args.budget 1 (conditions_in c.args.conds.now) (map known c.in_ok-verdicts.verdicts.items) ks
    (all_known (certificates_of c.args.certs.now) c.args.budget 1 (conditions_in c.args.conds.now) c.in_ok-verdicts.verdicts.items c.in_ok-verdicts.ensures.judged) h

pub returns-clause-named : goal.returns-clause-named
returns-clause-named g c = all_named (certificates_of c.args.certs.now) c.args.budget 1 (conditions_in c.args.conds.now) c.in_ok-verdicts.verdicts.items c.in_ok-verdicts.ensures.judged

pub returns-clause-count : goal.returns-clause-count
returns-clause-count g c = judged_count (certificates_of c.args.certs.now) c.args.budget (condition_of c.args.conds.now.terms) c.args.conds.now.list.items c.in_ok-verdicts.verdicts.items c.in_ok-verdicts.ensures.judged
