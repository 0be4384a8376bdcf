use Rattle.std.proofs.Common.{map}
use Rattle.wy_batch.proofs.JudgedLemmas.{all_known, all_named, judged_count}
use Rattle.wy_batch.proofs.OneLemmas.{one_list}
use Rattle.wy_batch.specs.Seen.{known}
use Rattle.wy_cert.specs.Steps.{certificates_of}
use Rattle.wy_term.specs.Condition.{condition_of}
use Rattle.wy_batch.proofs.alone.judge_alone.Goals as goal

pub returns-clause-known : goal.returns-clause-known
returns-clause-known c = all_known (certificates_of c.args.certs.now) c.args.budget 1 (map (condition_of c.args.terms.now) c.args.conds.now) c.in_ok-all.all.items c.in_ok-all.ensures.judged

pub returns-clause-same : goal.returns-clause-same
returns-clause-same c = λ ks h. one_list (certificates_of c.args.certs.now) c.args.budget 1 (map (condition_of c.args.terms.now) c.args.conds.now) (map known c.in_ok-all.all.items) ks
    (all_known (certificates_of c.args.certs.now) c.args.budget 1 (map (condition_of c.args.terms.now) c.args.conds.now) c.in_ok-all.all.items c.in_ok-all.ensures.judged) h

pub returns-clause-named : goal.returns-clause-named
returns-clause-named c = all_named (certificates_of c.args.certs.now) c.args.budget 1 (map (condition_of c.args.terms.now) c.args.conds.now) c.in_ok-all.all.items c.in_ok-all.ensures.judged

pub returns-clause-count : goal.returns-clause-count
returns-clause-count c = judged_count (certificates_of c.args.certs.now) c.args.budget (condition_of c.args.terms.now) c.args.conds.now c.in_ok-all.all.items c.in_ok-all.ensures.judged
