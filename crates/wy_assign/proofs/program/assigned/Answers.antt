-- All follows from the plain function's answer.
use Rattle.wy_core.specs.CoreSeen.{seen_core}
use Rattle.wy_assign.proofs.ProgramLemmas.{only_assigned, only_fault, accepts, refuses}
use Rattle.wy_assign.proofs.program.assigned.Goals as goal

pub returns-clause-sound : goal.returns-clause-sound
returns-clause-sound c = only_assigned (seen_core c.args.core.now) c.judge.result c.judge.ensures.value

pub returns-clause-complete : goal.returns-clause-complete
returns-clause-complete c = accepts (seen_core c.args.core.now) c.judge.result c.judge.ensures.value

pub returns-clause-fault : goal.returns-clause-fault
returns-clause-fault c = only_fault (seen_core c.args.core.now) c.judge.result c.judge.ensures.value

pub returns-clause-exact : goal.returns-clause-exact
returns-clause-exact c = refuses (seen_core c.args.core.now) c.judge.result c.judge.ensures.value
