use Rattle.std.proofs.Common.{refl}
use Rattle.wy_vc_body.proofs.LoopLemmas.{named_renews}
use Rattle.wy_vc_body.proofs.loops.renew_name.Goals as goal

pub returns-clause-value : goal.returns-clause-value
returns-clause-value c =
    named_renews c.args.words.now c.args.x c.in_ok-name.name c.args.walk.now (record c.args.walk.now { maker = c.new_name.new.maker }) c.args.here.now (record c.args.here.now { vars = c.put.new.vars }) c.requires.sound c.requires.slots
    c.in_ok-name.ensures.made c.in_ok-name.ensures.count refl refl c.in_ok-put.ensures.value refl
