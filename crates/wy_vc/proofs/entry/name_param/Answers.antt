use Rattle.std.proofs.Common.{refl}
use Rattle.wy_core.specs.CoreSeen.{seen_param}
use Rattle.wy_vc_body.specs.wy_vc_exprs.declared.walk.Walk.{Walk}
use Rattle.wy_vc.proofs.EntryLemmas.{param_named}
use Rattle.wy_vc.proofs.entry.name_param.Goals as goal

pub returns-clause-value : goal.returns-clause-value
returns-clause-value c =
    let b : Walk = record c.args.walk.now { maker = c.new_name.new.maker } in
    param_named c.args.words.now (seen_param c.args.param.now) c.in_ok-name.name c.args.walk.now b c.args.here.now c.assign.new.self c.requires.sound c.requires.slots
    c.in_ok-name.ensures.made c.in_ok-name.ensures.count refl refl c.in_ok-assign.ensures.vars c.in_ok-assign.ensures.set
