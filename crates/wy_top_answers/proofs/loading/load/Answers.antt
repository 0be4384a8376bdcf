use Rattle.std.proofs.Common.{◌≤◌, length, rules, Err, ap}
use Rattle.wy_port.specs.declared.files.LoadFault.{LoadFault}
use Rattle.wy_top_answers.proofs.LoadLemmas.{loads, load_fails, says}
use Rattle.wy_top_answers.proofs.loading.load.Goals as goal

pub returns-in-Ok-clause-gives : goal.returns-in-Ok-clause-gives
returns-in-Ok-clause-gives g c = λ s during.
    let within : length c.in-Ok.bytes.items ≤ c.args.limit = search rules in
    rw c.new.ensures.value (loads s (g.F.Files.told c.args.files.now) _ _ _ _ c.args.name.now c.args.limit c.in-Ok.bytes.items during c.in-Ok.ensures.found within)

pub returns-in-Err-clause-gives : goal.returns-in-Err-clause-gives
returns-in-Err-clause-gives g c = λ s during.
    let f = g.F.Files.load_faults c.args.files.now in
    let h = g.F.Files.load_faults c.load.new.self in
    let m = g.F.Files.misses c.args.files.now in
    let n = g.F.Files.misses c.load.new.self in
    load_fails s (g.F.Files.told c.args.files.now) f h m n c.args.name.now c.args.limit c.in-Err.fault c.not_loaded.result during
    (says (g.F.Files.told c.args.files.now) f h m n c.args.name.now c.args.limit c.in-Err.fault (λ e. c.in-Err.ensures.absent (ap (λ (f : LoadFault). Err f) e)) (λ e. c.in-Err.ensures.too_long (ap (λ (f : LoadFault). Err f) e)) (λ e. c.in-Err.ensures.cause (ap (λ (f : LoadFault). Err f) e)))
    c.not_loaded.ensures.value
