use Rattle.std.proofs.Common.{◌≡◌, ◌<◌, length, get_or, set, ap, rules}
use Rattle.wy_heap.specs.declared.part.Part.{Part}
use Rattle.wy_heap.specs.declared.part.Part.TheVariants.{Null}
use Rattle.wy_mach.proofs.RegisterLemmas.{read_part}
use Rattle.wy_mach.proofs.MoveLemmas.{put_release, put_acts, beyond_acts}
use Rattle.wy_mach.proofs.registers.put.Goals as goal

pub release-requires : goal.release-requires
release-requires c =
    let ps = c.args.registers.now in
    let i = c.args.number in
    let p = c.index-registers-index.result in
    let below : i < length ps = search rules in
    let is : c.replace-old.result ≡ get_or ps i Null = read_part ps i c.replace-old.result p below c.replace-old.ensures.value in
    record { held = put_release c.args.heap.now c.args.place c.replace-old.result ps i is below c.requires.held }

pub returns-then-index-registers-clause-acts : goal.returns-then-index-registers-clause-acts
returns-then-index-registers-clause-acts c =
    let ps = c.args.registers.now in
    let i = c.args.number in
    let p = c.index-registers-index.result in
    let below : i < length ps = search rules in
    let is : c.replace-old.result ≡ get_or ps i Null = read_part ps i c.replace-old.result p below c.replace-old.ensures.value in
    put_acts c.args.heap.now c.release.new.self c.args.place c.replace-old.result ps (set ps i c.replace-old.new.dest) i is below
    (ap (λ (q : Part). set ps i q) c.replace-old.ensures.after) c.release.ensures.acts

pub returns-else-index-registers-clause-acts : goal.returns-else-index-registers-clause-acts
returns-else-index-registers-clause-acts c =
    beyond_acts c.args.heap.now c.release-else-index-registers.new.self c.args.place c.args.registers.now c.release-else-index-registers.ensures.acts

pub returns-then-index-registers-clause-lasts : goal.returns-then-index-registers-clause-lasts
returns-then-index-registers-clause-lasts c = c.release.ensures.lasts

pub returns-else-index-registers-clause-lasts : goal.returns-else-index-registers-clause-lasts
returns-else-index-registers-clause-lasts c = c.release-else-index-registers.ensures.lasts
