use Rattle.std.proofs.Common.{◌≡◌, ◌≢◌, ◌<◌, ◌≤◌, ◌++◌, length, set, rules}
use Rattle.wy_heap.specs.declared.part.Part.TheVariants.{Null}
use Rattle.wy_mach.proofs.RegisterLemmas.{read_part}
use Rattle.wy_mach.proofs.EqualLemmas.{two_out, tells_same, tells_itself, left_beyond, right_beyond}
use Rattle.wy_mach.proofs.comparing.are_equal.Goals as goal

pub returns-then-first-registers-clause-stop : goal.returns-then-first-registers-clause-stop
returns-then-first-registers-clause-stop c =
    let beyond : length c.args.registers.now ≤ c.args.left = search rules in
    left_beyond c.args.heap.now c.args.registers.now c.args.left c.args.right beyond

pub returns-then-second-registers-clause-stop : goal.returns-then-second-registers-clause-stop
returns-then-second-registers-clause-stop c =
    let beyond : length c.args.registers.now ≤ c.args.right = search rules in
    right_beyond c.args.heap.now c.args.registers.now c.args.left c.args.right beyond

pub returns-then-first-second-clause-value : goal.returns-then-first-second-clause-value
returns-then-first-second-clause-value c =
    let same : c.args.left ≡ c.args.right = search rules in
    tells_itself c.args.heap.now c.args.registers.now c.args.left c.args.right same

pub equal-requires : goal.equal-requires
equal-requires c =
    let ps = c.args.registers.now in
    let i = c.args.left in
    let j = c.args.right in
    let p = c.index-registers-first.result in
    let q = c.index-registers-second.result in
    let left : i < length ps = search rules in
    let right : j < length ps = search rules in
    let differ : i ≢ j = search rules in
    record {
      held = (
        set (set ps i Null) j Null ++ c.requires.held.0,
        two_out c.args.heap.now ps c.requires.held.0 i j p q (read_part ps i p p left c.index-registers-first.is) (read_part ps j q q right c.index-registers-second.is) left right differ c.requires.held.1,
      );
    }

pub returns-clause-value : goal.returns-clause-value
returns-clause-value c =
    let ps = c.args.registers.now in
    let i = c.args.left in
    let j = c.args.right in
    let p = c.index-registers-first.result in
    let q = c.index-registers-second.result in
    let left : i < length ps = search rules in
    let right : j < length ps = search rules in
    tells_same c.args.heap.now ps i j p q c.in_ok-same.same (read_part ps i p p left c.index-registers-first.is) (read_part ps j q q right c.index-registers-second.is) c.in_ok-same.ensures.value
