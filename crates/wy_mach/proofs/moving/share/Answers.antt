use Rattle.std.proofs.Common.{◌≡◌, ◌<◌, ◌≤◌, length, get_or, refl, rules, subst, sym, ◌∙◌}
use Rattle.std.specs.Prelude.{Ok}
use Rattle.wy_heap.specs.Nodes.{map_of}
use Rattle.wy_sem.specs.Expressions.{slot}
use Rattle.wy_code_spec.specs.step.Step.{gives}
use Rattle.wy_mach.proofs.RegisterLemmas.{read_part, slot_beyond}
use Rattle.wy_mach.proofs.NumberLemmas.{there_none}
use Rattle.wy_mach.proofs.MoveLemmas.{register_held, second_stands, second_beside, second_turns, shared_goes, unchanged}
use Rattle.wy_mach.proofs.CountedLemmas.{second_counts}
use Rattle.wy_heap.specs.declared.part.Part.TheVariants.{Null}
use Rattle.wy_heap.specs.Parts.{IsBelow}
use Rattle.wy_heap.specs.declared.part.Part.{Part}
use Rattle.wy_mach.specs.declared.stop.Stop.{Stop}
use Rattle.wy_mach.specs.declared.stop.Stop.TheVariants as stop
use Rattle.wy_mach.proofs.TurnLemmas.{all_err}
use Rattle.wy_mach.proofs.ShareLemmas.{puts_in, same_part}
use Rattle.wy_mach.proofs.moving.share.Goals as goal

pub returns-then-index-registers-clause-stop : goal.returns-then-index-registers-clause-stop
returns-then-index-registers-clause-stop c shapes s shows =
    let beyond : length c.args.registers.now ≤ c.args.from = search rules in
    there_none (slot s c.args.from) (λ v. gives s c.args.to v) (slot_beyond (map_of c.args.heap.now) s c.args.registers.now c.args.from shows beyond)

pub share-requires : goal.share-requires
share-requires c =
    let ps = c.args.registers.now in
    let p = get_or ps c.args.from c.index-registers-index.result in
    let below : c.args.from < length ps = search rules in
    record { held = register_held c.args.heap.now p ps c.args.from (read_part ps c.args.from p c.index-registers-index.result below refl) below c.requires.held }

pub returns-in_err-made-clause-turns : goal.returns-in_err-made-clause-turns
returns-in_err-made-clause-turns c = unchanged c.args.heap.now c.share.new.self c.args.registers.now c.in_err-made.ensures.no_memory c.share.ensures.kept

pub put-requires : goal.put-requires
put-requires c =
    let ps = c.args.registers.now in
    let p = get_or ps c.args.from c.index-registers-index.result in
    let below : c.args.from < length ps = search rules in
    record { held = second_beside c.args.heap.now c.share.new.self p c.in_ok-made.made ps c.args.from (read_part ps c.args.from p c.index-registers-index.result below refl) below c.requires.held c.in_ok-made.ensures.acts }

pub returns-clause-turns : goal.returns-clause-turns
returns-clause-turns c =
    let ps = c.args.registers.now in
    let p = get_or ps c.args.from c.index-registers-index.result in
    let below : c.args.from < length ps = search rules in
    second_turns c.args.heap.now c.share.new.self c.put.new.heap p c.in_ok-made.made ps c.put.new.registers c.args.from (read_part ps c.args.from p c.index-registers-index.result below refl) below c.in_ok-made.ensures.acts c.put.ensures.acts

pub returns-clause-value : goal.returns-clause-value
returns-clause-value c shapes =
    let ps = c.args.registers.now in
    let p = get_or ps c.args.from c.index-registers-index.result in
    let below : c.args.from < length ps = search rules in
    shared_goes c.args.heap.now c.share.new.self c.put.new.heap p c.in_ok-made.made ps c.put.new.registers c.args.from c.args.to (read_part ps c.args.from p c.index-registers-index.result below refl) below c.requires.held c.in_ok-made.ensures.acts c.in_ok-made.ensures.value c.put.ensures.acts c.put.ensures.registers

pub returns-clause-shares : goal.returns-clause-shares
returns-clause-shares c under =
    let h = c.args.heap.now in
    let ps = c.args.registers.now in
    let p = get_or ps c.args.from c.index-registers-index.result in
    let below : c.args.from < length ps = search rules in
    let is = read_part ps c.args.from p c.index-registers-index.result below refl in
    let told = c.share.ensures.below (subst (λ (q : Part). IsBelow h h.cap q) (sym is) under) in
    let was : c.share.result ≡ Ok c.in_ok-made.made = search rules in
    puts_in h c.share.new.self c.put.new.heap ps ps c.put.new.registers c.args.to (get_or ps c.args.from Null) c.in_ok-made.made told.1 told.2 refl (same_part c.in_ok-made.made p c.share.result was told.0 ∙ is) c.put.ensures.registers c.put.ensures.lasts c.put.ensures.copies

pub returns-in_err-made-clause-memory : goal.returns-in_err-made-clause-memory
returns-in_err-made-clause-memory c = all_err c.from_residual.result (λ (e : Stop). e ≡ stop.NoMemory → IsBelow c.args.heap.now c.args.heap.now.cap (get_or c.args.registers.now c.args.from Null) → ⊥) (λ e none under.
    let h = c.args.heap.now in
    let ps = c.args.registers.now in
    let p = get_or ps c.args.from c.index-registers-index.result in
    let below : c.args.from < length ps = search rules in
    let is = read_part ps c.args.from p c.index-registers-index.result below refl in
    let told = (c.share.ensures.below (subst (λ (q : Part). IsBelow h h.cap q) (sym is) under)).0 in
    absurd (grind (rules, told)))

pub returns-clause-counts : goal.returns-clause-counts
returns-clause-counts c =
    let h = c.args.heap.now in
    let n = c.share.new.self in
    let ps = c.args.registers.now in
    let made = c.in_ok-made.made in
    let held = c.requires.held in
    let p = get_or ps c.args.from c.index-registers-index.result in
    let below : c.args.from < length ps = search rules in
    second_counts h n c.put.new.heap ps c.put.new.registers held.0 c.args.to made held.1 (second_stands h n p made ps held.0 c.args.from (read_part ps c.args.from p c.index-registers-index.result below refl) below c.in_ok-made.ensures.acts held.1)
    c.put.ensures.acts c.put.ensures.registers c.in_ok-made.ensures.stays c.in_ok-made.ensures.copies c.put.ensures.lasts c.put.ensures.copies
