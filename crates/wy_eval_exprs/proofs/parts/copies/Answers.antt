use Rattle.std.proofs.Common.{◌≡◌, ap, ◌∙◌, arith}
use Rattle.wy_value.specs.Seen.{seen}
use Rattle.wy_sem.specs.Operations as spec
use Rattle.wy_eval_exprs.specs.Operands.{items_of}
use Rattle.wy_eval_exprs.proofs.PartLemmas.{copies_more}
use Rattle.wy_eval_exprs.proofs.parts.copies.Goals as goal

pub loop-turn-init : goal.loop-turn-init
loop-turn-init c = ap items_of c.in_ok-made.ensures.items

pub loop-turn-preserved : goal.loop-turn-preserved
loop-turn-preserved c = ap items_of c.in_ok-push.ensures.items
    ∙ copies_more c.loop-turn.made.items c.loop-turn._turn (seen c.args.item.now) c.in_ok-copy.field-0 c.loop-turn.invariant (ap seen c.in_ok-copy.ensures.value)

pub returns : goal.returns
returns c =
    let e : c.loop-turn._turn ≡ c.args.count = omega (arith, c.loop-turn-test.false, c.loop-turn.auto._turn-end) in
    record { value = ap items_of c.from_vec.ensures ∙ (c.loop-turn.invariant ∙ ap (λ n. spec.copies n (seen c.args.item.now)) e) }
