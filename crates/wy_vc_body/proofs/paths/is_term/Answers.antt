use Rattle.std.proofs.Common.{sym, arith}
use Rattle.wy_term.specs.Nodes.{tree_at}
use Rattle.wy_vc_body.proofs.PathLemmas.{term_none, term_some, slot_within}
use Rattle.wy_vc_body.proofs.paths.is_term.Goals as goal

pub returns-in-None : goal.returns-in-None
returns-in-None c = record { value = term_none c.args.terms.now c.args.vars.now c.args.x (tree_at c.args.terms.now c.args.term) (sym c.in-None.ensures.value) }

pub returns-then-other-len : goal.returns-then-other-len
returns-then-other-len c = record { value = term_some c.args.terms.now c.args.vars.now c.args.x c.in-Some.other (tree_at c.args.terms.now c.args.term) _ (sym c.in-Some.ensures.value) c.same.ensures.value }

pub returns-else-other-len : goal.returns-else-other-len
returns-else-other-len c =
    let within = slot_within _ c.args.vars.now c.args.x c.in-Some.other c.requires.slots (sym c.in-Some.ensures.value) in
    absurd (omega (arith, within, c.if-other-len.false, c.len.ensures.value))
