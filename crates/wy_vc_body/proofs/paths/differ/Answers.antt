use Rattle.std.proofs.Common.{arith}
use Rattle.wy_vc_body.proofs.PathLemmas.{differ_first, differ_none, slot_read, slot_within, first_path}
use Rattle.wy_vc_body.proofs.paths.differ.Goals as goal

pub returns-in-None-slot_at : goal.returns-in-None-slot_at
returns-in-None-slot_at c = record {
  value = differ_none c.args.terms.now c.args.paths.now c.in-Some.rest.now c.in-Some.first.now c.args.x c.in-Some.ensures.cases.0 (slot_read _ _ c.args.x _ c.as_slice.ensures.value c.in-None-slot_at.ensures.value);
}

pub returns-then-term-len : goal.returns-then-term-len
returns-then-term-len c = record {
  value = differ_first c.args.terms.now c.args.paths.now c.in-Some.rest.now c.in-Some.first.now c.args.x c.in-Some-slot_at.term _ c.in-Some.ensures.cases.0 (slot_read _ _ c.args.x _ c.as_slice.ensures.value c.in-Some-slot_at.ensures.value) c.differ_from.ensures.value;
}

pub returns-else-term-len : goal.returns-else-term-len
returns-else-term-len c =
    let within = slot_within _ c.in-Some.first.now.here.vars.items c.args.x c.in-Some-slot_at.term (first_path c.args.terms.now c.args.paths.now c.in-Some.rest.now c.in-Some.first.now c.in-Some.ensures.cases.0 c.requires.paths).vars (slot_read _ _ c.args.x _ c.as_slice.ensures.value c.in-Some-slot_at.ensures.value) in
    absurd (omega (arith, within, c.if-term-len.false, c.len.ensures.value))
