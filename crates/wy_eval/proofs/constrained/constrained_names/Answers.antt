use Rattle.std.proofs.Common.{◌≡◌, suc, ◌≤◌, length, map, sym, ap, ◌∙◌, arith}
use Rattle.wy_core.specs.CoreSeen.{seen_alias}
use Rattle.wy_eval.specs.Marks.{marks_after, rounds}
use Rattle.wy_eval.proofs.MarkLemmas.{settled_at}
use Rattle.wy_eval.proofs.constrained.constrained_names.Goals as goal

pub returns-then-same_marks : goal.returns-then-same_marks
returns-then-same_marks c =
    let T = map seen_alias c.args.types.now in
    let i = c.loop-round.round in
    let n = length c.args.types.now in
    let before : c.loop-round.marks.items ≡ rounds T i = c.loop-round.invariant in
    let held : c.as_slice-held.result.now ≡ c.loop-round.marks.items = c.as_slice-held.ensures.value in
    let fresh : c.as_slice-fresh.result.now ≡ c.in_ok-next.next.items = c.as_slice-fresh.ensures.value in
    let same : c.as_slice-held.result.now ≡ c.as_slice-fresh.result.now = c.same_marks.ensures.value c.if-same_marks.true in
    let next : c.in_ok-next.next.items ≡ marks_after T c.as_slice-held.result.now = c.in_ok-next.ensures.value in
    let now : rounds T i ≡ rounds T (suc i) = sym before ∙ (sym held ∙ (same ∙ (fresh ∙ (next ∙ (ap (marks_after T) held ∙ ap (marks_after T) before))))) in
    let below : i ≤ suc n = omega arith in
    record { value = before ∙ sym (settled_at T i (suc n) below now) }

pub returns : goal.returns
returns c =
    let T = map seen_alias c.args.types.now in
    let i = c.loop-round.round in
    let n = length c.args.types.now in
    let all : i ≡ n = omega arith in
    let before : c.loop-round.marks.items ≡ rounds T i = c.loop-round.invariant in
    let held : c.as_slice-held-2.result.now ≡ c.loop-round.marks.items = c.as_slice-held-2.ensures.value in
    record { value = c.in_ok-last.ensures.value ∙ ap (marks_after T) (held ∙ (before ∙ ap (rounds T) all)) }
