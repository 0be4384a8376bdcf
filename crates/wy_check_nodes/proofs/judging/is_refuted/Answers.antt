use Rattle.std.proofs.Common.{◌≡◌, ◌∙◌, length, true, false, refl, sym, rules}
use Rattle.wy_check_spec.specs.wy_term.Nodes.{tree_at}
use Rattle.wy_check_spec.specs.judge.Judgement.{judged}
use Rattle.wy_check_nodes.specs.Seen.{seen_branch}
use Rattle.wy_check_nodes.specs.Judged.{fails}
use Rattle.wy_check_nodes.proofs.BranchLemmas.{over_get}
use Rattle.wy_check_nodes.proofs.JudgingLemmas.{refuted_now, refuted_later}
use Rattle.wy_check_nodes.proofs.judging.is_refuted.Goals as goal

pub is_judged_no-requires-clause-formula : goal.is_judged_no-requires-clause-formula
is_judged_no-requires-clause-formula c = over_get (length c.args.terms.now) c.args.branch.now.pending.keys c.loop-i.i c.pending_at-f.result c.requires.pending c.pending_at-f.ensures

pub returns-then-branch : goal.returns-then-branch
returns-then-branch c =
    let at = tree_at c.args.terms.now in
    let b = seen_branch at c.args.branch.now in
    let is : c.in_ok-is_judged_no.field-0 ≡ true = search rules in
    let up : fails (judged b.literals (at c.pending_at-f.result.0)) c.pending_at-f.result.1 ≡ true = sym c.in_ok-is_judged_no.ensures.value ∙ is in
    record { value = refuted_now at b.literals c.args.branch.now.pending.keys c.loop-i.i c.pending_at-f.result (judged b.literals (at c.pending_at-f.result.0)) _ c.pending_at-f.ensures refl c.loop-i.invariant.left up }

pub loop-i-preserved : goal.loop-i-preserved
loop-i-preserved c =
    let at = tree_at c.args.terms.now in
    let b = seen_branch at c.args.branch.now in
    let is : c.in_ok-is_judged_no.field-0 ≡ false = search rules in
    let un : fails (judged b.literals (at c.pending_at-f.result.0)) c.pending_at-f.result.1 ≡ false = sym c.in_ok-is_judged_no.ensures.value ∙ is in
    record {
      known = c.in_ok-is_judged_no.ensures.known;
      left = refuted_later at b.literals c.args.branch.now.pending.keys c.loop-i.i c.pending_at-f.result (judged b.literals (at c.pending_at-f.result.0)) _ c.pending_at-f.ensures refl c.loop-i.invariant.left un;
    }
