use Rattle.std.proofs.Common.{◌≡◌, ◌+◌, drop}
use Rattle.wy_core.specs.CoreSeen.{seen_exprs}
use Rattle.wy_vc_exprs.specs.wy_vc_spec.Sizes.{exprs_in_list}
use Rattle.wy_vc_exprs.specs.Slots.{slots_of}
use Rattle.wy_vc_exprs.specs.State.{hyps_of}
use Rattle.wy_vc_exprs.proofs.StateLemmas.{Toward}
use Rattle.wy_vc_body.specs.Frames.{program_of}
use Rattle.wy_vc_body.proofs.LoopLemmas.{walking}
use Rattle.wy_vc_body.proofs.loops.walk_clauses.Given as goal

abbrev pub invariant-loop-clause : goal.invariant-loop-clause
invariant-loop-clause l =
    Toward l.fn.walk l.walk (walking (program_of l.core l.program) l.words (slots_of l.fn.walk.maker.terms l.vars) (drop l.clause-index l.clauses) l.walk.maker.node (hyps_of l.walk) l.walk.maker.count)
    (walking (program_of l.core l.program) l.words (slots_of l.fn.walk.maker.terms l.vars) l.clauses l.fn.walk.maker.node (hyps_of l.fn.walk) l.fn.walk.maker.count)
    × (l.walk.maker.node + exprs_in_list (seen_exprs (drop l.clause-index l.clauses)) ≡ l.fn.walk.maker.node + exprs_in_list (seen_exprs l.clauses))
