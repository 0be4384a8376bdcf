use Rattle.std.proofs.Common.{sym, ◌∙◌}
use Rattle.wy_types.proofs.ShortLemmas.{same_terms-short}
use Rattle.wy_types.proofs.sameness.same_terms.Goals as goal

pub returns-in-empty : goal.returns-in-empty
returns-in-empty c = record { value = sym (same_terms-short c.args.a.now c.loop-x.rest.now c.loop-x.x-index c.loop-x-test.true c.in-empty.len_below) ∙ c.loop-x.invariant }
