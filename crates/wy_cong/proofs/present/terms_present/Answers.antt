use Rattle.std.proofs.Common.{◌∙◌, length, ap, arith}
use Rattle.wy_search_spec.specs.Standing.{only_terms}
use Rattle.wy_term.specs.Nodes.{tree_at}
use Rattle.wy_cong.specs.Seen.{terms_of}
use Rattle.wy_cong.proofs.WalkLemmas.{over_get}
use Rattle.wy_cong.proofs.PlaceLemmas.{taken_next, taken_end}
use Rattle.wy_cong.proofs.present.terms_present.Goals as goal

pub take-requires-clause-term : goal.take-requires-clause-term
take-requires-clause-term c = over_get (length c.args.terms.now) c.in_ok-found.found.keys.items c.loop-i.i c.listed_at-k.result c.in_ok-found.ensures.listed.over c.listed_at-k.ensures

pub loop-i-preserved : goal.loop-i-preserved
loop-i-preserved c =
    let at = tree_at c.args.terms.now in
    record {
      left = taken_next at c.in_ok-found.found.keys.items c.loop-i.i c.listed_at-k.result (terms_of at c.loop-i.made) (terms_of at c.take.new.present) _ c.listed_at-k.ensures c.in_ok-take.ensures.value c.loop-i.invariant.left;
      present = c.in_ok-take.ensures.present;
    }

pub returns-clause-value : goal.returns-clause-value
returns-clause-value c =
    let at = tree_at c.args.terms.now in
    taken_end at c.in_ok-found.found.keys.items c.loop-i.i (terms_of at c.loop-i.made) _ (omega arith) c.loop-i.invariant.left ∙ ap only_terms c.in_ok-found.ensures.value
