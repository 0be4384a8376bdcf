use Rattle.std.proofs.Common.{◌≡◌, ◌∙◌, ap, length, length-take, arith}
use Rattle.wy_search_bounds.specs.Known.{AgreesUpTo}
use Rattle.wy_facts.specs.Seen.{Stays}
use Rattle.wy_check_nodes.proofs.fronts_lemmas.FrontLemmas.{front_stays}
use Rattle.wy_search.proofs.WalkLemmas.{on_ok_both}
use Rattle.wy_search.proofs.walk.search.Goals as goal

pub returns-clause-length : goal.returns-clause-length
returns-clause-length c =
    let grown = c.searched-verdict.ensures.stays.grows in
    let cut = ap length c.back_to.ensures.value in
    omega (arith, grown, cut, c.mark-mark.ensures.value, length-take c.mark-mark.result c.searched-verdict.new.terms)

pub returns-clause-carried : goal.returns-clause-carried
returns-clause-carried c =
    let old = c.args.terms.now in
    let new = c.back_to.new.self in
    let grown = c.searched-verdict.ensures.stays.grows in
    let cut = ap length c.back_to.ensures.value in
    let taken = length-take c.mark-mark.result c.searched-verdict.new.terms in
    let same : length new ≡ c.mark-mark.result = omega (arith, grown, cut, c.mark-mark.ensures.value, taken) in
    let agrees : AgreesUpTo c.len.result c.searched-verdict.new.terms new = record {
      within = omega (arith, c.len.ensures.value);
      trees = λ t lt. c.back_to.ensures.kept t (omega (arith, lt, c.len.ensures.value, same));
    } in
    let stays : Stays old new = record {
      grows = omega (arith, c.mark-mark.ensures.value, same);
      trees = λ t lt. c.back_to.ensures.kept t (omega (arith, lt, c.mark-mark.ensures.value)) ∙ c.searched-verdict.ensures.stays.trees t lt;
    } in
    on_ok_both c.searched-verdict.result
    (λ forms front. record {
      forms = c.forget_from.ensures c.searched-verdict.new.terms new agrees forms;
      front = front_stays old new c.searched-verdict.new.carried.front stays front;
    })
    c.searched-verdict.ensures.forms c.searched-verdict.ensures.front

pub returns-clause-kept : goal.returns-clause-kept
returns-clause-kept c = λ t lt. c.back_to.ensures.kept t (omega (arith, lt, c.mark-mark.ensures.value)) ∙ c.searched-verdict.ensures.stays.trees t lt
