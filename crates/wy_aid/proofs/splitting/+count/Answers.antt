use Rattle.std.proofs.Common.{subst, rules}
use Rattle.wy_search.proofs.AddingLemmas.{types_up}
use Rattle.wy_search.proofs.SpotLemmas.{spot_stays}
use Rattle.wy_search.proofs.wy_search_bounds_proofs.wy_facts_proofs.StepLemmas.{stays_on}
use Rattle.wy_search.specs.Turns.{IsNextOver}
use Rattle.wy_aid.proofs.splitting.+count.Goals as goal

pub count-requires : goal.count-requires
count-requires t c = (
  search rules,
  (
    types_up c.args.terms.now c.what_follows.new.terms c.args.cond.now c.in_ok-what_follows.ensures.stays c.requires.types,
    (
      subst (IsNextOver c.what_follows.new.terms) c.in-GoesOn.is c.in_ok-what_follows.ensures.next,
      c.in_ok-what_follows.ensures.known,
    ),
  ),
)

pub returns-in-GoesOn-clause-stays : goal.returns-in-GoesOn-clause-stays
returns-in-GoesOn-clause-stays t c =
    stays_on c.args.terms.now c.what_follows.new.terms c.count.new.terms c.in_ok-what_follows.ensures.stays c.count.ensures.stays

pub count-requires-in-Splits : goal.count-requires-in-Splits
count-requires-in-Splits t c =
    let both = subst (IsNextOver c.what_follows.new.terms) c.in-Splits.is c.in_ok-what_follows.ensures.next in (
      search rules,
      (
        types_up c.args.terms.now c.what_follows.new.terms c.args.cond.now c.in_ok-what_follows.ensures.stays c.requires.types,
        (
          both.0,
          c.in_ok-what_follows.ensures.known,
        ),
      ),
    )

pub returns-in_err-count-in-Splits-clause-stays : goal.returns-in_err-count-in-Splits-clause-stays
returns-in_err-count-in-Splits-clause-stays t c =
    stays_on c.args.terms.now c.what_follows.new.terms c.count-in-Splits.new.terms c.in_ok-what_follows.ensures.stays c.in_err-count-in-Splits.ensures.stays

pub count-requires-in-Splits-2 : goal.count-requires-in-Splits-2
count-requires-in-Splits-2 t c =
    let old = c.args.terms.now in
    let mid = c.what_follows.new.terms in
    let new = c.count-in-Splits.new.terms in
    let both = subst (IsNextOver mid) c.in-Splits.is c.in_ok-what_follows.ensures.next in
    let stays = c.in_ok-count-in-Splits.ensures.stays in (
      search rules,
      (
        types_up old new c.args.cond.now (stays_on old mid new c.in_ok-what_follows.ensures.stays stays) c.requires.types,
        (
          spot_stays mid new c.in-Splits.second stays both.1,
          c.in_ok-count-in-Splits.ensures.known,
        ),
      ),
    )

pub returns-clause-stays : goal.returns-clause-stays
returns-clause-stays t c =
    let old = c.args.terms.now in
    let mid = c.what_follows.new.terms in
    let new = c.count-in-Splits.new.terms in
    stays_on old new c.count-in-Splits-2.new.terms (stays_on old mid new c.in_ok-what_follows.ensures.stays c.in_ok-count-in-Splits.ensures.stays) c.count-in-Splits-2.ensures.stays
