use Rattle.std.proofs.Common.{◌≡◌, ◌∙◌, sym, ap, rules, to_z, FitsSigned}
use Rattle.std.specs.Int.{w128}
use Rattle.std.proofs.lemmas.Int.{to_z-of_z}
use Rattle.wy_cong.specs.wy_search_spec.Bounds.{taking_away}
use Rattle.std.specs.Prelude.{pos, ℤ}
use Rattle.std.specs.Ordering.{int_eq}
use Rattle.wy_search_bounds.proofs.TakingLemmas.{none_taken, first_stays, taken_more}
use Rattle.wy_search_bounds.proofs.removal.push_taking.Goals as goal

pub returns-then-c-eq0 : goal.returns-then-c-eq0
returns-then-c-eq0 c =
    let f : FitsSigned w128 c.args.c = search rules in
    let is : c.args.c ≡ pos 0 = sym (to_z-of_z w128 c.args.c f) ∙ ap (to_z w128) c.if-c-eq0.true in
    none_taken c.args.labels.now c.args.c c.args.v c.args.made.now.items (ap (λ (z : ℤ). int_eq z (pos 0)) is)

pub returns-then-first-v : goal.returns-then-first-v
returns-then-first-v c = first_stays c.args.labels.now c.args.c c.args.v c.in_ok-first.first c.args.made.now.items c.in_ok-first.ensures c.if-first-v.true

pub returns : goal.returns
returns c =
    let fits : FitsSigned w128 c.args.c = search rules in
    taken_more c.args.labels.now c.args.c c.args.v c.in_ok-first.first c.args.made.now.items c.push.new.self.items c.in_ok-taking_away.field-0 (search rules) c.in_ok-first.ensures c.if-first-v.false (c.in_ok-taking_away.ensures ∙ ap (λ (z : ℤ). taking_away z c.args.v c.in_ok-first.first) (to_z-of_z w128 c.args.c fits)) c.in_ok-push.ensures.items
