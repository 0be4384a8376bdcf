use Rattle.std.proofs.Common.{◌≡◌, ◌∙◌, ℕ, Some, ap, length, nat_eq, rules}
use Rattle.std.specs.HashMap.{get}
use Rattle.std.specs.Prelude.{slice_get}
use Rattle.wy_term.specs.Nodes.{tree_at}
use Rattle.wy_cong.specs.Firsts.{kind_at}
use Rattle.wy_cong.specs.Seen.{terms_of}
use Rattle.wy_cong.proofs.FirstKindLemmas.{other_here, place_below}
use Rattle.wy_cong.proofs.firsts.holds_kind.Goals as goal

pub class_number-class-requires-clause-term : goal.class_number-class-requires-clause-term
class_number-class-requires-clause-term c =
    let found : slice_get c.args.denied.now c.args.place ≡ Some c.in-Some.q.now = search rules in
    place_below (length c.args.terms.now) c.args.denied.now c.args.place c.in-Some.q.now c.requires.denied found

pub returns-in-Some : goal.returns-in-Some
returns-in-Some c =
    let at = tree_at c.args.terms.now in
    let found : slice_get c.args.denied.now c.args.place ≡ Some c.in-Some.q.now = search rules in
    λ un. other_here (terms_of at c.args.present.now) c.args.labels.now at c.args.kinds.now (get nat_eq c.args.firsts.now) c.args.denied.now c.args.place c.in-Some.q.now found
    (λ k h. c.has_kind.ensures un k (ap (λ (m : ℕ). kind_at c.args.kinds.now (get nat_eq c.args.firsts.now m)) c.class_number-class.ensures ∙ h))
