use Rattle.std.proofs.Common.{◌≡◌, ◌∙◌, ℕ, None, Some, ap, length, nat_eq, rules, sym}
use Rattle.std.proofs.lemmas.Result.{IfOk-weaker}
use Rattle.std.specs.HashMap.{get}
use Rattle.std.specs.Prelude.{slice_get}
use Rattle.wy_term.specs.Nodes.{tree_at}
use Rattle.wy_cong.specs.Firsts.{kind_at}
use Rattle.wy_cong.specs.Seen.{terms_of}
use Rattle.wy_cong.proofs.FirstKindLemmas.{first_is, first_none, place_below, place_kind}
use Rattle.wy_cong.proofs.firsts.note_place.Goals as goal

pub class_number-class-requires-clause-term : goal.class_number-class-requires-clause-term
class_number-class-requires-clause-term c =
    let found : slice_get c.args.kinds.now c.args.place ≡ Some c.in-Some.p.now = search rules in
    place_below (length c.args.terms.now) c.args.kinds.now c.args.place c.in-Some.p.now c.requires.kinds found

pub note_kind-requires : goal.note_kind-requires
note_kind-requires c =
    let found : slice_get c.args.kinds.now c.args.place ≡ Some c.in-Some.p.now = search rules in
    place_kind c.args.kinds.now c.args.place c.in-Some.p.now found

pub returns-in-Some-clause-here : goal.returns-in-Some-clause-here
returns-in-Some-clause-here c =
    let at = tree_at c.args.terms.now in
    let found : slice_get c.args.kinds.now c.args.place ≡ Some c.in-Some.p.now = search rules in
    IfOk-weaker c.note_kind.result _ _
    (λ other h un. first_is (terms_of at c.args.present.now) c.args.labels.now at c.args.kinds.now (get nat_eq c.note_kind.new.firsts) c.args.place c.in-Some.p.now found (ap (λ (k : ℕ). kind_at c.args.kinds.now (get nat_eq c.note_kind.new.firsts k)) (sym c.class_number-class.ensures) ∙ h un))
    c.note_kind.ensures.here

pub returns-in-None-clause-here : goal.returns-in-None-clause-here
returns-in-None-clause-here c =
    let at = tree_at c.args.terms.now in
    let none : slice_get c.args.kinds.now c.args.place ≡ None = search rules in
    λ un. first_none (terms_of at c.args.present.now) c.args.labels.now at c.args.kinds.now (get nat_eq c.args.firsts.now) c.args.place none

pub returns-in-None-clause-kept : goal.returns-in-None-clause-kept
returns-in-None-clause-kept c = λ k l h. h
