use Rattle.std.proofs.Common.{◌≡◌, false, length, nat_eq, rules}
use Rattle.std.specs.HashMap.{get}
use Rattle.wy_term.specs.Nodes.{tree_at}
use Rattle.wy_cong.specs.Seen.{terms_of}
use Rattle.wy_cong.proofs.FirstKindLemmas.{none_in_two, none_in_one}
use Rattle.wy_cong.proofs.SignatureLemmas.{OneNumber}
use Rattle.wy_cong.proofs.firsts.kinds_agree.Goals as goal

pub returns-in-Some-clause-two : goal.returns-in-Some-clause-two
returns-in-Some-clause-two c =
    let at = tree_at c.args.terms.now in
    let n = length c.args.terms.now in
    let one : OneNumber at n = λ s t ls lt e. (c.one_number_for_each_term.ensures.one s t ls lt).1 e in
    λ e. none_in_two at n one (terms_of at c.args.present.now) c.args.labels.now c.args.given.now c.requires.given (get nat_eq c.in-Some.firsts) (search rules)

pub returns-in-Some-clause-one : goal.returns-in-Some-clause-one
returns-in-Some-clause-one c =
    let at = tree_at c.args.terms.now in
    let n = length c.args.terms.now in
    let one : OneNumber at n = λ s t ls lt e. (c.one_number_for_each_term.ensures.one s t ls lt).1 e in
    λ e.
    let un : c.any_holds_kind.result ≡ false = search rules in
    none_in_one at n one (terms_of at c.args.present.now) c.args.labels.now c.args.given.now c.requires.given (get nat_eq c.in-Some.firsts) (search rules) c.args.denied.now c.requires.denied (c.any_holds_kind.ensures un)
