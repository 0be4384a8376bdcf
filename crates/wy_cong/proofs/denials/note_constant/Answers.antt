use Rattle.std.proofs.Common.{◌≡◌, ◌∙◌, ℕ, None, ap, nat_eq, rules, sym}
use Rattle.std.proofs.lemmas.Result.{on_ok_weaker}
use Rattle.std.specs.HashMap.{get}
use Rattle.wy_term.specs.Nodes.{tree_at}
use Rattle.wy_cong.specs.Seen.{terms_of}
use Rattle.wy_cong.specs.Signatures.{covers}
use Rattle.wy_cong.proofs.ConstantLemmas.{noted_here, nothing_noted}
use Rattle.wy_cong.proofs.denials.note_constant.Goals as goal

pub returns-then-is_none-clause-here : goal.returns-then-is_none-clause-here
returns-then-is_none-clause-here c =
    let ts = terms_of (tree_at c.args.terms.now) c.args.present.now in
    let none : c.constant_at-constant.result ≡ None = search rules in
    nothing_noted c.args.terms.now ts c.args.labels.now (get nat_eq c.args.groups.now.found) c.args.s c.constant_at-constant.result c.requires.term c.constant_at-constant.ensures none

pub returns-clause-here : goal.returns-clause-here
returns-clause-here c =
    let ts = terms_of (tree_at c.args.terms.now) c.args.present.now in
    let found = get nat_eq c.note.new.groups.found in
    let same : c.from.result ≡ c.args.s = search rules in
    on_ok_weaker c.note.result
    (λ h. noted_here c.args.terms.now ts c.args.labels.now found c.args.s c.class_number-class.result c.constant_at-constant.result c.requires.term c.constant_at-constant.ensures c.class_number-class.ensures (ap (λ (v : ℕ). covers (found c.class_number-class.result) v) (sym same) ∙ h))
    c.note.ensures.here
