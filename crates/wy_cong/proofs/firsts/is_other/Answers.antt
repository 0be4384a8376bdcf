use Rattle.std.proofs.Common.{◌≡◌, ◌∙◌, Some, rules, sym}
use Rattle.std.specs.Prelude.{slice_get}
use Rattle.wy_lemmas.proofs.Choices.{not_false as un_not}
use Rattle.wy_term.specs.Nodes.{plain_kind}
use Rattle.wy_cong.proofs.FirstKindLemmas.{kind_found}
use Rattle.wy_cong.proofs.firsts.is_other.Goals as goal

pub returns-in-Some : goal.returns-in-Some
returns-in-Some c =
    let found : slice_get c.args.kinds.now c.args.first ≡ Some c.in-Some.p.now = search rules in
    λ un. kind_found c.args.kinds.now c.args.first c.in-Some.p.now (plain_kind c.args.kind.now) found (sym c.same_kind.ensures ∙ un_not c.same_kind.result un)
