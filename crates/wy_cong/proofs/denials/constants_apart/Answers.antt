use Rattle.std.proofs.Common.{◌≡◌, ◌∙◌, None, ap, option_map, sym, rules}
use Rattle.wy_cong.proofs.AnyLemmas.{none_apart}
use Rattle.wy_cong.proofs.denials.constants_apart.Goals as goal
use Rattle.wy_cong.specs.Seen.{terms_of}
use Rattle.wy_check_splits.specs.Constants.{datum_of}
use Rattle.wy_term.specs.Nodes.{tree_at}

pub returns-then-is_none : goal.returns-then-is_none
returns-then-is_none c =
    let at = tree_at c.args.terms.now in
    let ts = terms_of at c.args.present.now in
    let none : c.constant_at.result ≡ None = search rules in
    none_apart ts c.args.labels.now (at c.args.s) ts (sym c.constant_at.ensures ∙ ap (option_map datum_of) none)
