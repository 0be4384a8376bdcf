use Rattle.std.proofs.Common.{◌≡◌, ◌∙◌, length, rules}
use Rattle.wy_vc.proofs.SeenLemmas.{seen_count}
use Rattle.wy_vc.proofs.limits.how_many.Goals as goal

pub returns : goal.returns
returns c =
    let all : c.len.result ≡ length c.args.seen.now.all.items = search rules in
    record { value = λ ts counted. all ∙ seen_count c.args.terms.now c.args.seen.now ts c.one_number_for_each_term.ensures.one counted }
