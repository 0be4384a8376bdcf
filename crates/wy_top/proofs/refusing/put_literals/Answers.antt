use Rattle.std.proofs.Common.{◌<◌, length, rules, false}
use Rattle.wy_top.proofs.LiteralLemmas.{over_index}
use Rattle.wy_top.proofs.refusing.put_literals.Goals as goal

pub put_literal-requires : goal.put_literal-requires
put_literal-requires c =
    let lt : c.loop-i.i < length c.args.literals.now = search rules in
    over_index (length c.args.terms.now) c.args.literals.now c.loop-i.i (0, false) c.requires.named lt
