use Rattle.std.proofs.Common.{◌≡◌, true, sym, rules}
use Rattle.wy_cong.proofs.denials.any_apart.Goals as goal

pub returns-then-branch : goal.returns-then-branch
returns-then-branch c =
    let up : c.in_ok-are_single.field-0 ≡ true = search rules in
    sym (c.in_ok-are_single.ensures up)
