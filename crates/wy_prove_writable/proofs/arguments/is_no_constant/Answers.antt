use Rattle.std.specs.Prelude.{◌==◌}
use Rattle.std.proofs.Common.{◌≡◌, length, rules}
use Rattle.wy_prove_writable.proofs.ConstantLemmas.{and_of_members, or_of_members}
use Rattle.wy_prove_writable.proofs.arguments.is_no_constant.Goals as goal

pub returns-in-And : goal.returns-in-And
returns-in-And c = λ at.
    let empty : c.is_empty.result ≡ (length c.in-And.members.items == 0) = search rules in
    and_of_members at c.args.node.now c.in-And.members c.is_empty.result c.in-And.is empty

pub returns-in-Or : goal.returns-in-Or
returns-in-Or c = λ at.
    let empty : c.is_empty-in-Or.result ≡ (length c.in-Or.members.items == 0) = search rules in
    or_of_members at c.args.node.now c.in-Or.members c.is_empty-in-Or.result c.in-Or.is empty
