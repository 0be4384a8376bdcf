use Rattle.std.proofs.Common.{◌≡◌, true, false, refl, rules}
use Rattle.wy_prove.proofs.answering.if_writable.Goals as goal

pub returns-then-branch : goal.returns-then-branch
returns-then-branch c =
    let up : c.in_ok-is_certificate_writable.field-0 ≡ true = search rules in
    (refl, c.in_ok-is_certificate_writable.ensures.exactly.0 up)

pub returns-else-branch : goal.returns-else-branch
returns-else-branch c = λ writable.
    let un : c.in_ok-is_certificate_writable.field-0 ≡ false = search rules in
    let up = c.in_ok-is_certificate_writable.ensures.exactly.1 writable in
    absurd cc
