use Rattle.std.proofs.Common.{◌≡◌, None, rules}
use Rattle.wy_check.proofs.ProductLemmas.{first_far, second_far}
use Rattle.wy_check.proofs.product.numbers_of.Goals as goal

pub returns-in_default : goal.returns-in_default
returns-in_default c = let none : c.args.x.now.more ≡ None = search rules in λ p q is that. first_far c.args.x.now c.args.y.now p q is that none

pub returns-in_default-more : goal.returns-in_default-more
returns-in_default-more c = let none : c.args.y.now.more ≡ None = search rules in λ p q is that. second_far c.args.x.now c.args.y.now p q is that none
