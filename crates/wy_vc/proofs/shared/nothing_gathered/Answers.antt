use Rattle.std.proofs.Common.{nat_eq, rules}
use Rattle.std.specs.HashSet.{contains}
use Rattle.wy_vc.proofs.SharedLemmas.{none_gathered}
use Rattle.wy_vc.proofs.shared.nothing_gathered.Goals as goal

pub returns : goal.returns
returns c = record { gathered = λ nodes. none_gathered nodes c.new-all.result.items (contains nat_eq c.new-noted.result) c.new-all.ensures.items (λ k. search rules) }
