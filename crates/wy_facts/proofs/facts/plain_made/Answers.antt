use Rattle.std.proofs.Common.{◌≡◌, Some, rules}
use Rattle.wy_facts.specs.Schema.{instance_of}
use Rattle.wy_facts.specs.Seen.{terms_at, seen_instance}
use Rattle.wy_facts.proofs.FullLemmas.{made_full}
use Rattle.wy_facts.proofs.facts.plain_made.Goals as goal

pub stated_of-requires-clause-full : goal.stated_of-requires-clause-full
stated_of-requires-clause-full c =
    let is : Some (seen_instance c.instance_of.new.terms c.in-Some.instance) ≡ instance_of c.args.n (terms_at c.args.terms.now c.args.args.now) = search rules in
    made_full c.instance_of.new.terms c.args.n (terms_at c.args.terms.now c.args.args.now) c.in-Some.instance is
