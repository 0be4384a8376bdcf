use Rattle.std.proofs.Common.{◌≡◌, ◌≤◌, ◌<◌, ℕ, List, length, ap, arith, rules}
use Rattle.wy_top_probe.proofs.wy_top_answers_proofs.StepLemmas.{memory_gives}
use Rattle.wy_top_probe.specs.wy_top_answers.Loading.{source_limit}
use Rattle.wy_top_big.specs.Source.{source_of}
use Rattle.wy_top.specs.Large.{makes}
use Rattle.wy_top.proofs.LargeLemmas.{makes_value, makes_long}
use Rattle.wy_top.proofs.making.made.Goals as goal

pub returns-in-Err-clause-gives : goal.returns-in-Err-clause-gives
returns-in-Err-clause-gives c = λ s. memory_gives s (makes c.args.functions c.args.seed) c.no_memory.result c.no_memory.ensures.value

pub returns-then-len-gt-SOURCE_LIMIT-clause-gives : goal.returns-then-len-gt-SOURCE_LIMIT-clause-gives
returns-then-len-gt-SOURCE_LIMIT-clause-gives c = λ s.
    let long : source_limit < length c.in-Ok.source.items = search rules in
    let same : length c.in-Ok.source.items ≡ length (source_of c.args.functions c.args.seed) = ap (λ (b : List ℕ). length b) c.in-Ok.ensures.value in
    makes_long s c.args.functions c.args.seed c.refusal.result (omega (arith, long, same)) (c.refusal.ensures.value _ c.from_str.ensures.ok)

pub returns-clause-gives : goal.returns-clause-gives
returns-clause-gives c = λ s.
    let within : length c.in-Ok.source.items ≤ source_limit = search rules in
    rw c.new.ensures.value (makes_value s c.args.functions c.args.seed c.in-Ok.source.items c.in-Ok.ensures.value within)
