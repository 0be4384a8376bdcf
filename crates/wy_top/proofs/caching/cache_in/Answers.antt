use Rattle.std.proofs.Common.{◌≡◌, ℕ, List, rules, subst}
use Rattle.std.specs.Prelude.{IfOk}
use Rattle.wy_cache_text.specs.Files.{Entries, IsReadAs}
use Rattle.wy_cache_text.specs.Seen.{all_held}
use Rattle.wy_top_probe.specs.wy_top_answers.Steps.{Gives}
use Rattle.wy_top.specs.Caches.{caches}
use Rattle.wy_top.proofs.CachingLemmas.{ends_gives, none_gives, read_gives}
use Rattle.wy_top.proofs.caching.cache_in.Goals as goal

pub returns-in-Ok-clause-gives : goal.returns-in-Ok-clause-gives
returns-in-Ok-clause-gives g c = λ s during.
    read_gives s c.args.name.now c.in-Ok.bytes c.read.result (c.in-Ok.ensures.gives s during)
    (subst (λ (b : List ℕ). IfOk c.read.result (λ k. IsReadAs b (all_held k.entries.items))) c.as_slice.ensures.value c.read.ensures.value) c.read.ensures.memory

pub returns-then-answer-ne-ABSENT-clause-gives : goal.returns-then-answer-ne-ABSENT-clause-gives
returns-then-answer-ne-ABSENT-clause-gives g c = λ s during.
    let apart : c.in-Err.answer.status ≡ 3 → ⊥ = search rules in
    ends_gives s c.args.name.now c.in-Err.answer (c.in-Err.ensures.gives s during) apart

pub returns-else-answer-ne-ABSENT-clause-gives : goal.returns-else-answer-ne-ABSENT-clause-gives
returns-else-answer-ne-ABSENT-clause-gives g c = λ s during.
    let three : c.in-Err.answer.status ≡ 3 = search rules in
    rw c.new.ensures.items (none_gives s c.args.name.now c.in-Err.answer (c.in-Err.ensures.gives s during) three)
