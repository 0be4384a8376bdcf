use Rattle.std.proofs.Common.{◌≡◌, ◌<◌, ℕ, List, All, length, rules, subst}
use Rattle.wy_data.specs.declared.name.Name.{Name}
use Rattle.wy_prove_writable.proofs.sorted_lemmas.SortLemmas.{fields_below}
use Rattle.wy_prove_writable.proofs.sorted.parts.is_record.Goals as goal

pub are_data-requires-clause-parts : goal.are_data-requires-clause-parts
are_data-requires-clause-parts c =
    let same : c.args.fields.now.items ≡ c.deref.result.now = search rules in
    subst (λ (ps : List (Name × ℕ)). All (λ p. p.1 < length c.args.marks.now) ps) same (fields_below (length c.args.marks.now) c.args.fields.now.items c.requires.parts)
