use Rattle.std.proofs.Common.{rules, ◌≡◌, ℕ, List, slice_set, sym, ap, ◌∙◌}
use Rattle.wy_lin_eliminate.specs.Variables.{Counts}
use Rattle.wy_lin_eliminate.specs.Seen.{entry_from}
use Rattle.wy_lin_eliminate.proofs.FewLemmas.{put_refilled}
use Rattle.wy_lin_eliminate.proofs.few.put_counts.Goals as goal

pub returns-in-Some : goal.returns-in-Some
returns-in-Some c =
    let items = c.args.found.now.items in
    let new : c.set_entry.new.entries ≡ slice_set items c.in-Some.k (c.args.v, c.args.n) = search rules in
    let found = sym (c.in-Some.ensures.value ∙ ap (λ (l : List (ℕ × Counts)). entry_from l c.args.v 0) c.as_slice.ensures) in
    record { value = put_refilled items c.set_entry.new.entries c.args.v c.in-Some.k c.args.n found new }
