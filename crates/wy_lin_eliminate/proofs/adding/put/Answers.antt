use Rattle.std.proofs.Common.{rules, ◌≡◌, ℕ, List, ℤ, slice_set, sym, ap, ◌∙◌}
use Rattle.wy_lin_eliminate.specs.Adding.{part_from}
use Rattle.wy_lin_eliminate.proofs.AddingLemmas.{put_refilled}
use Rattle.wy_lin_eliminate.proofs.adding.put.Goals as goal

pub returns-in-Some : goal.returns-in-Some
returns-in-Some c =
    let items = c.args.parts.now.items in
    let new : c.set_at.new.parts ≡ slice_set items c.in-Some.k (c.args.coefficient, c.args.v) = search rules in
    let found = sym (c.in-Some.ensures.value ∙ ap (λ (l : List (ℤ × ℕ)). part_from l c.args.v 0) c.as_slice.ensures) in
    record { value = put_refilled items c.set_at.new.parts c.args.v c.in-Some.k c.args.coefficient found new }
