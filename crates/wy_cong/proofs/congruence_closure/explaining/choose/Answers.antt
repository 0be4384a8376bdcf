use Rattle.std.proofs.Common.{◌≡◌, ◌+◌, ◌++◌, ℕ, List, length, drop, sym, ap, subst, ◌∙◌}
use Rattle.wy_cong.specs.congruence_closure.Congruence.{AreBetween}
use Rattle.wy_cong.proofs.congruence_closure_lemmas.ChosenLemmas.{between_both, between_rest, between_named, chosen_more}
use Rattle.wy_cong.proofs.congruence_closure.explaining.choose.Goals as goal

pub give-requires-clause-between : goal.give-requires-clause-between
give-requires-clause-between c =
    let count = length c.args.shapes.now in
    let all = c.args.equations.now in
    let known = c.args.chosen in
    let rest = drop (c.args.k + 1) all in
    let first : AreBetween count known.equations = subst (λ (l : List (ℕ × ℕ)). AreBetween count l) (sym c.requires.chosen.are) (between_named count all known.numbers c.requires.between c.requires.chosen.numbered) in
    let whole : AreBetween count (known.equations ++ rest) = between_both count known.equations rest first (between_rest count (c.args.k + 1) all c.requires.between) in
    let is : c.as_slice-2.result.now ≡ known.equations ++ rest = c.as_slice-2.ensures ∙ c.in_ok-others.ensures.value ∙ ap (λ (l : List (ℕ × ℕ)). l ++ rest) c.as_slice.ensures in
    subst (λ (l : List (ℕ × ℕ)). AreBetween count l) (sym is) whole

pub returns-clause-chosen : goal.returns-clause-chosen
returns-clause-chosen c =
    chosen_more c.args.equations.now c.args.chosen (record { numbers = c.push.new.self; equations = c.push-2.new.self }) c.args.k c.in_ok-number_of.field-0 c.equation_at.result c.requires.chosen c.requires.here c.equation_at.ensures.value c.in_ok-number_of.ensures.value c.in_ok-push.ensures.ok c.in_ok-push-2.ensures.ok
