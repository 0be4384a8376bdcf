use Rattle.std.proofs.Common.{◌≡◌, ◌∙◌, ◌++◌, ◌∷◌, [], true, ℕ, sym, subst, List, length, ap}
use Rattle.wy_canon.specs.wy_types.declared.conjuncts.Conjunct.{Conjunct}
use Rattle.wy_canon.specs.wy_types.Claims.{EachOf}
use Rattle.wy_canon.specs.wy_types.Conjuncts.{dnf_part, narrow_part}
use Rattle.wy_canon.specs.wy_types.Reach.{Reaches}
use Rattle.wy_subtype.specs.Known.{AreInterned}
use Rattle.wy_subtype.proofs.KnownLemmas.{needed_reaches, known_more, added_as}
use Rattle.wy_subtype.proofs.reach.add_part.Goals as goal

pub intern_all-requires-clause-new : goal.intern_all-requires-clause-new
intern_all-requires-clause-new c =
    let is : c.as_slice-3.result.now ≡ dnf_part c.args.table.now c.args.depth c.args.part = c.as_slice-3.ensures ∙ c.in_ok-made.ensures.value ∙ ap (dnf_part c.args.table.now c.args.depth) c.as_slice-2.ensures in
    subst (λ (xs : List (Conjunct ℕ)). EachOf (Reaches c.args.table.now c.args.depth c.args.first.now) xs) (sym is) (needed_reaches c.args.table.now c.args.depth c.args.first.now c.args.part c.requires.needed)

pub returns-clause-known : goal.returns-clause-known
returns-clause-known c =
    let is : c.as_slice-3.result.now ≡ dnf_part c.args.table.now c.args.depth c.args.part = c.as_slice-3.ensures ∙ c.in_ok-made.ensures.value ∙ ap (dnf_part c.args.table.now c.args.depth) c.as_slice-2.ensures in
    let x = c.in_ok-conjuncts.field-0 in
    let all : AreInterned c.args.table.now c.args.depth c.args.first.now c.args.reach.conjuncts (dnf_part c.args.table.now c.args.depth c.args.part) x =
    subst (λ (xs : List (Conjunct ℕ)). AreInterned c.args.table.now c.args.depth c.args.first.now c.args.reach.conjuncts xs x) is c.in_ok-conjuncts.ensures.known in
    let narrow : narrow_part c.args.table.now c.args.depth c.args.part ≡ true = ap (narrow_part c.args.table.now c.args.depth) (sym c.as_slice-2.ensures) ∙ c.in_ok-made.ensures.width in
    added_as c.args.table.now c.args.depth c.args.first.now c.args.reach c.args.part (c.args.reach.parts ++ c.args.part ∷ []) c.push-2.new.self (c.args.reach.heads ++ x.numbers ∷ []) c.push.new.self x.conjuncts c.args.reach.asks (length c.args.reach.parts) c.len-count.result
    (sym c.in_ok-push-2.ensures.ok) (sym c.in_ok-push.ensures.ok) (sym c.len-count.ensures) (known_more c.args.table.now c.args.depth c.args.first.now c.args.reach c.args.part x c.requires.known all narrow)
