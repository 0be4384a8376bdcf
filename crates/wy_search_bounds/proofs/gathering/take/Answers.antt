use Rattle.std.proofs.Common.{◌∙◌, ◌++◌, [], ◌∷◌, true, refl, sym, ap, subst, map}
use Rattle.wy_lemmas.proofs.Lists.{map_pushed as map_last}
use Rattle.wy_lin.specs.Seen.{linear_form}
use Rattle.wy_search_bounds.specs.declared.replacing.Replaced.{Replaced}
use Rattle.wy_search_bounds.specs.Gathered.{Gathers}
use Rattle.wy_search_bounds.specs.Seen.{seen_replaced}
use Rattle.wy_search_bounds.proofs.GatherLemmas.{gathers_gone, gathers_given, gathers_refutes, gathers_leaves}
use Rattle.wy_search_bounds.proofs.gathering.take.Goals as goal

pub returns-in-Gone : goal.returns-in-Gone
returns-in-Gone c = λ rs was. subst (λ (r : Replaced). Gathers c.args.gathered.now (rs ++ seen_replaced r ∷ [])) (sym c.in-Gone.is) (gathers_gone c.args.gathered.now rs was)

pub returns-in_ok-push-in-Given : goal.returns-in_ok-push-in-Given
returns-in_ok-push-in-Given c = λ rs was.
    let old = c.args.gathered.now in
    let put = ap (map linear_form) c.in_ok-push-in-Given.ensures.items ∙ map_last linear_form old.forms.items c.in-Given.form in
    subst (λ (r : Replaced). Gathers record { refutes = old.refutes; leaves = old.leaves; forms = c.push.new.self } (rs ++ seen_replaced r ∷ [])) (sym c.in-Given.is)
    (gathers_given old record { refutes = old.refutes; leaves = old.leaves; forms = c.push.new.self } rs (linear_form c.in-Given.form) refl refl put was)

pub returns-in-Refutes : goal.returns-in-Refutes
returns-in-Refutes c = λ rs was.
    let old = c.args.gathered.now in
    subst (λ (r : Replaced). Gathers record { refutes = true; leaves = old.leaves; forms = old.forms } (rs ++ seen_replaced r ∷ [])) (sym c.in-Refutes.is)
    (gathers_refutes old record { refutes = true; leaves = old.leaves; forms = old.forms } rs refl refl refl was)

pub returns-in-Leaves : goal.returns-in-Leaves
returns-in-Leaves c = λ rs was.
    let old = c.args.gathered.now in
    subst (λ (r : Replaced). Gathers record { refutes = old.refutes; leaves = true; forms = old.forms } (rs ++ seen_replaced r ∷ [])) (sym c.in-Leaves.is)
    (gathers_leaves old record { refutes = old.refutes; leaves = true; forms = old.forms } rs refl refl refl was)
