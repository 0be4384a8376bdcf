use Rattle.std.proofs.Common.{◌≡◌, ◌∙◌, ◌++◌, ◌||◌, ℕ, [], ◌∷◌, Bool, List, ap, arith, eqb, false, length, refl, rules, subst, sym, true, vec_len}
use Rattle.std.proofs.lemmas.Bool.{eqb-true}
use Rattle.wy_term.specs.Nodes.{tree_at}
use Rattle.wy_check_splits.specs.wy_check_nodes.Seen.{seen_branch}
use Rattle.wy_search_spec.specs.wy_check_spec.valid.Kinds.{Kinded, in_one_kind, in_two_kinds}
use Rattle.wy_search_spec.specs.Classes.{any_kinds, kinds_by, own_kinds}
use Rattle.wy_cong.specs.Kinded.{kinded}
use Rattle.wy_cong.specs.Seen.{terms_of}
use Rattle.wy_cong.proofs.clashing.kinds_clash.Goals as goal

pub returns-then-branch : goal.returns-then-branch
returns-then-branch c =
    let at = tree_at c.args.terms.now in
    let ts = terms_of at c.args.present.now in
    let labels = c.args.labels.now in
    let ls = (seen_branch at c.args.branch.now).literals in
    let given : kinded at c.deref.result.now ≡ kinds_by true ls ++ own_kinds ts = ap (kinded at) c.deref.ensures.value ∙ (c.in_ok-given.ensures.value ∙ ap (λ (ks : List Kinded). ks ++ own_kinds ts) c.in_ok-literals.ensures.value) in
    let denied : kinded at c.deref-2.result.now ≡ kinds_by false ls = ap (kinded at) c.deref-2.ensures.value ∙ c.in_ok-denied.ensures.value in
    let up : c.in_ok-kinds_agree.field-0 ≡ true = search rules in
    let two : any_kinds in_two_kinds ts labels (kinds_by true ls ++ own_kinds ts) (kinds_by true ls ++ own_kinds ts) ≡ false = subst (λ (ks : List Kinded). any_kinds in_two_kinds ts labels ks ks ≡ false) given (c.in_ok-kinds_agree.ensures.two up) in
    let one : any_kinds in_one_kind ts labels (kinds_by true ls ++ own_kinds ts) (kinds_by false ls) ≡ false = subst (λ (ks : List Kinded). any_kinds in_one_kind ts labels ks (kinds_by false ls) ≡ false) given (subst (λ (ds : List Kinded). any_kinds in_one_kind ts labels (kinded at c.deref.result.now) ds ≡ false) denied (c.in_ok-kinds_agree.ensures.one up)) in
    sym (ap (λ (b : Bool). b || any_kinds in_one_kind ts labels (kinds_by true ls ++ own_kinds ts) (kinds_by false ls)) two ∙ one)

nothing : {X : Type 0} (xs : List X) (n : ℕ) → n ≡ length xs → eqb n 0 ≡ true → xs ≡ []
nothing [] n count e = refl
nothing (x ∷ xs) n count e =
    let none : n ≡ 0 = eqb-true n 0 e in
    absurd (omega (arith, none, count))

-- where no kind is given
pub returns-then-is_empty : goal.returns-then-is_empty
returns-then-is_empty c =
    let at = tree_at c.args.terms.now in
    let ts = terms_of at c.args.present.now in
    let labels = c.args.labels.now in
    let ls = (seen_branch at c.args.branch.now).literals in
    let counts : vec_len c.in_ok-given.given ≡ length c.in_ok-given.given.items = search rules in
    let up : c.is_empty.result ≡ true = search rules in
    let none : c.in_ok-given.given.items ≡ [] = nothing c.in_ok-given.given.items (vec_len c.in_ok-given.given) counts (sym c.is_empty.ensures ∙ up) in
    let given : kinds_by true ls ++ own_kinds ts ≡ [] = sym (c.in_ok-given.ensures.value ∙ ap (λ (ks : List Kinded). ks ++ own_kinds ts) c.in_ok-literals.ensures.value) ∙ ap (kinded at) none in
    sym (ap (λ (ks : List Kinded). any_kinds in_two_kinds ts labels ks ks || any_kinds in_one_kind ts labels ks (kinds_by false ls)) given)
