use Rattle.std.proofs.Common.{◌≡◌, ◌∷◌, [], ◌++◌, ◌∙◌, ℕ, List, ap, sym, subst, length, rules}
use Rattle.std.specs.Prelude.{IfOk}
use Rattle.wy_term.specs.Nodes.{tree_at}
use Rattle.wy_term.specs.ReplacingView.{seen_pairs, AreBelow}
use Rattle.wy_term_subst.specs.Names.{numbers_in, names_it}
use Rattle.wy_term_subst.specs.Substitution.{put}
use Rattle.wy_term_subst.specs.View.{any_at, Counts, noted_numbers}
use Rattle.wy_term_subst.specs.Walk.{Avoids}
use Rattle.wy_term_subst.proofs.NameLemmas.{counts_both}
use Rattle.wy_term_subst.proofs.ScopeLemmas.{AreBelow_cons, AreBelow_none}
use Rattle.wy_term_subst.proofs.substitution.substituted.Goals as goal

pub put-requires-clause-scope : goal.put-requires-clause-scope
put-requires-clause-scope c =
    let n = length c.args.terms.now in
    let pairs : c.in_ok-scope.scope.pairs.items ≡ (c.args.name, c.args.t) ∷ [] = search rules in
    subst (λ (ps : List (ℕ × ℕ)). AreBelow n ps) (sym pairs) (AreBelow_cons n (c.args.name, c.args.t) [] (c.requires.name, c.requires.term) (AreBelow_none n))

pub returns-clause-value : goal.returns-clause-value
returns-clause-value c =
    let nodes = c.args.terms.now in
    let f = tree_at nodes c.args.f in
    let t = tree_at nodes c.args.t in
    let pairs : c.in_ok-scope.scope.pairs.items ≡ (c.args.name, c.args.t) ∷ [] = search rules in
    let avoids : Avoids c.in_ok-avoided.avoided t = λ w n.
    c.in_ok-avoided.ensures w n ∙ (ap (any_at nodes (names_it w n)) c.deref-3.ensures.value ∙ c.in_ok-in_term.ensures.value (names_it w n)) in
    let in_f = c.in_ok-in_formula.in_formula.items in
    let in_t = c.in_ok-in_term.in_term.items in
    let first : Counts c.take_numbers.new.taken (noted_numbers nodes in_t []) = subst (λ (ks : List ℕ). Counts c.take_numbers.new.taken (noted_numbers nodes ks [])) c.deref.ensures.value (c.in_ok-take_numbers.ensures [] c.none_taken-taken.ensures) in
    let second : Counts c.take_numbers-2.new.taken (noted_numbers nodes in_f (noted_numbers nodes in_t [])) = subst (λ (ks : List ℕ). Counts c.take_numbers-2.new.taken (noted_numbers nodes ks (noted_numbers nodes in_t []))) c.deref-2.ensures.value (c.in_ok-take_numbers-2.ensures (noted_numbers nodes in_t []) first) in
    let counts : Counts c.take_numbers-2.new.taken (numbers_in f ++ numbers_in t) = counts_both c.take_numbers-2.new.taken nodes f t in_f in_t c.in_ok-in_formula.ensures.value c.in_ok-in_term.ensures.value second in
    subst (λ (ps : List (ℕ × ℕ)). IfOk c.put.result (λ r. tree_at c.put.new.terms r ≡ (put t f (seen_pairs (tree_at nodes) ps) (numbers_in f ++ numbers_in t)).term)) pairs (c.put.ensures.value t (numbers_in f ++ numbers_in t) avoids counts)
