-- What the search's node is judged to be.
use Rattle.std.proofs.Common.{◌≡◌, ◌∙◌, ℕ, Bool, true, false, ◌||◌, length, refl, sym, ap}
use Rattle.std.specs.Prelude.{nat_lt}
use Rattle.wy_term.specs.Term.{Term}
use Rattle.wy_prove_explaining.specs.wy_check_nodes.declared.branch.Branch.{Branch}
use Rattle.wy_prove_explaining.specs.wy_check_nodes.Seen.{seen_branch}
use Rattle.wy_prove_leaves.specs.wy_search_spec.Bounds.{Ending, refuted, consistent, crowded, wide}
use Rattle.wy_prove_leaves.specs.wy_search_spec.Tree as tree
use Rattle.wy_prove_rounds.proofs.wy_search_proofs.TurnLemmas.{more_by_keys}
use Rattle.wy_prove.specs.Turns.{is_refutation}

pub refutation_is : (e : Ending) → is_refutation e ≡ true → e ≡ refuted
refutation_is refuted h = refl
refutation_is consistent h = absurd cc
refutation_is crowded h = absurd cc
refutation_is wide h = absurd cc

pub no_refutation : (e : Ending) → is_refutation e ≡ false → e ≡ refuted → ⊥
no_refutation e h is = let f : true ≡ false = sym (ap is_refutation is) ∙ h in absurd cc

pub sized : (at older : ℕ → Term) (b c : Branch) (l m n o : ℕ) (told : Bool) → l ≡ length b.literals.keys → m ≡ length b.pending.keys → n ≡ length c.literals.keys → o ≡ length c.pending.keys → told ≡ (nat_lt l n || nat_lt m o) → tree.is_more (seen_branch older b) (seen_branch at c) ≡ told
sized at older b c l m n o told el em en eo is =
    more_by_keys at older b c
    ∙ sym (is ∙ (ap (λ (x : ℕ). nat_lt x n || nat_lt m o) el ∙ (ap (λ (x : ℕ). nat_lt (length b.literals.keys) n || nat_lt x o) em ∙ (ap (λ (x : ℕ). nat_lt (length b.literals.keys) x || nat_lt (length b.pending.keys) o) en ∙ ap (λ (x : ℕ). nat_lt (length b.literals.keys) (length c.literals.keys) || nat_lt (length b.pending.keys) x) eo))))
