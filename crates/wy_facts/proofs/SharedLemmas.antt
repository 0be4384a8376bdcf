-- What the crates above prove of these words, each once.
use Rattle.std.proofs.Common.{◌≡◌, ℕ, List, [], ◌∷◌, All, map, length, refl, ap, ◌∙◌}
use Rattle.wy_facts.specs.Membership.{AreTypesBelow}
use Rattle.wy_facts.specs.Seen.{Stays}
use Rattle.wy_term_subst.proofs.wy_lemmas_proofs.Lists.{first_of, rest_of}
use Rattle.wy_term_subst.proofs.wy_lemmas_proofs.Numbers.{EntryBelow}
use Rattle.wy_term_subst.proofs.wy_term_proofs.SharedLemmas.{entry_with}
use Rattle.wy_term_subst.specs.wy_term.Condition.{Entry, entry_of, condition_of}
use Rattle.wy_term_subst.specs.wy_term.Nodes.{Plain, tree_at}
use Rattle.wy_term_subst.specs.wy_term.Term.{Term}
use Rattle.wy_term_subst.specs.wy_term.declared.cond.Cond.{Cond}

pub entries_stay : (old new : List Plain) (es : List (ℕ × ℕ × ℕ)) → Stays old new → All (EntryBelow (length old)) es → map (entry_of new) es ≡ map (entry_of old) es
entries_stay old new [] stays all = refl
entries_stay old new (e ∷ es) stays all =
    let here = first_of (EntryBelow (length old)) e es all in
    ap (λ (x : Entry). x ∷ map (entry_of new) es) (ap (λ (x : Term). entry_with e.0 x (tree_at new e.2)) (stays.trees e.1 here.0) ∙ ap (entry_with e.0 (tree_at old e.1)) (stays.trees e.2 here.1))
    ∙ ap (λ (xs : List Entry). entry_of old e ∷ xs) (entries_stay old new es stays (rest_of (EntryBelow (length old)) e es all))

pub types_stay : (old new : List Plain) (c : Cond) → Stays old new → AreTypesBelow (length old) c → (condition_of new c).types ≡ (condition_of old c).types
types_stay old new c stays below = entries_stay old new c.unfold.list.items stays below
