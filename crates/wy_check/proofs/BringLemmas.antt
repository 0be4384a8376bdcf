-- A term more that was brought.
use Rattle.std.proofs.Common.{◌≡◌, ◌<◌, ◌+◌, ℕ, List, [], ◌∷◌, ◌++◌, take, length, get_or, sym, ap, ◌∙◌}
use Rattle.std.proofs.lemmas.List.{take_more}
use Rattle.wy_lemmas.proofs.Lists.{map_pushed}
use Rattle.wy_term.specs.Term.{Term}
use Rattle.wy_term.specs.Nodes.{Plain, tree_at}
use Rattle.wy_facts.specs.Seen.{terms_at, AreBelow, Stays}
use Rattle.wy_facts.proofs.StepLemmas.{terms_kept}

pub brought_more : (now new from : List Plain) (ks ms all : List ℕ) (i d t : ℕ) → i < length all → Stays now new → AreBelow (length now) ks → ms ≡ ks ++ t ∷ [] → tree_at new t ≡ tree_at from (get_or all i d) → terms_at now ks ≡ terms_at from (take i all) → terms_at new ms ≡ terms_at from (take (i + 1) all)
brought_more now new from ks ms all i d t lt stays below is tree so =
    ap (terms_at new) is
    ∙ (map_pushed (tree_at new) ks t
    ∙ (ap (λ (ts : List Term). ts ++ tree_at new t ∷ []) (terms_kept now new ks stays below ∙ so)
    ∙ (ap (λ (u : Term). terms_at from (take i all) ++ u ∷ []) tree
    ∙ (sym (map_pushed (tree_at from) (take i all) (get_or all i d)) ∙ ap (terms_at from) (sym (take_more all i d lt))))))
