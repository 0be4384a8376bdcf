-- A chain that is valid at a node is valid at each that has its literals, and states the same.
use Rattle.std.proofs.Common.{◌≡◌, ◌∙◌, List, [], ◌∷◌, Bool, true, ◌||◌, Some, ap, refl}
use Rattle.wy_facts.specs.Schema.{only_if}
use Rattle.wy_lemmas.proofs.Choices.{both_parts as and_both, or_left as first_true, both_true, or_right as second_true}
use Rattle.wy_term.specs.Term.{Term, Of, Parts, no_parts, part}
use Rattle.wy_term.specs.Same.{same_symbol, same_term}
use Rattle.wy_term.specs.Sorts.{sort_in}
use Rattle.wy_prove_drafts.specs.wy_check_spec.judge.Node.{Node}
use Rattle.wy_prove_drafts.specs.wy_check_spec.valid.Literals.{are_joined, arguments_joined, are_alike, is_chain, last_of}
use Rattle.wy_prove_drafts.specs.wy_check_spec.valid.Validity.{chain_stated, equality_of}
use Rattle.wy_prove_drafts.proofs.wy_check_laws_proofs.sound_lemmas.Basics.{or_cases, only_some}
use Rattle.wy_prove_drafts.specs.wy_search_laws.chains.Chains.{HasLiterals}
use Rattle.wy_prove_drafts.proofs.wy_search_laws_proofs.chains_lemmas.LinkLemmas.{joined_more}

module _ (n m : Node) (more : HasLiterals n m) where
  argument_more : (s t : Term) → (same_term s t || are_joined n.literals s t) ≡ true → (same_term s t || are_joined m.literals s t) ≡ true
  argument_more s t e =
      or_cases (same_term s t) (are_joined n.literals s t) ((same_term s t || are_joined m.literals s t) ≡ true) e
      (λ f. first_true (same_term s t) (are_joined m.literals s t) f)
      (λ f. second_true (same_term s t) (are_joined m.literals s t) (joined_more n m more s t f))

  arguments_more : (ps qs : Parts) → arguments_joined n.literals ps qs ≡ true → arguments_joined m.literals ps qs ≡ true
  arguments_more no_parts no_parts e = refl
  arguments_more no_parts (part t ts) e = absurd cc
  arguments_more (part s ss) no_parts e = absurd cc
  arguments_more (part s ss) (part t ts) e =
      let h = and_both (same_term s t || are_joined n.literals s t) (arguments_joined n.literals ss ts) e in
      both_true (same_term s t || are_joined m.literals s t) (arguments_joined m.literals ss ts) (argument_more s t h.0) (arguments_more ss ts h.1)

  alike_more : (s t : Term) → are_alike n.literals s t ≡ true → are_alike m.literals s t ≡ true
  alike_more (Of a ps) (Of b qs) e =
      let h = and_both (same_symbol a b) (arguments_joined n.literals ps qs) e in
      both_true (same_symbol a b) (arguments_joined m.literals ps qs) h.0 (arguments_more ps qs h.1)

  neighbour_more : (s t : Term) → (are_joined n.literals s t || are_alike n.literals s t) ≡ true → (are_joined m.literals s t || are_alike m.literals s t) ≡ true
  neighbour_more s t e =
      or_cases (are_joined n.literals s t) (are_alike n.literals s t) ((are_joined m.literals s t || are_alike m.literals s t) ≡ true) e
      (λ f. first_true (are_joined m.literals s t) (are_alike m.literals s t) (joined_more n m more s t f))
      (λ f. second_true (are_joined m.literals s t) (are_alike m.literals s t) (alike_more s t f))

  is_chain_more : (s : Term) (ts : List Term) → is_chain n.literals s ts ≡ true → is_chain m.literals s ts ≡ true
  is_chain_more s [] e = refl
  is_chain_more s (t ∷ ts) e =
      let h = and_both (are_joined n.literals s t || are_alike n.literals s t) (is_chain n.literals t ts) e in
      both_true (are_joined m.literals s t || are_alike m.literals s t) (is_chain m.literals t ts) (neighbour_more s t h.0) (is_chain_more t ts h.1)

  pub chain_more : (ts fs : List Term) → chain_stated n.literals ts ≡ Some fs → chain_stated m.literals ts ≡ Some fs
  chain_more [] fs e = absurd cc
  chain_more (t ∷ ts) fs e =
      let h = only_some (is_chain n.literals t ts) (equality_of (sort_in t) t (last_of t ts)) fs e in
      ap (λ (b : Bool). only_if b (equality_of (sort_in t) t (last_of t ts))) (is_chain_more t ts h.0) ∙ h.1
