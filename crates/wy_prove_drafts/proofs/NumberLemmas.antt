-- The number of a literal, from 1, by its place, from 0.
use Rattle.std.proofs.Common.{◌≡◌, ◌<◌, ◌+◌, ℕ, suc, List, Bool, true, false, Option, Some, None, eqb, map, get_or, sym, ap, ◌∙◌, arith}
use Rattle.std.specs.Prelude.{slice_get, option_map, is_some}
use Rattle.std.specs.Bool.{beq}
use Rattle.std.specs.List.{position, list_any}
use Rattle.std.proofs.lemmas.Bool.{eqb-true}
use Rattle.std.proofs.lemmas.List.Quantifiers.{position-Some}
use Rattle.std.proofs.lemmas.Option.{slice_get-map, slice_get-get_or}
use Rattle.wy_lemmas.proofs.Choices.{both_parts as both, bits_are}
use Rattle.wy_term.specs.Term.{Term}
use Rattle.wy_search_laws.specs.wy_check_spec.judge.Node.{has_literal}
use Rattle.wy_check_nodes.specs.Seen.{seen_literal, same_signed, AreOver}
use Rattle.wy_check_nodes.proofs.NameLemmas.{NamesOnce}
use Rattle.wy_check_nodes.proofs.BranchLemmas.{among}
use Rattle.wy_search_laws.proofs.wy_check_spec_proofs.valid_lemmas.SharedLemmas.{numbered}
use Rattle.wy_search_laws.specs.wy_check_spec.valid.Literals.{literal_at}

abbrev pair : ℕ → Bool → ℕ × Bool
pair n b = (n, b)

same_is : (p q : ℕ × Bool) → same_signed p q ≡ true → q ≡ p
same_is p q e =
    let h = both (eqb p.0 q.0) (beq p.1 q.1) e in
    sym (ap (λ (n : ℕ). pair n p.1) (eqb-true p.0 q.0 h.0) ∙ ap (λ (b : Bool). pair q.0 b) (bits_are p.1 q.1 h.1))

pub number_there : (at : ℕ → Term) (ps : List (ℕ × Bool)) (p : ℕ × Bool) (i k : ℕ) → position (same_signed p) ps ≡ Some i → k ≡ i + 1 → literal_at (map (seen_literal at) ps) k ≡ Some (seen_literal at p)
number_there at ps p i k found is =
    let h = position-Some (same_signed p) ps i p found in
    let up : k ≡ suc i = omega (arith, is) in
    let here : slice_get ps i ≡ Some p = slice_get-get_or ps i p h.0 ∙ ap (λ (q : ℕ × Bool). Some q) (same_is p (get_or ps i p) h.1) in
    ap (literal_at (map (seen_literal at) ps)) up
    ∙ (numbered (map (seen_literal at) ps) i
    ∙ (slice_get-map (seen_literal at) ps i
    ∙ ap (option_map (seen_literal at)) here))

pub number_lacking : (at : ℕ → Term) (n : ℕ) → NamesOnce at n → (ps : List (ℕ × Bool)) (p : ℕ × Bool) (o : Option ℕ) → AreOver n ps → p.0 < n → is_some o ≡ list_any (same_signed p) ps → o ≡ None → has_literal (map (seen_literal at) ps) (seen_literal at p) ≡ false
number_lacking at n once ps p o over lt found none = among at n once ps p over lt ∙ (sym found ∙ ap (λ (q : Option ℕ). is_some q) none)
