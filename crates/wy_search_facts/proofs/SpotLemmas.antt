-- Nodes on a path, with more in them.
use Rattle.std.proofs.Common.{◌≡◌, ◌∙◌, ◌<◌, ◌≤◌, ◌+◌, ℕ, zero, suc, List, [], ◌∷◌, ◌++◌, map, drop, get_or, length, Bool, true, false, cond, Some, None, sym, ap, ap₂, arith}
use Rattle.std.proofs.lemmas.List.{drop_more}
use Rattle.wy_check_nodes.proofs.BranchLemmas.{node}
use Rattle.wy_lemmas.proofs.Lists.{drop_end}
use Rattle.wy_search_facts.specs.Seen.{seen_spot}
use Rattle.wy_search_facts.specs.declared.spot.Spot.{Spot}
use Rattle.wy_cong.specs.wy_check_spec.judge.Node.{Literal, Node, has_literal, with_formulas, with_literal}
use Rattle.wy_check_nodes.specs.Seen.{seen_literal, AreOver}
use Rattle.wy_cong.specs.wy_search_spec.Expansion as search
use Rattle.wy_cong.specs.wy_search_spec.Expansion.{with_instances, with_instances_by, with_instances_of, with_witness, with_witnesses}
use Rattle.wy_term.specs.Term.{Term}
use Rattle.wy_cong.specs.wy_check_spec.valid.Ranges.{Range, instance_at, of_each, of_one, witness, witnessed_at}

abbrev spot_with : Node → List Literal → List Term → ℕ → search.Spot
spot_with node had names rounds = record { node = node; had = had; names = names; rounds = rounds }

-- one literal more, which wasn't there
pub had_more : (before after : Node) (l : Literal) → after ≡ with_literal before l → has_literal before.literals l ≡ false → after.literals ≡ before.literals ++ l ∷ []
had_more before after l is none = ap (λ (n : Node). n.literals) is ∙ ap (λ (b : Bool). (cond b before (node (before.literals ++ l ∷ []) before.pending)).literals) none

-- what a witness adds
pub witness_put : (p : search.Spot) (l : Literal) (r : Range) (now : Node) (had : List Literal) (names : List Term) → has_literal p.had l ≡ false
    → now ≡ with_formulas p.node (witnessed_at l.holds r (witness p.node r)) → had ≡ p.had ++ l ∷ [] → names ≡ p.names ++ witness p.node r ∷ []
    → spot_with now had names p.rounds ≡ with_witness p l (Some r)
witness_put p l r now had names none node_is had_is names_are =
    ap (λ (n : Node). spot_with n had names p.rounds) node_is
    ∙ ap (λ (ls : List Literal). spot_with (with_formulas p.node (witnessed_at l.holds r (witness p.node r))) ls names p.rounds) had_is
    ∙ ap (λ (ts : List Term). spot_with (with_formulas p.node (witnessed_at l.holds r (witness p.node r))) (p.had ++ l ∷ []) ts p.rounds) names_are
    ∙ sym (ap (λ (b : Bool). cond b p (spot_with (with_formulas p.node (witnessed_at l.holds r (witness p.node r))) (p.had ++ l ∷ []) (p.names ++ witness p.node r ∷ []) p.rounds)) none)

pub witness_had : (p : search.Spot) (l : Literal) (r : Range) → has_literal p.had l ≡ true → p ≡ with_witness p l (Some r)
witness_had p l r up = sym (ap (λ (b : Bool). cond b p (spot_with (with_formulas p.node (witnessed_at l.holds r (witness p.node r))) (p.had ++ l ∷ []) (p.names ++ witness p.node r ∷ []) p.rounds)) up)

-- ---- loops

pub witnesses_step : (at : ℕ → Term) (ps : List (ℕ × Bool)) (i : ℕ) (d : ℕ × Bool) (now new whole : search.Spot) → i < length ps
    → new ≡ with_witness now (seen_literal at (get_or ps i d)) (of_one (seen_literal at (get_or ps i d)))
    → with_witnesses now (map (seen_literal at) (drop i ps)) ≡ whole → with_witnesses new (map (seen_literal at) (drop (i + 1) ps)) ≡ whole
witnesses_step at ps i d now new whole lt is led =
    ap (λ (p : search.Spot). with_witnesses p (map (seen_literal at) (drop (i + 1) ps))) is
    ∙ sym (ap (λ (qs : List (ℕ × Bool)). with_witnesses now (map (seen_literal at) qs)) (drop_more ps i d lt))
    ∙ led

pub instances_step : (at : ℕ → Term) (ps : List (ℕ × Bool)) (ts : List Term) (i : ℕ) (d : ℕ × Bool) (now new whole : Node) → i < length ps
    → new ≡ with_instances_by now (get_or ps i d).1 (of_each (seen_literal at (get_or ps i d))) ts
    → with_instances now (map (seen_literal at) (drop i ps)) ts ≡ whole → with_instances new (map (seen_literal at) (drop (i + 1) ps)) ts ≡ whole
instances_step at ps ts i d now new whole lt is led =
    ap (λ (p : Node). with_instances p (map (seen_literal at) (drop (i + 1) ps)) ts) is
    ∙ sym (ap (λ (qs : List (ℕ × Bool)). with_instances now (map (seen_literal at) qs) ts) (drop_more ps i d lt))
    ∙ led

pub instance_step : (at : ℕ → Term) (holds : Bool) (r : Range) (ks : List ℕ) (i d : ℕ) (now new whole : Node) → i < length ks
    → new ≡ with_instances_of now holds r (at (get_or ks i d) ∷ [])
    → with_instances_of now holds r (map at (drop i ks)) ≡ whole → with_instances_of new holds r (map at (drop (i + 1) ks)) ≡ whole
instance_step at holds r ks i d now new whole lt is led =
    ap (λ (p : Node). with_instances_of p holds r (map at (drop (i + 1) ks))) is
    ∙ sym (ap (λ (js : List ℕ). with_instances_of now holds r (map at js)) (drop_more ks i d lt))
    ∙ led

pub witnesses_end : (at : ℕ → Term) (ps : List (ℕ × Bool)) (i : ℕ) (now whole : search.Spot) → length ps ≤ i → with_witnesses now (map (seen_literal at) (drop i ps)) ≡ whole → now ≡ whole
witnesses_end at ps i now whole le led = sym (ap (λ (qs : List (ℕ × Bool)). with_witnesses now (map (seen_literal at) qs)) (drop_end ps i le)) ∙ led

pub instances_end : (at : ℕ → Term) (ps : List (ℕ × Bool)) (ts : List Term) (i : ℕ) (now whole : Node) → length ps ≤ i → with_instances now (map (seen_literal at) (drop i ps)) ts ≡ whole → now ≡ whole
instances_end at ps ts i now whole le led = sym (ap (λ (qs : List (ℕ × Bool)). with_instances now (map (seen_literal at) qs) ts) (drop_end ps i le)) ∙ led

pub instance_end : (at : ℕ → Term) (holds : Bool) (r : Range) (ks : List ℕ) (i : ℕ) (now whole : Node) → length ks ≤ i → with_instances_of now holds r (map at (drop i ks)) ≡ whole → now ≡ whole
instance_end at holds r ks i now whole le led = sym (ap (λ (js : List ℕ). with_instances_of now holds r (map at js)) (drop_end ks i le)) ∙ led

over_at : (n : ℕ) (ps : List (ℕ × Bool)) (i : ℕ) (d : ℕ × Bool) → AreOver n ps → i < length ps → (get_or ps i d).0 < n
over_at n [] i d over lt = absurd (omega (arith, lt))
over_at n (p ∷ ps) zero d over lt = over.0
over_at n (p ∷ ps) (suc i) d over lt = over_at n ps i d over.1 (omega (arith, lt))

pub over_up : (n m : ℕ) (ps : List (ℕ × Bool)) (i : ℕ) (d : ℕ × Bool) → n ≤ m → AreOver n ps → i < length ps → (get_or ps i d).0 < m
over_up n m ps i d le over lt = let low = over_at n ps i d over lt in omega (arith, low, le)

pub over_here : (n : ℕ) (ps : List (ℕ × Bool)) (i : ℕ) (d : ℕ × Bool) → AreOver n ps → i < length ps → (get_or ps i d).0 < n
over_here n ps i d over lt = over_at n ps i d over lt
