-- Witnesses and instances.
use Rattle.std.proofs.Common.{◌≡◌, ◌∙◌, ◌+◌, ℕ, List, [], ◌∷◌, ◌++◌, map, take, Bool, true, false, cond, Option, Some, None, refl, sym, ap, subst}
use Rattle.std.specs.Prelude.{slice_get, is_some, option_map}
use Rattle.wy_facts.specs.Schema.{only_if}
use Rattle.wy_prove_drafts.specs.wy_check_nodes.Seen.{seen_literal}
use Rattle.wy_lemmas.proofs.Choices.{true_false}
use Rattle.wy_search.proofs.SpotLemmas.{made_spot}
use Rattle.wy_search.proofs.wy_search_facts_proofs.SpotLemmas.{witness_had}
use Rattle.wy_prove_rounds.proofs.LoopLemmas.{one_more, so_far}
use Rattle.wy_term.specs.Term.{Term}
use Rattle.wy_term.specs.Condition.{Entry}
use Rattle.wy_lin.specs.Linear.{◌>>=◌}
use Rattle.wy_cert.specs.Steps.{wit}
use Rattle.wy_prove_drafts.specs.wy_check_spec.judge.Node.{Literal, Node, has_literal, with_formulas}
use Rattle.wy_prove_drafts.specs.wy_check_spec.valid.Literals.{literal_at}
use Rattle.wy_prove_drafts.specs.wy_check_spec.valid.Ranges.{Range, of_each, of_one, is_int, instance_at, instance_stated, witness, witnessed_at}
use Rattle.wy_prove_drafts.specs.wy_check_spec.valid.Validity.{left_with}
use Rattle.wy_prove_drafts.specs.wy_search_spec.Expansion.{Spot, with_witness, with_witnesses, with_instances_by, with_some}
use Rattle.wy_prove_drafts.proofs.wy_search_laws_proofs.closing_lemmas.AtLeastLemmas.{more_formulas}
use Rattle.wy_prove_drafts.proofs.wy_search_laws_proofs.closing_lemmas.NameLemmas.{near_formulas, witness_same}
use Rattle.wy_prove_drafts.specs.Progress.{Progress, Writes}
use Rattle.wy_prove_rounds.specs.Moving.{IsAlong, Follows, Moves}
use Rattle.wy_prove_rounds.proofs.MovingLemmas.{tried}

-- ---- literals of the draft's node

-- what stands in the base, stands in the draft's node
pub never_lacks : (types : List Entry) (base node : Node) (l : Literal) (old : Progress) → has_literal base.literals l ≡ true → has_literal old.node.literals l ≡ false → IsAlong types base node old → ⊥
never_lacks types base node l old there lacks h = true_false (has_literal old.node.literals l) (h.near.at_least.literals l (h.keeps.literals l there)) lacks

pub moves_never : (types : List Entry) (base : Node) (l : Literal) (more : Node → Node) (old new : Progress) → has_literal base.literals l ≡ true → has_literal old.node.literals l ≡ false → Moves types base more old new
moves_never types base l more old new there lacks = record { each = λ node h. absurd (never_lacks types base node l old there lacks h) }

-- ---- instances

pub instance_is : (ls : List Literal) (l : Literal) (i : ℕ) (t : Term) → literal_at ls i ≡ Some l → is_int t ≡ true → (node : Node) → with_some node (instance_stated ls i t) ≡ with_instances_by node l.holds (of_each l) (t ∷ [])
instance_is ls l i t e int node = ap (λ (o : Option Literal). with_some node (o >>= λ k. of_each k >>= λ r. only_if (is_int t) (Some (instance_at k.holds r t)))) e ∙ by (of_each l)
  where
    by : (o : Option Range) → with_some node (o >>= λ r. only_if (is_int t) (Some (instance_at l.holds r t))) ≡ with_instances_by node l.holds o (t ∷ [])
    by None = refl
    by (Some r) = ap (λ (b : Bool). with_some node (only_if b (Some (instance_at l.holds r t)))) int

pub instances_none : (holds : Bool) (o : Option Range) (node : Node) → with_instances_by node holds o [] ≡ node
instances_none holds None node = refl
instances_none holds (Some r) node = refl

pub instances_so : (holds : Bool) (o : Option Range) (node : Node) (t : Term) (ts : List Term) → with_instances_by node holds o (t ∷ ts) ≡ with_instances_by (with_instances_by node holds o (t ∷ [])) holds o ts
instances_so holds None node t ts = refl
instances_so holds (Some r) node t ts = refl

-- ---- witnesses

pub witness_follows : (types : List Entry) (base node : Node) (l : Literal) (r : Range) (k : ℕ) (old new : Progress) (valid : Bool) → Writes types (wit k) old new valid → literal_at old.node.literals k ≡ Some l → of_one l ≡ Some r → IsAlong types base node old → Follows types base (with_formulas node (witnessed_at l.holds r (witness node r))) old new
witness_follows types base node l r k old new valid w at is h =
    let fs = witnessed_at l.holds r (witness node r) in
    tried types base node (with_formulas node fs) (wit k) old new valid (Some (with_formulas old.node fs)) w tt h
    (ap (λ (o : Option Literal). (o >>= λ l. of_one l >>= λ r. Some (witnessed_at l.holds r (witness old.node r))) >>= left_with old.node) at
    ∙ (ap (λ (o : Option Range). (o >>= λ r. Some (witnessed_at l.holds r (witness old.node r))) >>= left_with old.node) is
    ∙ ap (λ (x : Term). left_with old.node (witnessed_at l.holds r x)) (sym (witness_same node old.node r h.near))))
    (more_formulas base node fs h.keeps) (near_formulas node old.node fs h.near)

-- ---- spots

module _ (p : Spot) (l : Literal) (r : Range) (lacks : has_literal p.had l ≡ false) where
  abbrev made : Spot
  made = made_spot (with_formulas p.node (witnessed_at l.holds r (witness p.node r))) (p.had ++ l ∷ []) (p.names ++ witness p.node r ∷ []) p.rounds

  by_lack : (b : Bool) → b ≡ false → cond b p made ≡ made
  by_lack true e = absurd cc
  by_lack false e = refl

  -- a literal that had no witness
  pub witness_new : with_witness p l (Some r) ≡ made
  witness_new = by_lack (has_literal p.had l) lacks

pub none_witness : (p : Spot) (l : Literal) → of_one l ≡ None → p ≡ with_witness p l (of_one l)
none_witness p l e = sym (ap (with_witness p l) e)

pub had_witness : (p : Spot) (l : Literal) (r : Range) → of_one l ≡ Some r → has_literal p.had l ≡ true → p ≡ with_witness p l (of_one l)
had_witness p l r e up = witness_had p l r up ∙ sym (ap (with_witness p l) e)

new_witness : (p : Spot) (l : Literal) (r : Range) → of_one l ≡ Some r → has_literal p.had l ≡ false → made_spot (with_formulas p.node (witnessed_at l.holds r (witness p.node r))) (p.had ++ l ∷ []) (p.names ++ witness p.node r ∷ []) p.rounds ≡ with_witness p l (of_one l)
new_witness p l r e lacks = sym (ap (with_witness p l) e ∙ witness_new p l r lacks)

pub new_follows : (types : List Entry) (base : Node) (p : Spot) (l : Literal) (r : Range) (old new : Progress) → of_one l ≡ Some r → has_literal p.had l ≡ false → Follows types base (with_formulas p.node (witnessed_at l.holds r (witness p.node r))) old new → Follows types base (with_witness p l (of_one l)).node old new
new_follows types base p l r old new e lacks h = subst (λ (q : Spot). Follows types base q.node old new) (new_witness p l r e lacks) h

pub new_noted : (p : Spot) (l : Literal) (r : Range) → of_one l ≡ Some r → has_literal p.had l ≡ false → (with_witness p l (of_one l)).had ≡ p.had ++ l ∷ []
new_noted p l r e lacks = sym (ap (λ (q : Spot). q.had) (new_witness p l r e lacks))

-- one literal more
pub witnesses_more : (at : ℕ → Term) (ps : List (ℕ × Bool)) (i : ℕ) (q : ℕ × Bool) (p : Spot) → slice_get ps i ≡ Some q
    → with_witnesses p (map (seen_literal at) (take (i + 1) ps)) ≡ with_witness (with_witnesses p (map (seen_literal at) (take i ps))) (seen_literal at q) (of_one (seen_literal at q))
witnesses_more at ps i q p here = ap (with_witnesses p) (so_far (seen_literal at) ps i q here) ∙ one_more with_witnesses (λ s l. with_witness s l (of_one l)) (λ s. refl) (λ s l ls. refl) (map (seen_literal at) (take i ps)) (seen_literal at q) p

-- ---- whether there is a range

pub some_mapped : {X Y : Type 0} (f : X → Y) (o : Option X) → is_some o ≡ is_some (option_map f o)
some_mapped f None = refl
some_mapped f (Some x) = refl

pub some_of : {X : Type 0} (o : Option X) → is_some o ≡ true → (x : X) × (o ≡ Some x)
some_of None e = absurd cc
some_of (Some x) e = (x, refl)
