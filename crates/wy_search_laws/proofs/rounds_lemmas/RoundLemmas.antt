-- What a round of the search adds to a node, steps add to each near node: so where the node behind the round can be closed, so can the one before it.
use Rattle.std.proofs.Common.{◌≡◌, ℕ, zero, suc, List, [], ◌∷◌, ◌++◌, Bool, true, false, cond, eqb, not, ◌&&◌, ◌||◌, pos, Option, Some, None, refl, sym, ap, ◌∙◌}
use Rattle.wy_search_bounds.specs.wy_facts.Schema.{only_if}
use Rattle.wy_search_bounds.proofs.wy_term_text_proofs.reread_lemmas.FoldedLemmas.{number_folded}
use Rattle.wy_search_bounds.specs.wy_term.Term as term
use Rattle.wy_search_bounds.specs.wy_term.Term.{DataKind, null_kind, bool_kind, int_kind, array_kind, record_kind, Symbol, Term, Of, Parts, no_parts, part, leaf, one, Number, of_kind}
use Rattle.wy_search_bounds.specs.wy_term.Same.{same_term}
use Rattle.wy_search_bounds.specs.wy_term.Condition.{Entry}
use Rattle.wy_search_bounds.specs.wy_term_subst.sorted.Sorted.{IsSorted}
use Rattle.wy_search_bounds.specs.wy_term_text.reread.Folded.{IsFolded}
use Rattle.wy_search_bounds.specs.wy_lin.Linear.{◌>>=◌}
use Rattle.wy_search_bounds.specs.wy_facts.Made.{is_equal, either, made_one}
use Rattle.wy_search_bounds.specs.wy_cert.Steps.{Written, inst, wit, fact}
use Rattle.wy_search_bounds.specs.wy_check_spec.judge.Node.{Literal, same_literal, has_literal, Node, added, with_formulas}
use Rattle.wy_search_bounds.specs.wy_term_subst.Names.{any_symbol, new_number}
use Rattle.wy_search_bounds.specs.wy_check_spec.valid.Ranges.{Range, of_each, of_one, is_int, instance_at, witness, witnessed_at, numbers_in_node}
use Rattle.wy_search_bounds.specs.wy_check_spec.valid.Membership.{fact_among}
use Rattle.wy_search_bounds.specs.wy_check_spec.valid.Validity.{after, left_with, left_with_one}
use Rattle.wy_search_bounds.specs.wy_search_spec.Standing.{standing}
use Rattle.wy_search_bounds.specs.wy_search_spec.Expansion.{Spot, with_witness, with_witnesses, index_terms, with_instances_of, with_instances_by, with_instances, with_some, with_facts_of_one, measured, all_measured, read_from, with_elements, with_all_elements, with_pairs_of, with_pairs, equal_to, kind_says, is_whole_kind, in_equation, everything, kind_fact, with_kind_facts, with_facts_by, with_schemas, with_facts}
use Rattle.wy_search_bounds.specs.wy_check_laws.sound.Sortedness.{AreSortedTerms, IsSortedStep}
use Rattle.wy_search_bounds.proofs.wy_check_laws_proofs.sound_lemmas.MadeLemmas.{IsFormula, IsVal, equal_sorted, either_sorted, implies_sorted, int_sorted, num_sorted}
use Rattle.wy_search_bounds.proofs.wy_check_laws_proofs.sound_lemmas.NodeLemmas.{IsSortedNode, added_sorted}
use Rattle.wy_search_laws.specs.closing.AtLeast.{IsAtLeast, any_in_literals, any_in_formulas, IsNear}
use Rattle.wy_search_laws.proofs.closing_lemmas.SortedLemmas.{measured_sorted}
use Rattle.wy_search_laws.proofs.closing_lemmas.AtLeastLemmas.{at_least_self, at_least_on, more_added, more_formulas, stands_at, literal_self}
use Rattle.wy_search_laws.proofs.closing_lemmas.NameLemmas.{IsNamedIn, any_literal_there, near_self, near_formulas, witness_same, any_more}
use Rattle.wy_search_laws.proofs.closing_lemmas.Closing.{AreFoldedLiterals, AreFoldedTerms, IsFoldedNode, IsClosableNear, LeadsOn, led_by}
use Rattle.wy_search_laws.proofs.closing_lemmas.FoldedLemmas.{added_folded, formulas_folded}
use Rattle.wy_search_laws.proofs.rounds_lemmas.FoldedMade.{each_folded, one_of_folded, instance_folded, witnessed_folded, IsFoldedRange, one_folded, equal_folded, either_folded, implies_folded}
use Rattle.wy_search_laws.proofs.rounds_lemmas.FoldedFacts.{fact_folded}
use Rattle.wy_search_laws.proofs.rounds_lemmas.KindLemmas.{untold, null_said, bool_said, int_said, all_said, kind_fact_is, null_near, bool_near, int_near}
use Rattle.wy_search_laws.proofs.rounds_lemmas.PresentLemmas.{standing_sorted, standing_folded, IsIndex, AreIndices, indices_are}

-- ---- a node of the search that grows

-- steps lead on from near nodes: where the new node can be closed, so can the old one
pub record Grows (types : List Entry) (base node : Node) : Type 0 where
  pub sorted : IsSortedNode node
  pub folded : IsFoldedNode node
  pub keeps : IsAtLeast base node
  pub back : IsClosableNear types node → IsClosableNear types base

pub grows_self : (types : List Entry) (node : Node) → IsSortedNode node → IsFoldedNode node → Grows types node node
grows_self types node h g = record { sorted = h; folded = g; keeps = at_least_self node; back = λ c. c }

pub grows_on : (types : List Entry) (a b c : Node) → Grows types a b → Grows types b c → Grows types a c
grows_on types a b c f g = record { sorted = g.sorted; folded = g.folded; keeps = at_least_on a b c f.keeps g.keeps; back = λ closes. f.back (g.back closes) }

-- a valid step adds these formulas to the node
pub record Adds (types : List Entry) (more : Node) (gs : List Term) : Type 0 where
  pub step : Written
  pub sorted : IsSortedStep step
  pub is : after types more step ≡ Some (with_formulas more gs ∷ [])

module _ (types : List Entry) (leads_on : LeadsOn types) where
  leads : (more : Node) (gs : List Term) → IsSortedNode more → Adds types more gs → IsSortedNode (with_formulas more gs)
  leads more gs h s = (leads_on more s.step (with_formulas more gs ∷ []) h s.sorted s.is).0

  -- some formulas more, which a step adds to each node that has what the first one has
  adds_all : (base node : Node) (fs : List Term) → Grows types base node → AreFoldedTerms fs → ((more : Node) → IsAtLeast base more → IsNear node more → Adds types more fs) → Grows types base (with_formulas node fs)
  adds_all base node fs h are steps = record {
    sorted = leads node fs h.sorted (steps node h.keeps (near_self node));
    folded = formulas_folded node fs h.folded are;
    keeps = more_formulas base node fs h.keeps;
    back = λ closes. h.back (λ more sorted near.
        let s = steps more (at_least_on base node more h.keeps near.at_least) near in
        led_by types more (with_formulas more fs) s.step s.is s.sorted (closes (with_formulas more fs) (leads more fs sorted s) (near_formulas node more fs near)));
  }

  -- one formula more
  pub adds : (base node : Node) (f : Term) → Grows types base node → IsFolded f → ((more : Node) → IsAtLeast base more → Adds types more (f ∷ [])) → Grows types base (added node f)
  adds base node f h is steps = adds_all base node (f ∷ []) h (is, tt) (λ more keeps near. steps more keeps)

  -- one formula more, of another that a step adds
  adds_part : (base node : Node) (f g : Term) → Grows types base node → IsFolded f → IsFormula f → ((more : Node) → IsAtLeast base more → Adds types more (g ∷ [])) → ((more : Node) → IsNear node more → IsNear (added node f) (added more g)) → Grows types base (added node f)
  adds_part base node f g h is formula steps near_part = record {
    sorted = added_sorted node f h.sorted formula;
    folded = added_folded node f h.folded is;
    keeps = more_added base node f h.keeps;
    back = λ closes. h.back (λ more sorted near.
        let s = steps more (at_least_on base node more h.keeps near.at_least) in
        led_by types more (added more g) s.step s.is s.sorted (closes (added more g) (leads more (g ∷ []) sorted s) (near_part more near)));
  }

  -- ---- facts

  fact_adds : (more : Node) (n : ℕ) (ts : List Term) (g : Term) → AreSortedTerms ts → fact_among types n ts ≡ Some g → Adds types more (g ∷ [])
  fact_adds more n ts g are e = record { step = fact n ts; sorted = are; is = ap (λ (o : Option Term). o >>= left_with_one more) e }

  with_fact : (base node : Node) (n : ℕ) (ts : List Term) → Grows types base node → AreSortedTerms ts → AreFoldedTerms ts → Grows types base (with_some node (fact_among types n ts))
  with_fact base node n ts h are folded = by (fact_among types n ts) refl
    where
      by : (o : Option Term) → fact_among types n ts ≡ o → Grows types base (with_some node o)
      by None e = h
      by (Some g) e = adds base node g h (fact_folded types n ts g folded e) (λ more keeps. fact_adds more n ts g are e)

  module _ (base : Node) where
    of_each_term : (n : ℕ) (node : Node) (ts : List Term) → Grows types base node → AreSortedTerms ts → AreFoldedTerms ts → Grows types base (with_facts_of_one types n node ts)
    of_each_term n node [] h are folded = h
    of_each_term n node (t ∷ ts) h are folded = of_each_term n (with_some node (fact_among types n (t ∷ []))) ts (with_fact base node n (t ∷ []) h (are.0, tt) (folded.0, tt)) are.1 folded.1

    sorted_both : (ts us : List Term) → AreSortedTerms ts → AreSortedTerms us → AreSortedTerms (ts ++ us)
    sorted_both [] us h g = g
    sorted_both (t ∷ ts) us h g = (h.0, sorted_both ts us h.1 g)

    folded_both : (ts us : List Term) → AreFoldedTerms ts → AreFoldedTerms us → AreFoldedTerms (ts ++ us)
    folded_both [] us h g = g
    folded_both (t ∷ ts) us h g = (h.0, folded_both ts us h.1 g)

    measured_folded : (t : Term) → IsFolded t → AreFoldedTerms (measured t)
    measured_folded (Of term.len (part v no_parts)) h = (h.1.0, tt)
    measured_folded t h = tt

    all_measured_sorted : (ts : List Term) → AreSortedTerms ts → AreSortedTerms (all_measured ts)
    all_measured_sorted [] h = tt
    all_measured_sorted (t ∷ ts) h = sorted_both (measured t) (all_measured ts) (measured_sorted t h.0) (all_measured_sorted ts h.1)

    all_measured_folded : (ts : List Term) → AreFoldedTerms ts → AreFoldedTerms (all_measured ts)
    all_measured_folded [] h = tt
    all_measured_folded (t ∷ ts) h = folded_both (measured t) (all_measured ts) (measured_folded t h.0) (all_measured_folded ts h.1)

    elements : (node : Node) (t : Term) (k : ℕ) (vs : Parts) → Grows types base node → IsSorted t → IsFolded t → Grows types base (with_elements node t k vs)
    elements node t k no_parts h is folded = h
    elements node t k (part v vs) h is folded =
        elements (with_some node (fact_among types 4 (t ∷ Number (pos k) ∷ []))) t (suc k) vs (with_fact base node 4 (t ∷ Number (pos k) ∷ []) h (is, (tt, tt)) (folded, (number_folded (pos k), tt))) is folded

    all_elements : (node : Node) (ts : List Term) → Grows types base node → AreSortedTerms ts → AreFoldedTerms ts → Grows types base (with_all_elements node ts)
    all_elements node [] h are folded = h
    all_elements node (t ∷ ts) h are folded = all_elements (with_elements node t 0 (read_from t)) ts (elements node t 0 (read_from t) h are.0 folded.0) are.1 folded.1

    pairs_of : (node : Node) (t : Term) (us : List Term) → Grows types base node → IsSorted t → IsFolded t → AreSortedTerms us → AreFoldedTerms us → Grows types base (with_pairs_of node t us)
    pairs_of node t [] h is folded are others = h
    pairs_of node t (u ∷ us) h is folded are others = pairs_of (cond (same_term t u) node (with_some node (fact_among types 8 (t ∷ u ∷ [])))) t us (by (same_term t u)) is folded are.1 others.1
      where
        by : (b : Bool) → Grows types base (cond b node (with_some node (fact_among types 8 (t ∷ u ∷ []))))
        by true = h
        by false = with_fact base node 8 (t ∷ u ∷ []) h (is, (are.0, tt)) (folded, (others.0, tt))

    pairs : (node : Node) (all ts : List Term) → Grows types base node → AreSortedTerms all → AreFoldedTerms all → AreSortedTerms ts → AreFoldedTerms ts → Grows types base (with_pairs node all ts)
    pairs node all [] h every folded are others = h
    pairs node all (t ∷ ts) h every folded are others = pairs (with_pairs_of node t all) all ts (pairs_of node t all h are.0 others.0 every folded) every folded are.1 others.1

    -- ---- what a term of a kind is

    val_equal : (v : Term) (symbol : Symbol) → IsVal v → IsVal (leaf symbol) → IsFormula (equal_to v symbol)
    val_equal v symbol h g = equal_sorted v (leaf symbol) h g

    kind_formula : (kind : DataKind) (v : Term) → IsVal v → IsFormula (one (of_kind kind) v)
    kind_formula kind v h = ((h.1, h.0, tt), refl)

    -- the names of a datum whose kind a literal tells are those of the node
    named : (node : Node) (kind : DataKind) (v : Term) → IsAtLeast base node → has_literal base.literals (record { atom = one (of_kind kind) v; holds = true }) ≡ true → IsNamedIn v node
    named node kind v keeps e test tests f = any_more test base node keeps (first (any_in_literals test base.literals) (any_in_formulas test base.pending) (there base.literals (record { atom = one (of_kind kind) v; holds = true }) e (right (test (of_kind kind)) (any_symbol test v || false) (first (any_symbol test v) false f))))
      where
        first : (a b : Bool) → a ≡ true → (a || b) ≡ true
        first true b g = refl
        first false b g = absurd cc

        right : (a b : Bool) → b ≡ true → (a || b) ≡ true
        right true b g = refl
        right false b g = g

        there : (ls : List Literal) (k : Literal) → has_literal ls k ≡ true → any_symbol test k.atom ≡ true → any_in_literals test ls ≡ true
        there ls k g i = any_literal_there test ls k g i

    kind_adds : (node : Node) (v : Term) (kind : DataKind) → Grows types base node → IsVal v → IsFolded v → IsFolded (one (of_kind kind) v) → has_literal base.literals (record { atom = one (of_kind kind) v; holds = true }) ≡ true → Grows types base (with_some node (kind_says v kind))
    kind_adds node v null_kind h is folded whole e =
        let known = untold null_kind v whole is in
        let formula = implies_sorted (one (of_kind null_kind) v) (equal_to v term.null) (kind_formula null_kind v is) (val_equal v term.null is (tt, refl)) in
        let made = implies_folded (one (of_kind null_kind) v) (equal_to v term.null) whole (equal_folded v (leaf term.null) folded (refl, tt)) in
        adds_part base node (null_said v) (all_said v) h made formula (λ more keeps. fact_adds more 14 (v ∷ []) (all_said v) (is.0, tt) (kind_fact_is types v known)) (λ more near. null_near v node more known (named node null_kind v h.keeps e) near)
    kind_adds node v bool_kind h is folded whole e =
        let known = untold bool_kind v whole is in
        let yes = equal_to v (term.truth true) in
        let no = equal_to v (term.truth false) in
        let formula = implies_sorted (one (of_kind bool_kind) v) (either yes no) (kind_formula bool_kind v is) (either_sorted yes no (val_equal v (term.truth true) is (tt, refl)) (val_equal v (term.truth false) is (tt, refl))) in
        let made = implies_folded (one (of_kind bool_kind) v) (either yes no) whole (either_folded yes no (equal_folded v (leaf (term.truth true)) folded (refl, tt)) (equal_folded v (leaf (term.truth false)) folded (refl, tt))) in
        adds_part base node (bool_said v) (all_said v) h made formula (λ more keeps. fact_adds more 14 (v ∷ []) (all_said v) (is.0, tt) (kind_fact_is types v known)) (λ more near. bool_near v node more known (named node bool_kind v h.keeps e) near)
    kind_adds node v int_kind h is folded whole e =
        let known = untold int_kind v whole is in
        let number = made_one term.int (made_one term.num v) in
        let formula = implies_sorted (one (of_kind int_kind) v) (is_equal v number) (kind_formula int_kind v is) (equal_sorted v number is (int_sorted (made_one term.num v) (num_sorted v is))) in
        let made = implies_folded (one (of_kind int_kind) v) (is_equal v number) whole (equal_folded v number folded (one_folded term.int (made_one term.num v) (one_folded term.num v folded))) in
        adds_part base node (int_said v) (all_said v) h made formula (λ more keeps. fact_adds more 14 (v ∷ []) (all_said v) (is.0, tt) (kind_fact_is types v known)) (λ more near. int_near v node more known (named node int_kind v h.keeps e) near)
    kind_adds node v array_kind h is folded whole e = h
    kind_adds node v (record_kind ns) h is folded whole e = h

    literal_adds : (node : Node) (v : Term) (kind : DataKind) (b c : Bool) → has_literal base.literals (record { atom = one (of_kind kind) v; holds = true }) ≡ b → Grows types base node → IsVal v → IsFolded v → IsFolded (one (of_kind kind) v) → Grows types base (with_some node (cond b (cond c None (kind_says v kind)) None))
    literal_adds node v kind true true e h is folded whole = h
    literal_adds node v kind true false e h is folded whole = kind_adds node v kind h is folded whole e
    literal_adds node v kind false c e h is folded whole = h

    fact_of_kind : (node : Node) (t : Term) → Grows types base node → IsSorted t → IsFolded t → Grows types base (with_some node (kind_fact base t))
    fact_of_kind node (Of term.bool (part f no_parts)) h is folded = with_fact base node 14 (Of term.bool (part f no_parts) ∷ []) h (is, tt) (folded, tt)
    fact_of_kind node (Of (of_kind kind) (part v no_parts)) h is folded =
        literal_adds node v kind (has_literal base.literals (record { atom = one (of_kind kind) v; holds = true })) (is_whole_kind kind && not (in_equation (everything base) v)) refl h (is.1, is.0) folded.1.0 folded
    fact_of_kind node t h is folded = h

    kind_facts : (node : Node) (ts : List Term) → Grows types base node → AreSortedTerms ts → AreFoldedTerms ts → Grows types base (with_kind_facts base node ts)
    kind_facts node [] h are folded = h
    kind_facts node (t ∷ ts) h are folded = kind_facts (with_some node (kind_fact base t)) ts (fact_of_kind node t h are.0 folded.0) are.1 folded.1

    -- ---- all schemas

    facts_by : (ts : List Term) (n : ℕ) (node : Node) → Grows types base node → AreSortedTerms ts → AreFoldedTerms ts → Grows types base (with_facts_by types base ts n node)
    facts_by ts n node h are folded = by (eqb n 1) (eqb n 4) (eqb n 8) (eqb n 14)
      where
        by : (b c d e : Bool) → Grows types base (cond b (with_facts_of_one types 1 node (all_measured ts)) (cond c (with_all_elements node ts) (cond d (with_pairs node ts ts) (cond e (with_kind_facts base node ts) (with_facts_of_one types n node ts)))))
        by true c d e = of_each_term 1 node (all_measured ts) h (all_measured_sorted ts are) (all_measured_folded ts folded)
        by false true d e = all_elements node ts h are folded
        by false false true e = pairs node ts ts h are folded are folded
        by false false false true = kind_facts node ts h are folded
        by false false false false = of_each_term n node ts h are folded

    schemas : (ts : List Term) (n left : ℕ) (node : Node) → Grows types base node → AreSortedTerms ts → AreFoldedTerms ts → Grows types base (with_schemas types base ts n left node)
    schemas ts n zero node h are folded = h
    schemas ts n (suc left) node h are folded = schemas ts (suc n) left (with_facts_by types base ts n node) (facts_by ts n node h are folded) are folded

  pub facts_grow : (node : Node) → IsSortedNode node → IsFoldedNode node → Grows types node (with_facts types node)
  facts_grow node h g = schemas node (standing node) 1 16 node (grows_self types node h g) (standing_sorted node h) (standing_folded node g)

  -- ---- instances

  module _ (base : Node) where
    instance_adds : (more : Node) (l : Literal) (r : Range) (t : Term) → has_literal base.literals l ≡ true → of_each l ≡ Some r → IsIndex t → IsAtLeast base more → Adds types more (instance_at l.holds r t ∷ [])
    instance_adds more l r t there is index keeps =
        let at = stands_at more.literals l (keeps.literals l there) in
        record {
          step = inst at.number t;
          sorted = index.sorted;
          is =
              ap (λ (o : Option Literal). (o >>= λ l. of_each l >>= λ r. only_if (is_int t) (Some (instance_at l.holds r t))) >>= left_with_one more) at.is
              ∙ (ap (λ (o : Option Range). (o >>= λ r. only_if (is_int t) (Some (instance_at l.holds r t))) >>= left_with_one more) is
              ∙ ap (λ (b : Bool). only_if b (Some (instance_at l.holds r t)) >>= left_with_one more) index.int);
        }

    instances_of : (node : Node) (l : Literal) (r : Range) (ts : List Term) → has_literal base.literals l ≡ true → of_each l ≡ Some r → IsFoldedRange r → AreIndices ts → Grows types base node → Grows types base (with_instances_of node l.holds r ts)
    instances_of node l r [] there is range are h = h
    instances_of node l r (t ∷ ts) there is range are h =
        instances_of (added node (instance_at l.holds r t)) l r ts there is range are.1
        (adds base node (instance_at l.holds r t) h (instance_folded l.holds r t range are.0.folded) (λ more keeps. instance_adds more l r t there is are.0 keeps))

    instances_by : (node : Node) (l : Literal) (o : Option Range) (ts : List Term) → has_literal base.literals l ≡ true → IsFolded l.atom → of_each l ≡ o → AreIndices ts → Grows types base node → Grows types base (with_instances_by node l.holds o ts)
    instances_by node l None ts there folded is are h = h
    instances_by node l (Some r) ts there folded is are h = instances_of node l r ts there is (each_folded l.holds l.atom r folded is) are h

    -- for literals that stand in the first node
    instances : (node : Node) (ls : List Literal) (ts : List Term) → ((l : Literal) → has_literal ls l ≡ true → has_literal base.literals l ≡ true) → AreFoldedLiterals ls → AreIndices ts → Grows types base node → Grows types base (with_instances node ls ts)
    instances node [] ts among folded are h = h
    instances node (l ∷ ls) ts among folded are h =
        instances (with_instances_by node l.holds (of_each l) ts) ls ts (λ k e. among k (behind l ls k e)) folded.1 are
        (instances_by node l (of_each l) ts (among l (in_front l ls)) folded.0 refl are h)
      where
        behind : (l : Literal) (ls : List Literal) (k : Literal) → has_literal ls k ≡ true → has_literal (l ∷ ls) k ≡ true
        behind l ls k e = by (same_literal l k)
          where
            by : (b : Bool) → cond b true (has_literal ls k) ≡ true
            by true = refl
            by false = e

        in_front : (l : Literal) (ls : List Literal) → has_literal (l ∷ ls) l ≡ true
        in_front l ls = ap (λ (b : Bool). cond b true (has_literal ls l)) (literal_self l)

  pub instances_grow : (p : Spot) → IsSortedNode p.node → IsFoldedNode p.node → Grows types p.node (with_instances p.node p.node.literals (index_terms p))
  instances_grow p h g = instances p.node p.node p.node.literals (index_terms p) (λ l e. e) g.literals (indices_are p.node _ h g) (grows_self types p.node h g)

  -- ---- witnesses

  witness_adds : (node more : Node) (l : Literal) (r : Range) → has_literal node.literals l ≡ true → of_one l ≡ Some r → IsNear node more → Adds types more (witnessed_at l.holds r (witness node r))
  witness_adds node more l r there is near =
      let at = stands_at more.literals l (near.at_least.literals l there) in
      record {
        step = wit at.number;
        sorted = tt;
        is =
            ap (λ (o : Option Literal). (o >>= λ l. of_one l >>= λ r. Some (witnessed_at l.holds r (witness more r))) >>= left_with more) at.is
            ∙ (ap (λ (o : Option Range). (o >>= λ r. Some (witnessed_at l.holds r (witness more r))) >>= left_with more) is
            ∙ ap (λ (x : Term). left_with more (witnessed_at l.holds r x)) (sym (witness_same node more r near)));
      }

  with_one : (p : Spot) (l : Literal) (o : Option Range) → IsSortedNode p.node → IsFoldedNode p.node → has_literal p.node.literals l ≡ true → IsFolded l.atom → of_one l ≡ o → Grows types p.node (with_witness p l o).node
  with_one p l None h g there folded is = grows_self types p.node h g
  with_one p l (Some r) h g there folded is = by (has_literal p.had l)
    where
      by : (b : Bool) → Grows types p.node (cond b p (record { node = with_formulas p.node (witnessed_at l.holds r (witness p.node r)); had = p.had ++ l ∷ []; names = p.names ++ witness p.node r ∷ []; rounds = p.rounds })).node
      by true = grows_self types p.node h g
      by false =
          adds_all p.node p.node (witnessed_at l.holds r (witness p.node r)) (grows_self types p.node h g)
          (witnessed_folded l.holds r (new_number (numbers_in_node p.node)) (one_of_folded l.holds l.atom r folded is))
          (λ more keeps near. witness_adds p.node more l r there is near)

  with_all : (p : Spot) (ls : List Literal) → IsSortedNode p.node → IsFoldedNode p.node → ((l : Literal) → has_literal ls l ≡ true → has_literal p.node.literals l ≡ true) → AreFoldedLiterals ls → Grows types p.node (with_witnesses p ls).node
  with_all p [] h g among folded = grows_self types p.node h g
  with_all p (l ∷ ls) h g among folded =
      let q = with_witness p l (of_one l) in
      let one = with_one p l (of_one l) h g (among l (ap (λ (b : Bool). cond b true (has_literal ls l)) (literal_self l))) folded.0 refl in
      let rest = with_all q ls one.sorted one.folded (λ k e. one.keeps.literals k (among k (behind k e))) folded.1 in
      grows_on types p.node q.node (with_witnesses q ls).node one rest
    where
      behind : (k : Literal) → has_literal ls k ≡ true → has_literal (l ∷ ls) k ≡ true
      behind k e = by (same_literal l k)
        where
          by : (b : Bool) → cond b true (has_literal ls k) ≡ true
          by true = refl
          by false = e

  pub witnesses_grow : (p : Spot) → IsSortedNode p.node → IsFoldedNode p.node → Grows types p.node (with_witnesses p p.node.literals).node
  witnesses_grow p h g = with_all p p.node.literals h g (λ l e. e) g.literals
