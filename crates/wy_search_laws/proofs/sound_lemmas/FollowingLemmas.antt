-- What a round of expansion adds to a node follows from the node.
use Rattle.std.proofs.Common.{◌≡◌, ◌∙◌, ℕ, zero, suc, List, [], ◌∷◌, ◌++◌, Bool, true, false, cond, not, eqb, ◌&&◌, ◌||◌, ℤ, pos, ◌⊎◌, inl, inr, Option, Some, None, refl, sym, ap, subst}
use Rattle.wy_lemmas.proofs.Options.{some_same as some_is}
use Rattle.wy_value.specs.Datum.{Datum, Null, Truth, Whole}
use Rattle.wy_search_bounds.specs.wy_term.Data.{is_of_kind}
use Rattle.wy_search_bounds.specs.wy_term.Term as term
use Rattle.wy_search_bounds.specs.wy_term.Term.{DataKind, null_kind, bool_kind, int_kind, array_kind, record_kind, Symbol, Term, Of, Parts, no_parts, part, leaf, one, Number, of_kind}
use Rattle.wy_search_bounds.specs.wy_term.Sorts.{sort_in}
use Rattle.wy_search_bounds.specs.wy_term.Meaning.{Names, sense}
use Rattle.wy_search_bounds.specs.wy_term.Condition.{Entry, AreUnfolded}
use Rattle.wy_search_bounds.specs.wy_term.Unfolding.{AreClosed}
use Rattle.wy_search_bounds.proofs.wy_term_proofs.FoldingLemmas.{folding_keeps_meaning}
use Rattle.wy_search_bounds.specs.wy_term_subst.sorted.Sorted.{IsSorted}
use Rattle.wy_search_bounds.proofs.wy_term_subst_proofs.kept_sorts_lemmas.SortLemmas.{substituted_sorted}
use Rattle.wy_search_bounds.specs.wy_term_subst.Substitution.{substituted}
use Rattle.wy_search_bounds.specs.wy_lin.Linear.{◌>>=◌}
use Rattle.wy_search_bounds.specs.wy_facts.Made.{made_one, is_at_most, is_equal, denial, implies, either, one_of_three}
use Rattle.wy_search_bounds.specs.wy_facts.Schema.{fact_of}
use Rattle.wy_search_bounds.proofs.wy_facts_proofs.DataLemmas.{is_null, is_bool, is_int as is_whole}
use Rattle.wy_search_bounds.proofs.wy_facts_proofs.SenseLemmas.{equal_holds, either_first, either_second, implies_holds, number_means}
use Rattle.wy_search_bounds.proofs.wy_facts_proofs.TruthLemmas.{facts_are_true}
use Rattle.wy_search_bounds.specs.wy_check_spec.judge.Node.{Literal, has_literal, Node, added, with_formulas}
use Rattle.wy_search_bounds.specs.wy_check_spec.judge.Told.{AllTold, IsTrueNode}
use Rattle.wy_search_bounds.proofs.wy_check_spec_proofs.judge_lemmas.TruthLemmas.{adds_truly}
use Rattle.wy_search_bounds.specs.wy_cert.Steps.{fact}
use Rattle.wy_search_bounds.specs.wy_check_spec.valid.Ranges.{Range, as_every, as_exists, of_each, body_at, is_int, instance_at}
use Rattle.wy_search_bounds.specs.wy_check_spec.valid.Membership.{membership_by, fact_among}
use Rattle.wy_search_bounds.specs.wy_check_spec.valid.Validity.{left_with_one}
use Rattle.wy_search_bounds.specs.wy_search_spec.Standing.{standing}
use Rattle.wy_search_bounds.specs.wy_search_spec.Expansion.{with_instances_of, with_instances_by, with_instances, with_some, with_facts_of_one, measured, all_measured, read_from, with_elements, with_all_elements, with_pairs_of, with_pairs, equal_to, kind_says, is_whole_kind, in_equation, everything, of_kind_literal, kind_fact, with_kind_facts, with_facts_by, with_schemas, with_facts}
use Rattle.wy_search_bounds.specs.wy_term.Same.{same_term}
use Rattle.wy_search_bounds.specs.wy_check_laws.sound.Sortedness.{AreFormulas, AreSortedEntries, AreSortedTerms}
use Rattle.wy_search_bounds.proofs.wy_check_laws_proofs.sound_lemmas.MadeLemmas.{IsInt, IsVal, IsFormula, at_most_sorted, equal_sorted, denial_sorted, either_sorted, one_of_three_sorted, implies_sorted, int_sorted, num_sorted}
use Rattle.wy_search_bounds.proofs.wy_check_laws_proofs.sound_lemmas.MemberLemmas.{membership_holds}
use Rattle.wy_search_bounds.proofs.wy_check_laws_proofs.sound_lemmas.NodeLemmas.{AreSortedLiterals, IsSortedNode, added_sorted}
use Rattle.wy_search_bounds.proofs.wy_check_laws_proofs.sound_lemmas.RangeLemmas.{instance_holds}
use Rattle.wy_search_bounds.proofs.wy_check_laws_proofs.sound_lemmas.StepLemmas.{Leads, step_leads, int_is, said_sorted}
use Rattle.wy_search_laws.proofs.closing_lemmas.SortedLemmas.{measured_sorted}
use Rattle.wy_search_laws.proofs.sound_lemmas.StandingLemmas.{AreIndices, node_sorted}

-- ---- following

-- the node is sorted, and true where the first one is
pub record Follows (types : List Entry) (base node : Node) : Type 0 where
  pub sorted : IsSortedNode node
  pub holds : (names : Names) → AreUnfolded names types → IsTrueNode names base → IsTrueNode names node

pub follows_self : (types : List Entry) (node : Node) → IsSortedNode node → Follows types node node
follows_self types node h = record { sorted = h; holds = λ names real told. told }

pub follows_on : (types : List Entry) (a b c : Node) → Follows types a b → Follows types b c → Follows types a c
follows_on types a b c f g = record { sorted = g.sorted; holds = λ names real told. g.holds names real (f.holds names real told) }

-- one formula more, which is true where the first node is
pub adds : (types : List Entry) (base node : Node) (f : Term) → Follows types base node → IsFormula f → ((names : Names) → AreUnfolded names types → IsTrueNode names base → (sense names f).truth ≡ true) → Follows types base (added node f)
adds types base node f h is true_there = record {
  sorted = added_sorted node f h.sorted is;
  holds = λ names real told. (adds_truly names node f (h.holds names real told)).0 (true_there names real told);
}

module _ (types : List Entry) (are_closed : AreClosed types) (entries : AreSortedEntries types) (base : Node) where
  -- ---- facts

  membership_true : (names : Names) (ts : List Term) (g : Term) → AreUnfolded names types → AreSortedTerms ts → membership_by types ts ≡ Some g → (sense names g).truth ≡ true
  membership_true names [] g real h e = absurd cc
  membership_true names (t ∷ []) g real h e = membership_holds names types t g real are_closed entries h.0 e
  membership_true names (t ∷ u ∷ us) g real h e = absurd cc

  fact_true : (names : Names) (n : ℕ) (ts : List Term) (g : Term) (b : Bool) → AreUnfolded names types → AreSortedTerms ts → cond b (membership_by types ts) (fact_of n ts) ≡ Some g → (sense names g).truth ≡ true
  fact_true names n ts g true real h e = membership_true names ts g real h e
  fact_true names n ts g false real h e = facts_are_true n ts g e names

  fact_leads : (node : Node) (n : ℕ) (ts : List Term) (g : Term) → IsSortedNode node → AreSortedTerms ts → fact_among types n ts ≡ Some g → IsSortedNode (added node g)
  fact_leads node n ts g h are e =
      let leads = step_leads types node (fact n ts) (added node g ∷ []) are_closed entries h are (ap (λ (o : Option Term). o >>= left_with_one node) e) in
      leads.sorted.0

  with_fact : (node : Node) (n : ℕ) (ts : List Term) → Follows types base node → AreSortedTerms ts → Follows types base (with_some node (fact_among types n ts))
  with_fact node n ts h are = by (fact_among types n ts) refl
    where
      by : (o : Option Term) → fact_among types n ts ≡ o → Follows types base (with_some node o)
      by None e = h
      by (Some g) e = record {
        sorted = fact_leads node n ts g h.sorted are e;
        holds = λ names real told. (adds_truly names node g (h.holds names real told)).0 (fact_true names n ts g (eqb n 16) real are e);
      }

  of_one : (n : ℕ) (node : Node) (ts : List Term) → Follows types base node → AreSortedTerms ts → Follows types base (with_facts_of_one types n node ts)
  of_one n node [] h are = h
  of_one n node (t ∷ ts) h are = of_one n (with_some node (fact_among types n (t ∷ []))) ts (with_fact node n (t ∷ []) h (are.0, tt)) are.1

  terms_both : (ts us : List Term) → AreSortedTerms ts → AreSortedTerms us → AreSortedTerms (ts ++ us)
  terms_both [] us h g = g
  terms_both (t ∷ ts) us h g = (h.0, terms_both ts us h.1 g)

  all_measured_sorted : (ts : List Term) → AreSortedTerms ts → AreSortedTerms (all_measured ts)
  all_measured_sorted [] h = tt
  all_measured_sorted (t ∷ ts) h = terms_both (measured t) (all_measured ts) (measured_sorted t h.0) (all_measured_sorted ts h.1)

  elements : (node : Node) (t : Term) (k : ℕ) (vs : Parts) → Follows types base node → IsSorted t → Follows types base (with_elements node t k vs)
  elements node t k no_parts h is = h
  elements node t k (part v vs) h is = elements (with_some node (fact_among types 4 (t ∷ Number (pos k) ∷ []))) t (suc k) vs (with_fact node 4 (t ∷ Number (pos k) ∷ []) h (is, (tt, tt))) is

  all_elements : (node : Node) (ts : List Term) → Follows types base node → AreSortedTerms ts → Follows types base (with_all_elements node ts)
  all_elements node [] h are = h
  all_elements node (t ∷ ts) h are = all_elements (with_elements node t 0 (read_from t)) ts (elements node t 0 (read_from t) h are.0) are.1

  pairs_of : (node : Node) (t : Term) (us : List Term) → Follows types base node → IsSorted t → AreSortedTerms us → Follows types base (with_pairs_of node t us)
  pairs_of node t [] h is are = h
  pairs_of node t (u ∷ us) h is are = pairs_of (cond (same_term t u) node (with_some node (fact_among types 8 (t ∷ u ∷ [])))) t us (by (same_term t u)) is are.1
    where
      by : (b : Bool) → Follows types base (cond b node (with_some node (fact_among types 8 (t ∷ u ∷ []))))
      by true = h
      by false = with_fact node 8 (t ∷ u ∷ []) h (is, (are.0, tt))

  pairs : (node : Node) (all ts : List Term) → Follows types base node → AreSortedTerms all → AreSortedTerms ts → Follows types base (with_pairs node all ts)
  pairs node all [] h every are = h
  pairs node all (t ∷ ts) h every are = pairs (with_pairs_of node t all) all ts (pairs_of node t all h are.0 every) every are.1

  -- ---- what a term of a kind is

  val_equal : (v : Term) (symbol : Symbol) → IsVal v → IsVal (leaf symbol) → IsFormula (equal_to v symbol)
  val_equal v symbol h g = equal_sorted v (leaf symbol) h g

  kind_formula : (kind : DataKind) (v : Term) → IsVal v → IsFormula (one (of_kind kind) v)
  kind_formula kind v h = ((h.1, h.0, tt), refl)

  null_adds : (node : Node) (v : Term) → Follows types base node → IsVal v → Follows types base (with_some node (kind_says v null_kind))
  null_adds node v h is =
      adds types base node (implies (one (of_kind null_kind) v) (equal_to v term.null)) h
      (implies_sorted (one (of_kind null_kind) v) (equal_to v term.null) (kind_formula null_kind v is) (val_equal v term.null is (tt, refl)))
      (λ names real told. implies_holds names (one (of_kind null_kind) v) (equal_to v term.null) (λ e. equal_holds names v (leaf term.null) (is_null (sense names v).datum e)))

  bool_adds : (node : Node) (v : Term) → Follows types base node → IsVal v → Follows types base (with_some node (kind_says v bool_kind))
  bool_adds node v h is =
      let yes = equal_to v (term.truth true) in
      let no = equal_to v (term.truth false) in
      adds types base node (implies (one (of_kind bool_kind) v) (either yes no)) h
      (implies_sorted (one (of_kind bool_kind) v) (either yes no) (kind_formula bool_kind v is) (either_sorted yes no (val_equal v (term.truth true) is (tt, refl)) (val_equal v (term.truth false) is (tt, refl))))
      (λ names real told. implies_holds names (one (of_kind bool_kind) v) (either yes no) (λ e. truths names (is_bool (sense names v).datum e)))
    where
      truths : (names : Names) → ((sense names v).datum ≡ Truth true) ⊎ ((sense names v).datum ≡ Truth false) → (sense names (either (equal_to v (term.truth true)) (equal_to v (term.truth false)))).truth ≡ true
      truths names (inl e) = either_first names (equal_to v (term.truth true)) (equal_to v (term.truth false)) (equal_holds names v (leaf (term.truth true)) e)
      truths names (inr e) = either_second names (equal_to v (term.truth true)) (equal_to v (term.truth false)) (equal_holds names v (leaf (term.truth false)) e)

  int_adds : (node : Node) (v : Term) → Follows types base node → IsVal v → Follows types base (with_some node (kind_says v int_kind))
  int_adds node v h is =
      let whole = made_one term.int (made_one term.num v) in
      adds types base node (implies (one (of_kind int_kind) v) (is_equal v whole)) h
      (implies_sorted (one (of_kind int_kind) v) (is_equal v whole) (kind_formula int_kind v is) (equal_sorted v whole is (int_sorted (made_one term.num v) (num_sorted v is))))
      (λ names real told. implies_holds names (one (of_kind int_kind) v) (is_equal v whole) (λ e.
      equal_holds names v whole (is_whole (sense names v).datum e ∙ (ap (λ (z : ℤ). Whole z) (sym (number_means names v)) ∙ sym (folding_keeps_meaning (one term.int (made_one term.num v)) names tt)))))

  kind_adds : (node : Node) (v : Term) (kind : DataKind) → Follows types base node → IsVal v → Follows types base (with_some node (kind_says v kind))
  kind_adds node v null_kind h is = null_adds node v h is
  kind_adds node v bool_kind h is = bool_adds node v h is
  kind_adds node v int_kind h is = int_adds node v h is
  kind_adds node v array_kind h is = h
  kind_adds node v (record_kind ns) h is = h

  literal_adds : (first node : Node) (v : Term) (kind : DataKind) (b c : Bool) → Follows types base node → IsVal v → Follows types base (with_some node (cond b (cond c None (kind_says v kind)) None))
  literal_adds first node v kind true true h is = h
  literal_adds first node v kind true false h is = kind_adds node v kind h is
  literal_adds first node v kind false c h is = h

  fact_of_kind : (first node : Node) (t : Term) → Follows types base node → IsSorted t → Follows types base (with_some node (kind_fact first t))
  fact_of_kind first node (Of term.bool (part f no_parts)) h is = with_fact node 14 (Of term.bool (part f no_parts) ∷ []) h (is, tt)
  fact_of_kind first node (Of (of_kind kind) (part v no_parts)) h is =
      literal_adds first node v kind (has_literal first.literals (record { atom = one (of_kind kind) v; holds = true })) (is_whole_kind kind && not (in_equation (everything first) v)) h (is.1, is.0)
  fact_of_kind first node t h is = h

  kind_facts : (first node : Node) (ts : List Term) → Follows types base node → AreSortedTerms ts → Follows types base (with_kind_facts first node ts)
  kind_facts first node [] h are = h
  kind_facts first node (t ∷ ts) h are = kind_facts first (with_some node (kind_fact first t)) ts (fact_of_kind first node t h are.0) are.1

  -- ---- all schemas

  facts_by : (first : Node) (ts : List Term) (n : ℕ) (node : Node) → Follows types base node → AreSortedTerms ts → Follows types base (with_facts_by types first ts n node)
  facts_by first ts n node h are = by (eqb n 1) (eqb n 4) (eqb n 8) (eqb n 14)
    where
      by : (b c d e : Bool) → Follows types base (cond b (with_facts_of_one types 1 node (all_measured ts)) (cond c (with_all_elements node ts) (cond d (with_pairs node ts ts) (cond e (with_kind_facts first node ts) (with_facts_of_one types n node ts)))))
      by true c d e = of_one 1 node (all_measured ts) h (all_measured_sorted ts are)
      by false true d e = all_elements node ts h are
      by false false true e = pairs node ts ts h are are
      by false false false true = kind_facts first node ts h are
      by false false false false = of_one n node ts h are

  schemas : (first : Node) (ts : List Term) (n left : ℕ) (node : Node) → Follows types base node → AreSortedTerms ts → Follows types base (with_schemas types first ts n left node)
  schemas first ts n zero node h are = h
  schemas first ts n (suc left) node h are = schemas first ts (suc n) left (with_facts_by types first ts n node) (facts_by first ts n node h are) are

-- the facts of what stands in a node follow from it
pub facts_follow : (types : List Entry) (node : Node) → AreClosed types → AreSortedEntries types → IsSortedNode node → Follows types node (with_facts types node)
facts_follow types node are_closed entries h = schemas types are_closed entries node node (standing node) 1 16 node (follows_self types node h) (node_sorted node h)

-- ---- instances

-- the parts of a range are sorted
record IsSortedRange (r : Range) : Type 0 where
  lower : IsInt r.lower
  upper : IsInt r.upper
  body : IsFormula r.body

every_sorted : (a : Term) (r : Range) → IsSorted a → as_every a ≡ Some r → IsSortedRange r
every_sorted (Of (term.every w n) (part s (part u (part f no_parts)))) r h e =
    let made : Range = record { word = w; number = n; lower = s; upper = u; body = f } in
    subst IsSortedRange (some_is made r e) (record { lower = (h.1, h.0); upper = (h.2.1, h.2.0); body = (h.2.2.1, h.2.2.0) })
every_sorted a r h e = absurd cc

exists_sorted : (a : Term) (r : Range) → IsSorted a → as_exists a ≡ Some r → IsSortedRange r
exists_sorted (Of (term.exists w n) (part s (part u (part f no_parts)))) r h e =
    let made : Range = record { word = w; number = n; lower = s; upper = u; body = f } in
    subst IsSortedRange (some_is made r e) (record { lower = (h.1, h.0); upper = (h.2.1, h.2.0); body = (h.2.2.1, h.2.2.0) })
exists_sorted a r h e = absurd cc

each_sorted : (b : Bool) (a : Term) (r : Range) → IsSorted a → cond b (as_every a) (as_exists a) ≡ Some r → IsSortedRange r
each_sorted true a r h e = every_sorted a r h e
each_sorted false a r h e = exists_sorted a r h e

body_sorted : (b : Bool) (r : Range) (t : Term) → IsSortedRange r → IsInt t → IsFormula (body_at b r t)
body_sorted b r t h g =
    let put = substituted_sorted r.body (leaf (term.int_name r.word r.number)) t h.body.0 g in
    said_sorted b (substituted r.body (leaf (term.int_name r.word r.number)) t) (put.0, put.1 ∙ h.body.1)

instance_sorted : (b : Bool) (r : Range) (t : Term) → IsSortedRange r → IsInt t → IsFormula (instance_at b r t)
instance_sorted b r t h g =
    one_of_three_sorted (denial (is_at_most r.lower t)) (is_at_most r.upper t) (body_at b r t) (denial_sorted (is_at_most r.lower t) (at_most_sorted r.lower t h.lower g)) (at_most_sorted r.upper t h.upper g) (body_sorted b r t h g)

-- the literals are true where the first node is
abbrev pub AreToldIn : List Entry → Node → List Literal → Type 0
AreToldIn types base ls = (names : Names) → AreUnfolded names types → IsTrueNode names base → AllTold names ls

module _ (types : List Entry) (base : Node) where
  instances_of : (node : Node) (l : Literal) (r : Range) (ts : List Term) → ((names : Names) → AreUnfolded names types → IsTrueNode names base → (sense names l.atom).truth ≡ l.holds) → IsSorted l.atom → of_each l ≡ Some r → AreIndices ts → Follows types base node → Follows types base (with_instances_of node l.holds r ts)
  instances_of node l r [] told is_l is are h = h
  instances_of node l r (t ∷ ts) told is_l is are h =
      let is_t : IsInt t = (are.0.0, int_is (sort_in t) are.0.1) in
      instances_of (added node (instance_at l.holds r t)) l r ts told is_l is are.1
      (adds types base node (instance_at l.holds r t) h (instance_sorted l.holds r t (each_sorted l.holds l.atom r is_l is) is_t) (λ names real here. instance_holds names l.holds l.atom r t (told names real here) is_l is_t is))

  instances_by : (node : Node) (l : Literal) (o : Option Range) (ts : List Term) → ((names : Names) → AreUnfolded names types → IsTrueNode names base → (sense names l.atom).truth ≡ l.holds) → IsSorted l.atom → of_each l ≡ o → AreIndices ts → Follows types base node → Follows types base (with_instances_by node l.holds o ts)
  instances_by node l None ts told is_l is are h = h
  instances_by node l (Some r) ts told is_l is are h = instances_of node l r ts told is_l is are h

  pub instances : (node : Node) (ls : List Literal) (ts : List Term) → AreToldIn types base ls → AreSortedLiterals ls → AreIndices ts → Follows types base node → Follows types base (with_instances node ls ts)
  instances node [] ts told sorted are h = h
  instances node (l ∷ ls) ts told sorted are h =
      instances (with_instances_by node l.holds (of_each l) ts) ls ts (λ names real here. (told names real here).1) sorted.1 are
      (instances_by node l (of_each l) ts (λ names real here. (told names real here).0) sorted.0.0 refl are h)
