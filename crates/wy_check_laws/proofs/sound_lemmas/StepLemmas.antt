-- Each step leads on soundly: where the nodes to which it leads can't be true, neither can the node that it stands at.
use Rattle.std.proofs.Common.{◌≡◌, ℕ, zero, suc, ◌-◌, List, [], ◌∷◌, Bool, true, false, cond, eqb, not, ℤ, Option, Some, None, refl, sym, ap, ◌∙◌, subst}
use Rattle.std.specs.Prelude.{slice_get}
use Rattle.wy_check_spec.specs.wy_facts.Membership.{entry_for}
use Rattle.wy_lemmas.proofs.Choices.{true_false as two_ways, opposite_never}
use Rattle.wy_lemmas.proofs.Options.{some, some_same as some_is}
use Rattle.wy_check_spec.specs.wy_term.Term.{Term, Of, no_parts, part, leaf, one, int_name, in_type, every, exists}
use Rattle.wy_check_spec.specs.wy_term.Sorts.{Sort, int_sort, val_sort, formula_sort, sort_in}
use Rattle.wy_check_spec.specs.wy_term.Meaning.{Names, with_number, Sense, sense}
use Rattle.wy_check_spec.specs.wy_term.Condition.{Entry, AllTrue, AreUnfolded}
use Rattle.wy_check_spec.specs.wy_term.Unfolding.{AreClosed}
use Rattle.wy_check_spec.specs.wy_term_subst.sorted.Sorted.{IsSorted}
use Rattle.wy_check_spec.specs.wy_term_subst.kept_sorts.SortKept.{HasSort}
use Rattle.wy_check_spec.proofs.wy_term_subst_proofs.kept_sorts_lemmas.SortLemmas.{substituted_sorted}
use Rattle.wy_check_spec.specs.wy_term_subst.Names.{numbers_in, is_in, new_number}
use Rattle.wy_check_spec.specs.wy_term_subst.Substitution.{substituted}
use Rattle.wy_check_spec.proofs.wy_term_subst_proofs.NameLemmas.{new_number-new}
use Rattle.wy_check_spec.specs.wy_lin.Linear.{◌>>=◌}
use Rattle.wy_check_spec.proofs.wy_lin_proofs.OptionLemmas.{bind_some}
use Rattle.wy_check_spec.specs.wy_facts.Made.{is_at_most, is_equal, denial}
use Rattle.wy_check_spec.specs.wy_facts.Schema.{fact_of, only_if}
use Rattle.wy_check_spec.proofs.wy_facts_proofs.TruthLemmas.{facts_are_true}
use Rattle.wy_check_spec.specs.declared.judge.verdict.Verdict.{Verdict}
use Rattle.wy_check_spec.specs.declared.judge.verdict.Verdict.TheVariants.{Yes, No, Open}
use Rattle.wy_check_spec.specs.judge.Node.{Literal, has_literal, Node, is_atom, added, denied_one, with_formulas}
use Rattle.wy_check_spec.specs.judge.Judgement.{judged}
use Rattle.wy_check_spec.specs.judge.Told.{AllTold, IsTrueNode}
use Rattle.wy_check_spec.proofs.judge_lemmas.TruthLemmas.{judges_truly, adds_truly}
use Rattle.wy_check_spec.specs.wy_cert.Steps.{Written, split, shut, chain, clash, sum_of, cut, inst, wit, fact, prod}
use Rattle.wy_check_spec.specs.valid.Literals.{literal_at, stands_both_ways, is_no, any_no, is_shut, is_chain, last_of}
use Rattle.wy_check_spec.specs.valid.Kinds.{clashes_alone, clash_together}
use Rattle.wy_check_spec.specs.valid.Sums.{summed, is_refuting, cut_of}
use Rattle.wy_check_spec.specs.valid.Ranges.{Range, as_every, as_exists, of_each, of_one, said, body_at, instance_at, is_int_sort, is_int, instance_stated, numbers_in_literals, numbers_in_formulas, numbers_in_node, witness, witnessed_at, witness_stated}
use Rattle.wy_check_spec.specs.valid.Membership.{unfolded_at, membership, membership_by, fact_among}
use Rattle.wy_check_spec.specs.valid.Products.{product_stated}
use Rattle.wy_check_spec.specs.valid.Validity.{closed, left_with, left_with_one, equality_of, chain_stated, is_clash, after}
use Rattle.wy_check_laws.specs.sound.Sortedness.{AreFormulas, AreSortedEntries, AreSortedTerms, IsSortedStep}
use Rattle.wy_check_laws.proofs.sound_lemmas.Basics.{or_cases, only_some, told_there, literal_told}
use Rattle.wy_check_laws.proofs.sound_lemmas.FormLemmas.{summed_natural, never_refutes}
use Rattle.wy_check_laws.proofs.sound_lemmas.CutLemmas.{cut_holds}
use Rattle.wy_check_laws.proofs.sound_lemmas.ProductLemmas.{product_holds}
use Rattle.wy_check_laws.proofs.sound_lemmas.ChainLemmas.{ends_sorts, chain_holds}
use Rattle.wy_check_laws.proofs.sound_lemmas.KindLemmas.{clash_alone_never, clash_together_never}
use Rattle.wy_check_laws.proofs.sound_lemmas.FreshLemmas.{apart_in, fresh_sense}
use Rattle.wy_check_laws.proofs.sound_lemmas.RangeLemmas.{instance_holds, witness_holds}
use Rattle.wy_check_laws.proofs.sound_lemmas.MemberLemmas.{types_stay, membership_holds, entry_sorted}
use Rattle.wy_check_laws.proofs.sound_lemmas.MadeLemmas.{IsInt, IsFormula, at_most_sorted, equal_sorted, denial_sorted, one_of_three_sorted, exactly_sorted}
use Rattle.wy_check_laws.proofs.sound_lemmas.FactLemmas.{fact_sorted}
use Rattle.wy_check_laws.proofs.sound_lemmas.NodeLemmas.{IsSortedNode, AreSortedNodes, added_sorted, denied_sorted, formulas_sorted, formulas_true, literal_is_sorted}
use Rattle.wy_check_laws.proofs.sound_lemmas.FormSortLemmas.{cut_sorted, product_sorted}

-- ---- what a step leads to

-- the node isn't true, whatever names stand for
abbrev pub IsFalse : List Entry → Node → Type 0
IsFalse types node = (names : Names) → AreUnfolded names types → IsTrueNode names node → ⊥

abbrev pub AllFalse : List Entry → List Node → Type 0
AllFalse types [] = Unit {0}
AllFalse types (n ∷ ns) = IsFalse types n × AllFalse types ns

pub record Leads (types : List Entry) (node : Node) (below : List Node) : Type 0 where
  pub sorted : AreSortedNodes below
  pub refuted : AllFalse types below → IsFalse types node

-- no node is left
closing : (types : List Entry) (node : Node) (below : List Node) → closed ≡ Some below → IsFalse types node → Leads types node below
closing types node below e h = subst (Leads types node) (some_is [] below e) (record { sorted = tt; refuted = λ f. h })

-- formulas that are true where the node is are added to it
adding : (types : List Entry) (node : Node) (fs : List Term) (below : List Node) → left_with node fs ≡ Some below → IsSortedNode node → AreFormulas fs → ((names : Names) → AreUnfolded names types → IsTrueNode names node → AllTrue names fs) → Leads types node below
adding types node fs below e h g holds =
    subst (Leads types node) (some_is (with_formulas node fs ∷ []) below e)
    (record { sorted = (formulas_sorted node fs h g, tt); refuted = λ f names real told. f.0 names real (formulas_true names node fs told (holds names real told)) })

adding_one : (types : List Entry) (node : Node) (f : Term) (below : List Node) → left_with_one node f ≡ Some below → IsSortedNode node → IsFormula f → ((names : Names) → AreUnfolded names types → IsTrueNode names node → (sense names f).truth ≡ true) → Leads types node below
adding_one types node f below e h g holds = adding types node (f ∷ []) below e h (g, tt) (λ names real told. (holds names real told, tt))

-- ---- split

split_leads : (types : List Entry) (node : Node) (f : Term) (below : List Node) → IsSortedNode node → IsFormula f → only_if (is_atom f) (Some (added node f ∷ denied_one node f ∷ [])) ≡ Some below → Leads types node below
split_leads types node f below h g e =
    let p = only_some (is_atom f) (Some (added node f ∷ denied_one node f ∷ [])) below e in
    subst (Leads types node) (some_is (added node f ∷ denied_one node f ∷ []) below p.1)
    (record {
      sorted = (added_sorted node f h g, (denied_sorted node f h g, tt));
      refuted = λ all names real told. either_way names all real told (sense names f).truth refl;
    })
  where
    either_way : (names : Names) → AllFalse types (added node f ∷ denied_one node f ∷ []) → AreUnfolded names types → IsTrueNode names node → (b : Bool) → (sense names f).truth ≡ b → ⊥
    either_way names all real told true is = all.0 names real ((adds_truly names node f told).0 is)
    either_way names all real told false is = all.1.0 names real ((adds_truly names node f told).1 is)

-- ---- shut

pub both_ways_never : (names : Names) (all ls : List Literal) → AllTold names all → AllTold names ls → stands_both_ways all ls ≡ true → ⊥
both_ways_never names all [] f g e = absurd cc
both_ways_never names all (l ∷ ls) f g e =
    or_cases (has_literal all (record { atom = l.atom; holds = not l.holds })) (stands_both_ways all ls) ⊥ e
    (λ h. opposite_never l.holds (sense names l.atom).truth g.0 (told_there names all (record { atom = l.atom; holds = not l.holds }) f h))
    (λ h. both_ways_never names all ls f g.1 h)

pub no_is : (v : Verdict) → is_no v ≡ true → v ≡ No
no_is Yes e = absurd cc
no_is No e = refl
no_is Open e = absurd cc

pub pending_never : (names : Names) (ls : List Literal) (fs : List Term) → AllTold names ls → AllTrue names fs → any_no ls fs ≡ true → ⊥
pending_never names ls [] told all e = absurd cc
pending_never names ls (f ∷ fs) told all e =
    or_cases (is_no (judged ls f)) (any_no ls fs) ⊥ e
    (λ h. two_ways (sense names f).truth all.0 ((judges_truly names ls f told).1 (no_is (judged ls f) h)))
    (λ h. pending_never names ls fs told all.1 h)

pub shut_never : (names : Names) (node : Node) → IsTrueNode names node → is_shut node ≡ true → ⊥
shut_never names node told e =
    or_cases (stands_both_ways node.literals node.literals) (any_no node.literals node.pending) ⊥ e
    (λ h. both_ways_never names node.literals node.literals told.literals told.literals h)
    (λ h. pending_never names node.literals node.pending told.literals told.pending h)

shut_leads : (types : List Entry) (node : Node) (below : List Node) → only_if (is_shut node) closed ≡ Some below → Leads types node below
shut_leads types node below e =
    let p = only_some (is_shut node) closed below e in
    closing types node below p.1 (λ names real told. shut_never names node told p.0)

-- ---- chain

last_sorted : (t : Term) (ts : List Term) → IsSorted t → AreSortedTerms ts → IsSorted (last_of t ts)
last_sorted t [] h g = h
last_sorted t (u ∷ us) h g = last_sorted u us g.0 g.1

equality_sorted : (a : Sort) (s t : Term) (fs : List Term) → HasSort s a → HasSort t a → equality_of a s t ≡ Some fs → AreFormulas fs
equality_sorted val_sort s t fs h g e = subst AreFormulas (some_is (is_equal s t ∷ []) fs e) (equal_sorted s t h g, tt)
equality_sorted int_sort s t fs h g e = subst AreFormulas (some_is (is_at_most s t ∷ is_at_most t s ∷ []) fs e) (at_most_sorted s t h g, (at_most_sorted t s g h, tt))
equality_sorted formula_sort s t fs h g e = absurd cc

chain_sorted : (ls : List Literal) (ts fs : List Term) → AreSortedTerms ts → chain_stated ls ts ≡ Some fs → AreFormulas fs
chain_sorted ls [] fs h e = absurd cc
chain_sorted ls (t ∷ ts) fs h e =
    let p = only_some (is_chain ls t ts) (equality_of (sort_in t) t (last_of t ts)) fs e in
    equality_sorted (sort_in t) t (last_of t ts) fs (h.0, refl) (last_sorted t ts h.0 h.1, sym (ends_sorts ls t ts p.0)) p.1

chain_leads : (types : List Entry) (node : Node) (ts : List Term) (below : List Node) → IsSortedNode node → AreSortedTerms ts → (chain_stated node.literals ts >>= left_with node) ≡ Some below → Leads types node below
chain_leads types node ts below h g e =
    let p = bind_some (chain_stated node.literals ts) (left_with node) below e in
    adding types node p.0 below p.2 h (chain_sorted node.literals ts p.0 g p.1) (λ names real told. chain_holds names node.literals ts p.0 told.literals p.1)

-- ---- clash

clash_leads : (types : List Entry) (node : Node) (i : ℕ) (other : Option ℕ) (below : List Node) → (is_clash node.literals i other >>= λ b. only_if b closed) ≡ Some below → Leads types node below
clash_leads types node i None below e =
    let b = bind_some (is_clash node.literals i None) (λ b. only_if b closed) below e in
    let l = bind_some (literal_at node.literals i) (λ l. Some (clashes_alone l)) b.0 b.1 in
    let p = only_some b.0 closed below b.2 in
    closing types node below p.1 (λ names real told. clash_alone_never names l.0 (literal_told names node.literals i l.0 told.literals l.1) (some_is (clashes_alone l.0) b.0 l.2 ∙ p.0))
clash_leads types node i (Some j) below e =
    let b = bind_some (is_clash node.literals i (Some j)) (λ b. only_if b closed) below e in
    let l = bind_some (literal_at node.literals i) (λ l. literal_at node.literals j >>= λ k. Some (clash_together node.literals l k)) b.0 b.1 in
    let k = bind_some (literal_at node.literals j) (λ k. Some (clash_together node.literals l.0 k)) b.0 l.2 in
    let p = only_some b.0 closed below b.2 in
    closing types node below p.1 (λ names real told. clash_together_never names node.literals l.0 k.0 told.literals (literal_told names node.literals i l.0 told.literals l.1) (literal_told names node.literals j k.0 told.literals k.1) (some_is (clash_together node.literals l.0 k.0) b.0 k.2 ∙ p.0))

-- ---- sum and cut

sum_leads : (types : List Entry) (node : Node) (pairs : List (ℕ × ℕ)) (below : List Node) → only_if (is_refuting (summed node.literals pairs)) closed ≡ Some below → Leads types node below
sum_leads types node pairs below e =
    let p = only_some (is_refuting (summed node.literals pairs)) closed below e in
    closing types node below p.1 (λ names real told. never_refutes names node.literals pairs told.literals p.0)

cut_leads : (types : List Entry) (node : Node) (d : ℕ) (pairs : List (ℕ × ℕ)) (below : List Node) → IsSortedNode node → (summed node.literals pairs >>= λ f. cut_of d f >>= left_with_one node) ≡ Some below → Leads types node below
cut_leads types node d pairs below h e =
    let f = bind_some (summed node.literals pairs) (λ f. cut_of d f >>= left_with_one node) below e in
    let g = bind_some (cut_of d f.0) (left_with_one node) below f.2 in
    adding_one types node g.0 below g.2 h (cut_sorted node.literals pairs d f.0 g.0 h.literals f.1 g.1) (λ names real told. cut_holds names d f.0 g.0 (summed_natural names node.literals pairs f.0 told.literals f.1) g.1)

-- ---- inst

pub int_is : (s : Sort) → is_int_sort s ≡ true → s ≡ int_sort
int_is int_sort e = refl
int_is val_sort e = absurd cc
int_is formula_sort e = absurd cc

pub said_sorted : (b : Bool) (f : Term) → IsFormula f → IsFormula (said b f)
said_sorted true f h = h
said_sorted false f h = denial_sorted f h

-- the parts of a range are sorted
record IsSortedRange (r : Range) : Type 0 where
  lower : IsInt r.lower
  upper : IsInt r.upper
  body : IsFormula r.body

every_sorted : (a : Term) (r : Range) → IsSorted a → as_every a ≡ Some r → IsSortedRange r
every_sorted (Of (every w n) (part s (part u (part f no_parts)))) r h e =
    let made : Range = record { word = w; number = n; lower = s; upper = u; body = f } in
    subst IsSortedRange (some_is made r e) (record { lower = (h.1, h.0); upper = (h.2.1, h.2.0); body = (h.2.2.1, h.2.2.0) })
every_sorted a r h e = absurd cc

exists_sorted : (a : Term) (r : Range) → IsSorted a → as_exists a ≡ Some r → IsSortedRange r
exists_sorted (Of (exists w n) (part s (part u (part f no_parts)))) r h e =
    let made : Range = record { word = w; number = n; lower = s; upper = u; body = f } in
    subst IsSortedRange (some_is made r e) (record { lower = (h.1, h.0); upper = (h.2.1, h.2.0); body = (h.2.2.1, h.2.2.0) })
exists_sorted a r h e = absurd cc

each_sorted : (b : Bool) (a : Term) (r : Range) → IsSorted a → cond b (as_every a) (as_exists a) ≡ Some r → IsSortedRange r
each_sorted true a r h e = every_sorted a r h e
each_sorted false a r h e = exists_sorted a r h e

one_sorted : (b : Bool) (a : Term) (r : Range) → IsSorted a → cond b (as_exists a) (as_every a) ≡ Some r → IsSortedRange r
one_sorted true a r h e = exists_sorted a r h e
one_sorted false a r h e = every_sorted a r h e

body_sorted : (b : Bool) (r : Range) (t : Term) → IsSortedRange r → IsInt t → IsFormula (body_at b r t)
body_sorted b r t h g =
    let put = substituted_sorted r.body (leaf (int_name r.word r.number)) t h.body.0 g in
    said_sorted b (substituted r.body (leaf (int_name r.word r.number)) t) (put.0, put.1 ∙ h.body.1)

instance_sorted : (b : Bool) (r : Range) (t : Term) → IsSortedRange r → IsInt t → IsFormula (instance_at b r t)
instance_sorted b r t h g =
    one_of_three_sorted (denial (is_at_most r.lower t)) (is_at_most r.upper t) (body_at b r t) (denial_sorted (is_at_most r.lower t) (at_most_sorted r.lower t h.lower g)) (at_most_sorted r.upper t h.upper g) (body_sorted b r t h g)

inst_leads : (types : List Entry) (node : Node) (i : ℕ) (t : Term) (below : List Node) → IsSortedNode node → IsSorted t → (instance_stated node.literals i t >>= left_with_one node) ≡ Some below → Leads types node below
inst_leads types node i t below h g e =
    let f = bind_some (instance_stated node.literals i t) (left_with_one node) below e in
    let l = bind_some (literal_at node.literals i) (λ l. of_each l >>= λ r. only_if (is_int t) (Some (instance_at l.holds r t))) f.0 f.1 in
    let r = bind_some (of_each l.0) (λ r. only_if (is_int t) (Some (instance_at l.0.holds r t))) f.0 l.2 in
    let p = only_some (is_int t) (Some (instance_at l.0.holds r.0 t)) f.0 r.2 in
    let is_t : IsInt t = (g, int_is (sort_in t) p.0) in
    let is_l = literal_is_sorted node.literals i l.0 h.literals l.1 in
    adding_one types node f.0 below f.2 h (subst IsFormula (some_is (instance_at l.0.holds r.0 t) f.0 p.1) (instance_sorted l.0.holds r.0 t (each_sorted l.0.holds l.0.atom r.0 is_l.0 r.1) is_t))
    (λ names real told. ap (λ (x : Term). (sense names x).truth) (sym (some_is (instance_at l.0.holds r.0 t) f.0 p.1)) ∙ instance_holds names l.0.holds l.0.atom r.0 t (literal_told names node.literals i l.0 told.literals l.1) is_l.0 is_t r.1)

-- ---- wit

-- a number that stands in no literal stands in none of them
literal_out : (m : ℕ) (ls : List Literal) (i : ℕ) (l : Literal) → is_in m (numbers_in_literals ls) ≡ false → literal_at ls i ≡ Some l → is_in m (numbers_in l.atom) ≡ false
literal_out m ls i l out e = by (eqb i 0) e
  where
    nth_out : (ls : List Literal) (k : ℕ) → is_in m (numbers_in_literals ls) ≡ false → slice_get ls k ≡ Some l → is_in m (numbers_in l.atom) ≡ false
    nth_out [] k out e = absurd cc
    nth_out (x ∷ xs) zero out e = let is : x ≡ l = cc in ap (λ (y : Literal). is_in m (numbers_in y.atom)) (sym is) ∙ (apart_in m (numbers_in x.atom) (numbers_in_literals xs) out).0
    nth_out (x ∷ xs) (suc k) out e = nth_out xs k (apart_in m (numbers_in x.atom) (numbers_in_literals xs) out).1 e

    by : (b : Bool) → cond b None (slice_get ls (i - 1)) ≡ Some l → is_in m (numbers_in l.atom) ≡ false
    by true h = absurd cc
    by false h = nth_out ls (i - 1) out h

literals_stay : (names : Names) (w : List ℕ) (m : ℕ) (z : ℤ) (ls : List Literal) → is_in m (numbers_in_literals ls) ≡ false → AllTold names ls → AllTold (with_number names w m z) ls
literals_stay names w m z [] out told = tt
literals_stay names w m z (l ∷ ls) out told =
    let p = apart_in m (numbers_in l.atom) (numbers_in_literals ls) out in
    (ap (λ (x : Sense). x.truth) (sym (fresh_sense names w m z l.atom p.0)) ∙ told.0, literals_stay names w m z ls p.1 told.1)

formulas_stay : (names : Names) (w : List ℕ) (m : ℕ) (z : ℤ) (fs : List Term) → is_in m (numbers_in_formulas fs) ≡ false → AllTrue names fs → AllTrue (with_number names w m z) fs
formulas_stay names w m z [] out told = tt
formulas_stay names w m z (f ∷ fs) out told =
    let p = apart_in m (numbers_in f) (numbers_in_formulas fs) out in
    (ap (λ (x : Sense). x.truth) (sym (fresh_sense names w m z f p.0)) ∙ told.0, formulas_stay names w m z fs p.1 told.1)

node_stays : (names : Names) (w : List ℕ) (m : ℕ) (z : ℤ) (node : Node) → is_in m (numbers_in_node node) ≡ false → IsTrueNode names node → IsTrueNode (with_number names w m z) node
node_stays names w m z node out told =
    let p = apart_in m (numbers_in_literals node.literals) (numbers_in_formulas node.pending) out in
    record { literals = literals_stay names w m z node.literals p.0 told.literals; pending = formulas_stay names w m z node.pending p.1 told.pending }

witnessed_sorted : (b : Bool) (r : Range) (m : ℕ) → IsSortedRange r → AreFormulas (witnessed_at b r (leaf (int_name r.word m)))
witnessed_sorted b r m h =
    let is_x : IsInt (leaf (int_name r.word m)) = (tt, refl) in
    (at_most_sorted r.lower (leaf (int_name r.word m)) h.lower is_x, (denial_sorted (is_at_most r.upper (leaf (int_name r.word m))) (at_most_sorted r.upper (leaf (int_name r.word m)) h.upper is_x), (body_sorted b r (leaf (int_name r.word m)) h is_x, tt)))

wit_leads : (types : List Entry) (node : Node) (i : ℕ) (below : List Node) → AreClosed types → IsSortedNode node → (witness_stated node i >>= left_with node) ≡ Some below → Leads types node below
wit_leads types node i below are_closed h e =
    let fs = bind_some (witness_stated node i) (left_with node) below e in
    let l = bind_some (literal_at node.literals i) (λ l. of_one l >>= λ r. Some (witnessed_at l.holds r (witness node r))) fs.0 fs.1 in
    let r = bind_some (of_one l.0) (λ r. Some (witnessed_at l.0.holds r (witness node r))) fs.0 l.2 in
    let is_l = literal_is_sorted node.literals i l.0 h.literals l.1 in
    let is_r = one_sorted l.0.holds l.0.atom r.0 is_l.0 r.1 in
    let are = subst AreFormulas (some_is (witnessed_at l.0.holds r.0 (witness node r.0)) fs.0 r.2) (witnessed_sorted l.0.holds r.0 (new_number (numbers_in_node node)) is_r) in
    subst (Leads types node) (some_is (with_formulas node fs.0 ∷ []) below fs.2)
    (record {
      sorted = (formulas_sorted node fs.0 h are, tt);
      refuted = λ f names real told. renamed fs.0 l.0 r.0 l.1 r.1 r.2 is_l.0 f.0 names real told;
    })
  where
    renamed : (fs : List Term) (l : Literal) (r : Range) → literal_at node.literals i ≡ Some l → of_one l ≡ Some r → some (witnessed_at l.holds r (witness node r)) ≡ Some fs → IsSorted l.atom → IsFalse types (with_formulas node fs) → IsFalse types node
    renamed fs l r is_l is_r is_fs sorted never names real told =
        let out = new_number-new (numbers_in_node node) in
        let out_l = literal_out (new_number (numbers_in_node node)) node.literals i l (apart_in (new_number (numbers_in_node node)) (numbers_in_literals node.literals) (numbers_in_formulas node.pending) out).0 is_l in
        let found = witness_holds names l.holds l.atom r (new_number (numbers_in_node node)) (literal_told names node.literals i l told.literals is_l) sorted out_l is_r in
        let others = with_number names r.word (new_number (numbers_in_node node)) found.number in
        never others (types_stay names r.word (new_number (numbers_in_node node)) found.number types are_closed real)
        (formulas_true others node fs (node_stays names r.word (new_number (numbers_in_node node)) found.number node out told) (subst (AllTrue others) (some_is (witnessed_at l.holds r (witness node r)) fs is_fs) found.holds))

-- ---- fact

member_sorted : (types : List Entry) (t g : Term) → AreClosed types → AreSortedEntries types → IsSorted t → membership types t ≡ Some g → IsFormula g
member_sorted types (Of (in_type n) (part v no_parts)) g are_closed entries h e =
    let x = bind_some (entry_for types n) (λ x. Some (unfolded_at x n v)) g e in
    let p = entry_sorted types n x.0 are_closed entries x.1 in
    let is_v : HasSort v (sort_in x.0.name) = (h.1, h.0 ∙ sym (ap sort_in p.0.is_name)) in
    let put = substituted_sorted x.0.formula x.0.name v p.1.0 is_v in
    subst IsFormula (some_is (unfolded_at x.0 n v) g x.2) (exactly_sorted (one (in_type n) v) (substituted x.0.formula x.0.name v) (h, refl) (put.0, put.1 ∙ p.1.1))
member_sorted types t g are_closed entries h e = absurd cc

membership_by_sorted : (types : List Entry) (ts : List Term) (g : Term) → AreClosed types → AreSortedEntries types → AreSortedTerms ts → membership_by types ts ≡ Some g → IsFormula g
membership_by_sorted types [] g are_closed entries h e = absurd cc
membership_by_sorted types (t ∷ []) g are_closed entries h e = member_sorted types t g are_closed entries h.0 e
membership_by_sorted types (t ∷ u ∷ us) g are_closed entries h e = absurd cc

membership_by_holds : (names : Names) (types : List Entry) (ts : List Term) (g : Term) → AreUnfolded names types → AreClosed types → AreSortedEntries types → AreSortedTerms ts → membership_by types ts ≡ Some g → (sense names g).truth ≡ true
membership_by_holds names types [] g real are_closed entries h e = absurd cc
membership_by_holds names types (t ∷ []) g real are_closed entries h e = membership_holds names types t g real are_closed entries h.0 e
membership_by_holds names types (t ∷ u ∷ us) g real are_closed entries h e = absurd cc

fact_among_sorted : (types : List Entry) (n : ℕ) (ts : List Term) (g : Term) (b : Bool) → AreClosed types → AreSortedEntries types → AreSortedTerms ts → cond b (membership_by types ts) (fact_of n ts) ≡ Some g → IsFormula g
fact_among_sorted types n ts g true are_closed entries h e = membership_by_sorted types ts g are_closed entries h e
fact_among_sorted types n ts g false are_closed entries h e = fact_sorted n ts g h e

fact_among_holds : (names : Names) (types : List Entry) (n : ℕ) (ts : List Term) (g : Term) (b : Bool) → AreUnfolded names types → AreClosed types → AreSortedEntries types → AreSortedTerms ts → cond b (membership_by types ts) (fact_of n ts) ≡ Some g → (sense names g).truth ≡ true
fact_among_holds names types n ts g true real are_closed entries h e = membership_by_holds names types ts g real are_closed entries h e
fact_among_holds names types n ts g false real are_closed entries h e = facts_are_true n ts g e names

fact_leads : (types : List Entry) (node : Node) (n : ℕ) (ts : List Term) (below : List Node) → AreClosed types → AreSortedEntries types → IsSortedNode node → AreSortedTerms ts → (fact_among types n ts >>= left_with_one node) ≡ Some below → Leads types node below
fact_leads types node n ts below are_closed entries h g e =
    let f = bind_some (fact_among types n ts) (left_with_one node) below e in
    adding_one types node f.0 below f.2 h (fact_among_sorted types n ts f.0 (eqb n 16) are_closed entries g f.1) (λ names real told. fact_among_holds names types n ts f.0 (eqb n 16) real are_closed entries g f.1)

-- ---- prod

prod_leads : (types : List Entry) (node : Node) (i j : ℕ) (p : Term) (below : List Node) → IsSortedNode node → IsSorted p → (product_stated node.literals i j p >>= left_with_one node) ≡ Some below → Leads types node below
prod_leads types node i j p below h g e =
    let f = bind_some (product_stated node.literals i j p) (left_with_one node) below e in
    adding_one types node f.0 below f.2 h (product_sorted node.literals i j p f.0 g f.1) (λ names real told. product_holds names node.literals i j p f.0 told.literals f.1)

-- ---- each step

pub step_leads : (types : List Entry) (node : Node) (s : Written) (below : List Node) → AreClosed types → AreSortedEntries types → IsSortedNode node → IsSortedStep s → after types node s ≡ Some below → Leads types node below
step_leads types node (split f) below are_closed entries h g e = split_leads types node f below h g e
step_leads types node shut below are_closed entries h g e = shut_leads types node below e
step_leads types node (chain ts) below are_closed entries h g e = chain_leads types node ts below h g e
step_leads types node (clash i other) below are_closed entries h g e = clash_leads types node i other below e
step_leads types node (sum_of pairs) below are_closed entries h g e = sum_leads types node pairs below e
step_leads types node (cut d pairs) below are_closed entries h g e = cut_leads types node d pairs below h e
step_leads types node (inst i t) below are_closed entries h g e = inst_leads types node i t below h g e
step_leads types node (wit i) below are_closed entries h g e = wit_leads types node i below are_closed h e
step_leads types node (fact n ts) below are_closed entries h g e = fact_leads types node n ts below are_closed entries h g e
step_leads types node (prod i j p) below are_closed entries h g e = prod_leads types node i j p below h g e
