-- A condition that the search finds is true.
use Rattle.std.proofs.Common.{◌≡◌, ◌∙◌, ℕ, zero, suc, List, [], ◌∷◌, Bool, true, false, cond, eqb, ◌||◌, Option, Some, None, refl, sym, ap, subst}
use Rattle.std.specs.Prelude.{nat_lt}
use Rattle.wy_lemmas.proofs.Choices.{true_of as not_false}
use Rattle.wy_search_bounds.specs.wy_term.Term.{Term}
use Rattle.wy_search_bounds.specs.wy_term.Meaning.{Names, sense}
use Rattle.wy_search_bounds.specs.wy_term.Condition.{Entry, AreUnfolded}
use Rattle.wy_search_bounds.specs.wy_term.Unfolding.{AreClosed}
use Rattle.wy_search_bounds.specs.wy_check_spec.judge.Node.{Literal, Node, added, denied_one, first_node}
use Rattle.wy_search_bounds.specs.wy_check_spec.judge.Told.{IsTrueNode}
use Rattle.wy_search_bounds.specs.wy_check_spec.judge.Judgement.{of_atom, judged}
use Rattle.wy_search_bounds.proofs.wy_check_spec_proofs.judge_lemmas.TruthLemmas.{adds_truly, begins_truly}
use Rattle.wy_search_bounds.specs.wy_check_spec.valid.Literals.{is_shut}
use Rattle.wy_search_bounds.specs.wy_search_spec.Classes.{clashes}
use Rattle.wy_search_bounds.specs.wy_search_spec.Bounds.{Ending, refuted, consistent, crowded, wide, ending}
use Rattle.wy_search_bounds.specs.wy_search_spec.Splitting.{atoms_in, is_open, is_forced, first_forced, first_undecided, first_open, atoms_of, or_else, next_atom}
use Rattle.wy_search_bounds.specs.wy_search_spec.Expansion.{Spot, with_witnesses, index_terms, with_instances, with_facts, with_products, with_node, expanded}
use Rattle.wy_search_bounds.specs.wy_search_spec.Tree.{Why, Next, closed, stays_open, splits, goes_on, why_open, is_more, on_expansion, on_atom, by_ending, next, Verdict, found, spent, follows, searched, first_spot}
use Rattle.wy_search_bounds.specs.wy_check_laws.sound.Sortedness.{AreFormulas, AreSortedEntries}
use Rattle.wy_search_bounds.proofs.wy_check_laws_proofs.sound_lemmas.Basics.{or_cases}
use Rattle.wy_search_bounds.proofs.wy_check_laws_proofs.sound_lemmas.MadeLemmas.{IsFormula}
use Rattle.wy_search_bounds.proofs.wy_check_laws_proofs.sound_lemmas.NodeLemmas.{AreSortedLiterals, IsSortedNode, added_sorted, denied_sorted, first_sorted}
use Rattle.wy_search_bounds.proofs.wy_check_laws_proofs.sound_lemmas.StepLemmas.{IsFalse, shut_never}
use Rattle.wy_search_laws.specs.sound.Closed.{AreLiterals}
use Rattle.wy_search_laws.specs.sound.Found.{FoundImpliesTrue}
use Rattle.wy_search_laws.proofs.sound_lemmas.ClashLemmas.{clashes_never}
use Rattle.wy_search_laws.proofs.sound_lemmas.ReplacedLemmas.{refuting_never}
use Rattle.wy_search_laws.proofs.sound_lemmas.StandingLemmas.{indices_sorted, atoms_are, all_atoms}
use Rattle.wy_search_laws.proofs.sound_lemmas.FollowingLemmas.{Follows, follows_self, follows_on, instances, facts_follow}
use Rattle.wy_search_laws.proofs.sound_lemmas.ProductsLemmas.{products_follow}
use Rattle.wy_search_laws.proofs.sound_lemmas.WitnessLemmas.{Refines, witnesses_refine}

are_literals : (ls : List Literal) → AreSortedLiterals ls → AreLiterals ls
are_literals [] h = tt
are_literals (l ∷ ls) h = (h.0, are_literals ls h.1)

-- ---- a round

module _ (types : List Entry) (are_closed : AreClosed types) (entries : AreSortedEntries types) where
  -- what a spot with witnesses leads to
  round_follows : (q : Spot) → IsSortedNode q.node → Follows types q.node (with_products (with_facts types (with_instances q.node q.node.literals (index_terms q))))
  round_follows q h =
      let one = instances types q.node q.node q.node.literals (index_terms q) (λ names real told. told.literals) h.literals (indices_sorted q.node _ h) (follows_self types q.node h) in
      let two = facts_follow types (with_instances q.node q.node.literals (index_terms q)) are_closed entries one.sorted in
      let three = products_follow types (with_facts types (with_instances q.node q.node.literals (index_terms q))) two.sorted in
      follows_on types q.node _ _ (follows_on types q.node _ _ one two) three

  follows_refine : (old node : Node) → Follows types old node → Refines types old node
  follows_refine old node h = record { sorted = h.sorted; refuted = λ f names real told. f names real (h.holds names real told) }

  expanded_refine : (p : Spot) → IsSortedNode p.node → Refines types p.node (expanded types p).node
  expanded_refine p h =
      let one = witnesses_refine types p are_closed entries h in
      let two = follows_refine _ _ (round_follows (with_witnesses p p.node.literals) one.sorted) in
      record { sorted = two.sorted; refuted = λ f. one.refuted (two.refuted f) }

  -- ---- splitting

  forced_is : (node : Node) (ts : List Term) (a : Term) → AreFormulas ts → first_forced node ts ≡ Some a → IsFormula a
  forced_is node [] a h e = absurd cc
  forced_is node (t ∷ ts) a h e = by (is_forced node t) e (λ f. forced_is node ts a h.1 f)
    where
      by : (b : Bool) → cond b (Some t) (first_forced node ts) ≡ Some a → (first_forced node ts ≡ Some a → IsFormula a) → IsFormula a
      by true f rest = let is : t ≡ a = cc in subst IsFormula is h.0
      by false f rest = rest f

  undecided_is : (node : Node) (ts : List Term) (a : Term) → AreFormulas ts → first_undecided node ts ≡ Some a → IsFormula a
  undecided_is node [] a h e = absurd cc
  undecided_is node (t ∷ ts) a h e = by (is_open (of_atom node.literals t)) e (λ f. undecided_is node ts a h.1 f)
    where
      by : (b : Bool) → cond b (Some t) (first_undecided node ts) ≡ Some a → (first_undecided node ts ≡ Some a → IsFormula a) → IsFormula a
      by true f rest = let is : t ≡ a = cc in subst IsFormula is h.0
      by false f rest = rest f

  open_is : (node : Node) (fs : List Term) (a : Term) → AreFormulas fs → first_open node fs ≡ Some a → IsFormula a
  open_is node [] a h e = absurd cc
  open_is node (f ∷ fs) a h e = by (is_open (judged node.literals f)) e (λ g. open_is node fs a h.1 g)
    where
      by : (b : Bool) → cond b (first_undecided node (atoms_in f)) (first_open node fs) ≡ Some a → (first_open node fs ≡ Some a → IsFormula a) → IsFormula a
      by true g rest = undecided_is node (atoms_in f) a (atoms_are f h.0) g
      by false g rest = rest g

  either_is : (o q : Option Term) (a : Term) → (o ≡ Some a → IsFormula a) → (q ≡ Some a → IsFormula a) → or_else o q ≡ Some a → IsFormula a
  either_is None q a f g e = g e
  either_is (Some b) q a f g e = f e

  next_is : (node : Node) (a : Term) → IsSortedNode node → next_atom node ≡ Some a → IsFormula a
  next_is node a h e =
      either_is (first_forced node (atoms_of node.pending)) (first_open node node.pending) a
      (λ f. forced_is node (atoms_of node.pending) a (all_atoms node.pending h.pending) f) (λ f. open_is node node.pending a h.pending f) e

  either_way : (node : Node) (a : Term) → IsFalse types (added node a) → IsFalse types (denied_one node a) → IsFalse types node
  either_way node a up down names real told = by (sense names a).truth refl
    where
      by : (b : Bool) → (sense names a).truth ≡ b → ⊥
      by true e = up names real ((adds_truly names node a told).0 e)
      by false e = down names real ((adds_truly names node a told).1 e)

  -- ---- what becomes of a node

  abbrev IsNext : Spot → Next → Type 0
  IsNext p closed = IsFalse types p.node
  IsNext p (stays_open why) = Unit {0}
  IsNext p (splits l r) = IsSortedNode l.node × IsSortedNode r.node × (IsFalse types l.node → IsFalse types r.node → IsFalse types p.node)
  IsNext p (goes_on q) = IsSortedNode q.node × (IsFalse types q.node → IsFalse types p.node)

  expansion_is : (p : Spot) (e : Ending) → IsSortedNode p.node → IsNext p (on_expansion types p e)
  expansion_is p e h = by (nat_lt p.rounds 2) (is_more p.node (expanded types p).node)
    where
      by : (b c : Bool) → IsNext p (cond b (cond c (goes_on (expanded types p)) (stays_open (why_open e))) (stays_open (why_open e)))
      by true true = let r = expanded_refine p h in (r.sorted, r.refuted)
      by true false = tt
      by false c = tt

  atom_is : (p : Spot) (e : Ending) (o : Option Term) → IsSortedNode p.node → next_atom p.node ≡ o → IsNext p (on_atom types p e o)
  atom_is p e None h is = expansion_is p e h
  atom_is p e (Some a) h is =
      let f = next_is p.node a h is in
      (added_sorted p.node a h f, denied_sorted p.node a h f, λ up down. either_way p.node a up down)

  ending_is : (p : Spot) (e : Ending) → IsSortedNode p.node → ending p.node ≡ e → IsNext p (by_ending types p e)
  ending_is p refuted h is = λ names real told. refuting_never names p.node told (are_literals p.node.literals h.literals) is
  ending_is p consistent h is = atom_is p consistent (next_atom p.node) h refl
  ending_is p crowded h is = atom_is p crowded (next_atom p.node) h refl
  ending_is p wide h is = atom_is p wide (next_atom p.node) h refl

  next_sound : (p : Spot) → IsSortedNode p.node → IsNext p (next types p)
  next_sound p h = by (is_shut p.node || clashes p.node) refl
    where
      by : (b : Bool) → (is_shut p.node || clashes p.node) ≡ b → IsNext p (cond b closed (by_ending types p (ending p.node)))
      by true e = λ names real told. or_cases (is_shut p.node) (clashes p.node) ⊥ e (λ g. shut_never names p.node told g) (λ g. clashes_never names p.node told (are_literals p.node.literals h.literals) g)
      by false e = ending_is p (ending p.node) h refl

  -- ---- the walk

  abbrev AreSortedSpots : List Spot → Type 0
  AreSortedSpots [] = Unit {0}
  AreSortedSpots (p ∷ ps) = IsSortedNode p.node × AreSortedSpots ps

  abbrev AreFalse : List Spot → Type 0
  AreFalse [] = Unit {0}
  AreFalse (p ∷ ps) = IsFalse types p.node × AreFalse ps

  followed : (x : Next) (n m : ℕ) (p : Spot) (ps : List Spot) (go : ℕ → List Spot → Option Verdict) → IsNext p x → AreSortedSpots ps → ((k : ℕ) (qs : List Spot) → AreSortedSpots qs → go k qs ≡ Some (found m) → AreFalse qs) → follows x n p ps go ≡ Some (found m) → AreFalse (p ∷ ps)
  followed closed n m p ps go h sorted rest e = (h, rest (suc n) ps sorted e)
  followed (stays_open why) n m p ps go h sorted rest e = absurd cc
  followed (splits l r) n m p ps go h sorted rest e =
      let all = rest n (l ∷ r ∷ ps) (h.0, (h.1, sorted)) e in
      (h.2 all.0 all.1.0, all.1.1)
  followed (goes_on q) n m p ps go h sorted rest e =
      let all = rest n (q ∷ ps) (h.0, sorted) e in
      (h.1 all.0, all.1)

  -- the nodes of a search that finds aren't true
  found_false : (budget turns n m : ℕ) (ps : List Spot) → AreSortedSpots ps → searched types budget turns n ps ≡ Some (found m) → AreFalse ps
  found_false budget zero n m ps sorted e = absurd cc
  found_false budget (suc turns) n m [] sorted e = tt
  found_false budget (suc turns) n m (p ∷ ps) sorted e = by (eqb n budget) e (λ k qs are g. found_false budget turns k m qs are g)
    where
      by : (b : Bool) → cond b (Some spent) (follows (next types p) n p ps (λ k qs. searched types budget turns k qs)) ≡ Some (found m) → ((k : ℕ) (qs : List Spot) → AreSortedSpots qs → searched types budget turns k qs ≡ Some (found m) → AreFalse qs) → AreFalse (p ∷ ps)
      by true f rest = absurd cc
      by false f rest = followed (next types p) n m p ps (λ k qs. searched types budget turns k qs) (next_sound p sorted.0) sorted.1 rest f

pub found_true : FoundImpliesTrue
found_true c budget leaves sorted are_closed verdict names real hyps =
    let never = found_false c.types are_closed sorted.types budget verdict.0 0 leaves (first_spot c ∷ []) (first_sorted c sorted, tt) verdict.1 in
    not_false (sense names c.goal).truth (λ untrue. never.0 names real (begins_truly names c hyps untrue))
