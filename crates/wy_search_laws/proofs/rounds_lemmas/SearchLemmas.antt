-- Where steps close the leaves of a search that finds, they close all its nodes.
use Rattle.std.proofs.Common.{◌≡◌, ◌⊎◌, ℕ, zero, suc, List, [], ◌∷◌, ◌++◌, Bool, true, false, cond, eqb, ◌||◌, Option, Some, None, inl, inr, refl, subst}
use Rattle.std.specs.Prelude.{nat_lt}
use Rattle.wy_search_bounds.specs.wy_facts.Schema.{only_if}
use Rattle.wy_lemmas.proofs.Choices.{or_cases}
use Rattle.wy_search_bounds.specs.wy_term.Term as term
use Rattle.wy_search_bounds.specs.wy_term.Term.{Term, Of, Parts, no_parts, part}
use Rattle.wy_search_bounds.specs.wy_term.Sorts.{formula_sort}
use Rattle.wy_search_bounds.specs.wy_term.Condition.{Entry}
use Rattle.wy_search_bounds.specs.wy_term_subst.sorted.Sorted.{AreSorted, each}
use Rattle.wy_search_bounds.specs.wy_term_text.reread.Folded.{IsFolded, AreFolded}
use Rattle.wy_search_bounds.specs.wy_check_spec.judge.Node.{Literal, Node, is_atom, added, denied_one, first_node}
use Rattle.wy_search_bounds.specs.wy_check_spec.judge.Judgement.{of_atom, judged}
use Rattle.wy_search_bounds.specs.wy_cert.Steps.{split, shut}
use Rattle.wy_search_bounds.specs.wy_check_spec.valid.Literals.{is_shut}
use Rattle.wy_search_bounds.specs.wy_check_spec.valid.Validity.{closed as no_node}
use Rattle.wy_search_bounds.specs.wy_search_spec.Classes.{clashes}
use Rattle.wy_search_bounds.specs.wy_search_spec.Bounds.{Ending, refuted, consistent, crowded, wide, ending}
use Rattle.wy_search_bounds.specs.wy_search_spec.Splitting.{joined_atoms, atoms_in, atoms_in_parts, is_open, is_forced, first_forced, first_undecided, first_open, atoms_of, or_else, next_atom}
use Rattle.wy_search_bounds.specs.wy_search_spec.Expansion.{Spot, expanded}
use Rattle.wy_search_bounds.specs.wy_search_spec.Tree.{Next, closed, stays_open, splits, goes_on, why_open, is_more, on_expansion, on_atom, by_ending, next, Verdict, found, spent, follows, searched, first_spot}
use Rattle.wy_search_bounds.specs.wy_check_laws.sound.Sortedness.{AreFormulas}
use Rattle.wy_search_bounds.proofs.wy_check_laws_proofs.sound_lemmas.MadeLemmas.{IsFormula}
use Rattle.wy_search_bounds.proofs.wy_check_laws_proofs.sound_lemmas.NodeLemmas.{AreSortedLiterals, IsSortedNode, added_sorted, denied_sorted, first_sorted}
use Rattle.wy_search_bounds.proofs.wy_check_laws_proofs.sound_lemmas.StepLemmas.{step_leads}
use Rattle.wy_search_laws.proofs.closing_lemmas.AtLeastLemmas.{shuts_more}
use Rattle.wy_search_laws.proofs.closing_lemmas.NameLemmas.{near_self, near_added, near_denied}
use Rattle.wy_search_laws.proofs.closing_lemmas.Closing.{AreFoldedLiterals, AreFoldedTerms, IsFoldedNode, IsClosableNear, LeadsOn, closed_by, split_by, certificate}
use Rattle.wy_search_laws.proofs.closing_lemmas.FoldedLemmas.{added_folded, denied_folded, first_folded}
use Rattle.wy_search_laws.specs.rounds.Leaves.{AreSortedAtoms, AreFoldedAtoms, AreFoldedFormulas, LeavesClose, FoundIsCertified}
use Rattle.wy_search_laws.proofs.ends_lemmas.AtomLemmas.{next_is_atom}
use Rattle.wy_search_laws.proofs.rounds_lemmas.ExpandedLemmas.{expanded_grows}

-- ---- sorted and folded nodes, in both words

pub sorted_atoms : (ls : List Literal) → AreSortedLiterals ls → AreSortedAtoms ls
sorted_atoms [] h = tt
sorted_atoms (l ∷ ls) h = (h.0, sorted_atoms ls h.1)

pub atoms_sorted : (ls : List Literal) → AreSortedAtoms ls → AreSortedLiterals ls
atoms_sorted [] h = tt
atoms_sorted (l ∷ ls) h = (h.0, atoms_sorted ls h.1)

pub folded_atoms : (ls : List Literal) → AreFoldedLiterals ls → AreFoldedAtoms ls
folded_atoms [] h = tt
folded_atoms (l ∷ ls) h = (h.0, folded_atoms ls h.1)

pub atoms_folded : (ls : List Literal) → AreFoldedAtoms ls → AreFoldedLiterals ls
atoms_folded [] h = tt
atoms_folded (l ∷ ls) h = (h.0, atoms_folded ls h.1)

pub folded_formulas : (fs : List Term) → AreFoldedTerms fs → AreFoldedFormulas fs
folded_formulas [] h = tt
folded_formulas (f ∷ fs) h = (h.0, folded_formulas fs h.1)

pub formulas_folded : (fs : List Term) → AreFoldedFormulas fs → AreFoldedTerms fs
formulas_folded [] h = tt
formulas_folded (f ∷ fs) h = (h.0, formulas_folded fs h.1)

-- ---- atoms of pending formulas

-- a formula of sorted parts that is folded
abbrev pub IsFit : Term → Type 0
IsFit f = IsFormula f × IsFolded f

abbrev AreFit : List Term → Type 0
AreFit [] = Unit {0}
AreFit (f ∷ fs) = IsFit f × AreFit fs

fit_both : (fs gs : List Term) → AreFit fs → AreFit gs → AreFit (fs ++ gs)
fit_both [] gs h g = g
fit_both (f ∷ fs) gs h g = (h.0, fit_both fs gs h.1 g)

mutual
  atoms_fit : (f : Term) → IsFormula f → IsFolded f → AreFit (atoms_in f)
  atoms_fit (Of term.denied (part f no_parts)) h g = fit_both (atoms_in f) [] (atoms_fit f (h.0.1, h.0.0) g.1.0) tt
  atoms_fit (Of term.denied no_parts) h g = absurd h.0
  atoms_fit (Of term.denied (part f (part k ps))) h g = absurd h.0.2.0
  atoms_fit (Of term.all_of ps) h g = each_fit ps h.0 g.1
  atoms_fit (Of term.any_of ps) h g = each_fit ps h.0 g.1
  atoms_fit f h g = ((h, g), tt)

  each_fit : (ps : Parts) → AreSorted ps (each formula_sort) → AreFolded ps → AreFit (joined_atoms (atoms_in_parts ps))
  each_fit no_parts h g = tt
  each_fit (part f ps) h g = fit_both (atoms_in f) (joined_atoms (atoms_in_parts ps)) (atoms_fit f (h.1, h.0) g.0) (each_fit ps h.2 g.1)

all_fit : (fs : List Term) → AreFormulas fs → AreFoldedTerms fs → AreFit (atoms_of fs)
all_fit [] h g = tt
all_fit (f ∷ fs) h g = fit_both (atoms_in f) (atoms_of fs) (atoms_fit f h.0 g.0) (all_fit fs h.1 g.1)

forced_fit : (node : Node) (ts : List Term) (a : Term) → AreFit ts → first_forced node ts ≡ Some a → IsFit a
forced_fit node [] a h e = absurd cc
forced_fit node (t ∷ ts) a h e = by (is_forced node t) e (λ f. forced_fit node ts a h.1 f)
  where
    by : (b : Bool) → cond b (Some t) (first_forced node ts) ≡ Some a → (first_forced node ts ≡ Some a → IsFit a) → IsFit a
    by true f rest = let is : t ≡ a = cc in subst IsFit is h.0
    by false f rest = rest f

undecided_fit : (node : Node) (ts : List Term) (a : Term) → AreFit ts → first_undecided node ts ≡ Some a → IsFit a
undecided_fit node [] a h e = absurd cc
undecided_fit node (t ∷ ts) a h e = by (is_open (of_atom node.literals t)) e (λ f. undecided_fit node ts a h.1 f)
  where
    by : (b : Bool) → cond b (Some t) (first_undecided node ts) ≡ Some a → (first_undecided node ts ≡ Some a → IsFit a) → IsFit a
    by true f rest = let is : t ≡ a = cc in subst IsFit is h.0
    by false f rest = rest f

open_fit : (node : Node) (fs : List Term) (a : Term) → AreFormulas fs → AreFoldedTerms fs → first_open node fs ≡ Some a → IsFit a
open_fit node [] a h g e = absurd cc
open_fit node (f ∷ fs) a h g e = by (is_open (judged node.literals f)) e (λ k. open_fit node fs a h.1 g.1 k)
  where
    by : (b : Bool) → cond b (first_undecided node (atoms_in f)) (first_open node fs) ≡ Some a → (first_open node fs ≡ Some a → IsFit a) → IsFit a
    by true k rest = undecided_fit node (atoms_in f) a (atoms_fit f h.0 g.0) k
    by false k rest = rest k

either_fit : (o q : Option Term) (a : Term) → (o ≡ Some a → IsFit a) → (q ≡ Some a → IsFit a) → or_else o q ≡ Some a → IsFit a
either_fit None q a f g e = g e
either_fit (Some b) q a f g e = f e

pub next_fit : (node : Node) (a : Term) → IsSortedNode node → IsFoldedNode node → next_atom node ≡ Some a → IsFit a
next_fit node a h g e =
    either_fit (first_forced node (atoms_of node.pending)) (first_open node node.pending) a
    (λ f. forced_fit node (atoms_of node.pending) a (all_fit node.pending h.pending g.pending) f) (λ f. open_fit node node.pending a h.pending g.pending f) e

-- ---- nodes that are closed

shut_closes : (types : List Entry) (node : Node) → is_shut node ≡ true → IsClosableNear types node
shut_closes types node e more sorted near = closed_by types more shut (only (is_shut more) (shuts_more node more near.at_least e)) tt
  where
    only : (b : Bool) → b ≡ true → only_if b no_node ≡ no_node
    only true f = refl
    only false f = absurd cc

split_closes : (types : List Entry) (node : Node) (a : Term) → IsFormula a → is_atom a ≡ true → IsClosableNear types (added node a) → IsClosableNear types (denied_one node a) → IsClosableNear types node
split_closes types node a is atom up down more sorted near =
    split_by types more (added more a) (denied_one more a) (split a) (only (is_atom a) atom) is (up (added more a) (added_sorted more a sorted is) (near_added node more a near))
    (down (denied_one more a) (denied_sorted more a sorted is) (near_denied node more a near))
  where
    only : (b : Bool) → b ≡ true → only_if b (Some (added more a ∷ denied_one more a ∷ [])) ≡ Some (added more a ∷ denied_one more a ∷ [])
    only true f = refl
    only false f = absurd cc

-- ---- what becomes of a node

module _ (leaves : LeavesClose) (types : List Entry) (leads_on : LeadsOn types) where
  record IsGood (p : Spot) : Type 0 where
    sorted : IsSortedNode p.node
    folded : IsFoldedNode p.node

  leaf_closes : (p : Spot) → IsGood p → (clashes p.node ≡ true) ⊎ (ending p.node ≡ refuted) → IsClosableNear types p.node
  leaf_closes p h e more sorted near =
      let t = leaves types p.node (sorted_atoms p.node.literals h.sorted.literals, h.sorted.pending) (folded_atoms p.node.literals h.folded.literals, folded_formulas p.node.pending h.folded.pending) e more (sorted_atoms more.literals sorted.literals, sorted.pending) near.at_least in
      record { steps = t.0; closes = t.1; sorted = t.2 }

  abbrev IsNext : Spot → Next → Type 0
  IsNext p closed = IsClosableNear types p.node
  IsNext p (stays_open why) = Unit {0}
  IsNext p (splits l r) = IsGood l × IsGood r × (IsClosableNear types l.node → IsClosableNear types r.node → IsClosableNear types p.node)
  IsNext p (goes_on q) = IsGood q × (IsClosableNear types q.node → IsClosableNear types p.node)

  expansion_is : (p : Spot) (e : Ending) → IsGood p → IsNext p (on_expansion types p e)
  expansion_is p e h = by (nat_lt p.rounds 2) (is_more p.node (expanded types p).node)
    where
      by : (b c : Bool) → IsNext p (cond b (cond c (goes_on (expanded types p)) (stays_open (why_open e))) (stays_open (why_open e)))
      by true true =
          let g = expanded_grows types p leads_on h.sorted h.folded in
          (record { sorted = g.sorted; folded = g.folded }, g.back)
      by true false = tt
      by false c = tt

  atom_is : (p : Spot) (e : Ending) (o : Option Term) → IsGood p → next_atom p.node ≡ o → IsNext p (on_atom types p e o)
  atom_is p e None h a = expansion_is p e h
  atom_is p e (Some a) h same =
      let fit = next_fit p.node a h.sorted h.folded same in (
        record { sorted = added_sorted p.node a h.sorted fit.0; folded = added_folded p.node a h.folded fit.1 },
        record { sorted = denied_sorted p.node a h.sorted fit.0; folded = denied_folded p.node a h.folded fit.1 },
        λ l r. split_closes types p.node a fit.0 (next_is_atom p.node a h.sorted.pending same) l r,
      )

  ending_is : (p : Spot) (e : Ending) → IsGood p → ending p.node ≡ e → IsNext p (by_ending types p e)
  ending_is p refuted h same = leaf_closes p h (inr same)
  ending_is p consistent h same = atom_is p consistent (next_atom p.node) h refl
  ending_is p crowded h same = atom_is p crowded (next_atom p.node) h refl
  ending_is p wide h same = atom_is p wide (next_atom p.node) h refl

  next_is : (p : Spot) → IsGood p → IsNext p (next types p)
  next_is p h = by (is_shut p.node || clashes p.node) refl
    where
      closes : (is_shut p.node ≡ true) ⊎ (clashes p.node ≡ true) → IsClosableNear types p.node
      closes (inl e) = shut_closes types p.node e
      closes (inr e) = leaf_closes p h (inl e)

      by : (b : Bool) → (is_shut p.node || clashes p.node) ≡ b → IsNext p (cond b closed (by_ending types p (ending p.node)))
      by true e = closes (or_cases (is_shut p.node) (clashes p.node) e)
      by false e = ending_is p (ending p.node) h refl

  -- ---- the walk

  abbrev AreGood : List Spot → Type 0
  AreGood [] = Unit {0}
  AreGood (p ∷ ps) = IsGood p × AreGood ps

  abbrev AreClosable : List Spot → Type 0
  AreClosable [] = Unit {0}
  AreClosable (p ∷ ps) = IsClosableNear types p.node × AreClosable ps

  followed : (x : Next) (n m : ℕ) (p : Spot) (ps : List Spot) (go : ℕ → List Spot → Option Verdict) → IsNext p x → AreGood ps → ((k : ℕ) (qs : List Spot) → AreGood qs → go k qs ≡ Some (found m) → AreClosable qs) → follows x n p ps go ≡ Some (found m) → AreClosable (p ∷ ps)
  followed closed n m p ps go h good rest e = (h, rest (suc n) ps good e)
  followed (stays_open why) n m p ps go h good rest e = absurd cc
  followed (splits l r) n m p ps go h good rest e =
      let all = rest n (l ∷ r ∷ ps) (h.0, (h.1, good)) e in
      (h.2 all.0 all.1.0, all.1.1)
  followed (goes_on q) n m p ps go h good rest e =
      let all = rest n (q ∷ ps) (h.0, good) e in
      (h.1 all.0, all.1)

  -- the nodes of a search that finds can be closed
  found_closable : (budget turns n m : ℕ) (ps : List Spot) → AreGood ps → searched types budget turns n ps ≡ Some (found m) → AreClosable ps
  found_closable budget zero n m ps good e = absurd cc
  found_closable budget (suc turns) n m [] good e = tt
  found_closable budget (suc turns) n m (p ∷ ps) good e = by (eqb n budget) e (λ k qs are g. found_closable budget turns k m qs are g)
    where
      by : (b : Bool) → cond b (Some spent) (follows (next types p) n p ps (λ k qs. searched types budget turns k qs)) ≡ Some (found m) → ((k : ℕ) (qs : List Spot) → AreGood qs → searched types budget turns k qs ≡ Some (found m) → AreClosable qs) → AreClosable (p ∷ ps)
      by true f rest = absurd cc
      by false f rest = followed (next types p) n m p ps (λ k qs. searched types budget turns k qs) (next_is p good.0) good.1 rest f

pub found_certified : LeavesClose → FoundIsCertified
found_certified leaves c budget found_leaves sorted are_closed folded verdict =
    let first = first_sorted c sorted in
    let all = found_closable leaves c.types (λ node s below h g e. (step_leads c.types node s below are_closed sorted.types h g e).sorted) budget verdict.0 0 found_leaves (first_spot c ∷ []) (record { sorted = first; folded = first_folded c (formulas_folded c.hyps folded.0) folded.1 }, tt) verdict.1 in
    certificate c (all.0 (first_node c) first (near_self (first_node c)))
