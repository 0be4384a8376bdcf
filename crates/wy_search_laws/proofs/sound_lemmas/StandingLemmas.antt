-- What stands in a node of sorted formulas is sorted.
use Rattle.std.proofs.Common.{◌≡◌, ℕ, zero, suc, List, [], ◌∷◌, ◌++◌, map, Bool, true, false, cond, ◌||◌, refl}
use Rattle.wy_search_bounds.specs.wy_term.Term as term
use Rattle.wy_search_bounds.specs.wy_term.Term.{Symbol, Term, Of, Parts, no_parts, part, leaf}
use Rattle.wy_search_bounds.specs.wy_term.Sorts.{formula_sort}
use Rattle.wy_search_bounds.specs.wy_term.Scope.{free_names}
use Rattle.wy_search_bounds.specs.wy_term_subst.sorted.Sorted.{Places, these, each, places, behind, IsSorted, AreSorted}
use Rattle.wy_search_bounds.specs.wy_check_spec.judge.Node.{Literal, Node, has_formula}
use Rattle.wy_search_bounds.specs.wy_check_spec.valid.Ranges.{is_int}
use Rattle.wy_search_bounds.specs.wy_search_spec.Standing.{Standing, bound_by, part_at, all_parts, below, standing_in, standing_in_parts, have_common, with_unbound, in_literals, in_formulas, standing}
use Rattle.wy_search_bounds.specs.wy_search_spec.Splitting.{joined_atoms, atoms_in, atoms_in_parts, atoms_of}
use Rattle.wy_search_bounds.specs.wy_search_spec.Expansion.{among, only_int}
use Rattle.wy_search_bounds.specs.wy_check_laws.sound.Sortedness.{AreFormulas, AreSortedTerms}
use Rattle.wy_search_bounds.proofs.wy_check_laws_proofs.sound_lemmas.MadeLemmas.{IsFormula}
use Rattle.wy_search_bounds.proofs.wy_check_laws_proofs.sound_lemmas.NodeLemmas.{AreSortedLiterals, IsSortedNode}

-- ---- terms that stand in a term

abbrev AreSortedThere : List Standing → Type 0
AreSortedThere [] = Unit {0}
AreSortedThere (s ∷ ss) = IsSorted s.what × AreSortedThere ss

abbrev AreSortedParts : List (List Standing) → Type 0
AreSortedParts [] = Unit {0}
AreSortedParts (p ∷ ps) = AreSortedThere p × AreSortedParts ps

there_both : (xs ys : List Standing) → AreSortedThere xs → AreSortedThere ys → AreSortedThere (xs ++ ys)
there_both [] ys h g = g
there_both (x ∷ xs) ys h g = (h.0, there_both xs ys h.1 g)

there_at : (ps : List (List Standing)) (i : ℕ) → AreSortedParts ps → AreSortedThere (part_at ps i)
there_at [] i h = tt
there_at (p ∷ ps) zero h = h.0
there_at (p ∷ ps) (suc i) h = there_at ps i h.1

there_all : (ps : List (List Standing)) → AreSortedParts ps → AreSortedThere (all_parts ps)
there_all [] h = tt
there_all (p ∷ ps) h = there_both p (all_parts ps) h.0 (there_all ps h.1)

there_bound : (x : Term) (ss : List Standing) → AreSortedThere ss → AreSortedThere (map (bound_by x) ss)
there_bound x [] h = tt
there_bound x (s ∷ ss) h = (h.0, there_bound x ss h.1)

there_range : (x : Term) (ps : List (List Standing)) → AreSortedParts ps → AreSortedThere (part_at ps 0 ++ (part_at ps 1 ++ map (bound_by x) (part_at ps 2)))
there_range x ps h = there_both (part_at ps 0) (part_at ps 1 ++ map (bound_by x) (part_at ps 2)) (there_at ps 0 h) (there_both (part_at ps 1) (map (bound_by x) (part_at ps 2)) (there_at ps 1 h) (there_bound x (part_at ps 2) (there_at ps 2 h)))

there_below : (symbol : Symbol) (ps : List (List Standing)) → AreSortedParts ps → AreSortedThere (below symbol ps)
there_below (term.every w n) ps h = there_range (leaf (term.int_name w n)) ps h
there_below (term.exists w n) ps h = there_range (leaf (term.int_name w n)) ps h
there_below symbol ps h = there_all ps h

mutual
  standing_sorted : (t : Term) → IsSorted t → AreSortedThere (standing_in t)
  standing_sorted (Of symbol ps) h = (h, there_below symbol (standing_in_parts ps) (parts_sorted ps (places symbol) h))

  parts_sorted : (ps : Parts) (wanted : Places) → AreSorted ps wanted → AreSortedParts (standing_in_parts ps)
  parts_sorted no_parts wanted h = tt
  parts_sorted (part t ps) wanted h = (standing_sorted t h.1, parts_sorted ps (behind wanted) h.2)

-- ---- terms that stand in a node

literals_there : (ls : List Literal) → AreSortedLiterals ls → AreSortedThere (in_literals ls)
literals_there [] h = tt
literals_there (l ∷ ls) h = there_both (standing_in l.atom) (in_literals ls) (standing_sorted l.atom h.0.0) (literals_there ls h.1)

formulas_there : (fs : List Term) → AreFormulas fs → AreSortedThere (in_formulas fs)
formulas_there [] h = tt
formulas_there (f ∷ fs) h = there_both (standing_in f) (in_formulas fs) (standing_sorted f h.0.0) (formulas_there fs h.1)

terms_last : (ts : List Term) (t : Term) → AreSortedTerms ts → IsSorted t → AreSortedTerms (ts ++ t ∷ [])
terms_last [] t h g = (g, tt)
terms_last (u ∷ us) t h g = (h.0, terms_last us t h.1 g)

unbound_sorted : (done : List Term) (ss : List Standing) → AreSortedTerms done → AreSortedThere ss → AreSortedTerms (with_unbound done ss)
unbound_sorted done [] h g = h
unbound_sorted done (s ∷ ss) h g = unbound_sorted (cond (has_formula done s.what || have_common (free_names s.what) s.around) done (done ++ s.what ∷ [])) ss (by (has_formula done s.what || have_common (free_names s.what) s.around)) g.1
  where
    by : (b : Bool) → AreSortedTerms (cond b done (done ++ s.what ∷ []))
    by true = h
    by false = terms_last done s.what h g.0

pub node_sorted : (node : Node) → IsSortedNode node → AreSortedTerms (standing node)
node_sorted node h = unbound_sorted [] (in_literals node.literals ++ in_formulas node.pending) tt (there_both (in_literals node.literals) (in_formulas node.pending) (literals_there node.literals h.literals) (formulas_there node.pending h.pending))

-- ---- index terms

among_sorted : (ts us : List Term) → AreSortedTerms ts → AreSortedTerms (among ts us)
among_sorted [] us h = tt
among_sorted (t ∷ ts) us h = by (has_formula us t) (among_sorted ts us h.1)
  where
    by : (b : Bool) → AreSortedTerms (among ts us) → AreSortedTerms (cond b (t ∷ among ts us) (among ts us))
    by true rest = (h.0, rest)
    by false rest = rest

-- Int terms of sorted parts
abbrev pub AreIndices : List Term → Type 0
AreIndices [] = Unit {0}
AreIndices (t ∷ ts) = (IsSorted t × (is_int t ≡ true)) × AreIndices ts

ints_sorted : (ts : List Term) → AreSortedTerms ts → AreIndices (only_int ts)
ints_sorted [] h = tt
ints_sorted (t ∷ ts) h = by (is_int t) refl (ints_sorted ts h.1)
  where
    by : (b : Bool) → is_int t ≡ b → AreIndices (only_int ts) → AreIndices (cond b (t ∷ only_int ts) (only_int ts))
    by true e rest = ((h.0, e), rest)
    by false e rest = rest

pub indices_sorted : (node : Node) (us : List Term) → IsSortedNode node → AreIndices (only_int (among (standing node) us))
indices_sorted node us h = ints_sorted (among (standing node) us) (among_sorted (standing node) us (node_sorted node h))

-- ---- atoms

formulas_both : (fs gs : List Term) → AreFormulas fs → AreFormulas gs → AreFormulas (fs ++ gs)
formulas_both [] gs h g = g
formulas_both (f ∷ fs) gs h g = (h.0, formulas_both fs gs h.1 g)

mutual
  atoms_sorted : (f : Term) → IsFormula f → AreFormulas (atoms_in f)
  atoms_sorted (Of term.denied (part f no_parts)) h = formulas_both (atoms_in f) [] (atoms_sorted f (h.0.1, h.0.0)) tt
  atoms_sorted (Of term.denied no_parts) h = absurd h.0
  atoms_sorted (Of term.denied (part f (part g ps))) h = absurd h.0.2.0
  atoms_sorted (Of term.all_of ps) h = each_sorted ps h.0
  atoms_sorted (Of term.any_of ps) h = each_sorted ps h.0
  atoms_sorted f h = (h, tt)

  each_sorted : (ps : Parts) → AreSorted ps (each formula_sort) → AreFormulas (joined_atoms (atoms_in_parts ps))
  each_sorted no_parts h = tt
  each_sorted (part f ps) h = formulas_both (atoms_in f) (joined_atoms (atoms_in_parts ps)) (atoms_sorted f (h.1, h.0)) (each_sorted ps h.2)

pub atoms_are : (f : Term) → IsFormula f → AreFormulas (atoms_in f)
atoms_are f h = atoms_sorted f h

pub all_atoms : (fs : List Term) → AreFormulas fs → AreFormulas (atoms_of fs)
all_atoms [] h = tt
all_atoms (f ∷ fs) h = formulas_both (atoms_in f) (atoms_of fs) (atoms_sorted f h.0) (all_atoms fs h.1)
