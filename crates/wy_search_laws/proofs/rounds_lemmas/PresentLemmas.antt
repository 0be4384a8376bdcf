-- What is so of the parts of terms is so of all that stands in a node.
use Rattle.std.proofs.Common.{◌≡◌, ℕ, zero, suc, List, [], ◌∷◌, ◌++◌, map, Bool, true, false, cond, ◌||◌, refl}
use Rattle.wy_search_bounds.specs.wy_term.Term as term
use Rattle.wy_search_bounds.specs.wy_term.Term.{Symbol, Term, Of, Parts, no_parts, part, leaf}
use Rattle.wy_search_bounds.specs.wy_term.Scope.{free_names}
use Rattle.wy_search_bounds.specs.wy_term_subst.sorted.Sorted.{Places, behind, places, IsSorted, AreSorted}
use Rattle.wy_search_bounds.specs.wy_term_text.reread.Folded.{IsFolded, AreFolded}
use Rattle.wy_search_bounds.specs.wy_check_spec.judge.Node.{Literal, Node, has_formula}
use Rattle.wy_search_bounds.specs.wy_check_spec.valid.Ranges.{is_int}
use Rattle.wy_search_bounds.specs.wy_search_spec.Standing.{Standing, bound_by, part_at, all_parts, below, standing_in, standing_in_parts, have_common, with_unbound, in_literals, in_formulas, standing}
use Rattle.wy_search_bounds.specs.wy_search_spec.Expansion.{among, only_int}
use Rattle.wy_search_bounds.specs.wy_check_laws.sound.Sortedness.{AreFormulas, AreSortedTerms}
use Rattle.wy_search_bounds.proofs.wy_check_laws_proofs.sound_lemmas.NodeLemmas.{AreSortedLiterals, IsSortedNode}
use Rattle.wy_search_laws.proofs.closing_lemmas.Closing.{AreFoldedLiterals, AreFoldedTerms, IsFoldedNode}

abbrev AllParts : (Term → Type 0) → Parts → Type 0
AllParts P no_parts = Unit {0}
AllParts P (part t ps) = P t × AllParts P ps

abbrev AllTerms : (Term → Type 0) → List Term → Type 0
AllTerms P [] = Unit {0}
AllTerms P (t ∷ ts) = P t × AllTerms P ts

abbrev AllThere : (Term → Type 0) → List Standing → Type 0
AllThere P [] = Unit {0}
AllThere P (s ∷ ss) = P s.what × AllThere P ss

abbrev AllLists : (Term → Type 0) → List (List Standing) → Type 0
AllLists P [] = Unit {0}
AllLists P (p ∷ ps) = AllThere P p × AllLists P ps

abbrev AllAtoms : (Term → Type 0) → List Literal → Type 0
AllAtoms P [] = Unit {0}
AllAtoms P (l ∷ ls) = P l.atom × AllAtoms P ls

module _ (P : Term → Type 0) (in_parts : (symbol : Symbol) (ps : Parts) → P (Of symbol ps) → AllParts P ps) where
  there_both : (xs ys : List Standing) → AllThere P xs → AllThere P ys → AllThere P (xs ++ ys)
  there_both [] ys h g = g
  there_both (x ∷ xs) ys h g = (h.0, there_both xs ys h.1 g)

  there_at : (ps : List (List Standing)) (i : ℕ) → AllLists P ps → AllThere P (part_at ps i)
  there_at [] i h = tt
  there_at (p ∷ ps) zero h = h.0
  there_at (p ∷ ps) (suc i) h = there_at ps i h.1

  there_all : (ps : List (List Standing)) → AllLists P ps → AllThere P (all_parts ps)
  there_all [] h = tt
  there_all (p ∷ ps) h = there_both p (all_parts ps) h.0 (there_all ps h.1)

  there_bound : (x : Term) (ss : List Standing) → AllThere P ss → AllThere P (map (bound_by x) ss)
  there_bound x [] h = tt
  there_bound x (s ∷ ss) h = (h.0, there_bound x ss h.1)

  there_range : (x : Term) (ps : List (List Standing)) → AllLists P ps → AllThere P (part_at ps 0 ++ (part_at ps 1 ++ map (bound_by x) (part_at ps 2)))
  there_range x ps h = there_both (part_at ps 0) (part_at ps 1 ++ map (bound_by x) (part_at ps 2)) (there_at ps 0 h) (there_both (part_at ps 1) (map (bound_by x) (part_at ps 2)) (there_at ps 1 h) (there_bound x (part_at ps 2) (there_at ps 2 h)))

  there_below : (symbol : Symbol) (ps : List (List Standing)) → AllLists P ps → AllThere P (below symbol ps)
  there_below (term.every w n) ps h = there_range (leaf (term.int_name w n)) ps h
  there_below (term.exists w n) ps h = there_range (leaf (term.int_name w n)) ps h
  there_below symbol ps h = there_all ps h

  mutual
    standing_all : (t : Term) → P t → AllThere P (standing_in t)
    standing_all (Of symbol ps) h = (h, there_below symbol (standing_in_parts ps) (parts_all ps (in_parts symbol ps h)))

    parts_all : (ps : Parts) → AllParts P ps → AllLists P (standing_in_parts ps)
    parts_all no_parts h = tt
    parts_all (part t ps) h = (standing_all t h.0, parts_all ps h.1)

  literals_there : (ls : List Literal) → AllAtoms P ls → AllThere P (in_literals ls)
  literals_there [] h = tt
  literals_there (l ∷ ls) h = there_both (standing_in l.atom) (in_literals ls) (standing_all l.atom h.0) (literals_there ls h.1)

  formulas_there : (fs : List Term) → AllTerms P fs → AllThere P (in_formulas fs)
  formulas_there [] h = tt
  formulas_there (f ∷ fs) h = there_both (standing_in f) (in_formulas fs) (standing_all f h.0) (formulas_there fs h.1)

  terms_last : (ts : List Term) (t : Term) → AllTerms P ts → P t → AllTerms P (ts ++ t ∷ [])
  terms_last [] t h g = (g, tt)
  terms_last (u ∷ us) t h g = (h.0, terms_last us t h.1 g)

  unbound_all : (done : List Term) (ss : List Standing) → AllTerms P done → AllThere P ss → AllTerms P (with_unbound done ss)
  unbound_all done [] h g = h
  unbound_all done (s ∷ ss) h g = unbound_all (cond (has_formula done s.what || have_common (free_names s.what) s.around) done (done ++ s.what ∷ [])) ss (by (has_formula done s.what || have_common (free_names s.what) s.around)) g.1
    where
      by : (b : Bool) → AllTerms P (cond b done (done ++ s.what ∷ []))
      by true = h
      by false = terms_last done s.what h g.0

  standing_is : (node : Node) → AllAtoms P node.literals → AllTerms P node.pending → AllTerms P (standing node)
  standing_is node h g = unbound_all [] (in_literals node.literals ++ in_formulas node.pending) tt (there_both (in_literals node.literals) (in_formulas node.pending) (literals_there node.literals h) (formulas_there node.pending g))

-- ---- sorted ones

sorted_parts : (ps : Parts) (wanted : Places) → AreSorted ps wanted → AllParts IsSorted ps
sorted_parts no_parts wanted h = tt
sorted_parts (part t ps) wanted h = (h.1, sorted_parts ps (behind wanted) h.2)

sorted_atoms : (ls : List Literal) → AreSortedLiterals ls → AllAtoms IsSorted ls
sorted_atoms [] h = tt
sorted_atoms (l ∷ ls) h = (h.0.0, sorted_atoms ls h.1)

sorted_formulas : (fs : List Term) → AreFormulas fs → AllTerms IsSorted fs
sorted_formulas [] h = tt
sorted_formulas (f ∷ fs) h = (h.0.0, sorted_formulas fs h.1)

sorted_terms : (ts : List Term) → AllTerms IsSorted ts → AreSortedTerms ts
sorted_terms [] h = tt
sorted_terms (t ∷ ts) h = (h.0, sorted_terms ts h.1)

-- what stands in a node of sorted formulas is sorted
pub standing_sorted : (node : Node) → IsSortedNode node → AreSortedTerms (standing node)
standing_sorted node h = sorted_terms (standing node) (standing_is IsSorted (λ symbol ps g. sorted_parts ps (places symbol) g) node (sorted_atoms node.literals h.literals) (sorted_formulas node.pending h.pending))

-- ---- folded ones

folded_parts : (ps : Parts) → AreFolded ps → AllParts IsFolded ps
folded_parts no_parts h = tt
folded_parts (part t ps) h = (h.0, folded_parts ps h.1)

folded_atoms : (ls : List Literal) → AreFoldedLiterals ls → AllAtoms IsFolded ls
folded_atoms [] h = tt
folded_atoms (l ∷ ls) h = (h.0, folded_atoms ls h.1)

folded_formulas : (fs : List Term) → AreFoldedTerms fs → AllTerms IsFolded fs
folded_formulas [] h = tt
folded_formulas (f ∷ fs) h = (h.0, folded_formulas fs h.1)

folded_terms : (ts : List Term) → AllTerms IsFolded ts → AreFoldedTerms ts
folded_terms [] h = tt
folded_terms (t ∷ ts) h = (h.0, folded_terms ts h.1)

-- what stands in a node of folded formulas is folded
pub standing_folded : (node : Node) → IsFoldedNode node → AreFoldedTerms (standing node)
standing_folded node h = folded_terms (standing node) (standing_is IsFolded (λ symbol ps g. folded_parts ps g.1) node (folded_atoms node.literals h.literals) (folded_formulas node.pending h.pending))

-- ---- index terms

-- Int terms that are sorted and folded
pub record IsIndex (t : Term) : Type 0 where
  pub sorted : IsSorted t
  pub folded : IsFolded t
  pub int : is_int t ≡ true

abbrev pub AreIndices : List Term → Type 0
AreIndices [] = Unit {0}
AreIndices (t ∷ ts) = IsIndex t × AreIndices ts

among_indices : (ts us : List Term) → AreSortedTerms ts → AreFoldedTerms ts → AreIndices (only_int (among ts us))
among_indices [] us h g = tt
among_indices (t ∷ ts) us h g = outer (has_formula us t) (among_indices ts us h.1 g.1)
  where
    inner : (b : Bool) → is_int t ≡ b → AreIndices (only_int (among ts us)) → AreIndices (cond b (t ∷ only_int (among ts us)) (only_int (among ts us)))
    inner true e rest = (record { sorted = h.0; folded = g.0; int = e }, rest)
    inner false e rest = rest

    outer : (b : Bool) → AreIndices (only_int (among ts us)) → AreIndices (only_int (cond b (t ∷ among ts us) (among ts us)))
    outer true rest = inner (is_int t) refl rest
    outer false rest = rest

pub indices_are : (node : Node) (us : List Term) → IsSortedNode node → IsFoldedNode node → AreIndices (only_int (among (standing node) us))
indices_are node us h g = among_indices (standing node) us (standing_sorted node h) (standing_folded node g)
