-- A node of sorted formulas stays one with a sorted formula more.
use Rattle.std.proofs.Common.{◌≡◌, ℕ, zero, suc, ◌-◌, List, [], ◌∷◌, ◌++◌, Bool, true, false, cond, eqb, Some, None, refl, subst}
use Rattle.std.specs.Prelude.{slice_get}
use Rattle.wy_check_spec.specs.wy_term.Term as term
use Rattle.wy_check_spec.specs.wy_term.Term.{Term, Of, Parts, no_parts, part, Not}
use Rattle.wy_check_spec.specs.wy_term.Sorts.{formula_sort}
use Rattle.wy_check_spec.specs.wy_term.Meaning.{Names}
use Rattle.wy_check_spec.specs.wy_term.Condition.{Condition, AllTrue}
use Rattle.wy_check_spec.specs.wy_term_subst.sorted.Sorted.{each, AreSorted}
use Rattle.wy_check_spec.specs.judge.Node.{Literal, has_literal, has_formula, Node, bare, with_literal, with_pending, is_atom, with_atom, added, added_denial, denied_one, added_all, denied_all, with_formulas, first_node}
use Rattle.wy_check_spec.specs.judge.Told.{IsTrueNode}
use Rattle.wy_check_spec.proofs.judge_lemmas.TruthLemmas.{adds_truly}
use Rattle.wy_check_spec.specs.valid.Literals.{literal_at}
use Rattle.wy_check_laws.specs.sound.Sortedness.{AreFormulas, IsSortedCondition}
use Rattle.wy_check_laws.proofs.sound_lemmas.MadeLemmas.{IsFormula}

abbrev pub AreSortedLiterals : List Literal → Type 0
AreSortedLiterals [] = Unit {0}
AreSortedLiterals (l ∷ ls) = IsFormula l.atom × AreSortedLiterals ls

-- each formula of the node is one of sorted parts
pub record IsSortedNode (node : Node) : Type 0 where
  pub literals : AreSortedLiterals node.literals
  pub pending : AreFormulas node.pending

abbrev pub AreSortedNodes : List Node → Type 0
AreSortedNodes [] = Unit {0}
AreSortedNodes (n ∷ ns) = IsSortedNode n × AreSortedNodes ns

-- ---- adding

literals_push : (ls : List Literal) (l : Literal) → AreSortedLiterals ls → IsFormula l.atom → AreSortedLiterals (ls ++ l ∷ [])
literals_push [] l h f = (f, tt)
literals_push (k ∷ ks) l h f = (h.0, literals_push ks l h.1 f)

formulas_push : (fs : List Term) (f : Term) → AreFormulas fs → IsFormula f → AreFormulas (fs ++ f ∷ [])
formulas_push [] f h g = (g, tt)
formulas_push (k ∷ ks) f h g = (h.0, formulas_push ks f h.1 g)

literal_sorted : (node : Node) (l : Literal) → IsSortedNode node → IsFormula l.atom → IsSortedNode (with_literal node l)
literal_sorted node l h f = by (has_literal node.literals l)
  where
    by : (b : Bool) → IsSortedNode (cond b node (record { literals = node.literals ++ l ∷ []; pending = node.pending }))
    by true = h
    by false = record { literals = literals_push node.literals l h.literals f; pending = h.pending }

pending_sorted : (node : Node) (f : Term) → IsSortedNode node → IsFormula f → IsSortedNode (with_pending node f)
pending_sorted node f h g = by (has_formula node.pending f)
  where
    by : (b : Bool) → IsSortedNode (cond b node (record { literals = node.literals; pending = node.pending ++ f ∷ [] }))
    by true = h
    by false = record { literals = h.literals; pending = formulas_push node.pending f h.pending g }

atom_sorted : (node : Node) (f : Term) (holds : Bool) (whole : Term) → IsSortedNode node → IsFormula f → IsFormula whole → IsSortedNode (with_atom node f holds whole)
atom_sorted node f holds whole h g k = by (is_atom f)
  where
    by : (b : Bool) → IsSortedNode (cond b (with_literal node (record { atom = f; holds = holds })) (with_pending node whole))
    by true = literal_sorted node (record { atom = f; holds = holds }) h g
    by false = pending_sorted node whole h k

not_formula : (f : Term) → IsFormula f → IsFormula (Not f)
not_formula f g = ((g.1, g.0, tt), refl)

mutual
  pub added_sorted : (node : Node) (f : Term) → IsSortedNode node → IsFormula f → IsSortedNode (added node f)
  added_sorted node (Of term.all_of ps) h g = added_all_sorted node ps h g.0
  added_sorted node (Of term.denied (part f no_parts)) h g = added_denial_sorted node f h (g.0.1, g.0.0)
  added_sorted node t h g = atom_sorted node t true t h g g

  added_denial_sorted : (node : Node) (f : Term) → IsSortedNode node → IsFormula f → IsSortedNode (added_denial node f)
  added_denial_sorted node (Of term.any_of ps) h g = denied_all_sorted node ps h g.0
  added_denial_sorted node t h g = atom_sorted node t false (Not t) h g (not_formula t g)

  pub denied_sorted : (node : Node) (f : Term) → IsSortedNode node → IsFormula f → IsSortedNode (denied_one node f)
  denied_sorted node (Of term.denied (part f no_parts)) h g = added_sorted node f h (g.0.1, g.0.0)
  denied_sorted node (Of term.any_of ps) h g = denied_all_sorted node ps h g.0
  denied_sorted node t h g = atom_sorted node t false (Not t) h g (not_formula t g)

  added_all_sorted : (node : Node) (ps : Parts) → IsSortedNode node → AreSorted ps (each formula_sort) → IsSortedNode (added_all node ps)
  added_all_sorted node no_parts h g = h
  added_all_sorted node (part f fs) h g = added_all_sorted (added node f) fs (added_sorted node f h (g.1, g.0)) g.2

  denied_all_sorted : (node : Node) (ps : Parts) → IsSortedNode node → AreSorted ps (each formula_sort) → IsSortedNode (denied_all node ps)
  denied_all_sorted node no_parts h g = h
  denied_all_sorted node (part f fs) h g = denied_all_sorted (denied_one node f) fs (denied_sorted node f h (g.1, g.0)) g.2

pub formulas_sorted : (node : Node) (fs : List Term) → IsSortedNode node → AreFormulas fs → IsSortedNode (with_formulas node fs)
formulas_sorted node [] h g = h
formulas_sorted node (f ∷ fs) h g = formulas_sorted (added node f) fs (added_sorted node f h g.0) g.1

bare_sorted : IsSortedNode bare
bare_sorted = record { literals = tt; pending = tt }

pub first_sorted : (c : Condition) → IsSortedCondition c → IsSortedNode (first_node c)
first_sorted c h = denied_sorted (with_formulas bare c.hyps) c.goal (formulas_sorted bare c.hyps bare_sorted h.hyps) h.goal

-- ---- true nodes

pub formulas_true : (names : Names) (node : Node) (fs : List Term) → IsTrueNode names node → AllTrue names fs → IsTrueNode names (with_formulas node fs)
formulas_true names node [] h all = h
formulas_true names node (f ∷ fs) h all = formulas_true names (added node f) fs ((adds_truly names node f h).0 all.0) all.1

-- ---- literals of a sorted node

nth_sorted : (ls : List Literal) (k : ℕ) (l : Literal) → AreSortedLiterals ls → slice_get ls k ≡ Some l → IsFormula l.atom
nth_sorted [] k l h e = absurd cc
nth_sorted (x ∷ xs) zero l h e = let is : x ≡ l = cc in subst (λ (y : Literal). IsFormula y.atom) is h.0
nth_sorted (x ∷ xs) (suc k) l h e = nth_sorted xs k l h.1 e

pub literal_is_sorted : (ls : List Literal) (i : ℕ) (l : Literal) → AreSortedLiterals ls → literal_at ls i ≡ Some l → IsFormula l.atom
literal_is_sorted ls i l h e = by (eqb i 0) e
  where
    by : (b : Bool) → cond b None (slice_get ls (i - 1)) ≡ Some l → IsFormula l.atom
    by true k = absurd cc
    by false k = nth_sorted ls (i - 1) l h k
