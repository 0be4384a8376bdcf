-- A node of folded formulas stays one with a folded formula more.
use Rattle.std.proofs.Common.{◌≡◌, List, [], ◌∷◌, ◌++◌, Bool, true, false, cond, None, refl}
use Rattle.wy_search_bounds.specs.wy_term.Term as term
use Rattle.wy_search_bounds.specs.wy_term.Term.{Term, Of, Parts, no_parts, part, Not}
use Rattle.wy_search_bounds.specs.wy_term.Rewriting.{as_denied}
use Rattle.wy_search_bounds.specs.wy_term.Condition.{Condition}
use Rattle.wy_search_bounds.specs.wy_term_text.reread.Folded.{IsFolded, AreFolded}
use Rattle.wy_search_bounds.specs.wy_check_spec.judge.Node.{Literal, has_literal, has_formula, Node, bare, with_literal, with_pending, is_atom, with_atom, added, added_denial, denied_one, added_all, denied_all, with_formulas, first_node}
use Rattle.wy_search_laws.proofs.closing_lemmas.Closing.{AreFoldedLiterals, AreFoldedTerms, IsFoldedNode}

literals_push : (ls : List Literal) (l : Literal) → AreFoldedLiterals ls → IsFolded l.atom → AreFoldedLiterals (ls ++ l ∷ [])
literals_push [] l h f = (f, tt)
literals_push (k ∷ ks) l h f = (h.0, literals_push ks l h.1 f)

formulas_push : (fs : List Term) (f : Term) → AreFoldedTerms fs → IsFolded f → AreFoldedTerms (fs ++ f ∷ [])
formulas_push [] f h g = (g, tt)
formulas_push (k ∷ ks) f h g = (h.0, formulas_push ks f h.1 g)

literal_folded : (node : Node) (l : Literal) → IsFoldedNode node → IsFolded l.atom → IsFoldedNode (with_literal node l)
literal_folded node l h f = by (has_literal node.literals l)
  where
    by : (b : Bool) → IsFoldedNode (cond b node (record { literals = node.literals ++ l ∷ []; pending = node.pending }))
    by true = h
    by false = record { literals = literals_push node.literals l h.literals f; pending = h.pending }

pending_folded : (node : Node) (f : Term) → IsFoldedNode node → IsFolded f → IsFoldedNode (with_pending node f)
pending_folded node f h g = by (has_formula node.pending f)
  where
    by : (b : Bool) → IsFoldedNode (cond b node (record { literals = node.literals; pending = node.pending ++ f ∷ [] }))
    by true = h
    by false = record { literals = h.literals; pending = formulas_push node.pending f h.pending g }

atom_folded : (node : Node) (f : Term) (holds : Bool) (whole : Term) → IsFoldedNode node → IsFolded f → IsFolded whole → IsFoldedNode (with_atom node f holds whole)
atom_folded node f holds whole h g k = by (is_atom f)
  where
    by : (b : Bool) → IsFoldedNode (cond b (with_literal node (record { atom = f; holds = holds })) (with_pending node whole))
    by true = literal_folded node (record { atom = f; holds = holds }) h g
    by false = pending_folded node whole h k

-- the denial of a formula that is no denial
not_folded : (f : Term) → as_denied f ≡ None → IsFolded f → IsFolded (Not f)
not_folded f e g = (rw e refl, (g, tt))

mutual
  pub added_folded : (node : Node) (f : Term) → IsFoldedNode node → IsFolded f → IsFoldedNode (added node f)
  added_folded node (Of term.all_of ps) h g = added_all_folded node ps h g.1
  added_folded node (Of term.denied (part f no_parts)) h g = added_denial_folded node f h g.1.0 g
  added_folded node t h g = atom_folded node t true t h g g

  added_denial_folded : (node : Node) (f : Term) → IsFoldedNode node → IsFolded f → IsFolded (Not f) → IsFoldedNode (added_denial node f)
  added_denial_folded node (Of term.any_of ps) h g k = denied_all_folded node ps h g.1
  added_denial_folded node t h g k = atom_folded node t false (Not t) h g k

  pub denied_folded : (node : Node) (f : Term) → IsFoldedNode node → IsFolded f → IsFoldedNode (denied_one node f)
  denied_folded node (Of term.denied (part f no_parts)) h g = added_folded node f h g.1.0
  denied_folded node (Of term.any_of ps) h g = denied_all_folded node ps h g.1
  denied_folded node t h g = atom_folded node t false (Not t) h g (not_folded t refl g)

  added_all_folded : (node : Node) (ps : Parts) → IsFoldedNode node → AreFolded ps → IsFoldedNode (added_all node ps)
  added_all_folded node no_parts h g = h
  added_all_folded node (part f fs) h g = added_all_folded (added node f) fs (added_folded node f h g.0) g.1

  denied_all_folded : (node : Node) (ps : Parts) → IsFoldedNode node → AreFolded ps → IsFoldedNode (denied_all node ps)
  denied_all_folded node no_parts h g = h
  denied_all_folded node (part f fs) h g = denied_all_folded (denied_one node f) fs (denied_folded node f h g.0) g.1

pub formulas_folded : (node : Node) (fs : List Term) → IsFoldedNode node → AreFoldedTerms fs → IsFoldedNode (with_formulas node fs)
formulas_folded node [] h g = h
formulas_folded node (f ∷ fs) h g = formulas_folded (added node f) fs (added_folded node f h g.0) g.1

-- the node in which a certificate begins
pub first_folded : (c : Condition) → AreFoldedTerms c.hyps → IsFolded c.goal → IsFoldedNode (first_node c)
first_folded c h g = denied_folded (with_formulas bare c.hyps) c.goal (formulas_folded bare c.hyps (record { literals = tt; pending = tt }) h) g
