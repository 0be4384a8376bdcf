-- What adding a literal and a pending formula keeps, adding a formula keeps.
use Rattle.std.proofs.Common.{List, [], ◌∷◌, Bool, true, false, cond}
use Rattle.wy_search_bounds.specs.wy_term.Term as term
use Rattle.wy_search_bounds.specs.wy_term.Term.{Term, Of, Parts, no_parts, part, Not}
use Rattle.wy_search_bounds.specs.wy_check_spec.judge.Node.{Literal, Node, with_literal, with_pending, is_atom, with_atom, added, added_denial, denied_one, added_all, denied_all, with_formulas}

-- a relation of two nodes that stays where both get one literal more, or one pending formula
module _ (R : Node → Node → Type 0)
    (literal : (a b : Node) (l : Literal) → R a b → R (with_literal a l) (with_literal b l))
    (pending : (a b : Node) (f : Term) → R a b → R (with_pending a f) (with_pending b f)) where
  atom_related : (a b : Node) (f : Term) (holds : Bool) (whole : Term) → R a b → R (with_atom a f holds whole) (with_atom b f holds whole)
  atom_related a b f holds whole r = by (is_atom f)
    where
      by : (c : Bool) → R (cond c (with_literal a (record { atom = f; holds = holds })) (with_pending a whole)) (cond c (with_literal b (record { atom = f; holds = holds })) (with_pending b whole))
      by true = literal a b (record { atom = f; holds = holds }) r
      by false = pending a b whole r

  mutual
    pub added_related : (a b : Node) (f : Term) → R a b → R (added a f) (added b f)
    added_related a b (Of term.all_of ps) r = added_all_related a b ps r
    added_related a b (Of term.denied (part f no_parts)) r = added_denial_related a b f r
    added_related a b t r = atom_related a b t true t r

    added_denial_related : (a b : Node) (f : Term) → R a b → R (added_denial a f) (added_denial b f)
    added_denial_related a b (Of term.any_of ps) r = denied_all_related a b ps r
    added_denial_related a b t r = atom_related a b t false (Not t) r

    pub denied_related : (a b : Node) (f : Term) → R a b → R (denied_one a f) (denied_one b f)
    denied_related a b (Of term.denied (part f no_parts)) r = added_related a b f r
    denied_related a b (Of term.any_of ps) r = denied_all_related a b ps r
    denied_related a b t r = atom_related a b t false (Not t) r

    added_all_related : (a b : Node) (ps : Parts) → R a b → R (added_all a ps) (added_all b ps)
    added_all_related a b no_parts r = r
    added_all_related a b (part f fs) r = added_all_related (added a f) (added b f) fs (added_related a b f r)

    denied_all_related : (a b : Node) (ps : Parts) → R a b → R (denied_all a ps) (denied_all b ps)
    denied_all_related a b no_parts r = r
    denied_all_related a b (part f fs) r = denied_all_related (denied_one a f) (denied_one b f) fs (denied_related a b f r)

  pub formulas_related : (a b : Node) (fs : List Term) → R a b → R (with_formulas a fs) (with_formulas b fs)
  formulas_related a b [] r = r
  formulas_related a b (f ∷ fs) r = formulas_related (added a f) (added b f) fs (added_related a b f r)
