-- A node with witnesses can't be true only where the node can't.
use Rattle.std.proofs.Common.{◌≡◌, ◌∙◌, ◌-◌, ℕ, zero, suc, List, [], ◌∷◌, ◌++◌, Bool, true, false, cond, eqb, Option, Some, None, refl, sym, ap, subst, append_assoc}
use Rattle.std.specs.Prelude.{slice_get}
use Rattle.std.proofs.lemmas.List.{append-nil}
use Rattle.wy_search_bounds.specs.wy_term.Term as term
use Rattle.wy_search_bounds.specs.wy_term.Term.{Term, Of, Parts, no_parts, part, Not}
use Rattle.wy_search_bounds.specs.wy_term.Condition.{Entry}
use Rattle.wy_search_bounds.specs.wy_term.Unfolding.{AreClosed}
use Rattle.wy_search_bounds.specs.wy_lin.Linear.{◌>>=◌}
use Rattle.wy_search_bounds.specs.wy_check_spec.judge.Node.{Literal, has_literal, has_formula, Node, with_literal, with_pending, is_atom, with_atom, added, added_denial, denied_one, added_all, denied_all, with_formulas}
use Rattle.wy_search_bounds.specs.wy_cert.Steps.{wit}
use Rattle.wy_search_bounds.specs.wy_check_spec.valid.Literals.{literal_at}
use Rattle.wy_search_bounds.specs.wy_check_spec.valid.Ranges.{Range, of_one, witness, witnessed_at}
use Rattle.wy_search_bounds.specs.wy_check_spec.valid.Validity.{left_with}
use Rattle.wy_search_bounds.specs.wy_search_spec.Expansion.{Spot, with_witness, with_witnesses}
use Rattle.wy_search_bounds.specs.wy_check_laws.sound.Sortedness.{AreSortedEntries}
use Rattle.wy_search_bounds.proofs.wy_check_laws_proofs.sound_lemmas.NodeLemmas.{IsSortedNode}
use Rattle.wy_search_bounds.proofs.wy_check_laws_proofs.sound_lemmas.StepLemmas.{IsFalse, Leads, step_leads}
use Rattle.wy_search_laws.proofs.sound_lemmas.ProductsLemmas.{HasNumber, HaveNumbers, all_numbered}

-- ---- literals stay

-- the literals of the old node come first
abbrev pub Grows : Node → Node → Type 0
Grows old new = (more : List Literal) × (new.literals ≡ old.literals ++ more)

grows_self : (node : Node) → Grows node node
grows_self node = ([], sym (append-nil node.literals))

grows_on : (a b c : Node) → Grows a b → Grows b c → Grows a c
grows_on a b c f g = (f.0 ++ g.0, g.1 ∙ (ap (λ (ls : List Literal). ls ++ g.0) f.1 ∙ append_assoc a.literals f.0 g.0))

literal_grows : (node : Node) (l : Literal) → Grows node (with_literal node l)
literal_grows node l = by (has_literal node.literals l)
  where
    by : (b : Bool) → Grows node (cond b node (record { literals = node.literals ++ l ∷ []; pending = node.pending }))
    by true = grows_self node
    by false = (l ∷ [], refl)

pending_grows : (node : Node) (f : Term) → Grows node (with_pending node f)
pending_grows node f = by (has_formula node.pending f)
  where
    by : (b : Bool) → Grows node (cond b node (record { literals = node.literals; pending = node.pending ++ f ∷ [] }))
    by true = grows_self node
    by false = ([], sym (append-nil node.literals))

atom_grows : (node : Node) (f : Term) (holds : Bool) (whole : Term) → Grows node (with_atom node f holds whole)
atom_grows node f holds whole = by (is_atom f)
  where
    by : (b : Bool) → Grows node (cond b (with_literal node (record { atom = f; holds = holds })) (with_pending node whole))
    by true = literal_grows node (record { atom = f; holds = holds })
    by false = pending_grows node whole

mutual
  added_grows : (node : Node) (f : Term) → Grows node (added node f)
  added_grows node (Of term.all_of ps) = all_grow node ps
  added_grows node (Of term.denied (part f no_parts)) = denial_grows node f
  added_grows node t = atom_grows node t true t

  denial_grows : (node : Node) (f : Term) → Grows node (added_denial node f)
  denial_grows node (Of term.any_of ps) = denied_grow node ps
  denial_grows node t = atom_grows node t false (Not t)

  denied_grows : (node : Node) (f : Term) → Grows node (denied_one node f)
  denied_grows node (Of term.denied (part f no_parts)) = added_grows node f
  denied_grows node (Of term.any_of ps) = denied_grow node ps
  denied_grows node t = atom_grows node t false (Not t)

  all_grow : (node : Node) (ps : Parts) → Grows node (added_all node ps)
  all_grow node no_parts = grows_self node
  all_grow node (part f fs) = grows_on node (added node f) (added_all (added node f) fs) (added_grows node f) (all_grow (added node f) fs)

  denied_grow : (node : Node) (ps : Parts) → Grows node (denied_all node ps)
  denied_grow node no_parts = grows_self node
  denied_grow node (part f fs) = grows_on node (denied_one node f) (denied_all (denied_one node f) fs) (denied_grows node f) (denied_grow (denied_one node f) fs)

formulas_grow : (node : Node) (fs : List Term) → Grows node (with_formulas node fs)
formulas_grow node [] = grows_self node
formulas_grow node (f ∷ fs) = grows_on node (added node f) (with_formulas (added node f) fs) (added_grows node f) (formulas_grow (added node f) fs)

got_before : (ls more : List Literal) (k : ℕ) (l : Literal) → slice_get ls k ≡ Some l → slice_get (ls ++ more) k ≡ Some l
got_before [] more k l e = absurd cc
got_before (x ∷ xs) more zero l e = e
got_before (x ∷ xs) more (suc k) l e = got_before xs more k l e

number_before : (ls more : List Literal) (l : Literal) → HasNumber ls l → HasNumber (ls ++ more) l
number_before ls more l h = (h.0, by (eqb h.0 0) h.1)
  where
    by : (b : Bool) → cond b None (slice_get ls (h.0 - 1)) ≡ Some l → cond b None (slice_get (ls ++ more) (h.0 - 1)) ≡ Some l
    by true e = absurd cc
    by false e = got_before ls more (h.0 - 1) l e

numbers_before : (old new : Node) (ls : List Literal) → Grows old new → HaveNumbers old.literals ls → HaveNumbers new.literals ls
numbers_before old new [] g h = tt
numbers_before old new (l ∷ ls) g h = (subst (λ (all : List Literal). HasNumber all l) (sym g.1) (number_before old.literals g.0 l h.0), numbers_before old new ls g h.1)

-- ---- witnesses

-- the new node is sorted, and can be true only where the old one can
pub record Refines (types : List Entry) (old new : Node) : Type 0 where
  pub sorted : IsSortedNode new
  pub refuted : IsFalse types new → IsFalse types old

-- beside that, the literals stay
record Witnesses (types : List Entry) (old new : Spot) : Type 0 where
  refines : Refines types old.node new.node
  grows : Grows old.node new.node

unchanged : (types : List Entry) (p : Spot) → IsSortedNode p.node → Witnesses types p p
unchanged types p h = record { refines = record { sorted = h; refuted = λ f. f }; grows = grows_self p.node }

module _ (types : List Entry) (are_closed : AreClosed types) (entries : AreSortedEntries types) where
  with_one : (p : Spot) (l : Literal) (o : Option Range) → IsSortedNode p.node → HasNumber p.node.literals l → of_one l ≡ o → Witnesses types p (with_witness p l o)
  with_one p l None h has is = unchanged types p h
  with_one p l (Some r) h has is = by (has_literal p.had l)
    where
      leads : Leads types p.node (with_formulas p.node (witnessed_at l.holds r (witness p.node r)) ∷ [])
      leads =
          step_leads types p.node (wit has.0) (with_formulas p.node (witnessed_at l.holds r (witness p.node r)) ∷ []) are_closed entries h tt
          (ap (λ (o : Option Literal). (o >>= λ l. of_one l >>= λ r. Some (witnessed_at l.holds r (witness p.node r))) >>= left_with p.node) has.1
          ∙ ap (λ (o : Option Range). (o >>= λ r. Some (witnessed_at l.holds r (witness p.node r))) >>= left_with p.node) is)

      by : (b : Bool) → Witnesses types p (cond b p (record { node = with_formulas p.node (witnessed_at l.holds r (witness p.node r)); had = p.had ++ l ∷ []; names = p.names ++ witness p.node r ∷ []; rounds = p.rounds }))
      by true = unchanged types p h
      by false = record {
        refines = record { sorted = leads.sorted.0; refuted = λ f. leads.refuted (f, tt) };
        grows = formulas_grow p.node (witnessed_at l.holds r (witness p.node r));
      }

  with_all : (p : Spot) (ls : List Literal) → IsSortedNode p.node → HaveNumbers p.node.literals ls → Witnesses types p (with_witnesses p ls)
  with_all p [] h has = unchanged types p h
  with_all p (l ∷ ls) h has =
      let q = with_witness p l (of_one l) in
      let one = with_one p l (of_one l) h has.0 refl in
      let rest = with_all (with_witness p l (of_one l)) ls one.refines.sorted (numbers_before p.node q.node ls one.grows has.1) in
      record {
        refines = record { sorted = rest.refines.sorted; refuted = λ f. one.refines.refuted (rest.refines.refuted f) };
        grows = grows_on p.node q.node (with_witnesses (with_witness p l (of_one l)) ls).node one.grows rest.grows;
      }

-- the witnesses of a node's own literals
pub witnesses_refine : (types : List Entry) (p : Spot) → AreClosed types → AreSortedEntries types → IsSortedNode p.node → Refines types p.node (with_witnesses p p.node.literals).node
witnesses_refine types p are_closed entries h = (with_all types are_closed entries p p.node.literals h (all_numbered p.node.literals)).refines
