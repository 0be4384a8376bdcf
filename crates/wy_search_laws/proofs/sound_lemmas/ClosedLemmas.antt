-- A node that the search closes isn't true.
use Rattle.std.proofs.Common.{◌≡◌, ◌∙◌, ◌||◌, List, Bool, true, false, cond, Option, Some, None, refl, sym, ap}
use Rattle.wy_search_bounds.proofs.wy_check_laws_proofs.sound_lemmas.StepLemmas.{shut_never}
use Rattle.wy_search_bounds.specs.wy_term.Term.{Term}
use Rattle.wy_search_bounds.specs.wy_term.Condition.{Entry}
use Rattle.wy_search_bounds.specs.wy_check_spec.valid.Literals.{is_shut}
use Rattle.wy_search_bounds.specs.wy_search_spec.Classes.{clashes}
use Rattle.wy_search_bounds.specs.wy_search_spec.Splitting.{next_atom}
use Rattle.wy_search_bounds.specs.wy_search_spec.Bounds.{Ending, refuted, consistent, crowded, wide, ending}
use Rattle.wy_search_bounds.specs.wy_search_spec.Expansion.{Spot, expanded}
use Rattle.wy_search_bounds.specs.wy_search_spec.Tree.{Next, closed, stays_open, splits, goes_on, why_open, unless_same, is_more, on_expansion, on_atom, by_ending, next}
use Rattle.std.specs.Prelude.{nat_lt}
use Rattle.wy_search_bounds.proofs.wy_check_laws_proofs.sound_lemmas.Basics.{or_cases}
use Rattle.wy_search_laws.specs.sound.Closed.{IsSortedNode, ClosedNodesAreFalse}
use Rattle.wy_search_laws.proofs.sound_lemmas.ClashLemmas.{clashes_never}
use Rattle.wy_search_laws.proofs.sound_lemmas.ReplacedLemmas.{refuting_never}

-- ---- shut

-- ---- what becomes of a node

expansion_open : (types : List Entry) (p : Spot) (e : Ending) → on_expansion types p e ≡ closed → ⊥
expansion_open types p e is = by (nat_lt p.rounds 2) (is_more p.node (expanded types p).node) is
  where
    by : (b c : Bool) → cond b (cond c (goes_on (expanded types p)) (stays_open (why_open e))) (stays_open (why_open e)) ≡ closed → ⊥
    by true true h = absurd cc
    by true false h = absurd cc
    by false c h = absurd cc

atom_open : (types : List Entry) (p : Spot) (e : Ending) (o : Option Term) → on_atom types p e o ≡ closed → ⊥
atom_open types p e None is = expansion_open types p e is
atom_open types p e (Some a) is = absurd cc

ending_is : (types : List Entry) (p : Spot) (e : Ending) → by_ending types p e ≡ closed → e ≡ refuted
ending_is types p refuted is = refl
ending_is types p consistent is = absurd (atom_open types p consistent (next_atom p.node) is)
ending_is types p crowded is = absurd (atom_open types p crowded (next_atom p.node) is)
ending_is types p wide is = absurd (atom_open types p wide (next_atom p.node) is)

pub closed_never : ClosedNodesAreFalse
closed_never types p sorted is names told = by (is_shut p.node || clashes p.node) refl is
  where
    by : (b : Bool) → (is_shut p.node || clashes p.node) ≡ b → cond b closed (by_ending types p (ending p.node)) ≡ closed → ⊥
    by true e h = or_cases (is_shut p.node) (clashes p.node) ⊥ e (λ g. shut_never names p.node told g) (λ g. clashes_never names p.node told sorted.literals g)
    by false e h = refuting_never names p.node told sorted.literals (ending_is types p (ending p.node) h)
