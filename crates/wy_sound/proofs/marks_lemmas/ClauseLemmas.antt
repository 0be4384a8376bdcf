-- Clauses of contracts and of types use parameters, results and variables of types alone.
use Rattle.std.proofs.Common.{inl, inr, ℕ, List, [], ◌∷◌, length, Bool, Option, Some, None, refl, sym, subst}
use Rattle.wy_core.specs.CoreTree as tree
use Rattle.wy_core.specs.CoreTree.{Param, Alias, Routine, Core}
use Rattle.wy_core.specs.formed.Offers.{offers_of}
use Rattle.wy_core.specs.formed.Bound.{IsNewOption}
use Rattle.wy_assign.specs.Assigned.{without_params, without_option, all_unset, result_variable}
use Rattle.wy_lemmas.proofs.Choices.{given}
use Rattle.wy_sound_types.specs.wy_sound_walks.expressions.Names.{also}
use Rattle.wy_sound_programs.specs.wy_sound_statements.calls.CallLaws.{with_params, nothing_seen, also_if}
use Rattle.wy_sound_programs.specs.Made.{all_marked}
use Rattle.wy_sound_types.specs.Tests.{no_variable}
use Rattle.wy_sound_types.specs.Routines.{with_result}
use Rattle.wy_sound.specs.marks.Clauses.{ContractsAreReady, TypesAreReady}
use Rattle.wy_sound.proofs.marks_lemmas.MarkedLemmas.{Unmarked, unmarked_one, clauses_marked}
use Rattle.wy_sound.proofs.marks_lemmas.DeclLemmas.{unset_routine, unset_alias, bound_alias}

-- ---- what isn't seen has no value

params_unmarked : (ps : List Param) (u seen : ℕ → Bool) → Unmarked u seen → Unmarked (without_params ps u) (with_params ps seen)
params_unmarked [] u seen h = h
params_unmarked (p ∷ ps) u seen h = params_unmarked ps (given u p.variable) (also p.variable seen) (unmarked_one u seen p.variable h)

option_unmarked : (o : Option ℕ) (u seen : ℕ → Bool) → Unmarked u seen → Unmarked (without_option o u) (also_if o seen)
option_unmarked None u seen h = h
option_unmarked (Some x) u seen h = unmarked_one u seen x h

result_unmarked : (o : Option tree.Output) (u seen : ℕ → Bool) → Unmarked u seen → Unmarked (without_option (result_variable o) u) (with_result o seen)
result_unmarked None u seen h = h
result_unmarked (Some out) u seen h = option_unmarked out.variable u seen h

entry_unmarked : (ps : List Param) → Unmarked (without_params ps all_unset) (with_params ps nothing_seen)
entry_unmarked ps = params_unmarked ps all_unset nothing_seen (λ x e. refl)

-- ---- contracts and types

pub contracts_ready : ContractsAreReady
contracts_ready = record {
  first = λ core assigned f r e rules n made. clauses_marked rules n r.preconditions all_marked (with_params r.params nothing_seen) (without_params r.params all_unset) (entry_unmarked r.params)
      (λ at s. assigned.set at (unset_routine core f r at e (inl s))) made;
  last = λ core assigned f r e rules n made. clauses_marked rules n r.postconditions all_marked (with_result r.result (with_params r.params nothing_seen)) (without_option (result_variable r.result) (without_params r.params all_unset))
      (result_unmarked r.result (without_params r.params all_unset) (with_params r.params nothing_seen) (entry_unmarked r.params))
      (λ at s. assigned.set at (unset_routine core f r at e (inr (inl s)))) made;
}

pub types_ready : TypesAreReady
types_ready core assigned bound rules made b x a e v = (
  (subst (IsNewOption (length a.variables) []) v (bound_alias (offers_of core) core b a e bound).variable).0,
  clauses_marked rules (length a.variables) a.clauses all_marked (also x no_variable) (without_option a.variable all_unset)
      (subst (λ (o : Option ℕ). Unmarked (without_option o all_unset) (also x no_variable)) (sym v) (unmarked_one all_unset no_variable x (λ y q. refl)))
      (λ at s. assigned.set at (unset_alias core b a at e s)) (made b a e),
)
