-- What small programs owe.
use Rattle.std.specs.Prelude.{◌≡◌, ℕ, List, [], ◌∷◌, map, take}
use Rattle.wy_sem.specs.wy_core.Types.{Ty}
use Rattle.wy_sem.specs.wy_core.CoreTree.{Core}
use Rattle.wy_sem.specs.wy_term.Term.{leaf, val_name}
use Rattle.wy_vc_spec.specs.Numbered.{Node, numbered_core}
use Rattle.wy_vc_spec.specs.Values.{Setting}
use Rattle.wy_vc_spec.specs.Limits.{types_of, unfolded, passing, Within}
use Rattle.wy_vc_spec.specs.Programs.{conditions_of, setting_of}
use Rattle.wy_vc_spec.specs.CallExamples.{inc, inc_numbers, inc_conditions, push, push_numbers, push_conditions, twice, twice_numbers, twice_conditions, push_test}
use Rattle.wy_vc_spec.specs.LoopExamples.{again, again_numbers, again_conditions, divided, divided_numbers, divided_conditions, lazy, lazy_numbers, lazy_conditions, shift, shift_numbers, shift_conditions}
use Rattle.wy_vc_spec.specs.TypeExamples.{quantified, quantified_numbers, quantified_conditions, nested, nested_numbers, nested_conditions, narrowed, narrowed_numbers, narrowed_conditions, nested_test}

abbrev pub settings : Core ℕ → List Ty → Setting Node
settings core flow = setting_of (numbered_core core) flow

pub record SmallProgramsOwe : Type 0 where
  pub inc_owes : conditions_of inc inc_numbers ≡ inc_conditions
  pub again_owes : conditions_of again again_numbers ≡ again_conditions
  pub divided_owes : conditions_of divided divided_numbers ≡ divided_conditions
  pub push_owes : conditions_of push push_numbers ≡ push_conditions
  pub lazy_owes : conditions_of lazy lazy_numbers ≡ lazy_conditions
  pub twice_owes : conditions_of twice twice_numbers ≡ twice_conditions
  pub quantified_owes : conditions_of quantified quantified_numbers ≡ quantified_conditions
  pub nested_owes : conditions_of nested nested_numbers ≡ nested_conditions
  pub shift_owes : conditions_of shift shift_numbers ≡ shift_conditions
  pub narrowed_owes : conditions_of narrowed narrowed_numbers ≡ narrowed_conditions
  pub push_unfolds : unfolded (settings push push_numbers) 0 ≡ record { type_number = 0; name = leaf (val_name (115 ∷ []) 0); formula = push_test }
  pub nested_unfolds : unfolded (settings nested nested_numbers) 0 ≡ record { type_number = 0; name = leaf (val_name (120 ∷ []) 0); formula = nested_test }
  pub push_mentions : map (types_of (settings push push_numbers)) (take 2 push_conditions) ≡ (0 ∷ []) ∷ (0 ∷ []) ∷ []
  pub inc_is_within : passing (settings inc inc_numbers) inc_conditions ≡ Within
