-- Each line holds by computing.
use Rattle.std.proofs.Common.{refl}
use Rattle.std.specs.Fmt.{digits}
use Rattle.wy_sem.specs.Operations as operations
use Rattle.wy_code_spec.specs.step.Examples.{RoutinesDo}

pub routines_do : RoutinesDo
unfolding digits operations.longest
routines_do = record {
  a_constant = refl;
  a_move = refl;
  a_move_empties = refl;
  a_share_keeps = refl;
  a_clear_empties = refl;
  a_sum = refl;
  too_great_a_sum = refl;
  a_quotient = refl;
  a_rest = refl;
  no_quotient = refl;
  a_comparison = refl;
  not_a_comparison = refl;
  an_equation = refl;
  a_denial = refl;
  a_jump = refl;
  a_jump_out = refl;
  no_branch = refl;
  a_branch = refl;
  an_array = refl;
  an_array_of_one = refl;
  a_record = refl;
  a_part_too_few = refl;
  copies = refl;
  less_than_no_copy = refl;
  a_length = refl;
  an_item = refl;
  an_item_too_far = refl;
  a_field = refl;
  no_field = refl;
  an_update = refl;
  an_update_moves = refl;
  an_update_too_far = refl;
  is_null = refl;
  is_no_int = refl;
  is_an_array = refl;
  has_the_shape = refl;
  has_more_fields = refl;
  a_call = refl;
  a_call_moves = refl;
  an_argument_too_few = refl;
  an_argument_too_many = refl;
  no_such_routine = refl;
  text = refl;
  no_text = refl;
  a_number = refl;
  the_end = refl;
}
