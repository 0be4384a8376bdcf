-- Each line holds by computing.
use Rattle.std.proofs.Common.{refl}
use Rattle.wy_sem.specs.Operations.{longest}
use Rattle.wy_sem.specs.Forms.{FormsDo}

pub forms_do : FormsDo
unfolding longest
forms_do = record {
  adds_past_the_end = refl;
  subtracts_past_the_end = refl;
  multiplies_past_128_bits = refl;
  negates_the_least = refl;
  divides_the_least = refl;
  divides_by_nothing = refl;
  no_remainder = refl;
  quotients = (refl, refl, refl, refl);
  remainders = (refl, refl, refl, refl);
  reads_an_item = refl;
  reads_behind = refl;
  reads_before = refl;
  repeats = refl;
  repeats_less_than_nothing = refl;
  lacks_the_field = refl;
  is_unset = refl;
  adds_null = refl;
  ends_without_a_result = refl;
  wants_one_argument = refl;
  leaves_the_right_side = refl;
  leaves_the_other = refl;
  ends_at_the_first_false = refl;
  goes_on_to_the_fault = refl;
  between_reversed_bounds = (refl, refl);
  asserts_in_vain = refl;
  fails = refl;
  requires_more = refl;
  requires_something_else = refl;
  faults_in_a_clause = refl;
  ensures_less = refl;
  is_wary = refl;
  stores_no_natural = refl;
  counts = refl;
  enters_in_vain = refl;
  keeps_in_vain = refl;
  continues_in_vain = refl;
  breaks_free = refl;
  breaks_the_inner_loop = refl;
  continues_the_outer_loop = refl;
  updates_an_item = refl;
  updates_no_item = refl;
  updates_a_field_of_an_item = refl;
  copies = refl;
  prints_no_ascii = refl;
  is_natural = (refl, refl, refl);
}
