-- Each line holds by computing.
use Rattle.std.proofs.Common.{refl}
use Rattle.std.specs.Fmt.{digits}
use Rattle.wy_sem.specs.Programs.{ProgramsDo}

pub programs_do : ProgramsDo
unfolding digits
programs_do = record {
  abs_of_a_negative = refl;
  abs_of_the_least = refl;
  abs_is_not_met = refl;
  abs_is_met = refl;
  abs_wants_a_number = refl;
  abs_wants_one = refl;
  abs_unmet = refl;
  loops_on = refl;
  slow_is_done = refl;
  slow_costs = refl;
  slow_is_met_within = refl;
  slow_passes_its_limit = refl;
  slow_spends_its_limit = refl;
  says_hello = refl;
  stops_in_hello = refl;
  one_is_natural = refl;
  less_is_not = refl;
  two_is_a_ratio = refl;
  zero_is_no_ratio = refl;
  a_list = refl;
  not_a_list = refl;
}
