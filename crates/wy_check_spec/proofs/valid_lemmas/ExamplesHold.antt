-- The examples are computed.
use Rattle.std.proofs.Common.{refl}
use Rattle.wy_check_spec.specs.valid.Examples.{SmallCertificates}

pub examples_hold : SmallCertificates
examples_hold = record {
  split_valid = refl;
  split_of_no_atom = refl;
  split_of_bound_name = refl;
  shut_where_open = refl;
  chain_valid = refl;
  chain_with_a_gap = refl;
  chain_of_arguments = refl;
  chain_one_way = refl;
  clash_valid = refl;
  clash_of_equal_kinds = refl;
  clash_alone_valid = refl;
  clash_alone_of_a_name = refl;
  sum_valid = refl;
  sum_of_zero = refl;
  sum_with_multiplier_zero = refl;
  cut_valid = refl;
  cut_by_no_divisor = refl;
  inst_valid = refl;
  inst_of_false_all = refl;
  inst_at_no_number = refl;
  wit_valid = refl;
  wit_of_true_all = refl;
  fact_valid = refl;
  fact_of_other_arguments = refl;
  membership_valid = refl;
  membership_of_no_listed_type = refl;
  prod_valid = refl;
  prod_of_another_factor = refl;
  prod_without_a_first_factor = refl;
  goes_on_behind_its_tree = refl;
  ends_early = refl;
  has_no_step = refl;
}
