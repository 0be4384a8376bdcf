-- Each line holds by computing.
use Rattle.std.proofs.Common.{refl}
use Rattle.std.specs.Fmt.{digits}
use Rattle.wy_code_spec.specs.compiled.Examples.{ProgramsHave}

pub programs_have : ProgramsHave
unfolding digits
programs_have = record {
  absolute = refl;
  a_loop = refl;
  a_part = refl;
  a_copy = refl;
  a_choice = refl;
  a_difference = refl;
  an_equality = refl;
  a_test = refl;
  a_type = refl;
}
