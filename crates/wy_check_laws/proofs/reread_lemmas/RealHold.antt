-- Each row holds by computing.
use Rattle.std.proofs.Common.{refl}
use Rattle.wy_check_laws.specs.reread.RealExamples.{RealCertificates}

pub real_hold : RealCertificates
real_hold = record {
  row_1 = refl;
  row_2 = refl;
  row_3 = refl;
  row_4 = refl;
  row_5 = refl;
  row_6 = refl;
  row_7 = refl;
  row_8 = refl;
  row_9 = refl;
  row_10 = refl;
  row_11 = refl;
  row_12 = refl;
  row_13 = refl;
  row_14 = refl;
  row_15 = refl;
  row_16 = refl;
  row_17 = refl;
  row_18 = refl;
  row_19 = refl;
  row_20 = refl;
  row_21 = refl;
  row_22 = refl;
  row_23 = refl;
  row_24 = refl;
  row_25 = refl;
  row_26 = refl;
  row_27 = refl;
  row_28 = refl;
  row_29 = refl;
  row_30 = refl;
  row_31 = refl;
  row_32 = refl;
  row_33 = refl;
  row_34 = refl;
  row_35 = refl;
  row_36 = refl;
  row_37 = refl;
  row_38 = refl;
  row_39 = refl;
  row_40 = refl;
  row_41 = refl;
}
