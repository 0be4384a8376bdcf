use Rattle.std.proofs.Common.{◌∙◌, ◌&&◌, Bool, ap}
use Rattle.wy_vc_tables.specs.program_names.Described.{is_number_in}
use Rattle.wy_vc_terms.proofs.values.are_numbers.Goals as goal

pub returns : goal.returns
returns c = record {
  value = λ k m e f.
      c.both_are.ensures.value
      ∙ (ap (λ (x : Bool). x && c.is_number-b.result) (c.is_number-a.ensures.value k e) ∙ ap (λ (x : Bool). is_number_in c.args.program.now.is_number.items k && x) (c.is_number-b.ensures.value m f));
}
