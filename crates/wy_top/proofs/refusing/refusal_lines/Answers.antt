use Rattle.std.proofs.Common.{◌∙◌, length, refl}
use Rattle.wy_top.proofs.LineLemmas.{whole_lines}
use Rattle.wy_top.proofs.refusing.refusal_lines.Goals as goal

pub returns : goal.returns
returns c = record {
  value = λ nodes. whole_lines c.args.file.now c.args.source.now c.args.budget nodes c.args.conds.now c.args.verdicts.now c.in_ok-text.text.items c.extend_from_slice.new.self.items c.as_bytes.result.now (length c.args.verdicts.now) c.still_open.result c.spent.result
      c.in_ok-text.ensures.value refl c.still_open.ensures.value c.spent.ensures.value (c.as_bytes.ensures.value ∙ c.in_ok-sum.ensures.value) c.in_ok-extend_from_slice.ensures.items;
}
