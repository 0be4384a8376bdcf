use Rattle.std.proofs.Common.{◌≡◌, ◌-◌, ◌∙◌, ℕ, false, slice_index_or, ap, arith}
use Rattle.wy_vc_terms.proofs.words.is_number.Goals as goal

pub returns-then-next-eq0 : goal.returns-then-next-eq0
returns-then-next-eq0 c = record { value = λ k e. absurd (omega (arith, e, c.if-next-eq0.true)) }

pub returns : goal.returns
returns c = record {
  value = λ k e.
      let n : c.args.next - 1 ≡ k.number = omega (arith, e) in
      c.is_number_at.ensures.value ∙ ap (λ (m : ℕ). slice_index_or c.args.program.now.is_number.items m false) n;
}
