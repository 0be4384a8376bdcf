use Rattle.std.proofs.Common.{ℕ, subst}
use Rattle.wy_top_answers.specs.Answers.{IsRefusal}
use Rattle.wy_top_answers.specs.Texts as texts
use Rattle.wy_top_answers.proofs.loading.not_loaded.Goals as goal

pub returns : goal.returns
returns c =
    let text = texts.load_text c.args.name.now c.args.fault in
    record { value = subst (λ (n : ℕ). IsRefusal n text c.refusal.result) c.load_status.ensures.value (c.refusal.ensures.value text c.load_line.ensures.value) }
