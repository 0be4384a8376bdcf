use Rattle.std.proofs.Common.{◌≡◌, ◌-◌, [], ◌∷◌, ℕ, IfOk, codes, rules, subst}
use Rattle.std.specs.Fmt.{decimal}
use Rattle.std.specs.String.{string_bytes}
use Rattle.wy_top_probe.specs.wy_top_answers.report.Lines.{line}
use Rattle.wy_top.proofs.repeating.accepted_line.Goals as goal

pub returns : goal.returns
returns c =
    let rest : c.saturating_sub-searched.result ≡ c.args.count - c.args.kept = search rules in
    let told : IfOk c.format.result (λ s. string_bytes s ≡ line (codes "accepted " ∷ decimal c.args.count ∷ codes " conditions, " ∷ decimal c.args.kept ∷ codes " kept, " ∷ decimal c.saturating_sub-searched.result ∷ codes " searched" ∷ [])) = search rules in
    record {
      value = subst (λ (n : ℕ). IfOk c.format.result (λ s. string_bytes s ≡ line (codes "accepted " ∷ decimal c.args.count ∷ codes " conditions, " ∷ decimal c.args.kept ∷ codes " kept, " ∷ decimal n ∷ codes " searched" ∷ []))) rest told;
    }
