use Rattle.std.proofs.Common.{◌≡◌, ◌∙◌, ◌++◌, ◌∷◌, [], ℕ, List, sym, ap, rules}
use Rattle.wy_vc_spec.specs.Limits.{is_among}
use Rattle.wy_vc.proofs.StandingLemmas.{joined_known, joined_new}
use Rattle.wy_vc.proofs.standing.put_new.Goals as goal

pub returns-then-known : goal.returns-then-known
returns-then-known c = record {
  value = joined_known c.args.types.now.items c.args.number (ap (λ (l : List ℕ). is_among l c.args.number) (sym c.as_slice.ensures.value) ∙ (sym c.is_one_of-known.ensures.value ∙ c.if-known.true));
}

pub returns : goal.returns
returns c =
    let pushed : c.push.new.self.items ≡ c.args.types.now.items ++ c.args.number ∷ [] = search rules in
    record { value = joined_new c.args.types.now.items c.push.new.self.items c.args.number pushed }
