use Rattle.std.proofs.Common.{◌≡◌, ◌+◌, suc, ◌∙◌, ap, arith}
use Rattle.wy_live.specs.Sets.{with, longer}
use Rattle.wy_live.specs.Words.{shown}
use Rattle.wy_live.proofs.KeptLemmas.{shown_with}
use Rattle.wy_live.proofs.sets.Variables.insert.Goals as goal

pub returns : goal.returns
returns c =
    let new = c.put.new.words.items in
    let next : c.args.variable + 1 ≡ suc c.args.variable = omega arith in
    record {
      value = ap (λ k. shown new k) (c.longer-self-inside.ensures.value ∙ ap (λ k. longer c.self.inside.count k) next)
          ∙ (shown_with c.self.inside.words.items c.self.inside.count c.self.invariant new c.args.variable c.in_ok-put.ensures.value
          ∙ ap (λ s. with s c.args.variable) c.self.view_is);
    }
