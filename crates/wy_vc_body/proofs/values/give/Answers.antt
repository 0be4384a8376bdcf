use Rattle.std.proofs.Common.{List, ℕ, subst}
use Rattle.wy_vc_exprs.specs.wy_vc_spec.Large.{named}
use Rattle.std.specs.Option.{option_copied}
use Rattle.wy_term.specs.Nodes.{tree_at}
use Rattle.wy_vc_body.specs.Frames.{body_at}
use Rattle.wy_vc_body.specs.Named.{named_walk}
use Rattle.wy_vc_body.specs.Types.{or_any}
use Rattle.wy_vc_exprs.specs.State.{Walks, hyps_of}
use Rattle.wy_vc_body.proofs.ValueLemmas.{given_went}
use Rattle.wy_vc_body.proofs.values.give.Goals as goal

pub returns-clause-value : goal.returns-clause-value
returns-clause-value c =
    let a = c.args.walk.now in
    let b = c.owe_declared.new.walk in
    let term = subst (λ (ws : List (List ℕ)). Walks b c.named.new.walk c.in_ok-term.term (named_walk (named ws c.args.x (tree_at b.maker.terms c.args.value) (hyps_of b) b.maker.count))) c.as_slice-words.ensures c.in_ok-term.ensures.value in
    given_went (body_at a.maker.terms c.args.frame.now) c.args.at (or_any (option_copied c.args.ty)) c.args.x c.args.value c.in_ok-term.term a b c.named.new.walk c.args.here.now c.assign.new.self
    c.requires.slots c.requires.within c.in_ok-owe_declared.ensures.value term c.in_ok-assign.ensures.vars c.in_ok-assign.ensures.set
