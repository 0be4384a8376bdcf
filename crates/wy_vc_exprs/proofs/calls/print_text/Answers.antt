use Rattle.std.proofs.Common.{suc, refl}
use Rattle.wy_term.specs.Nodes.{tree_at}
use Rattle.wy_term.specs.declared.cond.CondKind.TheVariants as kind
use Rattle.wy_vc_terms.specs.wy_vc_spec.Calls.{are_characters}
use Rattle.wy_vc_terms.specs.wy_vc_spec.Clauses.{one_goal, pass_goals}
use Rattle.wy_vc_terms.specs.wy_vc_spec.Values.{valued}
use Rattle.wy_vc_exprs.proofs.StepLemmas.{name_count}
use Rattle.wy_vc_exprs.specs.State.{hyps_of}
use Rattle.wy_vc_exprs.proofs.StateLemmas.{sound_made}
use Rattle.wy_vc_exprs.proofs.ClauseLemmas.{goal_owed}
use Rattle.wy_vc_exprs.proofs.CalleeLemmas.{characters_made, text_within}
use Rattle.wy_vc_exprs.proofs.GivenLemmas.{then_made}
use Rattle.wy_vc_exprs.proofs.calls.print_text.Goals as goal

pub are_characters-requires : goal.are_characters-requires
are_characters-requires c = text_within _ _ _ c.in_ok-number.ensures.after c.requires.text

pub owe-requires-clause-sound : goal.owe-requires-clause-sound
owe-requires-clause-sound c =
    let n = characters_made _ _ _ _ _ _ c.in_ok-number.ensures.value c.in_ok-number.ensures.after c.requires.text c.in_ok-goal.ensures.made in
    sound_made _ _ c.requires.sound n.kept refl refl

pub returns-clause-value : goal.returns-clause-value
returns-clause-value c =
    let a = c.args.walk.now in
    let n = characters_made _ _ _ _ _ _ c.in_ok-number.ensures.value c.in_ok-number.ensures.after c.requires.text c.in_ok-goal.ensures.made in
    let v = valued (suc a.maker.count) (are_characters (tree_at a.maker.terms c.args.text) a.maker.count) in
    let s = goal_owed kind.Requires c.args.at a _ c.owe.new.self c.in_ok-goal.goal v c.requires.sound (record { term = n; names = name_count _ _ c.in_ok-number.ensures.after }) refl refl c.in_ok-owe.ensures.value in
    let made = c.in_ok-made.ensures.made in
    record { steps = then_made a c.owe.new.self _ (pass_goals kind.Requires c.args.at (one_goal v) (hyps_of a)) s made.kept refl refl refl; is = made.here }
