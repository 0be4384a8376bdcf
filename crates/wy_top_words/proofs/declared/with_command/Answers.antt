use Rattle.std.proofs.Common.{rules, ap, ap₂, ◌≡◌, ◌∙◌}
use Rattle.std.proofs.lemmas.Result.{IfOk-weaker}
use Rattle.clap.specs.Simple.{App, app_of, with_rule, with_subcommand}
use Rattle.wy_top_words.specs.Line.{leaf_app}
use Rattle.wy_top_words.proofs.declared.with_command.Goals as goal

pub returns : goal.returns
returns c =
    let command_is : app_of c.in_ok-command.command ≡ leaf_app c.args.name.now =
    c.in_ok-command.ensures.shape (search rules)
    ∙ ap₂ with_rule (c.in_ok-arg-4.ensures.shape (search rules)
    ∙ ap₂ with_rule (c.in_ok-arg-3.ensures.shape (search rules)
    ∙ ap₂ with_rule (c.in_ok-arg-2.ensures.shape (search rules)
    ∙ ap₂ with_rule (c.in_ok-arg.ensures.shape (search rules) ∙ ap₂ with_rule c.new.ensures.app c.valued.ensures.rule) c.valued-2.ensures.rule) c.valued-3.ensures.rule) c.stats.ensures.rule) c.operands.ensures.rule in
    record { app = IfOk-weaker c.subcommand.result _ _ (λ m h. h.shape (search rules) ∙ ap (with_subcommand (app_of c.args.line)) (ap (λ (a : App). a.top) command_is)) c.subcommand.ensures }
