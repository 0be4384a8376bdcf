use Rattle.std.proofs.Common.{◌≡◌, ◌∙◌, codes, ap}
use Rattle.std.proofs.lemmas.Result.{IfOk-weaker}
use Rattle.clap.specs.Simple.{App}
use Rattle.wy_top_words.specs.CommandLine.{Text}
use Rattle.wy_top_words.specs.Line.{with_leaf}
use Rattle.wy_top_words.proofs.declared.command_line.Goals as goal

-- one command more
leaf : (a b c : App) (name : Text) → a ≡ with_leaf b name → b ≡ c → a ≡ with_leaf c name
leaf a b c name e f = e ∙ ap (λ x. with_leaf x name) f

pub returns : goal.returns
returns c =
    let check = leaf _ _ _ (codes "check") c.in_ok-line.ensures.app c.bare-line.ensures.app in
    let run = leaf _ _ _ (codes "run") c.in_ok-line-2.ensures.app check in
    let prove = leaf _ _ _ (codes "prove") c.in_ok-line-3.ensures.app run in
    let conds = leaf _ _ _ (codes "conds") c.in_ok-line-4.ensures.app prove in
    let fmt = leaf _ _ _ (codes "fmt") c.in_ok-line-5.ensures.app conds in
    let dis = leaf _ _ _ (codes "dis") c.in_ok-line-6.ensures.app fmt in
    let big = leaf _ _ _ (codes "big") c.in_ok-line-7.ensures.app dis in
    let probe = leaf _ _ _ (codes "probe") c.in_ok-line-8.ensures.app big in
    record { app = IfOk-weaker c.with_command-9.result _ _ (λ m h. leaf _ _ _ (codes "again") h probe) c.with_command-9.ensures.app }
