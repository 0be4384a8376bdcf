use Rattle.std.proofs.Common.{◌∙◌, ◌+◌, ◌-◌, ap}
use Rattle.wy_parse_front.proofs.lines_lemmas.StartLemmas.{place_is}
use Rattle.wy_parse_front.proofs.lines.starts.Lines.place.Goals as goal

pub returns : goal.returns
returns c =
    let n = c.started-started.result in
    record { value = λ bytes lines. ap (λ s. (n + 1, c.within-at.result - s + 1)) c.start-start.ensures.value ∙ place_is bytes c.args.self.now c.args.at c.within-at.result n lines (c.within-at.ensures.same bytes lines.end) c.within-at.ensures.bound c.started-started.ensures.bound c.started-started.ensures.before c.started-started.ensures.behind }
