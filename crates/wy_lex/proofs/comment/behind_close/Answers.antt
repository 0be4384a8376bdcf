use Rattle.std.proofs.Common.{◌+◌, ◌∙◌, sym, arith, rules}
use Rattle.wy_lex.specs.declared.symbol.Symbol.{Symbol}
use Rattle.wy_lex.proofs.TextLemmas.{closes_at}
use Rattle.wy_lex.proofs.comment.behind_close.Goals as goal

pub returns-then-next_is : goal.returns-then-next_is
returns-then-next_is c =
    let some : Symbol = record { character = 0; at = 0 } in
    sym c.loop-n.invariant
    ∙ closes_at c.args.text.now c.loop-n.n (c.loop-n.n + 1) (c.loop-n.n + 2) some (omega arith) (omega arith) (omega arith) (search (rules, c.if-text-n-eq42.true)) (sym c.next_is.ensures ∙ c.if-next_is.true)
