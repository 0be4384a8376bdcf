use Rattle.std.proofs.Common.{false, List, length, ◌∙◌, sym, ap, refl, rules, arith}
use Rattle.wy_ast.specs.declared.statements.Stmt.{Stmt}
use Rattle.wy_parse.specs.declared.blocks.Progress.{Progress}
use Rattle.wy_parse_grammar.specs.declared.measured.Measured.TheVariants.{Low}
use Rattle.wy_parse.proofs.OpenBlocks.{begins, block_ends, end_stops, fits_width, stops}
use Rattle.wy_parse.proofs.blocks.statements.Goals as goal

pub pieces-init : goal.pieces-init
pieces-init g c =
    let p : Progress = record { switches = c.new.result; made = Low c.new-2.result 0; begun = false } in (
      begins c.args.levels p c.args.tokens.now c.new.ensures (ap (λ (ss : List Stmt). Low ss 0) c.new-2.ensures) refl,
      omega (arith, ap length c.new.ensures),
      fits_width (length c.args.tokens.now) (omega (arith, c.count.ensures, c.count.type_inv)),
    )

pub returns-in_err-rest : goal.returns-in_err-rest
returns-in_err-rest g c =
    stops _ c.in_err-rest.field-0.0 c.from_residual.result (search rules)
    (λ n. c.pieces.invariant.0 ∙ end_stops c.args.levels c.pieces.progress c.pieces.rest.now (sym c.halts.ensures ∙ c.if-halts.true) c.in_err-rest.field-0.0 (c.in_err-rest.ensures n))

pub returns-then-is_empty : goal.returns-then-is_empty
returns-then-is_empty g c =
    c.pieces.invariant.0
    ∙ block_ends c.args.levels c.pieces.progress c.pieces.rest.now (sym c.halts.ensures ∙ c.if-halts.true) c.in_ok-rest.field-0-0 c.in_ok-rest.rest.now c.in_ok-rest.ensures
    (c.is_empty.ensures.0 c.if-is_empty.true)
