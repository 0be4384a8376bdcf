-- The text of a program spells that program alone, places aside.
use Rattle.std.proofs.Common.{◌≡◌, ℕ, List, subst}
use Rattle.wy_ast.specs.declared.declarations.Program.{Program}
use Rattle.wy_parse_front.specs.wy_lex.declared.token.Token.{Token}
use Rattle.wy_parse_front.proofs.wy_lex_proofs.Refusals.{one_reading}
use Rattle.wy_print.specs.ProgramText.{program_text}
use Rattle.wy_parse_front.specs.wy_parse.Derivation.{Derives}
use Rattle.wy_parse_front.proofs.wy_parse_proofs.ParseRefusals.{one_program}
use Rattle.wy_print_laws.specs.round.ReadAgain.{IsSource, IsSame}
use Rattle.wy_print_laws.proofs.round_lemmas.ProgramRound.{reads-again}

one-source : (bytes : List ℕ) (p q : Program) → IsSource bytes p → IsSource bytes q → p ≡ q
one-source bytes p q s u = one_program s.tokens p q s.derives (subst (λ (ts : List Token). Derives ts q) (one_reading bytes u.tokens s.tokens u.cut s.cut) u.derives)

pub reads-same : (bytes : List ℕ) (program other : Program) → IsSource bytes program → IsSource (program_text program) other → IsSame other program
reads-same bytes program other s u =
    let a = reads-again bytes program s in
    subst (λ (p : Program). IsSame p program) (one-source (program_text program) a.tree other a.source u) a.same
