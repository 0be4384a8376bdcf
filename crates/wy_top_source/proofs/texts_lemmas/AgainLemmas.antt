-- The layout of a source is read again as the source's program, and is its own layout.
use Rattle.std.proofs.Common.{◌≡◌, ℕ, List, refl, subst}
use Rattle.wy_ast.specs.declared.declarations.Program.{Program}
use Rattle.wy_print_laws.specs.wy_parse_front.Front as front
use Rattle.wy_print.specs.ProgramText.{program_text}
use Rattle.wy_print_laws.proofs.round_lemmas.OneProgram.{reads-same}
use Rattle.wy_print_laws.proofs.round_lemmas.ProgramRound.{reads-again}
use Rattle.wy_print_laws.specs.round.ReadAgain.{IsSource}
use Rattle.wy_top_source.specs.texts.Again.{IsAgain, IsReadAgain}
use Rattle.wy_top_source.specs.texts.Texts.{IsLayout, IsText}
use Rattle.wy_top_source.specs.declared.texts.kind.Kind.{Kind}
use Rattle.wy_top_source.specs.declared.texts.kind.Kind.TheVariants.{Layout, Listing}

as_source : (bytes : List ℕ) (p : Program) → front.Spells bytes p → IsSource bytes p
as_source bytes p s = record { tokens = s.tokens; cut = s.cut; derives = s.holds }

as_spelled : (bytes : List ℕ) (p : Program) → IsSource bytes p → front.Spells bytes p
as_spelled bytes p s = record { tokens = s.tokens; cut = s.cut; holds = s.derives }

printed_again : (bytes : List ℕ) (p : Program) → front.Spells bytes p → IsReadAgain bytes (program_text p)
printed_again bytes p s =
    let source = as_source bytes p s in
    let again = reads-again bytes p source in
    record {
      program = p;
      spelled = s;
      printed = refl;
      own = record { program = again.tree; spelled = as_spelled (program_text p) again.tree again.source; printed = again.same.same_text };
      same = λ other h. reads-same bytes p other source (as_source (program_text p) other h);
    }

laid_out_again : (bytes text : List ℕ) → IsLayout bytes text → IsReadAgain bytes text
laid_out_again bytes text h = subst (IsReadAgain bytes) h.printed (printed_again bytes h.program h.spelled)

pub read_again : (kind : Kind) (bytes text : List ℕ) → IsText kind bytes text → IsAgain kind bytes text
read_again Layout bytes text h = laid_out_again bytes text h
read_again Listing bytes text h = tt
