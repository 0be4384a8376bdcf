-- A source has one text of a kind, or one refusal.
use Rattle.std.proofs.Common.{◌≡◌, ◌∙◌, ℕ, List, Result, Ok, Err, true, false, IsTrue, sym, ap}
use Rattle.wy_ast.specs.declared.declarations.Program.{Program}
use Rattle.wy_code.specs.Listing.{code_text}
use Rattle.wy_gen.specs.wy_code_spec.compiled.Programs.{code_of}
use Rattle.wy_core.specs.CoreTree.{Core}
use Rattle.wy_core.specs.Types.{Ty}
use Rattle.wy_print_laws.specs.wy_parse_front.Front as front
use Rattle.wy_print_laws.specs.wy_parse_front.declared.fault.SourceFault.{SourceFault}
use Rattle.wy_print.specs.ProgramText.{program_text}
use Rattle.wy_top_source.proofs.CoreLemmas.{Reads, Faults, text_exact, unread}
use Rattle.wy_top_source.specs.Refusals.{is_no_memory}
use Rattle.wy_top_source.specs.Sources as sources
use Rattle.wy_top_source.specs.declared.refusal.Refusal.{Refusal}
use Rattle.wy_top_source.specs.declared.refusal.Refusal.TheVariants.{Text, Name, Flow, Assign}
use Rattle.wy_top_source.specs.texts.Texts.{IsDue, IsText}
use Rattle.wy_top_source.specs.declared.texts.kind.Kind.TheVariants.{Layout, Listing}

-- ---- layouts

abbrev read_as : Program → Result Program SourceFault
read_as p = Ok p

abbrev fails_by : SourceFault → Result Program SourceFault
fails_by f = Err f

same_program : (p q : Program) → read_as q ≡ read_as p → p ≡ q
same_program p q e = sym (cc)

never : (p : Program) (f : SourceFault) → fails_by f ≡ read_as p → ⊥
never p f e = absurd (cc)

pub layout_is : (bytes text : List ℕ) (p : Program) → front.Spells bytes p → text ≡ program_text p → IsText Layout bytes text
layout_is bytes text p spelled is = record { program = p; spelled = spelled; printed = sym is }

pub layout_complete : (bytes text : List ℕ) (p : Program) → Reads bytes (Ok p) → text ≡ program_text p → (t : List ℕ) → IsText Layout bytes t → text ≡ t
layout_complete bytes text p reads is t h = is ∙ ap program_text (same_program p h.program (reads h.program h.spelled)) ∙ h.printed

pub layout_exact : (bytes : List ℕ) (p : Program) → Faults bytes (Ok p) → (f : Refusal) → IsDue Layout bytes f → ⊥
layout_exact bytes p faults (Text f) due = never p f (faults f due)
layout_exact bytes p faults (Name f) due = due
layout_exact bytes p faults (Flow f) due = due
layout_exact bytes p faults (Assign f) due = due

pub unread_complete : (bytes : List ℕ) (f : SourceFault) → Reads bytes (Err f) → (t : List ℕ) → IsText Layout bytes t → IsTrue (is_no_memory (Text f))
unread_complete bytes f reads t h = unread bytes f reads h.program h.spelled

pub unread_exact : (bytes : List ℕ) (f : SourceFault) → Reads bytes (Err f) → Faults bytes (Err f) → (g : Refusal) → IsDue Layout bytes g → is_no_memory (Text f) ≡ false → Text f ≡ g
unread_exact bytes f reads faults (Text g) due left = text_exact bytes f reads faults (Text g) tt due left
unread_exact bytes f reads faults (Name g) due left = absurd due
unread_exact bytes f reads faults (Flow g) due left = absurd due
unread_exact bytes f reads faults (Assign g) due left = absurd due

-- ---- listings

pub listing_is : (bytes text : List ℕ) (core : Core ℕ) (flow : List Ty) → sources.IsProgram bytes core flow → text ≡ code_text (code_of core) → IsText Listing bytes text
listing_is bytes text core flow h is = record { core = core; flow = flow; program = h; listed = sym is }

pub listing_complete : (bytes text : List ℕ) (core : Core ℕ) (own : List Ty) → ((c : Core ℕ) (flow : List Ty) → sources.IsProgram bytes c flow → (core ≡ c) × (own ≡ flow)) → text ≡ code_text (code_of core)
    → (t : List ℕ) → IsText Listing bytes t → text ≡ t
listing_complete bytes text core own complete is t h = is ∙ ap (λ (c : Core ℕ). code_text (code_of c)) (complete h.core h.flow h.program).0 ∙ h.listed

pub unlisted_complete : (bytes : List ℕ) (e : Refusal) → ((c : Core ℕ) (flow : List Ty) → sources.IsProgram bytes c flow → IsTrue (is_no_memory e)) → (t : List ℕ) → IsText Listing bytes t → IsTrue (is_no_memory e)
unlisted_complete bytes e complete t h = complete h.core h.flow h.program
