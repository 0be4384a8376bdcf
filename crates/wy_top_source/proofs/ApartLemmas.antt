-- A source that has a program is refused for nothing.
use Rattle.std.proofs.Common.{◌≡◌, ℕ, List, Result, Ok, Err, false, inl, inr, map, sym, subst}
use Rattle.wy_ast.specs.SurfaceSeen.{seen_decl}
use Rattle.wy_ast.specs.declared.declarations.Program.{Program}
use Rattle.wy_core.specs.CoreSeen.{seen_core}
use Rattle.wy_core.specs.CoreTree as tree
use Rattle.wy_core.specs.Types.{Ty}
use Rattle.wy_core.specs.declared.declarations.Core.{Core}
use Rattle.wy_assign.specs.Assigned as assign
use Rattle.wy_assign.specs.declared.fault.AssignFault.{AssignFault}
use Rattle.wy_assign.specs.declared.fault.AssignFault.TheVariants as assign_fault
use Rattle.wy_assign.specs.wy_flow_spec.typing.Outcomes.{Fails}
use Rattle.wy_assign.specs.wy_flow_spec.typing.Programs as typing
use Rattle.wy_flow.proofs.ProgramLemmas.{not_both as typed_once, same_flow}
use Rattle.wy_names.proofs.resolved_lemmas.OnceLemmas.{not_both as named_once}
use Rattle.wy_names.specs.Named as named
use Rattle.wy_print_laws.proofs.wy_parse_front_proofs.wy_lex_proofs.PlaceLemmas.{bad_char, not_valid}
use Rattle.wy_print_laws.proofs.wy_parse_front_proofs.wy_lex_proofs.Refusals.{no_reading_with_a_fault, one_reading, read-reads}
use Rattle.wy_print_laws.proofs.wy_parse_front_proofs.wy_parse_proofs.ParseRefusals.{no_high_program, no_program_that_leaves, no_program_with_a_fault}
use Rattle.wy_print_laws.specs.wy_parse_front.Faults as faults
use Rattle.wy_print_laws.specs.wy_parse_front.Front.{CutInto, IsRefused as IsUnread, Spells}
use Rattle.wy_print_laws.specs.wy_parse_front.declared.fault.SourceFault.{SourceFault}
use Rattle.wy_print_laws.specs.wy_parse_front.declared.fault.SourceFault.TheVariants as source
use Rattle.wy_print_laws.specs.wy_parse_front.wy_lex.Source.{Leaves, Tokens}
use Rattle.wy_print_laws.specs.wy_parse_front.wy_lex.declared.fault.Kind.TheVariants as lex_kind
use Rattle.wy_print_laws.specs.wy_parse_front.wy_lex.declared.fault.LexFault.{LexFault}
use Rattle.wy_print_laws.specs.wy_parse_front.wy_lex.declared.token.Token.{Token}
use Rattle.wy_print_laws.specs.wy_parse_front.wy_parse.Derivation.{Derives}
use Rattle.wy_print_laws.specs.wy_parse_front.wy_parse.wy_parse_grammar.declared.fault.Kind.TheVariants as kind
use Rattle.wy_top_source.proofs.OneLemmas.{one_named, one_spelled}
use Rattle.wy_top_source.specs.Refusals.{is_no_memory}
use Rattle.wy_top_source.specs.Sources.{HaveNoRefusal, IsProgram, IsRefused}
use Rattle.wy_top_source.specs.declared.refusal.Refusal.{Refusal}
use Rattle.wy_top_source.specs.declared.refusal.Refusal.TheVariants.{Text, Name, Flow, Assign}

-- ---- the text

cut_or_fault : (ts : List Token) (f : LexFault) → (let r : Result (List Token) LexFault = Err f in r ≡ Ok ts) → ⊥
cut_or_fault ts f e = absurd (cc)

no_reading_that_leaves : (bytes : List ℕ) (ts : List Token) (at : ℕ) → Tokens bytes ts → Leaves bytes at → ⊥
no_reading_that_leaves bytes ts at cut l = cut_or_fault ts _ (bad_char bytes (Ok ts) (read-reads bytes ts cut) at l (λ x place m. no_reading_with_a_fault bytes ts x place cut m))

-- the tokens are those of the program
derives : (bytes : List ℕ) (p : Program) (P : List Token → Type 0) → Spells bytes p → (h : CutInto bytes P) → Derives h.tokens p
derives bytes p P s h = subst (λ (ts : List Token). Derives ts p) (one_reading bytes s.tokens h.tokens s.cut h.cut) s.holds

-- bytes that spell a program aren't refused
pub text_apart : (bytes : List ℕ) (p : Program) (f : SourceFault) → Spells bytes p → faults.is_no_memory f ≡ false → IsUnread bytes f → ⊥
text_apart bytes p (source.NotUtf8 at) s known h = not_valid bytes at h s.cut.0
text_apart bytes p (source.BadChar at) s known (inl l) = no_reading_that_leaves bytes s.tokens at s.cut l
text_apart bytes p (source.BadChar at) s known (inr m) = no_reading_with_a_fault bytes s.tokens lex_kind.BadEscape at s.cut m
text_apart bytes p (source.BadIndent at) s known h = no_reading_with_a_fault bytes s.tokens lex_kind.BadIndent at s.cut h
text_apart bytes p (source.BadNumeral at) s known h = no_reading_with_a_fault bytes s.tokens lex_kind.BadNumeral at s.cut h
text_apart bytes p (source.OpenComment at) s known h = no_reading_with_a_fault bytes s.tokens lex_kind.OpenComment at s.cut h
text_apart bytes p (source.Unexpected at) s known h = no_program_that_leaves h.tokens p at (derives bytes p _ s h) h.holds
text_apart bytes p (source.Mixed at) s known h = no_program_with_a_fault h.tokens p kind.Mixed at (derives bytes p _ s h) h.holds
text_apart bytes p (source.Deep at) s known h = elim h.holds [
  | inl m ↦ no_program_with_a_fault h.tokens p kind.Deep at (derives bytes p _ s h) m
  | inr high ↦ no_high_program h.tokens p at (derives bytes p _ s h) high
]
text_apart bytes p (source.TooMany at) s known h = no_program_with_a_fault h.tokens p kind.TooMany at (derives bytes p _ s h) h.holds
text_apart bytes p source.NoMemory s known h = absurd (cc)

-- ---- what stands behind it

unassigned : (core : tree.Core ℕ) (f : AssignFault) → assign.IsAssigned core → assign.IsFault core f → ⊥
unassigned core (assign_fault.Unset at) a h = a.set at h.0
unassigned core (assign_fault.NoReturn at) a h = a.closed at h.0
unassigned core assign_fault.NoMemory a h = h

pub not_refused : HaveNoRefusal
not_refused bytes core flow (Text f) g known h = text_apart bytes g.named.program f g.named.spelled known h
not_refused bytes core flow (Name f) g known h =
    let same = one_spelled bytes g.named.program h.program g.named.spelled h.spelled in
    named_once (map seen_decl g.named.program.decls) g.core f g.named.holds (subst (λ (p : Program). named.IsRefused (map seen_decl p.decls) f) same h.holds)
not_refused bytes core flow (Flow f) g known h =
    typed_once (seen_core g.core) flow f g.holds.1 (subst (λ (c : tree.Core ℕ). typing.CoreTyped c (Fails f)) (one_named bytes h.core g.core h.named g.named) h.holds)
not_refused bytes core flow (Assign f) g known h =
    unassigned (seen_core g.core) f g.holds.2 (subst (λ (c : tree.Core ℕ). assign.IsFault c f) (one_named bytes h.core g.core h.named g.named) h.holds.2)

-- and it has one list of flow types
pub one_flow : (bytes : List ℕ) (core other : tree.Core ℕ) (flow own : List Ty) → IsProgram bytes core flow → IsProgram bytes other own → flow ≡ own
one_flow bytes core other flow own g h =
    same_flow (seen_core g.core) flow own g.holds.1 (subst (λ (c : tree.Core ℕ). typing.IsTyped c own) (one_named bytes h.core g.core h.named g.named) h.holds.1)
