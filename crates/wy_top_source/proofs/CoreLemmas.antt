-- A source has one core, or one refusal of its text or its names, so the answer is that one.
use Rattle.std.proofs.Common.{◌≡◌, ℕ, List, Result, Ok, Err, false, IsTrue, map, sym, ap, subst}
use Rattle.wy_ast.specs.SurfaceSeen.{seen_decl}
use Rattle.wy_ast.specs.declared.declarations.Program.{Program}
use Rattle.wy_core.specs.CoreSeen.{seen_core}
use Rattle.wy_core.specs.declared.declarations.Core.{Core}
use Rattle.wy_print_laws.specs.wy_parse_front.Faults as faults
use Rattle.wy_print_laws.specs.wy_parse_front.Front as front
use Rattle.wy_print_laws.specs.wy_parse_front.declared.fault.SourceFault.{SourceFault}
use Rattle.wy_names.proofs.resolved_lemmas.CoreLemmas.{named_once}
use Rattle.wy_names.proofs.resolved_lemmas.OnceLemmas.{not_both, refused_once}
use Rattle.wy_names.specs.Named as named
use Rattle.wy_names.specs.declared.name_fault.NameFault.{NameFault}
use Rattle.wy_top_source.proofs.MemoryLemmas.{text_memory, text_apart, name_memory, name_apart}
use Rattle.wy_top_source.specs.Refusals.{is_no_memory}
use Rattle.wy_top_source.specs.Sources.{HasCore, IsDue, IsEarly, IsRefused}
use Rattle.wy_top_source.specs.declared.refusal.Refusal.{Refusal}
use Rattle.wy_top_source.specs.declared.refusal.Refusal.TheVariants.{Text, Name, Flow, Assign}

abbrev Reading : Type 0
Reading = Result Program SourceFault

-- what a reading tells of the programs that the bytes spell, and of the fault that is due
abbrev pub Reads : List ℕ → Reading → Type 0
Reads bytes r = (p : Program) → front.Spells bytes p → front.Answers (Ok p) r

abbrev pub Faults : List ℕ → Reading → Type 0
Faults bytes r = (f : SourceFault) → front.IsDue bytes f → front.Answers (Err f) r

abbrev read_as : Program → Reading
read_as p = Ok p

abbrev fails_by : SourceFault → Reading
fails_by f = Err f

same_program : (p q : Program) → read_as q ≡ read_as p → q ≡ p
same_program p q e = cc

same_text : (f g : SourceFault) → fails_by f ≡ fails_by g → g ≡ f
same_text f g e = sym (cc)

never : (p : Program) (f : SourceFault) → read_as p ≡ fails_by f → ⊥
never p f e = absurd (cc)

-- ---- the bytes spell no program

pub unread : (bytes : List ℕ) (f : SourceFault) → Reads bytes (Err f) → (p : Program) → front.Spells bytes p → IsTrue (faults.is_no_memory f)
unread bytes f reads p spelled = text_memory f (λ n. never p f (reads p spelled n))

pub text_complete : (bytes : List ℕ) (f : SourceFault) → Reads bytes (Err f) → (core : Core) → HasCore bytes core → IsTrue (is_no_memory (Text f))
text_complete bytes f reads core h = unread bytes f reads h.program h.spelled

pub text_exact : (bytes : List ℕ) (f : SourceFault) → Reads bytes (Err f) → Faults bytes (Err f) → (g : Refusal) → IsEarly g → IsDue bytes g → is_no_memory (Text f) ≡ false → Text f ≡ g
text_exact bytes f reads exact (Text g) early due un_so = ap Text (same_text g f (exact g due (text_apart f un_so)))
text_exact bytes f reads exact (Name g) early due un_so = absurd (never due.program f (reads due.program due.spelled (text_apart f un_so)))
text_exact bytes f reads exact (Flow g) early due un_so = absurd early
text_exact bytes f reads exact (Assign g) early due un_so = absurd early

-- ---- the program is refused for its names

-- what is said of a program that the bytes spell is said of the one that was read
moved : (bytes : List ℕ) (p q : Program) (P : Program → Type 0) → Reads bytes (Ok p) → front.Spells bytes q → P q → P p
moved bytes p q P reads spelled h = subst P (same_program p q (reads q spelled)) h

pub name_complete : (bytes : List ℕ) (p : Program) (f : NameFault) → Reads bytes (Ok p) → named.Answers (map seen_decl p.decls) (Err f)
    → (core : Core) → HasCore bytes core → IsTrue (is_no_memory (Name f))
name_complete bytes p f reads answers core h =
    name_memory f (λ n. not_both (map seen_decl p.decls) core f (moved bytes p h.program (λ q. named.IsNamed (map seen_decl q.decls) core) reads h.spelled h.holds) (answers n))

pub name_exact : (bytes : List ℕ) (p : Program) (f : NameFault) → Reads bytes (Ok p) → Faults bytes (Ok p) → named.Answers (map seen_decl p.decls) (Err f)
    → (g : Refusal) → IsEarly g → IsDue bytes g → is_no_memory (Name f) ≡ false → Name f ≡ g
name_exact bytes p f reads exact answers (Text g) early due un_so = absurd (never p g (sym (exact g due)))
name_exact bytes p f reads exact answers (Name g) early due un_so =
    ap Name (refused_once (map seen_decl p.decls) f g (answers (name_apart f un_so)) (moved bytes p due.program (λ q. named.IsRefused (map seen_decl q.decls) g) reads due.spelled due.holds))
name_exact bytes p f reads exact answers (Flow g) early due un_so = absurd early
name_exact bytes p f reads exact answers (Assign g) early due un_so = absurd early

-- ---- the program has a core

pub core_complete : (bytes : List ℕ) (p : Program) (core : Core) → Reads bytes (Ok p) → named.IsNamed (map seen_decl p.decls) core
    → (other : Core) → HasCore bytes other → seen_core core ≡ seen_core other
core_complete bytes p core reads h other k =
    named_once (map seen_decl p.decls) core other h (moved bytes p k.program (λ q. named.IsNamed (map seen_decl q.decls) other) reads k.spelled k.holds)

pub core_exact : (bytes : List ℕ) (p : Program) (core : Core) → Reads bytes (Ok p) → Faults bytes (Ok p) → named.IsNamed (map seen_decl p.decls) core
    → (g : Refusal) → IsEarly g → IsDue bytes g → ⊥
core_exact bytes p core reads exact h (Text g) early due = never p g (sym (exact g due))
core_exact bytes p core reads exact h (Name g) early due =
    not_both (map seen_decl p.decls) core g h (moved bytes p due.program (λ q. named.IsRefused (map seen_decl q.decls) g) reads due.spelled due.holds)
core_exact bytes p core reads exact h (Flow g) early due = absurd early
core_exact bytes p core reads exact h (Assign g) early due = absurd early
