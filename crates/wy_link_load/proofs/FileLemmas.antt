-- A file that was read is the one that its name and its bytes make, or the refusal of its text is the one that is due.
use Rattle.std.proofs.Common.{◌≡◌, ◌≢◌, ◌∙◌, ℕ, List, Result, Ok, Err, false, IsTrue, refl, sym, ap, subst}
use Rattle.wy_ast.specs.declared.declarations.Program.{Program}
use Rattle.wy_lemmas.proofs.Choices.{off as not_true}
use Rattle.wy_parse_front.specs.Faults as faults
use Rattle.wy_parse_front.specs.Front as front
use Rattle.wy_parse_front.specs.Places.{place_of}
use Rattle.wy_parse_front.specs.declared.fault.SourceFault.{SourceFault}
use Rattle.wy_parse_front.specs.declared.fault.SourceFault.TheVariants as source
use Rattle.wy_top_answers.specs.Calls.{AnswersFault}
use Rattle.wy_top_answers.specs.Steps.{Gives, Setting}
use Rattle.wy_top_answers.specs.declared.answer.Answer.{Answer}
use Rattle.wy_top_answers.specs.report.Lines.{source_fault}
use Rattle.wy_top_answers.proofs.CallLemmas.{called_fault, called_value}
use Rattle.wy_link_load.specs.Files.{IsFile, fault_line, is_faulted, spelled, text_faults, text_line}
use Rattle.wy_link_load.specs.declared.file.SourceFile.{SourceFile}

-- the line at what was found to be the place of an offset
pub located : (name bytes : List ℕ) (at_line column at : ℕ) (word : List ℕ) → (at_line, column) ≡ place_of bytes at
    → source_fault name at_line column word ≡ source_fault name (place_of bytes at).0 (place_of bytes at).1 word
located name bytes at_line column at word place = ap (λ (p : ℕ × ℕ). source_fault name p.0 p.1 word) place

-- ---- what reading answers

abbrev Reading : Type 0
Reading = Result Program SourceFault

abbrev pub Reads : List ℕ → Reading → Type 0
Reads bytes r = (p : Program) → front.Spells bytes p → front.Answers (Ok p) r

abbrev pub Faults : List ℕ → Reading → Type 0
Faults bytes r = (f : SourceFault) → front.IsDue bytes f → front.Answers (Err f) r

abbrev read_as : Program → Reading
read_as p = Ok p

abbrev fails_by : SourceFault → Reading
fails_by f = Err f

same_program : (p q : Program) → read_as q ≡ read_as p → q ≡ p
same_program p q e = cc

same_fault : (f g : SourceFault) → fails_by g ≡ fails_by f → f ≡ g
same_fault f g e = let same : g ≡ f = cc in sym same

never : (p : Program) (f : SourceFault) → read_as p ≡ fails_by f → ⊥
never p f e = absurd (cc)

no_program : (f : SourceFault) (p : Program) → fails_by f ≡ read_as p → ⊥
no_program f p e = absurd (cc)

memory : (f : SourceFault) → (f ≢ source.NoMemory → ⊥) → IsTrue (faults.is_no_memory f)
memory (source.NotUtf8 at) h = absurd (h (λ e. absurd (cc)))
memory (source.BadChar at) h = absurd (h (λ e. absurd (cc)))
memory (source.BadIndent at) h = absurd (h (λ e. absurd (cc)))
memory (source.BadNumeral at) h = absurd (h (λ e. absurd (cc)))
memory (source.OpenComment at) h = absurd (h (λ e. absurd (cc)))
memory (source.Unexpected at) h = absurd (h (λ e. absurd (cc)))
memory (source.Mixed at) h = absurd (h (λ e. absurd (cc)))
memory (source.Deep at) h = absurd (h (λ e. absurd (cc)))
memory (source.TooMany at) h = absurd (h (λ e. absurd (cc)))
memory source.NoMemory h = refl

apart : (f : SourceFault) → faults.is_no_memory f ≡ false → f ≢ source.NoMemory
apart f un_so e = not_true (sym (ap faults.is_no_memory e) ∙ un_so)

-- ---- the step

abbrev file_of : List ℕ → List ℕ → Program → SourceFile
file_of name bytes program = record { name = name; bytes = bytes; program = program }

one_file : (name bytes : List ℕ) (p : Program) → Reads bytes (Ok p) → (other : SourceFile) → IsFile name bytes other → file_of name bytes p ≡ other
one_file name bytes p reads other h =
    sym (ap (λ (n : List ℕ). file_of n other.bytes other.program) h.named
    ∙ (ap (λ (b : List ℕ). file_of name b other.program) h.holds ∙ ap (λ (q : Program). file_of name bytes q) (same_program p other.program (reads other.program h.spelled))))

value_of : (s : Setting) (name bytes : List ℕ) (p : Program) → front.Spells bytes p → Reads bytes (Ok p) → Faults bytes (Ok p) → Gives s (spelled name bytes) (Ok (file_of name bytes p))
value_of s name bytes p is reads exact =
    called_value s (λ m file. IsFile name bytes file) (text_faults name bytes) (is_faulted bytes) (file_of name bytes p) (record { named = refl; holds = refl; spelled = is })
    (λ other h. one_file name bytes p reads other h) (λ f due. no_program f p (exact f due))

-- the bytes are those that were read
pub spelled_value : (s : Setting) (name bytes read : List ℕ) (p : Program) → read ≡ bytes → front.Spells read p → Reads read (Ok p) → Faults read (Ok p) → Gives s (spelled name bytes) (Ok (file_of name bytes p))
spelled_value s name bytes read p same is reads exact = subst (λ (b : List ℕ). Gives s (spelled name b) (Ok (file_of name b p))) same (value_of s name read p is reads exact)

fault_of : (s : Setting) (name bytes : List ℕ) (f : SourceFault) (a : Answer) → front.IsRefused bytes f → Reads bytes (Err f) → Faults bytes (Err f)
    → AnswersFault (faults.is_no_memory f) 1 (text_line name bytes f) a → Gives s (spelled name bytes) (Err a)
fault_of s name bytes f a is reads exact answers =
    called_fault s (λ m file. IsFile name bytes file) (text_faults name bytes) (is_faulted bytes) f a (λ un_so. is)
    (λ file h. memory f (λ n. never file.program f (reads file.program h.spelled n))) (λ g due un_so. same_fault f g (exact g due (apart f un_so))) answers

pub spelled_fault : (s : Setting) (name bytes called read shown : List ℕ) (f : SourceFault) (a : Answer) → called ≡ name → read ≡ bytes → shown ≡ bytes → front.IsRefused read f → Reads read (Err f) → Faults read (Err f)
    → AnswersFault (faults.is_no_memory f) 1 (text_line called shown f) a → Gives s (spelled name bytes) (Err a)
spelled_fault s name bytes called read shown f a named same also is reads exact answers =
    let told = subst (λ (b : List ℕ). AnswersFault (faults.is_no_memory f) 1 (text_line called b f) a) (also ∙ sym same) answers in
    subst (λ (n : List ℕ). Gives s (spelled n bytes) (Err a)) named (subst (λ (b : List ℕ). Gives s (spelled called b) (Err a)) same (fault_of s called read f a is reads exact told))

-- the line of a fault, by its place and its word
pub line_of : (name bytes : List ℕ) (f : SourceFault) (at : ℕ) (called : List ℕ) → at ≡ faults.offset f → called ≡ faults.word f → fault_line name bytes at called ≡ text_line name bytes f
line_of name bytes f at called same is = ap (λ (n : ℕ). fault_line name bytes n called) same ∙ ap (λ (w : List ℕ). fault_line name bytes (faults.offset f) w) is
