-- With which answers does loading end? That a file isn't loaded, or a refusal with status 1.
use Rattle.std.proofs.Common.{◌≡◌, ℕ, zero, suc, List, [], ◌∷◌, ◌++◌, Ok, Err, sym, subst}
use Rattle.wy_port.specs.declared.files.LoadFault.{LoadFault}
use Rattle.wy_top_answers.specs.Answers.{refused}
use Rattle.wy_top_answers.specs.Loading.{loaded, source_limit}
use Rattle.wy_top_answers.specs.Steps.{Came, Follows, Setting, ends, goes_on, stated}
use Rattle.wy_top_answers.specs.Texts.{load_status, load_text}
use Rattle.wy_top_answers.specs.declared.answer.Answer.{Answer}
use Rattle.wy_link_load.specs.Alone.{loads_alone, takes_with}
use Rattle.wy_link_load.specs.Files.{reads, spelled}
use Rattle.wy_link_load.specs.Imports.{import_file, import_of}
use Rattle.wy_link_load.specs.Loading.{Load, follows, loads, loads_behind, loads_file, loads_import, loads_imports}
use Rattle.wy_link_load.specs.declared.file.SourceFile.{SourceFile}
use Rattle.wy_link_load.specs.declared.importing.Import.{Import}
use Rattle.wy_link_load.specs.declared.importing.Import.TheVariants.{Loaded, New, Refused}

-- what holds of each of these answers
pub record Covers (P : Answer → Type 0) : Type 0 where
  pub not_loaded : (fault : LoadFault) (name : List ℕ) → P (refused (load_status fault) (load_text name fault))
  pub refuses : (lines : List ℕ) → P (refused 1 lines)

no_value : {X : Type 0} (x : X) (a : Answer) → (let r : Came X = Err a in r ≡ Ok x) → ⊥
no_value x a e = absurd cc

one_answer : {Y : Type 0} (a b : Answer) → (let r : Came Y = Err a in r ≡ Err b) → a ≡ b
one_answer a b e = cc

of_steps : {X Y : Type 0} (P : Answer → Type 0) (first : Came X → Type 0) (next : X → Came Y → Type 0) → ((a : Answer) → first (Err a) → P a) → ((x : X) (a : Answer) → next x (Err a) → P a)
    → (a : Answer) → Follows first next (Err a) → P a
of_steps P first next one two a (goes_on x h g) = two x a g
of_steps P first next one two a (ends b h e) = subst P (sym (one_answer a b e)) (one b h)

-- ---- one file

read_covered : (P : Answer → Type 0) → Covers P → (s : Setting) (name : List ℕ) (a : Answer) → reads s name stated (Err a) → P a
read_covered P c s name a h =
    of_steps P (loaded s name source_limit stated) (λ bytes. spelled name bytes stated) (λ b g. subst P (sym g.answer) (c.not_loaded g.fault name)) (λ bytes b g. subst P (sym g.answer) (c.refuses _)) a h

-- ---- imports

abbrev Covered : (Answer → Type 0) → Load → Type 0
Covered P load = (name : List ℕ) (finished : List SourceFile) (a : Answer) → load name finished stated (Err a) → P a

import_covered : (P : Answer → Type 0) → Covers P → (load : Load) → Covered P load → (file : SourceFile) (at : ℕ) (target : List ℕ) (finished : List SourceFile) (i : Import) (a : Answer)
    → follows load file at target finished i stated (Err a) → P a
import_covered P c load fine file at target finished Loaded a h = absurd (no_value finished a h)
import_covered P c load fine file at target finished New a h = fine target finished a h
import_covered P c load fine file at target finished (Refused fault) a h = subst P (sym (one_answer a _ h)) (c.refuses _)

imports_covered : (P : Answer → Type 0) → Covers P → (load : Load) → Covered P load → (room : ℕ) (stack : List (List ℕ)) (file : SourceFile) (earlier rest : List (List ℕ × ℕ)) (finished : List SourceFile) (a : Answer)
    → loads_imports load room stack file earlier rest finished stated (Err a) → P a
imports_covered P c load fine room stack file earlier [] finished a h = absurd (no_value finished a h)
imports_covered P c load fine room stack file earlier (import ∷ imports) finished a h =
    of_steps P (loads_import load room stack file earlier import finished stated) (λ files. loads_imports load room stack file (earlier ++ import ∷ []) imports files stated)
    (λ b g. import_covered P c load fine file import.1 (import_file file.name import.0) finished (import_of room stack finished earlier import.0 (import_file file.name import.0)) b g)
    (λ files b g. imports_covered P c load fine room stack file (earlier ++ import ∷ []) imports files b g) a h

file_covered : (P : Answer → Type 0) → Covers P → (s : Setting) (room : ℕ) (stack : List (List ℕ)) → Covered P (loads_file room s stack)
unfolding loads_file
file_covered P c s zero stack name finished a h = absurd h
file_covered P c s (suc room) stack name finished a h =
    of_steps P (reads s name stated) _ (λ b g. read_covered P c s name b g)
    (λ file b g. of_steps P _ _ (λ d f. imports_covered P c (loads_file room s (stack ++ file.name ∷ [])) (file_covered P c s room (stack ++ file.name ∷ [])) room (stack ++ file.name ∷ []) file [] file.program.imports finished d f)
    (λ files d f. absurd (no_value _ d f)) b g) a h

-- ---- the whole

behind_covered : (P : Answer → Type 0) → Covers P → (s : Setting) (source : SourceFile) (a : Answer) → loads_behind s source stated (Err a) → P a
behind_covered P c s source a h =
    let stack = source.name ∷ [] in
    of_steps P _ _ (λ b g. imports_covered P c (loads_file 63 s stack) (file_covered P c s 63 stack) 63 stack source [] source.program.imports [] b g) (λ files b g. absurd (no_value _ b g)) a h

taken_covered : (P : Answer → Type 0) → Covers P → (source : SourceFile) (imports : List (List ℕ × ℕ)) (a : Answer) → takes_with source imports stated (Err a) → P a
taken_covered P c source [] a h = absurd (no_value source.bytes a h)
taken_covered P c source (import ∷ imports) a h = subst P (sym (one_answer a _ h)) (c.refuses _)

-- each answer with which it ends is one of these
pub alone_covered : (P : Answer → Type 0) → Covers P → (s : Setting) (name : List ℕ) (a : Answer) → loads_alone s name stated (Err a) → P a
alone_covered P c s name a h =
    of_steps P (loads s name stated) _ (λ b g. of_steps P (reads s name stated) _ (λ d f. read_covered P c s name d f) (λ source d f. behind_covered P c s source d f) b g)
    (λ sources b g. taken_covered P c sources.source sources.source.program.imports b g) a h
