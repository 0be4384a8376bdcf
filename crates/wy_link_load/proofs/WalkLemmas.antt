-- The steps of loading, as the walk takes them.
use Rattle.std.proofs.Common.{◌≡◌, ◌∙◌, ◌<◌, ◌+◌, ◌-◌, ℕ, zero, suc, List, [], ◌∷◌, ◌++◌, length, take, drop, get_or, Option, Some, None, MatchOption, IfOk, IfErr, Ok, Err, arith, refl, sym, ap, subst}
use Rattle.std.proofs.lemmas.List.{drop_more, take_more}
use Rattle.wy_top_answers.specs.Answers.{no_memory}
use Rattle.wy_top_answers.specs.Steps.{Came, Gives, Setting, and_then, came}
use Rattle.wy_top_answers.specs.declared.answer.Answer.{Answer}
use Rattle.wy_top_answers.proofs.StepLemmas.{ends_there, goes, memory_gives, value_gives}
use Rattle.wy_link_load.specs.Files.{reads}
use Rattle.wy_link_load.specs.Imports.{import_file, import_of}
use Rattle.wy_link_load.specs.Loading.{Load, comes_to, finished_in, follows, loads_around, loads_behind, loads_file, loads_import, loads_imports}
use Rattle.wy_link_load.specs.declared.file.SourceFile.{SourceFile}
use Rattle.wy_link_load.specs.declared.importing.Import.{Import}
use Rattle.wy_link_load.specs.declared.loading.Loading.{Loading as Kept}
use Rattle.wy_link_load.specs.declared.loading.Sources.{Sources}

-- ---- single steps

pub comes : {X : Type 0} (s : Setting) (x : X) → Gives s (comes_to x) (Ok x)
comes s x = value_gives s (comes_to x) x refl (λ other h. h)

-- ---- the stack

no_end : (xs : List (List ℕ)) (x : List ℕ) → [] ≡ xs ++ x ∷ [] → ⊥
no_end [] x e = absurd cc
no_end (y ∷ ys) x e = absurd cc

outer_is : (outer inside : List (List ℕ)) (name last : List ℕ) → outer ++ name ∷ [] ≡ inside ++ last ∷ [] → inside ≡ outer
outer_is [] [] name last e = refl
outer_is [] (i ∷ is) name last e = let rest : [] ≡ is ++ last ∷ [] = cc in absurd (no_end is last rest)
outer_is (o ∷ os) [] name last e = let rest : [] ≡ os ++ name ∷ [] = sym cc in absurd (no_end os name rest)
outer_is (o ∷ os) (i ∷ is) name last e =
    let first : o ≡ i = cc in
    let rest : os ++ name ∷ [] ≡ is ++ last ∷ [] = cc in
    ap (λ (x : List ℕ). x ∷ is) (sym first) ∙ ap (λ (xs : List (List ℕ)). o ∷ xs) (outer_is os is name last rest)

-- what is left where the last one was taken off
pub popped : (old new : List (List ℕ)) (r : Option (List ℕ)) → MatchOption r ((old ≡ []) × (new ≡ [])) (λ last. old ≡ new ++ last ∷ []) → (outer : List (List ℕ)) (name : List ℕ) → old ≡ outer ++ name ∷ [] → new ≡ outer
popped old new None h outer name e = absurd (no_end outer name (sym h.0 ∙ e))
popped old new (Some last) h outer name e = outer_is outer new name last (sym e ∙ h)

-- ---- a file

pub loads_one : (s : Setting) (room : ℕ) (stack : List (List ℕ)) (name : List ℕ) (finished : List SourceFile) (r : Came (List SourceFile)) → 0 < room
    → Gives s (and_then (reads s name) (loads_around (loads_file (room - 1) s) (room - 1) stack finished)) r → Gives s (loads_file room s stack name finished) r
unfolding loads_file
loads_one s zero stack name finished r some g = absurd (omega (arith, some))
loads_one s (suc room) stack name finished r some g =
    let less : suc room - 1 ≡ room = omega arith in
    subst (λ (n : ℕ). Gives s (and_then (reads s name) (loads_around (loads_file n s) n stack finished)) r) less g

-- its imports were loaded in this state, which is that of the file
pub inside_as : (s : Setting) (room : ℕ) (stack inner : List (List ℕ)) (finished begun : List SourceFile) (file : SourceFile) (r : Came (List SourceFile)) → inner ≡ stack ++ file.name ∷ [] → begun ≡ finished
    → Gives s (loads_imports (loads_file room s inner) room inner file [] file.program.imports begun) r
    → Gives s (loads_imports (loads_file room s (stack ++ file.name ∷ [])) room (stack ++ file.name ∷ []) file [] file.program.imports finished) r
inside_as s room stack inner finished begun file r is same g =
    subst (λ (fs : List SourceFile). Gives s (loads_imports (loads_file room s (stack ++ file.name ∷ [])) room (stack ++ file.name ∷ []) file [] file.program.imports fs) r) same
    (subst (λ (st : List (List ℕ)). Gives s (loads_imports (loads_file room s st) room st file [] file.program.imports begun) r) is g)

pub around_gives : (s : Setting) (room : ℕ) (stack : List (List ℕ)) (finished files : List SourceFile) (file : SourceFile) (r : Came Kept)
    → Gives s (loads_imports (loads_file room s (stack ++ file.name ∷ [])) room (stack ++ file.name ∷ []) file [] file.program.imports finished) (Ok files)
    → IfOk r (λ after. after.finished ≡ files ++ file ∷ []) → IfErr r (λ a. a ≡ no_memory) → Gives s (loads_around (loads_file room s) room stack finished file) (came finished_in r)
around_gives s room stack finished files file (Ok after) g is memory =
    goes s (loads_imports (loads_file room s (stack ++ file.name ∷ [])) room (stack ++ file.name ∷ []) file [] file.program.imports finished) (λ fs. comes_to (fs ++ file ∷ [])) files (Ok after.finished) g
    (subst (λ (fs : List SourceFile). Gives s (comes_to (files ++ file ∷ [])) (Ok fs)) (sym is) (comes s (files ++ file ∷ [])))
around_gives s room stack finished files file (Err a) g is memory = memory_gives s (loads_around (loads_file room s) room stack finished file) a memory

pub around_stops : (s : Setting) (room : ℕ) (stack : List (List ℕ)) (finished : List SourceFile) (file : SourceFile) (a : Answer)
    → Gives s (loads_imports (loads_file room s (stack ++ file.name ∷ [])) room (stack ++ file.name ∷ []) file [] file.program.imports finished) (Err a)
    → Gives s (loads_around (loads_file room s) room stack finished file) (Err a)
around_stops s room stack finished file a g =
    ends_there s (loads_imports (loads_file room s (stack ++ file.name ∷ [])) room (stack ++ file.name ∷ []) file [] file.program.imports finished) (λ fs. comes_to (fs ++ file ∷ [])) a g

-- ---- the imports of a file, from the one with this index on

rest_is : (imports : List (List ℕ × ℕ)) (next : ℕ) (import : List ℕ × ℕ) → next < length imports → import ≡ get_or imports next import → drop next imports ≡ import ∷ drop (next + 1) imports
rest_is imports next import under is = drop_more imports next import under ∙ ap (λ (i : List ℕ × ℕ). i ∷ drop (next + 1) imports) (sym is)

earlier_is : (imports : List (List ℕ × ℕ)) (next : ℕ) (import : List ℕ × ℕ) → next < length imports → import ≡ get_or imports next import → take (next + 1) imports ≡ take next imports ++ import ∷ []
earlier_is imports next import under is = take_more imports next import under ∙ ap (λ (i : List ℕ × ℕ). take next imports ++ i ∷ []) (sym is)

-- the walk goes on in a state whose stack is the same
pub loads_next : (s : Setting) (room : ℕ) (stack inner : List (List ℕ)) (file : SourceFile) (seen imports : List (List ℕ × ℕ)) (next : ℕ) (import : List ℕ × ℕ) (finished more : List SourceFile) (r : Came (List SourceFile))
    → seen ≡ imports → next < length seen → import ≡ get_or seen next import → inner ≡ stack
    → Gives s (loads_import (loads_file room s stack) room stack file (take next seen) import finished) (Ok more)
    → Gives s (loads_imports (loads_file room s inner) room inner file (take (next + 1) imports) (drop (next + 1) imports) more) r
    → Gives s (loads_imports (loads_file room s stack) room stack file (take next imports) (drop next imports) finished) r
loads_next s room stack inner file seen imports next import finished more r known within found same given h =
    let load = loads_file room s stack in
    let under = subst (λ (xs : List (List ℕ × ℕ)). next < length xs) known within in
    let is = subst (λ (xs : List (List ℕ × ℕ)). import ≡ get_or xs next import) known found in
    let g = subst (λ (xs : List (List ℕ × ℕ)). Gives s (loads_import load room stack file (take next xs) import finished) (Ok more)) known given in
    let here = subst (λ (st : List (List ℕ)). Gives s (loads_imports (loads_file room s st) room st file (take (next + 1) imports) (drop (next + 1) imports) more) r) same h in
    let then = subst (λ (earlier : List (List ℕ × ℕ)). Gives s (loads_imports load room stack file earlier (drop (next + 1) imports) more) r) (earlier_is imports next import under is) here in
    subst (λ (rest : List (List ℕ × ℕ)). Gives s (loads_imports load room stack file (take next imports) rest finished) r) (sym (rest_is imports next import under is))
    (goes s (loads_import load room stack file (take next imports) import finished) (loads_imports load room stack file (take next imports ++ import ∷ []) (drop (next + 1) imports)) more r g then)

pub loads_stop : (s : Setting) (load : Load) (room : ℕ) (stack : List (List ℕ)) (file : SourceFile) (seen imports : List (List ℕ × ℕ)) (next : ℕ) (import : List ℕ × ℕ) (finished : List SourceFile) (a : Answer)
    → seen ≡ imports → next < length seen → import ≡ get_or seen next import
    → Gives s (loads_import load room stack file (take next seen) import finished) (Err a)
    → Gives s (loads_imports load room stack file (take next imports) (drop next imports) finished) (Err a)
loads_stop s load room stack file seen imports next import finished a known within found given =
    let under = subst (λ (xs : List (List ℕ × ℕ)). next < length xs) known within in
    let is = subst (λ (xs : List (List ℕ × ℕ)). import ≡ get_or xs next import) known found in
    let g = subst (λ (xs : List (List ℕ × ℕ)). Gives s (loads_import load room stack file (take next xs) import finished) (Err a)) known given in
    subst (λ (rest : List (List ℕ × ℕ)). Gives s (loads_imports load room stack file (take next imports) rest finished) (Err a)) (sym (rest_is imports next import under is))
    (ends_there s (loads_import load room stack file (take next imports) import finished) (loads_imports load room stack file (take next imports ++ import ∷ []) (drop (next + 1) imports)) a g)

-- ---- one import

pub follows_as : (s : Setting) (load : Load) (room : ℕ) (stack : List (List ℕ)) (file : SourceFile) (earlier : List (List ℕ × ℕ)) (import : List ℕ × ℕ) (finished : List SourceFile) (target : List ℕ) (i : Import) (r : Came (List SourceFile))
    → target ≡ import_file file.name import.0 → i ≡ import_of room stack finished earlier import.0 target
    → Gives s (follows load file import.1 target finished i) r → Gives s (loads_import load room stack file earlier import finished) r
follows_as s load room stack file earlier import finished target i r named is g =
    subst (λ (t : List ℕ). Gives s (follows load file import.1 t finished (import_of room stack finished earlier import.0 t)) r) named
    (subst (λ (j : Import). Gives s (follows load file import.1 target finished j) r) is g)

-- ---- the source

abbrev sources_of : SourceFile → List SourceFile → Sources
sources_of source files = record { imported = files; source = source }

behind_as : (s : Setting) (source : SourceFile) (stack : List (List ℕ)) (begun : List SourceFile) (r : Came (List SourceFile)) → stack ≡ source.name ∷ [] → begun ≡ []
    → Gives s (loads_imports (loads_file 63 s stack) 63 stack source [] source.program.imports begun) r
    → Gives s (loads_imports (loads_file 63 s (source.name ∷ [])) 63 (source.name ∷ []) source [] source.program.imports []) r
behind_as s source stack begun r is none g =
    subst (λ (fs : List SourceFile). Gives s (loads_imports (loads_file 63 s (source.name ∷ [])) 63 (source.name ∷ []) source [] source.program.imports fs) r) none
    (subst (λ (st : List (List ℕ)). Gives s (loads_imports (loads_file 63 s st) 63 st source [] source.program.imports begun) r) is g)

pub behind_gives : (s : Setting) (source : SourceFile) (stack : List (List ℕ)) (begun files : List SourceFile) → stack ≡ source.name ∷ [] → begun ≡ []
    → Gives s (loads_imports (loads_file 63 s stack) 63 stack source [] source.program.imports begun) (Ok files) → Gives s (loads_behind s source) (Ok (sources_of source files))
behind_gives s source stack begun files is none g =
    goes s (loads_imports (loads_file 63 s (source.name ∷ [])) 63 (source.name ∷ []) source [] source.program.imports []) (λ fs. comes_to (sources_of source fs)) files (Ok (sources_of source files))
    (behind_as s source stack begun (Ok files) is none g) (comes s (sources_of source files))

pub behind_stops : (s : Setting) (source : SourceFile) (stack : List (List ℕ)) (begun : List SourceFile) (a : Answer) → stack ≡ source.name ∷ [] → begun ≡ []
    → Gives s (loads_imports (loads_file 63 s stack) 63 stack source [] source.program.imports begun) (Err a) → Gives s (loads_behind s source) (Err a)
behind_stops s source stack begun a is none g =
    ends_there s (loads_imports (loads_file 63 s (source.name ∷ [])) 63 (source.name ∷ []) source [] source.program.imports []) (λ fs. comes_to (sources_of source fs)) a
    (behind_as s source stack begun (Err a) is none g)
