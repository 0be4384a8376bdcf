-- What is taken is a source that was loaded and imports nothing.
use Rattle.std.proofs.Common.{◌≡◌, ◌∙◌, ℕ, List, [], ◌∷◌, Ok, Err, refl, sym, ap, subst}
use Rattle.wy_parse_front.specs.Front.{Spells}
use Rattle.wy_top_answers.specs.Loading.{Loads, source_limit}
use Rattle.wy_top_answers.specs.Steps.{Came, Follows, ends, goes_on, stated}
use Rattle.wy_top_answers.specs.declared.answer.Answer.{Answer}
use Rattle.wy_link_load.specs.Alone.{TakesWhatImportsNothing, takes_with}
use Rattle.wy_link_load.specs.declared.file.SourceFile.{SourceFile}
use Rattle.wy_link_load.specs.declared.loading.Sources.{Sources}

no_value : {X : Type 0} (x : X) (a : Answer) → (let r : Came X = Ok x in r ≡ Err a) → ⊥
no_value x a e = absurd cc

one_value : {X : Type 0} (x y : X) → (let r : Came X = Ok x in r ≡ Ok y) → x ≡ y
one_value x y e = cc

-- two steps that come to a value
record Both {X Y : Type 0} (first : Came X → Type 0) (next : X → Came Y → Type 0) (y : Y) : Type 0 where
  value : X
  came : first (Ok value)
  then : next value (Ok y)

both : {X Y : Type 0} (first : Came X → Type 0) (next : X → Came Y → Type 0) (y : Y) → Follows first next (Ok y) → Both first next y
both first next y (goes_on x h g) = record { value = x; came = h; then = g }
both first next y (ends a h e) = absurd (no_value y a e)

record Takes (source : SourceFile) (imports : List (List ℕ × ℕ)) (bytes : List ℕ) : Type 0 where
  same : bytes ≡ source.bytes
  none : imports ≡ []

taken : (source : SourceFile) (imports : List (List ℕ × ℕ)) (bytes : List ℕ) → takes_with source imports stated (Ok bytes) → Takes source imports bytes
taken source [] bytes h = record { same = one_value bytes source.bytes h; none = refl }
taken source (import ∷ imports) bytes h = absurd (no_value bytes _ h)

pub takes_nothing : TakesWhatImportsNothing
takes_nothing s name bytes h =
    let loading = both _ _ bytes h in
    let reading = both _ _ loading.value loading.came in
    let behind = both _ _ loading.value reading.then in
    let file = both _ _ reading.value reading.came in
    let source : loading.value.source ≡ reading.value = ap (λ (r : Sources). r.source) (one_value loading.value _ behind.then) in
    let is = taken loading.value.source loading.value.source.program.imports bytes loading.then in
    let holds : bytes ≡ file.value = is.same ∙ (ap (λ (f : SourceFile). f.bytes) source ∙ file.then.holds) in
    record {
      loads = subst (λ (b : List ℕ). Loads s name source_limit b) (sym holds) file.came;
      program = reading.value.program;
      spelled = subst (λ (b : List ℕ). Spells b reading.value.program) (sym holds) file.then.spelled;
      nothing = sym (ap (λ (f : SourceFile). f.program.imports) source) ∙ is.none;
    }
