-- Steps one behind the other, and the answers with which they end.
use Rattle.std.proofs.Common.{◌≡◌, ℕ, List, [], Ok, Err, sym, subst}
use Rattle.wy_port.specs.declared.files.LoadFault.{LoadFault}
use Rattle.wy_port.specs.declared.files.LoadFault.TheVariants as load
use Rattle.wy_top.specs.wy_cert.Steps.{Certificates}
use Rattle.wy_top.specs.wy_link_load.Alone.{loads_alone}
use Rattle.wy_top.specs.wy_top_answers.Answers.{refused}
use Rattle.wy_top.specs.wy_top_answers.Loading.{loaded}
use Rattle.wy_top.specs.wy_top_answers.Steps.{Came, Follows, IsOutside, Setting, ends, failed, goes_on, memory, stated}
use Rattle.wy_top.specs.wy_top_answers.Texts.{load_status, load_text}
use Rattle.wy_top.specs.wy_top_answers.declared.answer.Answer.{Answer}
use Rattle.wy_top.specs.wy_top_answers.supplied.Certificates.{certificates, from_file, without}
use Rattle.wy_top.proofs.wy_link_load_proofs.AnswerLemmas.{Covers, alone_covered}
use Rattle.wy_top.specs.Acceptance.{accepts, accepts_file, accepts_source}
use Rattle.wy_top.specs.Programs.{Program, owes}

-- ---- what a step came to

pub value_is : {X : Type 0} (x y : X) → (let r : Came X = Ok x in r ≡ Ok y) → x ≡ y
value_is x y e = cc

pub err_is : {X : Type 0} (a b : Answer) → (let r : Came X = Err a in r ≡ Err b) → a ≡ b
err_is a b e = cc

pub no_value : {X : Type 0} (x : X) (a : Answer) → (let r : Came X = Err a in r ≡ Ok x) → ⊥
no_value x a e = absurd cc

pub no_err : {X : Type 0} (x : X) (a : Answer) → (let r : Came X = Ok x in r ≡ Err a) → ⊥
no_err x a e = absurd cc

-- where two steps come to a value, so does the first
pub record Both {X Y : Type 0} (first : Came X → Type 0) (next : X → Came Y → Type 0) (y : Y) : Type 0 where
  pub value : X
  pub came : first (Ok value)
  pub then : next value (Ok y)

pub both_came : {X Y : Type 0} (first : Came X → Type 0) (next : X → Came Y → Type 0) (y : Y) → Follows first next (Ok y) → Both first next y
both_came first next y (goes_on x h g) = record { value = x; came = h; then = g }
both_came first next y (ends a h e) = absurd (no_err y a e)

-- an answer of the first or of the second step
pub of_steps : {X Y : Type 0} (P : Answer → Type 0) (first : Came X → Type 0) (next : X → Came Y → Type 0) → ((a : Answer) → first (Err a) → P a) → ((x : X) (a : Answer) → next x (Err a) → P a) → (a : Answer) → Follows first next (Err a) → P a
of_steps P first next one two a (goes_on x h g) = two x a g
of_steps P first next one two a (ends b h e) = subst P (sym (err_is a b e)) (one b h)

-- ---- why a source isn't accepted

-- what holds of each of these answers
pub record Refuses (P : Answer → Type 0) : Type 0 where
  pub not_loaded : (fault : LoadFault) (name : List ℕ) → P (refused (load_status fault) (load_text name fault))
  pub refuses : (lines : List ℕ) → P (refused 1 lines)
  pub no_certificates : (lines : List ℕ) → P (refused 6 lines)

-- what holds of their statuses
pub by_status : (Q : ℕ → Type 0) → Q 1 → Q 3 → Q 4 → Q 6 → Q 9 → Q 10 → Refuses (λ a. Q a.status)
by_status Q one three four six nine ten = record { not_loaded = by; refuses = λ lines. one; no_certificates = λ lines. six }
  where
    by : (f : LoadFault) (name : List ℕ) → Q (refused (load_status f) (load_text name f)).status
    by load.Absent name = three
    by load.TooLong name = ten
    by load.Failed name = four
    by load.NoMemory name = nine

-- and of those of answers from outside
pub outside_by : (Q : ℕ → Type 0) → Q 4 → Q 9 → (s : Setting) (a : Answer) → IsOutside s a → Q a.status
outside_by Q four nine s a (memory e) = subst (λ (b : Answer). Q b.status) (sym e) nine
outside_by Q four nine s a (failed name e rose) = subst (λ (b : Answer). Q b.status) (sym e) four

module _ (P : Answer → Type 0) (c : Refuses P) where
  pub loaded_refused : (s : Setting) (name : List ℕ) (limit : ℕ) (a : Answer) → loaded s name limit stated (Err a) → P a
  loaded_refused s name limit a h = subst P (sym h.answer) (c.not_loaded h.fault name)

  pub alone_refused : (s : Setting) (name : List ℕ) (a : Answer) → loads_alone s name stated (Err a) → P a
  alone_refused s name a h = let covers : Covers P = record { not_loaded = c.not_loaded; refuses = c.refuses } in alone_covered P covers s name a h

  pub owes_refused : (name bytes : List ℕ) (a : Answer) → owes name bytes stated (Err a) → P a
  owes_refused name bytes a h = subst P (sym h.answer) (c.refuses _)

  certificates_refused : (s : Setting) (name : List ℕ) (count : ℕ) (a : Answer) → certificates s name count stated (Err a) → P a
  certificates_refused s name count a (without is e) = absurd (no_value [] a e)
  certificates_refused s name count a (from_file is h) = of_steps P _ _ (λ b g. loaded_refused s name _ b g) (λ bytes b g. subst P (sym g.answer) (c.no_certificates _)) a h

  accepts_refused : (name cert bytes : List ℕ) (p : Program) (certs : Certificates) (budget : ℕ) (a : Answer) → accepts name cert bytes p certs budget stated (Err a) → P a
  accepts_refused name cert bytes p certs budget a h = subst P (sym h.answer) (c.refuses _)

  pub source_refused : (s : Setting) (name cert : List ℕ) (budget : ℕ) (bytes : List ℕ) (a : Answer) → accepts_source s name cert budget bytes stated (Err a) → P a
  source_refused s name cert budget bytes a h =
      of_steps P _ _ (λ b g. owes_refused name bytes b g) (λ p b g. of_steps P _ _ (λ d f. certificates_refused s cert _ d f) (λ certs d f. accepts_refused name cert bytes p certs budget d f) b g) a h

  pub file_refused : (s : Setting) (name cert : List ℕ) (budget : ℕ) (a : Answer) → accepts_file s name cert budget stated (Err a) → P a
  file_refused s name cert budget a h = of_steps P _ _ (λ b g. alone_refused s name b g) (λ bytes b g. source_refused s name cert budget bytes b g) a h
