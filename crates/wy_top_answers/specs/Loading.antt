-- What does loading a file come to?
use Rattle.std.specs.Prelude.{◌≡◌, ◌≤◌, ℕ, List, length, Ok, Err}
use Rattle.wy_port.specs.Told.{MayBe, IsMissing, IsTooLong}
use Rattle.wy_port.specs.declared.files.LoadFault.{LoadFault}
use Rattle.wy_port.specs.declared.files.LoadFault.TheVariants.{Absent, TooLong, Failed, NoMemory}
use Rattle.wy_top_answers.specs.Answers.{refused}
use Rattle.wy_top_answers.specs.Steps.{Came, IsTold, Sense, stated, due, Setting}
use Rattle.wy_top_answers.specs.Texts.{load_status, load_text}
use Rattle.wy_top_answers.specs.declared.answer.Answer.{Answer}

-- a source has at most 2^20 bytes
abbrev pub source_limit : ℕ
source_limit = 1048576

-- a certificate file has at most 2^24 bytes
abbrev pub certificate_limit : ℕ
certificate_limit = 16777216

-- the file was loaded: as far as is told these are its bytes, and they are within the limit
pub record Loads (s : Setting) (name : List ℕ) (limit : ℕ) (bytes : List ℕ) : Type 0 where
  pub told : MayBe (s.told name) bytes
  pub within : length bytes ≤ limit

-- the file is absent or too long; where it isn't told, its count of misses rose. A failure of the outside and want of memory follow from no file
abbrev pub LoadFails : Setting → List ℕ → ℕ → LoadFault → Type 0
LoadFails s name limit Absent = IsMissing (s.told name) (s.misses_before name) (s.misses_after name)
LoadFails s name limit TooLong = IsTooLong (s.told name) limit (s.misses_before name) (s.misses_after name)
LoadFails s name limit Failed = ⊥
LoadFails s name limit NoMemory = ⊥

-- the answer is the line of why the file isn't loaded
pub record IsNotLoaded (s : Setting) (name : List ℕ) (limit : ℕ) (a : Answer) : Type 0 where
  pub fault : LoadFault
  pub cause : LoadFails s name limit fault
  pub answer : a ≡ refused (load_status fault) (load_text name fault)

-- a load of this file came to its bytes, or to why it isn't loaded
abbrev pub came_to : Setting → List ℕ → ℕ → Came (List ℕ) → Type 0
came_to s name limit (Ok bytes) = Loads s name limit bytes
came_to s name limit (Err a) = IsNotLoaded s name limit a

-- a load of this file; what it comes to is due where the file is told
abbrev pub loaded : Setting → List ℕ → ℕ → Sense → Came (List ℕ) → Type 0
loaded s name limit stated r = came_to s name limit r
loaded s name limit due r = IsTold s name × came_to s name limit r
