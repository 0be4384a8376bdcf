-- What does reading the certificates that a command names come to?
use Rattle.std.specs.Prelude.{◌≡◌, ◌≢◌, ℕ, List, [], codes, Ok, Err}
use Rattle.wy_cert.specs.declared.fault.CertFault.{CertFault}
use Rattle.wy_cert.specs.declared.fault.CertFault.TheVariants.{BadHeader, BadStep, Truncated, TwiceCond, NoSuchCond, NoMemory}
use Rattle.wy_cert.specs.Only.{IsTheOne}
use Rattle.wy_cert.specs.Steps.{Certificates}
use Rattle.wy_cert.specs.File.{ReadsFile}
use Rattle.wy_top_answers.specs.Answers.{refused, no_memory, IsRefusal}
use Rattle.wy_top_answers.specs.Loading.{loaded, certificate_limit}
use Rattle.wy_top_answers.specs.Steps.{Came, Follows, IsTold, Sense, Setting}
use Rattle.wy_top_answers.specs.report.Lines.{certificate_fault}
use Rattle.wy_top_answers.specs.declared.answer.Answer.{Answer}

-- the word that stands for no certificates
abbrev pub no_file : List ℕ
no_file = codes "none"

-- the line of a fault of a certificate file; want of memory has none
abbrev pub fault_text : List ℕ → CertFault → List ℕ
fault_text name (BadHeader at_line) = certificate_fault name at_line (codes "BadHeader")
fault_text name (BadStep at_line) = certificate_fault name at_line (codes "BadStep")
fault_text name (Truncated at_line) = certificate_fault name at_line (codes "Truncated")
fault_text name (TwiceCond at_line) = certificate_fault name at_line (codes "TwiceCond")
fault_text name (NoSuchCond at_line) = certificate_fault name at_line (codes "NoSuchCond")
fault_text name NoMemory = []

-- the bytes are no certificates for so many conditions: this is their first fault, and its line is the answer
pub record AreNone (name : List ℕ) (count : ℕ) (bytes : List ℕ) (a : Answer) : Type 0 where
  pub fault : CertFault
  pub read : IsTheOne (ReadsFile count bytes) (Err fault)
  pub answer : a ≡ refused 6 (fault_text name fault)

-- bytes are read as certificates for so many conditions, or they have a first fault
abbrev pub certificates_read : List ℕ → ℕ → List ℕ → Came Certificates → Type 0
certificates_read name count bytes (Ok certs) = IsTheOne (ReadsFile count bytes) (Ok certs)
certificates_read name count bytes (Err a) = AreNone name count bytes a

-- no certificates are given by the word `none`; and else those of the file, which is loaded and read
pub data certificates (s : Setting) (name : List ℕ) (count : ℕ) (m : Sense) (r : Came Certificates) : Type 0 where
  without : name ≡ no_file → r ≡ Ok [] → certificates s name count m r
  from_file : name ≢ no_file → Follows (loaded s name certificate_limit m) (certificates_read name count) r → certificates s name count m r

-- the file with the certificates is told, if one is named
abbrev pub IsFileTold : Setting → List ℕ → Type 0
IsFileTold s name = name ≢ no_file → IsTold s name

-- the answer of a fault of the file, or want of memory
abbrev pub IsBadFile : List ℕ → CertFault → Answer → Type 0
IsBadFile name (BadHeader at_line) a = IsRefusal 6 (fault_text name (BadHeader at_line)) a
IsBadFile name (BadStep at_line) a = IsRefusal 6 (fault_text name (BadStep at_line)) a
IsBadFile name (Truncated at_line) a = IsRefusal 6 (fault_text name (Truncated at_line)) a
IsBadFile name (TwiceCond at_line) a = IsRefusal 6 (fault_text name (TwiceCond at_line)) a
IsBadFile name (NoSuchCond at_line) a = IsRefusal 6 (fault_text name (NoSuchCond at_line)) a
IsBadFile name NoMemory a = a ≡ no_memory
