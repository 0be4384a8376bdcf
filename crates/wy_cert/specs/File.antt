-- What a file of certificates is read as: the certificates, or the first fault and its line.
use Rattle.std.specs.Prelude.{◌≡◌, ◌≢◌, ℕ, ◌+◌, ◌-◌, ◌<◌, ◌≤◌, ◌==◌, ◌||◌, List, [], ◌∷◌, ◌++◌, Bool, true, false, not, codes, length, Result, Ok, Err}
use Rattle.wy_data.specs.scan.Front.{IsBehind, NotBehind, IsRun, AllPass}
use denote.Ref.{Bor}
use Rattle.wy_cert.specs.declared.step.Cert.{Cert}
use Rattle.wy_cert.specs.declared.fault.CertFault.{CertFault}
use Rattle.wy_cert.specs.declared.fault.CertFault.TheVariants.{BadHeader, BadStep, Truncated, TwiceCond, NoSuchCond}
use Rattle.wy_cert.specs.Steps.{Written, Certificates, children, steps_of}
use Rattle.wy_cert.specs.Numbers.{IsPlaceAt}
use Rattle.wy_cert.specs.Lines.{IsStep}
use Rattle.wy_cert.specs.Only.{HasNone}

-- ---- lines

-- no line end
abbrev pub is_inside : ℕ → Bool
is_inside b = not (b == 10)

-- the text's first line, without its end, and what follows the end
abbrev pub IsLine : List ℕ → List ℕ → List ℕ → Type 0
IsLine text line rest = IsRun is_inside text line (10 ∷ rest)

-- no line of the text has its end
abbrev pub NoLine : List ℕ → Type 0
NoLine text = AllPass is_inside text

-- ---- trees of steps

-- the steps of a tree, and where the text goes on: at which line, and with what
pub record Tree : Type 0 where
  pub steps : List Written
  pub line : ℕ
  pub rest : List ℕ

-- what the text is read as from line `n` on, where so many trees are still to come behind the steps that are done
pub data ReadsTree (products : Bool) : List Written → ℕ → ℕ → List ℕ → Result Tree CertFault → Type 0 where
  whole_tree : (done : List Written) (lacking n : ℕ) (text : List ℕ) (out : Result Tree CertFault)
      → lacking ≡ 0 → out ≡ Ok (record { steps = done; line = n; rest = text }) → ReadsTree products done lacking n text out
  tree_ends_early : (done : List Written) (lacking n : ℕ) (text : List ℕ) (out : Result Tree CertFault)
      → 0 < lacking → NoLine text → out ≡ Err (Truncated n) → ReadsTree products done lacking n text out
  no_step : (done : List Written) (lacking n : ℕ) (text : List ℕ) (out : Result Tree CertFault) (line rest : List ℕ)
      → 0 < lacking → IsLine text line rest → HasNone (IsStep products line) → out ≡ Err (BadStep n) → ReadsTree products done lacking n text out
  one_step : (done : List Written) (lacking n : ℕ) (text : List ℕ) (out : Result Tree CertFault) (line rest : List ℕ) (s : Written)
      → 0 < lacking → IsLine text line rest → IsStep products line s → ReadsTree products (done ++ s ∷ []) (lacking - 1 + children s) (n + 1) rest out → ReadsTree products done lacking n text out

-- where the text goes on behind the certificate that a call gave
abbrev pub tree_of : Cert × Bor (List ℕ) × ℕ → Tree
tree_of p = record { steps = steps_of p.0; line = p.2; rest = p.1.now }

-- ---- certificates

-- the line opens the certificate of this condition
pub record IsCondition (line : List ℕ) (n : ℕ) : Type 0 where
  pub text : List ℕ
  pub opens : IsBehind (codes "cond ") line text
  pub number : IsPlaceAt text n []

-- the condition has a certificate
abbrev pub is_listed : Certificates → ℕ → Bool
is_listed [] n = false
is_listed (c ∷ cs) n = (c.0 == n) || is_listed cs n

-- what the text is read as from line `n` on, behind these certificates, where there are so many conditions
pub data ReadsCerts (products : Bool) (conds : ℕ) : Certificates → ℕ → List ℕ → Result Certificates CertFault → Type 0 where
  ends_early : (done : Certificates) (n : ℕ) (text : List ℕ) (out : Result Certificates CertFault)
      → NoLine text → out ≡ Err (Truncated n) → ReadsCerts products conds done n text out
  complete : (done : Certificates) (n : ℕ) (text : List ℕ) (out : Result Certificates CertFault)
      → IsLine text (codes "end") [] → out ≡ Ok done → ReadsCerts products conds done n text out
  goes_behind_end : (done : Certificates) (n : ℕ) (text : List ℕ) (out : Result Certificates CertFault) (rest : List ℕ)
      → IsLine text (codes "end") rest → 0 < length rest → out ≡ Err (BadStep (n + 1)) → ReadsCerts products conds done n text out
  outside : (done : Certificates) (n : ℕ) (text : List ℕ) (out : Result Certificates CertFault) (line rest : List ℕ)
      → IsLine text line rest → line ≢ codes "end" → HasNone (IsCondition line) → out ≡ Err (BadStep n) → ReadsCerts products conds done n text out
  twice : (done : Certificates) (n : ℕ) (text : List ℕ) (out : Result Certificates CertFault) (line rest : List ℕ) (c : ℕ)
      → IsLine text line rest → IsCondition line c → is_listed done c ≡ true → out ≡ Err (TwiceCond n) → ReadsCerts products conds done n text out
  absent : (done : Certificates) (n : ℕ) (text : List ℕ) (out : Result Certificates CertFault) (line rest : List ℕ) (c : ℕ)
      → IsLine text line rest → IsCondition line c → is_listed done c ≡ false → conds < c → out ≡ Err (NoSuchCond n) → ReadsCerts products conds done n text out
  bad_tree : (done : Certificates) (n : ℕ) (text : List ℕ) (out : Result Certificates CertFault) (line rest : List ℕ) (c : ℕ) (fault : CertFault)
      → IsLine text line rest → IsCondition line c → is_listed done c ≡ false → c ≤ conds
      → ReadsTree products [] 1 (n + 1) rest (Err fault) → out ≡ Err fault → ReadsCerts products conds done n text out
  goes_on : (done : Certificates) (n : ℕ) (text : List ℕ) (out : Result Certificates CertFault) (line rest : List ℕ) (c : ℕ) (tree : Tree)
      → IsLine text line rest → IsCondition line c → is_listed done c ≡ false → c ≤ conds
      → ReadsTree products [] 1 (n + 1) rest (Ok tree) → ReadsCerts products conds (done ++ (c, tree.steps) ∷ []) tree.line tree.rest out → ReadsCerts products conds done n text out

-- ---- files

-- what a file is read as, where there are so many conditions: under the first header without `prod`, under the second with it
pub data ReadsFile (conds : ℕ) (bytes : List ℕ) (out : Result Certificates CertFault) : Type 0 where
  first : (rest : List ℕ) → IsBehind (codes "wycert 1\n") bytes rest → ReadsCerts false conds [] 2 rest out → ReadsFile conds bytes out
  second : (rest : List ℕ) → IsBehind (codes "wycert 2\n") bytes rest → ReadsCerts true conds [] 2 rest out → ReadsFile conds bytes out
  no_header : NotBehind (codes "wycert 1\n") bytes → NotBehind (codes "wycert 2\n") bytes → out ≡ Err (BadHeader 1) → ReadsFile conds bytes out
