-- Steps by the terms that they name.
use Rattle.std.specs.Prelude.{ℕ, ◌<◌, List, length, map, All, Option}
use Rattle.wy_term_text.specs.wy_term.Term.{Term}
use Rattle.wy_term_text.specs.wy_term.Nodes.{tree_at}
use Rattle.wy_cert.specs.declared.step.Step.{Step}
use Rattle.wy_cert.specs.declared.step.Step.TheVariants as step
use Rattle.wy_cert.specs.declared.step.Cert.{Cert}
use Rattle.wy_cert.specs.declared.step.Certs.{Certs}

-- a step as it is written; literals are numbered from 1
pub data Written : Type 0 where
  split : (f : Term) → Written
  shut : Written
  chain : (ts : List Term) → Written
  clash : (i : ℕ) (other : Option ℕ) → Written
  sum_of : (pairs : List (ℕ × ℕ)) → Written
  cut : (d : ℕ) (pairs : List (ℕ × ℕ)) → Written
  inst : (i : ℕ) (t : Term) → Written
  wit : (i : ℕ) → Written
  fact : (n : ℕ) (arguments : List Term) → Written
  prod : (i j : ℕ) (p : Term) → Written

-- the step of the code, where `at` gives the term of a number
abbrev pub written : (ℕ → Term) → Step → Written
written at (step.Split f) = split (at f)
written at step.Shut = shut
written at (step.Chain ts) = chain (map at ts.items)
written at (step.Clash i other) = clash i other
written at (step.Sum pairs) = sum_of pairs.items
written at (step.Cut d pairs) = cut d pairs.items
written at (step.Inst i t) = inst i (at t)
written at (step.Wit i) = wit i
written at (step.Fact n ts) = fact n (map at ts.items)
written at (step.Prod i j p) = prod i j (at p)

-- the numbers of terms that the step has are below a bound
abbrev pub IsBelow : ℕ → Step → Type 0
IsBelow n (step.Split f) = f < n
IsBelow n step.Shut = Unit {0}
IsBelow n (step.Chain ts) = All (λ k. k < n) ts.items
IsBelow n (step.Clash i other) = Unit {0}
IsBelow n (step.Sum pairs) = Unit {0}
IsBelow n (step.Cut d pairs) = Unit {0}
IsBelow n (step.Inst i t) = t < n
IsBelow n (step.Wit i) = Unit {0}
IsBelow n (step.Fact k ts) = All (λ k. k < n) ts.items
IsBelow n (step.Prod i j p) = p < n

-- how many trees of steps stand below the step
abbrev pub children : Written → ℕ
children (split f) = 2
children shut = 0
children (chain ts) = 1
children (clash i other) = 0
children (sum_of pairs) = 0
children (cut d pairs) = 1
children (inst i t) = 1
children (wit i) = 1
children (fact n ts) = 1
children (prod i j p) = 1

-- ---- certificates

-- the steps of a certificate
abbrev pub steps_of : Cert → List Written
steps_of cert = map (written (tree_at cert.terms)) cert.steps.items

-- certificates by the numbers of their conditions
abbrev pub Certificates : Type 0
Certificates = List (ℕ × List Written)

abbrev pub certificates_of : Certs → Certificates
certificates_of certs = map (λ e. (e.0, steps_of e.1)) certs.list.items

-- each number of a term in the certificate is one of its list
abbrev pub NamesItsTerms : Cert → Type 0
NamesItsTerms cert = All (IsBelow (length cert.terms)) cert.steps.items

abbrev pub NameTheirTerms : Certs → Type 0
NameTheirTerms certs = All (λ e. NamesItsTerms e.1) certs.list.items
