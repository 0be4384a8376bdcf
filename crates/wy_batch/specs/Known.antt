-- What is known of each condition of a list, for certificates that are supplied and a budget of leaves?
use Rattle.std.specs.Prelude.{◌≡◌, ℕ, ◌+◌, suc, List, [], ◌∷◌, Bool, true, false, if◌then◌else◌, Option, Some, None}
use Rattle.wy_term.specs.Condition.{Condition}
use Rattle.wy_cert.specs.Steps.{Certificates}
use Rattle.wy_search.specs.wy_search_bounds.wy_search_spec.wy_check_spec.judge.Node.{Literal}
use Rattle.wy_search.specs.wy_search_bounds.wy_search_spec.Tree as search
use Rattle.wy_check.specs.Verdicts.{certificate_for, verdict_on}
use Rattle.wy_check.specs.declared.verdict.Verdict.{Verdict}
use Rattle.wy_check.specs.declared.verdict.Verdict.TheVariants.{Supplied, Missing, Bad}

-- how it ends with a condition: a valid certificate was supplied, or else the search ends so
pub data End : Type 0 where
  supplied : End
  found : (leaves : ℕ) → End
  stays_open : (leaf : ℕ) (why : search.Why) (literals : List Literal) → End
  spent : End

-- the number of the first bad step of a certificate that was supplied and isn't valid, from 1; and how it ends
pub record Known : Type 0 where
  pub bad_step : Option ℕ
  pub end : End

-- the first bad step, where the verdict on what was supplied is this
abbrev pub bad_step_of : Verdict → Option ℕ
bad_step_of Supplied = None
bad_step_of Missing = None
bad_step_of (Bad step) = Some step

-- the end, where the search ends so
abbrev pub end_of : search.Verdict → End
end_of (search.found leaves) = found leaves
end_of (search.open_leaf leaf why literals) = stays_open leaf why literals
end_of search.spent = spent

-- the search of the condition ends so at the budget
pub record IsSearched (c : Condition) (budget : ℕ) (end : End) : Type 0 where
  pub verdict : search.Verdict
  pub searched : search.IsVerdict c budget verdict
  pub is : end ≡ end_of verdict

-- it ends so where the verdict on what was supplied is this
abbrev pub EndsSo : Condition → ℕ → Verdict → End → Type 0
EndsSo c budget Supplied end = end ≡ supplied
EndsSo c budget Missing end = IsSearched c budget end
EndsSo c budget (Bad step) end = IsSearched c budget end

-- this is known of the condition with this number: the first certificate for it is judged, and it is searched unless that is valid
pub record IsKnown (certs : Certificates) (budget n : ℕ) (c : Condition) (k : Known) : Type 0 where
  pub bad_step : k.bad_step ≡ bad_step_of (verdict_on c (certificate_for certs n))
  pub end : EndsSo c budget (verdict_on c (certificate_for certs n)) k.end

-- this is known of each condition of a list whose first one has this number
abbrev pub AreKnown : Certificates → ℕ → ℕ → List Condition → List Known → Type 0
AreKnown certs budget n [] [] = Unit {0}
AreKnown certs budget n [] (k ∷ ks) = ⊥
AreKnown certs budget n (c ∷ cs) [] = ⊥
AreKnown certs budget n (c ∷ cs) (k ∷ ks) = IsKnown certs budget n c k × AreKnown certs budget (n + 1) cs ks

-- ---- counts

abbrev pub is_open : End → Bool
is_open supplied = false
is_open (found leaves) = false
is_open (stays_open leaf why literals) = true
is_open spent = false

abbrev pub is_spent : End → Bool
is_spent supplied = false
is_spent (found leaves) = false
is_spent (stays_open leaf why literals) = false
is_spent spent = true

abbrev pub is_found : End → Bool
is_found supplied = false
is_found (found leaves) = true
is_found (stays_open leaf why literals) = false
is_found spent = false

-- a certificate that was supplied is valid, or the search closed all leaves
abbrev pub is_closed : End → Bool
is_closed supplied = true
is_closed (found leaves) = true
is_closed (stays_open leaf why literals) = false
is_closed spent = false

-- how many end so
abbrev pub count : (End → Bool) → List Known → ℕ
count test [] = 0
count test (k ∷ ks) = if test k.end then suc (count test ks) else count test ks

-- there is one list of what is known
abbrev pub OneList : Type 0
OneList = (certs : Certificates) (budget n : ℕ) (cs : List Condition) (ks ls : List Known) → AreKnown certs budget n cs ks → AreKnown certs budget n cs ls → ks ≡ ls
