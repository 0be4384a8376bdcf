-- There is one list of what is known.
use Rattle.std.proofs.Common.{◌≡◌, ◌∙◌, ◌+◌, ℕ, List, [], ◌∷◌, Option, refl, sym, ap}
use Rattle.wy_batch.specs.Known.{End, EndsSo, IsKnown, Known, OneList, end_of}
use Rattle.wy_cert.specs.Steps.{Certificates}
use Rattle.wy_check.specs.Verdicts.{certificate_for, verdict_on}
use Rattle.wy_check.specs.declared.verdict.Verdict.{Verdict as Given}
use Rattle.wy_check.specs.declared.verdict.Verdict.TheVariants as given
use Rattle.wy_search.proofs.wy_search_bounds_proofs.wy_search_spec_proofs.VerdictLemmas.{one_verdict}
use Rattle.wy_term.specs.Condition.{Condition}

one_end : (c : Condition) (budget : ℕ) (g : Given) (e f : End) → EndsSo c budget g e → EndsSo c budget g f → e ≡ f
one_end c budget given.Supplied e f a b = a ∙ sym b
one_end c budget given.Missing e f a b = a.is ∙ ap end_of (one_verdict c budget a.verdict b.verdict a.searched b.searched) ∙ sym b.is
one_end c budget (given.Bad step) e f a b = a.is ∙ ap end_of (one_verdict c budget a.verdict b.verdict a.searched b.searched) ∙ sym b.is

abbrev told : Option ℕ → End → Known
told bad e = record { bad_step = bad; end = e }

one_known : (certs : Certificates) (budget n : ℕ) (c : Condition) (k l : Known) → IsKnown certs budget n c k → IsKnown certs budget n c l → k ≡ l
one_known certs budget n c k l a b =
    ap (λ (bad : Option ℕ). told bad k.end) (a.bad_step ∙ sym b.bad_step) ∙ ap (told l.bad_step) (one_end c budget (verdict_on c (certificate_for certs n)) k.end l.end a.end b.end)

pub one_list : OneList
one_list certs budget n [] [] [] a b = refl
one_list certs budget n [] [] (l ∷ ls) a b = absurd b
one_list certs budget n [] (k ∷ ks) ls a b = absurd a
one_list certs budget n (c ∷ cs) [] ls a b = absurd a
one_list certs budget n (c ∷ cs) (k ∷ ks) [] a b = absurd b
one_list certs budget n (c ∷ cs) (k ∷ ks) (l ∷ ls) a b =
    ap (λ (x : Known). x ∷ ks) (one_known certs budget n c k l a.0 b.0) ∙ ap (λ (xs : List Known). l ∷ xs) (one_list certs budget (n + 1) cs ks ls a.1 b.1)
