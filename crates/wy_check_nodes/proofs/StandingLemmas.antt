-- A formula isn't judged no where one of its members isn't.
use Rattle.std.proofs.Common.{◌≡◌, ◌<◌, ◌∙◌, ℕ, zero, suc, List, [], ◌∷◌, length, get_or, Bool, true, false, inl, inr, refl, ap, arith}
use Rattle.wy_check_spec.specs.wy_term.Term.{Term, Of, Parts, part, no_parts, all_of, any_of}
use Rattle.wy_check_spec.specs.wy_term.Nodes.{parts_at}
use Rattle.wy_check_spec.specs.declared.judge.verdict.Verdict.{Verdict}
use Rattle.wy_check_spec.specs.declared.judge.verdict.Verdict.TheVariants.{Yes, No, Open}
use Rattle.wy_check_spec.specs.judge.Node.{Literal}
use Rattle.wy_check_spec.specs.judge.Judgement.{both, either, judged, judged_all, judged_any}
use Rattle.wy_check_nodes.specs.Denied.{HasStanding}
use Rattle.wy_check_nodes.specs.Judged.{fails}

pub stands_here : (at : ℕ → Term) (ls : List Literal) (holds : Bool) (ks : List ℕ) (i : ℕ) → i < length ks → fails (judged ls (at (get_or ks i 0))) holds ≡ false → HasStanding ls holds (parts_at at ks)
stands_here at ls holds [] i lt un = absurd (omega (arith, lt))
stands_here at ls holds (k ∷ ks) zero lt un = inl un
stands_here at ls holds (k ∷ ks) (suc i) lt un = inr (stands_here at ls holds ks i (omega (arith, lt)) un)

any_stands : (ls : List Literal) (ps : Parts) → HasStanding ls true ps → fails (judged_any ls ps) true ≡ false
any_stands ls no_parts has = absurd has
any_stands ls (part f fs) (inl un) = by (judged ls f) (judged_any ls fs) un
  where
    by : (v w : Verdict) → fails v true ≡ false → fails (either v w) true ≡ false
    by Yes w e = refl
    by No w e = absurd cc
    by Open Yes e = refl
    by Open No e = refl
    by Open Open e = refl
any_stands ls (part f fs) (inr rest) = by (judged ls f) (judged_any ls fs) (any_stands ls fs rest)
  where
    by : (v w : Verdict) → fails w true ≡ false → fails (either v w) true ≡ false
    by Yes w e = refl
    by No w e = e
    by Open Yes e = refl
    by Open No e = refl
    by Open Open e = refl

all_stands : (ls : List Literal) (ps : Parts) → HasStanding ls false ps → fails (judged_all ls ps) false ≡ false
all_stands ls no_parts has = absurd has
all_stands ls (part f fs) (inl un) = by (judged ls f) (judged_all ls fs) un
  where
    by : (v w : Verdict) → fails v false ≡ false → fails (both v w) false ≡ false
    by Yes w e = absurd cc
    by No w e = refl
    by Open Yes e = refl
    by Open No e = refl
    by Open Open e = refl
all_stands ls (part f fs) (inr rest) = by (judged ls f) (judged_all ls fs) (all_stands ls fs rest)
  where
    by : (v w : Verdict) → fails w false ≡ false → fails (both v w) false ≡ false
    by Yes w e = e
    by No w e = refl
    by Open Yes e = refl
    by Open No e = refl
    by Open Open e = refl

pub or_stands : (ls : List Literal) (t : Term) (ps : Parts) (holds : Bool) → t ≡ Of any_of ps → holds ≡ true → HasStanding ls true ps → fails (judged ls t) holds ≡ false
or_stands ls t ps holds is up has = ap (fails (judged ls t)) up ∙ (ap (λ (f : Term). fails (judged ls f) true) is ∙ any_stands ls ps has)

pub and_stands : (ls : List Literal) (t : Term) (ps : Parts) (holds : Bool) → t ≡ Of all_of ps → holds ≡ false → HasStanding ls false ps → fails (judged ls t) holds ≡ false
and_stands ls t ps holds is un has = ap (fails (judged ls t)) un ∙ (ap (λ (f : Term). fails (judged ls f) false) is ∙ all_stands ls ps has)
