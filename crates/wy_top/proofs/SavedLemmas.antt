-- Certificates for all conditions of a program, where they are supplied.
use Rattle.std.proofs.Common.{◌≡◌, ◌+◌, ℕ, suc, List, [], ◌∷◌, map, true, None, refl, sym, ap, subst}
use Rattle.wy_lemmas.proofs.Choices.{both_parts as both}
use Rattle.wy_prove.specs.wy_search_spec.Tree as search
use Rattle.wy_batch.specs.wy_check.Verdicts.{AreSupplied, verdicts_on}
use Rattle.wy_batch.specs.wy_check.declared.verdict.Verdict.{Verdict as Given}
use Rattle.wy_batch.specs.wy_check.declared.verdict.Verdict.TheVariants as accepting
use Rattle.wy_cert.specs.Steps.{Certificates}
use Rattle.wy_term.specs.Condition.{Condition}
use Rattle.wy_top.specs.Acceptance.{are_closed}
use Rattle.wy_top.specs.Found.{given_by, given_in}
use Rattle.wy_batch.specs.Known.{AreKnown, is_closed, End, EndsSo, IsSearched, Known, bad_step_of, end_of, found, spent, stays_open, supplied}
use Rattle.wy_top.specs.Programs.{conditions_of}
use Rattle.wy_top.specs.Refusals.{invalid_from}
use Rattle.wy_top.specs.Saved.{SavedIsAccepted}
use Rattle.wy_top.proofs.GivenLemmas.{found_is_given}

-- ---- where nothing was supplied, what is closed was found

no_search_supplies : (v : search.Verdict) → supplied ≡ end_of v → ⊥
no_search_supplies (search.found leaves) e = cc
no_search_supplies (search.open_leaf leaf why literals) e = cc
no_search_supplies search.spent e = cc

one_given : (c : Condition) (budget : ℕ) (e : End) → IsSearched c budget e → is_closed e ≡ true → given_in e ≡ accepting.Supplied
one_given c budget supplied searched closed = absurd (no_search_supplies searched.verdict searched.is)
one_given c budget (found leaves) searched closed = refl
one_given c budget (stays_open leaf why literals) searched closed = absurd cc
one_given c budget spent searched closed = absurd cc

all_supplied : (budget n : ℕ) (cs : List Condition) (ks : List Known) → AreKnown [] budget n cs ks → are_closed ks ≡ true → AreSupplied (map given_by ks)
all_supplied budget n [] [] known closed = tt
all_supplied budget n [] (k ∷ ks) known closed = absurd known
all_supplied budget n (c ∷ cs) [] known closed = absurd known
all_supplied budget n (c ∷ cs) (k ∷ ks) known closed =
    let parts = both (is_closed k.end) (are_closed ks) closed in
    (one_given c budget k.end known.0.end parts.0, all_supplied budget (n + 1) cs ks known.1 parts.1)

-- ---- where each is supplied

abbrev known_all : List Condition → List Known
known_all [] = []
known_all (c ∷ cs) = record { bad_step = None; end = supplied } ∷ known_all cs

are_known : (certs : Certificates) (other n : ℕ) (cs : List Condition) → AreSupplied (verdicts_on certs n cs) → AreKnown certs other n cs (known_all cs)
are_known certs other n [] given = tt
are_known certs other n (c ∷ cs) given = (
  record {
    bad_step = sym (ap bad_step_of given.0);
    end = subst (λ (v : Given). EndsSo c other v supplied) (sym given.0) refl;
  },
  are_known certs other (n + 1) cs given.1,
)

all_closed : (cs : List Condition) → are_closed (known_all cs) ≡ true
all_closed [] = refl
all_closed (c ∷ cs) = all_closed cs

no_lines : (file : List ℕ) (n : ℕ) (cs : List Condition) → invalid_from file n (known_all cs) ≡ []
no_lines file n [] = refl
no_lines file n (c ∷ cs) = no_lines file (suc n) cs

pub saved_is_accepted : SavedIsAccepted
saved_is_accepted p budget text f closed cert other =
    let given : AreSupplied (verdicts_on f.certificates 1 (conditions_of p)) =
    subst AreSupplied (sym (found_is_given.given (conditions_of p) f.verdicts f.certificates f.are)) (all_supplied budget 1 (conditions_of p) f.verdicts f.known closed) in
    record {
      program = refl;
      verdicts = known_all (conditions_of p);
      known = are_known f.certificates other 1 (conditions_of p) given;
      closed = all_closed (conditions_of p);
      lines = sym (no_lines cert 1 (conditions_of p));
    }
