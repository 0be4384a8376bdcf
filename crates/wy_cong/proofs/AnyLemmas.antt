-- Whether one of a list passes, one after the other.
use Rattle.std.proofs.Common.{◌≡◌, ◌∙◌, ◌+◌, ◌&&◌, ◌||◌, ℕ, List, [], ◌∷◌, map, drop, Bool, true, false, not, Some, None, refl, sym, ap}
use Rattle.std.specs.Prelude.{slice_get}
use Rattle.wy_lemmas.proofs.Choices.{and_end as and_true}
use Rattle.wy_lemmas.proofs.Lists.{drop_here}
use Rattle.wy_term.specs.Term.{DataKind, Term}
use Rattle.wy_term.specs.Rewriting.{as_constant}
use Rattle.wy_term.specs.Same.{same_kind}
use Rattle.wy_term.proofs.SameLemmas.{terms_self}
use Rattle.wy_check_splits.specs.Groups.{as_wanted, in_kinds}
use Rattle.wy_check_splits.specs.wy_check_nodes.Seen.{seen_literal}
use Rattle.wy_search_spec.specs.wy_check_spec.valid.Kinds as valid
use Rattle.wy_search_spec.specs.Classes.{in_one_class, any_denies, denies_equal, constants_apart}
use Rattle.wy_cong.specs.Pairs.{meets}

-- ---- a test and another

pub or_now : (x y whole total : Bool) → whole ≡ (x || y) → whole ≡ total → x ≡ true → true ≡ total
or_now x y whole total step so up = sym (step ∙ ap (λ (b : Bool). b || y) up) ∙ so

pub or_later : (x y whole total : Bool) → whole ≡ (x || y) → whole ≡ total → x ≡ false → y ≡ total
or_later x y whole total step so un = sym (step ∙ ap (λ (b : Bool). b || y) un) ∙ so

-- ---- literals

pub denies_step : (ts : List Term) (labels : List ℕ) (at : ℕ → Term) (ps : List (ℕ × Bool)) (i : ℕ) (p : ℕ × Bool) → slice_get ps i ≡ Some p → any_denies ts labels (map (seen_literal at) (drop i ps)) ≡ (denies_equal ts labels p.1 (at p.0) || any_denies ts labels (map (seen_literal at) (drop (i + 1) ps)))
denies_step ts labels at ps i p here = ap (λ (qs : List (ℕ × Bool)). any_denies ts labels (map (seen_literal at) qs)) (drop_here ps i p here)

-- ---- terms

-- a term that is no constant isn't apart from any
pub none_apart : (ts : List Term) (labels : List ℕ) (s : Term) (us : List Term) → as_constant s ≡ None → false ≡ constants_apart ts labels s us
none_apart ts labels s [] none = refl
none_apart ts labels s (u ∷ us) none =
    none_apart ts labels s us none ∙ sym (ap (λ o. (valid.are_apart o (as_constant u) && in_one_class ts labels s u) || constants_apart ts labels s us) none)

-- ---- kinds

-- one term of two kinds that are the same or aren't, as is wanted
wanted_of_one : (same : Bool) (t : Term) (k l : DataKind) → as_wanted same (same_kind k l) ≡ in_kinds same (t, k) (t, l)
wanted_of_one true t k l = ap (λ (b : Bool). b && same_kind k l) (sym (terms_self t))
wanted_of_one false t k l = ap (λ (b : Bool). b && not (same_kind k l)) (sym (terms_self t))

pub kinds_meet : (same : Bool) (ts : List Term) (labels : List ℕ) (t u : Term) (k l : DataKind) (r : Bool) → as_wanted same (same_kind k l) ≡ true → r ≡ in_one_class ts labels t u → r ≡ meets (in_kinds same) ts labels (t, k) (u, l)
kinds_meet same ts labels t u k l r up is = is ∙ sym (ap (λ (b : Bool). in_one_class ts labels t u && b) (sym (wanted_of_one same t k l) ∙ up) ∙ and_true (in_one_class ts labels t u))
