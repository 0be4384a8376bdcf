-- Steps by which elimination refutes forms, written over literals that have these.
use Rattle.std.proofs.Common.{◌≡◌, ◌&&◌, ℕ, List, [], ◌∷◌, ◌++◌, length, Bool, true, false, Option, Some, None, refl, subst}
use Rattle.std.specs.Prelude.{nat_lt}
use Rattle.std.proofs.lemmas.Bool.{ltb-true}
use Rattle.wy_lin_eliminate.proofs.TurnLemmas.{ArePlain}
use Rattle.wy_lemmas.proofs.Choices.{both_parts as both_of}
use Rattle.wy_term.specs.Condition.{Entry}
use Rattle.wy_lin.specs.Linear.{Linear}
use Rattle.wy_prove_drafts.specs.wy_check_spec.judge.Node.{Literal, Node}
use Rattle.wy_cert.specs.Steps.{sum_of}
use Rattle.wy_prove_drafts.specs.wy_check_spec.valid.Validity.{after}
use Rattle.wy_lin_eliminate.specs.declared.steps.LinStep.{LinStep}
use Rattle.wy_lin_eliminate.specs.declared.steps.LinStep.TheVariants.{Sum, Cut}
use Rattle.wy_lin_eliminate.specs.declared.steps.Elim.TheVariants.{Refuted}
use Rattle.wy_lin_eliminate.specs.declared.steps.Steps.{Steps}
use Rattle.wy_lin_eliminate.specs.Division.{lowered}
use Rattle.wy_lin_eliminate.specs.Elimination.{elimination}
use Rattle.wy_lin_eliminate.specs.Validity.{are_named}
use Rattle.wy_prove_drafts.specs.Progress.{Progress, Goes, Closes}
use Rattle.wy_prove_drafts.proofs.ProgressLemmas.{goes_on, ends_behind, closes_ends}
use Rattle.wy_prove_drafts.proofs.wy_search_laws_proofs.sums_lemmas.RefutingLemmas.{StepRules, steps_hold}
use Rattle.wy_prove_leaves.specs.stated_sums.Named.{AreNamed, with_numbers}
use Rattle.wy_prove_leaves.specs.stated_sums.Cuts.{Gives, StatesCut}
use Rattle.wy_prove_leaves.specs.stated_sums.Steps.{Refutes, Closed}
use Rattle.wy_prove_leaves.proofs.stated_sums_lemmas.NamedLemmas.{are_named_kept, named_at, named_last, Matches, sum_closes, cut_states, stated_gives}

-- ---- what elimination finds

refute_rules : StepRules Refutes
refute_rules = record {
  by_sum = λ all ms f named is bare negative. record { named = named; sum = f; is = is; bare = bare; negative = negative };
  by_cut = λ all d ms f rest large named is even free h. (f, record { large = large; named = named; is = is; even = even; free = free }, h);
}

pub steps_refute : (forms : List (Linear ℕ)) → ArePlain forms → (steps : Steps) → elimination forms ≡ Refuted steps → Refutes forms steps.list
steps_refute forms plain steps e = steps_hold Refutes refute_rules forms plain steps e

-- ---- multipliers beside numbers

matched : (base : Node) (ls : List Literal) (ks : List ℕ) (all : List (Linear ℕ)) (ms : List (ℕ × ℕ)) → AreNamed base ls ks all → are_named (length all) ms ≡ true → Matches base ls all ms (with_numbers ks ms)
matched base ls ks all [] named e = tt
matched base ls ks all (m ∷ ms) named e =
    let both = both_of (nat_lt 0 m.0 && nat_lt m.1 (length all)) (are_named (length all) ms) e in
    let one = both_of (nat_lt 0 m.0) (nat_lt m.1 (length all)) both.0 in
    (refl, one.0, named_at base ls ks all m.1 named (ltb-true m.1 (length all) one.1), matched base ls ks all ms named both.1)

-- ---- steps as they are written

-- steps were written, and those that are left refute the forms of literals with these numbers
pub record IsWriting (types : List Entry) (base : Node) (old now : Progress) (numbers : List ℕ) (left : List LinStep) : Type 0 where
  pub goes : Goes types old now
  pub all : List (Linear ℕ)
  pub named : AreNamed base now.node.literals numbers all
  pub refutes : Refutes all left

pub sum_written : (types : List Entry) (base : Node) (old now new : Progress) (numbers : List ℕ) (ms : List (ℕ × ℕ)) (left : List LinStep) (yes : Bool) → IsWriting types base old now numbers (Sum ms ∷ left) → Closes types (sum_of (with_numbers numbers ms)) now new yes → Closed types old new yes
sum_written types base old now new numbers ms left true h closes = ends_behind types old now new h.goes (closes_ends types (sum_of (with_numbers numbers ms)) now new tt closes)
sum_written types base old now new numbers ms left false h closes =
    let r = h.refutes in
    let valid = sum_closes base now.node types h.all ms (with_numbers numbers ms) r.sum (matched base now.node.literals numbers h.all ms h.named r.named) r.is r.bare r.negative in
    let none : after types now.node (sum_of (with_numbers numbers ms)) ≡ None = closes.0 in
    absurd cc

stated_so : (types : List Entry) (now new : Progress) (d : ℕ) (ps qs : List (ℕ × ℕ)) (o p : Option ℕ) → ps ≡ qs → o ≡ p → StatesCut types d ps now new o → StatesCut types d qs now new p
stated_so types now new d ps qs o p same is states = subst (λ (rs : List (ℕ × ℕ)). StatesCut types d rs now new p) same (subst (λ (x : Option ℕ). StatesCut types d ps now new x) is states)

cut_gives : (types : List Entry) (base : Node) (old now new : Progress) (numbers : List ℕ) (d : ℕ) (ms : List (ℕ × ℕ)) (left : List LinStep) (o : Option ℕ) → (h : IsWriting types base old now numbers (Cut d ms ∷ left)) → StatesCut types d (with_numbers numbers ms) now new o → Gives types base (lowered d h.refutes.0) now new o
cut_gives types base old now new numbers d ms left o h states =
    let r = h.refutes in
    stated_gives types base now new d (with_numbers numbers ms) r.0 o
    (cut_states base now.node h.all d ms (with_numbers numbers ms) r.0 (matched base now.node.literals numbers h.all ms h.named r.1.named) r.1.large r.1.is r.1.even r.1.free)
    states

pub cut_written : (types : List Entry) (base : Node) (old now new : Progress) (numbers : List ℕ) (d : ℕ) (ms pairs : List (ℕ × ℕ)) (left : List LinStep) (k : ℕ) (o : Option ℕ) → IsWriting types base old now numbers (Cut d ms ∷ left) → pairs ≡ with_numbers numbers ms → o ≡ Some k → StatesCut types d pairs now new o → IsWriting types base old new (numbers ++ k ∷ []) left
cut_written types base old now new numbers d ms pairs left k o h same is states =
    let g = cut_gives types base old now new numbers d ms left (Some k) h (stated_so types now new d pairs (with_numbers numbers ms) o (Some k) same is states) in
    record {
      goes = goes_on types old now new h.goes g.0.goes;
      all = h.all ++ lowered d h.refutes.0 ∷ [];
      named = named_last base new.node.literals numbers h.all k (lowered d h.refutes.0) (are_named_kept base now.node new.node numbers h.all g.0.appends h.named) g.1;
      refutes = h.refutes.2;
    }

pub cut_there : (types : List Entry) (base : Node) (old now new : Progress) (numbers : List ℕ) (d : ℕ) (ms pairs : List (ℕ × ℕ)) (left : List LinStep) (o : Option ℕ) → IsWriting types base old now numbers (Cut d ms ∷ left) → pairs ≡ with_numbers numbers ms → o ≡ None → StatesCut types d pairs now new o → ⊥
cut_there types base old now new numbers d ms pairs left o h same is states = cut_gives types base old now new numbers d ms left None h (stated_so types now new d pairs (with_numbers numbers ms) o None same is states)
