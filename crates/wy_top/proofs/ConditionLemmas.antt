-- The conditions that a program owes, as numbers of terms.
use Rattle.std.proofs.Common.{◌≡◌, ◌∙◌, ◌<◌, ◌≤◌, ℕ, List, [], ◌∷◌, All, length, map, refl, sym, ap, subst, arith}
use Rattle.std.proofs.lemmas.List.{length-map}
use Rattle.std.proofs.lemmas.List.Elements.{All-cons, All-nil, All-weaker}
use Rattle.wy_batch.specs.wy_check.Within.{IsWithin}
use Rattle.wy_top_probe.proofs.wy_top_answers_proofs.wy_vc_laws_proofs.shown_lemmas.TruthLemmas.{premises_met}
use Rattle.wy_vc.specs.wy_vc_spec.Limits as limits
use Rattle.wy_vc.specs.wy_vc_spec.Numbered.{Node, numbered_core}
use Rattle.wy_vc.specs.wy_vc_spec.Owed.{Owed}
use Rattle.wy_vc.specs.wy_vc_spec.Programs.{conditions_of, setting_of}
use Rattle.wy_vc.specs.wy_vc_spec.Values.{Setting}
use Rattle.wy_core.specs.CoreTree.{Core}
use Rattle.wy_core.specs.Types.{Ty}
use Rattle.wy_top_probe.specs.wy_top_answers.wy_sound_terms.formed.OwedConditions.{owed_conditions, with_types}
use Rattle.wy_prove.specs.Answers.{IsFormedThroughout}
use Rattle.wy_prove.specs.wy_search_laws.rounds.Leaves.{AreFoldedFormulas, IsFoldedCondition}
use Rattle.wy_top_probe.specs.wy_top_answers.wy_vc_laws.folded.FoldedConditions.{AllFolded, AreFoldedThroughout, IsFoldedThroughout}
use Rattle.wy_top_probe.specs.wy_top_answers.wy_vc_laws.shown.Certified.{AreFormed}
use Rattle.wy_term.specs.Condition.{Condition, condition_of}
use Rattle.wy_term.specs.Nodes.{Plain}
use Rattle.wy_term.specs.Term.{Term}
use Rattle.wy_term.specs.declared.cond.Cond.{Cond}
use Rattle.wy_vc.proofs.ConditionLemmas.{few_within}
use Rattle.wy_vc.specs.Told.{IsCond, IsEntry, Told, seen_cond, told}
use Rattle.wy_top.specs.Owed.{limit_by, told_by}

-- ---- numbers of terms

is_within : (nodes : List Plain) (c : Cond) → IsCond nodes c → IsWithin (length nodes) c
is_within nodes c h = record {
  hyps = h.hyps;
  goal = h.goal;
  types = All-weaker (IsEntry nodes) (λ (e : ℕ × ℕ × ℕ). (e.1 < length nodes) × (e.2 < length nodes)) (λ (e : ℕ × ℕ × ℕ) (i : IsEntry nodes e). (i.name, i.formula)) c.unfold.list.items h.entries;
}

pub are_within : (nodes : List Plain) (cs : List Cond) → All (IsCond nodes) cs → All (IsWithin (length nodes)) cs
are_within nodes cs h = All-weaker (IsCond nodes) (IsWithin (length nodes)) (is_within nodes) cs h

-- ---- formed conditions

seen_conditions : (nodes : List Plain) (cs : List Cond) → map (λ (t : Told). t.condition) (map (seen_cond nodes) cs) ≡ map (condition_of nodes) cs
seen_conditions nodes [] = refl
seen_conditions nodes (c ∷ cs) = ap (λ (rest : List Condition). condition_of nodes c ∷ rest) (seen_conditions nodes cs)

told_conditions : (s : Setting Node) (os : List Owed) → map (λ (t : Told). t.condition) (map (told s) os) ≡ map (with_types s) os
told_conditions s [] = refl
told_conditions s (o ∷ os) = ap (λ (rest : List Condition). with_types s o ∷ rest) (told_conditions s os)

pub conditions_are : (core : Core ℕ) (flow : List Ty) (nodes : List Plain) (cs : List Cond) → map (seen_cond nodes) cs ≡ told_by core flow → map (condition_of nodes) cs ≡ owed_conditions core flow
conditions_are core flow nodes cs is =
    sym (seen_conditions nodes cs) ∙ ap (λ (ts : List Told). map (λ (t : Told). t.condition) ts) is ∙ told_conditions (setting_of (numbered_core core) flow) (conditions_of core flow)

pub are_formed : (core : Core ℕ) (flow : List Ty) (nodes : List Plain) (cs : List Cond) → map (seen_cond nodes) cs ≡ told_by core flow → AreFormed (map (condition_of nodes) cs)
are_formed core flow nodes cs is = subst AreFormed (sym (conditions_are core flow nodes cs is)) (premises_met core flow)

is_folded : (c : Condition) → IsFoldedThroughout c → IsFoldedCondition c
is_folded c h = (formulas_folded c.hyps h.hyps, h.goal)
  where
    formulas_folded : (fs : List Term) → AllFolded fs → AreFoldedFormulas fs
    formulas_folded [] g = tt
    formulas_folded (f ∷ fs) g = (g.0, formulas_folded fs g.1)

-- each is sorted and folded
pub formed_each : (nodes : List Plain) (cs : List Cond) → AreFormed (map (condition_of nodes) cs) → AreFoldedThroughout (map (condition_of nodes) cs) → All (λ c. IsFormedThroughout (condition_of nodes c)) cs
formed_each nodes [] formed folded = All-nil (λ (c : Cond). IsFormedThroughout (condition_of nodes c))
formed_each nodes (c ∷ cs) formed folded =
    All-cons (λ (d : Cond). IsFormedThroughout (condition_of nodes d)) c cs
    (record { sorted = formed.0.sorted; closed = formed.0.are_closed; folded = is_folded (condition_of nodes c) folded.0 }) (formed_each nodes cs formed.1 folded.1)

-- ---- their number

pub are_few : (core : Core ℕ) (flow : List Ty) (nodes : List Plain) (cs : List Cond) → map (seen_cond nodes) cs ≡ told_by core flow → limit_by core flow ≡ limits.Within → length cs ≤ limits.most_conditions
are_few core flow nodes cs is within =
    let s : Setting Node = setting_of (numbered_core core) flow in
    let n = few_within s [] 0 (conditions_of core flow) (omega arith) within in
    let e = sym (length-map cs (seen_cond nodes)) ∙ ap length is ∙ length-map (conditions_of core flow) (told s) in
    omega (arith, n, e)
