-- The command `again`, step by step.
use Rattle.std.proofs.Common.{◌≡◌, ◌∙◌, ◌<◌, ◌≤◌, ◌^◌, ℕ, List, [], ◌∷◌, All, length, map, Ok, Err, refl, sym, ap, subst, arith}
use Rattle.std.proofs.lemmas.List.{length-map}
use Rattle.std.specs.Prelude.{IfOk, Result}
use Rattle.wy_batch.proofs.JudgedLemmas.{all_within, same_conditions}
use Rattle.wy_batch.specs.Known.{Known, count}
use Rattle.wy_batch.specs.Seen.{known}
use Rattle.wy_batch.specs.declared.verdict.Verdict.{Verdict}
use Rattle.wy_batch.specs.wy_check.Within.{IsWithin}
use Rattle.wy_cache.specs.Cached.{rows_of}
use Rattle.wy_cache_text.specs.Files.{Entries}
use Rattle.wy_cache_text.specs.Written.{IsLongest}
use Rattle.wy_cert.specs.Steps.{Certificates, NamesItsTerms, certificates_of, steps_of}
use Rattle.wy_cert.specs.declared.step.Cert.{Cert}
use Rattle.wy_cert.specs.declared.step.Certs.{Certs}
use Rattle.wy_prove_writable.specs.Writable.{AreWritable}
use Rattle.wy_term.specs.Condition.{Condition, condition_of}
use Rattle.wy_term.specs.Nodes.{Plain, tree_at}
use Rattle.wy_term.specs.declared.cond.Cond.{Cond}
use Rattle.wy_term.specs.declared.cond.Conds.{Conds}
use Rattle.wy_top_probe.proofs.wy_top_answers_proofs.StepLemmas.{value_gives}
use Rattle.wy_top_probe.specs.wy_flow_spec.declared.typing.Typed.{Typed}
use Rattle.wy_top_probe.specs.wy_top_answers.Steps.{Came, Gives, Setting, due}
use Rattle.wy_top_probe.specs.wy_top_answers.declared.answer.Answer.{Answer}
use Rattle.wy_top_probe.specs.wy_top_answers.wy_vc_laws.shown.Certified.{AreFormed}
use Rattle.wy_vc.specs.Listed.{seen_conds}
use Rattle.wy_vc.specs.Told.{Told, seen_cond}
use Rattle.wy_vc.specs.wy_vc_spec.Limits.{most_conditions}
use Rattle.wy_top.specs.Acceptance.{are_closed}
use Rattle.wy_top.specs.Again.{IsCacheOf, IsRenewal, renewal_answer, renews}
use Rattle.wy_top.specs.Caches.{AreSaved, AreSeen, is_kept}
use Rattle.wy_top.specs.Kept.{AreEach, HasSomeTaken, HasTaken, IsKept}
use Rattle.wy_top.specs.Programs.{Program, conditions_of}
use Rattle.wy_top.specs.Taken.{AreTaken, IsWritten}
use Rattle.wy_top.specs.declared.judging.Judged.{Judged}
use Rattle.wy_top.proofs.TakenLemmas.{count_within, one_seen, taken_count, taken_seen}

-- ---- what is owed stays

abbrev told_of : Cond → Condition → Told
told_of c d = record { kind = c.kind; at = c.at; condition = d }

told_stay : (old new : List Plain) (cs : List Cond) → map (condition_of new) cs ≡ map (condition_of old) cs → map (seen_cond new) cs ≡ map (seen_cond old) cs
told_stay old new [] e = refl
told_stay old new (c ∷ cs) e =
    let here : condition_of new c ≡ condition_of old c = cc in
    let rest : map (condition_of new) cs ≡ map (condition_of old) cs = cc in
    ap (λ (d : Condition). told_of c d ∷ map (seen_cond new) cs) here ∙ ap (λ (ts : List Told). told_of c (condition_of old c) ∷ ts) (told_stay old new cs rest)

pub kept_still : (typed : Typed) (old new : Conds) → IsKept (record { typed = typed; conds = old }) → new.list ≡ old.list → length new.terms ≡ length old.terms
    → ((t : ℕ) → t < length old.terms → tree_at new.terms t ≡ tree_at old.terms t) → IsKept (record { typed = typed; conds = new })
kept_still typed old new h lists same stay =
    let list : new.list.items ≡ old.list.items = ap (λ v. v.items) lists in
    let there = same_conditions old.terms new.terms old.list.items same stay h.numbers in
    let here : map (condition_of new.terms) new.list.items ≡ map (condition_of old.terms) old.list.items = ap (map (condition_of new.terms)) list ∙ there in
    record {
      conditions = here ∙ h.conditions;
      told = ap (map (seen_cond new.terms)) list ∙ told_stay old.terms new.terms old.list.items there ∙ h.told;
      numbers = subst (All (IsWithin (length new.terms))) (sym list) (all_within old.terms new.terms old.list.items same h.numbers);
      formed = subst AreFormed (sym here) h.formed;
      few = subst (λ (l : List Cond). length l ≤ most_conditions) (sym list) h.few;
      assigned = h.assigned;
      source = h.source;
    }

-- ---- what is known of it

module _ (p : Program) (es : Entries) (certs : Certificates) (budget : ℕ) (j : Judged) (h : HasTaken es p certs budget j) where
  pub seen_of : AreSeen es budget (conditions_of p) (map known j.verdicts.items)
  seen_of = taken_seen es budget 1 (conditions_of p) (map known j.verdicts.items) certs h.known

  pub taken_here : (conds : List Cond) (vs : List Verdict) → conds ≡ j.conds.list.items → vs ≡ j.verdicts.items → AreTaken es budget 1 (map (condition_of j.conds.terms) conds) (map known vs) certs
  taken_here conds vs is are =
      subst (λ (cs : List Cond). AreTaken es budget 1 (map (condition_of j.conds.terms) cs) (map known vs) certs) (sym is)
      (subst (λ (ws : List Verdict). AreTaken es budget 1 (map (condition_of j.conds.terms) j.conds.list.items) (map known ws) certs) (sym are)
      (subst (λ (cs : List Condition). AreTaken es budget 1 cs (map known j.verdicts.items) certs) (sym h.conditions) h.known))

  -- what is written of what was saved is a cache of it, with the terms that were made meanwhile
  pub cached_as : (made : Certificates) (nodes : List Plain) (text : List ℕ) → AreEach j → length nodes ≡ length j.conds.terms → ((t : ℕ) → t < length j.conds.terms → tree_at nodes t ≡ tree_at j.conds.terms t)
      → AreSaved es 1 (map (condition_of j.conds.terms) j.conds.list.items) (map known j.verdicts.items) made → IsLongest (rows_of (map (condition_of nodes) j.conds.list.items) made) text → IsCacheOf p budget es text
  cached_as made nodes text each same stay saved is = record {
    verdicts = map known j.verdicts.items;
    seen = seen_of;
    certificates = made;
    saved = subst (λ (cs : List Condition). AreSaved es 1 cs (map known j.verdicts.items) made) h.conditions saved;
    is = subst (λ (cs : List Condition). IsLongest (rows_of cs made) text) (same_conditions j.conds.terms nodes j.conds.list.items same stay each.within ∙ h.conditions) is;
  }

pub saved_here : (es : Entries) (j : Judged) (conds : List Cond) (vs : List Verdict) (made : Certificates) → conds ≡ j.conds.list.items → vs ≡ j.verdicts.items → AreSaved es 1 (map (condition_of j.conds.terms) conds) (map known vs) made
    → AreSaved es 1 (map (condition_of j.conds.terms) j.conds.list.items) (map known j.verdicts.items) made
saved_here es j conds vs made is are h =
    subst (λ (cs : List Cond). AreSaved es 1 (map (condition_of j.conds.terms) cs) (map known j.verdicts.items) made) is
    (subst (λ (ws : List Verdict). AreSaved es 1 (map (condition_of j.conds.terms) conds) (map known ws) made) are h)

-- so many are kept
pub kept_so_many : (kept : Certs) (budget : ℕ) (j : Judged) → HasSomeTaken (certificates_of kept) budget j → length kept.list.items ≡ count is_kept (map known j.verdicts.items)
kept_so_many kept budget j h =
    let taken = h.taken in
    sym (length-map kept.list.items (λ (e : ℕ × Cert). (e.0, steps_of e.1))) ∙ taken_count h.entries budget 1 (conditions_of h.program) (map known j.verdicts.items) (certificates_of kept) taken.known

pub kept_few : (kept : Certs) (budget : ℕ) (j : Judged) → AreEach j → HasSomeTaken (certificates_of kept) budget j → length kept.list.items ≤ most_conditions
kept_few kept budget j each h =
    let within = count_within is_kept (map known j.verdicts.items) in
    omega (arith, kept_so_many kept budget j h, within, length-map j.verdicts.items known, each.each, each.few)

-- each names its own terms and can be written
pub all_written : (list : List (ℕ × Cert)) → All (λ (e : ℕ × Cert). NamesItsTerms e.1) list → All (λ (e : ℕ × Cert). AreWritable (steps_of e.1)) list → All (λ (e : ℕ × Cert). IsWritten e.1) list
all_written list named writable i e lt = record { named = named i e lt; writable = writable i e lt }

-- ---- the answer

by_seen : List ℕ → List ℕ → Program → ℕ → List Known → Answer
by_seen name bytes p budget ks = renewal_answer name bytes p budget (count is_kept ks) ks (are_closed ks)

only_renewal : (name bytes : List ℕ) (p : Program) (budget : ℕ) (es : Entries) (a : Answer) → IsRenewal name bytes p budget es a → (other : Came Answer) → renews name bytes p budget es due other → other ≡ Ok a
unfolding by_seen
only_renewal name bytes p budget es a is (Ok b) h =
    ap (λ (x : Answer). Ok x) (h.answer ∙ ap (by_seen name bytes p budget) (one_seen es budget (conditions_of p) h.verdicts is.verdicts h.seen is.seen) ∙ sym is.answer)
only_renewal name bytes p budget es a is (Err b) h = absurd h

pub renewal_gives : (s : Setting) (name bytes : List ℕ) (p : Program) (budget : ℕ) (es : Entries) (a : Answer) → IsRenewal name bytes p budget es a → Gives s (renews name bytes p budget es) (Ok a)
renewal_gives s name bytes p budget es a is = value_gives s (renews name bytes p budget es) a is (λ other h. only_renewal name bytes p budget es a is other h)
