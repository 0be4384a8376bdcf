-- What is known of conditions, one after the other.
use Rattle.std.proofs.Common.{◌≡◌, ◌∙◌, ◌<◌, ◌≤◌, ◌+◌, ℕ, zero, suc, List, [], ◌∷◌, ◌++◌, All, length, map, take, get_or, Option, Some, None, refl, sym, ap, subst, arith}
use Rattle.std.proofs.lemmas.List.{length-map}
use Rattle.wy_check.proofs.StayLemmas.{as_before, condition_stays, conditions_stay}
use Rattle.wy_check.specs.Verdicts.{certificate_for, verdict_on, verdicts_on}
use Rattle.wy_check.specs.Within.{IsWithin}
use Rattle.wy_check.specs.declared.verdict.Verdict.{Verdict as Given}
use Rattle.wy_check.specs.declared.verdict.Verdict.TheVariants as given
use Rattle.wy_cert.specs.Steps.{Certificates}
use Rattle.wy_search.specs.wy_search_bounds.wy_search_spec.Tree as tree
use Rattle.wy_search.specs.Seen as searching
use Rattle.wy_search.specs.declared.verdict.OpenLeaf.{OpenLeaf}
use Rattle.wy_search.specs.declared.verdict.Verdict.{Verdict as Search}
use Rattle.wy_search.specs.declared.verdict.Verdict.TheVariants as search
use Rattle.wy_term.specs.Condition.{Condition, condition_of}
use Rattle.wy_term.specs.Nodes.{Plain, tree_at}
use Rattle.wy_term.specs.declared.cond.Cond.{Cond}
use Rattle.wy_batch.specs.Judged.{AreJudged, EndsIn, IsJudged}
use Rattle.wy_batch.specs.Known.{AreKnown, EndsSo, bad_step_of}
use Rattle.wy_batch.specs.Seen.{NameTerms, known, seen_end}
use Rattle.wy_batch.specs.declared.verdict.End.{End}
use Rattle.wy_batch.specs.declared.verdict.End.TheVariants as ends
use Rattle.wy_batch.specs.declared.verdict.Verdict.{Verdict}

-- ---- terms that are as before

pub same_condition : (old new : List Plain) (c : Cond) → length new ≡ length old → ((t : ℕ) → t < length old → tree_at new t ≡ tree_at old t) → IsWithin (length old) c → condition_of new c ≡ condition_of old c
same_condition old new c same kept within = condition_stays old new c (as_before old new same kept) within

pub same_within : (old new : List Plain) (c : Cond) → length new ≡ length old → IsWithin (length old) c → IsWithin (length new) c
same_within old new c same within = subst (λ (n : ℕ). IsWithin n c) (sym same) within

-- so of a list of conditions
pub same_conditions : (old new : List Plain) (cs : List Cond) → length new ≡ length old → ((t : ℕ) → t < length old → tree_at new t ≡ tree_at old t) → All (IsWithin (length old)) cs → map (condition_of new) cs ≡ map (condition_of old) cs
same_conditions old new cs same kept within = conditions_stay old new cs (as_before old new same kept) within

pub all_within : (old new : List Plain) (cs : List Cond) → length new ≡ length old → All (IsWithin (length old)) cs → All (IsWithin (length new)) cs
all_within old new cs same within = subst (λ (n : ℕ). All (IsWithin n) cs) (sym same) within

-- a condition of a list
pub within_at : (n : ℕ) (cs : List Cond) (i : ℕ) (c : Cond) → All (IsWithin n) cs → i < length cs → c ≡ get_or cs i c → IsWithin n c
within_at n cs i c all lt is = subst (IsWithin n) (sym is) (all i c lt)

pub condition_at : (f : Cond → Condition) (cs : List Cond) (i : ℕ) (c : Cond) → i < length cs → c ≡ get_or cs i c → f c ≡ get_or (map f cs) i (f c)
condition_at f [] i c lt is = absurd (omega (arith, lt))
condition_at f (d ∷ cs) zero c lt is = ap f is
condition_at f (d ∷ cs) (suc i) c lt is = condition_at f cs i c (omega (arith, lt)) is

-- ---- ends

pub ends_open : (c : Condition) (budget : ℕ) (leaf : OpenLeaf) → tree.IsVerdict c budget (searching.seen_verdict (search.Open leaf)) → searching.NamesItsTerms (search.Open leaf) → EndsIn c budget (ends.Open leaf)
ends_open c budget leaf h named = record { searched = record { verdict = searching.seen_verdict (search.Open leaf); searched = h; is = refl }; named = named }

pub ends_spent : (c : Condition) (budget : ℕ) → tree.IsVerdict c budget tree.spent → EndsIn c budget ends.Spent
ends_spent c budget h = record { searched = record { verdict = tree.spent; searched = h; is = refl }; named = tt }

pub ends_found : (c : Condition) (budget leaves : ℕ) → tree.IsVerdict c budget (tree.found leaves) → EndsIn c budget (ends.Found leaves)
ends_found c budget leaves h = record { searched = record { verdict = tree.found leaves; searched = h; is = refl }; named = tt }

pub found_there : (c : Condition) (budget leaves : ℕ) (v : Search) → v ≡ search.Found leaves → tree.IsVerdict c budget (searching.seen_verdict v) → EndsIn c budget (ends.Found leaves)
found_there c budget leaves v is h = ends_found c budget leaves (subst (λ (w : Search). tree.IsVerdict c budget (searching.seen_verdict w)) is h)

pub open_there : (c : Condition) (budget : ℕ) (leaf : OpenLeaf) (v : Search) → v ≡ search.Open leaf → tree.IsVerdict c budget (searching.seen_verdict v) → searching.NamesItsTerms v → EndsIn c budget (ends.Open leaf)
open_there c budget leaf v is h named = ends_open c budget leaf (subst (λ (w : Search). tree.IsVerdict c budget (searching.seen_verdict w)) is h) (subst (λ (w : Search). searching.NamesItsTerms w) is named)

pub spent_there : (c : Condition) (budget : ℕ) (v : Search) → v ≡ search.Spent → tree.IsVerdict c budget (searching.seen_verdict v) → EndsIn c budget ends.Spent
spent_there c budget v is h = ends_spent c budget (subst (λ (w : Search). tree.IsVerdict c budget (searching.seen_verdict w)) is h)

-- ---- one condition

abbrev pub judged_so : Option ℕ → End → Verdict
judged_so bad e = record { bad_step = bad; end = e }

pub supplied_judged : (c : Condition) (budget : ℕ) (g : Given) → g ≡ given.Supplied → (certs : Certificates) (n : ℕ) → g ≡ verdict_on c (certificate_for certs n) → IsJudged certs budget n c (judged_so None ends.Supplied)
supplied_judged c budget g is certs n told =
    let there : given.Supplied ≡ verdict_on c (certificate_for certs n) = sym is ∙ told in
    record {
      known = record { bad_step = ap bad_step_of there; end = subst (λ (h : Given). EndsSo c budget h (seen_end ends.Supplied)) there refl };
      named = tt;
    }

pub missing_judged : (c : Condition) (budget : ℕ) (g : Given) → g ≡ given.Missing → (e : End) → EndsIn c budget e → (certs : Certificates) (n : ℕ) → g ≡ verdict_on c (certificate_for certs n) → IsJudged certs budget n c (judged_so None e)
missing_judged c budget g is e h certs n told =
    let there : given.Missing ≡ verdict_on c (certificate_for certs n) = sym is ∙ told in
    record {
      known = record { bad_step = ap bad_step_of there; end = subst (λ (k : Given). EndsSo c budget k (seen_end e)) there h.searched };
      named = h.named;
    }

pub bad_judged : (c : Condition) (budget step : ℕ) (g : Given) → g ≡ given.Bad step → (e : End) → EndsIn c budget e → (certs : Certificates) (n : ℕ) → g ≡ verdict_on c (certificate_for certs n) → IsJudged certs budget n c (judged_so (Some step) e)
bad_judged c budget step g is e h certs n told =
    let there : given.Bad step ≡ verdict_on c (certificate_for certs n) = sym is ∙ told in
    record {
      known = record { bad_step = ap bad_step_of there; end = subst (λ (k : Given). EndsSo c budget k (seen_end e)) there h.searched };
      named = h.named;
    }

-- ---- lists of conditions

pub length_given : (certs : Certificates) (n : ℕ) (cs : List Condition) → length (verdicts_on certs n cs) ≡ length cs
length_given certs n [] = refl
length_given certs n (c ∷ cs) = ap suc (length_given certs (n + 1) cs)

pub given_count : (f : Cond → Condition) (certs : Certificates) (conds : List Cond) (vs : List Given) → vs ≡ verdicts_on certs 1 (map f conds) → length vs ≡ length conds
given_count f certs conds vs is = ap length is ∙ length_given certs 1 (map f conds) ∙ length-map conds f

-- the verdict on what was supplied for the condition at a place
given_there : (certs : Certificates) (n : ℕ) (cs : List Condition) (i : ℕ) (c : Condition) (v : Given) → i < length cs → c ≡ get_or cs i c → v ≡ get_or (verdicts_on certs n cs) i v → v ≡ verdict_on c (certificate_for certs (n + i))
given_there certs n [] i c v lt at is = absurd (omega (arith, lt))
given_there certs n (d ∷ cs) zero c v lt at is =
    is ∙ ap (λ (x : Condition). verdict_on x (certificate_for certs n)) (sym at) ∙ ap (λ (m : ℕ). verdict_on c (certificate_for certs m)) (omega arith)
given_there certs n (d ∷ cs) (suc i) c v lt at is =
    given_there certs (n + 1) cs i c v (omega (arith, lt)) at is ∙ ap (λ (m : ℕ). verdict_on c (certificate_for certs m)) (omega arith)

pub given_at : (certs : Certificates) (f : Cond → Condition) (conds : List Cond) (i : ℕ) (c : Cond) (vs : List Given) (v : Given) → i < length conds → c ≡ get_or conds i c → vs ≡ verdicts_on certs 1 (map f conds) → v ≡ get_or vs i v
    → v ≡ verdict_on (f c) (certificate_for certs (1 + i))
given_at certs f conds i c vs v lt at is here =
    given_there certs 1 (map f conds) i (f c) v (omega (arith, lt, length-map conds f)) (condition_at f conds i c lt at) (here ∙ ap (λ (ws : List Given). get_or ws i v) is)

-- one condition more
judged_push : (certs : Certificates) (budget n : ℕ) (cs : List Condition) (i : ℕ) (vs : List Verdict) (c : Condition) (v : Verdict) → i < length cs → c ≡ get_or cs i c → AreJudged certs budget n (take i cs) vs → IsJudged certs budget (n + i) c v
    → AreJudged certs budget n (take (suc i) cs) (vs ++ v ∷ [])
judged_push certs budget n [] i vs c v lt at so h = absurd (omega (arith, lt))
judged_push certs budget n (d ∷ cs) zero [] c v lt at so h =
    let here : n + 0 ≡ n = omega arith in
    (subst (λ (m : ℕ). IsJudged certs budget m d v) here (subst (λ (x : Condition). IsJudged certs budget (n + 0) x v) at h), tt)
judged_push certs budget n (d ∷ cs) zero (w ∷ vs) c v lt at so h = absurd so
judged_push certs budget n (d ∷ cs) (suc i) [] c v lt at so h = absurd so
judged_push certs budget n (d ∷ cs) (suc i) (w ∷ vs) c v lt at so h =
    let later : n + suc i ≡ n + 1 + i = omega arith in
    (so.0, judged_push certs budget (n + 1) cs i vs c v (omega (arith, lt)) at so.1 (subst (λ (m : ℕ). IsJudged certs budget m c v) later h))

pub judged_more : (certs : Certificates) (budget : ℕ) (f : Cond → Condition) (conds : List Cond) (i : ℕ) (vs : List Verdict) (c : Cond) (v : Verdict) → i < length conds → c ≡ get_or conds i c → AreJudged certs budget 1 (take i (map f conds)) vs → IsJudged certs budget (1 + i) (f c) v
    → AreJudged certs budget 1 (take (i + 1) (map f conds)) (vs ++ v ∷ [])
judged_more certs budget f conds i vs c v lt at so h =
    let next : suc i ≡ i + 1 = omega arith in
    subst (λ (k : ℕ). AreJudged certs budget 1 (take k (map f conds)) (vs ++ v ∷ [])) next
    (judged_push certs budget 1 (map f conds) i vs (f c) v (omega (arith, lt, length-map conds f)) (condition_at f conds i c lt at) so h)

-- nothing yet
pub judged_none : (certs : Certificates) (budget : ℕ) (cs : List Condition) (vs : List Verdict) → vs ≡ [] → AreJudged certs budget 1 (take 0 cs) vs
judged_none certs budget cs vs none = subst (λ (ws : List Verdict). AreJudged certs budget 1 (take 0 cs) ws) (sym none) tt

-- the next condition, where the terms are as before
pub judged_turn : (certs : Certificates) (budget : ℕ) (old now : List Plain) (conds : List Cond) (i : ℕ) (vs new : List Verdict) (c : Cond) (v : Verdict) (gs : List Given) (g : Given)
    → length now ≡ length old → ((t : ℕ) → t < length old → tree_at now t ≡ tree_at old t) → All (IsWithin (length old)) conds → i < length conds → c ≡ get_or conds i c
    → gs ≡ verdicts_on certs 1 (map (condition_of old) conds) → g ≡ get_or gs i g
    → ((cs : Certificates) (n : ℕ) → g ≡ verdict_on (condition_of now c) (certificate_for cs n) → IsJudged cs budget n (condition_of now c) v) → new ≡ vs ++ v ∷ []
    → AreJudged certs budget 1 (take i (map (condition_of old) conds)) vs → AreJudged certs budget 1 (take (i + 1) (map (condition_of old) conds)) new
judged_turn certs budget old now conds i vs new c v gs g same kept within lt at are here judged pushed so =
    let stays : condition_of now c ≡ condition_of old c = same_condition old now c same kept (within_at (length old) conds i c within lt at) in
    let told : g ≡ verdict_on (condition_of old c) (certificate_for certs (1 + i)) = given_at certs (condition_of old) conds i c gs g lt at are here in
    let now_judged : IsJudged certs budget (1 + i) (condition_of now c) v = judged certs (1 + i) (told ∙ ap (λ (x : Condition). verdict_on x (certificate_for certs (1 + i))) (sym stays)) in
    subst (λ (ws : List Verdict). AreJudged certs budget 1 (take (i + 1) (map (condition_of old) conds)) ws) (sym pushed)
    (judged_more certs budget (condition_of old) conds i vs c v lt at so (subst (λ (x : Condition). IsJudged certs budget (1 + i) x v) stays now_judged))

take_past : (cs : List Condition) (i : ℕ) → length cs ≤ i → take i cs ≡ cs
take_past [] zero le = refl
take_past [] (suc i) le = refl
take_past (c ∷ cs) zero le = absurd (omega (arith, le))
take_past (c ∷ cs) (suc i) le = ap (λ (ds : List Condition). c ∷ ds) (take_past cs i (omega (arith, le)))

pub judged_whole : (certs : Certificates) (budget : ℕ) (f : Cond → Condition) (conds : List Cond) (i : ℕ) (vs : List Verdict) → length conds ≤ i → AreJudged certs budget 1 (take i (map f conds)) vs → AreJudged certs budget 1 (map f conds) vs
judged_whole certs budget f conds i vs le so = subst (λ (cs : List Condition). AreJudged certs budget 1 cs vs) (take_past (map f conds) i (omega (arith, le, length-map conds f))) so

-- ---- what all of them say

pub all_known : (certs : Certificates) (budget n : ℕ) (cs : List Condition) (vs : List Verdict) → AreJudged certs budget n cs vs → AreKnown certs budget n cs (map known vs)
all_known certs budget n [] [] h = tt
all_known certs budget n [] (v ∷ vs) h = absurd h
all_known certs budget n (c ∷ cs) [] h = absurd h
all_known certs budget n (c ∷ cs) (v ∷ vs) h = (h.0.known, all_known certs budget (n + 1) cs vs h.1)

pub all_named : (certs : Certificates) (budget n : ℕ) (cs : List Condition) (vs : List Verdict) → AreJudged certs budget n cs vs → NameTerms vs
all_named certs budget n [] [] h = tt
all_named certs budget n [] (v ∷ vs) h = absurd h
all_named certs budget n (c ∷ cs) [] h = absurd h
all_named certs budget n (c ∷ cs) (v ∷ vs) h = (h.0.named, all_named certs budget (n + 1) cs vs h.1)

all_counted : (certs : Certificates) (budget n : ℕ) (cs : List Condition) (vs : List Verdict) → AreJudged certs budget n cs vs → length vs ≡ length cs
all_counted certs budget n [] [] h = refl
all_counted certs budget n [] (v ∷ vs) h = absurd h
all_counted certs budget n (c ∷ cs) [] h = absurd h
all_counted certs budget n (c ∷ cs) (v ∷ vs) h = ap suc (all_counted certs budget (n + 1) cs vs h.1)

pub judged_count : (certs : Certificates) (budget : ℕ) (f : Cond → Condition) (conds : List Cond) (vs : List Verdict) → AreJudged certs budget 1 (map f conds) vs → length vs ≡ length conds
judged_count certs budget f conds vs h = all_counted certs budget 1 (map f conds) vs h ∙ length-map conds f
