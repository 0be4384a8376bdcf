-- A text to which the lines of conditions are added.
use Rattle.std.proofs.Common.{◌≡◌, ◌∙◌, ◌<◌, ◌≤◌, ◌+◌, ℕ, zero, suc, List, [], ◌∷◌, ◌++◌, length, drop, get_or, map, refl, sym, ap, arith, append_assoc}
use Rattle.std.specs.Prelude.{codes}
use Rattle.std.proofs.lemmas.List.{append-nil, drop_all, length-map}
use Rattle.wy_lemmas.proofs.Lists.{next_of as at_drop}
use Rattle.wy_lemmas.proofs.Numbers.{two}
use Rattle.wy_top_probe.specs.wy_top_answers.report.Lines.{of_condition, open_condition, refused}
use Rattle.wy_term.specs.Nodes.{Plain}
use Rattle.wy_term.specs.declared.cond.Cond.{Cond}
use Rattle.wy_vc.specs.Told.{Told, seen_cond}
use Rattle.wy_batch.specs.Known.{Known, End, supplied, found, stays_open, spent, count, is_open, is_spent}
use Rattle.wy_batch.specs.Seen.{known, seen_end, NamesTerms, NameTerms}
use Rattle.wy_batch.specs.declared.verdict.Verdict.{Verdict}
use Rattle.wy_top.specs.Refusals.{end_lines, lines_from, refusal_lines}

-- the numbers that an end has are those of its terms
pub named_index : (vs : List Verdict) (i : ℕ) (d : Verdict) → NameTerms vs → i < length vs → NamesTerms (get_or vs i d).end
named_index [] i d named lt = absurd (omega (arith, lt))
named_index (w ∷ vs) zero d named lt = named.0
named_index (w ∷ vs) (suc i) d named lt = named_index vs i d named.1 (omega (arith, lt))

-- one more condition
pub lines_more : (file bytes : List ℕ) (budget : ℕ) (seen : Cond → Told) (cs : List Cond) (vs : List Verdict) (i n : ℕ) (c : Cond) (v : Verdict) (out new whole : List ℕ) → i < length cs → c ≡ get_or cs i c → i < length vs → v ≡ get_or vs i v → n ≡ i + 1
    → out ++ lines_from file bytes budget (suc i) (map seen (drop i cs)) (map known (drop i vs)) ≡ whole → new ≡ out ++ end_lines file bytes budget n (seen c) (seen_end v.end)
    → new ++ lines_from file bytes budget (suc (i + 1)) (map seen (drop (i + 1) cs)) (map known (drop (i + 1) vs)) ≡ whole
lines_more file bytes budget seen cs vs i n c v out new whole lt is below here number so_far e =
    let next : i + 1 ≡ suc i = omega arith in
    let ts : List Told = map seen (drop (i + 1) cs) in
    let ks : List Known = map known (drop (i + 1) vs) in
    ap (λ (y : List ℕ). y ++ lines_from file bytes budget (suc (i + 1)) ts ks) e
    ∙ append_assoc out (end_lines file bytes budget n (seen c) (seen_end v.end)) (lines_from file bytes budget (suc (i + 1)) ts ks)
    ∙ ap (λ (m : ℕ). out ++ (end_lines file bytes budget m (seen c) (seen_end v.end) ++ lines_from file bytes budget (suc (i + 1)) ts ks)) (number ∙ next)
    ∙ ap (λ (k : ℕ). out ++ (end_lines file bytes budget (suc i) (seen c) (seen_end v.end) ++ lines_from file bytes budget (suc k) ts ks)) next
    ∙ ap (λ (ds : List Cond). out ++ lines_from file bytes budget (suc i) (map seen ds) (known v ∷ ks)) (sym (at_drop cs i c lt is))
    ∙ ap (λ (ws : List Verdict). out ++ lines_from file bytes budget (suc i) (map seen (drop i cs)) (map known ws)) (sym (at_drop vs i v below here))
    ∙ so_far

-- all of them
pub lines_end : (file bytes : List ℕ) (budget : ℕ) (seen : Cond → Told) (cs : List Cond) (vs : List Verdict) (i : ℕ) (out whole : List ℕ) → length cs ≤ i
    → out ++ lines_from file bytes budget (suc i) (map seen (drop i cs)) (map known (drop i vs)) ≡ whole → out ≡ whole
lines_end file bytes budget seen cs vs i out whole le so_far =
    sym (append-nil out) ∙ ap (λ (ds : List Cond). out ++ lines_from file bytes budget (suc i) (map seen ds) (map known (drop i vs))) (sym (drop_all i cs le)) ∙ so_far

pub ruleset lines_steps = (lines_more, lines_end)

-- ---- kinds and places alone count

same_end : (file bytes : List ℕ) (budget n : ℕ) (old new : List Plain) (c : Cond) (e : End) → end_lines file bytes budget n (seen_cond old c) e ≡ end_lines file bytes budget n (seen_cond new c) e
same_end file bytes budget n old new c supplied = refl
same_end file bytes budget n old new c (found leaves) = refl
same_end file bytes budget n old new c (stays_open leaf why literals) = refl
same_end file bytes budget n old new c spent = refl

pub same_lines : (file bytes : List ℕ) (budget n : ℕ) (old new : List Plain) (cs : List Cond) (ks : List Known) → lines_from file bytes budget n (map (seen_cond old) cs) ks ≡ lines_from file bytes budget n (map (seen_cond new) cs) ks
same_lines file bytes budget n old new [] ks = refl
same_lines file bytes budget n old new (c ∷ cs) [] = refl
same_lines file bytes budget n old new (c ∷ cs) (k ∷ ks) =
    ap (λ (l : List ℕ). l ++ lines_from file bytes budget (suc n) (map (seen_cond old) cs) ks) (same_end file bytes budget n old new c k.end)
    ∙ ap (λ (l : List ℕ). end_lines file bytes budget n (seen_cond new c) k.end ++ l) (same_lines file bytes budget (suc n) old new cs ks)

-- the last line behind them
pub whole_lines : (file bytes : List ℕ) (budget : ℕ) (nodes : List Plain) (cs : List Cond) (vs : List Verdict) (text new sum : List ℕ) (n o p : ℕ) → text ≡ lines_from file bytes budget 1 (map (seen_cond []) cs) (map known vs)
    → n ≡ length vs → o ≡ count is_open (map known vs) → p ≡ count is_spent (map known vs) → sum ≡ refused n o p → new ≡ text ++ sum → new ≡ refusal_lines file bytes budget (map (seen_cond nodes) cs) (map known vs)
whole_lines file bytes budget nodes cs vs text new sum n o p text_is n_is o_is p_is sum_is is =
    let ks : List Known = map known vs in
    let each : n ≡ length ks = n_is ∙ sym (length-map vs known) in
    is
    ∙ ap (λ (l : List ℕ). l ++ sum) (text_is ∙ same_lines file bytes budget 1 [] nodes cs ks)
    ∙ ap (λ (l : List ℕ). lines_from file bytes budget 1 (map (seen_cond nodes) cs) ks ++ l)
    (sum_is ∙ (ap (λ (k : ℕ). refused k o p) each ∙ (ap (λ (k : ℕ). refused (length ks) k p) o_is ∙ ap (λ (k : ℕ). refused (length ks) (count is_open ks) k) p_is)))

-- ---- an open condition, whose literals are written behind its line

open_is : (old mid new file why literals kind line : List ℕ) (at_line column number : ℕ) → line ≡ open_condition file at_line column number kind why [] → mid ≡ old ++ line → new ≡ mid ++ literals → new ≡ old ++ open_condition file at_line column number kind why literals
open_is old mid new file why literals kind line at_line column number is first second =
    let head : List ℕ = open_condition file at_line column number kind why [] in
    second ∙ ap (λ (m : List ℕ). m ++ literals) (first ∙ ap (λ (l : List ℕ). old ++ l) is)
    ∙ append_assoc old head literals
    ∙ ap (λ (l : List ℕ). old ++ (l ++ literals)) (append-nil (of_condition file at_line column number kind (codes "open " ++ why)))

-- the same at its place, by what was called
pub open_there : (file : List ℕ) (at_line column number : ℕ) (p : ℕ × ℕ) (word kind reason why line slice old mid new literals : List ℕ) → two at_line column ≡ p → word ≡ kind → reason ≡ why
    → line ≡ open_condition file at_line column number word reason [] → slice ≡ line → mid ≡ old ++ slice → new ≡ mid ++ literals → new ≡ old ++ open_condition file p.0 p.1 number kind why literals
open_there file at_line column number p word kind reason why line slice old mid new literals place word_is reason_is line_is slice_is mid_is new_is =
    open_is old mid new file reason literals word line at_line column number line_is (mid_is ∙ ap (λ (l : List ℕ). old ++ l) slice_is) new_is
    ∙ ap (λ (w : List ℕ). old ++ open_condition file at_line column number w reason literals) word_is
    ∙ ap (λ (r : List ℕ). old ++ open_condition file at_line column number kind r literals) reason_is
    ∙ ap (λ (q : ℕ × ℕ). old ++ open_condition file q.0 q.1 number kind why literals) place
