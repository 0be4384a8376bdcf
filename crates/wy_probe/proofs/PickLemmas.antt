-- The values at positions in lists.
use Rattle.std.proofs.Common.{◌≡◌, ◌<◌, ◌+◌, ℕ, zero, suc, List, [], ◌∷◌, ◌++◌, map, drop, length, get_or, sym, ap, ap₂, ◌∙◌, subst, arith}
use Rattle.std.specs.Prelude.{slice_index_or}
use Rattle.std.proofs.lemmas.List.{length-map}
use Rattle.wy_lemmas.proofs.Lists.{append_mid, next_of}
use Rattle.wy_value.specs.Datum.{Null}
use Rattle.wy_value.specs.Seen.{seen}
use Rattle.wy_value.specs.declared.value.Value.{Value}
use Rattle.wy_probe.specs.Tables.{data_in, table_of}
use Rattle.wy_probe.specs.Trials.{picked}
use Rattle.wy_probe.specs.Tuples.{Fit}
use Rattle.wy_probe.proofs.FitLemmas.{as_long, drop_at}
use Rattle.wy_probe.proofs.ListLemmas.{mapped}

pub as_many : (lists : List (List Value)) (ps : List ℕ) → Fit (map length (table_of lists)) ps → length ps ≡ length lists
as_many lists ps f = as_long (map length (table_of lists)) ps f ∙ (length-map (table_of lists) length ∙ length-map lists data_in)

-- each position lies in its list
pub at_place : (lists : List (List Value)) (ps : List ℕ) (i : ℕ) (list : List Value) → Fit (map length (table_of lists)) ps → i < length lists → list ≡ get_or lists i list → slice_index_or ps i 0 < length list
at_place [] ps i list f lt is = absurd (omega (arith, lt))
at_place (l ∷ lists) [] i list f lt is = absurd f
at_place (l ∷ lists) (p ∷ ps) zero list f lt is = subst (λ n. p < n) (length-map l seen ∙ ap length (sym is)) f.0
at_place (l ∷ lists) (p ∷ ps) (suc i) list f lt is = at_place lists ps i list f.1 (omega (arith, lt)) is

value_at : (list : List Value) (p : ℕ) (x : Value) → p < length list → x ≡ get_or list p x → get_or (data_in list) p Null ≡ seen x
value_at [] p x lt is = absurd (omega (arith, lt))
value_at (v ∷ list) zero x lt is = ap seen (sym is)
value_at (v ∷ list) (suc p) x lt is = value_at list p x (omega (arith, lt)) is

picked_next : (lists : List (List Value)) (ps : List ℕ) (i : ℕ) (list : List Value) (x : Value) → Fit (map length (table_of lists)) ps → i < length lists → list ≡ get_or lists i list → x ≡ get_or list (slice_index_or ps i 0) x
    → picked (table_of (drop i lists)) (drop i ps) ≡ seen x ∷ picked (table_of (drop (i + 1) lists)) (drop (i + 1) ps)
picked_next lists ps i list x f lt is at =
    let long = as_many lists ps f in
    let within : i < length ps = omega (arith, lt, long) in
    let next : suc i ≡ i + 1 = omega arith in
    ap (λ l. picked (table_of l) (drop i ps)) (next_of lists i list lt is)
    ∙ (ap (λ qs. picked (table_of (list ∷ drop (i + 1) lists)) qs) (drop_at ps i within)
    ∙ ap₂ (λ d k. d ∷ picked (table_of (drop (i + 1) lists)) (drop k ps)) (value_at list (slice_index_or ps i 0) x (at_place lists ps i list f lt is) at) next)

-- one value more is picked
pub one_picked : (lists : List (List Value)) (ps : List ℕ) (i : ℕ) (list : List Value) (x w : Value) (made more : List Value) → Fit (map length (table_of lists)) ps → i < length lists → list ≡ get_or lists i list
    → x ≡ get_or list (slice_index_or ps i 0) x → more ≡ made ++ w ∷ [] → w ≡ x → map seen made ++ picked (table_of (drop i lists)) (drop i ps) ≡ picked (table_of lists) ps
    → map seen more ++ picked (table_of (drop (i + 1) lists)) (drop (i + 1) ps) ≡ picked (table_of lists) ps
one_picked lists ps i list x w made more f lt is at pushed same inv =
    ap (λ l. l ++ picked (table_of (drop (i + 1) lists)) (drop (i + 1) ps)) (mapped seen made more w (seen x) pushed (ap seen same))
    ∙ (append_mid (map seen made) (seen x) (picked (table_of (drop (i + 1) lists)) (drop (i + 1) ps))
    ∙ (ap (λ l. map seen made ++ l) (sym (picked_next lists ps i list x f lt is at)) ∙ inv))
