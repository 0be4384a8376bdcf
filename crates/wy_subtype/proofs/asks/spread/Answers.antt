use Rattle.std.proofs.Common.{◌≡◌, ℕ, ◌<◌, ◌≤◌, ◌+◌, ◌-◌, List, [], ◌++◌, map, length, take, drop, get_or, sym, ap, ◌∙◌, append_assoc, append-nil, take_all, length-drop, arith, inl, inr, ◌⊎◌, min}
use Rattle.std.proofs.lemmas.Bool.{cases_lt}
use Rattle.wy_canon.specs.wy_types.Asks.{spread, spread_field}
use Rattle.wy_canon.specs.wy_types.declared.conjuncts.Part.{Part}
use Rattle.wy_canon.specs.wy_types.declared.conjuncts.Signed.{Signed}
use Rattle.wy_subtype.proofs.SpreadLemmas.{none_before, no_more, one_place}
use Rattle.wy_subtype.proofs.asks.spread.Goals as goal

pub loop-place-init : goal.loop-place-init
loop-place-init c =
    let all = spread c.args.table.now c.args.depth c.args.fields.now c.args.others.now in
    ap (λ (ws : List (List (List ℕ × Part ℕ))). ws ++ map (λ (w : List (List ℕ × Part ℕ)). [] ++ w) all) c.new-ways.ensures ∙ none_before all

pub loop-place-preserved : goal.loop-place-preserved
loop-place-preserved c =
    let fs = c.args.fields.now in
    let qs = c.args.others.now in
    let i = c.loop-place.place in
    let f = get_or fs i c.index-fields-place.result in
    let q = get_or qs i c.index-others-place.result in
    let ways = c.loop-place.ways in
    let within : i < length fs = omega (arith, c.loop-place-test.true, c.min-place-end.ensures) in
    let beside : i < length qs = omega (arith, c.loop-place-test.true, c.min-place-end.ensures) in
    let behind : take (length fs - (i + 1)) (drop (i + 1) fs) ≡ drop (i + 1) fs
    = take_all (length fs - (i + 1)) (drop (i + 1) fs) (omega (arith, length-drop (i + 1) fs)) in
    let rest = map (λ (w : List (List ℕ × Part ℕ)). take (i + 1) fs ++ w) (spread c.args.table.now c.args.depth (drop (i + 1) fs) (drop (i + 1) qs)) in
    let made = c.in_ok-made.ensures.value
    ∙ ap (λ (x : List ℕ × Part ℕ). map (λ (w : List (List ℕ × Part ℕ)). take i fs ++ w) (spread_field c.args.table.now c.args.depth x (take (length fs - (i + 1)) (drop (i + 1) fs)) c.as_slice-part.result.now)) c.index-fields-place.is
    ∙ ap (λ (xs : List (List ℕ × Part ℕ)). map (λ (w : List (List ℕ × Part ℕ)). take i fs ++ w) (spread_field c.args.table.now c.args.depth f xs c.as_slice-part.result.now)) behind
    ∙ ap (λ (p : List (Signed ℕ)). map (λ (w : List (List ℕ × Part ℕ)). take i fs ++ w) (spread_field c.args.table.now c.args.depth f (drop (i + 1) fs) p)) c.as_slice-part.ensures in
    ap (λ (ws : List (List (List ℕ × Part ℕ))). ws ++ rest) (c.in_ok-append.ensures ∙ ap (λ (ws : List (List (List ℕ × Part ℕ))). ways ++ ws) made)
    ∙ append_assoc ways (map (λ (w : List (List ℕ × Part ℕ)). take i fs ++ w) (spread_field c.args.table.now c.args.depth f (drop (i + 1) fs) q.1.terms)) rest
    ∙ ap (λ (ws : List (List (List ℕ × Part ℕ))). ways ++ ws) (sym (one_place c.args.table.now c.args.depth fs qs i c.index-fields-place.result c.index-others-place.result within beside))
    ∙ c.loop-place.invariant

-- whichever is the shorter one has come to its end
ended : (m n k i : ℕ) → k ≡ min m n → k ≤ i → (m ≤ i) ⊎ (n ≤ i)
ended m n k i is le = by-order (cases_lt m n)
  where
    by-order : (m < n) ⊎ (n ≤ m) → (m ≤ i) ⊎ (n ≤ i)
    by-order (inl first) = inl (omega (arith, is, le, first))
    by-order (inr second) = inr (omega (arith, is, le, second))

pub returns : goal.returns
returns c =
    let fs = c.args.fields.now in
    let qs = c.args.others.now in
    let i = c.loop-place.place in
    let none = no_more c.args.table.now c.args.depth (take i fs) fs qs i (ended (length fs) (length qs) c.min-place-end.result i c.min-place-end.ensures c.loop-place-test.false) in
    record { value = sym (append-nil c.loop-place.ways) ∙ ap (λ (ws : List (List (List ℕ × Part ℕ))). c.loop-place.ways ++ ws) (sym none) ∙ c.loop-place.invariant }
