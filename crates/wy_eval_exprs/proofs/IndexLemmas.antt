-- Indices of arrays, and their lengths.
use Rattle.std.proofs.Common.{◌≡◌, ◌≢◌, ℕ, ◌+◌, ◌<◌, ◌≤◌, ℤ, pos, negsuc, Bool, true, false, ◌&&◌, List, [], ◌∷◌, map, Result, Ok, Err, refl, sym, ap, ◌∙◌, subst, arith}
use Rattle.std.specs.Prelude.{int_le, int_lt}
use Rattle.wy_value.specs.Datum.{Datum, Whole, Array, Data, item}
use Rattle.wy_value.specs.declared.value.Value.{Value}
use Rattle.wy_value.specs.declared.value.Value.TheVariants as value
use Rattle.wy_value.specs.Values.{length_of}
use Rattle.wy_value.specs.Seen.{seen, seen_items}
use Rattle.wy_value.proofs.SeenLemmas.{seen_array}
use Rattle.wy_term.specs.declared.cond.CondKind.TheVariants.{Index, Length}
use Rattle.wy_sem.specs.Meter as sem
use Rattle.wy_sem.specs.Meter.{Done, Fault, Run, check}
use Rattle.wy_sem.specs.Operations as spec
use Rattle.wy_sem.specs.Operations.{is_index, longest}
use Rattle.wy_eval_exprs.specs.declared.stop.Stop.{Stop}
use Rattle.wy_eval_exprs.specs.declared.stop.Stop.TheVariants as stop
use Rattle.wy_eval_exprs.specs.Operands.{items_of}
use Rattle.wy_eval_exprs.specs.Outcomes.{stopped}
use Rattle.wy_eval_exprs.specs.Parts.{IndexOf, NumberIn, is_below, is_length}

within : (i n : ℕ) → i < n → is_below (pos i) n ≡ true
within i n h = grind (arith, h)

pub index_is : (at : ℕ) (v w : Datum) (ds : Data) (z : ℤ) (n : ℕ) (r : Result ℕ Stop) → v ≡ Array ds → w ≡ Whole z → n ≡ length_of ds → NumberIn at z n r → IndexOf at v w r
index_is at v w ds z n (Ok i) hv hw hn h = (ds, hv, hw ∙ ap (λ x. Whole x) h.0, ap (λ k. is_below (pos i) k) (sym hn) ∙ within i n h.1)
index_is at v w ds z n (Err e) hv hw hn h = λ next m.
    ap (λ x. spec.indexed at x w next m) hv
    ∙ (ap (λ x. spec.indexed at (Array ds) x next m) hw
    ∙ (ap (λ b. check b Index at (next ds (spec.nat_of z)) m) (ap (λ k. is_below z k) (sym hn) ∙ h.1) ∙ sym (ap (λ g. stopped g m) h.0)))

either_fails : (a b : Bool) (at : ℕ) (next : Run Datum) (m : sem.Meter) → (a && b) ≡ false → check a Length at (check b Length at next) m ≡ Fault Length at m
either_fails true true at next m h = absurd cc
either_fails true false at next m h = refl
either_fails false b at next m h = refl

both_hold : (a b : Bool) (at : ℕ) (next : Run Datum) (m : sem.Meter) → (a && b) ≡ true → check a Length at (check b Length at next) m ≡ next m
both_hold true true at next m h = refl
both_hold true false at next m h = absurd cc
both_hold false b at next m h = absurd cc

pub repeated_refused : (at : ℕ) (v w : Datum) (z : ℤ) (m : sem.Meter) → w ≡ Whole z → is_length z ≡ false → spec.repeated at v w m ≡ Fault Length at m
repeated_refused at v w z m h g = ap (λ x. spec.repeated at v x m) h ∙ either_fails (int_le (pos 0) z) (int_le z (pos longest)) at (Done (Array (spec.copies (spec.nat_of z) v))) m g

items-seen : (vs : List Value) → seen_items vs ≡ items_of vs
items-seen [] = refl
items-seen (v ∷ vs) = ap (λ d. item (seen v) d) (items-seen vs)

pub array_is : (vs : List Value) → seen (value.Array vs) ≡ Array (items_of vs)
array_is vs = seen_array vs ∙ ap (λ d. Array d) (items-seen vs)

pub repeated_is : (at : ℕ) (v w : Datum) (z : ℤ) (n : ℕ) (vs : List Value) (m : sem.Meter) → w ≡ Whole z → z ≡ pos n → is_length (pos n) ≡ true → items_of vs ≡ spec.copies n v → spec.repeated at v w m ≡ Done (seen (value.Array vs)) m
repeated_is at v w z n vs m h e g made =
    ap (λ x. spec.repeated at v x m) (h ∙ ap (λ x. Whole x) e)
    ∙ (both_hold (int_le (pos 0) (pos n)) (int_le (pos n) (pos longest)) at (Done (Array (spec.copies n v))) m g
    ∙ ap (λ d. Done d m) (ap (λ d. Array d) (sym made) ∙ sym (array_is vs)))
