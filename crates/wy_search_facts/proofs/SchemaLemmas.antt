-- The schemas, one after the other.
use Rattle.std.proofs.Common.{◌≡◌, ◌≢◌, ◌∙◌, ◌<◌, ◌≤◌, ◌+◌, ◌-◌, ℕ, suc, List, Bool, true, false, cond, eqb, refl, sym, ap, arith}
use Rattle.std.proofs.lemmas.Bool.{eqb-true}
use Rattle.wy_cong.specs.wy_check_spec.judge.Node.{Node}
use Rattle.wy_cong.specs.wy_search_spec.Expansion.{all_measured, with_all_elements, with_facts_by, with_facts_of_one, with_kind_facts, with_pairs, with_schemas}
use Rattle.wy_term.specs.Condition.{Entry}
use Rattle.wy_term.specs.Term.{Term}

unequal : (n m : ℕ) → n ≢ m → eqb n m ≡ false
unequal n m h = by (eqb n m) refl
  where
    by : (b : Bool) → eqb n m ≡ b → b ≡ false
    by true e = absurd (h (eqb-true n m e))
    by false e = refl

other : {A : Type 0} (b : Bool) (x y : A) → b ≡ false → y ≡ cond b x y
other true x y e = absurd cc
other false x y e = refl

-- a schema that has no function of its own
pub plain_is : (types : List Entry) (node : Node) (ts : List Term) (n : ℕ) (done : Node) → n ≢ 1 → n ≢ 4 → n ≢ 8 → n ≢ 14 → with_facts_of_one types n done ts ≡ with_facts_by types node ts n done
plain_is types node ts n done one four eight fourteen =
    other (eqb n 14) (with_kind_facts node done ts) _ (unequal n 14 fourteen)
    ∙ other (eqb n 8) (with_pairs done ts ts) _ (unequal n 8 eight)
    ∙ other (eqb n 4) (with_all_elements done ts) _ (unequal n 4 four)
    ∙ other (eqb n 1) (with_facts_of_one types 1 done (all_measured ts)) _ (unequal n 1 one)

pub schema_led : (types : List Entry) (node : Node) (ts : List Term) (n : ℕ) (now new whole : Node) → n < 17 → new ≡ with_facts_by types node ts n now
    → with_schemas types node ts n (17 - n) now ≡ whole → with_schemas types node ts (n + 1) (17 - (n + 1)) new ≡ whole
schema_led types node ts n now new whole lt is led =
    let left : 17 - n ≡ suc (17 - (n + 1)) = omega (arith, lt) in
    let next : n + 1 ≡ suc n = omega arith in
    ap (λ (m : ℕ). with_schemas types node ts m (17 - (n + 1)) new) next
    ∙ ap (λ (d : Node). with_schemas types node ts (suc n) (17 - (n + 1)) d) is
    ∙ sym (ap (λ (m : ℕ). with_schemas types node ts n m now) left)
    ∙ led

pub schemas_end : (types : List Entry) (node : Node) (ts : List Term) (n : ℕ) (now whole : Node) → 17 ≤ n → with_schemas types node ts n (17 - n) now ≡ whole → now ≡ whole
schemas_end types node ts n now whole le led =
    let left : 17 - n ≡ 0 = omega (arith, le) in
    sym (ap (λ (m : ℕ). with_schemas types node ts n m now) left) ∙ led
