-- Numbers with signs among others.
use Rattle.std.proofs.Common.{◌≡◌, ◌∙◌, ◌&&◌, ◌||◌, ◌%◌, ◌<◌, ◌≢◌, ℕ, List, [], ◌∷◌, ◌++◌, length, Bool, true, false, cond, eqb, Option, Some, None, get_or, set, refl, sym, ap, rules, arith}
use Rattle.std.specs.Bool.{beq}
use Rattle.std.specs.Prelude.{is_some, nat_le}
use Rattle.std.proofs.lemmas.Bool.{eqb-true}
use Rattle.std.proofs.lemmas.List.{get_or-set_other, get_or-set_same}
use Rattle.std.proofs.lemmas.List.Folds.{list_any-append}
use Rattle.wy_items.specs.few.Signed.{is_among, last_of, noted_from, same_key, NotesAll}

eqb_turned : (m n : ℕ) → eqb m n ≡ eqb n m
eqb_turned m n = search rules

beq_turned : (a b : Bool) → beq a b ≡ beq b a
beq_turned true true = refl
beq_turned true false = refl
beq_turned false true = refl
beq_turned false false = refl

turned : (p q : ℕ × Bool) → same_key p q ≡ same_key q p
turned p q = ap (λ (b : Bool). b && beq p.1 q.1) (eqb_turned p.0 q.0) ∙ ap (λ (b : Bool). eqb q.0 p.0 && b) (beq_turned p.1 q.1)

or_last : (a b : Bool) → cond a true b ≡ (b || (a || false))
or_last true true = refl
or_last true false = refl
or_last false true = refl
or_last false false = refl

or_between : (a b c : Bool) → cond a true (b || c) ≡ ((b || (a || false)) || c)
or_between true true c = refl
or_between true false c = refl
or_between false true c = refl
or_between false false c = refl

among_more : (keys : List (ℕ × Bool)) (k p : ℕ × Bool) → is_among (keys ++ k ∷ []) p ≡ (is_among keys p || (same_key k p || false))
among_more keys k p = list_any-append (same_key p) keys (k ∷ []) ∙ ap (λ (b : Bool). is_among keys p || (b || false)) (turned p k)

-- one more is noted
pub noted_next : (first old new : ℕ × Bool → Bool) (keys more : List (ℕ × Bool)) (k : ℕ × Bool) → NotesAll first old keys → ((q : ℕ × Bool) → new q ≡ cond (same_key k q) true (old q)) → more ≡ keys ++ k ∷ [] → NotesAll first new more
noted_next first old new keys more k was puts is = λ p.
    puts p
    ∙ (ap (λ (b : Bool). cond (same_key k p) true b) (was p)
    ∙ (or_between (same_key k p) (is_among keys p) (first p)
    ∙ (ap (λ (b : Bool). b || first p) (sym (among_more keys k p))
    ∙ ap (λ (ks : List (ℕ × Bool)). is_among ks p || first p) (sym is))))

-- one more of those that have a table
pub listed_next : (old new : ℕ × Bool → Bool) (keys more : List (ℕ × Bool)) (k : ℕ × Bool) → ((p : ℕ × Bool) → old p ≡ noted_from 80 keys p) → nat_le 80 (length keys) ≡ true → nat_le 81 (length more) ≡ true
    → ((q : ℕ × Bool) → new q ≡ cond (same_key k q) true (old q)) → more ≡ keys ++ k ∷ [] → (p : ℕ × Bool) → new p ≡ noted_from 81 more p
listed_next old new keys more k was many long puts is p =
    puts p
    ∙ (ap (λ (b : Bool). cond (same_key k p) true b) (was p ∙ ap (λ (b : Bool). cond b (is_among keys p) false) many)
    ∙ (or_last (same_key k p) (is_among keys p)
    ∙ (sym (among_more keys k p)
    ∙ (ap (λ (ks : List (ℕ × Bool)). is_among ks p) (sym is)
    ∙ sym (ap (λ (b : Bool). cond b (is_among more p) false) long)))))

-- ---- the last number of each remainder

remainder_below : (n : ℕ) → n % 128 < 128
remainder_below n = search rules

unlike : (keys more : List (ℕ × Bool)) (k p : ℕ × Bool) → more ≡ keys ++ k ∷ [] → eqb k.0 p.0 ≡ false → is_among keys p ≡ false → is_among more p ≡ false
unlike keys more k p is other none =
    ap (λ (ks : List (ℕ × Bool)). is_among ks p) is
    ∙ (among_more keys k p
    ∙ (ap (λ (b : Bool). b || ((eqb k.0 p.0 && beq k.1 p.1) || false)) none
    ∙ ap (λ (b : Bool). (b && beq k.1 p.1) || false) other))

-- where no number has a remainder, none that has it is there, also with one more
pub last_next : (keys more : List (ℕ × Bool)) (k : ℕ × Bool) (last : List (Option ℕ)) (place : ℕ) → length last ≡ 128 → ((p : ℕ × Bool) → is_some (last_of last p.0) ≡ false → is_among keys p ≡ false) → more ≡ keys ++ k ∷ []
    → (p : ℕ × Bool) → is_some (last_of (set last (k.0 % 128) (Some place)) p.0) ≡ false → is_among more p ≡ false
last_next keys more k last place many was is p none = by (eqb (p.0 % 128) (k.0 % 128)) refl
  where
    here : p.0 % 128 ≡ k.0 % 128 → get_or (set last (k.0 % 128) (Some place)) (p.0 % 128) None ≡ Some place
    here same =
        let below : k.0 % 128 < length last = omega (arith, many, remainder_below k.0) in
        ap (λ (i : ℕ). get_or (set last (k.0 % 128) (Some place)) i None) same ∙ get_or-set_same last (k.0 % 128) (Some place) None below

    differs : eqb (p.0 % 128) (k.0 % 128) ≡ false → p.0 % 128 ≢ k.0 % 128
    differs e same = let yes : eqb (p.0 % 128) (k.0 % 128) ≡ true = search (rules, same) in absurd cc

    other : (b : Bool) → eqb k.0 p.0 ≡ b → eqb (p.0 % 128) (k.0 % 128) ≡ false → b ≡ false
    other false is_so e = refl
    other true is_so e = absurd (differs e (ap (λ (i : ℕ). i % 128) (sym (eqb-true k.0 p.0 is_so))))

    by : (b : Bool) → eqb (p.0 % 128) (k.0 % 128) ≡ b → is_among more p ≡ false
    by true e =
        let there : is_some (get_or (set last (k.0 % 128) (Some place)) (p.0 % 128) None) ≡ true = ap is_some (here (eqb-true (p.0 % 128) (k.0 % 128) e)) in
        absurd cc
    by false e =
        let still : get_or (set last (k.0 % 128) (Some place)) (p.0 % 128) None ≡ get_or last (p.0 % 128) None = get_or-set_other last (k.0 % 128) (p.0 % 128) (Some place) None (differs e) in
        unlike keys more k p is (other (eqb k.0 p.0) refl e) (was p (ap is_some (sym still) ∙ none))
