-- Labels that a certificate shows to be right tell which arrows lie on a cycle.
use Rattle.std.proofs.Common.{◌≡◌, ◌≢◌, ◌+◌, ◌<◌, ◌≤◌, ◌↔◌, ◌⊎◌, inl, inr, ℕ, zero, suc, Bool, true, false, not, ◌&&◌, ◌==◌, List, [], ◌∷◌, Option, Some, None, refl, sym, ap, subst, arith}
use Rattle.std.specs.List.{slice_get}
use Rattle.std.specs.Bool.{nat_lt}
use Rattle.std.proofs.Math.Dec.{eqb}
use Rattle.std.proofs.lemmas.Bool.Decides.{eqb_tells}
use Rattle.std.proofs.lemmas.Bool.{eqb-true, ltb-true, ltb-false}
use Rattle.wy_graph.specs.declared.cycles.graph.Arrow.{Arrow}
use Rattle.wy_graph.specs.declared.cycles.certificate.Certificate.{Certificate}
use Rattle.wy_graph.specs.cycles.Cycles.{Leads, stays, goes, label, TellCycles, Rise}
use Rattle.wy_graph.specs.cycles.Certificates.{number_at, is_root, is_nearer, up_by, down_by, leads_up, leads_down, fits, rises, each_rises}
use Rattle.wy_lemmas.proofs.Choices.{not_true as refuted, both_parts as both, or_cases as one_of}

-- each arrow of the list rises
risen : (labels : List ℕ) (count : ℕ) (arrows : List Arrow) → each_rises labels count arrows ≡ true → (i : ℕ) (a : Arrow) → slice_get arrows i ≡ Some a → rises labels count a ≡ true
risen labels count [] h i a e = absurd (cc)
risen labels count (x ∷ xs) h zero a e =
    let same : x ≡ a = cc in subst (λ (y : Arrow). rises labels count y ≡ true) same (both (rises labels count x) (each_rises labels count xs) h).0
risen labels count (x ∷ xs) h (suc i) a e = risen labels count xs (both (rises labels count x) (each_rises labels count xs) h).1 i a e

-- what that says
record Risen (labels : List ℕ) (count : ℕ) (a : Arrow) : Type 0 where
  from : a.from < count
  to : a.to < count
  order : label labels a.from ≤ label labels a.to

risen_facts : (labels : List ℕ) (count : ℕ) (a : Arrow) → rises labels count a ≡ true → Risen labels count a
risen_facts labels count a h =
    let first = both (nat_lt a.from count) (nat_lt a.to count && not (nat_lt (number_at labels a.to) (number_at labels a.from))) h in
    let second = both (nat_lt a.to count) (not (nat_lt (number_at labels a.to) (number_at labels a.from))) first.1 in
    record {
      from = ltb-true a.from count first.0;
      to = ltb-true a.to count second.0;
      order = ltb-false (number_at labels a.to) (number_at labels a.from) (refuted (nat_lt (number_at labels a.to) (number_at labels a.from)) second.1);
    }

pub leads_on : (arrows : List Arrow) (a b d : ℕ) → Leads arrows a b → Leads arrows b d → Leads arrows a d
leads_on arrows a b d (stays e) q = subst (λ (x : ℕ). Leads arrows x d) (sym e) q
leads_on arrows a b d (goes i arrow e f rest) q = goes i arrow e f (leads_on arrows arrow.to b d rest q)

-- labels rise along each way
rise_along : (arrows : List Arrow) (labels : List ℕ) (rising : (i : ℕ) (a : Arrow) → slice_get arrows i ≡ Some a → label labels a.from ≤ label labels a.to) (x y : ℕ) → Leads arrows x y
    → label labels x ≤ label labels y
rise_along arrows labels rising x y (stays e) = let k : label labels x ≡ label labels y = ap (label labels) e in omega arith
rise_along arrows labels rising x y (goes i arrow e f rest) =
    let up : label labels arrow.from ≤ label labels arrow.to = rising i arrow e in
    let k : label labels arrow.from ≡ label labels x = ap (label labels) f in
    let r : label labels arrow.to ≤ label labels y = rise_along arrows labels rising arrow.to y rest in
    omega arith

abbrev root : Certificate → ℕ → ℕ
root c v = number_at c.roots (number_at c.labels v)

up_step : (arrows : List Arrow) (c : Certificate) (count : ℕ) (ends : (i : ℕ) (a : Arrow) → slice_get arrows i ≡ Some a → Risen c.labels count a) (v : ℕ)
    → ((w : ℕ) → w < count → number_at c.up.ranks w < number_at c.up.ranks v → Leads arrows w (root c w))
    → (o : Option Arrow) → slice_get arrows (number_at c.up.arrows v) ≡ o → up_by c.labels c.up v o ≡ true → Leads arrows v (root c v)
up_step arrows c count ends v go None e h = absurd (cc)
up_step arrows c count ends v go (Some a) e h =
    let first = both (a.from == v) (is_nearer c.labels c.up.ranks a.to v) h in
    let second = both (number_at c.labels a.to == number_at c.labels v) (nat_lt (number_at c.up.ranks a.to) (number_at c.up.ranks v)) first.1 in
    let same : number_at c.labels a.to ≡ number_at c.labels v = eqb-true (number_at c.labels a.to) (number_at c.labels v) second.0 in
    let there : Leads arrows a.to (root c a.to) = go a.to (ends (number_at c.up.arrows v) a e).to (ltb-true (number_at c.up.ranks a.to) (number_at c.up.ranks v) second.1) in
    goes (number_at c.up.arrows v) a e (eqb-true a.from v first.0) (subst (λ (r : ℕ). Leads arrows a.to (number_at c.roots r)) same there)

-- each node leads to the root of its label
ups : (arrows : List Arrow) (c : Certificate) (count : ℕ) (ends : (i : ℕ) (a : Arrow) → slice_get arrows i ≡ Some a → Risen c.labels count a) (fit : (v : ℕ) → v < count → fits arrows c v ≡ true)
    (n v : ℕ) → v < count → number_at c.up.ranks v < n → Leads arrows v (root c v)
ups arrows c count ends fit zero v h less = absurd (omega arith)
ups arrows c count ends fit (suc n) v h less = by (ups arrows c count ends fit n) (one_of (is_root c v) (leads_up arrows c.labels c.up v && leads_down arrows c.labels c.down v) (fit v h))
  where
    by : ((w : ℕ) → w < count → number_at c.up.ranks w < n → Leads arrows w (root c w))
        → (is_root c v ≡ true) ⊎ ((leads_up arrows c.labels c.up v && leads_down arrows c.labels c.down v) ≡ true) → Leads arrows v (root c v)
    by go (inl r) = stays (sym (eqb-true (root c v) v r))
    by go (inr k) =
        up_step arrows c count ends v (λ (w : ℕ) (within : w < count) (nearer : number_at c.up.ranks w < number_at c.up.ranks v). go w within (omega arith))
        (slice_get arrows (number_at c.up.arrows v)) refl (both (leads_up arrows c.labels c.up v) (leads_down arrows c.labels c.down v) k).0

down_step : (arrows : List Arrow) (c : Certificate) (count : ℕ) (ends : (i : ℕ) (a : Arrow) → slice_get arrows i ≡ Some a → Risen c.labels count a) (v : ℕ)
    → ((w : ℕ) → w < count → number_at c.down.ranks w < number_at c.down.ranks v → Leads arrows (root c w) w)
    → (o : Option Arrow) → slice_get arrows (number_at c.down.arrows v) ≡ o → down_by c.labels c.down v o ≡ true → Leads arrows (root c v) v
down_step arrows c count ends v go None e h = absurd (cc)
down_step arrows c count ends v go (Some a) e h =
    let first = both (a.to == v) (is_nearer c.labels c.down.ranks a.from v) h in
    let second = both (number_at c.labels a.from == number_at c.labels v) (nat_lt (number_at c.down.ranks a.from) (number_at c.down.ranks v)) first.1 in
    let same : number_at c.labels a.from ≡ number_at c.labels v = eqb-true (number_at c.labels a.from) (number_at c.labels v) second.0 in
    let there : Leads arrows (root c a.from) a.from = go a.from (ends (number_at c.down.arrows v) a e).from (ltb-true (number_at c.down.ranks a.from) (number_at c.down.ranks v) second.1) in
    let last : Leads arrows a.from v = goes (number_at c.down.arrows v) a e refl (stays (eqb-true a.to v first.0)) in
    leads_on arrows (root c v) a.from v (subst (λ (r : ℕ). Leads arrows (number_at c.roots r) a.from) same there) last

-- the root of its label leads to each node
downs : (arrows : List Arrow) (c : Certificate) (count : ℕ) (ends : (i : ℕ) (a : Arrow) → slice_get arrows i ≡ Some a → Risen c.labels count a) (fit : (v : ℕ) → v < count → fits arrows c v ≡ true)
    (n v : ℕ) → v < count → number_at c.down.ranks v < n → Leads arrows (root c v) v
downs arrows c count ends fit zero v h less = absurd (omega arith)
downs arrows c count ends fit (suc n) v h less = by (downs arrows c count ends fit n) (one_of (is_root c v) (leads_up arrows c.labels c.up v && leads_down arrows c.labels c.down v) (fit v h))
  where
    by : ((w : ℕ) → w < count → number_at c.down.ranks w < n → Leads arrows (root c w) w)
        → (is_root c v ≡ true) ⊎ ((leads_up arrows c.labels c.up v && leads_down arrows c.labels c.down v) ≡ true) → Leads arrows (root c v) v
    by go (inl r) = stays (eqb-true (root c v) v r)
    by go (inr k) =
        down_step arrows c count ends v (λ (w : ℕ) (within : w < count) (nearer : number_at c.down.ranks w < number_at c.down.ranks v). go w within (omega arith))
        (slice_get arrows (number_at c.down.arrows v)) refl (both (leads_up arrows c.labels c.up v) (leads_down arrows c.labels c.down v) k).1

ends_of : (arrows : List Arrow) (c : Certificate) (count : ℕ) → each_rises c.labels count arrows ≡ true → (i : ℕ) (a : Arrow) → slice_get arrows i ≡ Some a → Risen c.labels count a
ends_of arrows c count rise i a e = risen_facts c.labels count a (risen c.labels count arrows rise i a e)

pub certified_rise : (arrows : List Arrow) (c : Certificate) (count : ℕ) → each_rises c.labels count arrows ≡ true → Rise arrows c.labels
certified_rise arrows c count rise = record { rises = λ (i : ℕ) (a : Arrow) (e : slice_get arrows i ≡ Some a). (ends_of arrows c count rise i a e).order }

pub certified_cycles : (arrows : List Arrow) (c : Certificate) (count : ℕ) → ((v : ℕ) → v < count → fits arrows c v ≡ true) → each_rises c.labels count arrows ≡ true → TellCycles arrows c.labels
certified_cycles arrows c count fit rise = record { tells = tell }
  where
    ends : (i : ℕ) (a : Arrow) → slice_get arrows i ≡ Some a → Risen c.labels count a
    ends = ends_of arrows c count rise

    there : (i : ℕ) (a : Arrow) (e : slice_get arrows i ≡ Some a) → label c.labels a.from ≡ label c.labels a.to → Leads arrows a.to a.from
    there i a e same =
        let up = ups arrows c count ends fit (suc (number_at c.up.ranks a.to)) a.to (ends i a e).to (omega arith) in
        let down = downs arrows c count ends fit (suc (number_at c.down.ranks a.from)) a.from (ends i a e).from (omega arith) in
        leads_on arrows a.to (root c a.to) a.from up (subst (λ (l : ℕ). Leads arrows (number_at c.roots l) a.from) same down)

    back : (i : ℕ) (a : Arrow) (e : slice_get arrows i ≡ Some a) → Leads arrows a.to a.from → label c.labels a.from ≡ label c.labels a.to
    back i a e leads =
        let falls : label c.labels a.to ≤ label c.labels a.from =
        rise_along arrows c.labels (λ (j : ℕ) (b : Arrow) (g : slice_get arrows j ≡ Some b). (ends j b g).order) a.to a.from leads in
        let order : label c.labels a.from ≤ label c.labels a.to = (ends i a e).order in
        omega arith

    tell : (i : ℕ) (a : Arrow) → slice_get arrows i ≡ Some a → (label c.labels a.from ≡ label c.labels a.to) ↔ Leads arrows a.to a.from
    tell i a e = (there i a e, back i a e)

-- what holds below a number and at it holds below the next
pub below_more : (P : ℕ → Bool) (n : ℕ) → ((v : ℕ) → v < n → P v ≡ true) → P n ≡ true → (v : ℕ) → v < n + 1 → P v ≡ true
below_more P n before here v h = by (eqb_tells v n)
  where
    by : ((eqb v n ≡ true) × (v ≡ n)) ⊎ ((eqb v n ≡ false) × (v ≢ n)) → P v ≡ true
    by (inl e) = subst (λ (k : ℕ). P k ≡ true) (sym e.1) here
    by (inr d) = let other : v ≢ n = d.1 in before v (omega arith)
