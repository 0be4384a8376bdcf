-- Runs that leave some of the steps unused for which their ticks would allow.
use Rattle.std.proofs.Common.{◌≡◌, ◌≤◌, ℕ, zero, suc, ◌+◌, ◌*◌, List, [], ◌∷◌, true, refl, sym, ◌∙◌, subst, arith}
use Rattle.wy_code.specs.declared.routines.Code.{Code}
use Rattle.wy_vc_spec.specs.wy_sem.Meter.{Meter, Outcome, Done, Fault, More, Spent, Run, ◌>>=◌, tick, spend}
use Rattle.wy_vc_spec.specs.wy_sem.Expressions.{Store}
use Rattle.wy_code_spec.specs.step.Step.{State, Caller, after}
use Rattle.wy_gen_laws.specs.Follows.{IsGoing, Ends, GoesOn, Follows, at_place, Comes}
use Rattle.wy_gen_laws.proofs.FollowLemmas.{after_add}

-- as `Ends`, where so many steps more were allowed
pub record EndsEarly (code : Code) (wide lo spare : ℕ) (m k : Meter) (st : State) (Q : State → Type 0) : Type 0 where
  pub steps : ℕ
  pub spent : ℕ
  pub total : m.ticks ≡ k.ticks + spent
  pub least : spent ≤ wide * steps + lo
  pub most : steps + spare ≤ 16 * spent
  pub there : Q (after code steps st)

-- as `Follows`, where an answer leaves so many steps unused
abbrev pub Leaves : {X : Type 0} → Code → (wide lo spare : ℕ) → Meter → State → Outcome X → (X → Meter → State → Type 0) → Type 0
Leaves code wide lo spare m st (Done x k) Q = EndsEarly code wide lo spare m k st (Q x k)
Leaves code wide lo spare m st (Fault kind at k) Q = Unit {0}
Leaves code wide lo spare m st (More k) Q = GoesOn code wide lo 0 m k st
Leaves code wide lo spare m st Spent Q = Unit {0}

-- ---- a tick first

leaves_tick : {X : Type 0} (code : Code) (wide lo hi spare total : ℕ) (m k : Meter) (st : State) (o : Outcome X) (Q : X → Meter → State → Type 0) → suc lo ≤ total → hi + spare ≤ 16 → m.ticks ≡ suc k.ticks → Follows code wide lo hi k st o Q → Leaves code wide total spare m st o Q
leaves_tick code wide lo hi spare total m k st (Done x l) Q a b e h = record {
  steps = h.steps;
  spent = suc h.spent;
  total = let t = h.total in omega (arith, t, e);
  least = let t = h.least in omega (arith, t, a);
  most = let t = h.most in omega (arith, t, b);
  there = h.there;
}
leaves_tick code wide lo hi spare total m k st (Fault kind at l) Q a b e h = tt
leaves_tick code wide lo hi spare total m k st (More l) Q a b e h = record { steps = h.steps; least = let t = h.least in omega (arith, t, a, e); most = let t = h.most in omega (arith, t, b, e); going = h.going }
leaves_tick code wide lo hi spare total m k st Spent Q a b e h = tt

pub leaves_spend : {X : Type 0} (code : Code) (wide lo hi spare total : ℕ) (m : Meter) (st : State) (next : Run X) (Q : X → Meter → State → Type 0) → suc lo ≤ total → hi + spare ≤ 16 → IsGoing m.output st
    → ((t : ℕ) → m.ticks ≡ suc t → Follows code wide lo hi (record m { ticks = t }) st (next (record m { ticks = t })) Q) → Leaves code wide total spare m st (spend true next m) Q
leaves_spend {X} code wide lo hi spare total m st next Q a b go h = by m.ticks refl
  where
    by : (t : ℕ) → m.ticks ≡ t → Leaves code wide total spare m st (tick t next m) Q
    by zero e = record { steps = 0; least = omega (arith, e); most = omega arith; going = go }
    by (suc t) e = leaves_tick code wide lo hi spare total m (record m { ticks = t }) st (next (record m { ticks = t })) Q a b e (h t e)

-- ---- steps are left, or not

pub leaves_follows : {X : Type 0} (code : Code) (wide lo spare : ℕ) (m : Meter) (st : State) (o : Outcome X) (Q : X → Meter → State → Type 0) → Leaves code wide lo spare m st o Q → Follows code wide lo 0 m st o Q
leaves_follows code wide lo spare m st (Done x k) Q h = record { steps = h.steps; spent = h.spent; total = h.total; least = h.least; most = let t = h.most in omega (arith, t); there = h.there }
leaves_follows code wide lo spare m st (Fault kind at k) Q h = tt
leaves_follows code wide lo spare m st (More k) Q h = h
leaves_follows code wide lo spare m st Spent Q h = tt

-- ---- what goes on has the steps that are left

goes_after : {X : Type 0} (code : Code) (wide lo1 spare lo2 hi2 lo hi : ℕ) (m k : Meter) (n spent : ℕ) (st : State) (o : Outcome X) (Q : X → Meter → State → Type 0) → lo1 + lo2 ≤ lo → hi2 ≤ hi + spare
    → m.ticks ≡ k.ticks + spent → spent ≤ wide * n + lo1 → n + spare ≤ 16 * spent → Follows code wide lo2 hi2 k (after code n st) o Q → Follows code wide lo hi m st o Q
goes_after code wide lo1 spare lo2 hi2 lo hi m k n spent st (Done x l) Q p q e a b h = record {
  steps = n + h.steps;
  spent = spent + h.spent;
  total = let t = h.total in omega (arith, e, t);
  least = let t = h.least in omega (arith, a, t, p);
  most = let t = h.most in omega (arith, b, t, q);
  there = subst (λ (s : State). Q x l s) (sym (after_add code n h.steps st)) h.there;
}
goes_after code wide lo1 spare lo2 hi2 lo hi m k n spent st (Fault kind at l) Q p q e a b h = tt
goes_after code wide lo1 spare lo2 hi2 lo hi m k n spent st (More l) Q p q e a b h = record {
  steps = n + h.steps;
  least = let t = h.least in omega (arith, e, a, t, p);
  most = let t = h.most in omega (arith, e, b, t, q);
  going = subst (λ (s : State). IsGoing l.output s) (sym (after_add code n h.steps st)) h.going;
}
goes_after code wide lo1 spare lo2 hi2 lo hi m k n spent st Spent Q p q e a b h = tt

pub leaves_then : {X Y : Type 0} (code : Code) (wide lo1 spare lo2 hi2 lo hi : ℕ) (m : Meter) (st : State) (o : Outcome X) (f : X → Run Y) (routine at : ℕ) (callers : List Caller) (R : X → Store → Type 0) (Q : Y → Meter → State → Type 0) → lo1 + lo2 ≤ lo → hi2 ≤ hi + spare
    → Leaves code wide lo1 spare m st o (Comes routine at callers R)
    → ((x : X) (k : Meter) (regs : Store) → k.ticks ≤ m.ticks → R x regs → Follows code wide lo2 hi2 k (at_place routine at regs callers k.output) (f x k) Q)
    → Follows code wide lo hi m st (o >>= f) Q
leaves_then code wide lo1 spare lo2 hi2 lo hi m st (Done x k) f routine at callers R Q p q h g =
    let le : k.ticks ≤ m.ticks = let t = h.total in omega (arith, t) in
    goes_after code wide lo1 spare lo2 hi2 lo hi m k h.steps h.spent st (f x k) Q p q h.total h.least h.most
    (subst (λ (s : State). Follows code wide lo2 hi2 k s (f x k) Q) (sym h.there.is) (g x k h.there.regs le h.there.ok))
leaves_then code wide lo1 spare lo2 hi2 lo hi m st (Fault kind at2 k) f routine at callers R Q p q h g = tt
leaves_then code wide lo1 spare lo2 hi2 lo hi m st (More k) f routine at callers R Q p q h g = record { steps = h.steps; least = let t = h.least in omega (arith, t, p); most = let t = h.most in omega (arith, t); going = h.going }
leaves_then code wide lo1 spare lo2 hi2 lo hi m st Spent f routine at callers R Q p q h g = tt
