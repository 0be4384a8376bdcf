-- Steps that lead to one outcome alone.
use Rattle.std.proofs.Common.{◌≡◌, ◌∙◌, Bool, true, false, cond, ap, sym, subst}
use Rattle.wy_flow_spec.specs.declared.typing.fault.FlowFault.{FlowFault}
use Rattle.wy_flow_spec.specs.typing.Outcomes.{Outcome, Gives, Fails, Give, Then, gave, stopped}

-- at most one outcome
abbrev pub IsSingle : {X : Type 0} → (Outcome X → Type 0) → Type 0
IsSingle {X} m = (a b : Outcome X) → m a → m b → a ≡ b

-- what an outcome gives, and the other where it gives nothing
abbrev pub given_or : {X : Type 0} → X → Outcome X → X
given_or d (Gives x) = x
given_or d (Fails e) = d

-- an outcome of another kind with the same fault
abbrev pub fault_or : {X Y : Type 0} → Outcome Y → Outcome X → Outcome Y
fault_or d (Gives x) = d
fault_or d (Fails e) = Fails e

abbrev pub GivesOne : {X : Type 0} → Outcome X → Type 0
GivesOne (Gives x) = Unit {0}
GivesOne (Fails e) = ⊥

pub no_fault : {X : Type 0} (x : X) (e : FlowFault) → Gives x ≡ Fails e → ⊥
no_fault x e h = subst GivesOne h tt

pub no_value : {X : Type 0} (x : X) (e : FlowFault) → Fails e ≡ Gives x → ⊥
no_value x e h = subst GivesOne (sym h) tt

pub single_give : {X : Type 0} (x : X) → IsSingle (Give x)
single_give x a b p q = p ∙ sym q

pub single_then : {X Y : Type 0} (m : Outcome X → Type 0) (f : X → Outcome Y → Type 0) → IsSingle m → ((x : X) → IsSingle (f x)) → IsSingle (Then m f)
single_then m f h k _ _ (gave x a p q) (gave y b r s) = k y a b (subst (λ z. f z a) (ap (given_or x) (h (Gives x) (Gives y) p r)) q) s
single_then m f h k _ _ (gave x a p q) (stopped e r) = absurd (no_fault x e (h (Gives x) (Fails e) p r))
single_then m f h k _ _ (stopped e r) (gave x a p q) = absurd (no_value x e (h (Fails e) (Gives x) r p))
single_then m f h k _ _ (stopped e p) (stopped g r) = ap (fault_or (Fails e)) (h (Fails e) (Fails g) p r)

pub single_cond : {X : Type 0} (b : Bool) (m n : Outcome X → Type 0) → IsSingle m → IsSingle n → IsSingle (λ o. cond b (m o) (n o))
single_cond true m n h k a b p q = h a b p q
single_cond false m n h k a b p q = k a b p q
