-- A program has one outcome, so the answer of `check` is that one.
use Rattle.std.proofs.Common.{◌≡◌, ◌≢◌, ◌⊎◌, inl, inr, ℕ, List, Result, Ok, Err, IfErr, refl, sym, ap, ◌∙◌, subst}
use Rattle.std.specs.Prelude.{IsErrAnd, MatchResult}
use Rattle.wy_core.specs.CoreTree.{Core}
use Rattle.wy_core.specs.Types.{Ty}
use Rattle.wy_types.specs.Names.{Declared, names_in}
use Rattle.wy_flow_spec.specs.declared.typing.fault.FlowFault.{FlowFault}
use Rattle.wy_flow_spec.specs.declared.typing.fault.FlowFault.TheVariants.{NotSubtype, NotArray, NoField, NotBool, NotInt, TypeWide, NoMemory}
use Rattle.wy_flow_spec.specs.typing.Contexts.{Program, Signature}
use Rattle.wy_flow_spec.specs.typing.Outcomes.{Outcome, Gives, Fails}
use Rattle.wy_flow_spec.specs.typing.Programs.{program_of, CoreTyped, IsTyped}
use Rattle.wy_flow_spec.proofs.typing_lemmas.SingleLemmas.{given_or, no_fault}
use Rattle.wy_flow_spec.proofs.typing_lemmas.StatementLemmas.{single_core}

-- ---- what was made is the program's

abbrev pub program : List Declared → List Signature → Program
program names signatures = record { names = names; signatures = signatures }

pub program_is : (names : List Declared) (signatures : List Signature) (core : Core ℕ) → names ≡ names_in core → signatures ≡ (program_of core).signatures
    → program names signatures ≡ program_of core
program_is names signatures core n s =
    ap (λ (m : List Declared). program m signatures) n
    ∙ ap (λ (t : List Signature). program (names_in core) t) s

-- ---- want of memory or not

abbrev IsMemory : FlowFault → Type 0
IsMemory (NotSubtype at) = ⊥
IsMemory (NotArray at) = ⊥
IsMemory (NoField at) = ⊥
IsMemory (NotBool at) = ⊥
IsMemory (NotInt at) = ⊥
IsMemory (TypeWide at) = ⊥
IsMemory NoMemory = Unit {0}

memory_or : (e : FlowFault) → (e ≡ NoMemory) ⊎ (e ≢ NoMemory)
memory_or (NotSubtype at) = inr (λ q. subst IsMemory (sym q) tt)
memory_or (NotArray at) = inr (λ q. subst IsMemory (sym q) tt)
memory_or (NoField at) = inr (λ q. subst IsMemory (sym q) tt)
memory_or (NotBool at) = inr (λ q. subst IsMemory (sym q) tt)
memory_or (NotInt at) = inr (λ q. subst IsMemory (sym q) tt)
memory_or (TypeWide at) = inr (λ q. subst IsMemory (sym q) tt)
memory_or NoMemory = inl refl

abbrev fault_in : {X : Type 0} → FlowFault → Outcome X → FlowFault
fault_in d (Gives x) = d
fault_in d (Fails e) = e

-- ---- where a fault is answered

memory_where : (core : Core ℕ) (flow : List Ty) (d : FlowFault) → IsTyped core flow → (d ≢ NoMemory → CoreTyped core (Fails d)) → (d ≡ NoMemory) ⊎ (d ≢ NoMemory) → d ≡ NoMemory
memory_where core flow d typed h (inl q) = q
memory_where core flow d typed h (inr n) = absurd (no_fault flow d (single_core core (Gives flow) (Fails d) typed (h n)))

pub refused_complete : (T : Type 0) (P : T → Type 0) (core : Core ℕ) (e : FlowFault) (r : Result T FlowFault) → (e ≢ NoMemory → CoreTyped core (Fails e)) → IsErrAnd r (λ d. d ≡ e)
    → (flow : List Ty) → IsTyped core flow → MatchResult r P (λ d. d ≡ NoMemory)
refused_complete T P core e (Ok t) h is flow typed = absurd is
refused_complete T P core e (Err d) h is flow typed = is ∙ memory_where core flow e typed h (memory_or e)

pub refused_fault : (T : Type 0) (core : Core ℕ) (e : FlowFault) (r : Result T FlowFault) → (e ≢ NoMemory → CoreTyped core (Fails e)) → IsErrAnd r (λ d. d ≡ e)
    → IfErr r (λ d. d ≢ NoMemory → CoreTyped core (Fails d))
refused_fault T core e (Ok t) h is = absurd is
refused_fault T core e (Err d) h is = λ n. subst (λ (x : FlowFault). CoreTyped core (Fails x)) (sym is) (h (λ q. n (is ∙ q)))

pub refused_exact : (T : Type 0) (core : Core ℕ) (e : FlowFault) (r : Result T FlowFault) → (e ≢ NoMemory → CoreTyped core (Fails e)) → IsErrAnd r (λ d. d ≡ e)
    → (f : FlowFault) → CoreTyped core (Fails f) → MatchResult r (λ t. ⊥) (λ d. d ≢ NoMemory → d ≡ f)
refused_exact T core e (Ok t) h is f fails = absurd is
refused_exact T core e (Err d) h is f fails = λ n. is ∙ ap (fault_in e) (single_core core (Fails e) (Fails f) (h (λ q. n (is ∙ q))) fails)

-- ---- where a program is answered

pub same_flow : (core : Core ℕ) (a b : List Ty) → IsTyped core a → IsTyped core b → a ≡ b
same_flow core a b p q = ap (given_or a) (single_core core (Gives a) (Gives b) p q)

pub not_both : (core : Core ℕ) (flow : List Ty) (f : FlowFault) → IsTyped core flow → CoreTyped core (Fails f) → ⊥
not_both core flow f p q = no_fault flow f (single_core core (Gives flow) (Fails f) p q)
