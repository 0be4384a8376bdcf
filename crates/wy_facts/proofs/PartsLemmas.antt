-- A list of so many terms, and that a program makes of each such list what a schema states.
use Rattle.std.proofs.Common.{◌≡◌, List, [], ◌∷◌, length, Some, Result, Ok, Err, IfOk, Vec, sym, subst, ◌∙◌, arith}
use Rattle.std.specs.declared.alloc.Global.{Global}
use Rattle.wy_term_subst.specs.wy_term.Term.{Term}
use Rattle.wy_facts.specs.declared.program.Instruction.{Instruction}
use Rattle.wy_facts.specs.declared.schema.Schema.{Schema}
use Rattle.wy_facts.specs.Schema.{stated}
use Rattle.wy_facts.specs.Program.{ran, arity, States}

pub one_term : (P : List Term → Type 0) → ((a : Term) → P (a ∷ [])) → (ts : List Term) → length ts ≡ 1 → P ts
one_term P h [] len = absurd (omega (arith, len))
one_term P h (a ∷ []) len = h a
one_term P h (a ∷ x ∷ ts) len = absurd (omega (arith, len))

pub two_terms : (P : List Term → Type 0) → ((a b : Term) → P (a ∷ b ∷ [])) → (ts : List Term) → length ts ≡ 2 → P ts
two_terms P h [] len = absurd (omega (arith, len))
two_terms P h (a ∷ []) len = absurd (omega (arith, len))
two_terms P h (a ∷ b ∷ []) len = h a b
two_terms P h (a ∷ b ∷ x ∷ ts) len = absurd (omega (arith, len))

pub three_terms : (P : List Term → Type 0) → ((a b c : Term) → P (a ∷ b ∷ c ∷ [])) → (ts : List Term) → length ts ≡ 3 → P ts
three_terms P h [] len = absurd (omega (arith, len))
three_terms P h (a ∷ []) len = absurd (omega (arith, len))
three_terms P h (a ∷ b ∷ []) len = absurd (omega (arith, len))
three_terms P h (a ∷ b ∷ c ∷ []) len = h a b c
three_terms P h (a ∷ b ∷ c ∷ x ∷ ts) len = absurd (omega (arith, len))

pub four_terms : (P : List Term → Type 0) → ((a b c d : Term) → P (a ∷ b ∷ c ∷ d ∷ [])) → (ts : List Term) → length ts ≡ 4 → P ts
four_terms P h [] len = absurd (omega (arith, len))
four_terms P h (a ∷ []) len = absurd (omega (arith, len))
four_terms P h (a ∷ b ∷ []) len = absurd (omega (arith, len))
four_terms P h (a ∷ b ∷ c ∷ []) len = absurd (omega (arith, len))
four_terms P h (a ∷ b ∷ c ∷ d ∷ []) len = h a b c d
four_terms P h (a ∷ b ∷ c ∷ d ∷ x ∷ ts) len = absurd (omega (arith, len))

pub five_terms : (P : List Term → Type 0) → ((a b c d e : Term) → P (a ∷ b ∷ c ∷ d ∷ e ∷ [])) → (ts : List Term) → length ts ≡ 5 → P ts
five_terms P h [] len = absurd (omega (arith, len))
five_terms P h (a ∷ []) len = absurd (omega (arith, len))
five_terms P h (a ∷ b ∷ []) len = absurd (omega (arith, len))
five_terms P h (a ∷ b ∷ c ∷ []) len = absurd (omega (arith, len))
five_terms P h (a ∷ b ∷ c ∷ d ∷ []) len = absurd (omega (arith, len))
five_terms P h (a ∷ b ∷ c ∷ d ∷ e ∷ []) len = h a b c d e
five_terms P h (a ∷ b ∷ c ∷ d ∷ e ∷ x ∷ ts) len = absurd (omega (arith, len))

-- the instructions make what the schema states of these terms
abbrev pub Stated : List Instruction → Schema → List Term → Type 0
Stated p n ts = ran ts p ≡ Some (stated n ts ∷ [])

program_states : {E : Type 0} (r : Result (Vec Instruction Global) E) (p : List Instruction) (n : Schema) → IfOk r (λ v. v.items ≡ p) → ((ts : List Term) → length ts ≡ arity n → Stated p n ts) → IfOk r (λ v. States v.items n)
program_states (Err e) p n is h = tt
program_states (Ok v) p n is h = subst (λ (q : List Instruction). States q n) (sym is) h

-- ---- the same of what a call answered, by how many terms there are

pub states_of_one : {E : Type 0} (r : Result (Vec Instruction Global) E) (p : List Instruction) (n : Schema) → IfOk r (λ v. v.items ≡ p) → arity n ≡ 1 → ((a : Term) → Stated p n (a ∷ [])) → IfOk r (λ v. States v.items n)
states_of_one r p n is many h = program_states r p n is (λ ts len. one_term (Stated p n) h ts (len ∙ many))

pub states_of_two : {E : Type 0} (r : Result (Vec Instruction Global) E) (p : List Instruction) (n : Schema) → IfOk r (λ v. v.items ≡ p) → arity n ≡ 2 → ((a b : Term) → Stated p n (a ∷ b ∷ [])) → IfOk r (λ v. States v.items n)
states_of_two r p n is many h = program_states r p n is (λ ts len. two_terms (Stated p n) h ts (len ∙ many))

pub states_of_three : {E : Type 0} (r : Result (Vec Instruction Global) E) (p : List Instruction) (n : Schema) → IfOk r (λ v. v.items ≡ p) → arity n ≡ 3 → ((a b c : Term) → Stated p n (a ∷ b ∷ c ∷ [])) → IfOk r (λ v. States v.items n)
states_of_three r p n is many h = program_states r p n is (λ ts len. three_terms (Stated p n) h ts (len ∙ many))

pub states_of_four : {E : Type 0} (r : Result (Vec Instruction Global) E) (p : List Instruction) (n : Schema) → IfOk r (λ v. v.items ≡ p) → arity n ≡ 4 → ((a b c d : Term) → Stated p n (a ∷ b ∷ c ∷ d ∷ [])) → IfOk r (λ v. States v.items n)
states_of_four r p n is many h = program_states r p n is (λ ts len. four_terms (Stated p n) h ts (len ∙ many))

pub states_of_five : {E : Type 0} (r : Result (Vec Instruction Global) E) (p : List Instruction) (n : Schema) → IfOk r (λ v. v.items ≡ p) → arity n ≡ 5 → ((a b c d e : Term) → Stated p n (a ∷ b ∷ c ∷ d ∷ e ∷ [])) → IfOk r (λ v. States v.items n)
states_of_five r p n is many h = program_states r p n is (λ ts len. five_terms (Stated p n) h ts (len ∙ many))
