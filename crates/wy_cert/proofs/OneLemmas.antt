-- The one thing that has a property, carried over to the same property.
use Rattle.std.proofs.Common.{◌≡◌, Option, Some, None, Result, Ok, Err, IfOk, MatchOption}
use Rattle.std.specs.Prelude.{IsErrAnd}
use Rattle.wy_cert.specs.declared.fault.CertFault.{CertFault}
use Rattle.wy_cert.specs.declared.fault.CertFault.TheVariants.{NoMemory}
use Rattle.wy_cert.specs.Only.{IsTheOne, HasNone, AreSame, Answers}

pub the_same : {X : Type 0} (P Q : X → Type 0) (x : X) → AreSame P Q → IsTheOne P x → IsTheOne Q x
the_same P Q x same the = record { holds = same.to x the.holds; only = λ y h. the.only y (same.back y h) }

pub none_same : {X : Type 0} (P Q : X → Type 0) → AreSame P Q → HasNone P → HasNone Q
none_same P Q same never = record { none = λ x h. never.none x (same.back x h) }

-- the answer of a call, where its property is the same as another
pub answer_same : {X A E : Type 0} (P Q : X → Type 0) (view : A → X) (r : Result (Option A) E) → AreSame P Q
    → IfOk r (λ o. MatchOption o (HasNone P) (λ a. IsTheOne P (view a))) → IfOk r (λ o. MatchOption o (HasNone Q) (λ a. IsTheOne Q (view a)))
answer_same P Q view (Ok None) same h = none_same P Q same h
answer_same P Q view (Ok (Some a)) same h = the_same P Q (view a) same h
answer_same P Q view (Err e) same h = h

-- want of memory may be answered in place of everything
pub no_memory_answers : {X Y : Type 0} (P : Result Y CertFault → Type 0) (view : X → Y) (r : Result X CertFault) → IsErrAnd r (λ e. e ≡ NoMemory) → Answers P view r
no_memory_answers P view (Ok x) h = absurd h
no_memory_answers P view (Err e) h = λ other. absurd (other h)

-- an answer, carried over to the same property
pub answers_same : {X Y : Type 0} (P Q : Result Y CertFault → Type 0) (view : X → Y) (r : Result X CertFault) → AreSame P Q → Answers P view r → Answers Q view r
answers_same P Q view (Ok x) same h = the_same P Q (Ok (view x)) same h
answers_same P Q view (Err e) same h = λ other. the_same P Q (Err e) same (h other)
