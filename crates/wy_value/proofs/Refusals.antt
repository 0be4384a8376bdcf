-- What is answered for an argument text whose characters are i.
use Rattle.std.proofs.Common.{true, ◌<◌, ◌^◌, arith, ◌≡◌, ◌≢◌, ℕ, List, length, Result, Ok, Err, inl, inr, refl, subst, sym}
use Rattle.wy_reading.specs.declared.stop.Stop.{Stop}
use Rattle.wy_reading.specs.declared.stop.Stop.TheVariants as stop
use Rattle.wy_reading.specs.Mode.{Mode}
use Rattle.wy_reading.specs.Places.{IsPlace, Within}
use Rattle.wy_reading.specs.Promise.{Promise}
use Rattle.wy_reading.specs.Rule.{Then, One, Pure}
use Rattle.wy_reading.proofs.Exactness.{Passes}
use Rattle.wy_reading.proofs.Theorem.{promise, whole-closes}
use Rattle.wy_reading.proofs.Theorem as theorem
use Rattle.wy_value.specs.declared.character.Character.TheVariants as c
use Rattle.wy_value.specs.declared.fault.Kind.{Kind}
use Rattle.wy_value.specs.declared.fault.Kind.TheVariants as kind
use Rattle.wy_value.specs.declared.fault.ValueFault.{ValueFault}
use Rattle.wy_value.specs.declared.value.Value.{Value}
use Rattle.wy_value.specs.Characters.{has}
use Rattle.wy_value.specs.Grammar.{R, Mark, Elems, ValueIn, Text}
use Rattle.wy_value.specs.Reading.{text}
use Rattle.wy_value.specs.ArgumentText.{profile, AreText, MeetsAt, AreRefused, fault_of, fault_at, Answers}
use Rattle.std.specs.Str.{all_scalars}
use Rattle.wy_value.specs.Seen.{seen_items}
use Rattle.wy_value.specs.Values.{AreValues}
use Rattle.wy_value.proofs.ReadValues.{text-values}
use Rattle.wy_value.proofs.TextExact.{text-exact}

-- the text without its end
abbrev Inner : Mode → R (List Value)
Inner m = Then (Mark 40) (λ _. Then (Elems m.strict (ValueIn m.depth m.strict)) (λ vs. Then (One (has (c.Is 41))) (λ _. Pure vs)))

pub promised : (m : Mode) → Promise m Text text
promised m = promise Text text (Passes (has (c.Is 40))) text-exact (λ m. whole-closes (Inner m)) m

module _ (i : List ℕ) where
  abbrev Stopped : Stop Kind → Type 0
  Stopped y = y ≢ stop.NoMemory → text profile i ≡ Err y

  pub read-spells : (vs : List Value) (j : List ℕ) → text profile i ≡ Ok (vs, j) → AreText i vs
  unfolding AreText
  read-spells = theorem.read-spells Text text profile (promised profile) (fault_at i) i

  pub read-values : (vs : List Value) (j : List ℕ) → text profile i ≡ Ok (vs, j) → all_scalars i ≡ true → length i < 2 ^ 63 → AreValues (seen_items vs)
  read-values vs j h scalars within =
      text-values 100 i vs j ((text-exact profile).sound i vs j h) scalars (omega (arith, within))

  pub read-reads : (us : List Value) (j : List ℕ) → text profile i ≡ Ok (us, j) → (vs : List Value) → AreText i vs → (let r : Result (List Value) ValueFault = Ok us in Answers (Ok vs) r)
  unfolding AreText
  read-reads = theorem.read-reads Text text profile (promised profile) (fault_at i) i

  pub read-exact : (us : List Value) (j : List ℕ) → text profile i ≡ Ok (us, j) → (x : Kind) (at : ℕ) → MeetsAt i x at → ⊥
  read-exact us j h x at m = theorem.read-exact Text text profile (promised profile) (fault_at i) i us j h x m.left m.met

  pub stopped-within : (y : Stop Kind) → Stopped y → Within (length i) y
  stopped-within = theorem.stopped-within Text text profile (promised profile) (fault_at i) i

  pub stopped-reads : (y : Stop Kind) → Stopped y → (vs : List Value) → AreText i vs → (let r : Result (List Value) ValueFault = Err (fault_at i y) in Answers (Ok vs) r)
  unfolding AreText
  stopped-reads = theorem.stopped-reads Text text profile (promised profile) (fault_at i) i

  pub stopped-exact : (y : Stop Kind) → Stopped y → (x : Kind) (at : ℕ) → MeetsAt i x at → (let r : Result (List Value) ValueFault = Err (fault_at i y) in Answers (Err (fault_of x at)) r)
  stopped-exact y h x at m =
      subst (λ o. (let r : Result (List Value) ValueFault = Err (fault_at i y) in Answers (Err (fault_of x o)) r)) (sym m.place)
      (theorem.stopped-exact Text text profile (promised profile) (fault_at i) i y h x m.left m.met)

  place : (y : Stop Kind) → Stopped y → IsPlace Text profile i y
  place = theorem.stopped-place Text text profile (promised profile) (fault_at i) i

  pub refused : (y : Stop Kind) → Stopped y → AreRefused i (fault_at i y)
  refused (stop.Unexpected k) h = inl (record { left = k; place = refl; bad = place (stop.Unexpected k) h })
  refused (stop.Fault kind.Range k) h = record { left = k; place = refl; met = place (stop.Fault kind.Range k) h }
  refused (stop.Fault kind.Deep k) h = record { left = k; place = refl; met = place (stop.Fault kind.Deep k) h }
  refused (stop.Fault kind.Twice k) h = inr (record { left = k; place = refl; met = place (stop.Fault kind.Twice k) h })
  refused stop.NoMemory h = tt
