-- What the example's call answers.
use Rattle.std.proofs.Common.{◌≡◌, ◌≢◌, ℕ, List, length, Result, Ok, Err, refl}
use Rattle.wy_reading.specs.Places.{Within}
use Rattle.wy_reading.specs.declared.example.Kind.{Kind}
use Rattle.wy_reading.specs.declared.example.Kind.TheVariants as kind
use Rattle.wy_reading.specs.declared.example.Byte.TheVariants.{Item}
use Rattle.wy_reading.specs.declared.example.Fault.{Fault}
use Rattle.wy_reading.specs.declared.stop.Stop.{Stop}
use Rattle.wy_reading.specs.declared.stop.Stop.TheVariants as stop
use Rattle.wy_reading.specs.Promise.{Promise}
use Rattle.wy_reading.specs.ListGrammar.{has, ItemIn, Text}
use Rattle.wy_reading.specs.ListReading.{text}
use Rattle.wy_reading.specs.ListText.{within, Spells, Meets, IsRefused, fault_of, fault_at, Answers}
use Rattle.wy_reading.proofs.Exactness.{Passes}
use Rattle.wy_reading.proofs.Theorem.{promise, whole-closes}
use Rattle.wy_reading.proofs.Theorem as theorem
use Rattle.wy_reading.proofs.ListsExact.{text-exact}

promised : (depth : ℕ) → Promise (within depth) Text text
promised depth = promise Text text (Passes (has Item)) text-exact (λ m. whole-closes (ItemIn m.depth m.strict)) (within depth)

module _ (depth : ℕ) (i : List ℕ) where
  abbrev pub Stopped : Stop Kind → Type 0
  Stopped y = y ≢ stop.NoMemory → text (within depth) i ≡ Err y

  pub read-spells : (ns j : List ℕ) → text (within depth) i ≡ Ok (ns, j) → Spells depth i ns
  unfolding Spells
  read-spells = theorem.read-spells Text text (within depth) (promised depth) (fault_at i) i

  pub read-reads : (ms j : List ℕ) → text (within depth) i ≡ Ok (ms, j) → (ns : List ℕ) → Spells depth i ns → (let r : Result (List ℕ) Fault = Ok ms in Answers (Ok ns) r)
  unfolding Spells
  read-reads = theorem.read-reads Text text (within depth) (promised depth) (fault_at i) i

  pub read-exact : (ms j : List ℕ) → text (within depth) i ≡ Ok (ms, j) → (x : Kind) (at : ℕ) → Meets depth i x at → ⊥
  read-exact ms j h x at m = theorem.read-exact Text text (within depth) (promised depth) (fault_at i) i ms j h x m.left m.met

  pub stopped-within : (y : Stop Kind) → Stopped y → Within (length i) y
  stopped-within = theorem.stopped-within Text text (within depth) (promised depth) (fault_at i) i

  pub stopped-reads : (y : Stop Kind) → Stopped y → (ns : List ℕ) → Spells depth i ns → (let r : Result (List ℕ) Fault = Err (fault_at i y) in Answers (Ok ns) r)
  unfolding Spells
  stopped-reads = theorem.stopped-reads Text text (within depth) (promised depth) (fault_at i) i

  pub stopped-exact : (y : Stop Kind) → Stopped y → (x : Kind) (at : ℕ) → Meets depth i x at → (let r : Result (List ℕ) Fault = Err (fault_at i y) in Answers (Err (fault_of x at)) r)
  stopped-exact y h x at m = rw (m.place) (theorem.stopped-exact Text text (within depth) (promised depth) (fault_at i) i y h x m.left m.met)

  pub refused : (y : Stop Kind) → Stopped y → IsRefused depth i (fault_at i y)
  refused (stop.Unexpected k) h = record { left = k; place = refl; bad = theorem.stopped-place Text text (within depth) (promised depth) (fault_at i) i (stop.Unexpected k) h }
  refused (stop.Fault kind.TooLarge k) h = record { left = k; place = refl; met = theorem.stopped-place Text text (within depth) (promised depth) (fault_at i) i (stop.Fault kind.TooLarge k) h }
  refused (stop.Fault kind.Deep k) h = record { left = k; place = refl; met = theorem.stopped-place Text text (within depth) (promised depth) (fault_at i) i (stop.Fault kind.Deep k) h }
  refused stop.NoMemory h = tt
