-- What is answered for a whole text: the promise, from exactness in every mode.
use Rattle.std.proofs.Common.{◌≢◌, Result, ◌≡◌, ℕ, max, List, [], ◌∷◌, ◌++◌, length, Ok, Err, refl, sym, ap, ◌∙◌, subst, arith, append_assoc, append-nil, length-append}
use Rattle.wy_reading.specs.declared.stop.Stop.{Stop}
use Rattle.wy_reading.specs.declared.stop.Stop.TheVariants.{Unexpected, Fault}
use Rattle.wy_reading.specs.Mode.{Mode, Looser}
use Rattle.wy_reading.specs.declared.stop.Stop.TheVariants.{NoMemory}
use Rattle.wy_reading.specs.Places.{IsText, IsDead, FirstBad, IsPlace, Within, Answers}
use Rattle.wy_reading.specs.Promise.{Promise}
use Rattle.wy_reading.specs.Rule.{Rule, Whole}
use Rattle.wy_reading.specs.Reader.{Reader, whole}
use Rattle.wy_reading.proofs.Exactness.{SameHead, Exact, AtEnd}
use Rattle.wy_reading.proofs.Outcomes.{ok-parts}
use Rattle.wy_reading.proofs.Sequence.{sequence}
use Rattle.wy_reading.proofs.Single.{nothing, finish-exact}

-- behind a whole text nothing is left
pub whole-closes : {S X A : Type 0} (R : Rule S X A) (i : List S) (a : A) (j : List S) → (Whole R).reads i a j → j ≡ []
whole-closes R i a j h = sym h.3.3.1 ∙ h.3.2.1

-- the end behind what may stand at the end
pub whole_text : {S X A : Type 0} {n : Mode} {R : Rule S X A} {q : Mode → Reader S X A} {F B : List S → Type 0}
    → Exact n R q F B → F [] → Exact n (Whole R) (λ m. whole (q m)) AtEnd B
whole_text {n = n} {F = F} e empty = sequence e (λ a. sequence (finish-exact n) (λ x. nothing a) (λ i f. f)) (λ i f. subst F (sym f) empty)

module _ {S X A : Type 0} (R : Mode → Rule S X A) (q : Mode → Reader S X A) (B : List S → Type 0)
    (exact : (m : Mode) → Exact m (R m) q AtEnd B) (closes : (m : Mode) (i : List S) (a : A) (j : List S) → (R m).reads i a j → j ≡ []) where
  text-spells : (n : Mode) (i : List S) (a : A) (j : List S) → q n i ≡ Ok (a, j) → IsText R n i a
  text-spells n i a j h = let r = (exact n).sound i a j h in subst (λ l. (R n).reads i a l) (closes n i a j r) r

  text-read : (n : Mode) (i : List S) (a : A) → IsText R n i a → q n i ≡ Ok (a, [])
  text-read n i a h = (exact n).complete i a [] h refl

  text-one_value : (n : Mode) (i : List S) (a b : A) → IsText R n i a → IsText R n i b → a ≡ b
  text-one_value n i a b h g = (ok-parts a b [] [] (sym (text-read n i a h) ∙ text-read n i b g)).0

  dead-after : (n : Mode) (front back : List S) → ((m : Mode) → Looser n m → (j : List S) → SameHead back j → q m (front ++ j) ≡ Err (Unexpected (length j))) → IsDead R n front back
  dead-after n front [] again = λ m le a t. let c = sym (subst (λ l. q m l ≡ Err (Unexpected 0)) (append-nil front) (again m le [] tt)) ∙ text-read m front a t in absurd (cc)
  dead-after n front (bad ∷ rest) again = λ g.
      let m = g.0 in let a = g.3 in
      let t = text-read m ((front ++ bad ∷ []) ++ g.2) a g.4 in
      let t' : q m (front ++ bad ∷ g.2) ≡ Ok (a, []) = subst (λ l. q m l ≡ Ok (a, [])) (append_assoc front (bad ∷ []) g.2) t in
      let c = sym (again m g.1 (bad ∷ g.2) refl) ∙ t' in absurd (cc)

  first-bad : (n : Mode) (i : List S) (k : ℕ) → q n i ≡ Err (Unexpected k) → FirstBad R n i k
  first-bad n i k h =
      let d = (exact n).stuck i k h in
      let m : Mode = record { depth = max n.depth d.deep; strict = n.strict } in
      let le : Looser n m = (omega arith, λ x. x) in
      let read = d.alive m le (omega arith) [] refl in
      record {
        front = d.front;
        back = d.back;
        cut = d.cut;
        left_is = d.left;
        alive = (m, le, d.ending ++ [], d.made, text-spells m (d.front ++ (d.ending ++ [])) d.made [] read);
        dead = dead-after n d.front d.back d.again;
      }

  text-place : (n : Mode) (i : List S) (y : Stop X) → q n i ≡ Err y → IsPlace R n i y
  text-place n i (Unexpected k) h = first-bad n i k h
  text-place n i (Fault x k) h = (exact n).met i x k h
  text-place n i NoMemory h = tt

  text-within : (n : Mode) (i : List S) (y : Stop X) → q n i ≡ Err y → Within (length i) y
  text-within n i (Unexpected k) h =
      let d = (exact n).stuck i k h in
      omega (arith, d.left, ap length d.cut, length-append d.front d.back)
  text-within n i (Fault x k) h = ((exact n).meets i x k ((exact n).met i x k h)).2
  text-within n i NoMemory h = tt

  -- the theorem: a reader that is exact in every mode keeps the promise in every mode
  pub promise : (n : Mode) → Promise n R q
  promise n = record {
    spells = text-spells n;
    reads = text-read n;
    one_value = text-one_value n;
    place = text-place n;
    names = λ i x k h. ((exact n).meets i x k h).0;
    within = text-within n;
  }

-- ---- the clauses of a call: it answers what the reader reads, and else the fault of the reader's stop

module _ {S X A Y : Type 0} (R : Mode → Rule S X A) (q : Mode → Reader S X A) (n : Mode) (promised : Promise n R q) (fault_at : Stop X → Y) (i : List S) where
  -- the reader stopped so, or memory ran out
  abbrev pub Stopped : Stop X → Type 0
  Stopped y = y ≢ NoMemory → q n i ≡ Err y

  remembers : (y : Stop X) → fault_at y ≢ fault_at NoMemory → y ≢ NoMemory
  remembers y h e = h (ap fault_at e)

  pub read-spells : (a : A) (j : List S) → q n i ≡ Ok (a, j) → IsText R n i a
  read-spells a j h = promised.spells i a j h

  pub read-reads : (b : A) (j : List S) → q n i ≡ Ok (b, j) → (a : A) → IsText R n i a → (let r : Result A Y = Ok b in Answers (fault_at NoMemory) (Ok a) r)
  read-reads b j h a t = ap Ok (promised.one_value i a b t (promised.spells i b j h))

  pub read-exact : (b : A) (j : List S) → q n i ≡ Ok (b, j) → (x : X) (k : ℕ) → (R n).meets i x k → ⊥
  read-exact b j h x k t = let c = sym h ∙ promised.names i x k t in absurd (cc)

  pub stopped-reads : (y : Stop X) → Stopped y → (a : A) → IsText R n i a → (let r : Result A Y = Err (fault_at y) in Answers (fault_at NoMemory) (Ok a) r)
  stopped-reads y h a t = λ g. let c = sym (h (remembers y g)) ∙ promised.reads i a t in absurd (cc)

  pub stopped-exact : (y : Stop X) → Stopped y → (x : X) (k : ℕ) → (R n).meets i x k → (let r : Result A Y = Err (fault_at y) in Answers (fault_at NoMemory) (Err (fault_at (Fault x k))) r)
  stopped-exact y h x k t = λ g. let c = sym (h (remembers y g)) ∙ promised.names i x k t in let same : y ≡ Fault x k = cc in ap (λ z. Err (fault_at z)) (sym same)

  pub stopped-place : (y : Stop X) → Stopped y → IsPlace R n i y
  stopped-place (Unexpected k) h = promised.place i (Unexpected k) (h (λ z. absurd (cc)))
  stopped-place (Fault x k) h = promised.place i (Fault x k) (h (λ z. absurd (cc)))
  stopped-place NoMemory h = tt

  pub stopped-within : (y : Stop X) → Stopped y → Within (length i) y
  stopped-within (Unexpected k) h = promised.within i (Unexpected k) (h (λ z. absurd (cc)))
  stopped-within (Fault x k) h = promised.within i (Fault x k) (h (λ z. absurd (cc)))
  stopped-within NoMemory h = tt
