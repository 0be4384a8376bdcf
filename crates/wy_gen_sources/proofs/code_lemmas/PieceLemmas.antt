-- Pieces of code: where they stand, which registers are live through them, and what makes them safe.
use Rattle.std.proofs.Common.{◌≡◌, ◌≢◌, ◌<◌, ◌≤◌, inl, inr, ℕ, zero, suc, ◌+◌, ◌-◌, List, [], ◌∷◌, ◌++◌, length, true, false, Some, refl, sym, ◌∙◌, subst, arith, length-append}
use Rattle.std.specs.Prelude.{slice_get}
use Rattle.wy_code.specs.declared.instructions.Instr.{Instr}
use Rattle.wy_code.specs.declared.instructions.Instr.TheVariants as instr
use Rattle.wy_code.specs.declared.pieces.steps.Step.{Step}
use Rattle.wy_code.specs.declared.pieces.steps.Step.TheVariants.{Does, GoesOn, GoesBack, GoesOnUnless}
use Rattle.wy_code.specs.pieces.Steps.{fork, over, turns}
use Rattle.wy_gen_laws.specs.Places.{StandAt}
use Rattle.wy_gen_laws.proofs.PlaceLemmas.{stand_front, stand_back, stand_moved}
use Rattle.wy_gen_sources.specs.code.Large.{IsNone}
use Rattle.wy_gen_sources.specs.code.Alive.{IsOne, reads, changes, nexts, LiveAt}
use Rattle.wy_gen_sources.specs.code.Safe.{Gives, After, Onward, Fine, Safe}
use Rattle.wy_gen_sources.proofs.code_lemmas.SafeLemmas.{Within, safe_less, safe_sooner}

pub one_not_none : (r : ℕ) (rs : List ℕ) → IsOne r rs → IsNone r rs → ⊥
one_not_none r [] h g = h
one_not_none r (x ∷ rs) (inl e) g = g.0 e
one_not_none r (x ∷ rs) (inr h) g = one_not_none r rs h g.1

-- each of these is at least d
abbrev pub From : ℕ → List ℕ → Type 0
From d [] = Unit {0}
From d (x ∷ xs) = (d ≤ x) × From d xs

pub none_below : (r d : ℕ) (xs : List ℕ) → r < d → From d xs → IsNone r xs
none_below r d [] l h = tt
none_below r d (x ∷ xs) l h = ((λ e. let k = h.0 in absurd (omega (arith, e, l, k))), none_below r d xs l h.1)

pub less_not : (r d : ℕ) → r < d → r ≢ d
less_not r d l e = absurd (omega (arith, e, l))

-- from one count of instructions to the next
pub nat_up : (C : ℕ → Type 0) → C zero → ((k : ℕ) → C k → C (suc k)) → (k : ℕ) → C k
nat_up C z s zero = z
nat_up C z s (suc k) = s k (nat_up C z s k)

module _ (body : List Instr) where
  -- the steps stand in the routine from the one place up to the other
  abbrev pub Spans : ℕ → List Step → ℕ → Type 0
  Spans at steps next = StandAt body at steps × (at + length steps ≡ next)

  pub front : (at : ℕ) (a b : List Step) (next : ℕ) → Spans at (a ++ b) next → Spans at a (at + length a)
  front at a b next h = (stand_front body at a b h.0, refl)

  pub back : (at : ℕ) (a b : List Step) (next : ℕ) → Spans at (a ++ b) next → Spans (at + length a) b next
  back at a b next h = (stand_back body at a b h.0, let long = length-append a b in let e = h.1 in omega (arith, long, e))

  pub tail : (at : ℕ) (i : Instr) (steps : List Step) (next : ℕ) → Spans at (Does i ∷ steps) next → Spans (at + 1) steps next
  tail at i steps next h = (h.0.1, let e = h.1 in omega (arith, e))

  pub ended : (at next : ℕ) → Spans at [] next → at ≡ next
  ended at next h = let e = h.1 in omega (arith, e)

  -- ---- live registers

  pub live_reads : (p r : ℕ) (i : Instr) → slice_get body p ≡ Some i → IsOne r (reads i) → LiveAt body p r
  live_reads p r i is h = (1, (i, is, inl h))

  pub live_on : (p q r : ℕ) (i : Instr) → slice_get body p ≡ Some i → IsNone r (changes i) → IsOne q (nexts p i) → LiveAt body q r → LiveAt body p r
  live_on p q r i is h to l = (suc l.0, (i, is, inr (h, (q, to, l.1))))

  -- where the last instruction goes on behind
  pub live_last : (p next r : ℕ) (i : Instr) → Spans p (Does i ∷ []) next → IsNone r (changes i) → IsOne (p + 1) (nexts p i) → LiveAt body next r → LiveAt body p r
  live_last p next r i h none to l = live_on p (p + 1) r i h.0.0 none to (subst (λ (q : ℕ). LiveAt body q r) (let e = h.1 in omega (arith, e)) l)

  -- either way through a fork
  pub live_first_over : (at next d : ℕ) (first second : List Step) (r : ℕ) → Spans at (fork d first second) next
      → ((p q : ℕ) → Spans p first q → q + over second ≡ next → (LiveAt body next r → LiveAt body q r) → LiveAt body p r) → LiveAt body at r
  live_first_over at next d [] [] r h one = one at next h (let e = h.1 in omega (arith, e)) (λ l. l)
  live_first_over at next d (s ∷ first) [] r h one =
      live_on at (at + 1) r (instr.Branch d (suc at + length (s ∷ first))) h.0.0 tt (inl refl) (one (at + 1) next (h.0.1, let e = h.1 in omega (arith, e)) (omega arith) (λ l. l))
  live_first_over at next d first (s ∷ second) r h one =
      let rest : Spans (at + 1) (first ++ GoesOn (length (s ∷ second)) ∷ s ∷ second) next = (h.0.1, let e = h.1 in omega (arith, e)) in
      let q = at + 1 + length first in
      let behind = back (at + 1) first (GoesOn (length (s ∷ second)) ∷ s ∷ second) next rest in
      live_on at (at + 1) r (instr.Branch d (suc at + (length first + 1))) h.0.0 tt (inl refl)
      (one (at + 1) q (front (at + 1) first (GoesOn (length (s ∷ second)) ∷ s ∷ second) next rest) (let e = behind.1 in omega (arith, e))
      (λ l. live_on q (suc q + length (s ∷ second)) r (instr.Jump (suc q + length (s ∷ second))) behind.0.0 tt (inl refl) (subst (λ (z : ℕ). LiveAt body z r) (let e = behind.1 in omega (arith, e)) l)))

  pub live_first : (at next d : ℕ) (first second : List Step) (r : ℕ) → Spans at (fork d first second) next
      → ((p q : ℕ) → Spans p first q → (LiveAt body next r → LiveAt body q r) → LiveAt body p r) → LiveAt body at r
  live_first at next d first second r h one = live_first_over at next d first second r h (λ p q sp e go. one p q sp go)

  pub live_second : (at next d : ℕ) (first second : List Step) (r : ℕ) → Spans at (fork d first second) next
      → ((p : ℕ) → Spans p second next → LiveAt body p r) → LiveAt body at r
  live_second at next d [] [] r h two = two at h
  live_second at next d (s ∷ first) [] r h two =
      let to : suc at + length (s ∷ first) ≡ next = (let e = h.1 in omega (arith, e)) in
      live_on at (suc at + length (s ∷ first)) r (instr.Branch d (suc at + length (s ∷ first))) h.0.0 tt (inr (inl refl)) (two (suc at + length (s ∷ first)) (tt, omega (arith, to)))
  live_second at next d first (s ∷ second) r h two =
      let rest : Spans (at + 1) (first ++ GoesOn (length (s ∷ second)) ∷ s ∷ second) next = (h.0.1, let e = h.1 in omega (arith, e)) in
      let q = at + 1 + length first in
      let behind = back (at + 1) first (GoesOn (length (s ∷ second)) ∷ s ∷ second) next rest in
      let place : q + 1 ≡ suc at + (length first + 1) = omega arith in
      live_on at (suc at + (length first + 1)) r (instr.Branch d (suc at + (length first + 1))) h.0.0 tt (inr (inl refl))
      (two (suc at + (length first + 1)) (stand_moved body (q + 1) (suc at + (length first + 1)) (s ∷ second) place behind.0.1, let e = behind.1 in omega (arith, e)))

  -- ---- turns: where their parts stand

  pub record Turning (at : ℕ) (test : List Step) (d : ℕ) (inner : List Step) (next : ℕ) : Type 0 where
    pub branch : ℕ
    pub jump : ℕ
    pub tests : Spans at test branch
    pub branches : slice_get body branch ≡ Some (instr.Branch d next)
    pub inside : Spans (branch + 1) inner jump
    pub jumps : slice_get body jump ≡ Some (instr.Jump at)
    pub behind : jump + 1 ≡ next

  pub turning : (at : ℕ) (test : List Step) (d : ℕ) (inner : List Step) (next : ℕ) → Spans at (turns test d inner) next → Turning at test d inner next
  turning at test d inner next h =
      let long : ℕ = length (test ++ GoesOnUnless d (length inner + 1) ∷ inner) in
      let rest = back at test (GoesOnUnless d (length inner + 1) ∷ (inner ++ GoesBack long ∷ [])) next h in
      let b = at + length test in
      let more : Spans (b + 1) (inner ++ GoesBack long ∷ []) next = (rest.0.1, let e = rest.1 in omega (arith, e)) in
      let last = back (b + 1) inner (GoesBack long ∷ []) next more in
      let j = b + 1 + length inner in
      let whole = length-append test (GoesOnUnless d (length inner + 1) ∷ inner) in
      let size : length (inner ++ GoesBack long ∷ []) ≡ length inner + 1 = (let l = length-append inner (GoesBack long ∷ []) in omega (arith, l)) in
      let there : suc b + (length inner + 1) ≡ next = (let e = rest.1 in omega (arith, e, size)) in
      let home : j - long ≡ at = omega (arith, whole) in
      record {
        branch = b;
        jump = j;
        tests = front at test (GoesOnUnless d (length inner + 1) ∷ (inner ++ GoesBack long ∷ [])) next h;
        branches = subst (λ (z : ℕ). slice_get body b ≡ Some (instr.Branch d z)) there rest.0.0;
        inside = front (b + 1) inner (GoesBack long ∷ []) next more;
        jumps = subst (λ (z : ℕ). slice_get body j ≡ Some (instr.Jump z)) home last.0.0;
        behind = (let z = last.1 in omega (arith, z));
      }

  -- ---- what is safe

  module _ (t : Gives) (f : ℕ) where
    -- each of these registers is live at the place
    abbrev pub Lives : ℕ → (ℕ → Type 0) → Type 0
    Lives p P = (r : ℕ) → P r → LiveAt body p r

    -- for so many instructions from the place on
    abbrev pub Sure : ℕ → ℕ → (ℕ → Type 0) → Type 0
    Sure m p P = Safe t f body m p P

    -- fewer registers
    pub sure_less : (m p : ℕ) (P Q : ℕ → Type 0) → Within P Q → Sure m p Q → Sure m p P
    sure_less m p P Q h k = safe_less t f body m p P Q h k

    same_instr : (i j : Instr) → Some i ≡ Some j → i ≡ j
    same_instr i j e = cc

    -- what is live at all is so in front of this instruction
    fine_of : (p : ℕ) (i : Instr) (P : ℕ → Type 0) → Lives p P → Fine body p i P
    fine_of p i P live c r l = live r l

    -- one instruction, which goes on behind
    safe_does : (n p : ℕ) (i : Instr) (P Q : ℕ → Type 0) → slice_get body p ≡ Some i → Lives p P → (Safe t f body n (p + 1) (After t i P) → Onward t f (Safe t f body n) p i P)
        → Within (After t i P) Q → Sure (suc n) (p + 1) Q → Sure (suc n) p P
    safe_does n p i P Q is live onward less safe j e =
        subst (λ (k : Instr). Fine body p k P × Onward t f (Safe t f body n) p k P) (same_instr i j (sym is ∙ e))
        (fine_of p i P live, onward (safe_less t f body n (p + 1) (After t i P) Q less (safe_sooner t f body n (p + 1) Q safe)))

    -- the same, whatever the count
    pub safe_step : (m p : ℕ) (i : Instr) (P Q : ℕ → Type 0) → slice_get body p ≡ Some i → Lives p P → ((n : ℕ) → Safe t f body n (p + 1) (After t i P) → Onward t f (Safe t f body n) p i P)
        → Within (After t i P) Q → Sure m (p + 1) Q → Sure m p P
    safe_step zero p i P Q is live onward less safe = tt
    safe_step (suc n) p i P Q is live onward less safe = safe_does n p i P Q is live (onward n) less safe

    -- live in front of an instruction that changes none of these
    pub lives_on : (p : ℕ) (i : Instr) (P : ℕ → Type 0) → slice_get body p ≡ Some i → ((q : ℕ) → P q → IsNone q (changes i)) → IsOne (p + 1) (nexts p i) → Lives (p + 1) P → Lives p P
    lives_on p i P is none to live r l = live_on p (p + 1) r i is (none r l) to (live r l)

    pub lives_at : (p q : ℕ) (P : ℕ → Type 0) → p ≡ q → Lives p P → Lives q P
    lives_at p q P e h = subst (λ (z : ℕ). Lives z P) e h

    -- a release
    pub safe_clears : (m p : ℕ) (rs : List ℕ) (P Q : ℕ → Type 0) → slice_get body p ≡ Some (instr.Clear rs)
        → Within (λ r. P r × IsNone r rs) Q → Sure m (p + 1) Q → Sure m p P
    safe_clears zero p rs P Q is less safe = tt
    safe_clears (suc n) p rs P Q is less safe = λ j e.
        subst (λ (k : Instr). Fine body p k P × Onward t f (Safe t f body n) p k P) (same_instr (instr.Clear rs) j (sym is ∙ e))
        ((λ c r l. absurd (let z : true ≡ false = c in cc)), safe_less t f body n (p + 1) (After t (instr.Clear rs) P) Q (λ r l. less r (held r l)) (safe_sooner t f body n (p + 1) Q safe))
      where
        held : (r : ℕ) → After t (instr.Clear rs) P r → P r × IsNone r rs
        held r (inl g) = g
        held r (inr g) = absurd g

    jumped : (q : ℕ) (P Q : ℕ → Type 0) → Within P Q → Within (After t (instr.Jump q) P) Q
    jumped q P Q h r (inl g) = h r g.0
    jumped q P Q h r (inr g) = absurd g

    -- back to a place that is safe for one instruction less
    pub safe_loops : (n p q : ℕ) (P Q : ℕ → Type 0) → slice_get body p ≡ Some (instr.Jump q) → Lives q Q → Within P Q → Sure n q Q → Sure (suc n) p P
    safe_loops n p q P Q is live less safe = λ j e.
        subst (λ (k : Instr). Fine body p k P × Onward t f (Safe t f body n) p k P) (same_instr (instr.Jump q) j (sym is ∙ e))
        (fine_of p (instr.Jump q) P (λ r l. live_on p q r (instr.Jump q) is tt (inl refl) (live r (less r l))), safe_less t f body n q (After t (instr.Jump q) P) Q (jumped q P Q less) safe)

    pub safe_jumps : (m p q : ℕ) (P Q : ℕ → Type 0) → slice_get body p ≡ Some (instr.Jump q) → Lives q Q → Within P Q → Sure m q Q → Sure m p P
    safe_jumps zero p q P Q is live less safe = tt
    safe_jumps (suc n) p q P Q is live less safe = safe_loops n p q P Q is live less (safe_sooner t f body n q Q safe)

    -- the end of a routine
    pub safe_returns : (m p d : ℕ) (P : ℕ → Type 0) → slice_get body p ≡ Some (instr.Return d) → Lives p P → (P d → t f ≡ true) → Sure m p P
    safe_returns zero p d P is live gives = tt
    safe_returns (suc n) p d P is live gives = λ j e.
        subst (λ (k : Instr). Fine body p k P × Onward t f (Safe t f body n) p k P) (same_instr (instr.Return d) j (sym is ∙ e))
        (fine_of p (instr.Return d) P live, gives)

    pub safe_branches : (m p d q : ℕ) (P Q R : ℕ → Type 0) → slice_get body p ≡ Some (instr.Branch d q) → Lives p P
        → Within (λ r. P r × (r ≢ d)) Q → Within (λ r. P r × (r ≢ d)) R → Sure m (p + 1) Q → Sure m q R → Sure m p P
    safe_branches zero p d q P Q R is live one two safe also = tt
    safe_branches (suc n) p d q P Q R is live one two safe also = λ j e.
        subst (λ (k : Instr). Fine body p k P × Onward t f (Safe t f body n) p k P) (same_instr (instr.Branch d q) j (sym is ∙ e)) (
          fine_of p (instr.Branch d q) P live,
          (
            safe_less t f body n (p + 1) (After t (instr.Branch d q) P) Q (λ r l. one r (held r l)) (safe_sooner t f body n (p + 1) Q safe),
            safe_less t f body n q (After t (instr.Branch d q) P) R (λ r l. two r (held r l)) (safe_sooner t f body n q R also),
          ),
        )
      where
        held : (r : ℕ) → After t (instr.Branch d q) P r → P r × (r ≢ d)
        held r (inl g) = (g.0, g.1.0)
        held r (inr g) = absurd g

    pub safe_at : (m p q : ℕ) (P : ℕ → Type 0) → p ≡ q → Sure m p P → Sure m q P
    safe_at m p q P e h = subst (λ (z : ℕ). Sure m z P) e h

    -- a fork: the register of its test is read where there is any code
    pub safe_fork_over : (m at next d : ℕ) (first second : List Step) (P A B Q : ℕ → Type 0) → Spans at (fork d first second) next
        → Lives at P → (first ≡ [] → second ≡ [] → Within P A) → Within (λ r. P r × (r ≢ d)) A → Within (λ r. P r × (r ≢ d)) B → Lives next Q
        → ((p q : ℕ) → Spans p first q → q + over second ≡ next → Lives q Q → Sure m q Q → Sure m p A) → ((p : ℕ) → Spans p second next → Sure m p B)
        → Sure m next Q → Sure m at P
    safe_fork_over m at next d [] [] P A B Q h live none one two lq a b safe = sure_less m at P A (none refl refl) (a at next h (let e = h.1 in omega (arith, e)) lq safe)
    safe_fork_over m at next d (s ∷ first) [] P A B Q h live none one two lq a b safe =
        let to : suc at + length (s ∷ first) ≡ next = (let e = h.1 in omega (arith, e)) in
        safe_branches m at d (suc at + length (s ∷ first)) P A B h.0.0 live one two
        (a (at + 1) next (h.0.1, let e = h.1 in omega (arith, e)) (omega arith) lq safe) (b (suc at + length (s ∷ first)) (tt, omega (arith, to)))
    safe_fork_over m at next d first (s ∷ second) P A B Q h live none one two lq a b safe =
        let rest : Spans (at + 1) (first ++ GoesOn (length (s ∷ second)) ∷ s ∷ second) next = (h.0.1, let e = h.1 in omega (arith, e)) in
        let q = at + 1 + length first in
        let behind = back (at + 1) first (GoesOn (length (s ∷ second)) ∷ s ∷ second) next rest in
        let place : q + 1 ≡ suc at + (length first + 1) = omega arith in
        let out : suc q + length (s ∷ second) ≡ next = (let e = behind.1 in omega (arith, e)) in
        let lq2 : Lives (suc q + length (s ∷ second)) Q = subst (λ (z : ℕ). Lives z Q) (sym out) lq in
        let at_q : Lives q Q = λ r l. live_on q (suc q + length (s ∷ second)) r (instr.Jump (suc q + length (s ∷ second))) behind.0.0 tt (inl refl) (lq2 r l) in
        safe_branches m at d (suc at + (length first + 1)) P A B h.0.0 live one two
        (a (at + 1) q (front (at + 1) first (GoesOn (length (s ∷ second)) ∷ s ∷ second) next rest) (let e = behind.1 in omega (arith, e)) at_q
        (safe_jumps m q (suc q + length (s ∷ second)) Q Q behind.0.0 lq2 (λ r l. l) (safe_at m next (suc q + length (s ∷ second)) Q (sym out) safe)))
        (b (suc at + (length first + 1)) (stand_moved body (q + 1) (suc at + (length first + 1)) (s ∷ second) place behind.0.1, let e = behind.1 in omega (arith, e)))

    pub safe_fork : (m at next d : ℕ) (first second : List Step) (P A B Q : ℕ → Type 0) → Spans at (fork d first second) next
        → Lives at P → (first ≡ [] → second ≡ [] → Within P A) → Within (λ r. P r × (r ≢ d)) A → Within (λ r. P r × (r ≢ d)) B → Lives next Q
        → ((p q : ℕ) → Spans p first q → Lives q Q → Sure m q Q → Sure m p A) → ((p : ℕ) → Spans p second next → Sure m p B)
        → Sure m next Q → Sure m at P
    safe_fork m at next d first second P A B Q h live none one two lq a b safe = safe_fork_over m at next d first second P A B Q h live none one two lq (λ p q sp e l s. a p q sp l s) b safe

    -- code where the register is true
    pub safe_where : (m at next d : ℕ) (first : List Step) (P A B : ℕ → Type 0) → Spans at (fork d first []) next → (first ≡ [] → ⊥)
        → Lives at P → Within (λ r. P r × (r ≢ d)) A → Within (λ r. P r × (r ≢ d)) B → ((p : ℕ) → Spans p first next → Sure m p A) → Sure m next B → Sure m at P
    safe_where m at next d [] P A B h some live one two a safe = absurd (some refl)
    safe_where m at next d (s ∷ first) P A B h some live one two a safe =
        let to : suc at + length (s ∷ first) ≡ next = (let e = h.1 in omega (arith, e)) in
        safe_branches m at d (suc at + length (s ∷ first)) P A B h.0.0 live one two (a (at + 1) (h.0.1, let e = h.1 in omega (arith, e))) (safe_at m next (suc at + length (s ∷ first)) B (sym to) safe)
