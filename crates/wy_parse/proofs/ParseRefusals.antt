-- What the parser answers agrees with the grammar, in both directions.
use Rattle.std.proofs.Common.{◌≡◌, ℕ, ◌≤◌, List, [], ◌∷◌, ◌++◌, length, Result, Ok, Err, IfOk, IfErr, inl, inr, refl, sym, ap, ◌∙◌, subst, arith, append_assoc, append-nil, length-append}
use Rattle.wy_reading.specs.declared.stop.Stop.{Stop}
use Rattle.wy_reading.specs.declared.stop.Stop.TheVariants as stop
use Rattle.wy_reading.specs.Mode.{Mode, Looser}
use Rattle.wy_reading.specs.Rule.{Rule}
use Rattle.wy_reading.specs.Places.{IsText, CanGoOn, IsDead, FirstBad}
use Rattle.wy_reading.specs.Promise.{Promise}
use Rattle.wy_reading.specs.Reader.{Outcome}
use Rattle.wy_ast.specs.declared.declarations.Program.{Program}
use Rattle.wy_lex.specs.declared.token.Token.{Token}
use Rattle.wy_parse_grammar.specs.declared.fault.Kind.{Kind}
use Rattle.wy_parse_grammar.specs.declared.fault.Kind.TheVariants as kind
use Rattle.wy_parse.specs.declared.fault.ParseFault.{ParseFault}
use Rattle.wy_parse.specs.declared.fault.ParseFault.TheVariants.{Unexpected, Mixed, Deep, TooMany, NoMemory}
use Rattle.wy_parse_grammar.specs.declared.measured.Measured.{Measured}
use Rattle.wy_parse_grammar.specs.declared.measured.Measured.TheVariants.{Low, High}
use Rattle.wy_parse.specs.ProgramGrammar.{Text}
use Rattle.wy_parse.specs.ProgramReading.{text}
use Rattle.wy_parse.specs.Derivation.{profile, place_of, Derives, Meets, Leaves, IsHigh, IsRefused, fault_of, Answers}
use Rattle.wy_parse.specs.Parsed.{parsed, answer, low, fault_at}
use Rattle.wy_parse.proofs.ProgramExact.{promised}

-- ---- there is one first symbol after which no text goes on

module _ {S X A : Type 0} (R : Mode → Rule S X A) (n : Mode) where
  -- the front of what can go on can
  goes-on : (i j : List S) → CanGoOn R n (i ++ j) → CanGoOn R n i
  goes-on i j g = (g.0, g.1, j ++ g.2, g.3, subst (λ (l : List S). IsText R g.0 l g.3) (append_assoc i j g.2) g.4)

  -- with what stands before it: a front that goes on ends no later than before the symbol after which none does
  no-longer : (before front back alive rest : List S) → front ++ back ≡ alive ++ rest → IsDead R n (before ++ front) back → CanGoOn R n (before ++ alive) → length alive ≤ length front
  no-longer before front back [] rest e dead g = omega arith
  no-longer before [] [] (s ∷ alive) rest e dead g = absurd (cc)
  no-longer before [] (bad ∷ back) (s ∷ alive) rest e dead g =
      let same : s ≡ bad = cc in
      let g' : CanGoOn R n (before ++ bad ∷ alive) = subst (λ (t : S). CanGoOn R n (before ++ t ∷ alive)) same g in
      let g'' : CanGoOn R n ((before ++ bad ∷ []) ++ alive) = subst (λ (l : List S). CanGoOn R n l) (sym (append_assoc before (bad ∷ []) alive)) g' in
      absurd (subst (λ (l : List S). CanGoOn R n (l ++ bad ∷ []) → ⊥) (append-nil before) dead (goes-on (before ++ bad ∷ []) alive g''))
  no-longer before (t ∷ front) back (s ∷ alive) rest e dead g =
      let same : s ≡ t = cc in
      let behind : front ++ back ≡ alive ++ rest = cc in
      let g' : CanGoOn R n (before ++ t ∷ alive) = subst (λ (u : S). CanGoOn R n (before ++ u ∷ alive)) same g in
      let shorter = no-longer (before ++ t ∷ []) front back alive rest behind
      (subst (λ (l : List S). IsDead R n l back) (sym (append_assoc before (t ∷ []) front)) dead)
      (subst (λ (l : List S). CanGoOn R n l) (sym (append_assoc before (t ∷ []) alive)) g') in
      omega (arith, shorter)

  pub one_first_bad : (i : List S) (k l : ℕ) → FirstBad R n i k → FirstBad R n i l → k ≡ l
  one_first_bad i k l b c =
      let x = no-longer [] b.front b.back c.front c.back (sym b.cut ∙ c.cut) b.dead c.alive in
      let y = no-longer [] c.front c.back b.front b.back (sym c.cut ∙ b.cut) c.dead b.alive in
      omega (arith, x, y, b.left_is, c.left_is, ap length b.cut, ap length c.cut, length-append b.front b.back, length-append c.front c.back)

  -- what is a text has no such symbol
  pub no_first_bad : (i : List S) (k : ℕ) (a : A) → Looser n n → IsText R n i a → FirstBad R n i k → ⊥
  no_first_bad i k a same t b = by b.front b.back b.cut b.dead
    where
      by : (front back : List S) → i ≡ front ++ back → IsDead R n front back → ⊥
      by front [] e dead = dead n same a (subst (λ (l : List S). IsText R n l a) (e ∙ append-nil front) t)
      by front (bad ∷ rest) e dead =
          dead (n, same, rest, a, subst (λ (l : List S). IsText R n l a) (e ∙ sym (append_assoc front (bad ∷ []) rest)) t)

-- ---- by what the reader gives

keeps : Promise profile Text text
keeps = promised profile

read-derives : (tokens : List Token) (p : Program) → parsed tokens ≡ Ok p → Derives tokens p
read-derives tokens p e = over (text profile tokens) refl e
  where
    by : (a : Measured Program) (j : List Token) → text profile tokens ≡ Ok (a, j) → low a ≡ Ok p → Derives tokens p
    by (Low q height) j g h =
        let same : q ≡ p = cc in
        record { height = height; text = subst (λ (w : Program). IsText Text profile tokens (Low w height)) same (keeps.spells tokens (Low q height) j g) }
    by (High at) j g h = absurd (cc)

    over : (o : Outcome Token Kind (Measured Program)) → text profile tokens ≡ o → answer tokens o ≡ Ok p → Derives tokens p
    over (Ok r) g h = by r.0 r.1 g h
    over (Err y) g h = absurd (cc)

pub read-reads : (tokens : List Token) (p : Program) → Derives tokens p → parsed tokens ≡ Ok p
read-reads tokens p d = ap (answer tokens) (keeps.reads tokens (Low p d.height) d.text)

pub read-high : (tokens : List Token) (at : ℕ) → IsHigh tokens at → parsed tokens ≡ Err (Deep at)
read-high tokens at h = ap (answer tokens) (keeps.reads tokens (High at) h)

pub read-met : (tokens : List Token) (x : Kind) (at : ℕ) → Meets tokens x at → parsed tokens ≡ Err (fault_of x at)
read-met tokens x at m = ap (answer tokens) (keeps.names tokens x m.left m.met) ∙ ap (λ (w : ℕ). Err (fault_of x w)) (sym m.place_is)

-- a stop of the reader stands where the grammar puts it
refused : (tokens : List Token) (y : Stop Kind) → text profile tokens ≡ Err y → IsRefused tokens (fault_at tokens y)
refused tokens (stop.Unexpected left) e = record { left = left; place_is = refl; bad = keeps.place tokens (stop.Unexpected left) e }
refused tokens (stop.Fault kind.Mixed left) e = record { left = left; place_is = refl; met = keeps.place tokens (stop.Fault kind.Mixed left) e }
refused tokens (stop.Fault kind.Deep left) e = inl (record { left = left; place_is = refl; met = keeps.place tokens (stop.Fault kind.Deep left) e })
refused tokens (stop.Fault kind.TooMany left) e = record { left = left; place_is = refl; met = keeps.place tokens (stop.Fault kind.TooMany left) e }
refused tokens stop.NoMemory e = tt

pub read-refused : (tokens : List Token) (f : ParseFault) → parsed tokens ≡ Err f → IsRefused tokens f
read-refused tokens f e = over (text profile tokens) refl e
  where
    by : (a : Measured Program) (j : List Token) → text profile tokens ≡ Ok (a, j) → low a ≡ Err f → IsRefused tokens f
    by (Low q height) j g h = absurd (cc)
    by (High at) j g h = let same : Deep at ≡ f = cc in subst (IsRefused tokens) same (inr (keeps.spells tokens (High at) j g))

    over : (o : Outcome Token Kind (Measured Program)) → text profile tokens ≡ o → answer tokens o ≡ Err f → IsRefused tokens f
    over (Ok r) g h = by r.0 r.1 g h
    over (Err y) g h = let same : fault_at tokens y ≡ f = cc in subst (IsRefused tokens) same (refused tokens y g)

-- ---- the clauses of the call

pub spells : (tokens : List Token) (r : Result Program ParseFault) → Answers (parsed tokens) r → IfOk r (λ p. Derives tokens p)
spells tokens (Ok p) h = read-derives tokens p h
spells tokens (Err f) h = tt

pub reads : (tokens : List Token) (r : Result Program ParseFault) → Answers (parsed tokens) r → (p : Program) → Derives tokens p → Answers (Ok p) r
reads tokens r h p d = subst (λ w. Answers w r) (read-reads tokens p d) h

pub fault : (tokens : List Token) (r : Result Program ParseFault) → Answers (parsed tokens) r → IfErr r (IsRefused tokens)
fault tokens (Ok p) h = tt
fault tokens (Err (Unexpected at)) h = read-refused tokens (Unexpected at) (h (λ z. absurd (cc)))
fault tokens (Err (Mixed at)) h = read-refused tokens (Mixed at) (h (λ z. absurd (cc)))
fault tokens (Err (Deep at)) h = read-refused tokens (Deep at) (h (λ z. absurd (cc)))
fault tokens (Err (TooMany at)) h = read-refused tokens (TooMany at) (h (λ z. absurd (cc)))
fault tokens (Err NoMemory) h = tt

pub exact : (tokens : List Token) (r : Result Program ParseFault) → Answers (parsed tokens) r → (x : Kind) (at : ℕ) → Meets tokens x at → Answers (Err (fault_of x at)) r
exact tokens r h x at m = subst (λ w. Answers w r) (read-met tokens x at m) h

pub high : (tokens : List Token) (r : Result Program ParseFault) → Answers (parsed tokens) r → (at : ℕ) → IsHigh tokens at → Answers (Err (Deep at)) r
high tokens r h at m = subst (λ w. Answers w r) (read-high tokens at m) h

-- tokens that leave the grammar, and meet no fault before
pub leaves : (tokens : List Token) (r : Result Program ParseFault) → Answers (parsed tokens) r → (at : ℕ) → Leaves tokens at → ((x : Kind) (place : ℕ) → Meets tokens x place → ⊥)
    → Answers (Err (Unexpected at)) r
leaves tokens r h at l none = over (text profile tokens) refl
  where
    unread : (r : Result Program ParseFault) → Answers (Err NoMemory) r → Answers (Err (Unexpected at)) r
    unread (Ok p) g = absurd (cc)
    unread (Err e) g = λ some. let c = g some in let same : e ≡ NoMemory = cc in absurd (some same)

    over : (o : Outcome Token Kind (Measured Program)) → text profile tokens ≡ o → Answers (Err (Unexpected at)) r
    over (Ok a) g = absurd (no_first_bad Text profile tokens l.left a.0 (omega arith, λ x. x) (keeps.spells tokens a.0 a.1 g) l.bad)
    over (Err (stop.Unexpected left)) g =
        let same = one_first_bad Text profile tokens left l.left (keeps.place tokens (stop.Unexpected left) g) l.bad in
        subst (λ w. Answers w r) (ap (answer tokens) g ∙ ap (λ (w : ℕ). Err (Unexpected w)) (ap (place_of tokens) same ∙ sym l.place_is)) h
    over (Err (stop.Fault x left)) g = absurd (none x (place_of tokens left) (record { left = left; place_is = refl; met = keeps.place tokens (stop.Fault x left) g }))
    over (Err stop.NoMemory) g = unread r (subst (λ w. Answers w r) (ap (answer tokens) g) h)

-- ---- laws

pub one_program : (tokens : List Token) (p q : Program) → Derives tokens p → Derives tokens q → p ≡ q
one_program tokens p q d e = let c = sym (read-reads tokens p d) ∙ read-reads tokens q e in cc

pub no_program_with_a_fault : (tokens : List Token) (p : Program) (x : Kind) (at : ℕ) → Derives tokens p → Meets tokens x at → ⊥
no_program_with_a_fault tokens p x at d m = one_of x (sym (read-reads tokens p d) ∙ read-met tokens x at m)
  where
    one_of : (x : Kind) → (let r : Result Program ParseFault = Ok p in r ≡ Err (fault_of x at)) → ⊥
    one_of x c = absurd (cc)

-- where a node is too high, no other fault stands
pub no_high_program_with_a_fault : (tokens : List Token) (at : ℕ) (x : Kind) (place : ℕ) → IsHigh tokens at → Meets tokens x place → ⊥
no_high_program_with_a_fault tokens at x place h m =
    let c = sym (keeps.reads tokens (High at) h) ∙ keeps.names tokens x m.left m.met in absurd (cc)

pub no_program_that_leaves : (tokens : List Token) (p : Program) (at : ℕ) → Derives tokens p → Leaves tokens at → ⊥
no_program_that_leaves tokens p at d l = no_first_bad Text profile tokens l.left (Low p d.height) (omega arith, λ x. x) d.text l.bad

pub no_high_program_that_leaves : (tokens : List Token) (at place : ℕ) → IsHigh tokens at → Leaves tokens place → ⊥
no_high_program_that_leaves tokens at place h l = no_first_bad Text profile tokens l.left (High at) (omega arith, λ x. x) h l.bad

pub no_high_program : (tokens : List Token) (p : Program) (at : ℕ) → Derives tokens p → IsHigh tokens at → ⊥
no_high_program tokens p at d h = let c = keeps.one_value tokens (Low p d.height) (High at) d.text h in absurd (cc)

pub one_high_place : (tokens : List Token) (at place : ℕ) → IsHigh tokens at → IsHigh tokens place → at ≡ place
one_high_place tokens at place h g = let c = keeps.one_value tokens (High at) (High place) h g in cc

pub one_fault : (tokens : List Token) (x y : Kind) (at place : ℕ) → Meets tokens x at → Meets tokens y place → (x ≡ y) × (at ≡ place)
one_fault tokens x y at place m n =
    let c = sym (keeps.names tokens x m.left m.met) ∙ keeps.names tokens y n.left n.met in
    let left : m.left ≡ n.left = cc in
    ((cc), m.place_is ∙ (ap (place_of tokens) left ∙ sym n.place_is))

pub one_leaving_place : (tokens : List Token) (at place : ℕ) → Leaves tokens at → Leaves tokens place → at ≡ place
one_leaving_place tokens at place m n =
    m.place_is ∙ (ap (place_of tokens) (one_first_bad Text profile tokens m.left n.left m.bad n.bad) ∙ sym n.place_is)
