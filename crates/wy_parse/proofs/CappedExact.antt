-- Declarations, of which there may be so many, are read exactly.
use Rattle.std.proofs.Common.{◌≡◌, ◌+◌, ◌<◌, ◌≤◌, ℕ, zero, suc, Bool, true, false, true≢false, cond, List, [], ◌∷◌, ◌++◌, ◌⊎◌, inl, inr, length, Ok, Err, refl, sym, ap, subst, arith, length-append, lt-ltb, le-ltb}
use Rattle.wy_reading.specs.declared.stop.Stop.TheVariants.{Unexpected, Fault}
use Rattle.wy_reading.specs.Mode.{Mode}
use Rattle.wy_reading.specs.Rule.{heads, Then, Or, Pure, Loop, Turns, Barred, lax}
use Rattle.wy_reading.specs.Rule.Turns.{stop, more}
use Rattle.wy_reading.specs.Reader.{Outcome, and_then, ◌>>=◌, pure, branch, loop, while, fenced, refused}
use Rattle.wy_reading.proofs.Exactness.{Exact, Passes, Any, same_mode}
use Rattle.wy_reading.proofs.Outcomes.{and_then-ok}
use Rattle.wy_reading.proofs.Single.{nothing}
use Rattle.wy_reading.proofs.Sequence.{sequence}
use Rattle.wy_reading.proofs.Choice.{choice}
use Rattle.wy_reading.proofs.Repetition.{repetition_before}
use Rattle.wy_reading.proofs.Adapting.{adapt, same_rule, same_readers}
use Rattle.wy_reading.proofs.Bars.{fenced-strict}
use Rattle.wy_reading.proofs.Turns.{loop-halts}
use Rattle.wy_lex.specs.declared.token.Token.{Token}
use Rattle.wy_lex.specs.declared.token.TokenKind.TheVariants as k
use Rattle.wy_parse_grammar.specs.declared.fault.Kind.{Kind}
use Rattle.wy_parse_grammar.specs.declared.fault.Kind.TheVariants.{TooMany}
use Rattle.wy_parse_grammar.specs.declared.sort.Class.TheVariants as class
use Rattle.wy_parse_grammar.specs.Sorts as t
use Rattle.wy_parse_grammar.specs.Sorts.{is, has, members}
use Rattle.wy_parse_grammar.specs.Steps.{R, Q}
use Rattle.wy_parse_grammar.specs.Trees as parts
use Rattle.wy_parse.specs.DeclTrees.{D}
use Rattle.wy_parse.specs.ProgramGrammar.{Counted, most, has_place, Capped, NextDecl}
use Rattle.wy_parse.specs.ProgramReading.{capped, next_decl}
use Rattle.wy_parse_grammar.proofs.TokenLemmas.{some, at}

-- behind declarations stands the end
abbrev pub AfterDecls : List Token → Type 0
AfterDecls i = Passes (is t.END) i

abbrev pub BeginsDecls : List Token → Type 0
BeginsDecls i = Passes (has class.Declaration) i ⊎ Passes (is t.END) i

abbrev pushed : Counted → D → Counted
pushed c d = (parts.pushed c.0 d, c.1 + 1)

-- ---- where there is a place, and where there is none

place-left : (n k : ℕ) → n + suc k ≡ most → has_place n ≡ true
place-left n k e = lt-ltb n most (omega (arith, e))

no-place : (n : ℕ) → n + zero ≡ most → has_place n ≡ false
no-place n e = le-ltb n most (omega (arith, e))

lax-place : (s : Bool) (n k : ℕ) → n + suc k ≡ most → lax s has_place n ≡ true
lax-place true n k e = place-left n k e
lax-place false n k e = refl

-- ---- over a declaration that is read exactly in every mode

module _ (rule : Mode → R D) (decl : Mode → Q D) (every : (m : Mode) → Exact m (rule m) decl Any (Passes (has class.Declaration))) where
  abbrev next : Mode → Counted → Q Counted
  next m c = next_decl m.strict (decl m) c

  abbrev next_loop : Mode → ℕ → Counted → Q Counted
  next_loop m f c = loop (has class.Declaration) (next m) f c

  abbrev all : Counted → Mode → Q Counted
  all c m = while (has class.Declaration) (next m) c

  -- ---- each takes a token

  taken : (m : Mode) (front : List Token) (a : D) → decl m (front ++ []) ≡ Ok (a, []) → 1 ≤ length front
  taken m [] a e = absurd (true≢false (sym ((every m).first [] a [] ((every m).sound [] a [] e) tt)))
  taken m (s ∷ front) a e = omega arith

  shorter : (m : Mode) (i : List Token) (a : D) (j : List Token) → decl m i ≡ Ok (a, j) → length j < length i
  shorter m i a j e = let d = (every m).done i a j e in omega (arith, ap length d.cut, length-append d.front j, taken m d.front a (d.again m (same_mode m) [] (inr tt)))

  capped-shorter : (m : Mode) (b : Bool) (i : List Token) (a : D) (j : List Token) → capped b (decl m) i ≡ Ok (a, j) → length j < length i
  capped-shorter m true i a j e = shorter m i a j e
  capped-shorter m false i a j e = by (heads (has class.Declaration) i) e
    where
      by : (b : Bool) → (let no : Outcome Token Kind D = cond b (Err (Fault TooMany (length i))) (Err (Unexpected (length i))) in no ≡ Ok (a, j)) → length j < length i
      by true g = absurd (cc)
      by false g = absurd (cc)

  next-shorter : (m : Mode) (c : Counted) (i : List Token) (b : Counted) (j : List Token) → next m c i ≡ Ok (b, j) → length j < length i
  next-shorter m c i b j e =
      let y = and_then-ok (capped (lax m.strict has_place c.1) (decl m) i) (λ d. pure (pushed c d)) (b, j) e in
      let short = capped-shorter m (lax m.strict has_place c.1) i y.0.0 y.0.1 y.1 in
      let same : (let x : Counted × List Token = (pushed c y.0.0, y.0.1) in x ≡ (b, j)) = (let g = y.2 in cc) in
      omega (arith, short, ap (λ (x : Counted × List Token). length x.1) same)

  -- more turns than there are tokens make no difference
  enough : (m : Mode) (f g : ℕ) (c : Counted) (i : List Token) → length i ≤ f → length i ≤ g → next_loop m f c i ≡ next_loop m g c i
  enough m zero g c [] le le' = sym (loop-halts (has class.Declaration) (next m) g c [] refl)
  enough m zero g c (s ∷ i) le le' = absurd (omega (arith, le))
  enough m (suc f) zero c [] le le' = refl
  enough m (suc f) zero c (s ∷ i) le le' = absurd (omega (arith, le'))
  enough m (suc f) (suc g) c i le le' = by (λ b j x y. enough m f g b j x y) (heads (has class.Declaration) i) (next m c i) refl
    where
      by : ((b : Counted) (j : List Token) → length j ≤ f → length j ≤ g → next_loop m f b j ≡ next_loop m g b j) → (b : Bool) → (o : Outcome Token Kind Counted) → next m c i ≡ o
          → cond b (and_then o (next_loop m f)) (Ok (c, i)) ≡ cond b (and_then o (next_loop m g)) (Ok (c, i))
      by ih true (Ok r) e = let short = next-shorter m c i r.0 r.1 e in ih r.0 r.1 (omega (arith, short, le)) (omega (arith, short, le'))
      by ih true (Err y) e = refl
      by ih false o e = refl

  -- ---- where checks are made: by the places that are left

  row : Mode → ℕ → Counted → Q Counted
  row m zero c = fenced m.strict (has class.Declaration) TooMany (λ b. all b m) c
  row m (suc left) c = branch (has class.Declaration) (decl m >>= (λ d. row m left (pushed c d))) (pure c)

  -- where no place is left, the loop stops as the row does
  full : (s : Bool) (q : Q D) (f : ℕ) (c : Counted) (i : List Token) → c.1 + zero ≡ most → length i ≤ f
      → loop (has class.Declaration) (next_decl s q) f c i ≡ while (has class.Declaration) (next_decl s q) c i
      → loop (has class.Declaration) (next_decl s q) f c i ≡ fenced s (has class.Declaration) TooMany (λ b. while (has class.Declaration) (next_decl s q) b) c i
  full true q zero c [] e le same = refl
  full true q zero c (t ∷ i) e le same = absurd (omega (arith, le))
  full true q (suc f) c i e le same = by (heads (has class.Declaration) i) refl
    where
      by : (b : Bool) → heads (has class.Declaration) i ≡ b
          → cond b (and_then (next_decl true q c i) (loop (has class.Declaration) (next_decl true q) f)) (Ok (c, i))
          ≡ cond b (refused (has class.Declaration) TooMany i) (Ok (c, i))
      by true h = rw (no-place c.1 e, h) refl
      by false h = refl
  full false q f c i e le same = by (heads (has class.Declaration) i) refl
    where
      by : (b : Bool) → heads (has class.Declaration) i ≡ b
          → loop (has class.Declaration) (next_decl false q) f c i ≡ cond b (while (has class.Declaration) (next_decl false q) c i) (Ok (c, i))
      by true h = same
      by false h = loop-halts (has class.Declaration) (next_decl false q) f c i h

  row-is : (m : Mode) (left : ℕ) (c : Counted) (i : List Token) (f : ℕ) → c.1 + left ≡ most → length i ≤ f → next_loop m f c i ≡ row m left c i
  unfolding row
  row-is m zero c i f e le = full m.strict (decl m) f c i e le (enough m f (length i) c i le (omega arith))
  row-is m (suc left) c [] zero e le = refl
  row-is m (suc left) c (s ∷ i) zero e le = absurd (omega (arith, le))
  row-is m (suc left) c i (suc f) e le =
      rw (lax-place m.strict c.1 left e) (by (λ b j x y. row-is m left b j f x y) (heads (has class.Declaration) i) (decl m i) refl)
    where
      by : ((b : Counted) (j : List Token) → b.1 + left ≡ most → length j ≤ f → next_loop m f b j ≡ row m left b j) → (b : Bool) → (o : Outcome Token Kind D) → decl m i ≡ o
          → cond b (and_then (and_then o (λ d. pure (pushed c d))) (next_loop m f)) (Ok (c, i)) ≡ cond b (and_then o (λ d. row m left (pushed c d))) (Ok (c, i))
      by ih true (Ok r) g = ih (pushed c r.0) r.1 (omega (arith, e)) (omega (arith, shorter m i r.0 r.1 g, le))
      by ih true (Err y) g = refl
      by ih false o g = refl

  -- ---- the rule by the places that are left

  module _ (d : ℕ) where
    abbrev strictly : Mode
    strictly = record { depth = d; strict = true }

    Row : ℕ → Counted → R Counted
    Row zero c = Barred (has class.Declaration) TooMany c
    Row (suc left) c = Or (Then (rule strictly) (λ a. Row left (pushed c a))) (Pure c)

    row-exact : (left : ℕ) (c : Counted) → Exact strictly (Row left c) (λ m. row m left c) AfterDecls BeginsDecls
    unfolding row Row
    row-exact zero c = fenced-strict (has class.Declaration) TooMany (λ b. Pure b) (λ m b. all b m) AfterDecls (λ i f. at t.END (members class.Declaration) i f) d c
    row-exact (suc left) c =
        choice (has class.Declaration) (sequence (every strictly) (λ a. row-exact left (pushed c a)) (λ i b. tt)) (nothing c)
        (λ i h. h) (λ i f. at t.END (members class.Declaration) i f)

    abbrev Every : Counted → R Counted
    Every c = Loop (NextDecl true (rule strictly)) c

    abbrev Reads : Bool → List Token → D → List Token → Type 0
    Reads b i a j = (Capped b (rule strictly)).reads i a j

    abbrev Meets : Bool → List Token → Kind → ℕ → Type 0
    Meets b i y l = (Capped b (rule strictly)).meets i y l

    to_turns : (left : ℕ) (c : Counted) (i : List Token) (b : Counted) (j : List Token) → c.1 + left ≡ most → (Row left c).reads i b j → Turns (NextDecl true (rule strictly)) c i b j
    unfolding Row
    to_turns zero c i b j e (inl h) = absurd h
    to_turns zero c i b j e (inr h) = stop h.0 h.1
    to_turns (suc left) c i b j e (inl h) =
        more (pushed c h.0) h.1 (h.0, h.1, subst (λ (o : Bool). Reads o i h.0 h.1) (sym (place-left c.1 left e)) h.2, (refl, refl))
        (to_turns left (pushed c h.0) h.1 b j (omega (arith, e)) h.3)
    to_turns (suc left) c i b j e (inr h) = stop h.0 h.1

    from_turns : {c : Counted} {i : List Token} {b : Counted} {j : List Token} → Turns (NextDecl true (rule strictly)) c i b j → (left : ℕ) → c.1 + left ≡ most → (Row left c).reads i b j
    unfolding Row
    from_turns {c = c} {i = i} {b = b} {j = j} (stop x y) zero e = inr (x, y)
    from_turns {c = c} {i = i} {b = b} {j = j} (stop x y) (suc left) e = inr (x, y)
    from_turns {c = c} {i = i} {b = b} {j = j} (more c' j' r rest) zero e = absurd (subst (λ (o : Bool). Reads o i r.0 r.1) (no-place c.1 e) r.2)
    from_turns {c = c} {i = i} {b = b} {j = j} (more c' j' r rest) (suc left) e =
        let later = from_turns rest left (omega (arith, e, ap (λ (x : Counted). x.1) r.3.0)) in
        inl (
          r.0,
          r.1,
          subst (λ (o : Bool). Reads o i r.0 r.1) (place-left c.1 left e) r.2,
          subst (λ (l : List Token). (Row left (pushed c r.0)).reads l b j) (sym r.3.1) (subst (λ (x : Counted). (Row left x).reads j' b j) r.3.0 later),
        )

    to_met : (left : ℕ) (c : Counted) (i : List Token) (y : Kind) (l : ℕ) → c.1 + left ≡ most → (Row left c).meets i y l → (Every c).meets i y l
    unfolding Row
    to_met zero c i y l e (inl h) = (c, i, stop refl refl, inl (subst (λ (o : Bool). Meets o i y l) (sym (no-place c.1 e)) h))
    to_met zero c i y l e (inr h) = absurd h
    to_met (suc left) c i y l e (inl (inl h)) = (c, i, stop refl refl, inl (subst (λ (o : Bool). Meets o i y l) (sym (place-left c.1 left e)) h))
    to_met (suc left) c i y l e (inl (inr h)) =
        let later = to_met left (pushed c h.0) h.1 y l (omega (arith, e)) h.3 in
        (later.0, later.1, more (pushed c h.0) h.1 (h.0, h.1, subst (λ (o : Bool). Reads o i h.0 h.1) (sym (place-left c.1 left e)) h.2, (refl, refl)) later.2, later.3)
    to_met (suc left) c i y l e (inr h) = absurd h

    capped_met : (c : Counted) (j : List Token) (y : Kind) (l : ℕ) → (NextDecl true (rule strictly) c).meets j y l → Meets (has_place c.1) j y l
    capped_met c j y l (inl h) = h
    capped_met c j y l (inr h) = absurd h.3

    met_here : (left : ℕ) (c : Counted) (i : List Token) (y : Kind) (l : ℕ) → c.1 + left ≡ most → Meets (has_place c.1) i y l → (Row left c).meets i y l
    unfolding Row
    met_here zero c i y l e h = inl (subst (λ (o : Bool). Meets o i y l) (no-place c.1 e) h)
    met_here (suc left) c i y l e h = inl (inl (subst (λ (o : Bool). Meets o i y l) (place-left c.1 left e) h))

    from_met : {c : Counted} {i : List Token} {b : Counted} {j : List Token} → Turns (NextDecl true (rule strictly)) c i b j
        → (y : Kind) (l : ℕ) → (NextDecl true (rule strictly) b).meets j y l → (left : ℕ) → c.1 + left ≡ most → (Row left c).meets i y l
    unfolding Row
    from_met {c = c} {i = i} {b = b} {j = j} (stop x x') y l h left e =
        met_here left c i y l e (capped_met c i y l (subst (λ (w : List Token). (NextDecl true (rule strictly) c).meets w y l) (sym x') (subst (λ (w : Counted). (NextDecl true (rule strictly) w).meets j y l) x h)))
    from_met {c = c} {i = i} (more c' j' r rest) y l h zero e = absurd (subst (λ (o : Bool). Reads o i r.0 r.1) (no-place c.1 e) r.2)
    from_met {c = c} {i = i} (more c' j' r rest) y l h (suc left) e =
        let later = from_met rest y l h left (omega (arith, e, ap (λ (x : Counted). x.1) r.3.0)) in
        inl (inr (
          r.0,
          r.1,
          subst (λ (o : Bool). Reads o i r.0 r.1) (place-left c.1 left e) r.2,
          subst (λ (w : List Token). (Row left (pushed c r.0)).meets w y l) (sym r.3.1) (subst (λ (x : Counted). (Row left x).meets j' y l) r.3.0 later),
        ))

    strict-exact : (c : Counted) → c.1 + most ≡ most → Exact strictly (Every c) (all c) AfterDecls BeginsDecls
    strict-exact c e =
        same_rule (same_readers (all c) (row-exact most c) (λ m le i. row-is m most c i (length i) e (omega arith)))
        (λ i b j h. to_turns most c i b j e h) (λ i b j h. from_turns h most e) (λ i y l h. to_met most c i y l e h) (λ i y l h. from_met h.2 y l h.3 most e)

    -- ---- where no checks are made

    abbrev laxly : Mode
    laxly = record { depth = d; strict = false }

    grown : Mode → Counted → Q Counted
    grown m c = decl m >>= (λ a. pure (pushed c a))

    grown-exact : (c : Counted) → Exact laxly (NextDecl false (rule laxly) c) (λ m. grown m c) Any (Passes (has class.Declaration))
    unfolding grown
    grown-exact c = sequence (every laxly) (λ a. nothing (pushed c a)) (λ i b. tt)

    uncapped : (s : Bool) (m : Mode) (c : Counted) (i : List Token) → (s ≡ true → false ≡ true)
        → while (has class.Declaration) (next_decl s (decl m)) c i ≡ while (has class.Declaration) (grown m) c i
    unfolding grown
    uncapped true m c i h = absurd (true≢false (sym (h refl)))
    uncapped false m c i h = refl

    lax-exact : (c : Counted) → Exact laxly (Loop (NextDecl false (rule laxly)) c) (all c) AfterDecls BeginsDecls
    lax-exact c =
        adapt (same_readers (all c)
        (repetition_before (has class.Declaration) grown-exact (λ i h. h) (λ i f. at t.END (members class.Declaration) i f) (λ i f. tt) (λ i h. tt) (some k.End ∷ []) refl c)
        (λ m le i. uncapped m.strict m c i le.1))
        (λ i f. f) (λ i b. elim b [ inl h ↦ inr h | inr h ↦ inl h ]) (λ a p. tt)

  by_checks : (s : Bool) (d : ℕ) (c : Counted) → c.1 + most ≡ most
      → (let n : Mode = record { depth = d; strict = s } in Exact n (Loop (NextDecl s (rule n)) c) (all c) AfterDecls BeginsDecls)
  by_checks true d c e = strict-exact d c e
  by_checks false d c e = lax-exact d c

  pub capped-exact : (n : Mode) (c : Counted) → c.1 + most ≡ most → Exact n (Loop (NextDecl n.strict (rule n)) c) (all c) AfterDecls BeginsDecls
  capped-exact n c e = by_checks n.strict n.depth c e
