-- Single tokens are read exactly.
use Rattle.std.proofs.Common.{◌≡◌, ℕ, zero, suc, ◌≤◌, Bool, true, false, List, [], ◌∷◌, length, Ok, Err, refl, sym, subst, ◌∙◌, arith}
use Rattle.std.specs.Bool.{⊤}
use Rattle.wy_reading.specs.declared.stop.Stop.TheVariants.{Unexpected, Fault}
use Rattle.wy_reading.specs.Mode.{Mode}
use Rattle.wy_reading.specs.Rule.{heads, One, Pure, Then}
use Rattle.wy_reading.specs.Reader.{◌>>=◌, pure, one}
use Rattle.wy_reading.proofs.Exactness.{Exact, Passes, Any}
use Rattle.wy_reading.proofs.Single.{nothing, symbol}
use Rattle.wy_reading.proofs.Sequence.{sequence}
use Rattle.wy_reading.proofs.Adapting.{same_readers}
use Rattle.wy_reading.proofs.Closed.{closed}
use Rattle.wy_lex.specs.declared.token.Token.{Token}
use Rattle.wy_parse_grammar.specs.declared.fault.Kind.{Kind}
use Rattle.wy_parse_grammar.specs.declared.fault.Kind.TheVariants.{Deep}
use Rattle.wy_parse_grammar.specs.declared.sort.Class.{Class}
use Rattle.wy_parse_grammar.specs.Sorts.{is, has, NAME}
use Rattle.wy_parse_grammar.specs.Steps.{Q, Mark, mark, Inner, inner, Name, name, InnerName, inner_name, name_of, op_of, Operator, operator}
use Rattle.wy_lex.specs.declared.token.TokenKind.TheVariants as k
use Rattle.wy_parse_grammar.proofs.TokenLemmas.{some}

-- a token that passes the test, and what it hands on
pub token-exact : {A : Type 0} {n : Mode} {F : List Token → Type 0} (test : Token → Bool) (f : Token → A) (t : Token) → test t ≡ true
    → Exact {X = Kind} n (Then (One test) (λ s. Pure (f s))) (λ m. one test >>= (λ s. pure (f s))) F (Passes test)
token-exact test f t good = sequence (symbol {F = Any} test t good) (λ s. nothing (f s)) (λ i b. tt)

pub mark-exact : {n : Mode} {F : List Token → Type 0} (c : ℕ) (t : Token) → is c t ≡ true → Exact n (Mark c) (λ m. mark c) F (Passes (is c))
unfolding mark
mark-exact c t good = token-exact (is c) (λ s. s.at) t good

pub name-exact : {n : Mode} {F : List Token → Type 0} → Exact n Name (λ m. name) F (Passes (is NAME))
unfolding name
name-exact = token-exact (is NAME) (λ s. (s.at, name_of s.kind)) (some (k.Name [])) refl

pub operator-exact : {n : Mode} {F : List Token → Type 0} (c : Class) (t : Token) → has c t ≡ true → Exact n (Operator c) (λ m. operator c) F (Passes (has c))
unfolding operator
operator-exact c t good = token-exact (has c) (λ s. (s.at, op_of s.kind)) t good

-- ---- a token that stands inside of a pair

-- where the first token fails the test, nothing is read
pub mark_declines : (c : ℕ) (i : List Token) → heads (is c) i ≡ false → mark c i ≡ Err (Unexpected (length i))
unfolding mark
mark_declines c [] h = refl
mark_declines c (s ∷ i) h = rw h refl

inner_declines : (levels c : ℕ) (i : List Token) → heads (is c) i ≡ false → inner levels c i ≡ Err (Unexpected (length i))
unfolding inner
inner_declines zero c i h = rw h refl
inner_declines (suc levels) c i h = mark_declines c i h

inner_refuses : (c : ℕ) (i : List Token) → heads (is c) i ≡ true → inner zero c i ≡ Err (Fault Deep (length i))
unfolding inner
inner_refuses c i h = rw h refl

inner_marks : (levels c : ℕ) (i : List Token) → 1 ≤ levels → inner levels c i ≡ mark c i
unfolding inner
inner_marks zero c i h = absurd (omega (arith, h))
inner_marks (suc levels) c i h = refl

mark_reads : (c : ℕ) (t : Token) (z : List Token) → is c t ≡ true → mark c (t ∷ z) ≡ Ok (t.at, z)
unfolding mark
mark_reads c t z good = rw good refl

-- a reader of levels, at the level that a number of the mode is
module _ (depth_of : ℕ → ℕ) (deep : ℕ) (grows : (a b : ℕ) → a ≤ b → depth_of a ≤ depth_of b) (reached : (d : ℕ) → deep ≤ d → 1 ≤ depth_of d)
    (c : ℕ) (t : Token) (good : is c t ≡ true) where
  abbrev inner_read : Mode → Q ℕ
  inner_read m = inner (depth_of m.depth) c

  pub inner-exact : {F : List Token → Type 0} (n : Mode) → Exact n (Inner (depth_of n.depth) c) inner_read F (Passes (is c))
  inner-exact {F} n = by (depth_of n.depth) refl
    where
      by : (l : ℕ) → depth_of n.depth ≡ l → Exact n (Inner (depth_of n.depth) c) inner_read F (Passes (is c))
      by zero e =
          subst (λ (l : ℕ). Exact n (Inner l c) inner_read F (Passes (is c))) (sym e)
          (closed n (is c) Deep inner_read F (λ a. ⊤) (λ m i h. inner_declines (depth_of m.depth) c i h)
          (λ i h. subst (λ (l : ℕ). inner l c i ≡ Err (Fault Deep (length i))) (sym e) (inner_refuses c i h))
          (record {
            text = t ∷ [];
            made = t.at;
            wanted = tt;
            deep = deep;
            alive = λ m le d z f. inner_marks (depth_of m.depth) c (t ∷ z) (reached m.depth d) ∙ mark_reads c t z good;
            starts = λ z f. good;
          }))
      by (suc l) e =
          subst (λ (l : ℕ). Exact n (Inner l c) inner_read F (Passes (is c))) (sym e)
          (same_readers inner_read (mark-exact c t good)
          (λ m le i. inner_marks (depth_of m.depth) c i (let g = grows n.depth m.depth le.0 in omega (arith, g, e))))

-- ---- a name that stands inside of a pair

pub name_declines : (i : List Token) → heads (is NAME) i ≡ false → name i ≡ Err (Unexpected (length i))
unfolding name
name_declines [] h = refl
name_declines (s ∷ i) h = rw h refl

inner_name_declines : (levels : ℕ) (i : List Token) → heads (is NAME) i ≡ false → inner_name levels i ≡ Err (Unexpected (length i))
unfolding inner_name
inner_name_declines zero i h = rw h refl
inner_name_declines (suc levels) i h = name_declines i h

inner_name_refuses : (i : List Token) → heads (is NAME) i ≡ true → inner_name zero i ≡ Err (Fault Deep (length i))
unfolding inner_name
inner_name_refuses i h = rw h refl

inner_name_reads : (levels : ℕ) (i : List Token) → 1 ≤ levels → inner_name levels i ≡ name i
unfolding inner_name
inner_name_reads zero i h = absurd (omega (arith, h))
inner_name_reads (suc levels) i h = refl

abbrev pub x : Token
x = some (k.Name [])

name-x : (z : List Token) → name (x ∷ z) ≡ Ok ((0, []), z)
unfolding name
name-x z = refl

pub inner_name-exact : {F : List Token → Type 0} (d : ℕ) (s : Bool) → Exact (record { depth = d; strict = s }) (InnerName d) (λ m. inner_name m.depth) F (Passes (is NAME))
inner_name-exact {F} zero s =
    closed (record { depth = zero; strict = s }) (is NAME) Deep (λ m. inner_name m.depth) F (λ a. ⊤) (λ m i h. inner_name_declines m.depth i h) (λ i h. inner_name_refuses i h)
    (record {
      text = x ∷ [];
      made = (0, []);
      wanted = tt;
      deep = 1;
      alive = λ m le d z f. inner_name_reads m.depth (x ∷ z) d ∙ name-x z;
      starts = λ z f. refl;
    })
inner_name-exact {F} (suc d) s = same_readers (λ m. inner_name m.depth) name-exact (λ m le i. inner_name_reads m.depth i (omega (arith, le.0)))
