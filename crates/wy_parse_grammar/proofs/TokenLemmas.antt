-- Sets of tokens, by the numbers of their sorts. Premises on numbers alone are proved by `refl`.
use Rattle.std.proofs.Common.{◌≡◌, ℕ, ◌==◌, Bool, true, false, not, true≢false, List, inl, inr, refl, sym, ◌∙◌}
use Rattle.wy_reading.specs.Mode.{Mode}
use Rattle.wy_reading.specs.Rule.{heads, among, Or}
use Rattle.wy_reading.specs.Reader.{branch}
use Rattle.wy_reading.proofs.Exactness.{Exact, Passes, Lacks}
use Rattle.wy_reading.proofs.Choice.{choice}
use Rattle.wy_reading.proofs.Adapting.{adapt}
use Rattle.wy_reading.proofs.SymbolSets.{heads-at, heads-not, inside, outside, narrow, every}
use Rattle.wy_lex.specs.declared.token.Token.{Token}
use Rattle.wy_lex.specs.declared.token.TokenKind.{TokenKind}
use Rattle.wy_parse_grammar.specs.Sorts.{sort, is}
use Rattle.wy_parse_grammar.specs.Steps.{R, Q}

abbrev pub sort_of : Token → ℕ
sort_of s = sort s.kind

-- the token's sort is one of these
abbrev pub among_these : List ℕ → Token → Bool
among_these l s = among l (sort_of s)

-- some token of the kind
abbrev pub some : TokenKind → Token
some kind = record { kind = kind; at = 0 }

-- where a token of the sort c stands first, a set answers as at c
pub at : (c : ℕ) (l : List ℕ) (i : List Token) → Passes (is c) i → heads (among_these l) i ≡ among l c
at c l i h = heads-at sort_of c (among l) i h

pub at_other : (c d : ℕ) (i : List Token) → (d == c) ≡ false → Passes (is d) i → Lacks (is c) i
at_other c d i e h = heads-at sort_of d (λ n. n == c) i h ∙ e

-- where a token of a set that c isn't in stands first, it isn't c
pub no : (c : ℕ) (l : List ℕ) (i : List Token) → among l c ≡ false → Passes (among_these l) i → Lacks (is c) i
no c l i e h = heads-not sort_of c (among l) i e h

-- where no token of a set stands first, none of its members does
pub one_out : (c : ℕ) (l : List ℕ) (i : List Token) → among l c ≡ true → Lacks (among_these l) i → Lacks (is c) i
one_out c l i e h = by (heads (is c) i) refl
  where
    by : (b : Bool) → heads (is c) i ≡ b → heads (is c) i ≡ false
    by false g = g
    by true g = absurd (true≢false (sym e ∙ (sym (at c l i g) ∙ h)))

pub fewer : (l more : List ℕ) (i : List Token) → every (among more) l ≡ true → Lacks (among_these more) i → Lacks (among_these l) i
fewer l more i e h = narrow sort_of l (among more) i e h

pub apart : (l other : List ℕ) (i : List Token) → every (λ c. not (among other c)) l ≡ true → Passes (among_these l) i → Lacks (among_these other) i
apart l other i e h = outside sort_of l (among other) i e h

pub wider : (l more : List ℕ) (i : List Token) → every (among more) l ≡ true → Passes (among_these l) i → Passes (among_these more) i
wider l more i e h = inside sort_of l (among more) i e h

pub member : (c : ℕ) (l : List ℕ) (i : List Token) → among l c ≡ true → Passes (is c) i → Passes (among_these l) i
member c l i e h = at c l i h ∙ e

-- a way that begins with c, or one that begins with a token of a set
pub choice_of : {A : Type 0} {n : Mode} {rule other : R A} {q p : Mode → Q A} {F : List Token → Type 0} (c : ℕ) (l more : List ℕ)
    → Exact n rule q F (Passes (is c)) → Exact n other p F (Passes (among_these l)) → among l c ≡ false → among more c ≡ true → every (among more) l ≡ true
    → Exact n (Or rule other) (λ m. branch (is c) (q m) (p m)) F (Passes (among_these more))
choice_of c l more one two apart_is member_is wider_is =
    adapt (choice (is c) one two (λ i h. h) (λ i h. no c l i apart_is h)) (λ i f. f)
    (λ i b. elim b [ inl h ↦ member c more i member_is h | inr h ↦ wider l more i wider_is h ]) (λ a p. tt)

-- a way that begins with a token of one set, or one that begins with a token of another
pub choice_among : {A : Type 0} {n : Mode} {rule other : R A} {q p : Mode → Q A} {F : List Token → Type 0} (k l more : List ℕ)
    → Exact n rule q F (Passes (among_these k)) → Exact n other p F (Passes (among_these l)) → every (λ c. not (among k c)) l ≡ true
    → every (among more) k ≡ true → every (among more) l ≡ true
    → Exact n (Or rule other) (λ m. branch (among_these k) (q m) (p m)) F (Passes (among_these more))
choice_among k l more one two apart_is wider_is wider_too =
    adapt (choice (among_these k) one two (λ i h. h) (λ i h. apart l k i apart_is h)) (λ i f. f)
    (λ i b. elim b [ inl h ↦ wider k more i wider_is h | inr h ↦ wider l more i wider_too h ]) (λ a p. tt)
