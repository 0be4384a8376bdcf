-- Rules and readers of single tokens. A rule that has no word of the subject in its text is named for what it hands on.
use Rattle.std.specs.Prelude.{◌≡◌, ℕ, zero, suc, List, [], ◌∷◌, Ok}
use Rattle.wy_reading.specs.Rule.{Rule, One, Pure, Then, Refused}
use Rattle.wy_reading.specs.Reader.{Reader, one, pure, refused, and_then, ◌>>=◌}
use Rattle.wy_ast.specs.declared.expressions.Op.{Op}
use Rattle.wy_ast.specs.declared.expressions.Op.TheVariants as op
use Rattle.wy_lex.specs.declared.token.Token.{Token}
use Rattle.wy_lex.specs.declared.token.TokenKind.{TokenKind}
use Rattle.wy_lex.specs.declared.token.TokenKind.TheVariants as k
use Rattle.wy_parse_grammar.specs.declared.fault.Kind.{Kind}
use Rattle.wy_parse_grammar.specs.declared.fault.Kind.TheVariants.{Deep}
use Rattle.wy_parse_grammar.specs.declared.sort.Class.{Class}
use Rattle.wy_parse_grammar.specs.Sorts.{is, has, NAME}

abbrev pub R : Type 0 → Type 1
R A = Rule Token Kind A

abbrev pub Q : Type 0 → Type 0
Q A = Reader Token Kind A

-- a token of the sort, by its place
abbrev pub Mark : ℕ → R ℕ
Mark c = Then (One (is c)) (λ s. Pure s.at)

unfoldable pub mark : ℕ → Q ℕ
mark c = one (is c) >>= (λ s. pure s.at)

-- a token of the sort, inside of which there are so many levels where it stands; where there are none it is too deep
abbrev pub Inner : ℕ → ℕ → R ℕ
Inner zero c = Refused (is c) Deep
Inner (suc levels) c = Mark c

unfoldable pub inner : ℕ → ℕ → Q ℕ
inner zero c = refused (is c) Deep
inner (suc levels) c = mark c

abbrev pub name_of : TokenKind → List ℕ
name_of (k.Name name) = name
name_of _ = []

-- a name, with its place
abbrev pub Name : R (ℕ × List ℕ)
Name = Then (One (is NAME)) (λ s. Pure (s.at, name_of s.kind))

unfoldable pub name : Q (ℕ × List ℕ)
name = one (is NAME) >>= (λ s. pure (s.at, name_of s.kind))

abbrev pub InnerName : ℕ → R (ℕ × List ℕ)
InnerName zero = Refused (is NAME) Deep
InnerName (suc levels) = Name

unfoldable pub inner_name : ℕ → Q (ℕ × List ℕ)
inner_name zero = refused (is NAME) Deep
inner_name (suc levels) = name

abbrev pub op_of : TokenKind → Op
op_of k.Plus = op.Add
op_of k.Minus = op.Sub
op_of k.Star = op.Mul
op_of k.Slash = op.Div
op_of k.Percent = op.Mod
op_of k.Equal = op.Equal
op_of k.NotEqual = op.NotEqual
op_of k.Less = op.Less
op_of k.LessEqual = op.LessEqual
op_of k.Greater = op.Greater
op_of k.GreaterEqual = op.GreaterEqual
op_of k.And = op.And
op_of k.Or = op.Or
op_of _ = op.Implies

-- an operator of the class, with its place
abbrev pub Operator : Class → R (ℕ × Op)
Operator c = Then (One (has c)) (λ s. Pure (s.at, op_of s.kind))

unfoldable pub operator : Class → Q (ℕ × Op)
operator c = one (has c) >>= (λ s. pure (s.at, op_of s.kind))

-- what is inside of one of so many levels
abbrev pub inside : ℕ → ℕ
inside zero = zero
inside (suc levels) = levels

-- where the first token stands
abbrev pub place : List Token → ℕ
place [] = 0
place (s ∷ i) = s.at

-- what the rule reads, with the place of its first token
abbrev pub Placed : {A : Type 0} → R A → R (ℕ × A)
Placed {A} rule = record {
  reads = λ i a j. (a.0 ≡ place i) × rule.reads i a.1 j;
  meets = rule.meets;
}

unfoldable pub placed : {A : Type 0} → Q A → Q (ℕ × A)
placed q i = and_then (q i) (λ a j. Ok ((place i, a), j))
