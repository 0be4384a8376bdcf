-- The sorts of tokens, each a number, and which sorts are in a class.
use Rattle.std.specs.Prelude.{ℕ, ℤ, pos, Bool, List, [], ◌∷◌, if◌then◌else◌, nat_le, ◌==◌}
use Rattle.wy_reading.specs.Rule.{among}
use Rattle.wy_lex.specs.declared.token.Token.{Token}
use Rattle.wy_lex.specs.declared.token.TokenKind.{TokenKind}
use Rattle.wy_lex.specs.declared.token.TokenKind.TheVariants as k
use Rattle.wy_parse_grammar.specs.declared.sort.Class.{Class}
use Rattle.wy_parse_grammar.specs.declared.sort.Class.TheVariants as class

abbrev pub TYPE : ℕ
TYPE = 1

abbrev pub IS : ℕ
IS = 2

abbrev pub WHERE : ℕ
WHERE = 3

abbrev pub FUNCTION : ℕ
FUNCTION = 4

abbrev pub METHOD : ℕ
METHOD = 5

abbrev pub PROPERTY : ℕ
PROPERTY = 6

abbrev pub REQUIRES : ℕ
REQUIRES = 7

abbrev pub ENSURES : ℕ
ENSURES = 8

abbrev pub IF : ℕ
IF = 9

abbrev pub ELSE : ℕ
ELSE = 10

abbrev pub WHILE : ℕ
WHILE = 11

abbrev pub DO : ℕ
DO = 12

abbrev pub SWITCH : ℕ
SWITCH = 13

abbrev pub CASE : ℕ
CASE = 14

abbrev pub DEFAULT : ℕ
DEFAULT = 15

abbrev pub FOR : ℕ
FOR = 16

abbrev pub IN : ℕ
IN = 17

abbrev pub RETURN : ℕ
RETURN = 18

abbrev pub BREAK : ℕ
BREAK = 19

abbrev pub CONTINUE : ℕ
CONTINUE = 20

abbrev pub ASSERT : ℕ
ASSERT = 21

abbrev pub FAIL : ℕ
FAIL = 22

abbrev pub SKIP : ℕ
SKIP = 23

abbrev pub ALL : ℕ
ALL = 24

abbrev pub SOME : ℕ
SOME = 25

abbrev pub NULL : ℕ
NULL = 26

abbrev pub BOOL : ℕ
BOOL = 27

abbrev pub INT : ℕ
INT = 28

abbrev pub ANY : ℕ
ANY = 29

abbrev pub VOID : ℕ
VOID = 30

abbrev pub TRUE : ℕ
TRUE = 31

abbrev pub FALSE : ℕ
FALSE = 32

abbrev pub IMPORT : ℕ
IMPORT = 33

abbrev pub OPEN_PAREN : ℕ
OPEN_PAREN = 34

abbrev pub CLOSE_PAREN : ℕ
CLOSE_PAREN = 35

abbrev pub OPEN_BRACKET : ℕ
OPEN_BRACKET = 36

abbrev pub CLOSE_BRACKET : ℕ
CLOSE_BRACKET = 37

abbrev pub OPEN_BRACE : ℕ
OPEN_BRACE = 38

abbrev pub CLOSE_BRACE : ℕ
CLOSE_BRACE = 39

abbrev pub COMMA : ℕ
COMMA = 40

abbrev pub COLON : ℕ
COLON = 41

abbrev pub SEMICOLON : ℕ
SEMICOLON = 42

abbrev pub DOT : ℕ
DOT = 43

abbrev pub RANGE : ℕ
RANGE = 44

abbrev pub ARROW : ℕ
ARROW = 45

abbrev pub ASSIGN : ℕ
ASSIGN = 46

abbrev pub EQUAL : ℕ
EQUAL = 47

abbrev pub NOT_EQUAL : ℕ
NOT_EQUAL = 48

abbrev pub LESS : ℕ
LESS = 49

abbrev pub LESS_EQUAL : ℕ
LESS_EQUAL = 50

abbrev pub GREATER : ℕ
GREATER = 51

abbrev pub GREATER_EQUAL : ℕ
GREATER_EQUAL = 52

abbrev pub PLUS : ℕ
PLUS = 53

abbrev pub MINUS : ℕ
MINUS = 54

abbrev pub STAR : ℕ
STAR = 55

abbrev pub SLASH : ℕ
SLASH = 56

abbrev pub PERCENT : ℕ
PERCENT = 57

abbrev pub NOT : ℕ
NOT = 58

abbrev pub AND : ℕ
AND = 59

abbrev pub OR : ℕ
OR = 60

abbrev pub IMPLIES : ℕ
IMPLIES = 61

abbrev pub BAR : ℕ
BAR = 62

abbrev pub AMPERSAND : ℕ
AMPERSAND = 63

abbrev pub NAME : ℕ
NAME = 64

abbrev pub NUMERAL : ℕ
NUMERAL = 65

abbrev pub TEXT : ℕ
TEXT = 66

abbrev pub LINE_END : ℕ
LINE_END = 67

abbrev pub BLOCK_IN : ℕ
BLOCK_IN = 68

abbrev pub BLOCK_OUT : ℕ
BLOCK_OUT = 69

abbrev pub END : ℕ
END = 70

abbrev pub BEYOND : ℕ
BEYOND = 71

abbrev pub NO_NUMERAL : ℕ
NO_NUMERAL = 72

-- a numeral is an `int`, or the size of the least one, or none
abbrev pub numeral_sort : ℤ → ℕ
numeral_sort (pos m) = if nat_le m 39614081257132168796771975167 then NUMERAL else if m == 39614081257132168796771975168 then BEYOND else NO_NUMERAL
numeral_sort _ = NO_NUMERAL

abbrev pub sort : TokenKind → ℕ
sort k.TypeWord = TYPE
sort k.Is = IS
sort k.Where = WHERE
sort k.Function = FUNCTION
sort k.Method = METHOD
sort k.Property = PROPERTY
sort k.Requires = REQUIRES
sort k.Ensures = ENSURES
sort k.If = IF
sort k.Else = ELSE
sort k.While = WHILE
sort k.Do = DO
sort k.Switch = SWITCH
sort k.Case = CASE
sort k.Default = DEFAULT
sort k.For = FOR
sort k.In = IN
sort k.Return = RETURN
sort k.Break = BREAK
sort k.Continue = CONTINUE
sort k.Assert = ASSERT
sort k.Fail = FAIL
sort k.Skip = SKIP
sort k.All = ALL
sort k.Some = SOME
sort k.Null = NULL
sort k.Bool = BOOL
sort k.Int = INT
sort k.Any = ANY
sort k.Void = VOID
sort k.True = TRUE
sort k.False = FALSE
sort k.Import = IMPORT
sort k.OpenParen = OPEN_PAREN
sort k.CloseParen = CLOSE_PAREN
sort k.OpenBracket = OPEN_BRACKET
sort k.CloseBracket = CLOSE_BRACKET
sort k.OpenBrace = OPEN_BRACE
sort k.CloseBrace = CLOSE_BRACE
sort k.Comma = COMMA
sort k.Colon = COLON
sort k.Semicolon = SEMICOLON
sort k.Dot = DOT
sort k.Range = RANGE
sort k.Arrow = ARROW
sort k.Assign = ASSIGN
sort k.Equal = EQUAL
sort k.NotEqual = NOT_EQUAL
sort k.Less = LESS
sort k.LessEqual = LESS_EQUAL
sort k.Greater = GREATER
sort k.GreaterEqual = GREATER_EQUAL
sort k.Plus = PLUS
sort k.Minus = MINUS
sort k.Star = STAR
sort k.Slash = SLASH
sort k.Percent = PERCENT
sort k.Not = NOT
sort k.And = AND
sort k.Or = OR
sort k.Implies = IMPLIES
sort k.Bar = BAR
sort k.Ampersand = AMPERSAND
sort (k.Name x) = NAME
sort (k.Numeral n) = numeral_sort n
sort (k.Text x) = TEXT
sort k.LineEnd = LINE_END
sort k.BlockIn = BLOCK_IN
sort k.BlockOut = BLOCK_OUT
sort k.End = END

-- the sorts in a class
abbrev pub members : Class → List ℕ
members class.Type = NOT ∷ NULL ∷ BOOL ∷ INT ∷ ANY ∷ VOID ∷ NAME ∷ OPEN_PAREN ∷ OPEN_BRACE ∷ []
members class.BaseType = NULL ∷ BOOL ∷ INT ∷ ANY ∷ VOID ∷ []
members class.Expression = NOT ∷ MINUS ∷ NUMERAL ∷ TEXT ∷ NULL ∷ TRUE ∷ FALSE ∷ NAME ∷ OPEN_PAREN ∷ BAR ∷ OPEN_BRACKET ∷ OPEN_BRACE ∷ ALL ∷ SOME ∷ []
members class.Literal = NUMERAL ∷ TEXT ∷ NULL ∷ TRUE ∷ FALSE ∷ []
members class.Quantifier = ALL ∷ SOME ∷ []
members class.Step = OPEN_BRACKET ∷ DOT ∷ []
members class.Factor = STAR ∷ SLASH ∷ PERCENT ∷ []
members class.Summand = PLUS ∷ MINUS ∷ []
members class.Comparison = EQUAL ∷ NOT_EQUAL ∷ LESS ∷ LESS_EQUAL ∷ GREATER ∷ GREATER_EQUAL ∷ []
members class.Connective = AND ∷ OR ∷ []
members class.Statement = NOT ∷ NULL ∷ BOOL ∷ INT ∷ ANY ∷ VOID ∷ NAME ∷ OPEN_PAREN ∷ OPEN_BRACE ∷ RETURN ∷ ASSERT ∷ BREAK ∷ CONTINUE ∷ SKIP ∷ FAIL ∷ IF ∷ WHILE ∷ DO ∷ FOR ∷ SWITCH ∷ []
members class.Word = BREAK ∷ CONTINUE ∷ SKIP ∷ FAIL ∷ []
members class.TypeGoesOn = NAME ∷ BAR ∷ AMPERSAND ∷ []
members class.LabelWord = NULL ∷ TRUE ∷ FALSE ∷ NUMERAL ∷ []
members class.Clause = REQUIRES ∷ ENSURES ∷ []
members class.Declaration = TYPE ∷ FUNCTION ∷ METHOD ∷ PROPERTY ∷ []

-- the token is of this sort
abbrev pub is : ℕ → Token → Bool
is c s = sort s.kind == c

-- the token is in the class
abbrev pub has : Class → Token → Bool
has c s = among (members c) (sort s.kind)
