-- The grammar of types.
--   type   = inter { '|' inter }
--   inter  = suffix { '&' suffix }
--   suffix = tight { '[' ']' }
--   tight  = '!' tight | 'null' | 'bool' | 'int' | 'any' | 'void' | NAME | '(' type ')' | '{' [ type NAME { ',' type NAME } ] '}'
-- What stands behind '!', '(', '{' or '[' stands one level deeper, a bracket that closes too.
use Rattle.std.specs.Prelude.{ℕ, zero, suc, List}
use Rattle.wy_reading.specs.Rule.{One, Pure, Then, Loop, Or, Refused}
use Rattle.wy_ast.specs.declared.types.Ty.{Ty}
use Rattle.wy_ast.specs.declared.types.TyKind.{TyKind}
use Rattle.wy_ast.specs.declared.types.TyKind.TheVariants as ty
use Rattle.wy_lex.specs.declared.token.TokenKind.{TokenKind}
use Rattle.wy_lex.specs.declared.token.TokenKind.TheVariants as k
use Rattle.wy_parse_grammar.specs.declared.fault.Kind.TheVariants.{Deep}
use Rattle.wy_parse_grammar.specs.declared.measured.Measured.{Measured}
use Rattle.wy_parse_grammar.specs.declared.measured.Measured.TheVariants.{Low}
use Rattle.wy_parse_grammar.specs.declared.sort.Class.TheVariants as class
use Rattle.wy_parse_grammar.specs.Sorts.{has, NOT, BAR, AMPERSAND, COMMA, OPEN_PAREN, CLOSE_PAREN, OPEN_BRACKET, CLOSE_BRACKET, OPEN_BRACE, CLOSE_BRACE}
use Rattle.wy_parse_grammar.specs.Steps.{R, Mark, Inner, Name, inside}
use Rattle.wy_parse_grammar.specs.Trees.{pushed, named, none, ty_node, named_ty, array_ty, not_ty, union_ty, inter_ty, record_ty}

abbrev pub T : Type 0
T = Measured Ty

-- fields, each a name and a type
abbrev pub Fields : Type 0
Fields = Measured (List (List ℕ × Ty))

abbrev pub base_kind : TokenKind → TyKind
base_kind k.Null = ty.Null
base_kind k.Bool = ty.Bool
base_kind k.Int = ty.Int
base_kind k.Any = ty.Any
base_kind _ = ty.Void

abbrev pub Base : R T
Base = Then (One (has class.BaseType)) (λ s. Pure (ty_node s.at (Low (base_kind s.kind) 0)))

-- { '[' ']' }, where there are so many levels
module _ (levels : ℕ) where
  abbrev pub Brackets : T → R T
  Brackets t = Then (Mark OPEN_BRACKET) (λ at. Then (Inner (inside levels) CLOSE_BRACKET) (λ _. Pure (array_ty at t)))

  abbrev pub Suffixes : T → R T
  Suffixes t = Loop Brackets t

-- over `tight` of a level
module _ (levels : ℕ) (tight : R T) where
  abbrev pub Suffix : R T
  Suffix = Then tight (λ t. Suffixes levels t)

  abbrev pub AndSuffix : T → R T
  AndSuffix a = Then (Mark AMPERSAND) (λ at. Then Suffix (λ b. Pure (inter_ty at a b)))

  abbrev pub Inters : T → R T
  Inters a = Loop AndSuffix a

  abbrev pub Inter : R T
  Inter = Then Suffix (λ a. Inters a)

  abbrev pub OrInter : T → R T
  OrInter a = Then (Mark BAR) (λ at. Then Inter (λ b. Pure (union_ty at a b)))

  abbrev pub Unions : T → R T
  Unions a = Loop OrInter a

  abbrev pub Union : R T
  Union = Then Inter (λ a. Unions a)

  -- what goes on with a type that begins so, behind its brackets and before them
  abbrev pub Tail : T → R T
  Tail a = Then (Inters a) (λ b. Unions b)

  abbrev pub Rest : T → R T
  Rest t = Then (Suffixes levels t) (λ a. Tail a)

  abbrev pub Field : Fields → R Fields
  Field fs = Then Union (λ t. Then Name (λ w. Pure (pushed fs (named w.1 t))))

  abbrev pub NextField : Fields → R Fields
  NextField fs = Then (Mark COMMA) (λ _. Field fs)

  abbrev pub FieldList : R Fields
  FieldList = Or (Then (Field none) (λ fs. Loop NextField fs)) (Pure none)

-- over `tight` one level deeper, where there are so many levels
module _ (levels : ℕ) (tight : R T) where
  abbrev pub TightOf : R T
  TightOf =
      Or (Then (Mark NOT) (λ at. Then tight (λ t. Pure (not_ty at t))))
      (Or (Then (Mark OPEN_PAREN) (λ _. Then (Union levels tight) (λ t. Then (Mark CLOSE_PAREN) (λ _. Pure t))))
      (Or (Then (Mark OPEN_BRACE) (λ at. Then (FieldList levels tight) (λ fs. Then (Inner levels CLOSE_BRACE) (λ _. Pure (record_ty at fs)))))
      (Or (Then Name (λ w. Pure (named_ty w.0 w.1)))
      Base)))

-- where there are so many levels; where there are none, what would begin a type is too deep
unfoldable pub Tight : ℕ → R T
Tight zero = Refused (has class.Type) Deep
Tight (suc levels) = TightOf levels (Tight levels)

unfoldable pub Type_ : ℕ → R T
Type_ levels = Union levels (Tight levels)

unfoldable pub TypeRest : ℕ → T → R T
TypeRest levels t = Rest levels (Tight levels) t

unfoldable pub TypeTail : ℕ → T → R T
TypeTail levels t = Tail levels (Tight levels) t
