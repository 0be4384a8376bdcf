-- How types are read: the grammar's shapes as steps, with each choice made by the next token.
use Rattle.std.specs.Prelude.{ℕ, zero, suc}
use Rattle.wy_reading.specs.Reader.{◌>>=◌, pure, one, branch, while, refused}
use Rattle.wy_parse_grammar.specs.declared.fault.Kind.TheVariants.{Deep}
use Rattle.wy_parse_grammar.specs.declared.measured.Measured.TheVariants.{Low}
use Rattle.wy_parse_grammar.specs.declared.sort.Class.TheVariants as class
use Rattle.wy_parse_grammar.specs.Sorts.{has, is, NAME, NOT, BAR, AMPERSAND, COMMA, OPEN_PAREN, CLOSE_PAREN, OPEN_BRACKET, CLOSE_BRACKET, OPEN_BRACE, CLOSE_BRACE}
use Rattle.wy_parse_grammar.specs.Steps.{Q, mark, inner, name, inside}
use Rattle.wy_parse_grammar.specs.Trees.{pushed, named, none, ty_node, named_ty, array_ty, not_ty, union_ty, inter_ty, record_ty}
use Rattle.wy_parse_grammar.specs.TypeGrammar.{T, Fields, base_kind}

unfoldable pub base : Q T
base = one (has class.BaseType) >>= (λ s. pure (ty_node s.at (Low (base_kind s.kind) 0)))

module _ (levels : ℕ) where
  abbrev pub brackets : T → Q T
  brackets t = mark OPEN_BRACKET >>= (λ at. inner (inside levels) CLOSE_BRACKET >>= (λ _. pure (array_ty at t)))

  unfoldable pub suffixes : T → Q T
  suffixes t = while (is OPEN_BRACKET) brackets t

module _ (levels : ℕ) (tight : Q T) where
  unfoldable pub suffix : Q T
  suffix = tight >>= (λ t. suffixes levels t)

  abbrev pub and_suffix : T → Q T
  and_suffix a = mark AMPERSAND >>= (λ at. suffix >>= (λ b. pure (inter_ty at a b)))

  unfoldable pub inters : T → Q T
  inters a = while (is AMPERSAND) and_suffix a

  unfoldable pub inter : Q T
  inter = suffix >>= (λ a. inters a)

  abbrev pub or_inter : T → Q T
  or_inter a = mark BAR >>= (λ at. inter >>= (λ b. pure (union_ty at a b)))

  unfoldable pub unions : T → Q T
  unions a = while (is BAR) or_inter a

  unfoldable pub union : Q T
  union = inter >>= (λ a. unions a)

  unfoldable pub tail : T → Q T
  tail a = inters a >>= (λ b. unions b)

  unfoldable pub rest : T → Q T
  rest t = suffixes levels t >>= (λ a. tail a)

  unfoldable pub field : Fields → Q Fields
  field fs = union >>= (λ t. name >>= (λ w. pure (pushed fs (named w.1 t))))

  abbrev pub next_field : Fields → Q Fields
  next_field fs = mark COMMA >>= (λ _. field fs)

  unfoldable pub field_list : Q Fields
  field_list = branch (has class.Type) (field none >>= (λ fs. while (is COMMA) next_field fs)) (pure none)

module _ (levels : ℕ) (tight : Q T) where
  unfoldable pub tight_of : Q T
  tight_of =
      branch (is NOT) (mark NOT >>= (λ at. tight >>= (λ t. pure (not_ty at t))))
      (branch (is OPEN_PAREN) (mark OPEN_PAREN >>= (λ _. union levels tight >>= (λ t. mark CLOSE_PAREN >>= (λ _. pure t))))
      (branch (is OPEN_BRACE) (mark OPEN_BRACE >>= (λ at. field_list levels tight >>= (λ fs. inner levels CLOSE_BRACE >>= (λ _. pure (record_ty at fs)))))
      (branch (is NAME) (name >>= (λ w. pure (named_ty w.0 w.1)))
      base)))

unfoldable pub tight : ℕ → Q T
tight zero = refused (has class.Type) Deep
tight (suc levels) = tight_of levels (tight levels)

unfoldable pub type_term : ℕ → Q T
type_term levels = union levels (tight levels)

unfoldable pub type_rest : ℕ → T → Q T
type_rest levels t = rest levels (tight levels) t

unfoldable pub type_tail : ℕ → T → Q T
type_tail levels t = tail levels (tight levels) t
