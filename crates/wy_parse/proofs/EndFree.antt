-- What each rule reads has no `End` in it: a line for each rule.
use Rattle.std.proofs.Common.{◌≡◌, ◌==◌, ℕ, zero, suc, Bool, true, false, List, [], Option, Some, None, refl}
use Rattle.wy_reading.specs.Rule.{One, Pure, Then, Loop, Refused}
use Rattle.wy_ast.specs.declared.expressions.Expr.{Expr}
use Rattle.wy_parse_grammar.specs.declared.fault.Kind.TheVariants.{Deep, Mixed, TooMany}
use Rattle.wy_parse_grammar.specs.declared.sort.Class.TheVariants as class
use Rattle.wy_parse_grammar.specs.Sorts as t
use Rattle.wy_parse_grammar.specs.Sorts.{is, has, members}
use Rattle.wy_parse_grammar.specs.Steps.{R, inside}
use Rattle.wy_parse_grammar.specs.Trees.{none}
use Rattle.wy_parse_grammar.specs.TypeGrammar as types
use Rattle.wy_parse_grammar.specs.TypeGrammar.{T}
use Rattle.wy_parse_grammar.specs.ExprGrammar as exprs
use Rattle.wy_parse_grammar.specs.ExprGrammar.{E, touches}
use Rattle.wy_parse_grammar.specs.LabelGrammar as labels
use Rattle.wy_parse.specs.StmtTrees.{S, Stmts, Cases, Path}
use Rattle.wy_parse.specs.StmtGrammar as stmts
use Rattle.wy_parse.specs.BlockGrammar as blocks
use Rattle.wy_parse.specs.BlockGrammar.{CaseList}
use Rattle.wy_parse.specs.DeclTrees.{D, Params}
use Rattle.wy_parse.specs.ProgramGrammar as decls
use Rattle.wy_parse.proofs.EndLemmas.{Free, free-pure, free-then, free-or, free-loop, free-refused, free-unless, free-fenced, free-placed, free-has, free-is, free-mark, free-inner, free-name, free-inner_name, free-operator, free-touching}

-- ---- types

free-suffixes : (levels : ℕ) (a : T) → Free (types.Suffixes levels a)
free-suffixes levels a = free-loop a (λ b. free-then (free-mark t.OPEN_BRACKET refl) (λ at. free-then (free-inner (inside levels) t.CLOSE_BRACKET refl) (λ r. free-pure _)))

module _ (levels : ℕ) (V : R T) (v : Free V) where
  free-suffix : Free (types.Suffix levels V)
  free-suffix = free-then v (λ a. free-suffixes levels a)

  free-inters : (a : T) → Free (types.Inters levels V a)
  free-inters a = free-loop a (λ b. free-then (free-mark t.AMPERSAND refl) (λ at. free-then free-suffix (λ c. free-pure _)))

  free-inter : Free (types.Inter levels V)
  free-inter = free-then free-suffix free-inters

  free-unions : (a : T) → Free (types.Unions levels V a)
  free-unions a = free-loop a (λ b. free-then (free-mark t.BAR refl) (λ at. free-then free-inter (λ c. free-pure _)))

  free-union : Free (types.Union levels V)
  free-union = free-then free-inter free-unions

  free-tail : (a : T) → Free (types.Tail levels V a)
  free-tail a = free-then (free-inters a) free-unions

  free-field : (fs : types.Fields) → Free (types.Field levels V fs)
  free-field fs = free-then free-union (λ ty. free-then free-name (λ w. free-pure _))

  free-fields : Free (types.FieldList levels V)
  free-fields = free-or (free-then (free-field none) (λ fs. free-loop fs (λ gs. free-then (free-mark t.COMMA refl) (λ r. free-field gs)))) (free-pure none)

  free-tight_of : Free (types.TightOf levels V)
  free-tight_of =
      free-or (free-then (free-mark t.NOT refl) (λ at. free-then v (λ ty. free-pure _)))
      (free-or (free-then (free-mark t.OPEN_PAREN refl) (λ r. free-then free-union (λ ty. free-then (free-mark t.CLOSE_PAREN refl) (λ r. free-pure _))))
      (free-or (free-then (free-mark t.OPEN_BRACE refl) (λ at. free-then free-fields (λ fs. free-then (free-inner levels t.CLOSE_BRACE refl) (λ r. free-pure _))))
      (free-or (free-then free-name (λ w. free-pure _))
      (free-then (free-has (members class.BaseType) refl) (λ s. free-pure _)))))

free-tight : (levels : ℕ) → Free (types.Tight levels)
unfolding types.Tight
free-tight zero = free-refused (has class.Type) Deep
free-tight (suc levels) = free-tight_of levels (types.Tight levels) (free-tight levels)

pub free-type : (levels : ℕ) → Free (types.Type_ levels)
unfolding types.Type_
free-type levels = free-union levels (types.Tight levels) (free-tight levels)

pub free-type_rest : (levels : ℕ) (a : T) → Free (types.TypeRest levels a)
unfolding types.TypeRest
free-type_rest levels a = free-then (free-suffixes levels a) (free-tail levels (types.Tight levels) (free-tight levels))

pub free-type_tail : (levels : ℕ) (a : T) → Free (types.TypeTail levels a)
unfolding types.TypeTail
free-type_tail levels a = free-tail levels (types.Tight levels) (free-tight levels) a

-- ---- operators of two operands

module _ (U : R E) (u : Free U) where
  free-product : Free (exprs.Product U)
  free-product = free-then u (λ a. free-loop a (λ b. free-then (free-operator class.Factor refl) (λ o. free-then u (λ c. free-pure _))))

  free-sum : Free (exprs.Sum U)
  free-sum = free-then free-product (λ a. free-loop a (λ b. free-then (free-operator class.Summand refl) (λ o. free-then free-product (λ c. free-pure _))))

  module _ (levels : ℕ) where
    free-compared : (a : E) → Free (exprs.Compared levels U a)
    free-compared a =
        free-or (free-then (free-operator class.Comparison refl) (λ o. free-then free-sum (λ b. free-pure _)))
        (free-or (free-then (free-mark t.IS refl) (λ at. free-then (free-type levels) (λ ty. free-pure _)))
        (free-pure a))

    free-comparison : Free (exprs.Comparison levels U)
    free-comparison = free-then free-sum free-compared

    free-connected : (c : ℕ) → (c == t.END) ≡ false → (a : E) → Free (exprs.Connected levels U c a)
    free-connected c e a = free-then (free-mark c e) (λ at. free-then free-comparison (λ b. free-pure _))

    free-chain : (c : ℕ) → (c == t.END) ≡ false → (a : E) → Free (exprs.Chain levels U c a)
    free-chain c e a = free-then (free-connected c e a) (λ b. free-loop b (λ x. free-connected c e x))

    free-mix : (c : ℕ) → (c == t.END) ≡ false → (a : E) → Free (exprs.Mix levels U c a)
    free-mix c e a = free-then (free-connected c e a) (λ b. free-loop b (λ x. free-or (free-connected t.AND refl x) (free-connected t.OR refl x)))

    free-logic : (s : Bool) → Free (exprs.Logic levels U s)
    free-logic s =
        free-then free-comparison (λ a.
        free-or (free-then (free-chain t.AND refl a) (λ b. free-fenced s (is t.OR) Mixed b (λ x. free-mix t.OR refl x)))
        (free-or (free-then (free-chain t.OR refl a) (λ b. free-fenced s (is t.AND) Mixed b (λ x. free-mix t.AND refl x)))
        (free-pure a)))

    free-expr_of : (s : Bool) (V : R E) → Free V → Free (exprs.ExprOf levels U s V)
    free-expr_of s V v = free-then (free-logic s) (λ a. free-or (free-then (free-mark t.IMPLIES refl) (λ at. free-then v (λ b. free-pure _))) (free-pure a))

-- ---- what has an inside

module _ (levels : ℕ) (U V : R E) (u : Free U) (v : Free V) where
  free-more_args : (es : exprs.Args) → Free (exprs.MoreArgs levels U V es)
  free-more_args es = free-loop es (λ fs. free-then (free-mark t.COMMA refl) (λ r. free-then v (λ a. free-pure _)))

  free-arg_list : Free (exprs.ArgList levels U V)
  free-arg_list = free-or (free-then v (λ a. free-more_args _)) (free-pure none)

  free-record_field : (fs : exprs.Fields) → Free (exprs.Field levels U V fs)
  free-record_field fs = free-then (free-inner_name levels) (λ w. free-then (free-mark t.COLON refl) (λ r. free-then v (λ a. free-pure _)))

  free-record_fields : Free (exprs.FieldList levels U V)
  free-record_fields =
      free-or (free-then (free-record_field none) (λ fs. free-loop fs (λ gs. free-then (free-mark t.COMMA refl) (λ r. free-record_field gs)))) (free-pure none)

  free-range : (rs : exprs.Ranges) → Free (exprs.Range levels U V rs)
  free-range rs =
      free-then (free-inner_name levels) (λ w. free-then (free-mark t.IN refl) (λ r. free-then (free-sum U u) (λ a.
      free-then (free-mark t.RANGE refl) (λ r. free-then (free-sum U u) (λ b. free-pure _)))))

  free-ranges : Free (exprs.RangeList levels U V)
  free-ranges = free-then (free-range none) (λ rs. free-loop rs (λ more. free-then (free-mark t.COMMA refl) (λ r. free-range more)))

  free-listed : (at : ℕ) → Free (exprs.Listed levels U V at)
  free-listed at =
      free-or (free-then (free-inner levels t.CLOSE_BRACKET refl) (λ r. free-pure _))
      (free-then v (λ a.
      free-or (free-then (free-mark t.SEMICOLON refl) (λ r. free-then v (λ n. free-then (free-mark t.CLOSE_BRACKET refl) (λ r. free-pure _))))
      (free-then (free-more_args _) (λ es. free-then (free-mark t.CLOSE_BRACKET refl) (λ r. free-pure _)))))

  free-called : (at : ℕ) (name : List ℕ) → Free (exprs.Called levels U V at name)
  free-called at name =
      free-or (free-then (free-mark t.OPEN_PAREN refl) (λ r. free-then free-arg_list (λ es. free-then (free-inner levels t.CLOSE_PAREN refl) (λ r. free-pure _))))
      (free-pure _)

  free-quantified : (at : ℕ) (all : Bool) → Free (exprs.Quantified levels U V at all)
  free-quantified at all =
      free-then (free-mark t.OPEN_BRACE refl) (λ r. free-then free-ranges (λ rs. free-then (free-mark t.BAR refl) (λ r. free-then v (λ body.
      free-then (free-mark t.CLOSE_BRACE refl) (λ r. free-pure _)))))

  free-primary : Free (exprs.Primary levels U V)
  free-primary =
      free-or (free-then (free-has (members class.Literal) refl) (λ s. free-pure _))
      (free-or (free-then free-name (λ w. free-called w.0 w.1))
      (free-or (free-then (free-mark t.OPEN_PAREN refl) (λ r. free-then v (λ a. free-then (free-mark t.CLOSE_PAREN refl) (λ r. free-pure _))))
      (free-or (free-then (free-mark t.BAR refl) (λ at. free-then (free-sum U u) (λ a. free-then (free-mark t.BAR refl) (λ r. free-pure _))))
      (free-or (free-then (free-mark t.OPEN_BRACKET refl) free-listed)
      (free-or (free-then (free-mark t.OPEN_BRACE refl) (λ at. free-then free-record_fields (λ fs. free-then (free-inner levels t.CLOSE_BRACE refl) (λ r. free-pure _))))
      (free-then (free-then (free-has (members class.Quantifier) refl) (λ s. free-pure _)) (λ q. free-quantified q.0 q.1)))))))

  free-steps : (a : E) → Free (exprs.Steps levels U V a)
  free-steps a =
      free-loop a (λ b.
      free-or (free-then (free-mark t.OPEN_BRACKET refl) (λ at. free-then v (λ i. free-then (free-mark t.CLOSE_BRACKET refl) (λ r. free-pure _))))
      (free-then (free-mark t.DOT refl) (λ at. free-then free-name (λ w. free-pure _))))

  free-negated : (at : ℕ) → Free (exprs.Negated levels U V at)
  free-negated at =
      free-or (free-then (free-then (free-touching at) (λ s. free-pure _)) (λ n. free-steps _))
      (free-then (free-unless (touches at) u) (λ a. free-pure _))

  free-unary_of : Free (exprs.UnaryOf levels U V)
  free-unary_of =
      free-or (free-then (free-mark t.NOT refl) (λ at. free-then u (λ a. free-pure _)))
      (free-or (free-then (free-mark t.MINUS refl) free-negated)
      (free-then free-primary free-steps))

record FreeLevel (s : Bool) (levels : ℕ) : Type 0 where
  unary_is : Free (exprs.level s levels).unary
  expr_is : Free (exprs.level s levels).expr

free-level : (s : Bool) (levels : ℕ) → FreeLevel s levels
unfolding exprs.level
free-level s zero = record { unary_is = free-refused (has class.Expression) Deep; expr_is = free-refused (has class.Expression) Deep }
free-level s (suc d) =
    let below = free-level s d in
    let unary = free-unary_of d (exprs.level s d).unary (exprs.level s d).expr below.unary_is below.expr_is in
    record { unary_is = unary; expr_is = free-expr_of (exprs.level s (suc d)).unary unary (suc d) s (exprs.level s d).expr below.expr_is }

free-unary : (s : Bool) (levels : ℕ) → Free (exprs.Unary s levels)
unfolding exprs.Unary
free-unary s levels = (free-level s levels).unary_is

free-expr : (s : Bool) (levels : ℕ) → Free (exprs.Expr_ s levels)
unfolding exprs.Expr_
free-expr s levels = (free-level s levels).expr_is

free-args : (s : Bool) (levels : ℕ) → Free (exprs.ArgsIn s levels)
unfolding exprs.ArgsIn
free-args s levels = free-arg_list levels (exprs.Unary s levels) (exprs.Expr_ s levels) (free-unary s levels) (free-expr s levels)

free-sum_in : (s : Bool) (levels : ℕ) → Free (exprs.SumIn s levels)
unfolding exprs.SumIn
free-sum_in s levels = free-sum (exprs.Unary s levels) (free-unary s levels)

-- ---- statements without blocks

free-line : Free (Then (One (is t.LINE_END)) (λ s. Pure s.at))
free-line = free-mark t.LINE_END refl

free-word_stmt : Free stmts.WordStmt
unfolding stmts.WordStmt
free-word_stmt = free-then (free-then (free-has (members class.Word) refl) (λ s. free-pure _)) (λ st. free-then free-line (λ r. free-pure _))

free-field_step : (p : Path) → Free (stmts.FieldStep p)
free-field_step p = free-then (free-mark t.DOT refl) (λ at. free-then free-name (λ w. free-pure _))

module _ (s : Bool) (levels : ℕ) where
  free-return_stmt : Free (stmts.ReturnStmt s levels)
  unfolding stmts.ReturnStmt
  free-return_stmt =
      free-then (free-mark t.RETURN refl) (λ at.
      free-or (free-then free-line (λ r. free-pure _)) (free-then (free-expr s levels) (λ a. free-then free-line (λ r. free-pure _))))

  free-assert_stmt : Free (stmts.AssertStmt s levels)
  unfolding stmts.AssertStmt
  free-assert_stmt = free-then (free-mark t.ASSERT refl) (λ at. free-then (free-expr s levels) (λ a. free-then free-line (λ r. free-pure _)))

  free-declared : (at : ℕ) (ty : T) → Free (stmts.Declared s levels at ty)
  unfolding stmts.Declared
  free-declared at ty =
      free-then free-name (λ w.
      free-or (free-then (free-mark t.ASSIGN refl) (λ r. free-then (free-expr s levels) (λ a. free-then free-line (λ r. free-pure _))))
      (free-then free-line (λ r. free-pure _)))

  free-declare_stmt : Free (stmts.DeclareStmt s levels)
  unfolding stmts.DeclareStmt
  free-declare_stmt = free-then (free-placed (free-type levels)) (λ p. free-declared p.0 p.1)

  free-call_stmt : (at : ℕ) (name : List ℕ) → Free (stmts.CallStmt s levels at name)
  unfolding stmts.CallStmt
  free-call_stmt at name =
      free-then (free-mark t.OPEN_PAREN refl) (λ r. free-then (free-args s (inside levels)) (λ es. free-then (free-inner (inside levels) t.CLOSE_PAREN refl) (λ r.
      free-then free-line (λ r. free-pure _))))

  free-step : (p : Path) → Free (stmts.Step s levels p)
  free-step p =
      free-or (free-then (free-mark t.OPEN_BRACKET refl) (λ at. free-then (free-expr s (inside levels)) (λ i. free-then (free-mark t.CLOSE_BRACKET refl) (λ r. free-pure _))))
      (free-field_step p)

  free-valued : (at : ℕ) (name : List ℕ) (p : Path) → Free (stmts.Valued s levels at name p)
  unfolding stmts.Valued
  free-valued at name p = free-then (free-mark t.ASSIGN refl) (λ r. free-then (free-expr s levels) (λ a. free-then free-line (λ r. free-pure _)))

  free-assigned : (at : ℕ) (name : List ℕ) (p : Path) → Free (stmts.Assigned s levels at name p)
  unfolding stmts.Assigned
  free-assigned at name p = free-then (free-loop p free-step) (λ q. free-valued at name q)

  free-bracket_stmt : (at : ℕ) (name : List ℕ) → Free (stmts.BracketStmt s levels at name)
  unfolding stmts.BracketStmt
  free-bracket_stmt at name =
      free-then (free-mark t.OPEN_BRACKET refl) (λ b.
      free-or (free-then (free-inner (inside levels) t.CLOSE_BRACKET refl) (λ r. free-then (free-type_rest levels _) (λ ty. free-declared at ty)))
      (free-then (free-expr s (inside levels)) (λ i. free-then (free-mark t.CLOSE_BRACKET refl) (λ r. free-assigned at name _))))

  free-named_stmt : Free (stmts.NamedStmt s levels)
  unfolding stmts.NamedStmt
  free-named_stmt =
      free-then free-name (λ w.
      free-or (free-call_stmt w.0 w.1)
      (free-or (free-bracket_stmt w.0 w.1)
      (free-or (free-then (free-type_tail levels _) (λ ty. free-declared w.0 ty))
      (free-or (free-then (free-field_step none) (λ p. free-assigned w.0 w.1 p))
      (free-valued w.0 w.1 none)))))

  free-where : (es : exprs.Args) → Free (stmts.Where s levels es)
  free-where es = free-then (free-mark t.WHERE refl) (λ r. free-then (free-expr s levels) (λ a. free-pure _))

  free-wheres : (es : exprs.Args) → Free (stmts.Wheres s levels es)
  unfolding stmts.Wheres
  free-wheres es = free-loop es free-where

free-label : (ls : List Expr) → Free (labels.Label ls)
free-label ls =
    free-or (free-then (free-mark t.MINUS refl) (λ at.
    free-then (free-or (free-then (free-touching at) (λ s. free-pure _)) (free-unless (touches at) (free-then (free-is t.NUMERAL refl) (λ s. free-pure _)))) (λ n. free-pure _)))
    (free-then (free-then (free-has (members class.LabelWord) refl) (λ s. free-pure _)) (λ l. free-pure _))

free-labels : Free labels.Labels
unfolding labels.Labels
free-labels = free-then (free-label []) (λ ls. free-loop ls (λ more. free-then (free-mark t.COMMA refl) (λ r. free-label more)))

-- ---- blocks

module _ (s : Bool) (levels : ℕ) (B : R Stmts) (b : Free B) where
  free-while : Free (blocks.WhileStmt s levels B)
  unfolding blocks.WhileStmt
  free-while =
      free-then (free-mark t.WHILE refl) (λ at. free-then (free-expr s levels) (λ test. free-then (free-wheres s levels none) (λ es.
      free-then (free-mark t.COLON refl) (λ r. free-then b (λ body. free-pure _)))))

  free-do : Free (blocks.DoStmt s levels B)
  unfolding blocks.DoStmt
  free-do =
      free-then (free-mark t.DO refl) (λ at. free-then (free-mark t.COLON refl) (λ r. free-then b (λ body. free-then (free-mark t.WHILE refl) (λ r.
      free-then (free-expr s levels) (λ test. free-then (free-wheres s levels none) (λ es. free-then free-line (λ r. free-pure _)))))))

  free-for : Free (blocks.ForStmt s levels B)
  unfolding blocks.ForStmt
  free-for =
      free-then (free-mark t.FOR refl) (λ at. free-then free-name (λ w. free-then (free-mark t.IN refl) (λ r. free-then (free-sum_in s levels) (λ low.
      free-then (free-mark t.RANGE refl) (λ r. free-then (free-sum_in s levels) (λ high. free-then (free-wheres s levels none) (λ es.
      free-then (free-mark t.COLON refl) (λ r. free-then b (λ body. free-pure _)))))))))

  free-if : (I : R S) → Free I → Free (blocks.IfStmt s levels B I)
  unfolding blocks.IfStmt blocks.Otherwise
  free-if I i =
      free-then (free-mark t.IF refl) (λ at. free-then (free-expr s levels) (λ test. free-then (free-mark t.COLON refl) (λ r. free-then b (λ first.
      free-then (free-or
      (free-then (free-mark t.ELSE refl) (λ r. free-or (free-then (free-mark t.COLON refl) (λ r. b)) (free-then i (λ st. free-pure _))))
      (free-pure none))
      (λ second. free-pure _)))))

free-case_rest : (B : R Stmts) → Free B → (cs : CaseList) → Free (blocks.CaseRest B cs)
unfolding blocks.CaseRest
free-case_rest B b cs = free-then free-labels (λ ls. free-then (free-mark t.COLON refl) (λ r. free-then b (λ body. free-pure _)))

free-default : (B : R Stmts) → Free B → (cs : CaseList) → Free (blocks.Default B cs)
unfolding blocks.Default
free-default B b cs =
    free-then (free-mark t.DEFAULT refl) (λ r. free-then (free-mark t.COLON refl) (λ r. free-then b (λ body. free-then (free-mark t.BLOCK_OUT refl) (λ r. free-pure _))))

free-last_out : (cs : CaseList) → Free (blocks.LastOut cs)
unfolding blocks.LastOut
free-last_out cs = free-then (free-mark t.BLOCK_OUT refl) (λ r. free-pure _)

record FreeNest (below : blocks.Nest) : Type 0 where
  block_is : Free below.block
  branch_is : Free below.branch
  cases_is : (cs : CaseList) → Free (below.cases cs)

module _ (s : Bool) (levels : ℕ) (below : blocks.Nest) (b : FreeNest below) where
  free-cased : (cs : CaseList) → Free (Then (Then (One (is t.CASE)) (λ s. Pure s.at)) (λ r. Then (blocks.CaseRest below.block cs) below.cases))
  free-cased cs = free-then (free-mark t.CASE refl) (λ r. free-then (free-case_rest below.block b.block_is cs) b.cases_is)

  module _ (A : R Cases) (a : Free A) where
    free-switch : Free (blocks.Switch s levels below A)
    unfolding blocks.Switch
    free-switch =
        free-then (free-mark t.SWITCH refl) (λ at. free-then (free-expr s levels) (λ value. free-then (free-mark t.COLON refl) (λ r. free-then free-line (λ r.
        free-then (free-mark t.BLOCK_IN refl) (λ r. free-then (free-or (free-cased none) a) (λ cs. free-pure _))))))

    free-statement : Free (blocks.Statement s levels below A)
    unfolding blocks.Statement
    free-statement =
        free-or free-switch
        (free-or (free-named_stmt s levels)
        (free-or (free-return_stmt s levels)
        (free-or (free-assert_stmt s levels)
        (free-or free-word_stmt
        (free-or (free-if s levels below.block b.block_is below.branch b.branch_is)
        (free-or (free-while s levels below.block b.block_is)
        (free-or (free-do s levels below.block b.block_is)
        (free-or (free-for s levels below.block b.block_is)
        (free-unless (is t.NAME) (free-declare_stmt s levels))))))))))

    free-piece : (ss : Stmts) → Free (blocks.Piece s levels below A ss)
    free-piece ss = free-then free-statement (λ st. free-pure _)

    free-block_of : Free (blocks.BlockOf s levels below A)
    unfolding blocks.BlockOf
    free-block_of =
        free-then free-line (λ r. free-then (free-mark t.BLOCK_IN refl) (λ r. free-then (free-piece none) (λ ss.
        free-then (free-loop ss free-piece) (λ all. free-then (free-mark t.BLOCK_OUT refl) (λ r. free-pure _)))))

  free-block : (w : ℕ) → Free (blocks.Block s levels below w)
  unfolding blocks.Block
  free-block zero = free-block_of (Refused (is t.DEFAULT) Deep) (free-refused (is t.DEFAULT) Deep)
  free-block (suc w) = free-block_of (blocks.Default (blocks.Block s levels below w) none) (free-default (blocks.Block s levels below w) (free-block w) none)

free-shut : Free blocks.ShutBlock
unfolding blocks.ShutBlock
free-shut = free-then free-line (λ r. free-then (free-mark t.BLOCK_IN refl) (λ r. free-refused (has class.Statement) Deep))

free-nest : (s : Bool) (levels : ℕ) → FreeNest (blocks.nest s levels)
unfolding blocks.nest
free-nest s zero = record {
  block_is = free-shut;
  branch_is = free-refused (is t.IF) Deep;
  cases_is = λ cs. free-or (free-refused (is t.CASE) Deep) (free-or (free-default blocks.ShutBlock free-shut cs) (free-last_out cs));
}
free-nest s (suc d) =
    let below = free-nest s d in
    let block = free-block s (suc d) (blocks.nest s d) below blocks.width in
    record {
      block_is = block;
      branch_is = free-if s (suc d) (blocks.nest s d).block below.block_is (blocks.nest s d).branch below.branch_is;
      cases_is = λ cs. free-or (free-cased s (suc d) (blocks.nest s d) below cs) (free-or (free-default (blocks.Block s (suc d) (blocks.nest s d) blocks.width) block cs) (free-last_out cs));
    }

-- ---- declarations

module _ (levels : ℕ) where
  free-inner_type : Free (decls.InnerType levels)
  free-inner_type =
      free-then (free-type (inside levels)) (λ ty.
      free-or (free-then free-name (λ w. free-then (free-mark t.CLOSE_PAREN refl) (λ r. free-pure _)))
      (free-then (free-mark t.CLOSE_PAREN refl) (λ r. free-then (free-type_rest levels ty) (λ whole. free-pure _))))

  free-named_type : Free (decls.NamedType levels)
  unfolding decls.NamedType
  free-named_type =
      free-or (free-then (free-mark t.OPEN_PAREN refl) (λ r. free-inner_type)) (free-then (free-unless (is t.OPEN_PAREN) (free-type levels)) (λ ty. free-pure _))

  free-method_result : Free (decls.MethodResult levels)
  unfolding decls.MethodResult
  free-method_result =
      free-or (free-then (free-mark t.ARROW refl) (λ r.
      free-or (free-then (free-mark t.OPEN_PAREN refl) (λ r. free-or (free-then (free-mark t.CLOSE_PAREN refl) (λ r. free-pure _)) (free-then free-inner_type (λ p. free-pure _))))
      (free-then (free-unless (is t.OPEN_PAREN) (free-type levels)) (λ ty. free-pure _))))
      (free-pure _)

  free-one_param : (ps : Params) → Free (decls.OneParam levels ps)
  free-one_param ps = free-then (free-type (inside levels)) (λ ty. free-then free-name (λ w. free-pure _))

  free-parameters : Free (decls.Parameters levels)
  unfolding decls.Parameters
  free-parameters =
      free-then (free-mark t.OPEN_PAREN refl) (λ r. free-then
      (free-or (free-then (free-one_param none) (λ ps. free-loop ps (λ more. free-then (free-mark t.COMMA refl) (λ r. free-one_param more)))) (free-pure none))
      (λ ps. free-then (free-mark t.CLOSE_PAREN refl) (λ r. free-pure _)))

module _ (s : Bool) (levels : ℕ) where
  free-alias_clauses : (variable : Option (List ℕ)) → Free (decls.AliasClauses s levels variable)
  free-alias_clauses None = free-pure none
  free-alias_clauses (Some variable) = free-then (free-where s levels none) (λ es. free-wheres s levels es)

  free-alias : Free (decls.AliasDecl s levels)
  unfolding decls.AliasDecl
  free-alias =
      free-then (free-mark t.TYPE refl) (λ at. free-then free-name (λ w. free-then (free-mark t.IS refl) (λ r. free-then (free-named_type levels) (λ p.
      free-then (free-alias_clauses p.1) (λ es. free-then free-line (λ r. free-pure _))))))

  free-property : Free (decls.PropertyDecl s levels)
  unfolding decls.PropertyDecl
  free-property =
      free-then (free-mark t.PROPERTY refl) (λ at. free-then free-name (λ w. free-then (free-parameters levels) (λ ps. free-then (free-where s levels none) (λ es.
      free-then (free-wheres s levels es) (λ all. free-then free-line (λ r. free-pure _))))))

  free-contract : Free (decls.ContractOf s levels)
  unfolding decls.ContractOf
  free-contract =
      free-loop (none, none) (λ c.
      free-or (free-then (free-mark t.REQUIRES refl) (λ r. free-then (free-expr s levels) (λ a. free-pure _)))
      (free-then (free-mark t.ENSURES refl) (λ r. free-then (free-expr s levels) (λ a. free-pure _))))

  module _ (B : R Stmts) (b : Free B) where
    free-function : Free (decls.FunctionDecl s levels B)
    unfolding decls.FunctionDecl
    free-function =
        free-then (free-mark t.FUNCTION refl) (λ at. free-then free-name (λ w. free-then (free-parameters levels) (λ ps. free-then (free-mark t.ARROW refl) (λ r.
        free-then (free-named_type levels) (λ p. free-then free-contract (λ c. free-then (free-mark t.COLON refl) (λ r. free-then b (λ body. free-pure _))))))))

    free-method : Free (decls.MethodDecl s levels B)
    unfolding decls.MethodDecl
    free-method =
        free-then (free-mark t.METHOD refl) (λ at. free-then free-name (λ w. free-then (free-parameters levels) (λ ps. free-then (free-method_result levels) (λ p.
        free-then free-contract (λ c. free-then (free-mark t.COLON refl) (λ r. free-then b (λ body. free-pure _)))))))

    free-declaration : Free (decls.Declaration s levels B)
    unfolding decls.Declaration
    free-declaration = free-or free-alias (free-or free-function (free-or free-method free-property))

free-capped : (b : Bool) (rule : R D) → Free rule → Free (decls.Capped b rule)
free-capped true rule x = x
free-capped false rule x = free-refused (has class.Declaration) TooMany

free-import : (ms : List (List ℕ × ℕ)) → Free (decls.Import ms)
free-import ms = free-then (free-mark t.IMPORT refl) (λ r. free-then free-name (λ w. free-then free-line (λ r. free-pure _)))

-- the imports, and the declarations
pub free-imports : Free (Loop decls.Import [])
free-imports = free-loop [] free-import

pub free-decls : (s : Bool) (levels : ℕ) → Free (Loop (decls.NextDecl s (decls.Declaration s levels (blocks.nest s (inside levels)).block)) (none, 0))
free-decls s levels =
    free-loop (none, 0) (λ c.
    free-then (free-capped _ _ (free-declaration s levels (blocks.nest s (inside levels)).block (free-nest s (inside levels)).block_is)) (λ d. free-pure _))
