-- Likewise of statements, blocks, declarations and programs: a line for each reader.
use Rattle.std.proofs.Common.{◌≤◌, ◌+◌, ℕ, zero, suc, Bool, true, false, List, [], ◌∷◌, Option, Some, None, refl, arith}
use Rattle.wy_reading.specs.Rule.{lax}
use Rattle.wy_reading.specs.Reader.{◌>>=◌, refuse, refused}
use Rattle.wy_ast.specs.declared.expressions.Expr.{Expr}
use Rattle.wy_parse_grammar.specs.declared.fault.Kind.TheVariants.{Deep, TooMany}
use Rattle.wy_parse_grammar.specs.declared.sort.Class.TheVariants as class
use Rattle.wy_parse_grammar.specs.Sorts as t
use Rattle.wy_parse_grammar.specs.Sorts.{is, has, members}
use Rattle.wy_parse_grammar.specs.Steps.{Q, mark, inside}
use Rattle.wy_parse_grammar.specs.Trees as trees
use Rattle.wy_parse_grammar.specs.Trees.{none}
use Rattle.wy_parse_grammar.specs.TypeGrammar.{T}
use Rattle.wy_parse_grammar.specs.ExprGrammar.{Args, touches}
use Rattle.wy_parse_grammar.specs.ExprGrammar as expr_rules
use Rattle.wy_parse_grammar.specs.ExprReading as exprs
use Rattle.wy_parse_grammar.specs.ExprReading.{readers}
use Rattle.wy_parse_grammar.specs.LabelReading as labels
use Rattle.wy_parse.specs.StmtTrees.{Stmts, Cases, Path}
use Rattle.wy_parse.specs.StmtReading as stmts
use Rattle.wy_parse.specs.BlockGrammar.{CaseList, width}
use Rattle.wy_parse.specs.BlockReading as blocks
use Rattle.wy_parse.specs.BlockReading.{nested, Nested}
use Rattle.wy_parse.specs.DeclTrees.{Params, Contract}
use Rattle.wy_parse.specs.ProgramReading as decls
use Rattle.wy_parse.specs.ProgramGrammar.{has_place}
use Rattle.wy_parse.proofs.NestLevels.{nested_block-exact, nested_branch-exact, nested_cases-exact}
use Rattle.wy_parse_grammar.proofs.LooserLemmas.{Goes, Takes, goes-then, goes-pure, goes-token, goes-mark, goes-name, goes-branch, goes-while, goes-unless, goes-refused, goes-none, goes-less, goes-after, goes-shut, goes-inner, goes-placed, Starts, starts, starts-name, starts-here, takes-fewer, takes-unless, takes-placed, takes-alone, goes-finish, takes-is, takes-class, takes-one, takes-then, exact-within}
use Rattle.wy_parse_grammar.proofs.LooserReaders.{go-type, go-type_rest, go-type_tail, go-expr, go-sum_in, go-args, type-takes, lax_mode}

inside-more : (k d e : ℕ) → suc k + d ≤ e → k + inside d ≤ inside e
inside-more k d zero h = absurd (omega (arith, h))
inside-more k zero (suc e) h = omega (arith, h)
inside-more k (suc d) (suc e) h = omega (arith, h)

module _ (most : ℕ) (s : Bool) (d e : ℕ) (h : 4 + d ≤ e) where
  deep : 3 + d ≤ e
  deep = omega (arith, h)

  deeper : 3 + inside d ≤ inside e
  deeper = inside-more 3 d e h

  some_inside : 1 ≤ inside e
  some_inside = omega (arith, deeper)

  go-line : Goes most (mark t.LINE_END) (mark t.LINE_END)
  go-line = goes-mark t.LINE_END

  go-return_stmt : Starts most t.RETURN (stmts.return_stmt s d) (stmts.return_stmt false e)
  unfolding stmts.return_stmt
  go-return_stmt =
      starts t.RETURN (λ at.
      goes-branch (is t.LINE_END) (goes-then go-line (λ r. goes-pure _)) (goes-then (go-expr most s d e deep) (λ a. goes-then go-line (λ r. goes-pure _))))

  go-assert_stmt : Starts most t.ASSERT (stmts.assert_stmt s d) (stmts.assert_stmt false e)
  unfolding stmts.assert_stmt
  go-assert_stmt = starts t.ASSERT (λ at. goes-then (go-expr most s d e deep) (λ a. goes-then go-line (λ r. goes-pure _)))

  go-declared : (at : ℕ) (ty : T) → Goes most (stmts.declared s d at ty) (stmts.declared false e at ty)
  unfolding stmts.declared
  go-declared at ty =
      goes-then goes-name (λ n.
      goes-branch (is t.ASSIGN) (goes-then (goes-mark t.ASSIGN) (λ r. goes-then (go-expr most s d e deep) (λ a. goes-then go-line (λ r. goes-pure _))))
      (goes-then go-line (λ r. goes-pure _)))

  go-declare_stmt : Goes most (stmts.declare_stmt s d) (stmts.declare_stmt false e)
  unfolding stmts.declare_stmt
  go-declare_stmt = goes-then (goes-placed (go-type most d e deep)) (λ p. go-declared p.0 p.1)

  go-call_stmt : (at : ℕ) (n : List ℕ) → Goes most (stmts.call_stmt s d at n) (stmts.call_stmt false e at n)
  unfolding stmts.call_stmt
  go-call_stmt at n =
      goes-then (goes-mark t.OPEN_PAREN) (λ r. goes-then (go-args most s (inside d) (inside e) deeper) (λ es. goes-then (goes-inner (inside d) (inside e) t.CLOSE_PAREN some_inside) (λ r.
      goes-then go-line (λ r. goes-pure _))))

  go-field_step : (p : Path) → Goes most (stmts.field_step p) (stmts.field_step p)
  unfolding stmts.field_step
  go-field_step p = goes-then (goes-mark t.DOT) (λ at. goes-then goes-name (λ n. goes-pure _))

  go-step : (p : Path) → Goes most (stmts.step s d p) (stmts.step false e p)
  unfolding stmts.step
  go-step p =
      goes-branch (is t.OPEN_BRACKET) (goes-then (goes-mark t.OPEN_BRACKET) (λ at. goes-then (go-expr most s (inside d) (inside e) deeper) (λ i. goes-then (goes-mark t.CLOSE_BRACKET) (λ r. goes-pure _))))
      (go-field_step p)

  go-valued : (at : ℕ) (n : List ℕ) (p : Path) → Goes most (stmts.valued s d at n p) (stmts.valued false e at n p)
  unfolding stmts.valued
  go-valued at n p = goes-then (goes-mark t.ASSIGN) (λ r. goes-then (go-expr most s d e deep) (λ a. goes-then go-line (λ r. goes-pure _)))

  go-assigned : (at : ℕ) (n : List ℕ) (p : Path) → Goes most (stmts.assigned s d at n p) (stmts.assigned false e at n p)
  unfolding stmts.assigned stmts.steps
  go-assigned at n p = goes-then (goes-while (has class.Step) p go-step) (λ q. go-valued at n q)

  go-bracket_stmt : (at : ℕ) (n : List ℕ) → Goes most (stmts.bracket_stmt s d at n) (stmts.bracket_stmt false e at n)
  unfolding stmts.bracket_stmt stmts.array_stmt stmts.index_stmt
  go-bracket_stmt at n =
      goes-then (goes-mark t.OPEN_BRACKET) (λ b.
      goes-branch (is t.CLOSE_BRACKET)
      (goes-then (goes-inner (inside d) (inside e) t.CLOSE_BRACKET some_inside) (λ r. goes-then (go-type_rest most d e deep _) (λ ty. go-declared at ty)))
      (goes-then (go-expr most s (inside d) (inside e) deeper) (λ i. goes-then (goes-mark t.CLOSE_BRACKET) (λ r. go-assigned at n _))))

  go-named_stmt : Starts most t.NAME (stmts.named_stmt s d) (stmts.named_stmt false e)
  unfolding stmts.named_stmt stmts.named_rest stmts.path_stmt
  go-named_stmt =
      starts-name (λ w.
      goes-branch (is t.OPEN_PAREN) (go-call_stmt w.0 w.1)
      (goes-branch (is t.OPEN_BRACKET) (go-bracket_stmt w.0 w.1)
      (goes-branch (has class.TypeGoesOn) (goes-then (go-type_tail most d e deep (trees.named_ty w.0 w.1)) (λ ty. go-declared w.0 ty))
      (goes-branch (is t.DOT) (goes-then (go-field_step none) (λ p. go-assigned w.0 w.1 p))
      (go-valued w.0 w.1 none)))))

  go-where : (es : Args) → Goes most (stmts.where_clause s d es) (stmts.where_clause false e es)
  go-where es = goes-then (goes-mark t.WHERE) (λ r. goes-then (go-expr most s d e deep) (λ a. goes-pure _))

  go-wheres : (es : Args) → Goes most (stmts.wheres s d es) (stmts.wheres false e es)
  unfolding stmts.wheres
  go-wheres es = goes-while (is t.WHERE) es go-where

  go-word : Goes most stmts.word stmts.word
  unfolding stmts.word
  go-word = goes-token (has class.Word) _

  go-word_stmt : Goes most stmts.word_stmt stmts.word_stmt
  unfolding stmts.word_stmt
  go-word_stmt = goes-then go-word (λ st. goes-then go-line (λ r. goes-pure st))

module _ (most : ℕ) where
  go-negative : (at : ℕ) → Goes most (labels.negative at) (labels.negative at)
  unfolding labels.negative exprs.glued labels.opposed
  go-negative at = goes-branch (touches at) (goes-token (touches at) (λ s. expr_rules.opposite s.kind)) (goes-unless (touches at) (goes-token (is t.NUMERAL) (λ s. expr_rules.opposite s.kind)))

  go-label : (ls : List Expr) → Goes most (labels.label ls) (labels.label ls)
  unfolding labels.label labels.label_word
  go-label ls =
      goes-branch (is t.MINUS) (goes-then (goes-mark t.MINUS) (λ at. goes-then (go-negative at) (λ n. goes-pure _)))
      (goes-then (goes-token (has class.LabelWord) (λ s. record { at = s.at; kind = expr_rules.literal_kind s.kind })) (λ l. goes-pure _))

  go-labels : Goes most labels.labels labels.labels
  unfolding labels.labels
  go-labels = goes-then (go-label []) (λ ls. goes-while (is t.COMMA) ls (λ ks. goes-then (goes-mark t.COMMA) (λ r. go-label ks)))

  -- behind 'case', and a default
  go-case_rest : (b c : Q Stmts) → Goes most b c → (cs : CaseList) → Goes most (blocks.case_rest b cs) (blocks.case_rest c cs)
  unfolding blocks.case_rest
  go-case_rest b c x cs = goes-then go-labels (λ ls. goes-then (goes-mark t.COLON) (λ r. goes-then x (λ body. goes-pure _)))

  go-default : (b c : Q Stmts) → Goes most b c → (cs : CaseList) → Goes (suc most) (blocks.default b cs) (blocks.default c cs)
  unfolding blocks.default
  go-default b c x cs = goes-after t.DEFAULT (λ r. goes-then (goes-mark t.COLON) (λ r. goes-then x (λ body. goes-then (goes-mark t.BLOCK_OUT) (λ r. goes-pure _))))

  go-last_out : (cs : CaseList) → Goes most (blocks.last_out cs) (blocks.last_out cs)
  unfolding blocks.last_out
  go-last_out cs = goes-then (goes-mark t.BLOCK_OUT) (λ r. goes-pure _)

-- what stands on the level inside, in both
record GoNest (most : ℕ) (b c : Nested) : Type 0 where
  pub block_is : Goes most b.block c.block
  pub branch_is : Goes most b.branch c.branch
  pub cases_is : (cs : CaseList) → Goes most (b.cases cs) (c.cases cs)

module _ (most : ℕ) (s : Bool) (d e : ℕ) (h : 4 + d ≤ e) (b c : Nested) (x : GoNest most b c) where
  go-while : Starts most t.WHILE (blocks.while_stmt s d b.block) (blocks.while_stmt false e c.block)
  unfolding blocks.while_stmt blocks.while_rest
  go-while =
      starts t.WHILE (λ at. goes-then (go-expr most s d e (deep most s d e h)) (λ test. goes-then (go-wheres most s d e h none) (λ es.
      goes-then (goes-mark t.COLON) (λ r. goes-then x.block_is (λ body. goes-pure _)))))

  go-do : Starts most t.DO (blocks.do_stmt s d b.block) (blocks.do_stmt false e c.block)
  unfolding blocks.do_stmt blocks.do_rest
  go-do =
      starts t.DO (λ at. goes-then (goes-mark t.COLON) (λ r. goes-then x.block_is (λ body. goes-then (goes-mark t.WHILE) (λ r.
      goes-then (go-expr most s d e (deep most s d e h)) (λ test. goes-then (go-wheres most s d e h none) (λ es. goes-then (goes-mark t.LINE_END) (λ r. goes-pure _)))))))

  go-for : Starts most t.FOR (blocks.for_stmt s d b.block) (blocks.for_stmt false e c.block)
  unfolding blocks.for_stmt blocks.for_range blocks.for_rest
  go-for =
      starts t.FOR (λ at. goes-then goes-name (λ w. goes-then (goes-mark t.IN) (λ r. goes-then (go-sum_in most s d e (deep most s d e h)) (λ low.
      goes-then (goes-mark t.RANGE) (λ r. goes-then (go-sum_in most s d e (deep most s d e h)) (λ high. goes-then (go-wheres most s d e h none) (λ es.
      goes-then (goes-mark t.COLON) (λ r. goes-then x.block_is (λ body. goes-pure _)))))))))

  go-if : Starts most t.IF (blocks.if_stmt s d b.block b.branch) (blocks.if_stmt false e c.block c.branch)
  unfolding blocks.if_stmt blocks.if_rest blocks.otherwise
  go-if =
      starts t.IF (λ at. goes-then (go-expr most s d e (deep most s d e h)) (λ test. goes-then (goes-mark t.COLON) (λ r. goes-then x.block_is (λ first.
      goes-then (goes-branch (is t.ELSE)
      (goes-then (goes-mark t.ELSE) (λ r. goes-branch (is t.COLON) (goes-then (goes-mark t.COLON) (λ r. x.block_is)) (goes-then x.branch_is (λ st. goes-pure _))))
      (goes-pure none))
      (λ second. goes-pure _)))))

  go-cased : (cs : CaseList) → Starts most t.CASE (mark t.CASE >>= (λ r. blocks.case_rest b.block cs >>= b.cases)) (mark t.CASE >>= (λ r. blocks.case_rest c.block cs >>= c.cases))
  go-cased cs = starts t.CASE (λ r. goes-then (go-case_rest most b.block c.block x.block_is cs) x.cases_is)

  module _ (p q : Q Cases) (y : Goes most p q) where
    go-switch : Starts most t.SWITCH (blocks.switch s d b p) (blocks.switch false e c q)
    unfolding blocks.switch
    go-switch =
        starts t.SWITCH (λ at. goes-then (go-expr most s d e (deep most s d e h)) (λ value. goes-then (goes-mark t.COLON) (λ r. goes-then (goes-mark t.LINE_END) (λ r.
        goes-then (goes-mark t.BLOCK_IN) (λ r. goes-then (goes-branch (is t.CASE) (go-cased none).goes y) (λ cs. goes-pure _))))))

    go-statement : Goes most (blocks.statement s d b p) (blocks.statement false e c q)
    unfolding blocks.statement
    go-statement =
        goes-branch (is t.SWITCH) go-switch.goes
        (goes-branch (is t.NAME) (go-named_stmt most s d e h).goes
        (goes-branch (is t.RETURN) (go-return_stmt most s d e h).goes
        (goes-branch (is t.ASSERT) (go-assert_stmt most s d e h).goes
        (goes-branch (has class.Word) (go-word_stmt most s d e h)
        (goes-branch (is t.IF) go-if.goes
        (goes-branch (is t.WHILE) go-while.goes
        (goes-branch (is t.DO) go-do.goes
        (goes-branch (is t.FOR) go-for.goes
        (goes-unless (is t.NAME) (go-declare_stmt most s d e h))))))))))

    take-word : Takes (members class.Word) stmts.word_stmt
    unfolding stmts.word_stmt stmts.word
    take-word = takes-then (takes-then (takes-one (members class.Word)) (λ r. (goes-pure {most = 0} _).within)) (λ st. (goes-then (goes-mark {most = 0} t.LINE_END) (λ r. goes-pure st)).within)

    abbrev types_on : List ℕ
    types_on = t.NOT ∷ t.NULL ∷ t.BOOL ∷ t.INT ∷ t.ANY ∷ t.VOID ∷ t.OPEN_PAREN ∷ t.OPEN_BRACE ∷ []

    abbrev for_on : List ℕ
    for_on = t.FOR ∷ types_on

    abbrev do_on : List ℕ
    do_on = t.DO ∷ for_on

    abbrev while_on : List ℕ
    while_on = t.WHILE ∷ do_on

    abbrev if_on : List ℕ
    if_on = t.IF ∷ while_on

    abbrev words_on : List ℕ
    words_on = t.BREAK ∷ t.CONTINUE ∷ t.SKIP ∷ t.FAIL ∷ if_on

    abbrev assert_on : List ℕ
    assert_on = t.ASSERT ∷ words_on

    abbrev return_on : List ℕ
    return_on = t.RETURN ∷ assert_on

    abbrev name_on : List ℕ
    name_on = t.NAME ∷ return_on

    take-declare : Takes (members class.Type) (stmts.declare_stmt false e)
    unfolding stmts.declare_stmt
    take-declare = takes-then (takes-placed (type-takes e (omega (arith, h)))) (λ p. (go-declared most s d e h p.0 p.1).within)

    take-statement : Takes (members class.Statement) (blocks.statement false e c q)
    unfolding blocks.statement
    take-statement =
        takes-is t.SWITCH (members class.Statement) name_on refl go-switch.takes
        (takes-is t.NAME name_on return_on refl (go-named_stmt most s d e h).takes
        (takes-is t.RETURN return_on assert_on refl (go-return_stmt most s d e h).takes
        (takes-is t.ASSERT assert_on words_on refl (go-assert_stmt most s d e h).takes
        (takes-class (members class.Word) words_on if_on refl take-word
        (takes-is t.IF if_on while_on refl go-if.takes
        (takes-is t.WHILE while_on do_on refl go-while.takes
        (takes-is t.DO do_on for_on refl go-do.takes
        (takes-is t.FOR for_on types_on refl go-for.takes
        (takes-unless t.NAME types_on refl (takes-fewer types_on (members class.Type) refl take-declare))))))))))

    go-piece : (ss : Stmts) → Goes most (blocks.piece s d b p ss) (blocks.piece false e c q ss)
    go-piece ss = goes-then go-statement (λ st. goes-pure _)

    go-rest : (ss : Stmts) → Goes most (blocks.rest s d b p ss) (blocks.rest false e c q ss)
    unfolding blocks.rest
    go-rest ss = goes-then (goes-while (has class.Statement) ss go-piece) (λ all. goes-then (goes-mark t.BLOCK_OUT) (λ r. goes-pure all))

    go-block_of : Goes most (blocks.block_of s d b p) (blocks.block_of false e c q)
    unfolding blocks.block_of
    go-block_of = goes-then (goes-mark t.LINE_END) (λ r. goes-then (goes-mark t.BLOCK_IN) (λ r. goes-then (go-piece none) go-rest))

    -- what is shut on the one side is read on the other
    go-shut_block : Goes most blocks.shut_block (blocks.block_of false e c q)
    unfolding blocks.shut_block blocks.block_of
    go-shut_block =
        goes-then (goes-mark t.LINE_END) (λ r. goes-then (goes-mark t.BLOCK_IN) (λ r.
        goes-refused (has class.Statement) Deep (takes-then (takes-then take-statement (λ st. (goes-pure {most = 0} _).within)) (λ ss. (go-rest ss).within)).first
        (goes-then (go-piece none) go-rest).within))

-- ---- levels

abbrev nowhere : Nested
nowhere = record { block = refuse; branch = refuse; cases = λ cs. refuse }

-- beside what reads nothing
go-nowhere : (most e : ℕ) → GoNest most nowhere (nested false e)
go-nowhere most e = record {
  block_is = goes-none (exact-within (nested_block-exact (lax_mode e)));
  branch_is = goes-none (exact-within (nested_branch-exact (lax_mode e)));
  cases_is = λ cs. goes-none (exact-within (nested_cases-exact (lax_mode e) cs));
}

go-shut : (most e : ℕ) → 4 ≤ suc e → (w : ℕ) → Goes most blocks.shut_block (blocks.block false (suc e) (nested false e) w)
unfolding blocks.block
go-shut most e h zero =
    go-shut_block most false 0 (suc e) h nowhere (nested false e) (go-nowhere most e) refuse (refused (is t.DEFAULT) Deep) (goes-none (goes-shut (is t.DEFAULT) Deep).within)
go-shut most e h (suc w) =
    let below = (go-shut most e h w).within in
    go-shut_block most false 0 (suc e) h nowhere (nested false e) (go-nowhere most e) refuse (blocks.default (blocks.block false (suc e) (nested false e) w) none)
    (goes-none (go-default 0 refuse (blocks.block false (suc e) (nested false e) w) (goes-none below) none).within)

go-block : (s : Bool) (d e : ℕ) → 4 + d ≤ e → (b c : Nested) → ((most : ℕ) → most ≤ width → GoNest most b c) → (w : ℕ) → w ≤ width → Goes w (blocks.block s d b w) (blocks.block false e c w)
unfolding blocks.block
go-block s d e h b c x zero le = go-block_of 0 s d e h b c (x 0 (omega arith)) (refused (is t.DEFAULT) Deep) (refused (is t.DEFAULT) Deep) (goes-shut (is t.DEFAULT) Deep)
go-block s d e h b c x (suc w) le =
    go-block_of (suc w) s d e h b c (x (suc w) le) (blocks.default (blocks.block s d b w) none) (blocks.default (blocks.block false e c w) none)
    (go-default w (blocks.block s d b w) (blocks.block false e c w) (go-block s d e h b c x w (omega (arith, le))) none)

go-nest : (s : Bool) (d e : ℕ) → 4 + d ≤ e → (most : ℕ) → most ≤ width → GoNest most (nested s d) (nested false e)
unfolding nested
go-nest s d zero h most le = absurd (omega (arith, h))
go-nest s zero (suc e) h most le =
    let shut = go-shut most e (omega (arith, h)) width in
    record {
      block_is = shut;
      branch_is = starts-here t.IF Deep (go-if most false 0 (suc e) (omega (arith, h)) nowhere (nested false e) (go-nowhere most e));
      cases_is = λ cs.
          goes-branch (is t.CASE) (starts-here t.CASE Deep (go-cased most false 0 (suc e) (omega (arith, h)) nowhere (nested false e) (go-nowhere most e) cs))
          (goes-branch (is t.DEFAULT) (goes-less (go-default most blocks.shut_block (blocks.block false (suc e) (nested false e) width) shut cs) (omega arith)) (go-last_out most cs));
    }
go-nest s (suc d) (suc e) h most le =
    let x = λ (m : ℕ) (l : m ≤ width). go-nest s d e (omega (arith, h)) m l in
    let block = goes-less (go-block s (suc d) (suc e) h (nested s d) (nested false e) x width (omega arith)) le in
    record {
      block_is = block;
      branch_is = (go-if most s (suc d) (suc e) h (nested s d) (nested false e) (x most le)).goes;
      cases_is = λ cs.
          goes-branch (is t.CASE) (go-cased most s (suc d) (suc e) h (nested s d) (nested false e) (x most le) cs).goes
          (goes-branch (is t.DEFAULT) (goes-less (go-default most (blocks.block s (suc d) (nested s d) width) (blocks.block false (suc e) (nested false e) width) block cs) (omega arith)) (go-last_out most cs));
    }

-- ---- declarations

module _ (most : ℕ) (le : most ≤ width) (s : Bool) (d e : ℕ) (h : 5 + d ≤ e) where
  room : 4 + d ≤ e
  room = omega (arith, h)

  plain : 3 + d ≤ e
  plain = omega (arith, h)

  within_room : 3 + inside d ≤ inside e
  within_room = inside-more 3 d e room

  go-inner_type : Goes most (decls.inner_type d) (decls.inner_type e)
  unfolding decls.inner_type
  go-inner_type =
      goes-then (go-type most (inside d) (inside e) within_room) (λ ty.
      goes-branch (is t.NAME) (goes-then goes-name (λ w. goes-then (goes-mark t.CLOSE_PAREN) (λ r. goes-pure _)))
      (goes-then (goes-mark t.CLOSE_PAREN) (λ r. goes-then (go-type_rest most d e plain ty) (λ whole. goes-pure _))))

  go-named_type : Goes most (decls.named_type d) (decls.named_type e)
  unfolding decls.named_type
  go-named_type =
      goes-branch (is t.OPEN_PAREN) (goes-then (goes-mark t.OPEN_PAREN) (λ r. go-inner_type)) (goes-then (goes-unless (is t.OPEN_PAREN) (go-type most d e plain)) (λ ty. goes-pure _))

  go-method_result : Goes most (decls.method_result d) (decls.method_result e)
  unfolding decls.method_result
  go-method_result =
      goes-branch (is t.ARROW) (goes-then (goes-mark t.ARROW) (λ r.
      goes-branch (is t.OPEN_PAREN) (goes-then (goes-mark t.OPEN_PAREN) (λ r.
      goes-branch (is t.CLOSE_PAREN) (goes-then (goes-mark t.CLOSE_PAREN) (λ r. goes-pure _)) (goes-then go-inner_type (λ p. goes-pure _))))
      (goes-then (goes-unless (is t.OPEN_PAREN) (go-type most d e plain)) (λ ty. goes-pure _))))
      (goes-pure _)

  go-one_param : (ps : Params) → Goes most (decls.one_param d ps) (decls.one_param e ps)
  unfolding decls.one_param
  go-one_param ps = goes-then (go-type most (inside d) (inside e) within_room) (λ ty. goes-then goes-name (λ w. goes-pure _))

  go-parameters : Goes most (decls.parameters d) (decls.parameters e)
  unfolding decls.parameters decls.param_row
  go-parameters =
      goes-then (goes-mark t.OPEN_PAREN) (λ r. goes-then
      (goes-branch (has class.Type) (goes-then (go-one_param none) (λ ps. goes-while (is t.COMMA) ps (λ qs. goes-then (goes-mark t.COMMA) (λ r. go-one_param qs)))) (goes-pure none))
      (λ ps. goes-then (goes-mark t.CLOSE_PAREN) (λ r. goes-pure ps)))

  go-alias_clauses : (variable : Option (List ℕ)) → Goes most (decls.alias_clauses s d variable) (decls.alias_clauses false e variable)
  unfolding decls.alias_clauses
  go-alias_clauses None = goes-pure none
  go-alias_clauses (Some variable) = goes-then (go-where most s d e room none) (λ es. go-wheres most s d e room es)

  go-alias : Starts most t.TYPE (decls.alias_decl s d) (decls.alias_decl false e)
  unfolding decls.alias_decl decls.alias_rest
  go-alias =
      starts t.TYPE (λ at. goes-then goes-name (λ w. goes-then (goes-mark t.IS) (λ r. goes-then go-named_type (λ p.
      goes-then (go-alias_clauses p.1) (λ es. goes-then (goes-mark t.LINE_END) (λ r. goes-pure _))))))

  go-property : Starts most t.PROPERTY (decls.property_decl s d) (decls.property_decl false e)
  unfolding decls.property_decl decls.property_rest
  go-property =
      starts t.PROPERTY (λ at. goes-then goes-name (λ w. goes-then go-parameters (λ ps. goes-then (go-where most s d e room none) (λ es.
      goes-then (go-wheres most s d e room es) (λ all. goes-then (goes-mark t.LINE_END) (λ r. goes-pure _))))))

  go-clause : (c : Contract) → Goes most (decls.clause s d c) (decls.clause false e c)
  unfolding decls.clause
  go-clause c =
      goes-branch (is t.REQUIRES) (goes-then (goes-mark t.REQUIRES) (λ r. goes-then (go-expr most s d e plain) (λ a. goes-pure _)))
      (goes-then (goes-mark t.ENSURES) (λ r. goes-then (go-expr most s d e plain) (λ a. goes-pure _)))

  go-contract : Goes most (decls.contract_of s d) (decls.contract_of false e)
  unfolding decls.contract_of
  go-contract = goes-while (has class.Clause) (none, none) go-clause

  abbrev body : Q Stmts
  body = (nested s (inside d)).block

  abbrev lax_body : Q Stmts
  lax_body = (nested false (inside e)).block

  go-body : Goes most body lax_body
  go-body = (go-nest s (inside d) (inside e) (inside-more 4 d e h) most le).block_is

  go-function : Starts most t.FUNCTION (decls.function_decl s d body) (decls.function_decl false e lax_body)
  unfolding decls.function_decl decls.function_rest decls.function_body
  go-function =
      starts t.FUNCTION (λ at. goes-then goes-name (λ w. goes-then go-parameters (λ ps. goes-then (goes-mark t.ARROW) (λ r.
      goes-then go-named_type (λ p. goes-then go-contract (λ c. goes-then (goes-mark t.COLON) (λ r. goes-then go-body (λ all. goes-pure _))))))))

  go-method : Starts most t.METHOD (decls.method_decl s d body) (decls.method_decl false e lax_body)
  unfolding decls.method_decl decls.method_rest decls.method_body
  go-method =
      starts t.METHOD (λ at. goes-then goes-name (λ w. goes-then go-parameters (λ ps. goes-then go-method_result (λ p.
      goes-then go-contract (λ c. goes-then (goes-mark t.COLON) (λ r. goes-then go-body (λ all. goes-pure _)))))))

  go-declaration : Goes most (decls.declaration s d body) (decls.declaration false e lax_body)
  unfolding decls.declaration
  go-declaration = goes-branch (is t.TYPE) go-alias.goes (goes-branch (is t.FUNCTION) go-function.goes (goes-branch (is t.METHOD) go-method.goes go-property.goes))

  take-declaration : Takes (members class.Declaration) (decls.declaration false e lax_body)
  unfolding decls.declaration
  take-declaration =
      takes-is t.TYPE (members class.Declaration) (t.FUNCTION ∷ t.METHOD ∷ t.PROPERTY ∷ []) refl go-alias.takes
      (takes-is t.FUNCTION (t.FUNCTION ∷ t.METHOD ∷ t.PROPERTY ∷ []) (t.METHOD ∷ t.PROPERTY ∷ []) refl go-function.takes
      (takes-is t.METHOD (t.METHOD ∷ t.PROPERTY ∷ []) (t.PROPERTY ∷ []) refl go-method.takes
      (takes-alone t.PROPERTY go-property.takes)))

  go-capped : (b : Bool) → Goes most (decls.capped b (decls.declaration s d body)) (decls.declaration false e lax_body)
  go-capped true = go-declaration
  go-capped false = goes-refused (has class.Declaration) TooMany take-declaration.first go-declaration.within

  go-decls : Goes most (decls.decls s d) (decls.decls false e)
  unfolding decls.decls
  go-decls = goes-while (has class.Declaration) (none, 0) (λ c. goes-then (go-capped (lax s has_place c.1)) (λ a. goes-pure _))

  go-imports : Goes most decls.imports decls.imports
  unfolding decls.imports
  go-imports = goes-while (is t.IMPORT) [] (λ ms. goes-then (goes-mark t.IMPORT) (λ r. goes-then goes-name (λ w. goes-then (goes-mark t.LINE_END) (λ r. goes-pure _))))

  go-program : Goes most (decls.program_in s d) (decls.program_in false e)
  unfolding decls.program_in
  go-program = goes-then go-imports (λ ms. goes-then go-decls (λ c. goes-then (goes-mark t.END) (λ r. goes-pure _)))

  pub go-text : Goes most (decls.text (record { depth = d; strict = s })) (decls.text (record { depth = e; strict = false }))
  unfolding decls.text
  go-text = goes-then go-program (λ a. goes-then goes-finish (λ r. goes-pure a))
