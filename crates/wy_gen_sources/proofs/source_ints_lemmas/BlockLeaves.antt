-- The blocks that are read: names of fields, numbers and codes of texts are what they should be.
use Rattle.std.proofs.Common.{◌≡◌, ◌==◌, ℕ, pos, negsuc, zero, suc, Bool, true, false, true≢false, cond, nat_le, List, [], ◌∷◌, ◌++◌, map, Option, Some, None, refl, sym, subst, rules}
use Rattle.wy_ast.specs.SurfaceTree as tree
use Rattle.std.specs.Option.{option_map}
use Rattle.wy_ast.specs.SurfaceSeen.{SeenCase, switch_of, stmt_kind_layer, case_layer, stmt_layer, seen_expr, seen_exprs, seen_stmt, seen_block}
use Rattle.wy_ast.specs.declared.expressions.Expr.{Expr}
use Rattle.wy_ast.specs.declared.expressions.ExprKind.TheVariants as e
use Rattle.wy_ast.specs.declared.statements.Stmt as s
use Rattle.wy_ast.specs.declared.statements.Stmt.{Stmt}
use Rattle.wy_ast.specs.declared.statements.StmtKind.TheVariants as stmt
use Rattle.wy_ast.specs.declared.statements.Case.{Case, roll-Case, fold-Case}
use Rattle.wy_reading.specs.Rule.{Refused, among}
use Rattle.wy_core.specs.formed.Literals.{IsInt}
use Rattle.wy_print_laws.specs.wy_lex.declared.token.TokenKind.{TokenKind}
use Rattle.wy_print_laws.specs.wy_lex.declared.token.TokenKind.TheVariants as k
use Rattle.wy_print_laws.specs.wy_parse_grammar.declared.measured.Measured.TheVariants.{Low}
use Rattle.wy_print_laws.specs.wy_parse_grammar.declared.fault.Kind.TheVariants.{Deep}
use Rattle.wy_print_laws.specs.wy_parse_grammar.declared.sort.Class.TheVariants as kinds
use Rattle.wy_print_laws.specs.wy_parse_grammar.Sorts as t
use Rattle.wy_print_laws.specs.wy_parse_grammar.Sorts.{has, is, sort}
use Rattle.wy_print_laws.specs.wy_parse_grammar.Steps.{R}
use Rattle.wy_print_laws.specs.wy_parse_grammar.Trees.{both, made, pushed, none, some}
use Rattle.wy_print_laws.specs.wy_parse_grammar.ExprGrammar.{E, literal_kind, touches, opposite}
use Rattle.wy_print_laws.specs.wy_parse_grammar.LabelGrammar.{Negative, LabelWord, Label, NextLabel, Labels}
use Rattle.wy_print_laws.specs.wy_parse.StmtTrees as trees
use Rattle.wy_print_laws.specs.wy_parse.StmtTrees.{S, Stmts, Cases}
use Rattle.wy_print_laws.specs.wy_parse.BlockGrammar.{CaseList, Otherwise, WhileStmt, DoStmt, ForStmt, IfStmt, CaseRest, Default, Nest, width, Switch, Statement, Piece, Rest, BlockOf, Block, ShutBlock, LastOut, nest}
use Rattle.wy_names.specs.resolved.SourceLiterals.{SourceClauses, SourceStmts, SourceCases}
use Rattle.wy_gen_sources.specs.source_ints.SourceFields.{FieldsClauses, FieldsStmts, FieldsCases}
use Rattle.wy_print_laws.proofs.round_lemmas.Gives.{Gives, gives-pure, gives-one, gives-then, gives-or, gives-loop, gives-refused, gives-unless, gives-mark, gives-name}
use Rattle.wy_gen_sources.proofs.source_ints_lemmas.LowLemmas.{OnLow, AllOf, all-more, low-both, low-made, low-pushed, crossed, crossed_three}
use Rattle.wy_gen_sources.proofs.source_ints_lemmas.ExprLeaves.{IsExpr, IsE, int-expr, literal-expr, opposite-int, gives-expr, gives-sum_in}
use Rattle.wy_gen_sources.proofs.source_ints_lemmas.StmtLeaves.{stmt_at, StmtLeavesOf, IsStmt, IsS, IsBlock, all-stmts, all-clauses, if-s, while-s, do-s, for-s, gives-word_stmt, gives-return, gives-assert, gives-declare, gives-named, gives-wheres, low-stmt}

-- ---- labels

-- a label is a literal, but for a text
a_literal : (kind : TokenKind) → among (t.members kinds.LabelWord) (sort kind) ≡ true → among (t.members kinds.Literal) (sort kind) ≡ true
a_literal (k.Numeral (pos n)) h = by (nat_le n 39614081257132168796771975167) (n == 39614081257132168796771975168) h
  where
    by : (a b : Bool) → among (t.members kinds.LabelWord) (cond a t.NUMERAL (cond b t.BEYOND t.NO_NUMERAL)) ≡ true → among (t.members kinds.Literal) (cond a t.NUMERAL (cond b t.BEYOND t.NO_NUMERAL)) ≡ true
    by true b g = refl
    by false true g = absurd (true≢false (sym g))
    by false false g = absurd (true≢false (sym g))
a_literal (k.Numeral (negsuc n)) h = absurd (true≢false (sym h))
a_literal k.Null h = refl
a_literal k.True h = refl
a_literal k.False h = refl
a_literal _ h = absurd (true≢false (sym h))

gives-label_word : Gives LabelWord IsExpr
gives-label_word = gives-then (gives-one (has kinds.LabelWord)) (λ w h. gives-pure (record { at = w.at; kind = literal_kind w.kind }) IsExpr (literal-expr w.at w.kind (a_literal w.kind h.0) h.1))

gives-negative : (at : ℕ) → Gives (Negative at) IsInt
gives-negative at =
    gives-or (gives-then (gives-one (touches at)) (λ w h. gives-pure (opposite w.kind) IsInt (opposite-int w.kind)))
    (gives-unless (touches at) (gives-then (gives-one (is t.NUMERAL)) (λ w h. gives-pure (opposite w.kind) IsInt (opposite-int w.kind))))

gives-label : (ls : List Expr) → AllOf IsExpr ls → Gives (Label ls) (AllOf IsExpr)
gives-label ls r =
    gives-or (gives-then (gives-mark t.MINUS) (λ at h. gives-then (gives-negative at) (λ n g. gives-pure (ls ++ (record { at = at; kind = e.Int n }) ∷ []) (AllOf IsExpr) (all-more IsExpr ls (record { at = at; kind = e.Int n }) r (int-expr at n g)))))
    (gives-then gives-label_word (λ l p. gives-pure (ls ++ l ∷ []) (AllOf IsExpr) (all-more IsExpr ls l r p)))

gives-next_label : (ls : List Expr) → AllOf IsExpr ls → Gives (NextLabel ls) (AllOf IsExpr)
gives-next_label ls r = gives-then (gives-mark t.COMMA) (λ at h. gives-label ls r)

gives-labels : Gives Labels (AllOf IsExpr)
unfolding Labels
gives-labels = gives-then (gives-label [] tt) (λ ls r. gives-loop gives-next_label ls r)

-- ---- switches

abbrev see : Case → SeenCase
see x = fold-Case (ℕ → tree.Stmt) SeenCase tree.Stmt stmt_kind_layer case_layer stmt_layer x

seen_rolled : (labels : List Expr) (body : List Stmt) → see (roll-Case (record { labels = labels; body = body })) ≡ (seen_exprs labels, seen_block body)
seen_rolled labels body = search (rules, s.the_lemmas)

seen_switch : (x : Stmt) (a : Expr) (cs : List Case) → x.kind ≡ stmt.Switch a cs None → seen_stmt x ≡ tree.SwitchStmt x.at (seen_expr a) (tree.cases_of (map see cs))
seen_switch x a cs same = search (rules, s.the_lemmas)

seen_switch_any : (x : Stmt) (a : Expr) (cs : List Case) (d : Option (List Stmt)) → x.kind ≡ stmt.Switch a cs d → seen_stmt x ≡ switch_of x.at (seen_expr a) (tree.cases_of (map see cs)) (option_map (map seen_stmt) d)
seen_switch_any x a cs d same = search (rules, s.the_lemmas)

seen_switch_else : (x : Stmt) (a : Expr) (cs : List Case) (ss : List Stmt) → x.kind ≡ stmt.Switch a cs (Some ss) → seen_stmt x ≡ tree.SwitchElseStmt x.at (seen_expr a) (tree.cases_of (map see cs)) (seen_block ss)
seen_switch_else x a cs ss same = seen_switch_any x a cs (Some ss) same

abbrev SeenIs : SeenCase → Type 0
SeenIs y = (SourceClauses y.0 × FieldsClauses y.0) × (SourceStmts y.1 × FieldsStmts y.1)

abbrev IsCase : Case → Type 0
IsCase x = SeenIs (see x)

abbrev AreCases : CaseList → Type 0
AreCases m = OnLow (AllOf IsCase) m

all-cases : (cs : List Case) → AllOf IsCase cs → SourceCases (tree.cases_of (map see cs)) × FieldsCases (tree.cases_of (map see cs))
all-cases [] h = (tt, tt)
all-cases (x ∷ cs) h = crossed_three h.0.0 h.0.1 (all-cases cs h.1)

abbrev IsDefault : Option (List Stmt) → Type 0
IsDefault None = Unit {0}
IsDefault (Some ss) = AllOf IsStmt ss

abbrev IsSwitch : List Case × Option (List Stmt) → Type 0
IsSwitch z = AllOf IsCase z.0 × IsDefault z.1

abbrev IsCases : Cases → Type 0
IsCases m = OnLow IsSwitch m

switch-one : (at : ℕ) (a : Expr) (cs : List Case) (d : Option (List Stmt)) → IsExpr a → AllOf IsCase cs → IsDefault d → IsStmt (stmt_at at (stmt.Switch a cs d))
switch-one at a cs None p q r = subst StmtLeavesOf (sym (seen_switch (stmt_at at (stmt.Switch a cs None)) a cs refl)) (crossed p (all-cases cs q))
switch-one at a cs (Some ss) p q r = subst StmtLeavesOf (sym (seen_switch_else (stmt_at at (stmt.Switch a cs (Some ss))) a cs ss refl)) (crossed_three p (all-cases cs q) (all-stmts ss r))

switch-s : (at : ℕ) (value : E) (cases : Cases) → IsE value → IsCases cases → IsS (trees.switch_node at value cases)
switch-s at value cases p q =
    low-stmt at (made (λ z. stmt.Switch z.0 z.1.0 z.1.1) (both value cases))
    (low-made (λ (z : Expr × (List Case × Option (List Stmt))). IsExpr z.0 × IsSwitch z.1) (λ k. IsStmt (stmt_at at k)) (λ z. stmt.Switch z.0 z.1.0 z.1.1) (both value cases) (λ z h. switch-one at z.0 z.1.0 z.1.1 h.0 h.1.0 h.1.1) (low-both IsExpr IsSwitch value cases p q))

case-c : (labels : List Expr) (body : Stmts) → AllOf IsExpr labels → IsBlock body → OnLow IsCase (trees.case_node labels body)
case-c labels body p q =
    low-made (AllOf IsStmt) IsCase (λ b. roll-Case (record { labels = labels; body = b })) body (λ b h. subst SeenIs (sym (seen_rolled labels b)) (all-clauses labels p, all-stmts b h)) q

-- ---- the rules

gives-otherwise : (B : R Stmts) (I : R S) → Gives B IsBlock → Gives I IsS → Gives (Otherwise B I) IsBlock
unfolding Otherwise
gives-otherwise B I block branch =
    gives-or (gives-then (gives-mark t.ELSE) (λ at h. gives-or (gives-then (gives-mark t.COLON) (λ r g. block)) (gives-then branch (λ st p. gives-pure (pushed none st) IsBlock (low-pushed IsStmt none st tt p)))))
    (gives-pure none IsBlock tt)

module _ (n : ℕ) (B : R Stmts) (block : Gives B IsBlock) where
  gives-while : Gives (WhileStmt true n B) IsS
  unfolding WhileStmt
  gives-while =
      gives-then (gives-mark t.WHILE) (λ at h. gives-then (gives-expr n) (λ x p. gives-then (gives-wheres n none tt) (λ es q. gives-then (gives-mark t.COLON) (λ r g. gives-then block (λ body b.
      gives-pure (trees.while_node at x es body) IsS (while-s at x es body p q b))))))

  gives-do : Gives (DoStmt true n B) IsS
  unfolding DoStmt
  gives-do =
      gives-then (gives-mark t.DO) (λ at h. gives-then (gives-mark t.COLON) (λ r g. gives-then block (λ body b. gives-then (gives-mark t.WHILE) (λ w f. gives-then (gives-expr n) (λ x p.
      gives-then (gives-wheres n none tt) (λ es q. gives-then (gives-mark t.LINE_END) (λ l k. gives-pure (trees.do_node at body x es) IsS (do-s at body x es b p q))))))))

  gives-for : Gives (ForStmt true n B) IsS
  unfolding ForStmt
  gives-for =
      gives-then (gives-mark t.FOR) (λ at h. gives-then gives-name (λ w v. gives-then (gives-mark t.IN) (λ i g. gives-then (gives-sum_in n) (λ x p. gives-then (gives-mark t.RANGE) (λ r f. gives-then (gives-sum_in n) (λ y q.
      gives-then (gives-wheres n none tt) (λ es o. gives-then (gives-mark t.COLON) (λ l k. gives-then block (λ body b.
      gives-pure (trees.for_node at w.1 (both x y) es body) IsS (for-s at w.1 x y es body p q o b))))))))))

  gives-if : (I : R S) → Gives I IsS → Gives (IfStmt true n B I) IsS
  unfolding IfStmt
  gives-if I branch =
      gives-then (gives-mark t.IF) (λ at h. gives-then (gives-expr n) (λ x p. gives-then (gives-mark t.COLON) (λ r g. gives-then block (λ first q. gives-then (gives-otherwise B I block branch) (λ second o.
      gives-pure (trees.if_node at x first second) IsS (if-s at x first second p q o))))))

gives-case_rest : (B : R Stmts) → Gives B IsBlock → (cs : CaseList) → AreCases cs → Gives (CaseRest B cs) AreCases
unfolding CaseRest
gives-case_rest B block cs r = gives-then gives-labels (λ ls p. gives-then (gives-mark t.COLON) (λ at h. gives-then block (λ body q. gives-pure (pushed cs (trees.case_node ls body)) AreCases (low-pushed IsCase cs (trees.case_node ls body) r (case-c ls body p q)))))

gives-default : (B : R Stmts) → Gives B IsBlock → (cs : CaseList) → AreCases cs → Gives (Default B cs) IsCases
unfolding Default
gives-default B block cs r =
    gives-then (gives-mark t.DEFAULT) (λ at h. gives-then (gives-mark t.COLON) (λ l g. gives-then block (λ body q. gives-then (gives-mark t.BLOCK_OUT) (λ o f.
    gives-pure (both cs (some body)) IsCases (low-both (AllOf IsCase) IsDefault cs (some body) r (low-made (AllOf IsStmt) IsDefault Some body (λ x k. k) q))))))

gives-last_out : (cs : CaseList) → AreCases cs → Gives (LastOut cs) IsCases
unfolding LastOut
gives-last_out cs r = gives-then (gives-mark t.BLOCK_OUT) (λ at h. gives-pure (both cs (Low None 0)) IsCases (low-both (AllOf IsCase) IsDefault cs (Low None 0) r tt))

pub record NestGives (below : Nest) : Type 0 where
  pub block : Gives below.block IsBlock
  pub branch : Gives below.branch IsS
  pub cases : (cs : CaseList) → AreCases cs → Gives (below.cases cs) IsCases

module _ (n : ℕ) (below : Nest) (inner : NestGives below) where
  module _ (A : R Cases) (alone : Gives A IsCases) where
    gives-switch : Gives (Switch true n below A) IsS
    unfolding Switch
    gives-switch =
        gives-then (gives-mark t.SWITCH) (λ at h. gives-then (gives-expr n) (λ x p. gives-then (gives-mark t.COLON) (λ l g. gives-then (gives-mark t.LINE_END) (λ r f. gives-then (gives-mark t.BLOCK_IN) (λ b d.
        gives-then (gives-or (gives-then (gives-mark t.CASE) (λ w k. gives-then (gives-case_rest below.block inner.block none tt) inner.cases)) alone) (λ cs q.
        gives-pure (trees.switch_node at x cs) IsS (switch-s at x cs p q)))))))

    gives-statement : Gives (Statement true n below A) IsS
    unfolding Statement
    gives-statement =
        gives-or gives-switch
        (gives-or (gives-named n)
        (gives-or (gives-return n)
        (gives-or (gives-assert n)
        (gives-or gives-word_stmt
        (gives-or (gives-if n below.block inner.block below.branch inner.branch)
        (gives-or (gives-while n below.block inner.block)
        (gives-or (gives-do n below.block inner.block)
        (gives-or (gives-for n below.block inner.block)
        (gives-unless (is t.NAME) (gives-declare n))))))))))

    gives-piece : (ss : Stmts) → IsBlock ss → Gives (Piece true n below A ss) IsBlock
    gives-piece ss r = gives-then gives-statement (λ st p. gives-pure (pushed ss st) IsBlock (low-pushed IsStmt ss st r p))

    gives-rest : (ss : Stmts) → IsBlock ss → Gives (Rest true n below A ss) IsBlock
    gives-rest ss r = gives-then (gives-loop gives-piece ss r) (λ all q. gives-then (gives-mark t.BLOCK_OUT) (λ at h. gives-pure all IsBlock q))

    gives-block_of : Gives (BlockOf true n below A) IsBlock
    unfolding BlockOf
    gives-block_of = gives-then (gives-mark t.LINE_END) (λ l h. gives-then (gives-mark t.BLOCK_IN) (λ b g. gives-then (gives-piece none tt) gives-rest))

  gives-block : (w : ℕ) → Gives (Block true n below w) IsBlock
  unfolding Block
  gives-block zero = gives-block_of (Refused (is t.DEFAULT) Deep) (gives-refused IsCases (is t.DEFAULT) Deep)
  gives-block (suc w) = gives-block_of (Default (Block true n below w) none) (gives-default (Block true n below w) (gives-block w) none tt)

gives-shut : Gives ShutBlock IsBlock
unfolding ShutBlock
gives-shut = gives-then (gives-mark t.LINE_END) (λ l h. gives-then (gives-mark t.BLOCK_IN) (λ b g. gives-refused IsBlock (has kinds.Statement) Deep))

pub gives-nest : (n : ℕ) → NestGives (nest true n)
unfolding nest
gives-nest zero = record {
  block = gives-shut;
  branch = gives-refused IsS (is t.IF) Deep;
  cases = λ cs r. gives-or (gives-refused IsCases (is t.CASE) Deep) (gives-or (gives-default ShutBlock gives-shut cs r) (gives-last_out cs r));
}
gives-nest (suc n) =
    let below = nest true n in
    let inner = gives-nest n in
    record {
      block = gives-block (suc n) below inner width;
      branch = gives-if (suc n) below.block inner.block below.branch inner.branch;
      cases = λ cs r.
          gives-or (gives-then (gives-mark t.CASE) (λ at h. gives-then (gives-case_rest below.block inner.block cs r) inner.cases))
          (gives-or (gives-default (Block true (suc n) below width) (gives-block (suc n) below inner width) cs r) (gives-last_out cs r));
    }
