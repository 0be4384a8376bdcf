-- Switches, statements and blocks are read exactly over what stands on the level inside: a line for each rule.
use Rattle.std.proofs.Common.{◌≡◌, ◌==◌, ℕ, zero, suc, ◌≤◌, Bool, true, false, true≢false, cond, List, [], ◌∷◌, ◌++◌, ◌⊎◌, inl, inr, Ok, None, refl, sym, subst}
use Rattle.std.specs.Bool.{⊤}
use Rattle.wy_reading.specs.Mode.{Mode}
use Rattle.wy_reading.specs.Rule.{heads, among, Or, Then, Refused, Unless}
use Rattle.wy_reading.specs.Reader.{◌>>=◌, branch, refused, unless}
use Rattle.wy_reading.proofs.Exactness.{Exact, Passes, Lacks, Any, Sample}
use Rattle.wy_reading.proofs.Single.{nothing}
use Rattle.wy_reading.proofs.Sequence.{sequence}
use Rattle.wy_reading.proofs.Choice.{choice}
use Rattle.wy_reading.proofs.Repetition.{repetition_before}
use Rattle.wy_reading.proofs.Adapting.{adapt, same_rule}
use Rattle.wy_reading.proofs.Levels.{lowest}
use Rattle.wy_reading.proofs.Bars.{unless-exact}
use Rattle.wy_lex.specs.declared.token.Token.{Token}
use Rattle.wy_lex.specs.declared.token.TokenKind.TheVariants as k
use Rattle.wy_ast.specs.declared.types.TyKind.TheVariants as ty
use Rattle.wy_parse_grammar.specs.declared.fault.Kind.TheVariants.{Deep}
use Rattle.wy_parse_grammar.specs.declared.measured.Measured.TheVariants.{Low}
use Rattle.wy_parse_grammar.specs.declared.sort.Class.TheVariants as class
use Rattle.wy_parse_grammar.specs.Sorts as t
use Rattle.wy_parse_grammar.specs.Sorts.{is, has, members, sort}
use Rattle.wy_parse_grammar.specs.Steps.{R, Q, Mark, mark, name, placed}
use Rattle.wy_parse_grammar.specs.Trees as parts
use Rattle.wy_parse.specs.StmtTrees as trees
use Rattle.wy_parse.specs.StmtTrees.{S, Stmts, Cases}
use Rattle.wy_parse.specs.StmtGrammar as stmts
use Rattle.wy_parse.specs.StmtReading as reads
use Rattle.wy_parse.specs.BlockGrammar as rule
use Rattle.wy_parse.specs.BlockGrammar.{CaseList}
use Rattle.wy_parse.specs.BlockReading as read
use Rattle.wy_parse_grammar.proofs.TokenLemmas.{among_these, some, at, at_other, no, choice_of, choice_among}
use Rattle.wy_parse_grammar.proofs.StepsExact.{mark-exact, mark_declines, x}
use Rattle.wy_parse_grammar.proofs.TypesExact.{BeginsType, type-null, null}
use Rattle.wy_parse_grammar.proofs.OperatorsExact.{after_expr}
use Rattle.wy_parse_grammar.proofs.ExprLevels.{expr-exact}
use Rattle.wy_parse.proofs.StmtsExact.{word_stmt-exact, return_stmt-exact, assert_stmt-exact, declare_stmt-exact, named_stmt-exact}
use Rattle.wy_parse.proofs.BlocksExact.{NoElse, BeginsBlock, while_stmt-exact, do_stmt-exact, if_stmt-exact, for_stmt-exact, case_rest-exact, default-exact, last_out-exact}

-- ---- a set without one of its members

dropped : (c : ℕ) (front back : List ℕ) (n : ℕ) → among (front ++ c ∷ back) n ≡ true → (n == c) ≡ false → among (front ++ back) n ≡ true
dropped c [] back n h g = subst (λ (b : Bool). cond b true (among back n) ≡ true) g h
dropped c (d ∷ front) back n h g = by (n == d) (λ x. dropped c front back n x g) h
  where
    by : (b : Bool) → (among (front ++ c ∷ back) n ≡ true → among (front ++ back) n ≡ true)
        → cond b true (among (front ++ c ∷ back) n) ≡ true → cond b true (among (front ++ back) n) ≡ true
    by true ih x = refl
    by false ih x = ih x

-- what begins a type and is no name
abbrev types : List ℕ
types = t.NOT ∷ t.NULL ∷ t.BOOL ∷ t.INT ∷ t.ANY ∷ t.VOID ∷ t.OPEN_PAREN ∷ t.OPEN_BRACE ∷ []

no_name : (i : List Token) → BeginsType i → Lacks (is t.NAME) i → Passes (among_these types) i
no_name [] h g = absurd (true≢false (sym h))
no_name (s ∷ i) h g = dropped t.NAME (t.NOT ∷ t.NULL ∷ t.BOOL ∷ t.INT ∷ t.ANY ∷ t.VOID ∷ []) (t.OPEN_PAREN ∷ t.OPEN_BRACE ∷ []) (sort s.kind) h g

-- ---- `null x` declares a variable on every level

abbrev pub line : Token
line = some k.LineEnd

abbrev declared_null : S
declared_null = trees.declare_node 0 (parts.ty_node 0 (Low ty.Null 0)) [] (Low None 0)

declare-null : (s : Bool) (levels : ℕ) (z : List Token) → 1 ≤ levels → reads.declare_stmt s levels (null ∷ x ∷ line ∷ z) ≡ Ok (declared_null, z)
unfolding reads.declare_stmt placed reads.declared name mark
declare-null s levels z h = rw (type-null levels (x ∷ line ∷ z) h refl) refl

-- ---- over the blocks, the `if` and the cases of the level inside

module _ (n : Mode) (below : rule.Nest) (inner : Mode → read.Nested)
    (block_is : Exact n below.block (λ m. (inner m).block) Any BeginsBlock)
    (branch_is : Exact n below.branch (λ m. (inner m).branch) NoElse (Passes (is t.IF)))
    (cases_is : (cs : CaseList) → Exact n (below.cases cs) (λ m. (inner m).cases cs) Any Any) where
  before : (F : List Token → Type 0) → Exact n below.block (λ m. (inner m).block) F BeginsBlock
  before F = adapt block_is (λ i f. tt) (λ i b. b) (λ a p. tt)

  abbrev Cased : CaseList → R Cases
  Cased cs = Then (Mark t.CASE) (λ r. Then (rule.CaseRest below.block cs) below.cases)

  abbrev cased : Mode → CaseList → Q Cases
  cased m cs = mark t.CASE >>= (λ r. read.case_rest (inner m).block cs >>= (inner m).cases)

  -- a case, and the cases behind it
  pub cased-exact : (cs : CaseList) → Exact n (Cased cs) (λ m. cased m cs) Any (Passes (is t.CASE))
  cased-exact cs =
      sequence (mark-exact {F = Any} t.CASE (some k.Case) refl)
      (λ r. sequence (case_rest-exact n below.block (λ m. (inner m).block) before cs) (λ all. cases_is all) (λ i b. tt)) (λ i b. tt)

  module _ (A : R Cases) (a : Mode → Q Cases)
      (chosen : Exact n (Or (Cased parts.none) A) (λ m. branch (is t.CASE) (cased m parts.none) (a m)) Any Any) where
    switch-exact : Exact n (rule.Switch n.strict n.depth below A) (λ m. read.switch m.strict m.depth (inner m) (a m)) NoElse (Passes (is t.SWITCH))
    unfolding read.switch rule.Switch
    switch-exact =
        sequence (mark-exact {F = Any} t.SWITCH (some k.Switch) refl)
        (λ place. sequence (expr-exact n)
        (λ value. sequence (mark-exact {F = Any} t.COLON (some k.Colon) refl)
        (λ r. sequence (mark-exact {F = Any} t.LINE_END (some k.LineEnd) refl)
        (λ r. sequence (mark-exact {F = Any} t.BLOCK_IN (some k.BlockIn) refl)
        (λ r. sequence chosen (λ cs. nothing (trees.switch_node place value cs)) (λ i b. tt)) (λ i b. tt)) (λ i b. tt)) (λ i b. tt))
        (λ i h. at t.COLON after_expr i h))
        (λ i b. tt)

    declare-sample : Sample n (λ m. reads.declare_stmt m.strict m.depth) (λ st. NoElse) BeginsType (λ st. ⊤)
    declare-sample = record {
      text = null ∷ x ∷ line ∷ [];
      made = declared_null;
      wanted = tt;
      deep = 1;
      alive = λ m le deep z f. declare-null m.strict m.depth z deep;
      starts = λ z f. refl;
    }

    no_name-exact : Exact n (Unless (is t.NAME) (stmts.DeclareStmt n.strict n.depth)) (λ m. unless (is t.NAME) (reads.declare_stmt m.strict m.depth)) NoElse (Passes (among_these types))
    unfolding declare-sample
    no_name-exact =
        adapt (unless-exact n (is t.NAME) (stmts.DeclareStmt n.strict n.depth) (λ m. reads.declare_stmt m.strict m.depth) (λ st. NoElse) BeginsType (λ st. ⊤)
        (adapt (declare_stmt-exact n) (λ i f. tt) (λ i b. b) (λ a p. tt)) declare-sample (λ z f. refl) (λ st. refl) (λ h. absurd (true≢false (sym h))))
        (λ i f. f) (λ i b. no_name i b.0 b.1) (λ a p. tt)

    abbrev for_on : List ℕ
    for_on = t.FOR ∷ types

    abbrev do_on : List ℕ
    do_on = t.DO ∷ for_on

    abbrev while_on : List ℕ
    while_on = t.WHILE ∷ do_on

    abbrev if_on : List ℕ
    if_on = t.IF ∷ while_on

    abbrev words_on : List ℕ
    words_on = t.BREAK ∷ t.CONTINUE ∷ t.SKIP ∷ t.FAIL ∷ if_on

    abbrev assert_on : List ℕ
    assert_on = t.ASSERT ∷ words_on

    abbrev return_on : List ℕ
    return_on = t.RETURN ∷ assert_on

    abbrev name_on : List ℕ
    name_on = t.NAME ∷ return_on

    loose : {T : R S} {p : Mode → Q S} {B : List Token → Type 0} → Exact n T p Any B → Exact n T p NoElse B
    loose e = adapt e (λ i f. tt) (λ i b. b) (λ a p. tt)

    statement-exact : Exact n (rule.Statement n.strict n.depth below A) (λ m. read.statement m.strict m.depth (inner m) (a m)) NoElse (Passes (has class.Statement))
    unfolding read.statement rule.Statement
    statement-exact =
        choice_of t.SWITCH name_on (members class.Statement) switch-exact
        (choice_of t.NAME return_on name_on (loose (named_stmt-exact n))
        (choice_of t.RETURN assert_on return_on (loose (return_stmt-exact n))
        (choice_of t.ASSERT words_on assert_on (loose (assert_stmt-exact n))
        (choice_among (members class.Word) if_on words_on (loose word_stmt-exact)
        (choice_of t.IF while_on if_on (if_stmt-exact n below.block (λ m. (inner m).block) before below.branch (λ m. (inner m).branch) branch_is)
        (choice_of t.WHILE do_on while_on (while_stmt-exact n below.block (λ m. (inner m).block) before)
        (choice_of t.DO for_on do_on (do_stmt-exact n below.block (λ m. (inner m).block) before)
        (choice_of t.FOR types for_on (for_stmt-exact n below.block (λ m. (inner m).block) before) no_name-exact refl refl refl)
        refl refl refl) refl refl refl) refl refl refl) refl refl refl) refl refl refl) refl refl refl) refl refl refl) refl refl refl

    piece-exact : (ss : Stmts) → Exact n (rule.Piece n.strict n.depth below A ss) (λ m. read.piece m.strict m.depth (inner m) (a m) ss) NoElse (Passes (has class.Statement))
    piece-exact ss = sequence statement-exact (λ st. nothing (parts.pushed ss st)) (λ i f. f)

    abbrev BeginsRest : List Token → Type 0
    BeginsRest i = Passes (is t.BLOCK_OUT) i ⊎ Passes (has class.Statement) i

    rest-exact : (ss : Stmts) → Exact n (rule.Rest n.strict n.depth below A ss) (λ m. read.rest m.strict m.depth (inner m) (a m) ss) Any BeginsRest
    unfolding read.rest
    rest-exact ss =
        sequence
        (repetition_before (has class.Statement) piece-exact (λ i h. h) (λ i f. at t.BLOCK_OUT (members class.Statement) i f) (λ i f. at_other t.ELSE t.BLOCK_OUT i refl f)
        (λ i h. no t.ELSE (members class.Statement) i refl h) (some k.BlockOut ∷ []) refl ss)
        (λ all. sequence (mark-exact {F = Any} t.BLOCK_OUT (some k.BlockOut) refl) (λ r. nothing all) (λ i b. tt)) (λ i b. b)

    -- the statements of a block, and its end
    pub inside-exact : Exact n (Then (rule.Piece n.strict n.depth below A parts.none) (rule.Rest n.strict n.depth below A))
        (λ m. read.piece m.strict m.depth (inner m) (a m) parts.none >>= read.rest m.strict m.depth (inner m) (a m)) Any (Passes (has class.Statement))
    inside-exact = sequence (piece-exact parts.none) rest-exact
        (λ i b. elim b [ inl h ↦ at_other t.ELSE t.BLOCK_OUT i refl h | inr h ↦ no t.ELSE (members class.Statement) i refl h ])

    pub block_of-exact : Exact n (rule.BlockOf n.strict n.depth below A) (λ m. read.block_of m.strict m.depth (inner m) (a m)) Any BeginsBlock
    unfolding read.block_of rule.BlockOf
    block_of-exact =
        sequence (mark-exact {F = Any} t.LINE_END (some k.LineEnd) refl)
        (λ r. sequence (mark-exact {F = Any} t.BLOCK_IN (some k.BlockIn) refl) (λ r. inside-exact) (λ i b. tt)) (λ i b. tt)

  -- ---- a default without cases has its block on the level of its switch

  -- where it may not stand, only a case may
  abbrev shut : Q Cases
  shut = refused (is t.DEFAULT) Deep

  falls : (m : Mode) (i : List Token) → Lacks (is t.DEFAULT) i → branch (is t.CASE) (cased m parts.none) shut i ≡ cased m parts.none i
  falls m i h = by (heads (is t.CASE) i) refl
    where
      by : (b : Bool) → heads (is t.CASE) i ≡ b → cond b (cased m parts.none i) (shut i) ≡ cased m parts.none i
      by true g = refl
      by false g = rw (h, mark_declines t.CASE i g) refl

  shut-exact : Exact n (Or (Cased parts.none) (Refused (is t.DEFAULT) Deep)) (λ m. branch (is t.CASE) (cased m parts.none) shut) Any Any
  shut-exact =
      adapt (same_rule
      (lowest n (is t.DEFAULT) Deep (Cased parts.none) (λ m. cased m parts.none) (λ m. branch (is t.CASE) (cased m parts.none) shut) Any (Passes (is t.CASE)) (λ cs. ⊤)
      (cased-exact parts.none) (λ i h. at_other t.DEFAULT t.CASE i refl h) falls (λ i h. rw (at_other t.CASE t.DEFAULT i refl h, h) refl))
      (λ i a j h. elim h [ inl g ↦ inr g | inr g ↦ inl g ]) (λ i a j h. elim h [ inl g ↦ inr g | inr g ↦ inl g ])
      (λ i y l h. elim h [ inl g ↦ inr g | inr g ↦ inl g ]) (λ i y l h. elim h [ inl g ↦ inr g | inr g ↦ inl g ]))
      (λ i f. f) (λ i b. tt) (λ a p. tt)

  pub block-exact : (w : ℕ) → Exact n (rule.Block n.strict n.depth below w) (λ m. read.block m.strict m.depth (inner m) w) Any BeginsBlock
  unfolding read.block rule.Block
  block-exact zero = block_of-exact (Refused (is t.DEFAULT) Deep) (λ m. shut) shut-exact
  block-exact (suc w) =
      let ih = block-exact w in
      block_of-exact (rule.Default (rule.Block n.strict n.depth below w) parts.none) (λ m. read.default (read.block m.strict m.depth (inner m) w) parts.none)
      (adapt (choice (is t.CASE) (cased-exact parts.none)
      (default-exact n (rule.Block n.strict n.depth below w) (λ m. read.block m.strict m.depth (inner m) w) (λ F. adapt ih (λ i f. tt) (λ i b. b) (λ a p. tt)) parts.none)
      (λ i h. h) (λ i h. at_other t.CASE t.DEFAULT i refl h))
      (λ i f. f) (λ i b. tt) (λ a p. tt))

  -- the rest of a switch behind cases, whose default has the width w
  pub cases-exact : (w : ℕ) (cs : CaseList) → Exact n (Or (Cased cs) (Or (rule.Default (rule.Block n.strict n.depth below w) cs) (rule.LastOut cs)))
      (λ m. branch (is t.CASE) (cased m cs) (branch (is t.DEFAULT) (read.default (read.block m.strict m.depth (inner m) w) cs) (read.last_out cs))) Any Any
  cases-exact w cs =
      adapt (choice (is t.CASE) (cased-exact cs)
      (choice (is t.DEFAULT)
      (default-exact n (rule.Block n.strict n.depth below w) (λ m. read.block m.strict m.depth (inner m) w) (λ F. adapt (block-exact w) (λ i f. tt) (λ i b. b) (λ a p. tt)) cs)
      (last_out-exact n cs) (λ i h. h) (λ i h. at_other t.DEFAULT t.BLOCK_OUT i refl h))
      (λ i h. h) (λ i b. elim b [ inl h ↦ at_other t.CASE t.DEFAULT i refl h | inr h ↦ at_other t.CASE t.BLOCK_OUT i refl h ]))
      (λ i f. f) (λ i b. tt) (λ a p. tt)
