-- Blocks of every level are read exactly.
use Rattle.std.proofs.Common.{◌≡◌, ℕ, zero, suc, pred, ◌≤◌, Bool, true, List, [], ◌∷◌, ◌++◌, ◌⊎◌, inl, inr, length, Ok, Err, refl, ap, ◌∙◌, arith}
use Rattle.std.specs.Bool.{⊤}
use Rattle.wy_reading.specs.declared.stop.Stop.TheVariants.{Unexpected, Fault}
use Rattle.wy_reading.specs.Mode.{Mode}
use Rattle.wy_reading.specs.Rule.{among, Or, Then, Refused}
use Rattle.wy_reading.specs.Reader.{◌>>=◌, branch, refused, one, unless}
use Rattle.wy_reading.proofs.Exactness.{Exact, Passes, Lacks, Any}
use Rattle.wy_reading.proofs.Sequence.{sequence}
use Rattle.wy_reading.proofs.Choice.{choice}
use Rattle.wy_reading.proofs.Adapting.{adapt, same_readers}
use Rattle.wy_reading.proofs.Levels.{deeper, up, lowest}
use Rattle.wy_reading.proofs.Closed.{closed, Declines, declines-then, declines-branch, declines-one}
use Rattle.wy_lex.specs.declared.token.Token.{Token}
use Rattle.wy_lex.specs.declared.token.TokenKind.TheVariants as k
use Rattle.wy_ast.specs.declared.expressions.ExprKind.TheVariants as e
use Rattle.wy_ast.specs.declared.statements.StmtKind.TheVariants as stmt
use Rattle.wy_parse_grammar.specs.declared.fault.Kind.TheVariants.{Deep}
use Rattle.wy_parse_grammar.specs.declared.measured.Measured.TheVariants.{Low}
use Rattle.wy_parse_grammar.specs.declared.sort.Class.TheVariants as class
use Rattle.wy_parse_grammar.specs.Sorts as t
use Rattle.wy_parse_grammar.specs.Sorts.{is, has, members}
use Rattle.wy_parse_grammar.specs.Steps.{Q, Mark, mark, name, placed}
use Rattle.wy_parse_grammar.specs.Trees as parts
use Rattle.wy_parse.specs.StmtTrees as trees
use Rattle.wy_parse.specs.StmtTrees.{S, Stmts, Cases}
use Rattle.wy_parse.specs.StmtReading as reads
use Rattle.wy_parse.specs.BlockGrammar as rule
use Rattle.wy_parse.specs.BlockGrammar.{CaseList, width}
use Rattle.wy_parse.specs.BlockReading as read
use Rattle.wy_parse.specs.BlockReading.{nested}
use Rattle.wy_parse_grammar.proofs.TokenLemmas.{some, at_other, one_out, fewer}
use Rattle.wy_parse_grammar.proofs.StepsExact.{mark-exact, mark_declines, name_declines}
use Rattle.wy_parse_grammar.proofs.TypesExact.{type-declines, null}
use Rattle.wy_parse_grammar.proofs.ExprLevels.{expr-null}
use Rattle.wy_parse.proofs.BlocksExact.{NoElse, BeginsBlock, if_stmt-exact, default-exact, last_out-exact}
use Rattle.wy_parse.proofs.SwitchExact.{block-exact, cases-exact, line}

-- ---- what begins no statement is declined at its first token

abbrev NoStatement : {A : Type 0} → Q A → Type 0
NoStatement q = Declines (has class.Statement) q

mark_none : (c : ℕ) → among (members class.Statement) c ≡ true → NoStatement (mark c)
mark_none c e i h = mark_declines c i (one_out c (members class.Statement) i e h)

name_none : NoStatement name
name_none i h = name_declines i (one_out t.NAME (members class.Statement) i refl h)

declare_none : (s : Bool) (levels : ℕ) → NoStatement (reads.declare_stmt s levels)
unfolding reads.declare_stmt placed
declare_none s levels i h = rw (type-declines levels i (fewer (members class.Type) (members class.Statement) i refl h)) refl

word_none : NoStatement reads.word_stmt
unfolding reads.word_stmt reads.word
word_none = declines-then reads.word _ (declines-then (one (has class.Word)) _ (declines-one (has class.Word) (λ i h. fewer (members class.Word) (members class.Statement) i refl h)))

module _ (s : Bool) (levels : ℕ) (below : read.Nested) (alone : Q Cases) where
  no_name_none : NoStatement (unless (is t.NAME) (reads.declare_stmt s levels))
  no_name_none i h = rw (one_out t.NAME (members class.Statement) i refl h) (declare_none s levels i h)

  statement_none : NoStatement (read.statement s levels below alone)
  unfolding read.statement read.switch reads.named_stmt reads.named_rest reads.path_stmt reads.return_stmt reads.assert_stmt read.if_stmt read.if_rest read.while_stmt read.while_rest read.do_stmt read.do_rest read.for_stmt read.for_range read.for_rest
  statement_none =
      declines-branch (is t.SWITCH) _ _ (declines-then (mark t.SWITCH) _ (mark_none t.SWITCH refl))
      (declines-branch (is t.NAME) _ _ (declines-then name _ name_none)
      (declines-branch (is t.RETURN) _ _ (declines-then (mark t.RETURN) _ (mark_none t.RETURN refl))
      (declines-branch (is t.ASSERT) _ _ (declines-then (mark t.ASSERT) _ (mark_none t.ASSERT refl))
      (declines-branch (has class.Word) _ _ word_none
      (declines-branch (is t.IF) _ _ (declines-then (mark t.IF) _ (mark_none t.IF refl))
      (declines-branch (is t.WHILE) _ _ (declines-then (mark t.WHILE) _ (mark_none t.WHILE refl))
      (declines-branch (is t.DO) _ _ (declines-then (mark t.DO) _ (mark_none t.DO refl))
      (declines-branch (is t.FOR) _ _ (declines-then (mark t.FOR) _ (mark_none t.FOR refl))
      no_name_none))))))))

  abbrev body : Q Stmts
  body = read.piece s levels below alone parts.none >>= read.rest s levels below alone

  body_none : NoStatement body
  body_none = declines-then (read.piece s levels below alone parts.none) _ (declines-then (read.statement s levels below alone) _ statement_none)

-- ---- `skip` is a statement on every level, and stands in a block

abbrev skip : Token
skip = some k.Skip

abbrev block_in : Token
block_in = some k.BlockIn

abbrev block_out : Token
block_out = some k.BlockOut

abbrev skipped : Stmts
skipped = parts.pushed parts.none (trees.stmt_node 0 (Low stmt.Skip 0))

body-skip : (s : Bool) (levels : ℕ) (below : read.Nested) (alone : Q Cases) (z : List Token) → body s levels below alone (skip ∷ line ∷ block_out ∷ z) ≡ Ok (skipped, z)
unfolding read.statement reads.word_stmt reads.word read.rest mark
body-skip s levels below alone z = refl

-- ---- what stands in a block, by the level

alone_of : Bool → ℕ → read.Nested → ℕ → Q Cases
alone_of s levels below zero = refused (is t.DEFAULT) Deep
alone_of s levels below (suc w) = read.default (read.block s levels below w) parts.none

block_has : (s : Bool) (levels : ℕ) (below : read.Nested) (w : ℕ) → read.block s levels below w ≡ read.block_of s levels below (alone_of s levels below w)
unfolding read.block alone_of
block_has s levels below zero = refl
block_has s levels below (suc w) = refl

body_read : Bool → ℕ → Q Stmts
body_read s zero = refused (has class.Statement) Deep
body_read s (suc d) = body s (suc d) (nested s d) (alone_of s (suc d) (nested s d) width)

abbrev framed : Q Stmts → Q Stmts
framed q = mark t.LINE_END >>= (λ r. mark t.BLOCK_IN >>= (λ r. q))

nested-framed : (s : Bool) (d : ℕ) (i : List Token) → (nested s d).block i ≡ framed (body_read s d) i
unfolding nested body_read read.shut_block read.block_of
nested-framed s zero i = refl
nested-framed s (suc d) i = ap (λ (q : Q Stmts). q i) (block_has s (suc d) (nested s d) width)

body_read-none : (s : Bool) (d : ℕ) → NoStatement (body_read s d)
unfolding body_read
body_read-none s zero i h = rw h refl
body_read-none s (suc d) i h = body_none s (suc d) (nested s d) (alone_of s (suc d) (nested s d) width) i h

body_read-skip : (s : Bool) (d : ℕ) (z : List Token) → 1 ≤ d → body_read s d (skip ∷ line ∷ block_out ∷ z) ≡ Ok (skipped, z)
unfolding body_read
body_read-skip s zero z h = absurd (omega (arith, h))
body_read-skip s (suc d) z h = body-skip s (suc d) (nested s d) (alone_of s (suc d) (nested s d) width) z

-- a block with `skip`
nested-skip : (s : Bool) (d : ℕ) (z : List Token) → 1 ≤ d → (nested s d).block (line ∷ block_in ∷ skip ∷ line ∷ block_out ∷ z) ≡ Ok (skipped, z)
unfolding mark
nested-skip s d z h = nested-framed s d (line ∷ block_in ∷ skip ∷ line ∷ block_out ∷ z) ∙ body_read-skip s d z h

abbrev if_text : List Token
if_text = some k.If ∷ null ∷ some k.Colon ∷ line ∷ block_in ∷ skip ∷ line ∷ block_out ∷ []

abbrev if_made : S
if_made = trees.if_node 0 (parts.leaf 0 e.Null) skipped parts.none

branch-skip : (s : Bool) (d : ℕ) (z : List Token) → 2 ≤ d → NoElse z → (nested s d).branch (if_text ++ z) ≡ Ok (if_made, z)
unfolding nested read.if_stmt read.if_rest read.otherwise mark
branch-skip s zero z h f = absurd (omega (arith, h))
branch-skip s (suc d) z h f =
    rw (expr-null (some k.Colon ∷ line ∷ block_in ∷ skip ∷ line ∷ block_out ∷ z) s (suc d) (omega arith) refl)
    (rw (nested-skip s d z (omega (arith, h))) (rw f refl))

branch-none : (s : Bool) (d : ℕ) (i : List Token) → Lacks (is t.IF) i → (nested s d).branch i ≡ Err (Unexpected (length i))
unfolding nested read.if_stmt read.if_rest
branch-none s zero i h = rw h refl
branch-none s (suc d) i h = rw (mark_declines t.IF i h) refl

-- ---- on the lowest level

body_refused : (s : Bool) (i : List Token) → Passes (has class.Statement) i → body_read s zero i ≡ Err (Fault Deep (length i))
unfolding body_read
body_refused s i h = rw h refl

branch_refused : (s : Bool) (i : List Token) → Passes (is t.IF) i → (nested s zero).branch i ≡ Err (Fault Deep (length i))
unfolding nested
branch_refused s i h = rw h refl

cases_refused : (s : Bool) (cs : CaseList) (i : List Token) → Passes (is t.CASE) i → (nested s zero).cases cs i ≡ Err (Fault Deep (length i))
unfolding nested
cases_refused s cs i h = rw h refl

cases_fall : (s : Bool) (d : ℕ) (cs : CaseList) (i : List Token) → Lacks (is t.CASE) i
    → (nested s d).cases cs i ≡ branch (is t.DEFAULT) (read.default (nested s d).block cs) (read.last_out cs) i
unfolding nested
cases_fall s zero cs i h = rw h refl
cases_fall s (suc d) cs i h = rw h refl

-- ---- above another level

block_unfolds : (s : Bool) (d : ℕ) (i : List Token) → 1 ≤ d → (nested s d).block i ≡ read.block s d (nested s (pred d)) width i
unfolding nested
block_unfolds s zero i h = absurd (omega (arith, h))
block_unfolds s (suc d) i h = refl

branch_unfolds : (s : Bool) (d : ℕ) (i : List Token) → 1 ≤ d → (nested s d).branch i ≡ read.if_stmt s d (nested s (pred d)).block (nested s (pred d)).branch i
unfolding nested
branch_unfolds s zero i h = absurd (omega (arith, h))
branch_unfolds s (suc d) i h = refl

cases_unfolds : (s : Bool) (d : ℕ) (cs : CaseList) (i : List Token) → 1 ≤ d
    → (nested s d).cases cs i
    ≡ branch (is t.CASE) (mark t.CASE >>= (λ r. read.case_rest (nested s (pred d)).block cs >>= (nested s (pred d)).cases))
    (branch (is t.DEFAULT) (read.default (read.block s d (nested s (pred d)) width) cs) (read.last_out cs)) i
unfolding nested
cases_unfolds s zero cs i h = absurd (omega (arith, h))
cases_unfolds s (suc d) cs i h = refl

-- ---- levels

abbrev pub nest_read : Mode → read.Nested
nest_read m = nested m.strict m.depth

abbrev lower_read : Mode → read.Nested
lower_read m = nested m.strict (pred m.depth)

record NestExact (d : ℕ) (s : Bool) : Type 0 where
  block_is : Exact (record { depth = d; strict = s }) (rule.nest s d).block (λ m. (nest_read m).block) Any BeginsBlock
  branch_is : Exact (record { depth = d; strict = s }) (rule.nest s d).branch (λ m. (nest_read m).branch) NoElse (Passes (is t.IF))
  cases_is : (cs : CaseList) → Exact (record { depth = d; strict = s }) ((rule.nest s d).cases cs) (λ m. (nest_read m).cases cs) Any Any

-- where there are no levels
module _ (s : Bool) where
  abbrev bottom : Mode
  bottom = record { depth = zero; strict = s }

  shut-block : Exact bottom rule.ShutBlock (λ m. (nest_read m).block) Any BeginsBlock
  unfolding rule.ShutBlock
  shut-block =
      same_readers (λ m. (nest_read m).block)
      (sequence (mark-exact {F = Any} t.LINE_END line refl)
      (λ r. sequence (mark-exact {F = Any} t.BLOCK_IN block_in refl)
      (λ r. closed bottom (has class.Statement) Deep (λ m. body_read m.strict m.depth) Any (λ a. ⊤) (λ m i h. body_read-none m.strict m.depth i h) (λ i h. body_refused s i h)
      (record {
        text = skip ∷ line ∷ block_out ∷ [];
        made = skipped;
        wanted = tt;
        deep = 1;
        alive = λ m le deep z f. body_read-skip m.strict m.depth z deep;
        starts = λ z f. refl;
      }))
      (λ i b. tt))
      (λ i b. tt))
      (λ m le i. nested-framed m.strict m.depth i)

  shut-branch : Exact bottom (Refused (is t.IF) Deep) (λ m. (nest_read m).branch) NoElse (Passes (is t.IF))
  shut-branch =
      closed bottom (is t.IF) Deep (λ m. (nest_read m).branch) NoElse (λ a. ⊤) (λ m i h. branch-none m.strict m.depth i h) (λ i h. branch_refused s i h)
      (record {
        text = if_text;
        made = if_made;
        wanted = tt;
        deep = 2;
        alive = λ m le deep z f. branch-skip m.strict m.depth z deep f;
        starts = λ z f. refl;
      })

  shut-cases : (cs : CaseList) → Exact bottom (Or (Refused (is t.CASE) Deep) (Or (rule.Default rule.ShutBlock cs) (rule.LastOut cs))) (λ m. (nest_read m).cases cs) Any Any
  shut-cases cs =
      adapt (lowest bottom (is t.CASE) Deep (Or (rule.Default rule.ShutBlock cs) (rule.LastOut cs))
      (λ m. branch (is t.DEFAULT) (read.default (nest_read m).block cs) (read.last_out cs)) (λ m. (nest_read m).cases cs) Any
      (λ i. Passes (is t.DEFAULT) i ⊎ Passes (is t.BLOCK_OUT) i) (λ a. ⊤)
      (choice (is t.DEFAULT)
      (default-exact bottom rule.ShutBlock (λ m. (nest_read m).block) (λ F. adapt shut-block (λ i f. tt) (λ i b. b) (λ a p. tt)) cs)
      (last_out-exact bottom cs) (λ i h. h) (λ i h. at_other t.DEFAULT t.BLOCK_OUT i refl h))
      (λ i b. elim b [ inl h ↦ at_other t.CASE t.DEFAULT i refl h | inr h ↦ at_other t.CASE t.BLOCK_OUT i refl h ])
      (λ m i h. cases_fall m.strict m.depth cs i h) (λ i h. cases_refused s cs i h))
      (λ i f. f) (λ i b. tt) (λ a p. tt)

-- over a level inside
module _ (d : ℕ) (s : Bool) (b : NestExact d s) where
  abbrev n : Mode
  n = record { depth = d; strict = s }

  abbrev below : rule.Nest
  below = rule.nest s d

  lower_block : Exact (up n) below.block (λ m. (lower_read m).block) Any BeginsBlock
  lower_block = deeper n below.block (λ m. (lower_read m).block) b.block_is

  lower_branch : Exact (up n) below.branch (λ m. (lower_read m).branch) NoElse (Passes (is t.IF))
  lower_branch = deeper n below.branch (λ m. (lower_read m).branch) b.branch_is

  lower_cases : (cs : CaseList) → Exact (up n) (below.cases cs) (λ m. (lower_read m).cases cs) Any Any
  lower_cases cs = deeper n (below.cases cs) (λ m. (lower_read m).cases cs) (b.cases_is cs)

  next-block : Exact (up n) (rule.Block s (suc d) below width) (λ m. (nest_read m).block) Any BeginsBlock
  next-block =
      same_readers (λ m. (nest_read m).block) (block-exact (up n) below lower_read lower_block lower_branch lower_cases width)
      (λ m le i. block_unfolds m.strict m.depth i (omega (arith, le.0)))

  next-branch : Exact (up n) (rule.IfStmt s (suc d) below.block below.branch) (λ m. (nest_read m).branch) NoElse (Passes (is t.IF))
  next-branch =
      same_readers (λ m. (nest_read m).branch)
      (if_stmt-exact (up n) below.block (λ m. (lower_read m).block) (λ F. adapt lower_block (λ i f. tt) (λ i x. x) (λ a p. tt)) below.branch (λ m. (lower_read m).branch) lower_branch)
      (λ m le i. branch_unfolds m.strict m.depth i (omega (arith, le.0)))

  next-cases : (cs : CaseList) → Exact (up n)
      (Or (Then (Mark t.CASE) (λ r. Then (rule.CaseRest below.block cs) below.cases)) (Or (rule.Default (rule.Block s (suc d) below width) cs) (rule.LastOut cs)))
      (λ m. (nest_read m).cases cs) Any Any
  next-cases cs =
      same_readers (λ m. (nest_read m).cases cs) (cases-exact (up n) below lower_read lower_block lower_branch lower_cases width cs)
      (λ m le i. cases_unfolds m.strict m.depth cs i (omega (arith, le.0)))

nest-exact : (d : ℕ) (s : Bool) → NestExact d s
unfolding rule.nest
nest-exact zero s = record { block_is = shut-block s; branch_is = shut-branch s; cases_is = shut-cases s }
nest-exact (suc d) s = let b = nest-exact d s in record { block_is = next-block d s b; branch_is = next-branch d s b; cases_is = next-cases d s b }

-- a block of each level, with anything behind it
pub nested_block-exact : (n : Mode) → Exact n (rule.nest n.strict n.depth).block (λ m. (nest_read m).block) Any BeginsBlock
nested_block-exact n = (nest-exact n.depth n.strict).block_is

pub nested_branch-exact : (n : Mode) → Exact n (rule.nest n.strict n.depth).branch (λ m. (nest_read m).branch) NoElse (Passes (is t.IF))
nested_branch-exact n = (nest-exact n.depth n.strict).branch_is

pub nested_cases-exact : (n : Mode) (cs : CaseList) → Exact n ((rule.nest n.strict n.depth).cases cs) (λ m. (nest_read m).cases cs) Any Any
nested_cases-exact n cs = (nest-exact n.depth n.strict).cases_is cs
