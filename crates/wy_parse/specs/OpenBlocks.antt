-- How a block is read with a list of the switches that are open in it: a switch without cases has its default's block on its own level, so that
-- nothing bounds how many of such blocks stand in one another.
use Rattle.std.specs.Prelude.{◌≡◌, ◌≢◌, ◌+◌, ◌-◌, ◌<◌, ◌≤◌, ℕ, zero, suc, Bool, true, false, List, [], ◌∷◌, ◌++◌, length, Result, Ok, Err}
use Rattle.wy_reading.specs.declared.stop.Stop.{Stop}
use Rattle.wy_reading.specs.declared.stop.Stop.TheVariants.{NoMemory}
use Rattle.wy_reading.specs.Reader.{◌>>=◌, pure, branch, refused, unless}
use Rattle.wy_lex.specs.declared.token.Token.{Token}
use Rattle.wy_parse.specs.declared.blocks.Open.{Open}
use Rattle.wy_parse.specs.declared.blocks.Progress.{Progress}
use Rattle.wy_parse_grammar.specs.declared.fault.Kind.{Kind}
use Rattle.wy_parse_grammar.specs.declared.fault.Kind.TheVariants.{Deep}
use Rattle.wy_parse_grammar.specs.declared.sort.Class.TheVariants as class
use Rattle.wy_parse_grammar.specs.Sorts as t
use Rattle.wy_parse_grammar.specs.Sorts.{has, is}
use Rattle.wy_parse_grammar.specs.Steps.{Q, mark, inside}
use Rattle.wy_parse_grammar.specs.Trees.{pushed, none, some, both}
use Rattle.wy_parse_grammar.specs.ExprGrammar.{E}
use Rattle.wy_parse_grammar.specs.ExprReading.{readers}
use Rattle.wy_parse.specs.StmtTrees as trees
use Rattle.wy_parse.specs.StmtTrees.{S, Stmts, Cases}
use Rattle.wy_parse.specs.StmtReading.{return_stmt, assert_stmt, word_stmt, declare_stmt, named_stmt}
use Rattle.wy_parse.specs.BlockGrammar.{width}
use Rattle.wy_parse.specs.BlockReading.{Nested, nested, block, default, case_rest, piece, rest, if_stmt, while_stmt, do_stmt, for_stmt}
use denote.Ref.{Bor}

-- 'default' ':' LINE IN
unfoldable pub lone_default : Q ℕ
lone_default = mark t.DEFAULT >>= (λ _. mark t.COLON >>= (λ _. mark t.LINE_END >>= (λ _. mark t.BLOCK_IN)))

-- the statements before a switch, with the switch, whose default has these
abbrev pub closed : Open → Stmts → Stmts
closed o body = pushed o.before (trees.switch_node o.at o.value (both none (some body)))

-- a switch is open behind the statements that were read
abbrev pub opened : ℕ → E → Progress → Progress
opened at value p = record { switches = p.switches ++ (record { at = at; value = value; before = p.made }) ∷ []; made = none; begun = false }

-- a statement more
abbrev pub with_stmt : Progress → S → Progress
with_stmt p st = record { switches = p.switches; made = pushed p.made st; begun = true }

-- the innermost open switch is whole
pub record Closes (p : Progress) (p' : Progress) : Type 0 where
  pub last : Open
  pub switches : p.switches ≡ p'.switches ++ last ∷ []
  pub made : p'.made ≡ closed last p.made
  pub begun : p'.begun ≡ p.begun

module _ (levels : ℕ) where
  abbrev pub below : Nested
  below = nested true (inside levels)

  -- a default without cases, by how many such blocks may still stand in one another
  unfoldable pub alone : ℕ → Q Cases
  alone zero = refused (is t.DEFAULT) Deep
  alone (suc w) = default (block true levels below w) none

  -- the rest of a block behind these statements
  abbrev pub rest_at : ℕ → Stmts → Q Stmts
  rest_at w ss = rest true levels below (alone w) ss

  -- likewise; but where no statement was read, one follows
  unfoldable pub going : ℕ → Bool → Stmts → Q Stmts
  going w true ss = rest_at w ss
  going w false ss = piece true levels below (alone w) ss >>= rest_at w

  -- 'switch' expr ':' LINE IN
  unfoldable pub header : Q (ℕ × E)
  header =
      mark t.SWITCH >>= (λ at. (readers true levels).expr >>= (λ value. mark t.COLON >>= (λ _. mark t.LINE_END >>= (λ _. mark t.BLOCK_IN >>= (λ _.
      pure (at, value))))))

  -- a case, and what follows it in its switch
  unfoldable pub with_cases : Q Cases
  with_cases = mark t.CASE >>= (λ _. case_rest below.block none >>= below.cases)

  -- a statement that is no switch
  unfoldable pub statement_but_switch : Q S
  statement_but_switch =
      branch (is t.NAME) (named_stmt true levels)
      (branch (is t.RETURN) (return_stmt true levels)
      (branch (is t.ASSERT) (assert_stmt true levels)
      (branch (has class.Word) word_stmt
      (branch (is t.IF) (if_stmt true levels below.block below.branch)
      (branch (is t.WHILE) (while_stmt true levels below.block)
      (branch (is t.DO) (do_stmt true levels below.block)
      (branch (is t.FOR) (for_stmt true levels below.block)
      (unless (is t.NAME) (declare_stmt true levels)))))))))

  -- behind the innermost of the open switches those around it go on, the first of which is the outermost
  unfoldable pub around : ℕ → List Open → Q Stmts → Q Stmts
  around w [] q = q
  around zero (o ∷ os) q = q
  around (suc w) (o ∷ os) q = around w os q >>= (λ body. mark t.BLOCK_OUT >>= (λ _. rest_at (suc w) (closed o body)))

  -- the rest of a block of which so much was read
  abbrev pub resumed : ℕ → Progress → Q Stmts
  resumed w p = around w p.switches (going (w - length p.switches) p.begun p.made)

  -- from there on the same is read, of fewer tokens
  pub record Moves (p : Progress) (i : List Token) (p' : Progress) (j : List Token) : Type 0 where
    pub same : resumed width p i ≡ resumed width p' j
    pub shorter : length j < length i
    pub room : length p'.switches + length j ≤ length p.switches + length i

  -- a step on the way through a block, or where it stops
  abbrev pub Goes : Progress → List Token → Result (Progress × Bor (List Token)) (Stop Kind) → Type 0
  Goes p i (Ok r) = Moves p i r.0 r.1.now
  Goes p i (Err e) = e ≢ NoMemory → resumed width p i ≡ Err e
