-- What the rules of blocks and of statements give, over those of the level inside.
use Rattle.std.proofs.Common.{◌≡◌, ℕ, zero, suc, ◌+◌, ◌≤◌, Bool, true, false, true≢false, List, [], ◌∷◌, ◌++◌, map, Option, Some, None, inl, inr, refl, sym, ap, ap₂, ◌∙◌, subst, arith, append_assoc, append-nil}
use Rattle.wy_reading.specs.Rule.{Or, Refused, Unless}
use Rattle.wy_ast.specs.declared.expressions.Expr.{Expr}
use Rattle.wy_ast.specs.declared.statements.Stmt.{Stmt}
use Rattle.wy_ast.specs.declared.statements.StmtKind.TheVariants as stmt
use Rattle.wy_ast.specs.declared.statements.Case.{Case}
use Rattle.wy_parse_front.specs.wy_lex.declared.token.Token.{Token}
use Rattle.wy_parse_front.specs.wy_lex.declared.token.TokenKind.TheVariants as k
use Rattle.wy_parse_front.specs.wy_lex.Layout.{token}
use Rattle.wy_print.specs.StmtText.{ShownStmt, shown_stmt}
use Rattle.wy_parse_front.specs.wy_parse_grammar.declared.fault.Kind.TheVariants.{Deep}
use Rattle.wy_parse_front.specs.wy_parse_grammar.declared.measured.Measured.TheVariants.{Low}
use Rattle.wy_parse_front.specs.wy_parse_grammar.declared.sort.Class.TheVariants as kinds
use Rattle.wy_parse_front.specs.wy_parse_grammar.Sorts as t
use Rattle.wy_parse_front.specs.wy_parse_grammar.Sorts.{has, is}
use Rattle.wy_parse_front.specs.wy_parse_grammar.Steps.{R, Mark, Placed}
use Rattle.wy_parse_front.specs.wy_parse_grammar.Trees.{both, made, pushed, none, some}
use Rattle.wy_parse_front.specs.wy_parse_grammar.ExprGrammar.{E, Expr_, SumIn, ArgsIn}
use Rattle.wy_parse_front.specs.wy_parse.StmtTrees as trees
use Rattle.wy_parse_front.specs.wy_parse.StmtTrees.{S, Stmts, Cases}
use Rattle.wy_parse_front.specs.wy_parse.StmtGrammar as grammar
use Rattle.wy_parse_front.specs.wy_parse.BlockGrammar.{CaseList, IfStmt, WhileStmt, DoStmt, ForStmt, CaseRest, Default, LastOut, Nest, width, Switch, Statement, BlockOf, Block, ShutBlock, nest}
use Rattle.wy_print_laws.proofs.round_lemmas.Pieces.{colon_behind}
use Rattle.wy_print_laws.proofs.round_lemmas.Heights.{pushed-low, made-low, both-low, same_part}
use Rattle.wy_print_laws.proofs.round_lemmas.Gives.{Gives, gives-pure, gives-then, gives-or, gives-loop, gives-less, gives-refused, gives-unless, gives-mark}
use Rattle.wy_print_laws.proofs.round_lemmas.Commas.{mark-reads, map-append}
use Rattle.wy_print_laws.proofs.round_lemmas.TypeRound as types
use Rattle.wy_print_laws.proofs.round_lemmas.ExprLines.{IsPart, From, whole-of}
use Rattle.wy_print_laws.proofs.round_lemmas.ExprInside.{IsArgs}
use Rattle.wy_print_laws.proofs.round_lemmas.ExprOperators.{gives-sum}
use Rattle.wy_print_laws.proofs.round_lemmas.ExprGives.{gives-level, gives-arg_list}
use Rattle.wy_print_laws.specs.round.StatementRound.{StatementOn}
use Rattle.wy_print_laws.proofs.round_lemmas.Lines.{Line, behind, Good}
use Rattle.wy_print_laws.proofs.round_lemmas.StmtShown.{View, switch-shown}
use Rattle.wy_print_laws.proofs.round_lemmas.StmtLines.{Follows, follows-deeper, colon-led, opened, left, entry-new, block-ends}
use Rattle.wy_print_laws.proofs.round_lemmas.StmtOne.{StmtAgain, IsStmt, again-by, stmt_node-low, gives-word, gives-return, gives-assert}
use Rattle.wy_print_laws.proofs.round_lemmas.StmtNamed.{Declares, gives-declared}
use Rattle.wy_print_laws.proofs.round_lemmas.StmtCalls.{gives-named}
use Rattle.wy_print_laws.proofs.round_lemmas.StmtBlocks.{AStmt, stmts_of, all_lines, follows-lines, lines-spelled, stmts-read, BlockAgain}
use Rattle.wy_print_laws.proofs.round_lemmas.StmtLoops.{AnyBlock, gives-while, gives-do, gives-for}
use Rattle.wy_print_laws.proofs.round_lemmas.StmtChoices.{IsBlock, IsBranch, gives-if}
use Rattle.wy_print_laws.proofs.round_lemmas.StmtLabels.{LabelsAgain, gives-labels}
use Rattle.wy_print_laws.proofs.round_lemmas.StmtSwitches.{CasesAgain, HeadedCases, Any, Nothing, CaseThen, SwitchOf, case_of, headed-by, headed-again, case-headed, default-headed, last-again, again-wide, switch-again}

-- ---- statements of a level

-- one that is read again; where it is an 'if' the other rule reads it too
pub record Inner (rule branch : R S) (s : Stmt) : Type 0 where
  pub again : StmtAgain rule s
  pub as_if : (shown_stmt s).is_if ≡ true → StmtAgain branch s

pub record IsInner (rule branch : R S) (s : S) : Type 0 where
  pub low : (x : Stmt) (h : ℕ) → s ≡ Low x h → Inner rule branch x

plain-inner : (rule wide branch : R S) (s : S) → ((i : List Token) (x : S) (j : List Token) → rule.reads i x j → wide.reads i x j) → IsStmt rule s → IsInner wide branch s
plain-inner rule wide branch s f p = record {
  low = λ x h e.
      let q = p.low x h e in
      record { again = again-by rule wide x f q.again; as_if = λ g. absurd (true≢false (sym g ∙ q.plain)) };
}

branch-inner : (wide branch : R S) (s : S) → ((i : List Token) (x : S) (j : List Token) → branch.reads i x j → wide.reads i x j) → IsBranch branch s → IsInner wide branch s
branch-inner wide branch s f p = record {
  low = λ x h e.
      let q = p.low x h e in
      record { again = again-by branch wide x f q.again; as_if = λ g. q.again };
}

any-block : (rule : R Stmts) (branch : R S) (b : Stmts) → IsBlock rule branch b → AnyBlock rule b
any-block rule branch b p = record { low = λ ss h e. let q = p.low ss h e in q.again }

-- ---- blocks

module _ (levels : ℕ) (below : Nest) (alone : R Cases) (branch : R S) where
  abbrev pub Inside : R S
  Inside = Statement true levels below alone

  abbrev pub Whole : R Stmts
  Whole = BlockOf true levels below alone

  pub block-again : (x : AStmt Inside) (xs : List (AStmt Inside)) → BlockAgain Whole (stmts_of Inside (x ∷ xs))
  unfolding BlockOf
  block-again x xs = record {
    inner = λ n. all_lines Inside n (x ∷ xs);
    spelled = λ n. lines-spelled Inside n (x ∷ xs);
    good = λ n ls f.
        let deeper : Follows (suc n) ls = follows-deeper n (suc n) ls (omega arith) f in (
          x.again.is_body,
          x.again.own,
          inr (refl, refl),
          subst (λ (c : Bool). Good (suc n) c ((x.again.rest (suc n) ++ all_lines Inside (suc n) xs) ++ ls)) (colon-led false true x.again.first x.again.is_body)
              (subst (λ (l : List Line). Good (suc n) (colon_behind false x.again.first) l) (sym (append_assoc (x.again.rest (suc n)) (all_lines Inside (suc n) xs) ls))
              (x.again.good (suc n) (all_lines Inside (suc n) xs ++ ls) (follows-lines Inside (suc n) xs ls deeper))),
        );
    reads = λ n end at ls f.
        let deeper : Follows (suc n) ls = follows-deeper n (suc n) ls (omega arith) f in
        let rest : List Line = all_lines Inside (suc n) xs ++ ls in
        let start : List Token = opened at x.again.first (suc n) (x.again.rest (suc n) ++ rest) in
        let r = x.again.reads (suc n) at rest (follows-lines Inside (suc n) xs ls deeper) in
        let q = stmts-read Inside r.place (suc n) xs (r.tree ∷ []) ls deeper in
        let o = block-ends q.place n ls f in
        let text_is : behind end at n (all_lines Inside (suc n) (x ∷ xs) ++ ls) ≡ token k.LineEnd end ∷ token k.BlockIn at ∷ start =
        ap (λ (l : List Token). token k.LineEnd end ∷ (l ++ opened at x.again.first (suc n) ((x.again.rest (suc n) ++ all_lines Inside (suc n) xs) ++ ls))) (entry-new n at)
        ∙ ap (λ (l : List Line). token k.LineEnd end ∷ token k.BlockIn at ∷ opened at x.again.first (suc n) l) (append_assoc (x.again.rest (suc n)) (all_lines Inside (suc n) xs) ls) in
        let out : (Mark t.BLOCK_OUT).reads (left q.place (suc n) ls) o.place (left q.place n ls) =
        subst (λ (l : List Token). (Mark t.BLOCK_OUT).reads l o.place (left q.place n ls)) (sym o.is) (mark-reads t.BLOCK_OUT k.BlockOut o.place (left q.place n ls) refl) in
        let path : Whole.reads (token k.LineEnd end ∷ token k.BlockIn at ∷ start) (Low (r.tree ∷ q.read) 0) (left q.place n ls) = (
          end,
          token k.BlockIn at ∷ start,
          mark-reads t.LINE_END k.LineEnd end (token k.BlockIn at ∷ start) refl,
          (
            at,
            start,
            mark-reads t.BLOCK_IN k.BlockIn at start refl,
            (
              Low (r.tree ∷ []) 0,
              left r.place (suc n) rest,
              (Low r.tree 0, left r.place (suc n) rest, r.reads, (refl, refl)),
              (Low (r.tree ∷ q.read) 0, left q.place (suc n) ls, q.turns, (o.place, left q.place n ls, out, (refl, refl))),
            ),
          ),
        ) in
        record {
          trees = r.tree ∷ q.read;
          place = q.place;
          same = Rattle.std.proofs.Common.ap₂ (λ (v : View) (vs : List View). v ∷ vs) r.same q.same;
          reads = subst (λ (i : List Token). Whole.reads i (Low (r.tree ∷ q.read) 0) (left q.place n ls)) (sym text_is) path;
        };
  }

  -- what was read of statements
  record SomeStmts (ss : List Stmt) : Type 0 where
    pub first : AStmt Inside
    pub first_if : (shown_stmt first.stmt_is).is_if ≡ true → StmtAgain branch first.stmt_is
    pub others : List (AStmt Inside)
    pub are : ss ≡ stmts_of Inside (first ∷ others)

  record AreSome (acc : Stmts) : Type 0 where
    pub low : (ss : List Stmt) (h : ℕ) → acc ≡ Low ss h → SomeStmts ss

  first-some : (st : S) → IsInner Inside branch st → AreSome (pushed none st)
  first-some st p = record {
    low = λ ss h e.
        let u = pushed-low none st ss h e in
        let nothing : [] ≡ u.front = same_part [] u.front 0 u.front_height u.front_is in
        let q = p.low u.last u.last_height u.last_is in
        record {
          first = record { stmt_is = u.last; again = q.again };
          first_if = q.as_if;
          others = [];
          are = u.value ∙ ap (λ (l : List Stmt). l ++ u.last ∷ []) (sym nothing);
        };
  }

  more-some : (acc : Stmts) (st : S) → AreSome acc → IsInner Inside branch st → AreSome (pushed acc st)
  more-some acc st r p = record {
    low = λ ss h e.
        let u = pushed-low acc st ss h e in
        let f = r.low u.front u.front_height u.front_is in
        let q = p.low u.last u.last_height u.last_is in
        let last : AStmt Inside = record { stmt_is = u.last; again = q.again } in
        record {
          first = f.first;
          first_if = f.first_if;
          others = f.others ++ last ∷ [];
          are = u.value ∙ (ap (λ (l : List Stmt). l ++ u.last ∷ []) f.are ∙ sym (map-append (λ (y : AStmt Inside). y.stmt_is) (f.first ∷ f.others) (last ∷ [])));
        };
  }

  some-block : (b : Stmts) → AreSome b → IsBlock Whole branch b
  some-block b r = record {
    low = λ ss h e.
        let f = r.low ss h e in
        record {
          first = f.first.stmt_is;
          others = stmts_of Inside f.others;
          are = f.are;
          again = subst (λ (l : List Stmt). BlockAgain Whole l) (sym f.are) (block-again f.first f.others);
          lone = λ n. f.first_if;
        };
  }

  pub gives-block_of : Gives Inside (IsInner Inside branch) → Gives Whole (IsBlock Whole branch)
  unfolding BlockOf
  gives-block_of inside =
      gives-then (gives-mark t.LINE_END) (λ e h. gives-then (gives-mark t.BLOCK_IN) (λ a g.
      gives-then (gives-then inside (λ st p. gives-pure (pushed none st) AreSome (first-some st p))) (λ ss r.
      gives-then (gives-loop (λ acc q. gives-then inside (λ st p. gives-pure (pushed acc st) AreSome (more-some acc st q p))) ss r) (λ all q.
      gives-then (gives-mark t.BLOCK_OUT) (λ o f. gives-pure all (IsBlock Whole branch) (some-block all q))))))

-- ---- cases

-- what was read of the rest of a switch: what stands behind those that were read before is read again
pub record CasesOf (rule : CaseList → R Cases) (acc : CaseList) (all : List Case × Option (List Stmt)) : Type 0 where
  pub front : List Case
  pub front_height : ℕ
  pub front_is : acc ≡ Low front front_height
  pub rest : List Case
  pub are : all.0 ≡ front ++ rest
  pub again : CasesAgain rule rest all.1

pub record IsCases (rule : CaseList → R Cases) (acc : CaseList) (x : Cases) : Type 0 where
  pub low : (all : List Case × Option (List Stmt)) (h : ℕ) → x ≡ Low all h → CasesOf rule acc all

-- likewise, where it begins with a line of its own
record HeadedOf (rule : CaseList → R Cases) (acc : CaseList) (all : List Case × Option (List Stmt)) : Type 0 where
  pub front : List Case
  pub front_height : ℕ
  pub front_is : acc ≡ Low front front_height
  pub rest : List Case
  pub are : all.0 ≡ front ++ rest
  pub headed : HeadedCases (λ (bs : List Case). rule (Low bs 0)) Any rest all.1

record IsHeadedOf (rule : CaseList → R Cases) (acc : CaseList) (x : Cases) : Type 0 where
  pub low : (all : List Case × Option (List Stmt)) (h : ℕ) → x ≡ Low all h → HeadedOf rule acc all

-- what stands in a switch
pub record IsHeaded (rule : R Cases) (x : Cases) : Type 0 where
  pub low : (all : List Case × Option (List Stmt)) (h : ℕ) → x ≡ Low all h → HeadedCases (λ (bs : List Case). rule) Nothing all.0 all.1

headed-cases : (rule wide : CaseList → R Cases) (acc : CaseList) (x : Cases) → ((bs : CaseList) (i : List Token) (y : Cases) (j : List Token) → (rule bs).reads i y j → (wide bs).reads i y j) → IsHeadedOf rule acc x → IsCases wide acc x
headed-cases rule wide acc x f p = record {
  low = λ all h e.
      let q = p.low all h e in
      record { front = q.front; front_height = q.front_height; front_is = q.front_is; rest = q.rest; are = q.are; again = again-wide rule wide q.rest all.1 f (headed-again rule q.rest all.1 q.headed) };
}

-- a switch begins with nothing read
headed-inside : (rule : CaseList → R Cases) (wide : R Cases) (x : Cases) → ((i : List Token) (y : Cases) (j : List Token) → (rule none).reads i y j → wide.reads i y j) → IsHeadedOf rule none x → IsHeaded wide x
headed-inside rule wide x f p = record {
  low = λ all h e.
      let q = p.low all h e in
      let nothing : [] ≡ q.front = same_part [] q.front 0 q.front_height q.front_is in
      let are : q.rest ≡ all.0 = sym (q.are ∙ ap (λ (l : List Case). l ++ q.rest) (sym nothing)) in
      headed-by (λ (bs : List Case). rule (Low bs 0)) (λ (bs : List Case). wide) Any Nothing all.0 all.1
      (λ bs empty. (tt, λ i y j r. f i y j (subst (λ (l : List Case). (rule (Low l 0)).reads i y j) empty r)))
      (subst (λ (l : List Case). HeadedCases (λ (bs : List Case). rule (Low bs 0)) Any l all.1) are q.headed);
}

-- a case that was read
record CaseOf (rule : R Stmts) (acc : CaseList) (cs : List Case) : Type 0 where
  pub front : List Case
  pub front_height : ℕ
  pub front_is : acc ≡ Low front front_height
  pub labels : List Expr
  pub labels_again : LabelsAgain labels
  pub body : List Stmt
  pub body_again : BlockAgain rule body
  pub are : cs ≡ front ++ case_of labels body ∷ []

record IsCaseOf (rule : R Stmts) (acc : CaseList) (cs : CaseList) : Type 0 where
  pub low : (all : List Case) (h : ℕ) → cs ≡ Low all h → CaseOf rule acc all

case-of : (rule : R Stmts) (acc : CaseList) (labels : List Expr) (body : Stmts) → LabelsAgain labels → AnyBlock rule body → IsCaseOf rule acc (pushed acc (trees.case_node labels body))
case-of rule acc labels body l p = record {
  low = λ all h e.
      let u = pushed-low acc (trees.case_node labels body) all h e in
      let m = made-low (λ (b : List Stmt). case_of labels b) body u.last u.last_height u.last_is in
      record {
        front = u.front;
        front_height = u.front_height;
        front_is = u.front_is;
        labels = labels;
        labels_again = l;
        body = m.of;
        body_again = p.low m.of u.last_height m.is;
        are = u.value ∙ ap (λ (c : Case). u.front ++ c ∷ []) m.value;
      };
}

gives-case_rest : (rule : R Stmts) → Gives rule (AnyBlock rule) → (acc : CaseList) → Gives (CaseRest rule acc) (IsCaseOf rule acc)
unfolding CaseRest
gives-case_rest rule blocks acc =
    gives-then gives-labels (λ ls l. gives-then (gives-mark t.COLON) (λ c h. gives-then blocks (λ body p. gives-pure (pushed acc (trees.case_node ls body)) (IsCaseOf rule acc) (case-of rule acc ls body l p))))

case-then : (rule : R Stmts) (inner : CaseList → R Cases) (acc cs : CaseList) (x : Cases) → IsCaseOf rule acc cs → IsCases inner cs x → IsHeadedOf (CaseThen rule inner) acc x
case-then rule inner acc cs x p q = record {
  low = λ all h e.
      let w = q.low all h e in
      let u = p.low w.front w.front_height w.front_is in
      record {
        front = u.front;
        front_height = u.front_height;
        front_is = u.front_is;
        rest = case_of u.labels u.body ∷ w.rest;
        are = w.are ∙ (ap (λ (l : List Case). l ++ w.rest) u.are ∙ append_assoc u.front (case_of u.labels u.body ∷ []) w.rest);
        headed = case-headed rule inner u.labels u.body w.rest all.1 u.labels_again u.body_again w.again;
      };
}

gives-case : (rule : R Stmts) (inner : CaseList → R Cases) → Gives rule (AnyBlock rule) → ((cs : CaseList) → Gives (inner cs) (IsCases inner cs)) → (acc : CaseList) → Gives (CaseThen rule inner acc) (IsHeadedOf (CaseThen rule inner) acc)
gives-case rule inner blocks cases acc = gives-then (gives-mark t.CASE) (λ at h. gives-then (gives-case_rest rule blocks acc) (λ cs p. gives-less (λ x q. case-then rule inner acc cs x p q) (cases cs)))

default-of : (rule : R Stmts) (acc : CaseList) (body : Stmts) → AnyBlock rule body → IsHeadedOf (Default rule) acc (both acc (some body))
default-of rule acc body p = record {
  low = λ all h e.
      let u = both-low acc (some body) all h e in
      let m = made-low Some body u.second u.second_height u.second_is in
      let first : u.first ≡ all.0 = ap (λ (z : List Case × Option (List Stmt)). z.0) (sym u.value) in
      let second : Some m.of ≡ all.1 = sym (ap (λ (z : List Case × Option (List Stmt)). z.1) u.value ∙ m.value) in
      record {
        front = u.first;
        front_height = u.first_height;
        front_is = u.first_is;
        rest = [];
        are = sym (append-nil u.first ∙ first);
        headed = subst (λ (z : Option (List Stmt)). HeadedCases (λ (bs : List Case). Default rule (Low bs 0)) Any [] z) second (default-headed rule m.of (p.low m.of u.second_height m.is));
      };
}

gives-default : (rule : R Stmts) → Gives rule (AnyBlock rule) → (acc : CaseList) → Gives (Default rule acc) (IsHeadedOf (Default rule) acc)
unfolding Default
gives-default rule blocks acc =
    gives-then (gives-mark t.DEFAULT) (λ at h. gives-then (gives-mark t.COLON) (λ c g. gives-then blocks (λ body p. gives-then (gives-mark t.BLOCK_OUT) (λ o f. gives-pure (both acc (some body)) (IsHeadedOf (Default rule) acc) (default-of rule acc body p)))))

last-of : (acc : CaseList) → IsCases LastOut acc (both acc (Low None 0))
last-of acc = record {
  low = λ all h e.
      let u = both-low acc (Low None 0) all h e in
      let nothing : None ≡ u.second = same_part None u.second 0 u.second_height u.second_is in
      let first : u.first ≡ all.0 = ap (λ (z : List Case × Option (List Stmt)). z.0) (sym u.value) in
      let second : None ≡ all.1 = nothing ∙ sym (ap (λ (z : List Case × Option (List Stmt)). z.1) u.value) in
      record {
        front = u.first;
        front_height = u.first_height;
        front_is = u.first_is;
        rest = [];
        are = sym (append-nil u.first ∙ first);
        again = subst (λ (z : Option (List Stmt)). CasesAgain LastOut [] z) second last-again;
      };
}

gives-last : (acc : CaseList) → Gives (LastOut acc) (IsCases LastOut acc)
unfolding LastOut
gives-last acc = gives-then (gives-mark t.BLOCK_OUT) (λ o f. gives-pure (both acc (Low None 0)) (IsCases LastOut acc) (last-of acc))

wide-cases : (rule wide : CaseList → R Cases) (acc : CaseList) (x : Cases) → ((bs : CaseList) (i : List Token) (y : Cases) (j : List Token) → (rule bs).reads i y j → (wide bs).reads i y j) → IsCases rule acc x → IsCases wide acc x
wide-cases rule wide acc x f p = record {
  low = λ all h e.
      let q = p.low all h e in
      record { front = q.front; front_height = q.front_height; front_is = q.front_is; rest = q.rest; are = q.are; again = again-wide rule wide q.rest all.1 f q.again };
}

-- ---- what stands on a level

pub record NestAgain (below : Nest) : Type 0 where
  pub blocks : Gives below.block (IsBlock below.block below.branch)
  pub branches : Gives below.branch (IsBranch below.branch)
  pub cases : (cs : CaseList) → Gives (below.cases cs) (IsCases below.cases cs)

gives-placed : {A : Type 0} {P : A → Type 0} {rule : R A} → Gives rule P → Gives (Placed rule) (λ (a : ℕ × A). P a.1)
gives-placed h = record { gives = λ i a j r p. h.gives i a.1 j r.1 p }

gives-declare : (n : ℕ) → Gives (Expr_ true n) (IsPart (From 0) n) → Gives (Unless (is t.NAME) (grammar.DeclareStmt true n)) (IsStmt (Declares n))
unfolding grammar.DeclareStmt
gives-declare n expr = gives-unless (is t.NAME) (gives-then (gives-placed (types.gives-type n)) (λ p q. gives-declared n p.0 p.1 expr q))

gives-args_in : (n : ℕ) → Gives (ArgsIn true n) (IsArgs n)
unfolding ArgsIn
gives-args_in n = let l = gives-level n in gives-arg_list n l.unary l.expr

gives-sum_in : (n : ℕ) → Gives (SumIn true n) (IsPart (From 4) n)
unfolding SumIn
gives-sum_in n = let l = gives-level n in gives-sum n l.unary

-- over the level inside, and over what a default without cases reads
module _ (d : ℕ) (below : Nest) (inner : NestAgain below) (alone : R Cases) (alone_is : Gives alone (IsHeaded alone)) where
  abbrev BranchOf : R S
  BranchOf = IfStmt true (suc d) below.block below.branch

  abbrev Inner_ : R S
  Inner_ = Statement true (suc d) below alone

  abbrev In : R Cases
  In = Or (CaseThen below.block below.cases none) alone

  blocks_any : Gives below.block (AnyBlock below.block)
  blocks_any = gives-less (λ b p. any-block below.block below.branch b p) inner.blocks

  gives-in : Gives In (IsHeaded In)
  gives-in =
      gives-or (gives-less (λ x p. headed-inside (CaseThen below.block below.cases) In x (λ i y j r. inl r) p) (gives-case below.block below.cases blocks_any inner.cases none))
      (gives-less (λ x p. record { low = λ all h e. headed-by (λ (bs : List Case). alone) (λ (bs : List Case). In) Nothing Nothing all.0 all.1 (λ bs q. (q, λ i y j r. inr r)) (p.low all h e) }) alone_is)

  switch-part : (at : ℕ) (x : E) (cs : Cases) → IsPart (From 0) (suc d) x → IsHeaded In cs → IsStmt (SwitchOf (suc d) In) (trees.switch_node at x cs)
  switch-part at x cs p q = record {
    low = λ s h e.
        let f = λ (c : Expr × (List Case × Option (List Stmt))). stmt.Switch c.0 c.1.0 c.1.1 in
        let o = stmt_node-low at (made f (both x cs)) s h e in
        let m = made-low f (both x cs) o.kind o.below o.is in
        let u = both-low x cs m.of o.below m.is in
        let is : s.kind ≡ stmt.Switch u.first u.second.0 u.second.1 = o.kind_is ∙ (m.value ∙ ap f u.value) in
        record {
          again = switch-again (suc d) In s u.first u.first_height u.second.0 u.second.1 is (whole-of (From 0) (suc d) u.first u.first_height (p.low u.first u.first_height u.first_is)) (q.low u.second u.second_height u.second_is);
          plain = ap (λ (w : ShownStmt). w.is_if) (switch-shown s u.first u.second.0 u.second.1 is);
        };
  }

  gives-switch : Gives (Switch true (suc d) below alone) (IsStmt (SwitchOf (suc d) In))
  unfolding Switch
  gives-switch =
      let l = gives-level (suc d) in
      gives-then (gives-mark t.SWITCH) (λ at h. gives-then l.expr (λ x p. gives-then (gives-mark t.COLON) (λ c g. gives-then (gives-mark t.LINE_END) (λ e f. gives-then (gives-mark t.BLOCK_IN) (λ b i. gives-then gives-in (λ cs q.
      gives-pure (trees.switch_node at x cs) (IsStmt (SwitchOf (suc d) In)) (switch-part at x cs p q)))))))

  switch_inner : (i : List Token) (x : S) (j : List Token) → (SwitchOf (suc d) In).reads i x j → Inner_.reads i x j
  unfolding Statement Switch
  switch_inner i x j r = inl r

  declares_inner : (i : List Token) (x : S) (j : List Token) → (Declares (suc d)).reads i x j → Inner_.reads i x j
  unfolding Statement
  declares_inner i x j (inl r) = inr (inl r)
  declares_inner i x j (inr r) = inr (inr (inr (inr (inr (inr (inr (inr (inr r))))))))

  return_inner : (i : List Token) (x : S) (j : List Token) → (grammar.ReturnStmt true (suc d)).reads i x j → Inner_.reads i x j
  unfolding Statement
  return_inner i x j r = inr (inr (inl r))

  assert_inner : (i : List Token) (x : S) (j : List Token) → (grammar.AssertStmt true (suc d)).reads i x j → Inner_.reads i x j
  unfolding Statement
  assert_inner i x j r = inr (inr (inr (inl r)))

  word_inner : (i : List Token) (x : S) (j : List Token) → grammar.WordStmt.reads i x j → Inner_.reads i x j
  unfolding Statement
  word_inner i x j r = inr (inr (inr (inr (inl r))))

  if_inner : (i : List Token) (x : S) (j : List Token) → BranchOf.reads i x j → Inner_.reads i x j
  unfolding Statement
  if_inner i x j r = inr (inr (inr (inr (inr (inl r)))))

  while_inner : (i : List Token) (x : S) (j : List Token) → (WhileStmt true (suc d) below.block).reads i x j → Inner_.reads i x j
  unfolding Statement
  while_inner i x j r = inr (inr (inr (inr (inr (inr (inl r))))))

  do_inner : (i : List Token) (x : S) (j : List Token) → (DoStmt true (suc d) below.block).reads i x j → Inner_.reads i x j
  unfolding Statement
  do_inner i x j r = inr (inr (inr (inr (inr (inr (inr (inl r)))))))

  for_inner : (i : List Token) (x : S) (j : List Token) → (ForStmt true (suc d) below.block).reads i x j → Inner_.reads i x j
  unfolding Statement
  for_inner i x j r = inr (inr (inr (inr (inr (inr (inr (inr (inl r))))))))

  as_inner : (rule : R S) → ((i : List Token) (x : S) (j : List Token) → rule.reads i x j → Inner_.reads i x j) → {some : R S} → Gives some (IsStmt rule) → Gives some (IsInner Inner_ BranchOf)
  as_inner rule f h = gives-less (λ s p. plain-inner rule Inner_ BranchOf s f p) h

  gives-statement : Gives Inner_ (IsInner Inner_ BranchOf)
  unfolding Statement
  gives-statement =
      let l = gives-level (suc d) in
      let m = gives-level d in
      gives-or (as_inner (SwitchOf (suc d) In) switch_inner gives-switch)
      (gives-or (as_inner (Declares (suc d)) declares_inner (gives-named d l.expr m.expr (gives-args_in d)))
      (gives-or (as_inner (grammar.ReturnStmt true (suc d)) return_inner (gives-return (suc d) l.expr))
      (gives-or (as_inner (grammar.AssertStmt true (suc d)) assert_inner (gives-assert (suc d) l.expr))
      (gives-or (as_inner grammar.WordStmt word_inner gives-word)
      (gives-or (gives-less (λ s p. branch-inner Inner_ BranchOf s if_inner p) (gives-if (suc d) below.block below.branch l.expr inner.blocks inner.branches))
      (gives-or (as_inner (WhileStmt true (suc d) below.block) while_inner (gives-while (suc d) below.block l.expr blocks_any))
      (gives-or (as_inner (DoStmt true (suc d) below.block) do_inner (gives-do (suc d) below.block l.expr blocks_any))
      (gives-or (as_inner (ForStmt true (suc d) below.block) for_inner (gives-for (suc d) below.block l.expr (gives-sum_in (suc d)) blocks_any))
      (as_inner (Declares (suc d)) declares_inner (gives-declare (suc d) l.expr))))))))))

  gives-blocks : Gives (BlockOf true (suc d) below alone) (IsBlock (BlockOf true (suc d) below alone) BranchOf)
  gives-blocks = gives-block_of (suc d) below alone BranchOf gives-statement

gives-block : (d : ℕ) (below : Nest) → NestAgain below → (w : ℕ) → Gives (Block true (suc d) below w) (IsBlock (Block true (suc d) below w) (IfStmt true (suc d) below.block below.branch))
unfolding Block
gives-block d below inner zero = gives-blocks d below inner (Refused (is t.DEFAULT) Deep) (gives-refused (IsHeaded (Refused (is t.DEFAULT) Deep)) (is t.DEFAULT) Deep)
gives-block d below inner (suc w) =
    let rule = Block true (suc d) below w in
    gives-blocks d below inner (Default rule none)
    (gives-less (λ x p. headed-inside (Default rule) (Default rule none) x (λ i y j r. r) p) (gives-default rule (gives-less (λ b p. any-block rule (IfStmt true (suc d) below.block below.branch) b p) (gives-block d below inner w)) none))

gives-shut : (branch : R S) → Gives ShutBlock (IsBlock ShutBlock branch)
unfolding ShutBlock
gives-shut branch = gives-then (gives-mark t.LINE_END) (λ l h. gives-then (gives-mark t.BLOCK_IN) (λ b g. gives-refused (IsBlock ShutBlock branch) (has kinds.Statement) Deep))

-- the rest of a switch on a level
abbrev CasesOn : (CaseList → R Cases) → R Stmts → CaseList → R Cases
CasesOn first rule cs = Or (first cs) (Or (Default rule cs) (LastOut cs))

gives-cases_on : (first : CaseList → R Cases) (rule : R Stmts) → ((cs : CaseList) → Gives (first cs) (IsHeadedOf first cs)) → Gives rule (AnyBlock rule) → (cs : CaseList) → Gives (CasesOn first rule cs) (IsCases (CasesOn first rule) cs)
gives-cases_on first rule cases blocks cs =
    gives-or (gives-less (λ x p. headed-cases first (CasesOn first rule) cs x (λ bs i y j r. inl r) p) (cases cs))
    (gives-or (gives-less (λ x p. headed-cases (Default rule) (CasesOn first rule) cs x (λ bs i y j r. inr (inl r)) p) (gives-default rule blocks cs))
    (gives-less (λ x p. wide-cases LastOut (CasesOn first rule) cs x (λ bs i y j r. inr (inr r)) p) (gives-last cs)))

pub again-nest : (n : ℕ) → NestAgain (nest true n)
unfolding nest
again-nest zero =
    let refused : CaseList → R Cases = λ cs. Refused (is t.CASE) Deep in
    record {
      blocks = gives-shut (Refused (is t.IF) Deep);
      branches = gives-refused (IsBranch (Refused (is t.IF) Deep)) (is t.IF) Deep;
      cases = gives-cases_on refused ShutBlock (λ cs. gives-refused (IsHeadedOf refused cs) (is t.CASE) Deep) (gives-less (λ b p. any-block ShutBlock (Refused (is t.IF) Deep) b p) (gives-shut (Refused (is t.IF) Deep)));
    }
again-nest (suc d) =
    let below = nest true d in
    let inner = again-nest d in
    let branch = IfStmt true (suc d) below.block below.branch in
    let l = gives-level (suc d) in
    let blocks_any = gives-less (λ b p. any-block below.block below.branch b p) inner.blocks in
    let block_is = gives-block d below inner width in
    record {
      blocks = block_is;
      branches = gives-if (suc d) below.block below.branch l.expr inner.blocks inner.branches;
      cases = gives-cases_on (CaseThen below.block below.cases) (Block true (suc d) below width) (gives-case below.block below.cases blocks_any inner.cases) (gives-less (λ b p. any-block (Block true (suc d) below width) branch b p) block_is);
    }

-- ---- a statement by itself

pub gives-statement_on : (d w : ℕ) → Gives (StatementOn d w) (IsInner (StatementOn d w) (IfStmt true (suc d) (nest true d).block (nest true d).branch))
gives-statement_on d w =
    let below = nest true d in
    let rule = Block true (suc d) below w in
    let inner = again-nest d in
    gives-statement d below inner (Default rule none)
    (gives-less (λ x p. headed-inside (Default rule) (Default rule none) x (λ i y j r. r) p) (gives-default rule (gives-less (λ b p. any-block rule (IfStmt true (suc d) below.block below.branch) b p) (gives-block d below inner w)) none))
