-- Functions and methods are read again: heads with contracts and a block.
use Rattle.std.proofs.Common.{◌≡◌, ℕ, suc, ◌+◌, max, true, List, [], ◌∷◌, ◌++◌, map, codes, Option, Some, None, inl, inr, refl, sym, ap, ap₂, ◌∙◌, subst, arith, append_assoc, append-nil}
use lib.Utf8.{encode}
use Rattle.wy_data.specs.Words.{IsName}
use Rattle.wy_ast.specs.declared.types.Ty.{Ty}
use Rattle.wy_ast.specs.declared.expressions.Expr.{Expr}
use Rattle.wy_ast.specs.declared.statements.Stmt.{Stmt}
use Rattle.wy_ast.specs.declared.declarations.Param.{Param}
use Rattle.wy_ast.specs.declared.declarations.Decl.{Decl}
use Rattle.wy_ast.specs.declared.declarations.Decl.TheVariants as decl
use Rattle.wy_parse_front.specs.wy_lex.declared.token.Token.{Token}
use Rattle.wy_parse_front.specs.wy_lex.declared.token.TokenKind.TheVariants as k
use Rattle.wy_parse_front.specs.wy_lex.Kinds.{word_kind}
use Rattle.wy_parse_front.specs.wy_lex.Layout.{token}
use Rattle.wy_print.specs.TypeText.{shown_ty}
use Rattle.wy_print.specs.ExprText.{expr_texts}
use Rattle.wy_print.specs.StmtText.{block, shown_stmt}
use Rattle.wy_print.specs.ProgramText.{param_texts, result_text}
use Rattle.wy_parse_front.specs.wy_parse_grammar.declared.measured.Measured.{Measured}
use Rattle.wy_parse_front.specs.wy_parse_grammar.declared.measured.Measured.TheVariants.{Low}
use Rattle.wy_parse_front.specs.wy_parse_grammar.Sorts as t
use Rattle.wy_parse_front.specs.wy_parse_grammar.Sorts.{is}
use Rattle.wy_parse_front.specs.wy_parse_grammar.Steps.{R}
use Rattle.wy_parse_front.specs.wy_parse_grammar.Trees.{both, some}
use Rattle.wy_parse_front.specs.wy_parse_grammar.ExprGrammar.{Expr_}
use Rattle.wy_parse_front.specs.wy_parse.StmtTrees.{Stmts}
use Rattle.wy_parse_front.specs.wy_parse.DeclTrees.{Params, Contract, D, given, function_node, method_node}
use Rattle.wy_parse_front.specs.wy_parse.ProgramGrammar.{Typed, MethodResult, AliasDecl, PropertyDecl, FunctionDecl, MethodDecl, Declaration}
use Rattle.wy_print_laws.proofs.round_lemmas.Pieces.{Piece, letters, size, tokens_from}
use Rattle.wy_print_laws.proofs.round_lemmas.Marks.{lower-mark}
use Rattle.wy_print_laws.proofs.round_lemmas.Segments.{text_of, text-both, leads-append, Item}
use Rattle.wy_print_laws.proofs.round_lemmas.Heights.{made-low, both-low, same_part, same_height}
use Rattle.wy_print_laws.proofs.round_lemmas.Gives.{Gives, gives-pure, gives-then, gives-or, gives-less, gives-unless, gives-mark, gives-name}
use Rattle.wy_print_laws.proofs.round_lemmas.Commas.{mark-reads, tokens-behind}
use Rattle.wy_print_laws.proofs.round_lemmas.Enclosed.{begins-letter, name-reads}
use Rattle.wy_print_laws.proofs.round_lemmas.TypeRound as types
use Rattle.wy_print_laws.proofs.round_lemmas.ExprShown as exprs
use Rattle.wy_print_laws.proofs.round_lemmas.ExprLines.{IsPart, From}
use Rattle.wy_print_laws.proofs.round_lemmas.Lines.{Line, behind, next_at}
use Rattle.wy_print_laws.proofs.round_lemmas.StmtShown.{View, view}
use Rattle.wy_print_laws.proofs.round_lemmas.StmtLines.{opened, left}
use Rattle.wy_print_laws.proofs.round_lemmas.StmtOne.{colon}
use Rattle.wy_print_laws.proofs.round_lemmas.StmtHeads.{head_first, following, AnExpr, exprs_of, heights, AreExprs, first-append, head-body, head-own}
use Rattle.wy_print_laws.proofs.round_lemmas.StmtBlocks.{BlockAgain, blocked_rest, blocked-good, blocked-text, blocked-tokens, colon_end, colon-block}
use Rattle.wy_print_laws.proofs.round_lemmas.StmtLoops.{AnyBlock}
use Rattle.wy_print_laws.proofs.round_lemmas.ProgramShown.{ParamView, view_param, named_text, sign_text, contract_lines, function_view, view_function, function-text, ResultView, view_result, result_shown-of, method_view, view_method}
use Rattle.wy_print_laws.proofs.round_lemmas.DeclTypes.{TypedAgain, IsTyped, alone-typed, gives-inner_type, gives-named_type, result-reads}
use Rattle.wy_print_laws.proofs.round_lemmas.DeclHeads.{IsParams, params-again, gives-parameters, IsDeclWord, SignAgain, sign-again, arrow_pieces, arrow-text, item-arrow, contract_pieces, are-contract, contract-lines, contract-read, gives-contract}
use Rattle.wy_print_laws.proofs.round_lemmas.DeclAgain.{DeclAgain, IsDecl, decl-by}
use Rattle.wy_print_laws.proofs.round_lemmas.DeclLines.{gives-alias, gives-property}

-- ---- words

function-word : IsDeclWord k.Function 102 (117 ∷ 110 ∷ 99 ∷ 116 ∷ 105 ∷ 111 ∷ 110 ∷ []) (codes "function ")
unfolding word_kind encode
function-word = record { written = lower-mark k.Function 102 (117 ∷ 110 ∷ 99 ∷ 116 ∷ 105 ∷ 111 ∷ 110 ∷ []) refl refl refl; begins = begins-letter 102 (omega arith) refl; flat = record { closed = λ d. refl }; own = refl; spelled = refl }

method-word : IsDeclWord k.Method 109 (101 ∷ 116 ∷ 104 ∷ 111 ∷ 100 ∷ []) (codes "method ")
unfolding word_kind encode
method-word = record { written = lower-mark k.Method 109 (101 ∷ 116 ∷ 104 ∷ 111 ∷ 100 ∷ []) refl refl refl; begins = begins-letter 109 (omega arith) refl; flat = record { closed = λ d. refl }; own = refl; spelled = refl }

-- ---- functions

abbrev function_of : ℕ → List ℕ → List Param → Ty → Option (List ℕ) → List Expr → List Expr → List Stmt → Decl
function_of at name params ty named pre post body =
    decl.Function (record { at = at; name = name; params = params; result = ty; result_name = named; preconditions = pre; postconditions = post; body = body })

function-regroup : (s a w c b : List ℕ) → ((s ++ (a ++ w)) ++ c) ++ b ≡ s ++ (a ++ (w ++ (c ++ b)))
function-regroup s a w c b =
    append_assoc (s ++ (a ++ w)) c b ∙ (append_assoc s (a ++ w) (c ++ b) ∙ ap (λ (x : List ℕ). s ++ x) (append_assoc a w (c ++ b)))

-- heights of a declaration with a body
abbrev contract_height : (n : ℕ) → List (AnExpr n) → List (AnExpr n) → ℕ
contract_height n xs ys = max (heights n 0 xs) (heights n 0 ys)

function-again : (n at : ℕ) (rule : R Stmts) (name : List ℕ) (params : List Param) (ty : Ty) (named : Option (List ℕ)) (xs ys : List (AnExpr (suc n))) (body : List Stmt) (h l : ℕ)
    → SignAgain n k.Function (codes "function ") name params h → TypedAgain n ty named l → BlockAgain rule body
    → DeclAgain (FunctionDecl true (suc n) rule) (function_of at name params ty named (exprs_of (suc n) xs) (exprs_of (suc n) ys) body)
unfolding FunctionDecl
function-again n at rule name params ty named xs ys body h l s a b =
    let ps : List Piece = s.pieces ++ (arrow_pieces ++ a.pieces) in
    let cs : List (List Piece) = contract_pieces (suc n) xs ys in
    let pre : List Expr = exprs_of (suc n) xs in
    let post : List Expr = exprs_of (suc n) ys in
    let height = max (max h l) (max (contract_height (suc n) xs ys) 0) in
    record {
      first = head_first ps cs colon;
      rest = blocked_rest 0 cs b.inner;
      spelled =
          let sign : List ℕ = sign_text (codes "function ") name (param_texts params) in
          let given_text : List ℕ = named_text (shown_ty ty) named in
          let lines : List ℕ = contract_lines (expr_texts pre) (expr_texts post) in
          blocked-text rule body b 0 ps cs (sign ++ (codes " -> " ++ given_text)) lines
          (text-both s.pieces (arrow_pieces ++ a.pieces) sign (codes " -> " ++ given_text) s.spelled (text-both arrow_pieces a.pieces (codes " -> ") given_text arrow-text a.spelled)) (contract-lines (suc n) xs ys)
          ∙ (function-regroup sign (codes " -> ") given_text lines (block [] (map shown_stmt body))
          ∙ sym (function-text (record { at = at; name = name; params = params; result = ty; result_name = named; preconditions = pre; postconditions = post; body = body })));
      is_body = head-body ps cs (item-arrow s.pieces a.pieces s.item a.item);
      own = head-own ps cs colon (leads-append s.pieces (arrow_pieces ++ a.pieces) s.item.leads) (first-append s.pieces (arrow_pieces ++ a.pieces) s.item.leads ∙ s.own);
      good = λ ls f. blocked-good rule body b 0 ps cs ls (are-contract (suc n) xs ys) f;
      reads = λ there ls f.
          let inner : List Line = b.inner 1 ++ ls in
          let sign_end = there + size (letters s.pieces) in
          let arrow_at = sign_end + 1 in
          let type_at = (arrow_at + size (45 ∷ 62 ∷ [])) + 1 in
          let next = there + size (letters ps) in
          let clauses : List Token = following next 0 cs colon inner in
          let type_text : List Token = tokens_from type_at a.pieces ++ clauses in
          let z = s.reads there (token k.Arrow arrow_at ∷ type_text) in
          let text_is : opened there (head_first ps cs colon) 0 (blocked_rest 0 cs b.inner ++ ls) ≡ token k.Function there ∷ token (k.Name name) z.name_at ∷ z.behind_name =
          blocked-tokens there 0 ps cs b.inner ls ∙ (tokens-behind there s.pieces (arrow_pieces ++ a.pieces) clauses ∙ z.is) in
          let r = a.reads type_at clauses in
          let c = contract-read (suc n) next xs ys colon inner in
          let q = colon-block rule body b c.place 0 ls f in
          let block_text : List Token = behind (colon_end c.place) (next_at (colon_end c.place) inner) 0 inner in
          let node : Decl = function_of there name z.params r.tree named c.pre c.post q.trees in
          let path : (FunctionDecl true (suc n) rule).reads (token k.Function there ∷ token (k.Name name) z.name_at ∷ z.behind_name) (Low node height) (left q.place 0 ls) = (
            there,
            token (k.Name name) z.name_at ∷ z.behind_name,
            mark-reads t.FUNCTION k.Function there (token (k.Name name) z.name_at ∷ z.behind_name) refl,
            (
              (z.name_at, name),
              z.behind_name,
              name-reads name z.name_at z.behind_name,
              (
                Low z.params h,
                token k.Arrow arrow_at ∷ type_text,
                z.reads,
                (
                  arrow_at,
                  type_text,
                  mark-reads t.ARROW k.Arrow arrow_at type_text refl,
                  (
                    (Low r.tree l, named),
                    clauses,
                    r.reads,
                    (
                      (Low c.pre (heights (suc n) 0 xs), Low c.post (heights (suc n) 0 ys)),
                      opened c.place colon 0 inner,
                      c.reads,
                      (c.place, block_text, mark-reads t.COLON k.Colon c.place block_text refl, (Low q.trees 0, left q.place 0 ls, q.reads, (refl, refl))),
                    ),
                  ),
                ),
              ),
            ),
          ) in
          record {
            tree = node;
            height = height;
            place = q.place;
            same = view_function (record { at = there; name = name; params = z.params; result = r.tree; result_name = named; preconditions = c.pre; postconditions = c.post; body = q.trees })
                ∙ (ap₂ (λ (vs : List ParamView) (w : types.View). function_view name vs w named (map exprs.view c.pre) (map exprs.view c.post) (map view q.trees)) z.same r.same
                ∙ (ap₂ (λ (vs us : List exprs.View). function_view name (map view_param params) (types.view ty) named vs us (map view q.trees)) c.same_pre c.same_post
                ∙ (ap (λ (ws : List View). function_view name (map view_param params) (types.view ty) named (map exprs.view pre) (map exprs.view post) ws) q.same
                ∙ sym (view_function (record { at = at; name = name; params = params; result = ty; result_name = named; preconditions = pre; postconditions = post; body = body })))));
            reads = subst (λ (i : List Token). (FunctionDecl true (suc n) rule).reads i (Low node height) (left q.place 0 ls)) (sym text_is) path;
          };
    }

function-part : (n at : ℕ) (rule : R Stmts) (name : List ℕ) (ps : Params) (x : Typed) (c : Contract) (b : Stmts) → IsName name → IsParams n ps → IsTyped n x → AreExprs (suc n) c.0 × AreExprs (suc n) c.1 → AnyBlock rule b
    → IsDecl (FunctionDecl true (suc n) rule) (function_node at name ps (given x.0 x.1) c b)
function-part n at rule name ps x c b v p q g o = record {
  low = λ d h e.
      let f = λ (u : (List Param × (Ty × Option (List ℕ))) × ((List Expr × List Expr) × List Stmt)). function_of at name u.0.0 u.0.1.0 u.0.1.1 u.1.0.0 u.1.0.1 u.1.1 in
      let m = made-low f (both (both ps (given x.0 x.1)) (both (both c.0 c.1) b)) d h e in
      let w = both-low (both ps (given x.0 x.1)) (both (both c.0 c.1) b) m.of h m.is in
      let i = both-low ps (given x.0 x.1) w.first w.first_height w.first_is in
      let j = both-low (both c.0 c.1) b w.second w.second_height w.second_is in
      let y = both-low c.0 c.1 j.first j.first_height j.first_is in
      let r = made-low (λ (ty : Ty). (ty, x.1)) x.0 i.second i.second_height i.second_is in
      let pre = g.0.low y.first y.first_height y.first_is in
      let post = g.1.low y.second y.second_height y.second_is in
      let one : m.of ≡ ((i.first, (r.of, x.1)), ((y.first, y.second), j.second)) =
      w.value ∙ ap₂ (λ (a : List Param × (Ty × Option (List ℕ))) (z : (List Expr × List Expr) × List Stmt). (a, z)) (i.value ∙ ap (λ (z : Ty × Option (List ℕ)). (i.first, z)) r.value) (j.value ∙ ap (λ (z : List Expr × List Expr). (z, j.second)) y.value) in
      let is : d ≡ function_of at name i.first r.of x.1 (exprs_of (suc n) pre.all) (exprs_of (suc n) post.all) j.second =
      m.value ∙ (ap f one ∙ ap₂ (λ (us vs : List Expr). function_of at name i.first r.of x.1 us vs j.second) pre.exprs_are post.exprs_are) in
      let a = params-again n i.first i.first_height (p.low i.first i.first_height i.first_is) in
      subst (λ (z : Decl). DeclAgain (FunctionDecl true (suc n) rule) z) (sym is)
      (function-again n at rule name i.first r.of x.1 pre.all post.all j.second i.first_height i.second_height
      (sign-again n k.Function 102 (117 ∷ 110 ∷ 99 ∷ 116 ∷ 105 ∷ 111 ∷ 110 ∷ []) (codes "function ") name i.first i.first_height function-word v a) (q.low r.of i.second_height r.is) (o.low j.second j.second_height j.second_is));
}

gives-function : (n : ℕ) (rule : R Stmts) → Gives (Expr_ true (suc n)) (IsPart (From 0) (suc n)) → Gives rule (AnyBlock rule) → Gives (FunctionDecl true (suc n) rule) (IsDecl (FunctionDecl true (suc n) rule))
unfolding FunctionDecl
gives-function n rule expr blocks =
    gives-then (gives-mark t.FUNCTION) (λ at h. gives-then gives-name (λ w v. gives-then (gives-parameters n) (λ ps p. gives-then (gives-mark t.ARROW) (λ r f. gives-then (gives-named_type n) (λ x q. gives-then (gives-contract (suc n) expr) (λ c g.
    gives-then (gives-mark t.COLON) (λ l i. gives-then blocks (λ b o. gives-pure (function_node at w.1 ps (given x.0 x.1) c b) (IsDecl (FunctionDecl true (suc n) rule)) (function-part n at rule w.1 ps x c b v p q g o)))))))))

-- ---- methods

abbrev Result : Type 0
Result = Option (Ty × Option (List ℕ))

record ReadsResult (n : ℕ) (i : List Token) (r : Result) (h : ℕ) (j : List Token) : Type 0 where
  pub result_is : Result
  pub same : view_result result_is ≡ view_result r
  pub reads : (MethodResult (suc n)).reads i (Low result_is h) j

record ResultAgain (n : ℕ) (r : Result) (h : ℕ) : Type 0 where
  pub pieces : List Piece
  pub spelled : text_of pieces ≡ result_text r
  pub item : (ps : List Piece) → Item true true ps → Item true true (ps ++ pieces)
  pub reads : (at : ℕ) (j : List Token) → ReadsResult n (tokens_from at pieces ++ j) r h j

record IsResult (n : ℕ) (x : Measured Result) : Type 0 where
  pub low : (r : Result) (h : ℕ) → x ≡ Low r h → ResultAgain n r h

none-again : (n : ℕ) → ResultAgain n None 0
unfolding MethodResult
none-again n = record {
  pieces = [];
  spelled = refl;
  item = λ ps h. subst (λ (qs : List Piece). Item true true qs) (sym (append-nil ps)) h;
  reads = λ at j. record { result_is = None; same = refl; reads = inr (refl, refl) };
}

some-again : (n : ℕ) (ty : Ty) (named : Option (List ℕ)) (h : ℕ) → TypedAgain n ty named h → ResultAgain n (Some (ty, named)) h
some-again n ty named h a = record {
  pieces = arrow_pieces ++ a.pieces;
  spelled = text-both arrow_pieces a.pieces (codes " -> ") (named_text (shown_ty ty) named) arrow-text a.spelled ∙ sym (result_shown-of (Some (ty, named)));
  item = λ ps g. item-arrow ps a.pieces g a.item;
  reads = λ at j.
      let arrow_at = at + 1 in
      let type_at = (arrow_at + size (45 ∷ 62 ∷ [])) + 1 in
      let r = a.reads type_at j in
      record {
        result_is = Some (r.tree, named);
        same = ap (λ (w : types.View). Some (w, named)) r.same;
        reads = result-reads n arrow_at (tokens_from type_at a.pieces ++ j) (Low r.tree h, named) j r.reads;
      };
}

none-result : (n : ℕ) → IsResult n (Low None 0)
none-result n = record { low = λ r h e. subst (λ (l : ℕ). ResultAgain n r l) (same_height None r 0 h e) (subst (λ (x : Result). ResultAgain n x 0) (same_part None r 0 h e) (none-again n)) }

typed-result : (n : ℕ) (x : Typed) → IsTyped n x → IsResult n (some (given x.0 x.1))
typed-result n x p = record {
  low = λ r h e.
      let m = made-low (λ (c : Ty × Option (List ℕ)). Some c) (given x.0 x.1) r h e in
      let q = made-low (λ (ty : Ty). (ty, x.1)) x.0 m.of h m.is in
      subst (λ (c : Result). ResultAgain n c h) (sym (m.value ∙ ap (λ (c : Ty × Option (List ℕ)). Some c) q.value)) (some-again n q.of x.1 h (p.low q.of h q.is));
}

gives-method_result : (n : ℕ) → Gives (MethodResult (suc n)) (IsResult n)
unfolding MethodResult
gives-method_result n =
    gives-or (gives-then (gives-mark t.ARROW) (λ a f.
    gives-or (gives-then (gives-mark t.OPEN_PAREN) (λ o g.
    gives-or (gives-then (gives-mark t.CLOSE_PAREN) (λ c h. gives-pure (Low None 0) (IsResult n) (none-result n)))
    (gives-then (gives-inner_type n) (λ x p. gives-pure (some (given x.0 x.1)) (IsResult n) (typed-result n x p)))))
    (gives-then (gives-unless (is t.OPEN_PAREN) (types.gives-type (suc n))) (λ x p. gives-pure (some (given x None)) (IsResult n) (typed-result n (x, None) (alone-typed n x p))))))
    (gives-pure (Low None 0) (IsResult n) (none-result n))

abbrev method_of : ℕ → List ℕ → List Param → Result → List Expr → List Expr → List Stmt → Decl
method_of at name params r pre post body = decl.Method (record { at = at; name = name; params = params; result = r; preconditions = pre; postconditions = post; body = body })

method-regroup : (s r c b : List ℕ) → ((s ++ r) ++ c) ++ b ≡ s ++ (r ++ (c ++ b))
method-regroup s r c b = append_assoc (s ++ r) c b ∙ append_assoc s r (c ++ b)

method-again : (n at : ℕ) (rule : R Stmts) (name : List ℕ) (params : List Param) (res : Result) (xs ys : List (AnExpr (suc n))) (body : List Stmt) (h l : ℕ)
    → SignAgain n k.Method (codes "method ") name params h → ResultAgain n res l → BlockAgain rule body
    → DeclAgain (MethodDecl true (suc n) rule) (method_of at name params res (exprs_of (suc n) xs) (exprs_of (suc n) ys) body)
unfolding MethodDecl
method-again n at rule name params res xs ys body h l s a b =
    let ps : List Piece = s.pieces ++ a.pieces in
    let cs : List (List Piece) = contract_pieces (suc n) xs ys in
    let pre : List Expr = exprs_of (suc n) xs in
    let post : List Expr = exprs_of (suc n) ys in
    let height = max (max h l) (max (contract_height (suc n) xs ys) 0) in
    record {
      first = head_first ps cs colon;
      rest = blocked_rest 0 cs b.inner;
      spelled =
          let sign : List ℕ = sign_text (codes "method ") name (param_texts params) in
          let lines : List ℕ = contract_lines (expr_texts pre) (expr_texts post) in
          blocked-text rule body b 0 ps cs (sign ++ result_text res) lines (text-both s.pieces a.pieces sign (result_text res) s.spelled a.spelled) (contract-lines (suc n) xs ys)
          ∙ method-regroup sign (result_text res) lines (block [] (map shown_stmt body));
      is_body = head-body ps cs (a.item s.pieces s.item);
      own = head-own ps cs colon (leads-append s.pieces a.pieces s.item.leads) (first-append s.pieces a.pieces s.item.leads ∙ s.own);
      good = λ ls f. blocked-good rule body b 0 ps cs ls (are-contract (suc n) xs ys) f;
      reads = λ there ls f.
          let inner : List Line = b.inner 1 ++ ls in
          let sign_end = there + size (letters s.pieces) in
          let next = there + size (letters ps) in
          let clauses : List Token = following next 0 cs colon inner in
          let result_tokens : List Token = tokens_from sign_end a.pieces ++ clauses in
          let z = s.reads there result_tokens in
          let text_is : opened there (head_first ps cs colon) 0 (blocked_rest 0 cs b.inner ++ ls) ≡ token k.Method there ∷ token (k.Name name) z.name_at ∷ z.behind_name =
          blocked-tokens there 0 ps cs b.inner ls ∙ (tokens-behind there s.pieces a.pieces clauses ∙ z.is) in
          let r = a.reads sign_end clauses in
          let c = contract-read (suc n) next xs ys colon inner in
          let q = colon-block rule body b c.place 0 ls f in
          let block_text : List Token = behind (colon_end c.place) (next_at (colon_end c.place) inner) 0 inner in
          let node : Decl = method_of there name z.params r.result_is c.pre c.post q.trees in
          let path : (MethodDecl true (suc n) rule).reads (token k.Method there ∷ token (k.Name name) z.name_at ∷ z.behind_name) (Low node height) (left q.place 0 ls) = (
            there,
            token (k.Name name) z.name_at ∷ z.behind_name,
            mark-reads t.METHOD k.Method there (token (k.Name name) z.name_at ∷ z.behind_name) refl,
            (
              (z.name_at, name),
              z.behind_name,
              name-reads name z.name_at z.behind_name,
              (
                Low z.params h,
                result_tokens,
                z.reads,
                (
                  Low r.result_is l,
                  clauses,
                  r.reads,
                  (
                    (Low c.pre (heights (suc n) 0 xs), Low c.post (heights (suc n) 0 ys)),
                    opened c.place colon 0 inner,
                    c.reads,
                    (c.place, block_text, mark-reads t.COLON k.Colon c.place block_text refl, (Low q.trees 0, left q.place 0 ls, q.reads, (refl, refl))),
                  ),
                ),
              ),
            ),
          ) in
          record {
            tree = node;
            height = height;
            place = q.place;
            same = view_method (record { at = there; name = name; params = z.params; result = r.result_is; preconditions = c.pre; postconditions = c.post; body = q.trees })
                ∙ (ap₂ (λ (vs : List ParamView) (w : ResultView). method_view name vs w (map exprs.view c.pre) (map exprs.view c.post) (map view q.trees)) z.same r.same
                ∙ (ap₂ (λ (vs us : List exprs.View). method_view name (map view_param params) (view_result res) vs us (map view q.trees)) c.same_pre c.same_post
                ∙ (ap (λ (ws : List View). method_view name (map view_param params) (view_result res) (map exprs.view pre) (map exprs.view post) ws) q.same
                ∙ sym (view_method (record { at = at; name = name; params = params; result = res; preconditions = pre; postconditions = post; body = body })))));
            reads = subst (λ (i : List Token). (MethodDecl true (suc n) rule).reads i (Low node height) (left q.place 0 ls)) (sym text_is) path;
          };
    }

method-part : (n at : ℕ) (rule : R Stmts) (name : List ℕ) (ps : Params) (x : Measured Result) (c : Contract) (b : Stmts) → IsName name → IsParams n ps → IsResult n x → AreExprs (suc n) c.0 × AreExprs (suc n) c.1 → AnyBlock rule b
    → IsDecl (MethodDecl true (suc n) rule) (method_node at name ps x c b)
method-part n at rule name ps x c b v p q g o = record {
  low = λ d h e.
      let f = λ (u : (List Param × Result) × ((List Expr × List Expr) × List Stmt)). method_of at name u.0.0 u.0.1 u.1.0.0 u.1.0.1 u.1.1 in
      let m = made-low f (both (both ps x) (both (both c.0 c.1) b)) d h e in
      let w = both-low (both ps x) (both (both c.0 c.1) b) m.of h m.is in
      let i = both-low ps x w.first w.first_height w.first_is in
      let j = both-low (both c.0 c.1) b w.second w.second_height w.second_is in
      let y = both-low c.0 c.1 j.first j.first_height j.first_is in
      let pre = g.0.low y.first y.first_height y.first_is in
      let post = g.1.low y.second y.second_height y.second_is in
      let one : m.of ≡ ((i.first, i.second), ((y.first, y.second), j.second)) =
      w.value ∙ ap₂ (λ (a : List Param × Result) (z : (List Expr × List Expr) × List Stmt). (a, z)) i.value (j.value ∙ ap (λ (z : List Expr × List Expr). (z, j.second)) y.value) in
      let is : d ≡ method_of at name i.first i.second (exprs_of (suc n) pre.all) (exprs_of (suc n) post.all) j.second =
      m.value ∙ (ap f one ∙ ap₂ (λ (us vs : List Expr). method_of at name i.first i.second us vs j.second) pre.exprs_are post.exprs_are) in
      let a = params-again n i.first i.first_height (p.low i.first i.first_height i.first_is) in
      subst (λ (z : Decl). DeclAgain (MethodDecl true (suc n) rule) z) (sym is)
      (method-again n at rule name i.first i.second pre.all post.all j.second i.first_height i.second_height
      (sign-again n k.Method 109 (101 ∷ 116 ∷ 104 ∷ 111 ∷ 100 ∷ []) (codes "method ") name i.first i.first_height method-word v a) (q.low i.second i.second_height i.second_is) (o.low j.second j.second_height j.second_is));
}

gives-method : (n : ℕ) (rule : R Stmts) → Gives (Expr_ true (suc n)) (IsPart (From 0) (suc n)) → Gives rule (AnyBlock rule) → Gives (MethodDecl true (suc n) rule) (IsDecl (MethodDecl true (suc n) rule))
unfolding MethodDecl
gives-method n rule expr blocks =
    gives-then (gives-mark t.METHOD) (λ at h. gives-then gives-name (λ w v. gives-then (gives-parameters n) (λ ps p. gives-then (gives-method_result n) (λ x q. gives-then (gives-contract (suc n) expr) (λ c g.
    gives-then (gives-mark t.COLON) (λ l i. gives-then blocks (λ b o. gives-pure (method_node at w.1 ps x c b) (IsDecl (MethodDecl true (suc n) rule)) (method-part n at rule w.1 ps x c b v p q g o))))))))

-- ---- any declaration

pub gives-declaration : (n : ℕ) (rule : R Stmts) → Gives (Expr_ true (suc n)) (IsPart (From 0) (suc n)) → Gives rule (AnyBlock rule) → Gives (Declaration true (suc n) rule) (IsDecl (Declaration true (suc n) rule))
unfolding Declaration
gives-declaration n rule expr blocks =
    let whole : R D = Declaration true (suc n) rule in
    gives-or (gives-less (λ d p. decl-by (AliasDecl true (suc n)) whole d (λ i x j r. inl r) p) (gives-alias n expr))
    (gives-or (gives-less (λ d p. decl-by (FunctionDecl true (suc n) rule) whole d (λ i x j r. inr (inl r)) p) (gives-function n rule expr blocks))
    (gives-or (gives-less (λ d p. decl-by (MethodDecl true (suc n) rule) whole d (λ i x j r. inr (inr (inl r))) p) (gives-method n rule expr blocks))
    (gives-less (λ d p. decl-by (PropertyDecl true (suc n)) whole d (λ i x j r. inr (inr (inr r))) p) (gives-property n expr))))
