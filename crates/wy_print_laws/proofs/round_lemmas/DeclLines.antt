-- Type declarations and properties are read again: heads with clauses that end with a line.
use Rattle.std.proofs.Common.{◌≡◌, ℕ, suc, ◌+◌, max, true, false, List, [], ◌∷◌, ◌++◌, map, codes, Option, Some, None, refl, sym, ap, ap₂, ◌∙◌, subst, arith, append_assoc}
use Rattle.std.specs.Str.{chars}
use lib.Utf8.{encode}
use Rattle.wy_data.specs.Words.{IsName}
use Rattle.wy_data.proofs.WordLemmas.{is_part-ascii}
use Rattle.wy_reading.specs.Rule.{Pure, Then}
use Rattle.wy_ast.specs.declared.types.Ty.{Ty}
use Rattle.wy_ast.specs.declared.expressions.Expr.{Expr}
use Rattle.wy_ast.specs.declared.declarations.Param.{Param}
use Rattle.wy_ast.specs.declared.declarations.Decl.{Decl}
use Rattle.wy_ast.specs.declared.declarations.Decl.TheVariants as decl
use Rattle.wy_parse_front.specs.wy_lex.declared.token.Token.{Token}
use Rattle.wy_parse_front.specs.wy_lex.declared.token.TokenKind.TheVariants as k
use Rattle.wy_parse_front.specs.wy_lex.declared.symbol.Character.TheVariants as class
use Rattle.wy_parse_front.specs.wy_lex.Kinds.{word_kind}
use Rattle.wy_parse_front.specs.wy_lex.Layout.{token}
use Rattle.wy_print.specs.Pieces.{line_end}
use Rattle.wy_print.specs.TypeText.{shown_ty}
use Rattle.wy_print.specs.ExprText.{expr_texts}
use Rattle.wy_print.specs.StmtText.{clause_lines}
use Rattle.wy_print.specs.ProgramText.{param_texts}
use Rattle.wy_parse_front.specs.wy_parse_grammar.declared.measured.Measured.TheVariants.{Low}
use Rattle.wy_parse_front.specs.wy_parse_grammar.Sorts as t
use Rattle.wy_parse_front.specs.wy_parse_grammar.Sorts.{is}
use Rattle.wy_parse_front.specs.wy_parse_grammar.Steps.{R, Mark, Name}
use Rattle.wy_parse_front.specs.wy_parse_grammar.Trees.{both, none}
use Rattle.wy_parse_front.specs.wy_parse_grammar.ExprGrammar.{Expr_}
use Rattle.wy_parse_front.specs.wy_parse.DeclTrees.{Params, Clauses, D, alias_node, property_node}
use Rattle.wy_parse_front.specs.wy_parse.ProgramGrammar.{Typed, Parameters, AliasClauses, AliasDecl, PropertyDecl}
use Rattle.wy_print_laws.proofs.round_lemmas.Pieces.{Piece, letters, size, tokens_from, IsMark}
use Rattle.wy_print_laws.proofs.round_lemmas.Pieces.Piece.{gap, mark}
use Rattle.wy_print_laws.proofs.round_lemmas.Marks.{lower-mark}
use Rattle.wy_print_laws.proofs.round_lemmas.Marked.{is-mark}
use Rattle.wy_print_laws.proofs.round_lemmas.Segments.{text_of, text-both, joined, closed-append, after-item, before-blank, Item}
use Rattle.wy_print_laws.proofs.round_lemmas.Heights.{made-low, both-low, same_part, same_height}
use Rattle.wy_print_laws.proofs.round_lemmas.Gives.{Gives, gives-pure, gives-then, gives-less, gives-mark, gives-name}
use Rattle.wy_print_laws.proofs.round_lemmas.Commas.{mark-reads, item-any}
use Rattle.wy_print_laws.proofs.round_lemmas.Enclosed.{begins-letter, name_piece, name-item, name-text, name-reads}
use Rattle.wy_print_laws.proofs.round_lemmas.TypeRound as types
use Rattle.wy_print_laws.proofs.round_lemmas.ExprShown as exprs
use Rattle.wy_print_laws.proofs.round_lemmas.ExprLines.{IsPart, From}
use Rattle.wy_print_laws.proofs.round_lemmas.Lines.{Line, next_at}
use Rattle.wy_print_laws.proofs.round_lemmas.StmtLines.{opened, left}
use Rattle.wy_print_laws.proofs.round_lemmas.StmtOne.{word_gap, word_gap-segment}
use Rattle.wy_print_laws.proofs.round_lemmas.StmtHeads.{head_first, head_rest, following, head-tokens, AnExpr, exprs_of, heights, head-end, head-own, wheres_pieces, are-wheres, wheres-text, wheres-read}
use Rattle.wy_print_laws.proofs.round_lemmas.ProgramShown.{ParamView, named_text, sign_text, alias_view, view_alias, alias-text, property_view, view_property}
use Rattle.wy_print_laws.proofs.round_lemmas.DeclTypes.{TypedAgain, IsTyped, gives-named_type}
use Rattle.wy_print_laws.proofs.round_lemmas.DeclHeads.{IsParams, params-again, gives-parameters, IsDeclWord, SignAgain, sign-again, SomeExprs, AreSomeExprs, SomeWheres, gives-some_wheres, some-wheres, ended-text, ended-good, line_end_at, ended-line}
use Rattle.wy_print_laws.proofs.round_lemmas.DeclAgain.{DeclAgain, IsDecl}

-- ---- words

type-mark : IsMark k.TypeWord (codes "type") class.Part
unfolding word_kind encode
type-mark = lower-mark k.TypeWord 116 (121 ∷ 112 ∷ 101 ∷ []) refl refl refl

property-word : IsDeclWord k.Property 112 (114 ∷ 111 ∷ 112 ∷ 101 ∷ 114 ∷ 116 ∷ 121 ∷ []) (codes "property ")
unfolding word_kind encode
property-word = record { written = lower-mark k.Property 112 (114 ∷ 111 ∷ 112 ∷ 101 ∷ 114 ∷ 116 ∷ 121 ∷ []) refl refl refl; begins = begins-letter 112 (omega arith) refl; flat = record { closed = λ d. refl }; own = refl; spelled = refl }

-- ---- type declarations

record ReadsAliasClauses (m : ℕ) (variable : Option (List ℕ)) (es : List Expr) (h : ℕ) (i : List Token) (ls : List Line) : Type 0 where
  pub read : List Expr
  pub same : map exprs.view read ≡ map exprs.view es
  pub place : ℕ
  pub reads : (AliasClauses true m variable).reads i (Low read h) (opened place [] 0 ls)

record AliasClausesAgain (m : ℕ) (variable : Option (List ℕ)) (es : List Expr) (h : ℕ) : Type 0 where
  pub all : List (AnExpr m)
  pub are : es ≡ exprs_of m all
  pub reads : (at : ℕ) (ls : List Line) → ReadsAliasClauses m variable es h (following at 0 (wheres_pieces m all) [] ls) ls

record IsAliasClauses (m : ℕ) (variable : Option (List ℕ)) (es : Clauses) : Type 0 where
  pub low : (xs : List Expr) (h : ℕ) → es ≡ Low xs h → AliasClausesAgain m variable xs h

no-clauses : (m : ℕ) → IsAliasClauses m None none
no-clauses m = record {
  low = λ xs h e.
      let flat : AliasClausesAgain m None [] 0 = record { all = []; are = refl; reads = λ at ls. record { read = []; same = refl; place = at; reads = (refl, refl) } } in
      subst (λ (l : ℕ). AliasClausesAgain m None xs l) (same_height [] xs 0 h e) (subst (λ (ys : List Expr). AliasClausesAgain m None ys 0) (same_part [] xs 0 h e) flat);
}

some-clauses : (m : ℕ) (v : List ℕ) (es : Clauses) → AreSomeExprs m es → IsAliasClauses m (Some v) es
some-clauses m v es p = record {
  low = λ xs h e.
      let q = p.low xs h e in
      let all : List (AnExpr m) = q.first ∷ q.others in
      record {
        all = all;
        are = q.exprs_are;
        reads = λ at ls.
            let w = wheres-read m at 0 all [] 0 [] ls in
            record {
              read = w.read;
              same = w.same ∙ sym (ap (λ (l : List Expr). map exprs.view l) q.exprs_are);
              place = w.place;
              reads = subst (λ (l : ℕ). (SomeWheres m).reads (following at 0 (wheres_pieces m all) [] ls) (Low w.read l) (opened w.place [] 0 ls)) (sym q.height_is)
                  (some-wheres m (following at 0 (wheres_pieces m all) [] ls) w.read (heights m 0 all) (opened w.place [] 0 ls) q.first q.others w.same w.turns);
            };
      };
}

gives-alias_clauses : (m : ℕ) (variable : Option (List ℕ)) → Gives (Expr_ true m) (IsPart (From 0) m) → Gives (AliasClauses true m variable) (IsAliasClauses m variable)
gives-alias_clauses m None expr = gives-pure none (IsAliasClauses m None) (no-clauses m)
gives-alias_clauses m (Some v) expr = gives-less (λ es r. some-clauses m v es r) (gives-some_wheres m expr)

abbrev is_pieces : List Piece
is_pieces = gap ∷ mark k.Is (codes "is") class.Part ∷ gap ∷ []

is-text : text_of is_pieces ≡ codes " is "
unfolding encode
is-text = refl

type-text : text_of (word_gap k.TypeWord (codes "type")) ≡ codes "type "
unfolding encode
type-text = refl

abbrev alias_pieces : List ℕ → List Piece → List Piece
alias_pieces name ps = word_gap k.TypeWord (codes "type") ++ (name_piece name ∷ (is_pieces ++ ps))

alias-item : (name : List ℕ) (ps : List Piece) → IsName name → Item true true ps → Item true true (alias_pieces name ps)
alias-item name ps v h = record {
  segment = joined (word_gap k.TypeWord (codes "type")) (name_piece name ∷ (is_pieces ++ ps)) (word_gap-segment k.TypeWord 116 (121 ∷ 112 ∷ 101 ∷ []) type-mark (begins-letter 116 (omega arith) refl))
      (joined (name_piece name ∷ []) (is_pieces ++ ps) (item-any false false (name_piece name ∷ []) (name-item name v)).segment
      (joined is_pieces ps (record { linked = λ m q. (after-item true m 32 q (is_part-ascii 32 (omega arith)) (λ x. refl), (refl, is-mark, (is_part-ascii 32 (omega arith), tt))); last = λ m q. (before-blank, λ x. refl) }) h.segment));
  leads = tt;
  closed = closed-append (word_gap k.TypeWord (codes "type")) (name_piece name ∷ (is_pieces ++ ps)) (record { closed = λ d. refl })
      (closed-append (name_piece name ∷ []) (is_pieces ++ ps) (record { closed = λ d. refl }) (closed-append is_pieces ps (record { closed = λ d. refl }) h.closed));
}

alias-regroup : (t n i w c : List ℕ) → (t ++ (n ++ (i ++ w))) ++ c ≡ t ++ (n ++ (i ++ (w ++ c)))
alias-regroup t n i w c =
    append_assoc t (n ++ (i ++ w)) c ∙ ap (λ (x : List ℕ). t ++ x) (append_assoc n (i ++ w) c ∙ ap (λ (x : List ℕ). n ++ x) (append_assoc i w c))

abbrev alias_of : ℕ → List ℕ → Ty → Option (List ℕ) → List Expr → Decl
alias_of at name ty variable es = decl.Alias (record { at = at; name = name; ty = ty; variable = variable; clauses = es })

alias-again : (n at : ℕ) (name : List ℕ) (ty : Ty) (variable : Option (List ℕ)) (es : List Expr) (h l : ℕ) → IsName name → TypedAgain n ty variable h → AliasClausesAgain (suc n) variable es l → DeclAgain (AliasDecl true (suc n)) (alias_of at name ty variable es)
unfolding AliasDecl
alias-again n at name ty variable es h l v a c =
    let ps : List Piece = alias_pieces name a.pieces in
    let cs : List (List Piece) = wheres_pieces (suc n) c.all in
    let whole : Item true true ps = alias-item name a.pieces v a.item in
    record {
      first = head_first ps cs [];
      rest = head_rest 0 cs [];
      spelled =
          let named : List ℕ = named_text (shown_ty ty) variable in
          let clauses : List ℕ = clause_lines [] (codes "where ") (expr_texts es) in
          ended-text 0 ps cs (codes "type " ++ (name ++ (codes " is " ++ named))) clauses
          (text-both (word_gap k.TypeWord (codes "type")) (name_piece name ∷ (is_pieces ++ a.pieces)) (codes "type ") (name ++ (codes " is " ++ named)) type-text
          (text-both (name_piece name ∷ []) (is_pieces ++ a.pieces) name (codes " is " ++ named) (name-text name v) (text-both is_pieces a.pieces (codes " is ") named is-text a.spelled)))
          (wheres-text (suc n) 0 c.all ∙ ap (λ (x : List Expr). clause_lines [] (codes "where ") (expr_texts x)) (sym c.are))
          ∙ (alias-regroup (codes "type ") name (codes " is ") named (clauses ++ line_end) ∙ sym (alias-text (record { at = at; name = name; ty = ty; variable = variable; clauses = es })));
      is_body = head-end ps cs whole;
      own = head-own ps cs [] tt refl;
      good = λ ls f. ended-good 0 ps cs ls (are-wheres (suc n) c.all) f;
      reads = λ there ls f.
          let name_at = (there + size (codes "type")) + 1 in
          let is_at = (name_at + size (chars name)) + 1 in
          let type_at = (is_at + size (codes "is")) + 1 in
          let next = there + size (letters ps) in
          let clauses : List Token = following next 0 cs [] ls in
          let type_text : List Token = tokens_from type_at a.pieces ++ clauses in
          let text_is : opened there (head_first ps cs []) 0 (head_rest 0 cs [] ++ ls) ≡ token k.TypeWord there ∷ token (k.Name name) name_at ∷ token k.Is is_at ∷ type_text = head-tokens there 0 [] ps cs ls in
          let r = a.reads type_at clauses in
          let w = c.reads next ls in
          let end = line_end_at w.place in
          let place = next_at end ls in
          let last : (AliasClauses true (suc n) variable).reads clauses (Low w.read l) (token k.LineEnd end ∷ left place 0 ls) =
          subst (λ (i : List Token). (AliasClauses true (suc n) variable).reads clauses (Low w.read l) i) (ended-line w.place 0 ls f) w.reads in
          let node : Decl = alias_of there name r.tree variable w.read in
          let path : (AliasDecl true (suc n)).reads (token k.TypeWord there ∷ token (k.Name name) name_at ∷ token k.Is is_at ∷ type_text) (Low node (max h l)) (left place 0 ls) = (
            there,
            token (k.Name name) name_at ∷ token k.Is is_at ∷ type_text,
            mark-reads t.TYPE k.TypeWord there (token (k.Name name) name_at ∷ token k.Is is_at ∷ type_text) refl,
            (
              (name_at, name),
              token k.Is is_at ∷ type_text,
              name-reads name name_at (token k.Is is_at ∷ type_text),
              (
                is_at,
                type_text,
                mark-reads t.IS k.Is is_at type_text refl,
                ((Low r.tree h, variable), clauses, r.reads, (Low w.read l, token k.LineEnd end ∷ left place 0 ls, last, (end, left place 0 ls, mark-reads t.LINE_END k.LineEnd end (left place 0 ls) refl, (refl, refl)))),
              ),
            ),
          ) in
          record {
            tree = node;
            height = max h l;
            place = place;
            same = view_alias (record { at = there; name = name; ty = r.tree; variable = variable; clauses = w.read })
                ∙ (ap₂ (λ (y : types.View) (vs : List exprs.View). alias_view name y variable vs) r.same w.same ∙ sym (view_alias (record { at = at; name = name; ty = ty; variable = variable; clauses = es })));
            reads = subst (λ (i : List Token). (AliasDecl true (suc n)).reads i (Low node (max h l)) (left place 0 ls)) (sym text_is) path;
          };
    }

alias-part : (n at : ℕ) (name : List ℕ) (x : Typed) (es : Clauses) → IsName name → IsTyped n x → IsAliasClauses (suc n) x.1 es → IsDecl (AliasDecl true (suc n)) (alias_node at name x.0 x.1 es)
alias-part n at name x es v p q = record {
  low = λ d h e.
      let f = λ (c : Ty × List Expr). alias_of at name c.0 x.1 c.1 in
      let m = made-low f (both x.0 es) d h e in
      let u = both-low x.0 es m.of h m.is in
      let is : d ≡ alias_of at name u.first x.1 u.second = m.value ∙ ap f u.value in
      subst (λ (c : Decl). DeclAgain (AliasDecl true (suc n)) c) (sym is)
      (alias-again n at name u.first x.1 u.second u.first_height u.second_height v (p.low u.first u.first_height u.first_is) (q.low u.second u.second_height u.second_is));
}

pub gives-alias : (n : ℕ) → Gives (Expr_ true (suc n)) (IsPart (From 0) (suc n)) → Gives (AliasDecl true (suc n)) (IsDecl (AliasDecl true (suc n)))
unfolding AliasDecl
gives-alias n expr =
    gives-then (gives-mark t.TYPE) (λ at h. gives-then gives-name (λ w v. gives-then (gives-mark t.IS) (λ i g. gives-then (gives-named_type n) (λ x p. gives-then (gives-alias_clauses (suc n) x.1 expr) (λ es q.
    gives-then (gives-mark t.LINE_END) (λ e f. gives-pure (alias_node at w.1 x.0 x.1 es) (IsDecl (AliasDecl true (suc n))) (alias-part n at w.1 x es v p q)))))))

-- ---- properties

abbrev property_of : ℕ → List ℕ → List Param → List Expr → Decl
property_of at name params es = decl.Property (record { at = at; name = name; params = params; clauses = es })

property-again : (n at : ℕ) (name : List ℕ) (params : List Param) (es : List Expr) (h l : ℕ) → SignAgain n k.Property (codes "property ") name params h → SomeExprs (suc n) es l → DeclAgain (PropertyDecl true (suc n)) (property_of at name params es)
unfolding PropertyDecl
property-again n at name params es h l a c =
    let ps : List Piece = a.pieces in
    let all : List (AnExpr (suc n)) = c.first ∷ c.others in
    let cs : List (List Piece) = wheres_pieces (suc n) all in
    record {
      first = head_first ps cs [];
      rest = head_rest 0 cs [];
      spelled = ended-text 0 ps cs (sign_text (codes "property ") name (param_texts params)) (clause_lines [] (codes "where ") (expr_texts es)) a.spelled
          (wheres-text (suc n) 0 all ∙ ap (λ (x : List Expr). clause_lines [] (codes "where ") (expr_texts x)) (sym c.exprs_are));
      is_body = head-end ps cs a.item;
      own = head-own ps cs [] a.item.leads a.own;
      good = λ ls f. ended-good 0 ps cs ls (are-wheres (suc n) all) f;
      reads = λ there ls f.
          let next = there + size (letters ps) in
          let clauses : List Token = following next 0 cs [] ls in
          let z = a.reads there clauses in
          let text_is : opened there (head_first ps cs []) 0 (head_rest 0 cs [] ++ ls) ≡ token k.Property there ∷ token (k.Name name) z.name_at ∷ z.behind_name = head-tokens there 0 [] ps cs ls ∙ z.is in
          let w = wheres-read (suc n) next 0 all [] 0 [] ls in
          let end = line_end_at w.place in
          let place = next_at end ls in
          let wheres = some-wheres (suc n) clauses w.read (heights (suc n) 0 all) (opened w.place [] 0 ls) c.first c.others w.same w.turns in
          let last : (SomeWheres (suc n)).reads clauses (Low w.read l) (token k.LineEnd end ∷ left place 0 ls) =
          subst (λ (g : ℕ). (SomeWheres (suc n)).reads clauses (Low w.read g) (token k.LineEnd end ∷ left place 0 ls)) (sym c.height_is)
          (subst (λ (i : List Token). (SomeWheres (suc n)).reads clauses (Low w.read (heights (suc n) 0 all)) i) (ended-line w.place 0 ls f) wheres) in
          let node : Decl = property_of there name z.params w.read in
          let path : (PropertyDecl true (suc n)).reads (token k.Property there ∷ token (k.Name name) z.name_at ∷ z.behind_name) (Low node (max h l)) (left place 0 ls) = (
            there,
            token (k.Name name) z.name_at ∷ z.behind_name,
            mark-reads t.PROPERTY k.Property there (token (k.Name name) z.name_at ∷ z.behind_name) refl,
            (
              (z.name_at, name),
              z.behind_name,
              name-reads name z.name_at z.behind_name,
              (
                Low z.params h,
                clauses,
                z.reads,
                (last.0, last.1, last.2, (Low w.read l, token k.LineEnd end ∷ left place 0 ls, last.3, (end, left place 0 ls, mark-reads t.LINE_END k.LineEnd end (left place 0 ls) refl, (refl, refl)))),
              ),
            ),
          ) in
          record {
            tree = node;
            height = max h l;
            place = place;
            same = view_property (record { at = there; name = name; params = z.params; clauses = w.read })
                ∙ (ap₂ (λ (qs : List ParamView) (vs : List exprs.View). property_view name qs vs) z.same (w.same ∙ sym (ap (λ (x : List Expr). map exprs.view x) c.exprs_are))
                ∙ sym (view_property (record { at = at; name = name; params = params; clauses = es })));
            reads = subst (λ (i : List Token). (PropertyDecl true (suc n)).reads i (Low node (max h l)) (left place 0 ls)) (sym text_is) path;
          };
    }

property-part : (n at : ℕ) (name : List ℕ) (ps : Params) (es : Clauses) → IsName name → IsParams n ps → AreSomeExprs (suc n) es → IsDecl (PropertyDecl true (suc n)) (property_node at name ps es)
property-part n at name ps es v p q = record {
  low = λ d h e.
      let f = λ (c : List Param × List Expr). property_of at name c.0 c.1 in
      let m = made-low f (both ps es) d h e in
      let u = both-low ps es m.of h m.is in
      let is : d ≡ property_of at name u.first u.second = m.value ∙ ap f u.value in
      let a = params-again n u.first u.first_height (p.low u.first u.first_height u.first_is) in
      subst (λ (c : Decl). DeclAgain (PropertyDecl true (suc n)) c) (sym is)
      (property-again n at name u.first u.second u.first_height u.second_height
      (sign-again n k.Property 112 (114 ∷ 111 ∷ 112 ∷ 101 ∷ 114 ∷ 116 ∷ 121 ∷ []) (codes "property ") name u.first u.first_height property-word v a) (q.low u.second u.second_height u.second_is));
}

-- the rule, with its clauses as one part
abbrev PropertyIn : ℕ → R D
PropertyIn n =
    Then (Mark t.PROPERTY) (λ (at : ℕ). Then Name (λ (w : ℕ × List ℕ). Then (Parameters (suc n)) (λ (ps : Params). Then (SomeWheres (suc n)) (λ (es : Clauses). Then (Mark t.LINE_END) (λ (e : ℕ).
    Pure (property_node at w.1 ps es))))))

gives-property_in : (n : ℕ) → Gives (Expr_ true (suc n)) (IsPart (From 0) (suc n)) → Gives (PropertyIn n) (IsDecl (PropertyDecl true (suc n)))
gives-property_in n expr =
    gives-then (gives-mark t.PROPERTY) (λ at h. gives-then gives-name (λ w v. gives-then (gives-parameters n) (λ ps p. gives-then (gives-some_wheres (suc n) expr) (λ es q.
    gives-then (gives-mark t.LINE_END) (λ e f. gives-pure (property_node at w.1 ps es) (IsDecl (PropertyDecl true (suc n))) (property-part n at w.1 ps es v p q))))))

pub gives-property : (n : ℕ) → Gives (Expr_ true (suc n)) (IsPart (From 0) (suc n)) → Gives (PropertyDecl true (suc n)) (IsDecl (PropertyDecl true (suc n)))
unfolding PropertyDecl
gives-property n expr = record {
  gives = λ i d j r h.
      (gives-property_in n expr).gives i d j
      (r.0, r.1, r.2, (r.3.0, r.3.1, r.3.2, (r.3.3.0, r.3.3.1, r.3.3.2, (r.3.3.3.3.0, r.3.3.3.3.1, (r.3.3.3.0, r.3.3.3.1, r.3.3.3.2, r.3.3.3.3.2), r.3.3.3.3.3)))) h;
}
