-- Types with names in brackets, and types by themselves, are read again: where a type begins with a bracket, that bracket is read first.
use Rattle.std.proofs.Common.{◌≡◌, ℕ, suc, ◌+◌, ◌==◌, Bool, true, false, true≢false, List, [], ◌∷◌, ◌++◌, Option, Some, None, inl, inr, refl, sym, ap, ◌∙◌, subst, arith, eqb-true}
use Rattle.wy_data.specs.Words.{IsName}
use Rattle.wy_reading.specs.Rule.{among, Turns}
use Rattle.wy_ast.specs.declared.types.Ty.{Ty}
use Rattle.wy_parse_front.specs.wy_lex.declared.token.Token.{Token}
use Rattle.wy_parse_front.specs.wy_lex.declared.token.TokenKind.{TokenKind}
use Rattle.wy_parse_front.specs.wy_lex.declared.token.TokenKind.TheVariants as k
use Rattle.wy_parse_front.specs.wy_lex.Layout.{token}
use Rattle.wy_print.specs.TypeText.{shown_ty, ty_text, typed}
use Rattle.wy_parse_front.specs.wy_parse_grammar.declared.measured.Measured.TheVariants.{Low}
use Rattle.wy_parse_front.specs.wy_parse_grammar.declared.sort.Class.TheVariants as kinds
use Rattle.wy_parse_front.specs.wy_parse_grammar.Sorts as t
use Rattle.wy_parse_front.specs.wy_parse_grammar.Sorts.{is, has, sort}
use Rattle.wy_parse_front.specs.wy_parse_grammar.Steps.{Mark}
use Rattle.wy_parse_front.specs.wy_parse_grammar.Trees.{some}
use Rattle.wy_parse_front.specs.wy_parse_grammar.TypeGrammar.{T, Brackets, Tight, Type_, TypeRest}
use Rattle.wy_parse_front.specs.wy_parse.DeclTrees.{given}
use Rattle.wy_parse_front.specs.wy_parse.ProgramGrammar.{Typed, InnerType, NamedType, MethodResult}
use Rattle.wy_print_laws.proofs.round_lemmas.Pieces.{Piece, letters, size, tokens_from}
use Rattle.wy_print_laws.proofs.round_lemmas.Pieces.Piece.{gap, mark}
use Rattle.wy_print_laws.proofs.round_lemmas.Segments.{text_of, Leads, Item}
use Rattle.wy_print_laws.proofs.round_lemmas.Gives.{Gives, gives-pure, gives-then, gives-or, gives-unless, gives-mark, gives-name}
use Rattle.wy_print_laws.proofs.round_lemmas.Commas.{mark-reads, item-any}
use Rattle.wy_print_laws.proofs.round_lemmas.Enclosed.{name-reads, inside-item, parens, enclosed, enclosed-item, enclosed-text, enclosed-tokens}
use Rattle.wy_print_laws.proofs.round_lemmas.TypeRound as types
use Rattle.wy_print_laws.proofs.round_lemmas.TypeRound.{typed_pieces, typed-item, typed-text, typed-tokens}
use Rattle.wy_print_laws.proofs.round_lemmas.StmtNamed.{same_first, rest_of, marked-sort}
use Rattle.wy_print_laws.proofs.round_lemmas.ProgramShown.{named_text}

-- ---- a type that begins with a bracket

not_paren : (c : ℕ) (s : Token) → (sort s.kind == t.OPEN_PAREN) ≡ true → (t.OPEN_PAREN == c) ≡ false → (sort s.kind == c) ≡ true → ⊥
not_paren c s h g e = true≢false (sym e ∙ (ap (λ (d : ℕ). d == c) (eqb-true (sort s.kind) t.OPEN_PAREN h) ∙ g))

-- what is read in that bracket, and behind it
record ParenTight (n : ℕ) (i : List Token) (v : T) (j : List Token) : Type 0 where
  pub inner : T
  pub middle : List Token
  pub reads : (Type_ n).reads i inner middle
  pub close : ℕ
  pub behind : List Token
  pub closes : (Mark t.CLOSE_PAREN).reads middle close behind
  pub tree_is : v ≡ inner
  pub rest_is : behind ≡ j

paren-tight : (n at : ℕ) (kind : TokenKind) (i : List Token) (v : T) (j : List Token) → (sort kind == t.OPEN_PAREN) ≡ true → (Tight (suc n)).reads (token kind at ∷ i) v j → ParenTight n i v j
unfolding Tight Type_
paren-tight n at kind i v j h (inl r) = absurd (not_paren t.NOT (token kind at) h refl (marked-sort t.NOT (token kind at) i r.0 r.1 r.2))
paren-tight n at kind i v j h (inr (inl r)) =
    let here : i ≡ r.1 = ap rest_of r.2.2.1 ∙ r.2.3.1 in
    record {
      inner = r.3.0;
      middle = r.3.1;
      reads = subst (λ (z : List Token). (Type_ n).reads z r.3.0 r.3.1) (sym here) r.3.2;
      close = r.3.3.0;
      behind = r.3.3.1;
      closes = r.3.3.2;
      tree_is = r.3.3.3.0;
      rest_is = r.3.3.3.1;
    }
paren-tight n at kind i v j h (inr (inr (inl r))) = absurd (not_paren t.OPEN_BRACE (token kind at) h refl (marked-sort t.OPEN_BRACE (token kind at) i r.0 r.1 r.2))
paren-tight n at kind i v j h (inr (inr (inr (inl r)))) =
    absurd (not_paren t.NAME (token kind at) h refl (ap (λ (u : Token). sort u.kind == t.NAME) (sym (same_first (token kind at) r.2.0 i r.2.1 r.2.2.1)) ∙ r.2.2.0))
paren-tight n at kind i v j h (inr (inr (inr (inr r)))) =
    absurd (true≢false (sym (ap (λ (u : Token). among (t.members kinds.BaseType) (sort u.kind)) (sym (same_first (token kind at) r.0 i r.1 r.2.1)) ∙ r.2.0) ∙ ap (among (t.members kinds.BaseType)) (eqb-true (sort kind) t.OPEN_PAREN h)))

paren-route : (n at : ℕ) (kind : TokenKind) (i : List Token) (y : T) (j : List Token) → (sort kind == t.OPEN_PAREN) ≡ true → (Type_ (suc n)).reads (token kind at ∷ i) y j → (InnerType (suc n)).reads i (y, None) j
unfolding Type_ TypeRest
paren-route n at kind i y j h r =
    let p = paren-tight n at kind i r.2.2.0 r.2.2.1 h r.2.2.2 in
    let turns : Turns (Brackets (suc n)) p.inner p.behind r.2.0 r.2.1 =
    subst (λ (x : T). Turns (Brackets (suc n)) x p.behind r.2.0 r.2.1) p.tree_is (subst (λ (z : List Token). Turns (Brackets (suc n)) r.2.2.0 z r.2.0 r.2.1) (sym p.rest_is) r.2.2.3) in
    (p.inner, p.middle, p.reads, inr (p.close, p.behind, p.closes, (y, j, (r.2.0, r.2.1, turns, (r.0, r.1, r.2.3, r.3)), (refl, refl))))

type-route : (n at : ℕ) (kind : TokenKind) (i : List Token) (y : T) (j : List Token) → (Type_ (suc n)).reads (token kind at ∷ i) y j → (NamedType (suc n)).reads (token kind at ∷ i) (y, None) j
unfolding NamedType
type-route n at kind i y j r = by (sort kind == t.OPEN_PAREN) refl
  where
    by : (b : Bool) → (sort kind == t.OPEN_PAREN) ≡ b → (NamedType (suc n)).reads (token kind at ∷ i) (y, None) j
    by true e = inl (at, i, (token kind at, i, (e, refl), (refl, refl)), paren-route n at kind i y j e r)
    by false e = inr (y, j, (e, r), (refl, refl))

type-pieces : (n at : ℕ) (ps : List Piece) (i : List Token) (y : T) (j : List Token) → Leads ps → (Type_ (suc n)).reads (tokens_from at ps ++ i) y j → (NamedType (suc n)).reads (tokens_from at ps ++ i) (y, None) j
type-pieces n at [] i y j h r = absurd h
type-pieces n at (gap ∷ ps) i y j h r = absurd h
type-pieces n at (mark kind cs m ∷ ps) i y j h r = type-route n at kind (tokens_from (at + size cs) ps ++ i) y j r

-- ---- read again

pub record ReadsTyped (n : ℕ) (i : List Token) (ty : Ty) (name : Option (List ℕ)) (h : ℕ) (j : List Token) : Type 0 where
  pub tree : Ty
  pub same : types.view tree ≡ types.view ty
  pub reads : (NamedType (suc n)).reads i (Low tree h, name) j

pub record TypedAgain (n : ℕ) (ty : Ty) (name : Option (List ℕ)) (h : ℕ) : Type 0 where
  pub pieces : List Piece
  pub spelled : text_of pieces ≡ named_text (shown_ty ty) name
  pub item : Item true true pieces
  pub reads : (at : ℕ) (j : List Token) → ReadsTyped n (tokens_from at pieces ++ j) ty name h j

pub record IsTyped (n : ℕ) (x : Typed) : Type 0 where
  pub low : (ty : Ty) (h : ℕ) → x.0 ≡ Low ty h → TypedAgain n ty x.1 h

alone-again : (n : ℕ) (ty : Ty) (h : ℕ) → types.Again (suc n) 0 (ty_text ty) ty h → TypedAgain n ty None h
unfolding Type_
alone-again n ty h a = record {
  pieces = a.pieces;
  spelled = a.spelled;
  item = item-any false false a.pieces a.item;
  reads = λ at j.
      let r = a.reads (suc n) (omega arith) at j in
      record { tree = r.tree; same = r.same; reads = type-pieces n at a.pieces j (Low r.tree h) j a.item.leads r.reads };
}

named-again : (n : ℕ) (ty : Ty) (name : List ℕ) (h : ℕ) → IsName name → types.Again n 0 (ty_text ty) ty h → TypedAgain n ty (Some name) h
unfolding Type_ NamedType
named-again n ty name h v a = record {
  pieces = enclosed k.OpenParen 40 k.CloseParen 41 (typed_pieces a.pieces name);
  spelled = enclosed-text k.OpenParen 40 k.CloseParen 41 (typed_pieces a.pieces name) (typed (shown_ty ty) name) parens (typed-text a.pieces name ty v a.spelled);
  item = item-any false false (enclosed k.OpenParen 40 k.CloseParen 41 (typed_pieces a.pieces name))
      (enclosed-item k.OpenParen 40 k.CloseParen 41 (typed_pieces a.pieces name) parens (inside-item (typed_pieces a.pieces name) (item-any false false (typed_pieces a.pieces name) (typed-item a.pieces name v a.item))));
  reads = λ at j.
      let within = at + size (40 ∷ []) in
      let there = (within + size (letters a.pieces)) + 1 in
      let close = within + size (letters (typed_pieces a.pieces name)) in
      let last : List Token = token k.CloseParen close ∷ j in
      let inner : List Token = tokens_from within a.pieces ++ token (k.Name name) there ∷ last in
      let r = a.reads n (omega arith) within (token (k.Name name) there ∷ last) in
      let text_is : tokens_from at (enclosed k.OpenParen 40 k.CloseParen 41 (typed_pieces a.pieces name)) ++ j ≡ token k.OpenParen at ∷ inner =
      enclosed-tokens at k.OpenParen 40 k.CloseParen 41 (typed_pieces a.pieces name) j ∙ ap (λ (l : List Token). token k.OpenParen at ∷ l) (typed-tokens within a.pieces name last) in
      let path : (NamedType (suc n)).reads (token k.OpenParen at ∷ inner) (Low r.tree h, Some name) j =
      inl (
        at,
        inner,
        mark-reads t.OPEN_PAREN k.OpenParen at inner refl,
        (
          Low r.tree h,
          token (k.Name name) there ∷ last,
          r.reads,
          inl ((there, name), last, name-reads name there last, (close, j, mark-reads t.CLOSE_PAREN k.CloseParen close j refl, (refl, refl))),
        ),
      ) in
      record { tree = r.tree; same = r.same; reads = subst (λ (i : List Token). (NamedType (suc n)).reads i (Low r.tree h, Some name) j) (sym text_is) path };
}

pub alone-typed : (n : ℕ) (x : T) → types.IsPart (suc n) 0 x → IsTyped n (x, None)
alone-typed n x p = record { low = λ ty h e. alone-again n ty h (types.whole-of (suc n) ty h (p.low ty h e)) }

named-typed : (n : ℕ) (x : T) (name : List ℕ) → IsName name → types.IsPart n 0 x → IsTyped n (x, Some name)
named-typed n x name v p = record { low = λ ty h e. named-again n ty name h v (types.whole-of n ty h (p.low ty h e)) }

pub gives-inner_type : (n : ℕ) → Gives (InnerType (suc n)) (IsTyped n)
gives-inner_type n =
    gives-then (types.gives-type n) (λ x p.
    gives-or (gives-then gives-name (λ w v. gives-then (gives-mark t.CLOSE_PAREN) (λ c h. gives-pure (x, Some w.1) (IsTyped n) (named-typed n x w.1 v p))))
    (gives-then (gives-mark t.CLOSE_PAREN) (λ c h. gives-then (types.gives-type_rest (suc n) x (types.part-less (suc n) 3 2 x (omega arith) (types.in-paren n x p))) (λ y q. gives-pure (y, None) (IsTyped n) (alone-typed n y q)))))

pub gives-named_type : (n : ℕ) → Gives (NamedType (suc n)) (IsTyped n)
unfolding NamedType
gives-named_type n =
    gives-or (gives-then (gives-mark t.OPEN_PAREN) (λ at h. gives-inner_type n))
    (gives-then (gives-unless (is t.OPEN_PAREN) (types.gives-type (suc n))) (λ x p. gives-pure (x, None) (IsTyped n) (alone-typed n x p)))

-- ---- results of methods

-- a result behind an arrow
pub result-reads : (n at : ℕ) (i : List Token) (x : Typed) (j : List Token) → (NamedType (suc n)).reads i x j → (MethodResult (suc n)).reads (token k.Arrow at ∷ i) (some (given x.0 x.1)) j
unfolding NamedType MethodResult
result-reads n at i x j (inl r) = inl (at, i, mark-reads t.ARROW k.Arrow at i refl, inl (r.0, r.1, r.2, inr (x, j, r.3, (refl, refl))))
result-reads n at i x j (inr r) =
    let is : some (given x.0 x.1) ≡ some (given r.0 None) = ap (λ (c : Typed). some (given c.0 c.1)) r.3.0 in
    inl (at, i, mark-reads t.ARROW k.Arrow at i refl, inr (r.0, r.1, r.2, (is, r.3.1)))
