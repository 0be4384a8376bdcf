-- Lists with commas: what was read of them is read again from their text.
use Rattle.std.proofs.Common.{◌≡◌, ℕ, ◌+◌, ◌≤◌, ◌==◌, Bool, true, false, max, List, [], ◌∷◌, ◌++◌, map, codes, ◌⊎◌, inl, inr, refl, sym, ap, ap₂, ◌∙◌, subst, arith, append_assoc, append-nil}
use lib.Utf8.{encode}
use Rattle.wy_data.specs.Words.{is_part}
use Rattle.wy_data.proofs.WordLemmas.{is_part-ascii}
use Rattle.wy_reading.specs.Rule.{Then, Loop, Turns}
use Rattle.wy_reading.specs.Rule.Turns.{stop, more}
use Rattle.wy_parse_front.specs.wy_lex.declared.token.Token.{Token}
use Rattle.wy_parse_front.specs.wy_lex.declared.token.TokenKind.{TokenKind}
use Rattle.wy_parse_front.specs.wy_lex.declared.token.TokenKind.TheVariants as k
use Rattle.wy_parse_front.specs.wy_lex.declared.symbol.Character.{Character}
use Rattle.wy_parse_front.specs.wy_lex.declared.symbol.Character.TheVariants as class
use Rattle.wy_parse_front.specs.wy_lex.Layout.{token}
use Rattle.wy_print.specs.Pieces.{listed, more_listed}
use Rattle.wy_parse_front.specs.wy_parse_grammar.declared.measured.Measured.{Measured}
use Rattle.wy_parse_front.specs.wy_parse_grammar.declared.measured.Measured.TheVariants.{Low}
use Rattle.wy_parse_front.specs.wy_parse_grammar.Sorts as t
use Rattle.wy_parse_front.specs.wy_parse_grammar.Sorts.{is}
use Rattle.wy_parse_front.specs.wy_parse_grammar.Steps.{R, Mark}
use Rattle.wy_print_laws.proofs.round_lemmas.Pieces.{Piece, letters, size, tokens_from, tokens-append, IsMark, last_more}
use Rattle.wy_print_laws.proofs.round_lemmas.Pieces.Piece.{gap, mark}
use Rattle.wy_print_laws.proofs.round_lemmas.Segments.{text_of, text-both, Segment, joined, IsClosed, closed-append, Before, After, after-item, before-blank, leads-append, Item}
use Rattle.wy_parse_front.specs.wy_parse_grammar.Trees.{pushed}
use Rattle.wy_print_laws.proofs.round_lemmas.Heights.{same_part, same_height, pushed-low}
use Rattle.wy_print_laws.proofs.round_lemmas.Marked.{comma-mark}

-- ---- rules on tokens that are made

pub mark-reads : (c : ℕ) (kind : TokenKind) (at : ℕ) (i : List Token) → is c (token kind at) ≡ true → (Mark c).reads (token kind at ∷ i) at i
mark-reads c kind at i e = (token kind at, i, (e, refl), (refl, refl))

-- one turn more
pub turns-end : {A : Type 0} (turn : A → R A) (a : A) (i : List Token) (b : A) (j : List Token) (c : A) (l : List Token) → Turns turn a i b j → (turn b).reads j c l → Turns turn a i c l
turns-end turn a i b j c l (stop e f) r = more c l (subst (λ x. (turn x).reads i c l) e (subst (λ m. (turn b).reads m c l) (sym f) r)) (stop refl refl)
turns-end turn a i b j c l (more d m q rest) r = more d m q (turns-end turn d m b j c l rest r)

-- what stands behind the tokens of pieces
pub tokens-behind : (at : ℕ) (ps qs : List Piece) (j : List Token) → tokens_from at (ps ++ qs) ++ j ≡ tokens_from at ps ++ (tokens_from (at + size (letters ps)) qs ++ j)
tokens-behind at ps qs j = ap (λ l. l ++ j) (tokens-append at ps qs) ∙ append_assoc (tokens_from at ps) (tokens_from (at + size (letters ps)) qs) j

-- ---- items

pub item-any : (b e : Bool) (ps : List Piece) → Item b e ps → Item true true ps
item-any b e ps h = record {
  segment = record {
    linked = λ m p. h.segment.linked m (p.0, λ x. p.1 refl);
    last = λ m p. wide (last_more m ps) (h.segment.last m (p.0, λ x. p.1 refl));
  };
  leads = h.leads;
  closed = h.closed;
}
  where
    wide : (m : Character) → After e m → After true m
    wide class.Part h = tt
    wide class.Nothing h = tt
    wide (class.Is d) h = (h.0, refl)
    wide class.Any h = absurd h
    wide class.Blank h = absurd h
    wide class.LineEnd h = absurd h
    wide class.NoLineEnd h = absurd h
    wide class.Start h = absurd h
    wide class.Digit h = absurd h
    wide class.Plain h = absurd h
    wide class.Inside h = absurd h
    wide class.Sign h = absurd h
    wide class.Other h = absurd h
    wide class.Remark h = absurd h
    wide class.Piece h = absurd h

-- a sign that nothing lengthens, and a space
abbrev pub spaced : TokenKind → ℕ → List Piece
spaced kind c = mark kind (c ∷ []) class.Nothing ∷ gap ∷ []

abbrev pub comma : List Piece
comma = spaced k.Comma 44

comma-text : text_of comma ≡ codes ", "
unfolding encode
comma-text = refl

pub spaced-segment : (kind : TokenKind) (c : ℕ) → IsMark kind (c ∷ []) class.Nothing → is_part c ≡ false → (c == 124) ≡ false → Segment (After true) (spaced kind c) (Before true)
spaced-segment kind c x p b = record {
  linked = λ m h. (after-item true m c h p (λ e. b), x, (refl, tt));
  last = λ m h. (before-blank, λ e. refl);
}

-- two items with such a sign between them
pub item-spaced : (kind : TokenKind) (c : ℕ) (ps qs : List Piece) → IsMark kind (c ∷ []) class.Nothing → is_part c ≡ false → (c == 124) ≡ false → IsClosed (spaced kind c) → Item true true ps → Item true true qs → Item true true (ps ++ (spaced kind c ++ qs))
item-spaced kind c ps qs x p b f h g = record {
  segment = joined ps (spaced kind c ++ qs) h.segment (joined (spaced kind c) qs (spaced-segment kind c x p b) g.segment);
  leads = leads-append ps (spaced kind c ++ qs) h.leads;
  closed = closed-append ps (spaced kind c ++ qs) h.closed (closed-append (spaced kind c) qs f g.closed);
}

pub item-comma : (ps qs : List Piece) → Item true true ps → Item true true qs → Item true true (ps ++ (comma ++ qs))
item-comma ps qs h g = item-spaced k.Comma 44 ps qs comma-mark (is_part-ascii 44 (omega arith)) refl (record { closed = λ d. refl }) h g

-- ---- texts

more_listed-append : (ts : List (List ℕ)) (u : List ℕ) → more_listed (ts ++ u ∷ []) ≡ more_listed ts ++ (codes ", " ++ u)
more_listed-append [] u = ap (λ l. codes ", " ++ l) (append-nil u)
more_listed-append (s ∷ ts) u =
    ap (λ l. codes ", " ++ (s ++ l)) (more_listed-append ts u)
    ∙ (ap (λ l. codes ", " ++ l) (sym (append_assoc s (more_listed ts) (codes ", " ++ u))) ∙ sym (append_assoc (codes ", ") (s ++ more_listed ts) (codes ", " ++ u)))

pub listed-append : (s : List ℕ) (ts : List (List ℕ)) (u : List ℕ) → listed ((s ∷ ts) ++ u ∷ []) ≡ listed (s ∷ ts) ++ (codes ", " ++ u)
listed-append s ts u = ap (λ l. s ++ l) (more_listed-append ts u) ∙ sym (append_assoc s (more_listed ts) (codes ", " ++ u))

pub map-append : {X Y : Type 0} (f : X → Y) (xs ys : List X) → map f (xs ++ ys) ≡ map f xs ++ map f ys
map-append f [] ys = refl
map-append f (x ∷ xs) ys = ap (λ l. f x ∷ l) (map-append f xs ys)

-- ---- lists of things that have a text, and that are compared by what is made of them; `one` reads one more

module _ {X Y : Type 0} (text : X → List ℕ) (bare : X → Y) (one : ℕ → Measured (List X) → R (Measured (List X))) where
  abbrev pub Next : ℕ → Measured (List X) → R (Measured (List X))
  Next m xs = Then (Mark t.COMMA) (λ _. one m xs)

  abbrev pub Row : ℕ → R (Measured (List X))
  Row m = Then (one m (Low [] 0)) (λ xs. Loop (Next m) xs)

  -- one of them is read again from its text
  pub record One (n : ℕ) (x : X) (h : ℕ) : Type 0 where
    pub pieces : List Piece
    pub spelled : text_of pieces ≡ text x
    pub item : Item true true pieces
    pub reads : (m : ℕ) → n ≤ m → (at : ℕ) (j : List Token) (xs : List X) (l : ℕ)
        → (y : X) × (bare y ≡ bare x) × (one m (Low xs l)).reads (tokens_from at pieces ++ j) (Low (xs ++ y ∷ []) (max l h)) j

  -- all of them are, at least one
  pub record All (n : ℕ) (xs : List X) (h : ℕ) : Type 0 where
    pub first : X
    pub others : List X
    pub shape : xs ≡ first ∷ others
    pub pieces : List Piece
    pub spelled : text_of pieces ≡ listed (map text xs)
    pub item : Item true true pieces
    pub reads : (m : ℕ) → n ≤ m → (at : ℕ) (j : List Token) → (ys : List X) × (map bare ys ≡ map bare xs) × (Row m).reads (tokens_from at pieces ++ j) (Low ys h) j

  pub all-one : (n : ℕ) (x : X) (h : ℕ) → One n x h → All n (x ∷ []) (max 0 h)
  all-one n x h o = record {
    first = x;
    others = [];
    shape = refl;
    pieces = o.pieces;
    spelled = o.spelled ∙ sym (append-nil (text x));
    item = o.item;
    reads = λ m le at j.
        let r = o.reads m le at j [] 0 in
        (r.0 ∷ [], ap (λ y. y ∷ []) r.1, (Low (r.0 ∷ []) (max 0 h), j, r.2, stop refl refl));
  }

  pub all-more : (n : ℕ) (xs : List X) (l : ℕ) (x : X) (h : ℕ) → All n xs l → One n x h → All n (xs ++ x ∷ []) (max l h)
  all-more n xs l x h a o = record {
    first = a.first;
    others = a.others ++ x ∷ [];
    shape = ap (λ ys. ys ++ x ∷ []) a.shape;
    pieces = a.pieces ++ (comma ++ o.pieces);
    spelled =
        text-both a.pieces (comma ++ o.pieces) (listed (map text xs)) (codes ", " ++ text x) a.spelled (text-both comma o.pieces (codes ", ") (text x) comma-text o.spelled)
        ∙ (ap (λ ys. listed (map text ys) ++ (codes ", " ++ text x)) a.shape
        ∙ (sym (listed-append (text a.first) (map text a.others) (text x))
        ∙ (ap listed (sym (map-append text (a.first ∷ a.others) (x ∷ []))) ∙ ap (λ ys. listed (map text (ys ++ x ∷ []))) (sym a.shape))));
    item = item-comma a.pieces o.pieces a.item o.item;
    reads = λ m le at j.
        let here = at + size (letters a.pieces) in
        let there = (here + size (44 ∷ [])) + 1 in
        let rest : List Token = tokens_from there o.pieces ++ j in
        let text_is : tokens_from at (a.pieces ++ (comma ++ o.pieces)) ++ j ≡ tokens_from at a.pieces ++ token k.Comma here ∷ rest = tokens-behind at a.pieces (comma ++ o.pieces) j in
        let r = a.reads m le at (token k.Comma here ∷ rest) in
        let q = o.reads m le there j r.0 l in
        let turn : (Next m (Low r.0 l)).reads (token k.Comma here ∷ rest) (Low (r.0 ++ q.0 ∷ []) (max l h)) j = (here, rest, mark-reads t.COMMA k.Comma here rest refl, q.2) in
        let whole : (Row m).reads (tokens_from at a.pieces ++ token k.Comma here ∷ rest) (Low (r.0 ++ q.0 ∷ []) (max l h)) j =
        (r.2.0, r.2.1, r.2.2, turns-end (Next m) r.2.0 r.2.1 (Low r.0 l) (token k.Comma here ∷ rest) (Low (r.0 ++ q.0 ∷ []) (max l h)) j r.2.3 turn) in (
          r.0 ++ q.0 ∷ [],
          map-append bare r.0 (q.0 ∷ []) ∙ (ap₂ (λ (ys zs : List Y). ys ++ zs) r.1 (ap (λ y. y ∷ []) q.1) ∙ sym (map-append bare xs (x ∷ []))),
          subst (λ i. (Row m).reads i (Low (r.0 ++ q.0 ∷ []) (max l h)) j) (sym text_is) whole,
        );
  }

  -- what was read of a list so far: nothing, or things that are read again
  pub record IsRow (n : ℕ) (acc : Measured (List X)) : Type 0 where
    pub low : (xs : List X) (h : ℕ) → acc ≡ Low xs h → ((xs ≡ []) × (h ≡ 0)) ⊎ All n xs h

  -- at least one
  pub record IsFull (n : ℕ) (acc : Measured (List X)) : Type 0 where
    pub full : (xs : List X) (h : ℕ) → acc ≡ Low xs h → All n xs h

  pub row-none : (n : ℕ) → IsRow n (Low [] 0)
  row-none n = record { low = λ xs h e. inl (sym (same_part [] xs 0 h e), sym (same_height [] xs 0 h e)) }

  pub row-full : (n : ℕ) (acc : Measured (List X)) → IsFull n acc → IsRow n acc
  row-full n acc f = record { low = λ xs h e. inr (f.full xs h e) }

  pub row-pushed : (n : ℕ) (acc : Measured (List X)) (part : Measured X) → IsRow n acc → ((x : X) (h : ℕ) → part ≡ Low x h → One n x h) → IsFull n (pushed acc part)
  row-pushed n acc part r o = record {
    full = λ xs h e.
        let p = pushed-low acc part xs h e in
        let one_is : One n p.last p.last_height = o p.last p.last_height p.last_is in
        let all : All n (p.front ++ p.last ∷ []) (max p.front_height p.last_height) = by p.front p.front_height p.last p.last_height (r.low p.front p.front_height p.front_is) one_is in
        subst (λ l. All n xs l) (sym p.height_is) (subst (λ ys. All n ys (max p.front_height p.last_height)) (sym p.value) all);
  }
    where
      by : (ys : List X) (l : ℕ) (x : X) (h : ℕ) → ((ys ≡ []) × (l ≡ 0)) ⊎ All n ys l → One n x h → All n (ys ++ x ∷ []) (max l h)
      by ys l x h (inl none) o =
          subst (λ zs. All n (zs ++ x ∷ []) (max l h)) (sym none.0) (subst (λ g. All n (x ∷ []) (max g h)) (sym none.1) (all-one n x h o))
      by ys l x h (inr a) o = all-more n ys l x h a o
