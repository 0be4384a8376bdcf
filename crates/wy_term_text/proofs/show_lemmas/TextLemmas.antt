-- Texts in pieces.
use Rattle.std.proofs.Common.{◌≡◌, ◌<◌, ◌≤◌, ◌+◌, ℕ, zero, suc, subst, List, [], ◌∷◌, ◌++◌, All, length, map, get_or, take, drop, reverse, codes, refl, sym, ap, ◌∙◌, arith, append_assoc}
use Rattle.std.proofs.lemmas.List.{append-nil, drop_all, reverse-append}
use Rattle.std.proofs.lemmas.List.Elements.{All-append, All-take, All-drop}
use Rattle.wy_term.proofs.wy_lemmas_proofs.Lists.{at_drop}
use Rattle.wy_term_text.specs.declared.show.Piece.{Piece}
use Rattle.wy_term.specs.Term.{Term}
use Rattle.wy_term.specs.Nodes.{parts_at}
use Rattle.wy_term_text.specs.show.Text.{behind, labelled, text_of, texts_of}
use Rattle.wy_term_text.specs.show.TextView.{piece_text, all_text, stack_text, IsPieceBelow}

-- ---- pieces

pub all_text_push : (at : ℕ → Term) (ps : List Piece) (p : Piece) → all_text at (ps ++ p ∷ []) ≡ all_text at ps ++ piece_text at p
all_text_push at [] p = refl
all_text_push at (q ∷ []) p = refl
all_text_push at (q ∷ r ∷ ps) p = ap (λ (x : List ℕ). piece_text at q ++ x) (all_text_push at (r ∷ ps) p) ∙ sym (append_assoc (piece_text at q) (all_text at (r ∷ ps)) (piece_text at p))

all_text_cons : (at : ℕ → Term) (p : Piece) (ps : List Piece) → all_text at (p ∷ ps) ≡ piece_text at p ++ all_text at ps
all_text_cons at p [] = sym (append-nil (piece_text at p))
all_text_cons at p (q ∷ ps) = refl

pub stack_append : (at : ℕ → Term) (ps qs : List Piece) → stack_text at (ps ++ qs) ≡ stack_text at qs ++ stack_text at ps
stack_append at [] qs = sym (append-nil (stack_text at qs))
stack_append at (p ∷ ps) qs = ap (λ (x : List ℕ). x ++ piece_text at p) (stack_append at ps qs) ∙ append_assoc (stack_text at qs) (stack_text at ps) (piece_text at p)

pub stack_reverse : (at : ℕ → Term) (ps : List Piece) → stack_text at (reverse ps) ≡ all_text at ps
stack_reverse at [] = refl
stack_reverse at (p ∷ ps) =
    ap (stack_text at) (reverse-append (p ∷ []) ps)
    ∙ stack_append at (reverse ps) (p ∷ [])
    ∙ ap (λ (x : List ℕ). piece_text at p ++ x) (stack_reverse at ps)
    ∙ sym (all_text_cons at p ps)

-- ---- lists of texts

abbrev pub terms_behind : (ℕ → Term) → List ℕ → List ℕ → List ℕ
terms_behind at sep ks = behind sep (texts_of (parts_at at ks))

abbrev pub fields_behind : (ℕ → Term) → List (List ℕ × ℕ) → List ℕ
fields_behind at fs = behind (codes ", ") (labelled (map (λ p. p.0) fs) (texts_of (parts_at at (map (λ p. p.1) fs))))

pub terms_more : (at : ℕ → Term) (sep : List ℕ) (ks : List ℕ) (i : ℕ) (ps : List Piece) (whole : List ℕ) (word part : Piece) → i < length ks → piece_text at word ≡ sep → piece_text at part ≡ text_of (at (get_or ks i 0)) → all_text at ps ++ terms_behind at sep (drop i ks) ≡ whole → all_text at ((ps ++ word ∷ []) ++ part ∷ []) ++ terms_behind at sep (drop (i + 1) ks) ≡ whole
terms_more at sep ks i ps whole word part lt is_word is_part so_far =
    let rest = terms_behind at sep (drop (i + 1) ks) in
    ap (λ (x : List ℕ). x ++ rest) (all_text_push at (ps ++ word ∷ []) part ∙ ap (λ (x : List ℕ). x ++ piece_text at part) (all_text_push at ps word))
    ∙ append_assoc (all_text at ps ++ piece_text at word) (piece_text at part) rest
    ∙ append_assoc (all_text at ps) (piece_text at word) (piece_text at part ++ rest)
    ∙ ap (λ (x : List ℕ). all_text at ps ++ (x ++ (piece_text at part ++ rest))) is_word
    ∙ ap (λ (x : List ℕ). all_text at ps ++ (sep ++ (x ++ rest))) is_part
    ∙ ap (λ (js : List ℕ). all_text at ps ++ terms_behind at sep js) (sym (at_drop ks i 0 lt))
    ∙ so_far

pub terms_end : (at : ℕ → Term) (sep : List ℕ) (ks : List ℕ) (i : ℕ) (ps : List Piece) (whole : List ℕ) → length ks ≤ i → all_text at ps ++ terms_behind at sep (drop i ks) ≡ whole → all_text at ps ≡ whole
terms_end at sep ks i ps whole le so_far =
    sym (append-nil (all_text at ps)) ∙ ap (λ (js : List ℕ). all_text at ps ++ terms_behind at sep js) (sym (drop_all i ks le)) ∙ so_far

pub names_more : (ns : List (List ℕ)) (i : ℕ) (n text : List ℕ) (whole : List ℕ) → i < length ns → n ≡ get_or ns i n → text ++ behind (codes ", ") (drop i ns) ≡ whole → ((text ++ codes ", ") ++ n) ++ behind (codes ", ") (drop (i + 1) ns) ≡ whole
names_more ns i n text whole lt is so_far =
    let rest = behind (codes ", ") (drop (i + 1) ns) in
    append_assoc (text ++ codes ", ") n rest
    ∙ append_assoc text (codes ", ") (n ++ rest)
    ∙ ap (λ (m : List ℕ). text ++ (codes ", " ++ (m ++ rest))) is
    ∙ ap (λ (ms : List (List ℕ)). text ++ behind (codes ", ") ms) (sym (at_drop ns i n lt))
    ∙ so_far

pub names_end : (ns : List (List ℕ)) (i : ℕ) (text whole : List ℕ) → length ns ≤ i → text ++ behind (codes ", ") (drop i ns) ≡ whole → text ≡ whole
names_end ns i text whole le so_far = sym (append-nil text) ∙ ap (λ (ms : List (List ℕ)). text ++ behind (codes ", ") ms) (sym (drop_all i ns le)) ∙ so_far

abbrev pub field_text : (ℕ → Term) → (List ℕ × ℕ) → List ℕ
field_text at f = f.0 ++ (codes ": " ++ text_of (at f.1))

-- a separator, a name, a colon and a term
pub fields_more : (at : ℕ → Term) (fs : List (List ℕ × ℕ)) (i : ℕ) (f : List ℕ × ℕ) (ps : List Piece) (whole : List ℕ) (a b c d : Piece) → i < length fs → f ≡ get_or fs i f → piece_text at a ≡ codes ", " → piece_text at b ≡ f.0 → piece_text at c ≡ codes ": " → piece_text at d ≡ text_of (at f.1) → all_text at ps ++ fields_behind at (drop i fs) ≡ whole → all_text at ((((ps ++ a ∷ []) ++ b ∷ []) ++ c ∷ []) ++ d ∷ []) ++ fields_behind at (drop (i + 1) fs) ≡ whole
fields_more at fs i f ps whole a b c d lt is is_a is_b is_c is_d so_far =
    let rest = fields_behind at (drop (i + 1) fs) in
    let t = all_text at ps in
    ap (λ (x : List ℕ). x ++ rest)
    (all_text_push at (((ps ++ a ∷ []) ++ b ∷ []) ++ c ∷ []) d
    ∙ ap (λ (x : List ℕ). x ++ piece_text at d)
    (all_text_push at ((ps ++ a ∷ []) ++ b ∷ []) c
    ∙ ap (λ (x : List ℕ). x ++ piece_text at c)
    (all_text_push at (ps ++ a ∷ []) b
    ∙ ap (λ (x : List ℕ). x ++ piece_text at b) (all_text_push at ps a))))
    ∙ (rw (is_a, is_b, is_c, is_d) (five t (codes ", ") f.0 (codes ": ") (text_of (at f.1)) rest))
    ∙ ap (λ (g : List ℕ × ℕ). t ++ (codes ", " ++ (field_text at g ++ rest))) is
    ∙ ap (λ (gs : List (List ℕ × ℕ)). t ++ fields_behind at gs) (sym (at_drop fs i f lt))
    ∙ so_far
  where
    five : (t s n k v r : List ℕ) → ((((t ++ s) ++ n) ++ k) ++ v) ++ r ≡ t ++ (s ++ ((n ++ (k ++ v)) ++ r))
    five t s n k v r =
        append_assoc (((t ++ s) ++ n) ++ k) v r
        ∙ append_assoc ((t ++ s) ++ n) k (v ++ r)
        ∙ append_assoc (t ++ s) n (k ++ (v ++ r))
        ∙ append_assoc t s (n ++ (k ++ (v ++ r)))
        ∙ ap (λ (x : List ℕ). t ++ (s ++ x)) (sym (append_assoc n (k ++ v) r ∙ ap (λ (x : List ℕ). n ++ x) (append_assoc k v r)))

pub fields_end : (at : ℕ → Term) (fs : List (List ℕ × ℕ)) (i : ℕ) (ps : List Piece) (whole : List ℕ) → length fs ≤ i → all_text at ps ++ fields_behind at (drop i fs) ≡ whole → all_text at ps ≡ whole
fields_end at fs i ps whole le so_far =
    sym (append-nil (all_text at ps)) ∙ ap (λ (gs : List (List ℕ × ℕ)). all_text at ps ++ fields_behind at gs) (sym (drop_all i fs le)) ∙ so_far

-- ---- the list of what is still to be written

-- the last piece is written next
pub popped_text : (at : ℕ → Term) (rest : List Piece) (p : Piece) → stack_text at (rest ++ p ∷ []) ≡ piece_text at p ++ stack_text at rest
popped_text at rest p = stack_append at rest (p ∷ [])

-- pieces that are put there last first
pub expanded_text : (at : ℕ → Term) (todo pieces : List Piece) → stack_text at (todo ++ reverse pieces) ≡ all_text at pieces ++ stack_text at todo
expanded_text at todo pieces = stack_append at todo (reverse pieces) ∙ ap (λ (x : List ℕ). x ++ stack_text at todo) (stack_reverse at pieces)

below_reverse : (n : ℕ) (xs : List Piece) → All (IsPieceBelow n) xs → All (IsPieceBelow n) (reverse xs)
below_reverse n [] a = a
below_reverse n (x ∷ xs) a =
    let rest : All (IsPieceBelow n) (reverse xs) = below_reverse n xs (λ j e inside. a (suc j) e (omega arith)) in
    subst (All (IsPieceBelow n)) (sym (reverse-append (x ∷ []) xs)) (All-append (IsPieceBelow n) (reverse xs) (x ∷ []) rest first)
  where
    first : All (IsPieceBelow n) (x ∷ [])
    first zero d lt = a 0 d (omega arith)
    first (suc i) d lt = absurd (omega arith)

pub pieces_below : (n : ℕ) (todo pieces : List Piece) → All (IsPieceBelow n) todo → All (IsPieceBelow n) pieces → All (IsPieceBelow n) (todo ++ reverse pieces)
pieces_below n todo pieces a b = All-append (IsPieceBelow n) todo (reverse pieces) a (below_reverse n pieces b)

pub written_text : (at : ℕ → Term) (out : List ℕ) (todo pieces turned new : List Piece) (p : Piece) → turned ≡ reverse pieces → new ≡ todo ++ turned → all_text at pieces ≡ piece_text at p → out ++ stack_text at new ≡ out ++ (piece_text at p ++ stack_text at todo)
written_text at out todo pieces turned new p turns makes same =
    ap (λ (x : List Piece). out ++ stack_text at x) (makes ∙ ap (λ (x : List Piece). todo ++ x) turns)
    ∙ ap (λ (x : List ℕ). out ++ x) (expanded_text at todo pieces ∙ ap (λ (x : List ℕ). x ++ stack_text at todo) same)

pub written_below : (n : ℕ) (todo pieces turned new : List Piece) → turned ≡ reverse pieces → new ≡ todo ++ turned → All (IsPieceBelow n) todo → All (IsPieceBelow n) pieces → All (IsPieceBelow n) new
written_below n todo pieces turned new turns makes a b = subst (All (IsPieceBelow n)) (sym (makes ∙ ap (λ (x : List Piece). todo ++ x) turns)) (pieces_below n todo pieces a b)

-- ---- one turn of the lists, push by push

pub terms_turn : (at : ℕ → Term) (sep : List ℕ) (ks : List ℕ) (i : ℕ) (ps mid new : List Piece) (whole : List ℕ) (word part : Piece) → mid ≡ ps ++ word ∷ [] → new ≡ mid ++ part ∷ [] → i < length ks → piece_text at word ≡ sep → piece_text at part ≡ text_of (at (get_or ks i 0))
    → all_text at ps ++ terms_behind at sep (drop i ks) ≡ whole → all_text at new ++ terms_behind at sep (drop (i + 1) ks) ≡ whole
terms_turn at sep ks i ps mid new whole word part first second lt is_word is_part so_far =
    subst (λ (x : List Piece). all_text at x ++ terms_behind at sep (drop (i + 1) ks) ≡ whole) (sym (second ∙ ap (λ (x : List Piece). x ++ part ∷ []) first)) (terms_more at sep ks i ps whole word part lt is_word is_part so_far)

one_below : (n : ℕ) (p : Piece) → IsPieceBelow n p → All (IsPieceBelow n) (p ∷ [])
one_below n p h zero d lt = h
one_below n p h (suc i) d lt = absurd (omega arith)

pub push_below : (n : ℕ) (ps new : List Piece) (p : Piece) → new ≡ ps ++ p ∷ [] → All (IsPieceBelow n) ps → IsPieceBelow n p → All (IsPieceBelow n) new
push_below n ps new p is below h = subst (All (IsPieceBelow n)) (sym is) (All-append (IsPieceBelow n) ps (p ∷ []) below (one_below n p h))

-- the numbers behind the first
pub rest_below : (n m : ℕ) (ks : List ℕ) (i : ℕ) → All (λ k. k < n) ks → i < length (take m (drop 1 ks)) → get_or (take m (drop 1 ks)) i 0 < n
rest_below n m ks i below lt = All-take (λ k. k < n) m (drop 1 ks) (All-drop (λ k. k < n) 1 ks below) i 0 lt

pub fields_turn : (at : ℕ → Term) (fs : List (List ℕ × ℕ)) (i : ℕ) (f : List ℕ × ℕ) (ps p q r new : List Piece) (whole : List ℕ) (a b c d : Piece) → p ≡ ps ++ a ∷ [] → q ≡ p ++ b ∷ [] → r ≡ q ++ c ∷ [] → new ≡ r ++ d ∷ [] → i < length fs → f ≡ get_or fs i f
    → piece_text at a ≡ codes ", " → piece_text at b ≡ f.0 → piece_text at c ≡ codes ": " → piece_text at d ≡ text_of (at f.1) → all_text at ps ++ fields_behind at (drop i fs) ≡ whole → all_text at new ++ fields_behind at (drop (i + 1) fs) ≡ whole
fields_turn at fs i f ps p q r new whole a b c d e1 e2 e3 e4 lt is is_a is_b is_c is_d so_far =
    subst (λ (x : List Piece). all_text at x ++ fields_behind at (drop (i + 1) fs) ≡ whole)
    (sym (e4 ∙ ap (λ (x : List Piece). x ++ d ∷ []) (e3 ∙ ap (λ (x : List Piece). x ++ c ∷ []) (e2 ∙ ap (λ (x : List Piece). x ++ b ∷ []) e1))))
    (fields_more at fs i f ps whole a b c d lt is is_a is_b is_c is_d so_far)

pairs_below : (n : ℕ) (fs : List (List ℕ × ℕ)) → All (λ k. k < n) (map (λ p. p.1) fs) → All (λ (p : List ℕ × ℕ). p.1 < n) fs
pairs_below n [] below i d lt = absurd (omega arith)
pairs_below n (f ∷ fs) below zero d lt = below 0 0 (omega arith)
pairs_below n (f ∷ fs) below (suc i) d lt = pairs_below n fs (λ j e inside. below (suc j) e (omega arith)) i d (omega arith)

pub field_below : (n m : ℕ) (fs : List (List ℕ × ℕ)) (i : ℕ) (f : List ℕ × ℕ) → All (λ k. k < n) (map (λ p. p.1) fs) → i < length (take m (drop 1 fs)) → f ≡ get_or (take m (drop 1 fs)) i f → f.1 < n
field_below n m fs i f below lt is =
    subst (λ (x : List ℕ × ℕ). x.1 < n) (sym is) (All-take (λ (p : List ℕ × ℕ). p.1 < n) m (drop 1 fs) (All-drop (λ (p : List ℕ × ℕ). p.1 < n) 1 fs (pairs_below n fs below)) i f lt)
