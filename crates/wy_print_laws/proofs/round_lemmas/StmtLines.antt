-- Lines that are put together: their texts, and the tokens that are left behind a statement.
use Rattle.std.proofs.Common.{◌≡◌, ℕ, suc, ◌+◌, ◌-◌, ◌≤◌, nat_le, Bool, true, false, cond, List, [], ◌∷◌, ◌++◌, inl, refl, sym, ap, ap₂, ◌∙◌, subst, arith, append_assoc}
use Rattle.std.specs.Bool.{⊤}
use Rattle.std.specs.Str.{encode_utf8_all}
use Rattle.std.proofs.lemmas.Str.{encodes-append}
use lib.Utf8.{encode}
use Rattle.wy_parse_front.specs.wy_lex.declared.token.Token.{Token}
use Rattle.wy_parse_front.specs.wy_lex.declared.token.TokenKind.TheVariants as k
use Rattle.wy_parse_front.specs.wy_lex.Layout.{token, outs}
use Rattle.wy_print_laws.proofs.round_lemmas.Pieces.{Piece, letters, size, tokens_from, colon_behind}
use Rattle.wy_print_laws.proofs.round_lemmas.Pieces.Piece.{gap, mark}
use Rattle.wy_print_laws.proofs.round_lemmas.Marks.{encodes-ascii}
use Rattle.wy_print_laws.proofs.round_lemmas.Segments.{text_of}
use Rattle.wy_print_laws.proofs.round_lemmas.Lines.{Line, margin, lead, body, behind, entry, next_at, IsBody, Good, continues_first, margin-ascii}
use Rattle.wy_print_laws.proofs.round_lemmas.Lines.Line.{fresh, further, blank}
use Rattle.wy_print_laws.proofs.round_lemmas.LineRuns.{lines_text}

-- ---- texts

pub margin-bytes : (n : ℕ) → encode_utf8_all (margin n) ≡ margin n
margin-bytes n = encodes-ascii (margin n) (margin-ascii n)

ended-bytes : (cs ds : List ℕ) → encode_utf8_all (cs ++ 10 ∷ ds) ≡ encode_utf8_all cs ++ 10 ∷ encode_utf8_all ds
unfolding encode
ended-bytes cs ds = encodes-append cs (10 ∷ ds)

pub begun-text : (l : ℕ) (ps : List Piece) (ls : List Line) → lines_text (fresh l ps ∷ ls) ≡ margin l ++ (text_of ps ++ 10 ∷ lines_text ls)
begun-text l ps ls = encodes-append (margin l) (letters ps ++ 10 ∷ (lead ls ++ body ls)) ∙ ap₂ (λ (a b : List ℕ). a ++ b) (margin-bytes l) (ended-bytes (letters ps) (lead ls ++ body ls))

pub further-text : (l : ℕ) (ps : List Piece) (ls : List Line) → lines_text (further l ps ∷ ls) ≡ margin l ++ (text_of ps ++ 10 ∷ lines_text ls)
further-text l ps ls = encodes-append (margin l) (letters ps ++ 10 ∷ (lead ls ++ body ls)) ∙ ap₂ (λ (a b : List ℕ). a ++ b) (margin-bytes l) (ended-bytes (letters ps) (lead ls ++ body ls))

pub blank-text : (ls : List Line) → lines_text (blank ∷ ls) ≡ 10 ∷ lines_text ls
blank-text ls = ended-bytes [] (lead ls ++ body ls)

regroup : (m t a b : List ℕ) → m ++ (t ++ 10 ∷ (a ++ b)) ≡ (m ++ (t ++ 10 ∷ a)) ++ b
regroup m t a b = sym (append_assoc m (t ++ 10 ∷ a) b ∙ ap (λ (l : List ℕ). m ++ l) (append_assoc t (10 ∷ a) b))

pub lines-append : (is bs : List Line) → lines_text (is ++ bs) ≡ lines_text is ++ lines_text bs
lines-append [] bs = refl
lines-append (fresh l ps ∷ is) bs =
    begun-text l ps (is ++ bs) ∙ (ap (λ (x : List ℕ). margin l ++ (text_of ps ++ 10 ∷ x)) (lines-append is bs)
    ∙ (regroup (margin l) (text_of ps) (lines_text is) (lines_text bs) ∙ ap (λ (x : List ℕ). x ++ lines_text bs) (sym (begun-text l ps is))))
lines-append (further l ps ∷ is) bs =
    further-text l ps (is ++ bs) ∙ (ap (λ (x : List ℕ). margin l ++ (text_of ps ++ 10 ∷ x)) (lines-append is bs)
    ∙ (regroup (margin l) (text_of ps) (lines_text is) (lines_text bs) ∙ ap (λ (x : List ℕ). x ++ lines_text bs) (sym (further-text l ps is))))
lines-append (blank ∷ is) bs =
    blank-text (is ++ bs) ∙ (ap (λ (x : List ℕ). 10 ∷ x) (lines-append is bs) ∙ ap (λ (x : List ℕ). x ++ lines_text bs) (sym (blank-text is)))

-- ---- lines that stand no deeper

-- lines behind one of the level: the first that isn't blank stands no deeper
abbrev pub Follows : ℕ → List Line → Type 0
Follows n [] = ⊤
Follows n (fresh l ps ∷ ls) = (l ≤ n) × IsBody ps × (continues_first ps ≡ false) × Good l (colon_behind false ps) ls
Follows n (further l ps ∷ ls) = ⊥
Follows n (blank ∷ ls) = Follows n ls

pub colon-led : (a b : Bool) (ps : List Piece) → IsBody ps → colon_behind a ps ≡ colon_behind b ps
colon-led a b [] h = absurd h.leads
colon-led a b (gap ∷ ps) h = absurd h.leads
colon-led a b (mark kind cs m ∷ ps) h = refl

pub follows-good : (n o : ℕ) (c : Bool) (ls : List Line) → n ≤ o → Follows n ls → Good o c ls
follows-good n o c [] le f = tt
follows-good n o c (fresh l ps ∷ ls) le f = (f.1, f.2, inl (omega (arith, le, f.0)), subst (λ b. Good l b ls) (colon-led false c ps f.1) f.3)
follows-good n o c (further l ps ∷ ls) le f = absurd f
follows-good n o c (blank ∷ ls) le f = follows-good n o c ls le f

pub follows-deeper : (n o : ℕ) (ls : List Line) → n ≤ o → Follows n ls → Follows o ls
follows-deeper n o [] le f = tt
follows-deeper n o (fresh l ps ∷ ls) le f = (omega (arith, le, f.0), f.1, f.2, f.3)
follows-deeper n o (further l ps ∷ ls) le f = absurd f
follows-deeper n o (blank ∷ ls) le f = follows-deeper n o ls le f

-- ---- the tokens that are left

-- a line whose pieces begin at the place, and all behind it
abbrev pub opened : ℕ → List Piece → ℕ → List Line → List Token
opened at ps l ls = tokens_from at ps ++ behind (at + size (letters ps)) (next_at (at + size (letters ps)) ls) l ls

-- behind the end of a line of the level, and the ends of what is deeper
abbrev pub left : ℕ → ℕ → List Line → List Token
left at n [] = outs n at ++ token k.End at ∷ []
left at n (fresh l ps ∷ ls) = entry n l at ++ opened at ps l ls
left at n (further l ps ∷ ls) = []
left at n (blank ∷ ls) = left (next_at at ls) n ls

pub line-ends : (end at n : ℕ) (ls : List Line) → Follows n ls → behind end at n ls ≡ token k.LineEnd end ∷ left at n ls
line-ends end at n [] f = refl
line-ends end at n (fresh l ps ∷ ls) f = refl
line-ends end at n (further l ps ∷ ls) f = absurd f
line-ends end at n (blank ∷ ls) f = line-ends end (next_at at ls) n ls f

entry-open : (n l at : ℕ) → l ≤ n → entry n l at ≡ outs (n - l) at
entry-open n l at le = let here : nat_le l n ≡ true = grind (arith, le) in ap (λ b. cond b (outs (n - l) at) (token k.BlockIn at ∷ [])) here

pub entry-same : (n at : ℕ) → entry n n at ≡ []
entry-same n at = let same : n ≤ n = omega arith in let none : n - n ≡ 0 = omega arith in entry-open n n at same ∙ ap (λ m. outs m at) none

pub entry-new : (n at : ℕ) → entry n (suc n) at ≡ token k.BlockIn at ∷ []
entry-new n at = let new : nat_le (suc n) n ≡ false = grind arith in ap (λ b. cond b (outs (n - suc n) at) (token k.BlockIn at ∷ [])) new

pub left-begun : (at n : ℕ) (ps : List Piece) (ls : List Line) → left at n (fresh n ps ∷ ls) ≡ opened at ps n ls
left-begun at n ps ls = ap (λ (l : List Token). l ++ opened at ps n ls) (entry-same n at)

-- a block ends before lines that stand before it
pub record Out (at n : ℕ) (ls : List Line) : Type 0 where
  pub place : ℕ
  pub is : left at (suc n) ls ≡ token k.BlockOut place ∷ left at n ls

pub block-ends : (at n : ℕ) (ls : List Line) → Follows n ls → Out at n ls
block-ends at n [] f = record { place = at; is = refl }
block-ends at n (fresh l ps ∷ ls) f =
    let le : l ≤ n = f.0 in
    let deep : l ≤ suc n = omega (arith, le) in
    let one : suc n - l ≡ suc (n - l) = omega (arith, le) in
    record {
      place = at;
      is = ap (λ (x : List Token). x ++ opened at ps l ls) (entry-open (suc n) l at deep ∙ (ap (λ m. outs m at) one ∙ ap (λ (x : List Token). token k.BlockOut at ∷ x) (sym (entry-open n l at le))));
    }
block-ends at n (further l ps ∷ ls) f = absurd f
block-ends at n (blank ∷ ls) f = let o = block-ends (next_at at ls) n ls f in record { place = o.place; is = o.is }
