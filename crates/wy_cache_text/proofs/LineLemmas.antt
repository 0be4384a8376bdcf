-- Whole lines of a text: there is one way to take them.
use Rattle.std.proofs.Common.{◌≡◌, ℕ, zero, suc, ◌+◌, ◌-◌, ◌<◌, ◌≤◌, List, [], ◌∷◌, ◌++◌, length, take, drop, get_or, false, refl, sym, ap, ◌∙◌, subst, arith, add-one, append_assoc}
use Rattle.std.specs.Prelude.{not, ◌==◌}
use Rattle.std.proofs.lemmas.List.{take-append-drop, take_all, length-append}
use Rattle.wy_data.proofs.wy_lemmas_proofs.Choices.{unlike}
use Rattle.wy_data.specs.scan.Front.{AllPass}
use Rattle.wy_data.proofs.scan_lemmas.RunLemmas.{run_same}
use Rattle.wy_data.proofs.scan_lemmas.FrontLemmas.{pass_more}
use Rattle.wy_cache_text.specs.Lines.{is_inside, NoLine, IsLineAt, AreInside, lines_text, AreLinesAt, NoLines}

-- ---- the first line

pub not_inside : (l r : List ℕ) → AllPass is_inside (l ++ 10 ∷ r) → ⊥
not_inside [] r passes = unlike (is_inside 10) passes.0 refl
not_inside (b ∷ l) r passes = not_inside l r passes.1

drop_here : (i : List ℕ) (n : ℕ) → n < length i → get_or i n 0 ≡ 10 → drop n i ≡ 10 ∷ drop (suc n) i
drop_here [] n lt here = absurd (omega (arith, lt))
drop_here (b ∷ i) zero lt here = ap (λ x. x ∷ i) here
drop_here (b ∷ i) (suc n) lt here = drop_here i n (omega (arith, lt)) here

pub line_here : (text : List ℕ) (n : ℕ) → n < length text → AllPass is_inside (take n text) → get_or text n 0 ≡ 10 → IsLineAt text (drop (n + 1) text)
line_here text n lt so_far here = record {
  line = take n text;
  inside = so_far;
  is = sym (take-append-drop n text) ∙ ap (λ i. take n text ++ i) (rw add-one (drop_here text n lt here));
}

pub line_nowhere : (text : List ℕ) (n : ℕ) → length text ≤ n → AllPass is_inside (take n text) → NoLine text
line_nowhere text n le so_far = subst (AllPass is_inside) (take_all n text le) so_far

pub line_more : (text : List ℕ) (n : ℕ) → n < length text → AllPass is_inside (take n text) → (get_or text n 0 == 10) ≡ false → AllPass is_inside (take (n + 1) text)
line_more text n lt so_far here = pass_more is_inside text n lt so_far (ap not here)

pub ruleset line_steps = (line_here, line_nowhere, line_more)

-- ---- several lines

pub record SameLines (ls ms : List (List ℕ)) (r s : List ℕ) : Type 0 where
  pub lines : ls ≡ ms
  pub rest : r ≡ s

pub same_lines : (ls ms : List (List ℕ)) (r s : List ℕ) → length ls ≡ length ms → AreInside ls → AreInside ms → lines_text ls ++ r ≡ lines_text ms ++ s → SameLines ls ms r s
same_lines [] [] r s many a b e = record { lines = refl; rest = e }
same_lines [] (m ∷ ms) r s many a b e = absurd (omega (arith, many))
same_lines (l ∷ ls) [] r s many a b e = absurd (omega (arith, many))
same_lines (l ∷ ls) (m ∷ ms) r s many a b e =
    let k = run_same is_inside l m (10 ∷ (lines_text ls ++ r)) (10 ∷ (lines_text ms ++ s)) a.0 b.0 refl refl (sym (append_assoc l (10 ∷ lines_text ls) r) ∙ e ∙ append_assoc m (10 ∷ lines_text ms) s) in
    let others : lines_text ls ++ r ≡ lines_text ms ++ s = let x = k.rest in cc in
    let more = same_lines ls ms r s (omega (arith, many)) a.1 b.1 others in
    record { lines = let x = k.front in let y = more.lines in cc; rest = more.rest }

-- the text begins with one such lot of lines
pub record OneLot (f g r s : List ℕ) : Type 0 where
  pub front : f ≡ g
  pub rest : r ≡ s

pub one_lot : (count : ℕ) (text f g r s : List ℕ) → AreLinesAt count text f r → AreLinesAt count text g s → OneLot f g r s
one_lot count text f g r s a b =
    let k = same_lines a.lines.lines b.lines.lines r s (a.lines.many ∙ sym b.lines.many) a.lines.inside b.lines.inside
    (ap (λ (i : List ℕ). i ++ r) (sym a.lines.is) ∙ sym a.is ∙ b.is ∙ ap (λ (i : List ℕ). i ++ s) b.lines.is) in
    record { front = a.lines.is ∙ ap lines_text k.lines ∙ sym b.lines.is; rest = k.rest }

-- where no line is left behind fewer lines, there are no more
none_left : (ls ms : List (List ℕ)) (r s : List ℕ) → length ls < length ms → AreInside ls → AreInside ms → NoLine r → lines_text ls ++ r ≡ lines_text ms ++ s → ⊥
none_left ls [] r s less a b none e = absurd (omega (arith, less))
none_left [] (m ∷ ms) r s less a b none e = not_inside m (lines_text ms ++ s) (subst (AllPass is_inside) (e ∙ append_assoc m (10 ∷ lines_text ms) s) none)
none_left (l ∷ ls) (m ∷ ms) r s less a b none e =
    let k = run_same is_inside l m (10 ∷ (lines_text ls ++ r)) (10 ∷ (lines_text ms ++ s)) a.0 b.0 refl refl (sym (append_assoc l (10 ∷ lines_text ls) r) ∙ e ∙ append_assoc m (10 ∷ lines_text ms) s) in
    let others : lines_text ls ++ r ≡ lines_text ms ++ s = let x = k.rest in cc in
    none_left ls ms r s (omega (arith, less)) a.1 b.1 none others

pub no_more_lines : (done count : ℕ) (text front rest : List ℕ) → done < count → AreLinesAt done text front rest → NoLine rest → NoLines count text
no_more_lines done count text front rest less so_far none g s b =
    none_left so_far.lines.lines b.lines.lines rest s (omega (arith, less, so_far.lines.many, b.lines.many)) so_far.lines.inside b.lines.inside none
    (ap (λ (i : List ℕ). i ++ rest) (sym so_far.lines.is) ∙ sym so_far.is ∙ b.is ∙ ap (λ (i : List ℕ). i ++ s) b.lines.is)

-- ---- one line more

inside_more : (ls : List (List ℕ)) (l : List ℕ) → AreInside ls → AllPass is_inside l → AreInside (ls ++ l ∷ [])
inside_more [] l a b = (b, tt)
inside_more (k ∷ ls) l a b = (a.0, inside_more ls l a.1 b)

text_more : (ls : List (List ℕ)) (l : List ℕ) → lines_text (ls ++ l ∷ []) ≡ lines_text ls ++ (l ++ 10 ∷ [])
text_more [] l = refl
text_more (k ∷ ls) l = ap (λ (i : List ℕ). k ++ 10 ∷ i) (text_more ls l) ∙ sym (append_assoc k (10 ∷ lines_text ls) (l ++ 10 ∷ []))

-- the lines so far: what they are is left open
pub record SoFar (done : ℕ) (text rest : List ℕ) : Type 0 where
  pub front : List ℕ
  pub lines : AreLinesAt done text front rest

pub no_lines_yet : (text : List ℕ) → SoFar 0 text text
no_lines_yet text = record { front = []; lines = record { lines = record { lines = []; inside = tt; many = refl; is = refl }; is = refl } }

pub one_line_more : (done : ℕ) (text rest more : List ℕ) → SoFar done text rest → IsLineAt rest more → SoFar (done + 1) text more
one_line_more done text rest more so_far here =
    let front = so_far.front in
    let lines = so_far.lines.lines in
    record {
      front = front ++ (here.line ++ 10 ∷ []);
      lines = record {
        lines = record {
          lines = lines.lines ++ here.line ∷ [];
          inside = inside_more lines.lines here.line lines.inside here.inside;
          many = length-append lines.lines (here.line ∷ []) ∙ ap (λ (n : ℕ). n + 1) lines.many;
          is = ap (λ (i : List ℕ). i ++ (here.line ++ 10 ∷ [])) lines.is ∙ sym (text_more lines.lines here.line);
        };
        is = so_far.lines.is ∙ ap (λ (i : List ℕ). front ++ i) (here.is ∙ sym (append_assoc here.line (10 ∷ []) more)) ∙ sym (append_assoc front (here.line ++ 10 ∷ []) more);
      };
    }

take_front : (f r : List ℕ) (n : ℕ) → n ≡ length f → take n (f ++ r) ≡ f
take_front [] r n e = rw e refl
take_front (b ∷ f) r n e = rw e (let t = take_front f r (length f) refl in ap (λ (i : List ℕ). b ∷ i) t)

-- the front is as long as the text without the rest
pub all_lines : (done : ℕ) (text rest : List ℕ) (n : ℕ) → SoFar done text rest → n ≡ length text - length rest → AreLinesAt done text (take n text) rest
all_lines done text rest n so_far is =
    let front = so_far.front in
    let whole = so_far.lines.is in
    let long : n ≡ length front = omega (arith, is, ap length whole, length-append front rest) in
    let cut : take n text ≡ front = ap (take n) whole ∙ take_front front rest n long in
    subst (λ (f : List ℕ). AreLinesAt done text f rest) (sym cut) so_far.lines

pub shorter : (done : ℕ) (text rest : List ℕ) → SoFar done text rest → length rest ≤ length text
shorter done text rest so_far = omega (arith, ap length so_far.lines.is, length-append so_far.front rest)
