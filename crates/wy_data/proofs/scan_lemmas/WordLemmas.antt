-- Names of the language, and lists of them.
use Rattle.std.proofs.Common.{◌≡◌, ◌↔◌, ℕ, zero, suc, ◌+◌, ◌<◌, ◌≤◌, Bool, true, false, IsTrue, List, [], ◌∷◌, ◌++◌, length, drop, get_or, refl, sym, ap, ◌∙◌, subst, arith, rules, add-one}
use Rattle.std.proofs.lemmas.List.{append-nil, drop_all}
use Rattle.std.specs.Fmt.{decimal}
use Rattle.std.specs.Str.{IsUtf8, chars}
use Rattle.wy_data.specs.Words.{IsName, is_word, is_part, all_parts, is_keyword}
use Rattle.wy_lemmas.proofs.Choices.{unlike as true_false, never_true as never}
use Rattle.wy_lemmas.proofs.Lists.{at_drop}
use Rattle.wy_data.specs.scan.Front.{is_digit, is_word_byte, heads, AllPass, IsRun, IsBehind, NotBehind}
use Rattle.wy_data.specs.scan.Numbers.{IsNaturalAt, NoNatural}
use Rattle.wy_data.specs.scan.Words.{IsWord, AreWords, precedes, rises, AreFields, IsWordAt, NoWord, IsNumberedAt, NoNumbered}
use Rattle.wy_data.proofs.scan_lemmas.RunLemmas.{run_same, RunsSame}

-- ---- a name

pub no_keyword : (w : List ℕ) → is_keyword w ≡ true → IsTrue false ↔ IsName w
no_keyword w h = ((λ f. never f), (λ n. true_false (is_keyword w) h n.2))

pub no_utf8_name : (w : List ℕ) → ¬ (IsUtf8 w) → IsTrue false ↔ IsName w
no_utf8_name w h = ((λ f. never f), (λ n. absurd (h n.0)))

pub is_true : (b : Bool) → b ≡ true → IsTrue b
is_true b h = search rules

pub from_true : (b : Bool) → IsTrue b → b ≡ true
from_true b h = search rules

pub name_by_chars : (w : List ℕ) (b : Bool) → IsUtf8 w → is_keyword w ≡ false → b ≡ is_word (chars w) → IsTrue b ↔ IsName w
name_by_chars w b u k e = ((λ t. (u, sym e ∙ from_true b t, k)), (λ n. is_true b (e ∙ n.1)))

pub ruleset name_steps = (no_keyword, no_utf8_name, name_by_chars)

-- ---- a word

pub word_no_digit : (w : List ℕ) → heads is_digit w ≡ true → IsTrue false ↔ IsWord w
word_no_digit w h = ((λ f. never f), (λ x. true_false (heads is_digit w) h x.start))

whole_run : (w front rest : List ℕ) → IsRun is_word_byte w front rest → AllPass is_word_byte w → RunsSame front w rest []
whole_run w front rest run passes = run_same is_word_byte front w rest [] run.passes passes run.ends refl (sym run.is ∙ sym (append-nil w))

pub word_with_rest : (w front rest : List ℕ) → IsRun is_word_byte w front rest → (length rest ≡ 0 → ⊥) → IsTrue false ↔ IsWord w
word_with_rest w front rest run some = ((λ f. never f), (λ x. absurd (some (ap length (whole_run w front rest run x.bytes).rest))))

no_rest : (w front rest : List ℕ) → IsRun is_word_byte w front rest → length rest ≡ 0 → AllPass is_word_byte w
no_rest w front [] run none = subst (AllPass is_word_byte) (sym (run.is ∙ append-nil front)) run.passes
no_rest w front (b ∷ rest) run none = absurd (omega arith)

pub word_by_name : (w front rest : List ℕ) (b : Bool) → heads is_digit w ≡ false → IsRun is_word_byte w front rest → length rest ≡ 0 → (IsTrue b ↔ IsName w) → (IsTrue b ↔ IsWord w)
word_by_name w front rest b start run none names = ((λ t. record { name = names.0 t; bytes = no_rest w front rest run none; start = start }), (λ x. names.1 x.name))

pub ruleset whole_word_steps = (word_no_digit, word_with_rest, word_by_name)

-- ---- a word at the front

front_is : (text front rest w r : List ℕ) → IsRun is_word_byte text front rest → IsWordAt text w r → RunsSame front w rest r
front_is text front rest w r run at = run_same is_word_byte front w rest r run.passes at.word.bytes run.ends at.ends (sym run.is ∙ at.is)

pub no_word_front : (text front rest : List ℕ) → IsRun is_word_byte text front rest → (IsWord front → ⊥) → NoWord text
no_word_front text front rest run none w r at = none (subst IsWord (sym (front_is text front rest w r run at).front) at.word)

pub no_text_front : (text front rest : List ℕ) → IsRun is_word_byte text front rest → ¬ (IsUtf8 front) → NoWord text
no_text_front text front rest run none w r at = none (subst IsUtf8 (sym (front_is text front rest w r run at).front) at.word.name.0)

pub word_front : (text front rest : List ℕ) → IsRun is_word_byte text front rest → IsWord front → IsWordAt text front rest
word_front text front rest run w = record { is = run.is; word = w; ends = run.ends }

pub ruleset word_steps = (no_word_front, no_text_front, word_front)

-- ---- a word, a sign and a number

word_in : (sign : ℕ) (text w : List ℕ) (n : ℕ) (r : List ℕ) → is_word_byte sign ≡ false → IsNumberedAt sign text w n r → IsWordAt text w (sign ∷ (decimal n ++ r))
word_in sign text w n r apart at = record { is = at.is; word = at.word; ends = apart }

pub no_word_there : (sign : ℕ) (text : List ℕ) → is_word_byte sign ≡ false → NoWord text → NoNumbered sign text
no_word_there sign text apart none w n r at = none w (sign ∷ (decimal n ++ r)) (word_in sign text w n r apart at)

rest_is : (sign : ℕ) (text v rest w : List ℕ) (n : ℕ) (r : List ℕ) → is_word_byte sign ≡ false → IsWordAt text v rest → IsNumberedAt sign text w n r → RunsSame v w rest (sign ∷ (decimal n ++ r))
rest_is sign text v rest w n r apart here at = run_same is_word_byte v w rest (sign ∷ (decimal n ++ r)) here.word.bytes at.word.bytes here.ends apart (sym here.is ∙ at.is)

pub no_sign_there : (sign : ℕ) (text v rest : List ℕ) → is_word_byte sign ≡ false → IsWordAt text v rest → NotBehind (sign ∷ []) rest → NoNumbered sign text
no_sign_there sign text v rest apart here none w n r at = none (decimal n ++ r) (record { is = (rest_is sign text v rest w n r apart here at).rest })

pub no_number_there : (sign : ℕ) (text v rest more : List ℕ) → is_word_byte sign ≡ false → IsWordAt text v rest → IsBehind (sign ∷ []) rest more → NoNatural more → NoNumbered sign text
no_number_there sign text v rest more apart here sign_there none w n r at =
    let e : sign ∷ more ≡ sign ∷ (decimal n ++ r) = sym sign_there.is ∙ (rest_is sign text v rest w n r apart here at).rest in
    none n r (record { is = cc; small = at.small; ends = at.ends })

pub numbered_there : (sign : ℕ) (text v rest more : List ℕ) (n : ℕ) (r : List ℕ) → IsWordAt text v rest → IsBehind (sign ∷ []) rest more → IsNaturalAt more n r → IsNumberedAt sign text v n r
numbered_there sign text v rest more n r here sign_there at = record {
  is = here.is ∙ ap (λ x. v ++ x) (sign_there.is ∙ ap (λ x. sign ∷ x) at.is);
  word = here.word;
  small = at.small;
  ends = at.ends;
}

pub ruleset numbered_steps = (no_word_there, no_sign_there, no_number_there, numbered_there)

-- ---- lists of names

-- one more is a word
pub words_more : (names : List (List ℕ)) (k : ℕ) (w : List ℕ) (b : Bool) → k < length names → w ≡ get_or names k w → (IsTrue b ↔ IsWord w) → b ≡ true → (AreWords (drop k names) ↔ AreWords names) → (AreWords (drop (k + 1) names) ↔ AreWords names)
words_more names k w b lt is word answer so_far =
    let e = at_drop names k w lt in
    let here : IsWord (get_or names k w) = subst IsWord is (word.0 (is_true b answer)) in
    ((λ rest. so_far.0 (subst AreWords (sym e) (here, rest))), (λ all. (subst AreWords e (so_far.1 all)).1))

-- one isn't
pub words_not : (names : List (List ℕ)) (k : ℕ) (w : List ℕ) (b : Bool) → k < length names → w ≡ get_or names k w → (IsTrue b ↔ IsWord w) → b ≡ false → (AreWords (drop k names) ↔ AreWords names) → IsTrue false ↔ AreWords names
words_not names k w b lt is word answer so_far =
    let e = at_drop names k w lt in
    ((λ f. never f), (λ all. true_false b (from_true b (word.1 (subst IsWord (sym is) (subst AreWords e (so_far.1 all)).0))) answer))

pub words_all : (names : List (List ℕ)) (k : ℕ) → length names ≤ k → (AreWords (drop k names) ↔ AreWords names) → IsTrue true ↔ AreWords names
words_all names k le so_far = ((λ t. so_far.0 (subst AreWords (sym (drop_all k names le)) tt)), (λ all. is_true true refl))

pub words_begin : (names : List (List ℕ)) → AreWords (drop 0 names) ↔ AreWords names
words_begin names = ((λ x. x), (λ x. x))

pub ruleset list_steps = (words_more, words_not, words_all, words_begin)

more_suc : (names : List (List ℕ)) (k : ℕ) (c d : List ℕ) → suc k < length names → precedes (get_or names k c) (get_or names (suc k) d) ≡ true → rises (drop k names) ≡ rises (drop (suc k) names)
more_suc [] k c d lt before = absurd (omega arith)
more_suc (a ∷ []) k c d lt before = absurd (omega arith)
more_suc (a ∷ b ∷ r) zero c d lt before = rw before refl
more_suc (a ∷ b ∷ r) (suc k) c d lt before = more_suc (b ∷ r) k c d (omega (arith, lt)) before

fails_suc : (names : List (List ℕ)) (k : ℕ) (c d : List ℕ) → suc k < length names → precedes (get_or names k c) (get_or names (suc k) d) ≡ false → rises (drop k names) ≡ false
fails_suc [] k c d lt before = absurd (omega arith)
fails_suc (a ∷ []) k c d lt before = absurd (omega arith)
fails_suc (a ∷ b ∷ r) zero c d lt before = rw before refl
fails_suc (a ∷ b ∷ r) (suc k) c d lt before = fails_suc (b ∷ r) k c d (omega (arith, lt)) before

end_suc : (names : List (List ℕ)) (k : ℕ) → length names ≤ suc k → rises (drop k names) ≡ true
end_suc [] zero le = refl
end_suc [] (suc k) le = refl
end_suc (a ∷ []) zero le = refl
end_suc (a ∷ b ∷ r) zero le = absurd (omega arith)
end_suc (a ∷ r) (suc k) le = end_suc r k (omega (arith, le))

pub rises_more : (names : List (List ℕ)) (k : ℕ) (c d : List ℕ) (whole : Bool) → k + 1 < length names → c ≡ get_or names k c → d ≡ get_or names (k + 1) d → precedes c d ≡ true → rises (drop k names) ≡ whole → rises (drop (k + 1) names) ≡ whole
rises_more names k c d whole lt is_c is_d before so_far =
    let h : precedes (get_or names k c) (get_or names (suc k) d) ≡ true = subst (λ j. precedes (get_or names k c) (get_or names j d) ≡ true) (add-one k) (rw (sym is_c, sym is_d) before) in
    rw add-one (sym (more_suc names k c d (omega (arith, lt)) h) ∙ so_far)

pub rises_fails : (names : List (List ℕ)) (k : ℕ) (c d : List ℕ) (whole : Bool) → k + 1 < length names → c ≡ get_or names k c → d ≡ get_or names (k + 1) d → precedes c d ≡ false → rises (drop k names) ≡ whole → false ≡ whole
rises_fails names k c d whole lt is_c is_d before so_far =
    let h : precedes (get_or names k c) (get_or names (suc k) d) ≡ false = subst (λ j. precedes (get_or names k c) (get_or names j d) ≡ false) (add-one k) (rw (sym is_c, sym is_d) before) in
    sym (fails_suc names k c d (omega (arith, lt)) h) ∙ so_far

pub rises_end : (names : List (List ℕ)) (k : ℕ) (whole : Bool) → length names ≤ k + 1 → rises (drop k names) ≡ whole → true ≡ whole
rises_end names k whole le so_far = sym (end_suc names k (omega (arith, le))) ∙ so_far

pub ruleset rise_steps = (rises_more, rises_fails, rises_end)

-- ---- characters of a name

pub parts_more : (cs : List ℕ) (k : ℕ) (c : ℕ) (whole : Bool) → k < length cs → c ≡ get_or cs k c → is_part c ≡ true → all_parts (drop k cs) ≡ whole → all_parts (drop (k + 1) cs) ≡ whole
parts_more cs k c whole lt is here so_far = sym (ap all_parts (at_drop cs k c lt) ∙ rw (sym is, here) refl) ∙ so_far

pub parts_fail : (cs : List ℕ) (k : ℕ) (c : ℕ) (whole : Bool) → k < length cs → c ≡ get_or cs k c → is_part c ≡ false → all_parts (drop k cs) ≡ whole → false ≡ whole
parts_fail cs k c whole lt is here so_far = sym (ap all_parts (at_drop cs k c lt) ∙ rw (sym is, here) refl) ∙ so_far

pub parts_end : (cs : List ℕ) (k : ℕ) (whole : Bool) → length cs ≤ k → all_parts (drop k cs) ≡ whole → true ≡ whole
parts_end cs k whole le so_far = sym (ap all_parts (drop_all k cs le)) ∙ so_far

pub ruleset part_steps = (parts_more, parts_fail, parts_end)

-- ---- fields

pub not_rising : (names : List (List ℕ)) → rises names ≡ false → IsTrue false ↔ AreFields names
not_rising names h = ((λ f. never f), (λ a. true_false (rises names) a.rise h))

pub rising : (names : List (List ℕ)) (b : Bool) → rises names ≡ true → (IsTrue b ↔ AreWords names) → IsTrue b ↔ AreFields names
rising names b h words = ((λ t. record { words = words.0 t; rise = h }), (λ a. words.1 a.words))

pub ruleset field_steps = (not_rising, rising)
