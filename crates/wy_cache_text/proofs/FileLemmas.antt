-- Cache files: there is one reading.
use Rattle.std.proofs.Common.{◌≡◌, ◌≢◌, ℕ, ◌+◌, ◌<◌, ◌≤◌, List, [], ◌∷◌, ◌++◌, codes, refl, sym, ap, ◌∙◌, subst, arith}
use Rattle.std.specs.Fmt.{decimal}
use Rattle.wy_data.proofs.wy_lemmas_proofs.Lists.{append_cancel, append_mid, none_behind, map_pushed}
use Rattle.wy_data.specs.scan.Front.{IsBehind, NotBehind}
use Rattle.wy_data.specs.scan.Numbers.{IsNaturalAt, NoNatural}
use Rattle.wy_data.proofs.scan_lemmas.OneReading.{one_natural}
use Rattle.wy_cache_text.specs.declared.entry.Entry.{Entry}
use Rattle.wy_cache_text.specs.Lines.{AreLinesAt, NoLines}
use Rattle.wy_cache_text.specs.Files.{Held, Entries, most, IsCountAt, NoCount, IsEntryAt, NoEntry, IsBody, NoBody, IsCacheFile, IsReadAs, file, no_file, OneReading}
use Rattle.wy_cache_text.specs.Seen.{held, all_held}
use Rattle.wy_cache_text.proofs.LineLemmas.{one_lot}

-- ---- numbers

natural_of : (word text digits : List ℕ) (n : ℕ) (rest : List ℕ) → IsBehind word text digits → IsCountAt word text n rest → IsNaturalAt digits n (10 ∷ rest)
natural_of word text digits n rest opens c = record {
  is = append_cancel word digits (decimal n ++ 10 ∷ rest) (sym opens.is ∙ c.is);
  small = omega (arith, c.few);
  ends = refl;
}

pub count_no_word : (word text : List ℕ) → NotBehind word text → NoCount word text
count_no_word word text never n rest c = never (decimal n ++ 10 ∷ rest) (record { is = c.is })

pub count_no_number : (word text digits : List ℕ) → IsBehind word text digits → NoNatural digits → NoCount word text
count_no_number word text digits opens never n rest c = never n (10 ∷ rest) (natural_of word text digits n rest opens c)

pub count_no_end : (word text digits : List ℕ) (n : ℕ) (end : List ℕ) → IsBehind word text digits → IsNaturalAt digits n end → NotBehind (codes "\n") end → NoCount word text
count_no_end word text digits n end opens here never m rest c =
    never rest (record { is = (one_natural digits n m end (10 ∷ rest) here (natural_of word text digits m rest opens c)).rest })

pub count_large : (word text digits : List ℕ) (n : ℕ) (end : List ℕ) → IsBehind word text digits → IsNaturalAt digits n end → most < n → NoCount word text
count_large word text digits n end opens here large m rest c =
    let same : n ≡ m = (one_natural digits n m end (10 ∷ rest) here (natural_of word text digits m rest opens c)).number in
    omega (arith, same, large, c.few)

pub count_here : (word text digits : List ℕ) (n : ℕ) (end rest : List ℕ) → IsBehind word text digits → IsNaturalAt digits n end → IsBehind (codes "\n") end rest → n ≤ most → IsCountAt word text n rest
count_here word text digits n end rest opens here ends few = record {
  is = opens.is ∙ ap (λ (i : List ℕ). word ++ i) (here.is ∙ ap (λ (i : List ℕ). decimal n ++ i) ends.is);
  few = few;
}

pub ruleset count_steps = (count_no_word, count_no_number, count_no_end, count_large, count_here)

pub record OneCount (m n : ℕ) (r s : List ℕ) : Type 0 where
  pub number : m ≡ n
  pub rest : r ≡ s

pub one_count : (word text : List ℕ) (m n : ℕ) (r s : List ℕ) → IsCountAt word text m r → IsCountAt word text n s → OneCount m n r s
one_count word text m n r s a b =
    let opens : IsBehind word text (decimal m ++ 10 ∷ r) = record { is = a.is } in
    let k = one_natural (decimal m ++ 10 ∷ r) m n (10 ∷ r) (10 ∷ s) (natural_of word text (decimal m ++ 10 ∷ r) m r opens a) (natural_of word text (decimal m ++ 10 ∷ r) n s opens b) in
    record { number = k.number; rest = let e = k.rest in cc }

-- ---- one entry

-- what an entry has behind a number of hypotheses that is known
record Keyed (h : ℕ) (behind : List ℕ) (e : Held) (rest : List ℕ) : Type 0 where
  behind_key : List ℕ
  number : ℕ
  behind_by : List ℕ
  key : AreLinesAt (h + 1) behind e.key behind_key
  goes_on : IsCountAt (codes "by ") behind_key number behind_by
  some : 0 < number
  steps : AreLinesAt number behind_by e.steps rest

keyed : (text : List ℕ) (h : ℕ) (behind : List ℕ) (e : Held) (rest : List ℕ) → IsCountAt (codes "for ") text h behind → IsEntryAt text e rest → Keyed h behind e rest
keyed text h behind e rest opens a =
    let one = one_count (codes "for ") text a.hypotheses h a.behind_for behind a.opens opens in
    record {
      behind_key = a.behind_key;
      number = a.number;
      behind_by = a.behind_by;
      key = subst (λ (n : ℕ). AreLinesAt (n + 1) behind e.key a.behind_key) one.number (subst (λ (t : List ℕ). AreLinesAt (a.hypotheses + 1) t e.key a.behind_key) one.rest a.key);
      goes_on = a.goes_on;
      some = a.some;
      steps = a.steps;
    }

-- what it has behind a key that is known
record Stepped (key behind : List ℕ) (e : Held) (rest : List ℕ) : Type 0 where
  same : e.key ≡ key
  number : ℕ
  behind_by : List ℕ
  goes_on : IsCountAt (codes "by ") behind number behind_by
  some : 0 < number
  steps : AreLinesAt number behind_by e.steps rest

stepped : (h : ℕ) (text key behind : List ℕ) (e : Held) (rest : List ℕ) → AreLinesAt (h + 1) text key behind → Keyed h text e rest → Stepped key behind e rest
stepped h text key behind e rest lines a =
    let one = one_lot (h + 1) text e.key key a.behind_key behind a.key lines in
    record {
      same = one.front;
      number = a.number;
      behind_by = a.behind_by;
      goes_on = subst (λ (t : List ℕ). IsCountAt (codes "by ") t a.number a.behind_by) one.rest a.goes_on;
      some = a.some;
      steps = a.steps;
    }

-- what it has behind a number of steps that is known
record Last (n : ℕ) (key behind : List ℕ) (e : Held) (rest : List ℕ) : Type 0 where
  same : e.key ≡ key
  some : 0 < n
  steps : AreLinesAt n behind e.steps rest

last : (n : ℕ) (text key behind : List ℕ) (e : Held) (rest : List ℕ) → IsCountAt (codes "by ") text n behind → Stepped key text e rest → Last n key behind e rest
last n text key behind e rest count a =
    let one = one_count (codes "by ") text a.number n a.behind_by behind a.goes_on count in
    record {
      same = a.same;
      some = omega (arith, a.some, one.number);
      steps = subst (λ (k : ℕ). AreLinesAt k behind e.steps rest) one.number (subst (λ (t : List ℕ). AreLinesAt a.number t e.steps rest) one.rest a.steps);
    }

pub entry_no_for : (text : List ℕ) → NoCount (codes "for ") text → NoEntry text
entry_no_for text never e rest a = never a.hypotheses a.behind_for a.opens

module _ (text : List ℕ) (h : ℕ) (f : List ℕ) (opens : IsCountAt (codes "for ") text h f) where
  pub entry_no_key : NoLines (h + 1) f → NoEntry text
  entry_no_key never e rest a = let k = keyed text h f e rest opens a in never e.key k.behind_key k.key

  module _ (key k : List ℕ) (lines : AreLinesAt (h + 1) f key k) where
    behind_key : (e : Held) (rest : List ℕ) → IsEntryAt text e rest → Stepped key k e rest
    behind_key e rest a = stepped h f key k e rest lines (keyed text h f e rest opens a)

    pub entry_no_by : NoCount (codes "by ") k → NoEntry text
    entry_no_by never e rest a = let s = behind_key e rest a in never s.number s.behind_by s.goes_on

    module _ (n : ℕ) (b : List ℕ) (goes_on : IsCountAt (codes "by ") k n b) where
      behind_by : (e : Held) (rest : List ℕ) → IsEntryAt text e rest → Last n key b e rest
      behind_by e rest a = last n k key b e rest goes_on (behind_key e rest a)

      pub entry_no_number : n ≡ 0 → NoEntry text
      entry_no_number zero e rest a = let l = behind_by e rest a in omega (arith, zero, l.some)

      pub entry_no_steps : NoLines n b → NoEntry text
      entry_no_steps never e rest a = let l = behind_by e rest a in never e.steps rest l.steps

      pub entry_here : (steps rest : List ℕ) → 0 < n → AreLinesAt n b steps rest → IsEntryAt text (record { key = key; steps = steps }) rest
      entry_here steps rest some all = record {
        hypotheses = h;
        behind_for = f;
        behind_key = k;
        number = n;
        behind_by = b;
        opens = opens;
        key = lines;
        goes_on = goes_on;
        some = some;
        steps = all;
      }

same_held : (e d : Held) → e.key ≡ d.key → e.steps ≡ d.steps → e ≡ d
same_held e d key steps =
    ap (λ (k : List ℕ). let h : Held = record { key = k; steps = e.steps } in h) key ∙ ap (λ (s : List ℕ). let h : Held = record { key = d.key; steps = s } in h) steps

pub record OneEntry (e d : Held) (r s : List ℕ) : Type 0 where
  pub entry : e ≡ d
  pub rest : r ≡ s

pub one_entry : (text : List ℕ) (e d : Held) (r s : List ℕ) → IsEntryAt text e r → IsEntryAt text d s → OneEntry e d r s
one_entry text e d r s a b =
    let l = behind_by text b.hypotheses b.behind_for b.opens d.key b.behind_key b.key b.number b.behind_by b.goes_on e r a in
    let one = one_lot b.number b.behind_by e.steps d.steps r s l.steps b.steps in
    record { entry = same_held e d l.same one.front; rest = one.rest }

-- ---- all entries

end_no_entry : (text : List ℕ) (e : Held) (rest : List ℕ) → text ≡ codes "end\n" → IsEntryAt text e rest → ⊥
end_no_entry text e rest ends a = let o = a.opens in absurd (let i : text ≡ codes "for " ++ (decimal a.hypotheses ++ 10 ∷ a.behind_for) = o.is in cc)

one_body : (es ds : Entries) (text : List ℕ) → IsBody es text → IsBody ds text → es ≡ ds
one_body [] [] text a b = refl
one_body [] (d ∷ ds) text a b = absurd (end_no_entry text d b.0 a b.1)
one_body (e ∷ es) [] text a b = absurd (end_no_entry text e a.0 b a.1)
one_body (e ∷ es) (d ∷ ds) text a b =
    let one = one_entry text e d a.0 b.0 a.1 b.1 in
    let more : es ≡ ds = one_body es ds b.0 (subst (IsBody es) one.rest a.2) b.2 in
    let first : e ≡ d = one.entry in
    cc

-- others stand behind those that are done
pub record AreBehind (done all : Entries) (rest : List ℕ) : Type 0 where
  pub others : Entries
  pub is : all ≡ done ++ others
  pub body : IsBody others rest

-- what is left has a body exactly where the whole has one that begins with those that are done
pub record GoesOn (done : Entries) (rest text : List ℕ) : Type 0 where
  pub to : (es : Entries) → IsBody es rest → IsBody (done ++ es) text
  pub back : (all : Entries) → IsBody all text → AreBehind done all rest

pub body_begins : (text : List ℕ) → GoesOn [] text text
body_begins text = record { to = λ es h. h; back = λ all h. record { others = all; is = refl; body = h } }

pub body_turn : (done : Entries) (text rest : List ℕ) (e : Held) (more : List ℕ) → GoesOn done rest text → IsEntryAt rest e more → GoesOn (done ++ e ∷ []) more text
body_turn done text rest e more so_far here = record {
  to = λ es h. subst (λ (all : Entries). IsBody all text) (sym (append_mid done e es)) (so_far.to (e ∷ es) (more, here, h));
  back = λ all h. let b = so_far.back all h in by all b.others b.is b.body;
}
  where
    by : (all others : Entries) → all ≡ done ++ others → IsBody others rest → AreBehind (done ++ e ∷ []) all more
    by all [] is body = absurd (end_no_entry rest e more body here)
    by all (d ∷ ds) is body =
        let one = one_entry rest d e body.0 more body.1 here in
        record {
          others = ds;
          is = is ∙ ap (λ (x : Held). done ++ x ∷ ds) one.entry ∙ sym (append_mid done e ds);
          body = subst (IsBody ds) one.rest body.2;
        }

pub body_ends : (done : Entries) (text rest : List ℕ) → GoesOn done rest text → rest ≡ codes "end\n" → IsBody done text
body_ends done text rest so_far ends = subst (λ (all : Entries). IsBody all text) (none_behind done) (so_far.to [] ends)

pub body_stops : (done : Entries) (text rest : List ℕ) → GoesOn done rest text → rest ≢ codes "end\n" → NoEntry rest → NoBody text
body_stops done text rest so_far apart never all h = let b = so_far.back all h in by b.others b.body
  where
    by : (others : Entries) → IsBody others rest → ⊥
    by [] body = apart body
    by (d ∷ ds) body = never d body.0 body.1

pub held_pushed : (done : List Entry) (all : List Entry) (e : Entry) → all ≡ done ++ e ∷ [] → all_held all ≡ all_held done ++ held e ∷ []
held_pushed done all e is = ap all_held is ∙ map_pushed held done e

-- ---- files

one_file : (bytes : List ℕ) (es ds : Entries) → IsCacheFile bytes es → IsCacheFile bytes ds → es ≡ ds
one_file bytes es ds a b =
    let same : a.text ≡ b.text = append_cancel (codes "wycache 1\n") a.text b.text (let x = a.opens in let y = b.opens in sym x.is ∙ y.is) in
    one_body es ds b.text (subst (IsBody es) same a.body) b.body

pub no_header : (bytes : List ℕ) → NotBehind (codes "wycache 1\n") bytes → IsReadAs bytes []
no_header bytes never = no_file (λ ds f. never f.text f.opens) refl

pub no_entries : (bytes text : List ℕ) → IsBehind (codes "wycache 1\n") bytes text → NoBody text → IsReadAs bytes []
no_entries bytes text opens never = no_file (λ ds f. never ds (subst (IsBody ds) (let o = f.opens in append_cancel (codes "wycache 1\n") f.text text (sym o.is ∙ opens.is)) f.body)) refl

pub some_entries : (bytes text : List ℕ) (es : Entries) → IsBehind (codes "wycache 1\n") bytes text → IsBody es text → IsReadAs bytes es
some_entries bytes text es opens body = file (record { text = text; opens = opens; body = body })

pub ruleset file_steps = (no_header, no_entries, some_entries)

pub read_once : OneReading
read_once bytes es ds (file a) (file b) = one_file bytes es ds a b
read_once bytes es ds (file a) (no_file never none) = absurd (never es a)
read_once bytes es ds (no_file never none) (file b) = absurd (never ds b)
read_once bytes es ds (no_file never none) (no_file more empty) = none ∙ sym empty
