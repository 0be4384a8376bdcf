-- What is written is read again.
use Rattle.std.proofs.Common.{◌≡◌, ℕ, ◌+◌, ◌<◌, ◌≤◌, List, [], ◌∷◌, ◌++◌, Bool, true, false, cond, codes, length, map, refl, sym, ap, subst, ◌∙◌, arith, append_assoc}
use Rattle.std.specs.Fmt.{decimal}
use Rattle.std.proofs.lemmas.List.{length-append}
use Rattle.wy_cache_text.specs.Lines.{lines_text, AreLines}
use Rattle.wy_cache_text.specs.Files.{most, IsEntryAt, IsBody, file}
use Rattle.wy_cache_text.specs.Written.{Row, row_text, rows_text, is_among, once_behind, IsLongest}
use Rattle.wy_cache_text.specs.Reread.{IsWritable, AreWritable, held_row, ReadsWhatIsWritten}

-- ---- those that are written are among those that were given

chosen : (b : Bool) (r : Row) (rs : List Row) → IsWritable r → AreWritable rs → AreWritable (cond b rs (r ∷ rs))
chosen true r rs h all = all
chosen false r rs h all = (h, all)

once_writable : (before : List (List ℕ)) (rows : List Row) → AreWritable rows → AreWritable (once_behind before rows)
once_writable before [] all = tt
once_writable before (r ∷ rs) all = chosen (is_among before r.key) r (once_behind (r.key ∷ before) rs) all.0 (once_writable (r.key ∷ before) rs all.1)

front_writable : (front behind : List Row) → AreWritable (front ++ behind) → AreWritable front
front_writable [] behind all = tt
front_writable (r ∷ front) behind all = (all.0, front_writable front behind all.1)

-- ---- numbers of lines are small where texts are short

as_long : (ls : List (List ℕ)) → length ls ≤ length (lines_text ls)
as_long [] = omega arith
as_long (l ∷ ls) = omega (arith, length-append l (10 ∷ lines_text ls), as_long ls)

lines_long : (n : ℕ) (bytes : List ℕ) → AreLines n bytes → n ≤ length bytes
lines_long n bytes h = omega (arith, as_long h.lines, h.many, ap length h.is)

row_long : (r : Row) → length r.key + length r.steps ≤ length (row_text r)
row_long r =
    let by : List ℕ = codes "by " ++ (decimal r.number ++ 10 ∷ r.steps) in
    let one = length-append (decimal r.hypotheses) (10 ∷ (r.key ++ by)) in
    let two = length-append r.key by in
    let three = length-append (decimal r.number) (10 ∷ r.steps) in
    omega (arith, one, two, three)

-- ---- entries

spread : (r : Row) (rest : List ℕ) → row_text r ++ rest ≡ codes "for " ++ (decimal r.hypotheses ++ 10 ∷ (r.key ++ (codes "by " ++ (decimal r.number ++ 10 ∷ (r.steps ++ rest)))))
spread r rest =
    let by : List ℕ = codes "by " ++ (decimal r.number ++ 10 ∷ r.steps) in
    let last : by ++ rest ≡ codes "by " ++ (decimal r.number ++ 10 ∷ (r.steps ++ rest)) = ap (λ (i : List ℕ). codes "by " ++ i) (append_assoc (decimal r.number) (10 ∷ r.steps) rest) in
    ap (λ (i : List ℕ). codes "for " ++ i)
    (append_assoc (decimal r.hypotheses) (10 ∷ (r.key ++ by)) rest ∙ ap (λ (i : List ℕ). decimal r.hypotheses ++ 10 ∷ i) (append_assoc r.key by rest ∙ ap (λ (i : List ℕ). r.key ++ i) last))

entry_of : (r : Row) (text rest : List ℕ) → IsWritable r → length (row_text r) ≤ most → text ≡ row_text r ++ rest → IsEntryAt text (held_row r) rest
entry_of r text rest h short is =
    let long = row_long r in
    let keys = lines_long (r.hypotheses + 1) r.key h.key in
    let steps = lines_long r.number r.steps h.steps in
    record {
      hypotheses = r.hypotheses;
      behind_for = r.key ++ (codes "by " ++ (decimal r.number ++ 10 ∷ (r.steps ++ rest)));
      behind_key = codes "by " ++ (decimal r.number ++ 10 ∷ (r.steps ++ rest));
      number = r.number;
      behind_by = r.steps ++ rest;
      opens = record { is = is ∙ spread r rest; few = omega (arith, long, keys, short) };
      key = record { lines = h.key; is = refl };
      goes_on = record { is = refl; few = omega (arith, long, steps, short) };
      some = h.some;
      steps = record { lines = h.steps; is = refl };
    }

body_of : (rows : List Row) → AreWritable rows → length (rows_text rows) ≤ most → IsBody (map held_row rows) (rows_text rows ++ codes "end\n")
body_of [] all short = refl
body_of (r ∷ rs) all short =
    let parts = length-append (row_text r) (rows_text rs) in
    (rows_text rs ++ codes "end\n", entry_of r (rows_text (r ∷ rs) ++ codes "end\n") (rows_text rs ++ codes "end\n") all.0 (omega (arith, parts, short)) (append_assoc (row_text r) (rows_text rs) (codes "end\n")), body_of rs all.1 (omega (arith, parts, short)))

pub reads_what_is_written : ReadsWhatIsWritten
reads_what_is_written rows bytes all written =
    let front = written.front in
    let writable = front_writable front written.behind (subst AreWritable written.all (once_writable [] rows all)) in
    let whole = ap length written.is in
    let parts = length-append (rows_text front) (codes "end\n") in
    file (record { text = rows_text front ++ codes "end\n"; opens = record { is = written.is }; body = body_of front writable (omega (arith, whole, parts, written.fits)) })
