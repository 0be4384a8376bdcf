-- Starts of lines.
use Rattle.std.proofs.Common.{◌≡◌, ℕ, ◌+◌, ◌-◌, ◌<◌, ◌≤◌, ◌==◌, Bool, true, false, List, [], ◌∷◌, length, take, get_or, zero, suc, refl, sym, ap, subst, ◌∙◌, arith, if◌then◌else◌}
use Rattle.std.proofs.lemmas.List.{take_all}
use Rattle.wy_parse_front.specs.Places.{place_behind, place_of}
use Rattle.wy_lemmas.proofs.Numbers.{two}
use Rattle.wy_parse_front.specs.lines.Starts.{AreLines, LastIsBefore, NextIsBehind, start_of, starts_from}
use Rattle.wy_parse_front.specs.declared.lines.starts.Lines.{Lines}

-- each start is behind where the bytes begin
first_behind_if : (o : ℕ) (rest : List ℕ) (n : ℕ) (e : Bool) → ((m : ℕ) → m < length rest → suc o < get_or rest m 0) → n < length (if e then suc o ∷ rest else rest) → o < get_or (if e then suc o ∷ rest else rest) n 0
first_behind_if o rest zero true more lt = omega arith
first_behind_if o rest (suc n) true more lt = omega (arith, more n (omega (arith, lt)))
first_behind_if o rest n false more lt = omega (arith, more n lt)

pub all_behind : (o : ℕ) (bs : List ℕ) (n : ℕ) → n < length (starts_from o bs) → o < get_or (starts_from o bs) n 0
all_behind o [] n lt = absurd (omega (arith, lt))
all_behind o (b ∷ bs) n lt = first_behind_if o (starts_from (suc o) bs) n (b == 10) (all_behind (suc o) bs) lt

pair : (a b c d : ℕ) → a ≡ b → c ≡ d → two a c ≡ two b d
pair a b c d e f = ap (λ x. two x c) e ∙ ap (λ y. two b y) f

-- the place so many bytes behind an offset, where a line starts at `start`
abbrev IsPlaced : ℕ → ℕ → ℕ → List ℕ → List ℕ → ℕ → ℕ → Type 0
IsPlaced line start o bs ss k n = place_behind line (o - start + 1) (take k bs) ≡ two (line + n) (o + k - start_of start ss n + 1)

-- the same of each line and start, and each number of starts
abbrev ArePlaced : ℕ → List ℕ → List ℕ → ℕ → Type 0
ArePlaced o bs ss k = (line start n : ℕ) → start ≤ o → n ≤ length ss → LastIsBefore ss n (o + k) → NextIsBehind ss n (o + k) → IsPlaced line start o bs ss k n

abbrev ss_if : Bool → ℕ → List ℕ → List ℕ
ss_if e o rest = if e then suc o ∷ rest else rest

step : (o b k : ℕ) (bs rest : List ℕ) (e : Bool) → ArePlaced (suc o) bs rest k
    → (line start n : ℕ) → start ≤ o → n ≤ length (ss_if e o rest) → LastIsBefore (ss_if e o rest) n (o + suc k) → NextIsBehind (ss_if e o rest) n (o + suc k)
    → (if e then place_behind (line + 1) 1 (take k bs) else place_behind line (o - start + 1 + 1) (take k bs)) ≡ two (line + n) (o + suc k - start_of start (ss_if e o rest) n + 1)
step o b k bs rest true more line start zero le bound before behind = absurd (omega (arith, behind (omega arith)))
step o b k bs rest true more line start (suc zero) le bound before behind =
    ap (λ c. place_behind (line + 1) c (take k bs)) (omega arith)
    ∙ more (line + 1) (suc o) zero (omega arith) (omega arith) tt (λ lt. omega (arith, behind (omega (arith, lt))))
    ∙ pair (line + 1 + zero) (line + suc zero) (suc o + k - suc o + 1) (o + suc k - suc o + 1) (omega arith) (omega arith)
step o b k bs rest true more line start (suc (suc n)) le bound before behind =
    ap (λ c. place_behind (line + 1) c (take k bs)) (omega arith)
    ∙ more (line + 1) (suc o) (suc n) (omega arith) (omega (arith, bound)) (omega (arith, before)) (λ lt. omega (arith, behind (omega (arith, lt))))
    ∙ pair (line + 1 + suc n) (line + suc (suc n)) (suc o + k - get_or rest n 0 + 1) (o + suc k - get_or rest n 0 + 1) (omega arith) (omega arith)
step o b k bs rest false more line start n le bound before behind =
    ap (λ c. place_behind line c (take k bs)) (omega (arith, le))
    ∙ more line start n (omega (arith, le)) bound (subst (λ x. LastIsBefore rest n x) (omega arith) before) (λ lt. omega (arith, behind lt))
    ∙ pair (line + n) (line + n) (suc o + k - start_of start rest n + 1) (o + suc k - start_of start rest n + 1) refl (ap (λ x. x - start_of start rest n + 1) (omega arith))

none_before : (o : ℕ) (bs : List ℕ) (line start n : ℕ) → n ≤ length (starts_from o bs) → LastIsBefore (starts_from o bs) n (o + 0) → two line (o - start + 1) ≡ two (line + n) (o + 0 - start_of start (starts_from o bs) n + 1)
none_before o bs line start zero le before = pair line (line + zero) (o - start + 1) (o + 0 - start + 1) (omega arith) (ap (λ x. x - start + 1) (omega arith))
none_before o bs line start (suc n) le before = absurd (omega (arith, before, all_behind o bs n (omega (arith, le))))

placed : (o : ℕ) (bs : List ℕ) (k : ℕ) → k ≤ length bs → ArePlaced o bs (starts_from o bs) k
placed o [] zero fits line start n le bound before behind = none_before o [] line start n bound before
placed o [] (suc k) fits line start n le bound before behind = absurd (omega (arith, fits))
placed o (b ∷ bs) zero fits line start n le bound before behind = none_before o (b ∷ bs) line start n bound before
placed o (b ∷ bs) (suc k) fits line start n le bound before behind = step o b k bs (starts_from (suc o) bs) (b == 10) (placed (suc o) bs k (omega (arith, fits))) line start n le bound before behind

-- the place of an offset, by how many lines start at it or before it
pub place_is : (bytes : List ℕ) (l : Lines) (at m n : ℕ) → AreLines bytes l → take m bytes ≡ take at bytes → m ≤ l.end → n ≤ length l.starts.items → LastIsBefore l.starts.items n m → NextIsBehind l.starts.items n m
    → two (n + 1) (m - start_of 0 l.starts.items n + 1) ≡ place_of bytes at
place_is bytes l at m n lines same within bound before behind =
    let here = placed 0 bytes m (omega (arith, within, lines.end)) 1 0 n (omega arith) (subst (λ ss. n ≤ length ss) lines.starts bound) (subst (λ k. LastIsBefore (starts_from 0 bytes) n k) (omega arith) (subst (λ ss. LastIsBefore ss n m) lines.starts before)) (subst (λ k. NextIsBehind (starts_from 0 bytes) n k) (omega arith) (subst (λ ss. NextIsBehind ss n m) lines.starts behind)) in
    sym (ap (λ bs. place_behind 1 1 bs) (sym same) ∙ here ∙ pair (1 + n) (n + 1) (0 + m - start_of 0 (starts_from 0 bytes) n + 1) (m - start_of 0 l.starts.items n + 1) (omega arith) (ap (λ k. k - start_of 0 (starts_from 0 bytes) n + 1) (omega arith) ∙ ap (λ ss. m - start_of 0 ss n + 1) (sym lines.starts)))

-- what is behind the end is cut off
pub cut : (end at : ℕ) (bytes : List ℕ) → end ≤ at → end ≡ length bytes → take end bytes ≡ take at bytes
cut end at bytes le is = take_all end bytes (omega (arith, is)) ∙ sym (take_all at bytes (omega (arith, is, le)))

get_same : (xs : List ℕ) (j d e : ℕ) → j < length xs → get_or xs j d ≡ get_or xs j e
get_same [] j d e lt = absurd (omega (arith, lt))
get_same (x ∷ xs) zero d e lt = refl
get_same (x ∷ xs) (suc j) d e lt = get_same xs j d e (omega (arith, lt))

-- the start of the line behind so many starts
pub first_start : (ss : List ℕ) (n : ℕ) → n ≡ 0 → 0 ≡ start_of 0 ss n
first_start ss zero e = refl
first_start ss (suc n) e = absurd (omega (arith, e))

pub later_start : (ss : List ℕ) (n start d : ℕ) → 0 < n → n ≤ length ss → start ≡ get_or ss (n - 1) d → start ≡ start_of 0 ss n
later_start ss zero start d some le is = absurd (omega (arith, some))
later_start ss (suc n) start d some le is = is ∙ ap (λ k. get_or ss k d) (omega arith) ∙ get_same ss n d 0 (omega (arith, le))

pub ruleset start_steps = (first_start, later_start)
