-- The conditions beside those that are kept, one after the other.
use Rattle.std.proofs.Common.{◌≡◌, ◌∙◌, ◌<◌, ◌≤◌, ◌+◌, ◌-◌, ℕ, zero, suc, List, [], ◌∷◌, ◌++◌, Bool, true, false, cond, drop, get_or, length, map, take, refl, sym, ap, subst, arith, append_assoc}
use Rattle.std.proofs.lemmas.List.{append-nil, length-append, length-map, map-append, reverse-append}
use Rattle.std.specs.Prelude.{reverse}
use Rattle.wy_batch.specs.Known.{AreKnown, Known}
use Rattle.wy_batch.specs.Seen.{NamesTerms, NameTerms, known}
use Rattle.wy_batch.specs.declared.verdict.Verdict.{Verdict}
use Rattle.wy_cache.proofs.KeptLemmas.{drop_mapped, none_dropped}
use Rattle.wy_cert.specs.Steps.{Certificates}
use Rattle.wy_term.specs.Condition.{Condition}
use Rattle.wy_term.specs.declared.cond.Cond.{Cond}
use Rattle.wy_top.specs.Taken.{AreBeside, behind, beside, comes_next, first_before, known_kept, others_of}

-- ---- the conditions that no certificate is for

module _ (of : Cond → Condition) (conds : List Cond) (i : ℕ) (c : Cond) (lt : i < length conds) (at : c ≡ get_or conds i c) (left : Certificates) where
  abbrev rest : List Condition
  rest = drop (i + 1) (map of conds)

  chosen : (b : Bool) → comes_next (i + 1) left ≡ b → others_of (i + 1) left (drop i (map of conds)) ≡ cond b (others_of (i + 1 + 1) (behind left) rest) (of c ∷ others_of (i + 1 + 1) left rest)
  chosen b is = ap (others_of (i + 1) left) (drop_mapped of conds i c lt at) ∙ ap (λ (e : Bool). cond e (others_of (i + 1 + 1) (behind left) rest) (of c ∷ others_of (i + 1 + 1) left rest)) is

  kept_here : (done all : List Condition) (more : Certificates) → comes_next (i + 1) left ≡ true → more ≡ behind left → done ++ others_of (i + 1) left (drop i (map of conds)) ≡ all → done ++ others_of (i + 1 + 1) more rest ≡ all
  kept_here done all more next is so_far = ap (λ (xs : List Condition). done ++ xs) (ap (λ (ds : Certificates). others_of (i + 1 + 1) ds rest) is ∙ sym (chosen true next)) ∙ so_far

  pub others_left : (list new : List Cond) (d : Cond) (all : List Condition) → comes_next (i + 1) left ≡ false → of d ≡ of c → new ≡ list ++ d ∷ [] → map of list ++ others_of (i + 1) left (drop i (map of conds)) ≡ all → map of new ++ others_of (i + 1 + 1) left rest ≡ all
  others_left list new d all next same pushed so_far =
      ap (λ (xs : List Condition). xs ++ others_of (i + 1 + 1) left rest) (ap (map of) pushed ∙ map-append of list (d ∷ []) ∙ ap (λ (x : Condition). map of list ++ x ∷ []) same)
      ∙ append_assoc (map of list) (of c ∷ []) (others_of (i + 1 + 1) left rest)
      ∙ ap (λ (xs : List Condition). map of list ++ xs) (sym (chosen false next)) ∙ so_far

-- one that has a certificate, whichever it is
pub others_kept : (of : Cond → Condition) (conds : List Cond) (i : ℕ) → i < length conds → (left : Certificates) (done all : List Condition) (more : Certificates) → comes_next (i + 1) left ≡ true → more ≡ behind left
    → done ++ others_of (i + 1) left (drop i (map of conds)) ≡ all → done ++ others_of (i + 1 + 1) more (drop (i + 1) (map of conds)) ≡ all
others_kept of conds i lt left done all more next is so_far = let c = at_place conds i lt in kept_here of conds i c.0 lt c.1 left done all more next is so_far
  where
    at_place : (cs : List Cond) (k : ℕ) → k < length cs → (c : Cond) × (c ≡ get_or cs k c)
    at_place [] k less = absurd (omega (arith, less))
    at_place (c ∷ cs) zero less = (c, refl)
    at_place (c ∷ cs) (suc k) less = at_place cs k (omega (arith, less))

pub others_all : (of : Cond → Condition) (conds : List Cond) (i : ℕ) (left : Certificates) (done all : List Condition) → length conds ≤ i → done ++ others_of (i + 1) left (drop i (map of conds)) ≡ all → done ≡ all
others_all of conds i left done all le so_far = sym (append-nil done) ∙ ap (λ (cs : List Condition). done ++ others_of (i + 1) left cs) (sym (none_dropped of conds i le)) ∙ so_far

-- ---- what is known of all

none_taken : (k : ℕ) → take k (let none : List Verdict = [] in none) ≡ []
none_taken zero = refl
none_taken (suc k) = refl

pub names_none : (waiting new : List Verdict) (k : ℕ) → length waiting ≡ 0 → new ≡ take k waiting → NameTerms new
names_none [] new k none same = subst NameTerms (sym (same ∙ none_taken k)) tt
names_none (v ∷ waiting) new k none same = absurd (omega (arith, none))

module _ (count i : ℕ) (lt : i < count) (left : Certificates) where
  one_less : count - i ≡ suc (count - (i + 1))
  one_less = omega (arith, lt)

  -- what comes of those that wait
  follow : (b : Bool) (waits : List Known) → comes_next (i + 1) left ≡ b
      → beside known_kept (i + 1) left (count - i) waits ≡ cond b (known_kept ∷ beside known_kept (i + 1 + 1) (behind left) (count - (i + 1)) waits) (first_before waits (beside known_kept (i + 1 + 1) left (count - (i + 1)) (behind waits)))
  follow b waits is =
      ap (λ (n : ℕ). beside known_kept (i + 1) left n waits) one_less
      ∙ ap (λ (e : Bool). cond e (known_kept ∷ beside known_kept (i + 1 + 1) (behind left) (count - (i + 1)) waits) (first_before waits (beside known_kept (i + 1 + 1) left (count - (i + 1)) (behind waits)))) is

  one_more : (list new : List Verdict) (v : Verdict) (k : Known) (others : List Known) → known v ≡ k → new ≡ list ++ v ∷ [] → map known new ++ others ≡ map known list ++ k ∷ others
  one_more list new v k others is pushed =
      ap (λ (xs : List Known). xs ++ others) (ap (map known) pushed ∙ map-append known list (v ∷ []) ∙ ap (λ (x : Known). map known list ++ x ∷ []) is) ∙ append_assoc (map known list) (k ∷ []) others

  pub beside_kept : (list new : List Verdict) (v : Verdict) (waits : List Known) (more : Certificates) (all : List Known) → comes_next (i + 1) left ≡ true → more ≡ behind left → known v ≡ known_kept → new ≡ list ++ v ∷ []
      → map known list ++ beside known_kept (i + 1) left (count - i) waits ≡ all → map known new ++ beside known_kept (i + 1 + 1) more (count - (i + 1)) waits ≡ all
  beside_kept list new v waits more all next is own pushed so_far =
      one_more list new v known_kept (beside known_kept (i + 1 + 1) more (count - (i + 1)) waits) own pushed
      ∙ ap (λ (xs : List Known). map known list ++ xs) (ap (λ (ds : Certificates). known_kept ∷ beside known_kept (i + 1 + 1) ds (count - (i + 1)) waits) is ∙ sym (follow true waits next)) ∙ so_far

  pub beside_some : (list new waiting popped : List Verdict) (v : Verdict) (all : List Known) → comes_next (i + 1) left ≡ false → waiting ≡ popped ++ v ∷ [] → new ≡ list ++ v ∷ []
      → map known list ++ beside known_kept (i + 1) left (count - i) (map known (reverse waiting)) ≡ all → map known new ++ beside known_kept (i + 1 + 1) left (count - (i + 1)) (map known (reverse popped)) ≡ all
  beside_some list new waiting popped v all next is pushed so_far =
      let first : map known (reverse waiting) ≡ known v ∷ map known (reverse popped) = ap (λ (vs : List Verdict). map known (reverse vs)) is ∙ ap (map known) (reverse-append popped (v ∷ [])) in
      one_more list new v (known v) (beside known_kept (i + 1 + 1) left (count - (i + 1)) (map known (reverse popped))) refl pushed
      ∙ ap (λ (xs : List Known). map known list ++ xs)
      (sym (follow false (map known (reverse waiting)) next ∙ ap (λ (ks : List Known). first_before ks (beside known_kept (i + 1 + 1) left (count - (i + 1)) (behind ks))) first)) ∙ so_far

  pub beside_none : (list waiting new : List Verdict) (k : ℕ) (all : List Known) → comes_next (i + 1) left ≡ false → length waiting ≡ 0 → new ≡ take k waiting
      → map known list ++ beside known_kept (i + 1) left (count - i) (map known (reverse waiting)) ≡ all → map known list ++ beside known_kept (i + 1 + 1) left (count - (i + 1)) (map known (reverse new)) ≡ all
  beside_none list [] new k all next none same so_far =
      ap (λ (vs : List Verdict). map known list ++ beside known_kept (i + 1 + 1) left (count - (i + 1)) (map known (reverse vs))) (same ∙ none_taken k) ∙ ap (λ (xs : List Known). map known list ++ xs) (sym (follow false [] next)) ∙ so_far
  beside_none list (v ∷ waiting) new k all next none same so_far = absurd (omega (arith, none))

pub beside_all : (count i : ℕ) (left : Certificates) (waits done all : List Known) → count ≤ i → done ++ beside known_kept (i + 1) left (count - i) waits ≡ all → done ≡ all
beside_all count i left waits done all le so_far =
    let none : 0 ≡ count - i = omega (arith, le) in
    sym (append-nil done) ∙ ap (λ (n : ℕ). done ++ beside known_kept (i + 1) left n waits) none ∙ so_far

-- ---- they name their terms

pub names_more : (list new : List Verdict) (v : Verdict) → NameTerms list → NamesTerms v.end → new ≡ list ++ v ∷ [] → NameTerms new
names_more list new v named here pushed = subst NameTerms (sym pushed) (behind_all list named)
  where
    behind_all : (vs : List Verdict) → NameTerms vs → NameTerms (vs ++ v ∷ [])
    behind_all [] h = (here, tt)
    behind_all (w ∷ ws) h = (h.0, behind_all ws h.1)

pub names_turned : (list new : List Verdict) → new ≡ reverse list → NameTerms list → NameTerms new
names_turned list new is h = subst NameTerms (sym is) (turn list h)
  where
    turn : (vs : List Verdict) → NameTerms vs → NameTerms (reverse vs)
    turn [] g = tt
    turn (v ∷ vs) g = subst NameTerms (sym (reverse-append (v ∷ []) vs)) (names_more (reverse vs) (reverse vs ++ v ∷ []) v (turn vs g.1) g.0 refl)

pub names_popped : (waiting popped : List Verdict) (v : Verdict) → waiting ≡ popped ++ v ∷ [] → NameTerms waiting → NameTerms popped × NamesTerms v.end
names_popped waiting popped v is h = split popped (subst NameTerms is h)
  where
    split : (vs : List Verdict) → NameTerms (vs ++ v ∷ []) → NameTerms vs × NamesTerms v.end
    split [] g = (tt, g.0)
    split (w ∷ ws) g = let rest = split ws g.1 in ((g.0, rest.0), rest.1)

-- ---- how many there are

known_many : (certs : Certificates) (budget n : ℕ) (cs : List Condition) (ks : List Known) → AreKnown certs budget n cs ks → length ks ≡ length cs
known_many certs budget n [] [] h = refl
known_many certs budget n [] (k ∷ ks) h = absurd h
known_many certs budget n (c ∷ cs) [] h = absurd h
known_many certs budget n (c ∷ cs) (k ∷ ks) h = ap suc (known_many certs budget (n + 1) cs ks h.1)

beside_many : (n : ℕ) (certs : Certificates) (cs : List Condition) (ks : List Known) → length ks ≡ length (others_of n certs cs) → length (beside known_kept n certs (length cs) ks) ≡ length cs
beside_many n certs [] ks e = refl
beside_many n certs (c ∷ cs) ks e = either (λ more ls is. beside_many (n + 1) more cs ls is) (comes_next n certs) e
  where
    either : ((more : Certificates) (ls : List Known) → length ls ≡ length (others_of (n + 1) more cs) → length (beside known_kept (n + 1) more (length cs) ls) ≡ length cs) → (b : Bool)
        → length ks ≡ length (cond b (others_of (n + 1) (behind certs) cs) (c ∷ others_of (n + 1) certs cs))
        → length (cond b (known_kept ∷ beside known_kept (n + 1) (behind certs) (length cs) ks) (first_before ks (beside known_kept (n + 1) certs (length cs) (behind ks)))) ≡ suc (length cs)
    either later true is = ap suc (later (behind certs) ks is)
    either later false is = by ks is
      where
        by : (ls : List Known) → length ls ≡ suc (length (others_of (n + 1) certs cs)) → length (first_before ls (beside known_kept (n + 1) certs (length cs) (behind ls))) ≡ suc (length cs)
        by [] none = absurd (omega (arith, none))
        by (l ∷ ls) some = ap suc (later certs ls (omega (arith, some)))

pub many_beside : (budget : ℕ) (certs : Certificates) (cs : List Condition) (vs : List Verdict) → AreBeside budget certs cs (map known vs) → length vs ≡ length cs
many_beside budget certs cs vs h =
    sym (length-map vs known) ∙ ap (λ (ks : List Known). length ks) h.are ∙ beside_many 1 certs cs h.others (known_many [] budget 1 (others_of 1 certs cs) h.others h.known)
