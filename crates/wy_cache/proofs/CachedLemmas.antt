-- What is written into a cache, certificate by certificate.
use Rattle.std.proofs.Common.{◌≡◌, ℕ, zero, suc, ◌+◌, ◌-◌, ◌<◌, ◌≤◌, List, [], ◌∷◌, ◌++◌, Bool, true, false, codes, length, take, drop, get_or, map, Option, Some, None, refl, sym, ap, subst, ◌∙◌, arith, append_assoc}
use Rattle.std.specs.Fmt.{decimal}
use Rattle.std.specs.Prelude.{slice_get}
use Rattle.std.proofs.lemmas.List.{length-map, take_more, take-append-drop, take_all}
use Rattle.wy_term_text.proofs.wy_lemmas_proofs.Lists.{none_behind, append_mid}
use Rattle.wy_term.specs.Condition.{Condition}
use Rattle.wy_term_text.specs.wy_data.scan.Front.{AllPass}
use Rattle.wy_term_text.proofs.wy_data_proofs.scan_lemmas.RunLemmas.{run_same}
use Rattle.wy_cert.specs.Steps.{Written, Certificates}
use Rattle.wy_cert.specs.writing.Text.{texts, step_text, line_text, certificate_text, header, file_text, some_pass, has_product}
use Rattle.wy_check.specs.wy_check_laws.reread.Writable.{IsPlace, AreWritable, AreWritableBehind}
use Rattle.wy_check.proofs.wy_check_laws_proofs.reread_lemmas.StepLemmas.{step_inside, place_inside}
use Rattle.wy_cache_text.specs.declared.writer.Writer.{Writer}
use Rattle.wy_cache_text.specs.Lines.{is_inside, NoLine, IsLineAt, AreInside, lines_text, AreLinesAt}
use Rattle.wy_cache_text.specs.SoFar.{IsSoFar}
use Rattle.wy_cache_text.specs.Written.{Row}
use Rattle.wy_cache_text.proofs.LineLemmas.{not_inside}
use Rattle.wy_cache_text.proofs.WrittenLemmas.{put_behind}
use Rattle.wy_cache.specs.Cached.{row_of, with_row, rows_of}
use Rattle.wy_cache.specs.Standing.{Stands}

-- ---- the certificate that stands first

cond_inside : (n : ℕ) → IsPlace n → AllPass is_inside (codes "cond " ++ decimal n)
cond_inside n h = (refl, (refl, (refl, (refl, (refl, place_inside n h)))))

first_line : (n : ℕ) (steps : List Written) (text rest : List ℕ) → text ≡ certificate_text (n, steps) ++ rest → text ≡ (codes "cond " ++ decimal n) ++ 10 ∷ (texts line_text steps ++ rest)
first_line n steps text rest is = is ∙ ap (λ (i : List ℕ). codes "cond " ++ i) (append_assoc (decimal n) (10 ∷ texts line_text steps) rest)

pub some_line : (n : ℕ) (steps : List Written) (text : List ℕ) → Stands n steps text → NoLine text → ⊥
some_line n steps text h none = not_inside (codes "cond " ++ decimal n) (texts line_text steps ++ h.rest) (subst (AllPass is_inside) (first_line n steps text h.rest h.is) none)

pub behind_first : (n : ℕ) (steps : List Written) (text rest more : List ℕ) → IsPlace n → text ≡ certificate_text (n, steps) ++ rest → IsLineAt text more → more ≡ texts line_text steps ++ rest
behind_first n steps text rest more place is here =
    let k = run_same is_inside here.line (codes "cond " ++ decimal n) (10 ∷ more) (10 ∷ (texts line_text steps ++ rest)) here.inside (cond_inside n place) refl refl (sym here.is ∙ first_line n steps text rest is) in
    let e = k.rest in
    cc

pub steps_inside : (steps : List Written) → AreWritable steps → AreInside (map step_text steps)
steps_inside [] h = tt
steps_inside (s ∷ steps) h = (step_inside s h.0, steps_inside steps h.1)

pub steps_lines : (steps : List Written) → texts line_text steps ≡ lines_text (map step_text steps)
steps_lines [] = refl
steps_lines (s ∷ steps) = append_assoc (step_text s) (codes "\n") (texts line_text steps) ∙ ap (λ (i : List ℕ). step_text s ++ 10 ∷ i) (steps_lines steps)

pub steps_stand : (steps : List Written) (text rest : List ℕ) (count : ℕ) → count ≡ length steps → AreWritable steps → text ≡ texts line_text steps ++ rest → AreLinesAt count text (texts line_text steps) rest
steps_stand steps text rest count many writable is = record {
  lines = record { lines = map step_text steps; inside = steps_inside steps writable; many = length-map steps step_text ∙ sym many; is = steps_lines steps };
  is = is;
}

-- ---- the certificates one by one

-- what may be asked of a certificate of a list
pub record MayStand (conds : ℕ) (e : ℕ × List Written) : Type 0 where
  pub place : IsPlace e.0
  pub within : e.0 ≤ conds
  pub writable : AreWritable e.1

pub may_stand : (conds : ℕ) (done certs : Certificates) (i : ℕ) (e : ℕ × List Written) → AreWritableBehind conds done certs → i < length certs → e ≡ get_or certs i e → MayStand conds e
may_stand conds done [] i e all lt at = absurd (omega (arith, lt))
may_stand conds done (c ∷ cs) zero e all lt at = subst (MayStand conds) (sym at) (record { place = all.0; within = all.1; writable = all.4 })
may_stand conds done (c ∷ cs) (suc i) e all lt at = may_stand conds (done ++ c ∷ []) cs i e all.5 (omega (arith, lt)) at

drop_suc : {X : Type 0} (xs : List X) (i : ℕ) (x : X) → i < length xs → x ≡ get_or xs i x → drop i xs ≡ x ∷ drop (suc i) xs
drop_suc [] i x lt at = absurd (omega (arith, lt))
drop_suc (y ∷ ys) zero x lt at = ap (λ z. z ∷ ys) (sym at)
drop_suc (y ∷ ys) (suc i) x lt at = drop_suc ys i x (omega (arith, lt)) at

-- the certificate at a place stands first in the text of those from there on
pub stands_at : (certs : Certificates) (i : ℕ) (e : ℕ × List Written) (text : List ℕ) → i < length certs → e ≡ get_or certs i e → text ≡ texts certificate_text (drop i certs) ++ codes "end\n"
    → text ≡ certificate_text e ++ (texts certificate_text (drop (i + 1) certs) ++ codes "end\n")
stands_at certs i e text lt at is =
    let next : suc i ≡ i + 1 = omega arith in
    let split : drop i certs ≡ e ∷ drop (i + 1) certs = drop_suc certs i e lt at ∙ ap (λ (j : ℕ). e ∷ drop j certs) next in
    is ∙ ap (λ (cs : Certificates). texts certificate_text cs ++ codes "end\n") split ∙ append_assoc (certificate_text e) (texts certificate_text (drop (i + 1) certs)) (codes "end\n")

-- the item at a place, seen through a function
pub seen_at : {A B : Type 0} (f : A → B) (xs : List A) (i : ℕ) (x : A) → i < length xs → x ≡ get_or xs i x → f x ≡ get_or (map f xs) i (f x)
seen_at f [] i x lt at = absurd (omega (arith, lt))
seen_at f (y ∷ ys) zero x lt at = ap f at
seen_at f (y ∷ ys) (suc i) x lt at = seen_at f ys i x (omega (arith, lt)) at

pub got : {A B : Type 0} (f : A → B) (xs : List A) (i : ℕ) (x : A) → i < length xs → x ≡ get_or xs i x → slice_get (map f xs) i ≡ Some (f x)
got f [] i x lt at = absurd (omega (arith, lt))
got f (y ∷ ys) zero x lt at = ap (λ z. Some (f z)) (sym at)
got f (y ∷ ys) (suc i) x lt at = got f ys i x (omega (arith, lt)) at

-- ---- their entries

with_more : (o : Option Condition) (steps : List Written) (rows more : List Row) → with_row o steps (rows ++ more) ≡ with_row o steps rows ++ more
with_more None steps rows more = refl
with_more (Some c) steps rows more = refl

rows_append : (cs : List Condition) (es ds : Certificates) → rows_of cs (es ++ ds) ≡ rows_of cs es ++ rows_of cs ds
rows_append cs [] ds = refl
rows_append cs (e ∷ es) ds = ap (with_row (slice_get cs (e.0 - 1)) e.1) (rows_append cs es ds) ∙ with_more (slice_get cs (e.0 - 1)) e.1 (rows_of cs es) (rows_of cs ds)

pub rows_next : (cs : List Condition) (certs : Certificates) (i : ℕ) (e : ℕ × List Written) (c : Condition) → i < length certs → e ≡ get_or certs i e → slice_get cs (e.0 - 1) ≡ Some c
    → rows_of cs (take (i + 1) certs) ≡ rows_of cs (take i certs) ++ row_of c e.1 ∷ []
rows_next cs certs i e c lt at here =
    ap (rows_of cs) (take_more certs i e lt)
    ∙ ap (λ (d : ℕ × List Written). rows_of cs (take i certs ++ d ∷ [])) (sym at)
    ∙ rows_append cs (take i certs) (e ∷ [])
    ∙ ap (λ (o : Option Condition). rows_of cs (take i certs) ++ with_row o e.1 []) here

pub rows_all : (cs : List Condition) (certs : Certificates) (i : ℕ) → length certs ≤ i → rows_of cs (take i certs) ≡ rows_of cs certs
rows_all cs certs i le = ap (rows_of cs) (take_all i certs le)

-- where one didn't fit, none of the others is written
more_behind : (rows more : List Row) (w : Writer) → w.full ≡ true → IsSoFar rows w → IsSoFar (rows ++ more) w
more_behind rows [] w full h = subst (λ (l : List Row). IsSoFar l w) (sym (none_behind rows)) h
more_behind rows (r ∷ rs) w full h = subst (λ (l : List Row). IsSoFar l w) (append_mid rows r rs) (more_behind (rows ++ r ∷ []) rs w full (put_behind rows r w full h))

pub all_behind : (cs : List Condition) (certs : Certificates) (i : ℕ) (w : Writer) → w.full ≡ true → IsSoFar (rows_of cs (take i certs)) w → IsSoFar (rows_of cs certs) w
all_behind cs certs i w full h =
    subst (λ (l : List Row). IsSoFar l w) (sym (rows_append cs (take i certs) (drop i certs)) ∙ ap (rows_of cs) (take-append-drop i certs)) (more_behind (rows_of cs (take i certs)) (rows_of cs (drop i certs)) w full h)

-- ---- the first line

header_long : (b : Bool) (rest : List ℕ) → 9 ≤ length (header b ++ rest)
header_long true rest = omega arith
header_long false rest = omega arith

header_dropped : (b : Bool) (rest : List ℕ) → drop 9 (header b ++ rest) ≡ rest
header_dropped true rest = refl
header_dropped false rest = refl

pub file_long : (certs : Certificates) (bytes : List ℕ) → bytes ≡ file_text certs → 9 ≤ length bytes
file_long certs bytes is = subst (λ (i : List ℕ). 9 ≤ length i) (sym is) (header_long (some_pass has_product certs) (texts certificate_text certs ++ codes "end\n"))

pub file_dropped : (certs : Certificates) (bytes : List ℕ) → bytes ≡ file_text certs → drop 9 bytes ≡ texts certificate_text certs ++ codes "end\n"
file_dropped certs bytes is = ap (drop 9) is ∙ header_dropped (some_pass has_product certs) (texts certificate_text certs ++ codes "end\n")

pub ruleset file_steps = (file_long, file_dropped)
