-- The text of a term is neat.
use Rattle.std.proofs.Common.{◌≡◌, ◌<◌, ◌^◌, Some, le_refl, ℕ, zero, suc, List, [], ◌∷◌, ◌++◌, true, false, ℤ, pos, codes, refl, arith}
use Rattle.std.proofs.lemmas.Bool.{lt-ltb}
use Rattle.std.specs.Fmt.{decimal, signed_decimal}
use Rattle.wy_data.specs.scan.Numbers.{is_wide}
use Rattle.wy_data.specs.scan.Words.{IsWord, AreWords}
use Rattle.wy_data.proofs.scan_lemmas.NumberLemmas.{written_so, written_some}
use Rattle.wy_check_spec.specs.wy_term.Term as term
use Rattle.wy_check_spec.specs.wy_term.Term.{DataKind, null_kind, bool_kind, int_kind, array_kind, record_kind, Symbol, Term, Of, Parts, no_parts, part}
use Rattle.wy_check_spec.specs.wy_term.Sorts.{Sort}
use Rattle.wy_check_spec.specs.wy_term_text.show.Text.{behind, separated, labelled, number_name, datum_name, kind_text, text_at, applied, bound, connected, written, text_of, texts_of}
use Rattle.wy_check_spec.specs.wy_term_text.spell.Grammar.{Layout, gapped, first_of, more_of, IsNumbered, IsKind, IsInRange, layout}
use Rattle.wy_check_spec.specs.wy_term_text.reread.Shown.{IsOf, AreOf}
use Rattle.wy_check_laws.proofs.reread_lemmas.NeatLemmas.{scan, Passes, IsNeat, neat_passes, passes_both, neat_behind, passes_nothing, NeatBehind, neat_on, behind_both, member_behind, IsPlain, words_plain, signed_plain, plain_passes, plain_neat}

-- ---- numbers and names

pub whole_neat : (z : ℤ) → is_wide z ≡ true → IsNeat (signed_decimal z)
whole_neat z e = plain_neat (signed_decimal z) (written_some z e) (signed_plain (signed_decimal z) (written_so z e))

small_wide : (n : ℕ) → n < 2 ^ 127 → is_wide (pos n) ≡ true
small_wide n h = lt-ltb n (2 ^ 127) h

pub natural_neat : (n : ℕ) → n < 2 ^ 127 → IsNeat (decimal n)
natural_neat n h = whole_neat (pos n) (small_wide n h)

pub word_passes : (w : List ℕ) → IsWord w → Passes w
word_passes w h = plain_passes w (words_plain w h.bytes)

numbered_neat : (w : List ℕ) (n : ℕ) → IsNumbered w n → IsNeat (number_name w n)
numbered_neat w n h = neat_behind w (codes "#" ++ decimal n) (word_passes w h.word) (neat_behind (codes "#") (decimal n) (λ p. record { last = 35; runs = refl }) (natural_neat n h.small))

dotted_neat : (w : List ℕ) (n : ℕ) → IsNumbered w n → IsNeat (datum_name w n)
dotted_neat w n h = neat_behind w (codes "." ++ decimal n) (word_passes w h.word) (neat_behind (codes ".") (decimal n) (λ p. record { last = 46; runs = refl }) (natural_neat n h.small))

-- ---- lists of texts

abbrev AllNeat : List (List ℕ) → Type 0
AllNeat [] = Unit {0}
AllNeat (x ∷ xs) = IsNeat x × AllNeat xs

abbrev AllPassing : List (List ℕ) → Type 0
AllPassing [] = Unit {0}
AllPassing (x ∷ xs) = Passes x × AllPassing xs

all_passing : (xs : List (List ℕ)) → AllNeat xs → AllPassing xs
all_passing [] h = tt
all_passing (x ∷ xs) h = (neat_passes x h.0, all_passing xs h.1)

comma : Passes (codes ", ")
comma p = record { last = 32; runs = refl }

commas_pass : (xs : List (List ℕ)) → AllPassing xs → Passes (behind (codes ", ") xs)
commas_pass [] h = passes_nothing
commas_pass (x ∷ xs) h = passes_both (codes ", ") (x ++ behind (codes ", ") xs) comma (passes_both x (behind (codes ", ") xs) h.0 (commas_pass xs h.1))

listed_pass : (xs : List (List ℕ)) → AllPassing xs → Passes (separated (codes ", ") xs)
listed_pass [] h = passes_nothing
listed_pass (x ∷ xs) h = passes_both x (behind (codes ", ") xs) h.0 (commas_pass xs h.1)

members_behind : (xs : List (List ℕ)) → AllNeat xs → NeatBehind (behind (codes "; ") xs)
members_behind [] h = λ p e. record { last = p; runs = refl; no_space = e }
members_behind (x ∷ xs) h = behind_both (59 ∷ 32 ∷ x) (behind (codes "; ") xs) (member_behind x h.0) (members_behind xs h.1)

closed_by : (b : ℕ) (xs : List ℕ) → IsPlain b → Passes xs → IsNeat (xs ++ b ∷ [])
closed_by b xs h f = neat_behind xs (b ∷ []) f (plain_neat (b ∷ []) (le_refl 1) (h, tt))

bracket : IsPlain 41
bracket = record { no_end = refl; no_semicolon = refl; no_space = refl }

square : IsPlain 93
square = record { no_end = refl; no_semicolon = refl; no_space = refl }

brace : IsPlain 125
brace = record { no_end = refl; no_semicolon = refl; no_space = refl }

applied_neat : (word : List ℕ) (xs : List (List ℕ)) → Passes word → AllPassing xs → IsNeat (applied word xs)
applied_neat word xs f h =
    neat_behind word (codes "(" ++ (separated (codes ", ") xs ++ codes ")")) f
    (neat_behind (codes "(") (separated (codes ", ") xs ++ codes ")") (λ p. record { last = 40; runs = refl }) (closed_by 41 (separated (codes ", ") xs) bracket (listed_pass xs h)))

part_passes : (xs : List (List ℕ)) (k : ℕ) → AllPassing xs → Passes (text_at xs k)
part_passes [] k h = passes_nothing
part_passes (x ∷ xs) zero h = h.0
part_passes (x ∷ xs) (suc k) h = part_passes xs k h.1

labels_pass : (ns xs : List (List ℕ)) → AreWords ns → AllPassing xs → AllPassing (labelled ns xs)
labels_pass [] xs h g = tt
labels_pass (n ∷ ns) [] h g = tt
labels_pass (n ∷ ns) (x ∷ xs) h g =
    (passes_both n (codes ": " ++ x) (word_passes n h.0) (passes_both (codes ": ") x (λ p. record { last = 32; runs = refl }) g.0), labels_pass ns xs h.1 g.1)

names_pass : (ns : List (List ℕ)) → AreWords ns → AllPassing ns
names_pass [] h = tt
names_pass (n ∷ ns) h = (word_passes n h.0, names_pass ns h.1)

kind_passes : (kind : DataKind) → IsKind kind → Passes (kind_text kind)
kind_passes null_kind h = λ p. record { last = 108; runs = refl }
kind_passes bool_kind h = λ p. record { last = 108; runs = refl }
kind_passes int_kind h = λ p. record { last = 116; runs = refl }
kind_passes array_kind h = λ p. record { last = 121; runs = refl }
kind_passes (record_kind names) h = passes_both (codes "{") (separated (codes ", ") names ++ codes "}") (λ p. record { last = 123; runs = refl }) (passes_both (separated (codes ", ") names) (codes "}") (listed_pass names (names_pass names h.words)) (λ p. record { last = 125; runs = refl }))

connected_neat : (none open_text : List ℕ) (xs : List (List ℕ)) → IsNeat none → Passes open_text → AllNeat xs → IsNeat (connected none open_text xs)
connected_neat none open_text [] f g h = f
connected_neat none open_text (x ∷ xs) f g h =
    neat_behind open_text ((x ++ behind (codes "; ") xs) ++ codes ")") g
    (neat_on (x ++ behind (codes "; ") xs) (codes ")") (neat_on x (behind (codes "; ") xs) h.0 (members_behind xs h.1)) (λ p e. record { last = 41; runs = refl; no_space = refl }))

binding_neat : (quantifier w : List ℕ) (n : ℕ) (xs : List (List ℕ)) → Passes quantifier → IsNumbered w n → AllPassing xs → IsNeat (bound quantifier w n xs)
binding_neat quantifier w n xs f h g =
    neat_behind quantifier _ f
    (neat_behind (number_name w n) _ (neat_passes (number_name w n) (numbered_neat w n h))
    (neat_behind (codes " in ") _ (λ p. record { last = 32; runs = refl })
    (neat_behind (text_at xs 0) _ (part_passes xs 0 g)
    (neat_behind (codes "..") _ (λ p. record { last = 46; runs = refl })
    (neat_behind (text_at xs 1) _ (part_passes xs 1 g)
    (neat_behind (codes " | (") _ (λ p. record { last = 40; runs = refl })
    (closed_by 41 (text_at xs 2) bracket (part_passes xs 2 g))))))))

compared_neat : (sign x y : List ℕ) → Passes sign → IsNeat x → IsNeat y → IsNeat (x ++ (sign ++ y))
compared_neat sign x y f g h = neat_behind x (sign ++ y) (neat_passes x g) (neat_behind sign y f h)

literal : (last : ℕ) (xs : List ℕ) → ((p : ℕ) → scan p xs ≡ Some last) → Passes xs
literal last xs h p = record { last = last; runs = h p }

-- ---- terms

neat_by : (symbol : Symbol) (ps : Parts) → IsInRange symbol → AreOf ps (layout symbol) → AllNeat (texts_of ps) → IsNeat (written symbol (texts_of ps))
neat_by (term.number z) ps range h f = whole_neat z range
neat_by (term.int_name w n) ps range h f = numbered_neat w n range
neat_by term.add ps range h f = applied_neat (codes "add") (texts_of ps) (literal 100 (codes "add") (λ p. refl)) (all_passing (texts_of ps) f)
neat_by term.sub ps range h f = applied_neat (codes "sub") (texts_of ps) (literal 98 (codes "sub") (λ p. refl)) (all_passing (texts_of ps) f)
neat_by term.neg ps range h f = applied_neat (codes "neg") (texts_of ps) (literal 103 (codes "neg") (λ p. refl)) (all_passing (texts_of ps) f)
neat_by term.mul ps range h f = applied_neat (codes "mul") (texts_of ps) (literal 108 (codes "mul") (λ p. refl)) (all_passing (texts_of ps) f)
neat_by term.div ps range h f = applied_neat (codes "div") (texts_of ps) (literal 118 (codes "div") (λ p. refl)) (all_passing (texts_of ps) f)
neat_by term.rem ps range h f = applied_neat (codes "mod") (texts_of ps) (literal 100 (codes "mod") (λ p. refl)) (all_passing (texts_of ps) f)
neat_by term.num ps range h f = applied_neat (codes "num") (texts_of ps) (literal 109 (codes "num") (λ p. refl)) (all_passing (texts_of ps) f)
neat_by term.len ps range h f = applied_neat (codes "len") (texts_of ps) (literal 110 (codes "len") (λ p. refl)) (all_passing (texts_of ps) f)
neat_by (term.val_name w n) ps range h f = dotted_neat w n range
neat_by term.null ps range h f = λ p. record { last = 108; runs = refl; no_space = refl }
neat_by (term.truth true) ps range h f = λ p. record { last = 101; runs = refl; no_space = refl }
neat_by (term.truth false) ps range h f = λ p. record { last = 101; runs = refl; no_space = refl }
neat_by term.int ps range h f = applied_neat (codes "int") (texts_of ps) (literal 116 (codes "int") (λ p. refl)) (all_passing (texts_of ps) f)
neat_by term.bool ps range h f = applied_neat (codes "bool") (texts_of ps) (literal 108 (codes "bool") (λ p. refl)) (all_passing (texts_of ps) f)
neat_by term.array ps range h f = neat_behind (codes "arr[") (separated (codes ", ") (texts_of ps) ++ codes "]") (literal 91 (codes "arr[") (λ p. refl)) (closed_by 93 (separated (codes ", ") (texts_of ps)) square (listed_pass (texts_of ps) (all_passing (texts_of ps) f)))
neat_by term.repeat ps range h f = applied_neat (codes "rep") (texts_of ps) (literal 112 (codes "rep") (λ p. refl)) (all_passing (texts_of ps) f)
neat_by term.update ps range h f = applied_neat (codes "upd") (texts_of ps) (literal 100 (codes "upd") (λ p. refl)) (all_passing (texts_of ps) f)
neat_by term.get ps range h f = applied_neat (codes "get") (texts_of ps) (literal 116 (codes "get") (λ p. refl)) (all_passing (texts_of ps) f)
neat_by (term.fields names) ps range h f = neat_behind (codes "rec{") (separated (codes ", ") (labelled names (texts_of ps)) ++ codes "}") (literal 123 (codes "rec{") (λ p. refl)) (closed_by 125 (separated (codes ", ") (labelled names (texts_of ps))) brace (listed_pass (labelled names (texts_of ps)) (labels_pass names (texts_of ps) range.words (all_passing (texts_of ps) f))))
neat_by (term.field name) ps range h f = applied_neat (codes "fld") (text_at (texts_of ps) 0 ∷ name ∷ []) (literal 100 (codes "fld") (λ p. refl)) (part_passes (texts_of ps) 0 (all_passing (texts_of ps) f), (word_passes name range, tt))
neat_by (term.set_field name) ps range h f = applied_neat (codes "setf") (text_at (texts_of ps) 0 ∷ name ∷ text_at (texts_of ps) 1 ∷ []) (literal 102 (codes "setf") (λ p. refl)) (part_passes (texts_of ps) 0 (all_passing (texts_of ps) f), (word_passes name range, (part_passes (texts_of ps) 1 (all_passing (texts_of ps) f), tt)))
neat_by term.at_most no_parts range h f = absurd h
neat_by term.at_most (part s no_parts) range h f = absurd h.1
neat_by term.at_most (part s (part t ps)) range h f = compared_neat (codes " <= ") (text_of s) (text_of t) (literal 32 (codes " <= ") (λ p. refl)) f.0 f.1.0
neat_by term.equal no_parts range h f = absurd h
neat_by term.equal (part s no_parts) range h f = absurd h.1
neat_by term.equal (part s (part t ps)) range h f = compared_neat (codes " = ") (text_of s) (text_of t) (literal 32 (codes " = ") (λ p. refl)) f.0 f.1.0
neat_by (term.of_kind kind) ps range h f = applied_neat (codes "kind") (text_at (texts_of ps) 0 ∷ kind_text kind ∷ []) (literal 100 (codes "kind") (λ p. refl)) (part_passes (texts_of ps) 0 (all_passing (texts_of ps) f), (kind_passes kind range, tt))
neat_by (term.in_type n) ps range h f = applied_neat (codes "in") (text_at (texts_of ps) 0 ∷ decimal n ∷ []) (literal 110 (codes "in") (λ p. refl)) (part_passes (texts_of ps) 0 (all_passing (texts_of ps) f), (neat_passes (decimal n) (natural_neat n (wider n range)), tt))
  where
    wider : (n : ℕ) → n < 2 ^ 32 → n < 2 ^ 127
    wider n h = omega (arith, h)
neat_by (term.every w n) ps range h f = binding_neat (codes "all ") w n (texts_of ps) (literal 32 (codes "all ") (λ p. refl)) range (all_passing (texts_of ps) f)
neat_by (term.exists w n) ps range h f = binding_neat (codes "some ") w n (texts_of ps) (literal 32 (codes "some ") (λ p. refl)) range (all_passing (texts_of ps) f)
neat_by term.denied no_parts range h f = absurd h
neat_by term.denied (part t ps) range h f = neat_behind (codes "not ") (text_of t) (literal 32 (codes "not ") (λ p. refl)) f.0
neat_by term.all_of ps range h f = connected_neat (codes "true") (codes "and(") (texts_of ps) (λ p. record { last = 101; runs = refl; no_space = refl }) (literal 40 (codes "and(") (λ p. refl)) f
neat_by term.any_of ps range h f = connected_neat (codes "false") (codes "or(") (texts_of ps) (λ p. record { last = 101; runs = refl; no_space = refl }) (literal 40 (codes "or(") (λ p. refl)) f

mutual
  pub text_neat : (t : Term) (sort : Sort) → IsOf t sort → IsNeat (text_of t)
  text_neat (Of symbol ps) sort h = neat_by symbol ps h.1 h.2 (parts_neat ps (layout symbol) h.2)

  parts_neat : (ps : Parts) (lay : Layout) → AreOf ps lay → AllNeat (texts_of ps)
  parts_neat no_parts lay h = tt
  parts_neat (part t ps) (gapped []) h = absurd h
  parts_neat (part t ps) (gapped (g ∷ gs)) h = (text_neat t g.0 h.0, parts_neat ps (gapped gs) h.1)
  parts_neat (part t ps) (first_of s) h = (text_neat t _ h.0, parts_neat ps (more_of s) h.1)
  parts_neat (part t ps) (more_of s) h = (text_neat t _ h.0, parts_neat ps (more_of s) h.1)
