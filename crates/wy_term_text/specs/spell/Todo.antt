-- What a list of things that are still to be read stands for: which terms may come of it with the text that is left.
use Rattle.std.specs.Prelude.{◌≡◌, ℕ, ◌<◌, ◌≤◌, ◌^◌, List, [], ◌∷◌, ◌++◌, Bool, codes, length, take, drop, Option, Some, None}
use Rattle.std.specs.Fmt.{decimal}
use Rattle.wy_term.specs.wy_data.scan.Words.{IsWord, AreFields}
use Rattle.wy_term.specs.Term.{DataKind, record_kind, Symbol, Term, Of, Parts, no_parts, part}
use Rattle.wy_term.specs.Term as term
use Rattle.wy_term.specs.Sorts.{Sort, int_sort, val_sort, formula_sort}
use Rattle.wy_term.specs.Folding.{folded, binder}
use Rattle.wy_term_text.specs.spell.Grammar.{Series, Layout, gapped, first_of, more_of, Spans, Laid, field_gaps, kind_before, more_names, IsKind, IsNumbered}
use Rattle.wy_term_text.specs.spell.Made.{made, made_parts}

-- something that is still to be read or made; a number says how many terms were done before the first part
pub data Work : Type 0 where
  word : (w : List ℕ) → Work
  a_term : (sort : Sort) → Work
  root : (symbol : Symbol) (base : ℕ) → Work
  first : (series : Series) (symbol : Symbol) (base : ℕ) → Work
  more : (series : Series) (symbol : Symbol) (base : ℕ) → Work
  first_field : (base : ℕ) → Work
  more_fields : (names : List (List ℕ)) (base : ℕ) → Work
  field_name : (base : ℕ) → Work
  set_field_name : (base : ℕ) → Work
  kind_name : (base : ℕ) → Work
  kind_fields : (names : List (List ℕ)) (base : ℕ) → Work
  type_number : (base : ℕ) → Work
  bind : (all : Bool) (base : ℕ) → Work

-- ---- lists of terms

abbrev pub listed : Parts → List Term
listed no_parts = []
listed (part t ps) = t ∷ listed ps

abbrev pub as_parts : List Term → Parts
as_parts [] = no_parts
as_parts (t ∷ ts) = part t (as_parts ts)

-- how many parts a term with this symbol has, where this doesn't vary
abbrev pub arity : Symbol → Option ℕ
arity (term.number z) = Some 0
arity (term.int_name w n) = Some 0
arity term.add = Some 2
arity term.sub = Some 2
arity term.neg = Some 1
arity term.mul = Some 2
arity term.div = Some 2
arity term.rem = Some 2
arity term.num = Some 1
arity term.len = Some 1
arity (term.val_name w n) = Some 0
arity term.null = Some 0
arity (term.truth b) = Some 0
arity term.int = Some 1
arity term.bool = Some 1
arity term.array = None
arity term.repeat = Some 2
arity term.update = Some 3
arity term.get = Some 2
arity (term.fields names) = Some (length names)
arity (term.field name) = Some 1
arity (term.set_field name) = Some 2
arity term.at_most = Some 2
arity term.equal = Some 2
arity (term.of_kind kind) = Some 1
arity (term.in_type n) = Some 1
arity (term.every w n) = Some 3
arity (term.exists w n) = Some 3
arity term.denied = Some 1
arity term.all_of = None
arity term.any_of = None

-- so many parts are right
abbrev pub Has : Option ℕ → ℕ → Type 0
Has None n = Unit {0}
Has (Some m) n = m ≡ n

-- ---- things to be read, with what is to come of the rest

-- which terms may come: with the text that is left and the terms that are done
abbrev pub Ways : Type 1
Ways = List ℕ → List Term → Term → Type 0

abbrev pub Bytes : List ℕ → Ways → Ways
Bytes w next i done r = (k : List ℕ) × (i ≡ w ++ k) × next k done r

abbrev pub OneTerm : Sort → Ways → Ways
OneTerm sort next i done r = (t : Term) × (k : List ℕ) × Spans t sort i k × next k (done ++ made t ∷ []) r

-- the terms done from this number on are the parts of a node
abbrev pub Rooted : Symbol → ℕ → Ways → Ways
Rooted symbol base next i done r = (base ≤ length done) × Has (arity symbol) (length (drop base done)) × next i (take base done ++ folded (Of symbol (as_parts (drop base done))) ∷ []) r

abbrev pub InLayout : Layout → Symbol → ℕ → Ways → Ways
InLayout layout symbol base next i done r = (ps : Parts) × (k : List ℕ) × Laid ps layout i k × Rooted symbol base next k (done ++ listed (made_parts ps)) r

-- the fields of these names, from the first name on
abbrev pub FieldsFrom : List (List ℕ) → Parts → List ℕ → List ℕ → Type 0
FieldsFrom [] ps i k = (i ≡ codes "}" ++ k) × (ps ≡ no_parts)
FieldsFrom (n ∷ ns) ps i k = (l : List ℕ) × (i ≡ n ++ (codes ": " ++ l)) × Laid ps (gapped (field_gaps ns)) l k

-- likewise behind a field
abbrev pub FieldsBehind : List (List ℕ) → Parts → List ℕ → List ℕ → Type 0
FieldsBehind [] ps i k = (i ≡ codes "}" ++ k) × (ps ≡ no_parts)
FieldsBehind (n ∷ ns) ps i k = (l : List ℕ) × (i ≡ codes ", " ++ (n ++ (codes ": " ++ l))) × Laid ps (gapped (field_gaps ns)) l k

-- one sort with the text behind it after the other, and then the node
abbrev pub gap_works : List (Sort × List ℕ) → List Work
gap_works [] = []
gap_works (g ∷ gs) = a_term g.0 ∷ word g.1 ∷ gap_works gs

-- what may come of one thing
abbrev pub Does : Work → Ways → Ways
Does (word w) next = Bytes w next
Does (a_term sort) next = OneTerm sort next
Does (root symbol base) next = Rooted symbol base next
Does (first series symbol base) next = InLayout (first_of series) symbol base next
Does (more series symbol base) next = InLayout (more_of series) symbol base next
Does (first_field base) next = λ i done r. (names : List (List ℕ)) × (ps : Parts) × (k : List ℕ) × AreFields names × FieldsFrom names ps i k × Rooted (term.fields names) base next k (done ++ listed (made_parts ps)) r
Does (more_fields names base) next = λ i done r. (others : List (List ℕ)) × (ps : Parts) × (k : List ℕ) × AreFields (names ++ others) × FieldsBehind others ps i k × Rooted (term.fields (names ++ others)) base next k (done ++ listed (made_parts ps)) r
Does (field_name base) next = λ i done r. (name : List ℕ) × (k : List ℕ) × IsWord name × (i ≡ codes ", " ++ (name ++ (codes ")" ++ k))) × Rooted (term.field name) base next k done r
Does (set_field_name base) next = λ i done r. (name : List ℕ) × (k : List ℕ) × IsWord name × (i ≡ codes ", " ++ (name ++ (codes ", " ++ k))) × OneTerm val_sort (Bytes (codes ")") (Rooted (term.set_field name) base next)) k done r
Does (kind_name base) next = λ i done r. (kind : DataKind) × (k : List ℕ) × IsKind kind × (i ≡ codes ", " ++ kind_before kind (codes ")" ++ k)) × Rooted (term.of_kind kind) base next k done r
Does (kind_fields names base) next = λ i done r. (others : List (List ℕ)) × (k : List ℕ) × AreFields (names ++ others) × (i ≡ more_names others (codes "})" ++ k)) × Rooted (term.of_kind (record_kind (names ++ others))) base next k done r
Does (type_number base) next = λ i done r. (n : ℕ) × (k : List ℕ) × (n < 2 ^ 32) × (i ≡ codes ", " ++ (decimal n ++ (codes ")" ++ k))) × Rooted (term.in_type n) base next k done r
Does (bind all base) next = λ i done r. (w : List ℕ) × (n : ℕ) × (k : List ℕ) × IsNumbered w n × (i ≡ w ++ (codes "#" ++ (decimal n ++ (codes " in " ++ k)))) × OneTerm int_sort (Bytes (codes "..") (OneTerm int_sort (Bytes (codes " | (") (OneTerm formula_sort (Bytes (codes ")") (Rooted (binder all w n) base next)))))) k done r

-- what may come of all of them, one after the other; in the end stands one term at the end of the text
abbrev pub Goes : List Work → List ℕ → List Term → Term → Type 0
Goes [] i done r = (i ≡ []) × (done ≡ r ∷ [])
Goes (w ∷ ws) i done r = Does w (Goes ws) i done r

-- what may come of these things, with what may come of the rest
abbrev pub All : List Work → Ways → Ways
All [] next = next
All (w ∷ ws) next = Does w (All ws next)

-- what comes of these things with the text k comes of the one thing with the text i, where so many terms are done
pub record Replaces (w : Work) (i : List ℕ) (base : ℕ) (ws : List Work) (k : List ℕ) : Type 0 where
  pub sound : (rest : List Work) (done : List Term) (r : Term) → length done ≡ base → Goes (ws ++ rest) k done r → Goes (w ∷ rest) i done r

-- and all that comes of the one thing comes of these
pub record Covers (w : Work) (i : List ℕ) (base : ℕ) (ws : List Work) (k : List ℕ) : Type 0 where
  pub complete : (rest : List Work) (done : List Term) (r : Term) → length done ≡ base → Goes (w ∷ rest) i done r → Goes (ws ++ rest) k done r

-- nothing comes of the thing with the text i
pub record Refuses (w : Work) (i : List ℕ) (base : ℕ) : Type 0 where
  pub none : (rest : List Work) (done : List Term) (r : Term) → length done ≡ base → Goes (w ∷ rest) i done r → ⊥
