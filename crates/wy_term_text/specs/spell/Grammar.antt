-- How terms and formulas are spelled, byte by byte.
use Rattle.std.specs.Prelude.{◌≡◌, ℕ, ◌<◌, ◌^◌, List, [], ◌∷◌, ◌++◌, Bool, true, false, ◌==◌, ◌||◌, codes, Option, Some, None, ◌⊎◌}
use Rattle.std.specs.Fmt.{decimal, signed_decimal}
use Rattle.wy_term.specs.wy_data.scan.Front.{is_digit, is_word_byte, heads}
use Rattle.wy_term.specs.wy_data.scan.Numbers.{is_wide}
use Rattle.wy_term.specs.wy_data.scan.Words.{IsWord, AreFields}
use Rattle.wy_term.specs.Term.{DataKind, null_kind, bool_kind, int_kind, array_kind, record_kind, Symbol, Term, Of, Parts, no_parts, part}
use Rattle.wy_term.specs.Term as term
use Rattle.wy_term.specs.Sorts.{Sort, int_sort, val_sort, formula_sort, sort_of}

-- ---- bytes

-- a byte that would go on a word or make it a name: a word's byte, `#` or `.`
abbrev pub goes_on : ℕ → Bool
goes_on b = is_word_byte b || ((b == 35) || (b == 46))

-- the same, or a space
abbrev pub goes_on_or_space : ℕ → Bool
goes_on_or_space b = goes_on b || (b == 32)

-- ---- kinds and ranges

-- names with a comma and a space before each, and what follows them
abbrev pub more_names : List (List ℕ) → List ℕ → List ℕ
more_names [] i = i
more_names (n ∷ ns) i = codes ", " ++ (n ++ more_names ns i)

abbrev pub field_list : List (List ℕ) → List ℕ → List ℕ
field_list [] i = i
field_list (n ∷ ns) i = n ++ more_names ns i

-- a kind as it is written, and what follows it
abbrev pub kind_before : DataKind → List ℕ → List ℕ
kind_before null_kind i = codes "null" ++ i
kind_before bool_kind i = codes "bool" ++ i
kind_before int_kind i = codes "int" ++ i
kind_before array_kind i = codes "array" ++ i
kind_before (record_kind names) i = codes "{" ++ field_list names (codes "}" ++ i)

abbrev pub IsKind : DataKind → Type 0
IsKind (record_kind names) = AreFields names
IsKind kind = Unit {0}

-- what a name with a number needs: the number is from 0 to 2^127 - 1
pub record IsNumbered (w : List ℕ) (n : ℕ) : Type 0 where
  pub word : IsWord w
  pub small : n < 2 ^ 127

-- what is written beside a term's parts is within its range
abbrev pub IsInRange : Symbol → Type 0
IsInRange (term.number z) = is_wide z ≡ true
IsInRange (term.int_name word n) = IsNumbered word n
IsInRange (term.val_name word n) = IsNumbered word n
IsInRange (term.fields names) = AreFields names
IsInRange (term.field name) = IsWord name
IsInRange (term.set_field name) = IsWord name
IsInRange (term.of_kind kind) = IsKind kind
IsInRange (term.in_type n) = n < 2 ^ 32
IsInRange (term.every word n) = IsNumbered word n
IsInRange (term.exists word n) = IsNumbered word n
IsInRange symbol = Unit {0}

-- ---- what stands before the parts and between them

-- a text, and what follows it
abbrev pub Before : Type 0
Before = List ℕ → List ℕ

-- the opening of a quantifier
abbrev pub binding : List ℕ → List ℕ → ℕ → Before
binding quantifier word n i = quantifier ++ (word ++ (codes "#" ++ (decimal n ++ (codes " in " ++ i))))

-- what stands before the first part of a term with this symbol, or is the whole of a term without parts
abbrev pub opening : Symbol → Before
opening (term.number z) i = signed_decimal z ++ i
opening (term.int_name word n) i = word ++ (codes "#" ++ (decimal n ++ i))
opening term.add i = codes "add(" ++ i
opening term.sub i = codes "sub(" ++ i
opening term.neg i = codes "neg(" ++ i
opening term.mul i = codes "mul(" ++ i
opening term.div i = codes "div(" ++ i
opening term.rem i = codes "mod(" ++ i
opening term.num i = codes "num(" ++ i
opening term.len i = codes "len(" ++ i
opening (term.val_name word n) i = word ++ (codes "." ++ (decimal n ++ i))
opening term.null i = codes "null" ++ i
opening (term.truth true) i = codes "true" ++ i
opening (term.truth false) i = codes "false" ++ i
opening term.int i = codes "int(" ++ i
opening term.bool i = codes "bool(" ++ i
opening term.array i = codes "arr[" ++ i
opening term.repeat i = codes "rep(" ++ i
opening term.update i = codes "upd(" ++ i
opening term.get i = codes "get(" ++ i
opening (term.fields []) i = codes "rec{}" ++ i
opening (term.fields (n ∷ ns)) i = codes "rec{" ++ (n ++ (codes ": " ++ i))
opening (term.field name) i = codes "fld(" ++ i
opening (term.set_field name) i = codes "setf(" ++ i
opening term.at_most i = i
opening term.equal i = i
opening (term.of_kind kind) i = codes "kind(" ++ i
opening (term.in_type n) i = codes "in(" ++ i
opening (term.every word n) i = binding (codes "all ") word n i
opening (term.exists word n) i = binding (codes "some ") word n i
opening term.denied i = codes "not " ++ i
opening term.all_of i = codes "and(" ++ i
opening term.any_of i = codes "or(" ++ i

-- what may not follow: a term without parts goes as far as it can
abbrev pub Stops : Symbol → List ℕ → Type 0
Stops (term.number z) j = heads is_digit j ≡ false
Stops (term.int_name word n) j = heads is_digit j ≡ false
Stops (term.val_name word n) j = heads is_digit j ≡ false
Stops term.null j = heads goes_on j ≡ false
Stops (term.truth b) j = heads goes_on j ≡ false
Stops symbol j = Unit {0}

-- a part's sort, and what stands behind it
abbrev pub Gap : Type 0
Gap = Sort × Before

-- a list of parts of one sort, with a text between neighbours and one behind the last
pub data Series : Type 0 where
  elements : Series
  members : Series

abbrev pub sort_in : Series → Sort
sort_in elements = val_sort
sort_in members = formula_sort

abbrev pub between : Series → List ℕ
between elements = codes ", "
between members = codes "; "

abbrev pub closing : Series → List ℕ
closing elements = codes "]"
closing members = codes ")"

-- how parts stand: with given gaps; or as a series, from its first part or from a later one on
pub data Layout : Type 0 where
  gapped : (gaps : List Gap) → Layout
  first_of : (series : Series) → Layout
  more_of : (series : Series) → Layout

abbrev pub field_gaps : List (List ℕ) → List Gap
field_gaps [] = (val_sort, (λ i. codes "}" ++ i)) ∷ []
field_gaps (n ∷ ns) = (val_sort, (λ i. codes ", " ++ (n ++ (codes ": " ++ i)))) ∷ field_gaps ns

-- gaps that are given texts
abbrev pub worded : List (Sort × List ℕ) → List Gap
worded [] = []
worded (g ∷ gs) = (g.0, (λ i. g.1 ++ i)) ∷ worded gs

abbrev pub one_of : Sort → List (Sort × List ℕ)
one_of s = (s, codes ")") ∷ []

abbrev pub two_of : Sort → Sort → List (Sort × List ℕ)
two_of s t = (s, codes ", ") ∷ (t, codes ")") ∷ []

abbrev pub three_of : Sort → Sort → Sort → List (Sort × List ℕ)
three_of s t u = (s, codes ", ") ∷ (t, codes ", ") ∷ (u, codes ")") ∷ []

abbrev pub bounds : List (Sort × List ℕ)
bounds = (int_sort, codes "..") ∷ (int_sort, codes " | (") ∷ (formula_sort, codes ")") ∷ []

-- the sorts of the parts with the texts behind them, where these are fixed
abbrev pub texts : Symbol → List (Sort × List ℕ)
texts term.add = two_of int_sort int_sort
texts term.sub = two_of int_sort int_sort
texts term.neg = one_of int_sort
texts term.mul = two_of int_sort int_sort
texts term.div = two_of int_sort int_sort
texts term.rem = two_of int_sort int_sort
texts term.num = one_of val_sort
texts term.len = one_of val_sort
texts term.int = one_of int_sort
texts term.bool = one_of formula_sort
texts term.repeat = two_of val_sort int_sort
texts term.update = three_of val_sort int_sort val_sort
texts term.get = two_of val_sort int_sort
texts term.at_most = (int_sort, codes " <= ") ∷ (int_sort, []) ∷ []
texts term.equal = (val_sort, codes " = ") ∷ (val_sort, []) ∷ []
texts (term.every word n) = bounds
texts (term.exists word n) = bounds
texts term.denied = (formula_sort, []) ∷ []
texts symbol = []

-- how the parts of a term with this symbol stand
abbrev pub layout : Symbol → Layout
layout term.array = first_of elements
layout term.all_of = first_of members
layout term.any_of = first_of members
layout (term.fields []) = gapped []
layout (term.fields (n ∷ ns)) = gapped (field_gaps ns)
layout (term.field name) = gapped ((val_sort, (λ i. codes ", " ++ (name ++ (codes ")" ++ i)))) ∷ [])
layout (term.set_field name) = gapped ((val_sort, (λ i. codes ", " ++ (name ++ (codes ", " ++ i)))) ∷ (val_sort, (λ i. codes ")" ++ i)) ∷ [])
layout (term.of_kind kind) = gapped ((val_sort, (λ i. codes ", " ++ kind_before kind (codes ")" ++ i))) ∷ [])
layout (term.in_type n) = gapped ((val_sort, (λ i. codes ", " ++ (decimal n ++ (codes ")" ++ i)))) ∷ [])
layout symbol = gapped (worded (texts symbol))

-- ---- terms

-- a part that may come next: what stands before it and behind it, its sort, and how the parts behind it stand
pub record Place : Type 0 where
  pub before : Before
  pub sort : Sort
  pub behind : Before
  pub rest : Layout

abbrev pub next_place : Layout → Option Place
next_place (gapped []) = None
next_place (gapped (g ∷ gs)) = Some (record { before = (λ i. i); sort = g.0; behind = g.1; rest = gapped gs })
next_place (first_of s) = Some (record { before = (λ i. i); sort = sort_in s; behind = (λ i. i); rest = more_of s })
next_place (more_of s) = Some (record { before = (λ i. between s ++ i); sort = sort_in s; behind = (λ i. i); rest = more_of s })

-- no part comes any more; j follows
abbrev pub Closes : Layout → List ℕ → List ℕ → Type 0
Closes (gapped []) i j = i ≡ j
Closes (gapped (g ∷ gs)) i j = ⊥
Closes (first_of s) i j = i ≡ closing s ++ j
Closes (more_of s) i j = i ≡ closing s ++ j

-- a part at its place, with what is left of the layout
abbrev pub AtPlace : Option Place → (Sort → List ℕ → List ℕ → Type 0) → (Layout → List ℕ → List ℕ → Type 0) → List ℕ → List ℕ → Type 0
AtPlace None spans rest i j = ⊥
AtPlace (Some p) spans rest i j = (k : List ℕ) × (l : List ℕ) × (m : List ℕ) × (i ≡ p.before k) × spans p.sort k l × (l ≡ p.behind m) × rest p.rest m j

-- `true` and `false` as formulas: an `and` and an `or` without members
abbrev pub IsConstant : Symbol → Parts → List ℕ → List ℕ → Type 0
IsConstant term.all_of no_parts i j = (i ≡ codes "true" ++ j) × (heads goes_on_or_space j ≡ false)
IsConstant term.any_of no_parts i j = (i ≡ codes "false" ++ j) × (heads goes_on_or_space j ≡ false)
IsConstant symbol ps i j = ⊥

abbrev mutual
  -- the text i begins with a spelling of the term, which is of this sort, and j follows
  pub Spans : Term → Sort → List ℕ → List ℕ → Type 0
  Spans (Of symbol ps) sort i j =
      (sort_of symbol ≡ sort) × IsInRange symbol × (IsConstant symbol ps i j ⊎ ((k : List ℕ) × (i ≡ opening symbol k) × Laid ps (layout symbol) k j × Stops symbol j))

  -- likewise for the parts of a term, as the layout says
  pub Laid : Parts → Layout → List ℕ → List ℕ → Type 0
  Laid no_parts layout i j = Closes layout i j
  Laid (part t ps) layout i j = AtPlace (next_place layout) (Spans t) (Laid ps) i j

-- the text spells the term, with no space more than the grammar has
abbrev pub Spells : Sort → List ℕ → Term → Type 0
Spells sort text t = Spans t sort text []
