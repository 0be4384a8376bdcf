-- Parts stand as their layout says exactly where they are of the sorts of their places and each can be written as one of its sort.
use Rattle.std.proofs.Common.{◌≡◌, ◌∙◌, ℕ, List, [], ◌∷◌, refl, sym, subst, map}
use Rattle.wy_data.specs.declared.name.Name.{Name}
use Rattle.wy_term.specs.Term as term
use Rattle.wy_term.specs.Term.{Symbol, Term, Of, Parts, no_parts, part}
use Rattle.wy_term.specs.Sorts.{Sort, val_sort, sort_in, sort_of}
use Rattle.wy_term.specs.Nodes.{parts_at, plain}
use Rattle.wy_term.specs.declared.node.Node.{Node}
use Rattle.wy_term.specs.declared.node.Node.TheVariants as node
use Rattle.wy_term_subst.specs.sorted.Sorted.{AreSorted, IsSorted, Places, each, places, these}
use Rattle.wy_term_text.specs.spell.Grammar.{Gap, IsInRange, Layout, field_gaps, first_of, gapped, layout, more_of}
use Rattle.wy_term_text.specs.spell.Grammar.{sort_in as series_sort}
use Rattle.wy_term_text.specs.reread.Shown.{AreOf, IsOf}

-- ---- places and layouts that go together

abbrev FitGaps : List Sort → List Gap → Type 0
FitGaps [] [] = Unit {0}
FitGaps [] (g ∷ gs) = ⊥
FitGaps (s ∷ ss) [] = ⊥
FitGaps (s ∷ ss) (g ∷ gs) = (s ≡ g.0) × FitGaps ss gs

abbrev FitEachGap : Sort → List Gap → Type 0
FitEachGap s [] = Unit {0}
FitEachGap s (g ∷ gs) = (s ≡ g.0) × FitEachGap s gs

abbrev Fits : Places → Layout → Type 0
Fits (these ss) (gapped gs) = FitGaps ss gs
Fits (these ss) (first_of r) = ⊥
Fits (these ss) (more_of r) = ⊥
Fits (each s) (gapped gs) = FitEachGap s gs
Fits (each s) (first_of r) = s ≡ series_sort r
Fits (each s) (more_of r) = s ≡ series_sort r

-- as many parts as gaps
abbrev FillGaps : Parts → List Gap → Type 0
FillGaps no_parts [] = Unit {0}
FillGaps no_parts (g ∷ gs) = ⊥
FillGaps (part t ps) [] = ⊥
FillGaps (part t ps) (g ∷ gs) = FillGaps ps gs

-- the same, where the places don't say how many parts there are
abbrev Fill : Parts → Places → Layout → Type 0
Fill ps (each s) (gapped gs) = FillGaps ps gs
Fill ps wanted l = Unit {0}

-- each part is of its own sort
abbrev pub AreOwn : Parts → Type 0
AreOwn no_parts = Unit {0}
AreOwn (part t ps) = IsOf t (sort_in t) × AreOwn ps

-- ---- from places to the layout

at_place : (t : Term) (s : Sort) → IsOf t (sort_in t) → sort_in t ≡ s → IsOf t s
at_place t s own e = subst (IsOf t) e own

laid : (ps : Parts) (wanted : Places) (l : Layout) → Fits wanted l → Fill ps wanted l → AreSorted ps wanted → AreOwn ps → AreOf ps l
laid no_parts (these []) (gapped []) fits fill sorted own = tt
laid no_parts (these []) (gapped (g ∷ gs)) fits fill sorted own = absurd fits
laid no_parts (these []) (first_of r) fits fill sorted own = tt
laid no_parts (these []) (more_of r) fits fill sorted own = tt
laid no_parts (these (s ∷ ss)) l fits fill sorted own = absurd sorted
laid no_parts (each s) (gapped []) fits fill sorted own = tt
laid no_parts (each s) (gapped (g ∷ gs)) fits fill sorted own = absurd fill
laid no_parts (each s) (first_of r) fits fill sorted own = tt
laid no_parts (each s) (more_of r) fits fill sorted own = tt
laid (part t ps) (these []) l fits fill sorted own = absurd sorted.0
laid (part t ps) (these (s ∷ ss)) (gapped []) fits fill sorted own = absurd fits
laid (part t ps) (these (s ∷ ss)) (gapped (g ∷ gs)) fits fill sorted own = (at_place t g.0 own.0 (sorted.0 ∙ fits.0), laid ps (these ss) (gapped gs) fits.1 tt sorted.2 own.1)
laid (part t ps) (these (s ∷ ss)) (first_of r) fits fill sorted own = absurd fits
laid (part t ps) (these (s ∷ ss)) (more_of r) fits fill sorted own = absurd fits
laid (part t ps) (each s) (gapped []) fits fill sorted own = absurd fill
laid (part t ps) (each s) (gapped (g ∷ gs)) fits fill sorted own = (at_place t g.0 own.0 (sorted.0 ∙ fits.0), laid ps (each s) (gapped gs) fits.1 fill sorted.2 own.1)
laid (part t ps) (each s) (first_of r) fits fill sorted own = (at_place t (series_sort r) own.0 (sorted.0 ∙ fits), laid ps (each s) (more_of r) fits tt sorted.2 own.1)
laid (part t ps) (each s) (more_of r) fits fill sorted own = (at_place t (series_sort r) own.0 (sorted.0 ∙ fits), laid ps (each s) (more_of r) fits tt sorted.2 own.1)

-- ---- what symbols want

each_gap : (names : List (List ℕ)) → FitEachGap val_sort (field_gaps names)
each_gap [] = (refl, tt)
each_gap (n ∷ ns) = (refl, each_gap ns)

fits_own : (symbol : Symbol) → Fits (places symbol) (layout symbol)
fits_own (term.number z) = tt
fits_own (term.int_name word n) = tt
fits_own term.add = (refl, (refl, tt))
fits_own term.sub = (refl, (refl, tt))
fits_own term.neg = (refl, tt)
fits_own term.mul = (refl, (refl, tt))
fits_own term.div = (refl, (refl, tt))
fits_own term.rem = (refl, (refl, tt))
fits_own term.num = (refl, tt)
fits_own term.len = (refl, tt)
fits_own (term.val_name word n) = tt
fits_own term.null = tt
fits_own (term.truth b) = tt
fits_own term.int = (refl, tt)
fits_own term.bool = (refl, tt)
fits_own term.array = refl
fits_own term.repeat = (refl, (refl, tt))
fits_own term.update = (refl, (refl, (refl, tt)))
fits_own term.get = (refl, (refl, tt))
fits_own (term.fields []) = tt
fits_own (term.fields (n ∷ ns)) = each_gap ns
fits_own (term.field name) = (refl, tt)
fits_own (term.set_field name) = (refl, (refl, tt))
fits_own term.at_most = (refl, (refl, tt))
fits_own term.equal = (refl, (refl, tt))
fits_own (term.of_kind kind) = (refl, tt)
fits_own (term.in_type n) = (refl, tt)
fits_own (term.every word n) = (refl, (refl, (refl, tt)))
fits_own (term.exists word n) = (refl, (refl, (refl, tt)))
fits_own term.denied = (refl, tt)
fits_own term.all_of = refl
fits_own term.any_of = refl

-- a record has as many parts as names
fields_fill : (at : ℕ → Term) (f : Name × ℕ) (fs : List (Name × ℕ)) → FillGaps (parts_at at (map (λ p. p.1) (f ∷ fs))) (field_gaps (map (λ p. p.0) fs))
fields_fill at f [] = tt
fields_fill at f (g ∷ gs) = fields_fill at g gs

record_fills : (at : ℕ → Term) (fields : List (Name × ℕ)) → Fill (parts_at at (map (λ p. p.1) fields)) (each val_sort) (layout (term.fields (map (λ p. p.0) fields)))
record_fills at [] = tt
record_fills at (f ∷ fs) = fields_fill at f fs

fills : (at : ℕ → Term) (n : Node) → Fill (parts_at at (plain n).parts) (places (plain n).symbol) (layout (plain n).symbol)
fills at (node.Record fields) = record_fills at fields.items
fills at n = tt

-- ---- from the layout to places

own_sort : (t : Term) (s : Sort) → IsOf t s → sort_in t ≡ s
own_sort (Of symbol ps) s is = is.0

own_of : (t : Term) (s : Sort) → IsOf t s → IsOf t (sort_in t)
own_of t s is = subst (IsOf t) (sym (own_sort t s is)) is

pub own_parts : (ps : Parts) (l : Layout) → AreOf ps l → AreOwn ps
own_parts no_parts l are = tt
own_parts (part t ps) (gapped []) are = absurd are
own_parts (part t ps) (gapped (g ∷ gs)) are = (own_of t g.0 are.0, own_parts ps (gapped gs) are.1)
own_parts (part t ps) (first_of r) are = (own_of t (series_sort r) are.0, own_parts ps (more_of r) are.1)
own_parts (part t ps) (more_of r) are = (own_of t (series_sort r) are.0, own_parts ps (more_of r) are.1)

mutual
  pub sorted_of : (t : Term) (s : Sort) → IsOf t s → IsSorted t
  sorted_of (Of symbol ps) s is = sorted_parts ps (places symbol) (layout symbol) (fits_own symbol) is.2

  sorted_parts : (ps : Parts) (wanted : Places) (l : Layout) → Fits wanted l → AreOf ps l → AreSorted ps wanted
  sorted_parts no_parts (these []) l fits are = tt
  sorted_parts no_parts (these (s ∷ ss)) (gapped []) fits are = absurd fits
  sorted_parts no_parts (these (s ∷ ss)) (gapped (g ∷ gs)) fits are = absurd are
  sorted_parts no_parts (these (s ∷ ss)) (first_of r) fits are = absurd fits
  sorted_parts no_parts (these (s ∷ ss)) (more_of r) fits are = absurd fits
  sorted_parts no_parts (each s) l fits are = tt
  sorted_parts (part t ps) wanted (gapped []) fits are = absurd are
  sorted_parts (part t ps) (these []) (gapped (g ∷ gs)) fits are = absurd fits
  sorted_parts (part t ps) (these (s ∷ ss)) (gapped (g ∷ gs)) fits are = (own_sort t g.0 are.0 ∙ sym fits.0, sorted_of t g.0 are.0, sorted_parts ps (these ss) (gapped gs) fits.1 are.1)
  sorted_parts (part t ps) (these ss) (first_of r) fits are = absurd fits
  sorted_parts (part t ps) (these ss) (more_of r) fits are = absurd fits
  sorted_parts (part t ps) (each s) (gapped (g ∷ gs)) fits are = (own_sort t g.0 are.0 ∙ sym fits.0, sorted_of t g.0 are.0, sorted_parts ps (each s) (gapped gs) fits.1 are.1)
  sorted_parts (part t ps) (each s) (first_of r) fits are = (own_sort t (series_sort r) are.0 ∙ sym fits, sorted_of t (series_sort r) are.0, sorted_parts ps (each s) (more_of r) fits are.1)
  sorted_parts (part t ps) (each s) (more_of r) fits are = (own_sort t (series_sort r) are.0 ∙ sym fits, sorted_of t (series_sort r) are.0, sorted_parts ps (each s) (more_of r) fits are.1)

-- ---- nodes

-- a node whose own names and numbers are within their ranges, and whose parts are sorted and of their own sorts
pub node_of : (at : ℕ → Term) (n : Node) → IsInRange (plain n).symbol → AreSorted (parts_at at (plain n).parts) (places (plain n).symbol) → AreOwn (parts_at at (plain n).parts) → IsOf (Of (plain n).symbol (parts_at at (plain n).parts)) (sort_of (plain n).symbol)
node_of at n ranges sorted own =
    (refl, ranges, laid (parts_at at (plain n).parts) (places (plain n).symbol) (layout (plain n).symbol) (fits_own (plain n).symbol) (fills at n) sorted own)
