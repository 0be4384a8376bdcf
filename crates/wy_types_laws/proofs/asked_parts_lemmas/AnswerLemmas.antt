-- The names of records in the types that questions answer.
use Rattle.std.proofs.Common.{◌≡◌, ℕ, List, [], ◌∷◌, ◌++◌, Bool, true, false, cond, refl, sym, ap, subst, ◌∙◌, inl, inr}
use Rattle.std.specs.Str.{bytes_eq}
use Rattle.wy_core.specs.Types.{Ty, NormalTy}
use Rattle.wy_types.specs.declared.conjuncts.Signed.{Signed}
use Rattle.wy_types.specs.declared.conjuncts.Part.{Part}
use Rattle.wy_types.specs.declared.conjuncts.Atom.{Atom}
use Rattle.wy_types.specs.declared.conjuncts.Atom.TheVariants as atom
use Rattle.wy_types.specs.declared.conjuncts.Conjunct.{Conjunct}
use Rattle.wy_types.specs.declared.table.Table.{Table}
use Rattle.wy_types.specs.Claims.{EachOf}
use Rattle.wy_types.specs.Merge.{same_names}
use Rattle.wy_types.specs.Same.{united_conjuncts}
use Rattle.wy_types.specs.Conjuncts.{same_term, dnf_part}
use Rattle.wy_types.specs.Asks.{with_denied, spread_field, put_first, spread, spread_by, spread_each, ways_from}
use Rattle.wy_types.specs.Names.{Declared}
use Rattle.wy_types.specs.Questions.{numbered, first_part}
use Rattle.wy_types.specs.Reading.{ty_at, conjuncts_at}
use Rattle.wy_types.proofs.ClaimLemmas.{each_append}
use Rattle.wy_subtype_parts.specs.wy_subtype.Valued.{AreValued, AreInhabited, atom_ways, ways_of, all_ways}
use Rattle.wy_subtype_parts.specs.Norms.{IsNorm}
use Rattle.wy_subtype_parts.specs.Items.{with_items, elements, IsElement}
use Rattle.wy_subtype_parts.specs.Fields.{with_value, values_at, IsField}
use Rattle.wy_subtype_parts.specs.updates.Updates.{part_at, replaced, with_record, records_of, second_part, IsWith}
use Rattle.wy_types_laws.specs.asked_types.Rows.{IsRow, HasRows, NamesHaveRows}
use Rattle.wy_types_laws.proofs.asked_types_lemmas.TableLemmas.{names_at, AtomHasRow, ConjunctHasRow, HaveRow, question_rows, united_conjuncts_row, part_row, conjuncts_back, ty_back}

-- what has a value is among what there is
valued_row : (table : Table) (k : ℕ) (cs made : List (Conjunct ℕ)) → AreValued table k cs made → EachOf ConjunctHasRow cs → EachOf ConjunctHasRow made
valued_row table k [] made h r = subst (EachOf ConjunctHasRow) (sym h) tt
valued_row table k (c ∷ cs) made (inl h) r = subst (EachOf ConjunctHasRow) (sym h.2) (r.0, valued_row table k cs h.0 h.3 r.1)
valued_row table k (c ∷ cs) made (inr h) r = valued_row table k cs made h.1 r.1

normal_back : (table : Table) → HaveRow table.nodes → (k : ℕ) (cs : List (Conjunct ℕ)) → EachOf ConjunctHasRow cs → HasRows (NormalTy (conjuncts_at (ty_at table k) cs))
normal_back table have k cs r = conjuncts_back (ty_at table k) (ty_back table have k) cs r

pub norm_rows : (names : List Declared) → NamesHaveRows names → (t made : Ty) → HasRows t → IsNorm names t made → HasRows made
norm_rows names d t made r h =
    let q = numbered names t t in
    let have = question_rows names t t d r r in
    subst HasRows (sym h.whole) (normal_back q.table have q.depth h.conjuncts (valued_row q.table q.depth (dnf_part q.table q.depth (first_part q)) h.conjuncts h.valued (part_row q.table have q.depth (first_part q))))

module _ (table : Table) (have : HaveRow table.nodes) (k : ℕ) where
  items_row : (made : List (Conjunct ℕ)) (a : Atom ℕ) → EachOf ConjunctHasRow made → EachOf ConjunctHasRow (with_items table k made a)
  items_row made (atom.Array p) r = united_conjuncts_row made (dnf_part table k p.terms) r (part_row table have k p.terms)
  items_row made atom.Null r = r
  items_row made atom.Bool r = r
  items_row made atom.Int r = r
  items_row made (atom.Record fs) r = r
  items_row made atom.AnyRecord r = r

  elements_row : (made cs : List (Conjunct ℕ)) → EachOf ConjunctHasRow made → EachOf ConjunctHasRow (elements table k made cs)
  elements_row made [] r = r
  elements_row made (c ∷ cs) r = elements_row (with_items table k made c.positive) cs (items_row made c.positive r)

  value_row : (f : List ℕ) (made : List (Conjunct ℕ)) (w : List (List ℕ × Part ℕ)) → EachOf ConjunctHasRow made → EachOf ConjunctHasRow (with_value table k f made w)
  value_row f made [] r = r
  value_row f made (x ∷ w) r = by (bytes_eq x.0 f) (value_row f made w r)
    where
      by : (b : Bool) → EachOf ConjunctHasRow (with_value table k f made w) → EachOf ConjunctHasRow (cond b (united_conjuncts same_term made (dnf_part table k x.1.terms)) (with_value table k f made w))
      by true rest = united_conjuncts_row made (dnf_part table k x.1.terms) r (part_row table have k x.1.terms)
      by false rest = rest

  values_row : (f : List ℕ) (made : List (Conjunct ℕ)) (ws : List (List (List ℕ × Part ℕ))) → EachOf ConjunctHasRow made → EachOf ConjunctHasRow (values_at table k f made ws)
  values_row f made [] r = r
  values_row f made (w ∷ ws) r = values_row f (with_value table k f made w) ws (value_row f made w r)

pub element_rows : (names : List Declared) → NamesHaveRows names → (t made : Ty) → HasRows t → IsElement names t made → HasRows made
element_rows names d t made r h =
    let q = numbered names t t in
    let have = question_rows names t t d r r in
    let union = h.1 in
    let rows : HasRows h.0 = subst HasRows (sym union.whole) (normal_back q.table have q.depth _ (elements_row q.table have q.depth [] union.conjuncts tt)) in
    norm_rows names d h.0 made rows h.2

pub field_rows : (names : List Declared) → NamesHaveRows names → (f : List ℕ) (t made : Ty) → HasRows t → IsField names f t made → HasRows made
field_rows names d f t made r h =
    let q = numbered names t t in
    let have = question_rows names t t d r r in
    let union = h.1 in
    let rows : HasRows h.0 = subst HasRows (sym union.whole) (normal_back q.table have q.depth _ (values_row q.table have q.depth f [] union.found.ways tt)) in
    norm_rows names d h.0 made rows h.2

-- ---- ways

abbrev WayHasRow : List (List ℕ × Part ℕ) → Type 0
WayHasRow w = IsRow (names_at w)

module _ (table : Table) (k : ℕ) where
  spread_field_row : (f : List ℕ × Part ℕ) (fs : List (List ℕ × Part ℕ)) (row : List (List ℕ)) → f.0 ∷ names_at fs ≡ row → (q : List (Signed ℕ)) → EachOf (λ w. names_at w ≡ row) (spread_field table k f fs q)
  spread_field_row f fs row e [] = tt
  spread_field_row f fs row e (b ∷ bs) = (e, spread_field_row f fs row e bs)

  put_first_row : (f : List ℕ × Part ℕ) (fs : List (List ℕ × Part ℕ)) (ws : List (List (List ℕ × Part ℕ))) → EachOf (λ w. names_at w ≡ names_at fs) ws → EachOf (λ w. names_at w ≡ f.0 ∷ names_at fs) (put_first f ws)
  put_first_row f fs [] h = tt
  put_first_row f fs (w ∷ ws) h = (ap (λ (r : List (List ℕ)). f.0 ∷ r) h.0, put_first_row f fs ws h.1)

  spread_row : (fs qs : List (List ℕ × Part ℕ)) → EachOf (λ w. names_at w ≡ names_at fs) (spread table k fs qs)
  spread_row [] qs = tt
  spread_row (f ∷ fs) [] = tt
  spread_row (f ∷ fs) (q ∷ qs) =
      each_append (λ w. names_at w ≡ f.0 ∷ names_at fs) (spread_field table k f fs q.1.terms) (put_first f (spread table k fs qs))
      (spread_field_row f fs (f.0 ∷ names_at fs) refl q.1.terms) (put_first_row f fs (spread table k fs qs) (spread_row fs qs))

  spread_by_row : (fs : List (List ℕ × Part ℕ)) (a : Atom ℕ) → EachOf (λ w. names_at w ≡ names_at fs) (spread_by table k fs a)
  spread_by_row fs (atom.Record qs) = by (same_names fs qs)
    where
      by : (b : Bool) → EachOf (λ w. names_at w ≡ names_at fs) (cond b (spread table k fs qs) (fs ∷ []))
      by true = spread_row fs qs
      by false = (refl, tt)
  spread_by_row fs atom.AnyRecord = tt
  spread_by_row fs atom.Null = (refl, tt)
  spread_by_row fs atom.Bool = (refl, tt)
  spread_by_row fs atom.Int = (refl, tt)
  spread_by_row fs (atom.Array p) = (refl, tt)

  same_row : (w : List (List ℕ × Part ℕ)) → WayHasRow w → (ws : List (List (List ℕ × Part ℕ))) → EachOf (λ v. names_at v ≡ names_at w) ws → EachOf WayHasRow ws
  same_row w r [] h = tt
  same_row w r (v ∷ vs) h = (subst IsRow (sym h.0) r, same_row w r vs h.1)

  spread_each_row : (ws : List (List (List ℕ × Part ℕ))) (a : Atom ℕ) → EachOf WayHasRow ws → EachOf WayHasRow (spread_each table k ws a)
  spread_each_row [] a h = tt
  spread_each_row (w ∷ ws) a h = each_append WayHasRow (spread_by table k w a) (spread_each table k ws a) (same_row w h.0 (spread_by table k w a) (spread_by_row w a)) (spread_each_row ws a h.1)

  ways_row : (ws : List (List (List ℕ × Part ℕ))) (ns : List (Atom ℕ)) → EachOf WayHasRow ws → EachOf WayHasRow (ways_from table k ws ns)
  ways_row ws [] h = h
  ways_row ws (a ∷ more) h = ways_row (spread_each table k ws a) more (spread_each_row ws a h)

  atom_ways_row : (a : Atom ℕ) (ns : List (Atom ℕ)) → AtomHasRow a → EachOf WayHasRow (atom_ways table k a ns)
  atom_ways_row (atom.Record fs) ns r = ways_row (fs ∷ []) ns (r, tt)
  atom_ways_row atom.Null ns r = tt
  atom_ways_row atom.Bool ns r = tt
  atom_ways_row atom.Int ns r = tt
  atom_ways_row (atom.Array p) ns r = tt
  atom_ways_row atom.AnyRecord ns r = tt

  all_ways_row : (cs : List (Conjunct ℕ)) → EachOf ConjunctHasRow cs → EachOf WayHasRow (all_ways table k cs)
  all_ways_row [] r = tt
  all_ways_row (c ∷ cs) r = each_append WayHasRow (ways_of table k c) (all_ways table k cs) (atom_ways_row c.positive c.negatives r.0.0) (all_ways_row cs r.1)

  inhabited_row : (ws made : List (List (List ℕ × Part ℕ))) → AreInhabited table k ws made → EachOf WayHasRow ws → EachOf WayHasRow made
  inhabited_row [] made h r = subst (EachOf WayHasRow) (sym h) tt
  inhabited_row (w ∷ ws) made (inl h) r = subst (EachOf WayHasRow) (sym h.2) (r.0, inhabited_row ws h.0 h.3 r.1)
  inhabited_row (w ∷ ws) made (inr h) r = inhabited_row ws made h.1 r.1

replaced_names : (f : List ℕ) (terms : List (Signed ℕ)) (w : List (List ℕ × Part ℕ)) → names_at (replaced f terms w) ≡ names_at w
replaced_names f terms [] = refl
replaced_names f terms (x ∷ w) = ap (λ (r : List (List ℕ)). x.0 ∷ r) (replaced_names f terms w)

records_row : (f : List ℕ) (terms : List (Signed ℕ)) (made : List (Conjunct ℕ)) (ws : List (List (List ℕ × Part ℕ))) → EachOf ConjunctHasRow made → EachOf WayHasRow ws → EachOf ConjunctHasRow (records_of f terms made ws)
records_row f terms made [] r h = r
records_row f terms made (w ∷ ws) r h =
    records_row f terms (with_record made (replaced f terms w)) ws
    (united_conjuncts_row made (record { positive = atom.Record (replaced f terms w); negatives = [] } ∷ []) r ((subst IsRow (sym (replaced_names f terms w)) h.0, tt), tt)) h.1

pub with_rows : (names : List Declared) → NamesHaveRows names → (f : List ℕ) (t value made : Ty) → HasRows t → HasRows value → IsWith names f t value made → HasRows made
with_rows names d f t value made r s h =
    let q = numbered names t value in
    let have = question_rows names t value d r s in
    let conjuncts = valued_row q.table q.depth (dnf_part q.table q.depth (first_part q)) h.found.conjuncts h.those.conjuncts (part_row q.table have q.depth (first_part q)) in
    let ways = inhabited_row q.table q.depth (all_ways q.table q.depth h.found.conjuncts) h.found.ways h.those.ways (all_ways_row q.table q.depth h.found.conjuncts conjuncts) in
    subst HasRows (sym h.whole) (normal_back q.table have q.depth _ (records_row f (second_part q) [] h.found.ways tt ways))
