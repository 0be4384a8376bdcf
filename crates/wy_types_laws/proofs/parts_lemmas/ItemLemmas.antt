-- The items of arrays in a type are in the union of the parts of its arrays.
use Rattle.std.proofs.Common.{◌≡◌, ◌∙◌, ℕ, List, [], ◌∷◌, true, ◌&&◌, ◌||◌, ◌⊎◌, inl, inr, sym, ap, subst}
use Rattle.std.proofs.lemmas.Bool.{or_cases}
use Rattle.wy_lemmas.proofs.Choices.{or_none as or_false, both_parts as both, or_left, or_right, or_assoc}
use Rattle.wy_subtype_parts.proofs.ElementLemmas.{any_in-elements, of_items}
use Rattle.wy_types.specs.NodeLaws.{same_term_is}
use Rattle.wy_value.specs.Datum.{Datum, Data, no_items, item}
use Rattle.wy_value.specs.Datum as datum
use Rattle.wy_core.specs.Types.{Ty}
use Rattle.wy_types.specs.declared.conjuncts.Signed.{Signed}
use Rattle.wy_types.specs.declared.conjuncts.Atom.{Atom}
use Rattle.wy_types.specs.declared.conjuncts.Atom.TheVariants as atom
use Rattle.wy_types.specs.declared.conjuncts.Conjunct.{Conjunct}
use Rattle.wy_types.specs.declared.table.Table.{Table}
use Rattle.wy_types.specs.Names.{Declared, Up}
use Rattle.wy_types.specs.Recursion.{RecurThroughParts}
use Rattle.wy_types.specs.Shape.{part_in, each_in, atom_in, none_in, conjunct_in, any_in}
use Rattle.wy_types.specs.Membership.{shape_of, item_readers, member}
use Rattle.wy_types.specs.Ranked.{IsRanked}
use Rattle.wy_types.specs.Conjuncts.{same_term, dnf_part}
use Rattle.wy_types.proofs.OnceLemmas.{any_in-united_conjuncts}
use Rattle.wy_types.proofs.RankedLemmas.{has_laws}
use Rattle.wy_types.proofs.TermLemmas.{any_in-dnf_part}
use Rattle.wy_subtype_parts.specs.Items.{with_items, elements, IsItem, IsItemIn, IsElements}
use Rattle.wy_types_laws.specs.parts.Parts.{ItemsAreIn}
use Rattle.wy_types_laws.proofs.parts_lemmas.NormLemmas.{asked, ranked, they_say, reads, norms_same}

-- an item of an array of the conjuncts is in the union of their parts
item_of_union : (table : Table) (k : ℕ) (ranks : (rank : ℕ → ℕ) × IsRanked table rank k) (d : Datum) (items : Data) (cs : List (Conjunct ℕ)) → IsItem d items → any_in (shape_of table k (datum.Array items)) cs ≡ true → any_in (shape_of table k d) (elements table k [] cs) ≡ true
item_of_union table k ranks d items cs h e = any_in-elements table k ranks d [] cs ∙ of_items table k ranks d items cs h e

union_has : (names : List Declared) (recur : RecurThroughParts names) (t union : Ty) → IsElements names t union → (d : Datum) → IsItemIn names t d → Up names d union ≡ true
union_has names recur t union is d o =
    let q = asked names recur t in
    ap (Up names d) is.whole
    ∙ (reads names recur t d (elements q.table q.depth [] is.conjuncts)
    ∙ item_of_union q.table q.depth (ranked names recur t) d o.0 is.conjuncts o.1 (they_say names recur t is.conjuncts is.valued (datum.Array o.0) ∙ o.2))

pub items_are_in : ItemsAreIn
items_are_in names recur t made is d o = norms_same names recur is.0 made is.2 d ∙ union_has names recur t is.0 is.1 d o
