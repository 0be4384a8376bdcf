-- The union of the conjuncts of a term is the term.
use Rattle.std.proofs.Common.{◌≡◌, ℕ, zero, suc, List, [], ◌∷◌, Bool, true, false, cond, not, ◌&&◌, ◌||◌, Option, Some, None, refl, sym, ap, ◌∙◌}
use Rattle.std.specs.Str.{bytes_eq}
use Rattle.wy_core.proofs.wy_lemmas_proofs.Choices.{and_end as and_true, and_assoc}
use Rattle.wy_types.specs.NodeLaws.{same_term_is}
use Rattle.wy_types.specs.declared.conjuncts.Signed.{Signed}
use Rattle.wy_types.specs.declared.conjuncts.Atom.TheVariants as atom
use Rattle.wy_types.specs.declared.conjuncts.Conjunct.{Conjunct}
use Rattle.wy_types.specs.declared.table.Node.{Node}
use Rattle.wy_types.specs.declared.table.Node.TheVariants as node
use Rattle.wy_types.specs.declared.table.Definition.{Definition}
use Rattle.wy_types.specs.declared.table.Table.{Table}
use Rattle.wy_types.specs.Shape.{Shape, NullShape, BoolShape, IntShape, ArrayShape, RecordShape, signed_as, part_in, each_in, fields_in, array_atom_in, record_atom_in, any_in}
use Rattle.wy_types.specs.Claims.{EachOf}
use Rattle.wy_types.specs.Membership.{node_of, definition_of, items_in, array_in, values_in, record_in, named_in, node_in, is_in}
use Rattle.wy_types.specs.Ranked.{Obeys, IsLawful, HasLaws}
use Rattle.wy_types.specs.Merge.{part, merge, nothing_or_all}
use Rattle.wy_types.specs.Conjuncts.{same_term, signed, node_sides, with_sides, parts_of, named_dnf, node_dnf, dnf, dnf_more, dnf_part}
use Rattle.wy_types.proofs.TruthLemmas.{not_or, signed_as-not}
use Rattle.wy_types.proofs.OnceLemmas.{part_in-with_signed}
use Rattle.wy_types.proofs.MeetLemmas.{any_in-merge}
use Rattle.wy_types.proofs.OutLemmas.{any_in-kinds, any_in-atom_or_out, any_in-nothing_or_all, any_in-all_or_nothing, any_in-union, any_in-inter, any_in-normal_or_out}

-- ---- sides

part_in-node_sides : (r : Bool → ℕ → Bool) (at : List (Signed ℕ) → Bool → Bool → ℕ → List (Signed ℕ))
    (below : (p : List (Signed ℕ)) (up inside : Bool) (t : ℕ) → part_in r (at p up inside t) ≡ (part_in r p && signed_as (r up t) inside))
    (p : List (Signed ℕ)) (up inside : Bool) (t : ℕ) (n : Node) → Obeys r up n (r up t) → part_in r (node_sides at p up inside t n) ≡ (part_in r p && signed_as (r up t) inside)
part_in-node_sides r at below p up true t node.Any law = sym (ap (λ b. part_in r p && b) law ∙ and_true (part_in r p))
part_in-node_sides r at below p up true t (node.Inter x y) law =
    below (at p up true x) up true y ∙ ap (λ b. b && r up y) (below p up true x) ∙ and_assoc (part_in r p) (r up x) (r up y) ∙ ap (λ b. part_in r p && b) (sym law)
part_in-node_sides r at below p up false t (node.Union x y) law =
    below (at p up false x) up false y ∙ ap (λ b. b && not (r up y)) (below p up false x) ∙ and_assoc (part_in r p) (not (r up x)) (not (r up y))
    ∙ ap (λ b. part_in r p && b) (sym (ap not law ∙ not_or (r up x) (r up y)))
part_in-node_sides r at below p up true t (node.Not x) law =
    below p (not up) false x ∙ ap (λ b. part_in r p && b) (sym law)
part_in-node_sides r at below p up false t (node.Not x) law =
    below p (not up) true x ∙ ap (λ b. part_in r p && b) (sym (ap not law ∙ not_not (r (not up) x)))
  where
    not_not : (b : Bool) → not (not b) ≡ b
    not_not true = refl
    not_not false = refl
part_in-node_sides r at below p up true t node.Null law = part_in-with_signed same_term same_term_is r p (signed t up true)
part_in-node_sides r at below p up false t node.Null law = part_in-with_signed same_term same_term_is r p (signed t up false)
part_in-node_sides r at below p up true t node.Bool law = part_in-with_signed same_term same_term_is r p (signed t up true)
part_in-node_sides r at below p up false t node.Bool law = part_in-with_signed same_term same_term_is r p (signed t up false)
part_in-node_sides r at below p up true t node.Int law = part_in-with_signed same_term same_term_is r p (signed t up true)
part_in-node_sides r at below p up false t node.Int law = part_in-with_signed same_term same_term_is r p (signed t up false)
part_in-node_sides r at below p up false t node.Any law = part_in-with_signed same_term same_term_is r p (signed t up false)
part_in-node_sides r at below p up true t node.Void law = part_in-with_signed same_term same_term_is r p (signed t up true)
part_in-node_sides r at below p up false t node.Void law = part_in-with_signed same_term same_term_is r p (signed t up false)
part_in-node_sides r at below p up true t (node.Record fs) law = part_in-with_signed same_term same_term_is r p (signed t up true)
part_in-node_sides r at below p up false t (node.Record fs) law = part_in-with_signed same_term same_term_is r p (signed t up false)
part_in-node_sides r at below p up true t (node.Array s) law = part_in-with_signed same_term same_term_is r p (signed t up true)
part_in-node_sides r at below p up false t (node.Array s) law = part_in-with_signed same_term same_term_is r p (signed t up false)
part_in-node_sides r at below p up true t (node.Union x y) law = part_in-with_signed same_term same_term_is r p (signed t up true)
part_in-node_sides r at below p up false t (node.Inter x y) law = part_in-with_signed same_term same_term_is r p (signed t up false)
part_in-node_sides r at below p up true t (node.Named n) law = part_in-with_signed same_term same_term_is r p (signed t up true)
part_in-node_sides r at below p up false t (node.Named n) law = part_in-with_signed same_term same_term_is r p (signed t up false)
part_in-node_sides r at below p up true t (node.Normal cs) law = part_in-with_signed same_term same_term_is r p (signed t up true)
part_in-node_sides r at below p up false t (node.Normal cs) law = part_in-with_signed same_term same_term_is r p (signed t up false)

pub part_in-with_sides : (table : Table) (r : Bool → ℕ → Bool) → IsLawful table r → (k : ℕ) (p : List (Signed ℕ)) (up inside : Bool) (t : ℕ)
    → part_in r (with_sides table k p up inside t) ≡ (part_in r p && signed_as (r up t) inside)
part_in-with_sides table r law zero p up inside t = part_in-with_signed same_term same_term_is r p (signed t up inside)
part_in-with_sides table r law (suc k) p up inside t =
    part_in-node_sides r (with_sides table k) (λ q u i s. part_in-with_sides table r law k q u i s) p up inside t (node_of table t) (law up t)

-- ---- the parts of arrays and records

each_in-sides : (table : Table) (rs : List (Bool → ℕ → Bool)) → EachOf (IsLawful table) rs → (k : ℕ) (up : Bool) (t : ℕ) → each_in rs (with_sides table k [] up true t) ≡ items_in rs up t
each_in-sides table [] laws k up t = refl
each_in-sides table (r ∷ rs) laws k up t = rw (part_in-with_sides table r laws.0 k [] up true t, each_in-sides table rs laws.1 k up t) refl

array_atom_in-sides : (table : Table) (shape : Shape ℕ) → HasLaws table shape → (k : ℕ) (up : Bool) (t : ℕ) → array_atom_in shape (with_sides table k [] up true t) ≡ array_in shape up t
array_atom_in-sides table NullShape laws k up t = refl
array_atom_in-sides table BoolShape laws k up t = refl
array_atom_in-sides table IntShape laws k up t = refl
array_atom_in-sides table (ArrayShape rs) laws k up t = each_in-sides table rs laws k up t
array_atom_in-sides table (RecordShape ns rs) laws k up t = refl

fields_in-parts_of : (table : Table) (ns : List (List ℕ)) (rs : List (Bool → ℕ → Bool)) → EachOf (IsLawful table) rs → (k : ℕ) (up : Bool) (fs : List (List ℕ × ℕ)) → fields_in ns rs (parts_of table k up fs) ≡ values_in ns rs up fs
fields_in-parts_of table [] [] laws k up [] = refl
fields_in-parts_of table [] [] laws k up (f ∷ fs) = refl
fields_in-parts_of table [] (r ∷ rs) laws k up [] = refl
fields_in-parts_of table [] (r ∷ rs) laws k up (f ∷ fs) = refl
fields_in-parts_of table (n ∷ ns) [] laws k up [] = refl
fields_in-parts_of table (n ∷ ns) [] laws k up (f ∷ fs) = refl
fields_in-parts_of table (n ∷ ns) (r ∷ rs) laws k up [] = refl
fields_in-parts_of table (n ∷ ns) (r ∷ rs) laws k up (f ∷ fs) =
    ap (λ b. bytes_eq n f.0 && (b && fields_in ns rs (parts_of table k up fs))) (part_in-with_sides table r laws.0 k [] up true f.1)
    ∙ ap (λ b. bytes_eq n f.0 && (r up f.1 && b)) (fields_in-parts_of table ns rs laws.1 k up fs)

record_atom_in-parts_of : (table : Table) (shape : Shape ℕ) → HasLaws table shape → (k : ℕ) (up : Bool) (fs : List (List ℕ × ℕ)) → record_atom_in shape (parts_of table k up fs) ≡ record_in shape up fs
record_atom_in-parts_of table NullShape laws k up fs = refl
record_atom_in-parts_of table BoolShape laws k up fs = refl
record_atom_in-parts_of table IntShape laws k up fs = refl
record_atom_in-parts_of table (ArrayShape rs) laws k up fs = refl
record_atom_in-parts_of table (RecordShape ns rs) laws k up fs = fields_in-parts_of table ns rs laws k up fs

-- ---- terms

any_in-named : (shape : Shape ℕ) (told : Bool) (inside : Bool) (cs : List (Conjunct ℕ)) (b : Bool) → any_in shape cs ≡ signed_as b inside → any_in shape (cond told cs (nothing_or_all inside)) ≡ signed_as (told && b) inside
any_in-named shape true inside cs b e = e
any_in-named shape false inside cs b e = any_in-nothing_or_all shape inside

any_in-named_dnf : (at : Bool → Bool → ℕ → List (Conjunct ℕ)) (r : Bool → ℕ → Bool) (shape : Shape ℕ) (below : (up inside : Bool) (t : ℕ) → any_in shape (at up inside t) ≡ signed_as (r up t) inside) (up inside : Bool) (d : Option Definition)
    → any_in shape (named_dnf at up inside d) ≡ signed_as (named_in r up d) inside
any_in-named_dnf at r shape below up inside None = any_in-nothing_or_all shape inside
any_in-named_dnf at r shape below up inside (Some d) = any_in-named shape (up || not d.constrained) inside (at up inside d.term) (r up d.term) (below up inside d.term)

any_in-node_dnf : (table : Table) (k : ℕ) (at : Bool → Bool → ℕ → List (Conjunct ℕ)) (r : Bool → ℕ → Bool) (shape : Shape ℕ) → HasLaws table shape → (below : (up inside : Bool) (t : ℕ) → any_in shape (at up inside t) ≡ signed_as (r up t) inside)
    → (up inside : Bool) (n : Node) → any_in shape (node_dnf table k at up inside n) ≡ signed_as (node_in table r shape up n) inside
any_in-node_dnf table k at r shape laws below up inside node.Null = any_in-atom_or_out shape inside atom.Null
any_in-node_dnf table k at r shape laws below up inside node.Bool = any_in-atom_or_out shape inside atom.Bool
any_in-node_dnf table k at r shape laws below up inside node.Int = any_in-atom_or_out shape inside atom.Int
any_in-node_dnf table k at r shape laws below up inside node.Any = any_in-all_or_nothing shape inside
any_in-node_dnf table k at r shape laws below up inside node.Void = any_in-nothing_or_all shape inside
any_in-node_dnf table k at r shape laws below up inside (node.Record fs) =
    any_in-atom_or_out shape inside (atom.Record (parts_of table k up fs)) ∙ ap (λ b. signed_as b inside) (record_atom_in-parts_of table shape laws k up fs)
any_in-node_dnf table k at r shape laws below up inside (node.Array t) =
    any_in-atom_or_out shape inside (atom.Array (part (with_sides table k [] up true t))) ∙ ap (λ b. signed_as b inside) (array_atom_in-sides table shape laws k up t)
any_in-node_dnf table k at r shape laws below up inside (node.Union x y) =
    any_in-union same_term same_term_is shape inside (at up inside x) (at up inside y) (r up x) (r up y) (below up inside x) (below up inside y)
any_in-node_dnf table k at r shape laws below up inside (node.Inter x y) =
    any_in-inter same_term same_term_is shape inside (at up inside x) (at up inside y) (r up x) (r up y) (below up inside x) (below up inside y)
any_in-node_dnf table k at r shape laws below up inside (node.Not x) = below (not up) (not inside) x ∙ signed_as-not (r (not up) x) inside
any_in-node_dnf table k at r shape laws below up inside (node.Named n) = any_in-named_dnf at r shape below up inside (definition_of table n)
any_in-node_dnf table k at r shape laws below up inside (node.Normal cs) = any_in-normal_or_out same_term same_term_is shape inside cs

pub any_in-dnf : (table : Table) (sides k : ℕ) (shape : Shape ℕ) → HasLaws table shape → (up inside : Bool) (t : ℕ) → any_in shape (dnf table sides k up inside t) ≡ signed_as (is_in table k shape up t) inside
any_in-dnf table sides zero shape laws up inside t = any_in-nothing_or_all shape inside
any_in-dnf table sides (suc k) shape laws up inside t =
    any_in-node_dnf table sides (dnf table sides k) (is_in table k shape) shape laws (λ u i s. any_in-dnf table sides k shape laws u i s) up inside (node_of table t)

any_in-dnf_more : (table : Table) (k : ℕ) (shape : Shape ℕ) → HasLaws table shape → (cs : List (Conjunct ℕ)) (ss : List (Signed ℕ)) → any_in shape (dnf_more table k cs ss) ≡ (any_in shape cs && part_in (is_in table k shape) ss)
any_in-dnf_more table k shape laws cs [] = sym (and_true (any_in shape cs))
any_in-dnf_more table k shape laws cs (s ∷ ss) =
    any_in-dnf_more table k shape laws (merge same_term cs (dnf table k k s.up s.inside s.term)) ss
    ∙ ap (λ b. b && part_in (is_in table k shape) ss) (any_in-merge same_term same_term_is shape cs (dnf table k k s.up s.inside s.term))
    ∙ and_assoc (any_in shape cs) (any_in shape (dnf table k k s.up s.inside s.term)) (part_in (is_in table k shape) ss)
    ∙ ap (λ b. any_in shape cs && (b && part_in (is_in table k shape) ss)) (any_in-dnf table k k shape laws s.up s.inside s.term)

-- the union of the conjuncts of a part is the part
pub any_in-dnf_part : (table : Table) (k : ℕ) (shape : Shape ℕ) → HasLaws table shape → (p : List (Signed ℕ)) → any_in shape (dnf_part table k p) ≡ part_in (is_in table k shape) p
any_in-dnf_part table k shape laws [] = any_in-kinds shape
any_in-dnf_part table k shape laws (s ∷ ss) =
    any_in-dnf_more table k shape laws (dnf table k k s.up s.inside s.term) ss
    ∙ ap (λ b. b && part_in (is_in table k shape) ss) (any_in-dnf table k k shape laws s.up s.inside s.term)
