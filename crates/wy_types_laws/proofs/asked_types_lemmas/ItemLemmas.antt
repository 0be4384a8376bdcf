-- A value that is an item of some array in a part is one of an array of the language in it.
use Rattle.std.proofs.Common.{◌≡◌, ℕ, List, [], ◌∷◌, Bool, true, false, ◌&&◌, refl, ◌∙◌, subst, inl, inr, arith}
use Rattle.wy_lemmas.proofs.Choices.{both_parts as both, both_true as two_true}
use Rattle.wy_value.specs.Datum.{Datum, Data, no_items, item}
use Rattle.wy_value.specs.Datum as datum
use Rattle.wy_value.specs.Values.{IsValue}
use Rattle.wy_types.specs.declared.conjuncts.Signed.{Signed}
use Rattle.wy_types.specs.declared.conjuncts.Atom.{Atom}
use Rattle.wy_types.specs.declared.conjuncts.Atom.TheVariants as atom
use Rattle.wy_types.specs.declared.conjuncts.Conjunct.{Conjunct}
use Rattle.wy_types.specs.declared.table.Table.{Table}
use Rattle.wy_types.specs.Shape.{Shape, ArrayShape, part_in, each_in, atom_in, none_in, conjunct_in, any_in}
use Rattle.wy_types.specs.Claims.{SomeOf, EachOf, IsIn}
use Rattle.wy_types.specs.Membership.{shape_of, item_readers, member}
use Rattle.wy_types.specs.Ranked.{IsRanked}
use Rattle.wy_types.specs.Conjuncts.{dnf_part}
use Rattle.wy_types.specs.Asks.{asked_each, options_of}
use Rattle.wy_types.specs.Reach.{Reaches, at_first, IsNeeded, IsWide}
use Rattle.wy_types.proofs.ClaimLemmas.{met_within}
use Rattle.wy_types.proofs.RankedLemmas.{has_laws}
use Rattle.wy_types.proofs.TermLemmas.{any_in-dnf_part}
use Rattle.wy_types.proofs.AskLemmas.{none_in-more, HasPiece, options_of-ask}
use Rattle.wy_types_laws.specs.asked_types.Shown.{IsItem}
use Rattle.wy_types_laws.proofs.asked_types_lemmas.TableLemmas.{ConjunctHasRow}
use Rattle.wy_types_laws.proofs.asked_types_lemmas.KnownLemmas.{Pair, Good, HasIn, Comes, short_enough, more_met, none_kept, chosen, chosen-each, chosen-values, chosen-short, chosen-none, few, all_needed, in_part, part_comes}

-- the conjunct that holds
pub conjunct_of : (shape : Shape ℕ) (cs : List (Conjunct ℕ)) → any_in shape cs ≡ true → (c : Conjunct ℕ) × IsIn c cs × (conjunct_in shape c ≡ true)
conjunct_of shape [] e = absurd cc
conjunct_of shape (c ∷ cs) e = by (conjunct_in shape c) refl (λ f. conjunct_of shape cs f)
  where
    by : (b : Bool) → conjunct_in shape c ≡ b → (any_in shape cs ≡ true → (d : Conjunct ℕ) × IsIn d cs × (conjunct_in shape d ≡ true)) → (d : Conjunct ℕ) × IsIn d (c ∷ cs) × (conjunct_in shape d ≡ true)
    by true f rest = (c, inl refl, f)
    by false f rest = let r = rest (rw f at e) in (r.0, inr r.1, r.2)

module _ (table : Table) (rank : ℕ → ℕ) (k : ℕ) (ranked : IsRanked table rank k) (first : List (Signed ℕ)) (rows : (c : Conjunct ℕ) → Reaches table k first c → ConjunctHasRow c) (narrow : IsWide table k first → ⊥) where
  pub item_comes : (items : Data) (p : List (Signed ℕ)) → IsNeeded table k first p → SomeOf (λ r. part_in r p ≡ true) (item_readers table k items) → Comes table rank k ranked first p
  item_comes no_items p n s = absurd s
  item_comes (item d rest) p n (inl e) = part_comes table rank k ranked first rows narrow d p n e
  item_comes (item d rest) p n (inr s) = item_comes rest p n s

  item_in : (items : Data) (v : Datum) (p : List (Signed ℕ)) → IsItem v items → each_in (item_readers table k items) p ≡ true → part_in (member table k v) p ≡ true
  item_in no_items v p i e = absurd i
  item_in (item d rest) v p (inl f) e = subst (λ (x : Datum). part_in (member table k x) p ≡ true) f (both (part_in (member table k d) p) (each_in (item_readers table k rest) p) e).0
  item_in (item d rest) v p (inr i) e = item_in rest v p i (both (part_in (member table k d) p) (each_in (item_readers table k rest) p) e).1

  -- an array of the language with the item, in an atom and in none of others
  abbrev HasArray : Datum → Atom ℕ → List (Atom ℕ) → Type 0
  HasArray v a negatives = (es : Data) × IsItem v es × IsValue (datum.Array es) × ((atom_in (shape_of table k (datum.Array es)) a && none_in (shape_of table k (datum.Array es)) negatives) ≡ true)

  array_made : (v : Datum) → IsValue v → (p : List (Signed ℕ)) (negatives : List (Atom ℕ)) → part_in (member table k v) p ≡ true → (xs : List Pair) → Good table rank k ranked first xs → EachOf (SomeOf (HasIn table rank k ranked first xs)) (asked_each table k p negatives)
      → (es : Data) × IsItem v es × IsValue (datum.Array es) × ((each_in (item_readers table k es) p && none_in (ArrayShape (item_readers table k es)) negatives) ≡ true)
  array_made v value p negatives held xs g each =
      let es = chosen table rank k ranked first p xs in
      let out = chosen-none table rank k ranked first p xs negatives each in (
        item v es,
        inl refl,
        (short_enough _ (let s = chosen-short table rank k ranked first p xs in let l = few table rank k ranked first rows narrow xs g in omega (arith, s, l)), (value, chosen-values table rank k ranked first p xs g.held)),
        two_true _ _ (two_true _ _ held (chosen-each table rank k ranked first p xs)) (none_in-more (member table k v) (item_readers table k es) negatives out),
      )

  array_with : (items : Data) (v : Datum) → IsValue v → IsItem v items → (a : Atom ℕ) (negatives : List (Atom ℕ)) → EachOf (EachOf (EachOf (IsNeeded table k first))) (options_of table k a negatives) → atom_in (ArrayShape (item_readers table k items)) a ≡ true
      → none_in (ArrayShape (item_readers table k items)) negatives ≡ true → HasArray v a negatives
  array_with items v value i (atom.Array p) negatives all e f =
      let shape = ArrayShape (item_readers table k items) in
      let met = options_of-ask table k shape (has_laws table rank k ranked (datum.Array items)) (atom.Array p) negatives e f in
      let come = met_within (HasPiece shape) (IsNeeded table k first) (Comes table rank k ranked first) (options_of table k (atom.Array p) negatives) all (λ ts n s. item_comes items ts n s) met in
      let m = more_met table rank k ranked first (options_of table k (atom.Array p) negatives) come [] (none_kept table rank k ranked first) in
      elim m.has [
        | inl each ↦ array_made v value p.terms negatives (item_in items v p.terms i e) m.them m.good each
        | inr none ↦ absurd none
      ]
  array_with items v value i atom.Null negatives all e f = absurd cc
  array_with items v value i atom.Bool negatives all e f = absurd cc
  array_with items v value i atom.Int negatives all e f = absurd cc
  array_with items v value i (atom.Record fs) negatives all e f = absurd cc
  array_with items v value i atom.AnyRecord negatives all e f = absurd cc

  pub item_shown : (items : Data) (v : Datum) → IsValue v → IsItem v items → part_in (member table k (datum.Array items)) first ≡ true → (es : Data) × IsItem v es × IsValue (datum.Array es) × (part_in (member table k (datum.Array es)) first ≡ true)
  item_shown items v value i e =
      let shape = ArrayShape (item_readers table k items) in
      let c = conjunct_of shape (dnf_part table k first) (any_in-dnf_part table k shape (has_laws table rank k ranked (datum.Array items)) first ∙ e) in
      let halves = both (atom_in shape c.0.positive) (none_in shape c.0.negatives) c.2 in
      let all = all_needed table rank k ranked first rows narrow c.0 (at_first c.0 c.1) in
      let made = array_with items v value i c.0.positive c.0.negatives all halves.0 halves.1 in
      (made.0, made.1, made.2, in_part table rank k ranked first rows narrow (datum.Array made.0) first c.0 c.1 made.3)
