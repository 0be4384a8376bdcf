-- Over a closed set of parts, a set of marks that is closed has every part with a value.
use Rattle.std.proofs.Common.{◌≡◌, ℕ, List, true, inl, inr}
use Rattle.wy_core.specs.wy_value.Datum.{Datum, Data, Fields, no_items, item, no_fields, field}
use Rattle.wy_core.specs.wy_value.Datum as datum
use Rattle.wy_types.specs.declared.conjuncts.Signed.{Signed}
use Rattle.wy_types.specs.declared.table.Table.{Table}
use Rattle.wy_types.specs.Shape.{part_in}
use Rattle.wy_types.specs.Claims.{SomeOf, EachOf}
use Rattle.wy_types.specs.Membership.{shape_of, item_readers, field_readers, member}
use Rattle.wy_types.specs.Ranked.{IsRanked}
use Rattle.wy_types.specs.Asks.{options, IsMet}
use Rattle.wy_types.proofs.ClaimLemmas.{met_within}
use Rattle.wy_types.proofs.RankedLemmas.{has_laws}
use Rattle.wy_types.proofs.AskLemmas.{HasPiece, options-ask}

module _ (table : Table) (rank : ℕ → ℕ) (k : ℕ) (ranked : IsRanked table rank k) (R M : List (Signed ℕ) → Type 0)
    (reach : (p : List (Signed ℕ)) → R p → EachOf (EachOf (EachOf R)) (options table k p)) (closed : (p : List (Signed ℕ)) → R p → IsMet M (options table k p) → M p) where
  step : (d : Datum) (p : List (Signed ℕ)) → R p → part_in (member table k d) p ≡ true → ((q : List (Signed ℕ)) → R q → HasPiece (shape_of table k d) q → M q) → M p
  step d p h e f = closed p h (met_within (HasPiece (shape_of table k d)) R M (options table k p) (reach p h) f (options-ask table k (shape_of table k d) (has_laws table rank k ranked d) p e))

  mutual
    pub found : (d : Datum) (p : List (Signed ℕ)) → R p → part_in (member table k d) p ≡ true → M p
    found datum.Null p h e = step datum.Null p h e (λ q i s. absurd s)
    found (datum.Truth b) p h e = step (datum.Truth b) p h e (λ q i s. absurd s)
    found (datum.Whole z) p h e = step (datum.Whole z) p h e (λ q i s. absurd s)
    found (datum.Array items) p h e = step (datum.Array items) p h e (λ q i s. found_item items q i s)
    found (datum.Record fields) p h e = step (datum.Record fields) p h e (λ q i s. found_field fields q i s)

    found_item : (items : Data) (p : List (Signed ℕ)) → R p → SomeOf (λ r. part_in r p ≡ true) (item_readers table k items) → M p
    found_item no_items p h s = absurd s
    found_item (item d rest) p h (inl e) = found d p h e
    found_item (item d rest) p h (inr s) = found_item rest p h s

    found_field : (fields : Fields) (p : List (Signed ℕ)) → R p → SomeOf (λ r. part_in r p ≡ true) (field_readers table k fields) → M p
    found_field no_fields p h s = absurd s
    found_field (field name d rest) p h (inl e) = found d p h e
    found_field (field name d rest) p h (inr s) = found_field rest p h s
