-- The formula of a type depends on names below its count alone.
use Rattle.std.proofs.Common.{◌≡◌, ℕ, zero, suc, ◌+◌, ◌<◌, ◌≤◌, List, [], ◌∷◌, Bool, true, pos, refl, arith}
use Rattle.wy_value.specs.declared.bounds.TheConstants.{INT_MIN, INT_MAX}
use Rattle.wy_core.specs.Types.{Ty, NullTy, BoolTy, IntTy, AnyTy, VoidTy, RecordTy, ArrayTy, UnionTy, InterTy, NotTy, NamedTy, NormalTy, FieldTys, NoFieldTys, MoreFieldTys}
use Rattle.wy_term.specs.Term.{Term, null_kind, bool_kind, int_kind, array_kind, record_kind}
use Rattle.wy_term.specs.Sorts.{val_sort, formula_sort}
use Rattle.wy_sound_terms.specs.wy_vc_spec.Making.{number_of, int_name, num, len, get, field, at_most, of_kind, bound, all_of, any_of}
use Rattle.wy_sound_terms.specs.wy_vc_spec.Values.{Naming, k_word, longest, names_of, holds, fields_hold}
use Rattle.wy_sound_terms.proofs.formed_lemmas.MakingLemmas.{IsOf, number_sorted, int_name_sorted, len_sorted, get_sorted, field_sorted}
use Rattle.wy_sound_terms.proofs.formed_lemmas.ValueLemmas.{SaysFormulas, holds_sorted}
use Rattle.wy_sound_walks.proofs.expressions_lemmas.ValueGrows.{holds_grows, fields_grow}
use Rattle.wy_sound_walks.specs.joins.Points.{Depends}
use Rattle.wy_sound_walks.proofs.depends_lemmas.MadeLemmas.{DependsInt, Rests, depends_more, rests_more, num_rests, len_rests, get_depends, field_depends, at_most_rests, denied_rests, kind_rests, AllRest, none_rest, more_rest, all_rest, some_rest, bound_rests}

pub name_rests : (word : List ℕ) (n m : ℕ) → n < m → DependsInt m (int_name word n)
name_rests word n m lt x y a = a.number_of word n lt

module _ (named : Naming) (formulas : SaysFormulas named) (grows : (number n : ℕ) (v : Term) → n ≤ (named number v n).count)
    (named_rests : (number n : ℕ) (v : Term) → IsOf val_sort v → Depends n v → Rests (named number v n).count (named number v n).term) where
  mutual
    pub holds_rests : (t : Ty) (n : ℕ) (v : Term) → IsOf val_sort v → Depends n v → Rests (holds named t v n).count (holds named t v n).term
    holds_rests NullTy n v is h = kind_rests n null_kind (v) h
    holds_rests BoolTy n v is h = kind_rests n bool_kind (v) h
    holds_rests IntTy n v is h =
        all_rest n (more_rest (of_kind int_kind v) (kind_rests n int_kind (v) h)
        (more_rest (at_most (number_of INT_MIN) (num v)) (at_most_rests n (number_of INT_MIN) (num v) (λ x y a. refl) (num_rests n (v) h)) (more_rest (at_most (num v) (number_of INT_MAX)) (at_most_rests n (num v) (number_of INT_MAX) (num_rests n (v) h) (λ x y a. refl)) none_rest)))
    holds_rests AnyTy n v is h = all_rest n none_rest
    holds_rests VoidTy n v is h = some_rest n none_rest
    holds_rests (RecordTy fields) n v is h =
        let m = (fields_hold named fields v n).count in
        all_rest m (more_rest (of_kind (record_kind (names_of fields)) v) (rests_more n m (of_kind (record_kind (names_of fields)) v) (fields_grow named grows fields v n) (kind_rests n (record_kind (names_of fields)) (v) h)) (fields_rest fields n v is h))
    holds_rests (ArrayTy t) n v is h =
        let part = holds named t (get v (int_name k_word n)) (suc n) in
        let m = part.count in
        let g = holds_grows named grows t (get v (int_name k_word n)) (suc n) in
        let le : n ≤ m = omega (arith, g) in
        let here : Depends m v = depends_more n m (v) le h in
        let inner : Rests m part.term = holds_rests t (suc n) (get v (int_name k_word n)) (get_sorted is (int_name_sorted k_word n))
        (get_depends (suc n) (v) (int_name k_word n) (depends_more n (suc n) (v) (omega arith) h) (name_rests k_word n (suc n) (omega arith))) in
        all_rest m (more_rest (of_kind array_kind v) (kind_rests m array_kind (v) here) (more_rest (at_most (len v) longest) (at_most_rests m (len v) (longest) (len_rests m (v) here) (λ x y a. refl))
        (more_rest (bound true k_word n (number_of (pos 0)) (len v) part.term) (bound_rests m true k_word n (number_sorted (pos 0)) (len_sorted is) (holds_sorted formulas t (suc n) (get_sorted is (int_name_sorted k_word n))) (λ x y a. refl) (len_rests m (v) here) inner) none_rest)))
    holds_rests (UnionTy s t) n v is h =
        let f = holds named s v n in let k = holds named t v f.count in
        some_rest k.count (more_rest f.term (rests_more f.count k.count (f.term) (holds_grows named grows t v f.count) (holds_rests s n v is h))
        (more_rest k.term (holds_rests t f.count v is (depends_more n f.count (v) (holds_grows named grows s v n) h)) none_rest))
    holds_rests (InterTy s t) n v is h =
        let f = holds named s v n in let k = holds named t v f.count in
        all_rest k.count (more_rest f.term (rests_more f.count k.count (f.term) (holds_grows named grows t v f.count) (holds_rests s n v is h))
        (more_rest k.term (holds_rests t f.count v is (depends_more n f.count (v) (holds_grows named grows s v n) h)) none_rest))
    holds_rests (NotTy t) n v is h = let k = holds named t v n in denied_rests k.count (k.term) (holds_rests t n v is h)
    holds_rests (NamedTy number) n v is h = named_rests number n v is h
    holds_rests (NormalTy union) n v is h = some_rest n none_rest

    pub fields_rest : (fields : FieldTys) (n : ℕ) (v : Term) → IsOf val_sort v → Depends n v → AllRest (fields_hold named fields v n).count (fields_hold named fields v n).terms
    fields_rest NoFieldTys n v is h = none_rest
    fields_rest (MoreFieldTys f t fields) n v is h =
        let first = holds named t (field f v) n in
        let rest = fields_hold named fields v first.count in
        more_rest first.term (rests_more first.count rest.count (first.term) (fields_grow named grows fields v first.count) (holds_rests t n (field f v) (field_sorted f is) (field_depends n f (v) h)))
        (fields_rest fields first.count v is (depends_more n first.count (v) (holds_grows named grows t (field f v) n) h))
