-- Fields that are put in one after the other: each has a name, and the names rise.
use Rattle.std.proofs.Common.{◌≡◌, ℕ, List, [], ◌∷◌, Ordering, Less, Equal, Greater, nat_cmp, refl, ap, subst}
use Rattle.std.specs.Cmp.Lexicographic.{slice_cmp, nat_list_cmp_total}
use Rattle.std.specs.List.Sorted.{IsStrictlySortedBy}
use Rattle.std.specs.Ordering.{match_ordering}
use Rattle.wy_data.specs.Words.{IsName}
use Rattle.wy_lemmas.proofs.Lists.{less_back, BelowNames as Below, Each, keys}
use Rattle.wy_names.proofs.resolved_lemmas.FieldLemmas.{each_placed}
use Rattle.wy_value.specs.Values.{Rise}
use Rattle.wy_core.specs.Types as types
use Rattle.wy_core.specs.CoreTree.{Expr, RecordExpr, fields_of}
use Rattle.wy_core.specs.CoreSeen.{field_tys_of}
use Rattle.wy_names.specs.wy_names_lower.TypesLowered.{placed}
use Rattle.wy_gen_laws.specs.wy_code_spec.tables.Tables.{names_in, ty_names_in}
use Rattle.wy_gen_laws.specs.wy_code_spec.compiled.Fields.{AreNames, NamesTy, NameFieldTys, NamesExpr, NameFields}

no_rise : Rise []
unfolding IsStrictlySortedBy
no_rise = tt

rise_first : (n : List ℕ) (ns : List (List ℕ)) → Below n ns → Rise ns → Rise (n ∷ ns)
unfolding IsStrictlySortedBy
rise_first n ns below rise = (below, rise)

first_below : (n : List ℕ) (ns : List (List ℕ)) → Rise (n ∷ ns) → Below n ns
unfolding IsStrictlySortedBy
first_below n ns rise = rise.0

rest_rise : (n : List ℕ) (ns : List (List ℕ)) → Rise (n ∷ ns) → Rise ns
unfolding IsStrictlySortedBy
rest_rise n ns rise = rise.1

below_more : (a b : List ℕ) (ns : List (List ℕ)) → slice_cmp nat_cmp a b ≡ Less → Below b ns → Below a ns
below_more a b [] less h = tt
below_more a b (n ∷ ns) less h = (nat_list_cmp_total.trans a b n less h.0, below_more a b ns less h.1)

below_placed : {X : Type 0} (first name : List ℕ) (fs : List (List ℕ × X)) (x : X) → slice_cmp nat_cmp first name ≡ Less → Below first (keys fs) → Below first (keys (placed fs name x))
below_placed first name [] x less h = (less, tt)
below_placed {X} first name (f ∷ fs) x less h = by (slice_cmp nat_cmp name f.0) (below_placed first name fs x less h.1)
  where
    by : (c : Ordering) → Below first (keys (placed fs name x)) → Below first (keys (match_ordering c ((name, x) ∷ f ∷ fs) ((f.0, x) ∷ fs) (f ∷ placed fs name x)))
    by Less later = (less, h)
    by Equal later = h
    by Greater later = (h.0, later)

rise_placed : {X : Type 0} (fs : List (List ℕ × X)) (name : List ℕ) (x : X) → Rise (keys fs) → Rise (keys (placed fs name x))
rise_placed [] name x r = rise_first name [] tt no_rise
rise_placed {X} (f ∷ fs) name x r = by (slice_cmp nat_cmp name f.0) refl (rise_placed fs name x (rest_rise f.0 (keys fs) r))
  where
    below : Below f.0 (keys fs)
    below = first_below f.0 (keys fs) r

    by : (c : Ordering) → slice_cmp nat_cmp name f.0 ≡ c → Rise (keys (placed fs name x)) → Rise (keys (match_ordering c ((name, x) ∷ f ∷ fs) ((f.0, x) ∷ fs) (f ∷ placed fs name x)))
    by Less e later = rise_first name (f.0 ∷ keys fs) (e, below_more name f.0 (keys fs) e below) r
    by Equal e later = r
    by Greater e later = rise_first f.0 (keys (placed fs name x)) (below_placed f.0 name fs x (less_back name f.0 e) below) later

names_placed : {X : Type 0} (fs : List (List ℕ × X)) (name : List ℕ) (x : X) → IsName name → AreNames (keys fs) → AreNames (keys (placed fs name x))
names_placed [] name x p h = (p, tt)
names_placed {X} (f ∷ fs) name x p h = by (slice_cmp nat_cmp name f.0) (names_placed fs name x p h.1)
  where
    by : (c : Ordering) → AreNames (keys (placed fs name x)) → AreNames (keys (match_ordering c ((name, x) ∷ f ∷ fs) ((f.0, x) ∷ fs) (f ∷ placed fs name x)))
    by Less later = (p, h)
    by Equal later = h
    by Greater later = (h.0, later)

-- ---- fields that are made so far

pub record Made {X : Type 0} (P : X → Type 0) (fs : List (List ℕ × X)) : Type 0 where
  pub names : AreNames (keys fs)
  pub rise : Rise (keys fs)
  pub each : Each P fs

pub made_none : {X : Type 0} (P : X → Type 0) → Made P []
made_none P = record { names = tt; rise = no_rise; each = tt }

pub made_more : {X : Type 0} (P : X → Type 0) (fs : List (List ℕ × X)) (name : List ℕ) (x : X) → IsName name → P x → Made P fs → Made P (placed fs name x)
made_more P fs name x named here made = record {
  names = names_placed fs name x named made.names;
  rise = rise_placed fs name x made.rise;
  each = each_placed P fs name x here made.each;
}

-- ---- records

tys_keys : (fs : List (List ℕ × types.Ty)) → keys fs ≡ ty_names_in (field_tys_of fs)
tys_keys [] = refl
tys_keys (f ∷ fs) = ap (λ (ns : List (List ℕ)). f.0 ∷ ns) (tys_keys fs)

each_ty : (fs : List (List ℕ × types.Ty)) → Each NamesTy fs → NameFieldTys (field_tys_of fs)
each_ty [] h = tt
each_ty (f ∷ fs) h = (h.0, each_ty fs h.1)

pub made_ty : (fs : List (List ℕ × types.Ty)) → Made NamesTy fs → NamesTy (types.RecordTy (field_tys_of fs))
made_ty fs made = (
  (subst (λ (ns : List (List ℕ)). AreNames ns) (tys_keys fs) made.names, subst (λ (ns : List (List ℕ)). Rise ns) (tys_keys fs) made.rise),
  each_ty fs made.each,
)

exprs_keys : (fs : List (List ℕ × Expr ℕ)) → keys fs ≡ names_in (fields_of fs)
exprs_keys [] = refl
exprs_keys (f ∷ fs) = ap (λ (ns : List (List ℕ)). f.0 ∷ ns) (exprs_keys fs)

each_expr : (fs : List (List ℕ × Expr ℕ)) → Each NamesExpr fs → NameFields (fields_of fs)
each_expr [] h = tt
each_expr (f ∷ fs) h = (h.0, each_expr fs h.1)

pub made_expr : (at : ℕ) (fs : List (List ℕ × Expr ℕ)) → Made NamesExpr fs → NamesExpr (RecordExpr at (fields_of fs))
made_expr at fs made = (
  (subst (λ (ns : List (List ℕ)). AreNames ns) (exprs_keys fs) made.names, subst (λ (ns : List (List ℕ)). Rise ns) (exprs_keys fs) made.rise),
  each_expr fs made.each,
)
