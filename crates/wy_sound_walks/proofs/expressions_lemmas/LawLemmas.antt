-- Expressions as the conditions walk them.
use Rattle.std.proofs.Common.{◌≡◌, ℕ, ◌≤◌, List, [], ◌∷◌, length, Bool, true, false, Option, Some, None, refl, sym, subst, arith}
use Rattle.wy_value.specs.Datum.{Datum}
use Rattle.wy_core.specs.Types.{Ty}
use Rattle.wy_core.specs.CoreTree.{Expr, Routine}
use Rattle.wy_term.specs.Term.{Term}
use Rattle.wy_term.specs.Sorts.{val_sort, formula_sort}
use Rattle.wy_term.specs.Meaning.{Names, sense}
use Rattle.wy_term_subst.specs.kept_sorts.SortKept.{HasSort}
use Rattle.wy_sound_terms.specs.wy_sem.Meter.{Meter}
use Rattle.wy_sound_terms.specs.wy_sem.Expressions as sem
use Rattle.wy_sound_terms.specs.wy_vc_spec.Numbered.{Node}
use Rattle.wy_sound_terms.specs.wy_vc_spec.Variables.{Vars}
use Rattle.wy_sound_terms.specs.wy_vc_spec.Values.{Setting, Naming, holds, named_in}
use Rattle.wy_sound_terms.specs.wy_vc_spec.Clauses.{in_type}
use Rattle.wy_sound_terms.specs.wy_vc_spec.Calls.{Walked, call_walk}
use Rattle.wy_sound_terms.specs.wy_vc_spec.Walks.{Program, walk}
use Rattle.wy_sound_terms.proofs.formed_lemmas.MakingLemmas.{IsOf, AllOf}
use Rattle.wy_sound_terms.proofs.formed_lemmas.ValueLemmas.{IsDatum, no_datum, datum, AreData, no_data, next, SaysFormulas, holds_sorted, named_sorted}
use Rattle.wy_sound_walks.specs.expressions.Names.{Agree, Means, AllMean, Known, Stand}
use Rattle.wy_sound_walks.specs.expressions.Truth.{AreTrueBy, Good}
use Rattle.wy_sound_walks.specs.expressions.Types.{is_in}
use Rattle.wy_sound_walks.specs.expressions.Written.{IsWritten}
use Rattle.wy_sound_walks.specs.expressions.Suits.{Suits}
use Rattle.wy_sound_walks.specs.expressions.Sound.{Ok}
use Rattle.wy_sound_walks.specs.expressions.Laws.{NamesTold, TypesAreTold, IsValTerm, AreValTerms, takes_nothing, kinds_of, ExpressionsAreSound}
use Rattle.wy_sound_walks.proofs.expressions_lemmas.NameLemmas.{agree_refl, means_later, right_later}
use Rattle.wy_sound_walks.proofs.expressions_lemmas.ValueGrows.{named_grows}
use Rattle.wy_sound_walks.proofs.expressions_lemmas.HoldsLemmas.{type_told}
use Rattle.wy_sound_walks.proofs.expressions_lemmas.CallGrows.{in_type_grows, call_grows, call_sorted}
use Rattle.wy_sound_walks.proofs.expressions_lemmas.GenericWalks.{walk_is}
use Rattle.wy_sound_walks.proofs.expressions_lemmas.GrowLemmas.{walk_grows}
use Rattle.wy_sound_walks.proofs.expressions_lemmas.ExpressionLemmas.{expr}

-- the formula of a type, with any formulas of names
pub tells_by : (members : ℕ → Datum → Bool) (named : Naming) → SaysFormulas named → ((number n : ℕ) (v : Term) → n ≤ (named number v n).count) → NamesTold members named
    → (t : Ty) (n : ℕ) (v : Term) (names : Names) (d : Datum) → IsWritten t → names.is_member ≡ members → IsOf val_sort v → Means n names v d → (u : Names) → Agree n names u → (sense u (holds named t v n).term).truth ≡ is_in members t d
tells_by members named formulas grows told t n v names d wr right is h u a =
    type_told members named formulas grows (λ number m x w e r i g. told number m x w e r i.has g) t n v u d wr (right_later members n names u right a) is (means_later n n names u v d (same n) a h) where
      same : (k : ℕ) → k ≤ k
      same k = omega arith

pub types_told : TypesAreTold
types_told s members told t n v names d wr right is h =
    tells_by members (named_in s) (named_sorted s) (λ number m u. named_grows s (length s.types) number m u) told t n v names d wr right (record { has = is }) h names (agree_refl n names)

pub datum_if : (v : Option Term) → IsValTerm v → IsDatum v
datum_if None h = no_datum
datum_if (Some t) h = datum (record { has = h })

pub are_data : (vars : Vars) → AreValTerms vars → AreData vars
are_data [] h = no_data
are_data (v ∷ vs) h = next (datum_if v h.0) (are_data vs h.1)

-- the walk of an expression makes names from its count on
pub expr_grows : {N : Type 0} (s : Setting N) (routines : List (Routine N)) (words : List (List ℕ)) (e : Expr N) (vars : Vars) (hyps : List Term) (n : ℕ) → n ≤ (walk s (call_walk s routines) words e vars hyps n).count
expr_grows s routines words e vars hyps n =
    subst (λ (r : Walked). n ≤ r.count) (sym (walk_is s (call_walk s routines) words e vars hyps n))
    (walk_grows s (in_type s) (call_walk s routines) words (λ t v i. in_type_grows s t v i) (λ f at ts hs i. call_grows s routines f at ts hs i) e vars hyps n)

module _ {N : Type 0} (w : sem.Setting N) (paid : Bool) (s : Setting N) (routines : List (Routine N)) (members : ℕ → Datum → Bool) (told : NamesTold members (named_in s)) (words : List (List ℕ)) where
  -- an expression that calls nothing
  pub quiet_right : (e : Expr N) (vars : Vars) (hyps : List Term) (n : ℕ) (names : Names) (seen : ℕ → Bool) (st : sem.Store) (m : Meter) → Suits (kinds_of w paid s members) true seen e st → names.is_member ≡ members → AreData vars → Stand n names vars seen st → Known n names hyps
      → Good (AreTrueBy members (walk s (call_walk s routines) words e vars hyps n).owed) (sem.eval w paid e st m)
      (Ok true n names (walk s (call_walk s routines) words e vars hyps n).count (walk s (call_walk s routines) words e vars hyps n).hyps (walk s (call_walk s routines) words e vars hyps n).term)
  quiet_right e vars hyps n names seen st m su right da sd h =
      subst (λ (r : Walked). Good (AreTrueBy members r.owed) (sem.eval w paid e st m) (Ok true n names r.count r.hyps r.term))
      (sym (walk_is s (call_walk s routines) words e vars hyps n))
      (expr (kinds_of w paid s members) s.place s.types members (in_type s) (call_walk s routines)
      (λ t v i. in_type_grows s t v i)
      (λ t i v is. holds_sorted (named_sorted s) t i is)
      (tells_by members (named_in s) (named_sorted s) (λ number i u. named_grows s (length s.types) number i u) told)
      (λ f at ts hs i. call_grows s routines f at ts hs i)
      (λ f at i ts hs all. call_sorted s routines f at ts hs i)
      (λ f from at i ts hs ns vs l takes r all means kn. absurd takes)
      words e true vars hyps n names seen st m su right da sd h)

pub expressions_sound : ExpressionsAreSound
expressions_sound w paid p members told words e vars hyps n names seen s m su right da sd h =
    quiet_right w paid p.setting p.routines members told words e vars hyps n names seen s m su right (are_data vars da) sd h
