-- Parameters stand for their arguments at the entry, and their types are known.
use Rattle.std.proofs.Common.{◌≡◌, ℕ, zero, suc, ◌≤◌, ◌==◌, ◌||◌, List, [], ◌∷◌, Bool, true, false, Option, Some, None, pos, refl, sym, ap, ◌∙◌, subst, arith}
use Rattle.wy_lemmas.proofs.Choices.{eqb_self as eqb_refl, apart_of as unlike, false_true as no_mark}
use Rattle.wy_value.specs.Datum.{Datum, Null}
use Rattle.wy_core.specs.CoreTree.{Param}
use Rattle.wy_term.specs.Term.{Term}
use Rattle.wy_term.specs.Sorts.{val_sort}
use Rattle.wy_term.specs.Meaning.{Names, with_datum}
use Rattle.wy_term_subst.specs.kept_sorts.SortKept.{HasSort}
use Rattle.wy_sem.specs.Expressions as sem
use Rattle.wy_sem.specs.Expressions.{Store, slot}
use Rattle.wy_sem.specs.TypeTests.{unset}
use Rattle.wy_sem.specs.Evaluation.{bound, entry_of}
use Rattle.wy_sound_statements.specs.wy_vc_spec.Numbered.{Node}
use Rattle.wy_sound_statements.specs.wy_vc_spec.Making.{val_name}
use Rattle.wy_sound_statements.specs.wy_vc_spec.Variables.{Vars, slot_at, put}
use Rattle.wy_sound_statements.specs.wy_vc_spec.Values.{Setting, word_at, variable, named_in}
use Rattle.wy_sound_statements.specs.wy_vc_spec.Spots.{Spot, spot, is_set, mark, assign, with_hyps}
use Rattle.wy_sound_statements.specs.wy_vc_spec.Clauses.{in_type, assume_in_type}
use Rattle.wy_sound_statements.specs.wy_vc_spec.Statements.{Renewed}
use Rattle.wy_sound_statements.specs.wy_vc_spec.Programs.{name_params, assume_params, enter}
use Rattle.wy_vc_laws.proofs.wy_sound_terms_proofs.formed_lemmas.MakingLemmas.{IsOf, val_name_sorted}
use Rattle.wy_vc_laws.proofs.wy_sound_terms_proofs.formed_lemmas.ValueLemmas.{variable_sorted}
use Rattle.wy_sound_statements.specs.wy_sound_walks.expressions.Names.{Agree, Known, Means, Stand, also}
use Rattle.wy_sound_statements.specs.wy_sound_walks.expressions.Types.{is_in}
use Rattle.wy_sound_statements.specs.wy_sound_walks.expressions.Written.{IsWritten}
use Rattle.wy_sound_statements.specs.wy_sound_walks.expressions.Laws.{NamesTold, AreValTerms}
use Rattle.wy_sound_statements.proofs.wy_sound_walks_proofs.expressions_lemmas.NameLemmas.{agree_refl, agree_trans, agree_less, right_later, means_later, stand_later, stand_put}
use Rattle.wy_sound_statements.proofs.wy_sound_walks_proofs.expressions_lemmas.AssumeLemmas.{assumed_true}
use Rattle.wy_sound_statements.proofs.wy_sound_walks_proofs.expressions_lemmas.CallGrows.{in_type_grows}
use Rattle.wy_sound_statements.proofs.wy_sound_walks_proofs.expressions_lemmas.LawLemmas.{types_told, are_data}
use Rattle.wy_sound_statements.specs.wy_sound_walks.joins.Points.{Depends, IsPoint}
use Rattle.wy_sound_statements.proofs.wy_sound_walks_proofs.joins_lemmas.DatumLemmas.{agree_datum, datum_at}
use Rattle.wy_sound_statements.specs.calls.CallLaws.{with_params, nothing_seen}
use Rattle.wy_sound_types.specs.sound_routines.Entries.{ParamsIn, ArgumentsLast, EntriesStand}

none_is : (t : Term) → ◌≡◌ {A = Option Term} None (Some t) → ⊥
none_is t e = absurd cc

same_term : (t u : Term) → ◌≡◌ {A = Option Term} (Some t) (Some u) → t ≡ u
same_term t u e = cc

-- another variable was marked before
mark_other : (set : List Bool) (x y : ℕ) → (x ≡ y → ⊥) → is_set (mark set x true) y ≡ true → is_set set y ≡ true
mark_other [] zero zero h e = absurd (h refl)
mark_other [] zero (suc y) h e = no_mark e
mark_other [] (suc x) zero h e = no_mark e
mark_other [] (suc x) (suc y) h e = no_mark (mark_other [] x y (λ q. h (ap suc q)) e)
mark_other (b ∷ bs) zero zero h e = absurd (h refl)
mark_other (b ∷ bs) zero (suc y) h e = e
mark_other (b ∷ bs) (suc x) zero h e = e
mark_other (b ∷ bs) (suc x) (suc y) h e = mark_other bs x y (λ q. h (ap suc q)) e

-- ---- names of parameters

put_terms : (vars : Vars) (x : ℕ) (t : Term) → AreValTerms vars → HasSort t val_sort → AreValTerms (put vars x t)
put_terms [] zero t h is = (is, tt)
put_terms [] (suc x) t h is = (tt, put_terms [] x t tt is)
put_terms (v ∷ vs) zero t h is = (is, h.1)
put_terms (v ∷ vs) (suc x) t h is = (h.0, put_terms vs x t h.1 is)

-- each term of a variable, behind one that has another
put_each : (P : Term → Type 0) (vars : Vars) (x : ℕ) (t : Term) → P t → ((y : ℕ) (u : Term) → slot_at vars y ≡ Some u → P u) → (y : ℕ) (u : Term) → slot_at (put vars x t) y ≡ Some u → P u
put_each P [] zero t h g zero u e = subst P (same_term t u e) h
put_each P [] zero t h g (suc y) u e = absurd (none_is u e)
put_each P [] (suc x) t h g zero u e = absurd (none_is u e)
put_each P [] (suc x) t h g (suc y) u e = put_each P [] x t h (λ z w q. absurd (none_is w q)) y u e
put_each P (v ∷ vs) zero t h g zero u e = subst P (same_term t u e) h
put_each P (v ∷ vs) zero t h g (suc y) u e = g (suc y) u e
put_each P (v ∷ vs) (suc x) t h g zero u e = g zero u e
put_each P (v ∷ vs) (suc x) t h g (suc y) u e = put_each P vs x t h (λ z w q. g (suc z) w q) y u e

-- a variable that is marked has a term
abbrev HasTerm : Vars → ℕ → Type 0
HasTerm vars x = (t : Term) × (slot_at vars x ≡ Some t)

put_has : (vars : Vars) (set : List Bool) (x : ℕ) (t : Term) → ((y : ℕ) → is_set set y ≡ true → HasTerm vars y) → (y : ℕ) → is_set (mark set x true) y ≡ true → HasTerm (put vars x t) y
put_has [] [] zero t h zero e = (t, refl)
put_has [] [] zero t h (suc y) e = no_mark e
put_has [] [] (suc x) t h zero e = no_mark e
put_has [] [] (suc x) t h (suc y) e = put_has [] [] x t (λ z q. no_mark q) y e
put_has [] (b ∷ bs) zero t h zero e = (t, refl)
put_has [] (b ∷ bs) zero t h (suc y) e = absurd (let g = h (suc y) e in none_is g.0 g.1)
put_has [] (b ∷ bs) (suc x) t h zero e = absurd (let g = h zero e in none_is g.0 g.1)
put_has [] (b ∷ bs) (suc x) t h (suc y) e = put_has [] bs x t (λ z q. let g = h (suc z) q in absurd (none_is g.0 g.1)) y e
put_has (v ∷ vs) [] zero t h zero e = (t, refl)
put_has (v ∷ vs) [] zero t h (suc y) e = no_mark e
put_has (v ∷ vs) [] (suc x) t h zero e = no_mark e
put_has (v ∷ vs) [] (suc x) t h (suc y) e = put_has vs [] x t (λ z q. no_mark q) y e
put_has (v ∷ vs) (b ∷ bs) zero t h zero e = (t, refl)
put_has (v ∷ vs) (b ∷ bs) zero t h (suc y) e = h (suc y) e
put_has (v ∷ vs) (b ∷ bs) (suc x) t h zero e = h zero e
put_has (v ∷ vs) (b ∷ bs) (suc x) t h (suc y) e = put_has vs bs x t (λ z q. h (suc z) q) y e

-- one more variable is marked
mark_seen : (set : List Bool) (seen : ℕ → Bool) (x : ℕ) → ((y : ℕ) → is_set set y ≡ true → seen y ≡ true) → (y : ℕ) → is_set (mark set x true) y ≡ true → also x seen y ≡ true
mark_seen set seen x h y e = by (x == y) refl where
  by : (b : Bool) → (x == y) ≡ b → (b || seen y) ≡ true
  by true q = refl
  by false q = h y (mark_other set x y (unlike x y q) e)

-- names at which the parameters stand for these arguments, behind names at which others stand
record Named (r : Renewed) (n : ℕ) (before : Names) (seen : ℕ → Bool) (st : Store) : Type 0 where
  names : Names
  agree : Agree n before names
  grows : n ≤ r.count
  terms : AreValTerms r.spot.vars
  stand : Stand r.count names r.spot.vars seen st
  marked : (x : ℕ) → is_set r.spot.set x ≡ true → seen x ≡ true
  point : IsPoint r.count r.spot

depends_later : (n m : ℕ) (t : Term) → n ≤ m → Depends n t → Depends m t
depends_later n m t le h v w a = h v w (agree_less n m v w le a)

-- the first parameter takes a name, for its argument
one_named : (word : List ℕ) (x n : ℕ) (p : Spot) (names : Names) (seen : ℕ → Bool) (st : Store) (d : Datum) → AreValTerms p.vars → Stand n names p.vars seen st → ((y : ℕ) → is_set p.set y ≡ true → seen y ≡ true) → IsPoint n p
    → Stand (suc n) (with_datum names word n d) (assign x (val_name word n) p).vars (also x seen) (sem.put st x (Some d)) × IsPoint (suc n) (assign x (val_name word n) p)
one_named word x n p names seen st d terms stand marked point =
    let later = with_datum names word n d in
    let there : Agree n names later = agree_datum n names word n d (omega arith) in
    let name_is : Means (suc n) later (val_name word n) d = λ u a. a.datum_of word n (omega arith) ∙ datum_at names word n d in
    let own : Depends (suc n) (val_name word n) = λ v w a. a.datum_of word n (omega arith) in (
      stand_put (suc n) later p.vars seen st x (val_name word n) d (stand_later n (suc n) names later p.vars seen st (omega arith) there stand) name_is,
      record {
        depends = put_each (Depends (suc n)) p.vars x (val_name word n) own (λ y t e. depends_later n (suc n) t (omega arith) (point.depends y t e));
        marked = put_has p.vars p.set x (val_name word n) point.marked;
      },
    )

named : (words : List (List ℕ)) (ps : List Param) (vs : List Datum) → ArgumentsLast ps vs → (p : Spot) (n : ℕ) (names : Names) (seen : ℕ → Bool) (st : Store) → AreValTerms p.vars → Stand n names p.vars seen st → ((x : ℕ) → is_set p.set x ≡ true → seen x ≡ true) → IsPoint n p
    → Named (name_params words ps p n) n names (with_params ps seen) (bound ps vs st)
named words [] vs long p n names seen st terms stand marked point = record { names = names; agree = agree_refl n names; grows = omega arith; terms = terms; stand = stand; marked = marked; point = point }
named words (x ∷ xs) [] long p n names seen st terms stand marked point = absurd long
named words (x ∷ xs) (d ∷ vs) long p n names seen st terms stand marked point =
    let word = word_at words x.variable in
    let t = val_name word n in
    let one = one_named word x.variable n p names seen st d terms stand marked point in
    let r = named words xs vs long (assign x.variable t p) (suc n) (with_datum names word n d) (also x.variable seen) (sem.put st x.variable (Some d)) (put_terms p.vars x.variable t terms (val_name_sorted word n).has) one.0
    (mark_seen p.set seen x.variable marked) one.1 in
    let g = r.grows in
    record {
      names = r.names;
      agree = agree_trans n (suc n) names (with_datum names word n d) r.names (omega arith) (agree_datum n names word n d (omega arith)) r.agree;
      grows = omega (arith, g);
      terms = r.terms;
      stand = r.stand;
      marked = r.marked;
      point = r.point;
    }

-- the hypotheses before stay
named_hyps : (words : List (List ℕ)) (ps : List Param) (p : Spot) (n : ℕ) → (name_params words ps p n).spot.hyps ≡ p.hyps
named_hyps words [] p n = refl
named_hyps words (x ∷ xs) p n = named_hyps words xs (assign x.variable (val_name (word_at words x.variable) n) p) (suc n)

-- nothing is assumed yet
no_hyps : (words : List (List ℕ)) (ps : List Param) (n : ℕ) (names : Names) → Known (name_params words ps (spot [] [] []) n).count names (name_params words ps (spot [] [] []) n).spot.hyps
no_hyps words ps n names = subst (Known (name_params words ps (spot [] [] []) n).count names) (sym (named_hyps words ps (spot [] [] []) n)) (λ u a. tt)

-- ---- types of parameters

-- each parameter may be used
abbrev AllSeen : List Param → (ℕ → Bool) → Type 0
AllSeen [] seen = Unit {0}
AllSeen (p ∷ ps) seen = (seen p.variable ≡ true) × AllSeen ps seen

-- the hypotheses behind the types of parameters, at the point before them
record Assumed (s : Setting Node) (ps : List Param) (p : Spot) (n : ℕ) (names : Names) : Type 0 where
  known : Known (assume_params s ps p n).count names (assume_params s ps p n).spot.hyps
  vars : (assume_params s ps p n).spot.vars ≡ p.vars
  set : (assume_params s ps p n).spot.set ≡ p.set
  grows : n ≤ (assume_params s ps p n).count

module _ (s : Setting Node) (members : ℕ → Datum → Bool) (told : NamesTold members (named_in s)) (names : Names) (right : names.is_member ≡ members) (st : Store) where
  one_known : (x : Param) (p : Spot) (n : ℕ) (d : Datum) → IsOf val_sort (variable p.vars x.variable) → Means n names (variable p.vars x.variable) d → IsWritten x.ty → is_in members x.ty d ≡ true → Known n names p.hyps
      → Known (assume_in_type s x.ty (variable p.vars x.variable) p.hyps n).count names (assume_in_type s x.ty (variable p.vars x.variable) p.hyps n).hyps
  one_known x p n d is means wr inside h u a =
      let v = variable p.vars x.variable in
      let f = in_type s x.ty v n in
      let b = agree_less n f.count names u (in_type_grows s x.ty v n) a in
      assumed_true u p.hyps f.term (h u b) (types_told s members told x.ty n v u d wr (right_later members n names u right b) is.has (means_later n n names u v d (omega arith) b means) ∙ inside)

  assumed : (ps : List Param) (seen : ℕ → Bool) (p : Spot) (n : ℕ) → ParamsIn members ps st → AllSeen ps seen → AreValTerms p.vars → Stand n names p.vars seen st → Known n names p.hyps → Assumed s ps p n names
  assumed [] seen p n inside all terms stand h = record { known = h; vars = refl; set = refl; grows = omega arith }
  assumed (x ∷ xs) seen p n inside all terms stand h =
      let v = variable p.vars x.variable in
      let f = assume_in_type s x.ty v p.hyps n in
      let g = in_type_grows s x.ty v n in
      let value = inside.0.1 in
      let one = one_known x p n value.0 (variable_sorted (are_data p.vars terms) x.variable) (stand x.variable value.0 all.0 value.1) inside.0.0 value.2 h in
      let r = assumed xs seen (with_hyps f.hyps p) f.count inside.1 all.1 terms (stand_later n f.count names names p.vars seen st g (agree_refl n names) stand) one in
      let k = r.grows in
      record { known = r.known; vars = r.vars; set = r.set; grows = omega (arith, g, k) }

-- ---- the entry

also_self : (x : ℕ) (seen : ℕ → Bool) → also x seen x ≡ true
also_self x seen = rw (eqb_refl x) refl

also_more : (x : ℕ) (seen : ℕ → Bool) (y : ℕ) → seen y ≡ true → also x seen y ≡ true
also_more x seen y h = by (x == y) where
  by : (b : Bool) → (b || seen y) ≡ true
  by true = refl
  by false = h

still_seen : (ps : List Param) (seen : ℕ → Bool) (x : ℕ) → seen x ≡ true → with_params ps seen x ≡ true
still_seen [] seen x h = h
still_seen (p ∷ ps) seen x h = still_seen ps (also p.variable seen) x (also_more p.variable seen x h)

all_seen : (ps : List Param) (seen : ℕ → Bool) → AllSeen ps (with_params ps seen)
all_seen [] seen = tt
all_seen (p ∷ ps) seen = (still_seen ps (also p.variable seen) p.variable (also_self p.variable seen), all_seen ps (also p.variable seen))

pub entries_stand : EntriesStand
entries_stand s members told r vs long inside =
    let first : Names = record { datum_of = λ w n. Null; number_of = λ w n. pos 0; is_member = members } in
    let start = spot [] [] [] in
    let here = named r.variables r.params vs long start 0 first nothing_seen (unset r.variables) tt (λ x d see e. absurd (no_mark see)) (λ x e. no_mark e) (record { depends = λ x t e. absurd (none_is t e); marked = λ x e. no_mark e }) in
    let point = name_params r.variables r.params start 0 in
    let right : here.names.is_member ≡ members = here.agree.is_member in
    let types = assumed s members told here.names right (entry_of r vs) r.params (with_params r.params nothing_seen) point.spot point.count inside (all_seen r.params nothing_seen) here.terms here.stand (no_hyps r.variables r.params 0 here.names) in
    let g = types.grows in
    record {
      names = here.names;
      right = right;
      terms = subst AreValTerms (sym types.vars) here.terms;
      stand = subst (λ (vars : Vars). Stand (enter s r).count here.names vars (with_params r.params nothing_seen) (entry_of r vs)) (sym types.vars)
          (stand_later point.count (enter s r).count here.names here.names point.spot.vars (with_params r.params nothing_seen) (entry_of r vs) g (agree_refl point.count here.names) here.stand);
      marked = λ x e. here.marked x (subst (λ (set : List Bool). is_set set x ≡ true) types.set e);
      known = types.known;
      point = record {
        depends = λ x t e. depends_later point.count (enter s r).count t g (here.point.depends x t (subst (λ (vars : Vars). slot_at vars x ≡ Some t) types.vars e));
        marked = λ x e.
            let has = here.point.marked x (subst (λ (set : List Bool). is_set set x ≡ true) types.set e) in
            (has.0, subst (λ (vars : Vars). slot_at vars x ≡ Some has.0) (sym types.vars) has.1);
      };
    }
