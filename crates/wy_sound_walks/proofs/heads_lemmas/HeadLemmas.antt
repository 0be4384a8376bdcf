-- A store at a turn of a loop is at the loop's head.
use Rattle.std.proofs.Common.{◌≡◌, ◌⊎◌, inl, inr, ℕ, zero, suc, ◌+◌, ◌<◌, ◌≤◌, List, [], ◌∷◌, length, Bool, true, false, ◌&&◌, if◌then◌else◌, Option, Some, None, refl, sym, ap, ◌∙◌, subst, arith}
use Rattle.std.proofs.lemmas.Bool.{cases_lt, cases_eq}
use Rattle.wy_lemmas.proofs.Choices.{both_parts as and_true}
use Rattle.wy_value.specs.Datum.{Datum, Null}
use Rattle.wy_core.specs.CoreTree.{Stmts}
use Rattle.wy_term.specs.Term.{Term}
use Rattle.wy_term.specs.Meaning.{Names, with_datum, sense}
use Rattle.wy_sound_terms.specs.wy_sem.Expressions.{Store, slot}
use Rattle.wy_sound_terms.specs.wy_sem.Statements.{type_at}
use Rattle.wy_sound_terms.specs.wy_vc_spec.Making.{val_name}
use Rattle.wy_sound_terms.specs.wy_vc_spec.Numbered.{Node}
use Rattle.wy_sound_terms.specs.wy_vc_spec.Variables.{Vars, slot_at, put}
use Rattle.wy_sound_terms.specs.wy_vc_spec.Values.{Valued, word_at, or_null, variable, named_in}
use Rattle.wy_sound_terms.specs.wy_vc_spec.Owed.{assume}
use Rattle.wy_sound_terms.specs.wy_vc_spec.Clauses.{in_type, assume_in_type}
use Rattle.wy_sound_terms.specs.wy_vc_spec.Spots.{Spot, is_set, with_hyps}
use Rattle.wy_sound_terms.specs.wy_vc_spec.Assigned.{assigns_in, bound_in}
use Rattle.wy_sound_terms.specs.wy_vc_spec.Statements.{Body, words, Renewed, renewed, renew_vars, renew_types, renew}
use Rattle.wy_sound_terms.proofs.formed_lemmas.MakingLemmas.{IsOf, val_name_sorted}
use Rattle.wy_sound_terms.proofs.formed_lemmas.ValueLemmas.{AreData, put_data, variable_sorted}
use Rattle.wy_sound_walks.specs.expressions.Names.{Agree, Known, Means, Stand}
use Rattle.wy_sound_walks.specs.expressions.Types.{is_in}
use Rattle.wy_sound_walks.specs.expressions.Written.{IsWritten}
use Rattle.wy_sound_walks.specs.expressions.Laws.{NamesTold, AreValTerms}
use Rattle.wy_sound_walks.proofs.expressions_lemmas.NameLemmas.{agree_refl, agree_trans, agree_less, means_later, known_later, stand_later, right_later}
use Rattle.wy_sound_walks.proofs.expressions_lemmas.AssumeLemmas.{assumed_true}
use Rattle.wy_sound_walks.proofs.expressions_lemmas.CallGrows.{in_type_grows}
use Rattle.wy_sound_walks.proofs.expressions_lemmas.LawLemmas.{types_told, are_data}
use Rattle.wy_sound_walks.specs.joins.Points.{At}
use Rattle.wy_sound_walks.proofs.joins_lemmas.DatumLemmas.{agree_datum, datum_at}
use Rattle.wy_sound_walks.specs.heads.Heads.{IsTurn, HeadsAreSound}
use Rattle.wy_sound_walks.proofs.heads_lemmas.AssignedLemmas.{assigned_in_below, put_same, put_other}

-- the value of a variable, or null
abbrev value_or : Option Datum → Datum
value_or None = Null
value_or (Some d) = d

-- ---- new names

-- the variables below a number, and those that aren't assigned, stand for the store
abbrev StandUpTo : ℕ → ℕ → Names → Vars → (ℕ → Bool) → (ℕ → Bool) → Store → Type 0
StandUpTo x n v vars seen stays s = (y : ℕ) (d : Datum) → seen y ≡ true → slot s y ≡ Some d → (y < x) ⊎ (stays y ≡ false) → Means n v (variable vars y) d

record Named (body : Stmts Node) (x n : ℕ) (v : Names) (p : Spot) (r : Renewed) (s : Store) : Type 0 where
  later : Names
  agree : Agree n v later
  stand : StandUpTo x r.count later r.spot.vars (is_set p.set) (λ y. assigns_in y body) s
  hyps : r.spot.hyps ≡ p.hyps
  set : r.spot.set ≡ p.set
  are : AreData r.spot.vars
  grows : n ≤ r.count

-- another variable than the one that gets a new name
old_means : (x n : ℕ) (word : List ℕ) (v : Names) (vars : Vars) (c d : Datum) (y : ℕ) → (x ≡ y → ⊥) → Means n v (variable vars y) d → Means (suc n) (with_datum v word n c) (variable (put vars x (val_name word n)) y) d
old_means x n word v vars c d y apart h u a =
    ap (λ (o : Option Term). (sense u (or_null o)).datum) (put_other vars x (val_name word n) y apart)
    ∙ h u (agree_trans n (suc n) v (with_datum v word n c) u (omega arith) (agree_datum n v word n c (omega arith)) a)

-- that variable
new_means : (x n : ℕ) (word : List ℕ) (v : Names) (vars : Vars) (c : Datum) (y : ℕ) → x ≡ y → Means (suc n) (with_datum v word n c) (variable (put vars x (val_name word n)) y) c
new_means x n word v vars c y q u a =
    ap (λ (z : ℕ). (sense u (variable (put vars x (val_name word n)) z)).datum) (sym q)
    ∙ ap (λ (o : Option Term). (sense u (or_null o)).datum) (put_same vars x (val_name word n))
    ∙ a.datum_of word n (omega arith) ∙ datum_at v word n c

narrow : (x y : ℕ) (S : Type 0) → (x ≡ y → ⊥) → (y < suc x) ⊎ S → (y < x) ⊎ S
narrow x y S apart (inl lt) = inl (omega (arith, lt, apart))
narrow x y S apart (inr st) = inr st

-- one variable gets a new name
named_one : (x n : ℕ) (word : List ℕ) (v : Names) (vars : Vars) (seen stays : ℕ → Bool) (s : Store) → StandUpTo x n v vars seen stays s
    → StandUpTo (suc x) (suc n) (with_datum v word n (value_or (slot s x))) (put vars x (val_name word n)) seen stays s
named_one x n word v vars seen stays s h y d see e place = by (cases_eq x y) where
  by : (x ≡ y) ⊎ (x ≡ y → ⊥) → Means (suc n) (with_datum v word n (value_or (slot s x))) (variable (put vars x (val_name word n)) y) d
  by (inl q) =
      subst (λ (c : Datum). Means (suc n) (with_datum v word n (value_or (slot s x))) (variable (put vars x (val_name word n)) y) c) (ap value_or (ap (λ (z : ℕ). slot s z) q ∙ e))
      (new_means x n word v vars (value_or (slot s x)) y q)
  by (inr apart) = old_means x n word v vars (value_or (slot s x)) d y apart (h y d see e (narrow x y (stays y ≡ false) apart place))

-- one variable stays
kept_one : (x n : ℕ) (v : Names) (vars : Vars) (seen stays : ℕ → Bool) (s : Store) → stays x ≡ false → StandUpTo x n v vars seen stays s → StandUpTo (suc x) n v vars seen stays s
kept_one x n v vars seen stays s st h y d see e (inr other) = h y d see e (inr other)
kept_one x n v vars seen stays s st h y d see e (inl lt) = by (cases_lt y x) where
  by : (y < x) ⊎ (x ≤ y) → Means n v (variable vars y) d
  by (inl less) = h y d see e (inl less)
  by (inr le) = let q : x ≡ y = omega (arith, lt, le) in h y d see e (inr (subst (λ (z : ℕ). stays z ≡ false) q st))

all_named : (w : List (List ℕ)) (body : Stmts Node) (x j : ℕ) (p : Spot) (n : ℕ) (v : Names) (s : Store) → AreData p.vars → StandUpTo x n v p.vars (is_set p.set) (λ y. assigns_in y body) s → Named body (x + j) n v p (renew_vars w body x j p n) s
all_named w body x zero p n v s da h = record {
  later = v;
  agree = agree_refl n v;
  stand = let z : x ≡ x + zero = omega arith in subst (λ (i : ℕ). StandUpTo i n v p.vars (is_set p.set) (λ y. assigns_in y body) s) z h;
  hyps = refl;
  set = refl;
  are = da;
  grows = omega arith;
}
all_named w body x (suc j) p n v s da h = by (assigns_in x body) refl (all_named w body (suc x) j (record p { vars = put p.vars x (val_name (word_at w x) n) }) (suc n) (with_datum v (word_at w x) n (value_or (slot s x))) s (put_data x da (val_name_sorted (word_at w x) n)) (named_one x n (word_at w x) v p.vars (is_set p.set) (λ y. assigns_in y body) s h)) (λ e. all_named w body (suc x) j p n v s da (kept_one x n v p.vars (is_set p.set) (λ y. assigns_in y body) s e h)) where
  z : suc x + j ≡ x + suc j
  z = omega arith

  by : (b : Bool) → assigns_in x body ≡ b
      → Named body (suc x + j) (suc n) (with_datum v (word_at w x) n (value_or (slot s x))) (record p { vars = put p.vars x (val_name (word_at w x) n) }) (renew_vars w body (suc x) j (record p { vars = put p.vars x (val_name (word_at w x) n) }) (suc n)) s
      → (assigns_in x body ≡ false → Named body (suc x + j) n v p (renew_vars w body (suc x) j p n) s)
      → Named body (x + suc j) n v p (if b then renew_vars w body (suc x) j (record p { vars = put p.vars x (val_name (word_at w x) n) }) (suc n) else renew_vars w body (suc x) j p n) s
  by false e r k = subst (λ (i : ℕ). Named body i n v p (renew_vars w body (suc x) j p n) s) z (k e)
  by true e r k = subst (λ (i : ℕ). Named body i n v p (renew_vars w body (suc x) j (record p { vars = put p.vars x (val_name (word_at w x) n) }) (suc n)) s) z (record {
    later = r.later;
    agree = agree_trans n (suc n) v (with_datum v (word_at w x) n (value_or (slot s x))) r.later (omega arith) (agree_datum n v (word_at w x) n (value_or (slot s x)) (omega arith)) r.agree;
    stand = r.stand;
    hyps = r.hyps;
    set = r.set;
    are = r.are;
    grows = let g = r.grows in omega (arith, g);
  })

-- ---- declared types

record Typed (m : ℕ) (v : Names) (p : Spot) (r : Renewed) : Type 0 where
  known : Known r.count v r.spot.hyps
  vars : r.spot.vars ≡ p.vars
  set : r.spot.set ≡ p.set
  grows : m ≤ r.count

module _ (b : Body Node) (members : ℕ → Datum → Bool) (told : NamesTold members (named_in b.program.setting)) (written : (x : ℕ) → IsWritten (type_at b.types x)) (body : Stmts Node) (s : Store) where
  all_typed : (x j : ℕ) (p : Spot) (n : ℕ) (v : Names) → v.is_member ≡ members → AreData p.vars → Known n v p.hyps → Stand n v p.vars (is_set p.set) s
      → ((y : ℕ) → is_set p.set y ≡ true → (d : Datum) × (slot s y ≡ Some d)) → ((y : ℕ) (d : Datum) → is_set p.set y ≡ true → slot s y ≡ Some d → is_in members (type_at b.types y) d ≡ true) → Typed n v p (renew_types b body x j p n)
  all_typed x zero p n v right da h sd valued typed = record { known = h; vars = refl; set = refl; grows = omega arith }
  all_typed x (suc j) p n v right da h sd valued typed =
      by (assigns_in x body && is_set p.set x) refl
      (λ known. all_typed (suc x) j (with_hyps (assume p.hyps f.term) p) f.count v right da known (stand_later n f.count v v p.vars (is_set p.set) s g (agree_refl n v) sd) valued typed)
      (all_typed (suc x) j p n v right da h sd valued typed)
    where
      f : Valued
      f = in_type b.program.setting (type_at b.types x) (variable p.vars x) n

      g : n ≤ f.count
      g = in_type_grows b.program.setting (type_at b.types x) (variable p.vars x) n

      by : (c : Bool) → (assigns_in x body && is_set p.set x) ≡ c → (Known f.count v (assume p.hyps f.term) → Typed f.count v (with_hyps (assume p.hyps f.term) p) (renew_types b body (suc x) j (with_hyps (assume p.hyps f.term) p) f.count)) → Typed n v p (renew_types b body (suc x) j p n)
          → Typed n v p (if c then renew_types b body (suc x) j (with_hyps (assume p.hyps f.term) p) f.count else renew_types b body (suc x) j p n)
      by false e k r = r
      by true e k r =
          let on = (and_true (assigns_in x body) (is_set p.set x) e).1 in
          let d = valued x on in
          let one = k (λ u a. assumed_true u p.hyps f.term (h u (agree_less n f.count v u g a))
          (types_told b.program.setting members told (type_at b.types x) n (variable p.vars x) u d.0 (written x) (right_later members n v u right (agree_less n f.count v u g a)) (variable_sorted da x).has
          (means_later n n v u (variable p.vars x) d.0 (omega arith) (agree_less n f.count v u g a) (sd x d.0 on d.1)) ∙ typed x d.0 on d.1)) in
          record { known = one.known; vars = one.vars; set = one.set; grows = let i = one.grows in omega (arith, i, g) }

-- ---- the head

pub heads_sound : HeadsAreSound
heads_sound b members told written body p n m names first s le right da here turn =
    let v = here.later in
    let start : StandUpTo 0 m v p.vars (is_set p.set) (λ y. assigns_in y body) s = λ y d see e w. from_entry y d see e w in
    let r = all_named (words b) body 0 (bound_in body) p m v s (are_data p.vars da) start in
    let q = renew_vars (words b) body 0 (bound_in body) p m in
    let agree = agree_trans n m names v r.later le here.agree r.agree in
    let known : Known q.count r.later q.spot.hyps = subst (λ (hs : List Term). Known q.count r.later hs) (sym r.hyps) (known_later m q.count v r.later p.hyps r.grows r.agree here.known) in
    let all_stand : Stand q.count r.later q.spot.vars (is_set p.set) s = λ y d see e. r.stand y d see e (up_to y) in
    let stand : Stand q.count r.later q.spot.vars (is_set q.spot.set) s = subst (λ (bs : List Bool). Stand q.count r.later q.spot.vars (is_set bs) s) (sym r.set) all_stand in
    let t = all_typed b members told written body s 0 (bound_in body) q.spot q.count r.later (right_later members n names r.later right agree) r.are known stand
    (λ y on. turn.valued y (marks r.set y on)) (λ y d on e. turn.typed y d (marks r.set y on) e) in
    let z = renew_types b body 0 (bound_in body) q.spot q.count in
    record {
      later = r.later;
      agree = agree;
      known = t.known;
      stand = subst (λ (bs : List Bool). Stand z.count r.later z.spot.vars (is_set bs) s) (sym t.set)
          (subst (λ (vs : Vars). Stand z.count r.later vs (is_set q.spot.set) s) (sym t.vars) (stand_later q.count z.count r.later r.later q.spot.vars (is_set q.spot.set) s t.grows (agree_refl q.count r.later) stand));
    }
  where
    marks : {bs cs : List Bool} → bs ≡ cs → (y : ℕ) → is_set bs y ≡ true → is_set cs y ≡ true
    marks e y on = subst (λ (ds : List Bool). is_set ds y ≡ true) e on

    from_entry : (y : ℕ) (d : Datum) → is_set p.set y ≡ true → slot s y ≡ Some d → (y < 0) ⊎ (assigns_in y body ≡ false) → Means m here.later (variable p.vars y) d
    from_entry y d see e (inl lt) = absurd (omega (arith, lt))
    from_entry y d see e (inr st) = here.stand y d see (sym (turn.kept y see st) ∙ e)

    up_to : (y : ℕ) → (y < 0 + bound_in body) ⊎ (assigns_in y body ≡ false)
    up_to y = by (assigns_in y body) refl where
      by : (c : Bool) → assigns_in y body ≡ c → (y < 0 + bound_in body) ⊎ (c ≡ false)
      by false e = inr refl
      by true e = let h = assigned_in_below y body e in inl (omega (arith, h))
