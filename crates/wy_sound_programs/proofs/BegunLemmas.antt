-- The names at the entry of a body; and bodies keep their contracts.
use Rattle.std.proofs.Common.{◌≡◌, ◌⊎◌, inl, inr, ℕ, suc, ◌≤◌, List, [], ◌∷◌, length, Bool, true, false, ◌||◌, ◌==◌, pos, Some, refl, sym, ap, ◌∙◌, subst, arith}
use Rattle.std.proofs.lemmas.Bool.{or_right}
use Rattle.wy_lemmas.proofs.Choices.{eqb_self, apart_of, false_true as no_truth}
use Rattle.wy_value.specs.Datum.{Datum, Null}
use Rattle.wy_core.specs.Types.{Ty}
use Rattle.wy_core.specs.CoreTree.{Param}
use Rattle.wy_term.specs.Term.{Term}
use Rattle.wy_term.specs.Meaning.{Names, with_datum}
use Rattle.wy_sem.specs.Expressions.{Store, put}
use Rattle.wy_sem.specs.TypeTests.{unset}
use Rattle.wy_sem.specs.Statements as run
use Rattle.wy_sem.specs.Statements.{type_at}
use Rattle.wy_sem.specs.Evaluation.{types_of, bound, entry_of, frame_of, result_of}
use Rattle.wy_sem.specs.Meter.{◌>>=◌}
use Rattle.wy_vc_spec.specs.Making.{val_name}
use Rattle.wy_vc_spec.specs.Numbered.{Node}
use Rattle.wy_vc_spec.specs.Variables as variables
use Rattle.wy_vc_spec.specs.Values.{Setting, word_at, variable, named_in}
use Rattle.wy_vc_spec.specs.Owed.{assume}
use Rattle.wy_vc_spec.specs.Clauses.{in_type, assume_clauses}
use Rattle.wy_vc_spec.specs.Spots.{Spot, spot, is_set, mark, assign, with_hyps}
use Rattle.wy_vc_spec.specs.Statements.{Renewed, exec_all}
use Rattle.wy_vc_spec.specs.Programs.{name_params, assume_params, enter, body_of, body_conditions}
use Rattle.wy_sound_statements.proofs.wy_sound_terms_proofs.formed_lemmas.MakingLemmas.{val_name_sorted}
use Rattle.wy_sound_statements.proofs.wy_sound_terms_proofs.formed_lemmas.ValueLemmas.{no_data, variable_sorted}
use Rattle.wy_sound_statements.specs.wy_sound_walks.expressions.Names.{Agree, Known, Means, Stand, also}
use Rattle.wy_sound_statements.specs.wy_sound_walks.expressions.Truth.{AreTrueBy}
use Rattle.wy_sound_statements.specs.wy_sound_walks.expressions.Types.{is_in}
use Rattle.wy_sound_statements.specs.wy_sound_walks.expressions.Written.{IsWritten}
use Rattle.wy_sound_statements.specs.wy_sound_walks.expressions.Laws.{NamesTold}
use Rattle.wy_sound_statements.proofs.wy_sound_walks_proofs.expressions_lemmas.NameLemmas.{agree_refl, agree_less, means_later, stand_later, right_later, stand_put}
use Rattle.wy_sound_statements.proofs.wy_sound_walks_proofs.expressions_lemmas.AssumeLemmas.{assumed_true}
use Rattle.wy_sound_statements.proofs.wy_sound_walks_proofs.expressions_lemmas.CallGrows.{in_type_grows, assumed_grow}
use Rattle.wy_sound_statements.proofs.wy_sound_walks_proofs.expressions_lemmas.GoodLemmas.{good_weaken}
use Rattle.wy_sound_statements.proofs.wy_sound_walks_proofs.expressions_lemmas.LawLemmas.{types_told}
use Rattle.wy_sound_statements.proofs.wy_sound_walks_proofs.clauses_lemmas.ClauseLemmas.{clauses_assumed}
use Rattle.wy_sound_statements.specs.wy_sound_walks.joins.Points.{At, Depends}
use Rattle.wy_sound_statements.proofs.wy_sound_walks_proofs.joins_lemmas.DatumLemmas.{agree_datum, datum_at}
use Rattle.wy_sound_statements.proofs.wy_sound_walks_proofs.points_lemmas.SetLemmas.{Point, point_more, with_point, assign_point, as_point}
use Rattle.wy_sound_statements.specs.calls.CallLaws.{with_params, nothing_seen, Leaves}
use Rattle.wy_sound_statements.specs.wy_sound_kinds.Kinds.{HasValues}
use Rattle.wy_sound_statements.specs.Ends.{AreDeclared, Rests}
use Rattle.wy_sound_statements.proofs.PlaceLemmas.{val_terms}
use Rattle.wy_sound_programs.specs.Entries.{marked_params}
use Rattle.wy_sound_programs.specs.Begun.{begun, ParamsTyped, BodiesAreBegun, BodiesKeep}
use Rattle.wy_sound_programs.proofs.SlotLemmas.{same_or_apart, mark_same, mark_other}
use Rattle.wy_sound_programs.proofs.EntryLemmas.{named_set, assumed_set}
use Rattle.wy_sound_programs.proofs.BodyLemmas.{bodies_right}

-- ---- marks of parameters

-- a parameter that is marked is seen
one_seen : (set : List Bool) (seen : ℕ → Bool) (v : ℕ) → ((x : ℕ) → is_set set x ≡ true → seen x ≡ true) → (x : ℕ) → is_set (mark set v true) x ≡ true → also v seen x ≡ true
one_seen set seen v h x e = by (same_or_apart v x) where
  by : (v ≡ x) ⊎ ((v == x) ≡ false) → also v seen x ≡ true
  by (inl q) = ap (λ (b : Bool). b || seen x) (subst (λ (z : ℕ). (v == z) ≡ true) q (eqb_self v))
  by (inr q) = or_right (v == x) (seen x) (h x (sym (mark_other set v true x (apart_of v x q)) ∙ e))

marks_seen : (ps : List Param) (set : List Bool) (seen : ℕ → Bool) → ((x : ℕ) → is_set set x ≡ true → seen x ≡ true) → (x : ℕ) → is_set (marked_params ps set) x ≡ true → with_params ps seen x ≡ true
marks_seen [] set seen h x e = h x e
marks_seen (p ∷ ps) set seen h x e = marks_seen ps (mark set p.variable true) (also p.variable seen) (one_seen set seen p.variable h) x e

still_marked : (ps : List Param) (set : List Bool) (x : ℕ) → is_set set x ≡ true → is_set (marked_params ps set) x ≡ true
still_marked [] set x e = e
still_marked (p ∷ ps) set x e = still_marked ps (mark set p.variable true) x (by (same_or_apart p.variable x)) where
  by : (p.variable ≡ x) ⊎ ((p.variable == x) ≡ false) → is_set (mark set p.variable true) x ≡ true
  by (inl q) = subst (λ (z : ℕ). is_set (mark set p.variable true) z ≡ true) q (mark_same set p.variable true)
  by (inr q) = mark_other set p.variable true x (apart_of p.variable x q) ∙ e

abbrev AreMarked : List Bool → List Param → Type 0
AreMarked set [] = Unit {0}
AreMarked set (p ∷ ps) = (is_set set p.variable ≡ true) × AreMarked set ps

params_marked : (ps : List Param) (set : List Bool) → AreMarked (marked_params ps set) ps
params_marked [] set = tt
params_marked (p ∷ ps) set = (still_marked ps (mark set p.variable true) p.variable (mark_same set p.variable true), params_marked ps (mark set p.variable true))

-- ---- names of parameters

record Params (n : ℕ) (v : Names) (r : Renewed) (seen : ℕ → Bool) (st : Store) : Type 0 where
  later : Names
  agree : Agree n v later
  stand : Stand r.count later r.spot.vars seen st
  point : Point r.count r.spot
  hyps : r.spot.hyps ≡ []

named : (words : List (List ℕ)) (ps : List Param) (vs : List Datum) (p : Spot) (n : ℕ) (v : Names) (seen : ℕ → Bool) (st : Store) → length vs ≡ length ps → Stand n v p.vars seen st → Point n p → p.hyps ≡ []
    → Params n v (name_params words ps p n) (with_params ps seen) (bound ps vs st)
named words [] vs p n v seen st size h pt e = record { later = v; agree = agree_refl n v; stand = h; point = pt; hyps = e }
named words (x ∷ xs) [] p n v seen st size h pt e = absurd cc
named words (x ∷ xs) (d ∷ ds) p n v seen st size h pt e =
    let word = word_at words x.variable in
    let name = val_name word n in
    let u = with_datum v word n d in
    let there : Agree n v u = agree_datum n v word n d (omega arith) in
    let means : Means (suc n) u name d = λ z a. a.datum_of word n (omega arith) ∙ datum_at v word n d in
    let on : Depends (suc n) name = λ a b g. g.datum_of word n (omega arith) in
    let go = named words xs ds (assign x.variable name p) (suc n) u (also x.variable seen) (put st x.variable (Some d)) (one_less (length ds) (length xs) size)
    (stand_put (suc n) u p.vars seen st x.variable name d (stand_later n (suc n) v u p.vars seen st (omega arith) there h) means)
    (assign_point (suc n) p x.variable name (val_name_sorted word n) on (point_more n (suc n) p (omega arith) pt)) e in
    record { later = go.later; agree = agree_on n v u go.later there go.agree; stand = go.stand; point = go.point; hyps = go.hyps }
  where
    one_less : (a b : ℕ) → suc a ≡ suc b → a ≡ b
    one_less a b q = omega (arith, q)

    agree_on : (m : ℕ) (a b c : Names) → Agree m a b → Agree (suc m) b c → Agree m a c
    agree_on m a b c f g = record {
      datum_of = λ word k lt. g.datum_of word k (omega (arith, lt)) ∙ f.datum_of word k lt;
      number_of = λ word k lt. g.number_of word k (omega (arith, lt)) ∙ f.number_of word k lt;
      is_member = g.is_member ∙ f.is_member;
    }

-- ---- types of parameters

record Assumed (n : ℕ) (v : Names) (p : Spot) (r : Renewed) : Type 0 where
  known : Known r.count v r.spot.hyps
  vars : r.spot.vars ≡ p.vars
  grows : n ≤ r.count
  point : Point r.count r.spot

module _ (s : Setting Node) (members : ℕ → Datum → Bool) (told : NamesTold members (named_in s)) (types : List Ty) (written : (x : ℕ) → IsWritten (type_at types x)) (st : Store) (declared : AreDeclared types members st) where
  assumed : (ps : List Param) (p : Spot) (n : ℕ) (v : Names) (seen : ℕ → Bool) → v.is_member ≡ members → ParamsTyped types ps → AreMarked p.set ps → ((x : ℕ) → is_set p.set x ≡ true → seen x ≡ true) → HasValues (is_set p.set) st
      → Stand n v p.vars seen st → Known n v p.hyps → Point n p → Assumed n v p (assume_params s ps p n)
  assumed [] p n v seen right ty mk sees values h known pt = record { known = known; vars = refl; grows = omega arith; point = pt }
  assumed (x ∷ xs) p n v seen right ty mk sees values h known pt =
      let f = in_type s x.ty (variable p.vars x.variable) n in
      let g = in_type_grows s x.ty (variable p.vars x.variable) n in
      let d = values x.variable mk.0 in
      let wr : IsWritten x.ty = subst IsWritten ty.0 (written x.variable) in
      let inside : is_in members x.ty d.0 ≡ true = subst (λ (t : Ty). is_in members t d.0 ≡ true) ty.0 (declared x.variable d.0 d.1) in
      let one : Known f.count v (assume p.hyps f.term) = λ u a. assumed_true u p.hyps f.term (known u (agree_less n f.count v u g a))
      (types_told s members told x.ty n (variable p.vars x.variable) u d.0 wr (right_later members n v u right (agree_less n f.count v u g a)) (variable_sorted pt.are x.variable).has
      (means_later n n v u (variable p.vars x.variable) d.0 (omega arith) (agree_less n f.count v u g a) (h x.variable d.0 (sees x.variable mk.0) d.1)) ∙ inside) in
      let q : Spot = with_hyps (assume p.hyps f.term) p in
      let go = assumed xs q f.count v seen right ty.1 mk.1 sees values (stand_later n f.count v v p.vars seen st g (agree_refl n v) h) one (with_point f.count p (assume p.hyps f.term) (point_more n f.count p g pt)) in
      record { known = go.known; vars = go.vars; grows = let i = go.grows in omega (arith, i, g); point = go.point }

-- ---- the point where a body begins

abbrev first_names : (ℕ → Datum → Bool) → Names
first_names members = record { datum_of = λ word n. Null; number_of = λ word n. pos 0; is_member = members }

none_seen : (x : ℕ) → is_set [] x ≡ true → nothing_seen x ≡ true
none_seen x e = absurd cc

nothing_stands : (v : Names) (words : List (List ℕ)) → Stand 0 v [] nothing_seen (unset words)
nothing_stands v words x d see e = absurd cc

pub bodies_begun : BodiesAreBegun
bodies_begun w p members owed r vs stated pass =
    let v = first_names members in
    let empty : Point 0 (spot [] [] []) = record { are = no_data; depends = tt; marked = λ y e. no_truth (none_seen y e) } in
    let first = name_params r.variables r.params (spot [] [] []) 0 in
    let n = named r.variables r.params vs (spot [] [] []) 0 v nothing_seen (unset r.variables) stated.size (nothing_stands v r.variables) empty refl in
    let set : first.spot.set ≡ marked_params r.params [] = named_set r.variables r.params (spot [] [] []) 0 in
    let start = enter p.setting r in
    let same : start.spot.set ≡ first.spot.set = assumed_set p.setting r.params first.spot first.count in
    let right = right_later members 0 v n.later refl n.agree in
    let a = assumed p.setting members stated.told (types_of r) stated.written (entry_of r vs) stated.declared r.params first.spot first.count n.later (with_params r.params nothing_seen) right stated.typed
    (subst (λ (b : List Bool). AreMarked b r.params) (sym set) (params_marked r.params []))
    (λ x e. marks_seen r.params [] nothing_seen none_seen x (subst (λ (b : List Bool). is_set b x ≡ true) set e))
    (subst (λ (b : List Bool). HasValues (is_set b) (entry_of r vs)) same stated.values)
    n.stand (subst (λ (hs : List Term). Known first.count n.later hs) (sym n.hyps) (λ u g. tt)) n.point in
    let stand : Stand start.count n.later start.spot.vars (with_params r.params nothing_seen) (entry_of r vs) =
    subst (λ (vars : variables.Vars). Stand start.count n.later vars (with_params r.params nothing_seen) (entry_of r vs)) (sym a.vars) (stand_later first.count start.count n.later n.later first.spot.vars (with_params r.params nothing_seen) (entry_of r vs) a.grows (agree_refl first.count n.later) n.stand) in
    let up = assumed_grow p.setting r.variables r.preconditions start.spot.vars start.spot.hyps start.count in
    let clauses = assume_clauses p.setting r.variables r.preconditions start.spot.vars start.spot.hyps start.count in
    let pt : Point clauses.count (with_hyps clauses.hyps start.spot) = with_point clauses.count start.spot clauses.hyps (point_more start.count clauses.count start.spot up a.point) in
    record {
      terms = val_terms start.spot.vars a.point.are;
      point = as_point clauses.count (with_hyps clauses.hyps start.spot) pt;
      names = n.later;
      right = right;
      known = clauses_assumed w p.setting members stated.told r.variables start.spot.vars n.later (with_params r.params nothing_seen) (entry_of r vs) right a.point.are r.preconditions start.count start.spot.hyps stated.fit.first pass stand a.known;
      stand = stand_later start.count clauses.count n.later n.later start.spot.vars (with_params r.params nothing_seen) (entry_of r vs) up (agree_refl start.count n.later) stand;
      marks = λ x e. marks_seen r.params [] nothing_seen none_seen x (subst (λ (b : List Bool). is_set b x ≡ true) (same ∙ set) e);
    }

-- ---- contracts

pub bodies_keep : BodiesKeep
bodies_keep w p members owed r vs takes calls stated safe taken called gives suits left before true_by given pass m =
    let b = bodies_begun w p members owed r vs stated pass in
    let q = begun p r in
    let ends = safe pass in
    let vars = (enter p.setting r).spot.vars in
    let rests : Rests w (body_of p r vars) members owed vs q.count b.names = record {
      told = stated.told;
      checks = stated.checks;
      written = stated.written;
      result_written = λ out e. stated.fit.written out e;
      value_fits = λ out d e bd i. stated.fit.last out d e bd i;
      value_safe = λ out d e bd i. ends.value out d e bd i;
      nothing_fits = λ e. stated.fit.none e;
      nothing_safe = λ e. ends.nothing e;
      right = b.right;
      entry = b.terms;
      stand = b.stand;
    } in
    let here : At q.count b.names q.count q.spot (entry_of r vs) = record { later = b.names; agree = agree_refl q.count b.names; known = b.known; stand = λ x d e i. b.stand x d (b.marks x e) i } in
    good_weaken (Unit {0}) (AreTrueBy members (body_conditions p r)) (run.exec_all w (frame_of owed r vs) r.body (entry_of r vs) m >>= result_of w (frame_of owed r vs) r.at) (Leaves w p.setting members r vs r.result) (λ u. true_by)
    (bodies_right w p r vars members owed vs takes calls q.count b.names rests taken called gives q.spot q.count m (omega arith) b.terms b.point here stated.declared suits left before)
