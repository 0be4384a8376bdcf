-- Values that come into variables, and results.
use Rattle.std.proofs.Common.{◌≡◌, ℕ, zero, suc, ◌≤◌, List, [], ◌∷◌, ◌++◌, Bool, true, false, ◌||◌, ◌==◌, if◌then◌else◌, Option, Some, None, refl, sym, ap, ◌∙◌, subst, arith}
use Rattle.wy_lemmas.proofs.Choices.{eqb_self as eqb_refl}
use Rattle.wy_value.specs.Datum.{Datum}
use Rattle.wy_core.specs.Types.{Ty}
use Rattle.wy_core.specs.CoreTree as tree
use Rattle.wy_term.specs.declared.cond.CondKind.TheVariants as kind
use Rattle.wy_term.specs.Term.{Term}
use Rattle.wy_term.specs.Sorts.{val_sort}
use Rattle.wy_term.specs.Meaning.{Names, with_datum, sense}
use Rattle.wy_term_subst.specs.kept_sorts.SortKept.{HasSort}
use Rattle.wy_sound_kinds.specs.wy_sem.Meter.{Meter, Done, Run}
use Rattle.wy_sound_kinds.specs.wy_sem.Expressions as sem
use Rattle.wy_sound_kinds.specs.wy_sem.TypeTests.{Test, is_constrained, set_if}
use Rattle.wy_sound_kinds.specs.wy_sem.Statements as run
use Rattle.wy_sound_kinds.specs.wy_sem.Statements.{Exit, Went, Gave, Frame}
use Rattle.wy_sound_kinds.specs.wy_sem.Evaluation.{entry_of, frame_of}
use Rattle.wy_sound_kinds.specs.wy_vc_spec.Making.{val_name, equal}
use Rattle.wy_sound_kinds.specs.wy_vc_spec.Numbered.{Node}
use Rattle.wy_sound_kinds.specs.wy_vc_spec.Variables.{Vars, put, put_if}
use Rattle.wy_sound_kinds.specs.wy_vc_spec.Values.{word_at, named_in}
use Rattle.wy_sound_kinds.specs.wy_vc_spec.Owed.{Owed, assume}
use Rattle.wy_sound_kinds.specs.wy_vc_spec.Clauses.{Passed, owe_clauses, owe_member}
use Rattle.wy_sound_kinds.specs.wy_vc_spec.Spots.{Spot, is_set, mark, assign, with_hyps}
use Rattle.wy_sound_kinds.specs.wy_vc_spec.Large.{Named, is_large, named}
use Rattle.wy_sound_kinds.specs.wy_vc_spec.Statements.{Body, words, given, owe_result, with_result, leave}
use Rattle.wy_sound_kinds.proofs.wy_sound_terms_proofs.formed_lemmas.MakingLemmas.{IsOf}
use Rattle.wy_sound_kinds.proofs.wy_sound_terms_proofs.formed_lemmas.ValueLemmas.{AreData, put_if_data}
use Rattle.wy_sound_kinds.specs.wy_sound_walks.expressions.Names.{Agree, Known, Means, Stand, also}
use Rattle.wy_sound_kinds.specs.wy_sound_walks.expressions.Truth.{AreTrueBy, Good}
use Rattle.wy_sound_kinds.specs.wy_sound_walks.expressions.Types.{is_in}
use Rattle.wy_sound_kinds.specs.wy_sound_walks.expressions.Written.{IsWritten}
use Rattle.wy_sound_kinds.specs.wy_sound_walks.expressions.Laws.{NamesTold}
use Rattle.wy_sound_kinds.proofs.wy_sound_walks_proofs.expressions_lemmas.NameLemmas.{agree_refl, agree_trans, agree_less, known_later, means_later, stand_later, stand_put}
use Rattle.wy_sound_kinds.proofs.wy_sound_walks_proofs.expressions_lemmas.GoodLemmas.{true_left, true_right}
use Rattle.wy_sound_kinds.proofs.wy_sound_walks_proofs.expressions_lemmas.AssumeLemmas.{assumed_true}
use Rattle.wy_sound_kinds.proofs.wy_sound_walks_proofs.expressions_lemmas.CallGrows.{member_grows}
use Rattle.wy_sound_kinds.proofs.wy_sound_walks_proofs.expressions_lemmas.LawLemmas.{are_data}
use Rattle.wy_sound_kinds.specs.wy_sound_walks.joins.Points.{At}
use Rattle.wy_sound_kinds.proofs.wy_sound_walks_proofs.joins_lemmas.DatumLemmas.{agree_datum, datum_at, equal_true}
use Rattle.wy_sound_kinds.specs.wy_sound_walks.clauses.Clauses.{AllFit, AreSafe, AllPass}
use Rattle.wy_sound_kinds.proofs.wy_sound_walks_proofs.clauses_lemmas.ClauseLemmas.{clauses_owed}
use Rattle.wy_sound_statements.specs.calls.CallLaws.{Checks, Leaves, with_params, nothing_seen, also_if}
use Rattle.wy_sound_statements.proofs.calls_lemmas.ArgumentLemmas.{given_right}
use Rattle.wy_sound_statements.proofs.calls_lemmas.CallLemmas.{stand_if}
use Rattle.wy_sound_statements.specs.steps.Steps.{Behind, IsIn, ValuesComeIn, Ending, ResultsLeave}

-- ---- marks

-- a variable that is marked then is the new one, or was marked before
mark_also : (bs : List Bool) (x y : ℕ) → is_set (mark bs x true) y ≡ true → (x ≡ y → ⊥) → is_set bs y ≡ true
mark_also [] zero zero e h = absurd (h refl)
mark_also [] zero (suc y) e h = absurd cc
mark_also [] (suc x) zero e h = absurd cc
mark_also [] (suc x) (suc y) e h = absurd (none (mark_also [] x y e (λ q. h (ap suc q)))) where
  none : is_set [] y ≡ true → ⊥
  none q = absurd cc
mark_also (c ∷ bs) zero zero e h = absurd (h refl)
mark_also (c ∷ bs) zero (suc y) e h = e
mark_also (c ∷ bs) (suc x) zero e h = e
mark_also (c ∷ bs) (suc x) (suc y) e h = mark_also bs x y e (λ q. h (ap suc q))

seen_also : (bs : List Bool) (x y : ℕ) → is_set (mark bs x true) y ≡ true → also x (is_set bs) y ≡ true
seen_also bs x y e = by (x == y) refl where
  off : (x == y) ≡ false → x ≡ y → ⊥
  off q p = clash (sym (ap (λ (z : ℕ). z == y) p ∙ eqb_refl y) ∙ q) where
    clash : true ≡ false → ⊥
    clash r = absurd cc

  by : (b : Bool) → (x == y) ≡ b → (b || is_set bs y) ≡ true
  by true q = refl
  by false q = mark_also bs x y e (off q)

-- ---- a value that comes into a variable

-- the variable stands for the term, or for a new name that equals it
record IsNamed (n : ℕ) (names : Names) (r : Named) (d : Datum) : Type 0 where
  later : Names
  agree : Agree n names later
  known : Known r.count later r.hyps
  means : Means r.count later r.term d
  grows : n ≤ r.count

named_right : (w : List (List ℕ)) (x : ℕ) (v : Term) (hyps : List Term) (n : ℕ) (names : Names) (d : Datum) → Known n names hyps → Means n names v d → IsNamed n names (named w x v hyps n) d
named_right w x v hyps n names d h g = by (is_large v) where
  word : List ℕ
  word = word_at w x

  next : Names
  next = with_datum names word n d

  there : Agree n names next
  there = agree_datum n names word n d (omega arith)

  by : (b : Bool) → IsNamed n names (if b then record { count = suc n; hyps = assume hyps (equal (val_name word n) v); term = val_name word n } else record { count = n; hyps = hyps; term = v }) d
  by false = record { later = names; agree = agree_refl n names; known = h; means = g; grows = omega arith }
  by true = record {
    later = next;
    agree = there;
    known = λ u a. assumed_true u hyps (equal (val_name word n) v) (h u (agree_trans n (suc n) names next u (omega arith) there a))
        (equal_true u (val_name word n) v d (a.datum_of word n (omega arith) ∙ datum_at names word n d) (g u (agree_trans n (suc n) names next u (omega arith) there a)));
    means = λ u a. a.datum_of word n (omega arith) ∙ datum_at names word n d;
    grows = omega arith;
  }

pub values_come_in : ValuesComeIn
values_come_in fr b members told checks from at t x v owed p hyps n names st d m wr free here =
    let s = b.program.setting in
    let member = owe_member s from t v hyps n in
    let name = named (words b) x v member.hyps member.count in
    let g = member_grows s from t v hyps n in
    given_right s members fr.member told checks (AreTrueBy members member.owed) (IsIn n names name.count (Some (assign x name.term (with_hyps name.hyps p))) (sem.put st x (Some d))) from at n t v hyps names d (Done (Went (sem.put st x (Some d)))) wr free here.right (record { has = here.is }) here.means here.known (λ a. a)
    (λ q known l.
    let r = named_right (words b) x v member.hyps member.count names d known (means_later n member.count names names v d g (agree_refl n names) here.means) in
    let k = r.grows in (
      refl,
      record {
        later = r.later;
        agree = agree_less n member.count names r.later g r.agree;
        known = r.known;
        stand = λ y e see eq. stand_put name.count r.later p.vars (is_set p.set) st x name.term d (stand_later n name.count names r.later p.vars (is_set p.set) st (omega (arith, g, k)) (agree_less n member.count names r.later g r.agree) here.stand) r.means y e (seen_also p.set x y see) eq;
      },
    ))
    m

-- ---- results

pub results_leave : ResultsLeave
results_leave = record {
  value = λ w owed b members vs out from at n v hyps names d m told checks is wr free fit safe end v_is means h.
      let s = b.program.setting in
      let r = b.routine in
      let seen = with_params r.params nothing_seen in
      let st = set_if (entry_of r vs) out.variable (Some d) in
      let vars = put_if b.entry out.variable v in
      let member = owe_member s from out.ty v hyps n in
      let g = member_grows s from out.ty v hyps n in
      let rest = owe_clauses s kind.Ensures from (words b) r.postconditions vars member.hyps member.count in
      let P = λ (x : Exit). (x ≡ Gave (Some d)) × Leaves w s members r vs (Some out) (Some d) in
      let go : Good (AreTrueBy members (member.owed ++ rest.owed)) (run.leave w (frame_of owed r vs) at (Some out) (Some d) m) P =
      given_right s members owed told checks (AreTrueBy members (member.owed ++ rest.owed)) P from at n out.ty v hyps names d (sem.clauses w kind.Ensures at r.postconditions st (Done (Gave (Some d)))) wr free end.right (record { has = v_is }) means h (true_left members member.owed rest.owed)
      (λ q known l.
      clauses_owed w s members told (words b) (AreTrueBy members (member.owed ++ rest.owed)) P kind.Ensures kind.Ensures from at (Done (Gave (Some d))) vars names (also_if out.variable seen) st end.right (put_if_data out.variable (are_data b.entry end.terms) (record { has = v_is })) r.postconditions member.count member.hyps (fit q) (safe q)
      (stand_later n member.count names names vars (also_if out.variable seen) st g (agree_refl n names) (stand_if n names b.entry seen (entry_of r vs) out.variable v d end.stand means)) known
      (true_right members member.owed rest.owed) (λ i pass kn. (refl, (free.0, q, pass))) l)
      m in
      subst (λ (o : Option tree.Output). Good (AreTrueBy members ((owe_result b from o (Some v) hyps n).owed ++ (owe_clauses s kind.Ensures from (words b) r.postconditions (with_result o (Some v) b.entry) (owe_result b from o (Some v) hyps n).hyps (owe_result b from o (Some v) hyps n).count).owed)) (run.leave w (frame_of owed r vs) at (Some out) (Some d) m) P) (sym is) go;
  nothing = λ w owed b members vs from at n hyps names m told is fit safe end h.
      let s = b.program.setting in
      let r = b.routine in
      let seen = with_params r.params nothing_seen in
      let st = entry_of r vs in
      let rest = owe_clauses s kind.Ensures from (words b) r.postconditions b.entry hyps n in
      let P = λ (x : Exit). (x ≡ Gave None) × Leaves w s members r vs None None in
      let go : Good (AreTrueBy members rest.owed) (run.leave w (frame_of owed r vs) at None None m) P =
      clauses_owed w s members told (words b) (AreTrueBy members rest.owed) P kind.Ensures kind.Ensures from at (Done (Gave None)) b.entry names seen st end.right (are_data b.entry end.terms) r.postconditions n hyps fit safe end.stand h (λ t. t) (λ i pass kn. (refl, (refl, pass))) m in
      subst (λ (o : Option tree.Output). Good (AreTrueBy members ((owe_result b from o None hyps n).owed ++ (owe_clauses s kind.Ensures from (words b) r.postconditions (with_result o None b.entry) (owe_result b from o None hyps n).hyps (owe_result b from o None hyps n).count).owed)) (run.leave w (frame_of owed r vs) at None None m) P) (sym is) go;
}
