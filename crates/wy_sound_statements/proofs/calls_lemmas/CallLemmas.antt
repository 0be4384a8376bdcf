-- A call follows its walk.
use Rattle.std.proofs.Common.{◌≡◌, ℕ, suc, ◌≤◌, List, [], ◌∷◌, ◌++◌, length, Bool, true, false, Option, Some, None, nat_eq, eq-eqb, refl, sym, ap, ◌∙◌, subst, arith}
use Rattle.wy_value.specs.Datum.{Datum}
use Rattle.wy_core.specs.Types.{Ty}
use Rattle.wy_core.specs.CoreTree as tree
use Rattle.wy_core.specs.CoreTree.{Routine}
use Rattle.wy_term.specs.declared.cond.CondKind.TheVariants as kind
use Rattle.wy_term.specs.Term.{Term}
use Rattle.wy_term.specs.Meaning.{Names, with_datum, sense}
use Rattle.wy_sound_kinds.specs.wy_sem.Meter.{Meter, Outcome, Done, Run, ◌>>=◌, check}
use Rattle.wy_sound_kinds.specs.wy_sem.Expressions as sem
use Rattle.wy_sound_kinds.specs.wy_sem.TypeTests.{Test, set_if, unset}
use Rattle.wy_sound_kinds.specs.wy_sem.Statements.{exec_all}
use Rattle.wy_sound_kinds.specs.wy_sem.Evaluation as run
use Rattle.wy_sound_kinds.specs.wy_sem.Evaluation.{entry_of, frame_of, result_of, routine_call}
use Rattle.wy_sound_kinds.specs.wy_vc_spec.Making.{val_name}
use Rattle.wy_sound_kinds.specs.wy_vc_spec.Numbered.{Node}
use Rattle.wy_sound_kinds.specs.wy_vc_spec.Variables.{Vars, put_if}
use Rattle.wy_sound_kinds.specs.wy_vc_spec.Values.{Setting, named_in}
use Rattle.wy_sound_kinds.specs.wy_vc_spec.Owed.{assume}
use Rattle.wy_sound_kinds.specs.wy_vc_spec.Clauses.{owe_clauses, assume_clauses, in_type, assume_in_type}
use Rattle.wy_sound_kinds.specs.wy_vc_spec.Calls as walks
use Rattle.wy_sound_kinds.specs.wy_vc_spec.Calls.{Walked, owe_arguments, arguments, routine_walk}
use Rattle.wy_sound_kinds.proofs.wy_sound_terms_proofs.formed_lemmas.MakingLemmas.{val_name_sorted}
use Rattle.wy_sound_kinds.proofs.wy_sound_terms_proofs.formed_lemmas.ValueLemmas.{AreData, no_data, put_if_data}
use Rattle.wy_sound_kinds.specs.wy_sound_walks.expressions.Names.{Agree, Known, Means, AllMean, Stand}
use Rattle.wy_sound_kinds.specs.wy_sound_walks.expressions.Truth.{AreTrueBy, Good}
use Rattle.wy_sound_kinds.specs.wy_sound_walks.expressions.Types.{is_in}
use Rattle.wy_sound_kinds.specs.wy_sound_walks.expressions.Laws.{NamesTold}
use Rattle.wy_sound_kinds.proofs.wy_sound_walks_proofs.expressions_lemmas.NameLemmas.{agree_refl, agree_trans, agree_less, known_later, means_later, all_later, stand_later, stand_put, right_later}
use Rattle.wy_sound_kinds.proofs.wy_sound_walks_proofs.expressions_lemmas.GoodLemmas.{true_left, true_right, good_weaken, good_map}
use Rattle.wy_sound_kinds.proofs.wy_sound_walks_proofs.expressions_lemmas.AssumeLemmas.{assumed_true}
use Rattle.wy_sound_kinds.proofs.wy_sound_walks_proofs.expressions_lemmas.CallGrows.{in_type_grows, clauses_grow, arguments_grow, assumed_grow}
use Rattle.wy_sound_kinds.proofs.wy_sound_walks_proofs.expressions_lemmas.LawLemmas.{types_told}
use Rattle.wy_sound_kinds.proofs.wy_sound_walks_proofs.joins_lemmas.DatumLemmas.{agree_datum, datum_at}
use Rattle.wy_sound_kinds.specs.wy_sound_walks.clauses.Clauses.{AllFit, AllPass}
use Rattle.wy_sound_kinds.proofs.wy_sound_walks_proofs.clauses_lemmas.ClauseLemmas.{clauses_owed, clauses_assumed}
use Rattle.wy_sound_statements.specs.calls.CallLaws.{Checks, ArgumentsFit, ArgumentsIn, AreValues, with_params, nothing_seen, also_if, Leaves, ClausesFit, KeepsContract, Returned, CallsAreSound}
use Rattle.wy_sound_statements.proofs.calls_lemmas.ArgumentLemmas.{fit_long, arguments_right, params_stand, params_data}

pub no_datum_is : (d : Datum) → ◌≡◌ {A = Option Datum} None (Some d) → ⊥
no_datum_is d e = absurd cc

some_same : (a b : Datum) → ◌≡◌ {A = Option Datum} (Some a) (Some b) → a ≡ b
some_same a b e = cc

-- a variable that may stand for the result
pub stand_if : (n : ℕ) (names : Names) (vars : Vars) (seen : ℕ → Bool) (st : sem.Store) (x : Option ℕ) (t : Term) (d : Datum) → Stand n names vars seen st → Means n names t d → Stand n names (put_if vars x t) (also_if x seen) (set_if st x (Some d))
stand_if n names vars seen st None t d h g = h
stand_if n names vars seen st (Some x) t d h g = stand_put n names vars seen st x t d h g

none_stand : (n : ℕ) (names : Names) (words : List (List ℕ)) → Stand n names [] nothing_seen (unset words)
none_stand n names words x d see e = absurd cc

module _ (w : sem.Setting Node) (s : Setting Node) (members : ℕ → Datum → Bool) (r : Routine Node) (vs : List Datum) (told : NamesTold members (named_in s)) (fit : ClausesFit w s members r vs)
    (names : Names) (right : names.is_member ≡ members) (vars : Vars) (da : AreData vars) (n : ℕ) (hyps : List Term) (before : Known n names hyps) (stand : Stand n names vars (with_params r.params nothing_seen) (entry_of r vs)) where
  -- what is known behind a call
  record Behind (g : Walked) (v : Option Datum) : Type 0 where
    later : Names
    agree : Agree n names later
    known : Known g.count later g.hyps
    means : (d : Datum) → v ≡ Some d → Means g.count later g.term d

  behind : (o : Option tree.Output) → r.result ≡ o → (v : Option Datum) → Leaves w s members r vs o v → Behind (walks.result_of s r o vars hyps n) v
  behind None e None l = record {
    later = names;
    agree = agree_refl n names;
    known = clauses_assumed w s members told r.variables vars names (with_params r.params nothing_seen) (entry_of r vs) right da r.postconditions n hyps (fit.none e) l.1 stand before;
    means = λ d q. absurd (no_datum_is d q);
  }
  behind None e (Some d) l = absurd (no_datum_is d (sym l.0))
  behind (Some out) e None l = absurd l
  behind (Some out) e (Some d) l =
      let name = val_name r.name n in
      let later = with_datum names r.name n d in
      let there : Agree n names later = agree_datum n names r.name n d (omega arith) in
      let name_is : Means (suc n) later name d = λ u a. a.datum_of r.name n (omega arith) ∙ datum_at names r.name n d in
      let right2 = right_later members n names later right there in
      let f = in_type s out.ty name (suc n) in
      let g = in_type_grows s out.ty name (suc n) in
      let typed : Known f.count later (assume hyps f.term) = λ u a.
      assumed_true u hyps f.term (before u (agree_trans n f.count names later u (omega (arith, g)) there a))
      (types_told s members told out.ty (suc n) name u d (fit.written out e) (right_later members f.count later u right2 a) (val_name_sorted r.name n).has
      (means_later (suc n) (suc n) later u name d (omega arith) (agree_less (suc n) f.count later u g a) name_is) ∙ l.1) in
      let vars2 = put_if vars out.variable name in
      let c = assume_clauses s r.variables r.postconditions vars2 (assume hyps f.term) f.count in
      let more = assumed_grow s r.variables r.postconditions vars2 (assume hyps f.term) f.count in
      record {
        later = later;
        agree = there;
        known = clauses_assumed w s members told r.variables vars2 later (also_if out.variable (with_params r.params nothing_seen)) (set_if (entry_of r vs) out.variable (Some d)) right2 (put_if_data out.variable da (val_name_sorted r.name n))
            r.postconditions f.count (assume hyps f.term) (fit.last out d e l.0 l.1) l.2
            (stand_if f.count later vars (with_params r.params nothing_seen) (entry_of r vs) out.variable name d (stand_later n f.count names later vars (with_params r.params nothing_seen) (entry_of r vs) (omega (arith, g)) there stand) (means_later (suc n) f.count later later name d g (agree_refl (suc n) later) name_is))
            typed;
        means = λ x q. subst (λ (y : Datum). Means c.count later name y) (some_same d x q) (means_later (suc n) c.count later later name d (omega (arith, g, more)) (agree_refl (suc n) later) name_is);
      }

counted : {X : Type 0} (A : Type 0) (P : X → Type 0) (at : ℕ) (next : Run X) (b : Bool) (m : Meter) → b ≡ true → Good A (next m) P → Good A (check b kind.Member at next m) P
counted A P at next true m e h = h
counted A P at next false m e h = absurd cc

pub calls_sound : CallsAreSound
calls_sound w s members owed r from at n ts hyps names vs m told checks len fit clauses_fit safe keeps right are means h =
    let first = owe_arguments s from r.params ts hyps n in
    let vars = arguments r.params ts [] in
    let middle = owe_clauses s kind.Requires from r.variables r.preconditions vars first.hyps first.count in
    let last = walks.result_of s r r.result vars middle.hyps middle.count in
    let walk = routine_walk s r from ts hyps n in
    let A = AreTrueBy members (first.owed ++ (middle.owed ++ last.owed)) in
    let P = Returned n names walk in
    let seen = with_params r.params nothing_seen in
    let st = entry_of r vs in
    let body : Run (Option Datum) = λ l. exec_all w (frame_of owed r vs) r.body st l >>= result_of w (frame_of owed r vs) r.at in
    let g1 = arguments_grow s from r.params ts hyps n in
    let g2 = clauses_grow s kind.Requires from r.variables r.preconditions vars first.hyps first.count in
    let da = params_data r.params ts [] are no_data in
    let stand = params_stand first.count names r.params ts vs [] nothing_seen (unset r.variables) (all_later n first.count names names ts vs g1 (agree_refl n names) means) (fit_long s members r.params vs fit) (none_stand first.count names r.variables) in
    counted A P at (run.arguments owed at r.params vs (sem.clauses w kind.Requires at r.preconditions st body)) (nat_eq (length vs) (length r.params)) m (eq-eqb (length vs) (length r.params) len)
    (arguments_right s members owed told checks A P from at names (sem.clauses w kind.Requires at r.preconditions st body) right r.params n ts hyps vs fit are means h (λ t. true_left members first.owed (middle.owed ++ last.owed) t) (λ all known l.
    clauses_owed w s members told r.variables A P kind.Requires kind.Requires from at body vars names seen st right da r.preconditions first.count first.hyps clauses_fit.first (safe all) stand known
    (λ t. true_left members middle.owed last.owed (true_right members first.owed (middle.owed ++ last.owed) t)) (λ i pass kn.
    good_map A (body i) (Leaves w s members r vs r.result) P (good_weaken A (Unit {0}) (body i) (Leaves w s members r vs r.result) (λ t. tt) (keeps all pass i)) (λ v j eq lv.
    let b = behind w s members r vs told clauses_fit names right vars da middle.count middle.hyps kn (stand_later first.count middle.count names names vars seen st g2 (agree_refl first.count names) stand) r.result refl v lv in
    record {
      later = b.later;
      agree = agree_less n middle.count names b.later (omega (arith, g1, g2)) b.agree;
      known = b.known;
      means = b.means;
    })) l) m)
