-- Clauses of contracts are safe where what the contract owes is true, and the requires clauses are known where the body begins.
use Rattle.std.proofs.Common.{◌≡◌, ℕ, suc, ◌≤◌, List, [], ◌∷◌, Bool, true, Option, Some, None, ◌∙◌, subst, arith}
use Rattle.wy_value.specs.Datum.{Datum}
use Rattle.wy_core.specs.CoreTree as tree
use Rattle.wy_core.specs.CoreTree.{Expr, Routine}
use Rattle.wy_term.specs.Term.{Term}
use Rattle.wy_term.specs.Meaning.{Names, with_datum}
use Rattle.wy_sem.specs.Expressions as sem
use Rattle.wy_sem.specs.TypeTests.{set_if}
use Rattle.wy_sem.specs.Evaluation.{entry_of}
use Rattle.wy_sound_statements.specs.wy_vc_spec.Numbered.{Node}
use Rattle.wy_sound_statements.specs.wy_vc_spec.Making.{val_name, formula}
use Rattle.wy_sound_statements.specs.wy_vc_spec.Variables.{Vars, put_if}
use Rattle.wy_sound_statements.specs.wy_vc_spec.Values.{word_if, named_in}
use Rattle.wy_sound_statements.specs.wy_vc_spec.Owed.{assume}
use Rattle.wy_sound_statements.specs.wy_vc_spec.Clauses.{in_type, assume_in_type}
use Rattle.wy_sound_statements.specs.wy_vc_spec.Walks.{Program, walk_expr}
use Rattle.wy_sound_statements.specs.wy_vc_spec.Statements.{walk_clauses}
use Rattle.wy_sound_statements.specs.wy_vc_spec.Programs.{enter, result_word, enter_result, ensures_conditions}
use Rattle.wy_vc_laws.proofs.wy_sound_terms_proofs.formed_lemmas.MakingLemmas.{val_name_sorted}
use Rattle.wy_vc_laws.proofs.wy_sound_terms_proofs.formed_lemmas.ValueLemmas.{AreData, put_if_data}
use Rattle.wy_sound_statements.specs.wy_sound_walks.expressions.Names.{Agree, Known, Means, Stand}
use Rattle.wy_sound_statements.specs.wy_sound_walks.expressions.Truth.{AreTrueBy}
use Rattle.wy_sound_statements.specs.wy_sound_walks.expressions.Types.{is_in}
use Rattle.wy_sound_statements.specs.wy_sound_walks.expressions.Written.{IsWritten}
use Rattle.wy_sound_statements.specs.wy_sound_walks.expressions.Laws.{NamesTold}
use Rattle.wy_sound_statements.proofs.wy_sound_walks_proofs.expressions_lemmas.NameLemmas.{agree_refl, agree_less, agree_trans, right_later, means_later, stand_later}
use Rattle.wy_sound_statements.proofs.wy_sound_walks_proofs.expressions_lemmas.GoodLemmas.{true_left, true_right}
use Rattle.wy_sound_statements.proofs.wy_sound_walks_proofs.expressions_lemmas.AssumeLemmas.{assumed_true}
use Rattle.wy_sound_statements.proofs.wy_sound_walks_proofs.expressions_lemmas.CallGrows.{in_type_grows}
use Rattle.wy_sound_statements.proofs.wy_sound_walks_proofs.expressions_lemmas.LawLemmas.{types_told, are_data, expr_grows}
use Rattle.wy_sound_statements.proofs.wy_sound_walks_proofs.joins_lemmas.DatumLemmas.{agree_datum, datum_at}
use Rattle.wy_sound_statements.specs.wy_sound_walks.clauses.Clauses.{AllFit, AreSafe, AllPass}
use Rattle.wy_sound_statements.proofs.wy_sound_walks_proofs.clauses_lemmas.ClauseLemmas.{clauses_assumed}
use Rattle.wy_sound_statements.proofs.wy_sound_walks_proofs.clauses_lemmas.WalkedLemmas.{walked_safe, walked_known}
use Rattle.wy_sound_statements.specs.calls.CallLaws.{with_params, nothing_seen, also_if, ClausesFit}
use Rattle.wy_sound_statements.proofs.calls_lemmas.CallLemmas.{stand_if}
use Rattle.wy_sound_types.specs.sound_routines.Entries.{Entered, ContractsAreSafe}

-- clauses that are walked make names from the count on
walked_grows : (p : Program Node) (words : List (List ℕ)) (es : List (Expr Node)) (vars : Vars) (hyps : List Term) (n : ℕ) → n ≤ (walk_clauses p words es vars hyps n).count
walked_grows p words [] vars hyps n = omega arith
walked_grows p words (e ∷ es) vars hyps n =
    let v = walk_expr p words e vars hyps n in
    let h = expr_grows p.setting p.routines words e vars hyps n in
    let g = walked_grows p words es vars (assume v.hyps (formula v.term)) v.count in omega (arith, h, g)

module _ (w : sem.Setting Node) (p : Program Node) (members : ℕ → Datum → Bool) (told : NamesTold members (named_in p.setting)) (r : Routine Node) (vs : List Datum) (entered : Entered p.setting members r (entry_of r vs)) (fit : ClausesFit w p.setting members r vs) where
  abbrev vars : Vars
  vars = (enter p.setting r).spot.vars

  abbrev hyps : List Term
  hyps = (enter p.setting r).spot.hyps

  abbrev start : ℕ
  start = (enter p.setting r).count

  abbrev seen : ℕ → Bool
  seen = with_params r.params nothing_seen

  da : AreData vars
  da = are_data vars entered.terms

  first_safe : AreTrueBy members (walk_clauses p r.variables r.preconditions vars hyps start).owed → AreSafe w r.preconditions (entry_of r vs)
  first_safe t = walked_safe w p members told r.variables vars entered.names seen (entry_of r vs) entered.right da r.preconditions hyps start fit.first entered.stand entered.known t

  -- behind the requires clauses
  abbrev middle : ℕ
  middle = (walk_clauses p r.variables r.preconditions vars hyps start).count

  abbrev known : List Term
  known = (walk_clauses p r.variables r.preconditions vars hyps start).hyps

  middle_known : AllPass w r.preconditions (entry_of r vs) → Known middle entered.names known
  middle_known pass = walked_known w p members told r.variables vars entered.names seen (entry_of r vs) entered.right da r.preconditions hyps start fit.first entered.stand entered.known pass

  middle_stand : Stand middle entered.names vars seen (entry_of r vs)
  middle_stand = stand_later start middle entered.names entered.names vars seen (entry_of r vs) (walked_grows p r.variables r.preconditions vars hyps start) (agree_refl start entered.names) entered.stand

  -- ensures clauses without a result
  none_safe : AllPass w r.preconditions (entry_of r vs) → r.result ≡ None → (es : List (Expr Node)) → AllFit w p.setting members seen es (entry_of r vs) → AreTrueBy members (ensures_conditions p r es vars known middle) → AreSafe w es (entry_of r vs)
  none_safe pass e [] f t = tt
  none_safe pass e (c ∷ es) f t =
      let walked = subst (λ (o : Option tree.Output). AreTrueBy members (walk_clauses p r.variables (c ∷ es) (enter_result p.setting r o vars known middle).spot.vars (enter_result p.setting r o vars known middle).spot.hyps (enter_result p.setting r o vars known middle).count).owed) e t in
      walked_safe w p members told r.variables vars entered.names seen (entry_of r vs) entered.right da (c ∷ es) known middle f middle_stand (middle_known pass) walked

  -- ensures clauses with a result of its type
  module _ (out : tree.Output) (d : Datum) (wr : IsWritten out.ty) (inside : is_in members out.ty d ≡ true) where
    abbrev word : List ℕ
    word = word_if r.variables out.variable result_word

    abbrev name : Term
    name = val_name word middle

    abbrev later : Names
    later = with_datum entered.names word middle d

    there : Agree middle entered.names later
    there = agree_datum middle entered.names word middle d (omega arith)

    name_is : Means (suc middle) later name d
    name_is u a = a.datum_of word middle (omega arith) ∙ datum_at entered.names word middle d

    right2 : later.is_member ≡ members
    right2 = entered.right

    abbrev typed : ℕ
    typed = (in_type p.setting out.ty name (suc middle)).count

    grows : suc middle ≤ typed
    grows = in_type_grows p.setting out.ty name (suc middle)

    typed_known : Known middle entered.names known → Known typed later (assume_in_type p.setting out.ty name known (suc middle)).hyps
    typed_known before u a =
        let f = in_type p.setting out.ty name (suc middle) in
        let b = agree_less (suc middle) typed later u grows a in
        assumed_true u known f.term (before u (agree_trans middle (suc middle) entered.names later u (omega arith) there b))
        (types_told p.setting members told out.ty (suc middle) name u d wr (right_later members (suc middle) later u right2 b) (val_name_sorted word middle).has (means_later (suc middle) (suc middle) later u name d (omega arith) b name_is) ∙ inside)

    result_stand : Stand typed later (put_if vars out.variable name) (also_if out.variable seen) (set_if (entry_of r vs) out.variable (Some d))
    result_stand =
        let g = grows in
        stand_if typed later vars seen (entry_of r vs) out.variable name d (stand_later middle typed entered.names later vars seen (entry_of r vs) (omega (arith, g)) there middle_stand)
        (means_later (suc middle) typed later later name d grows (agree_refl (suc middle) later) name_is)

    some_safe : AllPass w r.preconditions (entry_of r vs) → r.result ≡ Some out → (es : List (Expr Node)) → AllFit w p.setting members (also_if out.variable seen) es (set_if (entry_of r vs) out.variable (Some d))
        → AreTrueBy members (ensures_conditions p r es vars known middle) → AreSafe w es (set_if (entry_of r vs) out.variable (Some d))
    some_safe pass e [] f t = tt
    some_safe pass e (c ∷ es) f t =
        let walked = subst (λ (o : Option tree.Output). AreTrueBy members (walk_clauses p r.variables (c ∷ es) (enter_result p.setting r o vars known middle).spot.vars (enter_result p.setting r o vars known middle).spot.hyps (enter_result p.setting r o vars known middle).count).owed) e t in
        walked_safe w p members told r.variables (put_if vars out.variable name) later (also_if out.variable seen) (set_if (entry_of r vs) out.variable (Some d)) right2 (put_if_data out.variable da (val_name_sorted word middle)) (c ∷ es)
        (assume_in_type p.setting out.ty name known (suc middle)).hyps typed f result_stand (typed_known (middle_known pass)) walked

pub contracts_safe : ContractsAreSafe
contracts_safe = record {
  safe = λ w p members told r vs entered fit t.
      let a = (enter p.setting r).spot in
      let n = (enter p.setting r).count in
      let first = walk_clauses p r.variables r.preconditions a.vars a.hyps n in
      let last = ensures_conditions p r r.postconditions a.vars first.hyps first.count in
      let one = true_left members first.owed last t in
      let two = true_right members first.owed last t in
      record {
        first = first_safe w p members told r vs entered fit one;
        last = λ pass out d is bounded inside. some_safe w p members told r vs entered fit out d (fit.written out is) inside pass is r.postconditions (fit.last out d is bounded inside) two;
        none = λ pass is. none_safe w p members told r vs entered fit pass is r.postconditions (fit.none is) two;
      };
  begins = λ w p members told r vs entered fit pass.
      let a = (enter p.setting r).spot in
      record {
        entered = entered;
        begins = clauses_assumed w p.setting members told r.variables a.vars entered.names (with_params r.params nothing_seen) (entry_of r vs) entered.right (are_data a.vars entered.terms) r.preconditions (enter p.setting r).count a.hyps fit.first pass entered.stand entered.known;
      };
}
