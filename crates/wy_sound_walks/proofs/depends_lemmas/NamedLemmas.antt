-- What is said of a named type depends on names below its count alone.
use Rattle.std.proofs.Common.{◌≡◌, ℕ, zero, suc, ◌≤◌, List, [], ◌∷◌, Bool, true, false, if◌then◌else◌, Option, Some, None, refl, sym, ap, ◌∙◌}
use Rattle.wy_core.specs.CoreTree.{Alias}
use Rattle.wy_term.specs.Term.{Term}
use Rattle.wy_term.specs.Sorts.{val_sort}
use Rattle.wy_term.specs.Meaning.{Names}
use Rattle.wy_sound_terms.specs.wy_sem.TypeTests.{alias_at}
use Rattle.wy_sound_terms.specs.wy_vc_spec.Named.{is_written}
use Rattle.wy_sound_terms.specs.wy_vc_spec.Making.{in_type}
use Rattle.wy_sound_terms.specs.wy_vc_spec.Variables.{Vars, put_if}
use Rattle.wy_sound_terms.specs.wy_vc_spec.Values.{Naming, Setting, Valued, valued, holds, clause_formulas, defined, named_to}
use Rattle.wy_sound_terms.proofs.formed_lemmas.MakingLemmas.{IsOf}
use Rattle.wy_sound_terms.proofs.formed_lemmas.ValueLemmas.{SaysFormulas, AreData, no_data, put_if_data, named_to_sorted}
use Rattle.wy_sound_terms.proofs.operations_lemmas.MadeLemmas.{datum, in_type_means}
use Rattle.wy_sound_walks.proofs.expressions_lemmas.ValueGrows.{holds_grows, clauses_grow, named_grows}
use Rattle.wy_sound_walks.specs.expressions.Names.{Agree}
use Rattle.wy_sound_walks.specs.joins.Points.{Depends}
use Rattle.wy_sound_walks.specs.depends.Depends.{AllDepend}
use Rattle.wy_sound_walks.proofs.depends_lemmas.MadeLemmas.{Rests, depends_more, rests_more, more_rest, all_rest}
use Rattle.wy_sound_walks.proofs.depends_lemmas.TypeLemmas.{holds_rests}
use Rattle.wy_sound_walks.proofs.depends_lemmas.ValueLemmas.{put_depends, clauses_rest}

put_if_depends : (n : ℕ) (x : Option ℕ) (t : Term) → Depends n t → AllDepend n (put_if [] x t)
put_if_depends n None t h = tt
put_if_depends n (Some x) t h = put_depends n [] x t tt h

member_same : (names others : Names) → others.is_member ≡ names.is_member → (number : ℕ) (v : Term) → (others.is_member number (datum others v)) ≡ names.is_member number (datum others v)
member_same names others e number v = ap (λ m. m number (datum others v)) e

test_rests : (n number : ℕ) (v : Term) → Depends n v → Rests n (in_type number v)
test_rests n number v h x y a =
    in_type_means y number v
    ∙ member_same x y a.is_member number v
    ∙ ap (x.is_member number) (h x y a)
    ∙ sym (in_type_means x number v)

defined_rests : {N : Type 0} (s : Setting N) (named : Naming) → SaysFormulas named → ((number n : ℕ) (v : Term) → n ≤ (named number v n).count) → ((number n : ℕ) (v : Term) → IsOf val_sort v → Depends n v → Rests (named number v n).count (named number v n).term)
    → (a : Alias N) (n : ℕ) (v : Term) → IsOf val_sort v → Depends n v → Rests (defined s named a v n).count (defined s named a v n).term
defined_rests s named formulas grows rests a n v is h =
    let f = holds named a.ty v n in
    let vars = put_if [] a.variable v in
    let fs = clause_formulas s named a.variables a.clauses vars f.count in
    all_rest fs.count (more_rest f.term (rests_more f.count fs.count (f.term) (clauses_grow s named grows a.variables a.clauses vars f.count) (holds_rests named formulas grows rests a.ty n v is h))
    (clauses_rest s named formulas grows rests a.variables a.clauses vars f.count (put_if_data a.variable no_data is) (put_if_depends f.count a.variable v (depends_more n f.count (v) (holds_grows named grows a.ty v n) h))))

pick_rests : (b : Bool) (v w : Valued) → Rests v.count v.term → Rests w.count w.term → Rests (if b then v else w).count (if b then v else w).term
pick_rests true v w h g = h
pick_rests false v w h g = g

pub named_rests : {N : Type 0} (s : Setting N) (depth number n : ℕ) (v : Term) → IsOf val_sort v → Depends n v → Rests (named_to s depth number v n).count (named_to s depth number v n).term
named_rests s zero number n v is h = test_rests n number v h
named_rests s (suc depth) number n v is h =
    pick_rests (is_written s.types number) (defined s (named_to s depth) (alias_at s.types number) v n) (valued n (in_type number v))
    (defined_rests s (named_to s depth) (named_to_sorted s depth) (λ i m u. named_grows s depth i m u) (λ i m u k g. named_rests s depth i m u k g) (alias_at s.types number) n v is h)
    (test_rests n number v h)
