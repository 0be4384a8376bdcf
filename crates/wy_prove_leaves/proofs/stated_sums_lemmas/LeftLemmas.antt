-- What replacing leaves of a node's forms, one literal after the other.
use Rattle.std.proofs.Common.{◌≡◌, ◌∙◌, ◌||◌, ◌+◌, ◌<◌, ℕ, zero, suc, List, [], ◌∷◌, ◌++◌, map, drop, length, Bool, true, false, Option, Some, None, refl, sym, ap, subst, append_assoc, arith}
use Rattle.std.specs.Prelude.{slice_get}
use Rattle.std.proofs.lemmas.List.{append-nil}
use Rattle.wy_prove_drafts.proofs.wy_search_bounds_proofs.GatherLemmas.{forms_last}
use Rattle.wy_lemmas.proofs.Choices.{or_none as or_end, or_true as or_so, or_regrouped as or_assoc}
use Rattle.wy_term.specs.Term.{Term}
use Rattle.wy_term.specs.Condition.{Entry}
use Rattle.wy_lin.specs.Linear.{Linear}
use Rattle.wy_lin.specs.TermForm.{form_of_literal}
use Rattle.wy_lin.specs.Seen.{linear_form}
use Rattle.wy_lin.specs.declared.linear.Form.{Form}
use Rattle.wy_term.specs.Nodes.{Plain}
use Rattle.wy_prove_drafts.specs.wy_check_spec.judge.Node.{Literal, Node, has_literal}
use Rattle.wy_prove_drafts.specs.wy_check_nodes.Seen.{seen_literal}
use Rattle.wy_prove_drafts.specs.wy_check_spec.valid.Literals.{formula_of}
use Rattle.wy_search_spec.specs.Standing.{present}
use Rattle.wy_search_spec.specs.Classes.{classes}
use Rattle.wy_search_spec.specs.Bounds.{Replaced, gone, given, leaves, is_refuting, is_leaving, any_so, forms_in, replaced, numbered, with_form, replaced_forms}
use Rattle.wy_prove_drafts.specs.Progress.{Progress, Goes, Ends}
use Rattle.wy_prove_drafts.proofs.ProgressLemmas.{goes_self, goes_on, ends_behind}
use Rattle.wy_prove_leaves.specs.stated_sums.Named.{IsNamed, AreNamed}
use Rattle.wy_prove_leaves.specs.stated_sums.Cuts.{Appends, Grows}
use Rattle.wy_prove_leaves.specs.stated_sums.Replacing.{AreStated, IsLinked, Turns, left_of}
use Rattle.wy_prove_leaves.specs.stated_sums.Steps.{Closed}
use Rattle.wy_prove_leaves.specs.stated_sums.Classed.{IsClassed}
use Rattle.wy_prove_leaves.specs.declared.stated_sums.classed.Classed.{Classed}
use Rattle.wy_prove_leaves.specs.declared.stated_sums.stated.Stated.{Stated}
use Rattle.wy_prove_leaves.specs.declared.stated_sums.stated.Turn.{Turn}
use Rattle.wy_prove_leaves.specs.declared.stated_sums.stated.Turn.TheVariants.{GoesOn, Closes, Lacks}
use Rattle.wy_prove_drafts.proofs.wy_search_laws_proofs.chains_lemmas.LiteralLemmas.{has_first, has_later}
use Rattle.wy_prove_leaves.proofs.stated_sums_lemmas.NamedLemmas.{are_named_kept, named_last}
use Rattle.wy_prove_leaves.proofs.stated_sums_lemmas.LinkedLemmas.{linked_kept}
use Rattle.wy_prove_leaves.specs.stated_sums.Refuted.{EndsIfRefuted}

-- ---- steps that add literals alone

pub grows_self : (types : List Entry) (a : Progress) → Grows types a a
grows_self types a = record { goes = goes_self types a; appends = record { more = []; literals = sym (append-nil a.node.literals); pending = refl } }

pub grows_on : (types : List Entry) (a b c : Progress) → Grows types a b → Grows types b c → Grows types a c
grows_on types a b c h g = record {
  goes = goes_on types a b c h.goes g.goes;
  appends = record {
    more = h.appends.more ++ g.appends.more;
    literals = g.appends.literals ∙ (ap (λ (ls : List Literal). ls ++ g.appends.more) h.appends.literals ∙ append_assoc a.node.literals h.appends.more g.appends.more);
    pending = g.appends.pending ∙ h.appends.pending;
  };
}

-- ---- one more

any_last : (test : Replaced → Bool) (rs : List Replaced) (r : Replaced) → any_so test (rs ++ r ∷ []) ≡ (any_so test rs || test r)
any_last test [] r = or_end (test r)
any_last test (s ∷ rs) r = ap (λ (b : Bool). test s || b) (any_last test rs r) ∙ or_assoc (test s) (any_so test rs) (test r)

module _ (base : Node) (ls : List Literal) (rs : List Replaced) where
  pub stated_gone : (s : Stated) → AreStated base ls rs s → AreStated base ls (rs ++ gone ∷ []) s
  stated_gone s h = record {
    refutes = any_last is_refuting rs gone ∙ (or_end (any_so is_refuting rs) ∙ h.refutes);
    leaves = h.leaves ∙ sym (any_last is_leaving rs gone ∙ or_end (any_so is_leaving rs));
    forms = h.forms ∙ sym (forms_last rs gone ∙ append-nil (forms_in rs));
    named = subst (λ (fs : List (Linear ℕ)). AreNamed base ls s.numbers.items fs) (sym (forms_last rs gone ∙ append-nil (forms_in rs))) h.named;
  }

  pub stated_leaves : (s t : Stated) → t.leaves ≡ true → t.numbers.items ≡ s.numbers.items → t.forms.items ≡ s.forms.items → AreStated base ls rs s → AreStated base ls (rs ++ leaves ∷ []) t
  stated_leaves s t up numbers forms h = record {
    refutes = any_last is_refuting rs leaves ∙ (or_end (any_so is_refuting rs) ∙ h.refutes);
    leaves = up ∙ sym (any_last is_leaving rs leaves ∙ or_so (any_so is_leaving rs));
    forms = ap (map linear_form) forms ∙ (h.forms ∙ sym (forms_last rs leaves ∙ append-nil (forms_in rs)));
    named =
        subst (λ (ks : List ℕ). AreNamed base ls ks (forms_in (rs ++ leaves ∷ []))) (sym numbers)
        (subst (λ (fs : List (Linear ℕ)). AreNamed base ls s.numbers.items fs) (sym (forms_last rs leaves ∙ append-nil (forms_in rs))) h.named);
  }

  pub stated_given : (s t : Stated) (k : ℕ) (f : Form) → t.leaves ≡ s.leaves → t.numbers.items ≡ s.numbers.items ++ k ∷ [] → t.forms.items ≡ s.forms.items ++ f ∷ [] → AreStated base ls rs s → IsNamed base ls k (linear_form f) → AreStated base ls (rs ++ given (linear_form f) ∷ []) t
  stated_given s t k f same numbers forms h is = record {
    refutes = any_last is_refuting rs (given (linear_form f)) ∙ (or_end (any_so is_refuting rs) ∙ h.refutes);
    leaves = same ∙ (h.leaves ∙ sym (any_last is_leaving rs (given (linear_form f)) ∙ or_end (any_so is_leaving rs)));
    forms = ap (map linear_form) forms ∙ (map_last s.forms.items ∙ (ap (λ (fs : List (Linear ℕ)). fs ++ linear_form f ∷ []) h.forms ∙ sym (forms_last rs (given (linear_form f)))));
    named =
        subst (λ (ks : List ℕ). AreNamed base ls ks (forms_in (rs ++ given (linear_form f) ∷ []))) (sym numbers)
        (subst (λ (fs : List (Linear ℕ)). AreNamed base ls (s.numbers.items ++ k ∷ []) fs) (sym (forms_last rs (given (linear_form f)))) (named_last base ls s.numbers.items (forms_in rs) k (linear_form f) h.named is));
  }
    where
      map_last : (fs : List Form) → map linear_form (fs ++ f ∷ []) ≡ map linear_form fs ++ linear_form f ∷ []
      map_last [] = refl
      map_last (g ∷ fs) = ap (λ (xs : List (Linear ℕ)). linear_form g ∷ xs) (map_last fs)

-- what is stated stays so as literals come
pub stated_kept : (base a b : Node) (rs : List Replaced) (s : Stated) → Appends a b → AreStated base a.literals rs s → AreStated base b.literals rs s
stated_kept base a b rs s more h = record { refutes = h.refutes; leaves = h.leaves; forms = h.forms; named = are_named_kept base a b s.numbers.items (forms_in rs) more h.named }

-- ---- all literals

rest_behind : (ts : List Term) (labels : List ℕ) (rest : List Replaced) (o : Option (Linear Term)) → with_form ts labels rest o ≡ with_form ts labels [] o ++ rest
rest_behind ts labels rest None = refl
rest_behind ts labels rest (Some f) = refl

-- those before a literal, what is left of it, and those behind it
pub one_more_left : (base : Node) (rs : List Replaced) (l : Literal) (ls : List Literal) → (rs ++ left_of base l) ++ replaced_forms (present base) (classes (present base) base.literals) ls ≡ rs ++ replaced_forms (present base) (classes (present base) base.literals) (l ∷ ls)
one_more_left base rs l ls =
    let labels = classes (present base) base.literals in
    let rest = replaced_forms (present base) labels ls in
    append_assoc rs (left_of base l) rest ∙ ap (λ (qs : List Replaced). rs ++ qs) (sym (rest_behind (present base) labels rest (form_of_literal (formula_of l))))

-- ---- one literal after the other

-- what is left of the literals before these is stated
pub record IsUpTo (types : List Entry) (base : Node) (old now : Progress) (s : Stated) (left : List Literal) : Type 0 where
  pub grows : Grows types old now
  pub linked : IsLinked base now.node
  pub before : List Replaced
  pub stated : AreStated base now.node.literals before s
  pub whole : before ++ replaced_forms (present base) (classes (present base) base.literals) left ≡ replaced_forms (present base) (classes (present base) base.literals) base.literals

pub up_to_none : (types : List Entry) (base : Node) (old : Progress) (s : Stated) → IsLinked base old.node → AreStated base old.node.literals [] s → IsUpTo types base old old s base.literals
up_to_none types base old s linked stated = record { grows = grows_self types old; linked = linked; before = []; stated = stated; whole = refl }

pub up_to_next : (types : List Entry) (base : Node) (old now new : Progress) (s t : Stated) (l : Literal) (left : List Literal) → (h : IsUpTo types base old now s (l ∷ left)) → Grows types now new → AreStated base new.node.literals (h.before ++ left_of base l) t → IsUpTo types base old new t left
up_to_next types base old now new s t l left h grows stated = record {
  grows = grows_on types old now new h.grows grows;
  linked = linked_kept base now.node new.node grows.appends h.linked;
  before = h.before ++ left_of base l;
  stated = stated;
  whole = one_more_left base h.before l left ∙ h.whole;
}

pub up_to_all : (types : List Entry) (base : Node) (old now : Progress) (s : Stated) → (h : IsUpTo types base old now s []) → AreStated base now.node.literals (replaced_forms (present base) (classes (present base) base.literals) base.literals) s
up_to_all types base old now s h = subst (λ (rs : List Replaced). AreStated base now.node.literals rs s) (sym (append-nil h.before) ∙ h.whole) h.stated

pub ends_or_goes : (types : List Entry) (base : Node) (old now new : Progress) (yes : Bool) → Goes types old now → EndsIfRefuted types base now new yes → EndsIfRefuted types base old new yes
ends_or_goes types base old now new true goes h = ends_behind types old now new goes h
ends_or_goes types base old now new false goes h = (goes_on types old now new goes h.0, h.1)

-- ---- the literal with a place

-- the literal there, and those behind it
record IsThere (ls : List Literal) (i : ℕ) : Type 0 where
  literal : Literal
  here : slice_get ls i ≡ Some literal
  left : drop i ls ≡ literal ∷ drop (i + 1) ls

is_there : (ls : List Literal) (i : ℕ) → i < length ls → IsThere ls i
is_there [] i lt = absurd (omega (arith, lt))
is_there (l ∷ ls) zero lt = record { literal = l; here = refl; left = refl }
is_there (l ∷ ls) (suc i) lt =
    let rest = is_there ls i (omega (arith, lt)) in
    let next : suc i + 1 ≡ suc (i + 1) = omega arith in
    record { literal = rest.literal; here = rest.here; left = rest.left ∙ ap (λ (n : ℕ). rest.literal ∷ drop n (l ∷ ls)) (sym next) }

pub there_has : (ls : List Literal) (i : ℕ) (l : Literal) → slice_get ls i ≡ Some l → has_literal ls l ≡ true
there_has [] i l e = absurd cc
there_has (k ∷ ls) zero l e = subst (λ (x : Literal). has_literal (k ∷ ls) x ≡ true) (one_literal k l e) (has_first k ls)
  where
    one_literal : (x y : Literal) → Some x ≡ Some y → x ≡ y
    one_literal x y f = cc
there_has (k ∷ ls) (suc i) l e = has_later k l ls (there_has ls i l e)

-- the literal of a code's literal with a place
pub seen_there : (at : ℕ → Term) (ps : List (ℕ × Bool)) (i : ℕ) (p : ℕ × Bool) (l : Literal) → slice_get ps i ≡ Some p → slice_get (map (seen_literal at) ps) i ≡ Some l → l ≡ seen_literal at p
seen_there at [] i p l e f = absurd cc
seen_there at (q ∷ ps) zero p l e f =
    let first : q ≡ p = cc in
    let second : seen_literal at q ≡ l = cc in
    sym second ∙ ap (seen_literal at) first
seen_there at (q ∷ ps) (suc i) p l e f = seen_there at ps i p l e f

-- what comes of one literal more
abbrev pub TurnsOn : List Entry → Node → Progress → Progress → Stated → List Literal → Turn → Type 0
TurnsOn types base old new t left GoesOn = IsUpTo types base old new t left
TurnsOn types base old new t left Closes = Ends types old new
TurnsOn types base old new t left Lacks = ⊥

-- whatever the literal there is, this comes of it
abbrev pub TakesOne : List Entry → List Plain → Classed → Progress → Progress → ℕ → Stated → Stated → Turn → Node → Type 0
TakesOne types nodes c now new i s t turn base = (l : Literal) (rs : List Replaced) → IsClassed nodes base c → IsLinked base now.node → slice_get base.literals i ≡ Some l → AreStated base now.node.literals rs s → Turns types base now new (rs ++ left_of base l) t turn

pub turn_taken : (types : List Entry) (nodes : List Plain) (c : Classed) (base : Node) (old now new : Progress) (i : ℕ) (s t : Stated) (turn : Turn) → i < length base.literals → IsClassed nodes base c → IsUpTo types base old now s (drop i base.literals) → TakesOne types nodes c now new i s t turn base → TurnsOn types base old new t (drop (i + 1) base.literals) turn
turn_taken types nodes c base old now new i s t turn lt classed h takes =
    let one = is_there base.literals i lt in
    let h_one : IsUpTo types base old now s (one.literal ∷ drop (i + 1) base.literals) = subst (λ (ls : List Literal). IsUpTo types base old now s ls) one.left h in
    by one.literal h_one turn (takes one.literal h_one.before classed h_one.linked one.here h_one.stated)
  where
    by : (l : Literal) (g : IsUpTo types base old now s (l ∷ drop (i + 1) base.literals)) (x : Turn) → Turns types base now new (g.before ++ left_of base l) t x → TurnsOn types base old new t (drop (i + 1) base.literals) x
    by l g GoesOn turned = up_to_next types base old now new s t l (drop (i + 1) base.literals) g turned.0 turned.1
    by l g Closes turned = ends_behind types old now new g.grows.goes turned
    by l g Lacks turned = turned

pub closed_ends : (types : List Entry) (base : Node) (old new : Progress) (wrote : Bool) → Closed types old new wrote → EndsIfRefuted types base old new wrote
closed_ends types base old new true h = h
closed_ends types base old new false h = absurd h

-- what a literal with a form leaves
pub form_left : (base : Node) (l : Literal) (whole : Linear Term) (r : Replaced) → form_of_literal (formula_of l) ≡ Some whole → r ≡ replaced (classes (present base) base.literals) (numbered (present base) whole) → r ∷ [] ≡ left_of base l
form_left base l whole r form is =
    ap (λ (x : Replaced). x ∷ []) is ∙ sym (ap (λ (o : Option (Linear Term)). with_form (present base) (classes (present base) base.literals) [] o) form)

-- and one without
pub none_left : (base : Node) (l : Literal) (rs : List Replaced) → form_of_literal (formula_of l) ≡ None → rs ++ left_of base l ≡ rs
none_left base l rs form = ap (λ (o : Option (Linear Term)). rs ++ with_form (present base) (classes (present base) base.literals) [] o) form ∙ append-nil rs
