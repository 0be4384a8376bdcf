-- What a clause gives is what its formula says, and its goals say the same.
use Rattle.std.proofs.Common.{◌≡◌, ℕ, ◌≤◌, List, [], ◌∷◌, ◌++◌, length, Bool, true, false, ◌&&◌, refl, sym, ap, ◌∙◌, subst, arith}
use Rattle.wy_lemmas.proofs.Choices.{and_end, and_assoc}
use Rattle.wy_value.specs.Datum.{Datum, Truth}
use Rattle.wy_core.specs.CoreTree.{Expr, NullExpr, BoolExpr, IntExpr, VarExpr, CallExpr, NegExpr, NotExpr, LenExpr, BinaryExpr, IsExpr, IndexExpr, FieldExpr, ListExpr, RepeatExpr, RecordExpr, QuantExpr}
use Rattle.wy_core.specs.declared.expressions.Op.TheVariants.{And}
use Rattle.wy_term.specs.Term.{Term}
use Rattle.wy_term.specs.Sorts.{val_sort, formula_sort}
use Rattle.wy_term.specs.Meaning.{Names}
use Rattle.wy_sound_terms.specs.wy_sem.Meter.{Meter, Outcome, Done}
use Rattle.wy_sound_terms.specs.wy_sem.Expressions as sem
use Rattle.wy_sound_terms.specs.wy_vc_spec.Making.{null, value_of, all_of, formula}
use Rattle.wy_sound_terms.specs.wy_vc_spec.Variables.{Vars}
use Rattle.wy_sound_terms.specs.wy_vc_spec.Values.{Naming, Setting, Valued, holds, value, named_in, clause_formula}
use Rattle.wy_sound_terms.specs.wy_vc_spec.Clauses.{goals}
use Rattle.wy_sound_terms.specs.wy_vc_spec.Calls.{Walked}
use Rattle.wy_sound_terms.specs.wy_vc_spec.Walks.{CallWalks}
use Rattle.wy_sound_terms.proofs.formed_lemmas.MakingLemmas.{IsOf, null_sorted}
use Rattle.wy_sound_terms.proofs.formed_lemmas.ValueLemmas.{SaysFormulas, AreData, holds_sorted}
use Rattle.wy_sound_terms.proofs.operations_lemmas.MadeLemmas.{holds as true_at, all, value_means, formula_means, all_means}
use Rattle.wy_sound_walks.specs.expressions.Names.{Agree, Known, Means, Stand}
use Rattle.wy_sound_walks.specs.expressions.Truth.{AreTrueBy, Good}
use Rattle.wy_sound_walks.specs.expressions.Sound.{Ok}
use Rattle.wy_sound_walks.specs.expressions.Laws.{NamesTold}
use Rattle.wy_sound_walks.proofs.expressions_lemmas.ValueGrows.{holds_grows}
use Rattle.wy_sound_walks.proofs.expressions_lemmas.LawLemmas.{tells_by}
use Rattle.wy_sound_walks.proofs.expressions_lemmas.GenericWalks.{walk_by}
use Rattle.wy_sound_walks.proofs.expressions_lemmas.ExpressionLemmas.{expr}
use Rattle.wy_sound_walks.specs.clauses.Clauses.{clause_kinds, Fits, Passes}
use Rattle.wy_sound_walks.proofs.clauses_lemmas.ValueLemmas.{value_is}

-- the walk of a call where nothing is called
abbrev no_call : CallWalks
no_call f at ts hyps n = record { count = n; hyps = hyps; term = null; owed = [] }

-- what an answer says of later names that are the same
answer_of : (n m : ℕ) (names : Names) (hyps : List Term) (t : Term) (v : Datum) → Ok true n names m hyps t v → Means m names t v
answer_of n m names hyps t v x = subst (λ (u : Names). Means m u t v) x.goes x.means

module _ {N : Type 0} (w : sem.Setting N) (s : Setting N) (members : ℕ → Datum → Bool) (named : Naming) (formulas : SaysFormulas named) (grows : (number n : ℕ) (v : Term) → n ≤ (named number v n).count) (told : NamesTold members named) (words : List (List ℕ)) where
  abbrev W : Expr N → Vars → ℕ → Walked
  W e vars n = walk_by s (holds named) no_call words e vars [] n

  clause_right : (e : Expr N) (vars : Vars) (n : ℕ) (names : Names) (seen : ℕ → Bool) (st : sem.Store) (m : Meter) → Fits w s members seen e st → names.is_member ≡ members → AreData vars → Stand n names vars seen st
      → Good (AreTrueBy members (W e vars n).owed) (sem.eval (sem.quiet w) false e st m) (Ok true n names (W e vars n).count (W e vars n).hyps (W e vars n).term)
  clause_right e vars n names seen st m fits right da sd =
      expr (clause_kinds w s members) s.place s.types members (holds named) no_call
      (λ t v i. holds_grows named grows t v i)
      (λ t i v is. holds_sorted formulas t i is)
      (tells_by members named formulas grows told)
      (λ f at ts hs i. omega arith)
      (λ f at i ts hs all. null_sorted)
      (λ f from at i ts hs ns vs l takes r all means kn. absurd takes)
      words e true vars [] n names seen st m fits.suits right da sd (λ u a. tt)

  -- an answer is what the value's term means
  pub answer_means : (e : Expr N) (vars : Vars) (n : ℕ) (names : Names) (seen : ℕ → Bool) (st : sem.Store) → Fits w s members seen e st → names.is_member ≡ members → AreData vars → Stand n names vars seen st
      → (v : Datum) (m j : Meter) → sem.eval (sem.quiet w) false e st m ≡ Done v j → Means (value s named words e vars n).count names (value s named words e vars n).term v
  answer_means e vars n names seen st fits right da sd v m j eq =
      subst (λ (r : Valued). Means r.count names r.term v) (sym (value_is s named no_call words e fits.quiet vars [] n))
      (answer_of n (W e vars n).count names (W e vars n).hyps (W e vars n).term v
      (subst (λ (o : Outcome Datum). Good (AreTrueBy members (W e vars n).owed) o (Ok true n names (W e vars n).count (W e vars n).hyps (W e vars n).term)) eq (clause_right e vars n names seen st m fits right da sd)))

  -- the formula of a clause that gave this truth value
  pub formula_is : (e : Expr N) (vars : Vars) (n : ℕ) (names : Names) (seen : ℕ → Bool) (st : sem.Store) → Fits w s members seen e st → names.is_member ≡ members → AreData vars → Stand n names vars seen st
      → (b : Bool) (m j : Meter) → sem.eval (sem.quiet w) false e st m ≡ Done (Truth b) j → (u : Names) → Agree (clause_formula s named words e vars n).count names u → true_at u (clause_formula s named words e vars n).term ≡ b
  formula_is e vars n names seen st fits right da sd b m j eq u a = formula_means u (value s named words e vars n).term b (answer_means e vars n names seen st fits right da sd (Truth b) m j eq u a)

-- ---- goals

all_append : (u : Names) (fs gs : List Term) → all u (fs ++ gs) ≡ (all u fs && all u gs)
all_append u [] gs = refl
all_append u (f ∷ fs) gs = ap (λ (b : Bool). true_at u f && b) (all_append u fs gs) ∙ sym (and_assoc (true_at u f) (all u fs) (all u gs))

-- the goals of a clause all hold exactly where its formula does, and make as many names
pub record SayTheSame {N : Type 0} (s : Setting N) (words : List (List ℕ)) (e : Expr N) (vars : Vars) (n : ℕ) : Type 0 where
  pub count : (goals s words e vars n).count ≡ (clause_formula s (named_in s) words e vars n).count
  pub truth : (u : Names) → all u (goals s words e vars n).terms ≡ true_at u (clause_formula s (named_in s) words e vars n).term

module _ {N : Type 0} (s : Setting N) (words : List (List ℕ)) where
  value_truth : (u : Names) (f : Term) → true_at u (formula (value_of f)) ≡ true_at u f
  value_truth u f = formula_means u (value_of f) (true_at u f) (value_means u f)

  both_say : (k : N) (a b : Expr N) (vars : Vars) (n : ℕ) → SayTheSame s words a vars n → SayTheSame s words b vars (goals s words a vars n).count → SayTheSame s words (BinaryExpr k And a b) vars n
  both_say k a b vars n h g =
      let v = value s (named_in s) words a vars n in let w = value s (named_in s) words b vars v.count in
      let first = goals s words a vars n in let second = goals s words b vars first.count in
      record {
        count = g.count ∙ ap (λ (i : ℕ). (value s (named_in s) words b vars i).count) h.count;
        truth = λ u.
            all_append u first.terms second.terms
            ∙ ap (λ (c : Bool). c && all u second.terms) (h.truth u)
            ∙ ap (λ (c : Bool). true_at u (formula v.term) && c) (g.truth u ∙ ap (λ (i : ℕ). true_at u (formula (value s (named_in s) words b vars i).term)) h.count)
            ∙ sym (value_truth u (all_of (formula v.term ∷ formula w.term ∷ [])) ∙ all_means u (formula v.term ∷ formula w.term ∷ []) ∙ ap (λ (c : Bool). true_at u (formula v.term) && c) (and_end (true_at u (formula w.term))));
      }

  pub goals_say : (e : Expr N) (vars : Vars) (n : ℕ) → SayTheSame s words e vars n
  goals_say (BinaryExpr k And a b) vars n = both_say k a b vars n (goals_say a vars n) (goals_say b vars (goals s words a vars n).count)
  goals_say e vars n = record { count = refl; truth = λ u. and_end (true_at u (clause_formula s (named_in s) words e vars n).term) }
