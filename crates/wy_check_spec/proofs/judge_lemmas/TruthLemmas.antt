-- Judging is right, and a true node stays true.
use Rattle.std.proofs.Common.{◌≡◌, List, [], ◌∷◌, ◌++◌, Bool, true, false, cond, not, ◌&&◌, ◌||◌, refl, sym, ap, ◌∙◌}
use Rattle.std.specs.Bool.{beq}
use Rattle.wy_cert.proofs.wy_lemmas_proofs.Choices.{both_parts as and_both, bits_are, both_true as two_true}
use Rattle.wy_lin.specs.wy_term.Term.{Term, Of, Parts, no_parts, part, Not}
use Rattle.wy_lin.specs.wy_term.Term as term
use Rattle.wy_lin.specs.wy_term.Same.{same_term}
use Rattle.wy_lin.specs.wy_term.Meaning.{Names, sense, senses_of, all_hold, any_holds}
use Rattle.wy_lin.specs.wy_term.Condition.{Condition, AllTrue}
use Rattle.wy_lin.proofs.wy_term_proofs.SameLemmas.{terms_are}
use Rattle.wy_check_spec.specs.declared.judge.verdict.Verdict.{Verdict}
use Rattle.wy_check_spec.specs.declared.judge.verdict.Verdict.TheVariants.{Yes, No, Open}
use Rattle.wy_check_spec.specs.judge.Node.{Literal, same_literal, has_literal, has_formula, Node, bare, with_literal, with_pending, is_atom, with_atom, added, added_denial, denied_one, added_all, denied_all, with_formulas, first_node}
use Rattle.wy_check_spec.specs.judge.Judgement.{turned, both, either, of_atom, judged, judged_all, judged_any}
use Rattle.wy_check_spec.specs.judge.Told.{IsTold, AllTold, IsTrueNode, JudgesTruly, AddsTruly, BeginsTruly}

module _ (names : Names) where
  abbrev tru : Term → Bool
  tru f = (sense names f).truth

  -- ---- literals

  told_same : (k l : Literal) → same_literal k l ≡ true → IsTold names k → IsTold names l
  told_same k l e told =
      let h = and_both (same_term k.atom l.atom) (beq k.holds l.holds) e in
      ap tru (sym (terms_are k.atom l.atom h.0)) ∙ told ∙ bits_are k.holds l.holds h.1

  told_among : (ls : List Literal) (l : Literal) → AllTold names ls → has_literal ls l ≡ true → IsTold names l
  told_among [] l all e = absurd cc
  told_among (k ∷ ks) l all e = by (same_literal k l) refl e (λ h. told_among ks l all.1 h)
    where
      by : (b : Bool) → same_literal k l ≡ b → cond b true (has_literal ks l) ≡ true → (has_literal ks l ≡ true → IsTold names l) → IsTold names l
      by true is h rest = told_same k l is all.0
      by false is h rest = rest h

  -- ---- judging

  -- what a verdict says of a truth value
  abbrev Says : Verdict → Bool → Type 0
  Says Yes b = b ≡ true
  Says No b = b ≡ false
  Says Open b = Unit {0}

  says_turned : (v : Verdict) (b : Bool) → Says v b → Says (turned v) (not b)
  says_turned Yes b h = ap not h
  says_turned No b h = ap not h
  says_turned Open b h = tt

  false_and : (a b : Bool) → b ≡ false → (a && b) ≡ false
  false_and true b e = e
  false_and false b e = refl

  says_both : (v w : Verdict) (a b : Bool) → Says v a → Says w b → Says (both v w) (a && b)
  says_both No w a b h k = ap (λ (x : Bool). x && b) h
  says_both Yes Yes a b h k = two_true a b h k
  says_both Yes No a b h k = false_and a b k
  says_both Yes Open a b h k = tt
  says_both Open No a b h k = false_and a b k
  says_both Open Yes a b h k = tt
  says_both Open Open a b h k = tt

  true_or : (a b : Bool) → b ≡ true → (a || b) ≡ true
  true_or true b e = refl
  true_or false b e = e

  false_or : (a b : Bool) → a ≡ false → b ≡ false → (a || b) ≡ false
  false_or a b e f = rw (e, f) refl

  says_either : (v w : Verdict) (a b : Bool) → Says v a → Says w b → Says (either v w) (a || b)
  says_either Yes w a b h k = ap (λ (x : Bool). x || b) h
  says_either No Yes a b h k = true_or a b k
  says_either No No a b h k = false_or a b h k
  says_either No Open a b h k = tt
  says_either Open Yes a b h k = true_or a b k
  says_either Open No a b h k = tt
  says_either Open Open a b h k = tt

  says_atom : (ls : List Literal) (a : Term) → AllTold names ls → Says (of_atom ls a) (tru a)
  says_atom ls a all = by (has_literal ls (record { atom = a; holds = true })) refl (has_literal ls (record { atom = a; holds = false })) refl
    where
      by : (b : Bool) → has_literal ls (record { atom = a; holds = true }) ≡ b → (c : Bool) → has_literal ls (record { atom = a; holds = false }) ≡ c → Says (cond b Yes (cond c No Open)) (tru a)
      by true yes_is c no_is = told_among ls (record { atom = a; holds = true }) all yes_is
      by false yes_is true no_is = told_among ls (record { atom = a; holds = false }) all no_is
      by false yes_is false no_is = tt

  mutual
    says_judged : (ls : List Literal) (f : Term) → AllTold names ls → Says (judged ls f) (tru f)
    says_judged ls (Of term.denied (part f no_parts)) all = says_turned (judged ls f) (tru f) (says_judged ls f all)
    says_judged ls (Of term.all_of ps) all = says_all ls ps all
    says_judged ls (Of term.any_of ps) all = says_any ls ps all
    says_judged ls t all = says_atom ls t all

    says_all : (ls : List Literal) (ps : Parts) → AllTold names ls → Says (judged_all ls ps) (all_hold (senses_of ps) names)
    says_all ls no_parts all = refl
    says_all ls (part f fs) all = says_both (judged ls f) (judged_all ls fs) (tru f) (all_hold (senses_of fs) names) (says_judged ls f all) (says_all ls fs all)

    says_any : (ls : List Literal) (ps : Parts) → AllTold names ls → Says (judged_any ls ps) (any_holds (senses_of ps) names)
    says_any ls no_parts all = refl
    says_any ls (part f fs) all = says_either (judged ls f) (judged_any ls fs) (tru f) (any_holds (senses_of fs) names) (says_judged ls f all) (says_any ls fs all)

  yes_says : (v : Verdict) (b : Bool) → Says v b → v ≡ Yes → b ≡ true
  yes_says Yes b h e = h
  yes_says No b h e = absurd cc
  yes_says Open b h e = absurd cc

  no_says : (v : Verdict) (b : Bool) → Says v b → v ≡ No → b ≡ false
  no_says No b h e = h
  no_says Yes b h e = absurd cc
  no_says Open b h e = absurd cc

  -- ---- adding

  all_push : (ls : List Literal) (l : Literal) → AllTold names ls → IsTold names l → AllTold names (ls ++ l ∷ [])
  all_push [] l all one = (one, tt)
  all_push (k ∷ ks) l all one = (all.0, all_push ks l all.1 one)

  true_push : (fs : List Term) (f : Term) → AllTrue names fs → tru f ≡ true → AllTrue names (fs ++ f ∷ [])
  true_push [] f all one = (one, tt)
  true_push (g ∷ gs) f all one = (all.0, true_push gs f all.1 one)

  node_with_literal : (node : Node) (l : Literal) → IsTrueNode names node → IsTold names l → IsTrueNode names (with_literal node l)
  node_with_literal node l h one = by (has_literal node.literals l)
    where
      by : (b : Bool) → IsTrueNode names (cond b node (record { literals = node.literals ++ l ∷ []; pending = node.pending }))
      by true = h
      by false = record { literals = all_push node.literals l h.literals one; pending = h.pending }

  node_with_pending : (node : Node) (f : Term) → IsTrueNode names node → tru f ≡ true → IsTrueNode names (with_pending node f)
  node_with_pending node f h one = by (has_formula node.pending f)
    where
      by : (b : Bool) → IsTrueNode names (cond b node (record { literals = node.literals; pending = node.pending ++ f ∷ [] }))
      by true = h
      by false = record { literals = h.literals; pending = true_push node.pending f h.pending one }

  node_with_atom : (node : Node) (f : Term) (holds : Bool) (whole : Term) → IsTrueNode names node → tru f ≡ holds → tru whole ≡ true → IsTrueNode names (with_atom node f holds whole)
  node_with_atom node f holds whole h told one = by (is_atom f)
    where
      by : (b : Bool) → IsTrueNode names (cond b (with_literal node (record { atom = f; holds = holds })) (with_pending node whole))
      by true = node_with_literal node (record { atom = f; holds = holds }) h told
      by false = node_with_pending node whole h one

  un_not : (b : Bool) → not b ≡ true → b ≡ false
  un_not true e = absurd cc
  un_not false e = refl

  not_false : (b : Bool) → not b ≡ false → b ≡ true
  not_false true e = refl
  not_false false e = absurd cc

  or_false : (a b : Bool) → (a || b) ≡ false → (a ≡ false) × (b ≡ false)
  or_false true b e = absurd cc
  or_false false b e = (refl, e)

  mutual
    adds : (node : Node) (f : Term) → IsTrueNode names node → tru f ≡ true → IsTrueNode names (added node f)
    adds node (Of term.all_of ps) h e = adds_all node ps h e
    adds node (Of term.denied (part f no_parts)) h e = adds_denial node f h (un_not (tru f) e)
    adds node t h e = node_with_atom node t true t h e e

    adds_denial : (node : Node) (f : Term) → IsTrueNode names node → tru f ≡ false → IsTrueNode names (added_denial node f)
    adds_denial node (Of term.any_of ps) h e = denies_all node ps h e
    adds_denial node t h e = node_with_atom node t false (Not t) h e (ap not e)

    denies : (node : Node) (f : Term) → IsTrueNode names node → tru f ≡ false → IsTrueNode names (denied_one node f)
    denies node (Of term.denied (part f no_parts)) h e = adds node f h (not_false (tru f) e)
    denies node (Of term.any_of ps) h e = denies_all node ps h e
    denies node t h e = node_with_atom node t false (Not t) h e (ap not e)

    adds_all : (node : Node) (ps : Parts) → IsTrueNode names node → all_hold (senses_of ps) names ≡ true → IsTrueNode names (added_all node ps)
    adds_all node no_parts h e = h
    adds_all node (part f fs) h e =
        let p = and_both (tru f) (all_hold (senses_of fs) names) e in
        adds_all (added node f) fs (adds node f h p.0) p.1

    denies_all : (node : Node) (ps : Parts) → IsTrueNode names node → any_holds (senses_of ps) names ≡ false → IsTrueNode names (denied_all node ps)
    denies_all node no_parts h e = h
    denies_all node (part f fs) h e =
        let p = or_false (tru f) (any_holds (senses_of fs) names) e in
        denies_all (denied_one node f) fs (denies node f h p.0) p.1

  adds_formulas : (node : Node) (fs : List Term) → IsTrueNode names node → AllTrue names fs → IsTrueNode names (with_formulas node fs)
  adds_formulas node [] h all = h
  adds_formulas node (f ∷ fs) h all = adds_formulas (added node f) fs (adds node f h all.0) all.1

  nothing_told : IsTrueNode names bare
  nothing_told = record { literals = tt; pending = tt }

pub judges_truly : JudgesTruly
judges_truly names ls f all = (λ e. yes_says names (judged ls f) (sense names f).truth (says_judged names ls f all) e, λ e. no_says names (judged ls f) (sense names f).truth (says_judged names ls f all) e)

pub adds_truly : AddsTruly
adds_truly names node f h = (λ e. adds names node f h e, λ e. denies names node f h e)

pub begins_truly : BeginsTruly
begins_truly names c all untrue = denies names (with_formulas bare c.hyps) c.goal (adds_formulas names bare c.hyps (nothing_told names) all) untrue
