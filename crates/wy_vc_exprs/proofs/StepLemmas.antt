-- What is done behind the parts of an expression.
use Rattle.std.proofs.Common.{Vec, Bool, ◌≡◌, ◌<◌, ℕ, suc, List, [], ◌∷◌, ◌++◌, length, ◌∙◌, sym, ap, subst}
use Rattle.std.specs.declared.alloc.Global.{Global}
use Rattle.std.proofs.lemmas.List.{append-nil}
use Rattle.wy_core.specs.declared.expressions.Op.{Op}
use Rattle.wy_term.specs.declared.cond.CondKind.{CondKind}
use Rattle.wy_term.specs.declared.cond.CondKind.TheVariants as kinds
use Rattle.wy_term.specs.Term.{Term}
use Rattle.wy_term.specs.Nodes.{Plain, tree_at}
use Rattle.wy_term.specs.Numbers.{IsAt}
use Rattle.wy_vc_terms.specs.wy_vc_spec.Making as term_of
use Rattle.wy_vc_terms.specs.wy_vc_spec.Operations as op
use Rattle.wy_vc_terms.specs.wy_vc_spec.Values.{Valued}
use Rattle.wy_vc_terms.specs.wy_vc_spec.Owed.{Owed, assume, assume_all, owe}
use Rattle.wy_vc_terms.specs.wy_vc_spec.Clauses.{Passed, passed}
use Rattle.wy_vc_terms.specs.wy_vc_spec.Walks.{Goals, goals_of, assume_goals, owe_goals, owing, free, range_goals, operator_goals, right_hyps}
use Rattle.wy_vc_operations.proofs.GrowingLemmas.{here_kept}
use Rattle.wy_vc_operations.specs.Growing.{Kept, Makes}
use Rattle.wy_vc_terms.specs.declared.maker.Maker.{Maker}
use Rattle.wy_vc_exprs.specs.Numbered.{trees_of}
use Rattle.wy_vc_exprs.specs.State.{IsSound, Steps, Walks, hyps_of}
use Rattle.wy_vc_exprs.specs.declared.walk.Walk.{Walk}
use Rattle.wy_vc_exprs.specs.declared.goal.Goal.{Goal}
use Rattle.wy_vc_exprs.proofs.NumberedLemmas.{kept_then}
use Rattle.wy_vc_exprs.proofs.StateLemmas.{steps_made, steps_on, steps_as, steps_noded, walks_made, steps_none}
use Rattle.wy_vc_exprs.specs.Owing.{passed_goals, range_hyps, MakesAll}

-- a term is made, and an expression is passed
pub finish_made : (a b : Walk) (ts : List Plain) (n r : ℕ) (t : Term) → IsSound a → Makes a.maker.terms ts r t → b.maker ≡ record { terms = ts; count = a.maker.count; node = n } → b.hyps ≡ a.hyps → b.owed ≡ a.owed → Walks a b r (free a.maker.count (hyps_of a) t [])
finish_made a b ts n r t sound made maker hyps owed =
    let terms : b.maker.terms ≡ ts = ap (λ (m : Maker). m.terms) maker in
    walks_made a b r t sound (subst (λ (ns : List Plain). Kept a.maker.terms ns) (sym terms) made.kept)
    (ap (λ (hs : Vec ℕ Global). hs.items) hyps) (ap (λ (os : Vec Goal Global). os.items) owed) (ap (λ (m : Maker). m.count) maker)
    (subst (λ (ns : List Plain). IsAt ns r t) (sym terms) made.here)

-- goals are made, and then owed
pub goals_owed : (kind : CondKind) (at : ℕ) (a b c : Walk) (xs ks : List ℕ) (ts : List Term) → IsSound a → xs ≡ ks → MakesAll a.maker.terms b.maker.terms ks ts → b.hyps.items ≡ a.hyps.items → b.owed.items ≡ a.owed.items → b.maker.count ≡ a.maker.count
    → Steps b c (passed b.maker.count (assume_all (hyps_of b) (trees_of b.maker.terms xs)) (owe kind at (hyps_of b) (trees_of b.maker.terms xs)))
    → Steps a c (passed_goals at a.maker.count (hyps_of a) (goals_of kind ts ∷ []))
goals_owed kind at a b c xs ks ts sound same made hyps owed count s =
    let s' = subst (λ (us : List Term). Steps b c (passed b.maker.count (assume_all (hyps_of b) us) (owe kind at (hyps_of b) us))) (ap (λ (ys : List ℕ). trees_of b.maker.terms ys) same ∙ made.are.are) s in
    let all = steps_on (λ hs n. passed n (assume_all hs ts) (owe kind at hs ts)) a b c (passed b.maker.count (hyps_of a) []) (steps_made a b sound made.kept hyps owed) s' in
    steps_as a c (passed b.maker.count (assume_all (hyps_of a) ts) (owe kind at (hyps_of a) ts)) (passed_goals at a.maker.count (hyps_of a) (goals_of kind ts ∷ []))
    (ap (λ (n : ℕ). passed n (assume_all (hyps_of a) ts) (owe kind at (hyps_of a) ts)) count
    ∙ ap (λ (os : List Owed). passed a.maker.count (assume_all (hyps_of a) ts) os) (sym (append-nil (owe kind at (hyps_of a) ts)))) all

-- these goals, and then those
pub goals_then : (at : ℕ) (a b c : Walk) (g : Goals) (gs : List Goals) → Steps a b (passed_goals at a.maker.count (hyps_of a) (g ∷ [])) → Steps b c (passed_goals at b.maker.count (hyps_of b) gs) → Steps a c (passed_goals at a.maker.count (hyps_of a) (g ∷ gs))
goals_then at a b c g gs first second =
    let hyps = assume_all (hyps_of a) g.goals in
    steps_as a c (passed a.maker.count (assume_goals hyps gs) ((owe g.kind at (hyps_of a) g.goals ++ []) ++ owe_goals at hyps gs)) (passed_goals at a.maker.count (hyps_of a) (g ∷ gs))
    (ap (λ (os : List Owed). passed a.maker.count (assume_goals hyps gs) (os ++ owe_goals at hyps gs)) (append-nil (owe g.kind at (hyps_of a) g.goals)))
    (steps_on (λ hs n. passed_goals at n hs gs) a b c (passed_goals at a.maker.count (hyps_of a) (g ∷ [])) first second)

-- a term is made, goals are owed, and an expression is passed
pub finish_goals : (at : ℕ) (a b c d : Walk) (n r : ℕ) (t : Term) (gs hs : List Goals) → IsSound a → Makes a.maker.terms b.maker.terms r t → b.hyps.items ≡ a.hyps.items → b.owed.items ≡ a.owed.items → b.maker.count ≡ a.maker.count
    → Steps b c (passed_goals at b.maker.count (hyps_of b) gs) → gs ≡ hs
    → d.maker ≡ record c.maker { node = n } → d.hyps ≡ c.hyps → d.owed ≡ c.owed
    → Walks a d r (owing at a.maker.count (hyps_of a) t hs [])
finish_goals at a b c d n r t gs hs sound made hyps owed count s same maker hyps' owed' =
    let s' = subst (λ (x : List Goals). Steps b c (passed_goals at b.maker.count (hyps_of b) x)) same s in
    let all = steps_on (λ xs m. passed_goals at m xs hs) a b c (passed b.maker.count (hyps_of a) []) (steps_made a b sound made.kept hyps owed) s' in
    let all' = steps_as a c (passed_goals at b.maker.count (hyps_of a) hs) (passed_goals at a.maker.count (hyps_of a) hs) (ap (λ (m : ℕ). passed_goals at m (hyps_of a) hs) count) all in
    record {
      steps = steps_noded a c d (passed_goals at a.maker.count (hyps_of a) hs) all' (ap (λ (m : Maker). m.terms) maker) (ap (λ (m : Maker). m.count) maker) hyps' owed';
      is = subst (λ (ns : List Plain). IsAt ns r t) (sym (ap (λ (m : Maker). m.terms) maker)) (here_kept s.kept made.here);
    }

-- a formula is made and assumed
pub made_assumed : (a b c : Walk) (f : ℕ) (t : Term) → IsSound a → Makes a.maker.terms b.maker.terms f t → b.hyps.items ≡ a.hyps.items → b.owed.items ≡ a.owed.items → b.maker.count ≡ a.maker.count
    → Steps b c (passed b.maker.count (assume (hyps_of b) (tree_at b.maker.terms f)) [])
    → Steps a c (passed a.maker.count (assume (hyps_of a) t) [])
made_assumed a b c f t sound made hyps owed count s =
    let s' = subst (λ (x : Term). Steps b c (passed b.maker.count (assume (hyps_of b) x) [])) made.here.is s in
    let all = steps_on (λ xs m. passed m (assume xs t) []) a b c (passed b.maker.count (hyps_of a) []) (steps_made a b sound made.kept hyps owed) s' in
    steps_as a c (passed b.maker.count (assume (hyps_of a) t) []) (passed a.maker.count (assume (hyps_of a) t) []) (ap (λ (m : ℕ). passed m (assume (hyps_of a) t) []) count) all

-- ---- small steps

pub ap_two : {A B C : Type 0} (g : A → B → C) {s s' : A} {t t' : B} → s ≡ s' → t ≡ t' → g s t ≡ g s' t'
ap_two g {s} {s'} {t} {t'} e f = ap (λ x. g x t) e ∙ ap (λ y. g s' y) f

pub onward : {a b c : List Plain} {r : ℕ} {t : Term} → Kept a b → Makes b c r t → Makes a c r t
onward k m = record { here = m.here; kept = kept_then k m.kept }

-- the range of a quotient, whose term is the same behind its divisor
pub quotient_range : (at : ℕ) (a b c : Walk) (r : ℕ) → tree_at b.maker.terms r ≡ tree_at a.maker.terms r
    → Steps b c (passed_goals at b.maker.count (hyps_of b) (goals_of kinds.Range (range_goals (tree_at b.maker.terms r)) ∷ []))
    → Steps b c (passed_goals at b.maker.count (hyps_of b) (goals_of kinds.Range (range_goals (tree_at a.maker.terms r)) ∷ []))
quotient_range at a b c r same s = subst (λ (t : Term). Steps b c (passed_goals at b.maker.count (hyps_of b) (goals_of kinds.Range (range_goals t) ∷ []))) same s

-- a quantifier's word
pub word_made : (old new : List Plain) (r : ℕ) (all : Bool) (w w' : List ℕ) (n : ℕ) (x y z : Term) → w' ≡ w → Makes old new r (op.quantified all w' n x y z) → Makes old new r (op.quantified all w n x y z)
word_made old new r all w w' n x y z same m = subst (λ (v : List ℕ). Makes old new r (op.quantified all v n x y z)) same m

-- a test of a type
pub finish_tested : (a b : Walk) (m : Maker) (ts : List Plain) (n f r : ℕ) (v : Valued) → IsSound a → Makes a.maker.terms m.terms f v.term → m.count ≡ v.count → Makes m.terms ts r (term_of.value_of v.term) → b.maker ≡ record { terms = ts; count = m.count; node = n } → b.hyps ≡ a.hyps → b.owed ≡ a.owed → Walks a b r (free v.count (hyps_of a) (term_of.value_of v.term) [])
finish_tested a b m ts n f r v sound held names made maker hyps owed =
    let terms : b.maker.terms ≡ ts = ap (λ (x : Maker). x.terms) maker in
    record {
      steps = steps_as a b (passed b.maker.count (hyps_of a) []) (passed v.count (hyps_of a) []) (ap (λ (x : ℕ). passed x (hyps_of a) []) (ap (λ (x : Maker). x.count) maker ∙ names))
          (steps_made a b sound (subst (λ (ns : List Plain). Kept a.maker.terms ns) (sym terms) (kept_then held.kept made.kept))
          (ap (λ (hs : Vec ℕ Global). hs.items) hyps) (ap (λ (os : Vec Goal Global). os.items) owed));
      is = subst (λ (ns : List Plain). IsAt ns r (term_of.value_of v.term)) (sym terms) made.here;
    }

-- ---- where a quantifier's body begins

pub name_word : (m m' : Maker) (ts : List Plain) (r : ℕ) (w w' : List ℕ) (n : ℕ) → w' ≡ w → n ≡ m.count → m' ≡ record m { count = suc m.count } → Makes m'.terms ts r (term_of.int_name w' n) → Makes m.terms ts r (term_of.int_name w m.count)
name_word m m' ts r w w' n word number maker made =
    subst (λ (ns : List Plain). Makes ns ts r (term_of.int_name w m.count)) (ap (λ (x : Maker). x.terms) maker)
    (subst (λ (k : ℕ). Makes m'.terms ts r (term_of.int_name w k)) number (subst (λ (v : List ℕ). Makes m'.terms ts r (term_of.int_name v n)) word made))

pub name_count : (m m' : Maker) → m' ≡ record m { count = suc m.count } → m'.count ≡ suc m.count
name_count m m' maker = ap (λ (x : Maker). x.count) maker

pub begin_bound : (b c d : Walk) (p q : Passed) (name : ℕ) (i : Term) (old : List Plain) → Makes old b.maker.terms name i → Steps b c p → Steps c d q → IsAt d.maker.terms name i
begin_bound b c d p q name i old made s t = here_kept (kept_then s.kept t.kept) made.here

pub begin_steps : (a b c d e : Walk) (from below name : ℕ) (i : Term) → IsSound a → from < length a.maker.terms → below < length a.maker.terms → Makes a.maker.terms b.maker.terms name i → b.maker.count ≡ suc a.maker.count → b.hyps.items ≡ a.hyps.items → b.owed.items ≡ a.owed.items
    → Steps b c (passed b.maker.count (assume (hyps_of b) (term_of.at_most (term_of.num (tree_at b.maker.terms from)) (tree_at b.maker.terms name))) [])
    → Steps c d (passed c.maker.count (assume (hyps_of c) (term_of.less_than (tree_at c.maker.terms name) (term_of.num (tree_at c.maker.terms below)))) [])
    → Kept d.maker.terms e.maker.terms → e.hyps.items ≡ d.hyps.items → e.owed.items ≡ d.owed.items → e.maker.count ≡ d.maker.count
    → Steps a e (passed (suc a.maker.count) (range_hyps i (tree_at a.maker.terms from) (tree_at a.maker.terms below) (hyps_of a)) [])
begin_steps a b c d e from below name i sound lt_from lt_below made count hyps owed s t kept hyps' owed' count' =
    let F = tree_at a.maker.terms from in
    let B = tree_at a.maker.terms below in
    let first = steps_made a b sound made.kept hyps owed in
    let s1 = subst (λ (x : Term). Steps b c (passed b.maker.count (assume (hyps_of b) (term_of.at_most (term_of.num x) (tree_at b.maker.terms name))) [])) (made.kept.trees from lt_from) s in
    let s2 = subst (λ (x : Term). Steps b c (passed b.maker.count (assume (hyps_of b) (term_of.at_most (term_of.num F) x)) [])) made.here.is s1 in
    let t1 = subst (λ (x : Term). Steps c d (passed c.maker.count (assume (hyps_of c) (term_of.less_than (tree_at c.maker.terms name) (term_of.num x))) [])) ((kept_then made.kept s.kept).trees below lt_below) t in
    let t2 = subst (λ (x : Term). Steps c d (passed c.maker.count (assume (hyps_of c) (term_of.less_than x (term_of.num B))) [])) (here_kept s.kept made.here).is t1 in
    let to_c = steps_on (λ hs n. passed n (assume hs (term_of.at_most (term_of.num F) i)) []) a b c (passed b.maker.count (hyps_of a) []) first s2 in
    let to_d = steps_on (λ hs n. passed n (assume hs (term_of.less_than i (term_of.num B))) []) a c d (passed b.maker.count (assume (hyps_of a) (term_of.at_most (term_of.num F) i)) []) to_c t2 in
    let to_e = steps_on (λ hs n. passed e.maker.count hs []) a d e (passed b.maker.count (range_hyps i F B (hyps_of a)) []) to_d (steps_made d e t.sound kept hyps' owed') in
    steps_as a e (passed e.maker.count (range_hyps i F B (hyps_of a)) []) (passed (suc a.maker.count) (range_hyps i F B (hyps_of a)) [])
    (ap (λ (n : ℕ). passed n (range_hyps i F B (hyps_of a)) []) (count' ∙ to_d.count ∙ count)) to_e

-- an operator whose right side may assume no more
pub right_none : (a : Walk) (o o' : Op) (t : Term) → o ≡ o' → right_hyps o' t (hyps_of a) ≡ hyps_of a → IsSound a → Steps a a (passed a.maker.count (right_hyps o t (hyps_of a)) [])
right_none a o o' t is none sound = steps_as a a (passed a.maker.count (hyps_of a) []) (passed a.maker.count (right_hyps o t (hyps_of a)) []) (ap (λ (hs : List Term). passed a.maker.count hs []) (sym (ap (λ (x : Op). right_hyps x t (hyps_of a)) is ∙ none))) (steps_none a sound)

-- an operator that owes nothing
pub goals_no : (at : ℕ) (a : Walk) (o o' : Op) (w v : Term) → o ≡ o' → operator_goals o' w v ≡ [] → IsSound a → Steps a a (passed_goals at a.maker.count (hyps_of a) (operator_goals o w v))
goals_no at a o o' w v is none sound = subst (λ (gs : List Goals). Steps a a (passed_goals at a.maker.count (hyps_of a) gs)) (sym (ap (λ (x : Op). operator_goals x w v) is ∙ none)) (steps_none a sound)
