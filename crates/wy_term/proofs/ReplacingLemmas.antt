-- What names stand for and what was made already, as the list of nodes grows.
use Rattle.std.proofs.Common.{◌≡◌, ◌<◌, ◌≤◌, ◌+◌, ◌-◌, ℕ, zero, suc, List, [], ◌∷◌, ◌++◌, All, length, get_or, drop, Bool, true, false, cond, eqb, ℤ, pos, ◌+ℤ◌, Option, Some, None, Result, Ok, Err, refl, sym, ap, ◌∙◌, subst, arith, length-append}
use Rattle.std.proofs.lemmas.Int.{ints}
use Rattle.std.proofs.lemmas.Bool.{eqb-true}
use Rattle.std.proofs.lemmas.List.{get_or_append_left}
use Rattle.std.proofs.Math.Seq.{get_or-append_seam}
use Rattle.std.specs.Prelude.{IfOk, OnOk, option_to_list, unwrap_or}
use Rattle.wy_value.proofs.wy_lemmas_proofs.Options.{some_number_is as same_number}
use Rattle.wy_term.specs.Term.{Symbol, Term, Of, Parts, part, leaf, Number}
use Rattle.wy_term.specs.Term as term
use Rattle.wy_term.specs.Nodes.{Plain, of, grown, tree_at, parts_at}
use Rattle.wy_term.specs.Rewriting.{rewritten}
use Rattle.wy_term.specs.Folding.{found, hidden, instances, parts_of, remade, replaced, replacers}
use Rattle.wy_term.specs.Numbers.{IsAt, Keeps}
use Rattle.wy_term.specs.ReplacingView.{seen_pairs, AreBelow, image_at, AreMade, names_one, IsOther}
use Rattle.wy_term.specs.Copying.{Looked}
use Rattle.wy_term.proofs.NumbersLemmas.{IsAt_kept, parts_kept}
use Rattle.wy_term.proofs.FoldLemmas.{followed, followed_push, followed_none}

-- ---- growing

pub seen_pairs_kept : (old new : List Plain) (ps : List (ℕ × ℕ)) → Keeps old new → AreBelow (length old) ps → seen_pairs (tree_at new) ps ≡ seen_pairs (tree_at old) ps
seen_pairs_kept old new [] k below = refl
seen_pairs_kept old new (p ∷ ps) k below =
    let here = below 0 p (omega arith) in
    rw (k.trees p.0 here.0, k.trees p.1 here.1, seen_pairs_kept old new ps k (λ i d lt. below (suc i) d (omega arith))) refl

pub AreBelow_kept : (old new : List Plain) (ps : List (ℕ × ℕ)) → Keeps old new → AreBelow (length old) ps → AreBelow (length new) ps
AreBelow_kept old new ps k below i d lt =
    let here = below i d lt in
    (omega (arith, k.grows, here.0), omega (arith, k.grows, here.1))

pub image_kept : (old new : List Plain) (ps : List (ℕ × ℕ)) (t : ℕ) → Keeps old new → AreBelow (length old) ps → t < length old → image_at new ps t ≡ image_at old ps t
image_kept old new ps t k below lt = rw (k.trees t lt, seen_pairs_kept old new ps k below) refl

pub AreMade_kept : (old new : List Plain) (ps : List (ℕ × ℕ)) (f : ℕ → Option ℕ) → Keeps old new → AreBelow (length old) ps → AreMade old ps f → AreMade new ps f
AreMade_kept old new ps f k below made = record {
  made = λ q r e.
      let m = made.made q r e in
      let is = m.1 in (
        omega (arith, k.grows, m.0),
        record {
          within = omega (arith, k.grows, is.within);
          is = k.trees r is.within ∙ is.is ∙ sym (image_kept old new ps q k below m.0);
        },
      );
}

AreMade_put : (nodes : List Plain) (ps : List (ℕ × ℕ)) (f g : ℕ → Option ℕ) (k r : ℕ) → k < length nodes → IsAt nodes r (image_at nodes ps k) → ((q : ℕ) → g q ≡ cond (eqb k q) (Some r) (f q)) → AreMade nodes ps f → AreMade nodes ps g
AreMade_put nodes ps f g k r lt at puts made = record { made = λ q s e. either q s (eqb k q) refl (sym (puts q) ∙ e) }
  where
    either : (q s : ℕ) (b : Bool) → eqb k q ≡ b → cond b (Some r) (f q) ≡ Some s → (q < length nodes) × IsAt nodes s (image_at nodes ps q)
    either q s true t e =
        let same : k ≡ q = eqb-true k q t in
        let out : r ≡ s = same_number r s e in
        subst (λ (p : ℕ). (p < length nodes) × IsAt nodes s (image_at nodes ps p)) same (subst (λ (p : ℕ). (k < length nodes) × IsAt nodes p (image_at nodes ps k)) out (lt, at))
    either q s false t e = made.made q s e

pub noted_image : (nodes : List Plain) (ps : List (ℕ × ℕ)) (f g : ℕ → Option ℕ) (k r : ℕ) {X E : Type 0} (a : Result X E) → k < length nodes → IsAt nodes r (image_at nodes ps k) → AreMade nodes ps f → OnOk a ((q : ℕ) → g q ≡ cond (eqb k q) (Some r) (f q)) → OnOk a (AreMade nodes ps g)
noted_image nodes ps f g k r (Ok x) lt at made puts = AreMade_put nodes ps f g k r lt at puts made
noted_image nodes ps f g k r (Err x) lt at made puts = tt

-- ---- what comes of a term

replaced_symbol : (symbol : Symbol) (ps : Parts) (env : List (Term × Term)) → names_one symbol ≡ false → replaced (Of symbol ps) env ≡ rewritten (Of symbol (parts_of (replacers ps) env))
replaced_symbol (term.int_name w n) ps env e = absurd cc
replaced_symbol (term.val_name w n) ps env e = absurd cc
replaced_symbol (term.every w n) ps env e = absurd cc
replaced_symbol (term.exists w n) ps env e = absurd cc
replaced_symbol symbol ps env e = refl

-- ---- parts that were looked up

pub made_parts : (nodes : List Plain) (ps : List (ℕ × ℕ)) (f : ℕ → Option ℕ) (ks rs : List ℕ) → AreMade nodes ps f → Looked f ks rs → parts_at (tree_at nodes) rs ≡ parts_of (replacers (parts_at (tree_at nodes) ks)) (seen_pairs (tree_at nodes) ps)
made_parts nodes ps f [] [] made looked = refl
made_parts nodes ps f [] (s ∷ rs) made looked = absurd looked
made_parts nodes ps f (j ∷ ks) [] made looked = absurd looked
made_parts nodes ps f (j ∷ ks) (s ∷ rs) made looked =
    let m = made.made j s looked.0 in
    rw (m.1.is, made_parts nodes ps f ks rs made looked.1) refl

pub made_below : (nodes : List Plain) (ps : List (ℕ × ℕ)) (f : ℕ → Option ℕ) (ks rs : List ℕ) → AreMade nodes ps f → Looked f ks rs → All (λ k. k < length nodes) rs
made_below nodes ps f [] [] made looked i d lt = absurd (omega arith)
made_below nodes ps f [] (s ∷ rs) made looked i d lt = absurd looked
made_below nodes ps f (j ∷ ks) [] made looked i d lt = absurd looked
made_below nodes ps f (j ∷ ks) (s ∷ rs) made looked zero d lt = (made.made j s looked.0).1.within
made_below nodes ps f (j ∷ ks) (s ∷ rs) made looked (suc i) d lt = made_below nodes ps f ks rs made looked.1 i d (omega arith)

-- the term with the parts that were looked up is what comes of the term
pub made_anew : (nodes : List Plain) (ps : List (ℕ × ℕ)) (f : ℕ → Option ℕ) (symbol : Symbol) (ks rs : List ℕ) (t : ℕ) → AreMade nodes ps f → Looked f ks rs → IsOther (tree_at nodes t) → tree_at nodes t ≡ Of symbol (parts_at (tree_at nodes) ks) → rewritten (Of symbol (parts_at (tree_at nodes) rs)) ≡ image_at nodes ps t
made_anew nodes ps f symbol ks rs t made looked other e =
    let plain : IsOther (Of symbol (parts_at (tree_at nodes) ks)) = subst IsOther e other in
    ap (λ (qs : Parts). rewritten (Of symbol qs)) (made_parts nodes ps f ks rs made looked)
    ∙ sym (replaced_symbol symbol (parts_at (tree_at nodes) ks) (seen_pairs (tree_at nodes) ps) plain)
    ∙ ap (λ (u : Term). replaced u (seen_pairs (tree_at nodes) ps)) (sym e)

pub anew_at : (old new : List Plain) (ps : List (ℕ × ℕ)) (f : ℕ → Option ℕ) (p n : Plain) (rs : List ℕ) (t k : ℕ) → AreMade old ps f → Looked f p.parts rs → IsOther (tree_at old t) → tree_at old t ≡ grown (tree_at old) p → n ≡ of p.symbol rs → IsAt new k (rewritten (grown (tree_at old) n)) → IsAt new k (image_at old ps t)
anew_at old new ps f p n rs t k made looked other tree is at = record {
  within = at.within;
  is = at.is ∙ ap (λ (m : Plain). rewritten (grown (tree_at old) m)) is ∙ made_anew old ps f p.symbol p.parts rs t made looked other tree;
}

-- ---- instances

-- one more part that was made
parts_more : (old new : List Plain) (ks : List ℕ) (r : ℕ) (t : Term) (qs all : Parts) → Keeps old new → All (λ k. k < length old) ks → tree_at new r ≡ t → followed (parts_at (tree_at old) ks) (part t qs) ≡ all → followed (parts_at (tree_at new) (ks ++ r ∷ [])) qs ≡ all
parts_more old new ks r t qs all k below e so_far =
    followed_push (tree_at new) ks r qs
    ∙ ap (λ (u : Term). followed (parts_at (tree_at new) ks) (part u qs)) e
    ∙ ap (λ (ps : Parts). followed ps (part t qs)) (parts_kept old new ks k below)
    ∙ so_far

instances_at : (body : List (Term × Term) → Term) (name : Term) (env : List (Term × Term)) (z : ℤ) (k n : ℕ) → k < n → instances body name env (z +ℤ pos k) (n - k) ≡ part (body ((name, Number (z +ℤ pos k)) ∷ env)) (instances body name env (z +ℤ pos (k + 1)) (n - (k + 1)))
instances_at body name env z k n lt =
    let e : n - k ≡ suc (n - (k + 1)) = omega arith in
    let f : (z +ℤ pos k) +ℤ pos 1 ≡ z +ℤ pos (k + 1) = omega (arith, ints) in
    ap (instances body name env (z +ℤ pos k)) e ∙ ap (λ (y : ℤ). part (body ((name, Number (z +ℤ pos k)) ∷ env)) (instances body name env y (n - (k + 1)))) f

-- the instances so far, and behind them those that are to come, are all instances
abbrev pub SoFar : List Plain → List ℕ → (List (Term × Term) → Term) → Term → List (Term × Term) → ℤ → ℕ → ℕ → Type 0
SoFar nodes members body name env z k n = followed (parts_at (tree_at nodes) members) (instances body name env (z +ℤ pos k) (n - k)) ≡ instances body name env z n

pub so_far_more : (old new : List Plain) (members more : List ℕ) (r : ℕ) (body : List (Term × Term) → Term) (name : Term) (env : List (Term × Term)) (z : ℤ) (k n : ℕ) → k < n → Keeps old new → All (λ i. i < length old) members → IsAt new r (body ((name, Number (z +ℤ pos k)) ∷ env)) → more ≡ members ++ r ∷ [] → SoFar old members body name env z k n → SoFar new more body name env z (k + 1) n
so_far_more old new members more r body name env z k n lt keeps below at pushed so_far =
    let rest = instances body name env (z +ℤ pos (k + 1)) (n - (k + 1)) in
    ap (λ (ks : List ℕ). followed (parts_at (tree_at new) ks) rest) pushed
    ∙ parts_more old new members r (body ((name, Number (z +ℤ pos k)) ∷ env)) rest (instances body name env z n) keeps below at.is
    (ap (followed (parts_at (tree_at old) members)) (sym (instances_at body name env z k n lt)) ∙ so_far)

pub so_far_last : (nodes : List Plain) (members : List ℕ) (body : List (Term × Term) → Term) (name : Term) (env : List (Term × Term)) (z : ℤ) (k n : ℕ) → n ≤ k → SoFar nodes members body name env z k n → parts_at (tree_at nodes) members ≡ instances body name env z n
so_far_last nodes members body name env z k n le so_far =
    let e : n - k ≡ 0 = omega arith in
    sym (ap (λ (j : ℕ). followed (parts_at (tree_at nodes) members) (instances body name env (z +ℤ pos k) j)) e ∙ followed_none (parts_at (tree_at nodes) members)) ∙ so_far

-- what comes of a term by pairs in a list that grew, by what the old numbers name
pub instance_kept : (old mid new : List Plain) (ps : List (ℕ × ℕ)) (b r : ℕ) (name value : Term) → Keeps old mid → AreBelow (length old) ps → b < length old → IsAt new r (replaced (tree_at mid b) ((name, value) ∷ seen_pairs (tree_at mid) ps)) → IsAt new r (replaced (tree_at old b) ((name, value) ∷ seen_pairs (tree_at old) ps))
instance_kept old mid new ps b r name value k below lt at = record {
  within = at.within;
  is = at.is ∙ (rw (k.trees b lt, seen_pairs_kept old mid ps k below) refl);
}

-- one more pair
pub paired : (old mid new : List Plain) (ps all : List (ℕ × ℕ)) (x v b r : ℕ) (name value : Term) → Keeps old mid → AreBelow (length old) ps → b < length old → all ≡ (x, v) ∷ ps → tree_at mid x ≡ name → tree_at mid v ≡ value → IsAt new r (image_at mid all b) → IsAt new r (replaced (tree_at old b) ((name, value) ∷ seen_pairs (tree_at old) ps))
paired old mid new ps all x v b r name value k below lt pushed is_name is_value at = record {
  within = at.within;
  is = at.is ∙ ap (λ (qs : List (ℕ × ℕ)). image_at mid qs b) pushed ∙ (rw (k.trees b lt, is_name, is_value, seen_pairs_kept old mid ps k below) refl);
}

-- ---- quantifiers

-- a body under a name, by what the old numbers name
hidden_kept : (old mid : List Plain) (ps : List (ℕ × ℕ)) (x b : ℕ) (name : Term) → Keeps old mid → AreBelow (length old) ps → b < length old → tree_at mid x ≡ name → replaced (tree_at mid b) (hidden (found (seen_pairs (tree_at mid) ps) (tree_at mid x)) (tree_at mid x) (seen_pairs (tree_at mid) ps)) ≡ replaced (tree_at old b) (hidden (found (seen_pairs (tree_at old) ps) name) name (seen_pairs (tree_at old) ps))
hidden_kept old mid ps x b name k below lt is = rw (k.trees b lt, is, seen_pairs_kept old mid ps k below) refl

pub body_hidden : (old mid : List Plain) (ps all : List (ℕ × ℕ)) (x b : ℕ) (name : Term) → Keeps old mid → AreBelow (length old) ps → b < length old → tree_at mid x ≡ name → all ≡ (x, x) ∷ ps → hidden (found (seen_pairs (tree_at mid) ps) (tree_at mid x)) (tree_at mid x) (seen_pairs (tree_at mid) ps) ≡ (tree_at mid x, tree_at mid x) ∷ seen_pairs (tree_at mid) ps → image_at mid all b ≡ replaced (tree_at old b) (hidden (found (seen_pairs (tree_at old) ps) name) name (seen_pairs (tree_at old) ps))
body_hidden old mid ps all x b name k below lt is pushed hides =
    ap (λ (qs : List (ℕ × ℕ)). image_at mid qs b) pushed
    ∙ ap (replaced (tree_at mid b)) (sym hides)
    ∙ hidden_kept old mid ps x b name k below lt is

pub body_shown : (old mid : List Plain) (ps : List (ℕ × ℕ)) (x b : ℕ) (name : Term) → Keeps old mid → AreBelow (length old) ps → b < length old → tree_at mid x ≡ name → hidden (found (seen_pairs (tree_at mid) ps) (tree_at mid x)) (tree_at mid x) (seen_pairs (tree_at mid) ps) ≡ seen_pairs (tree_at mid) ps → image_at old ps b ≡ replaced (tree_at old b) (hidden (found (seen_pairs (tree_at old) ps) name) name (seen_pairs (tree_at old) ps))
body_shown old mid ps x b name k below lt is hides =
    sym (image_kept old mid ps b k below lt)
    ∙ ap (replaced (tree_at mid b)) (sym hides)
    ∙ hidden_kept old mid ps x b name k below lt is

-- ---- what is taken from the list of what is to be made

pub popped_below : (n root t : ℕ) (old new : List ℕ) (o : Option ℕ) → root < n → All (λ k. k < n) old → old ≡ new ++ option_to_list o → t ≡ unwrap_or o root → t < n
popped_below n root t old new None lt below e is = subst (λ (k : ℕ). k < n) (sym is) lt
popped_below n root t old new (Some x) lt below e is =
    let inside : length new < length old = omega (arith, ap length e, length-append new (x ∷ [])) in
    let there : get_or old (length new) 0 ≡ x = ap (λ (ks : List ℕ). get_or ks (length new) 0) e ∙ get_or-append_seam new x [] 0 in
    subst (λ (k : ℕ). k < n) (there ∙ sym is) (below (length new) 0 inside)

pub rest_below : (n : ℕ) (old new more : List ℕ) → All (λ k. k < n) old → old ≡ new ++ more → All (λ k. k < n) new
rest_below n old new more below e i d lt =
    let inside : i < length old = omega (arith, lt, ap length e, length-append new more) in
    let there : get_or old i d ≡ get_or new i d = ap (λ (ks : List ℕ). get_or ks i d) e ∙ get_or_append_left new more d i lt in
    subst (λ (k : ℕ). k < n) there (below i d inside)

pub root_made : (old mid new : List Plain) (ps : List (ℕ × ℕ)) (t root r : ℕ) → Keeps old mid → AreBelow (length old) ps → root < length old → t ≡ root → IsAt new r (image_at mid ps t) → IsAt new r (image_at old ps root)
root_made old mid new ps t root r k below lt e at = record { within = at.within; is = at.is ∙ ap (image_at mid ps) e ∙ image_kept old mid ps root k below lt }

pub made_image : (mid new : List Plain) (ps : List (ℕ × ℕ)) (t r : ℕ) → Keeps mid new → AreBelow (length mid) ps → t < length mid → IsAt new r (image_at mid ps t) → IsAt new r (image_at new ps t)
made_image mid new ps t r k below lt at = record { within = at.within; is = at.is ∙ sym (image_kept mid new ps t k below lt) }

pub two_below : (n a b : ℕ) → a < n → b < n → All (λ k. k < n) (a ∷ b ∷ [])
two_below n a b lt_a lt_b zero d lt = lt_a
two_below n a b lt_a lt_b (suc zero) d lt = lt_b
two_below n a b lt_a lt_b (suc (suc i)) d lt = absurd (omega arith)

pub paired_if : (old mid new : List Plain) (ps all : List (ℕ × ℕ)) (x v b : ℕ) (name value : Term) {E : Type 0} (res : Result ℕ E) → Keeps old mid → AreBelow (length old) ps → b < length old → all ≡ (x, v) ∷ ps → tree_at mid x ≡ name → tree_at mid v ≡ value → IfOk res (λ r. IsAt new r (image_at mid all b)) → IfOk res (λ r. IsAt new r (replaced (tree_at old b) ((name, value) ∷ seen_pairs (tree_at old) ps)))
paired_if old mid new ps all x v b name value (Ok r) k below lt pushed is_name is_value at = paired old mid new ps all x v b r name value k below lt pushed is_name is_value at
paired_if old mid new ps all x v b name value (Err e) k below lt pushed is_name is_value at = tt

pub number_is : (nodes : List Plain) (r : ℕ) (body : List (Term × Term) → Term) (name : Term) (env : List (Term × Term)) (y z : ℤ) → y ≡ z → IsAt nodes r (body ((name, Number y) ∷ env)) → IsAt nodes r (body ((name, Number z) ∷ env))
number_is nodes r body name env y z e at = subst (λ (x : ℤ). IsAt nodes r (body ((name, Number x) ∷ env))) e at

pub item_below : (n : ℕ) (ks : List ℕ) (i r : ℕ) → All (λ k. k < n) ks → i < length ks → r ≡ get_or ks i r → r < n
item_below n ks i r below lt e = subst (λ (k : ℕ). k < n) (sym e) (below i r lt)
