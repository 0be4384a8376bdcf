-- What was copied already, as the list of nodes grows.
use Rattle.std.proofs.Common.{◌≡◌, ◌<◌, ◌≤◌, ◌+◌, ℕ, zero, suc, List, [], ◌∷◌, ◌++◌, All, length, get_or, take, Result, Ok, Err, Bool, true, false, cond, eqb, Option, Some, refl, sym, ap, ◌∙◌, subst, arith}
use Rattle.std.proofs.lemmas.Bool.{eqb-true}
use Rattle.std.specs.Prelude.{IfOk, OnOk}
use Rattle.std.proofs.lemmas.List.{take_more}
use Rattle.wy_value.proofs.wy_lemmas_proofs.Options.{some_number_is as same_number}
use Rattle.wy_term.specs.Term.{Symbol, Term, Of, Parts, part}
use Rattle.wy_term.specs.Nodes.{Plain, of, grown, node_at, tree_at, parts_at}
use Rattle.wy_term.specs.Numbers.{IsAt, Keeps}
use Rattle.wy_term.specs.Copying.{AreCopied, Looked}

pub looked_more : (f : ℕ → Option ℕ) (ks rs : List ℕ) (k r : ℕ) → Looked f ks rs → f k ≡ Some r → Looked f (ks ++ k ∷ []) (rs ++ r ∷ [])
looked_more f [] [] k r looked e = (e, tt)
looked_more f [] (s ∷ rs) k r looked e = absurd looked
looked_more f (j ∷ ks) [] k r looked e = absurd looked
looked_more f (j ∷ ks) (s ∷ rs) k r looked e = (looked.0, looked_more f ks rs k r looked.1 e)

pub looked_length : (f : ℕ → Option ℕ) (ks rs : List ℕ) → Looked f ks rs → length rs ≡ length ks
looked_length f [] [] looked = refl
looked_length f [] (s ∷ rs) looked = absurd looked
looked_length f (j ∷ ks) [] looked = absurd looked
looked_length f (j ∷ ks) (s ∷ rs) looked = ap suc (looked_length f ks rs looked.1)

pub AreCopied_kept : (from old new : List Plain) (f : ℕ → Option ℕ) → Keeps old new → AreCopied from old f → AreCopied from new f
AreCopied_kept from old new f k copied = record {
  copied = λ q r e.
      let m = copied.copied q r e in
      let is = m.1 in
      (m.0, record { within = omega (arith, k.grows, is.within); is = k.trees r is.within ∙ is.is });
}

pub AreCopied_put : (from to : List Plain) (f g : ℕ → Option ℕ) (k r : ℕ) → k < length from → IsAt to r (tree_at from k) → ((q : ℕ) → g q ≡ cond (eqb k q) (Some r) (f q)) → AreCopied from to f → AreCopied from to g
AreCopied_put from to f g k r lt at puts copied = record { copied = λ q s e. either q s (eqb k q) refl (sym (puts q) ∙ e) }
  where
    either : (q s : ℕ) (b : Bool) → eqb k q ≡ b → cond b (Some r) (f q) ≡ Some s → (q < length from) × IsAt to s (tree_at from q)
    either q s true t e =
        let same : k ≡ q = eqb-true k q t in
        let out : r ≡ s = same_number r s e in
        subst (λ (p : ℕ). (p < length from) × IsAt to s (tree_at from p)) same (subst (λ (p : ℕ). (k < length from) × IsAt to p (tree_at from k)) out (lt, at))
    either q s false t e = copied.copied q s e

pub copied_parts : (from to : List Plain) (f : ℕ → Option ℕ) (ks rs : List ℕ) → AreCopied from to f → Looked f ks rs → parts_at (tree_at to) rs ≡ parts_at (tree_at from) ks
copied_parts from to f [] [] copied looked = refl
copied_parts from to f [] (s ∷ rs) copied looked = absurd looked
copied_parts from to f (j ∷ ks) [] copied looked = absurd looked
copied_parts from to f (j ∷ ks) (s ∷ rs) copied looked =
    let m = copied.copied j s looked.0 in
    rw (m.1.is, copied_parts from to f ks rs copied looked.1) refl

pub copied_below : (from to : List Plain) (f : ℕ → Option ℕ) (ks rs : List ℕ) → AreCopied from to f → Looked f ks rs → All (λ k. k < length to) rs
copied_below from to f [] [] copied looked i d lt = absurd (omega arith)
copied_below from to f [] (s ∷ rs) copied looked i d lt = absurd looked
copied_below from to f (j ∷ ks) [] copied looked i d lt = absurd looked
copied_below from to f (j ∷ ks) (s ∷ rs) copied looked zero d lt = (copied.copied j s looked.0).1.within
copied_below from to f (j ∷ ks) (s ∷ rs) copied looked (suc i) d lt = copied_below from to f ks rs copied looked.1 i d (omega arith)

-- a node with the parts that were copied names the tree that was to be copied
pub copied_node : (from to new : List Plain) (f : ℕ → Option ℕ) (rs : List ℕ) (t r : ℕ) (p n : Plain) → AreCopied from to f → p ≡ node_at from t → Looked f (node_at from t).parts rs → tree_at from t ≡ grown (tree_at from) p → n ≡ of p.symbol rs → tree_at new r ≡ grown (tree_at to) n → tree_at new r ≡ tree_at from t
copied_node from to new f rs t r p n copied is looked tree made e =
    let all : Looked f p.parts rs = subst (λ (q : Plain). Looked f q.parts rs) (sym is) looked in
    e ∙ ap (grown (tree_at to)) made ∙ ap (λ (ps : Parts). Of p.symbol ps) (copied_parts from to f p.parts rs copied all) ∙ sym tree

-- one more that was looked up
pub looked_step : (f : ℕ → Option ℕ) (ks rs all : List ℕ) (k r : ℕ) → k < length ks → Looked f (take k ks) rs → f (get_or ks k 0) ≡ Some r → all ≡ rs ++ r ∷ [] → Looked f (take (k + 1) ks) all
looked_step f ks rs all k r lt looked e g =
    let more : take (k + 1) ks ≡ take k ks ++ get_or ks k 0 ∷ [] = take_more ks k 0 lt in
    subst (λ (js : List ℕ). Looked f js all) (sym more) (subst (λ (ss : List ℕ). Looked f (take k ks ++ get_or ks k 0 ∷ []) ss) (sym g) (looked_more f (take k ks) rs (get_or ks k 0) r looked e))

pub copied_ok : (from to new : List Plain) (f : ℕ → Option ℕ) (rs : List ℕ) (t : ℕ) (p n : Plain) {E : Type 0} (r : Result ℕ E) → AreCopied from to f → p ≡ node_at from t → Looked f (node_at from t).parts rs → tree_at from t ≡ grown (tree_at from) p → n ≡ of p.symbol rs → IfOk r (λ k. IsAt new k (grown (tree_at to) n)) → IfOk r (λ k. IsAt new k (tree_at from t))
copied_ok from to new f rs t p n (Ok k) copied is looked tree made at = record { within = at.within; is = copied_node from to new f rs t k p n copied is looked tree made at.is }
copied_ok from to new f rs t p n (Err x) copied is looked tree made at = tt

-- the answer to a note
pub noted_ok : (from to : List Plain) (f g : ℕ → Option ℕ) (k r : ℕ) {X E : Type 0} (a : Result X E) → k < length from → IsAt to r (tree_at from k) → AreCopied from to f → OnOk a ((q : ℕ) → g q ≡ cond (eqb k q) (Some r) (f q)) → OnOk a (AreCopied from to g)
noted_ok from to f g k r (Ok x) lt at copied puts = AreCopied_put from to f g k r lt at puts copied
noted_ok from to f g k r (Err x) lt at copied puts = tt
