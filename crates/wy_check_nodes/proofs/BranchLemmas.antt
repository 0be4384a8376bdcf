-- One literal or one pending formula more.
use Rattle.std.proofs.Common.{◌≡◌, ◌<◌, ℕ, zero, suc, take, List, [], ◌∷◌, ◌++◌, map, Bool, true, false, cond, Option, Some, None, refl, sym, ap, subst, ◌∙◌, arith}
use Rattle.std.specs.List.{list_any}
use Rattle.std.specs.Prelude.{slice_get, IfSome}
use Rattle.std.proofs.lemmas.List.{append-nil}
use Rattle.wy_lemmas.proofs.Choices.{cond_or}
use Rattle.wy_lemmas.proofs.Lists.{map_pushed as map_last}
use Rattle.wy_check_spec.specs.wy_term.Term.{Term}
use Rattle.wy_check_spec.specs.judge.Node.{Literal, has_literal, has_formula, Node, with_literal, with_pending}
use Rattle.wy_check_nodes.specs.Seen.{seen_literal, seen_formula, AreOver, IsBare, AreBare, same_signed, StartsWith}
use Rattle.wy_check_nodes.proofs.NameLemmas.{NamesOnce, one_literal, one_formula}

over_last : (n : ℕ) (ps : List (ℕ × Bool)) (p : ℕ × Bool) → AreOver n ps → p.0 < n → AreOver n (ps ++ p ∷ [])
over_last n [] p f lt = (lt, tt)
over_last n (q ∷ qs) p f lt = (f.0, over_last n qs p f.1 lt)

bare_last : (at : ℕ → Term) (ps : List (ℕ × Bool)) (p : ℕ × Bool) → AreBare at ps → IsBare at p → AreBare at (ps ++ p ∷ [])
bare_last at [] p f b = (b, tt)
bare_last at (q ∷ qs) p f b = (f.0, bare_last at qs p f.1 b)

abbrev put : List (ℕ × Bool) → ℕ × Bool → List (ℕ × Bool)
put ps p = cond (list_any (same_signed p) ps) ps (ps ++ p ∷ [])

pub over_put : (n : ℕ) (ps qs : List (ℕ × Bool)) (p : ℕ × Bool) → AreOver n ps → p.0 < n → qs ≡ put ps p → AreOver n qs
over_put n ps qs p f lt is = subst (AreOver n) (sym is) (by (list_any (same_signed p) ps))
  where
    by : (b : Bool) → AreOver n (cond b ps (ps ++ p ∷ []))
    by true = f
    by false = over_last n ps p f lt

pub bare_put : (at : ℕ → Term) (ps qs : List (ℕ × Bool)) (p : ℕ × Bool) → AreBare at ps → IsBare at p → qs ≡ put ps p → AreBare at qs
bare_put at ps qs p f b is = subst (AreBare at) (sym is) (by (list_any (same_signed p) ps))
  where
    by : (c : Bool) → AreBare at (cond c ps (ps ++ p ∷ []))
    by true = f
    by false = bare_last at ps p f b

-- ---- literals

pub among : (at : ℕ → Term) (n : ℕ) → NamesOnce at n → (ps : List (ℕ × Bool)) (p : ℕ × Bool) → AreOver n ps → p.0 < n → has_literal (map (seen_literal at) ps) (seen_literal at p) ≡ list_any (same_signed p) ps
among at n once [] p f lt = refl
among at n once (q ∷ qs) p f lt =
    ap (λ (b : Bool). cond b true (has_literal (map (seen_literal at) qs) (seen_literal at p))) (one_literal at n once p q lt f.0)
    ∙ ap (λ (b : Bool). cond (same_signed p q) true b) (among at n once qs p f.1 lt)
    ∙ cond_or (same_signed p q) (list_any (same_signed p) qs)

abbrev pub node : List Literal → List Term → Node
node ls fs = record { literals = ls; pending = fs }

pub literal_put : (at : ℕ → Term) (n : ℕ) → NamesOnce at n → (ps qs rs : List (ℕ × Bool)) (p : ℕ × Bool) → AreOver n ps → p.0 < n → qs ≡ put ps p → node (map (seen_literal at) qs) (map (seen_formula at) rs) ≡ with_literal (node (map (seen_literal at) ps) (map (seen_formula at) rs)) (seen_literal at p)
literal_put at n once ps qs rs p f lt is = by (list_any (same_signed p) ps) (among at n once ps p f lt) is
  where
    chosen : {b : Bool} → has_literal (map (seen_literal at) ps) (seen_literal at p) ≡ b → with_literal (node (map (seen_literal at) ps) (map (seen_formula at) rs)) (seen_literal at p) ≡ cond b (node (map (seen_literal at) ps) (map (seen_formula at) rs)) (node (map (seen_literal at) ps ++ seen_literal at p ∷ []) (map (seen_formula at) rs))
    chosen h = ap (λ (b : Bool). cond b (node (map (seen_literal at) ps) (map (seen_formula at) rs)) (node (map (seen_literal at) ps ++ seen_literal at p ∷ []) (map (seen_formula at) rs))) h

    by : (b : Bool) → has_literal (map (seen_literal at) ps) (seen_literal at p) ≡ b → qs ≡ cond b ps (ps ++ p ∷ []) → node (map (seen_literal at) qs) (map (seen_formula at) rs) ≡ with_literal (node (map (seen_literal at) ps) (map (seen_formula at) rs)) (seen_literal at p)
    by true h e = ap (λ (xs : List (ℕ × Bool)). node (map (seen_literal at) xs) (map (seen_formula at) rs)) e ∙ sym (chosen h)
    by false h e = ap (λ (xs : List (ℕ × Bool)). node (map (seen_literal at) xs) (map (seen_formula at) rs)) e ∙ (ap (λ (ls : List Literal). node ls (map (seen_formula at) rs)) (map_last (seen_literal at) ps p) ∙ sym (chosen h))

-- ---- pending formulas

pending_among : (at : ℕ → Term) (n : ℕ) → NamesOnce at n → (ps : List (ℕ × Bool)) (p : ℕ × Bool) → AreOver n ps → AreBare at ps → p.0 < n → IsBare at p → has_formula (map (seen_formula at) ps) (seen_formula at p) ≡ list_any (same_signed p) ps
pending_among at n once [] p f g lt b = refl
pending_among at n once (q ∷ qs) p f g lt b =
    ap (λ (c : Bool). cond c true (has_formula (map (seen_formula at) qs) (seen_formula at p))) (one_formula at n once p q lt f.0 b g.0)
    ∙ ap (λ (c : Bool). cond (same_signed p q) true c) (pending_among at n once qs p f.1 g.1 lt b)
    ∙ cond_or (same_signed p q) (list_any (same_signed p) qs)

pub pending_put : (at : ℕ → Term) (n : ℕ) → NamesOnce at n → (ps qs rs : List (ℕ × Bool)) (p : ℕ × Bool) → AreOver n ps → AreBare at ps → p.0 < n → IsBare at p → qs ≡ put ps p → node (map (seen_literal at) rs) (map (seen_formula at) qs) ≡ with_pending (node (map (seen_literal at) rs) (map (seen_formula at) ps)) (seen_formula at p)
pending_put at n once ps qs rs p f g lt b is = by (list_any (same_signed p) ps) (pending_among at n once ps p f g lt b) is
  where
    chosen : {c : Bool} → has_formula (map (seen_formula at) ps) (seen_formula at p) ≡ c → with_pending (node (map (seen_literal at) rs) (map (seen_formula at) ps)) (seen_formula at p) ≡ cond c (node (map (seen_literal at) rs) (map (seen_formula at) ps)) (node (map (seen_literal at) rs) (map (seen_formula at) ps ++ seen_formula at p ∷ []))
    chosen h = ap (λ (c : Bool). cond c (node (map (seen_literal at) rs) (map (seen_formula at) ps)) (node (map (seen_literal at) rs) (map (seen_formula at) ps ++ seen_formula at p ∷ []))) h

    by : (c : Bool) → has_formula (map (seen_formula at) ps) (seen_formula at p) ≡ c → qs ≡ cond c ps (ps ++ p ∷ []) → node (map (seen_literal at) rs) (map (seen_formula at) qs) ≡ with_pending (node (map (seen_literal at) rs) (map (seen_formula at) ps)) (seen_formula at p)
    by true h e = ap (λ (xs : List (ℕ × Bool)). node (map (seen_literal at) rs) (map (seen_formula at) xs)) e ∙ sym (chosen h)
    by false h e = ap (λ (xs : List (ℕ × Bool)). node (map (seen_literal at) rs) (map (seen_formula at) xs)) e ∙ (ap (λ (fs : List Term). node (map (seen_literal at) rs) fs) (map_last (seen_formula at) ps p) ∙ sym (chosen h))

-- ---- nodes that grow and shrink

pub starts_put : (ps qs : List (ℕ × Bool)) (p : ℕ × Bool) → qs ≡ put ps p → StartsWith ps qs
starts_put ps qs p is = by (list_any (same_signed p) ps) is
  where
    by : (b : Bool) → qs ≡ cond b ps (ps ++ p ∷ []) → StartsWith ps qs
    by true e = ([], e ∙ sym (append-nil ps))
    by false e = (p ∷ [], e)

pub starts_same : (ps : List (ℕ × Bool)) → StartsWith ps ps
starts_same ps = ([], sym (append-nil ps))

pub over_take : (n k : ℕ) (ps : List (ℕ × Bool)) → AreOver n ps → AreOver n (take k ps)
over_take n zero ps f = tt
over_take n (suc k) [] f = tt
over_take n (suc k) (p ∷ ps) f = (f.0, over_take n k ps f.1)

pub bare_take : (at : ℕ → Term) (k : ℕ) (ps : List (ℕ × Bool)) → AreBare at ps → AreBare at (take k ps)
bare_take at zero ps f = tt
bare_take at (suc k) [] f = tt
bare_take at (suc k) (p ∷ ps) f = (f.0, bare_take at k ps f.1)

pub over_get : (n : ℕ) (ps : List (ℕ × Bool)) (i : ℕ) (p : ℕ × Bool) → AreOver n ps → slice_get ps i ≡ Some p → p.0 < n
over_get n [] i p f e = absurd cc
over_get n (q ∷ qs) zero p f e = let is : q.0 ≡ p.0 = same q p e in omega (arith, is, f.0)
  where
    same : (x y : ℕ × Bool) → Some x ≡ Some y → x.0 ≡ y.0
    same x y h = let is : x ≡ y = cc in ap (λ (z : ℕ × Bool). z.0) is
over_get n (q ∷ qs) (suc i) p f e = over_get n qs i p f.1 e

pub over_some : (n : ℕ) (ps : List (ℕ × Bool)) (i : ℕ) (o : Option (ℕ × Bool)) → AreOver n ps → o ≡ slice_get ps i → IfSome o (λ (l : ℕ × Bool). l.0 < n)
over_some n ps i None f e = tt
over_some n ps i (Some p) f e = over_get n ps i p f (sym e)
