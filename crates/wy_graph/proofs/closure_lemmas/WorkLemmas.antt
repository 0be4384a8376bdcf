-- What is due when a clause was read.
use Rattle.std.proofs.Common.{◌≡◌, ℕ, zero, suc, ◌<◌, List, [], ◌∷◌, ◌++◌, length, Bool, true, ◌&&◌, ◌||◌, ◌⊎◌, inl, inr, set, Some, refl, sym, ap, subst, ◌∙◌, arith}
use Rattle.std.specs.Prelude.{slice_get}
use Rattle.std.specs.Option.{unwrap_or}
use Rattle.std.proofs.lemmas.Bool.{or_cases}
use Rattle.std.proofs.lemmas.Option.{slice_get_within}
use Rattle.wy_graph.specs.declared.closure.clauses.Clause.{Clause}
use Rattle.wy_graph.specs.closure.Marks.{mark_at, any_marked, each_marked}
use Rattle.wy_graph.specs.closure.Closure.{IsClosed, IsPending, has}
use Rattle.wy_graph.specs.closure.Index.{mentions, asking_at, IsIndex}
use Rattle.wy_graph.specs.closure.Work.{below}
use Rattle.wy_graph.proofs.closure_lemmas.MarkLemmas.{mark_set, mark_keeps, mark_old}
use Rattle.wy_graph.proofs.closure_lemmas.IndexLemmas.{has_left, has_right, has_or, has_one, has_self}
use Rattle.wy_lemmas.proofs.Choices.{both_parts as both, or_left, both_true as two_true, or_right}

pub one_clause : (x y : Clause) → Some x ≡ Some y → x ≡ y
one_clause x y e = cc

-- ---- what a mark more meets

any_old : (marks : List Bool) (h : ℕ) (ns : List ℕ) → any_marked (set marks h true) ns ≡ true → (any_marked marks ns ≡ true) ⊎ (has ns h ≡ true)
any_old marks h [] e = absurd cc
any_old marks h (n ∷ ns) e = by (or_cases (mark_at (set marks h true) n) (any_marked (set marks h true) ns) e) (λ f. any_old marks h ns f)
  where
    by : (mark_at (set marks h true) n ≡ true) ⊎ (any_marked (set marks h true) ns ≡ true) → (any_marked (set marks h true) ns ≡ true → (any_marked marks ns ≡ true) ⊎ (has ns h ≡ true))
        → ((mark_at marks n || any_marked marks ns) ≡ true) ⊎ (has (n ∷ ns) h ≡ true)
    by (inl f) rest = elim (mark_old marks h n f) as (λ _. ((mark_at marks n || any_marked marks ns) ≡ true) ⊎ (has (n ∷ ns) h ≡ true)) [
      | inl is ↦ inr (subst (λ (x : ℕ). has (n ∷ ns) x ≡ true) is (has_self n ns))
      | inr old ↦ inl (or_left (mark_at marks n) (any_marked marks ns) old)
    ]
    by (inr f) rest = elim (rest f) as (λ _. ((mark_at marks n || any_marked marks ns) ≡ true) ⊎ (has (n ∷ ns) h ≡ true)) [
      | inl g ↦ inl (or_right (mark_at marks n) (any_marked marks ns) g)
      | inr g ↦ inr (has_right (n ∷ []) ns h g)
    ]

each_old : (marks : List Bool) (h : ℕ) (body : List (List ℕ)) → each_marked (set marks h true) body ≡ true → (each_marked marks body ≡ true) ⊎ (mentions body h ≡ true)
each_old marks h [] e = inl refl
each_old marks h (ns ∷ more) e = by (any_old marks h ns (both (any_marked (set marks h true) ns) (each_marked (set marks h true) more) e).0) (each_old marks h more (both (any_marked (set marks h true) ns) (each_marked (set marks h true) more) e).1)
  where
    by : (any_marked marks ns ≡ true) ⊎ (has ns h ≡ true) → (each_marked marks more ≡ true) ⊎ (mentions more h ≡ true) → ((any_marked marks ns && each_marked marks more) ≡ true) ⊎ ((has ns h || mentions more h) ≡ true)
    by (inl f) (inl g) = inl (two_true (any_marked marks ns) (each_marked marks more) f g)
    by (inl f) (inr g) = inr (or_right (has ns h) (mentions more h) g)
    by (inr f) g = inr (or_left (has ns h) (mentions more h) f)

-- ---- what is due

pub not_due : (clauses : List Clause) (marks : List Bool) (due : List ℕ) (number : ℕ) → IsPending clauses marks (due ++ number ∷ [])
    → ((c : Clause) → slice_get clauses number ≡ Some c → each_marked marks c.body ≡ true → mark_at marks c.head ≡ true) → IsPending clauses marks due
not_due clauses marks due number pending done i c at met = by (pending i c at met)
  where
    by : (mark_at marks c.head ≡ true) ⊎ (has (due ++ number ∷ []) i ≡ true) → (mark_at marks c.head ≡ true) ⊎ (has due i ≡ true)
    by (inl m) = inl m
    by (inr h) = elim (has_or due (number ∷ []) i h) as (λ _. (mark_at marks c.head ≡ true) ⊎ (has due i ≡ true)) [
      | inl g ↦ inr g
      | inr g ↦ inl (done c (subst (λ (x : ℕ). slice_get clauses x ≡ Some c) (sym (has_one number i g)) at) met)
    ]

pub due_more : (clauses : List Clause) (marks : List Bool) (asking : List (List ℕ)) (due more : List ℕ) (number : ℕ) (c : Clause) → IsIndex clauses asking → length asking ≡ length marks → IsPending clauses marks (due ++ number ∷ [])
    → slice_get clauses number ≡ Some c → c.head < length marks → slice_get asking c.head ≡ Some more → IsPending clauses (set marks c.head true) (due ++ more)
due_more clauses marks asking due more number c index sizes pending at lt got i d here met = by (each_old marks c.head d.body met)
  where
    long : c.head < length asking
    long = omega (arith, sizes, lt)

    old : (mark_at marks d.head ≡ true) ⊎ (has (due ++ number ∷ []) i ≡ true) → (mark_at (set marks c.head true) d.head ≡ true) ⊎ (has (due ++ more) i ≡ true)
    old (inl m) = inl (mark_keeps marks c.head d.head m)
    old (inr h) = elim (has_or due (number ∷ []) i h) as (λ _. (mark_at (set marks c.head true) d.head ≡ true) ⊎ (has (due ++ more) i ≡ true)) [
      | inl g ↦ inr (has_left due more i g)
      | inr g ↦ (let same : c ≡ d = one_clause c d (sym at ∙ (ap (slice_get clauses) (has_one number i g) ∙ here)) in inl (subst (λ (x : Clause). mark_at (set marks c.head true) x.head ≡ true) same (mark_set marks c.head lt)))
    ]

    by : (each_marked marks d.body ≡ true) ⊎ (mentions d.body c.head ≡ true) → (mark_at (set marks c.head true) d.head ≡ true) ⊎ (has (due ++ more) i ≡ true)
    by (inl f) = old (pending i d here f)
    by (inr f) =
        let h : has (asking_at asking c.head) i ≡ true = index i d here c.head long f in
        let is : asking_at asking c.head ≡ more = ap (λ o. unwrap_or o []) got in
        inr (has_right due more i (subst (λ (l : List ℕ). has l i ≡ true) is h))

has_below : (n i : ℕ) → i < n → has (below n) i ≡ true
has_below zero i lt = absurd (omega (arith, lt))
has_below (suc n) i lt = by (less i n lt) (λ f. has_below n i f)
  where
    less : (i n : ℕ) → i < suc n → (i < n) ⊎ (n ≡ i)
    less zero zero lt = inr refl
    less zero (suc n) lt = inl (omega arith)
    less (suc i) zero lt = absurd (omega (arith, lt))
    less (suc i) (suc n) lt = elim (less i n (omega (arith, lt))) as (λ _. (suc i < suc n) ⊎ (suc n ≡ suc i)) [ inl f ↦ inl (omega (arith, f)) | inr f ↦ inr (ap suc f) ]

    by : (i < n) ⊎ (n ≡ i) → (i < n → has (below n) i ≡ true) → has (below n ++ n ∷ []) i ≡ true
    by (inl f) rest = has_left (below n) (n ∷ []) i (rest f)
    by (inr f) rest = has_right (below n) (n ∷ []) i (subst (λ (x : ℕ). has (n ∷ []) x ≡ true) f (has_self n []))

pub all_due : (clauses : List Clause) (marks : List Bool) (n : ℕ) → n ≡ length clauses → IsPending clauses marks (below n)
all_due clauses marks n is i c at met = inr (has_below n i (let w = slice_get_within clauses i c at in omega (arith, w, is)))

pub none_due : (clauses : List Clause) (marks : List Bool) (due : List ℕ) → due ≡ [] → IsPending clauses marks due → IsClosed clauses marks
none_due clauses marks due e pending i c at met = by (pending i c at met)
  where
    by : (mark_at marks c.head ≡ true) ⊎ (has due i ≡ true) → mark_at marks c.head ≡ true
    by (inl m) = m
    by (inr h) = absurd (let g : has [] i ≡ true = subst (λ (l : List ℕ). has l i ≡ true) e h in cc)
