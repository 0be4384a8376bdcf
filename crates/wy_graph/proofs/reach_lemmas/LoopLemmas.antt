-- Labels tell which names lead back to themselves.
use Rattle.std.proofs.Common.{◌≡◌, ◌+◌, ◌<◌, ◌≤◌, ◌⊎◌, inl, inr, ℕ, zero, suc, Bool, true, false, ◌||◌, List, [], ◌∷◌, length, refl, sym, ap, subst, ◌∙◌, arith}
use Rattle.std.specs.Prelude.{◌==◌}
use Rattle.std.proofs.lemmas.Bool.{or_cases, or_left, or_right, eqb-true, eq-eqb, false_from_ne_true}
use Rattle.wy_graph.specs.closure.Closure.{has}
use Rattle.wy_graph.specs.cycles.Cycles.{Leads, stays, goes, label, TellCycles}
use Rattle.wy_lemmas.proofs.Choices.{same_test}
use Rattle.wy_graph.specs.declared.reach.entries.Entry.{Entry}
use Rattle.wy_graph.specs.reach.Reach.{names_at, leads_to, is_recursive}
use Rattle.wy_graph.specs.reach.Walks.{arrow, arrows_of, is_looped, loops_by, mark_at, MarkRecursive}
use Rattle.wy_graph.proofs.reach_lemmas.BoundedLemmas.{Grows, bounded}
use Rattle.wy_graph.proofs.reach_lemmas.ArrowLemmas.{some_found, some_of, some_more, mentions_within, mentioned_arrow, arrow_mention}

-- ---- reach in so many steps

-- the names from which this one is reached grow step by step
leads_grow : (es : List Entry) (to : ℕ) → Grows (leads_to es to) (length es)
leads_grow es to = record { empty = λ n h. cc; steps = steps; within = within }
  where
    steps : (i j : ℕ) → ((n : ℕ) → leads_to es to i n ≡ true → leads_to es to j n ≡ true) → (n : ℕ) → leads_to es to (suc i) n ≡ true → leads_to es to (suc j) n ≡ true
    steps i j up n h = some_more (λ m. (m == to) || leads_to es to i m) (λ m. (m == to) || leads_to es to j m) (names_at es n) one h
      where
        one : (m : ℕ) → ((m == to) || leads_to es to i m) ≡ true → ((m == to) || leads_to es to j m) ≡ true
        one m e = elim (or_cases (m == to) (leads_to es to i m) e) as (λ _. ((m == to) || leads_to es to j m) ≡ true) [
          | inl f ↦ or_left (m == to) (leads_to es to j m) f
          | inr f ↦ or_right (m == to) (leads_to es to j m) (up m f)
        ]

    within : (j n : ℕ) → leads_to es to j n ≡ true → n < length es
    within zero n h = absurd cc
    within (suc j) n h = let f = some_found (λ m. (m == to) || leads_to es to j m) (names_at es n) h in mentions_within es n f.name f.here

-- what is none of the names doesn't lead back to itself
pub past_plain : (es : List Entry) (n : ℕ) → length es ≤ n → is_recursive es n ≡ false
past_plain es n le = false_from_ne_true (is_recursive es n) (λ h. let l : n < length es = (leads_grow es n).within (length es) n h in omega (arith, l, le))

-- ---- reach by arrows

-- one step, and then arrows
back_by : (es : List Entry) (to j m : ℕ) → ((n : ℕ) → leads_to es to j n ≡ true → (k : ℕ) × (has (names_at es n) k ≡ true) × Leads (arrows_of 0 es) k to) → ((m == to) ≡ true) ⊎ (leads_to es to j m ≡ true) → Leads (arrows_of 0 es) m to
back_by es to j m rest (inl e) = stays (eqb-true m to e)
back_by es to j m rest (inr e) =
    let r = rest m e in
    let a = mentioned_arrow es m r.0 r.1 in
    goes a.0 (arrow m r.0) a.1 refl r.2

back : (es : List Entry) (to j n : ℕ) → leads_to es to j n ≡ true → (m : ℕ) × (has (names_at es n) m ≡ true) × Leads (arrows_of 0 es) m to
back es to zero n h = absurd cc
back es to (suc j) n h =
    let f = some_found (λ m. (m == to) || leads_to es to j m) (names_at es n) h in
    (f.name, f.here, back_by es to j f.name (λ m e. back es to j m e) (or_cases (f.name == to) (leads_to es to j f.name) f.so))

-- arrows in so many steps
steps_of : (es : List Entry) (a b : ℕ) → Leads (arrows_of 0 es) a b → (a ≡ b) ⊎ ((j : ℕ) × (leads_to es b j a ≡ true))
steps_of es a b (stays e) = inl e
steps_of es a b (goes i arrow at from rest) =
    let mention = arrow_mention es i arrow at in
    inr (by (steps_of es arrow.to b rest) mention.mentioned)
  where
    by : (arrow.to ≡ b) ⊎ ((j : ℕ) × (leads_to es b j arrow.to ≡ true)) → has (names_at es arrow.from) arrow.to ≡ true → (j : ℕ) × (leads_to es b j a ≡ true)
    by (inl e) h =
        (1, subst (λ (x : ℕ). leads_to es b 1 x ≡ true) from (some_of (λ m. (m == b) || leads_to es b 0 m) (names_at es arrow.from) arrow.to h (or_left (arrow.to == b) (leads_to es b 0 arrow.to) (eq-eqb arrow.to b e))))
    by (inr r) h =
        (suc r.0, subst (λ (x : ℕ). leads_to es b (suc r.0) x ≡ true) from (some_of (λ m. (m == b) || leads_to es b r.0 m) (names_at es arrow.from) arrow.to h (or_right (arrow.to == b) (leads_to es b r.0 arrow.to) r.1)))

-- ---- labels

looped_to : (es : List Entry) (labels : List ℕ) → TellCycles (arrows_of 0 es) labels → (n : ℕ) → is_looped labels n (names_at es n) ≡ true → is_recursive es n ≡ true
looped_to es labels cycles n h =
    let f = some_found (λ m. label labels n == label labels m) (names_at es n) h in
    let a = mentioned_arrow es n f.name f.here in
    let leads : Leads (arrows_of 0 es) f.name n = (cycles.tells a.0 (arrow n f.name) a.1).0 (eqb-true (label labels n) (label labels f.name) f.so) in
    by f.name f.here (steps_of es f.name n leads)
  where
    one : (j m : ℕ) → has (names_at es n) m ≡ true → ((m == n) || leads_to es n j m) ≡ true → is_recursive es n ≡ true
    one j m here so = bounded (leads_to es n) (length es) (leads_grow es n) (suc j) n (some_of (λ k. (k == n) || leads_to es n j k) (names_at es n) m here so)

    by : (m : ℕ) → has (names_at es n) m ≡ true → (m ≡ n) ⊎ ((j : ℕ) × (leads_to es n j m ≡ true)) → is_recursive es n ≡ true
    by m here (inl e) = one 0 m here (or_left (m == n) (leads_to es n 0 m) (eq-eqb m n e))
    by m here (inr r) = one r.0 m here (or_right (m == n) (leads_to es n r.0 m) r.1)

looped_from : (es : List Entry) (labels : List ℕ) → TellCycles (arrows_of 0 es) labels → (n : ℕ) → is_recursive es n ≡ true → is_looped labels n (names_at es n) ≡ true
looped_from es labels cycles n h =
    let r = back es n (length es) n h in
    let a = mentioned_arrow es n r.0 r.1 in
    some_of (λ m. label labels n == label labels m) (names_at es n) r.0 r.1 (eq-eqb (label labels n) (label labels r.0) ((cycles.tells a.0 (arrow n r.0) a.1).1 r.2))

-- a name leads back to itself exactly where it has the label of one that it mentions
pub looped_is : (es : List Entry) (labels : List ℕ) → TellCycles (arrows_of 0 es) labels → (n : ℕ) → is_looped labels n (names_at es n) ≡ is_recursive es n
looped_is es labels cycles n = same_test (is_looped labels n (names_at es n)) (is_recursive es n) (looped_to es labels cycles n) (looped_from es labels cycles n)

-- ---- marks

loops_at : (labels : List ℕ) (k : ℕ) (es : List Entry) (n : ℕ) → mark_at (loops_by labels k es) n ≡ is_looped labels (k + n) (names_at es n)
loops_at labels k [] n = refl
loops_at labels k (e ∷ es) zero = let h : k ≡ k + 0 = omega arith in ap (λ (x : ℕ). is_looped labels x e.names) h
loops_at labels k (e ∷ es) (suc n) = let h : suc k + n ≡ k + suc n = omega arith in loops_at labels (suc k) es n ∙ ap (λ (x : ℕ). is_looped labels x (names_at es n)) h

pub loops_mark : (es : List Entry) (labels : List ℕ) → TellCycles (arrows_of 0 es) labels → MarkRecursive (loops_by labels 0 es) es
loops_mark es labels cycles n =
    let h : 0 + n ≡ n = omega arith in
    loops_at labels 0 es n ∙ (ap (λ (x : ℕ). is_looped labels x (names_at es n)) h ∙ looped_is es labels cycles n)

-- the same of marks that are those
pub marks_are : (es : List Entry) (labels : List ℕ) (marks : List Bool) → marks ≡ loops_by labels 0 es → TellCycles (arrows_of 0 es) labels → MarkRecursive marks es
marks_are es labels marks is cycles = subst (λ (l : List Bool). MarkRecursive l es) (sym is) (loops_mark es labels cycles)
