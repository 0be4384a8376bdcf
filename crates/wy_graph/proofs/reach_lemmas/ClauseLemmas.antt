-- The least set closed under clauses is that of the names from which clauses are reached.
use Rattle.std.proofs.Common.{◌≡◌, ◌+◌, ◌<◌, ◌⊎◌, inl, inr, ℕ, zero, suc, Bool, true, false, ◌||◌, List, [], ◌∷◌, length, Some, Result, Ok, Err, IfOk, refl, sym, ap, subst, ◌∙◌, arith}
use Rattle.std.specs.Prelude.{slice_get}
use Rattle.std.proofs.lemmas.Bool.{or_cases, or_left, or_right, and_parts, and_from}
use Rattle.wy_graph.specs.declared.closure.clauses.Clause.{Clause}
use Rattle.wy_graph.specs.closure.Marks as close
use Rattle.wy_graph.specs.closure.Marks.{any_marked, each_marked}
use Rattle.wy_graph.specs.closure.Closure.{HaveHeads, IsClosed, IsReached, from_none, by_clause}
use Rattle.wy_graph.proofs.closure_lemmas.MarkLemmas.{mark_old}
use Rattle.wy_graph.proofs.cycles_lemmas.AncestorLemmas.{some_clause}
use Rattle.wy_lemmas.proofs.Choices.{same_test}
use Rattle.wy_graph.specs.declared.reach.entries.Entry.{Entry}
use Rattle.wy_graph.specs.reach.Reach.{entry_at, names_at, some, reaches_clauses}
use Rattle.wy_graph.specs.reach.Walks.{body_of, clause_of, clauses_of, mark_at}
use Rattle.wy_graph.proofs.reach_lemmas.BoundedLemmas.{Grows, bounded, grows_up}
use Rattle.wy_graph.proofs.reach_lemmas.ArrowLemmas.{some_found, some_more, mentions_within}

-- ---- reach in so many steps

has_within : (es : List Entry) (n : ℕ) → (entry_at es n).has_clauses ≡ true → n < length es
has_within [] n h = absurd cc
has_within (e ∷ es) zero h = omega arith
has_within (e ∷ es) (suc n) h = let l = has_within es n h in omega (arith, l)

reaches_grow : (es : List Entry) → Grows (reaches_clauses es) (length es)
reaches_grow es = record { empty = λ n h. cc; steps = steps; within = within }
  where
    steps : (i j : ℕ) → ((n : ℕ) → reaches_clauses es i n ≡ true → reaches_clauses es j n ≡ true) → (n : ℕ) → reaches_clauses es (suc i) n ≡ true → reaches_clauses es (suc j) n ≡ true
    steps i j up n h = elim (or_cases ((entry_at es n).has_clauses) (some (reaches_clauses es i) (names_at es n)) h) as (λ _. reaches_clauses es (suc j) n ≡ true) [
      | inl e ↦ or_left ((entry_at es n).has_clauses) (some (reaches_clauses es j) (names_at es n)) e
      | inr e ↦ or_right ((entry_at es n).has_clauses) (some (reaches_clauses es j) (names_at es n)) (some_more (reaches_clauses es i) (reaches_clauses es j) (names_at es n) up e)
    ]

    within : (j n : ℕ) → reaches_clauses es j n ≡ true → n < length es
    within zero n h = absurd cc
    within (suc j) n h = elim (or_cases ((entry_at es n).has_clauses) (some (reaches_clauses es j) (names_at es n)) h) as (λ _. n < length es) [
      | inl e ↦ has_within es n e
      | inr e ↦ let f = some_found (reaches_clauses es j) (names_at es n) e in mentions_within es n f.name f.here
    ]

-- ---- clauses

-- a clause is that of a name
record FromName (k : ℕ) (es : List Entry) (i : ℕ) (c : Clause) : Type 0 where
  within : i < length es
  is : clause_of (k + i) (entry_at es i) ≡ c

from_name : (k : ℕ) (es : List Entry) (i : ℕ) (c : Clause) → slice_get (clauses_of k es) i ≡ Some c → FromName k es i c
from_name k [] i c at = absurd cc
from_name k (e ∷ es) zero c at =
    let h : k + 0 ≡ k = omega arith in
    record { within = omega arith; is = ap (λ (x : ℕ). clause_of x e) h ∙ some_clause (clause_of k e) c at }
from_name k (e ∷ es) (suc i) c at =
    let r = from_name (suc k) es i c at in
    let h : k + suc i ≡ suc k + i = omega arith in
    record { within = (let l = r.within in omega (arith, l)); is = ap (λ (x : ℕ). clause_of x (entry_at es i)) h ∙ r.is }

clause_at : (k : ℕ) (es : List Entry) (n : ℕ) → n < length es → slice_get (clauses_of k es) n ≡ Some (clause_of (k + n) (entry_at es n))
clause_at k [] n lt = absurd (omega (arith, lt))
clause_at k (e ∷ es) zero lt = let h : k ≡ k + 0 = omega arith in ap (λ (x : ℕ). Some (clause_of x e)) h
clause_at k (e ∷ es) (suc n) lt = let h : suc k + n ≡ k + suc n = omega arith in clause_at (suc k) es n (omega (arith, lt)) ∙ ap (λ (x : ℕ). Some (clause_of x (entry_at es n))) h

pub heads : (es : List Entry) → HaveHeads (length es) (clauses_of 0 es)
heads es i c at =
    let r = from_name 0 es i c at in
    let l = r.within in
    let h : 0 + i < length es = omega (arith, l) in
    subst (λ (d : Clause). d.head < length es) r.is h

-- ---- marks

any_found : (marks : List Bool) (ns : List ℕ) → any_marked marks ns ≡ some (close.mark_at marks) ns
any_found marks [] = refl
any_found marks (n ∷ ns) = ap (λ (b : Bool). close.mark_at marks n || b) (any_found marks ns)

same_mark : (marks : List Bool) (n : ℕ) → mark_at marks n ≡ close.mark_at marks n
same_mark [] n = refl
same_mark (m ∷ marks) zero = refl
same_mark (m ∷ marks) (suc n) = same_mark marks n

-- a body that is met
body_met : (marks : List Bool) (b : Bool) (ns : List ℕ) → each_marked marks (body_of b ns) ≡ true → (b || some (close.mark_at marks) ns) ≡ true
body_met marks true ns h = refl
body_met marks false ns h = sym (any_found marks ns) ∙ (and_parts (any_marked marks ns) true h).0

met_body : (marks : List Bool) (b : Bool) (ns : List ℕ) → (b || some (close.mark_at marks) ns) ≡ true → each_marked marks (body_of b ns) ≡ true
met_body marks true ns h = refl
met_body marks false ns h = and_from (any_marked marks ns) true (any_found marks ns ∙ h) refl

-- a name whose clause is met by what reaches clauses reaches them
sound_here : (es : List Entry) (old : List Bool) (i : ℕ) (c : Clause) (n : ℕ) → ((m : ℕ) → close.mark_at old m ≡ true → reaches_clauses es (length es) m ≡ true) → FromName 0 es i c → each_marked old c.body ≡ true → n ≡ c.head → reaches_clauses es (length es) n ≡ true
sound_here es old i c n before r met is =
    let head : i ≡ n = (let e : 0 + i ≡ c.head = ap (λ (d : Clause). d.head) r.is in omega (arith, e, is)) in
    let body = body_met old ((entry_at es i).has_clauses) (names_at es i) (subst (λ (d : Clause). each_marked old d.body ≡ true) (sym r.is) met) in
    let step : reaches_clauses es (suc (length es)) i ≡ true = (elim (or_cases ((entry_at es i).has_clauses) (some (close.mark_at old) (names_at es i)) body) as (λ _. reaches_clauses es (suc (length es)) i ≡ true) [
      | inl e ↦ or_left ((entry_at es i).has_clauses) (some (reaches_clauses es (length es)) (names_at es i)) e
      | inr e ↦ or_right ((entry_at es i).has_clauses) (some (reaches_clauses es (length es)) (names_at es i)) (some_more (close.mark_at old) (reaches_clauses es (length es)) (names_at es i) before e)
    ]) in
    subst (λ (x : ℕ). reaches_clauses es (length es) x ≡ true) head (bounded (reaches_clauses es) (length es) (reaches_grow es) (suc (length es)) i step)

sound_more : (es : List Entry) (old : List Bool) (i : ℕ) (c : Clause) (n : ℕ) → ((m : ℕ) → close.mark_at old m ≡ true → reaches_clauses es (length es) m ≡ true) → slice_get (clauses_of 0 es) i ≡ Some c → each_marked old c.body ≡ true
    → (n ≡ c.head) ⊎ (close.mark_at old n ≡ true) → reaches_clauses es (length es) n ≡ true
sound_more es old i c n before at met (inr was) = before n was
sound_more es old i c n before at met (inl is) = sound_here es old i c n before (from_name 0 es i c at) met is

-- what is marked reaches clauses
sound : (es : List Entry) (marks : List Bool) → IsReached (clauses_of 0 es) marks → (n : ℕ) → close.mark_at marks n ≡ true → reaches_clauses es (length es) n ≡ true
sound es marks (from_none same none) n h = absurd (cc (none n, h))
sound es marks (by_clause old i c before at met) n h = sound_more es old i c n (sound es old before) at met (mark_old old c.head n h)

-- what reaches clauses is marked
complete : (es : List Entry) (marks : List Bool) → IsClosed (clauses_of 0 es) marks → (j n : ℕ) → reaches_clauses es j n ≡ true → close.mark_at marks n ≡ true
complete es marks closed zero n h = absurd cc
complete es marks closed (suc j) n h =
    let within : n < length es = (reaches_grow es).within (suc j) n h in
    let met : ((entry_at es n).has_clauses || some (close.mark_at marks) (names_at es n)) ≡ true = (elim (or_cases ((entry_at es n).has_clauses) (some (reaches_clauses es j) (names_at es n)) h) as (λ _. ((entry_at es n).has_clauses || some (close.mark_at marks) (names_at es n)) ≡ true) [
      | inl e ↦ or_left ((entry_at es n).has_clauses) (some (close.mark_at marks) (names_at es n)) e
      | inr e ↦ or_right ((entry_at es n).has_clauses) (some (close.mark_at marks) (names_at es n)) (some_more (reaches_clauses es j) (close.mark_at marks) (names_at es n) (complete es marks closed j) e)
    ]) in
    let head : close.mark_at marks (0 + n) ≡ true = closed n (clause_of (0 + n) (entry_at es n)) (clause_at 0 es n within) (met_body marks ((entry_at es n).has_clauses) (names_at es n) met) in
    let e : 0 + n ≡ n = omega arith in
    subst (λ (x : ℕ). close.mark_at marks x ≡ true) e head

pub marks_reach : (es : List Entry) (marks : List Bool) → IsReached (clauses_of 0 es) marks → IsClosed (clauses_of 0 es) marks → (n : ℕ) → mark_at marks n ≡ reaches_clauses es (suc (length es)) n
marks_reach es marks reached closed n = same_mark marks n ∙ same_test (close.mark_at marks n) (reaches_clauses es (suc (length es)) n)
    (λ h. grows_up (reaches_clauses es) (length es) (reaches_grow es) (length es) n (sound es marks reached n h))
    (complete es marks closed (suc (length es)) n)

pub reach_if : {E : Type 0} (es : List Entry) (clauses : List Clause) (result : Result (List Bool) E) → clauses ≡ clauses_of 0 es → IfOk result (λ marks. IsReached clauses marks) → IfOk result (λ marks. IsClosed clauses marks)
    → IfOk result (λ marks. (n : ℕ) → mark_at marks n ≡ reaches_clauses es (suc (length es)) n)
reach_if es clauses (Err e) same reached closed = tt
reach_if es clauses (Ok marks) same reached closed = marks_reach es marks (subst (λ (cs : List Clause). IsReached cs marks) same reached) (subst (λ (cs : List Clause). IsClosed cs marks) same closed)
