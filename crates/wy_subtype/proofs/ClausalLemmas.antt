-- The least set of the clauses of what was reached is that of the parts and conjuncts with a value.
use Rattle.std.proofs.Common.{◌≡◌, ℕ, zero, suc, ◌+◌, ◌<◌, ◌≤◌, List, [], ◌∷◌, ◌++◌, length, drop, Bool, true, false, ◌||◌, ◌⊎◌, inl, inr, set, Some, refl, sym, ap, subst, ◌∙◌, arith}
use Rattle.std.specs.Prelude.{slice_get}
use Rattle.std.proofs.lemmas.Bool.{or_cases}
use Rattle.std.proofs.lemmas.Option.{slice_get_within}
use Rattle.wy_lemmas.proofs.Choices.{both_parts as both, or_left, both_true as two_true, or_right}
use Rattle.wy_lemmas.proofs.Lists.{get_front}
use Rattle.wy_lemmas.proofs.Options.{some_is as same_some}
use Rattle.wy_canon.specs.wy_value.Datum.{Datum}
use Rattle.wy_canon.specs.wy_types.declared.conjuncts.Signed.{Signed}
use Rattle.wy_canon.specs.wy_types.declared.conjuncts.Conjunct.{Conjunct}
use Rattle.wy_canon.specs.wy_types.declared.table.Table.{Table}
use Rattle.wy_canon.specs.wy_types.Shape.{conjunct_in, any_in, part_in}
use Rattle.wy_canon.specs.wy_types.Membership.{shape_of, member}
use Rattle.wy_canon.specs.wy_types.Ranked.{IsRanked}
use Rattle.wy_canon.specs.wy_types.Conjuncts.{dnf_part}
use Rattle.wy_canon.specs.wy_types.Asks.{HasValue}
use Rattle.wy_canon.proofs.wy_types_proofs.RankedLemmas.{has_laws}
use Rattle.wy_canon.proofs.wy_types_proofs.TermLemmas.{any_in-dnf_part}
use Rattle.wy_canon.proofs.wy_types_proofs.AskLemmas.{options_of-value}
use Rattle.wy_graph.specs.declared.closure.clauses.Clause.{Clause}
use Rattle.wy_graph.specs.closure.Closure.{HaveHeads, IsClosed, IsReached, from_none, by_clause}
use Rattle.wy_graph.proofs.closure_lemmas.MarkLemmas.{mark_old}
use Rattle.wy_subtype.specs.declared.reach.Reach.{Reach}
use Rattle.wy_subtype.specs.Clausal.{shifted, clause, part_clauses, option_clauses, ask_clauses}
use Rattle.wy_subtype.specs.Known.{options_of, IsKnown}
use Rattle.wy_subtype.specs.Marks.{mark_at, any_marked, each_marked, met, part_marks, HaveValues, AreSound, AreClosedBy}
use Rattle.wy_subtype.specs.Numbers.{AreAt, AreAllAt}
use Rattle.wy_subtype.proofs.MarkLemmas.{met-value, part_mark}
use Rattle.wy_subtype.proofs.NumberLemmas.{get_within}

-- ---- places

get_or_back : {X : Type 0} (xs ys : List X) (i : ℕ) (x : X) → slice_get (xs ++ ys) i ≡ Some x → (slice_get xs i ≡ Some x) ⊎ ((j : ℕ) × (slice_get ys j ≡ Some x))
get_or_back [] ys i x e = inr (i, e)
get_or_back (y ∷ xs) ys zero x e = inl e
get_or_back (y ∷ xs) ys (suc i) x e = get_or_back xs ys i x e

get_back : {X : Type 0} (xs ys : List X) (i : ℕ) (x : X) → slice_get ys i ≡ Some x → (j : ℕ) × (slice_get (xs ++ ys) j ≡ Some x)
get_back [] ys i x e = (i, e)
get_back (y ∷ xs) ys i x e = let r = get_back xs ys i x e in (suc r.0, r.1)

mark_drop : (n : ℕ) (marks : List Bool) (j : ℕ) → mark_at (drop n marks) j ≡ mark_at marks (n + j)
mark_drop zero marks j = ap (mark_at marks) (let e : j ≡ 0 + j = omega arith in e)
mark_drop (suc n) [] j = refl
mark_drop (suc n) (m ∷ marks) j = mark_drop n marks j ∙ ap (mark_at (m ∷ marks)) (let e : suc (n + j) ≡ suc n + j = omega arith in e)

-- ---- which clauses there are

-- a clause of a part
abbrev IsPartClause : ℕ → ℕ → List (List ℕ) → Clause → Type 0
IsPartClause base i heads c = (n : ℕ) × (h : List ℕ) × (slice_get heads n ≡ Some h) × (c ≡ clause (i + n) (shifted base h ∷ []))

part_clause_is : (base i : ℕ) (heads : List (List ℕ)) (at : ℕ) (c : Clause) → slice_get (part_clauses base i heads) at ≡ Some c → IsPartClause base i heads c
part_clause_is base i [] at c e = absurd cc
part_clause_is base i (h ∷ hs) zero c e = (0, h, refl, sym (same_some (clause i (shifted base h ∷ [])) c e) ∙ ap (λ n. clause n (shifted base h ∷ [])) (let s : i ≡ i + 0 = omega arith in s))
part_clause_is base i (h ∷ hs) (suc at) c e =
    let r = part_clause_is base (suc i) hs at c e in
    (suc r.0, r.1, r.2, r.3 ∙ ap (λ n. clause n (shifted base r.1 ∷ [])) (let s : suc i + r.0 ≡ i + suc r.0 = omega arith in s))

part_clause_at : (base i : ℕ) (heads : List (List ℕ)) (n : ℕ) (h : List ℕ) → slice_get heads n ≡ Some h → (at : ℕ) × (slice_get (part_clauses base i heads) at ≡ Some (clause (i + n) (shifted base h ∷ [])))
part_clause_at base i [] n h e = absurd cc
part_clause_at base i (x ∷ hs) zero h e = (0, ap (λ (y : List ℕ). Some (clause i (shifted base y ∷ []))) (same_some x h e) ∙ ap (λ n. Some (clause n (shifted base h ∷ []))) (let s : i ≡ i + 0 = omega arith in s))
part_clause_at base i (x ∷ hs) (suc n) h e =
    let r = part_clause_at base (suc i) hs n h e in
    (suc r.0, r.1 ∙ ap (λ m. Some (clause m (shifted base h ∷ []))) (let s : suc i + n ≡ i + suc n = omega arith in s))

option_is : (head : ℕ) (os : List (List (List ℕ))) (at : ℕ) (c : Clause) → slice_get (option_clauses head os) at ≡ Some c → (c.head ≡ head) × ((marks : List Bool) → each_marked marks c.body ≡ true → met marks os ≡ true)
option_is head [] at c e = absurd cc
option_is head (o ∷ os) zero c e =
    let is : clause head o ≡ c = same_some (clause head o) c e in
    (ap (λ (x : Clause). x.head) (sym is), λ marks m. or_left (each_marked marks o) (met marks os) (subst (λ (x : Clause). each_marked marks x.body ≡ true) (sym is) m))
option_is head (o ∷ os) (suc at) c e = let r = option_is head os at c e in (r.0, λ marks m. or_right (each_marked marks o) (met marks os) (r.1 marks m))

option_at : (head : ℕ) (os : List (List (List ℕ))) (marks : List Bool) → met marks os ≡ true → (at : ℕ) × (body : List (List ℕ)) × (slice_get (option_clauses head os) at ≡ Some (clause head body)) × (each_marked marks body ≡ true)
option_at head [] marks m = absurd cc
option_at head (o ∷ os) marks m = by (or_cases (each_marked marks o) (met marks os) m) (λ f. option_at head os marks f)
  where
    by : (each_marked marks o ≡ true) ⊎ (met marks os ≡ true)
        → (met marks os ≡ true → (at : ℕ) × (body : List (List ℕ)) × (slice_get (option_clauses head os) at ≡ Some (clause head body)) × (each_marked marks body ≡ true))
        → (at : ℕ) × (body : List (List ℕ)) × (slice_get (option_clauses head (o ∷ os)) at ≡ Some (clause head body)) × (each_marked marks body ≡ true)
    by (inl f) rest = (0, o, refl, f)
    by (inr f) rest = let r = rest f in (suc r.0, r.1, r.2, r.3)

-- a clause of a conjunct
abbrev IsAskClause : ℕ → ℕ → List (List (List (List ℕ))) → Clause → Type 0
IsAskClause base i asks c = (j : ℕ) × (a : List (List (List ℕ))) × (slice_get asks j ≡ Some a) × (c.head ≡ base + (i + j)) × ((marks : List Bool) → each_marked marks c.body ≡ true → met marks a ≡ true)

ask_clause_is : (base i : ℕ) (asks : List (List (List (List ℕ)))) (at : ℕ) (c : Clause) → slice_get (ask_clauses base i asks) at ≡ Some c → IsAskClause base i asks c
ask_clause_is base i [] at c e = absurd cc
ask_clause_is base i (a ∷ asks) at c e = by (get_or_back (option_clauses (base + i) a) (ask_clauses base (suc i) asks) at c e) (λ j f. ask_clause_is base (suc i) asks j c f)
  where
    by : (slice_get (option_clauses (base + i) a) at ≡ Some c) ⊎ ((j : ℕ) × (slice_get (ask_clauses base (suc i) asks) j ≡ Some c)) → ((j : ℕ) → slice_get (ask_clauses base (suc i) asks) j ≡ Some c → IsAskClause base (suc i) asks c) → IsAskClause base i (a ∷ asks) c
    by (inl f) rest = let r = option_is (base + i) a at c f in (0, a, refl, (let h = r.0 in omega (arith, h)), r.1)
    by (inr f) rest = let r = rest f.0 f.1 in (suc r.0, r.1, r.2, (let h = r.3 in omega (arith, h)), r.4)

ask_clause_at : (base i : ℕ) (asks : List (List (List (List ℕ)))) (j : ℕ) (a : List (List (List ℕ))) (marks : List Bool) → slice_get asks j ≡ Some a → met marks a ≡ true
    → (at : ℕ) × (c : Clause) × (slice_get (ask_clauses base i asks) at ≡ Some c) × (c.head ≡ base + (i + j)) × (each_marked marks c.body ≡ true)
ask_clause_at base i [] j a marks e m = absurd cc
ask_clause_at base i (x ∷ asks) zero a marks e m =
    let o = option_at (base + i) x marks (subst (λ (y : List (List (List ℕ))). met marks y ≡ true) (sym (same_some x a e)) m) in
    (o.0, clause (base + i) o.1, get_front (option_clauses (base + i) x) (ask_clauses base (suc i) asks) o.0 (clause (base + i) o.1) o.2, omega arith, o.3)
ask_clause_at base i (x ∷ asks) (suc j) a marks e m =
    let r = ask_clause_at base (suc i) asks j a marks e m in
    let b = get_back (option_clauses (base + i) x) (ask_clauses base (suc i) asks) r.0 r.1 r.2 in
    (b.0, r.1, b.1, (let h = r.3 in omega (arith, h)), r.4)

-- ---- numbers behind the parts

any_shifted : (base : ℕ) (marks : List Bool) (h : List ℕ) → any_marked marks (shifted base h) ≡ any_marked (drop base marks) h
any_shifted base marks [] = refl
any_shifted base marks (n ∷ ns) =
    ap (λ b. b || any_marked marks (shifted base ns)) (sym (mark_drop base marks n)) ∙ ap (λ b. mark_at (drop base marks) n || b) (any_shifted base marks ns)

module _ (table : Table) (k : ℕ) (ranked : (rank : ℕ → ℕ) × IsRanked table rank k) (first : List (Signed ℕ)) (r : Reach) (known : IsKnown table k first r) (base : ℕ) (is_base : base ≡ length r.parts) where
  abbrev pub all_clauses : List Clause
  all_clauses = part_clauses base 0 r.heads ++ ask_clauses base 0 r.asks

  -- what is marked has a value
  abbrev IsRight : List Bool → Type 0
  IsRight marks = HaveValues table k r.parts marks × ((j : ℕ) (c : Conjunct ℕ) → mark_at marks (base + j) ≡ true → slice_get r.conjuncts j ≡ Some c → (d : Datum) × (conjunct_in (shape_of table k d) c ≡ true))

  one_of_head : (marks : List Bool) → IsRight marks → (h : List ℕ) (cs : List (Conjunct ℕ)) → AreAt r.conjuncts h cs → any_marked marks (shifted base h) ≡ true → (d : Datum) × (any_in (shape_of table k d) cs ≡ true)
  one_of_head marks right [] [] a e = absurd cc
  one_of_head marks right [] (c ∷ cs) a e = absurd a
  one_of_head marks right (j ∷ js) [] a e = absurd a
  one_of_head marks right (j ∷ js) (c ∷ cs) a e = by (or_cases (mark_at marks (base + j)) (any_marked marks (shifted base js)) e) (λ f. one_of_head marks right js cs a.1 f)
    where
      by : (mark_at marks (base + j) ≡ true) ⊎ (any_marked marks (shifted base js) ≡ true) → (any_marked marks (shifted base js) ≡ true → (d : Datum) × (any_in (shape_of table k d) cs ≡ true)) → (d : Datum) × (any_in (shape_of table k d) (c ∷ cs) ≡ true)
      by (inl f) rest = let v = right.1 j c f a.0 in (v.0, or_left (conjunct_in (shape_of table k v.0) c) (any_in (shape_of table k v.0) cs) v.1)
      by (inr f) rest = let v = rest f in (v.0, or_right (conjunct_in (shape_of table k v.0) c) (any_in (shape_of table k v.0) cs) v.1)

  part_right : (marks : List Bool) → IsRight marks → (n : ℕ) (h : List ℕ) → slice_get r.heads n ≡ Some h → any_marked marks (shifted base h) ≡ true → (p : List (Signed ℕ)) → slice_get r.parts n ≡ Some p → HasValue table k p
  part_right marks right n h got m p at =
      let v = one_of_head marks right h (dnf_part table k p) (known.headed n p h at got) m in
      (v.0, sym (any_in-dnf_part table k (shape_of table k v.0) (has_laws table ranked.0 k ranked.1 v.0) p) ∙ v.1)

  right_part : (marks : List Bool) (c : Clause) → IsRight marks → IsPartClause base 0 r.heads c → each_marked marks c.body ≡ true → IsRight (set marks c.head true)
  right_part marks c right is met =
      let at : c.head ≡ 0 + is.0 = ap (λ (x : Clause). x.head) is.3 in
      let here : any_marked marks (shifted base is.1) ≡ true = (both (any_marked marks (shifted base is.1)) true (subst (λ (x : Clause). each_marked marks x.body ≡ true) is.3 met)).0 in
      let lt : is.0 < length r.heads = slice_get_within r.heads is.0 is.1 is.2 in
      let count = known.counted in
      (λ m p e f. parts at here m p (mark_old marks c.head m e) f, λ j d e f. conjuncts at lt count j d (mark_old marks c.head (base + j) e) f)
    where
      parts : c.head ≡ 0 + is.0 → any_marked marks (shifted base is.1) ≡ true → (m : ℕ) (p : List (Signed ℕ)) → (m ≡ c.head) ⊎ (mark_at marks m ≡ true) → slice_get r.parts m ≡ Some p → HasValue table k p
      parts at here m p (inl e) f =
          let same : m ≡ is.0 = omega (arith, e, at) in
          part_right marks right is.0 is.1 is.2 here p (subst (λ (x : ℕ). slice_get r.parts x ≡ Some p) same f)
      parts at here m p (inr e) f = right.0 m p e f

      conjuncts : c.head ≡ 0 + is.0 → is.0 < length r.heads → length r.heads ≡ length r.parts → (j : ℕ) (d : Conjunct ℕ) → (base + j ≡ c.head) ⊎ (mark_at marks (base + j) ≡ true) → slice_get r.conjuncts j ≡ Some d → (x : Datum) × (conjunct_in (shape_of table k x) d ≡ true)
      conjuncts at lt count j d (inl e) f = absurd (omega (arith, e, at, lt, count, is_base))
      conjuncts at lt count j d (inr e) f = right.1 j d e f

  right_ask : (marks : List Bool) (c : Clause) → IsRight marks → IsAskClause base 0 r.asks c → each_marked marks c.body ≡ true → IsRight (set marks c.head true)
  right_ask marks c right is met =
      (λ m p e f. parts m p (mark_old marks c.head m e) f, λ j d e f. conjuncts j d (mark_old marks c.head (base + j) e) f)
    where
      parts : (m : ℕ) (p : List (Signed ℕ)) → (m ≡ c.head) ⊎ (mark_at marks m ≡ true) → slice_get r.parts m ≡ Some p → HasValue table k p
      parts m p (inl e) f = absurd (let lt : m < length r.parts = slice_get_within r.parts m p f in let h = is.3 in omega (arith, e, h, lt, is_base))
      parts m p (inr e) f = right.0 m p e f

      conjuncts : (j : ℕ) (d : Conjunct ℕ) → (base + j ≡ c.head) ⊎ (mark_at marks (base + j) ≡ true) → slice_get r.conjuncts j ≡ Some d → (x : Datum) × (conjunct_in (shape_of table k x) d ≡ true)
      conjuncts j d (inl e) f =
          let same : j ≡ is.0 = (let h = is.3 in omega (arith, e, h)) in
          options_of-value table ranked.0 k ranked.1 d.positive d.negatives
          (met-value table k r.parts marks right.0 is.1 (options_of table k d) (known.asked is.0 d is.1 (subst (λ (x : ℕ). slice_get r.conjuncts x ≡ Some d) same f) is.2) (is.4 marks met))
      conjuncts j d (inr e) f = right.1 j d e f

  right_more : (marks : List Bool) (i : ℕ) (c : Clause) → IsRight marks → slice_get all_clauses i ≡ Some c → each_marked marks c.body ≡ true → IsRight (set marks c.head true)
  right_more marks i c right at fits = by (get_or_back (part_clauses base 0 r.heads) (ask_clauses base 0 r.asks) i c at)
    where
      by : (slice_get (part_clauses base 0 r.heads) i ≡ Some c) ⊎ ((j : ℕ) × (slice_get (ask_clauses base 0 r.asks) j ≡ Some c)) → IsRight (set marks c.head true)
      by (inl f) = right_part marks c right (part_clause_is base 0 r.heads i c f) fits
      by (inr f) = right_ask marks c right (ask_clause_is base 0 r.asks f.0 c f.1) fits

  reached_right : (marks : List Bool) → IsReached all_clauses marks → IsRight marks
  reached_right _ (from_none marks h) = (λ n p e f. absurd (let g = h n in cc (e, g)), λ j c e f. absurd (let g = h (base + j) in cc (e, g)))
  reached_right _ (by_clause marks i c before at met) = right_more marks i c (reached_right marks before) at met

  pub sound_from : (marks : List Bool) → IsReached all_clauses marks → AreSound table k r.conjuncts (drop base marks)
  sound_from marks reached j c m at = (reached_right marks reached).1 j c (sym (mark_drop base marks j) ∙ m) at

  -- ---- and the other way round

  part_some : (marks : List Bool) (heads : List (List ℕ)) (n : ℕ) → mark_at (part_marks marks heads) n ≡ true → (h : List ℕ) × (slice_get heads n ≡ Some h) × (any_marked marks h ≡ true)
  part_some marks [] n e = absurd cc
  part_some marks (h ∷ heads) zero e = (h, refl, e)
  part_some marks (h ∷ heads) (suc n) e = part_some marks heads n e

  any_up : (xs ys : List Bool) → ((n : ℕ) → mark_at xs n ≡ true → mark_at ys n ≡ true) → (ns : List ℕ) → any_marked xs ns ≡ true → any_marked ys ns ≡ true
  any_up xs ys up [] e = absurd cc
  any_up xs ys up (n ∷ ns) e = elim (or_cases (mark_at xs n) (any_marked xs ns) e) as (λ _. (mark_at ys n || any_marked ys ns) ≡ true) [
    | inl f ↦ or_left (mark_at ys n) (any_marked ys ns) (up n f)
    | inr f ↦ or_right (mark_at ys n) (any_marked ys ns) (any_up xs ys up ns f)
  ]

  each_up : (xs ys : List Bool) → ((n : ℕ) → mark_at xs n ≡ true → mark_at ys n ≡ true) → (a : List (List ℕ)) → each_marked xs a ≡ true → each_marked ys a ≡ true
  each_up xs ys up [] e = refl
  each_up xs ys up (ns ∷ a) e = let b = both (any_marked xs ns) (each_marked xs a) e in two_true (any_marked ys ns) (each_marked ys a) (any_up xs ys up ns b.0) (each_up xs ys up a b.1)

  met_up : (xs ys : List Bool) → ((n : ℕ) → mark_at xs n ≡ true → mark_at ys n ≡ true) → (os : List (List (List ℕ))) → met xs os ≡ true → met ys os ≡ true
  met_up xs ys up [] e = absurd cc
  met_up xs ys up (o ∷ os) e = elim (or_cases (each_marked xs o) (met xs os) e) as (λ _. (each_marked ys o || met ys os) ≡ true) [
    | inl f ↦ or_left (each_marked ys o) (met ys os) (each_up xs ys up o f)
    | inr f ↦ or_right (each_marked ys o) (met ys os) (met_up xs ys up os f)
  ]

  pub closed_from : (marks : List Bool) → IsClosed all_clauses marks → AreClosedBy (part_marks (drop base marks) r.heads) (drop base marks) r.asks (length r.asks)
  closed_from marks closed j lt a at m =
      let c = ask_clause_at base 0 r.asks j a marks at (met_up (part_marks (drop base marks) r.heads) marks up a m) in
      let b = get_back (part_clauses base 0 r.heads) (ask_clauses base 0 r.asks) c.0 c.1 c.2 in
      let e : mark_at marks c.1.head ≡ true = closed b.0 c.1 b.1 c.4 in
      let h : c.1.head ≡ base + j = (let g = c.3 in omega (arith, g)) in
      mark_drop base marks j ∙ subst (λ (x : ℕ). mark_at marks x ≡ true) h e
    where
      up : (n : ℕ) → mark_at (part_marks (drop base marks) r.heads) n ≡ true → mark_at marks n ≡ true
      up n e =
          let p = part_some (drop base marks) r.heads n e in
          let c = part_clause_at base 0 r.heads n p.0 p.1 in
          let d : Clause = clause (0 + n) (shifted base p.0 ∷ []) in
          let f = get_front (part_clauses base 0 r.heads) (ask_clauses base 0 r.asks) c.0 d c.1 in
          let g : mark_at marks (0 + n) ≡ true = closed c.0 d f (two_true (any_marked marks (shifted base p.0)) true (any_shifted base marks p.0 ∙ p.2) refl) in
          let same : 0 + n ≡ n = omega arith in
          subst (λ (x : ℕ). mark_at marks x ≡ true) same g

  pub heads_within : (count : ℕ) → count ≡ base + length r.asks → HaveHeads count all_clauses
  heads_within count is i c at = by (get_or_back (part_clauses base 0 r.heads) (ask_clauses base 0 r.asks) i c at)
    where
      by : (slice_get (part_clauses base 0 r.heads) i ≡ Some c) ⊎ ((j : ℕ) × (slice_get (ask_clauses base 0 r.asks) j ≡ Some c)) → c.head < count
      by (inl f) =
          let p = part_clause_is base 0 r.heads i c f in
          let h : c.head ≡ 0 + p.0 = ap (λ (x : Clause). x.head) p.3 in
          let lt : p.0 < length r.heads = slice_get_within r.heads p.0 p.1 p.2 in
          let n = known.counted in
          omega (arith, h, lt, n, is, is_base)
      by (inr f) =
          let p = ask_clause_is base 0 r.asks f.0 c f.1 in
          let h = p.3 in
          let lt : p.0 < length r.asks = slice_get_within r.asks p.0 p.1 p.2 in
          omega (arith, h, lt, is)
