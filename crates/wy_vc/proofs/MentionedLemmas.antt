-- Which named types are mentioned.
use Rattle.std.proofs.Common.{◌≡◌, ◌<◌, ◌≤◌, ◌⊎◌, inl, inr, ℕ, zero, suc, Bool, true, false, ◌&&◌, nat_lt, List, [], ◌∷◌, ◌++◌, length, slice_set, Option, Some, refl, sym, ◌∙◌, ap, subst, arith}
use Rattle.std.specs.Prelude.{option_to_list}
use Rattle.std.proofs.lemmas.Bool.{and_parts, both_ways, cases_lt, lt-ltb, ltb-true}
use Rattle.wy_vc_spec.specs.Limits.{is_among}
use Rattle.wy_lemmas.proofs.Choices.{same_test, both_true}
use Rattle.wy_graph.proofs.reach_lemmas.BoundedLemmas.{Grows, bounded}
use Rattle.wy_vc.proofs.AmongLemmas.{among_first, among_more, among_cases, among_left, among_right, among_either}
use Rattle.wy_vc.specs.Mentioned.{IsReached, IsReaching, IsSettled, marked, reached, tested_by}
use Rattle.wy_vc.proofs.MarkLemmas.{set_length, set_here, set_keeps, set_only}

-- ---- what is tested

pub tested_one : (f : ℕ → List ℕ) (ns : List ℕ) (n k : ℕ) → is_among ns n ≡ true → is_among (f n) k ≡ true → is_among (tested_by f ns) k ≡ true
tested_one f [] n k h g = absurd cc
tested_one f (m ∷ ns) n k h g = elim (among_cases m ns n h) as (λ _. is_among (f m ++ tested_by f ns) k ≡ true) [
  | inl e ↦ among_left (f m) (tested_by f ns) k (subst (λ (x : ℕ). is_among (f x) k ≡ true) (sym e) g)
  | inr e ↦ among_right (f m) (tested_by f ns) k (tested_one f ns n k e g)
]

pub one_tested : (f : ℕ → List ℕ) (ns : List ℕ) (k : ℕ) → is_among (tested_by f ns) k ≡ true → (n : ℕ) × (is_among ns n ≡ true) × (is_among (f n) k ≡ true)
one_tested f [] k h = absurd cc
one_tested f (m ∷ ns) k h = elim (among_either (f m) (tested_by f ns) k h) as (λ _. (n : ℕ) × (is_among (m ∷ ns) n ≡ true) × (is_among (f n) k ≡ true)) [
  | inl e ↦ (m, among_first m ns, e)
  | inr e ↦ let r = one_tested f ns k e in (r.0, among_more m ns r.0 r.1, r.2)
]

-- one step
abbrev pub further : (ℕ → List ℕ) → List ℕ → List ℕ
further f ns = ns ++ tested_by f ns

reached_further : (f : ℕ → List ℕ) (j : ℕ) (ns : List ℕ) → reached f (suc j) ns ≡ further f (reached f j ns)
reached_further f zero ns = refl
reached_further f (suc j) ns = reached_further f j (further f ns)

reached_more : (f : ℕ → List ℕ) (j : ℕ) (ns : List ℕ) (n : ℕ) → is_among ns n ≡ true → is_among (reached f j ns) n ≡ true
reached_more f zero ns n h = h
reached_more f (suc j) ns n h = reached_more f j (further f ns) n (among_left ns (tested_by f ns) n h)

reached_step : (f : ℕ → List ℕ) (j : ℕ) (ns : List ℕ) (n k : ℕ) → is_among (reached f j ns) n ≡ true → is_among (f n) k ≡ true → is_among (reached f (suc j) ns) k ≡ true
reached_step f j ns n k h g = subst (λ (l : List ℕ). is_among l k ≡ true) (sym (reached_further f j ns)) (among_right (reached f j ns) (tested_by f (reached f j ns)) k (tested_one f (reached f j ns) n k h g))

-- ---- the same tests

same_tested : (f g : ℕ → List ℕ) (ns ms : List ℕ) → ((n k : ℕ) → is_among (f n) k ≡ is_among (g n) k) → ((k : ℕ) → is_among ns k ≡ is_among ms k) → (k : ℕ) → is_among (further f ns) k ≡ is_among (further g ms) k
same_tested f g ns ms same among k = same_test (is_among (further f ns) k) (is_among (further g ms) k) (one_way f g ns ms same among) (one_way g f ms ns (λ n j. sym (same n j)) (λ j. sym (among j)))
  where
    one_way : (p q : ℕ → List ℕ) (xs ys : List ℕ) → ((n j : ℕ) → is_among (p n) j ≡ is_among (q n) j) → ((j : ℕ) → is_among xs j ≡ is_among ys j) → is_among (further p xs) k ≡ true → is_among (further q ys) k ≡ true
    one_way p q xs ys s a h = elim (among_either xs (tested_by p xs) k h) as (λ _. is_among (further q ys) k ≡ true) [
      | inl e ↦ among_left ys (tested_by q ys) k (sym (a k) ∙ e)
      | inr e ↦ let r = one_tested p xs k e in among_right ys (tested_by q ys) k (tested_one q ys r.0 k (sym (a r.0) ∙ r.1) (sym (s r.0 k) ∙ r.2))
    ]

pub same_reached : (f g : ℕ → List ℕ) (j : ℕ) (ns ms : List ℕ) → ((n k : ℕ) → is_among (f n) k ≡ is_among (g n) k) → ((k : ℕ) → is_among ns k ≡ is_among ms k) → (k : ℕ) → is_among (reached f j ns) k ≡ is_among (reached g j ms) k
same_reached f g zero ns ms same among k = among k
same_reached f g (suc j) ns ms same among k = same_reached f g j (further f ns) (further g ms) same (same_tested f g ns ms same among) k

-- ---- the work list

-- what was to be visited is marked, or has no mark
settled_shift : (marks : List Bool) (todo : List ℕ) (x n : ℕ) → (length marks ≤ x) ⊎ (marked marks x ≡ true) → IsSettled marks (todo ++ x ∷ []) n → IsSettled marks todo n
settled_shift marks todo x n here (inl e) = inl e
settled_shift marks todo x n here (inr (inl e)) = inr (inl e)
settled_shift marks todo x n here (inr (inr e)) = elim (among_either todo (x ∷ []) n e) as (λ _. IsSettled marks todo n) [
  | inl g ↦ inr (inr g)
  | inr g ↦ elim (among_cases x [] n g) as (λ _. IsSettled marks todo n) [
    | inl is ↦ subst (λ (m : ℕ). IsSettled marks todo m) is (elim here as (λ _. IsSettled marks todo x) [ inl past ↦ inl past | inr mark ↦ inr (inl mark) ])
    | inr none ↦ absurd cc
  ]
]

pub visited_before : (f : ℕ → List ℕ) (count : ℕ) (begun : List ℕ) (marks : List Bool) (todo : List ℕ) (x : ℕ) → (length marks ≤ x) ⊎ (marked marks x ≡ true) → IsReaching f count begun marks (todo ++ x ∷ []) → IsReaching f count begun marks todo
visited_before f count begun marks todo x here r = record {
  whole = r.whole;
  done = r.done;
  left = λ n h. r.left n (among_left todo (x ∷ []) n h);
  starts = λ n h. settled_shift marks todo x n here (r.starts n h);
  closed = λ n h k g. settled_shift marks todo x k here (r.closed n h k g);
}

settled_on : (marks : List Bool) (todo more : List ℕ) (x n : ℕ) → x < length marks → IsSettled marks (todo ++ x ∷ []) n → IsSettled (slice_set marks x true) (todo ++ more) n
settled_on marks todo more x n lt (inl e) = inl (let l = set_length marks x true in omega (arith, e, l))
settled_on marks todo more x n lt (inr (inl e)) = inr (inl (set_keeps marks x n e))
settled_on marks todo more x n lt (inr (inr e)) = elim (among_either todo (x ∷ []) n e) as (λ _. IsSettled (slice_set marks x true) (todo ++ more) n) [
  | inl g ↦ inr (inr (among_left todo more n g))
  | inr g ↦ elim (among_cases x [] n g) as (λ _. IsSettled (slice_set marks x true) (todo ++ more) n) [
    | inl is ↦ inr (inl (subst (λ (m : ℕ). marked (slice_set marks x true) m ≡ true) is (set_here marks x lt)))
    | inr none ↦ absurd cc
  ]
]

pub visited : (f : ℕ → List ℕ) (count : ℕ) (begun : List ℕ) (marks after : List Bool) (todo next more : List ℕ) (x : ℕ) → x < length marks → after ≡ slice_set marks x true → next ≡ todo ++ more → more ≡ f x
    → IsReaching f count begun marks (todo ++ x ∷ []) → IsReaching f count begun after next
visited f count begun marks after todo next more x lt after_is next_is more_is r =
    subst (λ (ms : List Bool). IsReaching f count begun ms next) (sym after_is) (subst (λ (l : List ℕ). IsReaching f count begun (slice_set marks x true) l) (sym next_is) (record {
      whole = set_length marks x true ∙ r.whole;
      done = λ n h. elim (set_only marks x n h) as (λ _. IsReached f begun n) [ inl e ↦ subst (λ (m : ℕ). IsReached f begun m) e here | inr g ↦ r.done n g ];
      left = λ n h. elim (among_either todo more n h) as (λ _. IsReached f begun n) [
        | inl e ↦ r.left n (among_left todo (x ∷ []) n e)
        | inr e ↦ (suc here.0, reached_step f here.0 begun x n here.1 (subst (λ (l : List ℕ). is_among l n ≡ true) more_is e))
      ];
      starts = λ n h. settled_on marks todo more x n lt (r.starts n h);
      closed = λ n h k g. elim (set_only marks x n h) as (λ _. IsSettled (slice_set marks x true) (todo ++ more) k) [
        | inl e ↦ inr (inr (among_right todo more k (subst (λ (l : List ℕ). is_among l k ≡ true) (sym more_is) (subst (λ (m : ℕ). is_among (f m) k ≡ true) (sym e) g))))
        | inr m ↦ settled_on marks todo more x k lt (r.closed n m k g)
      ];
    }))
  where
    here : IsReached f begun x
    here = r.left x (among_right todo (x ∷ []) x (among_first x []))

-- ---- the start and the end

pub begin_reaching : (f : ℕ → List ℕ) (count : ℕ) (begun todo : List ℕ) (marks : List Bool) → length marks ≡ count → ((n : ℕ) → marked marks n ≡ false) → todo ≡ begun → IsReaching f count begun marks todo
begin_reaching f count begun todo marks length_is none is = subst (λ (l : List ℕ). IsReaching f count begun marks l) (sym is) (record {
  whole = length_is;
  done = λ n h. absurd (both_ways (marked marks n) (none n) h);
  left = λ n h. (0, h);
  starts = λ n h. inr (inr h);
  closed = λ n h k g. absurd (both_ways (marked marks n) (none n) h);
})

pub none_left : (f : ℕ → List ℕ) (count : ℕ) (begun todo : List ℕ) (marks : List Bool) → todo ≡ [] → IsReaching f count begun marks todo → IsReaching f count begun marks []
none_left f count begun todo marks is r = subst (λ (l : List ℕ). IsReaching f count begun marks l) is r

pub one_left : (f : ℕ → List ℕ) (count : ℕ) (begun old new : List ℕ) (marks : List Bool) (x : ℕ) (o : Option ℕ) → old ≡ new ++ option_to_list o → o ≡ Some x → IsReaching f count begun marks old → IsReaching f count begun marks (new ++ x ∷ [])
one_left f count begun old new marks x o e is r = subst (λ (l : List ℕ). IsReaching f count begun marks l) (e ∙ ap (λ (y : Option ℕ). new ++ option_to_list y) is) r

-- ---- what is marked in the end

-- what a set that is closed begins with, it has in the end
stays : (f : ℕ → List ℕ) (P : ℕ → Type 0) → ((n : ℕ) → P n → (k : ℕ) → is_among (f n) k ≡ true → P k) → (j : ℕ) (ns : List ℕ) → ((n : ℕ) → is_among ns n ≡ true → P n) → (n : ℕ) → is_among (reached f j ns) n ≡ true → P n
stays f P closed zero ns begun n h = begun n h
stays f P closed (suc j) ns begun n h = stays f P closed j (further f ns) next n h
  where
    next : (k : ℕ) → is_among (further f ns) k ≡ true → P k
    next k g = elim (among_either ns (tested_by f ns) k g) as (λ _. P k) [
      | inl e ↦ begun k e
      | inr e ↦ let r = one_tested f ns k e in closed r.0 (begun r.0 r.1) k r.2
    ]

-- what is reached within so many steps
abbrev steps_of : (ℕ → List ℕ) → ℕ → List ℕ → ℕ → ℕ → Bool
steps_of f count begun zero n = false
steps_of f count begun (suc j) n = nat_lt n count && is_among (reached f j begun) n

within_steps : (f : ℕ → List ℕ) (count : ℕ) (begun : List ℕ) → ((n : ℕ) → count ≤ n → f n ≡ []) → Grows (steps_of f count begun) count
within_steps f count begun none = record {
  empty = λ n h. let e : false ≡ true = h in cc;
  steps = more;
  within = below;
}
  where
    below : (j n : ℕ) → steps_of f count begun j n ≡ true → n < count
    below zero n h = absurd (let e : false ≡ true = h in cc)
    below (suc j) n h = ltb-true n count (and_parts (nat_lt n count) (is_among (reached f j begun) n) h).0

    more : (i j : ℕ) → ((n : ℕ) → steps_of f count begun i n ≡ true → steps_of f count begun j n ≡ true) → (n : ℕ) → steps_of f count begun (suc i) n ≡ true → steps_of f count begun (suc j) n ≡ true
    more zero j up n h =
        both_true (nat_lt n count) (is_among (reached f j begun) n) (and_parts (nat_lt n count) (is_among begun n) h).0
        (reached_more f j begun n (and_parts (nat_lt n count) (is_among begun n) h).1)
    more (suc i) j up n h =
        let lt = (and_parts (nat_lt n count) (is_among (reached f (suc i) begun) n) h).0 in
        let here = subst (λ (l : List ℕ). is_among l n ≡ true) (reached_further f i begun) (and_parts (nat_lt n count) (is_among (reached f (suc i) begun) n) h).1 in
        both_true (nat_lt n count) (is_among (reached f j begun) n) lt (elim (among_either (reached f i begun) (tested_by f (reached f i begun)) n here) as (λ _. is_among (reached f j begun) n ≡ true) [
          | inl e ↦ before j n (up n (both_true (nat_lt n count) (is_among (reached f i begun) n) lt e))
          | inr e ↦ let r = one_tested f (reached f i begun) n e in from j r.0 n r.2 (up r.0 (both_true (nat_lt r.0 count) (is_among (reached f i begun) r.0) (lt-ltb r.0 count (type_of r.0 n r.2)) r.1))
        ])
      where
        -- what tests something is a type
        type_of : (m k : ℕ) → is_among (f m) k ≡ true → m < count
        type_of m k g = elim (cases_lt m count) as (λ _. m < count) [
          | inl less ↦ less
          | inr past ↦ absurd (let l : false ≡ true = subst (λ (x : List ℕ). is_among x k ≡ true) (none m past) g in cc)
        ]

        before : (j n : ℕ) → steps_of f count begun j n ≡ true → is_among (reached f j begun) n ≡ true
        before zero n h = absurd (let e : false ≡ true = h in cc)
        before (suc j) n h =
            subst (λ (l : List ℕ). is_among l n ≡ true) (sym (reached_further f j begun)) (among_left (reached f j begun) (tested_by f (reached f j begun)) n (and_parts (nat_lt n count) (is_among (reached f j begun) n) h).1)

        from : (j m k : ℕ) → is_among (f m) k ≡ true → steps_of f count begun j m ≡ true → is_among (reached f j begun) k ≡ true
        from zero m k g h = absurd (let e : false ≡ true = h in cc)
        from (suc j) m k g h = reached_step f j begun m k (and_parts (nat_lt m count) (is_among (reached f j begun) m) h).1 g

-- a type that is reached is reached in as many steps as there are types
pub within_count : (f : ℕ → List ℕ) (count : ℕ) (begun : List ℕ) → ((n : ℕ) → count ≤ n → f n ≡ []) → (n : ℕ) → n < count → IsReached f begun n → is_among (reached f count begun) n ≡ true
within_count f count begun none n lt r =
    by count (bounded (steps_of f count begun) count (within_steps f count begun none) (suc r.0) n (both_true (nat_lt n count) (is_among (reached f r.0 begun) n) (lt-ltb n count lt) r.1))
  where
    by : (j : ℕ) → steps_of f count begun j n ≡ true → is_among (reached f j begun) n ≡ true
    by zero h = absurd (let e : false ≡ true = h in cc)
    by (suc j) h =
        subst (λ (l : List ℕ). is_among l n ≡ true) (sym (reached_further f j begun)) (among_left (reached f j begun) (tested_by f (reached f j begun)) n (and_parts (nat_lt n count) (is_among (reached f j begun) n) h).1)

-- the number is none of a type, or is marked
abbrev IsKept : List Bool → ℕ → Type 0
IsKept marks m = (length marks ≤ m) ⊎ (marked marks m ≡ true)

kept_settled : (marks : List Bool) (m : ℕ) → IsSettled marks [] m → IsKept marks m
kept_settled marks m (inl e) = inl e
kept_settled marks m (inr (inl e)) = inr e
kept_settled marks m (inr (inr e)) = absurd (let h : false ≡ true = e in cc)

kept_closed : (f : ℕ → List ℕ) (count : ℕ) (begun : List ℕ) (marks : List Bool) → ((n : ℕ) → count ≤ n → f n ≡ []) → IsReaching f count begun marks [] → (m : ℕ) → IsKept marks m → (k : ℕ) → is_among (f m) k ≡ true → IsKept marks k
kept_closed f count begun marks none r m (inl past) k g =
    absurd (let c = r.whole in let e = none m (omega (arith, past, c)) in let h : false ≡ true = subst (λ (x : List ℕ). is_among x k ≡ true) e g in cc)
kept_closed f count begun marks none r m (inr h) k g = kept_settled marks k (r.closed m h k g)

-- exactly the types that are reached are marked
pub marks_are : (f : ℕ → List ℕ) (count : ℕ) (begun : List ℕ) (marks : List Bool) → ((n : ℕ) → count ≤ n → f n ≡ []) → IsReaching f count begun marks [] → (n : ℕ) → n < count → marked marks n ≡ is_among (reached f count begun) n
marks_are f count begun marks none r n lt = same_test (marked marks n) (is_among (reached f count begun) n) (λ h. within_count f count begun none n lt (r.done n h)) back
  where
    back : is_among (reached f count begun) n ≡ true → marked marks n ≡ true
    back h = elim (stays f (IsKept marks) (kept_closed f count begun marks none r) count begun (λ m g. kept_settled marks m (r.starts m g)) n h) as (λ _. marked marks n ≡ true) [
      | inl past ↦ absurd (let c = r.whole in omega (arith, past, c, lt))
      | inr is ↦ is
    ]
