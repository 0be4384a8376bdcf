-- What a reader reads another one reads too, and where a fault stops the first, the other one goes on: for each way to make a reader.
use Rattle.std.proofs.Common.{◌≡◌, ◌==◌, ◌<◌, ◌≤◌, ℕ, zero, suc, Bool, true, false, true≢false, cond, List, [], ◌∷◌, inl, inr, ◌||◌, length, Ok, Err, refl, sym, ap, ◌∙◌, subst, arith, length-append}
use Rattle.wy_reading.specs.declared.stop.Stop.TheVariants.{Unexpected, Fault, NoMemory}
use Rattle.wy_reading.specs.Mode.{Mode}
use Rattle.wy_reading.specs.Rule.{heads, among}
use Rattle.wy_reading.proofs.Exactness.{Exact}
use Rattle.wy_reading.specs.Reader.{Outcome, and_then, ◌>>=◌, pure, one, refuse, branch, loop, while, refused, unless, fenced, finish}
use Rattle.wy_reading.proofs.Outcomes.{and_then-ok, and_then-err}
use Rattle.wy_reading.proofs.SymbolSets.{every, inside}
use Rattle.wy_lex.specs.declared.token.Token.{Token}
use Rattle.wy_parse_grammar.specs.declared.fault.Kind.{Kind}
use Rattle.wy_parse_grammar.specs.declared.fault.Kind.TheVariants.{Deep}
use Rattle.wy_parse_grammar.specs.declared.sort.Class.{Class}
use Rattle.wy_parse_grammar.specs.Sorts as t
use Rattle.wy_parse_grammar.specs.Sorts.{is, has, members, sort}
use Rattle.wy_parse_grammar.specs.Steps.{R, Q, mark, inner, name, name_of, inner_name, operator, place, placed}
use Rattle.wy_parse_grammar.proofs.TokenLemmas.{among_these, sort_of, no}
use Rattle.wy_parse_grammar.proofs.StepsExact.{mark_declines}

-- how many tokens are left where reading ends
abbrev pub left : {A : Type 0} → Outcome Token Kind A → ℕ
left (Ok r) = length r.1
left (Err (Unexpected k)) = k
left (Err (Fault x k)) = k
left (Err NoMemory) = 0

-- no token is put back
pub record Within {A : Type 0} (q : Q A) : Type 0 where
  pub no_more : (i : List Token) → left (q i) ≤ length i

-- On lists of at most so many tokens, q reads what p does, and goes beyond the token at which p meets a fault; p takes no memory.
pub record Goes {A : Type 0} (most : ℕ) (p q : Q A) : Type 0 where
  pub again : (i : List Token) (a : A) (j : List Token) → p i ≡ Ok (a, j) → q i ≡ Ok (a, j)
  pub beyond : (i : List Token) (x : Kind) (k : ℕ) → length i ≤ most → p i ≡ Err (Fault x k) → left (q i) < k
  pub within : Within q
  pub remembers : (i : List Token) → p i ≡ Err NoMemory → ⊥

-- ---- one after the other

pub left-then : {A B : Type 0} (o : Outcome Token Kind A) (f : A → Q B) → ((a : A) → Within (f a)) → left (and_then o f) ≤ left o
left-then (Ok r) f h = (h r.0).no_more r.1
left-then (Err e) f h = omega arith

pub goes-then : {A B : Type 0} {most : ℕ} {p q : Q A} {f g : A → Q B} → Goes most p q → ((a : A) → Goes most (f a) (g a)) → Goes most (p >>= f) (q >>= g)
goes-then {A} {most = most} {p = p} {q = q} {f = f} {g = g} x y = record {
  again = λ i b k h. let z = and_then-ok (p i) f (b, k) h in rw (x.again i z.0.0 z.0.1 z.1) ((y z.0.0).again z.0.1 b k z.2);
  beyond = λ i e k le h. elim (and_then-err (p i) f (Fault e k) h) [
    | inl z ↦ (let first = x.beyond i e k le z in let rest = left-then (q i) g (λ a. (y a).within) in omega (arith, first, rest))
    | inr z ↦ (let same = x.again i z.0.0 z.0.1 z.1 in
        let short = x.within.no_more i in
        let here : length z.0.1 ≤ length i = subst (λ (o : Outcome Token Kind A). left o ≤ length i) same short in
        let later = (y z.0.0).beyond z.0.1 e k (omega (arith, here, le)) z.2 in
        rw same later)
  ];
  within = record { no_more = λ i. let first = x.within.no_more i in let rest = left-then (q i) g (λ a. (y a).within) in omega (arith, first, rest) };
  remembers = λ i h. elim (and_then-err (p i) f NoMemory h) [ inl z ↦ x.remembers i z | inr z ↦ (y z.0.0).remembers z.0.1 z.2 ];
}

-- ---- nothing, and one token

pub goes-pure : {A : Type 0} {most : ℕ} (a : A) → Goes most (pure a) (pure a)
goes-pure a = record { again = λ i b j h. h; beyond = λ i x k le h. absurd (cc); within = record { no_more = λ i. omega arith }; remembers = λ i h. absurd (cc) }

one-left : (test : Token → Bool) (i : List Token) → (let o : Outcome Token Kind Token = one test i in left o ≤ length i)
one-left test [] = omega arith
one-left test (s ∷ i) = by (test s)
  where
    by : (b : Bool) → (let o : Outcome Token Kind Token = cond b (Ok (s, i)) (refuse (s ∷ i)) in left o ≤ suc (length i))
    by true = omega arith
    by false = omega arith

one-no_fault : (test : Token → Bool) (i : List Token) (x : Kind) (k : ℕ) → (let o : Outcome Token Kind Token = one test i in o ≡ Err (Fault x k)) → ⊥
one-no_fault test [] x k h = absurd (cc)
one-no_fault test (s ∷ i) x k h = by (test s) h
  where
    by : (b : Bool) → (let o : Outcome Token Kind Token = cond b (Ok (s, i)) (refuse (s ∷ i)) in o ≡ Err (Fault x k)) → ⊥
    by true g = absurd (cc)
    by false g = absurd (cc)

one-remembers : (test : Token → Bool) (i : List Token) → (let o : Outcome Token Kind Token = one test i in o ≡ Err NoMemory) → ⊥
one-remembers test [] h = absurd (cc)
one-remembers test (s ∷ i) h = by (test s) h
  where
    by : (b : Bool) → (let o : Outcome Token Kind Token = cond b (Ok (s, i)) (refuse (s ∷ i)) in o ≡ Err NoMemory) → ⊥
    by true g = absurd (cc)
    by false g = absurd (cc)

pub goes-one : {most : ℕ} (test : Token → Bool) → Goes most (one test) (one test)
goes-one test = record { again = λ i s j h. h; beyond = λ i x k le h. absurd (one-no_fault test i x k h); within = record { no_more = one-left test }; remembers = one-remembers test }

-- where the first token passes the test, it is taken
one-takes : (test : Token → Bool) (i : List Token) → heads test i ≡ true → (let o : Outcome Token Kind Token = one test i in left o < length i)
one-takes test [] h = absurd (true≢false (sym h))
one-takes test (s ∷ i) h = rw h (omega arith)

pub goes-token : {A : Type 0} {most : ℕ} (test : Token → Bool) (f : Token → A) → Goes most (one test >>= (λ s. pure (f s))) (one test >>= (λ s. pure (f s)))
goes-token test f = goes-then (goes-one test) (λ s. goes-pure (f s))

pub goes-mark : {most : ℕ} (c : ℕ) → Goes most (mark c) (mark c)
unfolding mark
goes-mark c = goes-token (is c) (λ s. s.at)

pub goes-name : {most : ℕ} → Goes most name name
unfolding name
goes-name = goes-token (is t.NAME) _

pub goes-operator : {most : ℕ} (c : Class) → Goes most (operator c) (operator c)
unfolding operator
goes-operator c = goes-token (has c) _

-- ---- by the first token

pub goes-branch : {A : Type 0} {most : ℕ} {p q p' q' : Q A} (test : Token → Bool) → Goes most p q → Goes most p' q' → Goes most (branch test p p') (branch test q q')
goes-branch {A} {most = most} {p = p} {q = q} {p' = p'} {q' = q'} test x y = record {
  again = λ i a j h. again (heads test i) i a j h;
  beyond = λ i e k le h. beyond (heads test i) i e k le h;
  within = record { no_more = λ i. inside (heads test i) i };
  remembers = λ i h. remembers (heads test i) i h;
}
  where
    remembers : (b : Bool) (i : List Token) → cond b (p i) (p' i) ≡ Err NoMemory → ⊥
    remembers true i h = x.remembers i h
    remembers false i h = y.remembers i h

    again : (b : Bool) (i : List Token) (a : A) (j : List Token) → cond b (p i) (p' i) ≡ Ok (a, j) → cond b (q i) (q' i) ≡ Ok (a, j)
    again true i a j h = x.again i a j h
    again false i a j h = y.again i a j h

    beyond : (b : Bool) (i : List Token) (e : Kind) (k : ℕ) → length i ≤ most → cond b (p i) (p' i) ≡ Err (Fault e k) → left (cond b (q i) (q' i)) < k
    beyond true i e k le h = x.beyond i e k le h
    beyond false i e k le h = y.beyond i e k le h

    inside : (b : Bool) (i : List Token) → left (cond b (q i) (q' i)) ≤ length i
    inside true i = x.within.no_more i
    inside false i = y.within.no_more i

goes-loop : {A : Type 0} {most : ℕ} (test : Token → Bool) (turn other : A → Q A) → ((a : A) → Goes most (turn a) (other a)) → (f : ℕ) (a : A) → Goes most (loop test turn f a) (loop test other f a)
goes-loop test turn other x zero a = goes-pure a
goes-loop test turn other x (suc f) a = goes-branch test (goes-then (x a) (λ b. goes-loop test turn other x f b)) (goes-pure a)

pub goes-while : {A : Type 0} {most : ℕ} {turn other : A → Q A} (test : Token → Bool) (a : A) → ((a : A) → Goes most (turn a) (other a)) → Goes most (while test turn a) (while test other a)
goes-while {turn = turn} {other = other} test a x = record {
  again = λ i b j h. (goes-loop test turn other x (length i) a).again i b j h;
  beyond = λ i e k le h. (goes-loop test turn other x (length i) a).beyond i e k le h;
  within = record { no_more = λ i. (goes-loop test turn other x (length i) a).within.no_more i };
  remembers = λ i h. (goes-loop test turn other x (length i) a).remembers i h;
}

pub goes-unless : {A : Type 0} {most : ℕ} {p q : Q A} (test : Token → Bool) → Goes most p q → Goes most (unless test p) (unless test q)
goes-unless {A} {most = most} {p = p} {q = q} test x = record {
  again = λ i a j h. again (heads test i) i a j h;
  beyond = λ i e k le h. beyond (heads test i) i e k le h;
  within = record { no_more = λ i. inside (heads test i) i };
  remembers = λ i h. remembers (heads test i) i h;
}
  where
    remembers : (b : Bool) (i : List Token) → cond b (refuse i) (p i) ≡ Err NoMemory → ⊥
    remembers true i h = absurd (cc)
    remembers false i h = x.remembers i h

    again : (b : Bool) (i : List Token) (a : A) (j : List Token) → cond b (refuse i) (p i) ≡ Ok (a, j) → cond b (refuse i) (q i) ≡ Ok (a, j)
    again true i a j h = h
    again false i a j h = x.again i a j h

    beyond : (b : Bool) (i : List Token) (e : Kind) (k : ℕ) → length i ≤ most → cond b (refuse i) (p i) ≡ Err (Fault e k) → left (cond b (refuse i) (q i)) < k
    beyond true i e k le h = absurd (cc)
    beyond false i e k le h = x.beyond i e k le h

    inside : (b : Bool) (i : List Token) → left (cond b (refuse i) (q i)) ≤ length i
    inside true i = omega arith
    inside false i = x.within.no_more i

-- ---- what is refused is read by the other one, at least its first token

pub goes-refused : {A : Type 0} {most : ℕ} {q : Q A} (test : Token → Bool) (x : Kind) → ((i : List Token) → heads test i ≡ true → left (q i) < length i) → Within q → Goes most (refused test x) q
goes-refused {A} {most = most} {q = q} test x takes inside = record {
  again = λ i a j h. absurd (none (heads test i) i a j h);
  beyond = λ i e k le h. beyond (heads test i) i e k refl h;
  within = inside;
  remembers = λ i h. remembers (heads test i) i h;
}
  where
    remembers : (b : Bool) (i : List Token) → (let o : Outcome Token Kind A = cond b (Err (Fault x (length i))) (refuse i) in o ≡ Err NoMemory) → ⊥
    remembers true i h = absurd (cc)
    remembers false i h = absurd (cc)

    none : (b : Bool) (i : List Token) (a : A) (j : List Token) → (let o : Outcome Token Kind A = cond b (Err (Fault x (length i))) (refuse i) in o ≡ Ok (a, j)) → ⊥
    none true i a j h = absurd (cc)
    none false i a j h = absurd (cc)

    beyond : (b : Bool) (i : List Token) (e : Kind) (k : ℕ) → heads test i ≡ b → (let o : Outcome Token Kind A = cond b (Err (Fault x (length i))) (refuse i) in o ≡ Err (Fault e k)) → left (q i) < k
    beyond true i e k g h = let same : length i ≡ k = cc in let first = takes i g in omega (arith, same, first)
    beyond false i e k g h = absurd (cc)

pub mark-takes : (c : ℕ) (i : List Token) → heads (is c) i ≡ true → left (mark c i) < length i
unfolding mark
mark-takes c i h = let first = one-takes (is c) i h in let rest = left-then (one (is c) i) (λ s. pure s.at) (λ a. record { no_more = λ j. omega arith }) in omega (arith, first, rest)

name-takes : (i : List Token) → heads (is t.NAME) i ≡ true → left (name i) < length i
unfolding name
name-takes i h = let first = one-takes (is t.NAME) i h in let rest = left-then {B = ℕ × List ℕ} (one (is t.NAME) i) (λ s. pure (s.at, name_of s.kind)) (λ a. record { no_more = λ j. omega arith }) in omega (arith, first, rest)

-- a token that is read makes the list shorter, and meets no fault
pub mark-shorter : (c : ℕ) (i : List Token) (a : ℕ) (j : List Token) → mark c i ≡ Ok (a, j) → length j < length i
mark-shorter c i a j h = by (heads (is c) i) refl
  where
    by : (b : Bool) → heads (is c) i ≡ b → length j < length i
    by true g = subst (λ (o : Outcome Token Kind ℕ). left o < length i) h (mark-takes c i g)
    by false g = let bad = sym (mark_declines c i g) ∙ h in absurd (cc)

mark-no_fault : (c : ℕ) (i : List Token) (x : Kind) (k : ℕ) → mark c i ≡ Err (Fault x k) → ⊥
unfolding mark
mark-no_fault c i x k h = elim (and_then-err (one (is c) i) (λ s. pure s.at) (Fault x k) h) [ inl g ↦ absurd (one-no_fault (is c) i x k g) | inr z ↦ (let bad = z.2 in absurd (cc)) ]

pub goes-inner : {most : ℕ} (levels other c : ℕ) → 1 ≤ other → Goes most (inner levels c) (inner other c)
unfolding inner
goes-inner levels zero c h = absurd (omega (arith, h))
goes-inner zero (suc other) c h = goes-refused (is c) Deep (mark-takes c) (goes-mark {most = 0} c).within
goes-inner (suc levels) (suc other) c h = goes-mark c

pub goes-inner_name : {most : ℕ} (levels other : ℕ) → 1 ≤ other → Goes most (inner_name levels) (inner_name other)
unfolding inner_name
goes-inner_name levels zero h = absurd (omega (arith, h))
goes-inner_name zero (suc other) h = goes-refused (is t.NAME) Deep name-takes (goes-name {most = 0}).within
goes-inner_name (suc levels) (suc other) h = goes-name

-- ---- what takes a token of a set

pub record Takes {A : Type 0} (l : List ℕ) (q : Q A) : Type 0 where
  pub first : (i : List Token) → heads (among_these l) i ≡ true → left (q i) < length i

left_over : (test : ℕ → Bool) (l rest : List ℕ) (i : List Token) → every (λ c. test c || among rest c) l ≡ true → heads (among_these l) i ≡ true → heads (λ s. test (sort s.kind)) i ≡ false → heads (among_these rest) i ≡ true
left_over test l rest [] e h g = absurd (true≢false (sym h))
left_over test l rest (s ∷ i) e h g =
    let one : (test (sort s.kind) || among rest (sort s.kind)) ≡ true = inside sort_of l (λ c. test c || among rest c) (s ∷ i) e h in
    subst (λ (b : Bool). (b || among rest (sort s.kind)) ≡ true) g one

pub takes-is : {A : Type 0} {p q : Q A} (c : ℕ) (l rest : List ℕ) → every (λ d. (d == c) || among rest d) l ≡ true → ((i : List Token) → heads (is c) i ≡ true → left (p i) < length i)
    → Takes rest q → Takes l (branch (is c) p q)
takes-is {A} {p = p} {q = q} c l rest e x y = record { first = λ i h. by (heads (is c) i) i refl h }
  where
    by : (b : Bool) (i : List Token) → heads (is c) i ≡ b → heads (among_these l) i ≡ true → left (cond b (p i) (q i)) < length i
    by true i g h = x i g
    by false i g h = y.first i (left_over (λ d. d == c) l rest i e h g)

pub takes-class : {A : Type 0} {p q : Q A} (k l rest : List ℕ) → every (λ d. among k d || among rest d) l ≡ true → Takes k p → Takes rest q → Takes l (branch (among_these k) p q)
takes-class {A} {p = p} {q = q} k l rest e x y = record { first = λ i h. by (heads (among_these k) i) i refl h }
  where
    by : (b : Bool) (i : List Token) → heads (among_these k) i ≡ b → heads (among_these l) i ≡ true → left (cond b (p i) (q i)) < length i
    by true i g h = x.first i g
    by false i g h = y.first i (left_over (λ d. among k d) l rest i e h g)

pub takes-one : (l : List ℕ) → Takes l (one (among_these l))
takes-one l = record { first = λ i h. one-takes (among_these l) i h }

pub takes-then : {A B : Type 0} {l : List ℕ} {p : Q A} {f : A → Q B} → Takes l p → ((a : A) → Within (f a)) → Takes l (p >>= f)
takes-then {p = p} {f = f} x w = record { first = λ i h. let one = x.first i h in let rest = left-then (p i) f w in omega (arith, one, rest) }

-- a token of the sort, and what another one goes on with
pub mark-on : {B : Type 0} {f : ℕ → Q B} (c : ℕ) → ((a : ℕ) → Within (f a)) → (i : List Token) → heads (is c) i ≡ true → left ((mark c >>= f) i) < length i
mark-on {f = f} c w i h = let one = mark-takes c i h in let rest = left-then (mark c i) f w in omega (arith, one, rest)

pub name-on : {B : Type 0} {f : ℕ × List ℕ → Q B} → ((a : ℕ × List ℕ) → Within (f a)) → (i : List Token) → heads (is t.NAME) i ≡ true → left ((name >>= f) i) < length i
name-on {f = f} w i h = let one = name-takes i h in let rest = left-then (name i) f w in omega (arith, one, rest)

-- ---- the place of the first token

abbrev put : {A : Type 0} → ℕ → A → Q (ℕ × A)
put n a l = Ok ((n, a), l)

pub goes-placed : {A : Type 0} {most : ℕ} {p q : Q A} → Goes most p q → Goes most (placed p) (placed q)
unfolding placed
goes-placed {p = p} {q = q} x = record {
  again = λ i a j h. let z = and_then-ok (p i) (put (place i)) (a, j) h in rw (x.again i z.0.0 z.0.1 z.1) z.2;
  beyond = λ i e k le h. elim (and_then-err (p i) (put (place i)) (Fault e k) h) [
    | inl z ↦ (let first = x.beyond i e k le z in let rest = left-then (q i) (put (place i)) (λ a. record { no_more = λ j. omega arith }) in omega (arith, first, rest))
    | inr z ↦ (let bad = z.2 in absurd (cc))
  ];
  within = record { no_more = λ i. let first = x.within.no_more i in let rest = left-then (q i) (put (place i)) (λ a. record { no_more = λ j. omega arith }) in omega (arith, first, rest) };
  remembers = λ i h. elim (and_then-err (p i) (put (place i)) NoMemory h) [ inl z ↦ x.remembers i z | inr z ↦ (let bad = z.2 in absurd (cc)) ];
}

-- ---- a fence, in what makes no checks

pub goes-fenced : {A : Type 0} {most : ℕ} {turn other : A → Q A} (s : Bool) (c : ℕ) (x : Kind) (a : A) → ((a : A) → Goes most (turn a) (other a))
    → ((a : A) (i : List Token) → heads (is c) i ≡ true → left (other a i) < length i) → Goes most (fenced s (is c) x turn a) (fenced false (is c) x other a)
goes-fenced true c x a y takes = goes-branch (is c) (goes-refused (is c) x (takes a) (y a).within) (goes-pure a)
goes-fenced false c x a y takes = goes-branch (is c) (y a) (goes-pure a)

-- ---- shorter lists, and readers that read nothing

pub goes-less : {A : Type 0} {most less : ℕ} {p q : Q A} → Goes most p q → less ≤ most → Goes less p q
goes-less x h = record { again = x.again; beyond = λ i e k le g. x.beyond i e k (omega (arith, h, le)) g; within = x.within; remembers = x.remembers }

pub goes-none : {A : Type 0} {most : ℕ} {q : Q A} → Within q → Goes most refuse q
goes-none w = record { again = λ i a j h. absurd (cc); beyond = λ i e k le h. absurd (cc); within = w; remembers = λ i h. absurd (cc) }

-- behind a token the list is shorter
pub goes-after : {B : Type 0} {most : ℕ} {f g : ℕ → Q B} (c : ℕ) → ((a : ℕ) → Goes most (f a) (g a)) → Goes (suc most) (mark c >>= f) (mark c >>= g)
goes-after {most = most} {f = f} {g = g} c y = record {
  again = λ i b k h. let z = and_then-ok (mark c i) f (b, k) h in rw z.1 ((y z.0.0).again z.0.1 b k z.2);
  beyond = λ i e k le h. elim (and_then-err (mark c i) f (Fault e k) h) [
    | inl z ↦ absurd (mark-no_fault c i e k z)
    | inr z ↦ (let short = mark-shorter c i z.0.0 z.0.1 z.1 in rw z.1 ((y z.0.0).beyond z.0.1 e k (omega (arith, short, le)) z.2))
  ];
  within = record { no_more = λ i. let first = (goes-mark {most = 0} c).within.no_more i in let rest = left-then (mark c i) g (λ a. (y a).within) in omega (arith, first, rest) };
  remembers = λ i h. elim (and_then-err (mark c i) f NoMemory h) [ inl z ↦ (goes-mark {most = 0} c).remembers i z | inr z ↦ (y z.0.0).remembers z.0.1 z.2 ];
}

-- where no token is left, none is refused
pub goes-shut : {A : Type 0} (test : Token → Bool) (x : Kind) → Goes {A = A} 0 (refused test x) (refused test x)
goes-shut {A} test x = record { again = λ i a j h. h; beyond = λ i e k le h. absurd (empty i e k le h); within = record { no_more = λ i. by (heads test i) i }; remembers = λ i h. remembers (heads test i) i h }
  where
    remembers : (b : Bool) (i : List Token) → (let o : Outcome Token Kind A = cond b (Err (Fault x (length i))) (refuse i) in o ≡ Err NoMemory) → ⊥
    remembers true i h = absurd (cc)
    remembers false i h = absurd (cc)

    empty : (i : List Token) (e : Kind) (k : ℕ) → length i ≤ 0 → (let o : Outcome Token Kind A = refused test x i in o ≡ Err (Fault e k)) → ⊥
    empty [] e k le h = absurd (cc)
    empty (s ∷ i) e k le h = absurd (omega (arith, le))

    by : (b : Bool) (i : List Token) → (let o : Outcome Token Kind A = cond b (Err (Fault x (length i))) (refuse i) in left o ≤ length i)
    by true i = omega arith
    by false i = omega arith

-- ---- what is read exactly puts no token back

pub exact-within : {A : Type 0} {n : Mode} {rule : R A} {q : Mode → Q A} {F B : List Token → Type 0} → Exact n rule q F B → Within (q n)
exact-within {A} {n = n} {q = q} e = record { no_more = λ i. by i (q n i) refl }
  where
    by : (i : List Token) (o : Outcome Token Kind A) → q n i ≡ o → left o ≤ length i
    by i (Ok r) h = let d = e.done i r.0 r.1 h in omega (arith, ap length d.cut, length-append d.front r.1)
    by i (Err (Unexpected k)) h = let d = e.stuck i k h in omega (arith, d.left, ap length d.cut, length-append d.front d.back)
    by i (Err (Fault x k)) h = (e.meets i x k (e.met i x k h)).2
    by i (Err NoMemory) h = omega arith

-- ---- what begins with a token

pub record Starts {A : Type 0} (most c : ℕ) (p q : Q A) : Type 0 where
  pub goes : Goes most p q
  pub takes : (i : List Token) → heads (is c) i ≡ true → left (q i) < length i

pub starts : {B : Type 0} {most : ℕ} {f g : ℕ → Q B} (c : ℕ) → ((a : ℕ) → Goes most (f a) (g a)) → Starts most c (mark c >>= f) (mark c >>= g)
starts c y = record { goes = goes-then (goes-mark c) y; takes = mark-on c (λ a. (y a).within) }

pub starts-name : {B : Type 0} {most : ℕ} {f g : ℕ × List ℕ → Q B} → ((a : ℕ × List ℕ) → Goes most (f a) (g a)) → Starts most t.NAME (name >>= f) (name >>= g)
starts-name y = record { goes = goes-then goes-name y; takes = name-on (λ a. (y a).within) }

pub starts-here : {A : Type 0} {most less : ℕ} {p q : Q A} (c : ℕ) (x : Kind) → Starts less c p q → Goes most (refused (is c) x) q
starts-here c x y = goes-refused (is c) x y.takes y.goes.within

-- ---- what takes a token, in other readers

pub takes-fewer : {A : Type 0} {q : Q A} (l larger : List ℕ) → every (among larger) l ≡ true → Takes larger q → Takes l q
takes-fewer l larger e x = record { first = λ i h. x.first i (inside sort_of l (among larger) i e h) }

pub takes-unless : {A : Type 0} {q : Q A} (c : ℕ) (l : List ℕ) → among l c ≡ false → Takes l q → Takes l (unless (is c) q)
takes-unless {q = q} c l e x = record { first = λ i h. subst (λ (b : Bool). left (cond b (refuse i) (q i)) < length i) (sym (no c l i e h)) (x.first i h) }

pub takes-placed : {A : Type 0} {l : List ℕ} {q : Q A} → Takes l q → Takes l (placed q)
unfolding placed
takes-placed {q = q} x = record { first = λ i h. let one = x.first i h in let rest = left-then (q i) (put (place i)) (λ a. record { no_more = λ j. omega arith }) in omega (arith, one, rest) }

pub takes-alone : {A : Type 0} {q : Q A} (c : ℕ) → ((i : List Token) → heads (is c) i ≡ true → left (q i) < length i) → Takes (c ∷ []) q
takes-alone {q = q} c x = record { first = λ i h. x i (alone c i h) }
  where
    itself : (c n : ℕ) → among (c ∷ []) n ≡ true → (n == c) ≡ true
    itself c n h = by (n == c) h
      where
        by : (b : Bool) → cond b true false ≡ true → b ≡ true
        by true g = refl
        by false g = g

    alone : (c : ℕ) (i : List Token) → heads (among_these (c ∷ [])) i ≡ true → heads (is c) i ≡ true
    alone c [] h = h
    alone c (s ∷ i) h = itself c (sort s.kind) h

-- the end
finish-left : (i : List Token) → (let o : Outcome Token Kind (Unit {0}) = finish i in left o ≤ length i)
finish-left [] = omega arith
finish-left (s ∷ i) = omega arith

finish-no_fault : (i : List Token) (x : Kind) (k : ℕ) → (let o : Outcome Token Kind (Unit {0}) = finish i in o ≡ Err (Fault x k)) → ⊥
finish-no_fault [] x k h = absurd (cc)
finish-no_fault (s ∷ i) x k h = absurd (cc)

finish-remembers : (i : List Token) → (let o : Outcome Token Kind (Unit {0}) = finish i in o ≡ Err NoMemory) → ⊥
finish-remembers [] h = absurd (cc)
finish-remembers (s ∷ i) h = absurd (cc)

pub goes-finish : {most : ℕ} → Goes most finish finish
goes-finish = record { again = λ i a j h. h; beyond = λ i x k le h. absurd (finish-no_fault i x k h); within = record { no_more = finish-left }; remembers = finish-remembers }
