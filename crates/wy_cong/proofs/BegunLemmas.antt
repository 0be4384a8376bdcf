-- Terms that are under way.
use Rattle.std.proofs.Common.{◌≡◌, ◌∙◌, ◌<◌, ◌≤◌, ◌+◌, ◌⊎◌, inl, inr, Some, ℕ, zero, suc, Bool, true, false, cond, eqb, List, [], ◌∷◌, ◌++◌, map, take, length, append_assoc, refl, sym, ap, ap₂, subst, arith}
use Rattle.std.proofs.lemmas.List.{append-nil}
use Rattle.std.proofs.lemmas.Bool.{eqb-true}
use Rattle.wy_search_spec.specs.wy_check_spec.judge.Node.{has_formula}
use Rattle.wy_check_splits.specs.wy_check_nodes.Seen.{is_denied, seen_formula, signed, AreBare, AreBelow}
use Rattle.std.specs.Prelude.{slice_get}
use Rattle.wy_search_spec.specs.Standing.{below, standing_in, standing_in_parts}
use Rattle.wy_cong.proofs.GoneLemmas.{all_below, all_there, gone_still, listed_has, listed_or, none_new, number_bare, number_there}
use Rattle.wy_cong.proofs.TaskLemmas.{denial_led, plain_parts, range_parts, range_tasks, tasks_front, visit_led}
use Rattle.wy_cong.specs.Begun.{AreSmaller, AreUnderWay, BeginListed, BeginsMet, BeginsOne, IsGoneThrough, IsUnderWay, size, size_of_parts}
use Rattle.wy_cong.specs.Marks.{all_marked, is_any_bound, listed_unless, with_unmarked}
use Rattle.wy_cong.specs.Walk.{AreTasks, but_last, is_quantifier, left_at, next_tasks, tasks_of, visits}
use Rattle.wy_cong.specs.declared.task.Task.{Task}
use Rattle.wy_cong.specs.declared.task.Task.TheVariants.{Visit, Bind, Leave}
use Rattle.wy_term.specs.Nodes.{Plain, grown, parts_at}
use Rattle.wy_term.specs.Scope.{free_names}
use Rattle.wy_term.specs.Term.{Term}

-- ---- a task that leads to others

-- the list grows, and the others visit smaller terms and lead to what the task led to, whatever comes behind
pub record LeadsTo (at : ℕ → Term) (old new around now : List Term) (task : Task) (more : List Task) : Type 0 where
  pub same : (ts : List Task) → with_unmarked new (left_at at (more ++ ts) now) ≡ with_unmarked old (left_at at (task ∷ ts) around)
  pub grows : (t : Term) → has_formula old t ≡ true → has_formula new t ≡ true
  pub smaller : (n : ℕ) → AreSmaller at n (task ∷ []) → AreSmaller at n more

head_is : (u task : Task) (us ts : List Task) → task ∷ ts ≡ u ∷ us → u ≡ task
head_is u task us ts e = cc

tail_is : (u task : Task) (us ts : List Task) → task ∷ ts ≡ u ∷ us → ts ≡ us
tail_is u task us ts e = cc

smaller_joined : (at : ℕ → Term) (n : ℕ) (ts us : List Task) → AreSmaller at n ts → AreSmaller at n us → AreSmaller at n (ts ++ us)
smaller_joined at n [] us h k = k
smaller_joined at n (Visit j holds ∷ ts) us h k = (h.0, smaller_joined at n ts us h.1 k)
smaller_joined at n (Bind q ∷ ts) us h k = smaller_joined at n ts us h k
smaller_joined at n (Leave ∷ ts) us h k = smaller_joined at n ts us h k

smaller_head : (at : ℕ → Term) (n : ℕ) (t : Task) (ts : List Task) → AreSmaller at n (t ∷ ts) → AreSmaller at n (t ∷ [])
smaller_head at n (Visit j holds) ts h = (h.0, tt)
smaller_head at n (Bind q) ts h = tt
smaller_head at n Leave ts h = tt

smaller_tail : (at : ℕ → Term) (n : ℕ) (t : Task) (ts : List Task) → AreSmaller at n (t ∷ ts) → AreSmaller at n ts
smaller_tail at n (Visit j holds) ts h = h.1
smaller_tail at n (Bind q) ts h = h
smaller_tail at n Leave ts h = h

under_way_on : (at : ℕ → Term) (old new around now : List Term) (task : Task) (more ts us : List Task) (t : Term) → LeadsTo at old new around now task more → us ≡ more ++ ts
    → IsUnderWay at old (task ∷ ts) around t → IsUnderWay at new us now t
under_way_on at old new around now task more ts us t leads put way = by way.first way.split way.smaller way.gone
  where
    by : (first : List Task) → task ∷ ts ≡ first ++ way.rest → AreSmaller at (size t) first → IsGoneThrough (with_unmarked old (left_at at first around)) t → IsUnderWay at new us now t
    by [] split smaller gone = record { first = []; rest = us; split = refl; smaller = tt; gone = gone_still old new t leads.grows gone }
    by (u ∷ first) split smaller gone =
        let u_is : u ≡ task = head_is u task (first ++ way.rest) ts split in
        let ts_are : ts ≡ first ++ way.rest = tail_is u task (first ++ way.rest) ts split in
        let head : AreSmaller at (size t) (task ∷ []) = subst (λ (v : Task). AreSmaller at (size t) (v ∷ [])) u_is (smaller_head at (size t) u first smaller) in
        let whole : IsGoneThrough (with_unmarked old (left_at at (task ∷ first) around)) t = subst (λ (v : Task). IsGoneThrough (with_unmarked old (left_at at (v ∷ first) around)) t) u_is gone in
        record {
          first = more ++ first;
          rest = way.rest;
          split = put ∙ ap (λ (vs : List Task). more ++ vs) ts_are ∙ sym (append_assoc more first way.rest);
          smaller = smaller_joined at (size t) more first (leads.smaller (size t) head) (smaller_tail at (size t) u first smaller);
          gone = subst (λ (done : List Term). IsGoneThrough done t) (sym (leads.same first)) whole;
        }

-- all that was begun before
pub begun_on : (at : ℕ → Term) (old new around now : List Term) (task : Task) (more ts us : List Task) (before after : ℕ → Bool) → LeadsTo at old new around now task more → us ≡ more ++ ts
    → ((k : ℕ) → after k ≡ true → before k ≡ true) → ((k : ℕ) → before k ≡ true → IsUnderWay at old (task ∷ ts) around (at k)) → (k : ℕ) → after k ≡ true → IsUnderWay at new us now (at k)
begun_on at old new around now task more ts us before after leads put same each k e = under_way_on at old new around now task more ts us (at k) leads put (each k (same k e))

-- all that was listed before, where no more is listed but denials
pub listed_on : (at : ℕ → Term) (old new around now : List Term) (task : Task) (more ts us : List Task) → LeadsTo at old new around now task more → us ≡ more ++ ts
    → ((t : Term) → is_denied t ≡ false → has_formula new t ≡ true → has_formula old t ≡ true) → AreUnderWay at old (task ∷ ts) around → AreUnderWay at new us now
listed_on at old new around now task more ts us leads put same each = λ t flat e. under_way_on at old new around now task more ts us t leads put (each t flat (same t flat e))

-- ---- sizes

visits_smaller : (at : ℕ → Term) (n : ℕ) (ks : List ℕ) → size_of_parts (parts_at at ks) < n → AreSmaller at n (visits ks)
visits_smaller at n [] lt = tt
visits_smaller at n (k ∷ ks) lt =
    let sum : size (at k) + size_of_parts (parts_at at ks) < n = lt in
    (omega (arith, sum), visits_smaller at n ks (omega (arith, sum)))

range_smaller : (at : ℕ → Term) (n q : ℕ) (ks : List ℕ) → length ks ≡ 3 → size_of_parts (parts_at at ks) < n → AreSmaller at n (tasks_of q ks)
range_smaller at n q [] three lt = tt
range_smaller at n q (a ∷ []) three lt = tt
range_smaller at n q (a ∷ b ∷ []) three lt = tt
range_smaller at n q (a ∷ b ∷ c ∷ ks) three lt =
    let sum : size (at a) + (size (at b) + (size (at c) + size_of_parts (parts_at at ks))) < n = lt in
    (omega (arith, sum), (omega (arith, sum), (omega (arith, sum), tt)))

next_smaller : (at : ℕ → Term) (k n : ℕ) (p : Plain) → at k ≡ grown at p → (is_quantifier p.symbol ≡ true → length p.parts ≡ 3) → size (at k) ≤ n → AreSmaller at n (next_tasks k p)
next_smaller at k n p is three le = by (is_quantifier p.symbol) three
  where
    counts : size (at k) ≡ 1 + size_of_parts (parts_at at p.parts)
    counts = ap size is

    lt : size_of_parts (parts_at at p.parts) < n
    lt = omega (arith, counts, le)

    by : (b : Bool) → (b ≡ true → length p.parts ≡ 3) → AreSmaller at n (cond b (tasks_of k p.parts) (visits p.parts))
    by true up = range_smaller at n k p.parts (up refl) lt
    by false up = visits_smaller at n p.parts lt

-- ---- a visit

next_left : (at : ℕ → Term) (k : ℕ) (p : Plain) (ts : List Task) (around : List Term) → at k ≡ grown at p → (is_quantifier p.symbol ≡ true → length p.parts ≡ 3)
    → left_at at (next_tasks k p ++ ts) around ≡ all_marked around (below p.symbol (standing_in_parts (parts_at at p.parts))) ++ left_at at ts around
next_left at k p ts around is three = by (is_quantifier p.symbol) refl
  where
    by : (b : Bool) → is_quantifier p.symbol ≡ b → left_at at (cond b (tasks_of k p.parts) (visits p.parts) ++ ts) around ≡ all_marked around (below p.symbol (standing_in_parts (parts_at at p.parts))) ++ left_at at ts around
    by true up = range_parts at k p.symbol p.parts ts (tasks_of k p.parts ++ ts) around is up (three up) refl
    by false un = plain_parts at p.symbol p.parts ts (visits p.parts ++ ts) around un refl

pub next_below : (n k : ℕ) (p : Plain) (ts us : List Task) → k < n → AreBelow n p.parts → (is_quantifier p.symbol ≡ true → length p.parts ≡ 3) → AreTasks n ts → us ≡ next_tasks k p ++ ts → AreTasks n us
next_below n k p ts us lt low three are put = by (is_quantifier p.symbol) three put
  where
    by : (b : Bool) → (b ≡ true → length p.parts ≡ 3) → us ≡ cond b (tasks_of k p.parts) (visits p.parts) ++ ts → AreTasks n us
    by true up is = range_tasks n k p.parts ts us lt low (up refl) are is
    by false up is = tasks_front n p.parts ts us low are is

grown_on : (caught : Bool) (done new : List Term) (u : Term) → new ≡ listed_unless caught done u → (t : Term) → has_formula done t ≡ true → has_formula new t ≡ true
grown_on caught done new u is t e = subst (λ (ts : List Term). has_formula ts t ≡ true) (sym is) (listed_has caught done u t e)

-- a term that is listed and gone into
pub visit_on : (at : ℕ → Term) (k : ℕ) (p : Plain) (done new : List Term) (old now : List ℕ) → at k ≡ grown at p → (is_quantifier p.symbol ≡ true → length p.parts ≡ 3)
    → new ≡ listed_unless (is_any_bound (map at old) (free_names (at k))) done (at k) → now ≡ old → LeadsTo at done new (map at old) (map at now) (Visit k true) (next_tasks k p)
visit_on at k p done new old now is three listed kept = record {
  same = λ ts. visit_led at k p.symbol p.parts done new ts (next_tasks k p ++ ts) old now is listed kept (next_left at k p ts (map at old) is three);
  grows = grown_on (is_any_bound (map at old) (free_names (at k))) done new (at k) listed;
  smaller = λ n h. next_smaller at k n p is three (omega (arith, h.0));
}

-- so where no quantifier is around
pub visit_first : (at : ℕ → Term) (k : ℕ) (p : Plain) (done new : List Term) (around : List ℕ) → at k ≡ grown at p → (is_quantifier p.symbol ≡ true → length p.parts ≡ 3)
    → new ≡ listed_unless false done (at k) → around ≡ [] → LeadsTo at done new (map at around) (map at around) (Visit k true) (next_tasks k p)
visit_first at k p done new around is three listed none =
    let uncaught : is_any_bound (map at around) (free_names (at k)) ≡ false = ap (λ (ks : List ℕ). is_any_bound (map at ks) (free_names (at k))) none in
    visit_on at k p done new around around is three (listed ∙ ap (λ (b : Bool). listed_unless b done (at k)) (sym uncaught)) refl

-- it is under way, where no quantifier is around
begun_here : (at : ℕ → Term) (k : ℕ) (p : Plain) (done new now : List Term) (ts us : List Task) → at k ≡ grown at p → (is_quantifier p.symbol ≡ true → length p.parts ≡ 3)
    → LeadsTo at done new [] now (Visit k true) (next_tasks k p) → us ≡ next_tasks k p ++ ts → IsUnderWay at new us now (at k)
begun_here at k p done new now ts us is three leads put =
    let ms = all_marked [] (standing_in (at k)) in
    let end : with_unmarked new (left_at at (next_tasks k p) now) ≡ with_unmarked done ms =
    ap (λ (vs : List Task). with_unmarked new (left_at at vs now)) (sym (append-nil (next_tasks k p))) ∙ leads.same [] ∙ ap (with_unmarked done) (append-nil ms) in
    record {
      first = next_tasks k p;
      rest = ts;
      split = put;
      smaller = next_smaller at k (size (at k)) p is three (omega arith);
      gone = subst (λ (all : List Term). IsGoneThrough all (at k)) (sym end) (all_there done ms);
    }

pub begun_with : (at : ℕ → Term) (k : ℕ) (p : Plain) (done new around now : List Term) (ts us : List Task) (before after : ℕ → Bool) (outside : Bool) → at k ≡ grown at p
    → (is_quantifier p.symbol ≡ true → length p.parts ≡ 3) → LeadsTo at done new around now (Visit k true) (next_tasks k p) → us ≡ next_tasks k p ++ ts → (outside ≡ true → around ≡ [])
    → BeginsOne before after outside k → ((j : ℕ) → before j ≡ true → IsUnderWay at done (Visit k true ∷ ts) around (at j)) → (j : ℕ) → after j ≡ true → IsUnderWay at new us now (at j)
begun_with at k p done new around now ts us before after outside is three leads put none one each j e = by (one j e)
  where
    by : (before j ≡ true) ⊎ ((j ≡ k) × (outside ≡ true)) → IsUnderWay at new us now (at j)
    by (inl f) = under_way_on at done new around now (Visit k true) (next_tasks k p) ts us (at j) leads put (each j f)
    by (inr h) =
        let here : LeadsTo at done new [] now (Visit k true) (next_tasks k p) = subst (λ (ws : List Term). LeadsTo at done new ws now (Visit k true) (next_tasks k p)) (none h.1) leads in
        subst (λ (i : ℕ). IsUnderWay at new us now (at i)) (sym h.0) (begun_here at k p done new now ts us is three here put)

-- so is all that is listed, where none was met before
pub listed_first : (at : ℕ → Term) (k : ℕ) (p : Plain) (done new now : List Term) (ts us : List Task) → at k ≡ grown at p → (is_quantifier p.symbol ≡ true → length p.parts ≡ 3)
    → LeadsTo at done new [] now (Visit k true) (next_tasks k p) → us ≡ next_tasks k p ++ ts → new ≡ listed_unless false done (at k) → AreUnderWay at done (Visit k true ∷ ts) [] → AreUnderWay at new us now
listed_first at k p done new now ts us is three leads put listed each = λ t flat e. by t (each t flat) (listed_or false done new (at k) t listed e)
  where
    by : (t : Term) → (has_formula done t ≡ true → IsUnderWay at done (Visit k true ∷ ts) [] t) → (has_formula done t ≡ true) ⊎ (t ≡ at k) → IsUnderWay at new us now t
    by t was (inl f) = under_way_on at done new [] now (Visit k true) (next_tasks k p) ts us t leads put (was f)
    by t was (inr same) = subst (λ (u : Term). IsUnderWay at new us now u) (sym same) (begun_here at k p done new now ts us is three leads put)

pub bind_on : (at : ℕ → Term) (q : ℕ) (done around now : List Term) → now ≡ around ++ at q ∷ [] → LeadsTo at done done around now (Bind q) []
bind_on at q done around now is = record {
  same = λ ts. ap (λ (ws : List Term). with_unmarked done (left_at at ts ws)) is;
  grows = λ t e. e;
  smaller = λ n h. tt;
}

-- what was listed is begun where the first quantifier is met
pub begun_met : (at : ℕ → Term) (q : ℕ) (ps : List (ℕ × Bool)) (around now : List Term) (ts : List Task) (met : Bool) (before after : ℕ → Bool) → now ≡ around ++ at q ∷ [] → BeginsMet met before after ps → AreBare at ps
    → ((k : ℕ) → before k ≡ true → IsUnderWay at (map (seen_formula at) ps) (Bind q ∷ ts) around (at k)) → (met ≡ false → AreUnderWay at (map (seen_formula at) ps) (Bind q ∷ ts) around)
    → (k : ℕ) → after k ≡ true → IsUnderWay at (map (seen_formula at) ps) ts now (at k)
begun_met at q ps around now ts met before after bound begins bare each listed k e =
    under_way_on at (map (seen_formula at) ps) (map (seen_formula at) ps) around now (Bind q) [] ts ts (at k) (bind_on at q (map (seen_formula at) ps) around now bound) refl (by (begins k e))
  where
    by : (before k ≡ true) ⊎ ((met ≡ false) × ((i : ℕ) × (slice_get ps i ≡ Some (k, true)))) → IsUnderWay at (map (seen_formula at) ps) (Bind q ∷ ts) around (at k)
    by (inl f) = each k f
    by (inr h) = listed h.0 (at k) (number_bare at ps h.1.0 k bare h.1.1) (number_there at ps h.1.0 k h.1.1)

-- ---- a term that is passed over

-- a term that is under way where it is to be visited has been gone through, since no smaller one is it
gone_before : (at : ℕ → Term) (k : ℕ) (done around : List Term) (ts : List Task) → IsUnderWay at done (Visit k true ∷ ts) around (at k) → IsGoneThrough done (at k)
gone_before at k done around ts way = by way.first way.split way.smaller way.gone
  where
    by : (first : List Task) → Visit k true ∷ ts ≡ first ++ way.rest → AreSmaller at (size (at k)) first → IsGoneThrough (with_unmarked done (left_at at first around)) (at k) → IsGoneThrough done (at k)
    by [] split smaller gone = gone
    by (u ∷ first) split smaller gone =
        let u_is : u ≡ Visit k true = head_is u (Visit k true) (first ++ way.rest) ts split in
        let head : AreSmaller at (size (at k)) (Visit k true ∷ []) = subst (λ (v : Task). AreSmaller at (size (at k)) (v ∷ [])) u_is (smaller_head at (size (at k)) u first smaller) in
        let lt : size (at k) < size (at k) = head.0 in
        absurd (omega (arith, lt))

pub passed_on : (at : ℕ → Term) (k : ℕ) (done around : List Term) (ts : List Task) → IsUnderWay at done (Visit k true ∷ ts) around (at k) → LeadsTo at done done around around (Visit k true) []
passed_on at k done around ts way = record {
  same = λ us. sym (none_new done (all_marked around (standing_in (at k))) (left_at at us around) (all_below done around (standing_in (at k)) (gone_before at k done around ts way)));
  grows = λ t e. e;
  smaller = λ n h. tt;
}

pub begun_still : (at : ℕ → Term) (k : ℕ) (done around : List Term) (ts : List Task) (before after : ℕ → Bool) (outside : Bool) → before k ≡ true → BeginsOne before after outside k
    → ((j : ℕ) → before j ≡ true → IsUnderWay at done (Visit k true ∷ ts) around (at j)) → (j : ℕ) → after j ≡ true → IsUnderWay at done ts around (at j)
begun_still at k done around ts before after outside was one each =
    begun_on at done done around around (Visit k true) [] ts ts before after (passed_on at k done around ts (each k was)) refl (λ j e. by j (one j e)) each
  where
    by : (j : ℕ) → (before j ≡ true) ⊎ ((j ≡ k) × (outside ≡ true)) → before j ≡ true
    by j (inl f) = f
    by j (inr h) = ap before h.0 ∙ was

-- ---- the other tasks

-- the denial of a formula
pub denial_on : (at : ℕ → Term) (k : ℕ) (done new : List Term) (old now : List ℕ) → new ≡ listed_unless (is_any_bound (map at old) (free_names (signed (at k) false))) done (signed (at k) false) → now ≡ old
    → LeadsTo at done new (map at old) (map at now) (Visit k false) (Visit k true ∷ [])
denial_on at k done new old now listed kept = record {
  same = λ ts. ap (λ (a : List ℕ). with_unmarked new (left_at at (Visit k true ∷ ts) (map at a))) kept ∙ denial_led at k done new ts (Visit k true ∷ ts) (map at old) listed refl;
  grows = grown_on (is_any_bound (map at old) (free_names (signed (at k) false))) done new (signed (at k) false) listed;
  smaller = λ n h. (smaller_part n h.0, tt);
}
  where
    smaller_part : (n : ℕ) → size (signed (at k) false) < n → size (at k) < n
    smaller_part n lt = let sum : 1 + (size (at k) + 0) < n = lt in omega (arith, sum)

pub leave_on : (at : ℕ → Term) (done around now : List Term) → now ≡ but_last around → LeadsTo at done done around now Leave []
leave_on at done around now is = record {
  same = λ ts. ap (λ (ws : List Term). with_unmarked done (left_at at ts ws)) is;
  grows = λ t e. e;
  smaller = λ n h. tt;
}

pub begins_one : (old new : ℕ → Bool) (outside : Bool) (k : ℕ) → outside ≡ true → ((q : ℕ) → new q ≡ cond (eqb k q) true (old q)) → BeginsOne old new outside k
begins_one old new outside k up puts q e = by (eqb k q) refl (sym (puts q) ∙ e)
  where
    by : (b : Bool) → eqb k q ≡ b → cond b true (old q) ≡ true → (old q ≡ true) ⊎ ((q ≡ k) × (outside ≡ true))
    by true f g = inr (sym (eqb-true k q f), up)
    by false f g = inl g

pub none_around : (xs : List ℕ) (n : ℕ) → n ≡ length xs → eqb n 0 ≡ true → xs ≡ []
none_around [] n count e = refl
none_around (x ∷ xs) n count e =
    let none : n ≡ 0 = eqb-true n 0 e in
    absurd (omega (arith, none, count))

-- ---- what is begun where the first quantifier is met

abbrev numbered : ℕ → Bool → ℕ × Bool
numbered k b = (k, b)

pub begin_more : (first old new : ℕ → Bool) (ps : List (ℕ × Bool)) (i : ℕ) (p : ℕ × Bool) → slice_get ps i ≡ Some p → BeginListed first old ps → BeginsOne old new p.1 p.0 → BeginListed first new ps
begin_more first old new ps i p here begins one = λ q e. by q (one q e)
  where
    by : (q : ℕ) → (old q ≡ true) ⊎ ((q ≡ p.0) × (p.1 ≡ true)) → (first q ≡ true) ⊎ ((j : ℕ) × (slice_get ps j ≡ Some (q, true)))
    by q (inl f) = begins q f
    by q (inr h) = let same : p ≡ (q, true) = ap₂ numbered (sym h.0) h.1 in inr (i, here ∙ ap (λ (r : ℕ × Bool). Some r) same)

pub met_now : (met : Bool) (old new : ℕ → Bool) (ps : List (ℕ × Bool)) → met ≡ false → BeginListed old new ps → BeginsMet met old new ps
met_now met old new ps first begins = λ q e. by q (begins q e)
  where
    by : (q : ℕ) → (old q ≡ true) ⊎ ((i : ℕ) × (slice_get ps i ≡ Some (q, true))) → (old q ≡ true) ⊎ ((met ≡ false) × ((i : ℕ) × (slice_get ps i ≡ Some (q, true))))
    by q (inl f) = inl f
    by q (inr h) = inr (first, h)

taken_none : (xs : List ℕ) (n : ℕ) → xs ≡ [] → take n xs ≡ []
taken_none [] zero e = refl
taken_none [] (suc n) e = refl
taken_none (x ∷ xs) n e = absurd (cc)

pub none_left : (xs ys : List ℕ) (n : ℕ) → xs ≡ [] → ys ≡ take n xs → ys ≡ []
none_left xs ys n none is = is ∙ taken_none xs n none
