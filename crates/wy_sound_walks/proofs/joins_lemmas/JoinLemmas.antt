-- A store at one of the paths is at the point behind them.
use Rattle.std.proofs.Common.{◌≡◌, ◌⊎◌, inl, inr, ℕ, zero, suc, ◌+◌, ◌≤◌, List, [], ◌∷◌, ◌++◌, length, drop, map, Bool, true, false, ◌&&◌, ◌||◌, if◌then◌else◌, Option, Some, None, refl, sym, ap, ◌∙◌, subst, arith}
use Rattle.wy_value.specs.Datum.{Datum}
use Rattle.wy_term.specs.Term.{Term}
use Rattle.wy_term.specs.Meaning.{Names, with_datum, sense}
use Rattle.wy_term.specs.Condition.{AllTrue}
use Rattle.wy_sound_terms.specs.wy_sem.Expressions.{Store}
use Rattle.wy_sound_terms.specs.wy_vc_spec.Making.{val_name, equal, all_of, any_of}
use Rattle.wy_sound_terms.specs.wy_vc_spec.Variables.{Vars, slot_at}
use Rattle.wy_sound_terms.specs.wy_vc_spec.Values.{word_at, or_null}
use Rattle.wy_sound_terms.specs.wy_vc_spec.Owed.{assume}
use Rattle.wy_sound_terms.specs.wy_vc_spec.Spots.{Spot, spot, is_set}
use Rattle.wy_sound_terms.specs.wy_vc_spec.Joins.{Path, path_of, most_vars, is_known, differ, first_term, set_on_all, with_equation, equated, Joined, with_variable, join_vars, one_of, join, meet}
use Rattle.wy_sound_terms.proofs.operations_lemmas.MadeLemmas.{holds as true_at, all, some, all_means, some_means}
use Rattle.wy_sound_terms.proofs.operations_lemmas.FollowLemmas.{true_all, true_before, true_first, true_second}
use Rattle.wy_sound_walks.specs.expressions.Names.{Agree, Known, Means, Stand}
use Rattle.wy_sound_walks.proofs.expressions_lemmas.NameLemmas.{agree_refl, agree_trans, agree_less}
use Rattle.wy_sound_walks.proofs.expressions_lemmas.AssumeLemmas.{assumed_true}
use Rattle.wy_sound_walks.specs.joins.Points.{Depends, IsPoint, At}
use Rattle.wy_sound_walks.specs.joins.Joins.{IsOne, ArePoints, AtEnd, JoinsAreSound}
use Rattle.wy_sound_walks.proofs.joins_lemmas.DatumLemmas.{agree_datum, datum_at, equal_true}
use Rattle.wy_sound_walks.proofs.joins_lemmas.PathLemmas.{IsMarked, AreMarked, known_term, set_one, differ_known, alike, equated_one, equated_marked}

-- ---- one variable after the other

-- what is carried over to what is known behind: the terms of marked variables
abbrev Carries : Vars → ℕ → Joined → Names → Names → ℕ → Type 0
Carries vars x j v later i = is_set j.set i ≡ true → (t : Term) → slot_at vars (x + i) ≡ Some t → (t2 : Term) × (slot_at j.vars i ≡ Some t2) × ((u : Names) → Agree j.count later u → (sense u t2).datum ≡ (sense v t).datum)

-- from a path with these terms and marks
record Result (vars : Vars) (set : List Bool) (x n : ℕ) (j : Joined) (v : Names) : Type 0 where
  later : Names
  agree : Agree n v later
  path : Path
  among : IsOne path j.paths
  since : (u : Names) → Agree j.count later u → AllTrue u path.since
  carries : (i : ℕ) → Carries vars x j v later i
  marked : (i : ℕ) → is_set j.set i ≡ true → is_set set (x + i) ≡ true
  grows : n ≤ j.count

abbrev Since : ℕ → Names → Path → Type 0
Since n v c = (u : Names) → Agree n v u → AllTrue u c.since

-- these terms have only names below the count
abbrev Low : ℕ → Vars → Type 0
Low k vars = (y : ℕ) (t : Term) → slot_at vars y ≡ Some t → Depends k t

some_same : (s t : Term) → ◌≡◌ {A = Option Term} (Some s) (Some t) → s ≡ t
some_same s t q = cc

-- the same path, with one equation more
equation_since : (n : ℕ) (name t : Term) (v later : Names) (c : Path) (o : Option Term) → o ≡ Some t → Agree n v later → Since n v c → ((u : Names) → Agree (suc n) later u → true_at u (equal name t) ≡ true) → Since (suc n) later (with_equation name o c)
equation_since n name t v later c None e a h g = absurd (none t e) where
  none : (x : Term) → ◌≡◌ {A = Option Term} None (Some x) → ⊥
  none x q = absurd cc
equation_since n name t v later c (Some s) e a h g = λ u b.
    true_before u c.since (equal name s ∷ []) (h u (agree_trans n (suc n) v later u (omega arith) a b)) (subst (λ (x : Term). true_at u (equal name x) ≡ true) (sym (some_same s t e)) (g u b), tt)

equation_vars : (name : Term) (o : Option Term) (c : Path) → (with_equation name o c).vars ≡ c.vars
equation_vars name None c = refl
equation_vars name (Some t) c = refl

equation_set : (name : Term) (o : Option Term) (c : Path) → (with_equation name o c).set ≡ c.set
equation_set name None c = refl
equation_set name (Some t) c = refl

-- a variable that stands for a new name, and the others behind it
carry_new : (vars : Vars) (x n : ℕ) (b : Bool) (name : Term) (rest : Joined) (v next later : Names) (t : Term) → slot_at vars x ≡ Some t → ((u : Names) → Agree (suc n) next u → (sense u name).datum ≡ (sense v t).datum) → Agree (suc n) next later → suc n ≤ rest.count
    → ((y : ℕ) (s : Term) → slot_at vars y ≡ Some s → (sense next s).datum ≡ (sense v s).datum) → ((l : ℕ) → Carries vars (suc x) rest next later l) → (i : ℕ) → Carries vars x (with_variable (Some name) b rest) v later i
carry_new vars x n b name rest v next later t e is a le low more zero q s f =
    let z : x + zero ≡ x = omega arith in
    let same : t ≡ s = some_same t s (sym e ∙ subst (λ (y : ℕ). slot_at vars y ≡ Some s) z f) in
    (name, refl, (λ u ag. is u (agree_trans (suc n) rest.count next later u le a ag) ∙ ap (λ (r : Term). (sense v r).datum) same))
carry_new vars x n b name rest v next later t e is a le low more (suc l) q s f =
    let z : x + suc l ≡ suc x + l = omega arith in
    let g : slot_at vars (suc x + l) ≡ Some s = subst (λ (y : ℕ). slot_at vars y ≡ Some s) z f in
    let r = more l q s g in
    (r.0, r.1, (λ u ag. r.2 u ag ∙ low (suc x + l) s g))

-- a variable that keeps its term, and the others behind it
carry_same : (vars : Vars) (x k : ℕ) (b : Bool) (o : Option Term) (rest : Joined) (v later : Names) → (b ≡ true → o ≡ slot_at vars x) → Agree k v later → k ≤ rest.count → Low k vars → ((l : ℕ) → Carries vars (suc x) rest v later l)
    → (i : ℕ) → Carries vars x (with_variable o b rest) v later i
carry_same vars x k b o rest v later is a le low more zero q s f =
    let z : x + zero ≡ x = omega arith in
    let g : slot_at vars x ≡ Some s = subst (λ (y : ℕ). slot_at vars y ≡ Some s) z f in
    (s, is q ∙ g, (λ u ag. low x s g v u (agree_trans k rest.count v later u le a ag)))
carry_same vars x k b o rest v later is a le low more (suc l) q s f =
    let z : x + suc l ≡ suc x + l = omega arith in
    more l q s (subst (λ (y : ℕ). slot_at vars y ≡ Some s) z f)

mark_more : (set : List Bool) (x : ℕ) (b : Bool) (bs : List Bool) → (b ≡ true → is_set set x ≡ true) → ((l : ℕ) → is_set bs l ≡ true → is_set set (suc x + l) ≡ true) → (i : ℕ) → is_set (b ∷ bs) i ≡ true → is_set set (x + i) ≡ true
mark_more set x b bs h g zero q = let z : x ≡ x + zero = omega arith in subst (λ (y : ℕ). is_set set y ≡ true) z (h q)
mark_more set x b bs h g (suc l) q = let z : suc x + l ≡ x + suc l = omega arith in subst (λ (y : ℕ). is_set set y ≡ true) z (g l q)

-- a variable whose terms differ: its name stands for what the path's term means
new_name : (words : List (List ℕ)) (k x n : ℕ) (c : Path) (ps : List Path) (rest : Joined) (v : Names) (t : Term) → k ≤ n → IsOne c ps → Low k c.vars → slot_at c.vars x ≡ Some t
    → Result c.vars c.set (suc x) (suc n) rest (with_datum v (word_at words x) n (sense v t).datum) → Result c.vars c.set x n (with_variable (Some (val_name (word_at words x) n)) (set_on_all ps x) rest) v
new_name words k x n c ps rest v t le one low e r =
    let word = word_at words x in
    let name = val_name word n in
    let d = (sense v t).datum in
    let next = with_datum v word n d in
    let there : Agree n v next = agree_datum n v word n d (omega arith) in
    record {
      later = r.later;
      agree = agree_trans n (suc n) v next r.later (omega arith) there r.agree;
      path = r.path;
      among = r.among;
      since = r.since;
      carries = carry_new c.vars x n (set_on_all ps x) name rest v next r.later t e (λ u a. a.datum_of word n (omega arith) ∙ datum_at v word n d) r.agree r.grows (λ y s q. low y s q v next (agree_less k n v next le there)) r.carries;
      marked = mark_more c.set x (set_on_all ps x) rest.set (λ q. set_one x c ps q one) r.marked;
      grows = let g = r.grows in omega (arith, g);
    }

-- a variable whose terms don't differ
old_term : (k x n : ℕ) (c : Path) (ps : List Path) (rest : Joined) (v : Names) → k ≤ n → AreMarked ps → IsOne c ps → Low k c.vars → differ ps x ≡ false
    → Result c.vars c.set (suc x) n rest v → Result c.vars c.set x n (with_variable (first_term ps x) (set_on_all ps x) rest) v
old_term k x n c ps rest v le m one low e r =
    record {
      later = r.later;
      agree = r.agree;
      path = r.path;
      among = r.among;
      since = r.since;
      carries = let g = r.grows in carry_same c.vars x k (set_on_all ps x) (first_term ps x) rest v r.later (λ q. alike x c ps m q e one) (agree_less k n v r.later le r.agree) (omega (arith, g, le)) low r.carries;
      marked = mark_more c.set x (set_on_all ps x) rest.set (λ q. set_one x c ps q one) r.marked;
      grows = r.grows;
    }

-- the same, where the other variables follow
named : (words : List (List ℕ)) (k x j n : ℕ) (v : Names) (c : Path) (ps : List Path) → k ≤ n → IsOne c ps → Low k c.vars → Since n v c → (t : Term) → slot_at c.vars x ≡ Some t
    → ((c2 : Path) (w : Names) → IsOne c2 (equated (val_name (word_at words x) n) x ps) → Low k c2.vars → Since (suc n) w c2 → Result c2.vars c2.set (suc x) (suc n) (join_vars words (equated (val_name (word_at words x) n) x ps) (suc x) j (suc n)) w)
    → Result c.vars c.set x n (with_variable (Some (val_name (word_at words x) n)) (set_on_all ps x) (join_vars words (equated (val_name (word_at words x) n) x ps) (suc x) j (suc n))) v
named words k x j n v c ps le one low since t e more =
    let word = word_at words x in
    let name = val_name word n in
    let d = (sense v t).datum in
    let next = with_datum v word n d in
    let there : Agree n v next = agree_datum n v word n d (omega arith) in
    let o = slot_at c.vars x in
    let c2 = with_equation name o c in
    let rest = join_vars words (equated name x ps) (suc x) j (suc n) in
    let name_is : (u : Names) → Agree (suc n) next u → (sense u name).datum ≡ d = λ u a. a.datum_of word n (omega arith) ∙ datum_at v word n d in
    let term_is : (u : Names) → Agree (suc n) next u → (sense u t).datum ≡ d = λ u a. low x t e v u (agree_less k n v u le (agree_trans n (suc n) v next u (omega arith) there a)) in
    let r : Result c2.vars c2.set (suc x) (suc n) rest next = more c2 next (equated_one name x c ps one) (subst (λ (vs : Vars). Low k vs) (sym (equation_vars name o c)) low)
    (equation_since n name t v next c o e there since (λ u a. equal_true u name t d (name_is u a) (term_is u a))) in
    let r1 : Result c.vars c2.set (suc x) (suc n) rest next = subst (λ (vs : Vars). Result vs c2.set (suc x) (suc n) rest next) (equation_vars name o c) r in
    new_name words k x n c ps rest v t le one low e (subst (λ (bs : List Bool). Result c.vars bs (suc x) (suc n) rest next) (equation_set name o c) r1)

join_all : (words : List (List ℕ)) (k : ℕ) (c : Path) (ps : List Path) (x j n : ℕ) (v : Names) → k ≤ n → AreMarked ps → IsOne c ps → Low k c.vars → Since n v c → Result c.vars c.set x n (join_vars words ps x j n) v
join_all words k c ps x zero n v le m one low since = record {
  later = v;
  agree = agree_refl n v;
  path = c;
  among = one;
  since = since;
  carries = λ i q. absurd (no_mark i q);
  marked = λ i q. absurd (no_mark i q);
  grows = omega arith;
} where
  no_mark : (i : ℕ) → is_set [] i ≡ true → ⊥
  no_mark i q = absurd cc
join_all words k c ps x (suc j) n v le m one low since =
    by (differ ps x) refl
    (λ c2 w one2 low2 since2. join_all words k c2 (equated (val_name (word_at words x) n) x ps) (suc x) j (suc n) w (omega (arith, le)) (equated_marked (val_name (word_at words x) n) x ps m) one2 low2 since2)
    (join_all words k c ps (suc x) j n v le m one low since)
  where
    by : (b : Bool) → differ ps x ≡ b
        → ((c2 : Path) (w : Names) → IsOne c2 (equated (val_name (word_at words x) n) x ps) → Low k c2.vars → Since (suc n) w c2 → Result c2.vars c2.set (suc x) (suc n) (join_vars words (equated (val_name (word_at words x) n) x ps) (suc x) j (suc n)) w)
        → Result c.vars c.set (suc x) n (join_vars words ps (suc x) j n) v
        → Result c.vars c.set x n (if b then with_variable (Some (val_name (word_at words x) n)) (set_on_all ps x) (join_vars words (equated (val_name (word_at words x) n) x ps) (suc x) j (suc n)) else with_variable (first_term ps x) (set_on_all ps x) (join_vars words ps (suc x) j n)) v
    by false e more r = old_term k x n c ps (join_vars words ps (suc x) j n) v le m one low e r
    by true e more r = let has = known_term (slot_at c.vars x) (differ_known x c ps e one) in named words k x j n v c ps le one low since has.0 has.1 more

-- ---- paths and points

drop_own : (base more : List Term) → drop (length base) (base ++ more) ≡ more
drop_own [] more = refl
drop_own (b ∷ base) more = drop_own base more

-- one of the paths was taken
one_true : (u : Names) (c : Path) (ps : List Path) → IsOne c ps → AllTrue u c.since → some u (map (λ p. all_of p.since) ps) ≡ true
one_true u c [] h t = absurd h
one_true u c (p ∷ ps) (inl is) t = rw (all_means u p.since ∙ ap (λ (q : Path). all u q.since) is ∙ true_all u c.since t) refl
one_true u c (p ∷ ps) (inr h) t = later (true_at u (all_of p.since)) (some u (map (λ (q : Path). all_of q.since) ps)) (one_true u c ps h t) where
  later : (a b : Bool) → b ≡ true → (a || b) ≡ true
  later true b e = refl
  later false b e = e

one_path : (base : List Term) (p : Spot) (ps : List Spot) → IsOne p ps → IsOne (path_of base p) (map (path_of base) ps)
one_path base p [] h = h
one_path base p (q ∷ ps) (inl is) = inl (ap (path_of base) is)
one_path base p (q ∷ ps) (inr h) = inr (one_path base p ps h)

some_known : (o : Option Term) (t : Term) → o ≡ Some t → is_known o ≡ true
some_known (Some s) t e = refl
some_known None t e = absurd cc

marked_paths : (n : ℕ) (base : List Term) (ps : List Spot) → ArePoints n base ps → AreMarked (map (path_of base) ps)
marked_paths n base [] h = tt
marked_paths n base (p ∷ ps) h = ((λ x e. let t = h.0.marked x e in some_known (slot_at p.vars x) t.0 t.1), marked_paths n base ps h.2)

point_of : (n : ℕ) (base : List Term) (p : Spot) (ps : List Spot) → ArePoints n base ps → IsOne p ps → IsPoint n p × ((more : List Term) × (p.hyps ≡ base ++ more))
point_of n base p [] a h = absurd h
point_of n base p (q ∷ ps) a (inl is) = subst (λ (r : Spot). IsPoint n r × ((more : List Term) × (r.hyps ≡ base ++ more))) is (a.0, a.1)
point_of n base p (q ∷ ps) a (inr h) = point_of n base p ps a.2 h

-- a marked variable behind the join
stand_behind : (vars : Vars) (set : List Bool) (j : Joined) (v later : Names) (m : ℕ) (s : Store) → Stand m v vars (is_set set) s → ((x : ℕ) → is_set set x ≡ true → (t : Term) × (slot_at vars x ≡ Some t))
    → ((i : ℕ) → Carries vars 0 j v later i) → ((i : ℕ) → is_set j.set i ≡ true → is_set set (0 + i) ≡ true) → Stand j.count later j.vars (is_set j.set) s
stand_behind vars set j v later m s stand has carries marked x d see e u a =
    let z : 0 + x ≡ x = omega arith in
    let on : is_set set x ≡ true = subst (λ (y : ℕ). is_set set y ≡ true) z (marked x see) in
    let t = has x on in
    let c = carries x see t.0 (subst (λ (y : ℕ). slot_at vars y ≡ Some t.0) (sym z) t.1) in
    let here : (sense v t.0).datum ≡ d = ap (λ (o : Option Term). (sense v (or_null o)).datum) (sym t.1) ∙ stand x d on e v (agree_refl m v) in
    ap (λ (o : Option Term). (sense u (or_null o)).datum) c.1 ∙ c.2 u a ∙ here

-- at least two paths come together
joined : (words : List (List ℕ)) (base : List Term) (ps : List Spot) (n m : ℕ) (names : Names) (s : Store) (p : Spot) → n ≤ m → ArePoints m base ps → IsOne p ps → At n names m p s
    → AtEnd n names (join words base (map (path_of base) ps) m).count (join words base (map (path_of base) ps) m).ends s
joined words base ps n m names s p le points one here =
    let is = point_of m base p ps points one in
    let c = path_of base p in
    let qs = map (path_of base) ps in
    let j = join_vars words qs 0 (most_vars qs) m in
    let v = here.later in
    let split : (u : Names) → Agree m v u → AllTrue u (base ++ is.1.0) = λ u a. subst (λ (hs : List Term). AllTrue u hs) is.1.1 (here.known u a) in
    let since : Since m v c = λ u a. subst (λ (hs : List Term). AllTrue u (drop (length base) hs)) (sym is.1.1) (subst (λ (hs : List Term). AllTrue u hs) (sym (drop_own base is.1.0)) (true_second u base is.1.0 (split u a))) in
    let r = join_all words m c qs 0 (most_vars qs) m v (omega arith) (marked_paths m base ps points) (one_path base p ps one) is.0.depends since in
    record {
      later = r.later;
      agree = agree_trans n m names v r.later le here.agree r.agree;
      known = λ u a. assumed_true u base (one_of j.paths) (true_first u base is.1.0 (split u (agree_trans m j.count v r.later u r.grows r.agree a)))
          (some_means u (map (λ (q : Path). all_of q.since) j.paths) ∙ one_true u r.path j.paths r.among (r.since u a));
      stand = stand_behind p.vars p.set j v r.later m s here.stand is.0.marked r.carries r.marked;
    }

pub joins_sound : JoinsAreSound
joins_sound words base [] n m names s p le points one here = absurd one
joins_sound words base (q ∷ []) n m names s p le points (inl is) here = subst (λ (r : Spot). At n names m r s) (sym is) here
joins_sound words base (q ∷ []) n m names s p le points (inr h) here = absurd h
joins_sound words base (q ∷ r ∷ ps) n m names s p le points one here = joined words base (q ∷ r ∷ ps) n m names s p le points one here
