-- Formed types have levels and ranks: a type that a clause tests is of a lower level, and a name outside of records and arrays is of a lower rank.
use Rattle.std.proofs.Common.{◌≡◌, ◌<◌, ◌≤◌, ◌+◌, ◌⊎◌, inl, inr, ℕ, zero, suc, Bool, true, false, ◌||◌, ◌==◌, List, [], ◌∷◌, length, Some, refl, sym, ap, subst, arith}
use Rattle.std.specs.Prelude.{slice_get}
use Rattle.std.proofs.lemmas.Bool.{cases_lt, or_cases, or_left, or_right, eqb-true, or_from}
use Rattle.wy_sound_terms.specs.wy_core.CoreTree.{Alias, Decl, AliasDecl, RoutineDecl, Core, aliases_of}
use Rattle.wy_sound_terms.proofs.wy_core_proofs.formed_lemmas.SharedLemmas.{bare_is_named, named_below, clauses_below}
use Rattle.wy_sound_terms.specs.wy_core.formed.Offers.{Offers, offers_of}
use Rattle.wy_sound_terms.specs.wy_core.formed.Bound.{BoundAlias, BoundDecls, Bound, with_option}
use Rattle.wy_sound_terms.specs.wy_core.formed.Recursion.{NamesIn, ClausesMention, UsesType, Reaches, stays, goes, Recursion}
use Rattle.wy_sound_terms.specs.wy_core.formed.Ranks.{Ranked}
use Rattle.wy_sound_terms.proofs.wy_core_proofs.formed_lemmas.RankLemmas.{ranked_types, some_alias}
use Rattle.wy_lemmas.proofs.Choices.{eqb_itself as eqb_self, one_if, one_within, how_many, at_most_all as how_many_within, as_many}
use Rattle.wy_sound_terms.specs.wy_sem.TypeTests.{no_alias, alias_at, mentions}
use Rattle.wy_sound_terms.specs.wy_vc_spec.Named.{some_test_in, alias_mentions, leads_to, is_recursive}
use Rattle.wy_sound_terms.specs.wy_vc_spec.Numbered.{Node, numbered_list, numbered_alias, exprs_in_decl, numbered_decls, numbered_core}
use Rattle.wy_sound_terms.proofs.wy_graph_proofs.reach_lemmas.BoundedLemmas.{Grows, bounded}
use Rattle.wy_vc_laws.specs.grounded.Uses.{NamesAll, NamesBare, ClausesTestAll}
use Rattle.wy_vc_laws.proofs.grounded_lemmas.UseLemmas.{all_named, all_clauses_tested, bare_named, clauses_mention, some_clause}
use Rattle.wy_vc_laws.proofs.grounded_lemmas.NamedLemmas.{IsNamed, AreLevelled}
use Rattle.wy_sound_terms.proofs.wy_vc_spec_proofs.answered_lemmas.Levels.{fewer}
use Rattle.wy_sound_terms.proofs.wy_sem_proofs.SharedLemmas.{alias_past}
use Rattle.wy_sound_terms.proofs.wy_vc_spec_proofs.answered_lemmas.Uses.{named_mentions, some_named}

-- ---- numbered types

-- the type with this number, with and without numbers of expressions
record IsNumbered (ds : List (Decl ℕ)) (types : List (Alias Node)) (b : ℕ) : Type 0 where
  pub alias : Alias ℕ
  pub number : ℕ
  pub stands : slice_get (aliases_of ds) b ≡ Some alias
  pub is : alias_at types b ≡ numbered_alias alias number

numbered_at : (ds : List (Decl ℕ)) (k b : ℕ) → b < length (aliases_of (numbered_decls ds k)) → IsNumbered ds (aliases_of (numbered_decls ds k)) b
numbered_at [] k b less = absurd (omega (arith, less))
numbered_at (AliasDecl a ∷ ds) k zero less = record { alias = a; number = k; stands = refl; is = refl }
numbered_at (AliasDecl a ∷ ds) k (suc b) less = let r = numbered_at ds (k + exprs_in_decl (AliasDecl a)) b (omega (arith, less)) in record { alias = r.alias; number = r.number; stands = r.stands; is = r.is }
numbered_at (RoutineDecl r ∷ ds) k b less = let n = numbered_at ds (k + exprs_in_decl (RoutineDecl r)) b less in record { alias = n.alias; number = n.number; stands = n.stands; is = n.is }

same_count : (ds : List (Decl ℕ)) (k : ℕ) → length (aliases_of (numbered_decls ds k)) ≡ length (aliases_of ds)
same_count [] k = refl
same_count (AliasDecl a ∷ ds) k = let h = same_count ds (k + exprs_in_decl (AliasDecl a)) in omega (arith, h)
same_count (RoutineDecl r ∷ ds) k = same_count ds (k + exprs_in_decl (RoutineDecl r))

alias_bound : (o : Offers) (ds : List (Decl ℕ)) → BoundDecls o ds → (a : ℕ) (x : Alias ℕ) → slice_get (aliases_of ds) a ≡ Some x → BoundAlias o x
alias_bound o [] h a x at = absurd cc
alias_bound o (AliasDecl y ∷ ds) h zero x at = subst (λ (z : Alias ℕ). BoundAlias o z) (some_alias y x at) h.0
alias_bound o (AliasDecl y ∷ ds) h (suc a) x at = alias_bound o ds h.1 a x at
alias_bound o (RoutineDecl r ∷ ds) h a x at = alias_bound o ds h.1 a x at

-- ---- what a type leads to

module _ (core : Core ℕ) (bound : Bound core) (recurs : Recursion core) where
  abbrev pub types : List (Alias Node)
  types = aliases_of (numbered_core core)

  abbrev count : ℕ
  count = length types

  at_type : (b : ℕ) → b < count → IsNumbered core types b
  at_type b less = numbered_at core 0 b less

  -- one step towards the type, or that type
  abbrev on_way : ℕ → ℕ → ℕ → Bool
  on_way to j m = (m == to) || leads_to types to j m

  -- a name that the type uses, with a property
  record IsUse (x : Alias ℕ) (p : ℕ → Bool) : Type 0 where
    pub name : ℕ
    pub uses : UsesType true x name
    pub so : p name ≡ true

  used_mentions : (x : Alias ℕ) (k : ℕ) (p : ℕ → Bool) (c : ℕ) → UsesType true x c → p c ≡ true → alias_mentions p (numbered_alias x k) ≡ true
  used_mentions x k p c (inl h) q = or_left (mentions p x.ty) (some_test_in (mentions p) (numbered_list x.clauses k)) (named_mentions p x.ty c h q)
  used_mentions x k p c (inr h) q = or_right (mentions p x.ty) (some_test_in (mentions p) (numbered_list x.clauses k)) (clauses_mention p x.clauses k c h q)

  some_used : (x : Alias ℕ) (k : ℕ) (p : ℕ → Bool) → alias_mentions p (numbered_alias x k) ≡ true → IsUse x p
  some_used x k p h = by (or_cases (mentions p x.ty) (some_test_in (mentions p) (numbered_list x.clauses k)) h)
    where
      by : (mentions p x.ty ≡ true) ⊎ (some_test_in (mentions p) (numbered_list x.clauses k) ≡ true) → IsUse x p
      by (inl e) = let r = some_named p x.ty e in record { name = r.0; uses = inl r.1; so = r.2 }
      by (inr e) = let r = some_clause p x.clauses k e in record { name = r.0; uses = inr r.1; so = r.2 }

  one_step : (b j to c : ℕ) (n : IsNumbered core types b) → UsesType true n.alias c → on_way to j c ≡ true → leads_to types to (suc j) b ≡ true
  one_step b j to c n u q = subst (λ (a : Alias Node). alias_mentions (on_way to j) a ≡ true) (sym n.is) (used_mentions n.alias n.number (on_way to j) c u q)

  step_back : (b j to : ℕ) (n : IsNumbered core types b) → leads_to types to (suc j) b ≡ true → IsUse n.alias (on_way to j)
  step_back b j to n h = some_used n.alias n.number (on_way to j) (subst (λ (a : Alias Node). alias_mentions (on_way to j) a ≡ true) n.is h)

  leading : (to j n : ℕ) → leads_to types to j n ≡ true → n < count
  leading to zero n h = absurd (let e : false ≡ true = h in cc)
  leading to (suc j) n h = by (cases_lt n count)
    where
      by : (n < count) ⊎ (count ≤ n) → n < count
      by (inl less) = less
      by (inr past) = absurd (let e : false ≡ true = subst (λ (a : Alias Node). alias_mentions (on_way to j) a ≡ true) (alias_past types n past) h in cc)

  leads_grow : (to : ℕ) → Grows (leads_to types to) count
  leads_grow to = record { empty = λ n h. let e : false ≡ true = h in cc; steps = steps; within = leading to }
    where
      on : (i j : ℕ) → ((n : ℕ) → leads_to types to i n ≡ true → leads_to types to j n ≡ true) → (m : ℕ) → on_way to i m ≡ true → on_way to j m ≡ true
      on i j up m h = by (or_cases (m == to) (leads_to types to i m) h)
        where
          by : ((m == to) ≡ true) ⊎ (leads_to types to i m ≡ true) → on_way to j m ≡ true
          by (inl e) = or_left (m == to) (leads_to types to j m) e
          by (inr e) = or_right (m == to) (leads_to types to j m) (up m e)

      steps : (i j : ℕ) → ((n : ℕ) → leads_to types to i n ≡ true → leads_to types to j n ≡ true) → (n : ℕ) → leads_to types to (suc i) n ≡ true → leads_to types to (suc j) n ≡ true
      steps i j up n h =
          let a = at_type n (leading to (suc i) n h) in
          let u = step_back n i to a h in one_step n j to u.name a u.uses (on i j up u.name u.so)

  -- a type, and those that it leads to
  abbrev led : ℕ → ℕ → Bool
  led a m = on_way m count a

  -- what a used type leads to, the type leads to
  led_on : (b c m : ℕ) (n : IsNumbered core types b) → UsesType true n.alias c → led c m ≡ true → led b m ≡ true
  led_on b c m n u h = or_right (b == m) (leads_to types m count b) (bounded (leads_to types m) count (leads_grow m) (suc count) b (one_step b count m c n u h))

  -- what leads by steps leads
  reaches : (to j n : ℕ) → leads_to types to j n ≡ true → Reaches true (aliases_of core) n to
  reaches to zero n h = absurd (let e : false ≡ true = h in cc)
  reaches to (suc j) n h =
      let a = at_type n (leading to (suc j) n h) in
      let u = step_back n j to a h in goes a.alias u.name a.stands u.uses (by (or_cases (u.name == to) (leads_to types to j u.name) u.so) (λ e. reaches to j u.name e))
    where
      by : {m : ℕ} → ((m == to) ≡ true) ⊎ (leads_to types to j m ≡ true) → (leads_to types to j m ≡ true → Reaches true (aliases_of core) m to) → Reaches true (aliases_of core) m to
      by {m} (inl e) more = stays (eqb-true m to e)
      by {m} (inr e) more = more e

  -- ---- levels

  -- how many types a type leads to, with itself
  abbrev pub level : ℕ → ℕ
  level a = how_many (led a) count

  named_level : (b c : ℕ) (n : IsNumbered core types b) → UsesType true n.alias c → level c ≤ level b
  named_level b c n u = as_many (led c) (led b) (λ m h. led_on b c m n u h) count

  is_false : (b : Bool) → (b ≡ true → ⊥) → b ≡ false
  is_false true f = absurd (f refl)
  is_false false f = refl

  tested_level : (b c : ℕ) → b < count → (n : IsNumbered core types b) → ClausesMention n.alias.clauses c → level c < level b
  tested_level b c less n h =
      fewer (led c) (led b) (λ m g. led_on b c m n (inr h) g) count b less (or_from (c == b) (leads_to types b count c) (is_false (c == b) (λ e. recurs.mention b c n.alias n.stands h (stays (eqb-true c b e)))) (is_false (leads_to types b count c) (λ e. recurs.mention b c n.alias n.stands h (reaches b count c e))))
      (or_left (b == b) (leads_to types b count b) (eqb_self b))

  -- what a type that doesn't lead back to itself uses is of a lower level
  used_level : (b c : ℕ) → b < count → (n : IsNumbered core types b) → UsesType true n.alias c → is_recursive types b ≡ false → level c < level b
  used_level b c less n u straight =
      fewer (led c) (led b) (λ m h. led_on b c m n u h) count b less (is_false (led c b) (λ e. back e)) (or_left (b == b) (leads_to types b count b) (eqb_self b))
    where
      back : led c b ≡ true → ⊥
      back e = let r : is_recursive types b ≡ true = bounded (leads_to types b) count (leads_grow b) (suc count) b (one_step b count b c n u e) in absurd cc

  pub level_within : (b : ℕ) → level b ≤ length types
  level_within b = how_many_within (led b) count

  pub level_above : (b : ℕ) → b < length types → 0 < level b
  level_above b less =
      let h = fewer (λ m. false) (led b) (λ m e. absurd (let f : false ≡ true = e in cc)) count b less refl (or_left (b == b) (leads_to types b count b) (eqb_self b)) in
      omega (arith, h)

  -- ---- formed types

  abbrev pub ranked : Ranked (aliases_of core)
  ranked = ranked_types core bound recurs

  is_bound : (b : ℕ) (n : IsNumbered core types b) → BoundAlias (offers_of core) n.alias
  is_bound b n = alias_bound (offers_of core) core bound b n.alias n.stands

  -- what is below the count of types is below the count of numbered ones
  counted : (c : ℕ) → c < length (aliases_of core) → c < count
  counted c less = let e = same_count core 0 in omega (arith, less, e)

  name_is : (b c : ℕ) (n : IsNumbered core types b) → NamesIn true n.alias.ty c → IsNamed count level b c
  name_is b c n h = (counted c (named_below (length (aliases_of core)) n.alias.ty (is_bound b n).ty c h), named_level b c n (inl h))

  test_is : (b c : ℕ) → b < count → (n : IsNumbered core types b) → ClausesMention n.alias.clauses c → (c < count) × (level c < level b)
  test_is b c less n h = (counted c (clauses_below (offers_of core) (length n.alias.variables) (with_option [] n.alias.variable) n.alias.clauses (is_bound b n).clauses c h), tested_level b c less n h)

  pub types_levelled : AreLevelled types level ranked.rank
  types_levelled = record {
    named = λ b less. let n = at_type b less in subst (λ (a : Alias Node). NamesAll (IsNamed count level b) a.ty) (sym n.is) (all_named (IsNamed count level b) n.alias.ty (λ c h. name_is b c n h));
    bare = λ b less.
        let n = at_type b less in
        subst (λ (a : Alias Node). NamesBare (λ c. IsNamed count level b c × (ranked.rank c < ranked.rank b)) (IsNamed count level b) a.ty) (sym n.is)
        (bare_named (λ c. IsNamed count level b c × (ranked.rank c < ranked.rank b)) (IsNamed count level b) n.alias.ty (λ c h. (name_is b c n (bare_is_named n.alias.ty c h), ranked.falls b c n.alias n.stands h)) (λ c h. name_is b c n h));
    tested = λ b less.
        let n = at_type b less in
        subst (λ (a : Alias Node). ClausesTestAll (λ c. (c < count) × (level c < level b)) a.clauses) (sym n.is) (all_clauses_tested (λ c. (c < count) × (level c < level b)) n.alias.clauses n.number (λ c h. test_is b c less n h));
  }

  -- a type that doesn't lead back to itself names types of lower levels alone
  pub names_lower : (b : ℕ) → b < length types → is_recursive types b ≡ false → NamesAll (λ c. (c < length types) × (level c < level b)) (alias_at types b).ty
  names_lower b less straight =
      let n = at_type b less in
      subst (λ (a : Alias Node). NamesAll (λ c. (c < length types) × (level c < level b)) a.ty) (sym n.is)
      (all_named (λ c. (c < length types) × (level c < level b)) n.alias.ty (λ c h. (counted c (named_below (length (aliases_of core)) n.alias.ty (is_bound b n).ty c h), used_level b c less n (inl h) straight)))

  pub rank_within : (b : ℕ) → b < length types → ranked.rank b < length types
  rank_within b less = let n = at_type b less in let e = same_count core 0 in let l = ranked.within b n.alias n.stands in omega (arith, e, l)
