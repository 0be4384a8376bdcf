-- The visits of a type end, where the names outside of records and arrays fall in rank, and the clauses of each name end.
use Rattle.std.proofs.Common.{◌<◌, ℕ, zero, suc, Bool, true, false, inl, inr, refl, arith}
use Rattle.std.specs.Prelude.{None, not}
use Rattle.wy_sem.proofs.wy_core_proofs.formed_lemmas.SharedLemmas.{bare_is_named}
use Rattle.wy_sem.specs.wy_value.Datum.{Datum, Null, Truth, Whole, Array, Record, Data, no_items, item, Fields, no_fields, field}
use Rattle.wy_sem.specs.wy_core.Types.{Ty, NullTy, BoolTy, IntTy, AnyTy, VoidTy, RecordTy, ArrayTy, UnionTy, InterTy, NotTy, NamedTy, NormalTy, FieldTys, NoFieldTys, MoreFieldTys}
use Rattle.wy_sem.specs.wy_core.formed.Recursion.{NamesIn, NamesInFields}
use Rattle.wy_sem.specs.Meter.{choose}
use Rattle.wy_sem.specs.TypeTests.{Test, both, either, opposite, Questions, asked, name_asked, asked_of, no_items_asked, no_parts_asked, is_null, is_truth, is_whole, few_enough, same_names, tested, items_tested, parts_tested}
use Rattle.wy_vc_spec.proofs.answered_lemmas.Ends.{Endings}

abbrev pub questions : (ℕ → Ty) → ℕ → (ℕ → Datum → Test) → Questions
questions definition bare clause = record { paid = false; limit = None; definition = definition; bare = bare; clause = clause }

module _ (k : Endings) where
  choose-ends : (b : Bool) (f g : Test) → k.Rel Bool f → k.Rel Bool g → k.Rel Bool (choose b f g)
  choose-ends true f g p r = p
  choose-ends false f g p r = r

  both-ends : (f g : Test) → k.Rel Bool f → k.Rel Bool g → k.Rel Bool (both f g)
  both-ends f g p r = k.bind Bool Bool f _ p (λ b. choose-ends b _ _ r (k.done Bool false))

  either-ends : (f g : Test) → k.Rel Bool f → k.Rel Bool g → k.Rel Bool (either f g)
  either-ends f g p r = k.bind Bool Bool f _ p (λ b. choose-ends b _ _ (k.done Bool true) r)

  opposite-ends : (f : Test) → k.Rel Bool f → k.Rel Bool (opposite f)
  opposite-ends f p = k.bind Bool Bool f _ p (λ b. k.done Bool (not b))

-- each name has this property, and so have those of its definition; it has a rank below the bound, which falls along names outside of records and arrays; its clauses end
pub record AllEnd (k : Endings) (P : ℕ → Type 0) (definition : ℕ → Ty) (bare : ℕ) (clause : ℕ → Datum → Test) : Type 0 where
  pub rank : ℕ → ℕ
  pub within : (n : ℕ) → P n → rank n < bare
  pub named : (n : ℕ) → P n → (c : ℕ) → NamesIn true (definition n) c → P c
  pub falls : (n : ℕ) → P n → (c : ℕ) → NamesIn false (definition n) c → rank c < rank n
  pub clauses : (n : ℕ) → P n → (d : Datum) → k.Rel Bool (clause n d)

module _ (k : Endings) (P : ℕ → Type 0) (definition : ℕ → Ty) (bare : ℕ) (clause : ℕ → Datum → Test) (all : AllEnd k P definition bare clause) where
  abbrev q : Questions
  q = questions definition bare clause

  asked-ends : (Q : ℕ → Type 0) (named : ℕ → Test) (d : Datum) (items : Ty → Test) (parts : FieldTys → Test) → ((n : ℕ) → P n → Q n → k.Rel Bool (named n))
      → ((t : Ty) → ((c : ℕ) → NamesIn true t c → P c) → k.Rel Bool (items t)) → ((fs : FieldTys) → ((c : ℕ) → NamesInFields fs c → P c) → k.Rel Bool (parts fs))
      → (t : Ty) → ((c : ℕ) → NamesIn true t c → P c) → ((c : ℕ) → NamesIn false t c → Q c) → k.Rel Bool (asked q named d items parts t)
  asked-ends Q named d items parts hn hi hp NullTy h g = k.turned Bool _ (k.done Bool (is_null d))
  asked-ends Q named d items parts hn hi hp BoolTy h g = k.turned Bool _ (k.done Bool (is_truth d))
  asked-ends Q named d items parts hn hi hp IntTy h g = k.turned Bool _ (k.done Bool (is_whole d))
  asked-ends Q named d items parts hn hi hp AnyTy h g = k.turned Bool _ (k.done Bool true)
  asked-ends Q named d items parts hn hi hp VoidTy h g = k.turned Bool _ (k.done Bool false)
  asked-ends Q named d items parts hn hi hp (RecordTy fields) h g = k.turned Bool _ (hp fields h)
  asked-ends Q named d items parts hn hi hp (ArrayTy t) h g = k.turned Bool _ (hi t h)
  asked-ends Q named d items parts hn hi hp (UnionTy s t) h g = k.turned Bool _ (either-ends k _ _ (asked-ends Q named d items parts hn hi hp s (λ c j. h c (inl j)) (λ c j. g c (inl j))) (asked-ends Q named d items parts hn hi hp t (λ c j. h c (inr j)) (λ c j. g c (inr j))))
  asked-ends Q named d items parts hn hi hp (InterTy s t) h g = k.turned Bool _ (both-ends k _ _ (asked-ends Q named d items parts hn hi hp s (λ c j. h c (inl j)) (λ c j. g c (inl j))) (asked-ends Q named d items parts hn hi hp t (λ c j. h c (inr j)) (λ c j. g c (inr j))))
  asked-ends Q named d items parts hn hi hp (NotTy t) h g = k.turned Bool _ (opposite-ends k _ (asked-ends Q named d items parts hn hi hp t h g))
  asked-ends Q named d items parts hn hi hp (NamedTy n) h g = k.turned Bool _ (hn n (h n refl) (g n refl))
  asked-ends Q named d items parts hn hi hp (NormalTy union) h g = k.turned Bool _ (k.done Bool false)

  name-ends : (d : Datum) (items : Ty → Test) (parts : FieldTys → Test)
      → ((t : Ty) → ((c : ℕ) → NamesIn true t c → P c) → k.Rel Bool (items t)) → ((fs : FieldTys) → ((c : ℕ) → NamesInFields fs c → P c) → k.Rel Bool (parts fs))
      → (j n : ℕ) → P n → all.rank n < j → k.Rel Bool (name_asked q d items parts j n)
  name-ends d items parts hi hp zero n p less = absurd (omega (arith, less))
  name-ends d items parts hi hp (suc j) n p less = both-ends k _ _
      (asked-ends (λ c. all.rank c < j) (name_asked q d items parts j) d items parts (λ c i l. name-ends d items parts hi hp j c i l) hi hp (definition n) (all.named n p) (λ c i. let l = all.falls n p c i in omega (arith, l, less)))
      (all.clauses n p d)

  here-ends : (d : Datum) (items : Ty → Test) (parts : FieldTys → Test)
      → ((t : Ty) → ((c : ℕ) → NamesIn true t c → P c) → k.Rel Bool (items t)) → ((fs : FieldTys) → ((c : ℕ) → NamesInFields fs c → P c) → k.Rel Bool (parts fs))
      → (t : Ty) → ((c : ℕ) → NamesIn true t c → P c) → k.Rel Bool (asked_of q d items parts t)
  here-ends d items parts hi hp t h = asked-ends (λ c. all.rank c < bare) (name_asked q d items parts bare) d items parts (λ c i l. name-ends d items parts hi hp bare c i l) hi hp t h (λ c i. all.within c (h c (bare_is_named t c i)))

  no_item-ends : (t : Ty) → ((c : ℕ) → NamesIn true t c → P c) → k.Rel Bool (no_items_asked t)
  no_item-ends t h = k.done Bool false

  no_part-ends : (fs : FieldTys) → ((c : ℕ) → NamesInFields fs c → P c) → k.Rel Bool (no_parts_asked fs)
  no_part-ends fs h = k.done Bool false

  mutual
    pub tested-ends : (d : Datum) (t : Ty) → ((c : ℕ) → NamesIn true t c → P c) → k.Rel Bool (tested q d t)
    tested-ends Null t h = here-ends Null _ _ no_item-ends no_part-ends t h
    tested-ends (Truth b) t h = here-ends (Truth b) _ _ no_item-ends no_part-ends t h
    tested-ends (Whole z) t h = here-ends (Whole z) _ _ no_item-ends no_part-ends t h
    tested-ends (Array ds) t h = here-ends (Array ds) _ _ (λ u i. choose-ends k (few_enough ds) _ _ (items_tested-end ds u i) (k.done Bool false)) no_part-ends t h
    tested-ends (Record fs) t h = here-ends (Record fs) _ _ no_item-ends (λ us i. choose-ends k (same_names fs us) _ _ (parts_tested-end fs us i) (k.done Bool false)) t h

    items_tested-end : (ds : Data) (t : Ty) → ((c : ℕ) → NamesIn true t c → P c) → k.Rel Bool (items_tested q ds t)
    items_tested-end no_items t h = k.done Bool true
    items_tested-end (item d ds) t h = both-ends k _ _ (tested-ends d t h) (items_tested-end ds t h)

    parts_tested-end : (fs : Fields) (us : FieldTys) → ((c : ℕ) → NamesInFields us c → P c) → k.Rel Bool (parts_tested q fs us)
    parts_tested-end no_fields us h = k.done Bool true
    parts_tested-end (field n d fs) NoFieldTys h = k.done Bool true
    parts_tested-end (field n d fs) (MoreFieldTys o t us) h = both-ends k _ _ (tested-ends d t (λ c j. h c (inl j))) (parts_tested-end fs us (λ c j. h c (inr j)))
