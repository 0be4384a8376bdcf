-- What two atoms or conjuncts have in common is what is in both.
use Rattle.std.proofs.Common.{◌≡◌, ℕ, List, [], ◌∷◌, Bool, true, false, cond, not, ◌&&◌, ◌||◌, refl, sym, ap, ◌∙◌}
use Rattle.std.specs.Str.{bytes_eq}
use Rattle.wy_core.proofs.wy_lemmas_proofs.Choices.{and_false, and_end as and_true, or_none as or_false, both_parts as both, both_true as two_true, or_assoc}
use Rattle.wy_types.specs.declared.conjuncts.Signed.{Signed}
use Rattle.wy_types.specs.declared.conjuncts.Part.{Part}
use Rattle.wy_types.specs.declared.conjuncts.Atom.{Atom}
use Rattle.wy_types.specs.declared.conjuncts.Atom.TheVariants as atom
use Rattle.wy_types.specs.declared.conjuncts.Conjunct.{Conjunct}
use Rattle.wy_types.specs.Shape.{Shape, NullShape, BoolShape, IntShape, ArrayShape, RecordShape, part_in, each_in, fields_in, record_atom_in, atom_in, none_in, conjunct_in, any_in}
use Rattle.wy_types.specs.Same.{united, united_atoms}
use Rattle.wy_types.specs.Merge.{same_names, fits_atom, fitting, kept, united_fields, meet, with_atoms, with_pair, with_pairs, with_merge, merge}
use Rattle.wy_types.proofs.TruthLemmas.{and_or, or_and, and_swap}
use Rattle.wy_types.specs.NodeLaws.{bytes_are}
use Rattle.wy_types.proofs.OnceLemmas.{part_in-united, none_in-united_atoms, any_in-with_conjunct}

-- is in one of the atoms
abbrev pub any_atom_in : {T : Type 0} → Shape T → List (Atom T) → Bool
any_atom_in shape [] = false
any_atom_in shape (a ∷ more) = atom_in shape a || any_atom_in shape more

-- ---- names

pub same_names-both : {T : Type 0} (ns : List (List ℕ)) (rs : List (Bool → T → Bool)) (xs ys : List (List ℕ × Part T)) → fields_in ns rs xs ≡ true → fields_in ns rs ys ≡ true → same_names xs ys ≡ true
same_names-both [] [] [] [] e f = refl
same_names-both (n ∷ ns) (r ∷ rs) (x ∷ xs) (y ∷ ys) e f =
    let a = both (bytes_eq n x.0) (part_in r x.1.terms && fields_in ns rs xs) e in
    let b = both (bytes_eq n y.0) (part_in r y.1.terms && fields_in ns rs ys) f in
    let c = both (part_in r x.1.terms) (fields_in ns rs xs) a.1 in
    let d = both (part_in r y.1.terms) (fields_in ns rs ys) b.1 in
    two_true (bytes_eq x.0 y.0) (same_names xs ys) (rw (← bytes_are n x.0 a.0) b.0) (same_names-both ns rs xs ys c.1 d.1)
same_names-both [] [] (x ∷ xs) ys e f = absurd cc
same_names-both [] [] [] (y ∷ ys) e f = absurd cc
same_names-both [] (r ∷ rs) xs ys e f = absurd cc
same_names-both (n ∷ ns) [] xs ys e f = absurd cc
same_names-both (n ∷ ns) (r ∷ rs) [] ys e f = absurd cc
same_names-both (n ∷ ns) (r ∷ rs) (x ∷ xs) [] e f = absurd cc

pub fields_in-other_names : {T : Type 0} (ns : List (List ℕ)) (rs : List (Bool → T → Bool)) (xs ys : List (List ℕ × Part T)) → same_names xs ys ≡ false → (fields_in ns rs xs && fields_in ns rs ys) ≡ false
fields_in-other_names ns rs xs ys e = by (fields_in ns rs xs) (fields_in ns rs ys) refl refl
  where
    by : (a b : Bool) → fields_in ns rs xs ≡ a → fields_in ns rs ys ≡ b → (a && b) ≡ false
    by true true f g = absurd (let h = same_names-both ns rs xs ys f g in cc (h, e))
    by true false f g = refl
    by false b f g = refl

-- ---- the negatives that are kept

fitting_at : {T : Type 0} (ns : List (List ℕ)) (rs : List (Bool → T → Bool)) (fs : List (List ℕ × Part T)) (a : Atom T) (more : List (Atom T))
    (rest : none_in (RecordShape ns rs) (fitting fs more) ≡ none_in (RecordShape ns rs) more) (b : Bool) → fits_atom fs a ≡ b → fields_in ns rs fs ≡ true
    → none_in (RecordShape ns rs) (cond b (a ∷ fitting fs more) (fitting fs more)) ≡ (not (atom_in (RecordShape ns rs) a) && none_in (RecordShape ns rs) more)
fitting_at ns rs fs a more rest true e h = ap (λ b. not (atom_in (RecordShape ns rs) a) && b) rest
fitting_at ns rs fs (atom.Record qs) more rest false e h = rw (out) rest
  where
    out : fields_in ns rs qs ≡ false
    out = let d = fields_in-other_names ns rs fs qs e in rw h at d
fitting_at ns rs fs atom.Null more rest false e h = absurd cc
fitting_at ns rs fs atom.Bool more rest false e h = absurd cc
fitting_at ns rs fs atom.Int more rest false e h = absurd cc
fitting_at ns rs fs (atom.Array p) more rest false e h = absurd cc
fitting_at ns rs fs atom.AnyRecord more rest false e h = absurd cc

none_in-fitting : {T : Type 0} (ns : List (List ℕ)) (rs : List (Bool → T → Bool)) (fs : List (List ℕ × Part T)) (negatives : List (Atom T)) → fields_in ns rs fs ≡ true
    → none_in (RecordShape ns rs) (fitting fs negatives) ≡ none_in (RecordShape ns rs) negatives
none_in-fitting ns rs fs [] h = refl
none_in-fitting ns rs fs (a ∷ more) h = fitting_at ns rs fs a more (none_in-fitting ns rs fs more h) (fits_atom fs a) refl h

kept_record : {T : Type 0} (ns : List (List ℕ)) (rs : List (Bool → T → Bool)) (fs : List (List ℕ × Part T)) (negatives : List (Atom T)) (b : Bool) → fields_in ns rs fs ≡ b
    → (b && none_in (RecordShape ns rs) (fitting fs negatives)) ≡ (b && none_in (RecordShape ns rs) negatives)
kept_record ns rs fs negatives true h = none_in-fitting ns rs fs negatives h
kept_record ns rs fs negatives false h = refl

pub none_in-kept : {T : Type 0} (shape : Shape T) (a : Atom T) (negatives : List (Atom T)) → (atom_in shape a && none_in shape (kept a negatives)) ≡ (atom_in shape a && none_in shape negatives)
none_in-kept (RecordShape ns rs) (atom.Record fs) negatives = kept_record ns rs fs negatives (fields_in ns rs fs) refl
none_in-kept NullShape atom.Null negatives = refl
none_in-kept NullShape atom.Bool negatives = refl
none_in-kept NullShape atom.Int negatives = refl
none_in-kept NullShape (atom.Array p) negatives = refl
none_in-kept NullShape (atom.Record fs) negatives = refl
none_in-kept NullShape atom.AnyRecord negatives = refl
none_in-kept BoolShape atom.Null negatives = refl
none_in-kept BoolShape atom.Bool negatives = refl
none_in-kept BoolShape atom.Int negatives = refl
none_in-kept BoolShape (atom.Array p) negatives = refl
none_in-kept BoolShape (atom.Record fs) negatives = refl
none_in-kept BoolShape atom.AnyRecord negatives = refl
none_in-kept IntShape atom.Null negatives = refl
none_in-kept IntShape atom.Bool negatives = refl
none_in-kept IntShape atom.Int negatives = refl
none_in-kept IntShape (atom.Array p) negatives = refl
none_in-kept IntShape (atom.Record fs) negatives = refl
none_in-kept IntShape atom.AnyRecord negatives = refl
none_in-kept (ArrayShape rs) atom.Null negatives = refl
none_in-kept (ArrayShape rs) atom.Bool negatives = refl
none_in-kept (ArrayShape rs) atom.Int negatives = refl
none_in-kept (ArrayShape rs) (atom.Array p) negatives = refl
none_in-kept (ArrayShape rs) (atom.Record fs) negatives = refl
none_in-kept (ArrayShape rs) atom.AnyRecord negatives = refl
none_in-kept (RecordShape ns rs) atom.Null negatives = refl
none_in-kept (RecordShape ns rs) atom.Bool negatives = refl
none_in-kept (RecordShape ns rs) atom.Int negatives = refl
none_in-kept (RecordShape ns rs) (atom.Array p) negatives = refl
none_in-kept (RecordShape ns rs) atom.AnyRecord negatives = refl

no_record : {T : Type 0} (shape : Shape T) (fs : List (List ℕ × Part T)) (b : Bool) → record_atom_in shape fs ≡ false → any_atom_in shape (cond b (atom.Record fs ∷ []) []) ≡ false
no_record shape fs true e = ap (λ b. b || false) e
no_record shape fs false e = refl

module _ {T : Type 0} (same : T → T → Bool) (is : (x y : T) → same x y ≡ true → x ≡ y) where
  -- ---- parts united

  each_in-united : (rs : List (Bool → T → Bool)) (p q : List (Signed T)) → each_in rs (united same p q) ≡ (each_in rs p && each_in rs q)
  each_in-united [] p q = refl
  each_in-united (r ∷ rs) p q = rw (part_in-united same is r p q, each_in-united rs p q) (and_swap (part_in r p) (part_in r q) (each_in rs p) (each_in rs q))

  fields_in-united : (ns : List (List ℕ)) (rs : List (Bool → T → Bool)) (xs ys : List (List ℕ × Part T)) → same_names xs ys ≡ true
      → fields_in ns rs (united_fields same xs ys) ≡ (fields_in ns rs xs && fields_in ns rs ys)
  fields_in-united [] [] [] [] e = refl
  fields_in-united [] [] (x ∷ xs) (y ∷ ys) e = refl
  fields_in-united [] (r ∷ rs) [] [] e = refl
  fields_in-united [] (r ∷ rs) (x ∷ xs) (y ∷ ys) e = refl
  fields_in-united (n ∷ ns) [] [] [] e = refl
  fields_in-united (n ∷ ns) [] (x ∷ xs) (y ∷ ys) e = refl
  fields_in-united (n ∷ ns) (r ∷ rs) [] [] e = refl
  fields_in-united (n ∷ ns) (r ∷ rs) (x ∷ xs) (y ∷ ys) e =
      let a = both (bytes_eq x.0 y.0) (same_names xs ys) e in
      rw (← bytes_are x.0 y.0 a.0, part_in-united same is r x.1.terms y.1.terms, fields_in-united ns rs xs ys a.1)
      (shuffle (bytes_eq n x.0) (part_in r x.1.terms) (part_in r y.1.terms) (fields_in ns rs xs) (fields_in ns rs ys))
    where
      shuffle : (n a b c d : Bool) → (n && ((a && b) && (c && d))) ≡ ((n && (a && c)) && (n && (b && d)))
      shuffle true a b c d = and_swap a b c d
      shuffle false a b c d = refl
  fields_in-united ns rs [] (y ∷ ys) e = absurd cc
  fields_in-united ns rs (x ∷ xs) [] e = absurd cc

  -- ---- two atoms

  meet_records_at : (ns : List (List ℕ)) (rs : List (Bool → T → Bool)) (xs ys : List (List ℕ × Part T)) (b : Bool) → same_names xs ys ≡ b
      → any_atom_in (RecordShape ns rs) (cond b (atom.Record (united_fields same xs ys) ∷ []) []) ≡ (fields_in ns rs xs && fields_in ns rs ys)
  meet_records_at ns rs xs ys true e = or_false (fields_in ns rs (united_fields same xs ys)) ∙ fields_in-united ns rs xs ys e
  meet_records_at ns rs xs ys false e = sym (fields_in-other_names ns rs xs ys e)

  pub any_atom_in-meet : (shape : Shape T) (a b : Atom T) → any_atom_in shape (meet same a b) ≡ (atom_in shape a && atom_in shape b)
  any_atom_in-meet NullShape atom.Null atom.Null = refl
  any_atom_in-meet NullShape atom.Null atom.Bool = refl
  any_atom_in-meet NullShape atom.Null atom.Int = refl
  any_atom_in-meet NullShape atom.Null (atom.Array q) = refl
  any_atom_in-meet NullShape atom.Null (atom.Record ys) = refl
  any_atom_in-meet NullShape atom.Null atom.AnyRecord = refl
  any_atom_in-meet NullShape atom.Bool atom.Null = refl
  any_atom_in-meet NullShape atom.Bool atom.Bool = refl
  any_atom_in-meet NullShape atom.Bool atom.Int = refl
  any_atom_in-meet NullShape atom.Bool (atom.Array q) = refl
  any_atom_in-meet NullShape atom.Bool (atom.Record ys) = refl
  any_atom_in-meet NullShape atom.Bool atom.AnyRecord = refl
  any_atom_in-meet NullShape atom.Int atom.Null = refl
  any_atom_in-meet NullShape atom.Int atom.Bool = refl
  any_atom_in-meet NullShape atom.Int atom.Int = refl
  any_atom_in-meet NullShape atom.Int (atom.Array q) = refl
  any_atom_in-meet NullShape atom.Int (atom.Record ys) = refl
  any_atom_in-meet NullShape atom.Int atom.AnyRecord = refl
  any_atom_in-meet NullShape (atom.Array p) atom.Null = refl
  any_atom_in-meet NullShape (atom.Array p) atom.Bool = refl
  any_atom_in-meet NullShape (atom.Array p) atom.Int = refl
  any_atom_in-meet NullShape (atom.Array p) (atom.Array q) = refl
  any_atom_in-meet NullShape (atom.Array p) (atom.Record ys) = refl
  any_atom_in-meet NullShape (atom.Array p) atom.AnyRecord = refl
  any_atom_in-meet NullShape (atom.Record xs) atom.Null = refl
  any_atom_in-meet NullShape (atom.Record xs) atom.Bool = refl
  any_atom_in-meet NullShape (atom.Record xs) atom.Int = refl
  any_atom_in-meet NullShape (atom.Record xs) (atom.Array q) = refl
  any_atom_in-meet NullShape (atom.Record xs) (atom.Record ys) = no_record NullShape (united_fields same xs ys) (same_names xs ys) refl
  any_atom_in-meet NullShape (atom.Record xs) atom.AnyRecord = refl
  any_atom_in-meet NullShape atom.AnyRecord atom.Null = refl
  any_atom_in-meet NullShape atom.AnyRecord atom.Bool = refl
  any_atom_in-meet NullShape atom.AnyRecord atom.Int = refl
  any_atom_in-meet NullShape atom.AnyRecord (atom.Array q) = refl
  any_atom_in-meet NullShape atom.AnyRecord (atom.Record ys) = refl
  any_atom_in-meet NullShape atom.AnyRecord atom.AnyRecord = refl
  any_atom_in-meet BoolShape atom.Null atom.Null = refl
  any_atom_in-meet BoolShape atom.Null atom.Bool = refl
  any_atom_in-meet BoolShape atom.Null atom.Int = refl
  any_atom_in-meet BoolShape atom.Null (atom.Array q) = refl
  any_atom_in-meet BoolShape atom.Null (atom.Record ys) = refl
  any_atom_in-meet BoolShape atom.Null atom.AnyRecord = refl
  any_atom_in-meet BoolShape atom.Bool atom.Null = refl
  any_atom_in-meet BoolShape atom.Bool atom.Bool = refl
  any_atom_in-meet BoolShape atom.Bool atom.Int = refl
  any_atom_in-meet BoolShape atom.Bool (atom.Array q) = refl
  any_atom_in-meet BoolShape atom.Bool (atom.Record ys) = refl
  any_atom_in-meet BoolShape atom.Bool atom.AnyRecord = refl
  any_atom_in-meet BoolShape atom.Int atom.Null = refl
  any_atom_in-meet BoolShape atom.Int atom.Bool = refl
  any_atom_in-meet BoolShape atom.Int atom.Int = refl
  any_atom_in-meet BoolShape atom.Int (atom.Array q) = refl
  any_atom_in-meet BoolShape atom.Int (atom.Record ys) = refl
  any_atom_in-meet BoolShape atom.Int atom.AnyRecord = refl
  any_atom_in-meet BoolShape (atom.Array p) atom.Null = refl
  any_atom_in-meet BoolShape (atom.Array p) atom.Bool = refl
  any_atom_in-meet BoolShape (atom.Array p) atom.Int = refl
  any_atom_in-meet BoolShape (atom.Array p) (atom.Array q) = refl
  any_atom_in-meet BoolShape (atom.Array p) (atom.Record ys) = refl
  any_atom_in-meet BoolShape (atom.Array p) atom.AnyRecord = refl
  any_atom_in-meet BoolShape (atom.Record xs) atom.Null = refl
  any_atom_in-meet BoolShape (atom.Record xs) atom.Bool = refl
  any_atom_in-meet BoolShape (atom.Record xs) atom.Int = refl
  any_atom_in-meet BoolShape (atom.Record xs) (atom.Array q) = refl
  any_atom_in-meet BoolShape (atom.Record xs) (atom.Record ys) = no_record BoolShape (united_fields same xs ys) (same_names xs ys) refl
  any_atom_in-meet BoolShape (atom.Record xs) atom.AnyRecord = refl
  any_atom_in-meet BoolShape atom.AnyRecord atom.Null = refl
  any_atom_in-meet BoolShape atom.AnyRecord atom.Bool = refl
  any_atom_in-meet BoolShape atom.AnyRecord atom.Int = refl
  any_atom_in-meet BoolShape atom.AnyRecord (atom.Array q) = refl
  any_atom_in-meet BoolShape atom.AnyRecord (atom.Record ys) = refl
  any_atom_in-meet BoolShape atom.AnyRecord atom.AnyRecord = refl
  any_atom_in-meet IntShape atom.Null atom.Null = refl
  any_atom_in-meet IntShape atom.Null atom.Bool = refl
  any_atom_in-meet IntShape atom.Null atom.Int = refl
  any_atom_in-meet IntShape atom.Null (atom.Array q) = refl
  any_atom_in-meet IntShape atom.Null (atom.Record ys) = refl
  any_atom_in-meet IntShape atom.Null atom.AnyRecord = refl
  any_atom_in-meet IntShape atom.Bool atom.Null = refl
  any_atom_in-meet IntShape atom.Bool atom.Bool = refl
  any_atom_in-meet IntShape atom.Bool atom.Int = refl
  any_atom_in-meet IntShape atom.Bool (atom.Array q) = refl
  any_atom_in-meet IntShape atom.Bool (atom.Record ys) = refl
  any_atom_in-meet IntShape atom.Bool atom.AnyRecord = refl
  any_atom_in-meet IntShape atom.Int atom.Null = refl
  any_atom_in-meet IntShape atom.Int atom.Bool = refl
  any_atom_in-meet IntShape atom.Int atom.Int = refl
  any_atom_in-meet IntShape atom.Int (atom.Array q) = refl
  any_atom_in-meet IntShape atom.Int (atom.Record ys) = refl
  any_atom_in-meet IntShape atom.Int atom.AnyRecord = refl
  any_atom_in-meet IntShape (atom.Array p) atom.Null = refl
  any_atom_in-meet IntShape (atom.Array p) atom.Bool = refl
  any_atom_in-meet IntShape (atom.Array p) atom.Int = refl
  any_atom_in-meet IntShape (atom.Array p) (atom.Array q) = refl
  any_atom_in-meet IntShape (atom.Array p) (atom.Record ys) = refl
  any_atom_in-meet IntShape (atom.Array p) atom.AnyRecord = refl
  any_atom_in-meet IntShape (atom.Record xs) atom.Null = refl
  any_atom_in-meet IntShape (atom.Record xs) atom.Bool = refl
  any_atom_in-meet IntShape (atom.Record xs) atom.Int = refl
  any_atom_in-meet IntShape (atom.Record xs) (atom.Array q) = refl
  any_atom_in-meet IntShape (atom.Record xs) (atom.Record ys) = no_record IntShape (united_fields same xs ys) (same_names xs ys) refl
  any_atom_in-meet IntShape (atom.Record xs) atom.AnyRecord = refl
  any_atom_in-meet IntShape atom.AnyRecord atom.Null = refl
  any_atom_in-meet IntShape atom.AnyRecord atom.Bool = refl
  any_atom_in-meet IntShape atom.AnyRecord atom.Int = refl
  any_atom_in-meet IntShape atom.AnyRecord (atom.Array q) = refl
  any_atom_in-meet IntShape atom.AnyRecord (atom.Record ys) = refl
  any_atom_in-meet IntShape atom.AnyRecord atom.AnyRecord = refl
  any_atom_in-meet (ArrayShape rs) atom.Null atom.Null = refl
  any_atom_in-meet (ArrayShape rs) atom.Null atom.Bool = refl
  any_atom_in-meet (ArrayShape rs) atom.Null atom.Int = refl
  any_atom_in-meet (ArrayShape rs) atom.Null (atom.Array q) = refl
  any_atom_in-meet (ArrayShape rs) atom.Null (atom.Record ys) = refl
  any_atom_in-meet (ArrayShape rs) atom.Null atom.AnyRecord = refl
  any_atom_in-meet (ArrayShape rs) atom.Bool atom.Null = refl
  any_atom_in-meet (ArrayShape rs) atom.Bool atom.Bool = refl
  any_atom_in-meet (ArrayShape rs) atom.Bool atom.Int = refl
  any_atom_in-meet (ArrayShape rs) atom.Bool (atom.Array q) = refl
  any_atom_in-meet (ArrayShape rs) atom.Bool (atom.Record ys) = refl
  any_atom_in-meet (ArrayShape rs) atom.Bool atom.AnyRecord = refl
  any_atom_in-meet (ArrayShape rs) atom.Int atom.Null = refl
  any_atom_in-meet (ArrayShape rs) atom.Int atom.Bool = refl
  any_atom_in-meet (ArrayShape rs) atom.Int atom.Int = refl
  any_atom_in-meet (ArrayShape rs) atom.Int (atom.Array q) = refl
  any_atom_in-meet (ArrayShape rs) atom.Int (atom.Record ys) = refl
  any_atom_in-meet (ArrayShape rs) atom.Int atom.AnyRecord = refl
  any_atom_in-meet (ArrayShape rs) (atom.Array p) atom.Null = sym (and_false (each_in rs p.terms))
  any_atom_in-meet (ArrayShape rs) (atom.Array p) atom.Bool = sym (and_false (each_in rs p.terms))
  any_atom_in-meet (ArrayShape rs) (atom.Array p) atom.Int = sym (and_false (each_in rs p.terms))
  any_atom_in-meet (ArrayShape rs) (atom.Array p) (atom.Array q) = or_false (each_in rs (united same p.terms q.terms)) ∙ each_in-united rs p.terms q.terms
  any_atom_in-meet (ArrayShape rs) (atom.Array p) (atom.Record ys) = sym (and_false (each_in rs p.terms))
  any_atom_in-meet (ArrayShape rs) (atom.Array p) atom.AnyRecord = sym (and_false (each_in rs p.terms))
  any_atom_in-meet (ArrayShape rs) (atom.Record xs) atom.Null = refl
  any_atom_in-meet (ArrayShape rs) (atom.Record xs) atom.Bool = refl
  any_atom_in-meet (ArrayShape rs) (atom.Record xs) atom.Int = refl
  any_atom_in-meet (ArrayShape rs) (atom.Record xs) (atom.Array q) = refl
  any_atom_in-meet (ArrayShape rs) (atom.Record xs) (atom.Record ys) = no_record (ArrayShape rs) (united_fields same xs ys) (same_names xs ys) refl
  any_atom_in-meet (ArrayShape rs) (atom.Record xs) atom.AnyRecord = refl
  any_atom_in-meet (ArrayShape rs) atom.AnyRecord atom.Null = refl
  any_atom_in-meet (ArrayShape rs) atom.AnyRecord atom.Bool = refl
  any_atom_in-meet (ArrayShape rs) atom.AnyRecord atom.Int = refl
  any_atom_in-meet (ArrayShape rs) atom.AnyRecord (atom.Array q) = refl
  any_atom_in-meet (ArrayShape rs) atom.AnyRecord (atom.Record ys) = refl
  any_atom_in-meet (ArrayShape rs) atom.AnyRecord atom.AnyRecord = refl
  any_atom_in-meet (RecordShape ns rs) atom.Null atom.Null = refl
  any_atom_in-meet (RecordShape ns rs) atom.Null atom.Bool = refl
  any_atom_in-meet (RecordShape ns rs) atom.Null atom.Int = refl
  any_atom_in-meet (RecordShape ns rs) atom.Null (atom.Array q) = refl
  any_atom_in-meet (RecordShape ns rs) atom.Null (atom.Record ys) = refl
  any_atom_in-meet (RecordShape ns rs) atom.Null atom.AnyRecord = refl
  any_atom_in-meet (RecordShape ns rs) atom.Bool atom.Null = refl
  any_atom_in-meet (RecordShape ns rs) atom.Bool atom.Bool = refl
  any_atom_in-meet (RecordShape ns rs) atom.Bool atom.Int = refl
  any_atom_in-meet (RecordShape ns rs) atom.Bool (atom.Array q) = refl
  any_atom_in-meet (RecordShape ns rs) atom.Bool (atom.Record ys) = refl
  any_atom_in-meet (RecordShape ns rs) atom.Bool atom.AnyRecord = refl
  any_atom_in-meet (RecordShape ns rs) atom.Int atom.Null = refl
  any_atom_in-meet (RecordShape ns rs) atom.Int atom.Bool = refl
  any_atom_in-meet (RecordShape ns rs) atom.Int atom.Int = refl
  any_atom_in-meet (RecordShape ns rs) atom.Int (atom.Array q) = refl
  any_atom_in-meet (RecordShape ns rs) atom.Int (atom.Record ys) = refl
  any_atom_in-meet (RecordShape ns rs) atom.Int atom.AnyRecord = refl
  any_atom_in-meet (RecordShape ns rs) (atom.Array p) atom.Null = refl
  any_atom_in-meet (RecordShape ns rs) (atom.Array p) atom.Bool = refl
  any_atom_in-meet (RecordShape ns rs) (atom.Array p) atom.Int = refl
  any_atom_in-meet (RecordShape ns rs) (atom.Array p) (atom.Array q) = refl
  any_atom_in-meet (RecordShape ns rs) (atom.Array p) (atom.Record ys) = refl
  any_atom_in-meet (RecordShape ns rs) (atom.Array p) atom.AnyRecord = refl
  any_atom_in-meet (RecordShape ns rs) (atom.Record xs) atom.Null = sym (and_false (fields_in ns rs xs))
  any_atom_in-meet (RecordShape ns rs) (atom.Record xs) atom.Bool = sym (and_false (fields_in ns rs xs))
  any_atom_in-meet (RecordShape ns rs) (atom.Record xs) atom.Int = sym (and_false (fields_in ns rs xs))
  any_atom_in-meet (RecordShape ns rs) (atom.Record xs) (atom.Array q) = sym (and_false (fields_in ns rs xs))
  any_atom_in-meet (RecordShape ns rs) (atom.Record xs) (atom.Record ys) = meet_records_at ns rs xs ys (same_names xs ys) refl
  any_atom_in-meet (RecordShape ns rs) (atom.Record xs) atom.AnyRecord = or_false (fields_in ns rs xs) ∙ sym (and_true (fields_in ns rs xs))
  any_atom_in-meet (RecordShape ns rs) atom.AnyRecord atom.Null = refl
  any_atom_in-meet (RecordShape ns rs) atom.AnyRecord atom.Bool = refl
  any_atom_in-meet (RecordShape ns rs) atom.AnyRecord atom.Int = refl
  any_atom_in-meet (RecordShape ns rs) atom.AnyRecord (atom.Array q) = refl
  any_atom_in-meet (RecordShape ns rs) atom.AnyRecord (atom.Record ys) = or_false (fields_in ns rs ys)
  any_atom_in-meet (RecordShape ns rs) atom.AnyRecord atom.AnyRecord = refl

  -- ---- two conjuncts, and lists of them

  any_in-with_atoms : (shape : Shape T) (made : List (Conjunct T)) (atoms negatives : List (Atom T))
      → any_in shape (with_atoms same made atoms negatives) ≡ (any_in shape made || (any_atom_in shape atoms && none_in shape negatives))
  any_in-with_atoms shape made [] negatives = sym (or_false (any_in shape made))
  any_in-with_atoms shape made (a ∷ more) negatives =
      any_in-with_atoms shape (with_conjunct_of a) more negatives
      ∙ ap (λ b. b || (any_atom_in shape more && none_in shape negatives)) (any_in-with_conjunct same is shape made (record { positive = a; negatives = kept a negatives }))
      ∙ ap (λ b. (any_in shape made || b) || (any_atom_in shape more && none_in shape negatives)) (none_in-kept shape a negatives)
      ∙ or_assoc (any_in shape made) (atom_in shape a && none_in shape negatives) (any_atom_in shape more && none_in shape negatives)
      ∙ ap (λ b. any_in shape made || b) (sym (or_and (atom_in shape a) (any_atom_in shape more) (none_in shape negatives)))
    where
      with_conjunct_of : Atom T → List (Conjunct T)
      with_conjunct_of x = with_atoms same made (x ∷ []) negatives

  any_in-with_pair : (shape : Shape T) (made : List (Conjunct T)) (x y : Conjunct T) → any_in shape (with_pair same made x y) ≡ (any_in shape made || (conjunct_in shape x && conjunct_in shape y))
  any_in-with_pair shape made x y =
      any_in-with_atoms shape made (meet same x.positive y.positive) (united_atoms same x.negatives y.negatives)
      ∙ ap (λ b. any_in shape made || (b && none_in shape (united_atoms same x.negatives y.negatives))) (any_atom_in-meet shape x.positive y.positive)
      ∙ ap (λ b. any_in shape made || ((atom_in shape x.positive && atom_in shape y.positive) && b)) (none_in-united_atoms same is shape x.negatives y.negatives)
      ∙ ap (λ b. any_in shape made || b) (and_swap (atom_in shape x.positive) (atom_in shape y.positive) (none_in shape x.negatives) (none_in shape y.negatives))

  any_in-with_pairs : (shape : Shape T) (made : List (Conjunct T)) (x : Conjunct T) (ys : List (Conjunct T))
      → any_in shape (with_pairs same made x ys) ≡ (any_in shape made || (conjunct_in shape x && any_in shape ys))
  any_in-with_pairs shape made x [] = sym (ap (λ b. any_in shape made || b) (and_false (conjunct_in shape x)) ∙ or_false (any_in shape made))
  any_in-with_pairs shape made x (y ∷ ys) =
      any_in-with_pairs shape (with_pair same made x y) x ys
      ∙ ap (λ b. b || (conjunct_in shape x && any_in shape ys)) (any_in-with_pair shape made x y)
      ∙ or_assoc (any_in shape made) (conjunct_in shape x && conjunct_in shape y) (conjunct_in shape x && any_in shape ys)
      ∙ ap (λ b. any_in shape made || b) (sym (and_or (conjunct_in shape x) (conjunct_in shape y) (any_in shape ys)))

  any_in-with_merge : (shape : Shape T) (made xs ys : List (Conjunct T)) → any_in shape (with_merge same made xs ys) ≡ (any_in shape made || (any_in shape xs && any_in shape ys))
  any_in-with_merge shape made [] ys = sym (or_false (any_in shape made))
  any_in-with_merge shape made (x ∷ xs) ys =
      any_in-with_merge shape (with_pairs same made x ys) xs ys
      ∙ ap (λ b. b || (any_in shape xs && any_in shape ys)) (any_in-with_pairs shape made x ys)
      ∙ or_assoc (any_in shape made) (conjunct_in shape x && any_in shape ys) (any_in shape xs && any_in shape ys)
      ∙ ap (λ b. any_in shape made || b) (sym (or_and (conjunct_in shape x) (any_in shape xs) (any_in shape ys)))

  pub any_in-merge : (shape : Shape T) (xs ys : List (Conjunct T)) → any_in shape (merge same xs ys) ≡ (any_in shape xs && any_in shape ys)
  any_in-merge shape xs ys = any_in-with_merge shape [] xs ys
