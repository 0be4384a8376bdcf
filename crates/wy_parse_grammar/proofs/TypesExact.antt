-- Types are read exactly: a line for each rule.
use Rattle.std.proofs.Common.{◌≡◌, ℕ, zero, suc, ◌≤◌, Bool, true, false, List, [], ◌∷◌, ◌⊎◌, inl, inr, refl, Ok, Err, length, arith}
use Rattle.std.specs.Bool.{⊤}
use Rattle.wy_reading.specs.declared.stop.Stop.TheVariants.{Unexpected}
use Rattle.wy_reading.specs.Mode.{Mode}
use Rattle.wy_reading.specs.Rule.{heads, among, Pure, Then}
use Rattle.wy_reading.specs.Reader.{◌>>=◌, pure, one}
use Rattle.wy_reading.proofs.Exactness.{Exact, Passes, Lacks, Any}
use Rattle.wy_reading.proofs.Single.{nothing}
use Rattle.wy_reading.proofs.Sequence.{sequence}
use Rattle.wy_reading.proofs.Choice.{choice}
use Rattle.wy_reading.proofs.Repetition.{repetition, repetition_before}
use Rattle.wy_reading.proofs.Adapting.{adapt}
use Rattle.wy_reading.proofs.Levels.{deeper}
use Rattle.wy_reading.proofs.Closed.{closed, Declines, declines-then, declines-branch, declines-one}
use Rattle.wy_reading.proofs.Turns.{loop-halts}
use Rattle.wy_lex.specs.declared.token.Token.{Token}
use Rattle.wy_lex.specs.declared.token.TokenKind.TheVariants as k
use Rattle.wy_ast.specs.declared.types.TyKind.TheVariants as ty
use Rattle.wy_parse_grammar.specs.declared.fault.Kind.TheVariants.{Deep}
use Rattle.wy_parse_grammar.specs.declared.measured.Measured.TheVariants.{Low}
use Rattle.wy_parse_grammar.specs.declared.sort.Class.TheVariants as class
use Rattle.wy_parse_grammar.specs.Sorts as t
use Rattle.wy_parse_grammar.specs.Sorts.{is, has, members}
use Rattle.wy_parse_grammar.specs.Steps.{R, Q, Inner, inner, inside, Name, name, mark}
use Rattle.wy_parse_grammar.specs.Trees.{pushed, named, none, ty_node, named_ty, array_ty, not_ty, union_ty, inter_ty, record_ty}
use Rattle.wy_parse_grammar.specs.TypeGrammar as rule
use Rattle.wy_parse_grammar.specs.TypeGrammar.{T, Fields, base_kind}
use Rattle.wy_parse_grammar.specs.TypeReading as read
use Rattle.wy_parse_grammar.proofs.TokenLemmas.{among_these, some, at, at_other, one_out, fewer, apart, member, choice_of}
use Rattle.wy_parse_grammar.proofs.StepsExact.{token-exact, mark-exact, name-exact, inner-exact, mark_declines}

-- what may not follow: brackets, what joins, and what joins more loosely
abbrev pub joins_suffix : List ℕ
joins_suffix = t.OPEN_BRACKET ∷ []

abbrev pub joins_inter : List ℕ
joins_inter = t.AMPERSAND ∷ t.OPEN_BRACKET ∷ []

abbrev pub joins_type : List ℕ
joins_type = t.BAR ∷ t.AMPERSAND ∷ t.OPEN_BRACKET ∷ []

abbrev pub AfterSuffix : List Token → Type 0
AfterSuffix i = Lacks (among_these joins_suffix) i

abbrev pub AfterInter : List Token → Type 0
AfterInter i = Lacks (among_these joins_inter) i

abbrev pub AfterType : List Token → Type 0
AfterType i = Lacks (among_these joins_type) i

abbrev pub BeginsType : List Token → Type 0
BeginsType i = Passes (has class.Type) i

-- ---- brackets, with one level fewer inside

inside_grows : (a b : ℕ) → a ≤ b → inside a ≤ inside b
inside_grows zero b h = omega arith
inside_grows (suc a) zero h = absurd (omega (arith, h))
inside_grows (suc a) (suc b) h = omega (arith, h)

pub inside_reached : (d : ℕ) → 2 ≤ d → 1 ≤ inside d
inside_reached zero h = absurd (omega (arith, h))
inside_reached (suc d) h = omega (arith, h)

pub closing-exact : {F : List Token → Type 0} (n : Mode) (c : ℕ) (s : Token) → is c s ≡ true
    → Exact n (Inner (inside n.depth) c) (λ m. inner (inside m.depth) c) F (Passes (is c))
closing-exact n c s good = inner-exact inside 2 inside_grows inside_reached c s good n

module _ (n : Mode) where
  brackets-exact : (a : T) → Exact n (rule.Brackets n.depth a) (λ m. read.brackets m.depth a) Any (Passes (is t.OPEN_BRACKET))
  brackets-exact a =
      sequence (mark-exact {F = Any} t.OPEN_BRACKET (some k.OpenBracket) refl)
      (λ place. sequence (closing-exact {F = Any} n t.CLOSE_BRACKET (some k.CloseBracket) refl) (λ r. nothing (array_ty place a)) (λ i b. tt)) (λ i b. tt)

  pub suffixes-exact : (a : T) → Exact n (rule.Suffixes n.depth a) (λ m. read.suffixes m.depth a) AfterSuffix (λ i. AfterSuffix i ⊎ Passes (is t.OPEN_BRACKET) i)
  unfolding read.suffixes
  suffixes-exact a =
      repetition (is t.OPEN_BRACKET) brackets-exact (λ i h. h) (λ i f. one_out t.OPEN_BRACKET joins_suffix i refl f) (λ i f. tt) (λ i h. tt) refl a

-- ---- over `tight` of a level

module _ (n : Mode) (V : R T) (v : Mode → Q T) (exact : Exact n V v Any BeginsType) where
  pub suffix-exact : Exact n (rule.Suffix n.depth V) (λ m. read.suffix m.depth (v m)) AfterSuffix BeginsType
  unfolding read.suffix
  suffix-exact = sequence exact (suffixes-exact n) (λ i b. tt)

  and_suffix-exact : (a : T) → Exact n (rule.AndSuffix n.depth V a) (λ m. read.and_suffix m.depth (v m) a) AfterSuffix (Passes (is t.AMPERSAND))
  and_suffix-exact a =
      sequence (mark-exact {F = Any} t.AMPERSAND (some k.Ampersand) refl) (λ place. sequence suffix-exact (λ b. nothing (inter_ty place a b)) (λ i f. f)) (λ i b. tt)

  pub inters-exact : (a : T) → Exact n (rule.Inters n.depth V a) (λ m. read.inters m.depth (v m) a) AfterInter (λ i. AfterInter i ⊎ Passes (is t.AMPERSAND) i)
  unfolding read.inters
  inters-exact a =
      repetition (is t.AMPERSAND) and_suffix-exact (λ i h. h) (λ i f. one_out t.AMPERSAND joins_inter i refl f) (λ i f. fewer joins_suffix joins_inter i refl f)
      (λ i h. at t.AMPERSAND joins_suffix i h) refl a

  inter-exact : Exact n (rule.Inter n.depth V) (λ m. read.inter m.depth (v m)) AfterInter BeginsType
  unfolding read.inter
  inter-exact = sequence suffix-exact inters-exact
      (λ i b. elim b [ inl f ↦ fewer joins_suffix joins_inter i refl f | inr h ↦ at t.AMPERSAND joins_suffix i h ])

  or_inter-exact : (a : T) → Exact n (rule.OrInter n.depth V a) (λ m. read.or_inter m.depth (v m) a) AfterInter (Passes (is t.BAR))
  or_inter-exact a =
      sequence (mark-exact {F = Any} t.BAR (some k.Bar) refl) (λ place. sequence inter-exact (λ b. nothing (union_ty place a b)) (λ i f. f)) (λ i b. tt)

  pub unions-exact : (a : T) → Exact n (rule.Unions n.depth V a) (λ m. read.unions m.depth (v m) a) AfterType (λ i. AfterType i ⊎ Passes (is t.BAR) i)
  unfolding read.unions
  unions-exact a =
      repetition (is t.BAR) or_inter-exact (λ i h. h) (λ i f. one_out t.BAR joins_type i refl f) (λ i f. fewer joins_inter joins_type i refl f)
      (λ i h. at t.BAR joins_inter i h) refl a

  pub union-exact : Exact n (rule.Union n.depth V) (λ m. read.union m.depth (v m)) AfterType BeginsType
  unfolding read.union
  union-exact = sequence inter-exact unions-exact
      (λ i b. elim b [ inl f ↦ fewer joins_inter joins_type i refl f | inr h ↦ at t.BAR joins_inter i h ])

  -- a type that goes on behind a suffix, and behind a tight
  abbrev pub BeginsTail : List Token → Type 0
  BeginsTail i = AfterType i ⊎ Passes (among_these (t.BAR ∷ t.AMPERSAND ∷ [])) i

  pub tail-exact : (a : T) → Exact n (rule.Tail n.depth V a) (λ m. read.tail m.depth (v m) a) AfterType BeginsTail
  unfolding read.tail
  tail-exact a =
      adapt (sequence (inters-exact a) unions-exact
      (λ i b. elim b [ inl f ↦ fewer joins_inter joins_type i refl f | inr h ↦ at t.BAR joins_inter i h ]))
      (λ i f. f) (λ i b. begins i b) (λ a p. tt)
    where
      begins : (i : List Token) → AfterInter i ⊎ Passes (is t.AMPERSAND) i → BeginsTail i
      begins i (inr h) = inr (member t.AMPERSAND (t.BAR ∷ t.AMPERSAND ∷ []) i refl h)
      begins i (inl f) = split (heads (is t.BAR) i) refl
        where
          split : (b : Bool) → heads (is t.BAR) i ≡ b → BeginsTail i
          split true h = inr (member t.BAR (t.BAR ∷ t.AMPERSAND ∷ []) i refl h)
          split false h = inl (join i h f)
            where
              join : (i : List Token) → Lacks (is t.BAR) i → AfterInter i → AfterType i
              join [] g f = refl
              join (s ∷ i) g f = rw (g, f) refl

  field-exact : (fs : Fields) → Exact n (rule.Field n.depth V fs) (λ m. read.field m.depth (v m) fs) Any BeginsType
  unfolding read.field
  field-exact fs =
      sequence union-exact (λ ty. sequence (name-exact {F = Any}) (λ w. nothing (pushed fs (named w.1 ty))) (λ i b. tt)) (λ i h. at t.NAME joins_type i h)

  next_field-exact : (fs : Fields) → Exact n (rule.NextField n.depth V fs) (λ m. read.next_field m.depth (v m) fs) Any (Passes (is t.COMMA))
  next_field-exact fs = sequence (mark-exact {F = Any} t.COMMA (some k.Comma) refl) (λ r. field-exact fs) (λ i b. tt)

  -- behind fields stands no comma, and behind none nothing that begins a type
  abbrev AfterFields : List Token → Type 0
  AfterFields i = Lacks (is t.COMMA) i × Lacks (has class.Type) i

  field_list-exact : Exact n (rule.FieldList n.depth V) (λ m. read.field_list m.depth (v m)) AfterFields (λ i. BeginsType i ⊎ AfterFields i)
  unfolding read.field_list
  field_list-exact =
      choice (has class.Type)
      (sequence (field-exact none) (λ fs. repetition (is t.COMMA) next_field-exact (λ i h. h) (λ i f. f.0) (λ i f. tt) (λ i h. tt) (refl, refl) fs) (λ i b. tt))
      (nothing none) (λ i h. h) (λ i f. f.1)

  -- ---- what stands around the level

  base-exact : Exact n rule.Base (λ m. read.base) Any (Passes (has class.BaseType))
  unfolding read.base
  base-exact = token-exact (has class.BaseType) (λ s. ty_node s.at (Low (base_kind s.kind) 0)) (some k.Null) refl

  named-exact : Exact n (Then Name (λ w. Pure (named_ty w.0 w.1))) (λ m. name >>= (λ w. pure (named_ty w.0 w.1))) Any (Passes (is t.NAME))
  named-exact = sequence (name-exact {F = Any}) (λ w. nothing (named_ty w.0 w.1)) (λ i b. tt)

  pub tight_of-exact : Exact n (rule.TightOf n.depth V) (λ m. read.tight_of m.depth (v m)) Any BeginsType
  unfolding read.tight_of
  tight_of-exact =
      choice_of t.NOT (t.OPEN_PAREN ∷ t.OPEN_BRACE ∷ t.NAME ∷ members class.BaseType) (members class.Type)
      (sequence (mark-exact {F = Any} t.NOT (some k.Not) refl) (λ place. sequence exact (λ ty. nothing (not_ty place ty)) (λ i b. tt)) (λ i b. tt))
      (choice_of t.OPEN_PAREN (t.OPEN_BRACE ∷ t.NAME ∷ members class.BaseType) (t.OPEN_PAREN ∷ t.OPEN_BRACE ∷ t.NAME ∷ members class.BaseType)
      (sequence (mark-exact {F = Any} t.OPEN_PAREN (some k.OpenParen) refl)
      (λ r. sequence union-exact (λ ty. sequence (mark-exact {F = Any} t.CLOSE_PAREN (some k.CloseParen) refl) (λ r. nothing ty) (λ i b. tt))
      (λ i h. at t.CLOSE_PAREN joins_type i h)) (λ i b. tt))
      (choice_of t.OPEN_BRACE (t.NAME ∷ members class.BaseType) (t.OPEN_BRACE ∷ t.NAME ∷ members class.BaseType)
      (sequence (mark-exact {F = Any} t.OPEN_BRACE (some k.OpenBrace) refl)
      (λ place. sequence field_list-exact
      (λ fs. sequence (inner-exact (λ d. d) 1 (λ a b h. h) (λ d h. h) t.CLOSE_BRACE (some k.CloseBrace) refl {F = Any} n) (λ r. nothing (record_ty place fs)) (λ i b. tt))
      (λ i h. (at_other t.COMMA t.CLOSE_BRACE i refl h, at t.CLOSE_BRACE (members class.Type) i h)))
      (λ i b. tt))
      (choice_of t.NAME (members class.BaseType) (t.NAME ∷ members class.BaseType) named-exact base-exact refl refl refl)
      refl refl refl)
      refl refl refl)
      refl refl refl

-- ---- levels

mark_none : (c : ℕ) → among (members class.Type) c ≡ true → (i : List Token) → heads (has class.Type) i ≡ false → mark c i ≡ Err (Unexpected (length i))
mark_none c e i h = mark_declines c i (one_out c (members class.Type) i e h)

name_none : Declines (has class.Type) name
unfolding name
name_none = declines-then (one (is t.NAME)) _ (declines-one (is t.NAME) (λ i h. one_out t.NAME (members class.Type) i refl h))

base_none : Declines (has class.Type) read.base
unfolding read.base
base_none = declines-then (one (has class.BaseType)) _ (declines-one (has class.BaseType) (λ i h. fewer (members class.BaseType) (members class.Type) i refl h))

tight_of-declines : (levels : ℕ) (v : Q T) → Declines (has class.Type) (read.tight_of levels v)
unfolding read.tight_of
tight_of-declines levels v =
    declines-branch (is t.NOT) _ _ (declines-then (mark t.NOT) _ (mark_none t.NOT refl))
    (declines-branch (is t.OPEN_PAREN) _ _ (declines-then (mark t.OPEN_PAREN) _ (mark_none t.OPEN_PAREN refl))
    (declines-branch (is t.OPEN_BRACE) _ _ (declines-then (mark t.OPEN_BRACE) _ (mark_none t.OPEN_BRACE refl))
    (declines-branch (is t.NAME) _ _ (declines-then name _ name_none)
    base_none)))

pub tight-declines : (levels : ℕ) → Declines (has class.Type) (read.tight levels)
unfolding read.tight
tight-declines zero i h = rw h refl
tight-declines (suc levels) i h = tight_of-declines levels (read.tight levels) i h

abbrev pub null : Token
null = some k.Null

tight-null : (levels : ℕ) (z : List Token) → 1 ≤ levels → read.tight levels (null ∷ z) ≡ Ok (ty_node 0 (Low ty.Null 0), z)
unfolding read.tight read.tight_of read.base
tight-null zero z h = absurd (omega (arith, h))
tight-null (suc levels) z h = refl

pub tight-exact : (d : ℕ) (s : Bool) → Exact (record { depth = d; strict = s }) (rule.Tight d) (λ m. read.tight m.depth) Any BeginsType
unfolding read.tight rule.Tight
tight-exact zero s =
    let n : Mode = record { depth = zero; strict = s } in
    closed n (has class.Type) Deep (λ m. read.tight m.depth) Any (λ a. ⊤) (λ m i h. tight-declines m.depth i h) (λ i h. rw h refl)
    (record {
      text = null ∷ [];
      made = ty_node 0 (Low ty.Null 0);
      wanted = tt;
      deep = 1;
      alive = λ m le d z f. tight-null m.depth z d;
      starts = λ z f. refl;
    })
tight-exact (suc d) s =
    let n : Mode = record { depth = d; strict = s } in
    deeper n (rule.Tight (suc d)) (λ m. read.tight m.depth) (tight_of-exact n (rule.Tight d) (λ m. read.tight m.depth) (tight-exact d s))

-- `null` is read, and what begins no type is declined
pub type-null : (levels : ℕ) (z : List Token) → 1 ≤ levels → AfterType z → read.type_term levels (null ∷ z) ≡ Ok (ty_node 0 (Low ty.Null 0), z)
unfolding read.type_term read.union read.inter read.suffix read.suffixes read.inters read.unions
type-null levels z h f =
    rw (tight-null levels z h) (rw (loop-halts (is t.OPEN_BRACKET) (read.brackets levels) (length z) (ty_node 0 (Low ty.Null 0)) z (one_out t.OPEN_BRACKET joins_type z refl f))
    (rw (loop-halts (is t.AMPERSAND) (read.and_suffix levels (read.tight levels)) (length z) (ty_node 0 (Low ty.Null 0)) z (one_out t.AMPERSAND joins_type z refl f))
    (loop-halts (is t.BAR) (read.or_inter levels (read.tight levels)) (length z) (ty_node 0 (Low ty.Null 0)) z (one_out t.BAR joins_type z refl f))))

pub type-declines : (levels : ℕ) → Declines (has class.Type) (read.type_term levels)
unfolding read.type_term read.union read.inter read.suffix
type-declines levels =
    declines-then (read.inter levels (read.tight levels)) _
    (declines-then (read.suffix levels (read.tight levels)) _
    (declines-then (read.tight levels) _ (tight-declines levels)))

pub type-exact : (n : Mode) → Exact n (rule.Type_ n.depth) (λ m. read.type_term m.depth) AfterType BeginsType
unfolding read.type_term rule.Type_ read.union
type-exact n = union-exact n (rule.Tight n.depth) (λ m. read.tight m.depth) (tight-exact n.depth n.strict)

-- a type that goes on
pub type_rest-exact : (n : Mode) (a : T) → Exact n (rule.TypeRest n.depth a) (λ m. read.type_rest m.depth a) AfterType Any
unfolding read.type_rest rule.TypeRest read.rest read.tail
type_rest-exact n a =
    adapt (sequence (suffixes-exact n a) (tail-exact n (rule.Tight n.depth) (λ m. read.tight m.depth) (tight-exact n.depth n.strict))
    (λ i b. elim b [ inl f ↦ fewer joins_suffix joins_type i refl f | inr h ↦ apart (t.BAR ∷ t.AMPERSAND ∷ []) joins_suffix i refl h ]))
    (λ i f. f) (λ i b. tt) (λ x p. tt)

-- a type that goes on behind a name, up to another one
module _ (n : Mode) where
  abbrev V : R T
  V = rule.Tight n.depth

  abbrev v : Mode → Q T
  v m = read.tight m.depth

  abbrev level : Exact n V v Any BeginsType
  level = tight-exact n.depth n.strict

  -- what may stand behind a chain of '&'
  abbrev Joined : List Token → Type 0
  Joined i = Passes (is t.NAME) i ⊎ Passes (is t.BAR) i

  joined : (i : List Token) → Joined i → AfterSuffix i
  joined i (inl h) = at t.NAME joins_suffix i h
  joined i (inr h) = at t.BAR joins_suffix i h

  name_inters-exact : (a : T) → Exact n (rule.Inters n.depth V a) (λ m. read.inters m.depth (v m) a) Joined (λ i. Joined i ⊎ Passes (is t.AMPERSAND) i)
  unfolding read.inters
  name_inters-exact a =
      repetition_before (is t.AMPERSAND) (and_suffix-exact n V v level) (λ i h. h)
      (λ i f. elim f [ inl h ↦ at_other t.AMPERSAND t.NAME i refl h | inr h ↦ at_other t.AMPERSAND t.BAR i refl h ]) joined
      (λ i h. at t.AMPERSAND joins_suffix i h) (some (k.Name []) ∷ []) (inl refl) a

  name_unions-exact : (a : T) → Exact n (rule.Unions n.depth V a) (λ m. read.unions m.depth (v m) a) (Passes (is t.NAME)) Joined
  unfolding read.unions
  name_unions-exact a =
      repetition_before (is t.BAR) (or_inter-exact n V v level) (λ i h. h) (λ i f. at_other t.BAR t.NAME i refl f) (λ i f. at t.NAME joins_inter i f)
      (λ i h. at t.BAR joins_inter i h) (some (k.Name []) ∷ []) refl a

  pub type_tail-exact : (a : T) → Exact n (rule.TypeTail n.depth a) (λ m. read.type_tail m.depth a) (Passes (is t.NAME)) (Passes (has class.TypeGoesOn))
  unfolding read.type_tail rule.TypeTail read.tail
  type_tail-exact a =
      adapt (sequence (name_inters-exact a) name_unions-exact (λ i b. b)) (λ i f. f) (λ i b. begins i b) (λ x p. tt)
    where
      begins : (i : List Token) → Joined i ⊎ Passes (is t.AMPERSAND) i → Passes (has class.TypeGoesOn) i
      begins i (inl (inl h)) = at t.NAME (members class.TypeGoesOn) i h
      begins i (inl (inr h)) = at t.BAR (members class.TypeGoesOn) i h
      begins i (inr h) = at t.AMPERSAND (members class.TypeGoesOn) i h
