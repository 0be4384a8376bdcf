-- What fits fits where more variables are marked; and arguments that fit are of the types of the parameters.
use Rattle.std.proofs.Common.{◌≡◌, ◌⊎◌, inl, inr, ℕ, List, [], ◌∷◌, Bool, true, false, ◌||◌, ◌==◌, Option, Some, None, refl}
use Rattle.std.proofs.lemmas.Bool.{or_cases, or_left, or_right}
use Rattle.std.specs.Prelude.{is_some}
use Rattle.wy_sound_statements.proofs.wy_sound_kinds_proofs.NodeLemmas.{fit_in}
use Rattle.wy_value.specs.Datum.{Datum}
use Rattle.wy_core.specs.Types.{Ty}
use Rattle.wy_core.specs.CoreTree as tree
use Rattle.wy_core.specs.CoreTree.{Expr, NullExpr, BoolExpr, IntExpr, VarExpr, CallExpr, NegExpr, NotExpr, LenExpr, BinaryExpr, IsExpr, IndexExpr, FieldExpr, ListExpr, RepeatExpr, RecordExpr, QuantExpr, Exprs, NoExprs, MoreExprs, Fields, NoFields, MoreFields}
use Rattle.wy_types.specs.Names.{Declared}
use Rattle.wy_sound_statements.specs.wy_flow_spec.typing.Outcomes.{Gives}
use Rattle.wy_sound_statements.specs.wy_flow_spec.typing.Contexts.{Signature}
use Rattle.wy_sound_statements.specs.wy_flow_spec.typing.Calls.{FitSignature}
use Rattle.wy_sem.specs.Expressions as sem
use Rattle.wy_sem.specs.Expressions.{Store}
use Rattle.wy_vc_spec.specs.Values.{Setting}
use Rattle.wy_sound_statements.specs.wy_sound_walks.expressions.Names.{also}
use Rattle.wy_sound_statements.specs.wy_sound_walks.expressions.Suits.{Kinds, Suits, AllSuit, FieldsSuit}
use Rattle.wy_sound_statements.specs.wy_sound_walks.clauses.Clauses.{clause_kinds, AllFit}
use Rattle.wy_sound_statements.specs.wy_sound_kinds.Kinds.{AreArguments}
use Rattle.wy_sound_statements.proofs.wy_sound_kinds_proofs.TypeLemmas.{AllIn}

-- ---- more marks

abbrev pub Among : (ℕ → Bool) → (ℕ → Bool) → Type 0
Among seen more = (x : ℕ) → seen x ≡ true → more x ≡ true

also_more : (x : ℕ) (seen more : ℕ → Bool) → Among seen more → Among (also x seen) (also x more)
also_more x seen more sub y e = by (or_cases (x == y) (seen y) e) where
  by : ((x == y) ≡ true) ⊎ (seen y ≡ true) → ((x == y) || more y) ≡ true
  by (inl h) = or_left (x == y) (more y) h
  by (inr h) = or_right (x == y) (more y) (sub y h)

mutual
  more_suits : {N : Type 0} (w : Kinds N) (q : Bool) (seen more : ℕ → Bool) (e : Expr N) (s : Store) → Among seen more → Suits w q seen e s → Suits w q more e s
  more_suits w q seen more (NullExpr n) s sub h = tt
  more_suits w q seen more (BoolExpr n b) s sub h = tt
  more_suits w q seen more (IntExpr n z) s sub h = tt
  more_suits w q seen more (VarExpr n x) s sub h = (sub x h.0, h.1)
  more_suits w q seen more (CallExpr n f es) s sub h = (h.0, all_more_suit w q seen more es s sub h.1, h.2)
  more_suits w q seen more (NegExpr n a) s sub h = (more_suits w q seen more a s sub h.0, h.1)
  more_suits w q seen more (NotExpr n a) s sub h = (more_suits w q seen more a s sub h.0, h.1)
  more_suits w q seen more (LenExpr n a) s sub h = (more_suits w q seen more a s sub h.0, h.1)
  more_suits w q seen more (BinaryExpr n o a b) s sub h = (more_suits w q seen more a s sub h.0, h.1, λ d m k e go. let r = h.2 d m k e go in (more_suits w q seen more b s sub r.0, r.1))
  more_suits w q seen more (IsExpr n a t) s sub h = (h.0, more_suits w q seen more a s sub h.1, h.2)
  more_suits w q seen more (IndexExpr n a i) s sub h = (more_suits w q seen more a s sub h.0, more_suits w q seen more i s sub h.1, h.2, h.3)
  more_suits w q seen more (FieldExpr n a name) s sub h = (more_suits w q seen more a s sub h.0, h.1)
  more_suits w q seen more (ListExpr n es) s sub h = all_more_suit w q seen more es s sub h
  more_suits w q seen more (RepeatExpr n a c) s sub h = (more_suits w q seen more a s sub h.0, more_suits w q seen more c s sub h.1, h.2)
  more_suits w q seen more (RecordExpr n fs) s sub h = fields_more_suit w q seen more fs s sub h
  more_suits w q seen more (QuantExpr n all x a b body) s sub h =
      (more_suits w q seen more a s sub h.0, more_suits w q seen more b s sub h.1, h.2, h.3, λ i o. let r = h.4 i o in (more_suits w true (also x seen) (also x more) body _ (also_more x seen more sub) r.0, r.1))

  all_more_suit : {N : Type 0} (w : Kinds N) (q : Bool) (seen more : ℕ → Bool) (es : Exprs N) (s : Store) → Among seen more → AllSuit w q seen es s → AllSuit w q more es s
  all_more_suit w q seen more NoExprs s sub h = tt
  all_more_suit w q seen more (MoreExprs e es) s sub h = (more_suits w q seen more e s sub h.0, all_more_suit w q seen more es s sub h.1)

  fields_more_suit : {N : Type 0} (w : Kinds N) (q : Bool) (seen more : ℕ → Bool) (fs : Fields N) (s : Store) → Among seen more → FieldsSuit w q seen fs s → FieldsSuit w q more fs s
  fields_more_suit w q seen more NoFields s sub h = tt
  fields_more_suit w q seen more (MoreFields name e es) s sub h = (more_suits w q seen more e s sub h.0, fields_more_suit w q seen more es s sub h.1)

pub more_fit : {N : Type 0} (w : sem.Setting N) (s : Setting N) (members : ℕ → Datum → Bool) (seen more : ℕ → Bool) (es : List (Expr N)) (st : Store) → Among seen more → AllFit w s members seen es st → AllFit w s members more es st
more_fit w s members seen more [] st sub h = tt
more_fit w s members seen more (e ∷ es) st sub h =
    (record { quiet = h.0.quiet; suits = more_suits (clause_kinds w s members) true seen more e st sub h.0.suits; truth = h.0.truth }, more_fit w s members seen more es st sub h.1)

-- ---- arguments

pub signature_fit : (names : List Declared) (at : ℕ) (u : Unit {0}) (ts : List Ty) (vs : List Datum) (o : Option Signature) → FitSignature names at ts o (Gives u) → AllIn names ts vs → AreArguments names o vs
signature_fit names at u ts vs None h a = tt
signature_fit names at u ts vs (Some s) h a = fit_in names at u ts s.params vs h a

-- ---- results

pub none_of : (o : Option tree.Output) → false ≡ is_some o → o ≡ None
none_of None e = refl
none_of (Some o) e = absurd cc

pub some_of : (o : Option tree.Output) → true ≡ is_some o → (x : tree.Output) × (o ≡ Some x)
some_of None e = absurd cc
some_of (Some o) e = (o, refl)
