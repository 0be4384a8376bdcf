-- Clauses of types of a formed core call nothing.
use Rattle.std.proofs.Common.{ℕ, zero, suc, ◌+◌, List, [], ◌∷◌}
use Rattle.wy_core.specs.CoreTree.{Expr, NullExpr, BoolExpr, IntExpr, VarExpr, CallExpr, NegExpr, NotExpr, LenExpr, BinaryExpr, IsExpr, IndexExpr, FieldExpr, ListExpr, RepeatExpr, RecordExpr, QuantExpr, Exprs, NoExprs, MoreExprs, Fields, NoFields, MoreFields, Decl, AliasDecl, RoutineDecl, aliases_of}
use Rattle.wy_core.specs.formed.Offers.{Offers, offers_of}
use Rattle.wy_core.specs.formed.Calls.{CallsExpr, CallsExprs, CallsFields, CallsClauses, Nothing, CallsDecls}
use Rattle.wy_sem.specs.TypeTests.{alias_at}
use Rattle.wy_sound_statements.specs.wy_vc_spec.Sizes.{exprs_in}
use Rattle.wy_sound_statements.specs.wy_vc_spec.Numbered.{numbered, numbered_all, numbered_fields, numbered_list, exprs_in_decl, numbered_decls}
use Rattle.wy_sound_statements.specs.wy_sound_walks.clauses.Quiet.{CallsNothing, AllCallNothing, FieldsCallNothing}
use Rattle.wy_sound_types.specs.Tests.{AllQuiet}
use Rattle.wy_sound_types.specs.Typed.{ClausesOfTypesAreQuiet}

mutual
  quiet : (e : Expr ℕ) (k : ℕ) → CallsExpr Nothing e → CallsNothing (numbered e k)
  quiet (NullExpr at) k h = tt
  quiet (BoolExpr at b) k h = tt
  quiet (IntExpr at z) k h = tt
  quiet (VarExpr at x) k h = tt
  quiet (CallExpr at f es) k h = absurd h.0
  quiet (NegExpr at a) k h = quiet a k h
  quiet (NotExpr at a) k h = quiet a k h
  quiet (LenExpr at a) k h = quiet a k h
  quiet (BinaryExpr at o a b) k h = (quiet a k h.0, quiet b (k + exprs_in a) h.1)
  quiet (IsExpr at a t) k h = quiet a k h
  quiet (IndexExpr at a b) k h = (quiet a k h.0, quiet b (k + exprs_in a) h.1)
  quiet (FieldExpr at a name) k h = quiet a k h
  quiet (ListExpr at es) k h = all_quiet es k h
  quiet (RepeatExpr at a b) k h = (quiet a k h.0, quiet b (k + exprs_in a) h.1)
  quiet (RecordExpr at fs) k h = fields_quiet fs k h
  quiet (QuantExpr at all x a b body) k h = (quiet a k h.0, quiet b (k + exprs_in a) h.1, quiet body (k + exprs_in a + exprs_in b) h.2)

  all_quiet : (es : Exprs ℕ) (k : ℕ) → CallsExprs Nothing es → AllCallNothing (numbered_all es k)
  all_quiet NoExprs k h = tt
  all_quiet (MoreExprs e es) k h = (quiet e k h.0, all_quiet es (k + exprs_in e) h.1)

  fields_quiet : (fs : Fields ℕ) (k : ℕ) → CallsFields Nothing fs → FieldsCallNothing (numbered_fields fs k)
  fields_quiet NoFields k h = tt
  fields_quiet (MoreFields name e fs) k h = (quiet e k h.0, fields_quiet fs (k + exprs_in e) h.1)

clauses_quiet : (es : List (Expr ℕ)) (k : ℕ) → CallsClauses Nothing es → AllQuiet (numbered_list es k)
clauses_quiet [] k h = tt
clauses_quiet (e ∷ es) k h = (quiet e k h.0, clauses_quiet es (k + exprs_in e) h.1)

types_quiet : (o : Offers) (ds : List (Decl ℕ)) → CallsDecls o ds → (k b : ℕ) → AllQuiet (alias_at (aliases_of (numbered_decls ds k)) b).clauses
types_quiet o [] h k b = tt
types_quiet o (AliasDecl a ∷ ds) h k zero = clauses_quiet a.clauses k h.0
types_quiet o (AliasDecl a ∷ ds) h k (suc b) = types_quiet o ds h.1 (k + exprs_in_decl (AliasDecl a)) b
types_quiet o (RoutineDecl r ∷ ds) h k b = types_quiet o ds h.1 (k + exprs_in_decl (RoutineDecl r)) b

pub clauses_of_types_quiet : ClausesOfTypesAreQuiet
clauses_of_types_quiet core flow h b = types_quiet (offers_of core) core h 0 b
