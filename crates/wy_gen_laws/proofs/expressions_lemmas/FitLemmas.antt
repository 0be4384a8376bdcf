-- What is called, said otherwise.
use Rattle.std.proofs.Common.{ℕ}
use Rattle.wy_core.specs.CoreTree.{Expr, NullExpr, BoolExpr, IntExpr, VarExpr, CallExpr, NegExpr, NotExpr, LenExpr, BinaryExpr, IsExpr, IndexExpr, FieldExpr, ListExpr, RepeatExpr, RecordExpr, QuantExpr, Exprs, NoExprs, MoreExprs, Fields, NoFields, MoreFields}
use Rattle.wy_core.specs.formed.Calls.{CallsExpr, CallsExprs, CallsFields}

module _ (Q R : ℕ → Type 0) (f : (g : ℕ) → Q g → R g) where
  -- what calls these calls those
  mutual
    pub calls_map : (e : Expr ℕ) → CallsExpr Q e → CallsExpr R e
    calls_map (NullExpr at) h = tt
    calls_map (BoolExpr at truth) h = tt
    calls_map (IntExpr at number) h = tt
    calls_map (VarExpr at x) h = tt
    calls_map (CallExpr at routine args) h = (f routine h.0, all_map args h.1)
    calls_map (NegExpr at a) h = calls_map a h
    calls_map (NotExpr at a) h = calls_map a h
    calls_map (LenExpr at a) h = calls_map a h
    calls_map (BinaryExpr at op a b) h = (calls_map a h.0, calls_map b h.1)
    calls_map (IsExpr at a ty) h = calls_map a h
    calls_map (IndexExpr at a b) h = (calls_map a h.0, calls_map b h.1)
    calls_map (FieldExpr at a name) h = calls_map a h
    calls_map (ListExpr at items) h = all_map items h
    calls_map (RepeatExpr at a b) h = (calls_map a h.0, calls_map b h.1)
    calls_map (RecordExpr at fs) h = fields_map fs h
    calls_map (QuantExpr at all x a b body) h = (calls_map a h.0, calls_map b h.1, calls_map body h.2)

    pub all_map : (es : Exprs ℕ) → CallsExprs Q es → CallsExprs R es
    all_map NoExprs h = tt
    all_map (MoreExprs e es) h = (calls_map e h.0, all_map es h.1)

    fields_map : (fs : Fields ℕ) → CallsFields Q fs → CallsFields R fs
    fields_map NoFields h = tt
    fields_map (MoreFields name e fs) h = (calls_map e h.0, fields_map fs h.1)
