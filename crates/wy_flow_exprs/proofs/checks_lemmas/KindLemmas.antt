-- What types without parts stand for.
use Rattle.std.proofs.Common.{◌≡◌, rules}
use Rattle.wy_core.specs.Types as ty
use Rattle.wy_core.specs.declared.types.Ty as node
use Rattle.wy_core.specs.declared.types.TyKind as kind
use Rattle.wy_types.specs.SeenTypes.{seen_kind}

pub int_kind : seen_kind kind.Int ≡ ty.IntTy
int_kind = search (rules, node.the_lemmas)

pub bool_kind : seen_kind kind.Bool ≡ ty.BoolTy
bool_kind = search (rules, node.the_lemmas)

pub any_kind : seen_kind kind.Any ≡ ty.AnyTy
any_kind = search (rules, node.the_lemmas)
