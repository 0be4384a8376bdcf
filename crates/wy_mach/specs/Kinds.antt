-- Kinds of what registers hold.
use Rattle.std.specs.Prelude.{ℕ, Bool, true, false, Option, Some, None, length, nat_eq, nat_lt, cond}
use Rattle.wy_value.specs.declared.shapes.Shapes.{Shapes}
use Rattle.wy_heap.specs.declared.part.Kind as kind
use Rattle.wy_heap.specs.declared.part.Kind.TheVariants as is
use Rattle.wy_code.specs.declared.instructions.Kind as asked
use Rattle.wy_code.specs.declared.instructions.Kind.TheVariants as ask

-- the kind is null, a truth value, a number, an array, or a record of the shape with this number
abbrev pub is_null_kind : kind.Kind → Bool
is_null_kind is.Null = true
is_null_kind (is.Bool b) = false
is_null_kind (is.Int z) = false
is_null_kind is.Array = false
is_null_kind (is.Record n) = false

abbrev pub is_bool_kind : kind.Kind → Bool
is_bool_kind is.Null = false
is_bool_kind (is.Bool b) = true
is_bool_kind (is.Int z) = false
is_bool_kind is.Array = false
is_bool_kind (is.Record n) = false

abbrev pub is_int_kind : kind.Kind → Bool
is_int_kind is.Null = false
is_int_kind (is.Bool b) = false
is_int_kind (is.Int z) = true
is_int_kind is.Array = false
is_int_kind (is.Record n) = false

abbrev pub is_array_kind : kind.Kind → Bool
is_array_kind is.Null = false
is_array_kind (is.Bool b) = false
is_array_kind (is.Int z) = false
is_array_kind is.Array = true
is_array_kind (is.Record n) = false

abbrev pub is_shape_kind : ℕ → kind.Kind → Bool
is_shape_kind k is.Null = false
is_shape_kind k (is.Bool b) = false
is_shape_kind k (is.Int z) = false
is_shape_kind k is.Array = false
is_shape_kind k (is.Record n) = nat_eq n k

-- whether the kind is the one that is asked for, where there is a shape with the number that is asked for
abbrev pub kind_told : Shapes → kind.Kind → asked.Kind → Option Bool
kind_told t k ask.Null = Some (is_null_kind k)
kind_told t k ask.Bool = Some (is_bool_kind k)
kind_told t k ask.Int = Some (is_int_kind k)
kind_told t k ask.Array = Some (is_array_kind k)
kind_told t k (ask.Shape n) = cond (nat_lt n (length t.lists)) (Some (is_shape_kind n k)) None
