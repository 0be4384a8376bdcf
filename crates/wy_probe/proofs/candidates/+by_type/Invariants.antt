use Rattle.std.proofs.Common.{◌≡◌, ◌+◌, ◌-◌, drop, map, length}
use Rattle.wy_core.specs.CoreSeen.{field_tys_of, seen_ty}
use Rattle.wy_types.specs.Names.{types_of}
use Rattle.wy_types_member.specs.Parts.{seen_field}
use Rattle.wy_types_member.proofs.RankLemmas.{ty_size, tys_size}
use Rattle.wy_probe.specs.Tables.{by_tables, row_choices, rows_in, table_of, tables_of}
use Rattle.wy_probe.proofs.candidates.+by_type.Given as goal

abbrev pub decreases-values_of : goal.decreases-values_of
decreases-values_of a = ty_size (seen_ty a.ty.now) + ty_size (seen_ty a.ty.now)

abbrev pub decreases-arrays_of : goal.decreases-arrays_of
decreases-arrays_of a = 1 + (ty_size (seen_ty a.item.now) + ty_size (seen_ty a.item.now))

abbrev pub decreases-records_of : goal.decreases-records_of
decreases-records_of a = 1 + (tys_size (field_tys_of (map seen_field a.fields.now)) + tys_size (field_tys_of (map seen_field a.fields.now)))

abbrev pub decreases-rows_of : goal.decreases-rows_of
decreases-rows_of a = tys_size (field_tys_of (map seen_field a.fields.now)) + tys_size (field_tys_of (map seen_field a.fields.now))

-- the rows of the fields behind
abbrev pub invariant-rows_of-loop-turn : goal.invariant-rows_of-loop-turn
invariant-rows_of-loop-turn l = rows_in l.rows ≡ row_choices (by_tables (types_of l.names) (table_of l.table) (tables_of l.lower)) (field_tys_of (map seen_field (drop (length l.fields - l.turn) l.fields)))
