-- Tasks, roots and sorts of the code as plain data.
use Rattle.wy_term.specs.Term.{Symbol}
use Rattle.wy_term.specs.Term as term
use Rattle.wy_term.specs.Nodes.{plain_kind}
use Rattle.wy_term.specs.Sorts as sorts
use Rattle.wy_term_text.specs.declared.spell.work.Sort.{Sort}
use Rattle.wy_term_text.specs.declared.spell.work.Sort.TheVariants as sort
use Rattle.wy_term_text.specs.declared.spell.work.Series.{Series}
use Rattle.wy_term_text.specs.declared.spell.work.Series.TheVariants as series
use Rattle.wy_term_text.specs.declared.spell.work.Root.{Root}
use Rattle.wy_term_text.specs.declared.spell.work.Root.TheVariants as root
use Rattle.wy_term_text.specs.declared.spell.work.Task.{Task}
use Rattle.wy_term_text.specs.declared.spell.work.Task.TheVariants as task
use Rattle.wy_term_text.specs.spell.Grammar as grammar
use Rattle.wy_term_text.specs.spell.Todo.{Work}
use Rattle.wy_term_text.specs.spell.Todo as todo

abbrev pub sort_seen : Sort → sorts.Sort
sort_seen sort.Int = sorts.int_sort
sort_seen sort.Val = sorts.val_sort
sort_seen sort.Formula = sorts.formula_sort

abbrev pub series_seen : Series → grammar.Series
series_seen series.Elements = grammar.elements
series_seen series.Members = grammar.members

abbrev pub symbol_of : Root → Symbol
symbol_of (root.Number z) = term.number z
symbol_of (root.IntName word n) = term.int_name word n
symbol_of root.Add = term.add
symbol_of root.Sub = term.sub
symbol_of root.Neg = term.neg
symbol_of root.Mul = term.mul
symbol_of root.Div = term.div
symbol_of root.Mod = term.rem
symbol_of root.Num = term.num
symbol_of root.Len = term.len
symbol_of (root.ValName word n) = term.val_name word n
symbol_of root.Null = term.null
symbol_of (root.Bool b) = term.truth b
symbol_of root.Int = term.int
symbol_of root.Truth = term.bool
symbol_of root.Array = term.array
symbol_of root.Repeat = term.repeat
symbol_of root.Update = term.update
symbol_of root.Get = term.get
symbol_of (root.Record names) = term.fields names.items
symbol_of (root.Field name) = term.field name
symbol_of (root.SetField name) = term.set_field name
symbol_of root.AtMost = term.at_most
symbol_of root.Equal = term.equal
symbol_of (root.Kind kind) = term.of_kind (plain_kind kind)
symbol_of (root.In n) = term.in_type n
symbol_of (root.All word n) = term.every word n
symbol_of (root.Some word n) = term.exists word n
symbol_of root.Not = term.denied
symbol_of root.And = term.all_of
symbol_of root.Or = term.any_of

abbrev pub seen : Task → Work
seen (task.Word w) = todo.word w.now
seen (task.Term s) = todo.a_term (sort_seen s)
seen (task.Root r base) = todo.root (symbol_of r) base
seen (task.First s r base) = todo.first (series_seen s) (symbol_of r) base
seen (task.More s r base) = todo.more (series_seen s) (symbol_of r) base
seen (task.FirstField base) = todo.first_field base
seen (task.MoreFields names base) = todo.more_fields names.items base
seen (task.FieldName base) = todo.field_name base
seen (task.SetFieldName base) = todo.set_field_name base
seen (task.KindName base) = todo.kind_name base
seen (task.KindFields names base) = todo.kind_fields names.items base
seen (task.TypeNumber base) = todo.type_number base
seen (task.Binder all base) = todo.bind all base
