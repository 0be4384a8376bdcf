-- What the code's entries stand for.
use Rattle.std.specs.Prelude.{List, map}
use Rattle.wy_cache_text.specs.declared.entry.Entry.{Entry}
use Rattle.wy_cache_text.specs.Files.{Held, Entries}

abbrev pub held : Entry → Held
held e = record { key = e.key.items; steps = e.steps.items }

abbrev pub all_held : List Entry → Entries
all_held es = map held es
