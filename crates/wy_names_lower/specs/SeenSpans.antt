-- What the variables of a `for` stand for.
use Rattle.wy_names_lower.specs.declared.loops.Span as rust
use Rattle.wy_names_lower.specs.StmtsLowered.{Span}

abbrev pub seen_span : rust.Span → Span
seen_span v = record { lo = v.lo; hi = v.hi; t = v.t; i = v.i }
