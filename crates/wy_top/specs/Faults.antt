-- What faults of a text of a source are called, and where they stand.
use Rattle.std.specs.Prelude.{ℕ, Bool, true, false, List, [], codes}
use Rattle.wy_top_probe.specs.wy_top_source.texts.Refusals as refusals
use Rattle.wy_vc.specs.declared.fault.VcFault.{VcFault}
use Rattle.wy_vc.specs.declared.fault.VcFault.TheVariants.{TooManyConds, TooManyTerms, NoMemory}
use Rattle.wy_top.specs.declared.fault.OwedFault.{OwedFault}
use Rattle.wy_top.specs.declared.fault.OwedFault.TheVariants.{Source, Limit}

abbrev pub lacks_memory : VcFault → Bool
lacks_memory TooManyConds = false
lacks_memory (TooManyTerms k) = false
lacks_memory NoMemory = true

-- whether memory ran out
abbrev pub is_no_memory : OwedFault → Bool
is_no_memory (Source f) = refusals.is_no_memory f
is_no_memory (Limit f) = lacks_memory f

-- the byte offset where it stands
abbrev pub offset : OwedFault → ℕ
offset (Source f) = refusals.offset f
offset (Limit f) = 0

abbrev pub limit_word : VcFault → List ℕ
limit_word TooManyConds = codes "TooManyConds"
limit_word (TooManyTerms k) = codes "TooManyTerms"
limit_word NoMemory = []

-- the word for it
abbrev pub word : OwedFault → List ℕ
word (Source f) = refusals.word f
word (Limit f) = limit_word f
