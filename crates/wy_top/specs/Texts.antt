-- What do the commands come to that write a text of a source?
use Rattle.std.specs.Prelude.{ℕ, List}
use Rattle.wy_top.specs.Programs.{lists}
use Rattle.wy_top_probe.specs.wy_top_answers.Answers.{written}
use Rattle.wy_top_probe.specs.wy_top_answers.Calls.{called}
use Rattle.wy_top_probe.specs.wy_top_answers.Loading.{loaded, source_limit}
use Rattle.wy_top_probe.specs.wy_link_load.Alone.{loads_alone}
use Rattle.wy_top_probe.specs.wy_top_answers.Steps.{Came, Sense, stated, due, Setting, and_then, done}
use Rattle.wy_top_probe.specs.wy_top_answers.declared.answer.Answer.{Answer}
use Rattle.wy_top_probe.specs.wy_top_source.texts.Again.{IsAgain}
use Rattle.wy_top_probe.specs.wy_top_source.texts.Texts.{IsText}
use Rattle.wy_top_probe.specs.wy_top_source.declared.texts.kind.Kind.{Kind}
use Rattle.wy_top_probe.specs.wy_top_source.declared.texts.kind.Kind.TheVariants.{Layout, Listing}
use Rattle.wy_top_probe.specs.Texts.{is_faulted, source_faults}
use Rattle.wy_top.specs.declared.texts.Text.{Text}
use Rattle.wy_top.specs.declared.texts.Text.TheVariants as kind_of

-- the source has this text; and of a layout, that it is read again as the same program, places aside, and is its own layout
abbrev pub has_text : Kind → List ℕ → Sense → List ℕ → Type 0
has_text kind bytes stated t = IsText kind bytes t × IsAgain kind bytes t
has_text kind bytes due t = IsText kind bytes t

-- the layout of the program or the listing of its code, or the line of the first fault
abbrev pub program_text : Kind → List ℕ → List ℕ → Sense → Came (List ℕ) → Type 0
program_text kind name bytes = called (has_text kind bytes) (source_faults name bytes) (is_faulted kind bytes)

-- the text of this kind
abbrev pub text : Text → List ℕ → List ℕ → Sense → Came (List ℕ) → Type 0
text kind_of.Layout name bytes = program_text Layout name bytes
text kind_of.Listing name bytes = program_text Listing name bytes
text kind_of.Conditions name bytes = lists name bytes

-- the source of a layout is the file alone, whatever it imports; that of other texts imports nothing
abbrev pub source_for : Setting → Text → List ℕ → Sense → Came (List ℕ) → Type 0
source_for s kind_of.Layout name = loaded s name source_limit
source_for s kind_of.Listing name = loads_alone s name
source_for s kind_of.Conditions name = loads_alone s name

-- the text of the source in a file
abbrev pub text_in : Setting → Text → List ℕ → Sense → Came (List ℕ) → Type 0
text_in s kind name = and_then (source_for s kind name) (λ bytes. text kind name bytes)

-- it is written
abbrev pub text_steps : Setting → Text → List ℕ → Sense → Came Answer → Type 0
text_steps s kind name = and_then (text_in s kind name) (λ t. done (written t))
