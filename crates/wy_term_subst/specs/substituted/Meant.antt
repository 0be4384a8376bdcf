-- What names stand for, where some of them stand for what terms mean.
use Rattle.std.specs.Prelude.{List}
use Rattle.wy_term.specs.Term.{Term, leaf, int_name, val_name}
use Rattle.wy_term.specs.Meaning.{Names, sense}
use Rattle.wy_term.specs.Folding.{found, found_or}

-- each name that is paired with a term stands for what that term means, each other for what it stood for
abbrev pub meant : List (Term × Term) → Names → Names
meant env names = record {
  datum_of = λ w n. (sense names (found_or (found env (leaf (val_name w n))) (leaf (val_name w n)))).datum;
  number_of = λ w n. (sense names (found_or (found env (leaf (int_name w n))) (leaf (int_name w n)))).number;
  is_member = names.is_member;
}
