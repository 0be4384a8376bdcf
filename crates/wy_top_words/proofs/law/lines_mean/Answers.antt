use Rattle.std.proofs.Common.{refl}
use Rattle.wy_top_words.specs.CommandLine.{read}
use Rattle.wy_top_words.proofs.law.lines_mean.Goals as goal

pub returns : goal.returns
unfolding read
returns c = record {
  plain = refl;
  equals = refl;
  between = refl;
  ended = refl;
  twice = refl;
  missing = refl;
  unknown = refl;
  alone = refl;
  eight = refl;
  crowd = refl;
  nobody = refl;
  again = refl;
  idle = refl;
  stray = refl;
  single = refl;
  elsewhere = refl;
  whole = refl;
  short = refl;
  made = refl;
  many = refl;
  few = refl;
  digits = refl;
  probed = refl;
  untried = refl;
  long = refl;
  inquiring = refl;
  renewed = refl;
  spent = refl;
  uncached = refl;
  stepped = refl;
  nothing = refl;
  other = refl;
}
