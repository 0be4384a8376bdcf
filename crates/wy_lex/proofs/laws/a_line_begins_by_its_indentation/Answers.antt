use Rattle.wy_lex.proofs.LineBegins.{fits-begins, begins-fits, begins-entered, nest-ends}
use Rattle.wy_lex.proofs.ListsMade.{reached-nest}
use Rattle.wy_lex.proofs.laws.a_line_begins_by_its_indentation.Goals as goal

pub returns : goal.returns
returns c = record {
  sound = λ s nest h. fits-begins s.header s.indent s.blocks nest h;
  complete = λ s nest d. begins-fits s.header s.indent s.blocks d.0 d.1 nest d.2;
  value = λ s place after between nest d. begins-entered s place after between nest d;
  last = nest-ends;
  nest = reached-nest;
}
