use Rattle.std.proofs.Common.{◌≡◌, ◌++◌, ◌∙◌, List, Bool, length, inl, inr, sym, ap, rules}
use Rattle.std.specs.Prelude.{nat_le}
use Rattle.wy_vc.specs.Meanings.{tests_at}
use Rattle.wy_vc.specs.Mentioned.{marked}
use Rattle.wy_vc.proofs.MarkLemmas.{is_past, not_past}
use Rattle.wy_vc.proofs.MentionedLemmas.{visited, visited_before}
use Rattle.wy_vc.proofs.mentioned.visit.Goals as goal

pub returns-then-past : goal.returns-then-past
returns-then-past c =
    let past = is_past (length c.args.marks.now.items) c.args.number (ap (λ (l : List Bool). nat_le (length l) c.args.number) (sym c.as_slice.ensures.value) ∙ sym c.is_past-past.ensures.value ∙ c.if-past.true) in
    record { reaching = visited_before (tests_at c.args.meanings.now) (length c.args.meanings.now) c.args._begun.now c.args.marks.now.items c.args.todo.now.items c.args.number (inl past) c.requires.reaching }

pub returns-then-known : goal.returns-then-known
returns-then-known c =
    let known = ap (λ (l : List Bool). marked l c.args.number) (sym c.as_slice-2.ensures.value) ∙ sym c.is_marked-known.ensures.value ∙ c.if-known.true in
    record { reaching = visited_before (tests_at c.args.meanings.now) (length c.args.meanings.now) c.args._begun.now c.args.marks.now.items c.args.todo.now.items c.args.number (inr known) c.requires.reaching }

pub set_mark-requires : goal.set_mark-requires
set_mark-requires c = not_past (length c.args.marks.now.items) c.args.number (ap (λ (l : List Bool). nat_le (length l) c.args.number) (sym c.as_slice.ensures.value) ∙ sym c.is_past-past.ensures.value ∙ c.if-past.false)

pub returns : goal.returns
returns c =
    let below = not_past (length c.args.marks.now.items) c.args.number (ap (λ (l : List Bool). nat_le (length l) c.args.number) (sym c.as_slice.ensures.value) ∙ sym c.is_past-past.ensures.value ∙ c.if-past.false) in
    let joined : c.extend_from_slice.new.self.items ≡ c.args.todo.now.items ++ c.tests_of.result.now = search rules in
    record {
      reaching = visited (tests_at c.args.meanings.now) (length c.args.meanings.now) c.args._begun.now c.args.marks.now.items c.set_mark.new.marks.items c.args.todo.now.items c.extend_from_slice.new.self.items c.tests_of.result.now c.args.number below c.set_mark.ensures.value joined
          c.tests_of.ensures.value c.requires.reaching;
    }
