use Rattle.std.proofs.Common.{◌≡◌, suc, ◌+◌, length, List, [], ap, ◌∙◌, add-one}
use Rattle.wy_core.specs.CoreSeen.{seen_ty}
use Rattle.wy_types.specs.declared.table.Node.{Node}
use Rattle.wy_types.specs.declared.question.Question.{Question}
use Rattle.wy_types.specs.Names.{types_of}
use Rattle.wy_types.specs.Numbering as numbering
use Rattle.wy_types.proofs.QuestionLemmas.{numbered_by, asked_by, over_by, question_ranked, first_agrees, second_agrees, conjuncts_agree}
use Rattle.wy_types.proofs.question.Question.ask.Goals as goal

pub returns-clause-value : goal.returns-clause-value
returns-clause-value c =
    let over = c.requires.over in
    let ns : c.truncate.new.self ≡ (numbering.put_declared [] (types_of c.args._names.now)).0 = c.truncate.ensures.nodes ∙ over.front in
    let depth : c.len.result + 1 ≡ suc (length c.put_ty-2.new.nodes) = add-one c.len.result ∙ ap suc c.len.ensures.value in
    numbered_by (types_of c.args._names.now) (seen_ty c.args.first.now) (seen_ty c.args.second.now) c.truncate.new.self c.put_ty.new.nodes c.put_ty-2.new.nodes c.args.self.now.table.definitions c.in_ok-self.field-0 c.in_ok-self-2.field-0 c.args.self.now.base (c.len.result + 1)
    ns over.definitions over.count c.in_ok-self.ensures.nodes c.in_ok-self.ensures.number c.in_ok-self-2.ensures.nodes c.in_ok-self-2.ensures.number depth

pub returns-clause-ranked : goal.returns-clause-ranked
returns-clause-ranked c =
    let q : Question = record { table = record { nodes = c.put_ty-2.new.nodes; definitions = c.args.self.now.table.definitions }; base = c.args.self.now.base; depth = c.len.result + 1; first = c.in_ok-self.field-0; second = c.in_ok-self-2.field-0 } in
    let names = types_of c.args._names.now in
    let a = seen_ty c.args.first.now in
    let b = seen_ty c.args.second.now in
    question_ranked names a b q (asked_by names a b q (returns-clause-value c)) c.requires.recursion

pub returns-clause-first : goal.returns-clause-first
returns-clause-first c =
    let q : Question = record { table = record { nodes = c.put_ty-2.new.nodes; definitions = c.args.self.now.table.definitions }; base = c.args.self.now.base; depth = c.len.result + 1; first = c.in_ok-self.field-0; second = c.in_ok-self-2.field-0 } in
    let names = types_of c.args._names.now in
    let a = seen_ty c.args.first.now in
    let b = seen_ty c.args.second.now in
    first_agrees names a b q (asked_by names a b q (returns-clause-value c)) c.requires.recursion

pub returns-clause-second : goal.returns-clause-second
returns-clause-second c =
    let q : Question = record { table = record { nodes = c.put_ty-2.new.nodes; definitions = c.args.self.now.table.definitions }; base = c.args.self.now.base; depth = c.len.result + 1; first = c.in_ok-self.field-0; second = c.in_ok-self-2.field-0 } in
    let names = types_of c.args._names.now in
    let a = seen_ty c.args.first.now in
    let b = seen_ty c.args.second.now in
    second_agrees names a b q (asked_by names a b q (returns-clause-value c)) c.requires.recursion

pub returns-clause-conjuncts : goal.returns-clause-conjuncts
returns-clause-conjuncts c =
    let q : Question = record { table = record { nodes = c.put_ty-2.new.nodes; definitions = c.args.self.now.table.definitions }; base = c.args.self.now.base; depth = c.len.result + 1; first = c.in_ok-self.field-0; second = c.in_ok-self-2.field-0 } in
    let names = types_of c.args._names.now in
    let a = seen_ty c.args.first.now in
    let b = seen_ty c.args.second.now in
    conjuncts_agree names a b q (asked_by names a b q (returns-clause-value c)) c.requires.recursion

pub returns-clause-over : goal.returns-clause-over
returns-clause-over c =
    let q : Question = record { table = record { nodes = c.put_ty-2.new.nodes; definitions = c.args.self.now.table.definitions }; base = c.args.self.now.base; depth = c.len.result + 1; first = c.in_ok-self.field-0; second = c.in_ok-self-2.field-0 } in
    over_by (types_of c.args._names.now) (seen_ty c.args.first.now) (seen_ty c.args.second.now) q (returns-clause-value c)
