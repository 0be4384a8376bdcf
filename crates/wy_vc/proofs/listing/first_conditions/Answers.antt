use Rattle.std.proofs.Common.{◌∙◌, All, List, [], map, ap, subst, sym}
use Rattle.wy_term.specs.declared.cond.Cond.{Cond}
use Rattle.wy_vc.specs.Counted.{passing_told}
use Rattle.wy_vc.specs.Meanings.{AreMeanings}
use Rattle.wy_vc.specs.Told.{IsCond, seen_cond}
use Rattle.wy_vc.specs.declared.unfolding.Meaning.{Meaning}
use Rattle.wy_vc_tables.specs.program_names.Described.{setting}
use Rattle.wy_vc_body.specs.wy_vc_exprs.State.{owed_of}
use Rattle.wy_vc.proofs.ConditionLemmas.{are_first, first_is, goals_on, limit_is, list_is, types_once}
use Rattle.wy_vc.proofs.listing.first_conditions.Goals as goal

pub told_all-requires : goal.told_all-requires
told_all-requires c = record { goals = goals_on c.in_ok-walk.walk c.meanings.new.maker.terms c.in_ok-walk.ensures.sound c.in_ok-meanings.ensures.kept }

pub first_limit-requires : goal.first_limit-requires
first_limit-requires c =
    let S = setting c.core-core.result.now c.in_ok-program.program in
    let are = subst (λ (ms : List Meaning). AreMeanings c.meanings.new.maker.terms S ms) (sym c.as_slice.ensures.value) c.in_ok-meanings.ensures.value in
    record { within = subst (λ (l : List Cond). All (IsCond c.meanings.new.maker.terms) l) (sym c.as_slice-2.ensures.value) (c.in_ok-list.ensures.within S are) }

pub returns-clause-list : goal.returns-clause-list
returns-clause-list c within =
    let S = setting c.core-core.result.now c.in_ok-program.program in
    let N = c.meanings.new.maker.terms in
    let W = c.in_ok-walk.walk in
    let are = subst (λ (ms : List Meaning). AreMeanings N S ms) (sym c.as_slice.ensures.value) c.in_ok-meanings.ensures.value in
    let first = are_first c.args.typed.now c.core-core.result.now c.in_ok-program.program W c.core-core.ensures.value c.in_ok-program.ensures.setting c.in_ok-walk.ensures.first in
    let is = first_is c.args.typed.now c.core-core.result.now c.in_ok-program.program W N c.in_ok-list.list.items c.core-core.ensures.value c.in_ok-program.ensures.setting c.in_ok-walk.ensures.sound c.in_ok-meanings.ensures.kept (c.in_ok-list.ensures.value S are) in
    list_is c.args.typed.now (owed_of W) (map (seen_cond N) c.in_ok-list.list.items) first is (ap (λ (l : List Cond). passing_told [] 1 (map (seen_cond N) l)) (sym c.as_slice-2.ensures.value) ∙ sym c.in_ok-limit.ensures.value ∙ within)

pub returns-clause-limit : goal.returns-clause-limit
returns-clause-limit c =
    let S = setting c.core-core.result.now c.in_ok-program.program in
    let N = c.meanings.new.maker.terms in
    let W = c.in_ok-walk.walk in
    let are = subst (λ (ms : List Meaning). AreMeanings N S ms) (sym c.as_slice.ensures.value) c.in_ok-meanings.ensures.value in
    let first = are_first c.args.typed.now c.core-core.result.now c.in_ok-program.program W c.core-core.ensures.value c.in_ok-program.ensures.setting c.in_ok-walk.ensures.first in
    let is = first_is c.args.typed.now c.core-core.result.now c.in_ok-program.program W N c.in_ok-list.list.items c.core-core.ensures.value c.in_ok-program.ensures.setting c.in_ok-walk.ensures.sound c.in_ok-meanings.ensures.kept (c.in_ok-list.ensures.value S are) in
    c.in_ok-limit.ensures.value ∙ limit_is c.args.typed.now (owed_of W) (map (seen_cond N) c.as_slice-2.result.now) first (ap (λ (l : List Cond). map (seen_cond N) l) c.as_slice-2.ensures.value ∙ is)

pub returns-clause-once : goal.returns-clause-once
returns-clause-once c =
    let S = setting c.core-core.result.now c.in_ok-program.program in
    let N = c.meanings.new.maker.terms in
    let W = c.in_ok-walk.walk in
    let are = subst (λ (ms : List Meaning). AreMeanings N S ms) (sym c.as_slice.ensures.value) c.in_ok-meanings.ensures.value in
    types_once c.args.typed.now (owed_of W) N c.in_ok-list.list.items
    (first_is c.args.typed.now c.core-core.result.now c.in_ok-program.program W N c.in_ok-list.list.items c.core-core.ensures.value c.in_ok-program.ensures.setting c.in_ok-walk.ensures.sound c.in_ok-meanings.ensures.kept (c.in_ok-list.ensures.value S are))

pub returns-clause-numbers : goal.returns-clause-numbers
returns-clause-numbers c =
    let S = setting c.core-core.result.now c.in_ok-program.program in
    c.in_ok-list.ensures.within S (subst (λ (ms : List Meaning). AreMeanings c.meanings.new.maker.terms S ms) (sym c.as_slice.ensures.value) c.in_ok-meanings.ensures.value)
