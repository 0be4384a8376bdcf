use Rattle.wy_data.specs.scan.Numbers.{NoNatural}
use Rattle.wy_data.specs.scan.Words.{IsWordAt}
use Rattle.wy_data.proofs.scan_lemmas.WordLemmas.{no_sign_there, no_number_there}
use Rattle.wy_data.proofs.scan.names.numbered.Goals as goal

pub returns-in-None-behind : goal.returns-in-None-behind
returns-in-None-behind c =
    let here : IsWordAt c.args.text.now c.in-Some.word c.in-Some.rest.now = rw c.in-Some.is at c.in_ok-word.ensures.value in
    record { value = no_sign_there c.args.sign c.args.text.now c.in-Some.word c.in-Some.rest.now c.requires here c.in-None-behind.ensures.value }

pub returns-in-None-2 : goal.returns-in-None-2
returns-in-None-2 c =
    let here : IsWordAt c.args.text.now c.in-Some.word c.in-Some.rest.now = rw c.in-Some.is at c.in_ok-word.ensures.value in
    let none : NoNatural c.in-Some-behind.rest.now = rw c.in-None-2.is at c.in_ok-natural-in-Some-behind.ensures.value in
    record { value = no_number_there c.args.sign c.args.text.now c.in-Some.word c.in-Some.rest.now c.in-Some-behind.rest.now c.requires here c.in-Some-behind.ensures.value none }
