use Rattle.clap.specs.Words.{app_of}
use Rattle.wy_top_words.specs.Plain.{words_in}
use Rattle.wy_top_words.proofs.ReadLemmas.{all_text, asked_alone, err_refused, no_memory, ok_reads, ready}
use Rattle.wy_top_words.proofs.read.read_words.Goals as goal

pub returns-in-Some-clause-value : goal.returns-in-Some-clause-value
returns-in-Some-clause-value c = ok_reads (app_of c.in-Ok.line) (words_in c.args.words.now) c.in-Ok-try_get_matches_from.matches _ c.in-Ok.ensures.app (all_text c.args.words.now) c.in-Ok-try_get_matches_from.ensures.matches
    (c.in-Ok-try_get_matches_from.ensures.kinds (ready (app_of c.in-Ok.line) c.in-Ok.ensures.app)) c.in-Some.ensures.value

pub returns-in-Some-clause-command : goal.returns-in-Some-clause-command
returns-in-Some-clause-command c = asked_alone _ _ (ok_reads (app_of c.in-Ok.line) (words_in c.args.words.now) c.in-Ok-try_get_matches_from.matches _ c.in-Ok.ensures.app (all_text c.args.words.now) c.in-Ok-try_get_matches_from.ensures.matches
    (c.in-Ok-try_get_matches_from.ensures.kinds (ready (app_of c.in-Ok.line) c.in-Ok.ensures.app)) c.in-Some.ensures.value)

pub returns-in-Ok-try_get_matches_from-clause-value : goal.returns-in-Ok-try_get_matches_from-clause-value
returns-in-Ok-try_get_matches_from-clause-value c = λ is. ok_reads (app_of c.in-Ok.line) (words_in c.args.words.now) c.in-Ok-try_get_matches_from.matches _ c.in-Ok.ensures.app (all_text c.args.words.now) c.in-Ok-try_get_matches_from.ensures.matches
    (c.in-Ok-try_get_matches_from.ensures.kinds (ready (app_of c.in-Ok.line) c.in-Ok.ensures.app)) c.in-None.ensures.value

pub returns-in-Ok-try_get_matches_from-clause-command : goal.returns-in-Ok-try_get_matches_from-clause-command
returns-in-Ok-try_get_matches_from-clause-command c = λ is. asked_alone _ _ (ok_reads (app_of c.in-Ok.line) (words_in c.args.words.now) c.in-Ok-try_get_matches_from.matches _ c.in-Ok.ensures.app (all_text c.args.words.now) c.in-Ok-try_get_matches_from.ensures.matches
    (c.in-Ok-try_get_matches_from.ensures.kinds (ready (app_of c.in-Ok.line) c.in-Ok.ensures.app)) c.in-None.ensures.value)

pub returns-clause-value : goal.returns-clause-value
returns-clause-value c = λ is. err_refused (app_of c.in-Ok.line) (words_in c.args.words.now) c.in-Err-try_get_matches_from.error c.in-Ok.ensures.app (all_text c.args.words.now)
    (c.in-Err-try_get_matches_from.ensures.kinds (ready (app_of c.in-Ok.line) c.in-Ok.ensures.app))
    (λ memory. no_memory _ is (c.fault.ensures.memory memory))

pub returns-clause-command : goal.returns-clause-command
returns-clause-command c = λ is. asked_alone _ _ (err_refused (app_of c.in-Ok.line) (words_in c.args.words.now) c.in-Err-try_get_matches_from.error c.in-Ok.ensures.app (all_text c.args.words.now)
    (c.in-Err-try_get_matches_from.ensures.kinds (ready (app_of c.in-Ok.line) c.in-Ok.ensures.app))
    (λ memory. no_memory _ is (c.fault.ensures.memory memory)))
