use Rattle.std.proofs.Common.{◌≡◌, ◌<◌, ◌+◌, ◌∷◌, List, sym, subst, ap, ◌∙◌}
use Rattle.wy_value.specs.Seen.{seen}
use Rattle.wy_heap.specs.Nodes.{map_of}
use Rattle.wy_heap.specs.Importing.{Job, jobs_of, Ready, works}
use Rattle.wy_heap.proofs.ImportLemmas.{ready_kid, less_kid, ready_kids, ready_finished, jobs-push}
use Rattle.wy_heap.proofs.heap.Heap.import_step.Goals as goal

pub finish-requires-clause-kids : goal.finish-requires-clause-kids
finish-requires-clause-kids c =
    ready_kids (map_of c.args.self.now) c.requires.ready.0 (seen c.args.value.now) c.args.place (jobs_of c.args.todo.now.items) c.args.done.now.items c.in-None.ensures c.requires.ready.1

pub returns-in_ok-push-in-Some-2-clause-ready : goal.returns-in_ok-push-in-Some-2-clause-ready
returns-in_ok-push-in-Some-2-clause-ready c d ready =
    let todo = c.args.todo.now.items in
    let v = seen c.args.value.now in
    let w = seen c.in-Some.part.now in
    let pushed : jobs_of c.push-in-Some.new.self.items ≡ (w, 0) ∷ (v, c.args.place + 1) ∷ jobs_of todo =
    ap jobs_of c.in_ok-push-in-Some-2.ensures.items ∙ jobs-push c.push.new.self.items (c.in-Some.part, 0) ∙ ap (λ (js : List Job). (w, 0) ∷ js) (ap jobs_of c.in_ok-push-in-Some.ensures.items ∙ jobs-push todo (c.args.value, c.args.place + 1)) in
    subst (λ (js : List Job). Ready (map_of c.args.self.now) d js c.args.done.now.items) (sym pushed)
    (ready_kid (map_of c.args.self.now) d v w c.args.place (jobs_of todo) c.args.done.now.items c.in-Some.ensures.1 ready)

pub returns-in_ok-push-in-Some-2-clause-less : goal.returns-in_ok-push-in-Some-2-clause-less
returns-in_ok-push-in-Some-2-clause-less c =
    let todo = c.args.todo.now.items in
    let v = seen c.args.value.now in
    let w = seen c.in-Some.part.now in
    let pushed : jobs_of c.push-in-Some.new.self.items ≡ (w, 0) ∷ (v, c.args.place + 1) ∷ jobs_of todo =
    ap jobs_of c.in_ok-push-in-Some-2.ensures.items ∙ jobs-push c.push.new.self.items (c.in-Some.part, 0) ∙ ap (λ (js : List Job). (w, 0) ∷ js) (ap jobs_of c.in_ok-push-in-Some.ensures.items ∙ jobs-push todo (c.args.value, c.args.place + 1)) in
    subst (λ (js : List Job). works js < works ((v, c.args.place) ∷ jobs_of todo)) (sym pushed) (less_kid v w c.args.place (jobs_of todo) c.in-Some.ensures.1)

pub returns-in_ok-finish-in-None-clause-ready : goal.returns-in_ok-finish-in-None-clause-ready
returns-in_ok-finish-in-None-clause-ready c d ready =
    ready_finished (map_of c.args.self.now) (map_of c.finish.new.self) d (seen c.args.value.now) c.args.place (jobs_of c.args.todo.now.items) c.args.done.now.items c.finish.new.done.items
    c.in-None.ensures c.finish.ensures.carries.more c.in_ok-finish-in-None.ensures.finishes ready
