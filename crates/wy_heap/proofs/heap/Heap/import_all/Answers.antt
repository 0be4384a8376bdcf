use Rattle.std.proofs.Common.{◌≡◌, ◌++◌, ◌∷◌, [], ℕ, List, Option, option_to_list, subst, ap, ◌∙◌}
use Rattle.std.specs.Borrow.{Bor}
use Rattle.wy_value.specs.declared.value.Value.{Value}
use Rattle.wy_value.specs.Seen.{seen}
use Rattle.wy_heap.specs.Nodes.{map_of}
use Rattle.wy_heap.specs.Importing.{Job, jobs_of, job_of, Ready}
use Rattle.wy_heap.proofs.ImportLemmas.{carries_trans, grew_trans, ones_trans, jobs-push}
use Rattle.wy_heap.proofs.heap.Heap.import_all.Goals as goal

pub import_step-requires-clause-ready : goal.import_step-requires-clause-ready
import_step-requires-clause-ready c =
    let rest = c.pop.new.self.items in
    let job : Bor Value × ℕ = (c.in-Some.begun, c.in-Some.place) in
    let popped : c.jobs.todo.items ≡ rest ++ job ∷ [] = c.pop.ensures.items ∙ ap (λ (r : Option (Bor Value × ℕ)). rest ++ option_to_list r) c.in-Some.is in
    let jobs : jobs_of c.jobs.todo.items ≡ job_of job ∷ jobs_of rest = ap jobs_of popped ∙ jobs-push rest job in
    (seen c.args.value.now, subst (λ (js : List Job). Ready (map_of c.jobs.self) (seen c.args.value.now) js c.jobs.done.items) jobs c.jobs.invariant.ready)

pub jobs-preserved : goal.jobs-preserved
jobs-preserved c =
    let rest = c.pop.new.self.items in
    let job : Bor Value × ℕ = (c.in-Some.begun, c.in-Some.place) in
    let popped : c.jobs.todo.items ≡ rest ++ job ∷ [] = c.pop.ensures.items ∙ ap (λ (r : Option (Bor Value × ℕ)). rest ++ option_to_list r) c.in-Some.is in
    let jobs : jobs_of c.jobs.todo.items ≡ job_of job ∷ jobs_of rest = ap jobs_of popped ∙ jobs-push rest job in
    record {
      carries = carries_trans c.args.self.now c.jobs.self c.import_step.new.self [] c.jobs.done.items c.import_step.new.done.items c.jobs.invariant.carries c.import_step.ensures.carries;
      grew = grew_trans c.args.self.now c.jobs.self c.import_step.new.self c.jobs.invariant.grew c.import_step.ensures.grew;
      ones = ones_trans c.args.self.now c.jobs.self c.import_step.new.self c.jobs.invariant.ones c.import_step.ensures.ones;
      ready = c.in_ok-import_step.ensures.ready (seen c.args.value.now) (subst (λ (js : List Job). Ready (map_of c.jobs.self) (seen c.args.value.now) js c.jobs.done.items) jobs c.jobs.invariant.ready);
    }

pub returns-in_err-import_step-clause-carries : goal.returns-in_err-import_step-clause-carries
returns-in_err-import_step-clause-carries c =
    carries_trans c.args.self.now c.jobs.self c.import_step.new.self [] c.jobs.done.items c.import_step.new.done.items c.jobs.invariant.carries c.import_step.ensures.carries

pub returns-in_err-import_step-clause-ones : goal.returns-in_err-import_step-clause-ones
returns-in_err-import_step-clause-ones c =
    ones_trans c.args.self.now c.jobs.self c.import_step.new.self c.jobs.invariant.ones c.import_step.ensures.ones
