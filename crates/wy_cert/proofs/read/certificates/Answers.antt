use Rattle.std.proofs.Common.{rules, arith, ◌≡◌, ◌≢◌, ◌<◌, ◌≤◌, ◌+◌, ◌++◌, ◌∷◌, [], true, false, codes, length, map, Ok, sym, ◌∙◌, subst}
use Rattle.std.proofs.lemmas.Grind.{common_steps}
use Rattle.std.proofs.lemmas.List.Elements.{All-push}
use Rattle.std.specs.Ordering.{nat_cmp}
use Rattle.std.specs.BTreeSet.{contains}
use Rattle.wy_cert.specs.Only.{IsTheOne, HasNone, AreSame}
use Rattle.wy_cert.specs.Steps.{Certificates, steps_of, certificates_of, NamesItsTerms}
use Rattle.wy_cert.specs.File.{IsLine, NoLine, IsCondition, is_listed, Tree, ReadsTree, ReadsCerts}
use Rattle.wy_cert.proofs.OneLemmas.{no_memory_answers}
use Rattle.wy_cert.proofs.FirstLine.{line_length}
use Rattle.wy_cert.proofs.FileLemmas.{certs_early, certs_complete, certs_behind_end, certs_outside, certs_twice, certs_absent, certs_bad_tree, certs_turn, seen_more, mapped}
use Rattle.wy_cert.proofs.read.certificates.Goals as goal

pub returns-in_default-clause-value : goal.returns-in_default-clause-value
returns-in_default-clause-value c =
    let never : NoLine c.loop-turn.rest.now = search rules in
    λ other. certs_early c.args.products c.args.conds (ReadsCerts c.args.products c.args.conds [] 2 c.args.text.now) (map (λ e. (e.0, steps_of e.1)) c.loop-turn.list.items) c.loop-turn.line c.loop-turn.rest.now never c.loop-turn.invariant.same

pub returns-then-is_empty-clause-value : goal.returns-then-is_empty-clause-value
returns-then-is_empty-clause-value c =
    let here : IsLine c.loop-turn.rest.now c.in-Some.first.now c.in-Some.more.now = search rules in
    let is : c.in-Some.first.now ≡ codes "end" = first_of (search rules, grind (arith, common_steps)) in
    let empty : length c.in-Some.more.now ≡ 0 = first_of (omega arith, search rules, grind (arith, common_steps)) in
    certs_complete c.args.products c.args.conds (ReadsCerts c.args.products c.args.conds [] 2 c.args.text.now) (map (λ e. (e.0, steps_of e.1)) c.loop-turn.list.items) c.loop-turn.line c.loop-turn.rest.now c.in-Some.first.now c.in-Some.more.now here is empty c.loop-turn.invariant.same

pub returns-then-same_bytes-clause-value : goal.returns-then-same_bytes-clause-value
returns-then-same_bytes-clause-value c =
    let here : IsLine c.loop-turn.rest.now c.in-Some.first.now c.in-Some.more.now = search rules in
    let is : c.in-Some.first.now ≡ codes "end" = first_of (search rules, grind (arith, common_steps)) in
    let some : 0 < length c.in-Some.more.now = first_of (omega arith, search rules, grind (arith, common_steps)) in
    λ other. certs_behind_end c.args.products c.args.conds (ReadsCerts c.args.products c.args.conds [] 2 c.args.text.now) (map (λ e. (e.0, steps_of e.1)) c.loop-turn.list.items) c.loop-turn.line c.loop-turn.rest.now c.in-Some.first.now c.in-Some.more.now here is some c.loop-turn.invariant.same

pub returns-in_err-number-clause-value : goal.returns-in_err-number-clause-value
returns-in_err-number-clause-value c = no_memory_answers (ReadsCerts c.args.products c.args.conds [] 2 c.args.text.now) certificates_of c.from_residual.result (search rules)

pub returns-in_default-2-clause-value : goal.returns-in_default-2-clause-value
returns-in_default-2-clause-value c =
    let here : IsLine c.loop-turn.rest.now c.in-Some.first.now c.in-Some.more.now = search rules in
    let apart : c.in-Some.first.now ≢ codes "end" = first_of (search rules, grind (arith, common_steps)) in
    let never : HasNone (IsCondition c.in-Some.first.now) = search rules in
    λ other. certs_outside c.args.products c.args.conds (ReadsCerts c.args.products c.args.conds [] 2 c.args.text.now) (map (λ e. (e.0, steps_of e.1)) c.loop-turn.list.items) c.loop-turn.line c.loop-turn.rest.now c.in-Some.first.now c.in-Some.more.now here apart never c.loop-turn.invariant.same

pub returns-then-contains-clause-value : goal.returns-then-contains-clause-value
returns-then-contains-clause-value c =
    let here : IsLine c.loop-turn.rest.now c.in-Some.first.now c.in-Some.more.now = search rules in
    let condition : IsTheOne (IsCondition c.in-Some.first.now) c.in-Some-2.number = search rules in
    let found : contains nat_cmp c.loop-turn.seen c.in-Some-2.number ≡ true = search rules in
    λ other. certs_twice c.args.products c.args.conds (ReadsCerts c.args.products c.args.conds [] 2 c.args.text.now) (map (λ e. (e.0, steps_of e.1)) c.loop-turn.list.items) c.loop-turn.line c.loop-turn.rest.now c.in-Some.first.now c.in-Some.more.now c.in-Some-2.number here condition (sym (c.loop-turn.invariant.seen c.in-Some-2.number) ∙ found) c.loop-turn.invariant.same

pub returns-then-number-conds-clause-value : goal.returns-then-number-conds-clause-value
returns-then-number-conds-clause-value c =
    let here : IsLine c.loop-turn.rest.now c.in-Some.first.now c.in-Some.more.now = search rules in
    let condition : IsTheOne (IsCondition c.in-Some.first.now) c.in-Some-2.number = search rules in
    let missing : contains nat_cmp c.loop-turn.seen c.in-Some-2.number ≡ false = search rules in
    let large : c.args.conds < c.in-Some-2.number = first_of (omega arith, search rules) in
    λ other. certs_absent c.args.products c.args.conds (ReadsCerts c.args.products c.args.conds [] 2 c.args.text.now) (map (λ e. (e.0, steps_of e.1)) c.loop-turn.list.items) c.loop-turn.line c.loop-turn.rest.now c.in-Some.first.now c.in-Some.more.now c.in-Some-2.number here condition (sym (c.loop-turn.invariant.seen c.in-Some-2.number) ∙ missing) large c.loop-turn.invariant.same

pub returns-in-Err-clause-value : goal.returns-in-Err-clause-value
returns-in-Err-clause-value c =
    let here : IsLine c.loop-turn.rest.now c.in-Some.first.now c.in-Some.more.now = search rules in
    let condition : IsTheOne (IsCondition c.in-Some.first.now) c.in-Some-2.number = search rules in
    let missing : contains nat_cmp c.loop-turn.seen c.in-Some-2.number ≡ false = search rules in
    let small : c.in-Some-2.number ≤ c.args.conds = first_of (omega arith, search rules) in
    let tree = rw c.in-Err.is at c.tree.ensures.value in
    λ other. certs_bad_tree c.args.products c.args.conds (ReadsCerts c.args.products c.args.conds [] 2 c.args.text.now) (map (λ e. (e.0, steps_of e.1)) c.loop-turn.list.items) c.loop-turn.line c.loop-turn.rest.now c.in-Some.first.now c.in-Some.more.now c.in-Some-2.number c.in-Err.fault here condition (sym (c.loop-turn.invariant.seen c.in-Some-2.number) ∙ missing) small (tree other) c.loop-turn.invariant.same

pub returns-in_err-insert-in-Ok-clause-value : goal.returns-in_err-insert-in-Ok-clause-value
returns-in_err-insert-in-Ok-clause-value c = no_memory_answers (ReadsCerts c.args.products c.args.conds [] 2 c.args.text.now) certificates_of c.from_residual-in_err-insert-in-Ok.result (search rules)

pub returns-in_err-push-in-Ok-clause-value : goal.returns-in_err-push-in-Ok-clause-value
returns-in_err-push-in-Ok-clause-value c = no_memory_answers (ReadsCerts c.args.products c.args.conds [] 2 c.args.text.now) certificates_of c.from_residual-in_err-push-in-Ok.result (search rules)

pub loop-turn-preserved : goal.loop-turn-preserved
loop-turn-preserved c =
    let here : IsLine c.loop-turn.rest.now c.in-Some.first.now c.in-Some.more.now = search rules in
    let condition : IsTheOne (IsCondition c.in-Some.first.now) c.in-Some-2.number = search rules in
    let missing : contains nat_cmp c.loop-turn.seen c.in-Some-2.number ≡ false = search rules in
    let small : c.in-Some-2.number ≤ c.args.conds = first_of (omega arith, search rules) in
    let tree : Tree = record { steps = steps_of c.in-Ok.cert; line = c.in-Ok.after; rest = c.in-Ok.behind.now } in
    let reads : IsTheOne (ReadsTree c.args.products [] 1 (c.loop-turn.line + 1) c.in-Some.more.now) (Ok (record { steps = steps_of c.in-Ok.cert; line = c.in-Ok.after; rest = c.in-Ok.behind.now })) = search rules in
    let names : NamesItsTerms c.in-Ok.cert = search rules in
    let within : c.in-Ok.after + length c.in-Ok.behind.now ≤ (c.loop-turn.line + 1) + length c.in-Some.more.now = search rules in
    let counts : 0 < c.in-Ok.after = search rules in
    let shorter = line_length c.loop-turn.rest.now c.in-Some.first.now c.in-Some.more.now here in
    let now : map (λ e. (e.0, steps_of e.1)) c.push.new.self.items ≡ (map (λ e. (e.0, steps_of e.1)) c.loop-turn.list.items) ++ (c.in-Some-2.number, steps_of c.in-Ok.cert) ∷ [] = mapped (λ e. (e.0, steps_of e.1)) c.loop-turn.list.items c.push.new.self.items (c.in-Some-2.number, c.in-Ok.cert) c.in_ok-push-in-Ok.ensures.items in
    record {
      same = subst (λ (d : Certificates). AreSame (ReadsCerts c.args.products c.args.conds d c.in-Ok.after c.in-Ok.behind.now) (ReadsCerts c.args.products c.args.conds [] 2 c.args.text.now)) (sym now)
          (certs_turn c.args.products c.args.conds (ReadsCerts c.args.products c.args.conds [] 2 c.args.text.now) (map (λ e. (e.0, steps_of e.1)) c.loop-turn.list.items) c.loop-turn.line c.loop-turn.rest.now c.in-Some.first.now c.in-Some.more.now c.in-Some-2.number tree here condition (sym (c.loop-turn.invariant.seen c.in-Some-2.number) ∙ missing) small reads c.loop-turn.invariant.same);
      names = rw c.in_ok-push-in-Ok.ensures.items (All-push (λ e. NamesItsTerms e.1) c.loop-turn.list.items (c.in-Some-2.number, c.in-Ok.cert) c.loop-turn.invariant.names names);
      seen = λ q. subst (λ (d : Certificates). contains nat_cmp c.insert.new.self q ≡ is_listed d q) (sym now)
          (seen_more c.loop-turn.seen c.insert.new.self (map (λ e. (e.0, steps_of e.1)) c.loop-turn.list.items) c.in-Some-2.number (steps_of c.in-Ok.cert) c.in_ok-insert-in-Ok.ensures.updates.0 c.loop-turn.invariant.seen q);
      room = omega (arith, shorter, within, c.loop-turn.invariant.room);
      some = counts;
    }
