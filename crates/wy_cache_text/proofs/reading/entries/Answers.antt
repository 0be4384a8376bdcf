use Rattle.std.proofs.Common.{rules, ◌≡◌, ◌≢◌, codes, sym, subst}
use Rattle.wy_cache_text.specs.Files.{Entries, IsEntryAt, NoEntry}
use Rattle.wy_cache_text.specs.Seen.{held, all_held}
use Rattle.wy_cache_text.proofs.FileLemmas.{GoesOn, body_ends, body_stops, body_turn, held_pushed}
use Rattle.wy_cache_text.proofs.reading.entries.Goals as goal

pub returns-then-same_bytes : goal.returns-then-same_bytes
returns-then-same_bytes c =
    let ends : c.loop-turn.rest.now ≡ codes "end\n" = search rules in
    record { value = body_ends (all_held c.loop-turn.list.items) c.args.text.now c.loop-turn.rest.now c.loop-turn.invariant ends }

pub returns-in_default : goal.returns-in_default
returns-in_default c =
    let apart : c.loop-turn.rest.now ≢ codes "end\n" = search rules in
    let never : NoEntry c.loop-turn.rest.now = search rules in
    record { value = body_stops (all_held c.loop-turn.list.items) c.args.text.now c.loop-turn.rest.now c.loop-turn.invariant apart never }

pub loop-turn-preserved : goal.loop-turn-preserved
loop-turn-preserved c =
    let here : IsEntryAt c.loop-turn.rest.now (held c.in-Some.first) c.in-Some.more.now = search rules in
    let now = held_pushed c.loop-turn.list.items c.push.new.self.items c.in-Some.first c.in_ok-push.ensures.items in
    subst (λ (done : Entries). GoesOn done c.in-Some.more.now c.args.text.now) (sym now)
    (body_turn (all_held c.loop-turn.list.items) c.args.text.now c.loop-turn.rest.now (held c.in-Some.first) c.in-Some.more.now c.loop-turn.invariant here)
