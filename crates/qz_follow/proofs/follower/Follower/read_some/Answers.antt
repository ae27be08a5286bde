use Rattle.std.proofs.Common.{◌∙◌, ℕ, refl, ap, subst}
use Rattle.std.specs.Prelude.{Option, Some, Ok}
use Rattle.qz_follow.proofs.Reading.{reads_more, reads_end, reads_bad, reads_payload}
use Rattle.qz_follow.specs.Taking.{IsBegun}
use Rattle.qz_follow.specs.View.{view}
use Rattle.qz_follow.specs.declared.faults.FollowFault.TheVariants as fault
use Rattle.qz_follow.proofs.follower.Follower.read_some.Goals as goal

pub returns-in-Ok-Payload-clause-follows : goal.returns-in-Ok-Payload-clause-follows
returns-in-Ok-Payload-clause-follows c =
    let s = c.args.self.now in
    let t = c.begin.new.self in
    let begun = subst (λ (v : Option ℕ). IsBegun v s.taken.stage s.taken.version t.version) c.version.ensures c.begin.ensures.begun in
    reads_payload c.args.bytes.now (view s) (view (record { stream = c.next.new.self; taken = t; fault = s.fault })) c.next.result c.requires.fine c.next.ensures.told c.next.ensures.fed begun c.begin.ensures.renewed
    c.in-Ok-Payload.used t.tables.tables (view c.take_payload.new.self) (c.in-Ok-Payload.is ∙ ap Ok c.in-Ok-Payload.field-0-is) t.replayed c.take_payload.ensures.added

pub returns-in-Ok-More-clause-follows : goal.returns-in-Ok-More-clause-follows
returns-in-Ok-More-clause-follows c =
    let s = c.args.self.now in
    let t = c.begin-in-Ok-More.new.self in
    let begun = subst (λ (v : Option ℕ). IsBegun v s.taken.stage s.taken.version t.version) c.version-in-Ok-More.ensures c.begin-in-Ok-More.ensures.begun in
    reads_more c.args.bytes.now (view s) (view (record { stream = c.next.new.self; taken = t; fault = s.fault })) c.next.result c.requires.fine c.next.ensures.told c.next.ensures.fed begun c.begin-in-Ok-More.ensures.renewed
    (c.in-Ok-More.is ∙ ap Ok c.in-Ok-More.field-0-is) c.requires.fine

pub returns-in-Ok-Ended-clause-follows : goal.returns-in-Ok-Ended-clause-follows
returns-in-Ok-Ended-clause-follows c =
    let s = c.args.self.now in
    let t = c.begin-in-Ok-Ended.new.self in
    let begun = subst (λ (v : Option ℕ). IsBegun v s.taken.stage s.taken.version t.version) c.version-in-Ok-Ended.ensures c.begin-in-Ok-Ended.ensures.begun in
    reads_end c.args.bytes.now (view s) (view (record { stream = c.next.new.self; taken = t; fault = s.fault })) c.next.result c.requires.fine c.next.ensures.told c.next.ensures.fed begun c.begin-in-Ok-Ended.ensures.renewed
    (c.in-Ok-Ended.is ∙ ap Ok c.in-Ok-Ended.field-0-is) c.requires.fine

pub returns-in-Err-clause-follows : goal.returns-in-Err-clause-follows
returns-in-Err-clause-follows c =
    let s = c.args.self.now in
    let t = c.begin-in-Err.new.self in
    let begun = subst (λ (v : Option ℕ). IsBegun v s.taken.stage s.taken.version t.version) c.version-in-Err.ensures c.begin-in-Err.ensures.begun in
    reads_bad c.args.bytes.now (view s) (view (record { stream = c.next.new.self; taken = t; fault = Some (fault.BadStream c.in-Err.bad.at) })) c.next.result c.requires.fine c.next.ensures.told c.next.ensures.fed begun c.begin-in-Err.ensures.renewed
    c.in-Err.bad c.in-Err.is refl
