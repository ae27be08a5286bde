use Rattle.std.proofs.Common.{◌≡◌, ◌+◌, sym, ap, arith, w64, to_z, of_z, IsTrue}
use Rattle.std.proofs.lemmas.Grind.{common_steps}
use Rattle.std.proofs.lemmas.Int.{to_z-of_z}
use Rattle.std.proofs.Common.{rules}
use Rattle.qz_types.specs.Rows.{MemberData, is_node}
use Rattle.qz_checkin.specs.Laws.{state_lawful}
use Rattle.qz_checkin.specs.View.{view}
use Rattle.qz_standby.specs.CheckIns.{rows_list}
use Rattle.qz_standby.proofs.Firsts.{goes_on_first}
use Rattle.qz_standby.proofs.Members.{checked_more, checked_first, fails_first, starves_first, not_refused, not_full, short_name}
use Rattle.qz_standby.proofs.checking_in.check_in_members.Goals as goal

pub returns-in-Err-NoMemory-clause-any_moment : goal.returns-in-Err-NoMemory-clause-any_moment
returns-in-Err-NoMemory-clause-any_moment g c honest from =
    let T = c.args.tables.now.tables in
    let i = c.loop-place.place in
    let reading : to_z w64 (of_z w64 c.last_moment-at.result) ≡ c.last_moment-at.result = grind (arith, common_steps, to_z-of_z) in
    let is = sym c.in-Some.ensures in
    let have = c.loop-place.invariant.checked in
    let before = c.loop-place.invariant.any_moment honest from in
    let name = ap (λ (m : MemberData). m.node) c.member.view_is in
    let one = rw (c.in-Err-NoMemory.field-0-is, reading, c.last_moment-at.ensures, name) at c.in-Err-NoMemory.ensures.one in
    goes_on_first state_lawful c.args.states.now.store c.loop-place.states.store c.check_in.new.self.store (rows_list T) _ _ (checked_first T i (view c.loop-place.states) have)
    (starves_first T i c.in-Some.member.now is (view c.loop-place.states) have (view c.check_in.new.self) one) before.0 before.1 (c.check_in.ensures.any_moment honest)

pub returns-in-Err-Fault-clause-any_moment : goal.returns-in-Err-Fault-clause-any_moment
returns-in-Err-Fault-clause-any_moment g c honest from =
    let T = c.args.tables.now.tables in
    let i = c.loop-place.place in
    let reading : to_z w64 (of_z w64 c.last_moment-at.result) ≡ c.last_moment-at.result = grind (arith, common_steps, to_z-of_z) in
    let is = sym c.in-Some.ensures in
    let have = c.loop-place.invariant.checked in
    let before = c.loop-place.invariant.any_moment honest from in
    let name = ap (λ (m : MemberData). m.node) c.member.view_is in
    let one = rw (c.in-Err-Fault.field-0-is, reading, c.last_moment-at.ensures, name) at c.in-Err-Fault.ensures.one in
    goes_on_first state_lawful c.args.states.now.store c.loop-place.states.store c.check_in.new.self.store (rows_list T) _ _ (checked_first T i (view c.loop-place.states) have)
    (fails_first T i c.in-Some.member.now is (view c.loop-place.states) have (view c.check_in.new.self) one) before.0 before.1 (c.check_in.ensures.any_moment honest)

pub unreachable-requires-in-Err-Refused : goal.unreachable-requires-in-Err-Refused
unreachable-requires-in-Err-Refused g c =
    let reading : to_z w64 (of_z w64 c.last_moment-at.result) ≡ c.last_moment-at.result = grind (arith, common_steps, to_z-of_z) in
    let name = ap (λ (m : MemberData). m.node) c.member.view_is in
    let one = rw (c.in-Err-Refused.field-0-is, reading, c.last_moment-at.ensures, name) at c.in-Err-Refused.ensures.one in
    not_refused c.args.tables.now.tables c.loop-place.place c.in-Some.member.now (sym c.in-Some.ensures) (view c.loop-place.states) c.loop-place.invariant.checked c.requires.valid.references_and_limits.limits.members _ _ one

pub unreachable-requires-in-Err-JournalFull : goal.unreachable-requires-in-Err-JournalFull
unreachable-requires-in-Err-JournalFull g c =
    let reading : to_z w64 (of_z w64 c.last_moment-at.result) ≡ c.last_moment-at.result = grind (arith, common_steps, to_z-of_z) in
    let valid : IsTrue (is_node c.in-Some.member.now.node) = search rules in
    let name = ap (λ (m : MemberData). m.node) c.member.view_is in
    let one = rw (c.in-Err-JournalFull.field-0-is, reading, c.last_moment-at.ensures, name) at c.in-Err-JournalFull.ensures.one in
    not_full c.args.tables.now.tables c.loop-place.place c.in-Some.member.now (sym c.in-Some.ensures) (view c.loop-place.states) c.loop-place.invariant.checked c.requires.valid.references_and_limits.limits.members
    (short_name _ c.loop-place.place c.in-Some.member.now (sym c.in-Some.ensures) (view c.loop-place.states) c.loop-place.invariant.checked valid) _ _ _ one

pub loop-place-preserved : goal.loop-place-preserved
loop-place-preserved g c =
    let T = c.args.tables.now.tables in
    let i = c.loop-place.place in
    let reading : to_z w64 (of_z w64 c.last_moment-at.result) ≡ c.last_moment-at.result = grind (arith, common_steps, to_z-of_z) in
    let valid : IsTrue (is_node c.in-Some.member.now.node) = search rules in
    let name = ap (λ (m : MemberData). m.node) c.member.view_is in
    let is = sym c.in-Some.ensures in
    let have = c.loop-place.invariant.checked in
    let one = rw (reading, c.last_moment-at.ensures, name) at c.in-Ok.ensures.one in
    let next = checked_more T i c.in-Some.member.now is (view c.loop-place.states) have (short_name T i c.in-Some.member.now is (view c.loop-place.states) have valid) (view c.check_in.new.self) _ one in
    record {
      checked = next;
      any_moment = λ honest from.
          let before = c.loop-place.invariant.any_moment honest from in
          goes_on_first state_lawful c.args.states.now.store c.loop-place.states.store c.check_in.new.self.store (rows_list T) _ _ (checked_first T i (view c.loop-place.states) have) (checked_first T (i + 1) (view c.check_in.new.self) next)
          before.0 before.1 (c.check_in.ensures.any_moment honest);
      later = omega (arith, c.loop-place.invariant.later, one.later);
    }
