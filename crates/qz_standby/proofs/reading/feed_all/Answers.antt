use Rattle.std.proofs.Common.{◌≡◌, ◌<◌, inl, true, false, [], ◌++◌, length, refl, sym, ◌∙◌, arith, take}
use Rattle.std.proofs.KnownBytes.{Consumes-nil, Consumes-trans, Consumes-kept}
use Rattle.std.proofs.lemmas.Grind.{common_steps}
use Rattle.qz_follow.specs.View.{view}
use Rattle.qz_standby.proofs.Streams.{fresh_fine, fresh_open, going_short, stopped, at_end, fed_more, met_unread}
use Rattle.qz_standby.proofs.reading.feed_all.Goals as goal

pub loop-fed-init : goal.loop-fed-init
loop-fed-init g c = record {
  fed = ([], Consumes-nil _, c.requires.fresh, refl);
  fine = fresh_fine _ c.requires.fresh;
  not_ended = fresh_open _ c.requires.fresh;
  keeps = refl;
  later = omega arith;
}

pub returns-in-Err-clause-unread : goal.returns-in-Err-clause-unread
returns-in-Err-clause-unread g c =
    let held = c.loop-fed.invariant in
    let fed = held.fed in
    (view c.loop-fed.follower, stopped _ _ fed.0 (view c.loop-fed.follower) (Consumes-kept _ _ _ fed.0 fed.1 c.in-Err.ensures.bytes) fed.2 held.fine held.not_ended, held.fine, held.not_ended)

pub returns-in-Err-feed-clause-unread : goal.returns-in-Err-feed-clause-unread
returns-in-Err-feed-clause-unread g c =
    let held = c.loop-fed.invariant in
    let fed = held.fed in
    met_unread _ _ c.in-Err-feed.fault
    (view c.feed.new.self, fed_more _ _ _ fed.0 _ (view c.loop-fed.follower) (view c.feed.new.self) fed.1 c.in-Ok.ensures.bytes.0 fed.2 held.fine held.not_ended c.feed.ensures.follows (grind (arith, common_steps, c.in-Ok.ensures.bound)), c.in-Err-feed.ensures.err)

pub returns-then-ended-clause-read : goal.returns-then-ended-clause-read
returns-then-ended-clause-read g c =
    let held = c.loop-fed.invariant in
    let fed = held.fed in
    let ended = c.ended.ensures.0 c.if-ended.true in
    record {
      fed = fed_more _ _ _ fed.0 _ (view c.loop-fed.follower) (view c.feed.new.self) fed.1 c.in-Ok.ensures.bytes.0 fed.2 held.fine held.not_ended c.feed.ensures.follows (grind (arith, common_steps, c.in-Ok.ensures.bound));
      fine = ended.0;
      end = inl ended;
    }

pub loop-fed-preserved : goal.loop-fed-preserved
loop-fed-preserved g c =
    let held = c.loop-fed.invariant in
    let fed = held.fed in
    record {
      fed = (fed.0 ++ take c.in-Ok.count c.read.new.into, Consumes-trans _ _ _ fed.0 _ fed.1 c.in-Ok.ensures.bytes.0, c.feed.ensures.follows fed.0 fed.2, grind (arith, common_steps, fed.3, c.in-Ok.ensures.bound));
      fine = c.in_default.ensures.ok.0;
      not_ended = λ ended. let both : true ≡ false = sym (c.ended.ensures.1 ended) ∙ c.if-ended.false in cc;
      keeps = c.feed.ensures.keeps ∙ held.keeps;
      later = omega (arith, held.later, c.read.ensures.cause.later);
    }

pub returns-then-count-eq0-clause-read : goal.returns-then-count-eq0-clause-read
returns-then-count-eq0-clause-read g c =
    let held = c.loop-fed.invariant in
    let fed = held.fed in
    let some : 0 < length c.read.new.into = grind (arith, common_steps) in
    at_end _ _ _ fed.0 c.read.new.into c.in-Ok.count (view c.loop-fed.follower) c.if-count-eq0.true some fed.1 c.in-Ok.ensures.bytes fed.2 held.fine held.not_ended

pub unreachable-requires : goal.unreachable-requires
unreachable-requires g c =
    let held = c.loop-fed.invariant in
    let fed = held.fed in
    let short = going_short fed.0 (record { follower = view c.loop-fed.follower; followed = fed.2; fine = held.fine; not_ended = held.not_ended }) in
    omega (arith, short, fed.3, c.loop-fed-test.false)
