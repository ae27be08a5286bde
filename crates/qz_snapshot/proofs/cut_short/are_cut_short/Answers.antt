use Rattle.std.proofs.Common.{◌≡◌, ◌∷◌, rules}
use Rattle.qz_snapshot.specs.Heads.{head_bytes}
use Rattle.qz_snapshot.proofs.CutShort.{by_head}
use Rattle.qz_snapshot.proofs.cut_short.are_cut_short.Goals as goal

pub returns-in-Some-read_head : goal.returns-in-Some-read_head
returns-in-Some-read_head c =
    let is : c.args.payloads.now ≡ c.in-Some.first.now ∷ c.in-Some.pieces.now = search rules in
    let head = c.in-Some-read_head.head in
    let bytes : c.in-Some.first.now ≡ head_bytes head = search rules in
    by_head c.args.payloads.now c.in-Some.first.now c.in-Some.pieces.now head c.goes_on.result is c.in-Some-read_head.ensures.some.0 bytes c.goes_on.ensures
