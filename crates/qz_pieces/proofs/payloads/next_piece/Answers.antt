use Rattle.std.proofs.Common.{rules}
use Rattle.qz_pieces.proofs.FirstBad.{too_long, no_piece, begins_not, order_not, may_follow}
use Rattle.qz_pieces.proofs.payloads.next_piece.Goals as goal

pub returns-then-piece-gt-PIECE_LIMIT-clause-none : goal.returns-then-piece-gt-PIECE_LIMIT-clause-none
returns-then-piece-gt-PIECE_LIMIT-clause-none c = search (rules, too_long c.args.before c.args.least c.args.piece.now)

pub returns-in_default-clause-none : goal.returns-in_default-clause-none
returns-in_default-clause-none c = search (rules, no_piece c.args.before c.args.least c.args.piece.now)

pub returns-then-not-begins_after-clause-none : goal.returns-then-not-begins_after-clause-none
returns-then-not-begins_after-clause-none c = search (rules, begins_not c.args.before c.args.least c.args.piece.now)

pub returns-in_default-last_kind-clause-none : goal.returns-in_default-last_kind-clause-none
returns-in_default-last_kind-clause-none c = search (rules, order_not c.args.before c.args.least c.args.piece.now)

pub returns-clause-found : goal.returns-clause-found
returns-clause-found c = search (rules, may_follow c.args.before c.args.least)
