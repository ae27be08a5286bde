use Rattle.std.proofs.Common.{◌≡◌, ◌∙◌, ℕ, List, length, take, min, sym, ap, subst, arith}
use Rattle.std.proofs.lemmas.Result.{err_from_is_err_and}
use Rattle.qz_journal.specs.Layout.{IsHeader}
use Rattle.qz_journal.specs.Opening.{IsRefusedBehind}
use Rattle.qz_journal.proofs.Calls.{synced_then, between_more, only_reads_unless, still_only}
use Rattle.qz_journal.proofs.Opened.{found_whole, found_header, found_damaged, found_refused, found_reads, found_ahead, found_durable, found_unless}
use Rattle.qz_journal.proofs.reading.read_payloads.Goals as goal

pub returns-in_err-header-clause-refused : goal.returns-in_err-header-clause-refused
returns-in_err-header-clause-refused g c h payloads =
    let p = err_from_is_err_and c.from_residual.result c.from_residual.ensures.1 in
    rw (p.1, p.2) (subst (λ (b : List ℕ). IsRefusedBehind b c.args.kind payloads c.in_err-header.field-0.0) (c.in-Ok.ensures.content h) (c.in_err-header.ensures.refused h payloads))

pub returns-in_err-header-clause-reads_err : goal.returns-in_err-header-clause-reads_err
returns-in_err-header-clause-reads_err g c h =
    let p = err_from_is_err_and c.from_residual.result c.from_residual.ensures.1 in
    let synced = c.in-Ok.ensures in
    let long : c.in-Ok.len ≡ length (g.D.Disk.state c.args.disk.now).content = synced.length ∙ g.met.D.Disk.whole h c.synced_length.new.disk ∙ ap length (synced.content h) in
    rw p.1 (only_reads_unless _ c.in-Ok.len _ _ (omega (arith, long))
    (synced_then c.in-Ok.len _ _ _ (g.met.D.Disk.lawful h c.synced_length.new.disk) (synced.content h) (synced.any_moment h) (synced.bytes_read h) (between_more 0 (min 16 c.in-Ok.len) c.in-Ok.len _ _ (omega arith) (c.in_err-header.ensures.reads_err h))))

pub returns-clause-whole : goal.returns-clause-whole
returns-clause-whole g c h =
    let synced = c.in-Ok.ensures in
    let front = c.in_ok-header.ensures in
    let same = (front.reads h).content ∙ synced.content h in
    let long = synced.length ∙ g.met.D.Disk.whole h c.synced_length.new.disk ∙ ap length (synced.content h) in
    found_whole _ c.in_ok-header.header.version c.args.kind _ _ same (subst (λ (b : List ℕ). IsHeader c.in_ok-header.header.version c.args.kind (take 16 b)) (sym (front.reads h).content) (front.header h)) (omega (arith, long, ap length same, front.long)) c.read_blocks.ensures.version c.read_blocks.ensures.sizes (c.read_blocks.ensures.ends h)

pub returns-clause-header : goal.returns-clause-header
returns-clause-header g c h =
    let synced = c.in-Ok.ensures in
    let front = c.in_ok-header.ensures in
    found_header _ c.in_ok-header.header.version c.args.kind _ _ ((front.reads h).content ∙ synced.content h) (subst (λ (b : List ℕ). IsHeader c.in_ok-header.header.version c.args.kind (take 16 b)) (sym (front.reads h).content) (front.header h))
    c.read_blocks.ensures.version

pub returns-clause-damaged : goal.returns-clause-damaged
returns-clause-damaged g c h =
    let synced = c.in-Ok.ensures in
    let front = c.in_ok-header.ensures in
    found_damaged _ c.in_ok-header.header.version c.args.kind _ _ ((front.reads h).content ∙ synced.content h) (subst (λ (b : List ℕ). IsHeader c.in_ok-header.header.version c.args.kind (take 16 b)) (sym (front.reads h).content) (front.header h))
    c.read_blocks.ensures.sizes (c.read_blocks.ensures.ends h) c.read_blocks.ensures.gate

pub returns-clause-refused : goal.returns-clause-refused
returns-clause-refused g c h payloads = found_refused _ c.args.kind _ _ payloads _ c.read_blocks.ensures.err

pub returns-clause-reads : goal.returns-clause-reads
returns-clause-reads g c h =
    let synced = c.in-Ok.ensures in
    let long = synced.length ∙ g.met.D.Disk.whole h c.synced_length.new.disk ∙ ap length (synced.content h) in
    found_reads c.in-Ok.len _ _ _ (g.met.D.Disk.lawful h c.read_header.new.disk) long
    (synced_then 16 _ _ _ (g.met.D.Disk.lawful h c.synced_length.new.disk) (synced.content h) (synced.any_moment h) (synced.bytes_read h) (c.in_ok-header.ensures.reads h)) _ (c.read_blocks.ensures.reads h)

pub returns-clause-reads_ahead : goal.returns-clause-reads_ahead
returns-clause-reads_ahead g c h =
    let synced = c.in-Ok.ensures in
    let long = synced.length ∙ g.met.D.Disk.whole h c.synced_length.new.disk ∙ ap length (synced.content h) in
    found_ahead c.in-Ok.len _ _ _ (g.met.D.Disk.lawful h c.read_header.new.disk) long
    (synced_then 16 _ _ _ (g.met.D.Disk.lawful h c.synced_length.new.disk) (synced.content h) (synced.any_moment h) (synced.bytes_read h) (c.in_ok-header.ensures.reads h)) _ (c.read_blocks.ensures.reads h)

pub returns-clause-reads_err : goal.returns-clause-reads_err
returns-clause-reads_err g c h =
    let synced = c.in-Ok.ensures in
    let long = synced.length ∙ g.met.D.Disk.whole h c.synced_length.new.disk ∙ ap length (synced.content h) in
    found_unless c.in-Ok.len _ _ _ (g.met.D.Disk.lawful h c.read_header.new.disk) long
    (synced_then 16 _ _ _ (g.met.D.Disk.lawful h c.synced_length.new.disk) (synced.content h) (synced.any_moment h) (synced.bytes_read h) (c.in_ok-header.ensures.reads h)) _ (c.read_blocks.ensures.reads_err h)

pub returns-clause-durable : goal.returns-clause-durable
returns-clause-durable g c h =
    let synced = c.in-Ok.ensures in
    let long = synced.length ∙ g.met.D.Disk.whole h c.synced_length.new.disk ∙ ap length (synced.content h) in
    found_durable c.in-Ok.len (g.D.Disk.state c.args.disk.now) _ _ (g.met.D.Disk.lawful h c.read_header.new.disk) long
    (synced_then 16 _ _ _ (g.met.D.Disk.lawful h c.synced_length.new.disk) (synced.content h) (synced.any_moment h) (synced.bytes_read h) (c.in_ok-header.ensures.reads h)) _
    (g.met.D.Disk.lawful h c.read_blocks.new.disk) (still_only 0 16 _ _ (g.met.D.Disk.lawful h c.read_header.new.disk) (c.in_ok-header.ensures.reads h) (synced.durable h)) (c.read_blocks.ensures.reads h)
