use Rattle.std.proofs.Common.{rules, arith, ◌≡◌, ◌≤◌, ◌∙◌, sym, ap, length, Some, true}
use Rattle.sst_base.proofs.Framing.Frames.{Gives-same, left_behind, payload_behind, length_payload, frame_in_by}
use Rattle.sst_base.specs.Frame.{has_length, frame_in}
use Rattle.sst_base.proofs.table.block.Block.in_frame.Goals as goal

pub checked-requires : goal.checked-requires
checked-requires g c =
    let hash = g.H.BlockHash.hash128 in
    let all = c.args.bytes.now in
    let h = c.in_ok-header.header in
    let rest = c.decode_from.new.reader.now in
    let head = left_behind (Unit {0}) h rest _ (c.in_ok-header.ensures.read all (ap (λ xs. Some xs) c.as_slice-rest.ensures)) in
    let payload = payload_behind hash all rest c.in_ok-payload.payload h head c.in_ok-payload.ensures.ok in
    let same : has_length h (length rest) ≡ true = sym c.has_length.ensures ∙ search rules in
    omega (arith, length_payload h c.in_ok-payload.payload rest payload same)

pub returns-clause-read : goal.returns-clause-read
returns-clause-read g c =
    let hash = g.H.BlockHash.hash128 in
    let all = c.args.bytes.now in
    let h = c.in_ok-header.header in
    let rest = c.decode_from.new.reader.now in
    let head = left_behind (Unit {0}) h rest _ (c.in_ok-header.ensures.read all (ap (λ xs. Some xs) c.as_slice-rest.ensures)) in
    let payload = payload_behind hash all rest c.in_ok-payload.payload h head c.in_ok-payload.ensures.ok in
    let same : has_length h (length rest) ≡ true = sym c.has_length.ensures ∙ search rules in
    let long : 33 ≤ length all = omega (arith, ap length c.as_slice-rest.ensures) in
    Gives-same c.checked.result (frame_in hash all) (frame_in_by hash all rest c.in_ok-payload.payload h c.checked.result long head same payload c.checked.ensures)
