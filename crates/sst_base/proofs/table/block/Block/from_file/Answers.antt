use Rattle.std.proofs.Common.{◌≡◌, ◌∙◌, ap, drop, Some}
use Rattle.std.proofs.lemmas.Result.{err_from_is_err_and}
use Rattle.sst_base.proofs.Framing.Frames.{file_unread, file_read, found_size}
use Rattle.sst_base.proofs.table.block.Block.from_file.Goals as goal

pub returns-in_err-bytes-clause-read : goal.returns-in_err-bytes-clause-read
returns-in_err-bytes-clause-read g c at bytes position known =
    let whole = g.met.F.SeekInput.whole_is_known c.args.file.now at bytes position known in
    let left = rw whole at c.in_ok-move_to.ensures.left in
    let moved : g.F.Read.remaining c.move_to.new.self ≡ Some (drop c.args.handle.offset bytes) =
    left ∙ ap (λ n. Some (drop n bytes)) (c.deref.ensures ∙ c.offset.ensures) in
    let p = err_from_is_err_and c.from_residual-in_err-bytes.result c.from_residual-in_err-bytes.ensures.1 in
    let read = rw c.size.ensures at (c.in_err-bytes.ensures.read (drop c.args.handle.offset bytes) moved) in
    file_unread g.H.BlockHash.hash128 (g.F.Input.is_memory c.args.file.now) (g.F.Input.is_memory c.move_to.new.self) c.from_residual-in_err-bytes.result c.in_err-bytes.field-0.0 (g.F.Read.remaining c.from_reader.new.reader) c.args.handle.offset c.args.handle.size bytes c.in_ok-move_to.ensures.kept (rw (p.1, p.2)) read

pub returns-clause-read : goal.returns-clause-read
returns-clause-read g c at bytes position known =
    let whole = g.met.F.SeekInput.whole_is_known c.args.file.now at bytes position known in
    let left = rw whole at c.in_ok-move_to.ensures.left in
    let moved : g.F.Read.remaining c.move_to.new.self ≡ Some (drop c.args.handle.offset bytes) =
    left ∙ ap (λ n. Some (drop n bytes)) (c.deref.ensures ∙ c.offset.ensures) in
    let read = rw c.size.ensures at (c.in_ok-bytes.ensures.read (drop c.args.handle.offset bytes) moved) in
    file_read g.H.BlockHash.hash128 (g.F.Input.is_memory c.args.file.now) (g.F.Input.is_memory c.move_to.new.self) c.from_frame.result c.in_ok-bytes.bytes (g.F.Read.remaining c.from_reader.new.reader) c.args.handle.offset c.args.handle.size bytes read c.from_frame.ensures.read

pub returns-clause-size : goal.returns-clause-size
returns-clause-size g c = found_size g.H.BlockHash.hash128 c.from_frame.result c.in_ok-bytes.bytes c.args.handle.size (c.in_ok-bytes.ensures.len ∙ c.size.ensures) c.from_frame.ensures.found
