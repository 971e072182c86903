use Rattle.std.proofs.lemmas.Result.{err_from_is_err_and}
use Rattle.sst_base.proofs.Framing.Handles.{byte_unread}
use Rattle.sst_base.proofs.table.block.block_handle.+number_from.Goals as goal

pub returns-in_err-byte-clause-read : goal.returns-in_err-byte-clause-read
returns-in_err-byte-clause-read g t c bytes known =
    let p = err_from_is_err_and c.from_residual.result c.from_residual.ensures.1 in
    byte_unread (g.R.Input.is_memory c.args.reader.now) c.from_residual.result c.in_err-byte.field-0.0 (g.R.Read.remaining c.array_from.new.reader) c.args.max bytes (rw (p.1, p.2)) (c.in_err-byte.ensures.read bytes known)
