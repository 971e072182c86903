use Rattle.std.proofs.Common.{◌≡◌, ◌+◌, ℕ, subst}
use Rattle.sst_calls.specs.Blocks.{IsPartAt}
use Rattle.sstable_blocks.specs.Opened.{payload_in}
use Rattle.sst_calls.proofs.Lists.Places.{frame_part}
use Rattle.sst_calls.proofs.run.start_of.Goals as goal

pub returns : goal.returns
returns c =
    let h = c.args.handle.now in
    let same : h.offset ≡ c.deref.result.now = cc (c.deref.ensures, c.offset.ensures) in
    subst (λ (n : ℕ). IsPartAt c.args.bytes.now (n + 33) (payload_in c.args.bytes.now h)) same (frame_part c.args.bytes.now h c.requires)
