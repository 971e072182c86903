use Rattle.std.proofs.Common.{refl}
use Rattle.sst_base.proofs.Hashes.Fours.{four_more}
use Rattle.sst_base.proofs.hash.continued64_by_four.Goals as goal

pub returns : goal.returns
returns c =
    four_more 64 c.args.so_far c.args.bytes.now _ _ c.first_four.result _ _ c.if-bytes-lt4.false refl c.first_four.ensures refl c.split_at.ensures.back c.continued64_by_few-2.ensures
