use Rattle.std.proofs.Common.{◌-◌, drop, arith}
use Rattle.std.proofs.lemmas.List.{length-take-le}
use Rattle.sst_base.proofs.Strings.InPlace.{fewer_put}
use Rattle.sst_base.proofs.in_place.put_part.Goals as goal

pub returns-then-from-le-LAST_CHUNK-clause-bytes : goal.returns-then-from-le-LAST_CHUNK-clause-bytes
returns-then-from-le-LAST_CHUNK-clause-bytes c =
    fewer_put (drop c.args.from c.args.bytes.now) c.args.form.now c.put_chunks.new.form c.args.at (40 - c.args.from) (c.args.len - c.args.from)
    (length-take-le c.args.at c.args.form.now (omega (arith, c.requires.room))) (omega (arith, c.requires.inside)) c.put_chunks.ensures.bytes
