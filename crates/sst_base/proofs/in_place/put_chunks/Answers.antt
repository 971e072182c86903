use Rattle.sst_base.proofs.Strings.InPlace.{three_put}
use Rattle.sst_base.proofs.in_place.put_chunks.Goals as goal

pub returns-clause-bytes : goal.returns-clause-bytes
returns-clause-bytes c = three_put c.args.bytes.now c.args.form.now c.put_chunk.new.form c.put_chunk-2.new.form c.put_chunk-3.new.form _ _ _ c.args.at c.args.from c.min-second.result
    c.told-bytes c.put_chunk.ensures.same_room c.put_chunk-2.ensures.same_room c.requires.room c.requires.inside c.min-second.ensures c.put_chunk.ensures.bytes c.put_chunk-2.ensures.bytes c.put_chunk-3.ensures.bytes
