use Rattle.std.proofs.Common.{ap, sym, ◌∙◌, subst, map}
use Rattle.std.proofs.lemmas.Option.{slice_get-map}
use Rattle.sstable_blocks.specs.Prelude.{IsOrdered, first_match}
use Rattle.sstable_blocks.specs.Blocks.{joined}
use Rattle.sstable_blocks.specs.Lookup.{IsEnd, first_in, place_for}
use Rattle.sst_parts.proofs.Writing.Joins.{joined-map, zip-map}
use Rattle.sst_parts.proofs.laws.first_match_is_in_one_part.Goals as goal

pub returns : goal.returns
returns g c = λ needle seqno parts ends zip ordered.
    ap (first_match g.T.BlockItem.kind needle seqno) (sym (joined-map parts))
    ∙ c.first_match_is_in_one_block.ensures needle seqno (map joined parts) ends (zip-map joined (IsEnd g.T.BlockItem.kind g.E.BlockItem.kind) parts ends zip) (subst (IsOrdered g.T.BlockItem.kind) (sym (joined-map parts)) ordered)
    ∙ ap (first_in g.T.BlockItem.kind needle seqno) (slice_get-map joined parts (place_for g.E.BlockItem.kind needle seqno ends))
