use Rattle.sst_block_core.proofs.Search.Versions.{version_found}
use Rattle.sst_block_core.proofs.table.block.intervals.Intervals.first_version.Goals as goal

pub returns-clause-item : goal.returns-clause-item
returns-clause-item g c =
    version_found g.Parsed.ParsedItem.item_of g.Parsed.ParsedItem.is_found g.Item.BlockItem.kind c.args.needle.now c.args.seqno c.args.self.now.list c.requires c.seek_key-item.result.0.index
    c.seek_key-item.result.1 c.seek_key-item.ensures.place c.seek_key-item.ensures.item
