use Rattle.sstable_blocks.proofs.Layouts.LayoutCosts.{layout_costs}
use Rattle.sstable_blocks.proofs.run.laws.layout_costs.Goals as goal

pub returns : goal.returns
returns c = λ f blocks bytes h needle seqno layout. layout_costs f
    (λ p items r b short is. let k = c.data_block_is_read.ensures f.hash64 p items r b short is in (k.1, k.2))
    (λ r p items short is. let k = c.index_block_is_read.ensures r p items short is in (k.1, k.2))
    blocks bytes h needle seqno layout
