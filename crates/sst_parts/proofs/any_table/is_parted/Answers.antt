use Rattle.std.proofs.Common.{◌≡◌, IfSome, List, ℕ, Ok, ◌∙◌, ap, subst}
use Rattle.std.specs.Prelude.{min}
use Rattle.sstable_blocks.specs.Prelude.{HandleParts, header_at}
use Rattle.sstable_blocks.specs.RunReading.{hashes, range_at}
use Rattle.sst_parts.proofs.Reading.AnyOpenings.{told}
use Rattle.sst_parts.specs.AnyTables.{header_place, is_top}
use Rattle.sst_parts.proofs.any_table.is_parted.Goals as goal

pub returns-clause-exact : goal.returns-clause-exact
returns-clause-exact g c =
    let header = c.in_ok-header.header in
    let read = g.S.FrameSource.bytes c.args.source.now in
    let place : c.new.result ≡ header_place c.args.index.now = c.new.ensures ∙ ap (λ (o : ℕ). record { offset = o; size = c.min-size.result }) c.offset.ensures ∙ ap (λ (n : ℕ). record { offset = c.args.index.now.offset; size = n }) (c.min-size.ensures ∙ ap (λ (n : ℕ). min n 33) c.size.ensures) in
    told (hashes g.H.BlockHash.hash64 g.H.BlockHash.hash128) c.args.index.now header read c.is_top.result (subst (λ (p : HandleParts). IfSome read (λ all. range_at all p ≡ Ok header)) place c.in_ok-header.ensures.range)
    (c.is_top.ensures ∙ ap (λ (xs : List ℕ). is_top (header_at g.H.BlockHash.hash128 xs)) c.as_slice.ensures)
