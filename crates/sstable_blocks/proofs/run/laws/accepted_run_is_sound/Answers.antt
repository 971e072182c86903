use Rattle.std.proofs.Common.{◌≡◌, ℕ, List, subst, sym, Ok}
use Rattle.sst_base.specs.Bytes.{IsBytes}
use Rattle.sst_base.specs.Entry.{Entry, IsEntry}
use Rattle.sst_block_core.specs.Entries.{entries}
use Rattle.sst_block_core.specs.Payload.{IsBlock}
use Rattle.sst_block_core.specs.Trailer.{trailer_in}
use Rattle.sst_block_core.specs.Checks.{data_check, DataVerdict}
use Rattle.sstable_blocks.proofs.Checks.RunCheckLaws.{accepted_is_sound}
use Rattle.sstable_blocks.proofs.run.laws.accepted_run_is_sound.Goals as goal

pub returns : goal.returns
returns c = λ hs bytes h s small short filter_short e.
    let takes : (p : List ℕ) (items : List Entry) → IsBytes p → data_check hs.hash64 p ≡ Ok items → (r : ℕ) × (b : ℕ) × IsBlock entries IsEntry hs.hash64 p items r b = λ p items small e. (
    let v = subst (DataVerdict hs.hash64 (trailer_in p) p) e (c.data_check_is_by_stages.ensures hs.hash64 p) in
    ((trailer_in p).interval, (trailer_in p).hash_len, subst (λ xs. IsBlock entries IsEntry hs.hash64 p xs (trailer_in p).interval (trailer_in p).hash_len) (sym v.1) (c.passing_is_block.ensures hs.hash64 p small v.0))) in
    accepted_is_sound hs bytes small takes (λ p items small short. (c.index_check_accepts_encodings.ensures p items small short).0) h s short filter_short e
