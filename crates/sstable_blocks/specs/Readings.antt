-- What scans open: blocks that are verified and checked, and blocks of a sound run.
use Rattle.std.specs.Prelude.{◌≡◌, ◌<◌, ◌+◌, ◌^◌, ℕ, List, [], length, slice_get, Option, Some, None, Result, Ok, Err, true}
use Rattle.std.specs.Option.{option_map}
use Rattle.sst_base.specs.Entry.{Entry}
use Rattle.sst_base.specs.declared.error.Error.{Error}
use Rattle.sst_base.specs.declared.error.Error.TheVariants.{Io, BadHandle, Memory}
use Rattle.sst_block_core.specs.Entries.{entries}
use Rattle.sst_block_core.specs.Stages.{items_in}
use Rattle.sst_block_core.specs.Handles.{Handle}
use Rattle.sstable_blocks.specs.BlockReading.{Reading}
use Rattle.sstable_blocks.specs.Opened.{range_of, index_in, payload_in}
use Rattle.sstable_blocks.specs.RunReading.{Hashes}
use Rattle.sstable_blocks.specs.Scans.{KeyRange, CutParts, block_within, in_range, run_interval, within}
use Rattle.sstable_blocks.specs.Sound.{RunParts}
use Rattle.sstable_blocks.specs.Sources.{FailsAs, KeepsSource}
use Rattle.sstable_blocks.specs.Tables.{TableParts, kept_parts}
use Rattle.sstable_blocks.specs.Tallies.{cost_in, tally_by}

-- the block of a handle, if there is one
abbrev pub block_of_index : Hashes → List ℕ → KeyRange → Option Handle → Result (List Entry) Error
block_of_index c bytes r None = Err BadHandle
block_of_index c bytes r (Some h) = block_within c bytes r h

module _ {S : Type 0} (c : Hashes) (bytes : S → Option (List ℕ)) (failures reads : S → ℕ) (is_reliable : S → Type 0) where
  -- a number of frames was requested, and the table is the same but for its source
  pub record TableGoes (s : CutParts (TableParts S)) (n : ℕ) (t : CutParts (TableParts S)) : Type 0 where
    pub kept : kept_parts t.run ≡ kept_parts s.run
    pub range : t.range ≡ s.range
    pub source : KeepsSource bytes failures is_reliable s.run.source t.run.source
    pub more : reads t.run.source ≡ reads s.run.source + n

  -- the blocks of a table
  abbrev pub table_reading : Reading (CutParts (TableParts S)) Entry
  table_reading = record {
    len = λ t. length t.run.index;
    read = λ t. option_map (λ all i. block_of_index c all t.range (slice_get t.run.index i)) (bytes t.run.source);
    most = 2 ^ 32;
    admits = λ t x. in_range t.range x.key.user_key;
    Goes = TableGoes;
    Errs = λ s t e. e ≡ Io → failures s.run.source < failures t.run.source;
    Fails = λ s t x e. FailsAs (failures s.run.source < failures t.run.source) (is_reliable s.run.source) x e;
    tally = λ t. tally_by t.steps;
    cost = λ t. option_map (λ all i. cost_in all t.run.interval (slice_get t.run.index i)) (bytes t.run.source);
  }

-- the entries in a range of the block of a handle, if there is one
abbrev pub entries_of_index : List ℕ → KeyRange → Option Handle → List Entry
entries_of_index bytes r None = []
entries_of_index bytes r (Some h) = within r (items_in entries (payload_in bytes (range_of h)))

-- the run and the range are the same
pub record RunGoes (s : CutParts RunParts) (n : ℕ) (t : CutParts RunParts) : Type 0 where
  pub run : t.run ≡ s.run
  pub range : t.range ≡ s.range

-- the blocks of a sound run, which are never refused
abbrev pub run_reading : Reading (CutParts RunParts) Entry
run_reading = record {
  len = λ t. length (index_in t.run.bytes t.run.handles.index);
  read = λ t. Some (λ i. Ok (entries_of_index t.run.bytes t.range (slice_get (index_in t.run.bytes t.run.handles.index) i)));
  most = 2 ^ 64;
  admits = λ t x. true;
  Goes = RunGoes;
  Errs = λ s t e. ⊥;
  Fails = λ s t x e. ⊥;
  tally = λ t. tally_by t.steps;
  cost = λ t. Some (λ i. cost_in t.run.bytes (run_interval t.run) (slice_get (index_in t.run.bytes t.run.handles.index) i));
}

-- the same where each block is made, so that an allocation may fail
abbrev pub shared_reading : Reading (CutParts RunParts) Entry
shared_reading = record run_reading { Errs = λ s t e. e ≡ Memory; Fails = λ s t x e. e ≡ Memory }
