-- Footers of table files in a caller's buffers.
use Rattle.std.specs.Prelude.{◌≡◌, List, ℕ, Ok, Err}
use Rattle.sstable_blocks.specs.Footer.{footer, table_handles}
use Rattle.sst_calls.specs.Given.{IsWrittenOut}
use Rattle.sst_calls.specs.Runs.{handles_given}
use Rattle.sst_calls.specs.declared.codes.Status.{Status}
use Rattle.sst_calls.specs.declared.codes.Status.TheVariants.{Done, Failed}
use Rattle.sst_calls.specs.declared.run.SstRunHandles.{SstRunHandles}

-- what a read of a table file's footer says: the handles, or why there are none, and then they are left
abbrev pub IsFooterRead : List ℕ → SstRunHandles → SstRunHandles → Status → Type 0
IsFooterRead file old new Done = table_handles file ≡ Ok (handles_given new)
IsFooterRead file old new (Failed e) = (table_handles file ≡ Err e) × (new ≡ old)
IsFooterRead file old new _ = ⊥

-- what becomes of a footer that is written
abbrev pub IsFooterWrite : SstRunHandles → List ℕ → List ℕ → ℕ → Status → Type 0
IsFooterWrite given old new len s = IsWrittenOut (footer (handles_given given)) old new len s
