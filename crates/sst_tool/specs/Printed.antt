-- Lines that are printed through buffers.
use Rattle.std.specs.Prelude.{ℕ, List, Option}
use Rattle.std.specs.Io.Buffered.{writer_contents}
use Rattle.std.specs.Io.KnownBytes.{append_known}
use Rattle.sst_tool.specs.declared.lines.Lines.{Lines}

-- the bytes of an output, where they are known, and then those that wait for it
abbrev pub printed_in : {O : Type 0} → (O → Option (List ℕ)) → Lines O → Option (List ℕ)
printed_in contents lines = append_known (writer_contents contents lines.output) lines.waiting.items
