use Rattle.std.specs.Io.Buffered.{reader_remaining}
use Rattle.std.specs.Io.Iter.{split_known_bytes, split_byte}
use Rattle.std.proofs.Common.{◌≡◌, vec_len}
use Rattle.sst_program.proofs.EntryTexts.Inputs.{ReadTo}
use Rattle.sst_program.proofs.input.read_entries.Given as goal

abbrev pub invariant-loop-line : goal.invariant-loop-line
invariant-loop-line g l = record {
  byte : split_byte l.line-iterator ≡ 10;
  read : ReadTo (g.I.Read.remaining l.fn.input) (split_known_bytes (reader_remaining (λ r. g.I.Read.remaining r.now)) l.line-iterator) l.items.items (vec_len l.items);
}
