-- The filter of a list of hashes.
use Rattle.std.proofs.Common.{◌≡◌, ℕ, ◌+◌, ◌<◌, List, [], ◌∷◌, ◌++◌, length, take, get_or, sym, subst}
use Rattle.std.proofs.lemmas.List.{take_more}
use Rattle.sstable_blocks.specs.Filter.{Filter, IsFilterOf, bit_count, probe_count, filter_payload}
use Rattle.sstable_blocks.specs.Run.{IsFilterText}

pub next_inserted : (hashes : List ℕ) (i : ℕ) (f : Filter) → i < length hashes → IsFilterOf (take i hashes ++ get_or hashes i 0 ∷ []) f → IsFilterOf (take (i + 1) hashes) f
next_inserted hashes i f h is = subst (λ xs. IsFilterOf xs f) (sym (take_more hashes i 0 h)) is

pub filter_text : (hashes : List ℕ) (bits : ℕ) (p : List ℕ) (f : Filter) → f.m ≡ bit_count (length hashes) bits → f.k ≡ probe_count bits → IsFilterOf hashes f → p ≡ filter_payload f → IsFilterText hashes bits p
filter_text hashes bits p f m k is e = record { filter = f; m = m; k = k; inserted = is; text = e }
