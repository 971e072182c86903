-- The hashes of the keys of a block that is written.
use Rattle.std.proofs.Common.{◌≡◌, ℕ, List, [], ◌∷◌, length, map, refl, sym, ap, subst}
use Rattle.sstable_blocks.specs.Prelude.{Entry}
use Rattle.sstable_blocks.specs.RunReading.{Hashes}
use Rattle.sstable_blocks.specs.Run.{block_frame, block_payload, key_hashes, IsFramed}
use Rattle.sstable_blocks.specs.declared.run.RunConfig.{RunConfig}
use Rattle.sst_calls.specs.Given.{Parts, entry_parts, parts_given, IsWrittenOut}
use Rattle.sst_calls.specs.RunWrites.{AreHashedIf, CanWriteBlock, IsBlockWrite}
use Rattle.sst_calls.specs.Runs.{run_form}
use Rattle.sst_calls.specs.declared.codes.Status.{Status}
use Rattle.sst_calls.specs.declared.codes.Status.TheVariants.{Done, Failed, NotFound, BadArgument, NoRoom}
use Rattle.sst_calls.specs.declared.entries.SstEntry.{SstEntry}

-- the keys that are given are those of the entries
pub same_hashes : (hash : List ℕ → ℕ) (given : List SstEntry) (items : List Entry) → map entry_parts items ≡ map parts_given given → map (λ (g : SstEntry). hash g.key.now) given ≡ key_hashes hash items
same_hashes hash [] [] same = refl
same_hashes hash [] (e ∷ items) same = cc
same_hashes hash (g ∷ given) [] same = cc
same_hashes hash (g ∷ given) (e ∷ items) same =
    let first : entry_parts e ≡ parts_given g = cc (same) in
    let others : map entry_parts items ≡ map parts_given given = cc (same) in
    let one = ap (λ (p : Parts). hash p.key) (sym first) in
    let rest = same_hashes hash given items others in
    cc

module _ (c : Hashes) (given : List SstEntry) (config : RunConfig) (frame old new : List ℕ) (len_old len_new : ℕ) (h_old h_new : List ℕ) (items : List Entry) (can : CanWriteBlock given config (length h_old) items) (is : frame ≡ block_frame (run_form c config) items) (fits : IsFramed (block_payload (run_form c config) items)) where
  -- a block whose frame is written, or has no capacity
  pub block_written : (s : Status) → IsWrittenOut frame old new len_new s → AreHashedIf config.bits_per_key (map (λ (g : SstEntry). c.hash64 g.key.now) given) h_old h_new s → IsBlockWrite c given config old new len_old len_new h_old h_new s
  block_written Done written hashed = (
    items,
    can,
    fits,
    subst (λ xs. IsWrittenOut xs old new len_new Done) is written,
    subst (λ xs. AreHashedIf config.bits_per_key xs h_old h_new Done) (same_hashes c.hash64 given items can.can.are.1) hashed,
  )
  block_written NoRoom written hashed = (items, can, fits, subst (λ xs. IsWrittenOut xs old new len_new NoRoom) is written, hashed)
  block_written NotFound written hashed = absurd written
  block_written BadArgument written hashed = absurd written
  block_written (Failed e) written hashed = absurd written
