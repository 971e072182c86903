-- Runs that were opened, with a table in memory of the caller.
use Rattle.std.specs.Prelude.{◌≡◌, ◌⊎◌, ℕ, ◌+◌, ◌<◌, ◌≤◌, List, length, take, drop}
use Rattle.sstable_blocks.specs.Opened.{index_in, payload_in}
use Rattle.sstable_blocks.specs.Prelude.{Handle}
use Rattle.sst_calls.specs.Blocks.{bytes_behind}
use Rattle.sst_calls.specs.Fronts.{AreFronts}
use Rattle.sst_calls.specs.Runs.{handles_given}
use Rattle.sst_calls.specs.declared.open_run.SstOpenRun.{SstOpenRun}
use Rattle.sst_calls.specs.declared.run.SstRunHandles.{SstRunHandles}
use Rattle.sst_calls.specs.Hashing.{IsHashed, hash_given}
use Rattle.sst_calls.specs.declared.codes.Status.{Status}
use Rattle.sst_calls.specs.declared.codes.Status.TheVariants.{Done}

-- the payload of the index of a run that is given, and its handles
abbrev pub index_payload_given : List ℕ → SstRunHandles → List ℕ
index_payload_given bytes h = payload_in bytes (handles_given h).index

abbrev pub index_given : List ℕ → SstRunHandles → List Handle
index_given bytes h = index_in bytes (handles_given h).index

-- numbers begin with the table of a run that was opened, if it has one: the fronts of its index behind the prefix
pub record HasTable (bytes : List ℕ) (o : SstOpenRun) (numbers : List ℕ) : Type 0 where
  pub prefix_inside : o.prefix_offset + o.prefix_len ≤ length (index_payload_given bytes o.handles)
  pub fits : o.fronts ≤ length numbers
  pub table : (o.fronts ≡ 0) ⊎ AreFronts (bytes_behind (index_payload_given bytes o.handles) o.prefix_offset o.prefix_len) (take o.fronts numbers) (index_given bytes o.handles)

-- A run with these handles, by the hash function of this number, was opened: it has a table, of a number for each block,
-- or none, as where there is too little room; the numbers behind are left.
pub record OpensRun (bytes : List ℕ) (h : SstRunHandles) (hash : ℕ) (old new : List ℕ) (o : SstOpenRun) : Type 0 where
  pub handles_are : o.handles ≡ h
  pub hash_is : o.hash ≡ hash
  pub blocks_are : o.blocks ≡ length (index_given bytes h)
  pub whole : (o.fronts ≡ 0) ⊎ (o.fronts ≡ o.blocks)
  pub table : HasTable bytes o new
  pub few : length old < o.blocks → new ≡ old
  pub rest : drop o.blocks new ≡ drop o.blocks old
  pub len : length new ≡ length old

-- what becomes of a run that is opened by the hash function of a number
abbrev pub IsOpenBy : ℕ → List ℕ → SstRunHandles → List ℕ → List ℕ → SstOpenRun → SstOpenRun → Status → Type 0
IsOpenBy number bytes h old new run_old run_new s =
    IsHashed (hash_given number) s ((run_new ≡ run_old) × (new ≡ old)) (λ _. (s ≡ Done) × OpensRun bytes h number old new run_new)
