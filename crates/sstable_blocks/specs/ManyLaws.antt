-- Reads of many keys that each succeed.
use Rattle.std.proofs.Common.{◌≡◌, List, [], ◌∷◌, ℕ, map, refl, sym, ◌∙◌, ap, Option, Some, None, IfSome, IfOk, Result, Ok, Err}
use Rattle.sst_base.specs.Entry.{Entry}
use Rattle.sst_base.specs.Header.{◌>>=◌}
use Rattle.sst_base.specs.declared.error.Error.{Error}
use Rattle.sst_block_core.specs.Entries.{entries}
use Rattle.sst_block_core.specs.Window.{first_match}
use Rattle.sstable_blocks.specs.Blocks.{joined}
use Rattle.sstable_blocks.specs.ManyReads.{FindsAll, read_each}
use Rattle.sstable_blocks.specs.RunReading.{Hashes, read_checked}
use Rattle.sstable_blocks.specs.Sound.{IsSound}
use Rattle.sstable_blocks.specs.Sources.{GivesOr}
use Rattle.sstable_blocks.specs.declared.run.RunHandles.{RunHandles}
use Rattle.sstable_blocks.specs.declared.run.many.Needle.{Needle}

pub each_found : {N : Type 0} (read : N → Result (Option Entry) Error) (found : N → Option Entry) → ((n : N) → read n ≡ Ok (found n)) → (ns : List N) → read_each read ns ≡ Ok (map found ns)
each_found read found is [] = refl
each_found read found is (n ∷ ns) =
    ap (λ (r : Result (Option Entry) Error). r >>= (λ (x : Option Entry). read_each read ns >>= (λ (xs : List (Option Entry)). Ok (x ∷ xs)))) (is n)
    ∙ ap (λ (r : Result (List (Option Entry)) Error). r >>= (λ (xs : List (Option Entry)). Ok (found n ∷ xs))) (each_found read found is ns)

pub found_all : {X : Type 0} (P R : Type 0) (view : X → List (Option Entry)) (r : Result X Error) (read : Result (List (Option Entry)) Error) (all : List (Option Entry)) → read ≡ Ok all → GivesOr P R view r read → IfOk r (λ v. view v ≡ all)
found_all P R view (Ok v) read all is given = let e : ◌≡◌ {A = Result (List (Option Entry)) Error} (Ok all) (Ok (view v)) = sym is ∙ given in cc
found_all P R view (Err e) read all is given = tt

-- reads of many keys of a sound run find the first match of each
pub finds_all : {X : Type 0} (c : Hashes) (o : Option (List ℕ)) (P R : Type 0) (view : X → List (Option Entry)) (r : Result X Error) (h : RunHandles) (needles : List Needle)
    → ((all : List ℕ) (blocks : List (List Entry)) (needle : List ℕ) (seqno : ℕ) → IsSound c blocks all h → read_checked c all h needle seqno ≡ Ok (first_match entries needle seqno (joined blocks)))
    → IfSome o (λ all. GivesOr P R view r (read_each (λ n. read_checked c all h n.key.now n.seqno) needles))
    → IfSome o (FindsAll c h needles view r)
finds_all c None P R view r h needles read given = tt
finds_all c (Some all) P R view r h needles read given = λ blocks sound.
    found_all P R view r _ _ (each_found (λ n. read_checked c all h n.key.now n.seqno) (λ n. first_match entries n.key.now n.seqno (joined blocks)) (λ n. read all blocks n.key.now n.seqno sound) needles) given
