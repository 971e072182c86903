-- From an exact result of a checked read to what it means.
use Rattle.std.proofs.Common.{◌≡◌, ℕ, ◌∙◌, sym, List, Option, Some, None, Result, Ok, Err, OnOk, IfOk, IfSome}
use Rattle.sst_base.specs.Bytes.{IsBytes}
use Rattle.sst_base.specs.Entry.{Entry}
use Rattle.sst_base.specs.declared.error.Error.{Error}
use Rattle.sst_block_core.specs.Entries.{entries}
use Rattle.sst_block_core.specs.Window.{first_match}
use Rattle.sstable_blocks.specs.Blocks.{joined}
use Rattle.sstable_blocks.specs.RunReading.{Hashes, read_checked, AnswerMeans}
use Rattle.sstable_blocks.specs.Sound.{IsSound}
use Rattle.sstable_blocks.specs.Sources.{GivesOr}
use Rattle.sstable_blocks.specs.declared.run.RunHandles.{RunHandles}

given_is : {X : Type 0} (failed reliable : Type 0) (r read : Result X Error) (y : X) → read ≡ Ok y → GivesOr failed reliable (λ x. x) r read → IfOk r (λ x. x ≡ y)
given_is {X = X} failed reliable (Ok x) read y e h = let k : ◌≡◌ {A = Result X Error} (Ok x) (Ok y) = sym h ∙ e in cc
given_is failed reliable (Err d) read y e h = tt

pub means_on : (c : Hashes) (o : Option (List ℕ)) (failed reliable : Type 0) (r : Result (Option Entry) Error) (h : RunHandles) (needle : List ℕ) (seqno : ℕ)
    → ((all : List ℕ) (answer : Option Entry) → IsBytes all → read_checked c all h needle seqno ≡ Ok answer → AnswerMeans c all h needle seqno answer)
    → OnOk r (IfSome o IsBytes) → IfSome o (λ all. GivesOr failed reliable (λ x. x) r (read_checked c all h needle seqno)) → IfSome o (λ all. IfOk r (AnswerMeans c all h needle seqno))
means_on c None failed reliable r h needle seqno law cells given = tt
means_on c (Some all) failed reliable (Ok x) h needle seqno law cells given = law all x cells given
means_on c (Some all) failed reliable (Err e) h needle seqno law cells given = tt

pub sound_on : (c : Hashes) (o : Option (List ℕ)) (failed reliable : Type 0) (r : Result (Option Entry) Error) (h : RunHandles) (needle : List ℕ) (seqno : ℕ)
    → ((all : List ℕ) (blocks : List (List Entry)) → IsSound c blocks all h → read_checked c all h needle seqno ≡ Ok (first_match entries needle seqno (joined blocks)))
    → IfSome o (λ all. GivesOr failed reliable (λ x. x) r (read_checked c all h needle seqno))
    → IfSome o (λ all. (blocks : List (List Entry)) → IsSound c blocks all h → IfOk r (λ found. found ≡ first_match entries needle seqno (joined blocks)))
sound_on c None failed reliable r h needle seqno law given = tt
sound_on c (Some all) failed reliable r h needle seqno law given = λ blocks sound.
    given_is failed reliable r (read_checked c all h needle seqno) (first_match entries needle seqno (joined blocks)) (law all blocks sound) given
