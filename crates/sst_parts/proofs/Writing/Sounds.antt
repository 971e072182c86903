-- What a read returns of a partitioned table.
use Rattle.std.proofs.Common.{◌≡◌, ℕ, List, sym, ◌∙◌, Option, Some, None, IfSome, Result, Ok, Err}
use Rattle.sstable_blocks.specs.Prelude.{HandleParts, Entry, entries, first_match, Handle, handles}
use Rattle.sstable_blocks.specs.Results.{Error}
use Rattle.sst_parts.specs.Parts.{FindsInParts, IsParted, read_by_top, tops_at}
use Rattle.sstable_blocks.specs.Blocks.{joined}
use Rattle.sstable_blocks.specs.Lookup.{handle_for}
use Rattle.sstable_blocks.specs.RunReading.{Hashes}
use Rattle.sstable_blocks.specs.Sources.{GivesOr}

same_ok : (x y : Option Entry) → ◌≡◌ {A = Result (Option Entry) Error} (Ok x) (Ok y) → x ≡ y
same_ok x y e = cc

pub sound_on : (c : Hashes) (o : Option (List ℕ)) (P R : Type 0) (r : Result (Option Entry) Error) (top : HandleParts) (tops : List Handle) (needle : List ℕ) (seqno : ℕ) (read : List ℕ → Result (Option Entry) Error)
    → ((all : List ℕ) (parts : List (List (List Entry))) → IsParted c parts all top → tops_at c all top ≡ Ok tops → read all ≡ Ok (first_match entries needle seqno (joined (joined parts))))
    → IfSome o (λ all. tops_at c all top ≡ Ok tops)
    → IfSome o (λ all. GivesOr P R (λ x. x) r (read all))
    → IfSome o (FindsInParts c top needle seqno r)
sound_on c None P R r top tops needle seqno read law kept given = tt
sound_on c (Some all) P R (Ok x) top tops needle seqno read law kept given = λ parts sound. same_ok x (first_match entries needle seqno (joined (joined parts))) (sym given ∙ law all parts sound kept)
sound_on c (Some all) P R (Err e) top tops needle seqno read law kept given = λ parts sound. tt
