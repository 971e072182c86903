-- The entries of a stored table are known where it is a parted table, and are those of its parts.
use Rattle.std.proofs.Common.{◌≡◌, ℕ, zero, suc, ◌<◌, ◌^◌, true, false, Bool, cond, List, [], ◌∷◌, length, drop, map, Option, Some, None, Result, Ok, Err, refl, sym, ap, ◌∙◌, arith, length-drop}
use Rattle.std.proofs.lemmas.List.{length-take-le}
use Rattle.std.specs.Cmp.Derive.{both_true}
use Rattle.std.specs.Prelude.{nat_lt, ◌&&◌}
use Rattle.sstable_blocks.specs.BlockLaws.{length-frame, lt_test, some_is}
use Rattle.sstable_blocks.specs.BlockTypes.{BlockType, Meta}
use Rattle.sstable_blocks.specs.Blocks.{joined}
use Rattle.sstable_blocks.specs.BoundLaws.{plain_ordered}
use Rattle.sstable_blocks.specs.Prelude.{HandleParts, IsBytes, Entry, Handle, demand, is_in_order, plain}
use Rattle.sstable_blocks.specs.Results.{◌>>=◌, Error, BadHandle}
use Rattle.sstable_blocks.specs.Run.{IsFramed}
use Rattle.sstable_blocks.specs.RunReading.{Hashes, IsFramedAt}
use Rattle.sstable_blocks.specs.Scans.{handles_within, within}
use Rattle.sst_sources.specs.Merge.{entry_cmp}
use Rattle.sst_sources.specs.Stored.{all_keys, are_bytes, checked_list, known_reads}
use Rattle.sst_sources.specs.TableReads.{order_passes}
use Rattle.sst_parts.specs.PartChecks.{check_parted, summary_of_parts}
use Rattle.sst_parts.specs.Parts.{IsParted, tops_at}
use Rattle.sst_parts.specs.PartScans.{parts_read}
use Rattle.sst_parts.specs.StoredLaws.{parts_known, passes_parted}
use Rattle.sst_parts.specs.StoredParts.{IsKnownParted, parted_check_of, parted_list}
use Rattle.sst_parts.specs.declared.checking.PartedSummary.{PartedSummary}

-- bytes pass the test of their cells
pub bytes_pass : (bytes : List ℕ) → IsBytes bytes → are_bytes bytes ≡ true
bytes_pass [] h = refl
bytes_pass (b ∷ bytes) h = both_true (lt_test b 256 (h 0)) (bytes_pass bytes (λ i. h (suc i)))

-- the frame of a payload that fits has less than 2 ^ 32 bytes
pub size_fits : (c : Hashes) (bytes : List ℕ) (t : BlockType) (h : HandleParts) (p : List ℕ) → IsFramedAt c t bytes h p → IsFramed p → h.size < 2 ^ 32
size_fits c bytes t h p frame framed =
    let inside = frame.inside in
    let here = length-take-le h.size (drop h.offset bytes) (omega (arith, length-drop h.offset bytes, inside)) in
    let there = ap length frame.whole in
    let long = length-frame c.hash128 t p in
    omega (arith, here, there, long, framed)

-- what is given of entries that are known
pub cond_some : (t : Bool) (xs ys : List Entry) → cond t (Some xs) None ≡ Some ys → xs ≡ ys
cond_some true xs ys e = cc
cond_some false xs ys e = absurd (cc)

-- a list that is known was read, and a check accepted it
pub record IsChecked {S : Type 0} (r : Result S Error) (o : Option (List Entry)) (xs : List Entry) : Type 0 where
  pub summary : S
  pub accepted : r ≡ Ok summary
  pub read : o ≡ Some xs

pub known_checked : {S : Type 0} (r : Result S Error) (o : Option (List Entry)) (xs : List Entry) → checked_list r o ≡ Some xs → IsChecked r o xs
known_checked (Err e) o xs h = absurd (cc)
known_checked (Ok s) None xs h = absurd (cc)
known_checked (Ok s) (Some ys) xs h = record { summary = s; accepted = refl; read = ap Some (cond_some (is_in_order entry_cmp ys) ys xs h) }

module _ (c : Hashes) (top : HandleParts) (tops : List Handle)
    (scanned : (parts : List (List (List Entry))) (bytes : List ℕ) → IsParted c parts bytes top → tops_at c bytes top ≡ Ok tops → parts_read c bytes all_keys (handles_within all_keys tops) ≡ map Ok (within all_keys (map plain (joined (joined parts)))))
  where
    abbrev read_of : List ℕ → Option (List Entry)
    read_of bytes = known_reads (parts_read c bytes all_keys (handles_within all_keys tops))

    -- a parted table has the entries of its parts, as decoded
    pub parted_listed : (parts : List (List (List Entry))) (bytes : List ℕ) → IsBytes bytes → IsParted c parts bytes top → tops_at c bytes top ≡ Ok tops → check_parted c bytes top ≡ Ok (summary_of_parts parts)
        → parted_list c (Some bytes) top tops ≡ Some (map plain (joined (joined parts)))
    parted_listed parts bytes are is at accepted =
        let xs : List Entry = map plain (joined (joined parts)) in
        let fits = size_fits c bytes Meta top is.index.payload is.index.frame is.index.framed in
        let tests : (are_bytes bytes && nat_lt top.size (2 ^ 32)) ≡ true = both_true (bytes_pass bytes are) (lt_test top.size (2 ^ 32) fits) in
        let checked : parted_check_of c bytes top ≡ Ok (summary_of_parts parts) = ap (λ t. demand t BadHandle >>= (λ fits. check_parted c bytes top)) tests ∙ accepted in
        ap (λ r. checked_list r (read_of bytes)) checked
        ∙ ap (checked_list {S = PartedSummary} (Ok (summary_of_parts parts))) (parts_known c top tops scanned parts bytes is at)
        ∙ ap (λ t. cond t (Some xs) None) (order_passes xs (plain_ordered (joined (joined parts)) is.ordered))

    -- and entries that are known are those
    pub listed_parted : (bytes : List ℕ) (xs : List Entry) → ((s : PartedSummary) → IsBytes bytes → top.size < 2 ^ 32 → check_parted c bytes top ≡ Ok s → (parts : List (List (List Entry))) × IsParted c parts bytes top)
        → tops_at c bytes top ≡ Ok tops → parted_list c (Some bytes) top tops ≡ Some xs → IsKnownParted c bytes top xs
    listed_parted bytes xs accepts at e =
        let k = known_checked (parted_check_of c bytes top) (read_of bytes) xs e in
        let t = passes_parted c bytes top k.summary k.accepted in
        let p = accepts k.summary t.cells t.size t.accepted in
        record { parts = p.0; parted = p.1; is = some_is xs (map plain (joined (joined p.0))) (sym k.read ∙ parts_known c top tops scanned p.0 bytes p.1 at) }
