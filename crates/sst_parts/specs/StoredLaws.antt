-- Laws of stored tables, parted or of either kind, as readers.
use Rattle.std.proofs.Common.{◌≡◌, ℕ, ◌<◌, ◌≤◌, ◌^◌, arith, map, List, Option, Some, None, Ok, sym, ap, subst, ◌∙◌}
use Rattle.std.proofs.lemmas.Bool.{ltb-true}
use Rattle.std.specs.Option.{option_map, IfSome}
use Rattle.std.specs.Prelude.{nat_lt, ◌&&◌}
use Rattle.sstable_blocks.specs.BlockLaws.{and_parts, bind_ok, guard_ok}
use Rattle.sstable_blocks.specs.Blocks.{joined}
use Rattle.sstable_blocks.specs.Prelude.{IsBytes, Counted, CountsBetween, Entry, HandleParts, Handle, IsOrdered, demand, entries, first_match, plain}
use Rattle.sstable_blocks.specs.Results.{BadHandle}
use Rattle.sstable_blocks.specs.RunReading.{Hashes}
use Rattle.sstable_blocks.specs.Scans.{handles_within, within}
use Rattle.sst_sources.specs.Stored.{all_keys, are_bytes, checked_list, known_reads}
use Rattle.sst_sources.specs.StoredLaws.{known_all}
use Rattle.sst_sources.specs.TableReads.{bytes_by, checked_by, checked_ordered, table_ordered, within_all}
use Rattle.sst_parts.specs.PartChecks.{check_parted}
use Rattle.sst_parts.specs.Parts.{IsParted, tops_at}
use Rattle.sst_parts.specs.PartScans.{parts_read}
use Rattle.sst_parts.specs.StoredParts.{any_list, parted_check_of, parted_list}
use Rattle.sst_parts.specs.declared.any_table.AnyTable.{AnyTable}
use Rattle.sst_parts.specs.declared.any_table.AnyTable.TheVariants.{Plain, Parted}
use Rattle.sst_parts.specs.declared.checking.PartedSummary.{PartedSummary}

-- the entries of a parted table are in order
pub parted_ordered : (c : Hashes) (b : Option (List ℕ)) (top : HandleParts) (tops : List Handle) → IfSome (parted_list c b top tops) (IsOrdered entries)
parted_ordered c None top tops = tt
parted_ordered c (Some bytes) top tops = checked_ordered (parted_check_of c bytes top) (known_reads (parts_read c bytes all_keys (handles_within all_keys tops)))

-- and those of a table of either kind
pub any_ordered : {H S : Type 0} (c : Hashes) (bytes : S → Option (List ℕ)) (t : AnyTable H S) → IfSome (any_list c bytes t) (IsOrdered entries)
any_ordered c bytes (Plain t) = table_ordered c (bytes t.source) t.handles t.index
any_ordered c bytes (Parted t) = parted_ordered c (bytes t.source) t.top t.tops

-- bytes of which the check of a parted table is asked and that it accepts
pub record PassesParted (c : Hashes) (bytes : List ℕ) (top : HandleParts) (summary : PartedSummary) : Type 0 where
  pub cells : IsBytes bytes
  pub size : top.size < 2 ^ 32
  pub accepted : check_parted c bytes top ≡ Ok summary

pub passes_parted : (c : Hashes) (bytes : List ℕ) (top : HandleParts) (summary : PartedSummary) → parted_check_of c bytes top ≡ Ok summary → PassesParted c bytes top summary
passes_parted c bytes top summary e =
    let k = bind_ok (demand (are_bytes bytes && nat_lt top.size (2 ^ 32)) BadHandle) (λ fits. check_parted c bytes top) summary e in
    let test = guard_ok (are_bytes bytes && nat_lt top.size (2 ^ 32)) tt k.0 BadHandle k.1 in
    let t = and_parts (are_bytes bytes) (nat_lt top.size (2 ^ 32)) test.0 in
    record { cells = bytes_by bytes t.0; size = ltb-true top.size (2 ^ 32) t.1; accepted = k.2 }

module _ (c : Hashes) (top : HandleParts) (tops : List Handle)
    (scanned : (parts : List (List (List Entry))) (bytes : List ℕ) → IsParted c parts bytes top → tops_at c bytes top ≡ Ok tops → parts_read c bytes all_keys (handles_within all_keys tops) ≡ map Ok (within all_keys (map plain (joined (joined parts)))))
  where
    -- what is read of a parted table are the entries of its parts, as decoded
    pub parts_known : (parts : List (List (List Entry))) (bytes : List ℕ) → IsParted c parts bytes top → tops_at c bytes top ≡ Ok tops
        → known_reads (parts_read c bytes all_keys (handles_within all_keys tops)) ≡ Some (map plain (joined (joined parts)))
    parts_known parts bytes is at =
        let xs : List Entry = map plain (joined (joined parts)) in
        ap known_reads (scanned parts bytes is at) ∙ known_all (within all_keys xs) ∙ ap Some (within_all xs)

    module _ (needle : List ℕ) (s : ℕ) (P : Option Entry → Type 0)
        (accepted : (bytes : List ℕ) (summary : PartedSummary) → IsBytes bytes → top.size < 2 ^ 32 → check_parted c bytes top ≡ Ok summary → (parts : List (List (List Entry))) × IsParted c parts bytes top)
        (plains : (items : List Entry) → first_match entries needle s (map plain items) ≡ first_match entries needle s items)
      where
        known_found : (bytes : List ℕ) (summary : PartedSummary) → tops_at c bytes top ≡ Ok tops → ((parts : List (List (List Entry))) → IsParted c parts bytes top → P (first_match entries needle s (joined (joined parts)))) → parted_check_of c bytes top ≡ Ok summary
            → IfSome (known_reads (parts_read c bytes all_keys (handles_within all_keys tops))) (λ all. P (first_match entries needle s all))
        known_found bytes summary at found e =
            let k = passes_parted c bytes top summary e in
            let is = accepted bytes summary k.cells k.size k.accepted in
            subst (λ o. IfSome o (λ all. P (first_match entries needle s all))) (sym (parts_known is.0 bytes is.1 at)) (subst P (sym (plains (joined (joined is.0)))) (found is.0 is.1))

        -- what holds of the first match of the parts holds of that of the table's entries
        pub parted_found : (b : Option (List ℕ)) → IfSome b (λ all. tops_at c all top ≡ Ok tops) → IfSome b (λ all. (parts : List (List (List Entry))) → IsParted c parts all top → P (first_match entries needle s (joined (joined parts))))
            → IfSome (parted_list c b top tops) (λ all. P (first_match entries needle s all))
        parted_found None at found = tt
        parted_found (Some bytes) at found = checked_by (λ all. P (first_match entries needle s all)) (parted_check_of c bytes top) (known_reads (parts_read c bytes all_keys (handles_within all_keys tops))) (λ summary e. known_found bytes summary at found e)

-- what counts at least something counts at least nothing
pub counts_from_none : (o : Option (List ℕ)) (old new : Counted) (least : ℕ × ℕ) (most : List ℕ → ℕ × ℕ) → IfSome o (λ all. CountsBetween old new least (most all)) → IfSome (option_map most o) (CountsBetween old new (0, 0))
counts_from_none None old new least most h = tt
counts_from_none (Some all) old new least most h = record {
  heads_least = (let some = h.heads_least in omega (arith, some));
  heads_most = h.heads_most;
  entries_least = (let some = h.entries_least in omega (arith, some));
  entries_most = h.entries_most;
}
