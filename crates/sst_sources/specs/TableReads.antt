-- Laws of tables as readers.
use Rattle.std.proofs.Common.{◌≡◌, ℕ, zero, suc, ◌<◌, ◌^◌, arith, map, Bool, true, false, not, cond, List, [], ◌∷◌, Option, Some, None, Result, Ok, Err, refl, sym, ap, subst, ◌∙◌}
use Rattle.std.proofs.lemmas.Bool.{ltb-true}
use Rattle.std.specs.Cmp.Derive.{both_true}
use Rattle.std.specs.Option.{option_map, IfSome}
use Rattle.std.specs.Ordering.{is_lt}
use Rattle.std.specs.List.{AllByRecursion}
use Rattle.std.specs.Prelude.{nat_lt, ◌&&◌}
use Rattle.sstable_blocks.specs.Prelude.{IsBytes, Entry, plain, is_in_order, entries, IsOrdered, first_match, HandleParts, Handle}
use Rattle.sstable_blocks.specs.Results.{Error, BadHandle}
use Rattle.sstable_blocks.specs.BlockLaws.{and_parts, is_not_lt, not_true, not_lt}
use Rattle.sstable_blocks.specs.Blocks.{joined}
use Rattle.sstable_blocks.specs.RunChecks.{check_run}
use Rattle.sstable_blocks.specs.RunReading.{Hashes, handles_at}
use Rattle.sstable_blocks.specs.Scans.{blocks_read, handles_within, in_range, within}
use Rattle.sstable_blocks.specs.Sound.{IsSound}
use Rattle.sstable_blocks.specs.declared.run.RunHandles.{RunHandles}
use Rattle.sstable_blocks.specs.declared.run.checking.RunSummary.{RunSummary}
use Rattle.sst_sources.specs.Merge.{entry_cmp}
use Rattle.sst_sources.specs.RangeLaws.{filter_all}
use Rattle.sst_sources.specs.Stored.{all_keys, are_bytes, check_of, checked_list, filter_fits, known_reads, table_list}
use Rattle.sst_sources.specs.StoredLaws.{known_all}

-- entries are in order exactly where they pass the test of their order
pub order_passes : (xs : List Entry) → IsOrdered entries xs → is_in_order entry_cmp xs ≡ true
order_passes [] up = refl
order_passes (x ∷ []) up = refl
order_passes (x ∷ y ∷ xs) up = both_true (ap not (is_not_lt (entry_cmp y x) up.0)) (order_passes (y ∷ xs) up.1)

pub passes_ordered : (xs : List Entry) → is_in_order entry_cmp xs ≡ true → IsOrdered entries xs
passes_ordered [] h = tt
passes_ordered (x ∷ []) h = tt
passes_ordered (x ∷ y ∷ xs) h =
    let k = and_parts (not (is_lt (entry_cmp y x))) (is_in_order entry_cmp (y ∷ xs)) h in
    (not_lt (entry_cmp y x) (not_true (is_lt (entry_cmp y x)) k.0), passes_ordered (y ∷ xs) k.1)

-- what holds of entries where they are in order
if_any : (P : List Entry → Type 0) (xs : List Entry) (t : Bool) → is_in_order entry_cmp xs ≡ t → (is_in_order entry_cmp xs ≡ true → P xs) → IfSome (cond t (Some xs) None) P
if_any P xs true e h = h e
if_any P xs false e h = tt

pub checked_ordered : {S : Type 0} (r : Result S Error) (o : Option (List Entry)) → IfSome (checked_list r o) (IsOrdered entries)
checked_ordered (Err e) o = tt
checked_ordered (Ok s) None = tt
checked_ordered (Ok s) (Some xs) = if_any (IsOrdered entries) xs (is_in_order entry_cmp xs) refl (passes_ordered xs)

-- what holds of what is read where a check accepted all
pub checked_by : {S : Type 0} (P : List Entry → Type 0) (r : Result S Error) (o : Option (List Entry)) → ((s : S) → r ≡ Ok s → IfSome o P) → IfSome (checked_list r o) P
checked_by P (Err e) o h = tt
checked_by P (Ok s) None h = tt
checked_by P (Ok s) (Some xs) h = if_any P xs (is_in_order entry_cmp xs) refl (λ t. h s refl)

-- of a number of a known list, what holds of the number holds of the list's
pub mapped : {A B : Type 0} (f : A → B) (P : B → Type 0) (o : Option A) → IfSome o (λ a. P (f a)) → IfSome (option_map f o) P
mapped f P None h = tt
mapped f P (Some a) h = h

pub bytes_by : (bytes : List ℕ) → are_bytes bytes ≡ true → IsBytes bytes
bytes_by [] h i = omega arith
bytes_by (b ∷ bytes) h zero = ltb-true b 256 (and_parts (nat_lt b 256) (are_bytes bytes) h).0
bytes_by (b ∷ bytes) h (suc i) = bytes_by bytes (and_parts (nat_lt b 256) (are_bytes bytes) h).1 i

pub fits_by : (o : Option HandleParts) → filter_fits o ≡ true → IfSome o (λ g. g.size < 2 ^ 32)
fits_by None h = tt
fits_by (Some g) h = ltb-true g.size (2 ^ 32) h

cond_ok : {A : Type 0} (t : Bool) (r : Result A Error) (e : Error) (a : A) → cond t r (Err e) ≡ Ok a → (t ≡ true) × (r ≡ Ok a)
cond_ok true r e a h = (refl, h)
cond_ok false r e a h = absurd (cc)

pub all_pass : (xs : List Entry) → AllByRecursion (λ (x : Entry). in_range all_keys x.key.user_key ≡ true) xs
all_pass [] = tt
all_pass (x ∷ xs) = (refl, all_pass xs)

pub within_all : (xs : List Entry) → within all_keys xs ≡ xs
unfolding within
within_all xs = filter_all (λ (x : Entry). in_range all_keys x.key.user_key) xs (all_pass xs)

module _ (c : Hashes) (h : RunHandles) (index : List Handle) (needle : List ℕ) (s : ℕ) (P : Option Entry → Type 0)
    (accepted : (bytes : List ℕ) (summary : RunSummary) → IsBytes bytes → h.index.size < 2 ^ 32 → IfSome h.filter (λ g. g.size < 2 ^ 32) → check_run c bytes h ≡ Ok summary → (blocks : List (List Entry)) × IsSound c blocks bytes h)
    (scanned : (blocks : List (List Entry)) (bytes : List ℕ) → IsSound c blocks bytes h → handles_at c bytes h.index ≡ Ok index → blocks_read c bytes all_keys (handles_within all_keys index) ≡ map Ok (within all_keys (map plain (joined blocks))))
    (plains : (items : List Entry) → first_match entries needle s (map plain items) ≡ first_match entries needle s items)
  where
    known_found : (bytes : List ℕ) (summary : RunSummary) → handles_at c bytes h.index ≡ Ok index → ((blocks : List (List Entry)) → IsSound c blocks bytes h → P (first_match entries needle s (joined blocks))) → check_of c bytes h ≡ Ok summary
        → IfSome (known_reads (blocks_read c bytes all_keys (handles_within all_keys index))) (λ all. P (first_match entries needle s all))
    known_found bytes summary at found e =
        let k = cond_ok (are_bytes bytes && (nat_lt h.index.size (2 ^ 32) && filter_fits h.filter)) (check_run c bytes h) BadHandle summary e in
        let t = and_parts (are_bytes bytes) (nat_lt h.index.size (2 ^ 32) && filter_fits h.filter) k.0 in
        let u = and_parts (nat_lt h.index.size (2 ^ 32)) (filter_fits h.filter) t.1 in
        let sound = accepted bytes summary (bytes_by bytes t.0) (ltb-true h.index.size (2 ^ 32) u.0) (fits_by h.filter u.1) k.1 in
        let xs : List Entry = within all_keys (map plain (joined sound.0)) in
        let is : known_reads (blocks_read c bytes all_keys (handles_within all_keys index)) ≡ Some xs = ap known_reads (scanned sound.0 bytes sound.1 at) ∙ known_all xs in
        let same : first_match entries needle s xs ≡ first_match entries needle s (joined sound.0) = ap (first_match entries needle s) (within_all (map plain (joined sound.0))) ∙ plains (joined sound.0) in
        subst (λ o. IfSome o (λ all. P (first_match entries needle s all))) (sym is) (subst P (sym same) (found sound.0 sound.1))

    -- what holds of the first match of the blocks holds of that of the table's entries
    pub table_found : (b : Option (List ℕ)) → IfSome b (λ all. handles_at c all h.index ≡ Ok index) → IfSome b (λ all. (blocks : List (List Entry)) → IsSound c blocks all h → P (first_match entries needle s (joined blocks)))
        → IfSome (table_list c b h index) (λ all. P (first_match entries needle s all))
    table_found None at found = tt
    table_found (Some bytes) at found = checked_by (λ all. P (first_match entries needle s all)) (check_of c bytes h) (known_reads (blocks_read c bytes all_keys (handles_within all_keys index))) (λ summary e. known_found bytes summary at found e)

-- the entries of a table are in order
pub table_ordered : (c : Hashes) (b : Option (List ℕ)) (h : RunHandles) (index : List Handle) → IfSome (table_list c b h index) (IsOrdered entries)
table_ordered c None h index = tt
table_ordered c (Some bytes) h index = checked_ordered (check_of c bytes h) (known_reads (blocks_read c bytes all_keys (handles_within all_keys index)))
