-- Tables over sound runs: their entries are known, and known entries are those of a sound run.
use Rattle.std.proofs.Common.{◌≡◌, ℕ, zero, suc, ◌<◌, ◌^◌, Bool, true, false, cond, List, [], ◌∷◌, length, map, get_or, Option, Some, None, Result, Ok, Err, refl, sym, ap, subst, ◌∙◌, arith}
use Rattle.std.proofs.lemmas.Bool.{ltb-true}
use Rattle.std.proofs.lemmas.List.{get_or-map, length-map}
use Rattle.std.specs.Cmp.Derive.{both_true}
use Rattle.std.specs.Option.{option_map, is_some, IfSome}
use Rattle.std.specs.Prelude.{nat_lt, ◌&&◌}
use Rattle.xxh3.specs.Xxh3Laws.{xxh3_128-below}
use Rattle.sstable_blocks.specs.Prelude.{HandleParts, IsBytes, Entry, plain, Handle}
use Rattle.sstable_blocks.specs.BlockLaws.{and_parts, lt_test, some_is}
use Rattle.sstable_blocks.specs.Results.{◌>>=◌, Error, BadHandle}
use Rattle.sstable_blocks.specs.BlockTypes as types
use Rattle.sst_sources.specs.Merge.{entry_cmp, merged}
use Rattle.sstable_blocks.specs.BoundLaws.{plain_ordered}
use Rattle.sst_sources.specs.Sources.{all_known}
use Rattle.sst_sources.specs.Stored.{all_keys, are_bytes, check_of, checked_list, filter_fits, known_reads, table_list}
use Rattle.sst_sources.specs.StoredLaws.{known_all}
use Rattle.sst_parts.specs.AnyTables.{AnyKept, HasEntries, any_by_handles, any_by_kind, index_at, index_of, is_parted_at, kept_in, source_in}
use Rattle.sst_parts.specs.AnyTables.{plain as plain_kept, parted as parted_kept}
use Rattle.sst_parts.specs.KnownLaws.{bytes_pass, known_checked, size_fits}
use Rattle.sst_parts.specs.Parts.{IsParted, tops_at}
use Rattle.sst_parts.specs.StoredParts.{IsKnownParted, parted_list}
use Rattle.sst_parts.specs.declared.any_table.AnyTable.TheVariants.{Plain, Parted}
use Rattle.sstable_blocks.specs.Tables.{kept_of}
use Rattle.sst_examples.specs.Tables.{MemoryTable, merged_tables, table_entries, table_hashes}
use Rattle.sstable_blocks.specs.Blocks.{joined}
use Rattle.sstable_blocks.specs.RunChecks.{check_run, summary_of}
use Rattle.sstable_blocks.specs.RunReading.{Hashes, handles_at}
use Rattle.sstable_blocks.specs.Scans.{KeyRange, blocks_read, handles_within, within}
use Rattle.sstable_blocks.specs.Sound.{IsSound, IsStoredFilter}
use Rattle.sstable_blocks.specs.declared.run.RunHandles.{RunHandles}
use Rattle.sstable_blocks.specs.declared.run.checking.RunSummary.{RunSummary}
use Rattle.sst_sources.specs.TableReads.{bytes_by, fits_by, order_passes, within_all}

module _ (c : Hashes) (bytes : List ℕ) where
  filter_passes : (items : List Entry) (o : Option HandleParts) → IfSome o (IsStoredFilter c bytes items) → filter_fits o ≡ true
  filter_passes items None h = refl
  filter_passes items (Some g) h = lt_test g.size (2 ^ 32) (size_fits c bytes types.Filter g h.payload h.frame h.framed)

  module _ (h : RunHandles) where
    tests_pass : (blocks : List (List Entry)) → IsBytes bytes → IsSound c blocks bytes h → (are_bytes bytes && (nat_lt h.index.size (2 ^ 32) && filter_fits h.filter)) ≡ true
    tests_pass blocks are sound =
        both_true (bytes_pass bytes are)
        (both_true (lt_test h.index.size (2 ^ 32) (size_fits c bytes types.Index h.index sound.index.payload sound.index.frame sound.index.framed))
        (filter_passes (joined blocks) h.filter sound.filter))

    module _ (index : List Handle) where
      -- what a scan of the table reads
      abbrev scan_read : Option (List Entry)
      scan_read = known_reads (blocks_read c bytes all_keys (handles_within all_keys index))

      -- a table that was opened over a sound run has the entries of its blocks, as decoded
      pub sound_listed : (blocks : List (List Entry)) (s : RunSummary) → IsBytes bytes → IsSound c blocks bytes h → check_run c bytes h ≡ Ok s
          → blocks_read c bytes all_keys (handles_within all_keys index) ≡ map Ok (within all_keys (map plain (joined blocks)))
          → table_list c (Some bytes) h index ≡ Some (map plain (joined blocks))
      sound_listed blocks s are sound accepted read =
          let xs : List Entry = map plain (joined blocks) in
          let known : scan_read ≡ Some xs = ap known_reads read ∙ known_all (within all_keys xs) ∙ ap Some (within_all xs) in
          let checked : check_of c bytes h ≡ Ok s = ap (λ t. cond t (check_run c bytes h) (Err BadHandle)) (tests_pass blocks are sound) ∙ accepted in
          ap (λ r. checked_list r scan_read) checked ∙ ap (checked_list (Ok s)) known ∙ ap (λ t. cond t (Some xs) None) (order_passes xs (plain_ordered (joined blocks) sound.ordered))

      -- entries that are known are those of a sound run
      pub record IsKnownRun (xs : List Entry) : Type 0 where
        pub blocks : List (List Entry)
        pub sound : IsSound c blocks bytes h
        pub is : xs ≡ map plain (joined blocks)

      cond_ok : (t : Bool) (r : Result RunSummary Error) (s : RunSummary) → cond t r (Err BadHandle) ≡ Ok s → (t ≡ true) × (r ≡ Ok s)
      cond_ok true r s e = (refl, e)
      cond_ok false r s e = absurd (cc)

      pub listed_sound : (xs : List Entry)
          → ((s : RunSummary) → IsBytes bytes → h.index.size < 2 ^ 32 → IfSome h.filter (λ g. g.size < 2 ^ 32) → check_run c bytes h ≡ Ok s → (blocks : List (List Entry)) × IsSound c blocks bytes h)
          → ((blocks : List (List Entry)) → IsSound c blocks bytes h → blocks_read c bytes all_keys (handles_within all_keys index) ≡ map Ok (within all_keys (map plain (joined blocks))))
          → table_list c (Some bytes) h index ≡ Some xs → IsKnownRun xs
      listed_sound xs accepts scanned e =
          let k = known_checked (check_of c bytes h) scan_read xs e in
          let l = cond_ok (are_bytes bytes && (nat_lt h.index.size (2 ^ 32) && filter_fits h.filter)) (check_run c bytes h) k.summary k.accepted in
          let t = and_parts (are_bytes bytes) (nat_lt h.index.size (2 ^ 32) && filter_fits h.filter) l.0 in
          let u = and_parts (nat_lt h.index.size (2 ^ 32)) (filter_fits h.filter) t.1 in
          let run = accepts k.summary (bytes_by bytes t.0) (ltb-true h.index.size (2 ^ 32) u.0) (fits_by h.filter u.1) l.1 in
          let ys : List Entry = map plain (joined run.0) in
          record {
            blocks = run.0;
            sound = run.1;
            is = some_is xs ys (sym k.read ∙ ap known_reads (scanned run.0 run.1) ∙ known_all (within all_keys ys) ∙ ap Some (within_all ys));
          }

-- entries of a list that is known
pub some_known : {X : Type 0} (o : Option X) → is_some o ≡ true → (x : X) × (o ≡ Some x)
some_known None h = absurd (cc)
some_known (Some x) h = (x, refl)

-- a table whose entries are known, and what its bytes have
pub record HasKnown (t : MemoryTable) : Type 0 where
  pub items : List Entry
  pub has : HasEntries table_hashes t (source_in t).inner items
  pub is : table_entries t ≡ Some (map plain items)

pub known_has : (t : MemoryTable) → index_at table_hashes (source_in t).inner t ≡ Ok (index_of t) → is_some (table_entries t) ≡ true
    → ((c : Hashes) (bytes : List ℕ) (h : RunHandles) (s : RunSummary) → IsBytes bytes → h.index.size < 2 ^ 32 → IfSome h.filter (λ g. g.size < 2 ^ 32) → check_run c bytes h ≡ Ok s → (blocks : List (List Entry)) × IsSound c blocks bytes h × (s ≡ summary_of blocks))
    → ((c : Hashes) (blocks : List (List Entry)) (bytes : List ℕ) (h : RunHandles) (r : KeyRange) (hs : List Handle) → ((xs : List ℕ) → c.hash128 xs < 2 ^ 128) → IsSound c blocks bytes h → handles_at c bytes h.index ≡ Ok hs → blocks_read c bytes r (handles_within r hs) ≡ map Ok (within r (map plain (joined blocks))))
    → ((c : Hashes) (bytes : List ℕ) (top : HandleParts) (tops : List Handle) (xs : List Entry) → ((ys : List ℕ) → c.hash128 ys < 2 ^ 128) → tops_at c bytes top ≡ Ok tops → parted_list c (Some bytes) top tops ≡ Some xs → IsKnownParted c bytes top xs)
    → HasKnown t
unfolding table_entries
known_has (Plain t) at some accepts scanned parted =
    let known = some_known (table_list table_hashes (Some t.source.inner) t.handles t.index) some in
    let run = listed_sound table_hashes t.source.inner t.handles t.index known.0
    (λ s are index filter e. (let k = accepts table_hashes t.source.inner t.handles s are index filter e in (k.0, k.1)))
    (λ blocks sound. scanned table_hashes blocks t.source.inner t.handles all_keys t.index xxh3_128-below sound at) known.1 in
    record { items = joined run.blocks; has = (run.blocks, run.sound, refl); is = known.1 ∙ ap Some run.is }
known_has (Parted t) at some accepts scanned parted =
    let known = some_known (parted_list table_hashes (Some t.source.inner) t.top t.tops) some in
    let k = parted table_hashes t.source.inner t.top t.tops known.0 xxh3_128-below at known.1 in
    record { items = joined (joined k.parts); has = (k.parts, k.parted, refl); is = known.1 ∙ ap Some k.is }

-- what is kept of a plain table is that of its handles, and of a parted one that of the handle of its index
module _ (h : RunHandles) where
  not_parted : (r : Result (Option (List ℕ) × List Handle) Error) (x : HandleParts × List Handle) → ◌≡◌ {A = Result AnyKept Error} (r >>= (λ (k : Option (List ℕ) × List Handle). Ok (plain_kept (h, k.0, k.1)))) (Ok (parted_kept x)) → ⊥
  not_parted (Ok k) x e = cc
  not_parted (Err error) x e = cc

  same_handles : (r : Result (Option (List ℕ) × List Handle) Error) (x : RunHandles × Option (List ℕ) × List Handle) → ◌≡◌ {A = Result AnyKept Error} (r >>= (λ (k : Option (List ℕ) × List Handle). Ok (plain_kept (h, k.0, k.1)))) (Ok (plain_kept x)) → x.0 ≡ h
  same_handles (Ok k) x e = cc
  same_handles (Err error) x e = absurd (cc)

module _ (top : HandleParts) where
  not_plain : (r : Result (List Handle) Error) (x : RunHandles × Option (List ℕ) × List Handle) → ◌≡◌ {A = Result AnyKept Error} (r >>= (λ (hs : List Handle). Ok (parted_kept (top, hs)))) (Ok (plain_kept x)) → ⊥
  not_plain (Ok hs) x e = cc
  not_plain (Err error) x e = cc

  same_top : (r : Result (List Handle) Error) (x : HandleParts × List Handle) → ◌≡◌ {A = Result AnyKept Error} (r >>= (λ (hs : List Handle). Ok (parted_kept (top, hs)))) (Ok (parted_kept x)) → x.0 ≡ top
  same_top (Ok hs) x e = cc
  same_top (Err error) x e = absurd (cc)

module _ (bytes : List ℕ) (h : RunHandles) (are : IsBytes bytes) where
  -- a table that was opened over a sound run
  pub plain_opened : (t : MemoryTable) (blocks : List (List Entry)) → any_by_handles table_hashes bytes h ≡ Ok (kept_in t) → is_parted_at table_hashes bytes h.index ≡ Ok false → index_at table_hashes (source_in t).inner t ≡ Ok (index_of t) → (source_in t).inner ≡ bytes
      → ((c : Hashes) (blocks : List (List Entry)) (bytes : List ℕ) (h : RunHandles) (index : List Handle) → ((xs : List ℕ) → c.hash128 xs < 2 ^ 128) → IsBytes bytes → IsSound c blocks bytes h → handles_at c bytes h.index ≡ Ok index → table_list c (Some bytes) h index ≡ Some (map plain (joined blocks)))
      → IsSound table_hashes blocks bytes h → table_entries t ≡ Some (map plain (joined blocks))
  unfolding table_entries
  plain_opened (Parted t) blocks opened kind at same law sound =
      absurd (not_parted h (kept_of table_hashes bytes h) (t.top, t.tops) (sym (ap (λ r. r >>= any_by_kind table_hashes bytes h) kind) ∙ opened))
  plain_opened (Plain t) blocks opened kind at same law sound =
      let handles : t.handles ≡ h = same_handles h (kept_of table_hashes bytes h) (t.handles, t.filter, t.index) (sym (ap (λ r. r >>= any_by_kind table_hashes bytes h) kind) ∙ opened) in
      law table_hashes blocks t.source.inner t.handles t.index xxh3_128-below (subst IsBytes (sym same) are)
      (subst (λ bs. IsSound table_hashes blocks bs t.handles) (sym same) (subst (IsSound table_hashes blocks bytes) (sym handles) sound)) at

  -- and one over a parted table
  pub parted_opened : (t : MemoryTable) (parts : List (List (List Entry))) → any_by_handles table_hashes bytes h ≡ Ok (kept_in t) → is_parted_at table_hashes bytes h.index ≡ Ok true → index_at table_hashes (source_in t).inner t ≡ Ok (index_of t) → (source_in t).inner ≡ bytes
      → ((c : Hashes) (parts : List (List (List Entry))) (bytes : List ℕ) (top : HandleParts) (tops : List Handle) → ((xs : List ℕ) → c.hash128 xs < 2 ^ 128) → IsBytes bytes → IsParted c parts bytes top → tops_at c bytes top ≡ Ok tops → parted_list c (Some bytes) top tops ≡ Some (map plain (joined (joined parts))))
      → IsParted table_hashes parts bytes h.index → table_entries t ≡ Some (map plain (joined (joined parts)))
  unfolding table_entries
  parted_opened (Plain t) parts opened kind at same law parted =
      absurd (not_plain h.index (tops_at table_hashes bytes h.index) (t.handles, t.filter, t.index) (sym (ap (λ r. r >>= any_by_kind table_hashes bytes h) kind) ∙ opened))
  parted_opened (Parted t) parts opened kind at same law parted =
      let top : t.top ≡ h.index = same_top h.index (tops_at table_hashes bytes h.index) (t.top, t.tops) (sym (ap (λ r. r >>= any_by_kind table_hashes bytes h) kind) ∙ opened) in
      law table_hashes parts t.source.inner t.top t.tops xxh3_128-below (subst IsBytes (sym same) are)
      (subst (λ bs. IsParted table_hashes parts bs t.top) (sym same) (subst (IsParted table_hashes parts bytes) (sym top) parted)) at

module _ {X : Type 0} where
  some_rest : (x : X) (o : Option (List X)) → is_some (option_map (λ rest. x ∷ rest) o) ≡ true → is_some o ≡ true
  some_rest x None h = h
  some_rest x (Some xs) h = refl

  known_each : (os : List (Option X)) (i : ℕ) (d : Option X) → is_some (all_known os) ≡ true → i < length os → is_some (get_or os i d) ≡ true
  known_each [] i d h inside = absurd (omega arith)
  known_each (None ∷ os) i d h inside = absurd (cc)
  known_each (Some x ∷ os) zero d h inside = refl
  known_each (Some x ∷ os) (suc i) d h inside = known_each os i d (some_rest x (all_known os) h) (omega arith)

some_mapped : {X Y : Type 0} (f : X → Y) (o : Option X) → is_some (option_map f o) ≡ true → is_some o ≡ true
some_mapped f None h = h
some_mapped f (Some x) h = refl

-- where the merge of tables is known, the entries of each are
pub each_known : (tables : List MemoryTable) (i : ℕ) (t : MemoryTable) → is_some (merged_tables tables) ≡ true → i < length tables → t ≡ get_or tables i t → is_some (table_entries t) ≡ true
each_known tables i t h inside is =
    let n = length-map tables table_entries in
    let some : is_some (all_known (map table_entries tables)) ≡ true = some_mapped (merged entry_cmp) (all_known (map table_entries tables)) h in
    ap (λ u. is_some (table_entries u)) is ∙ ap is_some (sym (get_or-map table_entries tables i t (table_entries t) inside)) ∙ known_each (map table_entries tables) i (table_entries t) some (omega (arith, n, inside))
