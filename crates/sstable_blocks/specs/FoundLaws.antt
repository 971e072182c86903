-- Reads of the block that what was kept leads to.
use Rattle.std.proofs.Common.{◌≡◌, ℕ, ◌+◌, ◌<◌, ◌≤◌, Bool, true, false, List, length, refl, arith, sym, ◌∙◌, ap, subst, if◌then◌else◌, Option, Some, None, IfSome, Result, Ok, Err}
use Rattle.std.specs.Prelude.{is_none}
use Rattle.std.specs.Option.{option_map}
use Rattle.sst_base.specs.BlockHandle.{HandleParts}
use Rattle.sst_base.specs.Counted.{Counted, CountsBetween, found_item}
use Rattle.sst_base.specs.Entry.{Entry}
use Rattle.sst_base.specs.Header.{◌>>=◌}
use Rattle.sst_base.specs.declared.error.Error.{Error}
use Rattle.sst_block_core.specs.Handles.{Handle, handles}
use Rattle.sst_block_core.specs.Intervals.{digits}
use Rattle.sstable_blocks.specs.Lookup.{handle_for}
use Rattle.sstable_blocks.specs.Opened.{range_of}
use Rattle.sstable_blocks.specs.ReadCosts.{CountsGrow, entries_at, find_cost, heads_at, most_by}
use Rattle.sstable_blocks.specs.RunReading.{Hashes, read_block}
use Rattle.sstable_blocks.specs.Sources.{GivesOr}
use Rattle.sstable_blocks.specs.Tables.{LooksBy, found_block, frames_by, kept_says, read_kept}

module _ (hash64 : List ℕ → ℕ) (filter : Option (List ℕ)) (hs : List Handle) (needle : List ℕ) (seqno : ℕ) where
  abbrev handle : Option Handle
  handle = handle_for handles needle seqno hs

  abbrev by : Result Bool Error → Result (Option HandleParts) Error
  by r = r >>= (λ (may : Bool). Ok (if may then option_map range_of handle else None))

  found_some : (x : Option HandleParts) (h : Option Handle) → x ≡ option_map range_of h → found_item x ≡ found_item h
  found_some x None is = ap found_item is
  found_some x (Some h) is = ap found_item is

  -- as many frames are asked for as there are blocks
  frames_are : (r : Result Bool Error) (x : Option HandleParts) → Ok x ≡ by r → found_item x ≡ frames_by r handle
  frames_are (Ok true) x is = found_some x handle (let k : ◌≡◌ {A = Result (Option HandleParts) Error} (Ok x) (Ok (option_map range_of handle)) = is in cc)
  frames_are (Ok false) x is = (let k : ◌≡◌ {A = Result (Option HandleParts) Error} (Ok x) (Ok None) = is in let none : x ≡ None = cc in ap found_item none)
  frames_are (Err e) x is = absurd (let k : ◌≡◌ {A = Result (Option HandleParts) Error} (Ok x) (Err e) = is in cc)

  pub found_frames : (x : Option HandleParts) → Ok x ≡ found_block hash64 filter hs needle seqno → found_item x ≡ frames_by (kept_says hash64 filter needle) handle
  found_frames = frames_are (kept_says hash64 filter needle)

  looks_by : (r : Result Bool Error) (x : Option HandleParts) (s t u : Counted) → Ok x ≡ by r → is_none x ≡ false → LooksBy r s t → CountsGrow t u → LooksBy r s u
  looks_by (Ok true) x s t u is some looked grows = omega (arith, looked, grows.heads)
  looks_by (Ok false) x s t u is some looked grows = absurd (let k : ◌≡◌ {A = Result (Option HandleParts) Error} (Ok x) (Ok None) = is in (let none : x ≡ None = cc in let n : is_none x ≡ true = ap is_none none in cc))
  looks_by (Err e) x s t u is some looked grows = absurd (let k : ◌≡◌ {A = Result (Option HandleParts) Error} (Ok x) (Err e) = is in cc)

  -- what was looked at before the block is read
  pub found_looks : (x : Option HandleParts) (s t u : Counted) → Ok x ≡ found_block hash64 filter hs needle seqno → is_none x ≡ false → LooksBy (kept_says hash64 filter needle) s t → CountsGrow t u → LooksBy (kept_says hash64 filter needle) s u
  found_looks = looks_by (kept_says hash64 filter needle)

module _ (c : Hashes) (filter : Option (List ℕ)) (hs : List Handle) (needle : List ℕ) (seqno : ℕ) where
  abbrev via : Result Bool Error → Result (Option HandleParts) Error
  via r = r >>= (λ (may : Bool). Ok (if may then option_map range_of (handle_for handles needle seqno hs) else None))

  abbrev read_via : List ℕ → Result Bool Error → Result (Option Entry) Error
  read_via all r = r >>= (λ (may : Bool). if may then read_block c all (handle_for handles needle seqno hs) needle seqno else Ok None)

  -- the handle of the block, where there is one
  of_handle : (r : Result Bool Error) (x : Option HandleParts) → Ok x ≡ via r → (h : Option Handle) × (x ≡ option_map range_of h) × ((all : List ℕ) → read_via all r ≡ read_block c all h needle seqno)
      × ((all : List ℕ) → (digits (heads_at all h) ≤ digits (heads_at all (handle_for handles needle seqno hs))) × (entries_at all h ≤ entries_at all (handle_for handles needle seqno hs)))
  of_handle (Ok true) x is = (handle_for handles needle seqno hs, (let k : ◌≡◌ {A = Result (Option HandleParts) Error} (Ok x) (Ok (option_map range_of (handle_for handles needle seqno hs))) = is in cc), λ all. refl, λ all. (omega arith, omega arith))
  of_handle (Ok false) x is = (None, (let k : ◌≡◌ {A = Result (Option HandleParts) Error} (Ok x) (Ok None) = is in cc), λ all. refl, λ all. (omega arith, omega arith))
  of_handle (Err e) x is = absurd (let k : ◌≡◌ {A = Result (Option HandleParts) Error} (Ok x) (Err e) = is in cc)

  -- what is read of it is what is read by what was kept
  pub found_read : (o : Option (List ℕ)) (x : Option HandleParts) (P R : Type 0) (r : Result (Option Entry) Error) → Ok x ≡ found_block c.hash64 filter hs needle seqno
      → IfSome o (λ all. (h : Option Handle) → x ≡ option_map range_of h → GivesOr P R (λ y. y) r (read_block c all h needle seqno)) → IfSome o (λ all. GivesOr P R (λ y. y) r (read_kept c all filter hs needle seqno))
  found_read None x P R r is given = tt
  found_read (Some all) x P R r is given =
      let k = of_handle (kept_says c.hash64 filter needle) x is in
      subst (GivesOr P R (λ y. y) r) (sym (k.2 all)) (given k.0 k.1)

  -- and what is examined
  pub found_counts : (o : Option (List ℕ)) (interval : ℕ) (x : Option HandleParts) (s t u : Counted) → Ok x ≡ found_block c.hash64 filter hs needle seqno → CountsBetween s t (0, 0) (find_cost interval (length hs))
      → IfSome o (λ all. (h : Option Handle) → x ≡ option_map range_of h → CountsBetween t u (0, 0) (digits (heads_at all h), entries_at all h)) → IfSome o (λ all. CountsBetween s u (0, 0) (most_by all hs interval needle seqno))
  found_counts None interval x s t u is first second = tt
  found_counts (Some all) interval x s t u is first second =
      let k = of_handle (kept_says c.hash64 filter needle) x is in
      let few = k.3 all in
      let read = second k.0 k.1 in
      record {
        heads_least = omega (arith, first.heads_least, read.heads_least);
        heads_most = omega (arith, first.heads_most, read.heads_most, few.0);
        entries_least = omega (arith, first.entries_least, read.entries_least);
        entries_most = omega (arith, first.entries_most, read.entries_most, few.1);
      }

  -- where no block was found nothing is read
  pub none_found : (o : Option (List ℕ)) (x : Option HandleParts) → Ok x ≡ found_block c.hash64 filter hs needle seqno → x ≡ None → IfSome o (λ all. read_kept c all filter hs needle seqno ≡ Ok None)
  none_found None x is none = tt
  none_found (Some all) x is none =
      let k = of_handle (kept_says c.hash64 filter needle) x is in
      k.2 all ∙ no_block k.0 (sym k.1 ∙ none)
    where
      no_block : (h : Option Handle) → option_map range_of h ≡ None → read_block c all h needle seqno ≡ Ok None
      no_block None e = refl
      no_block (Some h) e = cc

  -- and only the index was looked at
  pub none_counts : (o : Option (List ℕ)) (interval : ℕ) (s t : Counted) → CountsBetween s t (0, 0) (find_cost interval (length hs)) → IfSome o (λ all. CountsBetween s t (0, 0) (most_by all hs interval needle seqno))
  none_counts None interval s t first = tt
  none_counts (Some all) interval s t first = record {
    heads_least = omega (arith, first.heads_least);
    heads_most = omega (arith, first.heads_most);
    entries_least = omega (arith, first.entries_least);
    entries_most = omega (arith, first.entries_most);
  }
