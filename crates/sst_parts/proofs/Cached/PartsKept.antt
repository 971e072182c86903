-- A read of a parted table, of which a part that is kept is not opened again.
use Rattle.std.proofs.Common.{◌≡◌, ℕ, ◌≤◌, Bool, true, false, List, arith, sym, subst, Option, Some, None, IfSome, IsSomeAnd, Result, Ok, Err}
use Rattle.std.specs.List.{slice_get}
use Rattle.sstable_blocks.specs.Prelude.{Counted, CountsBetween, Entry, HandleParts}
use Rattle.sstable_blocks.specs.Results.{Error}
use Rattle.sst_parts.specs.CachedParts.{IsOpenIn}
use Rattle.sst_parts.specs.PartReaders.{read_open}
use Rattle.sst_parts.specs.Parts.{most_by_places, places_in}
use Rattle.sstable_blocks.specs.CheckedLaws.{gives_or_later}
use Rattle.sstable_blocks.specs.ReadCosts.{CountsRead}
use Rattle.sstable_blocks.specs.RunPlaces.{bytes_at, part_in}
use Rattle.sstable_blocks.specs.RunReading.{Hashes}
use Rattle.sstable_blocks.specs.Sources.{FailsAs, GivesOr}
use Rattle.sstable_blocks.specs.Tables.{KeptParts, LooksBy}
use Rattle.sstable_blocks.specs.declared.run.RunHandles.{RunHandles}
use Rattle.sstable_blocks.specs.declared.run.place.RunPlace.TheVariants.{Part}

-- what a read looks at is only added to
pub looks_grow : (r : Result Bool Error) (s t : Counted) → LooksBy r s t → s.heads ≤ t.heads
looks_grow (Ok true) s t looks = omega (arith, looks)
looks_grow (Ok false) s t looks = omega (arith, looks.heads)
looks_grow (Err e) s t looks = omega (arith, looks.heads)

module _ (c : Hashes) (g : HandleParts) (needle : List ℕ) (seqno : ℕ) where
  -- what a read of an open part examines, by the footer of the part
  pub part_counts : (o : Option (List ℕ)) (h : RunHandles) (s t : Counted) → IfSome o (λ all. places_in all g ≡ Ok h) → IfSome (bytes_at (Part g) o) (λ all. CountsRead all h needle seqno s t)
      → IfSome o (λ all. CountsBetween s t (0, 0) (most_by_places (part_in all g) (places_in all g) needle seqno))
  part_counts None h s t at counts = tt
  part_counts (Some all) h s t at counts = subst (λ x. CountsBetween s t (0, 0) (most_by_places (part_in all g) x needle seqno)) (sym at) counts

  -- of one that is not opened
  pub no_counts : (o : Option (List ℕ)) (s : Counted) → IfSome o (λ all. CountsBetween s s (0, 0) (most_by_places (part_in all g) (places_in all g) needle seqno))
  no_counts None s = tt
  no_counts (Some all) s = record { heads_least = omega arith; heads_most = omega arith; entries_least = omega arith; entries_most = omega arith }

  -- the error of an opening is that of the read
  pub of_needle : (o : Option (List ℕ)) (P R : Type 0) (e : Error) → IfSome o (λ all. (needle : List ℕ) (seqno : ℕ) → FailsAs P R (read_open c all g needle seqno) e) → IfSome o (λ all. FailsAs P R (read_open c all g needle seqno) e)
  of_needle None P R e fails = tt
  of_needle (Some all) P R e fails = fails needle seqno

  -- a read after the opening
  pub read_later : (before after : Option (List ℕ)) (P Q R T : Type 0) (r : Result (Option Entry) Error) → after ≡ before → (P → Q) → (T → R)
      → IfSome after (λ all. GivesOr P R (λ y. y) r (read_open c all g needle seqno)) → IfSome before (λ all. GivesOr Q T (λ y. y) r (read_open c all g needle seqno))
  read_later before after P Q R T r same grow kept given = later before (subst (λ o. IfSome o (λ all. GivesOr P R (λ y. y) r (read_open c all g needle seqno))) same given) where
    later : (o : Option (List ℕ)) → IfSome o (λ all. GivesOr P R (λ y. y) r (read_open c all g needle seqno)) → IfSome o (λ all. GivesOr Q T (λ y. y) r (read_open c all g needle seqno))
    later None given = tt
    later (Some all) given = gives_or_later P Q R T (λ y. y) r (read_open c all g needle seqno) grow kept given

-- what is kept of a place of a table is what is in it
pub kept_open : (c : Hashes) (tables : List (Option (List ℕ))) (n : ℕ) (o : Option (List ℕ)) (g : HandleParts) (r : KeptParts) → slice_get tables n ≡ Some o → IsSomeAnd (slice_get tables n) (λ x. IsOpenIn c x g r) → IsOpenIn c o g r
kept_open c tables n o g r at is = subst (λ x. IsSomeAnd x (λ y. IsOpenIn c y g r)) at is
