-- A table is opened in stages: what is read first, then by that the rest.
use Rattle.std.proofs.Common.{◌≡◌, ◌≢◌, ℕ, inl, inr, ◌<◌, ◌≤◌, List, Option, Some, None, IfSome, IfErr, Result, Ok, Err, arith, refl, sym, ◌∙◌, ap, subst, Bool, true, false, if◌then◌else◌, slice_index, nat_eq}
use Rattle.std.specs.Prelude.{MatchResult}
use Rattle.sstable_blocks.specs.Prelude.{HandleParts, Handle, header_at}
use Rattle.sstable_blocks.specs.Results.{◌>>=◌, Error, BadHandle, InvalidTag, Io}
use Rattle.sst_parts.specs.AnyTables.{AnyKept, OpensAs, header_place, is_parted_at, is_top, kept_in, parted, parted_by, plain, plain_by}
use Rattle.sst_parts.specs.Parts.{tops_at}
use Rattle.sst_parts.specs.declared.any_table.AnyTable.{AnyTable}
use Rattle.sstable_blocks.specs.FrameCounts.{open_frames}
use Rattle.sstable_blocks.specs.RunReading.{Hashes, range_at}
use Rattle.sstable_blocks.specs.SourceLaws.{source_fails}
use Rattle.sstable_blocks.specs.Sources.{AsksFor, FailsAs, GivesOr}
use Rattle.sstable_blocks.specs.Tables.{kept_of}
use Rattle.sstable_blocks.specs.declared.run.RunHandles.{RunHandles}
use Rattle.sstable_blocks.specs.declared.run.table.OpenError.{OpenError}

-- the kind of a table, by a header that was read
pub told : (c : Hashes) (h : HandleParts) (header : List ℕ) (o : Option (List ℕ)) (b : Bool) → IfSome o (λ all. range_at all (header_place h) ≡ Ok header) → b ≡ is_top (header_at c.hash128 header)
    → IfSome o (λ all. is_parted_at c all h ≡ Ok b)
told c h header None b found is = tt
told c h header (Some all) b found is = ap (λ x. x >>= (λ (bytes : List ℕ). Ok (is_top (header_at c.hash128 bytes)))) found ∙ ap (λ x. Ok x) (sym is)

-- after a stage that succeeds a table is opened as by the next ones
module _ {H S Z : Type 0} (bytes : S → Option (List ℕ)) (failures : S → ℕ) (is_reliable : S → Type 0) (source mid : S) (z : Z) (read : List ℕ → Result Z Error) (next : List ℕ → Z → Result AnyKept Error)
    (grow : failures source ≤ failures mid) (kept : is_reliable source → is_reliable mid)
  where
    abbrev Opens : (List ℕ → Result AnyKept Error) → S → List ℕ → Result (AnyTable H S) (OpenError S) → Type 0
    Opens by s all result = MatchResult result (λ t. by all ≡ Ok (kept_in t)) (λ e. FailsAs (failures s < failures e.source) (is_reliable s) (by all) e.error)

    one : (all : List ℕ) (result : Result (AnyTable H S) (OpenError S)) → read all ≡ Ok z → Opens (λ b. next b z) mid all result → Opens (λ b. read b >>= next b) source all result
    one all (Ok t) found h = ap (λ r. r >>= next all) found ∙ h
    one all (Err e) found h = λ other. elim (h other) [
      | inl failed ↦ inl (source_fails (λ less. omega (arith, grow, less)) kept (λ bad. ap (λ r. r >>= next all) found ∙ bad) failed)
      | inr is ↦ inr (ap (λ r. r >>= next all) found ∙ is)
    ]

    each : (o o' : Option (List ℕ)) (result : Result (AnyTable H S) (OpenError S)) → o' ≡ o → IfSome o (λ all. read all ≡ Ok z) → IfSome o' (λ all. Opens (λ b. next b z) mid all result) → IfSome o (λ all. Opens (λ b. read b >>= next b) source all result)
    each None o' result same found h = tt
    each (Some all) o' result same found h = one all result found (subst (λ p. IfSome p (λ b. Opens (λ b'. next b' z) mid b result)) same h)

    pub opens_on : (result : Result (AnyTable H S) (OpenError S)) → bytes mid ≡ bytes source → IfSome (bytes source) (λ all. read all ≡ Ok z) → OpensAs bytes failures is_reliable mid result (λ all. next all z)
        → OpensAs bytes failures is_reliable source result (λ all. read all >>= next all)
    opens_on result same found h = each (bytes source) (bytes mid) result same found h
