-- Reading the footer of a table.
use Rattle.std.proofs.Common.{◌≡◌, ℕ, ◌+◌, ◌-◌, inl, inr, List, length, take, drop, min, arith, sym, ◌∙◌, ap, length-drop, Option, Some, None, Result, Ok, Err, IfSome, IfErr, true, false, if◌then◌else◌}
use Rattle.std.proofs.Math.Seq.{take-length}
use Rattle.std.specs.Prelude.{nat_lt, nat_le}
use Rattle.std.proofs.lemmas.Bool.Decides.{nat_tests}
use Rattle.sst_base.specs.BlockHandle.{HandleParts}
use Rattle.sst_base.specs.FrameErrorLaws.{NotIo}
use Rattle.sst_base.specs.declared.error.Error.{Error}
use Rattle.sst_base.specs.declared.error.Error.TheVariants.{Io, Truncated, BadHandle}
use Rattle.sstable_blocks.specs.Footer.{footer_handles, parts_at, filter_of, table_handles}
use Rattle.sstable_blocks.specs.RunReading.{range_at}
use Rattle.sstable_blocks.specs.Sources.{FailsAs, GivesOr}
use Rattle.sstable_blocks.specs.declared.run.RunHandles.{RunHandles}

-- a footer is never refused as failed input
pub handles_not_io : (bytes : List ℕ) → NotIo (footer_handles bytes)
unfolding footer_handles
handles_not_io bytes = elim (nat_lt (length bytes) 24) as (λ b. NotIo {A = RunHandles} (if b then Err Truncated else Ok (record { index = parts_at bytes; filter = filter_of (parts_at (drop 12 bytes)) }))) [
  | true ↦ (λ e. cc)
  | false ↦ tt
]

-- a footer is refused as truncated alone
pub handles_truncated : (P : Error → Type 0) → P Truncated → (r : Result RunHandles Error) (bytes : List ℕ) → r ≡ footer_handles bytes → IfErr r P
unfolding footer_handles
handles_truncated P truncated r bytes e = rw e (elim (nat_lt (length bytes) 24) as (λ b. IfErr {T = RunHandles} (if b then Err Truncated else Ok (record { index = parts_at bytes; filter = filter_of (parts_at (drop 12 bytes)) })) P) [
  | true ↦ truncated
  | false ↦ tt
])

-- in the range of the footer are the last 24 bytes
pub footer_range : (all : List ℕ) (len size : ℕ) (h : HandleParts) → len ≡ length all → size ≡ min len 24 → h ≡ record { offset = len - size; size = size } → range_at all h ≡ Ok (drop (length all - 24) all)
unfolding range_at
footer_range all len size h is least at =
    let inside : nat_le ((len - size) + size) (length all) ≡ true = grind (arith, nat_tests) in
    let start : len - size ≡ length all - 24 = omega (arith, is, least) in
    let rest : length (drop (length all - 24) all) ≡ size = omega (arith, length-drop (length all - 24) all, is, least) in
    rw at (rw inside (ap (λ x. Ok x) (ap (λ n. take size (drop n all)) start ∙ ap (λ n. take n (drop (length all - 24) all)) (sym rest) ∙ take-length (drop (length all - 24) all))))

pub gives_same : {X : Type 0} (P R : Type 0) (r read : Result X Error) → read ≡ r → GivesOr P R (λ x. x) r read
gives_same P R (Ok x) read e = e
gives_same P R (Err d) read e = λ other. inr e

pub footer_read : (all frame bytes : List ℕ) (h : HandleParts) (r : Result RunHandles Error) (P R : Type 0) → range_at all h ≡ Ok (drop (length all - 24) all) → range_at all h ≡ Ok frame → bytes ≡ frame → r ≡ footer_handles bytes
    → GivesOr P R (λ x. x) r (table_handles all)
unfolding table_handles
footer_read all frame bytes h r P R whole found is e =
    let same : ◌≡◌ {A = Result (List ℕ) Error} (Ok (drop (length all - 24) all)) (Ok frame) = sym whole ∙ found in
    let last : drop (length all - 24) all ≡ frame = cc in
    gives_same P R r (footer_handles (drop (length all - 24) all)) (ap footer_handles (last ∙ sym is) ∙ sym e)

pub footer_fails : (all : List ℕ) (h : HandleParts) (error : Error) (P R : Type 0) (read : Result RunHandles Error) → range_at all h ≡ Ok (drop (length all - 24) all) → FailsAs P R (range_at all h) error → FailsAs (P × (R → ⊥)) ⊥ read error
footer_fails all h error P R read whole fails = λ other. elim (fails other) [
  | inl failed ↦ (
      let inside : range_at all h ≡ Err BadHandle → ⊥ = λ bad. (let wrong : ◌≡◌ {A = Result (List ℕ) Error} (Ok (drop (length all - 24) all)) (Err BadHandle) = sym whole ∙ bad in cc) in
      elim failed.1 [
        | inl io ↦ inl ((failed.0, λ r. inside (io.1 r)), inl (io.0, λ no. absurd no))
        | inr past ↦ absurd (inside past.1)
      ])
  | inr same ↦ absurd (let wrong : ◌≡◌ {A = Result (List ℕ) Error} (Ok (drop (length all - 24) all)) (Err error) = sym whole ∙ same in cc)
]

-- what is no failed input says nothing of a failure
pub failed_not_io : {X : Type 0} (r : Result X Error) (P : Type 0) → NotIo r → IfErr r (λ e. e ≡ Io → P)
failed_not_io (Ok x) P h = tt
failed_not_io (Err e) P h = λ io. absurd (h io)

-- the same where the bytes are known
pub footer_read_on : (o : Option (List ℕ)) (len size : ℕ) (frame bytes : List ℕ) (h : HandleParts) (r : Result RunHandles Error) (P R : Type 0) → size ≡ min len 24 → h ≡ record { offset = len - size; size = size }
    → IfSome o (λ all. range_at all h ≡ Ok frame) → bytes ≡ frame → r ≡ footer_handles bytes → IfSome o (λ all. len ≡ length all → GivesOr P R (λ x. x) r (table_handles all))
footer_read_on None len size frame bytes h r P R least at found is e = tt
footer_read_on (Some all) len size frame bytes h r P R least at found is e = λ whole. footer_read all frame bytes h r P R (footer_range all len size h whole least at) found is e

pub footer_fails_on : (o : Option (List ℕ)) (len size : ℕ) (h : HandleParts) (error : Error) (P R : Type 0) → size ≡ min len 24 → h ≡ record { offset = len - size; size = size }
    → IfSome o (λ all. FailsAs P R (range_at all h) error) → IfSome o (λ all. len ≡ length all → FailsAs (P × (R → ⊥)) ⊥ (table_handles all) error)
footer_fails_on None len size h error P R least at fails = tt
footer_fails_on (Some all) len size h error P R least at fails = λ whole. footer_fails all h error P R (table_handles all) (footer_range all len size h whole least at) fails
