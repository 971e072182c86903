-- Failures of sources, and what follows of results.
use Rattle.std.proofs.Common.{inl, inr, Result, Ok, Err, IfOk}
use Rattle.sst_base.specs.declared.error.Error.{Error}
use Rattle.sstable_blocks.specs.Sources.{IsSourceFailure}

-- a failure of a source in part of a call is one in the whole of it
pub source_fails : {P Q R T A B : Type 0} {e : Error} → (P → Q) → (T → R) → (A → B) → IsSourceFailure P R A e → IsSourceFailure Q T B e
source_fails grew kept on f = (
  grew f.0,
  elim f.1 [
    | inl io ↦ inl (io.0, λ t. on (io.1 (kept t)))
    | inr past ↦ inr (past.0, on past.1)
  ],
)

-- a reliable source fails only at a range that isn't inside
pub fails_outside : {P R A : Type 0} {e : Error} → IsSourceFailure P R A e → R → A
fails_outside f r = elim f.1 [
  | inl io ↦ io.1 r
  | inr past ↦ past.1
]

-- what holds of a result that is no error implies more
pub if_ok_map : {T : Type 0} (r : Result T Error) (P Q : T → Type 0) → ((x : T) → P x → Q x) → IfOk r P → IfOk r Q
if_ok_map (Ok x) P Q f h = f x h
if_ok_map (Err e) P Q f h = tt
