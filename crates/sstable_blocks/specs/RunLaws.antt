-- Laws of runs: what fits a run fits each part of it.
use Rattle.std.proofs.Common.{◌≡◌, ℕ, ◌+◌, ◌-◌, ◌≤◌, List, [], ◌∷◌, ◌++◌, length, drop, refl, arith, sym, ◌∙◌, ap, subst, append_assoc, length-append, inl, inr}
use Rattle.std.proofs.Math.Nat.{min-le_left}
use Rattle.std.proofs.lemmas.List.{length-take, append-nil}
use Rattle.std.specs.List.{AllByRecursion}
use Rattle.sst_base.specs.BlockHandle.{HandleParts}
use Rattle.sst_base.specs.Entry.{Entry}
use Rattle.sst_base.specs.declared.error.Error.{Error}
use Rattle.sstable_blocks.specs.Opened.{payload_in}
use Rattle.sstable_blocks.specs.Run.{Form, block_payload, block_frame, block_frames, IsFramed, RunFits}
use Rattle.sstable_blocks.specs.Writing.{FrameFits, IsWriteRefusal}
use Rattle.sstable_blocks.specs.Blocks.{joined}

-- blocks and one more, joined
pub joined_push : {X : Type 0} (blocks : List (List X)) (b : List X) → joined (blocks ++ b ∷ []) ≡ joined blocks ++ b
joined_push [] b = append-nil b
joined_push (c ∷ cs) b = ap (λ xs. c ++ xs) (joined_push cs b) ∙ sym (append_assoc c (joined cs) b)

-- a payload has no more bytes than its frame
pub payload_fits : (bytes : List ℕ) (h : HandleParts) → length (payload_in bytes h) ≤ h.size
unfolding payload_in
payload_fits bytes h =
    let rest = drop (h.offset + 33) bytes in
    let least = min-le_left (h.size - 33) (length rest) in
    let size = length-take (h.size - 33) rest in
    omega (arith, least, size)

-- where what does not fit is a part of what then does not fit either, a refusal of the part is one of the whole
pub refusal_on : (P Q : Type 0) (e : Error) → IsWriteRefusal P e → (P → Q) → IsWriteRefusal Q e
refusal_on P Q e (inl io) f = inl io
refusal_on P Q e (inr (inl long)) f = inr (inl (long.0, f long.1))
refusal_on P Q e (inr (inr memory)) f = inr (inr memory)

pub all_at : {X : Type 0} (P : X → Type 0) (xs : List X) (x : X) (ys : List X) → AllByRecursion P (xs ++ x ∷ ys) → P x
all_at P [] x ys h = h.0
all_at P (y ∷ xs) x ys h = all_at P xs x ys h.1

module _ (f : Form) where
  block_frames-append : (xs ys : List (List Entry)) → block_frames f (xs ++ ys) ≡ block_frames f xs ++ block_frames f ys
  block_frames-append [] ys = refl
  block_frames-append (b ∷ bs) ys = ap (λ zs. block_frame f b ++ zs) (block_frames-append bs ys) ∙ sym (append_assoc (block_frame f b) (block_frames f bs) (block_frames f ys))

  -- each block of a run that fits, fits after those before it
  pub fits_one : (blocks : List (List Entry)) (b : List Entry) (bs : List (List Entry)) → RunFits f (blocks ++ b ∷ bs) → FrameFits f (length (block_frames f blocks)) b
  fits_one blocks b bs fits =
      let all = blocks ++ b ∷ bs in
      let end = fits.end in
      let m = ap length (block_frames-append blocks (b ∷ bs)) ∙ length-append (block_frames f blocks) (block_frames f (b ∷ bs)) in
      let n = length-append (block_frame f b) (block_frames f bs) in
      record { framed = all_at (λ block. IsFramed (block_payload f block)) blocks b bs fits.data_frames_fit; end = omega arith }

  -- so a run with a block that does not fit, does not fit
  pub fits_next : (blocks : List (List Entry)) (b : List Entry) (bs all : List (List Entry)) → blocks ++ b ∷ bs ≡ all → (FrameFits f (length (block_frames f blocks)) b → ⊥) → RunFits f all → ⊥
  fits_next blocks b bs all e h = λ (fits : RunFits f all). h (fits_one blocks b bs (subst (RunFits f) (sym e) fits))
